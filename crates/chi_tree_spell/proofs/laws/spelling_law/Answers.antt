use Rattle.chi_tree_spell.proofs.ProgramSpelling.{type_spelling, expr_spelling, block_spelling, program_spelling}
use Rattle.chi_tree_spell.proofs.laws.spelling_law.Goals as goal

pub returns : goal.returns
returns c = record { types = type_spelling; expressions = expr_spelling; blocks = block_spelling; programs = program_spelling }
