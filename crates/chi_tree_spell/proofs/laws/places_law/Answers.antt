use Rattle.chi_tree_spell.proofs.ProgramSpelling.{type_places, expr_places, block_places, program_places, parsed_places}
use Rattle.chi_tree_spell.proofs.laws.places_law.Goals as goal

pub returns : goal.returns
returns c = record { types = type_places; expressions = expr_places; blocks = block_places; programs = program_places; parsed = parsed_places }
