use Rattle.chi_grammar.proofs.Exits.{no_memory}
use Rattle.chi_tree.specs.Rules.{grammar}
use Rattle.chi_tree.specs.Tables.{table}
use Rattle.chi_parse_look.proofs.join.boxed.Goals as goal

pub returns-in_err-boxed-in-Ok : goal.returns-in_err-boxed-in-Ok
returns-in_err-boxed-in-Ok g c tokens room view rule at read = no_memory grammar table tokens view room rule at _ c.from_residual.ensures.1
