-- What is shown of the rest of a branch. Private to proofs.
use Rattle.std.specs.Prelude.{List, []}
use Rattle.chi_grammar.specs.Rules.{pair}
use Rattle.chi_tree.specs.declared.statement.Step.{Step}
use Rattle.chi_tree.specs.Statements.{inner_of}
use Rattle.chi_tree.specs.View.{Built}

-- the block after a `:`
abbrev pub opened_of : Built → List Step
opened_of (pair c b) = inner_of b
opened_of _ = []
