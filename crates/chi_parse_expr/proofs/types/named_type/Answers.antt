use Rattle.chi_grammar.specs.Rules.{part}
use Rattle.chi_grammar.specs.RuleRuns as runs
use Rattle.chi_grammar.proofs.Exits.{read, failed}
use Rattle.chi_tree.specs.declared.type_tree.TypeTree.TheVariants as type
use Rattle.chi_tree.specs.Parts as s
use Rattle.chi_tree.specs.Rules.{grammar}
use Rattle.chi_tree.specs.Tables.{table}
use Rattle.chi_tree.specs.View.{type_of}
use Rattle.chi_parse_expr.proofs.types.named_type.Goals as goal

pub returns-in_err-name : goal.returns-in_err-name
returns-in_err-name c room =
    failed grammar table _ type_of _ (part s.NamedType) _ _ _ c.from_residual.ensures.1
    (runs.part_fails (c.in_err-name.ensures room))

pub returns : goal.returns
returns c room =
    let name = c.in_ok-name.ensures room in
    read grammar table _ type_of c.requires.inside
    (runs.part name.runs)
    (λ i. type.Defined (name.shows i))
