use Rattle.std.proofs.Common.{◌∙◌}
use Rattle.chi_grammar.specs.Rules.{part}
use Rattle.chi_grammar.specs.RuleRuns as runs
use Rattle.chi_grammar.proofs.Exits.{read, failed}
use Rattle.chi_tree.specs.declared.statement.Statement.TheVariants as statement
use Rattle.chi_tree.specs.Parts as s
use Rattle.chi_tree.specs.Rules.{grammar}
use Rattle.chi_tree.specs.Tables.{table}
use Rattle.chi_tree.specs.Statements.{statement_of, variables_of}
use Rattle.chi_parse.proofs.simple.declaration.Goals as goal

pub returns-in_err-ty : goal.returns-in_err-ty
returns-in_err-ty c = failed grammar table _ statement_of _ (part s.Declaration) _ _ _ c.from_residual.ensures.1
    (runs.part_fails (runs.first_fails c.in_err-ty.ensures))

pub returns-in_err-ty-2 : goal.returns-in_err-ty-2
returns-in_err-ty-2 c = failed grammar table _ statement_of _ (part s.Declaration) _ _ _ c.from_residual-in_err-ty-2.ensures.1
    (runs.part_fails (runs.next_fails c.in_ok-ty.ensures.runs (c.in_err-ty-2.ensures _ _ _ _ _ c.variables.ensures)))

pub returns : goal.returns
returns c =
    let q = c.in_ok-ty-2.ensures _ _ _ _ _ c.variables.ensures in
    read grammar table _ (statement_of) c.requires.inside
    (runs.part (runs.both c.in_ok-ty.ensures.runs q.runs))
    ((λ i. statement.Declare (c.in_ok-ty.ensures.shows i) (variables_of q.tree)) ∙ (λ i. statement.Declare (q.shows i).0 (q.shows i).1))
