use Rattle.std.proofs.Common.{◌∙◌}
use Rattle.chi_grammar.specs.Rules.{leaf, part}
use Rattle.chi_grammar.specs.RuleRuns as runs
use Rattle.chi_grammar.proofs.Exits.{read, run_word, run_no_word, failed}
use Rattle.chi_tree.specs.declared.definition.Definition.TheVariants as definition
use Rattle.chi_tree.specs.Parts as s
use Rattle.chi_tree.specs.Rules.{grammar}
use Rattle.chi_tree.specs.Tables.{table}
use Rattle.chi_tree.specs.Statements.{definition_of}
use Rattle.chi_parse.proofs.Shapes.{process_shows}
use Rattle.chi_parse.proofs.definitions.process.Goals as goal

pub returns-in_err-word : goal.returns-in_err-word
returns-in_err-word c = failed grammar table _ definition_of _ (part s.ProcDef) _ _ _ c.from_residual.ensures.1
    (runs.part_fails (runs.first_fails (run_no_word grammar table _ c.in_err-word.ensures)))

pub returns-in_err-ty : goal.returns-in_err-ty
returns-in_err-ty c = failed grammar table _ definition_of _ (part s.ProcDef) _ _ _ c.from_residual-in_err-ty.ensures.1
    (runs.part_fails (runs.next_fails (run_word grammar table _ c.in_ok-word.ensures) c.in_err-ty.ensures))

pub returns : goal.returns
returns c =
    let q = c.in_ok-ty.ensures in
    read grammar table _ definition_of c.requires.inside
    (runs.part (runs.both (run_word grammar table _ c.in_ok-word.ensures) q.runs))
    (process_shows q.runs (leaf c.in_ok-word.word.now)
    ∙ (λ i. definition.Proc c.in_ok-word.word.now.place (q.shows i).0.0 (q.shows i).0.1 (q.shows i).1.0 (q.shows i).1.1))
