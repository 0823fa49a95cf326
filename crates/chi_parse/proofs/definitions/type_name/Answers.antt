use Rattle.chi_grammar.specs.Rules.{part}
use Rattle.chi_grammar.specs.RuleRuns as runs
use Rattle.chi_grammar.proofs.Exits.{read, run_word, run_no_word, failed}
use Rattle.chi_tree.specs.declared.definition.Definition.TheVariants as definition
use Rattle.chi_tree.specs.Parts as s
use Rattle.chi_tree.specs.Rules.{grammar}
use Rattle.chi_tree.specs.Tables.{table}
use Rattle.chi_tree.specs.Statements.{definition_of}
use Rattle.chi_parse.proofs.definitions.type_name.Goals as goal

pub returns-in_err-word : goal.returns-in_err-word
returns-in_err-word c = failed grammar table _ definition_of _ (part s.TypeDef) _ _ _ c.from_residual.ensures.1
    (runs.part_fails (runs.first_fails (run_no_word grammar table _ c.in_err-word.ensures)))

pub returns-in_err-name : goal.returns-in_err-name
returns-in_err-name c = failed grammar table _ definition_of _ (part s.TypeDef) _ _ _ c.from_residual-in_err-name.ensures.1
    (runs.part_fails (runs.next_fails (run_word grammar table _ c.in_ok-word.ensures) (runs.first_fails (c.in_err-name.ensures c.args.room))))

pub returns-in_err-from : goal.returns-in_err-from
returns-in_err-from c = failed grammar table _ definition_of _ (part s.TypeDef) _ _ _ c.from_residual-in_err-from.ensures.1
    (runs.part_fails (runs.next_fails (run_word grammar table _ c.in_ok-word.ensures) (runs.next_fails (c.in_ok-name.ensures c.args.room).runs (runs.first_fails (run_no_word grammar table _ c.in_err-from.ensures)))))

pub returns-in_err-ty : goal.returns-in_err-ty
returns-in_err-ty c = failed grammar table _ definition_of _ (part s.TypeDef) _ _ _ c.from_residual-in_err-ty.ensures.1
    (runs.part_fails (runs.next_fails (run_word grammar table _ c.in_ok-word.ensures) (runs.next_fails (c.in_ok-name.ensures c.args.room).runs (runs.next_fails (run_word grammar table _ c.in_ok-from.ensures) c.in_err-ty.ensures))))

pub returns : goal.returns
returns c = read grammar table _ (definition_of) c.requires.inside
    (runs.part (runs.both (run_word grammar table _ c.in_ok-word.ensures) (runs.both (c.in_ok-name.ensures c.args.room).runs (runs.both (run_word grammar table _ c.in_ok-from.ensures) c.in_ok-ty.ensures.runs))))
    (λ i. definition.TypeWord c.in_ok-word.word.now.place ((c.in_ok-name.ensures c.args.room).shows i) (c.in_ok-ty.ensures.shows i))
