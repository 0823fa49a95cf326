use Rattle.std.proofs.Common.{◌∙◌}
use Rattle.chi_grammar.specs.Rules.{leaf, part}
use Rattle.chi_grammar.specs.RuleRuns as runs
use Rattle.chi_grammar.proofs.Exits.{read, run_word, run_no_word, failed}
use Rattle.chi_tree.specs.declared.definition.Definition.TheVariants as definition
use Rattle.chi_tree.specs.Parts as s
use Rattle.chi_tree.specs.Rules.{grammar}
use Rattle.chi_tree.specs.Tables.{table}
use Rattle.chi_tree.specs.Statements.{definition_of}
use Rattle.chi_tree.specs.View.{name_in}
use Rattle.chi_parse.specs.Rests.{callable_of}
use Rattle.chi_parse.proofs.Shapes.{function_shows}
use Rattle.chi_parse.proofs.definitions.function.Goals as goal

pub callable-requires-clause-inside : goal.callable-requires-clause-inside
callable-requires-clause-inside c = (c.in_ok-named.ensures _ _ _ _ _ (c.take_name.ensures c.args.room)).inside

pub returns-in_err-word : goal.returns-in_err-word
returns-in_err-word c = failed grammar table _ definition_of _ (part s.FuncDef) _ _ _ c.from_residual.ensures.1
    (runs.part_fails (runs.first_fails (run_no_word grammar table _ c.in_err-word.ensures)))

pub returns-in_err-ty : goal.returns-in_err-ty
returns-in_err-ty c = failed grammar table _ definition_of _ (part s.FuncDef) _ _ _ c.from_residual-in_err-ty.ensures.1
    (runs.part_fails (runs.next_fails (run_word grammar table _ c.in_ok-word.ensures) (runs.first_fails c.in_err-ty.ensures)))

pub returns-in_err-named : goal.returns-in_err-named
returns-in_err-named c = failed grammar table _ definition_of _ (part s.FuncDef) _ _ _ c.from_residual-in_err-named.ensures.1
    (runs.part_fails (runs.next_fails (run_word grammar table _ c.in_ok-word.ensures) (runs.next_fails c.in_ok-ty.ensures.runs (runs.first_fails (c.in_err-named.ensures _ _ _ _ _ (c.take_name.ensures c.args.room))))))

pub returns-in_err-ty-2 : goal.returns-in_err-ty-2
returns-in_err-ty-2 c = failed grammar table _ definition_of _ (part s.FuncDef) _ _ _ c.from_residual-in_err-ty-2.ensures.1
    (runs.part_fails (runs.next_fails (run_word grammar table _ c.in_ok-word.ensures) (runs.next_fails c.in_ok-ty.ensures.runs (runs.next_fails (c.in_ok-named.ensures _ _ _ _ _ (c.take_name.ensures c.args.room)).runs (c.in_err-ty-2.ensures _ _ _ _ _ c.callable.ensures)))))

pub returns : goal.returns
returns c =
    let n = c.in_ok-named.ensures _ _ _ _ _ (c.take_name.ensures c.args.room) in
    let q = c.in_ok-ty-2.ensures _ _ _ _ _ c.callable.ensures in
    read grammar table _ (definition_of) c.requires.inside
    (runs.part (runs.both (run_word grammar table _ c.in_ok-word.ensures) (runs.both c.in_ok-ty.ensures.runs (runs.both n.runs q.runs))))
    (function_shows q.runs (leaf c.in_ok-word.word.now) c.in_ok-ty.ensures.tree n.tree
    ∙ (λ i. definition.Func c.in_ok-word.word.now.place (c.in_ok-ty.ensures.shows i) (name_in n.tree) (callable_of q.tree).0 (callable_of q.tree).1)
    ∙ (λ i. definition.Func c.in_ok-word.word.now.place (n.shows i).0 (n.shows i).1 (callable_of q.tree).0 (callable_of q.tree).1)
    ∙ (λ i. definition.Func c.in_ok-word.word.now.place (q.shows i).0.0 (q.shows i).0.1 (q.shows i).1.0 (q.shows i).1.1))
