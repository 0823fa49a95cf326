use Rattle.chi_token.specs.declared.sign.Sign.TheVariants as sign_of
use Rattle.chi_grammar.specs.declared.room.Nesting.TheVariants.{Expression}
use Rattle.chi_grammar.specs.Rules.{part, ◌▸◌}
use Rattle.chi_grammar.specs.RuleRuns as runs
use Rattle.chi_grammar.proofs.Exits.{read, run_word, run_no_word, run_refused, failed}
use Rattle.chi_tree.specs.declared.definition.Definition.TheVariants as definition
use Rattle.chi_tree.specs.Parts as s
use Rattle.chi_tree.specs.Rules.{grammar, sign}
use Rattle.chi_tree.specs.Tables.{table}
use Rattle.chi_tree.specs.Statements.{definition_of}
use Rattle.chi_parse.proofs.definitions.experiment.Goals as goal

pub returns-in_err-word : goal.returns-in_err-word
returns-in_err-word c = failed grammar table _ definition_of _ (part s.XperDef) _ _ _ c.from_residual.ensures.1
    (runs.part_fails (runs.first_fails (run_no_word grammar table _ c.in_err-word.ensures)))

pub returns-in_err-name : goal.returns-in_err-name
returns-in_err-name c = failed grammar table _ definition_of _ (part s.XperDef) _ _ _ c.from_residual-in_err-name.ensures.1
    (runs.part_fails (runs.next_fails (run_word grammar table _ c.in_ok-word.ensures) (runs.first_fails (c.in_err-name.ensures c.args.room))))

pub returns-in_err-_inner : goal.returns-in_err-_inner
returns-in_err-_inner c = failed grammar table _ definition_of _ (part s.XperDef) _ _ _ c.from_residual-in_err-_inner.ensures.1
    (runs.part_fails (runs.next_fails (run_word grammar table _ c.in_ok-word.ensures) (runs.next_fails (c.in_ok-name.ensures c.args.room).runs (runs.first_fails (run_refused grammar table _ _ Expression (sign sign_of.LeftParen ▸ sign sign_of.RightParen) _ _ c.in_err-_inner.ensures.0 c.in_err-_inner.ensures.1)))))

pub returns-in_err-next : goal.returns-in_err-next
returns-in_err-next c = failed grammar table _ definition_of _ (part s.XperDef) _ _ _ c.from_residual-in_err-next.ensures.1
    (runs.part_fails (runs.next_fails (run_word grammar table _ c.in_ok-word.ensures) (runs.next_fails (c.in_ok-name.ensures c.args.room).runs (runs.first_fails (runs.deeper c.in_ok-_inner.ensures (runs.first_fails (run_no_word grammar table _ c.in_err-next.ensures)))))))

pub returns-in_err-last : goal.returns-in_err-last
returns-in_err-last c = failed grammar table _ definition_of _ (part s.XperDef) _ _ _ c.from_residual-in_err-last.ensures.1
    (runs.part_fails (runs.next_fails (run_word grammar table _ c.in_ok-word.ensures) (runs.next_fails (c.in_ok-name.ensures c.args.room).runs (runs.first_fails (runs.deeper c.in_ok-_inner.ensures (runs.next_fails (run_word grammar table _ c.in_ok-next.ensures) (run_no_word grammar table _ c.in_err-last.ensures)))))))

pub returns-in_err-block : goal.returns-in_err-block
returns-in_err-block c = failed grammar table _ definition_of _ (part s.XperDef) _ _ _ c.from_residual-in_err-block.ensures.1
    (runs.part_fails (runs.next_fails (run_word grammar table _ c.in_ok-word.ensures) (runs.next_fails (c.in_ok-name.ensures c.args.room).runs (runs.next_fails (runs.deeper c.in_ok-_inner.ensures (runs.both (run_word grammar table _ c.in_ok-next.ensures) (run_word grammar table _ c.in_ok-last.ensures))) c.in_err-block.ensures))))

pub returns : goal.returns
returns c = read grammar table _ (definition_of) c.requires.inside
    (runs.part (runs.both (run_word grammar table _ c.in_ok-word.ensures) (runs.both (c.in_ok-name.ensures c.args.room).runs (runs.both (runs.deeper c.in_ok-_inner.ensures (runs.both (run_word grammar table _ c.in_ok-next.ensures) (run_word grammar table _ c.in_ok-last.ensures))) c.in_ok-block.ensures.runs))))
    (λ i. definition.Xper c.in_ok-word.word.now.place ((c.in_ok-name.ensures c.args.room).shows i) (c.in_ok-block.ensures.shows i))
