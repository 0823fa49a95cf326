use Rattle.chi_grammar.specs.declared.room.Nesting.TheVariants.{Expression}
use Rattle.chi_grammar.specs.Rules.{part, ◌▸◌}
use Rattle.chi_grammar.specs.RuleRuns as runs
use Rattle.chi_grammar.proofs.Exits.{read, run_word, run_no_word, run_refused, failed}
use Rattle.chi_token.specs.declared.sign.Sign.TheVariants.{Assign, LeftBrace, RightBrace}
use Rattle.chi_tree.specs.Parts as s
use Rattle.chi_tree.specs.Rules.{grammar, nested, sign}
use Rattle.chi_tree.specs.Tables.{table}
use Rattle.chi_parse.specs.Rests.{values_of}
use Rattle.chi_parse.proofs.definitions.values.Goals as goal

pub returns-in_err-from : goal.returns-in_err-from
returns-in_err-from c = failed grammar table _ values_of _ (sign Assign ▸ nested (sign LeftBrace ▸ part s.Names ▸ sign RightBrace)) _ _ _ c.from_residual.ensures.1
    (runs.first_fails (run_no_word grammar table _ c.in_err-from.ensures))

pub returns-in_err-inner : goal.returns-in_err-inner
returns-in_err-inner c = failed grammar table _ values_of _ (sign Assign ▸ nested (sign LeftBrace ▸ part s.Names ▸ sign RightBrace)) _ _ _ c.from_residual-in_err-inner.ensures.1
    (runs.next_fails (run_word grammar table _ c.in_ok-from.ensures) (run_refused grammar table _ _ Expression (sign LeftBrace ▸ part s.Names ▸ sign RightBrace) _ _ c.in_err-inner.ensures.0 c.in_err-inner.ensures.1))

pub returns-in_err-next : goal.returns-in_err-next
returns-in_err-next c = failed grammar table _ values_of _ (sign Assign ▸ nested (sign LeftBrace ▸ part s.Names ▸ sign RightBrace)) _ _ _ c.from_residual-in_err-next.ensures.1
    (runs.next_fails (run_word grammar table _ c.in_ok-from.ensures) (runs.deeper c.in_ok-inner.ensures (runs.first_fails (run_no_word grammar table _ c.in_err-next.ensures))))

pub returns-in_err-names : goal.returns-in_err-names
returns-in_err-names c = failed grammar table _ values_of _ (sign Assign ▸ nested (sign LeftBrace ▸ part s.Names ▸ sign RightBrace)) _ _ _ c.from_residual-in_err-names.ensures.1
    (runs.next_fails (run_word grammar table _ c.in_ok-from.ensures) (runs.deeper c.in_ok-inner.ensures (runs.next_fails (run_word grammar table _ c.in_ok-next.ensures) (runs.first_fails (c.in_err-names.ensures c.in_ok-inner.inner)))))

pub returns-in_err-end : goal.returns-in_err-end
returns-in_err-end c = failed grammar table _ values_of _ (sign Assign ▸ nested (sign LeftBrace ▸ part s.Names ▸ sign RightBrace)) _ _ _ c.from_residual-in_err-end.ensures.1
    (runs.next_fails (run_word grammar table _ c.in_ok-from.ensures) (runs.deeper c.in_ok-inner.ensures (runs.next_fails (run_word grammar table _ c.in_ok-next.ensures) (runs.next_fails (c.in_ok-names.ensures c.in_ok-inner.inner).runs (run_no_word grammar table _ c.in_err-end.ensures)))))

pub returns : goal.returns
returns c = read grammar table _ values_of c.requires.inside
    (runs.both (run_word grammar table _ c.in_ok-from.ensures) (runs.deeper c.in_ok-inner.ensures (runs.both (run_word grammar table _ c.in_ok-next.ensures) (runs.both (c.in_ok-names.ensures c.in_ok-inner.inner).runs (run_word grammar table _ c.in_ok-end.ensures)))))
    (λ i. (c.in_ok-names.ensures c.in_ok-inner.inner).shows i)
