use Rattle.chi_token.specs.declared.sign.Sign.TheVariants as sign_of
use Rattle.chi_grammar.specs.declared.room.Nesting.TheVariants.{Expression}
use Rattle.chi_grammar.specs.Rules.{part, maybe, ◌▸◌}
use Rattle.chi_grammar.specs.RuleRuns as runs
use Rattle.chi_grammar.proofs.Exits.{read, run_word, run_no_word, run_refused, failed}
use Rattle.chi_tree.specs.Parts as s
use Rattle.chi_tree.specs.Rules.{grammar, sign}
use Rattle.chi_tree.specs.Tables.{table}
use Rattle.chi_tree.specs.Statements.{parameters_of}
use Rattle.chi_parse.proofs.formal.parameters.Goals as goal

pub returns-in_err-inner : goal.returns-in_err-inner
returns-in_err-inner c = failed grammar table _ parameters_of _ (part s.Parameters) _ _ _ c.from_residual.ensures.1
    (runs.part_fails (run_refused grammar table _ _ Expression (sign sign_of.LeftParen ▸ maybe (part s.Formals) ▸ sign sign_of.RightParen) _ _ c.in_err-inner.ensures.0 c.in_err-inner.ensures.1))

pub returns-in_err-start : goal.returns-in_err-start
returns-in_err-start c = failed grammar table _ parameters_of _ (part s.Parameters) _ _ _ c.from_residual-in_err-start.ensures.1
    (runs.part_fails (runs.deeper c.in_ok-inner.ensures (runs.first_fails (run_no_word grammar table _ c.in_err-start.ensures))))

pub returns-in_err-formals : goal.returns-in_err-formals
returns-in_err-formals c = failed grammar table _ parameters_of _ (part s.Parameters) _ _ _ c.from_residual-in_err-formals.ensures.1
    (runs.part_fails (runs.deeper c.in_ok-inner.ensures (runs.next_fails (run_word grammar table _ c.in_ok-start.ensures) (runs.first_fails c.in_err-formals.ensures))))

pub returns-in_err-end : goal.returns-in_err-end
returns-in_err-end c = failed grammar table _ parameters_of _ (part s.Parameters) _ _ _ c.from_residual-in_err-end.ensures.1
    (runs.part_fails (runs.deeper c.in_ok-inner.ensures (runs.next_fails (run_word grammar table _ c.in_ok-start.ensures) (runs.next_fails c.in_ok-formals.ensures.runs (run_no_word grammar table _ c.in_err-end.ensures)))))

pub returns : goal.returns
returns c = read grammar table _ (parameters_of) c.requires.inside
    (runs.part (runs.deeper c.in_ok-inner.ensures (runs.both (run_word grammar table _ c.in_ok-start.ensures) (runs.both c.in_ok-formals.ensures.runs (run_word grammar table _ c.in_ok-end.ensures)))))
    (λ i. (c.in_ok-formals.ensures.shows i))
