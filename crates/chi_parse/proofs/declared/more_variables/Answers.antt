use Rattle.std.proofs.Common.{◌∷◌, [], ◌++◌, refl, ap, ◌∙◌, arith}
use Rattle.chi_token.specs.declared.sign.Sign.TheVariants as sign_of
use Rattle.chi_grammar.specs.Rules.{part, many, ◌▸◌}
use Rattle.chi_grammar.specs.RuleRuns as runs
use Rattle.chi_grammar.proofs.Exits.{run_word, run_no_word, failed, no_memory}
use Rattle.chi_tree.specs.Parts as s
use Rattle.chi_tree.specs.Rules.{grammar, sign}
use Rattle.chi_tree.specs.Tables.{table}
use Rattle.chi_tree.specs.Statements.{more_variables_of}
use Rattle.chi_parse_expr.proofs.Loops.{gathered_start, gathered_more, gathered_stop, gathered_fails}
use Rattle.chi_parse.proofs.declared.more_variables.Goals as goal

pub returns-in_err-push : goal.returns-in_err-push
returns-in_err-push c = no_memory grammar table _ (λ vs. c.args.first ∷ more_variables_of vs) _ (many (sign sign_of.Comma ▸ part s.Variable)) _ _ c.from_residual.ensures.1

pub turn-init : goal.turn-init
turn-init c = gathered_start _ (c.args.first ∷ []) (c.in_ok-push.ensures.items ∙ ap (λ xs. xs ++ c.args.first ∷ []) c.new-variables.ensures.items) (λ u. refl) c.requires.inside

pub returns-in_err-after : goal.returns-in_err-after
returns-in_err-after c = failed grammar table _ (λ vs. c.args.first ∷ more_variables_of vs) _ (many (sign sign_of.Comma ▸ part s.Variable)) _ _ _ c.from_residual-in_err-after.ensures.1
    (gathered_fails _ c.turn.invariant (c.is_next.ensures ∙ c.turn-test.true) (runs.first_fails (run_no_word grammar table _ c.in_err-after.ensures)))

pub returns-in_err-next : goal.returns-in_err-next
returns-in_err-next c = failed grammar table _ (λ vs. c.args.first ∷ more_variables_of vs) _ (many (sign sign_of.Comma ▸ part s.Variable)) _ _ _ c.from_residual-in_err-next.ensures.1
    (gathered_fails _ c.turn.invariant (c.is_next.ensures ∙ c.turn-test.true) (runs.next_fails (run_word grammar table _ c.in_ok-after.ensures) c.in_err-next.ensures))

pub returns-in_err-push-2 : goal.returns-in_err-push-2
returns-in_err-push-2 c = no_memory grammar table _ (λ vs. c.args.first ∷ more_variables_of vs) _ (many (sign sign_of.Comma ▸ part s.Variable)) _ _ c.from_residual-in_err-push-2.ensures.1

pub turn-preserved : goal.turn-preserved
turn-preserved c = gathered_more c.turn.invariant (c.is_next.ensures ∙ c.turn-test.true) (runs.both (run_word grammar table _ c.in_ok-after.ensures) c.in_ok-next.ensures.runs) _ (λ u i. c.in_ok-next.ensures.shows i ∷ more_variables_of u) c.in_ok-next.ensures.inside _ c.in_ok-push-2.ensures.items

pub turn-smaller : goal.turn-smaller
turn-smaller c = omega (arith, c.in_ok-next.ensures.ordered, c.in_ok-next.ensures.inside, c.in_ok-after.ensures.after)

pub returns-in_err-of : goal.returns-in_err-of
returns-in_err-of c = no_memory grammar table _ (λ vs. c.args.first ∷ more_variables_of vs) _ (many (sign sign_of.Comma ▸ part s.Variable)) _ _ c.from_residual-in_err-of.ensures.1

pub returns : goal.returns
returns c = gathered_stop c.turn.invariant (c.is_next.ensures ∙ c.turn-test.false) refl c.requires.inside _ c.in_ok-of.ensures.same
