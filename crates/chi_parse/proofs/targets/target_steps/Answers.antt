use Rattle.std.proofs.Common.{◌∷◌, [], refl, ◌∙◌, arith}
use Rattle.chi_grammar.specs.Rules.{part, many}
use Rattle.chi_grammar.proofs.Exits.{failed, no_memory}
use Rattle.chi_tree.specs.Parts as s
use Rattle.chi_tree.specs.Rules.{grammar}
use Rattle.chi_tree.specs.Tables.{table}
use Rattle.chi_tree.specs.View.{postfixes_of}
use Rattle.chi_parse.proofs.Shapes.{run_ahead}
use Rattle.chi_parse_expr.proofs.Loops.{gathered_start, gathered_more, gathered_stop, gathered_fails}
use Rattle.chi_parse.proofs.targets.target_steps.Goals as goal

pub turn-init : goal.turn-init
turn-init c = gathered_start _ [] c.new-steps.ensures.items (λ u. refl) c.requires.inside

pub returns-in_err-step : goal.returns-in_err-step
returns-in_err-step c = failed grammar table _ postfixes_of _ (many (part s.TargetStep)) _ _ _ c.from_residual.ensures.1
    (gathered_fails _ c.turn.invariant (c.is_next.ensures ∙ c.turn-test.true) c.in_err-step.ensures)

pub returns-in_err-push : goal.returns-in_err-push
returns-in_err-push c = no_memory grammar table _ postfixes_of _ (many (part s.TargetStep)) _ _ c.from_residual-in_err-push.ensures.1

pub turn-preserved : goal.turn-preserved
turn-preserved c = gathered_more c.turn.invariant (c.is_next.ensures ∙ c.turn-test.true) c.in_ok-step.ensures.runs _ (λ u i. c.in_ok-step.ensures.shows i ∷ postfixes_of u) c.in_ok-step.ensures.inside _ c.in_ok-push.ensures.items

pub turn-smaller : goal.turn-smaller
turn-smaller c = omega (arith, run_ahead c.in_ok-step.ensures.runs, c.in_ok-step.ensures.inside)

pub returns-in_err-of : goal.returns-in_err-of
returns-in_err-of c = no_memory grammar table _ postfixes_of _ (many (part s.TargetStep)) _ _ c.from_residual-in_err-of.ensures.1

pub returns : goal.returns
returns c = gathered_stop c.turn.invariant (c.is_next.ensures ∙ c.turn-test.false) refl c.requires.inside _ c.in_ok-of.ensures.same
