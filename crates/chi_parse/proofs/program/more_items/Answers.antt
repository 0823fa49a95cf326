use Rattle.std.proofs.Common.{◌∷◌, [], ◌++◌, refl, ap, ◌∙◌, arith}
use Rattle.chi_grammar.specs.Rules.{part, many}
use Rattle.chi_grammar.proofs.Exits.{failed, no_memory}
use Rattle.chi_tree.specs.Parts as s
use Rattle.chi_tree.specs.Rules.{grammar}
use Rattle.chi_tree.specs.Tables.{table}
use Rattle.chi_tree.specs.Statements.{items_of}
use Rattle.chi_parse.proofs.Shapes.{run_ahead}
use Rattle.chi_parse_expr.proofs.Loops.{gathered_start, gathered_more, gathered_stop, gathered_fails}
use Rattle.chi_parse.proofs.program.more_items.Goals as goal

pub returns-in_err-push : goal.returns-in_err-push
returns-in_err-push c = no_memory grammar table _ (λ ts. c.args.first ∷ items_of ts) _ (many (part s.Definition)) _ _ c.from_residual.ensures.1

pub turn-init : goal.turn-init
turn-init c = gathered_start _ (c.args.first ∷ []) (c.in_ok-push.ensures.items ∙ ap (λ xs. xs ++ c.args.first ∷ []) c.new-items.ensures.items) (λ u. refl) c.requires.inside

pub returns-in_err-next : goal.returns-in_err-next
returns-in_err-next c = failed grammar table _ (λ ts. c.args.first ∷ items_of ts) _ (many (part s.Definition)) _ _ _ c.from_residual-in_err-next.ensures.1
    (gathered_fails _ c.turn.invariant (c.is_next.ensures ∙ c.turn-test.true) c.in_err-next.ensures)

pub returns-in_err-push-2 : goal.returns-in_err-push-2
returns-in_err-push-2 c = no_memory grammar table _ (λ ts. c.args.first ∷ items_of ts) _ (many (part s.Definition)) _ _ c.from_residual-in_err-push-2.ensures.1

pub turn-preserved : goal.turn-preserved
turn-preserved c = gathered_more c.turn.invariant (c.is_next.ensures ∙ c.turn-test.true) c.in_ok-next.ensures.runs _ (λ u i. c.in_ok-next.ensures.shows i ∷ items_of u) c.in_ok-next.ensures.inside _ c.in_ok-push-2.ensures.items

pub turn-smaller : goal.turn-smaller
turn-smaller c = omega (arith, run_ahead c.in_ok-next.ensures.runs, c.in_ok-next.ensures.inside)

pub returns-in_err-of : goal.returns-in_err-of
returns-in_err-of c = no_memory grammar table _ (λ ts. c.args.first ∷ items_of ts) _ (many (part s.Definition)) _ _ c.from_residual-in_err-of.ensures.1

pub returns : goal.returns
returns c = gathered_stop c.turn.invariant (c.is_next.ensures ∙ c.turn-test.false) refl c.requires.inside _ c.in_ok-of.ensures.same
