use Rattle.std.proofs.Common.{◌∷◌, [], ◌++◌, refl, ap, ◌∙◌, arith}
use Rattle.chi_token.specs.declared.sign.Sign.TheVariants as sign_of
use Rattle.chi_grammar.specs.Rules.{many, ◌▸◌}
use Rattle.chi_grammar.specs.RuleRuns as runs
use Rattle.chi_grammar.proofs.Exits.{run_word, run_no_word, failed, no_memory}
use Rattle.chi_tree.specs.Rules.{grammar, name, sign}
use Rattle.chi_tree.specs.Tables.{table}
use Rattle.chi_tree.specs.View.{more_names_in}
use Rattle.chi_parse.proofs.Shapes.{any_room}
use Rattle.chi_parse_expr.proofs.Loops.{gathered_start, gathered_more, gathered_stop, gathered_fails}
use Rattle.chi_parse.proofs.walks.more_names.Goals as goal

pub returns-in_err-push : goal.returns-in_err-push
returns-in_err-push c room = no_memory grammar table _ (λ ns. c.args.first ∷ more_names_in ns) _ (many (sign sign_of.Comma ▸ name)) _ _ c.from_residual.ensures.1

pub turn-init : goal.turn-init
turn-init c = λ room. gathered_start _ (c.args.first ∷ []) (c.in_ok-push.ensures.items ∙ ap (λ xs. xs ++ c.args.first ∷ []) c.new-names.ensures.items) (λ u. refl) c.requires.inside

pub returns-in_err-after : goal.returns-in_err-after
returns-in_err-after c room = failed grammar table _ (λ ns. c.args.first ∷ more_names_in ns) _ (many (sign sign_of.Comma ▸ name)) _ _ _ c.from_residual-in_err-after.ensures.1
    (gathered_fails _ (c.turn.invariant room) (c.is_next.ensures ∙ c.turn-test.true) (runs.first_fails (run_no_word grammar table _ c.in_err-after.ensures)))

pub returns-in_err-name : goal.returns-in_err-name
returns-in_err-name c room = failed grammar table _ (λ ns. c.args.first ∷ more_names_in ns) _ (many (sign sign_of.Comma ▸ name)) _ _ _ c.from_residual-in_err-name.ensures.1
    (gathered_fails _ (c.turn.invariant room) (c.is_next.ensures ∙ c.turn-test.true) (runs.next_fails (run_word grammar table _ c.in_ok-after.ensures) (c.in_err-name.ensures room)))

pub returns-in_err-push-2 : goal.returns-in_err-push-2
returns-in_err-push-2 c room = no_memory grammar table _ (λ ns. c.args.first ∷ more_names_in ns) _ (many (sign sign_of.Comma ▸ name)) _ _ c.from_residual-in_err-push-2.ensures.1

pub turn-preserved : goal.turn-preserved
turn-preserved c = λ room. gathered_more (c.turn.invariant room) (c.is_next.ensures ∙ c.turn-test.true) (runs.both (run_word grammar table _ c.in_ok-after.ensures) (c.in_ok-name.ensures room).runs) _ (λ u i. (c.in_ok-name.ensures room).shows i ∷ more_names_in u) (c.in_ok-name.ensures room).inside _ c.in_ok-push-2.ensures.items

pub turn-smaller : goal.turn-smaller
turn-smaller c = omega (arith, (c.in_ok-name.ensures any_room).ordered, (c.in_ok-name.ensures any_room).inside, c.in_ok-after.ensures.after)

pub returns-in_err-of : goal.returns-in_err-of
returns-in_err-of c room = no_memory grammar table _ (λ ns. c.args.first ∷ more_names_in ns) _ (many (sign sign_of.Comma ▸ name)) _ _ c.from_residual-in_err-of.ensures.1

pub returns : goal.returns
returns c room = gathered_stop (c.turn.invariant room) (c.is_next.ensures ∙ c.turn-test.false) refl c.requires.inside _ c.in_ok-of.ensures.same
