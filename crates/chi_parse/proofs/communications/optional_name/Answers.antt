use Rattle.std.proofs.Common.{◌≡◌, refl, ap, ◌∙◌, Some}
use Rattle.chi_grammar.specs.Rules.{maybe}
use Rattle.chi_grammar.specs.RuleRuns as runs
use Rattle.chi_grammar.proofs.Exits.{read, failed}
use Rattle.chi_tree.specs.Rules.{grammar, name}
use Rattle.chi_tree.specs.Tables.{table}
use Rattle.chi_tree.specs.View.{name_in, optional}
use Rattle.chi_parse.proofs.Shapes.{by_word}
use Rattle.chi_parse.proofs.communications.optional_name.Goals as goal

pub returns-then-not-is_next : goal.returns-then-not-is_next
returns-then-not-is_next c = read grammar table _ (λ t. optional t (name_in t)) c.requires.inside (runs.never (c.is_next.ensures ∙ c.if-not-is_next.true)) refl

pub returns-in_err-name : goal.returns-in_err-name
returns-in_err-name c = failed grammar table _ (λ t. optional t (name_in t)) _ (maybe name) _ _ _ c.from_residual.ensures.1
    (runs.once (c.is_next.ensures ∙ c.if-not-is_next.false) (c.in_err-name.ensures c.args.room))

pub returns : goal.returns
returns c = read grammar table _ (λ t. optional t (name_in t)) c.requires.inside (runs.once (c.is_next.ensures ∙ c.if-not-is_next.false) (c.in_ok-name.ensures c.args.room).runs)
    (by_word (λ t. optional t (name_in t) ≡ Some (name_in t)) (λ x. refl) (c.in_ok-name.ensures c.args.room).runs ∙ ap Some (c.in_ok-name.ensures c.args.room).shows)
