-- What each kind of alternative opens.
use Rattle.std.proofs.Common.{◌≡◌, ℕ, ℤ, List, [], ◌∷◌, Option, map, sym, ap, ◌∙◌, refl}
use Rattle.chi_core.specs.declared.expression.CExpr.{CExpr}
use Rattle.chi_core.specs.declared.statement.CStat.{CStat}
use Rattle.chi_core.specs.declared.statement.CAlt.{CAlt, CAlt-F, para-roll-CAlt}
use Rattle.chi_core.specs.declared.statement.CAlt.TheVariants as a
use Rattle.chi_core.specs.declared.communication.CComm.{CComm}
use Rattle.chi_core.specs.Answer.{View}
use Rattle.chi_core.specs.Variables.{Variables}
use Rattle.chi_core.specs.Evaluation.{Evaluates}
use Rattle.chi_core.specs.Opening.{Opening, opens, opens_step, Opens, guarded, unwinds}

pairs_first : {X Y : Type 0} (f : X → Y) (xs : List X) → map {A = X × Y} {B = X} (λ p. p.0) (map (λ x. (x, f x)) xs) ≡ xs
pairs_first f [] = refl
pairs_first f (x ∷ xs) = ap (λ l. x ∷ l) (pairs_first f xs)

pairs_second : {X Y : Type 0} (f : X → Y) (xs : List X) → map {A = X × Y} {B = Y} (λ p. p.1) (map (λ x. (x, f x)) xs) ≡ map f xs
pairs_second f [] = refl
pairs_second f (x ∷ xs) = ap (λ l. f x ∷ l) (pairs_second f xs)

module _ (value_in : Variables → Evaluates) (clock : ℤ) (names : List ℕ) (o : Opening) (view : View) where
  pub opens_guarded : (x : CAlt) (guard : Option CExpr) (communication : CComm) (body : List CStat) → x ≡ a.Guarded guard communication body
      → opens value_in clock x names o view ≡ guarded value_in clock guard names communication body o view
  unfolding opens
  opens_guarded x guard communication body e =
      ap (λ x. opens value_in clock x names o view) (e ∙ sym (a.rolls-Guarded guard communication body))
      ∙ ap (λ (f : Opens value_in clock). f names o view) (para-roll-CAlt (Opens value_in clock) (Unit {0}) (Unit {0}) (opens_step value_in clock) (λ layer. tt) (λ layer. tt) (CAlt-F.Guarded guard communication body))
      ∙ ap (λ body. guarded value_in clock guard names communication body o view) (pairs_first _ body)

  pub opens_unwind : (x : CAlt) (slots : List ℕ) (over : CExpr) (alternatives : List CAlt) → x ≡ a.Unwind slots over alternatives
      → opens value_in clock x names o view ≡ unwinds value_in clock slots over (map (opens value_in clock) alternatives) names o view
  unfolding opens
  opens_unwind x slots over alternatives e =
      ap (λ x. opens value_in clock x names o view) (e ∙ sym (a.rolls-Unwind slots over alternatives))
      ∙ ap (λ (f : Opens value_in clock). f names o view) (para-roll-CAlt (Opens value_in clock) (Unit {0}) (Unit {0}) (opens_step value_in clock) (λ layer. tt) (λ layer. tt) (CAlt-F.Unwind slots over alternatives))
      ∙ ap (λ inner. unwinds value_in clock slots over inner names o view) (pairs_second _ alternatives)
