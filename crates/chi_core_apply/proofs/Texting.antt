-- The text of a plain value, as a cast gives it.
use Rattle.std.proofs.Common.{◌≡◌, ◌≢◌, ℕ, ◌<◌, ◌≤◌, Bool, true, false, IsTrue, nat_le, List, Some, None, length, ap, sym, refl, ◌∙◌, rules}
use Rattle.std.specs.Prelude.{if◌then◌else◌, ◌&&◌}
use Rattle.chi_value.specs.declared.value.TheConstants.{MOST_ELEMENTS}
use Rattle.chi_value.specs.declared.value.Value.{Value}
use Rattle.chi_value.specs.declared.value.Value.TheVariants as value
use Rattle.chi_value.specs.Plain.{is_plain, within}
use Rattle.chi_value.specs.Text.{text}
use Rattle.chi_format.specs.Format.{any_text}
use Rattle.chi_core.specs.declared.fault.FaultKind.TheVariants.{TooLarge}
use Rattle.chi_core.specs.declared.scene.Scene.{Scene}
use Rattle.chi_core.specs.declared.view.View.{View}
use Rattle.chi_core.specs.Answer.{Gives, Fails, Amiss, then_do, wanted}
use Rattle.chi_core.specs.Casts.{to_text, string_of}

plain_of : (a b : Bool) (t : List ℕ) → (if a && b then Some t else None) ≢ None → (a ≡ true) × (b ≡ true) × ((if a && b then Some t else None) ≡ Some t)
plain_of true true t h = (refl, refl, refl)
plain_of true false t h = absurd (h refl)
plain_of false b t h = absurd (h refl)

module _ (scene : Scene) (a : Value) (view : View) where
  some_text : to_text scene a view ≢ Amiss → any_text scene.names.kinds a ≢ None
  some_text h e = h (ap (λ o. then_do (wanted o view) string_of) e)

  pub text_plain : to_text scene a view ≢ Amiss → IsTrue (is_plain a)
  text_plain h = (plain_of (is_plain a) (within scene.names.kinds a) (text scene.names.kinds a) (some_text h)).0

  pub text_within : to_text scene a view ≢ Amiss → IsTrue (within scene.names.kinds a)
  text_within h = (plain_of (is_plain a) (within scene.names.kinds a) (text scene.names.kinds a) (some_text h)).1

  text_is : to_text scene a view ≢ Amiss → to_text scene a view ≡ string_of (text scene.names.kinds a) view
  text_is h = ap (λ o. then_do (wanted o view) string_of) (plain_of (is_plain a) (within scene.names.kinds a) (text scene.names.kinds a) (some_text h)).2

  pub text_gives : (out : List ℕ) → to_text scene a view ≢ Amiss → out ≡ text scene.names.kinds a → length out ≤ MOST_ELEMENTS → to_text scene a view ≡ Gives (value.Text out) view
  text_gives out h e l =
      text_is h ∙ ap (λ t. string_of t view) (sym e) ∙ by_test (nat_le (length out) MOST_ELEMENTS) (search (rules, l))
    where
      by_test : (b : Bool) → b ≡ true → (if b then Gives (value.Text out) view else Fails TooLarge) ≡ Gives (value.Text out) view
      by_test true e = refl
      by_test false e = absurd (cc)

  pub text_too_long : to_text scene a view ≢ Amiss → MOST_ELEMENTS < length (text scene.names.kinds a) → to_text scene a view ≡ Fails TooLarge
  text_too_long h l =
      text_is h ∙ by_test (nat_le (length (text scene.names.kinds a)) MOST_ELEMENTS) (search (rules, l))
    where
      by_test : (b : Bool) → b ≡ false → (if b then Gives (value.Text (text scene.names.kinds a)) view else Fails TooLarge) ≡ Fails TooLarge
      by_test false e = refl
      by_test true e = absurd (cc)

pub ruleset texts = (text_plain, text_within, text_gives, text_too_long)
