-- Casts, and what values mean to a process.
use Rattle.std.proofs.Common.{◌≡◌, ◌≢◌, ℕ, zero, suc, ℤ, pos, negsuc, ◌-ℤ◌, true, Option, Some, None, Ok, Err, refl, sym, ap, ◌∙◌, rules, arith, ◌<ℤ◌, ◌≤ℤ◌}
use Rattle.std.specs.Prelude.{option_map, int_le}
use Rattle.std.specs.Int.{int_max, int_signum}
use Rattle.std.proofs.lemmas.Int.{ints, to_z-of_z}
use Rattle.chi_num.specs.declared.read.fault.ReadFault.TheVariants.{Form, Range}
use Rattle.chi_num.specs.Results.{fits}
use Rattle.chi_num.specs.TextNumbers.{Meant, means, no_form, out_of_range, answer_of}
use Rattle.chi_value.specs.declared.value.Value.{Value}
use Rattle.chi_value.specs.declared.value.Value.TheVariants as value
use Rattle.chi_core.specs.declared.fault.FaultKind.{FaultKind}
use Rattle.chi_core.specs.declared.fault.FaultKind.TheVariants.{BadText}
use Rattle.chi_core.specs.declared.scene.Scene.{Scene}
use Rattle.chi_core.specs.declared.view.View.{View}
use Rattle.chi_core.specs.Answer.{Gives, Fails, Amiss, then_do, wanted}
use Rattle.chi_core.specs.Casts.{as_meant, is_ready, is_finished, has_finished}
use Rattle.chi_core.specs.Comparisons.{tells}
use Rattle.chi_core.specs.Reading.{due_of, instance_of}

module _ (past : FaultKind) (made : ℤ → Value) (view : View) where
  pub meant_ok : (m : Meant) (z : ℤ) → Ok z ≡ answer_of m → as_meant past made m view ≡ Gives (made z) view
  meant_ok (means y) z e = let same : z ≡ y = cc in ap (λ y. Gives (made y) view) (sym same)
  meant_ok no_form z e = absurd (cc)
  meant_ok out_of_range z e = absurd (cc)

  pub meant_form : (m : Meant) → Err Form ≡ answer_of m → as_meant past made m view ≡ Fails BadText
  meant_form (means y) e = absurd (cc)
  meant_form no_form e = refl
  meant_form out_of_range e = absurd (cc)

  pub meant_range : (m : Meant) → Err Range ≡ answer_of m → as_meant past made m view ≡ Fails past
  meant_range (means y) e = absurd (cc)
  meant_range no_form e = absurd (cc)
  meant_range out_of_range e = refl

pub signum_fits : (x : ℤ) → fits (int_signum x) ≡ true
signum_fits (pos n) = search rules
signum_fits (negsuc n) = refl

no_more : (z : ℤ) → z ≤ℤ pos 0 → int_max (pos 0) z ≡ pos 0
no_more (pos zero) h = search rules
no_more (pos (suc n)) h = absurd (omega (arith, ints))
no_more (negsuc n) h = search rules

some_more : (z : ℤ) → pos 0 <ℤ z → int_max (pos 0) z ≡ z
some_more (pos zero) h = absurd (omega (arith, ints))
some_more (pos (suc n)) h = search rules
some_more (negsuc n) h = absurd (omega (arith, ints))

pub time_over : (due clock : ℤ) → due ≤ℤ clock → int_max (pos 0) (due -ℤ clock) ≡ pos 0
time_over due clock h = no_more (due -ℤ clock) (omega (arith, ints))

pub time_ahead : (due clock : ℤ) → clock <ℤ due → int_max (pos 0) (due -ℤ clock) ≡ due -ℤ clock
time_ahead due clock h = some_more (due -ℤ clock) (omega (arith, ints))

pub ready_there : (scene : Scene) (a : Value) (view : View) → is_ready scene a view ≢ Amiss → due_of a ≢ None
ready_there scene a view h e = h (ap (λ o. tells (option_map (λ due. int_le due scene.clock) o) view) e)

pub ready_is : (scene : Scene) (a : Value) (due : ℤ) (view : View) → due_of a ≡ Some due → is_ready scene a view ≡ Gives (value.Bool (int_le due scene.clock)) view
ready_is scene a due view e = ap (λ o. tells (option_map (λ due. int_le due scene.clock) o) view) e

pub ruleset meanings = (to_z-of_z, meant_ok, meant_form, meant_range)

pub ruleset signs = (to_z-of_z, signum_fits)

pub ruleset knowing = (to_z-of_z, ready_there, ready_is)

pub ruleset times = (to_z-of_z, ints, time_over, time_ahead)

pub finished_there : (scene : Scene) (a : Value) (view : View) → is_finished scene a view ≢ Amiss → instance_of a ≢ None
finished_there scene a view h e = h (ap (λ o. then_do (wanted o view) (has_finished scene)) e)

pub finished_is : (scene : Scene) (a : Value) (p : Option ℕ) (view : View) → instance_of a ≡ Some p → is_finished scene a view ≡ has_finished scene p view
finished_is scene a p view e = ap (λ o. then_do (wanted o view) (has_finished scene)) e

pub has_there : (scene : Scene) (a : Value) (p : Option ℕ) (view : View) → instance_of a ≡ Some p → is_finished scene a view ≢ Amiss → has_finished scene p view ≢ Amiss
has_there scene a p view e h b = h (finished_is scene a p view e ∙ b)

pub ruleset finishing = (finished_there, finished_is, has_there)
