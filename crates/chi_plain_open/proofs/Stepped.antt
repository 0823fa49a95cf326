-- What stands at a target, read step by step.
use Rattle.std.proofs.Common.{◌≡◌, ◌≢◌, ℕ, ◌+◌, ◌<◌, Bool, true, false, List, ◌∷◌, Some, None, length, drop, get_or, ap, sym, subst, refl, ◌∙◌}
use Rattle.std.proofs.lemmas.List.{drop_more}
use Rattle.chi_value.specs.declared.value.Value.{Value, Value-F, out-Value}
use Rattle.chi_ops.specs.Kinds.{is_dictionary}
use Rattle.chi_ops.specs.Operations.{lookup}
use Rattle.chi_ops.specs.Sequences.{index}
use Rattle.chi_core.specs.declared.expression.CExpr.{CExpr}
use Rattle.chi_core.specs.declared.target.CStep.{CStep}
use Rattle.chi_core.specs.declared.target.CStep.TheVariants as step
use Rattle.chi_core.specs.declared.target.CTarget.{CTarget}
use Rattle.chi_core.specs.declared.view.View.{View}
use Rattle.chi_core.specs.Answer.{Answer, Does, Gives, Amiss, then_do, wanted, through}
use Rattle.chi_core.specs.Arithmetic.{on_int}
use Rattle.chi_core.specs.Containers.{done, element_at}
use Rattle.chi_core.specs.Evaluation.{Evaluates}
use Rattle.chi_core.specs.Reading.{part_of}
use Rattle.chi_core.specs.Spots.{element_by, read_step, read_at}
use Rattle.chi_core.specs.Variables.{Variables, value_at}
use Rattle.chi_core_frame.specs.declared.stop.Stop.{Stop}
use Rattle.chi_core_frame.specs.Stops.{Stops}
use Rattle.chi_core_frame.proofs.Stopping.{then_stops, then_there, next_there}

dictionary_in : Value-F Value → Bool
dictionary_in (Value-F.DictOf items) = true
dictionary_in _ = false

module _ (v key : Value) (view : View) where
  other_in : (k : Value-F Value) (layer : Value-F Value) → dictionary_in layer ≡ false → element_by v layer key k view ≡ on_int (λ i. done (index v i)) k view
  unfolding dictionary_in
  other_in k (Value-F.DictOf items) e = absurd (cc)
  other_in (Value-F.Int i) _ e = refl
  other_in _ _ e = refl

  dictionary_is : (layer : Value-F Value) → dictionary_in layer ≡ true → element_by v layer key (out-Value key) view ≡ done (lookup v key) view
  unfolding dictionary_in
  dictionary_is (Value-F.DictOf items) e = refl
  dictionary_is _ e = absurd (cc)

  pub by_key : is_dictionary v ≡ true → element_by v (out-Value v) key (out-Value key) view ≡ done (lookup v key) view
  unfolding dictionary_in
  by_key e = dictionary_is (out-Value v) e

  pub by_index : is_dictionary v ≡ false → element_by v (out-Value v) key (out-Value key) view ≡ element_at v key view
  unfolding dictionary_in
  by_index e = other_in (out-Value key) (out-Value v) e

module _ (m : Evaluates) (x : CStep) (v : Value) (view : View) where
  pub key_there : (e : CExpr) → x ≡ step.Index e → read_step m x v view ≢ Amiss → m e view ≢ Amiss
  key_there e is h = then_there _ (λ key. element_by v (out-Value v) key (out-Value key)) (λ a. h (ap (λ x. read_step m x v view) is ∙ a))

  pub element_there : (e : CExpr) (key : Value) (now : View) → x ≡ step.Index e → m e view ≡ Gives key now → read_step m x v view ≢ Amiss
      → element_by v (out-Value v) key (out-Value key) now ≢ Amiss
  element_there e key now is got h = next_there _ (λ key. element_by v (out-Value v) key (out-Value key)) key now (λ a. h (ap (λ x. read_step m x v view) is ∙ a)) got

  pub part_there : (n : ℕ) → x ≡ step.Part n → read_step m x v view ≢ Amiss → part_of v n ≢ None
  part_there n is h none = h (ap (λ x. read_step m x v view) is ∙ ap (λ o. wanted o view) none)

module _ (m : Evaluates) (variables : Variables) (target : CTarget) (view : View) where
  pub slot_there : read_at m variables target view ≢ Amiss → value_at variables target.slot ≢ None
  slot_there h none = h (ap (λ o. then_do (wanted o view) (through (read_step m) target.steps)) none)

  pub slot_is : (v : Value) → value_at variables target.slot ≡ Some v → read_at m variables target view ≡ through (read_step m) target.steps v view
  slot_is v e = ap (λ o. then_do (wanted o view) (through (read_step m) target.steps)) e

  pub steps_there : (v : Value) → value_at variables target.slot ≡ Some v → read_at m variables target view ≢ Amiss → through (read_step m) target.steps v view ≢ Amiss
  steps_there v e h a = h (slot_is v e ∙ a)

-- one more step
module _ {X S : Type 0} (each : X → S → Does S) (all : List X) (i : ℕ) (x : X) (s : S) (view : View) (h : i < length all) (is : x ≡ get_or all i x) where
  turn : through each (drop i all) s view ≡ then_do (each x s view) (through each (drop (i + 1) all))
  turn = ap (λ l. through each l s view) (drop_more all i x h) ∙ ap (λ y. through each (y ∷ drop (i + 1) all) s view) (sym is)

  pub turn_there : through each (drop i all) s view ≢ Amiss → each x s view ≢ Amiss
  turn_there there = then_there _ (through each (drop (i + 1) all)) (λ a. there (turn ∙ a))

  pub turn_goes : (t : S) (now : View) → each x s view ≡ Gives t now → through each (drop i all) s view ≡ through each (drop (i + 1) all) t now
  turn_goes t now got = turn ∙ ap (λ a. then_do a (through each (drop (i + 1) all))) got

  pub turn_stops : (stop : Stop) → Stops stop (each x s view) → Stops stop (through each (drop i all) s view)
  turn_stops stop st = let P : Answer S → Type 0 = Stops stop in subst P (sym turn) (then_stops stop _ (through each (drop (i + 1) all)) st)

pub ruleset elements = (by_key, by_index)

pub ruleset steps = (then_stops, key_there, element_there, part_there)

pub ruleset walks = (slot_there, slot_is, steps_there)

pub ruleset turns = (turn_there, turn_goes, turn_stops)
