-- Stores into spots.
use Rattle.std.proofs.Common.{◌≡◌, ◌≢◌, ℕ, ◌<◌, Bool, true, false, nat_lt, IsTrue, List, [], ◌∷◌, Option, Some, None, length, ap, sym, subst, refl, ◌∙◌, arith, rules, slice_set}
use Rattle.std.specs.Prelude.{if◌then◌else◌}
use Rattle.chi_value.specs.declared.value.Value.{Value}
use Rattle.chi_ops.specs.declared.fault.OpFault.{OpFault}
use Rattle.chi_ops.specs.declared.fault.OpFault.TheVariants as fault
use Rattle.chi_ops.specs.declared.path.Path.{Path}
use Rattle.chi_ops.specs.Outcome.{Outcome, gives}
use Rattle.chi_ops.specs.Paths.{steps_of}
use Rattle.chi_ops.specs.Refusal.{Refuses}
use Rattle.chi_ops.specs.Store.{put, may_put, stored}
use Rattle.chi_core.specs.declared.view.View.{View}
use Rattle.chi_core.specs.Answer.{Answer, Does, Gives, Amiss, then_do, wanted}
use Rattle.chi_core.specs.Containers.{done}
use Rattle.chi_core.specs.Spots.{store_into}
use Rattle.chi_core.specs.Variables.{Variables, value_at, with_slot, set_value}
use Rattle.chi_core_frame.specs.declared.stop.Stop.{Stop}
use Rattle.chi_core_frame.specs.Stops.{Stops, stop_of_operation}
use Rattle.chi_core_apply.proofs.Operations.{may}
use Rattle.chi_core_apply.proofs.Parts.{at_place}
use Rattle.chi_core_frame.proofs.Stopping.{then_stops}

pub done_stops : (f : OpFault) (stop : Stop) (outcome : Outcome) (view : View) → stop ≡ stop_of_operation f → Refuses f outcome → Stops stop (done outcome view)
done_stops fault.Index stop outcome view s e = rw (s, e) refl
done_stops fault.Key stop outcome view s e = rw (s, e) refl
done_stops fault.Empty stop outcome view s e = rw (s, e) refl
done_stops fault.Limit stop outcome view s e = rw (s, e) refl
done_stops fault.SliceStep stop outcome view s e = rw (s, e) refl
done_stops fault.NoMemory stop outcome view s e = rw s tt

slot_there : (slot : ℕ) (x : Value) (variables : Variables) → with_slot slot x variables ≢ None → slot < length variables
slot_there slot x variables h = by_test (nat_lt slot (length variables)) refl h
  where
    by_test : (b : Bool) → nat_lt slot (length variables) ≡ b → (if b then Some (slice_set variables slot (Some x)) else None) ≢ None → slot < length variables
    by_test true e h = search (rules, e)
    by_test false e h = absurd (h refl)

wanted_there : {A : Type 0} (o : Option A) (view : View) → wanted o view ≢ Amiss → o ≢ None
wanted_there o view h e = h (ap (λ o. wanted o view) e)

-- a value that is there stands in a slot that is there
pub value_within : (variables : Variables) (slot : ℕ) → value_at variables slot ≢ None → slot < length variables
value_within variables slot h = at_place variables slot (λ e. h (ap set_value e))

module _ (slot : ℕ) (path : List Path) (x : Value) (variables : Variables) (view : View) where
  whole : path ≡ [] → store_into slot (steps_of path) x variables view ≡ wanted (with_slot slot x variables) view
  whole e = ap (λ p. store_into slot (steps_of p) x variables view) e

  pub whole_there : path ≡ [] → store_into slot (steps_of path) x variables view ≢ Amiss → slot < length variables
  whole_there e h = slot_there slot x variables (wanted_there (with_slot slot x variables) view (λ a. h (whole e ∙ a)))

  pub whole_is : (new : Variables) → path ≡ [] → with_slot slot x variables ≡ Some new → store_into slot (steps_of path) x variables view ≡ Gives new view
  whole_is new e is = whole e ∙ ap (λ o. wanted o view) is

  then_set : Value → Does Variables
  then_set changed = wanted (with_slot slot changed variables)

  into : Value → Does Variables
  into v now = then_do (done (put (steps_of path) x v) now) then_set

  part : path ≢ [] → store_into slot (steps_of path) x variables view ≡ then_do (wanted (value_at variables slot) view) into
  unfolding into then_set
  part h = by_path path h
    where
      by_path : (p : List Path) → p ≢ [] → store_into slot (steps_of p) x variables view
          ≡ then_do (wanted (value_at variables slot) view) (λ v now. then_do (done (put (steps_of p) x v) now) (λ changed. wanted (with_slot slot changed variables)))
      by_path [] h = absurd (h refl)
      by_path (s ∷ p) h = refl

  pub part_there : path ≢ [] → store_into slot (steps_of path) x variables view ≢ Amiss → value_at variables slot ≢ None
  part_there h there e = there (part h ∙ ap (λ o. then_do (wanted o view) into) e)

  module _ (v : Value) (h : path ≢ []) (at : value_at variables slot ≡ Some v) where
    part_at : store_into slot (steps_of path) x variables view ≡ then_do (done (put (steps_of path) x v) view) then_set
    unfolding into
    part_at = part h ∙ ap (λ o. then_do (wanted o view) into) at

    pub part_may : store_into slot (steps_of path) x variables view ≢ Amiss → IsTrue (may_put (steps_of path) x v)
    part_may there = may (may_put (steps_of path) x v) (stored (steps_of path) x v) view (λ a. there (part_at ∙ ap (λ d. then_do d then_set) a))

    -- the slot is set again, where its value was taken
    pub part_is : (changed : Value) (taken new : Variables) → put (steps_of path) x v ≡ gives changed
        → ((y : Value) → with_slot slot y taken ≡ with_slot slot y variables) → with_slot slot changed taken ≡ Some new
        → store_into slot (steps_of path) x variables view ≡ Gives new view
    unfolding then_set
    part_is changed taken new e again is = part_at ∙ ap (λ o. then_do (done o view) then_set) e ∙ ap (λ o. wanted o view) (sym (again changed) ∙ is)

    pub part_stops : (f : OpFault) (stop : Stop) → stop ≡ stop_of_operation f → Refuses f (put (steps_of path) x v) → Stops stop (store_into slot (steps_of path) x variables view)
    part_stops f stop s e =
        let P : Answer Variables → Type 0 = Stops stop in
        subst P (sym part_at) (then_stops stop (done (put (steps_of path) x v) view) then_set (done_stops f stop (put (steps_of path) x v) view s e))

pub taken_within : (variables taken : Variables) (slot : ℕ) → value_at variables slot ≢ None → length taken ≡ length variables → slot < length taken
taken_within variables taken slot h e = let n = value_within variables slot h in omega (arith, n, e)

pub ruleset storing = (value_within, taken_within, whole_there, whole_is, part_there, part_may, part_is, part_stops)
