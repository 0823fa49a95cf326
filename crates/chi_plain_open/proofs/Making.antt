-- Instances that are made.
use Rattle.std.proofs.Common.{◌≡◌, ◌≢◌, ℕ, ◌+◌, ◌<◌, ◌≤◌, List, Option, Some, None, Bool, true, false, cond, length, ◌∙◌, ap, refl, arith}
use Rattle.std.specs.Prelude.{nat_lt, nat_eq}
use Rattle.std.specs.List.{slice_get}
use Rattle.std.specs.Option.{option_and_then}
use Rattle.std.proofs.lemmas.Option.{slice_get_within}
use Rattle.chi_core.specs.declared.fault.FaultKind.TheVariants.{TooManyInstances}
use Rattle.chi_core.specs.declared.limits.TheConstants.{MOST_INSTANCES}
use Rattle.chi_core.specs.declared.program.ProcDef.{ProcDef}
use Rattle.chi_core.specs.declared.target.CTarget.{CTarget}
use Rattle.chi_core.specs.declared.view.View.{View}
use Rattle.chi_core.specs.Answer.{Gives, Fails}
use Rattle.chi_core.specs.Evaluation.{Evaluates}
use Rattle.chi_core.specs.Starting.{numbered, taking, started_by, told_at}
use Rattle.chi_core.specs.Variables.{Variables}
use Rattle.chi_plain_open.specs.Drafts.{spot_told}

pub numbered_none : (view : View) → MOST_INSTANCES ≤ view.instances → numbered view ≡ Fails TooManyInstances
numbered_none view h =
    let e : nat_lt view.instances MOST_INSTANCES ≡ false = grind arith in
    ap (λ b. cond b (Gives view.instances (record view { instances = view.instances + 1 })) (Fails TooManyInstances)) e

pub numbered_some : (view : View) → view.instances < MOST_INSTANCES → numbered view ≡ Gives view.instances (record view { instances = view.instances + 1 })
numbered_some view h =
    let e : nat_lt view.instances MOST_INSTANCES ≡ true = grind arith in
    ap (λ b. cond b (Gives view.instances (record view { instances = view.instances + 1 })) (Fails TooManyInstances)) e

pub ruleset starting = (numbered_none, numbered_some)

-- the process of a number

pub started_there : (processes : List ProcDef) (number count : ℕ) → started_by processes number count ≢ None → number < length processes
started_there processes number count well = by_found (slice_get processes number) refl (λ e. well (by_none e))
  where
    by_none : slice_get processes number ≡ None → started_by processes number count ≡ None
    by_none e = ap (option_and_then (taking count)) e

    by_found : (o : Option ProcDef) → slice_get processes number ≡ o → (slice_get processes number ≡ None → ⊥) → number < length processes
    by_found None at w = absurd (w at)
    by_found (Some d) at w = slice_get_within processes number d at

pub started_is : (processes : List ProcDef) (number count : ℕ) (d : ProcDef) → slice_get processes number ≡ Some d → started_by processes number count ≢ None
    → started_by processes number count ≡ Some d
started_is processes number count d at well = is ∙ by_test (nat_eq count (length d.params)) (λ e. well (is ∙ e))
  where
    is : started_by processes number count ≡ taking count d
    is = ap (option_and_then (taking count)) at

    by_test : (t : Bool) → cond t (Some d) None ≢ None → cond t (Some d) None ≡ Some d
    by_test true w = refl
    by_test false w = absurd (w refl)

-- the spot of an element's target
pub told_is : (value_in : Variables → Evaluates) (processes : List ProcDef) (variables : Variables) (target : Option CTarget) (view : View)
    → told_at value_in processes variables target view ≡ spot_told (value_in variables) target view
unfolding told_at
told_is value_in processes variables None view = refl
told_is value_in processes variables (Some target) view = refl
