-- How a plan is carried out.
use Rattle.std.proofs.Common.{◌≡◌, ℕ, ◌+◌, ◌≤◌, List, [], ◌++◌, Option, Some, None, length, map, sym, ◌∙◌, ap, arith, length-append}
use Rattle.std.specs.Prelude.{slice_set, unwrap_or, IfSome}
use Rattle.std.specs.List.{range_with_len}
use Rattle.std.proofs.Math.ListN.{length-set}
use Rattle.std.proofs.lemmas.List.{length-map}
use Rattle.chi_core.specs.declared.limits.TheConstants.{MOST_INSTANCES}
use Rattle.chi_core.specs.declared.program.Core.{Core}
use Rattle.chi_core.specs.declared.view.View.{View}
use Rattle.chi_core.specs.Answer.{Gives}
use Rattle.chi_core.specs.Config.{Config, Instance, Offer, State, Running, Waiting, Joining, settled, with_instance}
use Rattle.chi_core.specs.Performing.{Goes}
use Rattle.chi_core.specs.Variables.{Variables}
use Rattle.chi_plain_steps.specs.declared.deed.Deed.{Deed}
use Rattle.chi_plain_steps.specs.declared.deed.Deed.TheVariants as deed
use Rattle.chi_plain_open.specs.Instances.{rest_of}
use Rattle.chi_plain_steps.specs.Plans.{Plan, Waits, Runs, Starts, IsFew, change_of, plan_of, made_in}

length-started : (config : Config) (p : ℕ) (i : Instance) (made : List Instance) → length (slice_set config.instances p i ++ map settled made) ≡ length config.instances + length made
length-started config p i made =
    length-append (slice_set config.instances p i) (map settled made) ∙ (λ k. length-set config.instances p i k + length-map made settled k)

pub few_made : (core : Core) (config : Config) (p : ℕ) (i : Instance) (variables : Variables) (d : Deed) (view : View) → length config.instances ≤ MOST_INSTANCES
    → IsFew (Gives (change_of core config p i (plan_of variables d)) view) → length config.instances + length (made_in d) ≤ MOST_INSTANCES
few_made core config p i variables (deed.Runs changed made) view few h =
    let now : Instance = record i { variables = unwrap_or changed variables; state = Joining (range_with_len (length config.instances) (length made.items)) } in
    omega (arith, h, length-started config p (settled now) made.items)
few_made core config p i variables (deed.Starts changed made) view few h =
    let now : Instance = record i { variables = unwrap_or changed variables; state = Running } in
    omega (arith, h, length-started config p (settled now) made.items)
few_made core config p i variables (deed.Writes text) view few h = omega (arith, few)
few_made core config p i variables (deed.Exits v) view few h = omega (arith, few)
few_made core config p i variables (deed.Waits changed offers) view few h = omega (arith, few)
few_made core config p i variables (deed.Joins numbers) view few h = omega (arith, few)

-- what each plan does, where its instance has gone on
module _ (core : Core) (config : Config) (p : ℕ) (i : Instance) (plan : Plan) (changed : Option Variables) where
  abbrev moved : State → Config
  moved state = with_instance config p (record (rest_of i) { variables = unwrap_or changed i.variables; state = state })

  abbrev added : Config → List Instance → Config
  added now made = record now { instances = now.instances ++ map settled made }

  pub carried_waits : (offers : List Offer) (new : Config) → plan ≡ Waits (record { variables = unwrap_or changed i.variables; offers = offers }) → new ≡ moved (Waiting offers)
      → change_of core config p (rest_of i) plan ≡ Goes new []
  carried_waits offers new is same = ap (change_of core config p (rest_of i)) is ∙ ap (λ n. Goes n []) (sym same)

  pub carried_starts : (made : List Instance) (now new : Config) → plan ≡ Starts (record { variables = unwrap_or changed i.variables; made = made }) → now ≡ moved Running
      → new ≡ added now made → change_of core config p (rest_of i) plan ≡ Goes new []
  carried_starts made now new is same more =
      ap (change_of core config p (rest_of i)) is ∙ ap (λ n. Goes (added n made) []) (sym same) ∙ ap (λ n. Goes n []) (sym more)

  pub carried_runs : (made : List Instance) (numbers : List ℕ) (now new : Config) → plan ≡ Runs (record { variables = unwrap_or changed i.variables; made = made })
      → now ≡ moved (Joining numbers) → numbers ≡ range_with_len (length config.instances) (length made) → new ≡ added now made
      → change_of core config p (rest_of i) plan ≡ Goes new []
  carried_runs made numbers now new is same counted more =
      ap (change_of core config p (rest_of i)) is ∙ ap (λ ns. Goes (added (moved (Joining ns)) made) []) (sym counted)
      ∙ ap (λ n. Goes (added n made) []) (sym same) ∙ ap (λ n. Goes n []) (sym more)

pub if_some_all : {A : Type 0} (o : Option A) (P : A → Type 0) → ((x : A) → P x) → IfSome o P
if_some_all None P f = tt
if_some_all (Some x) P f = f x

pub if_some_then : {A : Type 0} (o : Option A) (P Q : A → Type 0) → IfSome o P → ((x : A) → P x → Q x) → IfSome o Q
if_some_then None P Q p f = tt
if_some_then (Some x) P Q p f = f x p
