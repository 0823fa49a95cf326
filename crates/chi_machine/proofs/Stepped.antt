-- A label that is taken, where something is left of the bound.
use Rattle.std.proofs.Common.{◌≡◌, ◌≢◌, ℕ, suc, ◌-◌, List, [], ◌++◌, refl, sym, subst, arith}
use Rattle.std.proofs.lemmas.List.{append-nil}
use Rattle.chi_core.specs.declared.label.Label.{Label}
use Rattle.chi_code.specs.declared.code.Code.{Code}
use Rattle.chi_machine_laws.specs.Instances.{Whole}
use Rattle.chi_machine_laws.specs.Labels.{Takes, none_left}
use Rattle.chi_machine_laws.specs.Labels as came
use Rattle.chi_machine.specs.declared.taken.Taken.{Taken}
use Rattle.chi_machine.specs.declared.taken.Taken.TheVariants.{Spent}
use Rattle.chi_machine.specs.declared.world.World.{World}
use Rattle.chi_machine.specs.Takings.{MayTake, Took}

module _ (code : Code) (m : Whole) (label l : Label) (left : ℕ) (is : label ≡ l) (some : left ≢ 0) where
  more : left ≡ suc (left - 1)
  more = omega (arith, some)

  pub step_may : MayTake code m label left → MayTake code m l (suc (left - 1))
  step_may t = subst (λ n. MayTake code m l n) more (subst (λ l. MayTake code m l left) is t)

  took_at : (taken : Taken) (w : World) (text : List ℕ) → Took code m l (suc (left - 1)) taken w text → Took code m label left taken w text
  took_at taken w text t = subst (λ l. Took code m l left taken w text) (sym is) (subst (λ n. Took code m l n taken w text) (sym more) t)

  pub step_took : (before after : List ℕ) (taken : Taken) (w : World) → (text : List ℕ) × (after ≡ before ++ text) × Took code m l (suc (left - 1)) taken w text
      → (text : List ℕ) × (after ≡ before ++ text) × Took code m label left taken w text
  step_took before after taken w t = (t.0, t.1, took_at taken w t.0 t.2)

  -- nothing is written
  pub step_silent : (out : List ℕ) (taken : Taken) (w : World) → Took code m l (suc (left - 1)) taken w [] → (text : List ℕ) × (out ≡ out ++ text) × Took code m label left taken w text
  step_silent out taken w t = ([], sym (append-nil out), took_at taken w [] t)

pub none_took : (code : Code) (m : Whole) (label : Label) (left : ℕ) (w : World) (out : List ℕ) → left ≡ 0 → (text : List ℕ) × (out ≡ out ++ text) × Took code m label left Spent w text
none_took code m label left w out e = ([], sym (append-nil out), (subst (λ n. Takes code m label n came.Spent) (sym e) (none_left label), refl))
