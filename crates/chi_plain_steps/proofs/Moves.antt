-- Labels other than Local, by what they did.
use Rattle.std.proofs.Common.{◌≡◌, ◌≢◌, ℕ, zero, suc, ◌-◌, [], sym, ◌∙◌, ap, subst, refl, arith}
use Rattle.chi_core.specs.declared.label.Label.{Label}
use Rattle.chi_core.specs.declared.program.Core.{Core}
use Rattle.chi_core.specs.declared.view.View.{View}
use Rattle.chi_core.specs.Answer as answer
use Rattle.chi_core.specs.Answer.{Answer, Gives}
use Rattle.chi_core.specs.Config.{Config, view_of, with_view}
use Rattle.chi_core.specs.Performing.{Change, quietly}
use Rattle.chi_core.specs.Step.{Next, Spent, no_fault, after_step, taken, step}
use Rattle.chi_plain_steps.specs.Takings.{IsRight}
use Rattle.chi_plain_steps.proofs.Steps.{few_of, not_amiss}

module _ (core : Core) (config : Config) (label : Label) where
  pub step_none : (left : ℕ) → left ≡ 0 → step core config label left ≡ Spent
  unfolding step
  step_none left none = ap (step core config label) none

  pub step_some : (left : ℕ) (view : View) → left ≢ 0 → view ≡ view_of config (left - 1) → step core config label left ≡ taken core config label view
  unfolding step
  step_some zero view some e = absurd (some refl)
  step_some (suc left) view some e =
      let back : left ≡ suc left - 1 = omega arith in
      ap (λ n. taken core config label (view_of config n)) back ∙ ap (taken core config label) (sym e)

  -- what a label does isn't amiss
  pub move_well : (left : ℕ) (view : View) (m : Answer Change) → left ≢ 0 → view ≡ view_of config (left - 1) → taken core config label view ≡ after_step no_fault m
      → IsRight (step core config label left) → m ≢ answer.Amiss
  move_well left view m some e is right = not_amiss m (few_of no_fault m (subst IsRight (step_some left view some e ∙ is) right))

  pub move_gives : (left : ℕ) (view : View) (m : Answer Change) (new last : Config) → left ≢ 0 → view ≡ view_of config (left - 1)
      → taken core config label view ≡ after_step no_fault m → m ≡ Gives (quietly new) view → last ≡ with_view view new
      → step core config label left ≡ Next last [] (left - 1)
  move_gives left view m new last some e is gives same =
      step_some left view some e ∙ is ∙ ap (after_step no_fault) gives ∙ (λ k. Next (sym same k) [] (ap (λ (v : View). v.left) e k))

pub ruleset moving = (step_none, step_some, move_well, move_gives)
