-- One turn of an experiment.
use Rattle.std.proofs.Common.{◌≡◌, ℕ, zero, suc, ◌-◌, ◌<◌, List, [], ◌∷◌, refl, sym, ap, ◌∙◌, Some, length, map, arith}
use Rattle.chi_value.specs.declared.value.Value.{Value}
use Rattle.chi_core.specs.declared.experiment.XperDef.{XperDef}
use Rattle.chi_core.specs.declared.program.Core.{Core}
use Rattle.chi_core.specs.declared.view.View.{View}
use Rattle.chi_core.specs.Answer.{Answer, then_do, ticked}
use Rattle.chi_core.specs.Beginning.{constant_view}
use Rattle.chi_core.specs.Variables.{Variables, variables_of}
use Rattle.chi_xper.specs.Items.{Item, Do, Term, Did, done, line_of}
use Rattle.chi_xper.specs.Experiments.{Outcomes, Told, Done, Spent, over, unless_over, value_in, did_then, goes, begins}

module _ (core : Core) (constants : List Value) (seed : ℕ) (outcomes : Outcomes) (count : ℕ) (variables : Variables) (view : View) where
  pub goes_none : (n : ℕ) → goes core constants seed outcomes n count variables [] view ≡ over (Done count)
  unfolding goes
  goes_none zero = refl
  goes_none (suc n) = refl

  module _ (i : Item) (rest : Term) where
    pub goes_over : goes core constants seed outcomes 0 count variables (i ∷ rest) view ≡ over (Spent count)
    unfolding goes
    goes_over = refl

    pub goes_spent : (n : ℕ) → view.left ≡ 0 → goes core constants seed outcomes n count variables (i ∷ rest) view ≡ over (Spent count)
    unfolding goes
    goes_spent zero z = refl
    goes_spent (suc n) z =
        ap (λ left. unless_over (line_of i) count (did_then core constants seed outcomes (line_of i) count (goes core constants seed outcomes n))
        (then_do (ticked left view) (λ ticked. done core (value_in core constants seed outcomes variables) variables i rest))) z

    -- what the item comes to
    abbrev pub does : Answer Did
    does = done core (value_in core constants seed outcomes variables) variables i rest (record view { left = view.left - 1 })

    -- what is told of it, where so many turns are left after it
    abbrev pub told_of : ℕ → Answer Did → Told
    told_of n = unless_over (line_of i) count (did_then core constants seed outcomes (line_of i) count (goes core constants seed outcomes n))

    pub goes_turn : (n : ℕ) → 0 < n → 0 < view.left → goes core constants seed outcomes n count variables (i ∷ rest) view ≡ told_of (n - 1) does
    unfolding goes
    goes_turn n h l = by_turns n h (view.left) l refl
      where
        by_turns : (n : ℕ) → 0 < n → (left : ℕ) → 0 < left → view.left ≡ left
            → goes core constants seed outcomes n count variables (i ∷ rest) view
            ≡ told_of (n - 1) (done core (value_in core constants seed outcomes variables) variables i rest (record view { left = left - 1 }))
        by_turns zero h left l e = absurd (omega arith)
        by_turns (suc n) h zero l e = absurd (omega arith)
        by_turns (suc n) h (suc left) l e =
            let back : suc n - 1 ≡ n = omega arith in
            let less : suc left - 1 ≡ left = omega arith in
            ap (λ left. told_of n (then_do (ticked left view) (λ ticked. done core (value_in core constants seed outcomes variables) variables i rest))) e
            ∙ (λ j. told_of (sym back j) (done core (value_in core constants seed outcomes variables) variables i rest (record view { left = sym less j })))

-- from the beginning of an experiment on
pub begins_is : (core : Core) (constants : List Value) (seed : ℕ) (outcomes : Outcomes) (bound n : ℕ) (x : XperDef) (variables : Variables) (term : Term) (view : View) → n ≡ length x.slots
    → variables ≡ variables_of n [] → term ≡ map Do x.body → view ≡ record constant_view { left = bound }
    → goes core constants seed outcomes view.left 0 variables term view ≡ begins core constants seed outcomes bound (Some x)
begins_is core constants seed outcomes bound n x variables term view count v t w k =
    goes core constants seed outcomes (w k).left 0 ((v ∙ ap (λ n. variables_of n []) count) k) (t k) (w k)
