-- Where a label stands among those that may come: its numbers.
use Rattle.std.proofs.Common.{◌≡◌, ℕ, zero, suc, ◌+◌, ◌<◌, List, [], ◌∷◌, Some, None, Bool, true, false, cond, length, sym, ◌∙◌, ap, refl, arith}
use Rattle.std.specs.Prelude.{◌↔◌, nat_lt, not, ◌==◌, position, IsTrue}
use Rattle.std.specs.List.{slice_get, Contains, position_or_len}
use Rattle.std.proofs.lemmas.Bool.{eq-eqb, eqb-true, and_from, and_parts, false≢true}
use Rattle.chi_core.specs.declared.label.Label.{Label}
use Rattle.chi_core.specs.declared.label.Label.TheVariants.{Local, Pair, Wake, Join, Advance}
use Rattle.chi_core.specs.Config.{Config}
use Rattle.chi_core.specs.Options.{options, actors, enabled}
use Rattle.chi_core.specs.Picks.{same_label, both_places, places_of, numbers_of}
use Rattle.chi_core_runs.proofs.Lists.{Distinct, contains-at, distinct-tail}
use Rattle.chi_core_runs.proofs.Options.{actor_of, actor-option, distinct-actors, distinct-options}
use Rattle.chi_core_runs.proofs.Enabled.{may_come}
use Rattle.chi_plain.specs.Stage.{Stage, At, Ended, Lost, actors_at, options_at, enabled_at, MayStep}
use Rattle.chi_judge.specs.declared.places.Found.{Found}
use Rattle.chi_judge.specs.Asking.{IsPlaced}

-- labels are the same where they are told to be

same_itself : (l : Label) → same_label l l ≡ true
same_itself (Local p) = eq-eqb p p refl
same_itself (Pair p a q b) =
    and_from _ _ (and_from _ _ (and_from _ _ (eq-eqb p p refl) (eq-eqb a a refl)) (eq-eqb q q refl)) (eq-eqb b b refl)
same_itself (Wake p a) = and_from _ _ (eq-eqb p p refl) (eq-eqb a a refl)
same_itself (Join p) = eq-eqb p p refl
same_itself Advance = refl

same_is : (l m : Label) → same_label l m ≡ true → m ≡ l
same_is (Local p) (Local q) e = ap Local (sym (eqb-true p q e))
same_is (Pair p a q b) (Pair r c s d) e =
    let h = and_parts _ _ e in
    let g = and_parts _ _ h.0 in
    let f = and_parts _ _ g.0 in
    let ps : p ≡ r = eqb-true p r f.0 in
    let as_ : a ≡ c = eqb-true a c f.1 in
    let qs : q ≡ s = eqb-true q s g.1 in
    let bs : b ≡ d = eqb-true b d h.1 in
    λ i. Pair (sym ps i) (sym as_ i) (sym qs i) (sym bs i)
same_is (Wake p a) (Wake q b) e =
    let h = and_parts _ _ e in
    let ps : p ≡ q = eqb-true p q h.0 in
    let as_ : a ≡ b = eqb-true a b h.1 in
    λ i. Wake (sym ps i) (sym as_ i)
same_is (Join p) (Join q) e = ap Join (sym (eqb-true p q e))
same_is Advance Advance e = refl
same_is _ _ e = absurd (false≢true e)

-- where an element stands once, it is found
module _ {A : Type 0} (test : A → Bool) (x : A) (passes : test x ≡ true) (only : (y : A) → test y ≡ true → y ≡ x) where
  stands_first : (xs : List A) (k : ℕ) → Distinct xs → slice_get xs k ≡ Some x → (position_or_len test xs ≡ k) × (nat_lt k (length xs) ≡ true)
  stands_first [] k distinct e = absurd (cc)
  stands_first (z ∷ zs) zero distinct e =
      let same : z ≡ x = cc in
      (ap (λ b. cond (not b) (1 + position_or_len test zs) 0) (ap test same ∙ passes), let within : nat_lt 0 (suc (length zs)) ≡ true = grind arith in within)
  stands_first (z ∷ zs) (suc k) distinct e = by_test (test z) refl (stands_first zs k (distinct-tail z zs distinct) e)
    where
      by_test : (b : Bool) → test z ≡ b → (position_or_len test zs ≡ k) × (nat_lt k (length zs) ≡ true)
          → (position_or_len test (z ∷ zs) ≡ suc k) × (nat_lt (suc k) (length (z ∷ zs)) ≡ true)
      by_test true is later =
          let here : slice_get (z ∷ zs) 0 ≡ Some x = ap Some (only z is) in
          absurd (let isnt : 0 ≡ suc k = distinct 0 (suc k) x here e in omega arith)
      by_test false is later = (
        ap (λ b. cond (not b) (1 + position_or_len test zs) 0) is ∙ (let at : position_or_len test zs ≡ k = later.0 in let h : 1 + position_or_len test zs ≡ suc k = omega arith in h),
        let within : nat_lt k (length zs) ≡ true = later.1 in grind arith,
      )

  stands_at : (xs : List A) (k : ℕ) → Distinct xs → slice_get xs k ≡ Some x → position test xs ≡ Some k
  stands_at xs k distinct e =
      let r = stands_first xs k distinct e in
      (λ i. cond (nat_lt (r.0 i) (length xs)) (Some (r.0 i)) None) ∙ ap (λ b. cond b (Some k) None) r.1

numbers_of-option : (config : Config) (p : ℕ) (label : Label) → actor_of label ≡ Some p → numbers_of config label ≡ places_of config p label
numbers_of-option config p (Local q) e = let same : q ≡ p = cc in ap (λ r. places_of config r (Local q)) same
numbers_of-option config p (Pair q a r b) e = let same : q ≡ p = cc in ap (λ s. places_of config s (Pair q a r b)) same
numbers_of-option config p (Wake q a) e = let same : q ≡ p = cc in ap (λ r. places_of config r (Wake q a)) same
numbers_of-option config p (Join q) e = let same : q ≡ p = cc in ap (λ r. places_of config r (Join q)) same
numbers_of-option config p Advance e = absurd (cc)

module _ (config : Config) (i p j : ℕ) (label : Label) (acts : slice_get (actors config) i ≡ Some p) (chosen : slice_get (options config p) j ≡ Some label) where
  pub option_numbers : numbers_of config label ≡ i ∷ j ∷ []
  option_numbers =
      let who : position (λ q. q == p) (actors config) ≡ Some i
      = stands_at (λ q. q == p) p (eq-eqb p p refl) (λ q e. eqb-true q p e) (actors config) i (distinct-actors config) acts in
      let what : position (same_label label) (options config p) ≡ Some j
      = stands_at (same_label label) label (same_itself label) (λ l e. same_is label l e) (options config p) j (distinct-options config p) chosen in
      numbers_of-option config p label (actor-option config p j label chosen) ∙ (λ k. both_places (who k) (what k))

  pub option_enabled : Contains (enabled config) label
  option_enabled = (may_come config p label (contains-at (options config p) j label chosen)).0

-- an option of an instance is placed so
pub placed_option : (stage : Stage) (i p j : ℕ) (label : Label) → slice_get (actors_at stage) i ≡ Some p → slice_get (options_at stage p) j ≡ Some label
    → IsPlaced stage (record { label = label; actor = i; option = j })
placed_option (At config) i p j label acts chosen =
    (option_enabled config i p j label acts chosen, option_numbers config i p j label acts chosen)
placed_option (Ended end) i p j label acts chosen = absurd (cc)
placed_option Lost i p j label acts chosen = absurd (cc)

-- Advance has the numbers 0 and 0
pub placed_advance : (stage : Stage) (can : Bool) → IsTrue can ↔ Contains (enabled_at stage) Advance → can ≡ true
    → IsPlaced stage (record { label = Advance; actor = 0; option = 0 })
placed_advance (At config) can tells is = (tells.0 is, refl)
placed_advance (Ended end) can tells is = absurd (let c = tells.0 is in let h : c.0 < 0 = c.1 in omega arith)
placed_advance Lost can tells is = absurd (let c = tells.0 is in let h : c.0 < 0 = c.1 in omega arith)

pub option_may : (stage : Stage) (p j : ℕ) (label : Label) → slice_get (options_at stage p) j ≡ Some label → MayStep stage label
option_may (At config) p j label chosen = (may_come config p label (contains-at (options config p) j label chosen)).0
option_may (Ended end) p j label chosen = absurd (cc)
option_may Lost p j label chosen = absurd (cc)

pub advance_may : (stage : Stage) (can : Bool) → IsTrue can ↔ Contains (enabled_at stage) Advance → can ≡ true → MayStep stage Advance
advance_may (At config) can tells is = tells.0 is
advance_may (Ended end) can tells is = absurd (let c = tells.0 is in let h : c.0 < 0 = c.1 in omega arith)
advance_may Lost can tells is = tt

pub placed_may : (stage : Stage) (f : Found) → IsPlaced stage f → MayStep stage f.label
placed_may (At config) f placed = placed.0
placed_may (Ended end) f placed = absurd placed
placed_may Lost f placed = absurd placed

pub ruleset placing = (placed_option, placed_advance)

pub ruleset moving = (option_may, advance_may, placed_may)
