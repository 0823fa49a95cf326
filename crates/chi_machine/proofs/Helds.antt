-- The instances that the machine's own stand for, one by one.
use Rattle.std.proofs.Common.{◌≡◌, ℕ, zero, suc, List, [], ◌∷◌, ◌++◌, length, Some, refl, ap, sym, ◌∙◌, arith}
use Rattle.std.specs.Prelude.{slice_get, slice_set}
use Rattle.chi_machine_laws.specs.Instances.{Held}
use Rattle.chi_machine_agenda.specs.Phases.{Phase}
use Rattle.chi_machine.specs.declared.instance.Instance.{Instance}
use Rattle.chi_machine.specs.Views.{held_of, all_held}
use Rattle.chi_machine.proofs.Listed.{set_own}

pub held_set : (is : List Instance) (ps : List Phase) (p : ℕ) (i : Instance) (phase : Phase) → all_held (slice_set is p i) (slice_set ps p phase) ≡ slice_set (all_held is ps) p (held_of i phase)
held_set [] ps p i phase = refl
held_set (j ∷ is) [] zero i phase = refl
held_set (j ∷ is) [] (suc p) i phase = refl
held_set (j ∷ is) (q ∷ ps) zero i phase = refl
held_set (j ∷ is) (q ∷ ps) (suc p) i phase = ap (λ l. held_of j q ∷ l) (held_set is ps p i phase)

-- the instance alone is set
pub held_instance : (is : List Instance) (ps : List Phase) (p : ℕ) (i : Instance) (phase : Phase) → slice_get ps p ≡ Some phase → all_held (slice_set is p i) ps ≡ slice_set (all_held is ps) p (held_of i phase)
held_instance is ps p i phase e = ap (all_held (slice_set is p i)) (sym (set_own ps p phase e)) ∙ held_set is ps p i phase

-- what is known of it alone is set
pub held_phase : (is : List Instance) (ps : List Phase) (p : ℕ) (i : Instance) (phase : Phase) → slice_get is p ≡ Some i → all_held is (slice_set ps p phase) ≡ slice_set (all_held is ps) p (held_of i phase)
held_phase is ps p i phase e = ap (λ l. all_held l (slice_set ps p phase)) (sym (set_own is p i e)) ∙ held_set is ps p i phase

pub held_end : (is : List Instance) (ps : List Phase) (i : Instance) (phase : Phase) → length ps ≡ length is → all_held (is ++ i ∷ []) (ps ++ phase ∷ []) ≡ all_held is ps ++ held_of i phase ∷ []
held_end [] [] i phase h = refl
held_end [] (q ∷ ps) i phase h = absurd (omega (arith, h))
held_end (j ∷ is) [] i phase h = absurd (omega (arith, h))
held_end (j ∷ is) (q ∷ ps) i phase h = ap (λ l. held_of j q ∷ l) (held_end is ps i phase (omega (arith, h)))

pub held_length : (is : List Instance) (ps : List Phase) → length ps ≡ length is → length (all_held is ps) ≡ length is
held_length [] ps h = refl
held_length (j ∷ is) [] h = absurd (omega (arith, h))
held_length (j ∷ is) (q ∷ ps) h = ap suc (held_length is ps (omega (arith, h)))

pub held_get : (is : List Instance) (ps : List Phase) (p : ℕ) (i : Instance) (phase : Phase) → slice_get is p ≡ Some i → slice_get ps p ≡ Some phase → slice_get (all_held is ps) p ≡ Some (held_of i phase)
held_get [] ps p i phase e f = absurd (cc)
held_get (j ∷ is) [] p i phase e f = absurd (cc)
held_get (j ∷ is) (q ∷ ps) zero i phase e f = let a : j ≡ i = cc in let b : q ≡ phase = cc in λ k. Some (held_of (a k) (b k))
held_get (j ∷ is) (q ∷ ps) (suc p) i phase e f = held_get is ps p i phase e f

-- an instance that is stood for
pub record Found (is : List Instance) (ps : List Phase) (p : ℕ) (h : Held) : Type 0 where
  pub i : Instance
  pub phase : Phase
  pub instance : slice_get is p ≡ Some i
  pub known : slice_get ps p ≡ Some phase
  pub is_held : h ≡ held_of i phase

pub held_find : (is : List Instance) (ps : List Phase) (p : ℕ) (h : Held) → slice_get (all_held is ps) p ≡ Some h → Found is ps p h
held_find [] ps p h e = absurd (cc)
held_find (j ∷ is) [] p h e = absurd (cc)
held_find (j ∷ is) (q ∷ ps) zero h e = record { i = j; phase = q; instance = refl; known = refl; is_held = let same : h ≡ held_of j q = cc in same }
held_find (j ∷ is) (q ∷ ps) (suc p) h e =
    let f = held_find is ps p h e in
    record { i = f.i; phase = f.phase; instance = f.instance; known = f.known; is_held = f.is_held }
