-- Private to proofs. The first of lists one after another.
use Rattle.std.proofs.Common.{◌≡◌, true, false, cond, List, [], ◌∷◌, ◌++◌, Option, Some, None, refl, ap, ◌∙◌}
use Rattle.chi_check_types.specs.declared.fault.Fault.{Fault}
use Rattle.chi_check_types.specs.Faults.{first_of, is_sooner, sooner_of}

pub first_of_none : (kept : Option Fault) (fs : List Fault) → fs ≡ [] → first_of kept fs ≡ kept
unfolding first_of
first_of_none kept [] e = refl
first_of_none kept (f ∷ fs) e = absurd (cc)

pub first_of_append : (kept : Option Fault) (fs gs : List Fault) → first_of kept (fs ++ gs) ≡ first_of (first_of kept fs) gs
unfolding first_of
first_of_append kept [] gs = refl
first_of_append kept (f ∷ fs) gs = first_of_append (Some (sooner_of kept f)) fs gs

pub found_first : (kept : Option Fault) (f : Fault) → kept ≡ None → first_of kept (f ∷ []) ≡ Some f
unfolding first_of
found_first kept f e = ap (λ k. Some (sooner_of k f)) e

pub found_sooner : (kept : Option Fault) (k f : Fault) → kept ≡ Some k → is_sooner f k ≡ true → first_of kept (f ∷ []) ≡ Some f
unfolding first_of
found_sooner kept k f e h = ap (λ k. Some (sooner_of k f)) e ∙ ap (λ b. Some (cond b f k)) h

pub found_later : (kept : Option Fault) (k f : Fault) → kept ≡ Some k → is_sooner f k ≡ false → first_of kept (f ∷ []) ≡ Some k
unfolding first_of
found_later kept k f e h = ap (λ k. Some (sooner_of k f)) e ∙ ap (λ b. Some (cond b f k)) h
