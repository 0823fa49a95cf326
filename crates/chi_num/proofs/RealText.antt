-- Digits without the zeros that end them.
use Rattle.std.proofs.Common.{◌≡◌, ◌≢◌, ℕ, ◌<◌, ◌≤◌, ◌&&◌, Bool, true, false, cond, eqb, List, [], ◌∷◌, ◌++◌, length, refl, ap, arith, rules, replicate}
use Rattle.std.proofs.lemmas.Bool.{ne_eqb, eqb-true}
use Rattle.std.specs.List.{list_all}
use Rattle.chi_num.specs.RealText.{without_last_zeros, trimmed}

-- more zeros change nothing
all_zeros-zero : (cs : List ℕ) → list_all (λ b. eqb b 48) (cs ++ 48 ∷ []) ≡ list_all (λ b. eqb b 48) cs
all_zeros-zero [] = refl
all_zeros-zero (c ∷ cs) = ap (λ b. eqb c 48 && b) (all_zeros-zero cs)

-- one digit that is no zero is enough
all_zeros-other : (cs : List ℕ) (d : ℕ) → eqb d 48 ≡ false → list_all (λ b. eqb b 48) (cs ++ d ∷ []) ≡ false
all_zeros-other [] d h = rw h refl
all_zeros-other (c ∷ cs) d h = rw (all_zeros-other cs d h) (search rules)

-- a zero at the end goes
without_last_zeros-zero : (cs : List ℕ) → without_last_zeros (cs ++ 48 ∷ []) ≡ without_last_zeros cs
without_last_zeros-zero [] = refl
without_last_zeros-zero (c ∷ cs) = rw (all_zeros-zero cs, without_last_zeros-zero cs) refl

-- another digit at the end stays, and so do all before it
without_last_zeros-other : (cs : List ℕ) (d : ℕ) → eqb d 48 ≡ false → without_last_zeros (cs ++ d ∷ []) ≡ cs ++ d ∷ []
without_last_zeros-other [] d h = rw h refl
without_last_zeros-other (c ∷ cs) d h = rw (all_zeros-other cs d h, without_last_zeros-other cs d h) (all c cs d (eqb c 48))
  where
    all : (c : ℕ) (cs : List ℕ) (d : ℕ) (b : Bool) → cond (b && false) [] (c ∷ (cs ++ d ∷ [])) ≡ c ∷ (cs ++ d ∷ [])
    all c cs d true = refl
    all c cs d false = refl

-- how a loop that goes back from the end meets the definition
pub trimmed_zero : (front kept : List ℕ) → 0 < length front → kept ≡ front ++ 48 ∷ [] → trimmed kept ≡ trimmed front
unfolding trimmed
trimmed_zero [] kept some e = absurd (omega arith)
trimmed_zero (c ∷ cs) kept some e = rw (e, without_last_zeros-zero cs) refl

pub trimmed_other : (front kept : List ℕ) (d : ℕ) → d ≢ 48 → kept ≡ front ++ d ∷ [] → trimmed kept ≡ kept
unfolding trimmed
trimmed_other [] kept d h e = rw e refl
trimmed_other (c ∷ cs) kept d h e = rw (e, without_last_zeros-other cs d (ne_eqb d 48 h)) refl

pub trimmed_one : (kept : List ℕ) → length kept ≤ 1 → trimmed kept ≡ kept
unfolding trimmed
trimmed_one [] h = refl
trimmed_one (c ∷ []) h = refl
trimmed_one (c ∷ d ∷ ds) h = absurd (omega arith)

-- digits are those that stay, and then zeros
pub record IsTrimmed (digits kept : List ℕ) : Type 0 where
  pub zeros : ℕ
  pub whole : digits ≡ kept ++ replicate zeros 48

and_both : (a b : Bool) → (a && b) ≡ true → (a ≡ true) × (b ≡ true)
and_both true b e = (refl, e)
and_both false b e = absurd (cc)

all_are_zeros : (ds : List ℕ) → list_all (λ b. eqb b 48) ds ≡ true → ds ≡ replicate (length ds) 48
all_are_zeros [] e = refl
all_are_zeros (d ∷ ds) e =
    let both = and_both (eqb d 48) (list_all (λ b. eqb b 48) ds) e in
    rw (← all_are_zeros ds both.1) (ap (λ x. x ∷ ds) (eqb-true d 48 both.0))

without_last_zeros_is : (cs : List ℕ) → IsTrimmed cs (without_last_zeros cs)
without_last_zeros_is [] = record { zeros = 0; whole = refl }
without_last_zeros_is (c ∷ cs) = cases (list_all (λ b. eqb b 48) (c ∷ cs)) refl (without_last_zeros_is cs)
  where
    cases : (b : Bool) → list_all (λ b. eqb b 48) (c ∷ cs) ≡ b → IsTrimmed cs (without_last_zeros cs) → IsTrimmed (c ∷ cs) (cond b [] (c ∷ without_last_zeros cs))
    cases true e i = record { zeros = length (c ∷ cs); whole = all_are_zeros (c ∷ cs) e }
    cases false e i = record { zeros = i.zeros; whole = ap (λ ds. c ∷ ds) i.whole }

pub trimmed_is : (digits : List ℕ) → IsTrimmed digits (trimmed digits)
unfolding trimmed
trimmed_is [] = record { zeros = 0; whole = refl }
trimmed_is (c ∷ cs) = let i = without_last_zeros_is cs in record { zeros = i.zeros; whole = ap (λ ds. c ∷ ds) i.whole }
