-- Private to proofs. The parts of short lists of arguments.
use Rattle.std.proofs.Common.{◌≡◌, ℕ, List, [], ◌∷◌, length, get_or, Option, Some, None, false, ◌&&◌, refl, sym, ap, arith}
use Rattle.std.specs.List.{remove}
use Rattle.chi_check_types.specs.declared.meant.Made.{Made}
use Rattle.chi_types.specs.declared.ty.Ty.{Ty}
use Rattle.chi_types.specs.declared.ty.Ty.TheVariants as ty
use Rattle.chi_types.specs.Same.{same}
use Rattle.chi_check_expr_rules.specs.PredefinedCalls.{only, pair, before_third, tells_order}

pub only_of_others : (ms : List Made) → (length ms ≡ 1 → ⊥) → only ms ≡ None
only_of_others [] h = refl
only_of_others (a ∷ []) h = absurd (h refl)
only_of_others (a ∷ b ∷ ms) h = refl

pub only_of_one : (ms : List Made) (m : Made) → length ms ≡ 1 → m ≡ get_or ms 0 m → only ms ≡ Some m
only_of_one [] m h e = absurd (omega arith)
only_of_one (a ∷ []) m h e = cc
only_of_one (a ∷ b ∷ ms) m h e = absurd (omega arith)

pub pair_of_others : (ms : List Made) → (length ms ≡ 2 → ⊥) → pair ms ≡ None
pair_of_others [] h = refl
pair_of_others (a ∷ []) h = refl
pair_of_others (a ∷ b ∷ []) h = absurd (h refl)
pair_of_others (a ∷ b ∷ c ∷ ms) h = refl

pub pair_of_two : (ms rest : List Made) (m n : Made) → length ms ≡ 2 → m ≡ get_or ms 0 m → rest ≡ remove ms 0 → n ≡ get_or rest 0 n → pair ms ≡ Some (m, n)
pair_of_two [] rest m n h e r f = absurd (omega arith)
pair_of_two (a ∷ []) rest m n h e r f = absurd (omega arith)
pair_of_two (a ∷ b ∷ []) rest m n h e r f =
    let k : get_or rest 0 n ≡ b = ap (λ xs. get_or xs 0 n) r in
    cc
pair_of_two (a ∷ b ∷ c ∷ ms) rest m n h e r f = absurd (omega arith)

pub first_two_of_others : (ms : List (Option Made)) → (length ms ≡ 3 → ⊥) → before_third ms ≡ None
first_two_of_others [] h = refl
first_two_of_others (a ∷ []) h = refl
first_two_of_others (a ∷ b ∷ []) h = refl
first_two_of_others (a ∷ b ∷ c ∷ []) h = absurd (h refl)
first_two_of_others (a ∷ b ∷ c ∷ d ∷ ms) h = refl

pub first_two_of_three : (ms rest : List (Option Made)) (m n : Option Made) → length ms ≡ 3 → m ≡ get_or ms 0 m → rest ≡ remove ms 0 → n ≡ get_or rest 0 n → before_third ms ≡ Some (m, n)
first_two_of_three [] rest m n h e r f = absurd (omega arith)
first_two_of_three (a ∷ []) rest m n h e r f = absurd (omega arith)
first_two_of_three (a ∷ b ∷ []) rest m n h e r f = absurd (omega arith)
first_two_of_three (a ∷ b ∷ c ∷ []) rest m n h e r f =
    let k : get_or rest 0 n ≡ b = ap (λ xs. get_or xs 0 n) r in
    cc
first_two_of_three (a ∷ b ∷ c ∷ d ∷ ms) rest m n h e r f = absurd (omega arith)

pub tells_of_others : (t : Ty) (params : List Ty) (result : Ty) → (length params ≡ 2 → ⊥) → tells_order t params result ≡ false
tells_of_others t [] result h = refl
tells_of_others t (a ∷ []) result h = refl
tells_of_others t (a ∷ b ∷ []) result h = absurd (h refl)
tells_of_others t (a ∷ b ∷ c ∷ params) result h = refl

pub tells_of_two : (t : Ty) (params : List Ty) (result a b : Ty) → length params ≡ 2 → a ≡ get_or params 0 a → b ≡ get_or params 1 b
    → tells_order t params result ≡ (same a t && same b t && same result ty.Bool)
tells_of_two t [] result a b n at next = absurd (omega arith)
tells_of_two t (x ∷ []) result a b n at next = absurd (omega arith)
tells_of_two t (x ∷ y ∷ []) result a b n at next = λ i. same (sym at i) t && same (sym next i) t && same result ty.Bool
tells_of_two t (x ∷ y ∷ z ∷ params) result a b n at next = absurd (omega arith)
