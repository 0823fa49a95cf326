-- Two slices at one bound are the list in two parts.
use Rattle.std.proofs.Common.{◌≡◌, ◌≢◌, ℕ, suc, zero, ◌+◌, ◌-◌, Bool, true, false, None, Some, List, [], ◌∷◌, ◌++◌, length, take, drop, min, slice_get, ℤ, pos, negsuc, ◌+ℤ◌, refl, sym, ap, ◌∙◌, arith}
use Rattle.std.proofs.Common.{inl, inr}
use Rattle.std.proofs.lemmas.Bool.{cases_lt}
use Rattle.std.proofs.lemmas.Int.{ints}
use Rattle.std.proofs.Math.Seq.{take-add, take-length}
use Rattle.std.specs.Prelude.{int_lt, if◌then◌else◌}
use Rattle.std.specs.List.{cons_option}
use Rattle.chi_ops.specs.Progression.{comes_before, progression}
use Rattle.chi_ops.specs.Slices.{clamped, elements_at, from_end, slice_of}
use Rattle.chi_ops.proofs.Steps.{not_before_itself, progression_done, progression_more}

moves : pos 1 ≢ pos 0
moves e = absurd (cc)

below : (a b : ℤ) → comes_before (pos 1) a b ≡ int_lt a b
below a b = refl

farther : (p d : ℕ) → int_lt (pos p) (pos (p + suc d)) ≡ true
farther p d = grind (arith, ints)

one_more : {A : Type 0} (xs : List A) (p n : ℕ) → cons_option (slice_get xs p) (take n (drop (suc p) xs)) ≡ take (suc n) (drop p xs)
one_more [] zero zero = refl
one_more [] zero (suc n) = refl
one_more [] (suc p) zero = refl
one_more [] (suc p) (suc n) = refl
one_more (x ∷ xs) zero n = refl
one_more (x ∷ xs) (suc p) n = one_more xs p n

-- from a place to before a later one
stretch : {A : Type 0} (xs : List A) (d p q : ℕ) → p + d ≡ q → elements_at xs (progression (pos p) (pos q) (pos 1)) ≡ take d (drop p xs)
stretch xs zero p q e =
    let same : q ≡ p = omega (arith, e) in
    let none : progression (pos p) (pos q) (pos 1) ≡ [] =
    ap (λ q. progression (pos p) (pos q) (pos 1)) same ∙ progression_done (pos 1) (pos p) (pos p) (not_before_itself (pos 1) (pos p)) in
    ap (elements_at xs) none
stretch xs (suc d) p q e =
    let later : suc p + d ≡ q = omega (arith, e) in
    let before : comes_before (pos 1) (pos p) (pos q) ≡ true = ap (λ q. int_lt (pos p) (pos q)) (sym e) ∙ farther p d in
    let next : pos p +ℤ pos 1 ≡ pos (suc p) = omega (arith, ints) in
    ap (elements_at xs) (progression_more (pos 1) (pos p) (pos q) moves before ∙ ap (λ a. pos p ∷ progression a (pos q) (pos 1)) next) ∙
    ap (cons_option (slice_get xs p)) (stretch xs d (suc p) q later) ∙ one_more xs p d

-- a place between the ends, and how far it is from there to the end
record Between (size : ℕ) (z : ℤ) : Type 0 where
  place : ℕ
  rest : ℕ
  is : clamped (pos 0) (pos size) z ≡ pos place
  whole : place + rest ≡ size

tests : (z low high : ℤ) (under over : Bool) → int_lt z low ≡ under → int_lt high z ≡ over →
    clamped low high z ≡ (if under then low else if over then high else z)
tests z low high under over u o = λ i. if u i then low else if o i then high else z

stand : (size : ℕ) (z : ℤ) → Between size z
stand size (negsuc n) =
    let under : int_lt (negsuc n) (pos 0) ≡ true = grind (arith, ints) in
    record { place = 0; rest = size; is = tests (negsuc n) (pos 0) (pos size) true _ under refl; whole = omega arith }
stand size (pos n) =
    let above : int_lt (pos n) (pos 0) ≡ false = grind (arith, ints) in
    elim (cases_lt size n) [
      | inl far ↦
          let over : int_lt (pos size) (pos n) ≡ true = grind (arith, ints) in
          record { place = size; rest = 0; is = tests (pos n) (pos 0) (pos size) false true above over; whole = omega arith }
      | inr near ↦
          let within : int_lt (pos size) (pos n) ≡ false = grind (arith, ints) in
          record { place = n; rest = size - n; is = tests (pos n) (pos 0) (pos size) false false above within; whole = omega (arith, near) }
    ]

pub halves : {A : Type 0} (xs : List A) (bound : ℤ) → slice_of xs None (Some bound) (pos 1) ++ slice_of xs (Some bound) None (pos 1) ≡ xs
halves xs bound =
    let size = length xs in
    let b = stand size (from_end size bound) in
    let front : slice_of xs None (Some bound) (pos 1) ≡ take b.place xs =
    ap (λ z. elements_at xs (progression (pos 0) z (pos 1))) b.is ∙ stretch xs b.place 0 b.place (omega arith) in
    let back : slice_of xs (Some bound) None (pos 1) ≡ take b.rest (drop b.place xs) =
    ap (λ z. elements_at xs (progression z (pos size) (pos 1))) b.is ∙ stretch xs b.rest b.place size b.whole in
    (λ i. front i ++ back i) ∙ sym (take-add b.place b.rest xs) ∙ ap (λ n. take n xs) b.whole ∙ take-length xs

not_after : (p d : ℕ) → int_lt (pos (p + d)) (pos p) ≡ false
not_after p d = grind (arith, ints)

-- a slice by steps of 1, as so many elements from a place on
pub part_taken : {A : Type 0} (xs : List A) (p q : ℕ) (a b : ℤ) → pos p ≡ a → pos q ≡ b →
    take (q - p) (drop (min p q) xs) ≡ elements_at xs (progression a b (pos 1))
part_taken xs p q a b first last =
    (elim (cases_lt p q) [
      | inl before ↦
          let start : min p q ≡ p = omega (arith, before) in
          ap (λ m. take (q - p) (drop m xs)) start ∙ sym (stretch xs (q - p) p q (omega (arith, before)))
      | inr after ↦
          let none : q - p ≡ 0 = omega (arith, after) in
          let whole : q + (p - q) ≡ p = omega (arith, after) in
          let behind : comes_before (pos 1) (pos p) (pos q) ≡ false = ap (λ k. int_lt (pos k) (pos q)) (sym whole) ∙ not_after q (p - q) in
          ap (λ n. take n (drop (min p q) xs)) none ∙ sym (ap (elements_at xs) (progression_done (pos 1) (pos p) (pos q) behind))
    ]) ∙ (λ i. elements_at xs (progression (first i) (last i) (pos 1)))
