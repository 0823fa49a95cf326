-- What a slice or a range has: no more elements than the whole, each of which is one of those, or so many ints.
use Rattle.std.proofs.Common.{◌≡◌, ◌≢◌, ℕ, zero, suc, ◌+◌, ◌-◌, ◌*◌, ◌/◌, ◌<◌, ◌≤◌, Bool, true, false, cond, Option, None, Some, List, length, ℤ, pos, negsuc, ◌+ℤ◌, ◌-ℤ◌, ◌<ℤ◌, ◌≤ℤ◌, refl, sym, ap, subst, arith}
use Rattle.std.proofs.lemmas.Int.{ints}
use Rattle.std.proofs.Math.Nat.{div-lt_iff_lt-mul, le-mul_of_pos_right, suc-mul}
use Rattle.std.specs.Int.Signed.{lt_z_yes, lt_z_no}
use Rattle.std.specs.Prelude.{T, not, int_lt, unsigned_abs, slice_get}
use Rattle.chi_ops.specs.Progression.{numbers, comes_before, steps_over, count_from}
use Rattle.chi_ops.specs.Slices.{clamped, from_end, bound_or, first_place, last_place, slice_places, slice_of}
use Rattle.chi_core.specs.Kinds.{Every}
use Rattle.chi_core_kinds.proofs.Elements.{anything, every_chosen, length_chosen}

-- so many numbers

pub length_numbers : (first by : ℤ) (count : ℕ) → length (numbers first by count) ≡ count
unfolding numbers
length_numbers first by zero = refl
length_numbers first by (suc count) = ap suc (length_numbers (first +ℤ by) by count)

less : (a b : ℤ) → int_lt a b ≡ true → a <ℤ b
less a b h = lt_z_yes (subst T (sym h) tt)

not_less : (a b : ℤ) → int_lt a b ≡ false → b ≤ℤ a
not_less a b h = lt_z_no (subst (λ x. T (not x)) (sym h) tt)

-- no more steps than the distance
few_steps : (distance size : ℕ) → 0 < size → steps_over distance size ≤ distance
few_steps distance size some =
    let wide = le-mul_of_pos_right distance some in
    let whole = suc-mul distance size in
    let below : distance + size - 1 < suc distance * size = omega (arith, wide, whole, some) in
    let fits : (distance + size - 1) / size < suc distance = (div-lt_iff_lt-mul some).1 below in
    omega (arith, fits)

few_from : (first last by : ℤ) → by ≢ pos 0 → count_from first last by ≤ unsigned_abs (last -ℤ first)
few_from first last by moves = decided (comes_before by first last)
  where
    decided : (b : Bool) → cond b (steps_over (unsigned_abs (last -ℤ first)) (unsigned_abs by)) 0 ≤ unsigned_abs (last -ℤ first)
    decided true = few_steps (unsigned_abs (last -ℤ first)) (unsigned_abs by) (omega (arith, ints, moves))
    decided false = omega arith

-- where a slice begins and ends

module _ (low high : ℤ) (h : low ≤ℤ high) where
  clamped_within : (z : ℤ) → (low ≤ℤ clamped low high z) × (clamped low high z ≤ℤ high)
  clamped_within z = decided (int_lt z low) (int_lt high z) (not_less z low) (not_less high z)
    where
      decided : (b c : Bool) → (b ≡ false → low ≤ℤ z) → (c ≡ false → z ≤ℤ high) → (low ≤ℤ cond b low (cond c high z)) × (cond b low (cond c high z) ≤ℤ high)
      decided true c k l = (omega (arith, ints), h)
      decided false true k l = (h, omega (arith, ints))
      decided false false k l = (k refl, l refl)

  bound_within : (otherwise : ℤ) (size : ℕ) (bound : Option ℤ) → low ≤ℤ otherwise → otherwise ≤ℤ high
      → (low ≤ℤ bound_or otherwise low high size bound) × (bound_or otherwise low high size bound ≤ℤ high)
  bound_within otherwise size None k l = (k, l)
  bound_within otherwise size (Some bound) k l = clamped_within (from_end size bound)

-- both ends are places of the whole, or one beside it
few_places : (size : ℕ) (first last : Option ℤ) (by : ℤ) → unsigned_abs (last_place size last by -ℤ first_place size first by) ≤ size
few_places size first last by = decided (int_lt by (pos 0))
  where
    decided : (b : Bool) → unsigned_abs (
        cond b (bound_or (negsuc 0) (negsuc 0) (pos size -ℤ pos 1) size last) (bound_or (pos size) (pos 0) (pos size) size last)
        -ℤ cond b (bound_or (pos size -ℤ pos 1) (negsuc 0) (pos size -ℤ pos 1) size first) (bound_or (pos 0) (pos 0) (pos size) size first)) ≤ size
    decided true =
        let end = pos size -ℤ pos 1 in
        let whole : negsuc 0 ≤ℤ end = omega (arith, ints) in
        let a = bound_within (negsuc 0) end whole end size first whole (omega (arith, ints)) in
        let b = bound_within (negsuc 0) end whole (negsuc 0) size last (omega (arith, ints)) whole in
        let c = a.0 in let d = a.1 in let e = b.0 in let f = b.1 in
        omega (arith, ints, c, d, e, f)
    decided false =
        let whole : pos 0 ≤ℤ pos size = omega (arith, ints) in
        let a = bound_within (pos 0) (pos size) whole (pos 0) size first (omega (arith, ints)) whole in
        let b = bound_within (pos 0) (pos size) whole (pos size) size last whole (omega (arith, ints)) in
        let c = a.0 in let d = a.1 in let e = b.0 in let f = b.1 in
        omega (arith, ints, c, d, e, f)

-- the elements of a slice

module _ {A : Type 0} (xs : List A) (first last : Option ℤ) (by : ℤ) where
  pub length_slice : by ≢ pos 0 → length (slice_of xs first last by) ≤ length xs
  length_slice moves =
      let start = first_place (length xs) first by in
      let end = last_place (length xs) last by in
      let places = slice_places (length xs) first last by in
      let taken = length_chosen (λ (place : ℤ). slice_get xs (unsigned_abs place)) places in
      let all = length_numbers start by (count_from start end by) in
      let few = few_from start end by moves in
      let near = few_places (length xs) first last by in
      omega (arith, taken, all, few, near)

  pub every_slice : (P : A → Type 0) → Every P xs → Every P (slice_of xs first last by)
  every_slice P each =
      every_chosen (λ (p : ℤ). Unit {0}) P (λ place. slice_get xs (unsigned_abs place)) (λ place x u e. each (unsigned_abs place) x e)
      (slice_places (length xs) first last by) (anything (slice_places (length xs) first last by))
