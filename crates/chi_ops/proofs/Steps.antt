-- A progression, step by step.
use Rattle.std.proofs.Common.{◌≡◌, ◌≢◌, ℕ, suc, zero, ◌+◌, ◌-◌, ◌*◌, ◌/◌, ◌%◌, ◌<◌, ◌≤◌, Bool, true, false, Option, None, Some, List, [], ◌∷◌, ◌++◌, ℤ, pos, ◌+ℤ◌, ◌-ℤ◌, ◌<ℤ◌, ◌≤ℤ◌, FitsSigned, w64, refl, sym, ap, ◌∙◌, subst, arith}
use Rattle.std.proofs.lemmas.Bool.{cases_lt}
use Rattle.std.proofs.Common.{inl, inr}
use Rattle.std.proofs.lemmas.Int.{ints}
use Rattle.std.proofs.lemmas.Nat.{div-mul-add, div-add-mod'}
use Rattle.std.proofs.Math.Nat.{suc-mul}
use Rattle.std.specs.Int.Signed.{lt_z_yes, lt_z_no}
use Rattle.std.specs.Prelude.{T, not, int_lt, unsigned_abs, negsuc, option_to_list, if◌then◌else◌}
use Rattle.std.specs.List.{cons_option}
use Rattle.chi_ops.specs.Progression.{numbers, comes_before, steps_over, count_from, progression}

-- steps over a distance

regroup : (d s qs r : ℕ) → qs + r ≡ d - 1 → 0 < d → d + s - 1 ≡ qs + s + r
regroup d s qs r parts far = omega (arith, parts, far)

steps_is : (d s : ℕ) → 0 < s → 0 < d → steps_over d s ≡ suc ((d - 1) / s)
steps_is d s some far =
    let q = (d - 1) / s in
    let r = (d - 1) % s in
    let below : r < s = omega (arith, some) in
    let whole : d + s - 1 ≡ suc q * s + r = regroup d s (q * s) r (div-add-mod' (d - 1) s) far ∙ ap (λ n. n + r) (sym (suc-mul q s)) in
    ap (λ n. n / s) whole ∙ div-mul-add (suc q) s r below

small_over : (n s : ℕ) → n < s → n / s ≡ 0
small_over n s below =
    let zeros : n ≡ 0 * s + n = omega arith in
    ap (λ m. m / s) zeros ∙ div-mul-add 0 s n below

steps_none : (s : ℕ) → 0 < s → steps_over 0 s ≡ 0
steps_none s some =
    let less : 0 + s - 1 < s = omega (arith, some) in
    small_over (0 + s - 1) s less

-- from a distance above 0 the steps are one more than those from what a step leaves
steps_more : (d s : ℕ) → 0 < s → 0 < d → steps_over d s ≡ suc (steps_over (d - s) s)
steps_more d s some far =
    steps_is d s some far ∙ ap suc (elim (cases_lt d s) [
      | inl less ↦
          let small : d - 1 < s = omega (arith, less) in
          let gone : d - s ≡ 0 = omega (arith, less) in
          small_over (d - 1) s small ∙ sym (ap (λ n. steps_over n s) gone ∙ steps_none s some)
      | inr more ↦
          let rest : d - 1 ≡ d - s + s - 1 = omega (arith, more, far, some) in
          ap (λ n. n / s) rest
    ])

-- tests of order

less : (a b : ℤ) → int_lt a b ≡ true → a <ℤ b
less a b h = lt_z_yes (subst T (sym h) tt)

not_less : (a b : ℤ) → int_lt a b ≡ false → b ≤ℤ a
not_less a b h = lt_z_no (subst (λ x. T (not x)) (sym h) tt)

far : (down : Bool) (a b : ℤ) → (if down then int_lt b a else int_lt a b) ≡ true → 0 < unsigned_abs (b -ℤ a)
far true a b h = let p = less b a h in omega (arith, ints, p)
far false a b h = let p = less a b h in omega (arith, ints, p)

-- one step nearer
nearer : (down : Bool) (by a b : ℤ) → int_lt by (pos 0) ≡ down → (if down then int_lt b a else int_lt a b) ≡ true →
    (if down then int_lt b (a +ℤ by) else int_lt (a +ℤ by) b) ≡ true →
    unsigned_abs (b -ℤ (a +ℤ by)) ≡ unsigned_abs (b -ℤ a) - unsigned_abs by
nearer true by a b e h k =
    let sign = less by (pos 0) e in
    let p = less b a h in
    let q = less b (a +ℤ by) k in
    omega (arith, ints, sign, p, q)
nearer false by a b e h k =
    let sign = not_less by (pos 0) e in
    let p = less a b h in
    let q = less (a +ℤ by) b k in
    omega (arith, ints, sign, p, q)

-- a step that reaches the end
reached : (down : Bool) (by a b : ℤ) → int_lt by (pos 0) ≡ down → (if down then int_lt b a else int_lt a b) ≡ true →
    (if down then int_lt b (a +ℤ by) else int_lt (a +ℤ by) b) ≡ false →
    unsigned_abs (b -ℤ a) - unsigned_abs by ≡ 0
reached true by a b e h k =
    let sign = less by (pos 0) e in
    let p = less b a h in
    let q = not_less b (a +ℤ by) k in
    omega (arith, ints, sign, p, q)
reached false by a b e h k =
    let sign = not_less by (pos 0) e in
    let p = less a b h in
    let q = not_less (a +ℤ by) b k in
    omega (arith, ints, sign, p, q)

some_size : (by : ℤ) → by ≢ pos 0 → 0 < unsigned_abs by
some_size (pos zero) h = absurd (h refl)
some_size (pos (suc n)) h = omega (arith, ints)
some_size (negsuc n) h = omega (arith, ints)

-- what is counted from the next int on
count_next : (next : Bool) (by a b : ℤ) → by ≢ pos 0 → comes_before by a b ≡ true → comes_before by (a +ℤ by) b ≡ next →
    steps_over (unsigned_abs (b -ℤ a) - unsigned_abs by) (unsigned_abs by) ≡
    (if next then steps_over (unsigned_abs (b -ℤ (a +ℤ by))) (unsigned_abs by) else 0)
count_next true by a b moves h k =
    ap (λ n. steps_over n (unsigned_abs by)) (sym (nearer (int_lt by (pos 0)) by a b refl h k))
count_next false by a b moves h k =
    ap (λ n. steps_over n (unsigned_abs by)) (reached (int_lt by (pos 0)) by a b refl h k) ∙ steps_none (unsigned_abs by) (some_size by moves)

counted : (before : Bool) (by a b : ℤ) → comes_before by a b ≡ before →
    count_from a b by ≡ (if before then steps_over (unsigned_abs (b -ℤ a)) (unsigned_abs by) else 0)
counted before by a b h = ap (λ x. if x then steps_over (unsigned_abs (b -ℤ a)) (unsigned_abs by) else 0) h

pub count_more : (by a b : ℤ) → by ≢ pos 0 → comes_before by a b ≡ true → count_from a b by ≡ suc (count_from (a +ℤ by) b by)
count_more by a b moves h =
    counted true by a b h ∙
    steps_more (unsigned_abs (b -ℤ a)) (unsigned_abs by) (some_size by moves) (far (int_lt by (pos 0)) a b h) ∙
    ap suc (count_next (comes_before by (a +ℤ by) b) by a b moves h refl)

pub count_less : (by a b : ℤ) → by ≢ pos 0 → comes_before by a b ≡ true → count_from (a +ℤ by) b by < count_from a b by
count_less by a b moves h = let more = count_more by a b moves h in omega (arith, more)

numbers_next : (by a : ℤ) (m n : ℕ) → m ≡ suc n → numbers a by m ≡ a ∷ numbers (a +ℤ by) by n
unfolding numbers
numbers_next by a m n e = ap (numbers a by) e

numbers_none : (by a : ℤ) (m : ℕ) → m ≡ 0 → numbers a by m ≡ []
unfolding numbers
numbers_none by a m e = ap (numbers a by) e

-- the first, and then those from the next on
pub progression_more : (by a b : ℤ) → by ≢ pos 0 → comes_before by a b ≡ true → progression a b by ≡ a ∷ progression (a +ℤ by) b by
progression_more by a b moves h = numbers_next by a (count_from a b by) (count_from (a +ℤ by) b by) (count_more by a b moves h)

pub progression_done : (by a b : ℤ) → comes_before by a b ≡ false → progression a b by ≡ []
progression_done by a b h = numbers_none by a (count_from a b by) (counted false by a b h)

pub cons_option_is : {A : Type 0} (x : Option A) (xs : List A) → cons_option x xs ≡ option_to_list x ++ xs
cons_option_is None xs = refl
cons_option_is (Some x) xs = refl

-- where an int stands that doesn't come before the first, and comes before the last

between_by : (down : Bool) (a first last : ℤ) (most : ℕ) → (if down then int_lt last a else int_lt a last) ≡ true →
    (if down then int_lt first a else int_lt a first) ≡ false →
    unsigned_abs first ≤ most → unsigned_abs last ≤ most → unsigned_abs a ≤ most
between_by true a first last most h k p q =
    let after = less last a h in
    let upto = not_less first a k in
    omega (arith, ints, after, upto, p, q)
between_by false a first last most h k p q =
    let before = less a last h in
    let from = not_less a first k in
    omega (arith, ints, before, from, p, q)

pub between : (by a first last : ℤ) (most : ℕ) → comes_before by a last ≡ true → comes_before by a first ≡ false →
    unsigned_abs first ≤ most → unsigned_abs last ≤ most → unsigned_abs a ≤ most
between by a first last most = between_by (int_lt by (pos 0)) a first last most

fits_by : (down : Bool) (a first last : ℤ) → (if down then int_lt last a else int_lt a last) ≡ true →
    (if down then int_lt first a else int_lt a first) ≡ false → FitsSigned w64 first → FitsSigned w64 last → FitsSigned w64 a
fits_by true a first last h k p q =
    let after = less last a h in
    let upto = not_less first a k in
    omega (arith, ints, after, upto, p, q)
fits_by false a first last h k p q =
    let before = less a last h in
    let from = not_less a first k in
    omega (arith, ints, before, from, p, q)

pub fits_between : (by a first last : ℤ) → comes_before by a last ≡ true → comes_before by a first ≡ false →
    FitsSigned w64 first → FitsSigned w64 last → FitsSigned w64 a
fits_between by a first last = fits_by (int_lt by (pos 0)) a first last

abbrev Behind : Bool → ℤ → ℤ → Type 0
Behind true x y = x ≤ℤ y
Behind false x y = y ≤ℤ x

not_before : (down : Bool) (x y : ℤ) → Behind down x y → (if down then int_lt y x else int_lt x y) ≡ false
not_before true x y h = grind (arith, ints)
not_before false x y h = grind (arith, ints)

onward : (down : Bool) (by a first : ℤ) → int_lt by (pos 0) ≡ down → (if down then int_lt first a else int_lt a first) ≡ false →
    Behind down (a +ℤ by) first
onward true by a first e k =
    let sign = less by (pos 0) e in
    let upto = not_less first a k in
    omega (arith, ints, sign, upto)
onward false by a first e k =
    let sign = not_less by (pos 0) e in
    let from = not_less a first k in
    omega (arith, ints, sign, from)

-- a step leads no nearer to what is behind
pub goes_on : (by a first : ℤ) → comes_before by a first ≡ false → comes_before by (a +ℤ by) first ≡ false
goes_on by a first k =
    not_before (int_lt by (pos 0)) (a +ℤ by) first (onward (int_lt by (pos 0)) by a first refl k)

not_before_at : (down : Bool) (a : ℤ) → (if down then int_lt a a else int_lt a a) ≡ false
not_before_at true a = grind (arith, ints)
not_before_at false a = grind (arith, ints)

pub not_before_itself : (by a : ℤ) → comes_before by a a ≡ false
not_before_itself by a = not_before_at (int_lt by (pos 0)) a
