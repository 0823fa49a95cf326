-- What a walk keeps, and what is done along it.
use Rattle.std.proofs.Common.{◌≡◌, ◌≢◌, ◌≤◌, ◌^◌, ℕ, Bool, true, false, List, [], ◌∷◌, ◌++◌, map, slice_get, ℤ, pos, ◌+ℤ◌, refl, sym, ap, ◌∙◌, subst, append_assoc, append-nil, arith}
use Rattle.std.proofs.lemmas.Int.{to_z-of_z}
use Rattle.std.proofs.lemmas.Bool.Decides.{Decides-int_eq, nat_tests}
use Rattle.std.specs.Ordering.{int_eq}
use Rattle.std.specs.Prelude.{unsigned_abs, option_to_list, nat_le, if◌then◌else◌}
use Rattle.chi_value.specs.declared.value.Value.{Value}
use Rattle.chi_value.specs.declared.value.Value.TheVariants as value
use Rattle.chi_ops.specs.declared.walk.Walk.{Walk}
use Rattle.chi_ops.specs.Outcome.{gives, faults, gives_within, step_fault, limit_fault}
use Rattle.chi_ops.specs.Progression.{comes_before, count_from, progression}
use Rattle.chi_ops.specs.Sequences.{range}
use Rattle.chi_ops.specs.Slices.{elements_at}
use Rattle.chi_ops.specs.Walking.{rest_of, IsWalk}
use Rattle.chi_ops.proofs.Steps.{between, cons_option_is, goes_on, progression_done, progression_more}

-- a number of 128 bits is passed as it is
pub ruleset passed = (to_z-of_z)

-- no number of a walk is far out
pub near : (w : Walk) → IsWalk w → comes_before w.by w.next w.last ≡ true → unsigned_abs w.next ≤ 2 ^ 64
near w is before = between w.by w.next w.first w.last (2 ^ 64) before is.ahead is.first is.last

pub walk_on : (w : Walk) (next : ℤ) → IsWalk w → next ≡ w.next +ℤ w.by → IsWalk (record w { next = next })
walk_on w next is e = record {
  moves = is.moves;
  step = is.step;
  first = is.first;
  last = is.last;
  ahead = subst (λ n. comes_before w.by n w.first ≡ false) (sym e) (goes_on w.by w.next w.first is.ahead);
}

pub one_more : (w : Walk) (n next : ℤ) → IsWalk w → comes_before w.by w.next w.last ≡ true → n ≡ w.next → next ≡ w.next +ℤ w.by →
    rest_of w ≡ n ∷ rest_of (record w { next = next })
one_more w n next is before at e =
    progression_more w.by w.next w.last is.moves before ∙ (λ i. sym at i ∷ progression (sym e i) w.last w.by)

pub no_more : (w : Walk) → comes_before w.by w.next w.last ≡ false → rest_of w ≡ []
no_more w before = progression_done w.by w.next w.last before

-- the element at one more place
pub taken_more : {A : Type 0} (items : List A) (place : ℤ) (rest rest' : List ℤ) (taken taken' whole : List A) → rest ≡ place ∷ rest' →
    taken' ≡ taken ++ option_to_list (slice_get items (unsigned_abs place)) →
    taken ++ elements_at items rest ≡ whole → taken' ++ elements_at items rest' ≡ whole
taken_more items place rest rest' taken taken' whole is pushed so_far =
    let x = slice_get items (unsigned_abs place) in
    ap (λ t. t ++ elements_at items rest') pushed ∙
    append_assoc taken (option_to_list x) (elements_at items rest') ∙
    ap (λ e. taken ++ e) (sym (ap (elements_at items) is ∙ cons_option_is x (elements_at items rest'))) ∙ so_far

-- one more int
pub ints_more : (n : ℤ) (rest rest' : List ℤ) (ints ints' whole : List Value) → rest ≡ n ∷ rest' → ints' ≡ ints ++ value.Int n ∷ [] →
    ints ++ map value.Int rest ≡ whole → ints' ++ map value.Int rest' ≡ whole
ints_more n rest rest' ints ints' whole is pushed so_far =
    ap (λ t. t ++ map value.Int rest') pushed ∙
    append_assoc ints (value.Int n ∷ []) (map value.Int rest') ∙
    ap (λ e. ints ++ map value.Int e) (sym is) ∙ so_far

pub ints_done : (rest : List ℤ) (ints whole : List Value) → rest ≡ [] → ints ++ map value.Int rest ≡ whole → ints ≡ whole
ints_done rest ints whole is so_far = sym (append-nil ints) ∙ ap (λ r. ints ++ map value.Int r) (sym is) ∙ so_far

tests_within : (m n : ℕ) → m ≤ n → nat_le m n ≡ true
tests_within m n h = grind (arith, nat_tests)

tests_some : (by : ℤ) → by ≢ pos 0 → (test : Bool) → int_eq by (pos 0) ≡ test → test ≡ false
tests_some by moves true e = absurd (moves ((Decides-int_eq by (pos 0)).0 e))
tests_some by moves false e = refl

-- a range of so many ints
pub range_gives : (first last by : ℤ) (items : List Value) → by ≢ pos 0 → count_from first last by ≤ 1_048_576 →
    items ≡ map value.Int (progression first last by) → range first last by ≡ gives (value.ListOf items)
range_gives first last by items moves within is =
    let count = count_from first last by in
    let ints = value.ListOf (map value.Int (progression first last by)) in
    ap (λ t. if t then faults step_fault else gives_within count ints) (tests_some by moves (int_eq by (pos 0)) refl) ∙
    ap (λ t. if t then gives ints else faults limit_fault) (tests_within count 1_048_576 within) ∙
    ap (λ xs. gives (value.ListOf xs)) (sym is)

-- a walk along the numbers that are passed
pub as_they_are : (w : Walk) (first last by first' last' by' : ℤ) → rest_of w ≡ progression first' last' by' →
    first' ≡ first → last' ≡ last → by' ≡ by → rest_of w ≡ progression first last by
as_they_are w first last by first' last' by' is f l b = is ∙ (λ i. progression (f i) (l i) (b i))
