-- The least of some times.
use Rattle.std.proofs.Common.{◌≡◌, ℕ, ◌+◌, ◌<◌, ℤ, List, [], ◌∷◌, ◌++◌, Option, Some, None, length, get_or, drop, sym, ◌∙◌, ap, refl, arith}
use Rattle.std.specs.Int.{int_min}
use Rattle.std.specs.List.{flat_map}
use Rattle.std.proofs.lemmas.Int.{ints, clamps}
use Rattle.std.proofs.lemmas.List.{drop_more, drop_all}
use Rattle.chi_core.specs.Meeting.{least_time}
use Rattle.chi_plain_open.specs.Offered.{sooner}

int_min-assoc : (a b c : ℤ) → int_min a (int_min b c) ≡ int_min (int_min a b) c
int_min-assoc a b c = omega (arith, ints, clamps)

sooner-assoc : (a b c : Option ℤ) → sooner a (sooner b c) ≡ sooner (sooner a b) c
unfolding sooner
sooner-assoc None b c = refl
sooner-assoc (Some t) None c = refl
sooner-assoc (Some t) (Some u) None = refl
sooner-assoc (Some t) (Some u) (Some v) = ap Some (int_min-assoc t u v)

least_time-cons : (t : ℤ) (ts : List ℤ) → least_time (t ∷ ts) ≡ sooner (Some t) (least_time ts)
unfolding sooner
least_time-cons t [] = refl
least_time-cons t (u ∷ us) = refl

least_time-append : (ts us : List ℤ) → least_time (ts ++ us) ≡ sooner (least_time ts) (least_time us)
unfolding sooner
least_time-append [] us = refl
least_time-append (t ∷ ts) us =
    least_time-cons t (ts ++ us) ∙ ap (sooner (Some t)) (least_time-append ts us)
    ∙ sooner-assoc (Some t) (least_time ts) (least_time us) ∙ ap (λ o. sooner o (least_time us)) (sym (least_time-cons t ts))

pub least_time-one : (t : ℤ) (ts : List ℤ) → ts ≡ t ∷ [] → least_time ts ≡ Some t
least_time-one t ts e = ap least_time e

pub sooner-none : (o : Option ℤ) → sooner None o ≡ o
unfolding sooner
sooner-none o = refl

pub sooner-all : {A : Type 0} (f : A → List ℤ) (least : Option ℤ) (xs : List A) (k : ℕ) → length xs ≡ k
    → sooner least (least_time (flat_map f (drop k xs))) ≡ least
unfolding sooner
sooner-all f least xs k e =
    let none : drop k xs ≡ [] = drop_all k xs (omega arith) in
    ap (λ l. sooner least (least_time (flat_map f l))) none ∙ right_none least
  where
    right_none : (o : Option ℤ) → sooner o None ≡ o
    right_none None = refl
    right_none (Some t) = refl

sooner-turn : {A : Type 0} (f : A → List ℤ) (least : Option ℤ) (xs : List A) (k : ℕ) (x : A) → k < length xs → x ≡ get_or xs k x
    → sooner least (least_time (flat_map f (drop k xs))) ≡ sooner (sooner least (least_time (f x))) (least_time (flat_map f (drop (k + 1) xs)))
sooner-turn f least xs k x h at =
    ap (λ l. sooner least (least_time (flat_map f l))) (drop_more xs k x h ∙ ap (λ y. y ∷ drop (k + 1) xs) (sym at))
    ∙ ap (sooner least) (least_time-append (f x) (flat_map f (drop (k + 1) xs)))
    ∙ sooner-assoc least (least_time (f x)) (least_time (flat_map f (drop (k + 1) xs)))

-- one more element, after which the least is `new`
pub least-turn : {A : Type 0} (f : A → List ℤ) (least new piece total : Option ℤ) (xs : List A) (k : ℕ) (x : A) → k < length xs
    → x ≡ get_or xs k x → piece ≡ least_time (f x) → new ≡ sooner least piece
    → sooner least (least_time (flat_map f (drop k xs))) ≡ total → sooner new (least_time (flat_map f (drop (k + 1) xs))) ≡ total
least-turn f least new piece total xs k x h at of_piece of_new before =
    ap (λ o. sooner o (least_time (flat_map f (drop (k + 1) xs)))) (of_new ∙ ap (sooner least) of_piece)
    ∙ sym (sooner-turn f least xs k x h at) ∙ before

pub least_time-none : (ts : List ℤ) → ts ≡ [] → None ≡ least_time ts
least_time-none ts e = sym (ap least_time e)

pub ruleset steps = (sooner-none, sooner-all)
