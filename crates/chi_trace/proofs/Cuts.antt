-- A line is cut at its spaces in one way.
use Rattle.std.proofs.Common.{◌≡◌, ℕ, ◌+◌, ◌≤◌, ◌&&◌, suc, Bool, true, false, cond, eqb, List, [], ◌∷◌, ◌++◌, length, take, drop, refl, ap, sym, ◌∙◌, Option, Some, None, arith, append_assoc}
use Rattle.std.specs.Prelude.{◌==◌, option_and_then, unwrap_or}
use Rattle.std.specs.List.{list_all, prefix_len}
use Rattle.std.proofs.lemmas.Bool.{eqb-true}
use Rattle.std.proofs.lemmas.List.{take-append-drop}
use Rattle.std.proofs.lemmas.List.Sums.{prefix_len-le-length}
use Rattle.std.proofs.Math.Seq.{take-append_seam, drop-append_seam}
use Rattle.chi_trace.specs.Told.{is_part_byte, front, after, part_told}

-- there is no space in it
abbrev pub IsPart : List ℕ → Type 0
IsPart part = list_all is_part_byte part ≡ true

-- it has ended, or goes on with a space
abbrev pub IsRest : List ℕ → Type 0
IsRest [] = Unit {0}
IsRest (c ∷ cs) = c ≡ 32

pub and_both : (a b : Bool) → (a && b) ≡ true → (a ≡ true) × (b ≡ true)
and_both true b e = (refl, e)
and_both false b e = absurd (cc)

pub both_and : (a b : Bool) → a ≡ true → b ≡ true → (a && b) ≡ true
both_and a b x y = rw (x, y) refl

pub then_some : {A B : Type 0} (o : Option A) (f : A → Option B) (b : B) → option_and_then f o ≡ Some b → (a : A) × (o ≡ Some a) × (f a ≡ Some b)
then_some None f b e = absurd (cc)
then_some (Some a) f b e = (a, refl, e)

pub some_same : {A : Type 0} (x y : A) → Some x ≡ Some y → x ≡ y
some_same x y e = ap (λ o. unwrap_or o x) e

pub some_pair : {A B : Type 0} (a p : A) (b r : B) → ◌≡◌ {A = Option (A × B)} (Some (a, b)) (Some (p, r)) → (a ≡ p) × (b ≡ r)
some_pair {A} {B} a p b r e =
    let same = some_same {A = A × B} (a, b) (p, r) e in
    (ap (λ (x : A × B). x.0) same, ap (λ (x : A × B). x.1) same)

-- bytes that pass a test which a space fails
part_byte : (test : ℕ → Bool) → test 32 ≡ false → (c : ℕ) → test c ≡ true → is_part_byte c ≡ true
part_byte test fails c passes = by (c == 32) refl
  where
    by : (b : Bool) → (c == 32) ≡ b → is_part_byte c ≡ true
    by false q = rw q refl
    by true q = let same : c ≡ 32 = eqb-true c 32 q in let no : true ≡ false = sym passes ∙ ap test same ∙ fails in absurd (cc)

pub part_of : (test : ℕ → Bool) → test 32 ≡ false → (xs : List ℕ) → list_all test xs ≡ true → IsPart xs
part_of test fails [] e = refl
part_of test fails (c ∷ cs) e =
    let both = and_both (test c) (list_all test cs) e in
    both_and (is_part_byte c) (list_all is_part_byte cs) (part_byte test fails c both.0) (part_of test fails cs both.1)

pub part-append : (xs ys : List ℕ) → IsPart xs → IsPart ys → IsPart (xs ++ ys)
part-append [] ys x y = y
part-append (c ∷ cs) ys x y =
    let both = and_both (is_part_byte c) (list_all is_part_byte cs) x in
    both_and (is_part_byte c) (list_all is_part_byte (cs ++ ys)) both.0 (part-append cs ys both.1 y)

prefix_len-part : (part rest : List ℕ) → IsPart part → IsRest rest → prefix_len is_part_byte (part ++ rest) ≡ length part
prefix_len-part [] [] are is = refl
prefix_len-part [] (c ∷ cs) are is = rw is refl
prefix_len-part (c ∷ cs) rest are is =
    let both = and_both (is_part_byte c) (list_all is_part_byte cs) are in
    let more = prefix_len-part cs rest both.1 is in
    let first : cond (is_part_byte c) (1 + prefix_len is_part_byte (cs ++ rest)) 0 ≡ 1 + prefix_len is_part_byte (cs ++ rest) =
    ap (λ b. cond b (1 + prefix_len is_part_byte (cs ++ rest)) 0) both.0 in
    first ∙ omega (arith, more)

pub front-part : (part rest : List ℕ) → IsPart part → IsRest rest → front (part ++ rest) ≡ part
front-part part rest are is = ap (λ n. take n (part ++ rest)) (prefix_len-part part rest are is) ∙ take-append_seam part rest

pub after-part : (part rest : List ℕ) → IsPart part → IsRest rest → after (part ++ rest) ≡ rest
after-part part rest are is = ap (λ n. drop n (part ++ rest)) (prefix_len-part part rest are is) ∙ drop-append_seam part rest

pub front_within : (text : List ℕ) → prefix_len is_part_byte text ≤ length text
front_within text = prefix_len-le-length is_part_byte text

pub part_forth : (part rest : List ℕ) → IsPart part → IsRest rest → part_told (32 ∷ (part ++ rest)) ≡ Some (part, rest)
unfolding part_told
part_forth part rest are is =
    ap (λ p. Some (p, after (part ++ rest))) (front-part part rest are is) ∙ ap (λ r. Some (part, r)) (after-part part rest are is)

-- the same where more parts follow in a list of them
pub part_in : (part tail rest : List ℕ) → IsPart part → IsRest (tail ++ rest) → part_told (32 ∷ ((part ++ tail) ++ rest)) ≡ Some (part, tail ++ rest)
part_in part tail rest are is = rw (append_assoc part tail rest) (part_forth part (tail ++ rest) are is)

pub part_back : (text part rest : List ℕ) → part_told text ≡ Some (part, rest) → text ≡ 32 ∷ (part ++ rest)
unfolding part_told
part_back [] part rest e = absurd (cc)
part_back (c ∷ cs) part rest e = by (c == 32) refl
  where
    by : (b : Bool) → (c == 32) ≡ b → c ∷ cs ≡ 32 ∷ (part ++ rest)
    by false q = let none : ◌≡◌ {A = Option (List ℕ × List ℕ)} None (Some (part, rest)) = sym (ap (λ b. cond b (Some (front cs, after cs)) None) q) ∙ e in absurd (cc)
    by true q =
        let some : ◌≡◌ {A = Option (List ℕ × List ℕ)} (Some (front cs, after cs)) (Some (part, rest)) = sym (ap (λ b. cond b (Some (front cs, after cs)) None) q) ∙ e in
        let same = some_pair (front cs) part (after cs) rest some in
        let whole : front cs ++ after cs ≡ cs = take-append-drop (prefix_len is_part_byte cs) cs in
        ap (λ x. x ∷ cs) (eqb-true c 32 q)
        ∙ ap (λ xs. 32 ∷ xs) (sym whole ∙ ap (λ p. p ++ after cs) same.0 ∙ ap (λ r. part ++ r) same.1)
