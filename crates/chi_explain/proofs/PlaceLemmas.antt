-- What stands on the line of a place of a source.
use Rattle.std.proofs.Common.{◌≡◌, ℕ, suc, ◌+◌, ◌-◌, Bool, true, false, not, cond, List, [], ◌∷◌, ◌++◌, length, take, drop, get_or, refl, ap, sym, ◌∙◌, subst, inl, inr, append_assoc, arith}
use Rattle.std.specs.List.{slice_split, onto_first, after_last, before_first, suffix_len, prefix_len, count_by}
use Rattle.std.proofs.lemmas.Bool.{cases_Bool, cond-true, cond-false, not_from_true, not_from_false}
use Rattle.std.proofs.lemmas.List.{append-nil, reverse-append, drop_all, drop-append-le, drop_at, drop-drop, get_or-drop, length_push, take-append-drop}
use Rattle.std.proofs.lemmas.List.Splits.{slice_split-cons_yes, slice_split-cons_no}
use Rattle.std.proofs.lemmas.List.Sums.{sum_by_push}
use Rattle.chi_lex.specs.Places.{is_line_feed, place_of}
use Rattle.chi_explain.specs.Excerpts.{from_place}

module _ {X : Type 0} (p : X → Bool) where
  abbrev fails : X → Bool
  fails x = not (p x)

  -- parts of which the first has more before it
  abbrev onto : List X → List (List X) → List (List X)
  onto xs [] = []
  onto xs (part ∷ parts) = (xs ++ part) ∷ parts

  onto-nil : (parts : List (List X)) → onto [] parts ≡ parts
  onto-nil [] = refl
  onto-nil (part ∷ parts) = refl

  -- there is a first part
  some_part : (xs : List X) → (part : List X) × (parts : List (List X)) × (slice_split p xs ≡ part ∷ parts)
  some_part [] = ([], [], refl)
  some_part (x ∷ xs) =
      elim (cases_Bool (p x)) [
        | inl e ↦ ([], slice_split p xs, slice_split-cons_yes p x xs e)
        | inr e ↦
            let more = some_part xs in
            (x ∷ more.0, more.1, slice_split-cons_no p x xs e ∙ ap (λ ps. onto_first x ps) more.2)
      ]

  onto-push : (xs : List X) (x : X) (ys : List X) → onto xs (onto_first x (slice_split p ys)) ≡ onto (xs ++ x ∷ []) (slice_split p ys)
  onto-push xs x ys =
      let part = (some_part ys).0 in
      let parts = (some_part ys).1 in
      let is = (some_part ys).2 in
      ap (λ ps. onto xs (onto_first x ps)) is
      ∙ ap (λ zs. zs ∷ parts) (sym (append_assoc xs (x ∷ []) part))
      ∙ sym (ap (λ ps. onto (xs ++ x ∷ []) ps) is)

  -- what stands after the last one that passes, with one more

  suffix_len-push : (q : X → Bool) (xs : List X) (x : X) → suffix_len q (xs ++ x ∷ []) ≡ cond (q x) (1 + suffix_len q xs) 0
  suffix_len-push q xs x = ap (λ ys. prefix_len q ys) (reverse-append xs (x ∷ []))

  after_last-yes : (xs : List X) (x : X) → p x ≡ true → after_last p (xs ++ x ∷ []) ≡ []
  after_last-yes xs x e =
      let none : suffix_len fails (xs ++ x ∷ []) ≡ 0 =
      suffix_len-push fails xs x ∙ cond-false (fails x) (1 + suffix_len fails xs) 0 (not_from_true (p x) e) in
      drop_all (length (xs ++ x ∷ []) - suffix_len fails (xs ++ x ∷ [])) (xs ++ x ∷ []) (omega (arith, none))

  after_last-no : (xs : List X) (x : X) → p x ≡ false → after_last p (xs ++ x ∷ []) ≡ after_last p xs ++ x ∷ []
  after_last-no xs x e =
      let more : suffix_len fails (xs ++ x ∷ []) ≡ 1 + suffix_len fails xs =
      suffix_len-push fails xs x ∙ cond-true (fails x) (1 + suffix_len fails xs) 0 (not_from_false (p x) e) in
      let same : length (xs ++ x ∷ []) - suffix_len fails (xs ++ x ∷ []) ≡ length xs - suffix_len fails xs =
      omega (arith, more, length_push xs x) in
      ap (λ n. drop n (xs ++ x ∷ [])) same
      ∙ drop-append-le (length xs - suffix_len fails xs) xs (x ∷ []) (omega arith)

  -- the parts from that of the seam on
  abbrev Meets : List X → List X → Type 0
  Meets done rest = drop (count_by p done) (slice_split p (done ++ rest)) ≡ onto (after_last p done) (slice_split p rest)

  count_by-push : (xs : List X) (x : X) (n : ℕ) → cond (p x) 1 0 ≡ n → count_by p (xs ++ x ∷ []) ≡ count_by p xs + n
  count_by-push xs x n e = sum_by_push (λ y. cond (p y) 1 0) xs x ∙ ap (λ k. count_by p xs + k) e

  Meets-push : (done : List X) (x : X) (rest : List X) → Meets done (x ∷ rest) → Meets (done ++ x ∷ []) rest
  Meets-push done x rest h =
      let whole : (done ++ x ∷ []) ++ rest ≡ done ++ (x ∷ rest) = append_assoc done (x ∷ []) rest in
      elim (cases_Bool (p x)) [
        | inl e ↦
            ap (λ s. drop (count_by p (done ++ x ∷ [])) (slice_split p s)) whole
            ∙ ap (λ n. drop n (slice_split p (done ++ (x ∷ rest)))) (count_by-push done x 1 (ap (λ b. cond b 1 0) e))
            ∙ sym (drop-drop 1 (count_by p done) (slice_split p (done ++ (x ∷ rest))))
            ∙ ap (λ ps. drop 1 ps) h
            ∙ ap (λ ps. drop 1 (onto (after_last p done) ps)) (slice_split-cons_yes p x rest e)
            ∙ sym (onto-nil (slice_split p rest))
            ∙ sym (ap (λ ys. onto ys (slice_split p rest)) (after_last-yes done x e))
        | inr e ↦
            ap (λ s. drop (count_by p (done ++ x ∷ [])) (slice_split p s)) whole
            ∙ ap (λ n. drop n (slice_split p (done ++ (x ∷ rest)))) (count_by-push done x 0 (ap (λ b. cond b 1 0) e) ∙ omega arith)
            ∙ h
            ∙ ap (λ ps. onto (after_last p done) ps) (slice_split-cons_no p x rest e)
            ∙ onto-push (after_last p done) x rest
            ∙ sym (ap (λ ys. onto ys (slice_split p rest)) (after_last-no done x e))
      ]

  Meets-append : (done more rest : List X) → Meets done (more ++ rest) → Meets (done ++ more) rest
  Meets-append done [] rest h = subst (λ ys. Meets ys rest) (sym (append-nil done)) h
  Meets-append done (x ∷ more) rest h =
      subst (λ ys. Meets ys rest) (append_assoc done (x ∷ []) more)
      (Meets-append (done ++ x ∷ []) more rest (Meets-push done x (more ++ rest) h))

  meets : (done rest : List X) → Meets done rest
  meets done rest = Meets-append [] done rest (sym (onto-nil (slice_split p (done ++ rest))))

  -- the first part

  before_first-yes : (x : X) (xs : List X) → p x ≡ true → before_first p (x ∷ xs) ≡ []
  before_first-yes x xs e = ap (λ b. take (cond (not b) (1 + prefix_len fails xs) 0) (x ∷ xs)) e

  before_first-no : (x : X) (xs : List X) → p x ≡ false → before_first p (x ∷ xs) ≡ x ∷ before_first p xs
  before_first-no x xs e =
      let more : 1 + prefix_len fails xs ≡ suc (prefix_len fails xs) = omega arith in
      ap (λ b. take (cond (not b) (1 + prefix_len fails xs) 0) (x ∷ xs)) e ∙ ap (λ n. take n (x ∷ xs)) more

  get_or-onto_first : (x : X) (xs : List X) → get_or (onto_first x (slice_split p xs)) 0 [] ≡ x ∷ get_or (slice_split p xs) 0 []
  get_or-onto_first x xs =
      let is = (some_part xs).2 in
      ap (λ ps. get_or (onto_first x ps) 0 []) is ∙ sym (ap (λ ps. x ∷ get_or ps 0 []) is)

  first_part : (xs : List X) → get_or (slice_split p xs) 0 [] ≡ before_first p xs
  first_part [] = refl
  first_part (x ∷ xs) =
      elim (cases_Bool (p x)) [
        | inl e ↦ ap (λ ps. get_or ps 0 []) (slice_split-cons_yes p x xs e) ∙ sym (before_first-yes x xs e)
        | inr e ↦
            ap (λ ps. get_or ps 0 []) (slice_split-cons_no p x xs e)
            ∙ get_or-onto_first x xs
            ∙ ap (λ ys. x ∷ ys) (first_part xs)
            ∙ sym (before_first-no x xs e)
      ]

  get_or-onto : (xs ys : List X) → get_or (onto xs (slice_split p ys)) 0 [] ≡ xs ++ get_or (slice_split p ys) 0 []
  get_or-onto xs ys =
      let is = (some_part ys).2 in
      ap (λ ps. get_or (onto xs ps) 0 []) is ∙ sym (ap (λ ps. xs ++ get_or ps 0 []) is)

  -- the part in which two lists meet
  pub seam : (done rest : List X) → get_or (slice_split p (done ++ rest)) (count_by p done) [] ≡ after_last p done ++ before_first p rest
  seam done rest =
      let parts = slice_split p (done ++ rest) in
      ap (λ n. get_or parts n []) (omega arith)
      ∙ sym (get_or-drop (count_by p done) parts 0 [])
      ∙ ap (λ ps. get_or ps 0 []) (meets done rest)
      ∙ get_or-onto (after_last p done) rest
      ∙ ap (λ ys. after_last p done ++ ys) (first_part rest)

-- what is left of the line from the place of an offset on
pub from_place_of : (source : List ℕ) (offset : ℕ) → from_place source (place_of source offset) ≡ before_first is_line_feed (drop offset source)
unfolding place_of
from_place_of source offset =
    let done = take offset source in
    let rest = drop offset source in
    let before = after_last is_line_feed done in
    let column : (1 + length before) - 1 ≡ length before = omega arith in
    let line : (1 + count_by is_line_feed done) - 1 ≡ count_by is_line_feed done = omega arith in
    (λ i. drop (column i) (get_or (slice_split is_line_feed source) (line i) []))
    ∙ ap (λ s. drop (length before) (get_or (slice_split is_line_feed s) (count_by is_line_feed done) [])) (sym (take-append-drop offset source))
    ∙ ap (λ line. drop (length before) line) (seam is_line_feed done rest)
    ∙ drop_at before (before_first is_line_feed rest) (length before) refl
