-- A text has one list of pieces, or one first bad code, and not both.
use Rattle.std.proofs.Math.Nat.{le_refl}
use Rattle.std.proofs.Common.{◌≡◌, ℕ, zero, suc, ◌+◌, ◌<◌, ◌≤◌, Option, Some, None, ◌⊎◌, inl, inr, List, [], ◌∷◌, ◌++◌, length, refl, sym, ◌∙◌, ap, arith}
use Rattle.std.specs.Prelude.{All}
use Rattle.std.proofs.lemmas.List.{append_assoc, length-append}
use Rattle.std.proofs.lemmas.List.Elements.{All-nil, All-cons, All-head, All-tail}
use Rattle.chi_value.specs.declared.format.Piece.{Piece}
use Rattle.chi_format.specs.FormatCodes.{Part, part_text, IsPart, text_of_parts, pieces_of, MeansPieces, HasBadCode}
use Rattle.chi_format.specs.Front.{Front, next_part}
use Rattle.chi_format.specs.SoFar.{with_taken}
use Rattle.chi_format.specs.declared.reading.front.Taken.{Taken}
use Rattle.chi_format.proofs.Parts.{taken_of, part_read, part_found, percent_stands, left_shorter, nothing, read_pair}
use Rattle.chi_format.proofs.Pieces.{first_piece}

-- no part begins with this percent sign
BeginsNone : List ℕ → Type 0
BeginsNone rest = (p : Part) (others : List ℕ) → IsPart p → 37 ∷ rest ≡ part_text p ++ others → ⊥

no_text : (p : Part) (rest : List ℕ) → IsPart p → [] ≡ part_text p ++ rest → ⊥
unfolding next_part
no_text p rest is e = nothing (ap next_part e ∙ part_read p rest is)

-- two parts at the front of one text are taken alike, and leave the same
same_front : (p q : Part) (x y : List ℕ) → IsPart p → IsPart q → part_text p ++ x ≡ part_text q ++ y → (taken_of p ≡ taken_of q) × (x ≡ y)
same_front p q x y is_p is_q e = read_pair (sym (part_read p x is_p) ∙ ap next_part e ∙ part_read q y is_q)

same_pieces : (ps qs : List Part) → All IsPart ps → All IsPart qs → text_of_parts ps ≡ text_of_parts qs → pieces_of ps ≡ pieces_of qs
same_pieces [] [] are_p are_q e = refl
same_pieces [] (q ∷ qs) are_p are_q e = absurd (no_text q (text_of_parts qs) (All-head IsPart q qs are_q) e)
same_pieces (p ∷ ps) [] are_p are_q e = absurd (no_text p (text_of_parts ps) (All-head IsPart p ps are_p) (sym e))
same_pieces (p ∷ ps) (q ∷ qs) are_p are_q e =
    let same = same_front p q (text_of_parts ps) (text_of_parts qs) (All-head IsPart p ps are_p) (All-head IsPart q qs are_q) e in
    let rest = same_pieces ps qs (All-tail IsPart p ps are_p) (All-tail IsPart q qs are_q) same.1 in
    first_piece p ps ∙ (λ i. with_taken (same.0 i) (rest i)) ∙ sym (first_piece q qs)

pub one_list : (text : List ℕ) (a b : List Piece) → MeansPieces text a → MeansPieces text b → a ≡ b
one_list text a b (ps, (are_p, text_p, is_a)) (qs, (are_q, text_q, is_b)) = is_a ∙ same_pieces ps qs are_p are_q (sym text_p ∙ text_q) ∙ sym is_b

-- parts spell the whole text, or stop at a percent sign that begins none
not_both : (ps qs : List Part) (rest : List ℕ) → All IsPart ps → All IsPart qs → BeginsNone rest → text_of_parts ps ≡ text_of_parts qs ++ 37 ∷ rest → ⊥
unfolding BeginsNone
not_both [] [] rest are_p are_q none e = omega (arith, ap length e)
not_both [] (q ∷ qs) rest are_p are_q none e =
    no_text q (text_of_parts qs ++ 37 ∷ rest) (All-head IsPart q qs are_q) (e ∙ append_assoc (part_text q) (text_of_parts qs) (37 ∷ rest))
not_both (p ∷ ps) [] rest are_p are_q none e = none p (text_of_parts ps) (All-head IsPart p ps are_p) (sym e)
not_both (p ∷ ps) (q ∷ qs) rest are_p are_q none e =
    let same = same_front p q (text_of_parts ps) (text_of_parts qs ++ 37 ∷ rest) (All-head IsPart p ps are_p) (All-head IsPart q qs are_q)
    (e ∙ append_assoc (part_text q) (text_of_parts qs) (37 ∷ rest)) in
    not_both ps qs rest (All-tail IsPart p ps are_p) (All-tail IsPart q qs are_q) none same.1

pub list_or_bad : (text : List ℕ) (pieces : List Piece) (offset : ℕ) → MeansPieces text pieces → HasBadCode text offset → ⊥
unfolding BeginsNone
list_or_bad text pieces offset (ps, (are, spelled, is)) bad = not_both ps bad.before bad.rest are bad.are_parts bad.no_part (sym spelled ∙ bad.spelled)

same_offset : (ps qs : List Part) (x y : List ℕ) → All IsPart ps → All IsPart qs → BeginsNone x → BeginsNone y
    → text_of_parts ps ++ 37 ∷ x ≡ text_of_parts qs ++ 37 ∷ y → length (text_of_parts ps) ≡ length (text_of_parts qs)
unfolding BeginsNone
same_offset [] [] x y are_p are_q no_x no_y e = refl
same_offset [] (q ∷ qs) x y are_p are_q no_x no_y e =
    absurd (no_x q (text_of_parts qs ++ 37 ∷ y) (All-head IsPart q qs are_q) (e ∙ append_assoc (part_text q) (text_of_parts qs) (37 ∷ y)))
same_offset (p ∷ ps) [] x y are_p are_q no_x no_y e =
    absurd (no_y p (text_of_parts ps ++ 37 ∷ x) (All-head IsPart p ps are_p) (sym e ∙ append_assoc (part_text p) (text_of_parts ps) (37 ∷ x)))
same_offset (p ∷ ps) (q ∷ qs) x y are_p are_q no_x no_y e =
    let whole : part_text p ++ (text_of_parts ps ++ 37 ∷ x) ≡ part_text q ++ (text_of_parts qs ++ 37 ∷ y) =
    sym (append_assoc (part_text p) (text_of_parts ps) (37 ∷ x)) ∙ e ∙ append_assoc (part_text q) (text_of_parts qs) (37 ∷ y) in
    let same = same_front p q (text_of_parts ps ++ 37 ∷ x) (text_of_parts qs ++ 37 ∷ y) (All-head IsPart p ps are_p) (All-head IsPart q qs are_q) whole in
    let rest = same_offset ps qs x y (All-tail IsPart p ps are_p) (All-tail IsPart q qs are_q) no_x no_y same.1 in
    let left = ap length same.1 in
    let all = sym (length-append (part_text p) (text_of_parts ps ++ 37 ∷ x)) ∙ ap length whole ∙ length-append (part_text q) (text_of_parts qs ++ 37 ∷ y) in
    let size_p = length-append (part_text p) (text_of_parts ps) in
    let size_q = length-append (part_text q) (text_of_parts qs) in
    omega (arith, rest, left, all, size_p, size_q)

pub one_offset : (text : List ℕ) (m n : ℕ) → HasBadCode text m → HasBadCode text n → m ≡ n
unfolding BeginsNone
one_offset text m n a b =
    a.at ∙ same_offset a.before b.before a.rest b.rest a.are_parts b.are_parts a.no_part b.no_part (sym a.spelled ∙ b.spelled) ∙ sym b.at

-- one part more at the front
more_pieces : (p : Part) (rest text : List ℕ) (pieces : List Piece) → IsPart p → text ≡ part_text p ++ rest → MeansPieces rest pieces → (all : List Piece) × MeansPieces text all
more_pieces p rest text pieces is spelled (ps, (are, text_is, means)) =
    (pieces_of (p ∷ ps), (p ∷ ps, (All-cons IsPart p ps is are, spelled ∙ ap (λ t. part_text p ++ t) text_is, refl)))

more_before : (p : Part) (rest text : List ℕ) (offset : ℕ) → IsPart p → text ≡ part_text p ++ rest → HasBadCode rest offset → (all : ℕ) × HasBadCode text all
more_before p rest text offset is spelled bad = (
  length (text_of_parts (p ∷ bad.before)),
  record {
    before = p ∷ bad.before;
    rest = bad.rest;
    are_parts = All-cons IsPart p bad.before is bad.are_parts;
    spelled = spelled ∙ ap (λ t. part_text p ++ t) bad.spelled ∙ sym (append_assoc (part_text p) (text_of_parts bad.before) (37 ∷ bad.rest));
    at = refl;
    no_part = bad.no_part;
  },
)

-- a text is a list of pieces, or has a first bad code
abbrev pub Reading : List ℕ → Type 0
Reading text = ((pieces : List Piece) × MeansPieces text pieces) ⊎ ((offset : ℕ) × HasBadCode text offset)

reading : (most : ℕ) (text : List ℕ) → length text ≤ most → Reading text
reading most [] le = inl ([], ([], (All-nil IsPart, refl, refl)))
reading zero (c ∷ cs) le = absurd (omega (arith, le))
reading (suc most) (c ∷ cs) le = by (λ rest. reading most rest) (next_part (c ∷ cs)) refl
  where
    by : ((rest : List ℕ) → length rest ≤ most → Reading rest) → (front : Front) → next_part (c ∷ cs) ≡ front → Reading (c ∷ cs)
    by shorter_text None e =
        let stands = percent_stands (c ∷ cs) (omega arith) e in
        inr (
          0,
          record {
            before = [];
            rest = stands.0;
            are_parts = All-nil IsPart;
            spelled = stands.1;
            at = refl;
            no_part = λ p others is spelled. nothing (sym e ∙ ap next_part (stands.1 ∙ spelled) ∙ part_read p others is);
          },
        )
    by shorter_text (Some front) e =
        let begins = part_found (c ∷ cs) front.0 front.1 e in
        let shorter = left_shorter (c ∷ cs) front.0 front.1 e in
        elim (shorter_text front.1 (omega (arith, le, shorter))) [
          | inl good ↦ inl (more_pieces begins.part front.1 (c ∷ cs) good.0 begins.is_part begins.spelled good.1)
          | inr bad ↦ inr (more_before begins.part front.1 (c ∷ cs) bad.0 begins.is_part begins.spelled bad.1)
        ]

pub a_reading : (text : List ℕ) → Reading text
a_reading text = reading (length text) text (le_refl (length text))
