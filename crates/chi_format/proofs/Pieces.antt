-- The pieces that were read, before those to come.
use Rattle.std.proofs.Common.{◌≡◌, ℕ, ◌+◌, ◌-◌, ◌<◌, ◌≤◌, Bool, true, false, Option, Some, None, ◌⊎◌, inl, inr, List, [], ◌∷◌, ◌++◌, length, refl, sym, ◌∙◌, ap, subst, arith}
use Rattle.std.specs.Prelude.{All}
use Rattle.std.proofs.lemmas.Bool.{false≢true}
use Rattle.std.proofs.lemmas.Grind.{flat_map-append}
use Rattle.std.proofs.lemmas.List.{append-nil, append_assoc, length-append}
use Rattle.std.proofs.lemmas.List.Elements.{All-nil, All-cons, All-append}
use Rattle.chi_value.specs.declared.format.Piece.{Piece}
use Rattle.chi_value.specs.declared.format.Piece.TheVariants.{Plain, Any, Whole, Fixed}
use Rattle.chi_format.specs.FormatCodes.{Part, byte, percent, any_code, whole_code, fixed_code, six_code, part_text, IsPart, text_of_parts, with_byte, pieces_of, MeansPieces, HasBadCode}
use Rattle.chi_format.specs.Front.{taking, next_part}
use Rattle.chi_format.specs.SoFar.{with_bytes, plain_piece, with_taken, is_shown, before}
use Rattle.chi_format.specs.declared.reading.front.Taken.{Taken}
use Rattle.chi_format.specs.declared.reading.so_far.SoFar.{SoFar}
use Rattle.chi_format.proofs.Parts.{taken_of, part_read, Begins, part_found, percent_stands, nothing}

-- bytes of the plain piece that may go on

pub none_yet : (pieces : List Piece) (bytes : List ℕ) (later : List Piece) → pieces ≡ [] → bytes ≡ [] → pieces ++ with_bytes bytes later ≡ later
unfolding with_bytes
none_yet pieces bytes later no_piece no_byte = λ i. no_piece i ++ with_bytes (no_byte i) later

one_more : (bytes : List ℕ) (b : ℕ) (later : List Piece) → with_bytes (bytes ++ b ∷ []) later ≡ with_bytes bytes (with_byte b later)
unfolding with_bytes
one_more [] b later = refl
one_more (c ∷ cs) b later = ap (with_byte c) (one_more cs b later)

pub pushed : (pieces : List Piece) (bytes new : List ℕ) (b : ℕ) (later : List Piece) → new ≡ bytes ++ b ∷ []
    → pieces ++ with_bytes new later ≡ pieces ++ with_bytes bytes (with_byte b later)
pushed pieces bytes new b later is = ap (λ bs. pieces ++ with_bytes bs later) is ∙ ap (λ ps. pieces ++ ps) (one_more bytes b later)

-- a code ends the plain piece
code_ends : (bytes : List ℕ) (p : Piece) (later : List Piece) → is_shown p ≡ true → with_bytes bytes (p ∷ later) ≡ plain_piece bytes ++ p ∷ later
unfolding with_bytes
code_ends [] p later shown = refl
code_ends (b ∷ []) (Plain bytes) later shown = absurd (false≢true shown)
code_ends (b ∷ []) (Any field) later shown = refl
code_ends (b ∷ []) (Whole field) later shown = refl
code_ends (b ∷ []) (Fixed field k) later shown = refl
code_ends (b ∷ c ∷ cs) p later shown = ap (with_byte b) (code_ends (c ∷ cs) p later shown)

pub coded : (pieces ended new : List Piece) (bytes none : List ℕ) (p : Piece) (later : List Piece) → is_shown p ≡ true
    → ended ≡ pieces ++ plain_piece bytes → new ≡ ended ++ p ∷ [] → none ≡ [] → new ++ with_bytes none later ≡ pieces ++ with_bytes bytes (p ∷ later)
unfolding with_bytes
coded pieces ended new bytes none p later shown e is no_byte =
    (λ i. (is ∙ ap (λ ps. ps ++ p ∷ []) e) i ++ with_bytes (no_byte i) later)
    ∙ append_assoc (pieces ++ plain_piece bytes) (p ∷ []) later
    ∙ append_assoc pieces (plain_piece bytes) (p ∷ later)
    ∙ ap (λ ps. pieces ++ ps) (sym (code_ends bytes p later shown))

text_ends : (bytes : List ℕ) → with_bytes bytes [] ≡ plain_piece bytes
unfolding with_bytes
text_ends [] = refl
text_ends (b ∷ []) = refl
text_ends (b ∷ c ∷ cs) = ap (with_byte b) (text_ends (c ∷ cs))

pub finished : (pieces ended : List Piece) (bytes : List ℕ) → ended ≡ pieces ++ plain_piece bytes → ended ≡ pieces ++ with_bytes bytes []
finished pieces ended bytes e = e ∙ ap (λ ps. pieces ++ ps) (sym (text_ends bytes))

-- parts, before the pieces to come

pub with_parts : List Part → List Piece → List Piece
with_parts [] later = later
with_parts (p ∷ parts) later = with_taken (taken_of p) (with_parts parts later)

pub first_piece : (p : Part) (parts : List Part) → pieces_of (p ∷ parts) ≡ with_taken (taken_of p) (pieces_of parts)
first_piece (byte b) parts = refl
first_piece percent parts = refl
first_piece (any_code field) parts = refl
first_piece (whole_code field) parts = refl
first_piece (fixed_code field k) parts = refl
first_piece (six_code field) parts = refl

all_pieces : (parts : List Part) → pieces_of parts ≡ with_parts parts []
unfolding with_parts
all_pieces [] = refl
all_pieces (p ∷ parts) = first_piece p parts ∙ ap (with_taken (taken_of p)) (all_pieces parts)

last_part : (parts : List Part) (p : Part) (later : List Piece) → with_parts (parts ++ p ∷ []) later ≡ with_parts parts (with_taken (taken_of p) later)
unfolding with_parts
last_part [] p later = refl
last_part (q ∷ parts) p later = ap (with_taken (taken_of q)) (last_part parts p later)

last_text : (parts : List Part) (p : Part) (rest : List ℕ) → text_of_parts parts ++ (part_text p ++ rest) ≡ text_of_parts (parts ++ p ∷ []) ++ rest
last_text parts p rest =
    sym (append_assoc (text_of_parts parts) (part_text p) rest)
    ∙ ap (λ t. (text_of_parts parts ++ t) ++ rest) (sym (append-nil (part_text p)))
    ∙ ap (λ t. t ++ rest) (sym (flat_map-append part_text parts (p ∷ [])))

-- a front of a text was read, and this is left
pub record Reads (text left : List ℕ) (so_far : SoFar) : Type 0 where
  pub parts : List Part
  pub are_parts : All IsPart parts
  pub spelled : text ≡ text_of_parts parts ++ left
  pub means : (later : List Piece) → with_parts parts later ≡ before so_far later

pub reads_none : (text : List ℕ) (so_far : SoFar) → ((later : List Piece) → before so_far later ≡ later) → Reads text text so_far
unfolding with_parts
reads_none text so_far none = record { parts = []; are_parts = All-nil IsPart; spelled = refl; means = λ later. sym (none later) }

pub reads_more : (text left rest : List ℕ) (old new : SoFar) (t : Taken) → Reads text left old → next_part left ≡ taking t rest
    → ((later : List Piece) → before new later ≡ before old (with_taken t later)) → Reads text rest new
reads_more text left rest old new t reads read grown =
    let begins = part_found left t rest read in
    record {
      parts = reads.parts ++ begins.part ∷ [];
      are_parts = All-append IsPart reads.parts (begins.part ∷ []) reads.are_parts (All-cons IsPart begins.part [] begins.is_part (All-nil IsPart));
      spelled = reads.spelled ∙ ap (λ t. text_of_parts reads.parts ++ t) begins.spelled ∙ last_text reads.parts begins.part rest;
      means = λ later.
          last_part reads.parts begins.part later
          ∙ reads.means (with_taken (taken_of begins.part) later)
          ∙ ap (λ t. before old (with_taken t later)) begins.taken
          ∙ sym (grown later);
    }

pub reads_within : (text left : List ℕ) (so_far : SoFar) → Reads text left so_far → length left ≤ length text
reads_within text left so_far reads =
    let sizes = ap length reads.spelled ∙ length-append (text_of_parts reads.parts) left in omega (arith, sizes)

no_more : (xs : List ℕ) → length xs ≡ 0 → xs ≡ []
no_more [] h = refl
no_more (x ∷ xs) h = absurd (omega (arith, h))

pub reads_all : (text left : List ℕ) (so_far : SoFar) (pieces : List Piece) → Reads text left so_far → length left ≡ 0 → pieces ≡ before so_far [] → MeansPieces text pieces
reads_all text left so_far pieces reads none is = (
  reads.parts,
  (
    reads.are_parts,
    reads.spelled ∙ ap (λ t. text_of_parts reads.parts ++ t) (no_more left none) ∙ append-nil (text_of_parts reads.parts),
    is ∙ sym (reads.means []) ∙ sym (all_pieces reads.parts),
  ),
)

pub reads_bad : (text left : List ℕ) (so_far : SoFar) → Reads text left so_far → 0 < length left → next_part left ≡ None → HasBadCode text (length text - length left)
reads_bad text left so_far reads some none =
    let stands = percent_stands left some none in
    let sizes = ap length reads.spelled ∙ length-append (text_of_parts reads.parts) left in
    record {
      before = reads.parts;
      rest = stands.0;
      are_parts = reads.are_parts;
      spelled = reads.spelled ∙ ap (λ t. text_of_parts reads.parts ++ t) stands.1;
      at = omega (arith, sizes);
      no_part = λ p others is spelled. nothing (sym none ∙ ap next_part (stands.1 ∙ spelled) ∙ part_read p others is);
    }
