-- At the place of a bad byte there stands one, on its line; and want of memory is no fault of a source.
use Rattle.std.proofs.Common.{◌≡◌, ℕ, suc, ◌+◌, ◌<◌, false, cond, not, Option, Some, None, List, ◌∷◌, length, drop, take, refl, ap, sym, ◌∙◌, subst, inl, inr, arith}
use Rattle.std.specs.List.{before_first, prefix_len}
use Rattle.std.proofs.lemmas.Bool.{cases_Bool, eqb-true, ne_eqb}
use Rattle.std.proofs.lemmas.List.{drop-drop}
use Rattle.chi_token.specs.declared.place.Place.{Place}
use Rattle.chi_token.specs.declared.place.Spanned.{Spanned}
use Rattle.chi_token.specs.Characters.{line_feed, quote}
use Rattle.chi_lex.specs.declared.fault.LexFault.{LexFault}
use Rattle.chi_lex.specs.declared.fault.LexFault.TheVariants.{BadByte, OpenString, BadEscape, NoMemory}
use Rattle.chi_lex.specs.Faults.{IsFaultAt, bad_byte, open_string, bad_escape, bad_byte_in_text, characters_length}
use Rattle.chi_lex.specs.Gaps.{gap_of}
use Rattle.chi_lex.specs.Places.{is_line_feed, place_of}
use Rattle.chi_lex.specs.Reading.{ReadsFrom, at_end, past_gap, past_token, at_fault, HasFault}
use Rattle.chi_explain.specs.Excerpts.{from_place}
use Rattle.chi_explain.proofs.PlaceLemmas.{from_place_of}

-- a bad byte stands on the line of its place, and a source has no fault that is want of memory
abbrev pub StandsThere : List ℕ → LexFault → Type 0
StandsThere source (BadByte place) = 0 < length (from_place source place)
StandsThere source (OpenString place) = Unit {0}
StandsThere source (BadEscape place) = Unit {0}
StandsThere source NoMemory = ⊥

some_before : (c : ℕ) (more : List ℕ) → is_line_feed c ≡ false → 0 < length (before_first is_line_feed (c ∷ more))
some_before c more e =
    let passed = prefix_len (λ x. not (is_line_feed x)) more in
    let next : 1 + passed ≡ suc passed = omega arith in
    let is : before_first is_line_feed (c ∷ more) ≡ c ∷ before_first is_line_feed more =
    ap (λ b. take (cond (not b) (1 + passed) 0) (c ∷ more)) e ∙ ap (λ n. take n (c ∷ more)) next in
    omega (arith, ap length is)

-- a byte of the source that isn't a line feed stands on the line of its place
stands_there : (source : List ℕ) (offset c : ℕ) (more : List ℕ) → drop offset source ≡ c ∷ more → is_line_feed c ≡ false
    → 0 < length (from_place source (place_of source offset))
stands_there source offset c more is e =
    subst (λ bytes. 0 < length bytes)
    (sym (from_place_of source offset ∙ ap (λ bytes. before_first is_line_feed bytes) is))
    (some_before c more e)

-- a line feed is a gap
no_feed : (c : ℕ) (more : List ℕ) → gap_of (c ∷ more) ≡ None → is_line_feed c ≡ false
no_feed c more h =
    elim (cases_Bool (is_line_feed c)) [
      | inl e ↦
          let same : c ≡ line_feed = eqb-true c line_feed e in
          let gap : gap_of (c ∷ more) ≡ Some 1 = ap (λ d. gap_of (d ∷ more)) same in
          cc
      | inr e ↦ e
    ]

at_place : (source : List ℕ) (offset : ℕ) (fault : LexFault) → gap_of (drop offset source) ≡ None → IsFaultAt source offset fault
    → StandsThere source fault
at_place source offset _ gap (bad_byte c more is other) = stands_there source offset c more is (no_feed c more (sym (ap gap_of is) ∙ gap))
at_place source offset _ gap (open_string text is ends) = tt
at_place source offset _ gap (bad_escape text more is ends) = tt
at_place source offset _ gap (bad_byte_in_text text c more is ends feed slash) =
    let passed = characters_length text in
    let next : 1 + passed ≡ suc passed = omega arith in
    let there : drop (offset + (1 + passed)) source ≡ c ∷ more =
    sym (drop-drop (1 + passed) offset source) ∙ ap (λ bytes. drop (1 + passed) bytes) is
    ∙ ap (λ n. drop n (quote ∷ text)) next
    ∙ ends in
    stands_there source (offset + (1 + passed)) c more there (ne_eqb c line_feed feed)

from_offset : (source : List ℕ) (offset : ℕ) (tokens : List Spanned) (o : Option LexFault) (fault : LexFault) → ReadsFrom source offset tokens o
    → o ≡ Some fault → StandsThere source fault
from_offset source offset _ _ fault (at_end _ is) e = cc
from_offset source offset tokens o fault (past_gap _ size _ _ gap reads) e = from_offset source (offset + size) tokens o fault reads e
from_offset source offset _ o fault (past_token _ token size tokens _ gap found reads) e = from_offset source (offset + size) tokens o fault reads e
from_offset source offset _ _ fault (at_fault _ told no_gap none is) e =
    let same : told ≡ fault = cc in
    subst (λ f. StandsThere source f) same (at_place source offset told no_gap is)

pub faulty : (source : List ℕ) (fault : LexFault) → HasFault source fault → StandsThere source fault
faulty source fault h = from_offset source 0 h.0 (Some fault) fault h.1 refl

pub faulty_byte : (source : List ℕ) (place : Place) → HasFault source (BadByte place) → 0 < length (from_place source place)
faulty_byte source place h = faulty source (BadByte place) h
