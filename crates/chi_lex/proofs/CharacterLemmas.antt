-- The character at the front of the rest of a text.
use Rattle.std.proofs.Common.{◌≡◌, ◌≢◌, ℕ, zero, suc, ◌<◌, ◌≤◌, true, false, cond, eqb, Some, None, List, [], ◌∷◌, length, take, get_or, refl, sym, ap, subst, ◌∙◌, arith}
use Rattle.std.specs.List.{slice_get}
use Rattle.std.proofs.lemmas.Bool.{ne_eqb}
use Rattle.chi_token.specs.Characters.{is_plain, line_feed, quote, backslash}
use Rattle.chi_token.specs.Texts.{meaning, escaped, byte_then}
use Rattle.chi_lex.specs.declared.text.Character.TheVariants.{Means, Unclosed, BadEscape, BadByte}
use Rattle.chi_lex.specs.declared.piece.Stop.TheVariants.{Byte, Open, Escape}
use Rattle.chi_lex.specs.Stops.{text_stop}
use Rattle.chi_lex.specs.TextParts.{IsCharacter, StopsText}
use Rattle.chi_lex.proofs.TextLemmas.{meaning-plain, meaning-escape, meaning-lone, meaning-bad, meaning-empty}

pub plain-character : (rest : List ℕ) (c : ℕ) → Some c ≡ slice_get rest 0 → is_plain c ≡ true → IsCharacter rest (Means c 1)
plain-character [] c is plain = cc
plain-character (x ∷ xs) c is plain =
    let same : x ≡ c = cc in (
      ap (λ y. meaning (y ∷ [])) same ∙ meaning-plain c [] plain ∙ ap (λ o. byte_then (Some c) o) meaning-empty,
      omega arith,
      omega arith,
    )

-- what a byte that begins no run stops
stops-bad : (x : ℕ) (xs : List ℕ) → is_plain x ≡ false → x ≢ quote → x ≢ backslash → StopsText (x ∷ xs)
stops-bad x xs bad no_quote no_backslash = (λ k low. meaning-bad x (take k xs) bad no_backslash, no_quote)

text_stop-bad : (x : ℕ) (xs : List ℕ) → x ≢ line_feed → x ≢ backslash → (passed : ℕ) → text_stop passed (x ∷ xs) ≡ Byte passed
text_stop-bad x xs no_line_feed no_backslash passed =
    ap (λ b. cond b Open (cond (eqb x backslash) (Escape passed) (Byte passed))) (ne_eqb x line_feed no_line_feed)
    ∙ ap (λ b. cond b (Escape passed) (Byte passed)) (ne_eqb x backslash no_backslash)

pub bad-character : (rest : List ℕ) (c : ℕ) → Some c ≡ slice_get rest 0 → is_plain c ≡ false → c ≢ line_feed → c ≢ quote → c ≢ backslash → IsCharacter rest BadByte
bad-character [] c is bad no_line_feed no_quote no_backslash = cc
bad-character (x ∷ xs) c is bad no_line_feed no_quote no_backslash =
    let same : c ≡ x = cc in
    subst (λ y. IsCharacter (y ∷ xs) BadByte) same
    (stops-bad c xs bad no_quote no_backslash, text_stop-bad c xs no_line_feed no_backslash)

pub line_feed-character : (rest : List ℕ) → Some line_feed ≡ slice_get rest 0 → IsCharacter rest Unclosed
line_feed-character [] is = cc
line_feed-character (x ∷ xs) is =
    let same : line_feed ≡ x = cc in
    subst (λ y. IsCharacter (y ∷ xs) Unclosed) same
    (stops-bad line_feed xs refl (omega arith) (omega arith), λ passed. refl)

pub escape-character : (rest : List ℕ) (letter byte : ℕ) → get_or rest 0 0 ≡ backslash → 1 < length rest → letter ≡ get_or rest 1 letter → Some byte ≡ escaped letter → IsCharacter rest (Means byte 2)
escape-character [] letter byte first two second is = absurd (omega arith)
escape-character (x ∷ []) letter byte first two second is = absurd (omega arith)
escape-character (x ∷ y ∷ ys) letter byte first two second is = (
  ap (λ z. meaning (z ∷ y ∷ [])) first
      ∙ ap (λ z. meaning (backslash ∷ z ∷ [])) (sym second)
      ∙ meaning-escape letter []
      ∙ ap (λ o. byte_then o (meaning [])) (sym is)
      ∙ ap (λ o. byte_then (Some byte) o) meaning-empty,
  omega arith,
  omega arith,
)

-- a backslash and a letter that is none of its letters
escape-none : (letter : ℕ) (ys : List ℕ) → None ≡ escaped letter → (k : ℕ) → meaning (take (suc k) (backslash ∷ letter ∷ ys)) ≡ None
escape-none letter ys is zero = meaning-lone
escape-none letter ys is (suc k) =
    meaning-escape letter (take k ys) ∙ ap (λ o. byte_then o (meaning (take k ys))) (sym is)

pub bad_escape-character : (rest : List ℕ) (letter : ℕ) → get_or rest 0 0 ≡ backslash → 1 < length rest → letter ≡ get_or rest 1 letter → None ≡ escaped letter → IsCharacter rest BadEscape
bad_escape-character [] letter first two second is = absurd (omega arith)
bad_escape-character (x ∷ []) letter first two second is = absurd (omega arith)
bad_escape-character (x ∷ y ∷ ys) letter first two second is =
    subst (λ z. IsCharacter (z ∷ y ∷ ys) BadEscape) (sym first)
    (subst (λ z. IsCharacter (backslash ∷ z ∷ ys) BadEscape) second
    ((λ k low. escape-none letter ys is k, omega arith), λ passed. refl))

pub lone_escape-character : (rest : List ℕ) → 0 < length rest → get_or rest 0 0 ≡ backslash → length rest ≤ 1 → IsCharacter rest BadEscape
lone_escape-character [] some first short = absurd (omega arith)
lone_escape-character (x ∷ []) some first short =
    subst (λ z. IsCharacter (z ∷ []) BadEscape) (sym first)
    ((λ k low. lone k low, omega arith), λ passed. refl)
  where
    lone : (k : ℕ) → k < 1 → meaning (take (suc k) (backslash ∷ [])) ≡ None
    lone zero low = meaning-lone
    lone (suc k) low = absurd (omega arith)
lone_escape-character (x ∷ y ∷ ys) some first short = absurd (omega arith)
