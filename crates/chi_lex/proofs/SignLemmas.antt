-- The longest sign.
use Rattle.std.proofs.Common.{◌≡◌, ◌≢◌, ℕ, zero, suc, ◌<◌, ◌≤◌, Bool, true, false, cond, leb, Option, Some, None, List, [], ◌∷◌, ◌++◌, length, take, get_or, bytes_eq, length-take, refl, sym, ap, ◌∙◌, arith}
use Rattle.std.specs.List.{list_all}
use Rattle.std.proofs.lemmas.Bool.{leb-true, ne_eqb}
use Rattle.std.proofs.lemmas.Slice.Eq.{bytes_eq-Decides}
use Rattle.std.specs.Option.{option_map}
use Rattle.chi_token.specs.declared.token.Token.TheVariants as token
use Rattle.chi_token.specs.declared.sign.Sign.{Sign}
use Rattle.chi_token.specs.Characters.{is_name_start, is_digit, quote}
use Rattle.chi_token.specs.Prefixes.{longest_prefix}
use Rattle.chi_token.specs.Signs.{sign_of}
use Rattle.chi_token.specs.Tables.{value_at}
use Rattle.chi_token.specs.Tokens.{token_spelled_by}
use Rattle.chi_lex.specs.Stops.{stop_of}
use Rattle.chi_lex.specs.declared.piece.Stop.TheVariants.{Byte}
use Rattle.chi_lex.proofs.Prefixes.{longest_prefix-at, longest_prefix-none}
use Rattle.chi_lex.proofs.Runs.{and_left, and_right}

abbrev is_short : {K : Type 0} → List ℕ × K → Bool
is_short row = leb (length row.0) 2

-- no row of a table of short spellings has a long one
value_at-long : {K : Type 0} (bytes : List ℕ) (rows : List (List ℕ × K)) → list_all is_short rows ≡ true → 2 < length bytes → value_at bytes rows ≡ None
unfolding value_at
value_at-long bytes [] short long = refl
value_at-long {K} bytes (row ∷ rows) short long = by (bytes_eq bytes row.0) refl (value_at-long bytes rows (and_right (is_short row) (list_all is_short rows) short) long)
  where
    by : (b : Bool) → bytes_eq bytes row.0 ≡ b → value_at bytes rows ≡ None → cond b (Some row.1) (value_at bytes rows) ≡ None
    by true same rest =
        let equal : bytes ≡ row.0 = (bytes_eq-Decides bytes row.0).0 same in
        let low : length row.0 ≤ 2 = leb-true (length row.0) 2 (and_left (is_short row) (list_all is_short rows) short) in
        absurd (omega (arith, ap length equal))
    by false same rest = rest

sign_of-long : (bytes : List ℕ) → 2 < length bytes → sign_of bytes ≡ None
unfolding sign_of
sign_of-long bytes long = value_at-long bytes _ refl long

-- the first byte is that of a sign, or of no token
pub record BeginsSign (c : ℕ) : Type 0 where
  pub no_name : is_name_start c ≡ false
  pub no_digit : is_digit c ≡ false
  pub no_quote : c ≢ quote

token_spelled_by-sign : (c : ℕ) (cs : List ℕ) → BeginsSign c → token_spelled_by (c ∷ cs) ≡ option_map (λ s. token.Sign s) (sign_of (c ∷ cs))
unfolding token_spelled_by
token_spelled_by-sign c cs begins =
    rw begins.no_name (rw begins.no_digit (rw (ne_eqb c quote begins.no_quote) refl))

-- a front of signs, and more bytes after it that spell no sign with it
sign-longer : (c : ℕ) (cs : List ℕ) (back : List ℕ) → BeginsSign c → ((k : ℕ) → k < length back → sign_of ((c ∷ cs) ++ take (suc k) back) ≡ None) → (k : ℕ) → k < length back → token_spelled_by ((c ∷ cs) ++ take (suc k) back) ≡ None
sign-longer c cs back begins longer k low =
    token_spelled_by-sign c (cs ++ take (suc k) back) begins ∙ ap (λ o. option_map (λ s. token.Sign s) o) (longer k low)

sign-at : (c : ℕ) (cs back : List ℕ) (sign : Sign) → BeginsSign c → sign_of (c ∷ cs) ≡ Some sign → ((k : ℕ) → k < length back → sign_of ((c ∷ cs) ++ take (suc k) back) ≡ None) → longest_prefix token_spelled_by (length ((c ∷ cs) ++ back)) ((c ∷ cs) ++ back) ≡ Some (token.Sign sign, length (c ∷ cs))
sign-at c cs back sign begins reads longer =
    longest_prefix-at token_spelled_by (token.Sign sign) (c ∷ cs) back
    (token_spelled_by-sign c cs begins ∙ ap (λ o. option_map (λ s. token.Sign s) o) reads)
    (sign-longer c cs back begins longer)

-- what a look at the first bytes gives
pub record IsSignOf (rest : List ℕ) (size : ℕ) (found : Option Sign) : Type 0 where
  pub fits : size ≤ length rest → found ≡ sign_of (take size rest)
  pub short : length rest < size → found ≡ None

pub longest-sign_of_two : (rest : List ℕ) (sign : Sign) → 0 < length rest → BeginsSign (get_or rest 0 0) → IsSignOf rest 2 (Some sign) → longest_prefix token_spelled_by (length rest) rest ≡ Some (token.Sign sign, 2)
longest-sign_of_two [] sign some begins is = absurd (omega arith)
longest-sign_of_two (c ∷ []) sign some begins is = let no : Some sign ≡ None = is.short (omega arith) in cc
longest-sign_of_two (c ∷ d ∷ ds) sign some begins is =
    sign-at c (d ∷ []) ds sign begins (sym (is.fits (omega arith)))
    (λ k low. sign_of-long (c ∷ d ∷ take (suc k) ds) (omega (arith, length-take (suc k) ds)))

-- with one byte or more after the first one, no sign
one-longer : (c : ℕ) (back : List ℕ) → IsSignOf (c ∷ back) 2 None → (k : ℕ) → k < length back → sign_of ((c ∷ []) ++ take (suc k) back) ≡ None
one-longer c [] two k low = absurd (omega arith)
one-longer c (d ∷ ds) two zero low = sym (two.fits (omega arith))
one-longer c (d ∷ ds) two (suc k) low =
    sign_of-long (c ∷ d ∷ take (suc k) ds) (omega (arith, length-take (suc k) ds))

pub longest-sign_of_one : (rest : List ℕ) (sign : Sign) → 0 < length rest → BeginsSign (get_or rest 0 0) → IsSignOf rest 2 None → IsSignOf rest 1 (Some sign) → longest_prefix token_spelled_by (length rest) rest ≡ Some (token.Sign sign, 1)
longest-sign_of_one [] sign some begins two one = absurd (omega arith)
longest-sign_of_one (c ∷ cs) sign some begins two one =
    sign-at c [] cs sign begins (sym (one.fits (omega arith))) (one-longer c cs two)

none-longer : (c : ℕ) (cs : List ℕ) → BeginsSign c → IsSignOf (c ∷ cs) 2 None → IsSignOf (c ∷ cs) 1 None → (k : ℕ) → k < length (c ∷ cs) → token_spelled_by (take (suc k) (c ∷ cs)) ≡ None
none-longer c cs begins two one zero low =
    token_spelled_by-sign c [] begins ∙ ap (λ o. option_map (λ s. token.Sign s) o) (sym (one.fits (omega arith)))
none-longer c cs begins two one (suc k) low =
    sign-longer c [] cs begins (one-longer c cs two) k (omega arith)

stop_of-first : (c : ℕ) (cs : List ℕ) → c ≢ quote → Byte 0 ≡ stop_of (c ∷ cs)
unfolding stop_of
stop_of-first c cs no_quote = rw (ne_eqb c quote no_quote) refl

pub no-sign : (rest : List ℕ) → 0 < length rest → BeginsSign (get_or rest 0 0) → IsSignOf rest 2 None → IsSignOf rest 1 None → (longest_prefix token_spelled_by (length rest) rest ≡ None) × (Byte 0 ≡ stop_of rest)
unfolding token_spelled_by
no-sign [] some begins two one = absurd (omega arith)
no-sign (c ∷ cs) some begins two one = (
  longest_prefix-none token_spelled_by (c ∷ cs) (length (c ∷ cs)) refl (none-longer c cs begins two one),
  stop_of-first c cs begins.no_quote,
)
