-- Sound rows with the tokens that they show, and how both are put together.
use Rattle.std.proofs.Common.{◌≡◌, ℕ, true, false, not, List, [], ◌∷◌, ◌++◌, map, refl, sym, ap, subst, ◌∙◌, append_assoc}
use Rattle.std.proofs.lemmas.List.{map-append}
use Rattle.chi_token.specs.declared.sign.Sign.TheVariants.{Dot, LeftBrace, LeftBracket, LeftParen, RightBrace, RightBracket, RightParen}
use Rattle.chi_token.specs.declared.token.Token.{Token}
use Rattle.chi_token.specs.declared.token.Token.TheVariants as token
use Rattle.chi_tree_spell.specs.Words.{Tokens}
use Rattle.chi_fmt.specs.declared.spot.Role.TheVariants.{Usual}
use Rattle.chi_fmt.specs.declared.spot.Spot.{Spot}
use Rattle.chi_fmt.specs.Expressions.{Spots, spot}
use Rattle.chi_fmt.specs.Parts.{sign}
use Rattle.chi_fmt.specs.Reread.{token_at}
use Rattle.chi_fmt.specs.Spaces.{opens}
use Rattle.chi_fmt.specs.Sound.{role_fits, is_dot, is_row, starts_equal}
use Rattle.chi_fmt.proofs.SoundRows.{begins_well, plain-row, tight-row, Rows, Fine, Inner, field-row, rows-nothing, rows-then, rows-after, rows-tight, fine-then, fine-after, inner-fine, inner-nothing, round-row, square-row, curly-row, round-fine, square-fine, curly-fine}

-- a row that may stand before any other
pub record Row (xs : Spots) (ts : Tokens) : Type 0 where
  pub row : Rows xs
  pub same : map token_at xs ≡ ts

-- one that is there, and begins with no equals sign
pub record Start (xs : Spots) (ts : Tokens) : Type 0 where
  pub fine : Fine xs
  pub same : map token_at xs ≡ ts

-- the same, or none
pub record Within (xs : Spots) (ts : Tokens) : Type 0 where
  pub inner : Inner xs
  pub same : map token_at xs ≡ ts

tokens-append : (xs ys : Spots) (ts us : Tokens) → map token_at xs ≡ ts → map token_at ys ≡ us → map token_at (xs ++ ys) ≡ ts ++ us
tokens-append xs ys ts us x y = map-append token_at xs ys ∙ ap (λ l. l ++ map token_at ys) x ∙ ap (λ l. ts ++ l) y

-- rows

pub row_as : {xs ys : Spots} {ts us : Tokens} → xs ≡ ys → ts ≡ us → Row ys us → Row xs ts
row_as {xs} {ys} {ts} {us} e f r = record { row = subst Rows (sym e) r.row; same = ap (λ l. map token_at l) e ∙ r.same ∙ sym f }

pub row-nothing : Row [] []
row-nothing = record { row = rows-nothing; same = refl }

pub row-start : {xs : Spots} {ts : Tokens} → Start xs ts → Row xs ts
row-start s = record { row = s.fine.row; same = s.same }

pub row-after : {xs : Spots} {ts : Tokens} (t : Token) → opens t ≡ false → is_dot t ≡ false → Row xs ts → Row (spot t Usual ∷ xs) (t ∷ ts)
row-after {xs} {ts} t o d r = record { row = rows-after xs t o d r.row; same = ap (λ l. t ∷ l) r.same }

pub row-tight : {xs : Spots} {ts : Tokens} (s : Spot) → role_fits s.role s.token ≡ true → is_dot s.token ≡ false → Start xs ts → Row (s ∷ xs) (s.token ∷ ts)
row-tight s f d r = record { row = rows-tight s f d r.fine; same = ap (λ l. s.token ∷ l) r.same }

pub row-then : {xs ys : Spots} {ts us : Tokens} → Row xs ts → Row ys us → Row (xs ++ ys) (ts ++ us)
row-then {xs} {ys} {ts} {us} x y = record { row = rows-then xs ys x.row y.row; same = tokens-append xs ys ts us x.same y.same }

pub row-field : (bytes : List ℕ) → Row (sign Dot ∷ spot (token.Name bytes) Usual ∷ []) (token.Sign Dot ∷ token.Name bytes ∷ [])
row-field bytes = record { row = field-row bytes; same = refl }

-- starts

pub start_as : {xs ys : Spots} {ts us : Tokens} → xs ≡ ys → ts ≡ us → Start ys us → Start xs ts
start_as {xs} {ys} {ts} {us} e f s = record { fine = subst Fine (sym e) s.fine; same = ap (λ l. map token_at l) e ∙ s.same ∙ sym f }

pub start-after : {xs : Spots} {ts : Tokens} (t : Token) → opens t ≡ false → is_dot t ≡ false → starts_equal t ≡ false → Row xs ts
    → Start (spot t Usual ∷ xs) (t ∷ ts)
start-after {xs} {ts} t o d e r = record { fine = fine-after xs t o d e r.row; same = ap (λ l. t ∷ l) r.same }

pub start-one : (t : Token) → opens t ≡ false → is_dot t ≡ false → starts_equal t ≡ false → Start (spot t Usual ∷ []) (t ∷ [])
start-one t o d e = start-after t o d e row-nothing

pub start-tight : {xs : Spots} {ts : Tokens} (s : Spot) → role_fits s.role s.token ≡ true → is_dot s.token ≡ false → starts_equal s.token ≡ false → Start xs ts
    → Start (s ∷ xs) (s.token ∷ ts)
start-tight s f d e r = record {
  fine = record { begins = λ ys. ap not e; row = rows-tight s f d r.fine };
  same = ap (λ l. s.token ∷ l) r.same;
}

pub start-then : {xs ys : Spots} {ts us : Tokens} → Start xs ts → Row ys us → Start (xs ++ ys) (ts ++ us)
start-then {xs} {ys} {ts} {us} x y = record { fine = fine-then xs ys x.fine y.row; same = tokens-append xs ys ts us x.same y.same }

-- what stands in brackets

pub within-start : {xs : Spots} {ts : Tokens} → Start xs ts → Within xs ts
within-start s = record { inner = inner-fine s.fine; same = s.same }

pub within-nothing : Within [] []
within-nothing = record { inner = inner-nothing; same = refl }

bracketed : (opener closer : Token) (xs : Spots) (ts : Tokens) → map token_at xs ≡ ts
    → map token_at (spot opener Usual ∷ xs ++ spot closer Usual ∷ []) ≡ opener ∷ ts ++ closer ∷ []
bracketed opener closer xs ts x = ap (λ l. opener ∷ l) (tokens-append xs (spot closer Usual ∷ []) ts (closer ∷ []) x refl)

pub row-round : {xs : Spots} {ts : Tokens} → Within xs ts → Row (sign LeftParen ∷ xs ++ sign RightParen ∷ []) (token.Sign LeftParen ∷ ts ++ token.Sign RightParen ∷ [])
row-round {xs} {ts} w = record { row = round-row w.inner; same = bracketed (token.Sign LeftParen) (token.Sign RightParen) xs ts w.same }

pub row-square : {xs : Spots} {ts : Tokens} → Within xs ts → Row (sign LeftBracket ∷ xs ++ sign RightBracket ∷ []) (token.Sign LeftBracket ∷ ts ++ token.Sign RightBracket ∷ [])
row-square {xs} {ts} w = record { row = square-row w.inner; same = bracketed (token.Sign LeftBracket) (token.Sign RightBracket) xs ts w.same }

pub row-curly : {xs : Spots} {ts : Tokens} → Within xs ts → Row (sign LeftBrace ∷ xs ++ sign RightBrace ∷ []) (token.Sign LeftBrace ∷ ts ++ token.Sign RightBrace ∷ [])
row-curly {xs} {ts} w = record { row = curly-row w.inner; same = bracketed (token.Sign LeftBrace) (token.Sign RightBrace) xs ts w.same }

pub start-round : {xs : Spots} {ts : Tokens} → Within xs ts → Start (sign LeftParen ∷ xs ++ sign RightParen ∷ []) (token.Sign LeftParen ∷ ts ++ token.Sign RightParen ∷ [])
start-round {xs} {ts} w = record { fine = round-fine w.inner; same = bracketed (token.Sign LeftParen) (token.Sign RightParen) xs ts w.same }

pub start-square : {xs : Spots} {ts : Tokens} → Within xs ts → Start (sign LeftBracket ∷ xs ++ sign RightBracket ∷ []) (token.Sign LeftBracket ∷ ts ++ token.Sign RightBracket ∷ [])
start-square {xs} {ts} w = record { fine = square-fine w.inner; same = bracketed (token.Sign LeftBracket) (token.Sign RightBracket) xs ts w.same }

pub start-curly : {xs : Spots} {ts : Tokens} → Within xs ts → Start (sign LeftBrace ∷ xs ++ sign RightBrace ∷ []) (token.Sign LeftBrace ∷ ts ++ token.Sign RightBrace ∷ [])
start-curly {xs} {ts} w = record { fine = curly-fine w.inner; same = bracketed (token.Sign LeftBrace) (token.Sign RightBrace) xs ts w.same }

-- at the end of a line, or before a colon: what follows begins with no equals sign

pub record Tail (xs : Spots) (ts : Tokens) : Type 0 where
  pub row : (ys : List Spot) → begins_well ys ≡ true → is_row ys ≡ true → is_row (xs ++ ys) ≡ true
  pub same : map token_at xs ≡ ts

pub record Ending (xs : Spots) (ts : Tokens) : Type 0 where
  pub begins : (ys : List Spot) → begins_well (xs ++ ys) ≡ true
  pub row : (ys : List Spot) → begins_well ys ≡ true → is_row ys ≡ true → is_row (xs ++ ys) ≡ true
  pub same : map token_at xs ≡ ts

pub tail-row : {xs : Spots} {ts : Tokens} → Row xs ts → Tail xs ts
tail-row r = record { row = λ ys b h. r.row ys h; same = r.same }

-- a sign at the end
pub tail-sign : (s : Spot) → role_fits s.role s.token ≡ true → is_dot s.token ≡ false → Tail (s ∷ []) (s.token ∷ [])
tail-sign s f d = record { row = λ ys b h. tight-row s f d ys b h; same = refl }

pub ending-start : {xs : Spots} {ts : Tokens} → Start xs ts → Ending xs ts
ending-start s = record { begins = s.fine.begins; row = λ ys b h. s.fine.row ys h; same = s.same }

pub ending-then : {xs ys : Spots} {ts us : Tokens} → Start xs ts → Tail ys us → Ending (xs ++ ys) (ts ++ us)
ending-then {xs} {ys} {ts} {us} x y = record {
  begins = λ zs. subst (λ l. begins_well l ≡ true) (sym (append_assoc xs ys zs)) (x.fine.begins (ys ++ zs));
  row = λ zs b h. subst (λ l. is_row l ≡ true) (sym (append_assoc xs ys zs)) (x.fine.row (ys ++ zs) (y.row zs b h));
  same = tokens-append xs ys ts us x.same y.same;
}

-- an ending after the word with which its line begins
pub ending-after : {xs : Spots} {ts : Tokens} (t : Token) → opens t ≡ false → is_dot t ≡ false → starts_equal t ≡ false → Ending xs ts
    → Ending (spot t Usual ∷ xs) (t ∷ ts)
ending-after {xs} t o d e x = record {
  begins = λ ys. ap not e;
  row = λ ys b h. plain-row t o d (xs ++ ys) (x.row ys b h);
  same = ap (λ l. t ∷ l) x.same;
}

-- an ending after a start
pub ending-both : {xs ys : Spots} {ts us : Tokens} → Start xs ts → Ending ys us → Ending (xs ++ ys) (ts ++ us)
ending-both x y = ending-then x (record { row = y.row; same = y.same })
