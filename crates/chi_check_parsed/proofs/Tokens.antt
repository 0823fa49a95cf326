-- What the tokens of a short source are: a name is spelled by its own bytes, and a text is short.
use Rattle.std.proofs.Common.{◌≡◌, ℕ, suc, ◌<◌, ◌≤◌, ◌-◌, ◌^◌, Bool, true, false, cond, eqb, Option, Some, None, List, [], ◌∷◌, ◌++◌, map, length, take, drop, get_or, slice_range, min, refl, sym, ap, subst, ◌∙◌, arith, length-take, length-drop}
use Rattle.std.specs.Option.{option_map}
use Rattle.std.specs.List.{list_all}
use Rattle.std.proofs.lemmas.List.{take_all}
use Rattle.chi_token.specs.declared.keyword.Keyword.{Keyword}
use Rattle.chi_token.specs.declared.place.Spanned.{Spanned}
use Rattle.chi_token.specs.declared.sign.Sign.{Sign}
use Rattle.chi_token.specs.declared.token.Token.{Token}
use Rattle.chi_token.specs.declared.token.Token.TheVariants as token
use Rattle.chi_token.specs.Characters.{is_name_start, is_name_byte, is_digit, is_plain, quote, backslash}
use Rattle.chi_token.specs.Keywords.{keyword_of}
use Rattle.chi_token.specs.Signs.{sign_of}
use Rattle.chi_token.specs.Texts.{text_of, meaning, escape_meaning, escaped, byte_then}
use Rattle.chi_token.specs.Tokens.{token_spelled_by, word_or_name, is_digits, is_real}
use Rattle.chi_lex.specs.Reading.{Reads}
use Rattle.chi_lex.specs.Spans.{SpanFrom, alone}
use Rattle.chi_lex.proofs.LawLemmas.{Reads-SpanFrom, Reads-spelled}
use Rattle.chi_tree_spell.specs.Words.{Tokens, token_of}

-- what is known of one of them
abbrev pub Fits : Token → Type 0
Fits (token.Word _) = Unit {0}
Fits (token.Name bytes) = token_spelled_by bytes ≡ Some (token.Name bytes)
Fits (token.Int bytes) = Unit {0}
Fits (token.Real bytes) = Unit {0}
Fits (token.Text bytes) = length bytes < 2 ^ 32
Fits (token.Sign sign) = Unit {0}

abbrev pub AllFit : Tokens → Type 0
AllFit [] = Unit {0}
AllFit (t ∷ ts) = Fits t × AllFit ts

-- ---- names

name_fits : (bytes bs : List ℕ) → token_spelled_by bs ≡ Some (token.Name bytes) → token_spelled_by bytes ≡ Some (token.Name bytes)
name_fits bytes bs is =
    let reads : Reads bytes (alone (token.Name bytes) ∷ []) = Reads-spelled (token.Name bytes) (bs, is) in
    let spans = Reads-SpanFrom bytes (alone (token.Name bytes) ∷ []) reads in
    subst (λ xs. token_spelled_by xs ≡ Some (token.Name bytes)) (take_all (length bytes - 0) bytes (omega arith)) spans.1.spelled

-- ---- texts

before_length : (o : Option ℕ) (m : Option (List ℕ)) (bs : List ℕ) (n : ℕ) → ((ms : List ℕ) → m ≡ Some ms → length ms ≤ n) → byte_then o m ≡ Some bs → length bs ≤ suc n
before_length None m bs n h e = absurd (cc)
before_length (Some c) None bs n h e = absurd (cc)
before_length (Some c) (Some ms) bs n h e =
    let same : c ∷ ms ≡ bs = cc in
    let low : length ms ≤ n = h ms refl in
    subst (λ bs. length bs ≤ suc n) same (omega arith)

meaning_length : (run bs : List ℕ) → meaning run ≡ Some bs → length bs ≤ length run
unfolding meaning escape_meaning
meaning_length [] bs h = let none : [] ≡ bs = cc in subst (λ xs. length xs ≤ 0) none (omega arith)
meaning_length (c ∷ []) bs h = one (eqb c backslash) (is_plain c) h
  where
    one : (b p : Bool) → cond b None (cond p (byte_then (Some c) (Some [])) None) ≡ Some bs → length bs ≤ 1
    one true p h = absurd (cc)
    one false true h = let list : c ∷ [] ≡ bs = cc in subst (λ xs. length xs ≤ 1) list (omega arith)
    one false false h = absurd (cc)
meaning_length (c ∷ d ∷ cs) bs h = two (eqb c backslash) (is_plain c) (λ ms is. meaning_length cs ms is) (λ ms is. meaning_length (d ∷ cs) ms is) h
  where
    two : (b p : Bool) → ((ms : List ℕ) → meaning cs ≡ Some ms → length ms ≤ length cs) → ((ms : List ℕ) → meaning (d ∷ cs) ≡ Some ms → length ms ≤ suc (length cs))
        → cond b (byte_then (escaped d) (meaning cs)) (cond p (byte_then (Some c) (meaning (d ∷ cs))) None) ≡ Some bs → length bs ≤ suc (suc (length cs))
    two true p after next h = let low : length bs ≤ suc (length cs) = before_length (escaped d) (meaning cs) bs (length cs) after h in omega arith
    two false true after next h = before_length (Some c) (meaning (d ∷ cs)) bs (suc (length cs)) next h
    two false false after next h = absurd (cc)

text_length : (cs bs : List ℕ) → text_of cs ≡ Some bs → length bs ≤ length cs
text_length cs bs is = by (eqb (get_or cs (length cs - 1) 0) quote) is
  where
    by : (b : Bool) → cond b (meaning (take (length cs - 1) cs)) None ≡ Some bs → length bs ≤ length cs
    by true h =
        let low : length bs ≤ length (take (length cs - 1) cs) = meaning_length _ bs h in
        let few : length (take (length cs - 1) cs) ≤ length cs = subst (λ n. n ≤ length cs) (sym (length-take (length cs - 1) cs)) (omega arith) in
        omega arith
    by false h = absurd (cc)

-- a text has no more bytes than spell it
spelled_length : (bytes bs : List ℕ) → token_spelled_by bytes ≡ Some (token.Text bs) → length bs ≤ length bytes
unfolding token_spelled_by
spelled_length [] bs is = absurd (cc)
spelled_length (c ∷ cs) bs is =
    by (is_name_start c) (list_all is_name_byte cs) (is_digit c) (is_digits (c ∷ cs)) (is_real (c ∷ cs)) (eqb c quote) (keyword_of (c ∷ cs)) (text_of cs) refl (sign_of (c ∷ cs)) is
  where
    bytes : List ℕ
    bytes = c ∷ cs

    by : (a n d i r q : Bool) (k : Option Keyword) (o : Option (List ℕ)) → text_of cs ≡ o → (s : Option Sign)
        → cond a (cond n (Some (word_or_name k bytes)) None) (cond d (cond i (Some (token.Int bytes)) (cond r (Some (token.Real bytes)) None)) (cond q (option_map (λ b. token.Text b) o) (option_map (λ s. token.Sign s) s))) ≡ Some (token.Text bs)
        → length bs ≤ suc (length cs)
    by true true d i r q (Some k) o read s h = absurd (cc)
    by true true d i r q None o read s h = absurd (cc)
    by true false d i r q k o read s h = absurd (cc)
    by false n true true r q k o read s h = absurd (cc)
    by false n true false true q k o read s h = absurd (cc)
    by false n true false false q k o read s h = absurd (cc)
    by false n false i r true k None read s h = absurd (cc)
    by false n false i r true k (Some text) read s h =
        let same : text ≡ bs = cc in
        let low : length text ≤ length cs = text_length cs text read in
        subst (λ bs. length bs ≤ suc (length cs)) same (omega arith)
    by false n false i r false k o read None h = absurd (cc)
    by false n false i r false k o read (Some s) h = absurd (cc)

-- ---- tokens

span_fits : (source : List ℕ) (t : Token) (start stop : ℕ) → length source < 2 ^ 32 → token_spelled_by (slice_range source start stop) ≡ Some t → Fits t
span_fits source (token.Word _) start stop few is = tt
span_fits source (token.Name bytes) start stop few is = name_fits bytes (slice_range source start stop) is
span_fits source (token.Int bytes) start stop few is = tt
span_fits source (token.Real bytes) start stop few is = tt
span_fits source (token.Text bytes) start stop few is =
    let low : length bytes ≤ length (slice_range source start stop) = spelled_length _ bytes is in
    let part : length (slice_range source start stop) ≤ length source = subst (λ n. n ≤ length source) (sym (length-take (stop - start) (drop start source) ∙ ap (λ n. min (stop - start) n) (length-drop start source))) (omega arith) in
    omega arith
span_fits source (token.Sign sign) start stop few is = tt

spans_fit : (source : List ℕ) (offset : ℕ) (tokens : List Spanned) → length source < 2 ^ 32 → SpanFrom source offset tokens → AllFit (map token_of tokens)
spans_fit source offset [] few spans = tt
spans_fit source offset (t ∷ ts) few spans = (span_fits source t.token t.start t.stop few spans.1.spelled, spans_fit source t.stop ts few spans.2)

pub tokens_fit : (source : List ℕ) (tokens : List Spanned) → length source < 2 ^ 32 → Reads source tokens → AllFit (map token_of tokens)
tokens_fit source tokens few reads = spans_fit source 0 tokens few (Reads-SpanFrom source tokens reads)

-- ---- parts of lists

pub fit_left : (xs ys : Tokens) → AllFit (xs ++ ys) → AllFit xs
fit_left [] ys h = tt
fit_left (x ∷ xs) ys h = (h.0, fit_left xs ys h.1)

pub fit_right : (xs ys : Tokens) → AllFit (xs ++ ys) → AllFit ys
fit_right [] ys h = h
fit_right (x ∷ xs) ys h = fit_right xs ys h.1
