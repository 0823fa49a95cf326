-- A token's canonical spelling is read as that token alone.
use Rattle.std.proofs.Common.{◌≡◌, ℕ, zero, suc, ◌+◌, ◌-◌, ◌||◌, Bool, true, false, cond, eqb, Option, Some, None, Ok, List, [], ◌∷◌, length, take, drop, get_or, refl, sym, ap, subst, ◌∙◌, arith}
use Rattle.std.specs.Option.{option_map}
use Rattle.std.specs.List.{list_all, take_while}
use Rattle.std.proofs.lemmas.Bool.{eqb-true}
use Rattle.std.proofs.lemmas.List.{take_all, drop_all}
use Rattle.chi_token.specs.declared.keyword.Keyword.{Keyword}
use Rattle.chi_token.specs.declared.keyword.Keyword.TheVariants.{AltWord}
use Rattle.chi_token.specs.declared.sign.Sign.{Sign}
use Rattle.chi_token.specs.declared.sign.Sign.TheVariants.{LeftParen}
use Rattle.chi_token.specs.declared.token.Token.{Token}
use Rattle.chi_token.specs.declared.token.Token.TheVariants as token
use Rattle.chi_token.specs.Characters.{is_name_start, is_name_byte, is_digit, quote}
use Rattle.chi_token.specs.Keywords.{keyword_of, word_of}
use Rattle.chi_token.specs.Prefixes.{longest_prefix}
use Rattle.chi_token.specs.Signs.{sign_of, mark_of}
use Rattle.chi_token.specs.Spelling.{canonical_spelling}
use Rattle.chi_token.specs.Tables.{value_at}
use Rattle.chi_token.specs.Texts.{text_of, meaning}
use Rattle.chi_token.specs.Tokens.{token_spelled_by, word_or_name, is_digits, is_real}
use Rattle.chi_lex.specs.Gaps.{gap_of, goes_on}
use Rattle.chi_lex.specs.Places.{place_of}
use Rattle.chi_lex.proofs.ReadingFunction.{reading, reading_from, from_gap, from_token, token_then}
use Rattle.chi_lex.specs.Reading.{spanned}
use Rattle.chi_lex.specs.Spans.{alone}
use Rattle.chi_lex.proofs.Prefixes.{longest_prefix-whole}
use Rattle.chi_lex.proofs.QuoteLemmas.{token_spelled_by-quoted}

-- each keyword's word, and each sign's mark, spells it
token_spelled_by-word_of : (keyword : Keyword) → token_spelled_by (word_of keyword) ≡ Some (token.Word keyword)
unfolding token_spelled_by keyword_of word_of value_at
token_spelled_by-word_of AltWord = refl
token_spelled_by-word_of _ = refl

token_spelled_by-mark_of : (sign : Sign) → token_spelled_by (mark_of sign) ≡ Some (token.Sign sign)
unfolding token_spelled_by sign_of mark_of value_at
token_spelled_by-mark_of LeftParen = refl
token_spelled_by-mark_of _ = refl

word_or_name-spelled : (keyword : Option Keyword) (bytes : List ℕ) → token_spelled_by bytes ≡ Some (word_or_name keyword bytes) → token_spelled_by (canonical_spelling (word_or_name keyword bytes)) ≡ Some (word_or_name keyword bytes)
word_or_name-spelled (Some keyword) bytes is = token_spelled_by-word_of keyword
word_or_name-spelled None bytes is = is

text-spelled : (cs : List ℕ) (bs : List ℕ) → text_of cs ≡ Some bs → token_spelled_by (canonical_spelling (token.Text bs)) ≡ Some (token.Text bs)
text-spelled cs bs is = by (eqb (get_or cs (length cs - 1) 0) quote) is
  where
    by : (b : Bool) → cond b (meaning (take (length cs - 1) cs)) None ≡ Some bs → token_spelled_by (canonical_spelling (token.Text bs)) ≡ Some (token.Text bs)
    by true h = token_spelled_by-quoted (take (length cs - 1) cs) bs h
    by false h = cc

-- what some bytes spell is spelled by its canonical spelling too
pub token_spelled_by-spelled : (bytes : List ℕ) (t : Token) → token_spelled_by bytes ≡ Some t → token_spelled_by (canonical_spelling t) ≡ Some t
unfolding token_spelled_by
token_spelled_by-spelled [] t is = cc
token_spelled_by-spelled (c ∷ cs) t is =
    by (is_name_start c) (list_all is_name_byte cs) (is_digit c) (is_digits (c ∷ cs)) (is_real (c ∷ cs)) (eqb c quote) is
  where
    bytes : List ℕ
    bytes = c ∷ cs

    same_bytes : (u : Token) → u ≡ t → token_spelled_by bytes ≡ Some t → (token_spelled_by bytes ≡ Some u → token_spelled_by (canonical_spelling u) ≡ Some u) → token_spelled_by (canonical_spelling t) ≡ Some t
    same_bytes u same reads spells =
        subst (λ v. token_spelled_by (canonical_spelling v) ≡ Some v) same (spells (reads ∙ ap (λ v. Some v) (sym same)))

    text : (o : Option (List ℕ)) → text_of cs ≡ o → option_map (λ b. token.Text b) o ≡ Some t → token_spelled_by (canonical_spelling t) ≡ Some t
    text None read h = cc
    text (Some bs) read h =
        let same : token.Text bs ≡ t = cc in
        subst (λ v. token_spelled_by (canonical_spelling v) ≡ Some v) same (text-spelled cs bs read)

    sign : (o : Option Sign) → option_map (λ s. token.Sign s) o ≡ Some t → token_spelled_by (canonical_spelling t) ≡ Some t
    sign None h = cc
    sign (Some s) h =
        let same : token.Sign s ≡ t = cc in
        subst (λ v. token_spelled_by (canonical_spelling v) ≡ Some v) same (token_spelled_by-mark_of s)

    by : (a n d i r q : Bool) → cond a (cond n (Some (word_or_name (keyword_of bytes) bytes)) None) (cond d (cond i (Some (token.Int bytes)) (cond r (Some (token.Real bytes)) None)) (cond q (option_map (λ b. token.Text b) (text_of cs)) (option_map (λ s. token.Sign s) (sign_of bytes)))) ≡ Some t → token_spelled_by (canonical_spelling t) ≡ Some t
    by true true d i r q h =
        let same : word_or_name (keyword_of bytes) bytes ≡ t = cc in
        same_bytes (word_or_name (keyword_of bytes) bytes) same is (λ reads. word_or_name-spelled (keyword_of bytes) bytes reads)
    by true false d i r q h = cc
    by false n true true r q h = let same : token.Int bytes ≡ t = cc in same_bytes (token.Int bytes) same is (λ reads. reads)
    by false n true false true q h = let same : token.Real bytes ≡ t = cc in same_bytes (token.Real bytes) same is (λ reads. reads)
    by false n true false false q h = cc
    by false n false i r true h = text (text_of cs) refl h
    by false n false i r false h = sign (sign_of bytes) h

-- no token begins as a gap does
gap_of-token : (c : ℕ) (cs : List ℕ) (t : Token) → token_spelled_by (c ∷ cs) ≡ Some t → gap_of (c ∷ cs) ≡ None
unfolding token_spelled_by sign_of value_at
gap_of-token c cs t is = by (eqb c 32) refl (eqb c 9) refl (eqb c 13) refl (eqb c 10) refl (eqb c 35) refl
  where
    no : (n : ℕ) → eqb c n ≡ true → token_spelled_by (n ∷ cs) ≡ None → {P : Type 0} → P
    no n same none =
        let some : token_spelled_by (n ∷ cs) ≡ Some t = subst (λ x. token_spelled_by (x ∷ cs) ≡ Some t) (eqb-true c n same) is in
        let clash : None ≡ Some t = sym none ∙ some in
        cc

    by : (s : Bool) → eqb c 32 ≡ s → (b : Bool) → eqb c 9 ≡ b → (r : Bool) → eqb c 13 ≡ r → (l : Bool) → eqb c 10 ≡ l → (h : Bool) → eqb c 35 ≡ h → cond (((s || b) || r) || l) (Some 1) (cond h (Some (1 + length (take_while goes_on cs))) None) ≡ None
    by true at b b' r r' l l' h h' = no 32 at refl
    by false s true at r r' l l' h h' = no 9 at refl
    by false s false b true at l l' h h' = no 13 at refl
    by false s false b false r true at h h' = no 10 at refl
    by false s false b false r false l true at = no 35 at refl
    by false s false b false r false l false h = refl

-- nothing is read at the end
reading_from-end : (left : ℕ) (source : List ℕ) (offset : ℕ) → drop offset source ≡ [] → reading_from left source offset ≡ Ok []
unfolding reading_from
reading_from-end zero source offset is = refl
reading_from-end (suc left) source offset is = rw is refl

reading-whole : (c : ℕ) (cs : List ℕ) (t : Token) → token_spelled_by (c ∷ cs) ≡ Some t → reading (c ∷ cs) ≡ Ok (record { token = t; place = record { line = 1; column = 1 }; start = 0; stop = length (c ∷ cs) } ∷ [])
unfolding reading reading_from place_of
reading-whole c cs t is =
    let bytes = c ∷ cs in
    let n = length bytes in
    let whole : take n bytes ≡ bytes = take_all n bytes (omega arith) in
    let found : longest_prefix token_spelled_by n bytes ≡ Some (t, n) =
    longest_prefix-whole token_spelled_by t bytes n (ap (λ xs. token_spelled_by xs) whole ∙ is) in
    let stop : 0 + n ≡ n = omega arith in
    ap (λ o. from_gap bytes 0 (reading_from (length cs) bytes) bytes o) (gap_of-token c cs t is)
    ∙ ap (λ o. from_token bytes 0 (reading_from (length cs) bytes) o) found
    ∙ ap (λ k. token_then (spanned bytes t 0 k) (reading_from (length cs) bytes k)) stop
    ∙ ap (λ r. token_then (spanned bytes t 0 n) r) (reading_from-end (length cs) bytes n (drop_all n bytes (omega arith)))

token_spelled_by-nothing : token_spelled_by [] ≡ None
unfolding token_spelled_by
token_spelled_by-nothing = refl

pub reading-spelled : (bytes : List ℕ) (t : Token) → token_spelled_by bytes ≡ Some t → reading (canonical_spelling t) ≡ Ok (alone t ∷ [])
reading-spelled bytes t is = by (canonical_spelling t) (token_spelled_by-spelled bytes t is)
  where
    by : (spelling : List ℕ) → token_spelled_by spelling ≡ Some t → reading spelling ≡ Ok (record { token = t; place = record { line = 1; column = 1 }; start = 0; stop = length spelling } ∷ [])
    by [] is = let clash : None ≡ Some t = sym token_spelled_by-nothing ∙ is in cc
    by (c ∷ cs) is = reading-whole c cs t is
