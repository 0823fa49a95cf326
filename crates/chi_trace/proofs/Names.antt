-- What is taken for a name is a name of the language.
use Rattle.std.proofs.Common.{◌≡◌, ℕ, ◌&&◌, ◌||◌, Bool, true, false, cond, List, [], ◌∷◌, bytes_eq, Option, Some, None, refl, ap, sym, ◌∙◌}
use Rattle.std.specs.Prelude.{◌==◌, option_map, is_none}
use Rattle.std.specs.List.{list_all}
use Rattle.chi_core.specs.Sound.{IsName}
use Rattle.chi_token.specs.declared.keyword.Keyword.{Keyword}
use Rattle.chi_token.specs.declared.sign.Sign.{Sign as ASign}
use Rattle.chi_token.specs.declared.token.Token.{Token}
use Rattle.chi_token.specs.declared.token.Token.TheVariants.{Word, Name, Int, Real, Text, Sign}
use Rattle.chi_token.specs.Characters.{quote, is_digit, is_name_start, is_name_byte}
use Rattle.chi_token.specs.Keywords.{keyword_of}
use Rattle.chi_token.specs.Signs.{sign_of}
use Rattle.chi_token.specs.Texts.{text_of}
use Rattle.chi_token.specs.Tokens.{word_or_name, is_digits, is_real, number_of, token_spelled_by}
use Rattle.chi_trace.specs.Events.{unknown_part}
use Rattle.chi_trace.specs.Told.{is_name}
use Rattle.chi_trace.proofs.Cuts.{IsPart, and_both, both_and, part_of}
use Rattle.chi_trace.proofs.Numbers.{are_same}

text_no_name : (o : Option (List ℕ)) (name : List ℕ) → option_map Text o ≡ Some (Name name) → ⊥
text_no_name None name e = absurd (cc)
text_no_name (Some text) name e = absurd (cc)

sign_no_name : (o : Option ASign) (name : List ℕ) → option_map Sign o ≡ Some (Name name) → ⊥
sign_no_name None name e = absurd (cc)
sign_no_name (Some sign) name e = absurd (cc)

number_no_name : (whole parts : Bool) (bytes name : List ℕ) → cond whole (Some (Int bytes)) (cond parts (Some (Real bytes)) None) ≡ Some (Name name) → ⊥
number_no_name true parts bytes name e = absurd (cc)
number_no_name false true bytes name e = absurd (cc)
number_no_name false false bytes name e = absurd (cc)

-- what begins otherwise than a name is no name
other_no_name : (digit quoted : Bool) (bytes name : List ℕ) (text : Option (List ℕ)) (sign : Option ASign)
    → cond digit (number_of bytes) (cond quoted (option_map Text text) (option_map Sign sign)) ≡ Some (Name name) → ⊥
other_no_name true quoted bytes name text sign e = number_no_name (is_digits bytes) (is_real bytes) bytes name e
other_no_name false true bytes name text sign e = text_no_name text name e
other_no_name false false bytes name text sign e = sign_no_name sign name e

spelled : (starts goes_on : Bool) (k : Option Keyword) (bytes name : List ℕ) (other : Option Token) → (other ≡ Some (Name name) → ⊥)
    → cond starts (cond goes_on (Some (word_or_name k bytes)) None) other ≡ Some (Name name) → (starts && goes_on && is_none k) ≡ true
spelled true true None bytes name other never e = refl
spelled true true (Some k) bytes name other never e = absurd (cc)
spelled true false k bytes name other never e = absurd (cc)
spelled false goes_on k bytes name other never e = absurd (never e)

named : (starts goes_on : Bool) (k : Option Keyword) (bytes : List ℕ) (other : Option Token) → (starts && goes_on && is_none k) ≡ true
    → cond starts (cond goes_on (Some (word_or_name k bytes)) None) other ≡ Some (Name bytes)
named true true None bytes other e = refl
named true true (Some k) bytes other e = absurd (cc)
named true false k bytes other e = absurd (cc)
named false goes_on k bytes other e = absurd (cc)

pub name_told : (text : List ℕ) → IsName text → is_name text ≡ true
unfolding is_name token_spelled_by
name_told [] e = absurd (cc)
name_told (c ∷ cs) e =
    spelled (is_name_start c) (list_all is_name_byte cs) (keyword_of (c ∷ cs)) (c ∷ cs) (c ∷ cs) _
    (other_no_name (is_digit c) (c == quote) (c ∷ cs) (c ∷ cs) (text_of cs) (sign_of (c ∷ cs))) e

pub told_name : (text : List ℕ) → is_name text ≡ true → IsName text
unfolding is_name token_spelled_by
told_name [] e = absurd (cc)
told_name (c ∷ cs) e = named (is_name_start c) (list_all is_name_byte cs) (keyword_of (c ∷ cs)) (c ∷ cs) _ e

pub part-name : (text : List ℕ) → is_name text ≡ true → IsPart text
unfolding is_name
part-name [] e = refl
part-name (c ∷ cs) e =
    let front = (and_both (is_name_start c && list_all is_name_byte cs) (is_none (keyword_of (c ∷ cs))) e).0 in
    let both = and_both (is_name_start c) (list_all is_name_byte cs) front in
    part_of is_name_byte refl (c ∷ cs) (both_and (is_name_byte c) (list_all is_name_byte cs) (ap (λ b. b || is_digit c) both.0) both.1)

-- a name isn't the part that stands for what isn't known
pub name_is_known : (text : List ℕ) → is_name text ≡ true → bytes_eq text unknown_part ≡ false
unfolding is_name
name_is_known text e = by (bytes_eq text unknown_part) refl
  where
    by : (b : Bool) → bytes_eq text unknown_part ≡ b → b ≡ false
    by false q = refl
    by true q = let no : true ≡ false = sym e ∙ ap is_name (are_same text unknown_part q) in absurd (cc)
