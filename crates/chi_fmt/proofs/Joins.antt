-- Two tokens that stand side by side are read as they are, with or without a space between them.
use Rattle.std.proofs.Common.{◌≡◌, ℕ, ◌+◌, Bool, true, false, not, ◌||◌, ◌&&◌, cond, eqb, Option, Some, None, List, [], ◌∷◌, ◌++◌, length, refl, sym, ap, subst, ◌∙◌, arith}
use Rattle.std.specs.Option.{option_map}
use Rattle.std.specs.List.{list_all, prefix_len}
use Rattle.std.proofs.lemmas.Bool.{eqb-true}
use Rattle.std.proofs.lemmas.Bool.Decides.{nat_tests}
use Rattle.chi_token.specs.declared.sign.Sign.{Sign}
use Rattle.chi_token.specs.declared.sign.Sign.TheVariants.{LeftParen, RightParen, LeftBracket, RightBracket, RightBrace, Bang, Question, Comma, Semicolon, Colon, Dot, Assign, Equal, Greater}
use Rattle.chi_token.specs.declared.token.Token.{Token}
use Rattle.chi_token.specs.declared.token.Token.TheVariants as token
use Rattle.chi_token.specs.Characters.{is_digit, is_name_byte, is_name_start, line_feed, quote}
use Rattle.chi_token.specs.Keywords.{keyword_of, word_of}
use Rattle.chi_token.specs.Signs.{sign_of, mark_of}
use Rattle.chi_token.specs.Spelling.{canonical_spelling}
use Rattle.chi_token.specs.Texts.{quoted, text_of}
use Rattle.chi_token.specs.Tokens.{IsToken, token_spelled_by, word_or_name, is_digits, is_real}
use Rattle.chi_lex.specs.Fractions.{fraction_by}
use Rattle.chi_lex.specs.Gaps.{space}
use Rattle.chi_lex.specs.Reading.{longest_token}
use Rattle.chi_lex.proofs.Runs.{StopsAt, and_left}
use Rattle.chi_fmt.specs.declared.spot.Role.{Role}
use Rattle.chi_fmt.specs.declared.spot.Role.TheVariants.{Usual, Prefix, Communicates, Opens, Closes}
use Rattle.chi_fmt.specs.declared.spot.Spot.{Spot}
use Rattle.chi_fmt.specs.Spaces.{closes, ends_close, opens, holds_next, holds_last, is_bracket, takes_bracket, is_joined}
use Rattle.chi_fmt.specs.Sound.{role_fits, is_sign, is_greater, is_usual, is_dot, is_name, starts_equal, is_tight, fits}
use Rattle.chi_fmt.proofs.Standing.{Breaks, equals, spells, standing, sign-before}

-- the bytes before which each token stands

pub space-breaks : (rest : List ℕ) → Breaks (space ∷ rest)
space-breaks rest = record { no_name = refl; no_digit = refl; no_fraction = refl; no_sign = refl }

pub feed-breaks : (rest : List ℕ) → Breaks (line_feed ∷ rest)
feed-breaks rest = record { no_name = refl; no_digit = refl; no_fraction = refl; no_sign = refl }

no_more : (rest : List ℕ) → StopsAt is_digit rest → prefix_len is_digit rest ≡ 0
no_more [] stops = refl
no_more (x ∷ rest) stops = ap (λ b. cond b (1 + prefix_len is_digit rest) 0) stops

dot-breaks : (rest : List ℕ) → StopsAt is_digit rest → Breaks (46 ∷ rest)
dot-breaks rest stops = record { no_name = refl; no_digit = refl; no_fraction = ap (λ n. fraction_by n) (no_more rest stops); no_sign = refl }

pub close-breaks : (sign : Sign) (rest : List ℕ) → ends_close sign ≡ true → (is_dot (token.Sign sign) ≡ true → StopsAt is_digit rest) → Breaks (mark_of sign ++ rest)
unfolding mark_of
close-breaks Comma rest h stops = record { no_name = refl; no_digit = refl; no_fraction = refl; no_sign = refl }
close-breaks Semicolon rest h stops = record { no_name = refl; no_digit = refl; no_fraction = refl; no_sign = refl }
close-breaks Colon rest h stops = record { no_name = refl; no_digit = refl; no_fraction = refl; no_sign = refl }
close-breaks Dot rest h stops = dot-breaks rest (stops refl)
close-breaks RightParen rest h stops = record { no_name = refl; no_digit = refl; no_fraction = refl; no_sign = refl }
close-breaks RightBracket rest h stops = record { no_name = refl; no_digit = refl; no_fraction = refl; no_sign = refl }
close-breaks RightBrace rest h stops = record { no_name = refl; no_digit = refl; no_fraction = refl; no_sign = refl }
close-breaks Bang rest h stops = record { no_name = refl; no_digit = refl; no_fraction = refl; no_sign = refl }
close-breaks Question rest h stops = record { no_name = refl; no_digit = refl; no_fraction = refl; no_sign = refl }
close-breaks _ rest h stops = cc

closing-breaks : (t : Token) (rest : List ℕ) → closes t ≡ true → (is_dot t ≡ true → StopsAt is_digit rest) → Breaks (canonical_spelling t ++ rest)
closing-breaks (token.Sign sign) rest h stops = close-breaks sign rest h stops
closing-breaks _ rest h stops = cc

greater-breaks : (t : Token) (rest : List ℕ) → is_greater t ≡ true → Breaks (canonical_spelling t ++ rest)
unfolding mark_of
greater-breaks (token.Sign Greater) rest h = record { no_name = refl; no_digit = refl; no_fraction = refl; no_sign = refl }
greater-breaks _ rest h = cc

bracket-breaks : (t : Token) (rest : List ℕ) → is_bracket t ≡ true → Breaks (canonical_spelling t ++ rest)
unfolding mark_of
bracket-breaks (token.Sign LeftParen) rest h = record { no_name = refl; no_digit = refl; no_fraction = refl; no_sign = refl }
bracket-breaks (token.Sign LeftBracket) rest h = record { no_name = refl; no_digit = refl; no_fraction = refl; no_sign = refl }
bracket-breaks _ rest h = cc

-- the first byte of a token

-- what begins with an equals sign is a sign
equal_is_sign : (c : ℕ) (cs : List ℕ) (t : Token) → token_spelled_by (c ∷ cs) ≡ Some t → is_sign t ≡ false → eqb c equals ≡ false
unfolding token_spelled_by
equal_is_sign c cs t is other = by (eqb c equals) refl
  where
    sign : (o : Option Sign) → option_map (λ s. token.Sign s) o ≡ Some t → eqb c equals ≡ false
    sign None h = cc
    sign (Some s) h =
        let same : token.Sign s ≡ t = cc in
        let no : true ≡ false = ap is_sign same ∙ other in
        cc

    by : (b : Bool) → eqb c equals ≡ b → eqb c equals ≡ false
    by false at = at
    by true at =
        let same : c ≡ equals = eqb-true c equals at in
        sign (sign_of (equals ∷ cs)) (subst (λ x. token_spelled_by (x ∷ cs) ≡ Some t) same is)

no_equal-bytes : (bytes rest : List ℕ) (t : Token) → token_spelled_by bytes ≡ Some t → is_sign t ≡ false → StopsAt (λ c. eqb c equals) (bytes ++ rest)
unfolding token_spelled_by
no_equal-bytes [] rest t is other = cc
no_equal-bytes (c ∷ cs) rest t is other = equal_is_sign c cs t is other

no_equal-sign : (sign : Sign) (rest : List ℕ) → starts_equal (token.Sign sign) ≡ false → StopsAt (λ c. eqb c equals) (mark_of sign ++ rest)
unfolding mark_of
no_equal-sign Assign rest h = cc
no_equal-sign Equal rest h = cc
no_equal-sign _ rest h = refl

no_equal : (t : Token) (rest : List ℕ) → IsToken t → starts_equal t ≡ false → StopsAt (λ c. eqb c equals) (canonical_spelling t ++ rest)
no_equal (token.Sign sign) rest is h = no_equal-sign sign rest h
no_equal (token.Word keyword) rest is h = no_equal-bytes (word_of keyword) rest (token.Word keyword) (spells (token.Word keyword) is) refl
no_equal (token.Name bytes) rest is h = no_equal-bytes bytes rest (token.Name bytes) (spells (token.Name bytes) is) refl
no_equal (token.Int bytes) rest is h = no_equal-bytes bytes rest (token.Int bytes) (spells (token.Int bytes) is) refl
no_equal (token.Real bytes) rest is h = no_equal-bytes bytes rest (token.Real bytes) (spells (token.Real bytes) is) refl
no_equal (token.Text bytes) rest is h = no_equal-bytes (quoted bytes) rest (token.Text bytes) (spells (token.Text bytes) is) refl

digit_no_name : (c : ℕ) → is_digit c ≡ true → is_name_start c ≡ false
digit_no_name c digit = grind (arith, nat_tests)

-- a name begins with no digit
name_no_digit : (bytes rest name : List ℕ) → token_spelled_by bytes ≡ Some (token.Name name) → StopsAt is_digit (bytes ++ rest)
unfolding token_spelled_by
name_no_digit [] rest name is = cc
name_no_digit (c ∷ cs) rest name is =
    by (is_name_start c) refl (is_digit c) refl (list_all is_name_byte cs) (is_digits (c ∷ cs)) (is_real (c ∷ cs)) (eqb c quote) is
  where
    bytes : List ℕ
    bytes = c ∷ cs

    by : (a : Bool) → is_name_start c ≡ a → (d : Bool) → is_digit c ≡ d → (n i r q : Bool) → cond a (cond n (Some (word_or_name (keyword_of bytes) bytes)) None) (cond d (cond i (Some (token.Int bytes)) (cond r (Some (token.Real bytes)) None)) (cond q (option_map (λ b. token.Text b) (text_of cs)) (option_map (λ s. token.Sign s) (sign_of bytes)))) ≡ Some (token.Name name) → is_digit c ≡ false
    by a a' false d' n i r q h = d'
    by true a' true d' n i r q h = let no : true ≡ false = sym a' ∙ digit_no_name c d' in cc
    by false a' true d' n true r q h = cc
    by false a' true d' n false true q h = cc
    by false a' true d' n false false q h = cc

pub name-stops : (t : Token) (rest : List ℕ) → IsToken t → is_name t ≡ true → StopsAt is_digit (canonical_spelling t ++ rest)
name-stops (token.Name bytes) rest is h = name_no_digit bytes rest bytes (spells (token.Name bytes) is)
name-stops _ rest is h = cc

-- a sign before anything that begins with no equals sign
tight : (t : Token) (back : List ℕ) → is_sign t ≡ true → StopsAt (λ c. eqb c equals) back
    → longest_token (canonical_spelling t ++ back) ≡ Some (t, length (canonical_spelling t))
tight (token.Sign sign) back h stops = sign-before sign back stops
tight _ back h stops = cc

opens_sign : (t : Token) → opens t ≡ true → is_sign t ≡ true
opens_sign (token.Sign sign) h = refl
opens_sign _ h = cc

role_sign : (r : Role) (t u : Token) → role_fits r t ≡ true → holds_next r u ≡ true → (is_sign t ≡ true) × (is_usual r ≡ false)
role_sign Usual t u fit h = cc
role_sign Prefix t u fit h = (fit, refl)
role_sign Communicates t u fit h = (fit, refl)
role_sign Opens t u fit h = (fit, refl)
role_sign Closes (token.Sign sign) u fit h = (refl, refl)
role_sign Closes (token.Word _) u fit h = cc
role_sign Closes (token.Name bytes) u fit h = cc
role_sign Closes (token.Int bytes) u fit h = cc
role_sign Closes (token.Real bytes) u fit h = cc
role_sign Closes (token.Text bytes) u fit h = cc

last_greater : (r : Role) (t : Token) → role_fits r t ≡ true → holds_last r ≡ true → is_greater t ≡ true
last_greater Closes t fit h = fit
last_greater _ t fit h = cc

no_equal_after : (s u : Spot) → fits s u ≡ true → is_tight s ≡ true → starts_equal u.token ≡ false
no_equal_after s u fit tight_s =
    by (starts_equal u.token)
    (ap (λ b. not b || not (starts_equal u.token)) (sym tight_s)
    ∙ and_left (not (is_tight s) || not (starts_equal u.token)) (not (is_dot s.token) || is_name u.token) fit)
  where
    by : (b : Bool) → (not true || not b) ≡ true → b ≡ false
    by true h = cc
    by false h = refl

-- a spot right before another one
pub joined : (s u : Spot) (rest : List ℕ) → IsToken s.token → IsToken u.token → role_fits s.role s.token ≡ true → role_fits u.role u.token ≡ true
    → fits s u ≡ true → (is_dot u.token ≡ true → StopsAt is_digit rest) → is_joined s u ≡ true
    → longest_token (canonical_spelling s.token ++ (canonical_spelling u.token ++ rest)) ≡ Some (s.token, length (canonical_spelling s.token))
joined s u rest is_s is_u fit_s fit_u fit stops h =
    by (closes u.token) refl (opens s.token) refl (holds_next s.role u.token) refl (holds_last u.role) refl h
  where
    back : List ℕ
    back = canonical_spelling u.token ++ rest

    Read : Type 0
    Read = longest_token (canonical_spelling s.token ++ back) ≡ Some (s.token, length (canonical_spelling s.token))

    after : is_sign s.token ≡ true → is_tight s ≡ true → Read
    after sign tight_s = tight s.token back sign (no_equal u.token rest is_u (no_equal_after s u fit tight_s))

    by : (c : Bool) → closes u.token ≡ c → (o : Bool) → opens s.token ≡ o → (n : Bool) → holds_next s.role u.token ≡ n → (l : Bool) → holds_last u.role ≡ l → ((((c || o) || n) || l) || (is_bracket u.token && takes_bracket s.token)) ≡ true → Read
    by true c' o o' n n' l l' e = standing s.token back is_s (closing-breaks u.token rest c' stops)
    by false c' true o' n n' l l' e = after (opens_sign s.token o') (ap (λ b. b || not (is_usual s.role)) o')
    by false c' false o' true n' l l' e =
        let found = role_sign s.role s.token u.token fit_s n' in
        after found.0 (ap (λ b. b || not (is_usual s.role)) o' ∙ ap not found.1)
    by false c' false o' false n' true l' e = standing s.token back is_s (greater-breaks u.token rest (last_greater u.role u.token fit_u l'))
    by false c' false o' false n' false l' e =
        standing s.token back is_s (bracket-breaks u.token rest (and_left (is_bracket u.token) (takes_bracket s.token) e))
