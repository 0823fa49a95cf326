-- Which rows of spots can be written so that each token is read as it is. Private to proofs: each line of a program has such a row.
use Rattle.std.specs.Prelude.{◌≡◌, Bool, true, false, not, ◌||◌, ◌&&◌, List, [], ◌∷◌}
use Rattle.chi_token.specs.declared.sign.Sign.TheVariants.{Assign, Dot, Equal, Greater}
use Rattle.chi_token.specs.declared.token.Token.{Token}
use Rattle.chi_token.specs.declared.token.Token.TheVariants as token
use Rattle.chi_token.specs.Tokens.{IsToken}
use Rattle.chi_fmt.specs.declared.line.Line.{Line}
use Rattle.chi_fmt.specs.declared.spot.Role.{Role}
use Rattle.chi_fmt.specs.declared.spot.Role.TheVariants.{Usual, Prefix, Communicates, Opens, Closes}
use Rattle.chi_fmt.specs.declared.spot.Spot.{Spot}
use Rattle.chi_fmt.specs.Spaces.{opens}

-- what a line needs of its spots

abbrev pub is_sign : Token → Bool
is_sign (token.Sign sign) = true
is_sign _ = false

abbrev pub is_greater : Token → Bool
is_greater (token.Sign Greater) = true
is_greater _ = false

-- a role that isn't usual is that of a sign, and the last one that of `>`
abbrev pub role_fits : Role → Token → Bool
role_fits Usual t = true
role_fits Prefix t = is_sign t
role_fits Communicates t = is_sign t
role_fits Opens t = is_sign t
role_fits Closes t = is_greater t

abbrev pub is_usual : Role → Bool
is_usual Usual = true
is_usual _ = false

abbrev pub is_dot : Token → Bool
is_dot (token.Sign Dot) = true
is_dot _ = false

abbrev pub is_name : Token → Bool
is_name (token.Name bytes) = true
is_name _ = false

abbrev pub starts_equal : Token → Bool
starts_equal (token.Sign Assign) = true
starts_equal (token.Sign Equal) = true
starts_equal _ = false

-- after the spot the next may stand without a space, whatever that one is
abbrev pub is_tight : Spot → Bool
is_tight s = opens s.token || not (is_usual s.role)

-- there it begins with no equals sign, and after a point it is a name
abbrev pub fits : Spot → Spot → Bool
fits s u = (not (is_tight s) || not (starts_equal u.token)) && (not (is_dot s.token) || is_name u.token)

-- the next spot, if there is one, may stand after it
abbrev pub next_fits : Spot → List Spot → Bool
next_fits s [] = true
next_fits s (u ∷ us) = fits s u

-- each spot is in a role that it can have, and may stand before the next
abbrev pub is_row : List Spot → Bool
is_row [] = true
is_row (s ∷ ss) = role_fits s.role s.token && (next_fits s ss && is_row ss)

abbrev pub AreTokens : List Spot → Type 0
AreTokens [] = Unit {0}
AreTokens (s ∷ ss) = IsToken s.token × AreTokens ss

abbrev pub AreRows : List Line → Type 0
AreRows [] = Unit {0}
AreRows (line ∷ lines) = AreTokens line.spots × (is_row line.spots ≡ true) × AreRows lines

abbrev pub AreSound : List Line → Type 0
AreSound [] = Unit {0}
AreSound (line ∷ lines) = (is_row line.spots ≡ true) × AreSound lines
