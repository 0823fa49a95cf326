-- Tokens with the places that a tree keeps of them, and how such marks agree with the tokens that were read.
use Rattle.std.specs.Prelude.{◌≡◌, List, [], ◌∷◌, Option, Some}
use Rattle.chi_token.specs.declared.place.Place.{Place}
use Rattle.chi_token.specs.declared.place.Spanned.{Spanned}
use Rattle.chi_token.specs.declared.token.Token.{Token}

-- what is made of a token and of its place, where the node keeps it
abbrev pub Put : Type 0 → Type 0
Put X = Token → Option Place → X

abbrev pub plain : Put Token
plain token place = token

-- a token, and its place where the node keeps it
pub record Mark : Type 0 where
  pub token : Token
  pub place : Option Place

abbrev pub mark : Put Mark
mark token place = record { token = token; place = place }

-- the token is this one, and a place that is kept is its place
pub record IsMarkOf (m : Mark) (x : Spanned) : Type 0 where
  pub token : m.token ≡ x.token
  pub place : (kept : Place) → m.place ≡ Some kept → kept ≡ x.place

-- as many of both, each of one kind related to the one of the other that stands where it does
pub data OneByOne {X Y : Type 0} (R : X → Y → Type 0) : List X → List Y → Type 0 where
  none : OneByOne R [] []
  more : {x : X} {y : Y} {xs : List X} {ys : List Y} → R x y → OneByOne R xs ys → OneByOne R (x ∷ xs) (y ∷ ys)

-- The marks are those of the tokens: the same tokens, and each place that is kept is that of its token.
abbrev pub Agree : List Mark → List Spanned → Type 0
Agree = OneByOne IsMarkOf
