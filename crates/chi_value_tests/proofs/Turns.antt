-- What pieces take, piece by piece.
use Rattle.std.proofs.Common.{◌≡◌, ℕ, Bool, true, false, ◌&&◌, List, [], ◌∷◌, refl}
use Rattle.std.proofs.lemmas.Bool.{false≢true}
use Rattle.chi_value.specs.declared.format.Piece.{Piece}
use Rattle.chi_value.specs.declared.format.Piece.TheVariants.{Plain, Any, Whole, Fixed}
use Rattle.chi_value.specs.declared.value.Value.{Value}
use Rattle.chi_format.specs.Format.{may_render, takes}
use Rattle.chi_format.specs.SoFar.{is_shown}

pub more_plain : (names : List (List (List ℕ))) (p : Piece) (pieces : List Piece) (values : List Value) → is_shown p ≡ false →
    may_render names (p ∷ pieces) values ≡ may_render names pieces values
more_plain names (Plain bytes) pieces values h = refl
more_plain names (Any field) pieces values h = absurd (cc)
more_plain names (Whole field) pieces values h = absurd (cc)
more_plain names (Fixed field k) pieces values h = absurd (cc)

pub more_none : (names : List (List (List ℕ))) (p : Piece) (pieces : List Piece) → is_shown p ≡ true → may_render names (p ∷ pieces) [] ≡ false
more_none names (Plain bytes) pieces h = absurd (false≢true h)
more_none names (Any field) pieces h = refl
more_none names (Whole field) pieces h = refl
more_none names (Fixed field k) pieces h = refl

pub more_shown : (names : List (List (List ℕ))) (p : Piece) (pieces : List Piece) (v : Value) (values : List Value) → is_shown p ≡ true →
    may_render names (p ∷ pieces) (v ∷ values) ≡ (takes names p v && may_render names pieces values)
more_shown names (Plain bytes) pieces v values h = absurd (false≢true h)
more_shown names (Any field) pieces v values h = refl
more_shown names (Whole field) pieces v values h = refl
more_shown names (Fixed field k) pieces v values h = refl
