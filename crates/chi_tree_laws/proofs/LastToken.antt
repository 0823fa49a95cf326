-- Whether the last token is "end".
use Rattle.std.proofs.Common.{◌≡◌, Bool, true, false, [], ◌∷◌, ◌++◌, refl, ap, ◌∙◌}
use Rattle.std.proofs.lemmas.Bool.{false≢true}
use Rattle.chi_token.specs.declared.keyword.Keyword.TheVariants.{EndWord}
use Rattle.chi_token.specs.declared.token.Token.{Token}
use Rattle.chi_token.specs.declared.token.Token.TheVariants.{Word}
use Rattle.chi_tree_spell.specs.Words.{Tokens}

abbrev pub is_end : Token → Bool
is_end (Word EndWord) = true
is_end _ = false

-- there is a last token, and it is "end"
abbrev pub last_is_end : Tokens → Bool
last_is_end [] = false
last_is_end (t ∷ []) = is_end t
last_is_end (t ∷ u ∷ ts) = last_is_end (u ∷ ts)

-- what stands before doesn't count
pub last_of : (ts : Tokens) (u : Token) (us : Tokens) → last_is_end (ts ++ u ∷ us) ≡ last_is_end (u ∷ us)
last_of [] u us = refl
last_of (t ∷ []) u us = refl
last_of (t ∷ v ∷ ts) u us = last_of (v ∷ ts) u us

the_end : (t : Token) → is_end t ≡ true → t ≡ Word EndWord
the_end (Word EndWord) e = refl
the_end _ e = absurd (false≢true e)

-- the test says what it should

pub before_end : (ts : Tokens) → last_is_end ts ≡ true → (us : Tokens) × (ts ≡ us ++ Word EndWord ∷ [])
before_end [] e = absurd (false≢true e)
before_end (t ∷ []) e = ([], ap (λ t. t ∷ []) (the_end t e))
before_end (t ∷ u ∷ ts) e = let r = before_end (u ∷ ts) e in (t ∷ r.0, ap (λ us. t ∷ us) r.1)

pub end_after : (ts us : Tokens) → ts ≡ us ++ Word EndWord ∷ [] → last_is_end ts ≡ true
end_after ts us e = ap last_is_end e ∙ last_of us (Word EndWord) []
