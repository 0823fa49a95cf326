-- What is asked of the parser: the tokens before one of a source, and another one after them.
use Rattle.std.proofs.Common.{◌≡◌, ℕ, List, [], ◌∷◌, ◌++◌, map, take, ap, sym, subst, ◌∙◌, Bool, Result}
use Rattle.std.specs.Prelude.{IfOk, MatchBool}
use Rattle.chi_base.specs.declared.no_memory.NoMemory.{NoMemory}
use Rattle.std.proofs.lemmas.List.{map-append, take-map}
use Rattle.chi_token.specs.declared.place.Spanned.{Spanned}
use Rattle.chi_token.specs.declared.token.Token.{Token}
use Rattle.chi_tree.specs.declared.class.Class.{Class}
use Rattle.chi_tree.specs.Classes.{class_of}
use Rattle.chi_tree_spell.specs.Words.{Tokens, token_of}
use Rattle.chi_explain_expected.specs.Expected.{Begins, CanStand, CannotStand, tokens_before}
use Rattle.chi_explain_expected.proofs.Fronts.{told_class}

-- an answer tells whether a program begins with the tokens
abbrev pub Tells : Tokens → Result Bool NoMemory → Type 0
Tells tokens result = IfOk result (λ begins. MatchBool begins (Begins tokens) (Begins tokens → ⊥))

pub followed : (tokens first made all : List Spanned) (k : ℕ) (x : Spanned) (next : Token) → first ≡ take k tokens
    → map token_of made ≡ map token_of first → x.token ≡ next → all ≡ made ++ x ∷ [] → map token_of all ≡ tokens_before tokens k ++ next ∷ []
followed tokens first made all k x next taken same is pushed =
    let before : map token_of made ≡ tokens_before tokens k = same ∙ (ap (map token_of) taken ∙ sym (take-map token_of k tokens)) in
    ap (map token_of) pushed
    ∙ (map-append token_of made (x ∷ []) ∙ (ap (λ ts. ts ++ x.token ∷ []) before ∙ ap (λ t. tokens_before tokens k ++ t ∷ []) is))

pub told_standing : (b : Bool) (before : Tokens) (x : Token) (class : Class) (all : Tokens) → class_of x ≡ class → all ≡ before ++ x ∷ []
    → MatchBool b (Begins all) (Begins all → ⊥) → MatchBool b (CanStand before class) (CannotStand before class)
told_standing b before x class all is same h = told_class b before x class is (subst (λ ts. MatchBool b (Begins ts) (Begins ts → ⊥)) same h)
