-- A slice whose tokens are put one after the other.
use Rattle.std.proofs.Common.{◌≡◌, Bool, [], ◌∷◌, ◌++◌, Option, sym, ap, ◌∙◌}
use Rattle.std.proofs.lemmas.List.{append_assoc}
use Rattle.std.specs.Option.{option_map}
use Rattle.chi_token.specs.declared.place.Place.{Place}
use Rattle.chi_token.specs.declared.sign.Sign.TheVariants.{LeftBracket, RightBracket, Colon}
use Rattle.chi_token.specs.declared.token.Token.TheVariants.{Sign}
use Rattle.chi_tree.specs.declared.expr.Expr.{Expr}
use Rattle.chi_tree.specs.declared.expr.Postfix.{Postfix}
use Rattle.chi_tree.specs.declared.expr.Postfix.TheVariants.{Slice}
use Rattle.chi_tree_spell.specs.Marks.{plain}
use Rattle.chi_tree_spell.specs.Words.{Tokens, if_any}
use Rattle.chi_tree_spell.specs.Expressions.{step_tokens, spelled_expr, spelled_postfix}
use Rattle.chi_tree_spell.proofs.ExprTokens.{postfix-Slice}

regrouped : (old from upto by : Tokens) →
    old ++ (Sign LeftBracket ∷ []) ++ from ++ (Sign Colon ∷ []) ++ upto ++ by ++ (Sign RightBracket ∷ [])
    ≡ old ++ ((Sign LeftBracket ∷ (from ++ Sign Colon ∷ upto ++ by)) ++ Sign RightBracket ∷ [])
regrouped old from upto by = simp append_assoc

pub slice_put : (p : Postfix) (place : Place) (from upto : Option Expr) (has : Bool) (by : Option Expr) (old a b c d e new : Tokens)
    → p ≡ Slice place from upto has by → a ≡ old ++ Sign LeftBracket ∷ [] → b ≡ a ++ if_any (option_map spelled_expr from)
    → c ≡ b ++ Sign Colon ∷ [] → d ≡ c ++ if_any (option_map spelled_expr upto) → e ≡ d ++ step_tokens has (option_map spelled_expr by)
    → new ≡ e ++ Sign RightBracket ∷ [] → new ≡ old ++ spelled_postfix p
slice_put p place from upto has by old a b c d e new is first second third fourth fifth last =
    last ∙ ap (λ ts. ts ++ Sign RightBracket ∷ []) (fifth ∙ ap (λ ts. ts ++ step_tokens has (option_map spelled_expr by)) (fourth
    ∙ ap (λ ts. ts ++ if_any (option_map spelled_expr upto)) (third ∙ ap (λ ts. ts ++ Sign Colon ∷ []) (second
    ∙ ap (λ ts. ts ++ if_any (option_map spelled_expr from)) first))))
    ∙ regrouped old _ _ _
    ∙ ap (λ ts. old ++ ts) (sym (ap spelled_postfix is ∙ postfix-Slice plain place from upto has by))
