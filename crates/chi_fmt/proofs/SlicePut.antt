-- A slice whose spots are put one after the other.
use Rattle.std.proofs.Common.{◌≡◌, Bool, [], ◌∷◌, ◌++◌, Option, sym, ap, ◌∙◌}
use Rattle.std.proofs.lemmas.List.{append_assoc}
use Rattle.std.specs.Option.{option_map}
use Rattle.chi_token.specs.declared.place.Place.{Place}
use Rattle.chi_token.specs.declared.sign.Sign.TheVariants.{LeftBracket, RightBracket, Colon}
use Rattle.chi_tree.specs.declared.expr.Expr.{Expr}
use Rattle.chi_tree.specs.declared.expr.Postfix.{Postfix}
use Rattle.chi_tree.specs.declared.expr.Postfix.TheVariants.{Slice}
use Rattle.chi_tree_spell.specs.Words.{if_any}
use Rattle.chi_tree_spell.specs.Expressions.{put_by}
use Rattle.chi_fmt.specs.Expressions.{Spots, usual, expr_spots, postfix_spots}
use Rattle.chi_fmt.specs.Parts.{sign}
use Rattle.chi_fmt.proofs.SpotsIn.{postfix-Slice}

regrouped : (old from upto by : Spots) →
    old ++ (sign LeftBracket ∷ []) ++ from ++ (sign Colon ∷ []) ++ upto ++ by ++ (sign RightBracket ∷ [])
    ≡ old ++ ((sign LeftBracket ∷ (from ++ sign Colon ∷ upto ++ by)) ++ sign RightBracket ∷ [])
regrouped old from upto by = simp append_assoc

pub slice_put : (p : Postfix) (place : Place) (from upto : Option Expr) (has : Bool) (by : Option Expr) (old a b c d e new : Spots)
    → p ≡ Slice place from upto has by → a ≡ old ++ sign LeftBracket ∷ [] → b ≡ a ++ if_any (option_map expr_spots from)
    → c ≡ b ++ sign Colon ∷ [] → d ≡ c ++ if_any (option_map expr_spots upto) → e ≡ d ++ put_by usual has (option_map expr_spots by)
    → new ≡ e ++ sign RightBracket ∷ [] → new ≡ old ++ postfix_spots p
slice_put p place from upto has by old a b c d e new is first second third fourth fifth last =
    last ∙ ap (λ ts. ts ++ sign RightBracket ∷ []) (fifth ∙ ap (λ ts. ts ++ put_by usual has (option_map expr_spots by)) (fourth
    ∙ ap (λ ts. ts ++ if_any (option_map expr_spots upto)) (third ∙ ap (λ ts. ts ++ sign Colon ∷ []) (second
    ∙ ap (λ ts. ts ++ if_any (option_map expr_spots from)) first))))
    ∙ regrouped old _ _ _
    ∙ ap (λ ts. old ++ ts) (sym (ap postfix_spots is ∙ postfix-Slice place from upto has by))
