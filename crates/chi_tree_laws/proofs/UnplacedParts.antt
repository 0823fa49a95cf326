-- What shows a single token, and what is put around an expression, goes with leaving out the places.
use Rattle.std.proofs.Common.{◌≡◌, true, false, List, [], ◌∷◌, Some, map, refl, ap}
use Rattle.std.specs.Option.{option_map}
use Rattle.chi_grammar.specs.Rules.{leaf, node, pair, none}
use Rattle.chi_token.specs.declared.keyword.Keyword.TheVariants as keyword
use Rattle.chi_token.specs.declared.token.Token.{Token}
use Rattle.chi_token.specs.declared.token.Token.TheVariants as token
use Rattle.chi_token.specs.declared.place.Place.{Place}
use Rattle.chi_tree.specs.declared.type_tree.Name.{Name}
use Rattle.chi_tree.specs.declared.expr.Expr.{Expr}
use Rattle.chi_tree.specs.declared.expr.Link.{Link}
use Rattle.chi_tree.specs.declared.expr.Postfix.{Postfix}
use Rattle.chi_tree.specs.Parts as s
use Rattle.chi_tree.specs.View.{literal_shown, Built, nowhere, place_in, name_in, more_names_in, names_in, way_in, chained, parted, optional, called}
use Rattle.chi_tree_laws.specs.Unplaced.{unplaced_name, unplaced_expr, unplaced_postfix, unplaced_link}
use Rattle.chi_tree_laws.proofs.UnplacedBuilt.{unplaced_tree}
use Rattle.chi_tree_laws.proofs.UnplacedTrees.{without-Chain, without-Part, without-Int, without-Real, without-Text, without-Bool, without-Time, without-Named, without-Call}

pub shown_place : (t : Built) → nowhere ≡ place_in (unplaced_tree t)
shown_place (leaf x) = refl
shown_place _ = refl

pub shown_name : (t : Built) → unplaced_name (name_in t) ≡ name_in (unplaced_tree t)
shown_name (leaf x) = refl
shown_name _ = refl

pub shown_way : (t : Built) → way_in t ≡ way_in (unplaced_tree t)
shown_way (leaf x) = refl
shown_way _ = refl

pub shown_more_names : (t : Built) → map unplaced_name (more_names_in t) ≡ more_names_in (unplaced_tree t)
shown_more_names (pair (pair c n) ns) = λ i. shown_name n i ∷ shown_more_names ns i
shown_more_names _ = refl

pub shown_names : (t : Built) → map unplaced_name (names_in t) ≡ names_in (unplaced_tree t)
shown_names (node s.Names (pair n ns)) = λ i. shown_name n i ∷ shown_more_names ns i
shown_names _ = refl

pub shown_literal : (t : Token) (p : Place) → unplaced_expr (literal_shown t p) ≡ literal_shown t nowhere
shown_literal (token.Int digits) p = without-Int digits p
shown_literal (token.Real digits) p = without-Real digits p
shown_literal (token.Text text) p = without-Text text p
shown_literal (token.Word keyword.TrueWord) p = without-Bool true p
shown_literal (token.Word keyword.FalseWord) p = without-Bool false p
shown_literal (token.Word keyword.TimeWord) p = without-Time p
shown_literal _ p = without-Time nowhere

pub shown_optional : {A B : Type 0} (f : A → B) (t : Built) (x : A) (y : B) → f x ≡ y → option_map f (optional t x) ≡ optional (unplaced_tree t) y
shown_optional f none x y e = refl
shown_optional f (leaf z) x y e = ap (λ v. Some v) e
shown_optional f (node s t) x y e = ap (λ v. Some v) e
shown_optional f (pair t u) x y e = ap (λ v. Some v) e

pub without-chained : (e : Expr) (ls : List Link) → unplaced_expr (chained e ls) ≡ chained (unplaced_expr e) (map unplaced_link ls)
without-chained e [] = refl
without-chained e (l ∷ ls) = without-Chain e (l ∷ ls)

pub without-parted : (e : Expr) (ps : List Postfix) → unplaced_expr (parted e ps) ≡ parted (unplaced_expr e) (map unplaced_postfix ps)
without-parted e [] = refl
without-parted e (p ∷ ps) = without-Part e (p ∷ ps)

pub without-called : (n : Name) (t : Built) (es : List Expr) → unplaced_expr (called n t es) ≡ called (unplaced_name n) (unplaced_tree t) (map unplaced_expr es)
without-called n none es = without-Named n
without-called n (leaf x) es = without-Call n es
without-called n (node s t) es = without-Call n es
without-called n (pair t u) es = without-Call n es
