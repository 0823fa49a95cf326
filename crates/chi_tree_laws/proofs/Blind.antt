-- No test of the grammar sees a place.
use Rattle.std.proofs.Common.{◌≡◌, List, [], ◌∷◌, map, Option, Some, None, refl, ap, sym, ◌∙◌}
use Rattle.std.specs.Option.{option_map}
use Rattle.chi_grammar.specs.Rules.{node, pair}
use Rattle.chi_tree.specs.declared.expr.Postfix.{Postfix}
use Rattle.chi_tree.specs.declared.statement.Target.{Target}
use Rattle.chi_tree.specs.declared.statement.Element.{Element, Element-F, out-Element, roll-Element, roll-out-Element, out-roll-Element, fold-roll-Element}
use Rattle.chi_tree.specs.declared.statement.Element.TheVariants as element
use Rattle.chi_tree.specs.Parts.{Part}
use Rattle.chi_tree.specs.Parts as s
use Rattle.chi_tree.specs.Rules.{rule_of}
use Rattle.chi_tree.specs.View.{Built, nowhere, expr_of}
use Rattle.chi_tree.specs.Statements.{target_of, as_target, is_some, is_bare, is_name, is_target, elements_of, ends_element, last_ends, ends_in_end}
use Rattle.chi_tree_laws.specs.Unplaced.{unplaced_name, unplaced_expr, unplaced_postfix}
use Rattle.chi_tree_laws.specs.UnplacedStatements.{unplaced_target, unplaced_walk, element_without, unplaced_element}
use Rattle.chi_tree_laws.proofs.UnplacedBuilt.{unplaced_tree, Blind, plain}
use Rattle.chi_tree_laws.proofs.UnplacedShown.{shown_expr}
use Rattle.chi_tree_laws.proofs.UnplacedTargetShown.{shown_target}
use Rattle.chi_tree_laws.proofs.UnplacedAsTarget.{shown_as_target}
use Rattle.chi_tree_laws.proofs.UnplacedElementShown.{shown_elements}

-- a name

bare_steps : (ps : List Postfix) → is_bare (map unplaced_postfix ps) ≡ is_bare ps
bare_steps [] = refl
bare_steps (p ∷ ps) = refl

bare_target : (target : Target) → is_bare (unplaced_target target).steps ≡ is_bare target.steps
bare_target target = bare_steps target.steps

same_is_name : (t : Built) → is_name (unplaced_tree t) ≡ is_name t
same_is_name t = ap (λ (target : Target). is_bare target.steps) (sym (shown_target t)) ∙ bare_target (target_of t)

-- a target

some_target : (o : Option Target) → is_some (option_map unplaced_target o) ≡ is_some o
some_target (Some target) = refl
some_target None = refl

same_is_target : (t : Built) → is_target (unplaced_tree t) ≡ is_target t
same_is_target t =
    ap (λ e. is_some (as_target e)) (sym (shown_expr t)) ∙ ap is_some (shown_as_target (expr_of t)) ∙ some_target (as_target (expr_of t))

-- a launch whose last token is "end"

layer_ends : (x : Element-F Element) → ends_element (out-Element (unplaced_element (roll-Element x))) ≡ ends_element x
layer_ends (Element-F.Make target name arguments) =
    ap (λ e. ends_element (out-Element e))
    (fold-roll-Element Element element_without (Element-F.Make target name arguments)
    ∙ sym (element.rolls-Make (option_map unplaced_target target) (unplaced_name name) (map unplaced_expr arguments)))
    ∙ ap ends_element (out-roll-Element (Element-F.Make (option_map unplaced_target target) (unplaced_name name) (map unplaced_expr arguments)))
layer_ends (Element-F.Unwind place walk elements) =
    ap (λ e. ends_element (out-Element e))
    (fold-roll-Element Element element_without (Element-F.Unwind place walk elements)
    ∙ sym (element.rolls-Unwind nowhere (unplaced_walk walk) (map unplaced_element elements)))
    ∙ ap ends_element (out-roll-Element (Element-F.Unwind nowhere (unplaced_walk walk) (map unplaced_element elements)))

same_ends : (e : Element) → ends_element (out-Element (unplaced_element e)) ≡ ends_element (out-Element e)
same_ends e = ap (λ d. ends_element (out-Element (unplaced_element d))) (sym (roll-out-Element e)) ∙ layer_ends (out-Element e)

same_last : (es : List Element) → last_ends (map unplaced_element es) ≡ last_ends es
same_last [] = refl
same_last (e ∷ []) = same_ends e
same_last (e ∷ f ∷ es) = same_last (f ∷ es)

same_end : (t : Built) → ends_in_end (unplaced_tree t) ≡ ends_in_end t
same_end (node s.Launch (pair w es)) = ap last_ends (sym (shown_elements es)) ∙ same_last (elements_of es)
same_end _ = refl

pub blind : (s : Part) → Blind (rule_of s)
blind s.Block = ((tt, tt), ((tt, same_end, tt, tt), (tt, tt)))
blind s.NameLed = (tt, same_is_name, tt, tt)
blind s.Make = (tt, same_is_name, tt, tt)
blind s.Offer = (tt, (tt, same_is_target, tt, tt))
blind s = plain (rule_of s) refl
