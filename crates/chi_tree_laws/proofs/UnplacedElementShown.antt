-- What is offered, and what is run or started, is shown without its places where what was built has none.
use Rattle.std.proofs.Common.{◌≡◌, [], ◌∷◌, map, Option, Some, None, refl, ap, sym, ◌∙◌}
use Rattle.std.specs.Option.{option_map}
use Rattle.chi_grammar.specs.Rules.{node, pair, none}
use Rattle.chi_tree.specs.declared.expr.Expr.{Expr}
use Rattle.chi_tree.specs.declared.statement.Target.{Target}
use Rattle.chi_tree.specs.declared.statement.Communication.{Communication}
use Rattle.chi_tree.specs.declared.statement.Communication.TheVariants.{Delay}
use Rattle.chi_tree.specs.declared.statement.Element.TheVariants as element
use Rattle.chi_tree.specs.Parts as s
use Rattle.chi_tree.specs.View.{Built, nowhere, name_in, expr_of, arguments_of}
use Rattle.chi_tree.specs.Statements.{target_of, walk_of, communicated, as_target, target_or_none, offered, offer_of, made, elements_of, more_elements_of, element_of}
use Rattle.chi_tree_laws.specs.Unplaced.{unplaced_name, unplaced_expr}
use Rattle.chi_tree_laws.specs.UnplacedStatements.{unplaced_target, unplaced_communication, unplaced_element}
use Rattle.chi_tree_laws.proofs.UnplacedBuilt.{unplaced_tree}
use Rattle.chi_tree_laws.proofs.UnplacedParts.{shown_place, shown_name}
use Rattle.chi_tree_laws.proofs.UnplacedShown.{no_expr_shown, shown_expr, shown_arguments}
use Rattle.chi_tree_laws.proofs.UnplacedStatementTrees.{element-Make, element-Unwind}
use Rattle.chi_tree_laws.proofs.UnplacedTargetShown.{shown_target, shown_walk, shown_communicated, shown_communication}
use Rattle.chi_tree_laws.proofs.UnplacedAsTarget.{shown_as_target}

-- offers

abbrev pub unplaced_offer : Option Expr × Communication → Option Expr × Communication
unplaced_offer offer = (option_map unplaced_expr offer.0, unplaced_communication offer.1)

shown_or_none : (o : Option Target) → unplaced_target (target_or_none o) ≡ target_or_none (option_map unplaced_target o)
shown_or_none (Some target) = refl
shown_or_none None = refl

-- the target that an expression is
shown_expr_target : (e : Expr) → unplaced_target (target_or_none (as_target e)) ≡ target_or_none (as_target (unplaced_expr e))
shown_expr_target e = shown_or_none (as_target e) ∙ ap target_or_none (sym (shown_as_target e))

shown_end : (e : Expr) (t : Built)
    → unplaced_offer (None, communicated (target_or_none (as_target e)) t) ≡ (None, communicated (target_or_none (as_target (unplaced_expr e))) (unplaced_tree t))
shown_end e t =
    let c = shown_communicated (target_or_none (as_target e)) t ∙ ap (λ target. communicated target (unplaced_tree t)) (shown_expr_target e) in
    λ i. (None, c i)

pub shown_offered : (e : Expr) (t : Built) → unplaced_offer (offered e t) ≡ offered (unplaced_expr e) (unplaced_tree t)
shown_offered e (node s.Offered t) = shown_offered e t
shown_offered e (node s.Guarded (pair c m)) = λ i. (Some (unplaced_expr e), shown_communication m i)
shown_offered e t = shown_end e t

pub shown_offer : (t : Built) → unplaced_offer (offer_of t) ≡ offer_of (unplaced_tree t)
shown_offer (node s.Offer (pair e t)) = shown_offered (expr_of e) t ∙ ap (λ d. offered d (unplaced_tree t)) (shown_expr e)
shown_offer (node s.Offer t) = λ i. (None, shown_communication t i)
shown_offer _ = λ i. (None, Delay nowhere (no_expr_shown i))

-- what is run or started

shown_call : (target : Target) (t : Built)
    → unplaced_element (element.Make None target.name (arguments_of t)) ≡ element.Make None (unplaced_name target.name) (arguments_of (unplaced_tree t))
shown_call target t = element-Make None target.name (arguments_of t) ∙ ap (element.Make None (unplaced_name target.name)) (shown_arguments t)

no_element_shown : unplaced_element (element.Make None (name_in none) []) ≡ element.Make None (name_in none) []
no_element_shown = element-Make None (name_in none) []

pub shown_made : (target : Target) (t : Built) → unplaced_element (made target t) ≡ made (unplaced_target target) (unplaced_tree t)
shown_made target (node s.Made t) = shown_made target t
shown_made target (node s.AssignedMake (pair eq (pair n args))) =
    element-Make (Some target) (name_in n) (arguments_of args)
    ∙ (λ i. element.Make (Some (unplaced_target target)) (shown_name n i) (shown_arguments args i))
shown_made target t = shown_call target t

mutual
  pub shown_elements : (t : Built) → map unplaced_element (elements_of t) ≡ elements_of (unplaced_tree t)
  shown_elements (node s.Elements (pair e es)) = λ i. shown_element e i ∷ shown_more_elements es i
  shown_elements _ = refl

  pub shown_more_elements : (t : Built) → map unplaced_element (more_elements_of t) ≡ more_elements_of (unplaced_tree t)
  shown_more_elements (pair (pair c e) es) = λ i. shown_element e i ∷ shown_more_elements es i
  shown_more_elements _ = refl

  pub shown_element : (t : Built) → unplaced_element (element_of t) ≡ element_of (unplaced_tree t)
  shown_element (node s.Element t) = shown_element t
  shown_element (node s.UnwoundElements (pair w (pair walk (pair c (pair es end))))) =
      element-Unwind _ (walk_of walk) (elements_of es)
      ∙ (λ i. element.Unwind (shown_place w i) (shown_walk walk i) (shown_elements es i))
  shown_element (node s.Make (pair t m)) = shown_made (target_of t) m ∙ ap (λ target. made target (unplaced_tree m)) (shown_target t)
  shown_element _ = no_element_shown
