-- What is run and started comes to the same without places.
use Rattle.std.proofs.Common.{◌≡◌, List, [], ◌∷◌, map, refl, sym, ap, subst, ◌∙◌}
use Rattle.std.specs.Option.{option_map}
use Rattle.chi_token.specs.declared.place.Place.{Place}
use Rattle.chi_tree.specs.declared.statement.Element.{Element, Element-F, roll-Element, map-Element, fold-roll-Element, ind-Element}
use Rattle.chi_tree.specs.declared.statement.Element.TheVariants as element
use Rattle.chi_tree.specs.declared.statement.Walk.{Walk}
use Rattle.chi_tree.specs.View.{nowhere}
use Rattle.chi_tree_laws.specs.Unplaced.{unplaced_name, unplaced_expr}
use Rattle.chi_tree_laws.specs.UnplacedStatements.{unplaced_target, unplaced_walk, element_without, unplaced_element}
use Rattle.chi_core.specs.declared.element.CElem.{CElem}
use Rattle.chi_check.specs.Below.chi_check_stat_rules.specs.declared.home.Home.{Home}
use Rattle.chi_check.specs.Below.chi_check_stat_lines.specs.declared.state.Binder.TheVariants as binder
use Rattle.chi_check.specs.Below.chi_check_stat_lines.specs.declared.state.State.{State}
use Rattle.chi_check.specs.Below.chi_check_stat_lines.specs.Stated.{Turn, in_turn, alone}
use Rattle.chi_check.specs.Below.chi_check_stat_lines.specs.States.{closed}
use Rattle.chi_check.specs.Below.chi_check_stat.specs.Statements.{unwound, element_step, starting}
use Rattle.chi_check_program_places.proofs.By.{unplaced_stated, unplaced_turn, in-turn-unplaced, sequence-of}
use Rattle.chi_check_program_places.proofs.Declarations.{walk-in-unplaced}
use Rattle.chi_check_program_places.proofs.Lines.{element-unplaced}
use Rattle.chi_check.specs.Below.chi_check_stat_lines.specs.Declarations.{walk_in}

module _ (home : Home) where
  abbrev PE : Element → Type 0
  PE e = starting home (unplaced_element e) ≡ unplaced_turn (starting home e)

  abbrev XE : Type 0
  XE = (e : Element) × PE e

  abbrev parts : Element-F XE → Element-F Element
  parts y = map-Element XE Element (λ y. y.0) y

  rolled : (o : Element-F Element) → starting home (roll-Element o) ≡ element_step home (map-Element Element (Turn State CElem) (starting home) o)
  rolled o = fold-roll-Element (Turn State CElem) (element_step home) o

  at : (o : Element-F Element) {v : Element} → roll-Element o ≡ v → starting home v ≡ element_step home (map-Element Element (Turn State CElem) (starting home) o)
  at o r = ap (starting home) (sym r) ∙ rolled o

  elements-such : (ys : List XE) → map (starting home) (map unplaced_element (map (λ y. y.0) ys)) ≡ map unplaced_turn (map (starting home) (map (λ y. y.0) ys))
  elements-such [] = refl
  elements-such (y ∷ ys) = λ i. y.1 i ∷ elements-such ys i

  unwound-unplaced : (place : Place) (walk : Walk) (ts : List (Turn State CElem)) (s : State)
      → element_step home (Element-F.Unwind nowhere (unplaced_walk walk) (map unplaced_turn ts)) s ≡ unplaced_stated (element_step home (Element-F.Unwind place walk ts) s)
  unwound-unplaced place walk ts s =
      ap (closed s) (sequence-of (λ o. o) (λ o. o) (λ o. o) unwound unwound (λ a b. refl) (walk_in home binder.Unwind walk s) (in_turn ts) (walk-in-unplaced home binder.Unwind walk s) (in-turn-unplaced ts))

  such : (y : Element-F XE) → starting home (element_without (map-Element Element Element unplaced_element (parts y))) ≡ unplaced_turn (element_step home (map-Element Element (Turn State CElem) (starting home) (parts y)))
  such (Element-F.Make target name es) =
      at (Element-F.Make (option_map unplaced_target target) (unplaced_name name) (map unplaced_expr es)) (element.rolls-Make (option_map unplaced_target target) (unplaced_name name) (map unplaced_expr es))
      ∙ (λ i s. alone s (element-unplaced home s.names target name es i))
  such (Element-F.Unwind place walk ys) =
      let es = map (λ y. y.0) ys in
      at (Element-F.Unwind nowhere (unplaced_walk walk) (map unplaced_element es)) (element.rolls-Unwind nowhere (unplaced_walk walk) (map unplaced_element es))
      ∙ (λ i. element_step home (Element-F.Unwind nowhere (unplaced_walk walk) (elements-such ys i)))
      ∙ (λ i s. unwound-unplaced place walk (map (starting home) es) s i)

  step : (y : Element-F XE) → PE (roll-Element (parts y))
  step y = ap (starting home) (fold-roll-Element Element element_without (parts y)) ∙ such y ∙ ap unplaced_turn (sym (rolled (parts y)))

  pub starting-unplaced : (e : Element) → starting home (unplaced_element e) ≡ unplaced_turn (starting home e)
  starting-unplaced = ind-Element PE (λ x y h. subst (λ x. PE (roll-Element x)) h (step y))

  pub all-starting : (es : List Element) → map (starting home) (map unplaced_element es) ≡ map unplaced_turn (map (starting home) es)
  all-starting [] = refl
  all-starting (e ∷ es) = λ i. starting-unplaced e i ∷ all-starting es i
