-- Targets, variables, walks and communications are shown without their places where what was built has none.
use Rattle.std.proofs.Common.{◌≡◌, [], ◌∷◌, map, Some, refl, ap, ◌∙◌}
use Rattle.std.specs.Option.{option_map}
use Rattle.chi_grammar.specs.Rules.{node, pair}
use Rattle.chi_tree.specs.declared.statement.Target.{Target}
use Rattle.chi_tree.specs.declared.statement.Communication.TheVariants.{Send, Receive, Delay}
use Rattle.chi_tree.specs.Parts as s
use Rattle.chi_tree.specs.View.{Built, nowhere, name_in, expr_of}
use Rattle.chi_tree.specs.Statements.{target_of, more_targets_of, walk_of, initial_of, variable_of, more_variables_of, variables_of, communicated, communication_of}
use Rattle.chi_tree_laws.specs.Unplaced.{unplaced_name, unplaced_expr}
use Rattle.chi_tree_laws.specs.UnplacedStatements.{unplaced_initial, unplaced_variable, unplaced_target, unplaced_walk, unplaced_communication}
use Rattle.chi_tree_laws.proofs.UnplacedBuilt.{unplaced_tree}
use Rattle.chi_tree_laws.proofs.UnplacedParts.{shown_place, shown_name, shown_names, shown_optional}
use Rattle.chi_tree_laws.proofs.UnplacedShown.{no_expr_shown, shown_expr, shown_postfixes}

-- targets, walks and variables

pub shown_target : (t : Built) → unplaced_target (target_of t) ≡ target_of (unplaced_tree t)
shown_target (node s.Target (pair n steps)) = λ i. record { name = shown_name n i; steps = shown_postfixes steps i }
shown_target _ = refl

pub shown_more_targets : (t : Built) → map unplaced_target (more_targets_of t) ≡ more_targets_of (unplaced_tree t)
shown_more_targets (pair (pair c t) ts) = λ i. shown_target t i ∷ shown_more_targets ts i
shown_more_targets _ = refl

pub shown_walk : (t : Built) → unplaced_walk (walk_of t) ≡ walk_of (unplaced_tree t)
shown_walk (node s.Walk (pair ns (pair w e))) = λ i. record { names = shown_names ns i; container = shown_expr e i }
shown_walk _ = λ i. record { names = []; container = no_expr_shown i }

pub shown_initial : (t : Built) → option_map unplaced_initial (initial_of t) ≡ initial_of (unplaced_tree t)
shown_initial (node s.Initial (pair eq e)) = λ i. Some (record { equals = shown_place eq i; value = shown_expr e i })
shown_initial _ = refl

pub shown_variable : (t : Built) → unplaced_variable (variable_of t) ≡ variable_of (unplaced_tree t)
shown_variable (node s.Variable (pair n initial)) = λ i. record { name = shown_name n i; initial = shown_initial initial i }
shown_variable _ = refl

pub shown_more_variables : (t : Built) → map unplaced_variable (more_variables_of t) ≡ more_variables_of (unplaced_tree t)
shown_more_variables (pair (pair c v) vs) = λ i. shown_variable v i ∷ shown_more_variables vs i
shown_more_variables _ = refl

pub shown_variables : (t : Built) → map unplaced_variable (variables_of t) ≡ variables_of (unplaced_tree t)
shown_variables (node s.Variables (pair v vs)) = λ i. shown_variable v i ∷ shown_more_variables vs i
shown_variables _ = refl

-- communications

pub shown_communicated : (target : Target) (t : Built)
    → unplaced_communication (communicated target t) ≡ communicated (unplaced_target target) (unplaced_tree t)
shown_communicated target (node s.CommunicationEnd t) = shown_communicated target t
shown_communicated target (node s.Sending (pair w e)) =
    λ i. Send (unplaced_target target) (shown_place w i) (shown_optional unplaced_expr e (expr_of e) (expr_of (unplaced_tree e)) (shown_expr e) i)
shown_communicated target (node s.Receiving (pair w n)) =
    λ i. Receive (unplaced_target target) (shown_place w i) (shown_optional unplaced_name n (name_in n) (name_in (unplaced_tree n)) (shown_name n) i)
shown_communicated target _ = refl

pub shown_communication : (t : Built) → unplaced_communication (communication_of t) ≡ communication_of (unplaced_tree t)
shown_communication (node s.Communication t) = shown_communication t
shown_communication (node s.Delay (pair w e)) = λ i. Delay (shown_place w i) (shown_expr e i)
shown_communication (pair t end) = shown_communicated (target_of t) end ∙ ap (λ target. communicated target (unplaced_tree end)) (shown_target t)
shown_communication _ = λ i. Delay nowhere (no_expr_shown i)
