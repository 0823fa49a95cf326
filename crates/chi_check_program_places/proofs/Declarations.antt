-- What declarations and walks come to is the same without places, but for their lines.
use Rattle.std.proofs.Common.{◌≡◌, ℕ, suc, true, List, [], ◌∷◌, ◌++◌, map, length, Option, Some, None, refl, ap, sym, ◌∙◌}
use Rattle.std.specs.Prelude.{option_map, is_some}
use Rattle.chi_tree.specs.declared.type_tree.Name.{Name}
use Rattle.chi_tree.specs.declared.type_tree.TypeTree.{TypeTree}
use Rattle.chi_tree.specs.declared.statement.Initial.{Initial}
use Rattle.chi_tree.specs.declared.statement.Variable.{Variable}
use Rattle.chi_tree.specs.declared.statement.Walk.{Walk}
use Rattle.chi_tree.specs.View.{nowhere}
use Rattle.chi_tree_laws.specs.Unplaced.{unplaced_name, unplaced_expr, unplaced_type}
use Rattle.chi_tree_laws.specs.UnplacedStatements.{unplaced_initial, unplaced_variable, unplaced_walk}
use Rattle.chi_types.specs.declared.ty.Ty.{Ty}
use Rattle.chi_core.specs.declared.expression.CExpr.{CExpr}
use Rattle.chi_core.specs.declared.statement.CStat.{CStat}
use Rattle.chi_core.specs.declared.statement.CStat.TheVariants as statement
use Rattle.chi_check_types.specs.declared.meant.Meant.{Meant}
use Rattle.chi_check_types.specs.declared.rules.TheConstants.{NEW_NAME}
use Rattle.chi_check_types.specs.Names.{Names}
use Rattle.chi_check_types.specs.Typed.{after}
use Rattle.chi_check_expr.specs.Typing.{reading}
use Rattle.chi_check.specs.Below.chi_check_stat_rules.specs.declared.home.Home.{Home}
use Rattle.chi_check.specs.Below.chi_check_stat_rules.specs.Homes.{site_of, local_rule}
use Rattle.chi_check.specs.Below.chi_check_stat_rules.specs.Places.{expr_place, type_place}
use Rattle.chi_check.specs.Below.chi_check_stat_rules.specs.Values.{initial_value}
use Rattle.chi_check.specs.Below.chi_check_stat_rules.specs.Walks.{walk_of}
use Rattle.chi_check.specs.Below.chi_check_stat_lines.specs.declared.state.Binder.{Binder}
use Rattle.chi_check.specs.Below.chi_check_stat_lines.specs.declared.state.Binder.TheVariants as binder
use Rattle.chi_check.specs.Below.chi_check_stat_lines.specs.declared.state.State.{State}
use Rattle.chi_check.specs.Below.chi_check_stat_lines.specs.Stated.{Stated, in_turn, preceded, held_by}
use Rattle.chi_check.specs.Below.chi_check_stat_lines.specs.States.{is_taken, next_slot, new_name_rule, with_variable, slot_if, binding, first_type, other_types, bindings}
use Rattle.chi_check.specs.Below.chi_check_stat_lines.specs.Values.{value_in}
use Rattle.chi_check.specs.Below.chi_check_stat_lines.specs.Declarations.{declaration, types_of, opening, walk_place, initial_in, declared, declaration_in, walk_in}
use Rattle.chi_check_places.specs.UnplacedTyped.{unplaced_faults, unplaced_typed}
use Rattle.chi_check_places.proofs.Faults.{faults-append, both-faults, broken-unplaced, after-both}
use Rattle.chi_check_places.proofs.Induction.{type-unplaced}
use Rattle.chi_check_program_places.specs.Lineless.{lineless_statement}
use Rattle.chi_check_program_places.proofs.By.{stated_by, turn_by, unplaced_stated, unplaced_turn, mapped, in-turn-unplaced, in-turn-by, held-by, preceded-by}
use Rattle.chi_check_program_places.proofs.Parts.{local-unplaced, initial-unplaced, walk-unplaced}
use Rattle.chi_check_program_places.proofs.Places.{expr-nowhere, type-nowhere}
use Rattle.chi_check_program_places.proofs.Values.{value-unplaced}
use Rattle.chi_check_program_places.proofs.Without.{without-Declare}

pub new-name-unplaced : (names : Names) (name : Name) → new_name_rule names (unplaced_name name) ≡ unplaced_faults (new_name_rule names name)
new-name-unplaced names name = broken-unplaced (is_taken names name.text) NEW_NAME name.place

declaration-same : (line slot : ℕ) (o : Option CExpr) → declaration 0 slot o ≡ option_map (map lineless_statement) (declaration line slot o)
declaration-same line slot o =
    mapped (map lineless_statement) (λ e. statement.Declare 0 slot e ∷ []) (λ e. statement.Declare line slot e ∷ []) (λ e i. sym (without-Declare line slot e) i ∷ []) o

walk-begins : (names : List Name) → walk_place (map unplaced_name names) nowhere ≡ nowhere
walk-begins [] = refl
walk-begins (name ∷ names) = refl

names-count : (names : List Name) → length (map unplaced_name names) ≡ length names
names-count [] = refl
names-count (name ∷ names) = ap suc (names-count names)

pub binding-unplaced : (b : Binder) (name : Name) (t : Option Ty) → binding b (unplaced_name name) t ≡ unplaced_turn (binding b name t)
binding-unplaced b name t = λ i s. record {
  next = with_variable b name t s;
  faults = new-name-unplaced s.names name i;
  made = slot_if (is_taken s.names name.text) (is_some t) (next_slot s);
}

pub bindings-unplaced : (b : Binder) (names : List Name) (types : List Ty) → bindings b (map unplaced_name names) types ≡ map unplaced_turn (bindings b names types)
bindings-unplaced b [] types = refl
bindings-unplaced b (name ∷ names) types = λ i. binding-unplaced b name (first_type types) i ∷ bindings-unplaced b names (other_types types) i

module _ (home : Home) where
  initial-in-unplaced : (names : Names) (m : Option Meant) (o : Option Initial) → initial_in home names m (option_map unplaced_initial o) ≡ unplaced_typed (initial_in home names m o)
  initial-in-unplaced names m None = refl
  initial-in-unplaced names m (Some initial) =
      let v = value_in home names initial.value in
      let t = option_map (λ m. m.ty) m in
      (λ i. after (value-unplaced home names initial.value i).faults (initial_value nowhere (value-unplaced home names initial.value i).made t))
      ∙ after-both v.faults (initial_value initial.equals v.made t) refl (initial-unplaced initial.equals v.made t)

  pub declared-by : (line : ℕ) (m : Option Meant) (v : Variable) (s : State) → declared home 0 m (unplaced_variable v) s ≡ stated_by (map lineless_statement) (declared home line m v s)
  declared-by line m v s =
      let value = initial_in home s.names m v.initial in
      let next = with_variable binder.Variable v.name (option_map (λ m. m.ty) m) s in
      let slot = next_slot s in
      let stated : Stated State (List CStat) = record { next = next; faults = value.faults; made = declaration line slot value.made } in
      let without = initial-in-unplaced s.names m v.initial in
      held-by (map lineless_statement) (new_name_rule s.names v.name) stated (new-name-unplaced s.names v.name)
      ((λ i. record { next = next; faults = (without i).faults; made = declaration 0 slot (without i).made })
      ∙ (λ i. record { next = next; faults = unplaced_faults value.faults; made = declaration-same line slot value.made i }))

  all-declared : (line : ℕ) (m : Option Meant) (vs : List Variable) → map (declared home 0 m) (map unplaced_variable vs) ≡ map (turn_by lineless_statement) (map (declared home line m) vs)
  all-declared line m [] = refl
  all-declared line m (v ∷ vs) = λ i. (λ s. declared-by line m v s i) ∷ all-declared line m vs i

  pub declaration-by : (tree : TypeTree) (vs : List Variable) (s : State)
      → declaration_in home (unplaced_type tree) (map unplaced_variable vs) s ≡ stated_by (map lineless_statement) (declaration_in home tree vs s)
  declaration-by tree vs s =
      let t = reading (site_of home) s.names tree true in
      let line = (type_place tree).line in
      let ty = option_map (λ m. m.ty) t.made in
      let without = type-unplaced (site_of home) s.names tree true in
      let turns = in_turn (map (declared home line t.made) vs) s in
      (λ i. preceded (without i).faults (held_by (local_rule home (type-nowhere tree i) (option_map (λ m. m.ty) (without i).made)) (in_turn (map (declared home (type-nowhere tree i).line (without i).made) (map unplaced_variable vs)) s)))
      ∙ preceded-by (map lineless_statement) t.faults (held_by (local_rule home (type_place tree) ty) turns)
      (held-by (map lineless_statement) (local_rule home (type_place tree) ty) turns (local-unplaced home (type_place tree) ty)
      (ap (λ ts. in_turn ts s) (all-declared line t.made vs) ∙ in-turn-by lineless_statement (map (declared home line t.made) vs) s))

  pub walk-in-unplaced : (b : Binder) (w : Walk) (s : State) → walk_in home b (unplaced_walk w) s ≡ unplaced_stated (walk_in home b w s)
  walk-in-unplaced b w s =
      let c = value_in home s.names w.container in
      let place = expr_place w.container in
      let count = length w.names in
      let over = walk_of place (walk_place w.names place) count c.made in
      let names = in_turn (bindings b w.names (types_of over.made)) s in
      let container = value-unplaced home s.names w.container in
      let begins = expr-nowhere w.container in
      let walked : walk_of (expr_place (unplaced_expr w.container)) (walk_place (map unplaced_name w.names) (expr_place (unplaced_expr w.container))) (length (map unplaced_name w.names)) (value_in home s.names (unplaced_expr w.container)).made ≡ unplaced_typed over =
      (λ i. walk_of (begins i) (walk_place (map unplaced_name w.names) (begins i)) (names-count w.names i) (container i).made)
      ∙ (λ i. walk_of nowhere (walk-begins w.names i) count c.made) ∙ walk-unplaced place (walk_place w.names place) count c.made in
      let bound : in_turn (bindings b (map unplaced_name w.names) (types_of over.made)) s ≡ unplaced_stated names =
      ap (λ ts. in_turn ts s) (bindings-unplaced b w.names (types_of over.made)) ∙ in-turn-unplaced (bindings b w.names (types_of over.made)) s in
      (λ i. record {
        next = (in_turn (bindings b (map unplaced_name w.names) (types_of (walked i).made)) s).next;
        faults = (container i).faults ++ (walked i).faults ++ (in_turn (bindings b (map unplaced_name w.names) (types_of (walked i).made)) s).faults;
        made = opening (walked i).made (in_turn (bindings b (map unplaced_name w.names) (types_of (walked i).made)) s).made;
      })
      ∙ (λ i. record { next = (bound i).next; faults = unplaced_faults c.faults ++ unplaced_faults over.faults ++ (bound i).faults; made = opening over.made (bound i).made })
      ∙ (λ i. record {
        next = names.next;
        faults = both-faults (c.faults ++ over.faults) names.faults (faults-append c.faults over.faults) refl i;
        made = opening over.made names.made;
      })
