-- Declarations, and the names that walks bind: their broken rules, and what they come to.
use Rattle.std.specs.Prelude.{ℕ, true, List, [], ◌∷◌, ◌++◌, map, length, Option, Some, None, option_map}
use Rattle.std.specs.Option.{option_and_then}
use Rattle.chi_token.specs.declared.place.Place.{Place}
use Rattle.chi_tree.specs.declared.type_tree.Name.{Name}
use Rattle.chi_tree.specs.declared.type_tree.TypeTree.{TypeTree}
use Rattle.chi_tree.specs.declared.statement.Initial.{Initial}
use Rattle.chi_tree.specs.declared.statement.Variable.{Variable}
use Rattle.chi_tree.specs.declared.statement.Walk.{Walk}
use Rattle.chi_types.specs.declared.ty.Ty.{Ty}
use Rattle.chi_core.specs.declared.expression.CExpr.{CExpr}
use Rattle.chi_core.specs.declared.statement.CStat.{CStat}
use Rattle.chi_core.specs.declared.statement.CStat.TheVariants as statement
use Rattle.chi_check_types.specs.declared.meant.Meant.{Meant}
use Rattle.chi_check_types.specs.Defaults.{default_of}
use Rattle.chi_check_types.specs.Names.{Names}
use Rattle.chi_check_types.specs.Typed.{Typed, after}
use Rattle.chi_check_expr.specs.Typing.{reading}
use Rattle.chi_check_stat_rules.specs.declared.home.Home.{Home}
use Rattle.chi_check_stat_rules.specs.declared.parts.Walked.{Walked}
use Rattle.chi_check_stat_rules.specs.Homes.{site_of, local_rule}
use Rattle.chi_check_stat_rules.specs.Places.{expr_place, type_place}
use Rattle.chi_check_stat_rules.specs.Values.{initial_value}
use Rattle.chi_check_stat_rules.specs.Walks.{walk_of}
use Rattle.chi_check_stat_lines.specs.declared.state.Binder.{Binder}
use Rattle.chi_check_stat_lines.specs.declared.state.Binder.TheVariants as binder
use Rattle.chi_check_stat_lines.specs.declared.state.State.{State}
use Rattle.chi_check_stat_lines.specs.declared.state.Opened.{Opened}
use Rattle.chi_check_stat_lines.specs.Stated.{Stated, Turn, both, in_turn, preceded, held_by}
use Rattle.chi_check_stat_lines.specs.States.{next_slot, new_name_rule, with_variable, bindings}
use Rattle.chi_check_stat_lines.specs.Values.{value_in}

-- ---- parts that stand in no body

-- the default of a type, with the sizes of its lists
abbrev pub default_in : Option Meant → Typed CExpr
default_in meant = record { faults = []; made = option_and_then (λ m. default_of m.ty m.sizes) meant }

abbrev pub declaration : ℕ → ℕ → Option CExpr → Option (List CStat)
declaration line slot value = option_map (λ e. statement.Declare line slot e ∷ []) value

abbrev pub types_of : Option Walked → List Ty
types_of None = []
types_of (Some w) = w.types

abbrev pub opened : CExpr → List ℕ → Opened
opened container slots = record { container = container; slots = slots }

abbrev pub opening : Option Walked → Option (List ℕ) → Option Opened
opening w slots = both opened (option_map (λ w. w.container) w) slots

-- The first name of a walk. Each has one.
abbrev pub walk_place : List Name → Place → Place
walk_place [] container = container
walk_place (name ∷ names) container = name.place

-- ---- declarations

module _ (home : Home) where
  -- the value that a variable begins with: its own, or the default of its type
  abbrev pub initial_in : Names → Option Meant → Option Initial → Typed CExpr
  initial_in names meant None = default_in meant
  initial_in names meant (Some initial) =
      let v = value_in home names initial.value in
      after v.faults (initial_value initial.equals v.made (option_map (λ m. m.ty) meant))

  -- the name is visible from after its own value
  abbrev pub declared : ℕ → Option Meant → Variable → Turn State CStat
  declared line meant v s =
      let value = initial_in s.names meant v.initial in
      held_by (new_name_rule s.names v.name) (record {
        next = with_variable binder.Variable v.name (option_map (λ m. m.ty) meant) s;
        faults = value.faults;
        made = declaration line (next_slot s) value.made;
      })

  abbrev pub declaration_in : TypeTree → List Variable → Turn State CStat
  declaration_in tree variables s =
      let t = reading (site_of home) s.names tree true in
      let place = type_place tree in
      preceded t.faults (held_by (local_rule home place (option_map (λ m. m.ty) t.made)) (in_turn (map (declared place.line t.made) variables) s))

  -- ---- walks

  -- the container is typed before the names are visible
  abbrev pub walk_in : Binder → Walk → State → Stated State Opened
  walk_in b w s =
      let c = value_in home s.names w.container in
      let place = expr_place w.container in
      let over = walk_of place (walk_place w.names place) (length w.names) c.made in
      let names = in_turn (bindings b w.names (types_of over.made)) s in
      record {
        next = names.next;
        faults = c.faults ++ over.faults ++ names.faults;
        made = opening over.made names.made;
      }
