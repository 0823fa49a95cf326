-- Private to proofs. Declarations and walks come to something where no rule is broken, and leave names that have types.
use Rattle.std.proofs.Common.{ℕ, ◌≡◌, Bool, true, false, cond, nat_eq, length, List, [], ◌∷◌, ◌++◌, map, Option, Some, None, refl, sym, ap, subst, ◌∙◌, arith}
use Rattle.std.proofs.lemmas.Bool.{eqb-true}
use Rattle.std.proofs.lemmas.List.{length-map}
use Rattle.std.specs.Prelude.{option_map}
use Rattle.chi_token.specs.declared.place.Place.{Place}
use Rattle.chi_tree.specs.declared.statement.Initial.{Initial}
use Rattle.chi_tree.specs.declared.statement.Variable.{Variable}
use Rattle.chi_tree.specs.declared.statement.Walk.{Walk}
use Rattle.chi_tree.specs.declared.type_tree.Name.{Name}
use Rattle.chi_tree.specs.declared.type_tree.TypeTree.{TypeTree}
use Rattle.chi_types.specs.declared.ty.Ty.{Ty, Ty-F, out-Ty}
use Rattle.chi_core.specs.declared.expression.CExpr.{CExpr}
use Rattle.chi_core.specs.declared.statement.CStat.{CStat}
use Rattle.chi_core.specs.declared.statement.CStat.TheVariants as statement
use Rattle.chi_check_types.specs.declared.fault.Fault.{Fault}
use Rattle.chi_check_types.specs.declared.meant.Made.{Made}
use Rattle.chi_check_types.specs.declared.meant.Meant.{Meant}
use Rattle.chi_check_types.specs.declared.rules.TheConstants.{NEW_NAME, INITIAL_VALUE, WALK_NAMES}
use Rattle.chi_check_types.specs.Typed.{Typed, broken_if}
use Rattle.chi_check_expr_rules.specs.Nodes.{settled}
use Rattle.chi_check_expr.specs.Typing.{reading}
use Rattle.chi_check_expr.proofs.Kept.{Good, Each}
use Rattle.chi_check_expr.proofs.Nodes.{left_nil, right_nil, cons_nil}
use Rattle.chi_check.specs.Below.chi_check_stat_rules.specs.declared.home.Home.{Home}
use Rattle.chi_check.specs.Below.chi_check_stat_rules.specs.declared.parts.Walked.{Walked}
use Rattle.chi_check.specs.Below.chi_check_stat_rules.specs.Homes.{site_of, local_rule}
use Rattle.chi_check.specs.Below.chi_check_stat_rules.specs.Places.{expr_place, type_place}
use Rattle.chi_check.specs.Below.chi_check_stat_rules.specs.Values.{fitted, initial_value}
use Rattle.chi_check.specs.Below.chi_check_stat_rules.specs.Walks.{element_type, types_of_parts, name_types, walked, walk_over, walk_of}
use Rattle.chi_check.specs.Below.chi_check_stat_lines.specs.declared.state.Binder.{Binder}
use Rattle.chi_check.specs.Below.chi_check_stat_lines.specs.declared.state.Binder.TheVariants as binder
use Rattle.chi_check.specs.Below.chi_check_stat_lines.specs.declared.state.State.{State}
use Rattle.chi_check.specs.Below.chi_check_stat_lines.specs.Stated.{Stated, in_turn, preceded, held_by}
use Rattle.chi_check.specs.Below.chi_check_stat_lines.specs.States.{is_taken, new_name_rule, bound, next_slot, slot_if, with_variable, binding, bindings}
use Rattle.chi_check.specs.Below.chi_check_stat_lines.specs.Values.{value_in}
use Rattle.chi_check.specs.Below.chi_check_stat_lines.specs.Declarations.{walk_place, types_of, opened, opening, declaration, initial_in, declared, declaration_in, walk_in}
use Rattle.chi_check_laws.proofs.Entries.{entries_with, first_entries}
use Rattle.chi_check_laws.proofs.Shaped.{Fine, Shaped, reading_shaped}
use Rattle.chi_check_laws.proofs.ProgramTurns.{Leaves, Keeps, EachKeeps, turns_keep, each_keeps, FineState, Holds, held_leaves, preceded_leaves}
use Rattle.chi_check_laws.proofs.MadeValues.{value_whole}
use Rattle.chi_check_laws.proofs.WholeHeaders.{Comes, WholeTyped, of_two_whole, then_whole, mapped_comes, both_comes}

-- ---- new names with types

slot_comes : (taken : Bool) (rule : ℕ) (place : Place) (slot : ℕ) → broken_if taken rule place ≡ [] → Comes (slot_if taken true slot)
slot_comes true rule place slot e = absurd (cons_nil _ _ e)
slot_comes false rule place slot e = tt

-- a new variable of the type keeps the fact
abbrev pub Takes : (State → Type 0) → Binder → Ty → Type 0
Takes P b t = (name : Name) (s : State) → P s → P (with_variable b name (Some t) s)

pub binding_keeps : (P : State → Type 0) (b : Binder) (name : Name) (t : Ty) → Takes P b t → Keeps P (binding b name (Some t))
binding_keeps P b name t takes s p e = (slot_comes (is_taken s.names name.text) NEW_NAME name.place (next_slot s) e, takes name s p)

each_bound : (P : State → Type 0) (b : Binder) (names : List Name) (types : List Ty) → length types ≡ length names → Each (Takes P b) types → EachKeeps P (bindings b names types)
each_bound P b [] types e takes = tt
each_bound P b (name ∷ names) [] e takes = absurd (omega arith)
each_bound P b (name ∷ names) (t ∷ types) e takes = (binding_keeps P b name t takes.0, each_bound P b names types (omega (arith, e)) takes.1)

-- ---- declarations

initial_whole : (home : Home) (s : State) (m : Meant) (initial : Option Initial) → FineState s → Shaped m → WholeTyped (initial_in home s.names (Some m) initial)
initial_whole home s m None fine h e = h.1
initial_whole home s m (Some initial) fine h e =
    let v = value_in home s.names initial.value in
    then_whole v.faults v.made (λ v. initial_value initial.equals v (Some m.ty)) (value_whole home s.names fine initial.value) (λ a. of_two_whole INITIAL_VALUE initial.equals fitted (Some a) (Some m.ty) tt tt) e

module _ (home : Home) (P : State → Type 0) (fine : (s : State) → P s → FineState s) where
  pub declared_keeps : (line : ℕ) (m : Meant) → Shaped m → Takes P binder.Variable m.ty → (v : Variable) → Keeps P (declared home line (Some m) v)
  declared_keeps line m h takes v s p =
      let value = initial_in home s.names (Some m) v.initial in
      let inner : Stated State (List CStat) = record { next = with_variable binder.Variable v.name (Some m.ty) s; faults = value.faults; made = declaration line (next_slot s) value.made } in
      held_leaves P (new_name_rule s.names v.name) inner (λ e. (
        mapped_comes (λ e. statement.Declare line (next_slot s) e ∷ []) value.made (initial_whole home s m v.initial (fine s p) h e),
        takes v.name s p,
      ))

  typed_leaves : (place : Place) (variables : List Variable) (s : State) → P s → (fs : List Fault) (o : Option Meant) → Good Shaped fs o → ((m : Meant) → o ≡ Some m → Takes P binder.Variable m.ty)
      → Leaves P (preceded fs (held_by (local_rule home place (option_map (λ m. m.ty) o)) (in_turn (map (declared home place.line o) variables) s)))
  typed_leaves place variables s p fs None g takes = λ e. absurd (g (left_nil fs _ e))
  typed_leaves place variables s p fs (Some m) g takes =
      let inner = in_turn (map (declared home place.line (Some m)) variables) s in
      preceded_leaves P fs (held_by (local_rule home place (Some m.ty)) inner) (held_leaves P (local_rule home place (Some m.ty)) inner
      (turns_keep P (map (declared home place.line (Some m)) variables) (each_keeps P (declared home place.line (Some m)) (declared_keeps place.line m g.1 (takes m refl)) variables) s p))

  pub declaration_leaves : (tree : TypeTree) (variables : List Variable) (s : State) → P s → ((m : Meant) → (reading (site_of home) s.names tree true).made ≡ Some m → Takes P binder.Variable m.ty)
      → Leaves P (declaration_in home tree variables s)
  declaration_leaves tree variables s p takes =
      let t = reading (site_of home) s.names tree true in
      typed_leaves (type_place tree) variables s p t.faults t.made (reading_shaped (site_of home) s.names (fine s p) tree true) takes

-- ---- walks

some_types : (a b : List Ty) → Some a ≡ Some b → a ≡ b
some_types a b e = cc

by_parts : (b : Bool) (count : ℕ) (parts : List (List ℕ × Ty)) (types : List Ty) → (b ≡ true → length parts ≡ count) → cond {A = Option (List Ty)} b (Some (map (λ part. part.1) parts)) None ≡ Some types → length types ≡ count
by_parts true count parts types h e = sym (ap length (some_types (map (λ part. part.1) parts) types e)) ∙ length-map parts (λ part. part.1) ∙ h refl
by_parts false count parts types h e = absurd (cc)

parts_counted : (count : ℕ) (layer : Ty-F Ty) (types : List Ty) → types_of_parts count layer ≡ Some types → length types ≡ count
parts_counted count (Ty-F.TupleOf parts) types e = by_parts (nat_eq (length parts) count) count parts types (eqb-true (length parts) count) e
parts_counted count _ types e = absurd (cc)

by_one : (b : Bool) (count : ℕ) (element : Ty) (types : List Ty) → (b ≡ true → count ≡ 1) → cond b (Some (element ∷ [])) (types_of_parts count (out-Ty element)) ≡ Some types → length types ≡ count
by_one true count element types h e = sym (ap length (some_types (element ∷ []) types e)) ∙ sym (h refl)
by_one false count element types h e = parts_counted count (out-Ty element) types e

pub name_types_counted : (count : ℕ) (element : Ty) (types : List Ty) → name_types count element ≡ Some types → length types ≡ count
name_types_counted count element types e = by_one (nat_eq count 1) count element types (eqb-true count 1) e

-- what is walked over, and a type for each name
abbrev pub WalkCounts : ℕ → Typed Walked → Type 0
WalkCounts count t = t.faults ≡ [] → (w : Walked) × (t.made ≡ Some w) × (length w.types ≡ count)

settled_counts : (place : Place) (count : ℕ) (container : CExpr) (element : Ty) (o : Option (List Ty)) → name_types count element ≡ o → WalkCounts count (settled WALK_NAMES place (option_map (walked container) o))
settled_counts place count container element None h e = absurd (cons_nil _ _ e)
settled_counts place count container element (Some types) h e = (walked container types, refl, name_types_counted count element types h)

over_counts : (place first : Place) (count : ℕ) (container : CExpr) (element : Option Ty) → WalkCounts count (walk_over place first count container element)
over_counts place first count container None = λ e. absurd (cons_nil _ _ e)
over_counts place first count container (Some element) = settled_counts first count container element (name_types count element) refl

walk_counts : (place first : Place) (count : ℕ) (m : Option Made) → Comes m → WalkCounts count (walk_of place first count m)
walk_counts place first count None c = absurd c
walk_counts place first count (Some m) c = over_counts place first count m.core (element_type (out-Ty m.ty))

module _ (home : Home) (P : State → Type 0) (fine : (s : State) → P s → FineState s) where
  opened_leaves : (b : Binder) (names : List Name) (s : State) → P s → (o : Option Walked) (w : Walked) → o ≡ Some w → length w.types ≡ length names → Each (Takes P b) w.types
      → (in_turn (bindings b names (types_of o)) s).faults ≡ [] → Comes (opening o (in_turn (bindings b names (types_of o)) s).made) × P (in_turn (bindings b names (types_of o)) s).next
  opened_leaves b names s p None w h l takes e = absurd (cc)
  opened_leaves b names s p (Some v) w h l takes e =
      let same : w ≡ v = cc in
      let count = ap (λ (v : Walked). length v.types) (sym same) ∙ l in
      let bound = turns_keep P (bindings b names v.types) (each_bound P b names v.types count (subst (λ (v : Walked). Each (Takes P b) v.types) same takes)) s p e in
      (both_comes opened (Some v.container) (in_turn (bindings b names v.types) s).made tt bound.0, bound.1)

  pub walking_leaves : (b : Binder) (w : Walk) (s : State) → P s
      → ((over : Walked) → (walk_of (expr_place w.container) (walk_place w.names (expr_place w.container)) (length w.names) (value_in home s.names w.container).made).made ≡ Some over → Each (Takes P b) over.types)
      → Leaves P (walk_in home b w s)
  walking_leaves b w s p takes e =
      let c = value_in home s.names w.container in
      let place = expr_place w.container in
      let over = walk_of place (walk_place w.names place) (length w.names) c.made in
      let names = in_turn (bindings b w.names (types_of over.made)) s in
      let first = left_nil (c.faults ++ over.faults) names.faults e in
      let typed = value_whole home s.names (fine s p) w.container (left_nil c.faults over.faults first) in
      let counted = walk_counts place (walk_place w.names place) (length w.names) c.made typed (right_nil c.faults over.faults first) in
      opened_leaves b w.names s p over.made counted.0 counted.1 counted.2 (takes counted.0 counted.1) (right_nil (c.faults ++ over.faults) names.faults e)

-- ---- that all that is visible has types

bound_fine : (b : Binder) (slot : ℕ) (t : Ty) → Fine (bound b slot (Some t))
bound_fine binder.Variable slot t = tt
bound_fine binder.Unwind slot t = tt

pub fine_takes : (b : Binder) (t : Ty) → Takes FineState b t
fine_takes b t name s fine = entries_with Fine s.names name.text (bound b (length s.slots) (Some t)) fine (bound_fine b (length s.slots) t)

all_take : (b : Binder) (types : List Ty) → Each (Takes FineState b) types
all_take b [] = tt
all_take b (t ∷ types) = (fine_takes b t, all_take b types)

pub fine_holds : (home : Home) → Holds home FineState
fine_holds home = record {
  fine = λ s fine. fine;
  declares = λ tree variables s fine. declaration_leaves home FineState (λ s fine. fine) tree variables s fine (λ m e. fine_takes binder.Variable m.ty);
  walks = λ b w s fine. walking_leaves home FineState (λ s fine. fine) b w s fine (λ over e. all_take b over.types);
  closes = λ s t p q. first_entries Fine (length s.names) t.names q;
}
