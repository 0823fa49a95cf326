-- Private to proofs. Expressions, conditions, targets and assignments come to something where no rule is broken.
use Rattle.std.proofs.Common.{ℕ, ◌≡◌, nat_eq, length, List, [], ◌∷◌, ◌++◌, map, Option, Some, None, refl}
use Rattle.std.specs.Prelude.{option_map}
use Rattle.chi_token.specs.declared.place.Place.{Place}
use Rattle.chi_tree.specs.declared.expr.Entry.{Entry}
use Rattle.chi_tree.specs.declared.expr.Expr.{Expr}
use Rattle.chi_tree.specs.declared.expr.Link.{Link}
use Rattle.chi_tree.specs.declared.expr.Postfix.{Postfix, Postfix-F, out-Postfix}
use Rattle.chi_tree.specs.declared.statement.Target.{Target}
use Rattle.chi_tree.specs.declared.type_tree.Formal.{Formal}
use Rattle.chi_tree.specs.declared.type_tree.TypeTree.{TypeTree}
use Rattle.chi_types.specs.declared.ty.Ty.{Ty, Ty-F, out-Ty}
use Rattle.chi_core.specs.declared.expression.CExpr.{CExpr}
use Rattle.chi_check_types.specs.declared.known.Known.{Known}
use Rattle.chi_check_types.specs.declared.known.Known.TheVariants as known
use Rattle.chi_check_types.specs.declared.meant.Made.{Made}
use Rattle.chi_check_types.specs.declared.rules.TheConstants.{INDEX, FIELD, CONDITION, FINISH, TARGET_COUNT, ASSIGNED_VALUE, TARGET}
use Rattle.chi_check_types.specs.Names.{Names, known_in}
use Rattle.chi_check_types.specs.Predefined.{is_predefined}
use Rattle.chi_check_types.specs.Typed.{Typed, refused}
use Rattle.chi_check_expr_rules.specs.Nodes.{of_one, all_made}
use Rattle.chi_check_expr.proofs.Exact.{exact_typing}
use Rattle.chi_check_expr.proofs.Nodes.{left_nil, right_nil}
use Rattle.chi_check.specs.Below.chi_check_stat_rules.specs.declared.home.Home.{Home}
use Rattle.chi_check.specs.Below.chi_check_stat_rules.specs.declared.parts.Aim.{Aim}
use Rattle.chi_check.specs.Below.chi_check_stat_rules.specs.Assignments.{all_aims, stored, spread, spread_parts, spread_value, spread_one, only_one, uneven, even, assigned}
use Rattle.chi_check.specs.Below.chi_check_stat_rules.specs.Homes.{site_of}
use Rattle.chi_check.specs.Below.chi_check_stat_rules.specs.Places.{expr_place}
use Rattle.chi_check.specs.Below.chi_check_stat_rules.specs.Targets.{visible_target, named_target, is_text, indexed, index_into, index_step, field_of}
use Rattle.chi_check.specs.Below.chi_check_stat_rules.specs.Values.{as_bool, condition, as_instance, finished_one}
use Rattle.chi_check.specs.Below.chi_check_stat_lines.specs.Values.{made_of, all_faults, faults_if, made_if, all_of, if_any, assignment_place, value_in, values_in, test_in, guard_in, instance_in, step_in, steps_in, target_in, assignment_in}
use Rattle.chi_check_laws.proofs.Entries.{Entries, known_entry}
use Rattle.chi_check_laws.proofs.Shaped.{Fine, clean_of}
use Rattle.chi_check_laws.proofs.WholeHeaders.{Comes, WholeTyped, EachComes, exact_whole, refused_whole, cond_whole, of_one_whole, of_two_whole, then_whole, mapped_comes, both_comes}

-- ---- several parts

-- where something stands, it comes to something
abbrev pub GivenComes : {A : Type 0} → Option (Option A) → Type 0
GivenComes None = Unit {0}
GivenComes (Some m) = Comes m

module _ {X A : Type 0} (f : X → Typed A) (w : (x : X) → WholeTyped (f x)) where
  pub each_comes : (xs : List X) → all_faults (map f xs) ≡ [] → EachComes (map made_of (map f xs))
  each_comes [] e = tt
  each_comes (x ∷ xs) e = (w x (left_nil (f x).faults _ e), each_comes xs (right_nil (f x).faults _ e))

  pub all_of_whole : (xs : List X) → WholeTyped (all_of (map f xs))
  all_of_whole [] e = tt
  all_of_whole (x ∷ xs) e = both_comes (λ x xs. x ∷ xs) (f x).made (all_of (map f xs)).made (w x (left_nil (f x).faults _ e)) (all_of_whole xs (right_nil (f x).faults _ e))

  pub if_any_whole : (o : Option X) → WholeTyped (if_any (option_map f o))
  if_any_whole None e = tt
  if_any_whole (Some x) e = mapped_comes Some (f x).made (w x e)

  pub if_given : (o : Option X) → faults_if (option_map f o) ≡ [] → GivenComes (made_if (option_map f o))
  if_given None e = tt
  if_given (Some x) e = w x e

pub all_made_comes : (ms : List (Option Made)) → EachComes ms → Comes (all_made ms)
all_made_comes [] h = tt
all_made_comes (m ∷ ms) h = both_comes (λ x xs. x ∷ xs) m (all_made ms) h.0 (all_made_comes ms h.1)

all_aims_comes : (aims : List (Option Aim)) → EachComes aims → Comes (all_aims aims)
all_aims_comes [] h = tt
all_aims_comes (a ∷ aims) h = both_comes (λ x xs. x ∷ xs) a (all_aims aims) h.0 (all_aims_comes aims h.1)

-- ---- names and steps of targets

known_target : (place : Place) (k : Known) → Fine k → WholeTyped (visible_target place (Some k))
known_target place (known.Var slot t) h = λ e. tt
known_target place (known.Untyped k) h = absurd h
known_target place (known.Fixed slot t) h = refused_whole TARGET place
known_target place (known.Const number t) h = refused_whole TARGET place
known_target place (known.Kind t) h = refused_whole TARGET place
known_target place (known.Value enumeration position) h = refused_whole TARGET place
known_target place (known.Func number params result) h = refused_whole TARGET place
known_target place (known.Proc number params exit) h = refused_whole TARGET place
known_target place (known.Model number params exit) h = refused_whole TARGET place
known_target place (known.Xper number) h = refused_whole TARGET place

visible_target_whole : (place : Place) (o : Option Known) → ((k : Known) → o ≡ Some k → Fine k) → WholeTyped (visible_target place o)
visible_target_whole place None h = refused_whole _ place
visible_target_whole place (Some k) h = known_target place k (h k refl)

index_into_whole : (name place : Place) (a : Aim) (i : Made) → WholeTyped (index_into name place a (Some i))
index_into_whole name place a i =
    cond_whole (is_text (out-Ty a.ty)) (refused TARGET name) (of_one INDEX place (indexed (out-Ty a.ty) a) (Some i)) (refused_whole TARGET name) (of_one_whole INDEX place (indexed (out-Ty a.ty) a) (Some i) tt)

-- ---- assignments

spread_parts_whole : (line : ℕ) (equals : Place) (aims : List (Option Aim)) (tuple : CExpr) (parts : List (List ℕ × Ty)) → EachComes aims → WholeTyped (spread_parts line equals aims tuple parts)
spread_parts_whole line equals aims tuple parts h =
    cond_whole (nat_eq (length parts) (length aims)) (of_one ASSIGNED_VALUE equals (spread line tuple parts) (all_aims aims)) (refused TARGET_COUNT equals)
    (of_one_whole ASSIGNED_VALUE equals (spread line tuple parts) (all_aims aims) (all_aims_comes aims h)) (refused_whole TARGET_COUNT equals)

spread_value_whole : (line : ℕ) (equals : Place) (aims : List (Option Aim)) (tuple : CExpr) (layer : Ty-F Ty) → EachComes aims → WholeTyped (spread_value line equals aims tuple layer)
spread_value_whole line equals aims tuple (Ty-F.TupleOf parts) h = spread_parts_whole line equals aims tuple parts h
spread_value_whole line equals aims tuple _ h = refused_whole TARGET_COUNT equals

spread_one_whole : (line : ℕ) (equals : Place) (aims : List (Option Aim)) (m : Option Made) → EachComes aims → Comes m → WholeTyped (spread_one line equals aims m)
spread_one_whole line equals aims None h c = absurd c
spread_one_whole line equals aims (Some m) h c = spread_value_whole line equals aims m.core (out-Ty m.ty) h

uneven_whole : (line : ℕ) (equals : Place) (aims : List (Option Aim)) (values : List (Option Made)) → EachComes aims → EachComes values → WholeTyped (uneven line equals aims (only_one values))
uneven_whole line equals aims [] h k = refused_whole TARGET_COUNT equals
uneven_whole line equals aims (value ∷ []) h k = spread_one_whole line equals aims value h k.0
uneven_whole line equals aims (value ∷ other ∷ values) h k = refused_whole TARGET_COUNT equals

assigned_whole : (line : ℕ) (equals : Place) (aims : List (Option Aim)) (values : List (Option Made)) → EachComes aims → EachComes values → WholeTyped (assigned line equals aims values)
assigned_whole line equals aims values h k =
    cond_whole (nat_eq (length values) (length aims)) (even line equals aims values) (uneven line equals aims (only_one values))
    (of_two_whole ASSIGNED_VALUE equals (stored line) (all_made values) (all_aims aims) (all_made_comes values k) (all_aims_comes aims h)) (uneven_whole line equals aims values h k)

module _ (home : Home) (names : Names) (fine : Entries Fine names) where
  pub value_whole : (e : Expr) → WholeTyped (value_in home names e)
  value_whole e = exact_whole (value_in home names e) (exact_typing (site_of home) names e (clean_of names fine))

  pub test_whole : (e : Expr) → WholeTyped (test_in home names e)
  test_whole e = then_whole (value_in home names e).faults (value_in home names e).made (condition (expr_place e)) (value_whole e) (λ m. of_one_whole CONDITION (expr_place e) as_bool (Some m) tt)

  pub guard_whole : (guard : Option Expr) → WholeTyped (guard_in home names guard)
  guard_whole guard = if_any_whole (test_in home names) test_whole guard

  pub instance_whole : (e : Expr) → WholeTyped (instance_in home names e)
  instance_whole e = then_whole (value_in home names e).faults (value_in home names e).made (finished_one (expr_place e)) (value_whole e) (λ m. of_one_whole FINISH (expr_place e) as_instance (Some m) tt)

  pub values_come : (es : List Expr) → all_faults (values_in home names es) ≡ [] → EachComes (map made_of (values_in home names es))
  values_come es e = each_comes (value_in home names) value_whole es e

  -- ---- targets

  step_whole : (name : Place) (a : Aim) (p : Postfix-F Expr Postfix TypeTree Entry Link Formal) → WholeTyped (step_in home names name (Some a) p)
  step_whole name a (Postfix-F.Index place i) =
      then_whole (value_in home names i).faults (value_in home names i).made (index_step name place (Some a)) (value_whole i) (λ m. index_into_whole name place a m)
  step_whole name a (Postfix-F.Slice place from upto second by) = refused_whole INDEX place
  step_whole name a (Postfix-F.Field field) = of_one_whole FIELD field.place (field_of field.text) (Some a) tt

  step_comes : (name : Place) (m : Option Aim) (p : Postfix-F Expr Postfix TypeTree Entry Link Formal) → Comes m → WholeTyped (step_in home names name m p)
  step_comes name None p c = absurd c
  step_comes name (Some a) p c = step_whole name a p

  steps_whole : (name : Place) (m : Option Aim) (ps : List Postfix) → Comes m → WholeTyped (steps_in home names name m ps)
  steps_whole name m [] c e = c
  steps_whole name m (p ∷ ps) c e =
      let first = step_in home names name m (out-Postfix p) in
      steps_whole name first.made ps (step_comes name m (out-Postfix p) c (left_nil first.faults _ e)) (right_nil first.faults _ e)

  pub target_whole : (t : Target) → WholeTyped (target_in home names t)
  target_whole t e =
      let named = named_target names t.name in
      let there : WholeTyped named = cond_whole (is_predefined t.name.text) (refused TARGET t.name.place) (visible_target t.name.place (known_in names t.name.text)) (refused_whole TARGET t.name.place)
      (visible_target_whole t.name.place (known_in names t.name.text) (λ k found. known_entry Fine names t.name.text k fine found)) in
      steps_whole t.name.place named.made t.steps (there (left_nil named.faults _ e)) (right_nil named.faults _ e)

  pub assignment_whole : (targets : List Target) (equals : Place) (values : List Expr) → WholeTyped (assignment_in home names targets equals values)
  assignment_whole targets equals values e =
      let to = map (target_in home names) targets in
      let given = values_in home names values in
      let parts = left_nil (all_faults to ++ all_faults given) _ e in
      assigned_whole (assignment_place targets equals).line equals (map made_of to) (map made_of given)
      (each_comes (target_in home names) target_whole targets (left_nil (all_faults to) _ parts)) (values_come values (right_nil (all_faults to) _ parts)) (right_nil (all_faults to ++ all_faults given) _ e)
