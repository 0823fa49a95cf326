-- Expressions and targets where they stand: their broken rules, in the order in which they are met, and what they come to.
use Rattle.std.specs.Prelude.{List, [], ◌∷◌, ◌++◌, map, Option, Some, None, option_map}
use Rattle.chi_token.specs.declared.place.Place.{Place}
use Rattle.chi_tree.specs.declared.type_tree.TypeTree.{TypeTree}
use Rattle.chi_tree.specs.declared.type_tree.Formal.{Formal}
use Rattle.chi_tree.specs.declared.expr.Expr.{Expr}
use Rattle.chi_tree.specs.declared.expr.Postfix.{Postfix, Postfix-F, out-Postfix}
use Rattle.chi_tree.specs.declared.expr.Entry.{Entry}
use Rattle.chi_tree.specs.declared.expr.Link.{Link}
use Rattle.chi_tree.specs.declared.statement.Target.{Target}
use Rattle.chi_core.specs.declared.expression.CExpr.{CExpr}
use Rattle.chi_core.specs.declared.statement.CStat.{CStat}
use Rattle.chi_core.specs.declared.target.CTarget.{CTarget}
use Rattle.chi_check_types.specs.declared.fault.Fault.{Fault}
use Rattle.chi_check_types.specs.declared.meant.Made.{Made}
use Rattle.chi_check_types.specs.declared.rules.TheConstants.{INDEX}
use Rattle.chi_check_types.specs.Names.{Names}
use Rattle.chi_check_types.specs.Typed.{Typed, after, unless, refused}
use Rattle.chi_check_expr.specs.Typing.{typing}
use Rattle.chi_check_stat_rules.specs.declared.home.Home.{Home}
use Rattle.chi_check_stat_rules.specs.declared.parts.Aim.{Aim}
use Rattle.chi_check_stat_rules.specs.Assignments.{assigned}
use Rattle.chi_check_stat_rules.specs.Elements.{instance_target}
use Rattle.chi_check_stat_rules.specs.Homes.{site_of}
use Rattle.chi_check_stat_rules.specs.Places.{expr_place}
use Rattle.chi_check_stat_rules.specs.Targets.{named_target, index_step, field_step}
use Rattle.chi_check_stat_rules.specs.Values.{condition, finished_one}
use Rattle.chi_check_stat_lines.specs.Stated.{both}

-- ---- several parts

abbrev pub made_of : {A : Type 0} → Typed A → Option A
made_of t = t.made

abbrev pub all_faults : {A : Type 0} → List (Typed A) → List Fault
all_faults [] = []
all_faults (t ∷ ts) = t.faults ++ all_faults ts

-- a part that may be left out
abbrev pub faults_if : {A : Type 0} → Option (Typed A) → List Fault
faults_if None = []
faults_if (Some t) = t.faults

abbrev pub made_if : {A : Type 0} → Option (Typed A) → Option (Option A)
made_if = option_map made_of

-- parts that each come to something
abbrev pub all_of : {A : Type 0} → List (Typed A) → Typed (List A)
all_of [] = unless [] []
all_of (t ∷ ts) = let more = all_of ts in record { faults = t.faults ++ more.faults; made = both (λ x xs. x ∷ xs) t.made more.made }

-- one more, where all are there
abbrev pub with_last : {A : Type 0} → Option (List A) → Option A → Option (List A)
with_last = both (λ xs x. xs ++ x ∷ [])

-- a part that comes to something, or is left out
abbrev pub if_any : {A : Type 0} → Option (Typed A) → Typed (Option A)
if_any None = unless [] None
if_any (Some t) = record { faults = t.faults; made = option_map Some t.made }

-- ---- places

-- The first token of an assignment is its first target. Each has one.
abbrev pub assignment_place : List Target → Place → Place
assignment_place [] equals = equals
assignment_place (t ∷ ts) equals = t.name.place

-- ---- expressions

module _ (home : Home) where
  -- an expression where it stands
  abbrev pub value_in : Names → Expr → Typed Made
  value_in names e = typing (site_of home) names e

  abbrev pub values_in : Names → List Expr → List (Typed Made)
  values_in names es = map (value_in names) es

  abbrev pub test_in : Names → Expr → Typed CExpr
  test_in names e = let t = value_in names e in after t.faults (condition (expr_place e) t.made)

  abbrev pub guard_in : Names → Option Expr → Typed (Option CExpr)
  guard_in names guard = if_any (option_map (test_in names) guard)

  abbrev pub instance_in : Names → Expr → Typed CExpr
  instance_in names e = let t = value_in names e in after t.faults (finished_one (expr_place e) t.made)

  -- ---- targets

  -- A step of a target, whose name stands at the place. No target has a slice.
  abbrev pub step_in : Names → Place → Option Aim → Postfix-F Expr Postfix TypeTree Entry Link Formal → Typed Aim
  step_in names name a (Postfix-F.Index place index) = let i = value_in names index in after i.faults (index_step name place a i.made)
  step_in names name a (Postfix-F.Slice place from upto second by) = refused INDEX place
  step_in names name a (Postfix-F.Field field) = field_step field a

  abbrev pub steps_in : Names → Place → Option Aim → List Postfix → Typed Aim
  steps_in names name a [] = record { faults = []; made = a }
  steps_in names name a (p ∷ ps) = let first = step_in names name a (out-Postfix p) in after first.faults (steps_in names name first.made ps)

  abbrev pub target_in : Names → Target → Typed Aim
  target_in names t = let named = named_target names t.name in after named.faults (steps_in names t.name.place named.made t.steps)

  abbrev pub assignment_in : Names → List Target → Place → List Expr → Typed CStat
  assignment_in names targets equals values =
      let to = map (target_in names) targets in
      let given = values_in names values in
      after (all_faults to ++ all_faults given) (assigned (assignment_place targets equals).line equals (map made_of to) (map made_of given))

  -- where a new instance goes, if it goes anywhere
  abbrev pub goal_in : Names → Target → Typed CTarget
  goal_in names target = let a = target_in names target in after a.faults (instance_target target.name.place a.made)
