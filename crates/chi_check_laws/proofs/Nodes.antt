-- What each form of a statement keeps, over parts that keep it.
use Rattle.std.proofs.Common.{◌≡◌, ℕ, Bool, true, List, map, Option}
use Rattle.chi_token.specs.declared.place.Place.{Place}
use Rattle.chi_tree.specs.declared.type_tree.Name.{Name}
use Rattle.chi_tree.specs.declared.type_tree.TypeTree.{TypeTree}
use Rattle.chi_tree.specs.declared.expr.Expr.{Expr}
use Rattle.chi_tree.specs.declared.statement.Alternative.{Alternative-F}
use Rattle.chi_tree.specs.declared.statement.Branch.{Branch-F}
use Rattle.chi_tree.specs.declared.statement.Communication.{Communication}
use Rattle.chi_tree.specs.declared.statement.Element.{Element, Element-F}
use Rattle.chi_tree.specs.declared.statement.Statement.{Statement-F}
use Rattle.chi_tree.specs.declared.statement.Target.{Target}
use Rattle.chi_tree.specs.declared.statement.Variable.{Variable}
use Rattle.chi_tree.specs.declared.statement.Walk.{Walk}
use Rattle.chi_core.specs.declared.element.CElem.{CElem}
use Rattle.chi_core.specs.declared.statement.Branch.{Branch as CBranch}
use Rattle.chi_core.specs.declared.statement.CAlt.{CAlt}
use Rattle.chi_core.specs.declared.statement.CStat.{CStat}
use Rattle.chi_check.specs.Below.chi_check_stat_rules.specs.declared.home.Home.{Home}
use Rattle.chi_check_expr.proofs.Kept.{Each}
use Rattle.chi_check.specs.Below.chi_check_stat_lines.specs.declared.state.State.{State}
use Rattle.chi_check.specs.Below.chi_check_stat_lines.specs.Stated.{Turn}
use Rattle.chi_check.specs.Below.chi_check_stat_lines.specs.States.{Going}
use Rattle.chi_check.specs.Below.chi_check_stat.specs.Statements.{element_step, starting, statement_step, branch_step, alternative_step}
use Rattle.chi_check_laws.specs.Whole.{has_any}

-- where a loop stands around it or not
abbrev pub Goes : {A : Type 0} → (Bool → Turn State A → Type 0) → Going A → Type 0
Goes P g = (loop : Bool) → P loop (g loop)

-- S of statements, B of branches, A of alternatives, E of elements
pub record Keeps (home : Home) (S : Bool → Turn State CStat → Type 0) (B : Bool → Turn State CBranch → Type 0) (A : Bool → Turn State CAlt → Type 0) (E : Turn State CElem → Type 0) : Type 0 where
  pub declare : (tree : TypeTree) (variables : List Variable) → Goes S (statement_step home (Statement-F.Declare tree variables))
  pub assign : (targets : List Target) (equals : Place) (values : List Expr) → has_any targets ≡ true → Goes S (statement_step home (Statement-F.Assign targets equals values))
  pub communicate : (c : Communication) → Goes S (statement_step home (Statement-F.Communicate c))
  pub pass : (place : Place) → Goes S (statement_step home (Statement-F.Pass place))
  pub break : (place : Place) → Goes S (statement_step home (Statement-F.Break place))
  pub continue : (place : Place) → Goes S (statement_step home (Statement-F.Continue place))
  pub select : (place : Place) (gs : List (Going CAlt)) → Each (Goes A) gs → Goes S (statement_step home (Statement-F.Select place gs))
  pub choose : (place : Place) (gs : List (Going CBranch)) (hs : List (Going CStat)) → Each (Goes B) gs → Each (Goes S) hs → Goes S (statement_step home (Statement-F.If place gs hs))
  pub while : (place : Place) (test : Expr) (gs : List (Going CStat)) → Each (Goes S) gs → Goes S (statement_step home (Statement-F.While place test gs))
  pub walk : (place : Place) (walk : Walk) (gs : List (Going CStat)) → has_any walk.names ≡ true → Each (Goes S) gs → Goes S (statement_step home (Statement-F.For place walk gs))
  pub return : (place : Place) (value : Expr) → Goes S (statement_step home (Statement-F.Return place value))
  pub exit : (place : Place) (value : Option Expr) → Goes S (statement_step home (Statement-F.Exit place value))
  pub run : (place : Place) (elements : List Element) → Each E (map (starting home) elements) → Goes S (statement_step home (Statement-F.Run place elements))
  pub start : (place : Place) (elements : List Element) → Each E (map (starting home) elements) → Goes S (statement_step home (Statement-F.Start place elements))
  pub finish : (place : Place) (instances : List Expr) → Goes S (statement_step home (Statement-F.Finish place instances))
  pub write : (place : Place) (ends_line : Bool) (format : List ℕ) (format_place : Place) (values : List Expr) → Goes S (statement_step home (Statement-F.Write place ends_line format format_place values))
  pub branch : (b : Branch-F (Going CAlt) (Going CStat) (Going CBranch) (Going CStat)) → Each (Goes S) b.block → Goes B (branch_step home b)
  pub guarded : (guard : Option Expr) (c : Communication) (gs : List (Going CStat)) → Each (Goes S) gs → Goes A (alternative_step home (Alternative-F.Guarded guard c gs))
  pub offered : (place : Place) (walk : Walk) (gs : List (Going CAlt)) → has_any walk.names ≡ true → Each (Goes A) gs → Goes A (alternative_step home (Alternative-F.Unwind place walk gs))
  pub make : (target : Option Target) (name : Name) (arguments : List Expr) → E (element_step home (Element-F.Make target name arguments))
  pub unwound : (place : Place) (walk : Walk) (fs : List (Turn State CElem)) → has_any walk.names ≡ true → Each E fs → E (element_step home (Element-F.Unwind place walk fs))
