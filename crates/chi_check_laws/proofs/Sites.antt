-- What stands at a site, and what a node makes where none of its rules is broken.
use Rattle.std.proofs.Common.{◌≡◌, ℕ, Bool, true, false, not, List, [], ◌∷◌, ◌++◌, Option, Some, None, refl}
use Rattle.chi_token.specs.declared.place.Place.{Place}
use Rattle.chi_core.specs.declared.op_name.OpName.{OpName}
use Rattle.chi_core.specs.Kinds.{Kind}
use Rattle.chi_core.specs.Scopes.{Role, constant, function, process, may_call, may_apply}
use Rattle.chi_check_types.specs.declared.fault.Fault.{Fault}
use Rattle.chi_check_types.specs.declared.site.Site.{Site}
use Rattle.chi_check_types.specs.declared.site.Site.TheVariants as site
use Rattle.chi_check_types.specs.Typed.{Typed, broken_if, unless}
use Rattle.chi_check_expr_rules.specs.Nodes.{settled, barred}
use Rattle.chi_check_expr_rules.specs.Sites.{calling_rule, running_rule}
use Rattle.chi_check_laws.specs.KnownNames.{IsSite}
use Rattle.chi_check_laws.proofs.Conversions.{some_is}

-- ---- sites

pub may_run : (s : Site) (role : Role) (place : Place) (name : OpName) (Ts : List Kind) → IsSite s role → running_rule s place ≡ [] → may_apply role name Ts ≡ true
may_run site.Process (process exit) place name Ts h e = refl
may_run site.Process (constant number) place name Ts h e = absurd h
may_run site.Process (function result) place name Ts h e = absurd h
may_run site.Constant role place name Ts h e = absurd (cc)
may_run site.Function role place name Ts h e = absurd (cc)
may_run site.Experiment role place name Ts h e = absurd (cc)

pub may_call_there : (s : Site) (role : Role) (place : Place) → IsSite s role → calling_rule s place ≡ [] → may_call role ≡ true
may_call_there site.Process (process exit) place h e = refl
may_call_there site.Process (constant number) place h e = absurd h
may_call_there site.Process (function result) place h e = absurd h
may_call_there site.Function (function result) place h e = refl
may_call_there site.Function (constant number) place h e = absurd h
may_call_there site.Function (process exit) place h e = absurd h
may_call_there site.Experiment (function result) place h e = refl
may_call_there site.Experiment (constant number) place h e = absurd h
may_call_there site.Experiment (process exit) place h e = absurd h
may_call_there site.Constant role place h e = absurd (cc)

-- ---- nodes

module _ {A : Type 0} where
  pub unless_made : (fs : List Fault) (a m : A) → (unless fs a).made ≡ Some m → (fs ≡ []) × (a ≡ m)
  unless_made [] a m e = (refl, some_is a m e)
  unless_made (f ∷ fs) a m e = absurd (cc)

  pub settled_made : (rule : ℕ) (place : Place) (o : Option A) (m : A) → (settled rule place o).made ≡ Some m → o ≡ Some m
  settled_made rule place None m e = absurd (cc)
  settled_made rule place (Some a) m e = e

  pub barred_made : (fs : List Fault) (t : Typed A) (m : A) → (barred fs t).made ≡ Some m → (fs ≡ []) × (t.made ≡ Some m)
  barred_made [] t m e = (refl, e)
  barred_made (f ∷ fs) t m e = absurd (cc)

  -- a rule that isn't broken where something is made
  pub unbroken : (holds : Bool) (rule : ℕ) (place : Place) (fs : List Fault) (a m : A) → (unless (broken_if (not holds) rule place ++ fs) a).made ≡ Some m → holds ≡ true
  unbroken true rule place fs a m e = refl
  unbroken false rule place fs a m e = absurd (cc)
