-- The values of expressions, conditions and targets, where all visible names agree with the program.
use Rattle.std.proofs.Common.{◌≡◌, ℕ, Bool, List, [], ◌∷◌, map, Option, Some, None, refl, subst}
use Rattle.std.specs.Prelude.{option_map}
use Rattle.chi_token.specs.declared.place.Place.{Place}
use Rattle.chi_tree.specs.declared.expr.Expr.{Expr}
use Rattle.chi_tree.specs.declared.type_tree.TypeTree.{TypeTree}
use Rattle.chi_types.specs.declared.ty.Ty.{Ty-F}
use Rattle.chi_core.specs.declared.expression.CExpr.{CExpr}
use Rattle.chi_core.specs.Kinds.{kind_of}
use Rattle.chi_core.specs.Scopes.{Role, function, process, Scope}
use Rattle.chi_core.specs.SetSlots.{Known as Set}
use Rattle.chi_check_types.specs.declared.meant.Made.{Made}
use Rattle.chi_check_types.specs.declared.meant.Meant.{Meant}
use Rattle.chi_check_types.specs.Names.{Names}
use Rattle.chi_check_expr_rules.specs.Nodes.{of_one, of_two, all_made}
use Rattle.chi_check_expr.specs.Typing.{reading}
use Rattle.chi_check_expr.proofs.Kept.{Each}
use Rattle.chi_check_expr.proofs.Nodes.{settled_made}
use Rattle.chi_check_laws.specs.KnownNames.{IsSite, AllStand, Has, SoundMade, SoundMeant}
use Rattle.chi_check_laws.proofs.Conversions.{some_is, mapped, chained}
use Rattle.chi_check_laws.proofs.WholeParts.{expression_sound, type_sound}
use Rattle.chi_check.specs.Below.chi_check_stat_rules.specs.declared.home.ExitType.TheVariants as exit
use Rattle.chi_check.specs.Below.chi_check_stat_rules.specs.declared.home.Home.{Home}
use Rattle.chi_check.specs.Below.chi_check_stat_rules.specs.declared.home.Home.TheVariants as home
use Rattle.chi_check.specs.Below.chi_check_stat_rules.specs.Homes.{site_of}
use Rattle.chi_check.specs.Below.chi_check_stat_rules.specs.Values.{as_bool, as_instance}
use Rattle.chi_check_laws.proofs.SoundValues.{condition_has, instance_has}
use Rattle.chi_check.specs.Below.chi_check_stat_lines.specs.Values.{made_of, value_in, values_in, test_in, instance_in}
use Rattle.chi_check_laws.specs.Bodies.{role_of, reads_as}

-- ---- nodes that come to something

pub one_made : {A B : Type 0} (rule : ℕ) (place : Place) (f : A → Option B) (o : Option A) (b : B) → (of_one rule place f o).made ≡ Some b → (a : A) × (o ≡ Some a) × (f a ≡ Some b)
one_made rule place f None b e = absurd (cc)
one_made rule place f (Some a) b e = (a, refl, settled_made rule place (f a) b e)

pub two_made : {A B C : Type 0} (rule : ℕ) (place : Place) (f : A → B → Option C) (o : Option A) (p : Option B) (c : C) → (of_two rule place f o p).made ≡ Some c
    → (a : A) × (b : B) × (o ≡ Some a) × (p ≡ Some b) × (f a b ≡ Some c)
two_made rule place f None p c e = absurd (cc)
two_made rule place f (Some a) None c e = absurd (cc)
two_made rule place f (Some a) (Some b) c e = (a, b, refl, refl, settled_made rule place (f a b) c e)

-- ---- homes

pub as_its_role : (h : Home) (r : Role) → role_of h ≡ Some r → reads_as h ≡ Some r
as_its_role (home.Function result) r e = e
as_its_role (home.Process own) r e = e
as_its_role home.Experiment r e = absurd (cc)

pub site_is : (h : Home) (r : Role) → reads_as h ≡ Some r → IsSite (site_of h) r
site_is (home.Function None) r e = absurd (cc)
site_is (home.Function (Some t)) r e = subst (IsSite (site_of (home.Function (Some t)))) (some_is (function (kind_of t)) r e) tt
site_is (home.Process exit.Nothing) r e = subst (IsSite (site_of (home.Process exit.Nothing))) (some_is (process None) r e) tt
site_is (home.Process exit.Untyped) r e = absurd (cc)
site_is (home.Process (exit.Given t)) r e = subst (IsSite (site_of (home.Process (exit.Given t)))) (some_is (process (Some (kind_of t))) r e) tt
site_is home.Experiment r e = subst (IsSite (site_of home.Experiment)) (some_is (function Ty-F.Void) r e) tt

-- ---- expressions

module _ (h : Home) (scope : Scope) (role : reads_as h ≡ Some scope.role) (set : Set) (names : Names) (all : AllStand scope set names) where
  pub value_sound : (e : Expr) (m : Made) → (value_in h names e).made ≡ Some m → SoundMade scope set m
  value_sound e m is = expression_sound scope set (site_of h) names (site_is h scope.role role) all e m is

  pub read_sound : (tree : TypeTree) (sizes : Bool) (m : Meant) → (reading (site_of h) names tree sizes).made ≡ Some m → SoundMeant scope set m
  read_sound tree sizes m is = type_sound scope set (site_of h) names (site_is h scope.role role) all tree sizes m is

  -- as many of them
  pub values_sound : (es : List Expr) (ms : List Made) → all_made (map made_of (values_in h names es)) ≡ Some ms → Each (SoundMade scope set) ms
  values_sound [] ms e = subst (Each (SoundMade scope set)) (some_is [] ms e) tt
  values_sound (x ∷ es) ms e =
      let f = chained (λ first. option_map (λ more. first ∷ more) (all_made (map made_of (values_in h names es)))) (value_in h names x).made ms e in
      let g = mapped (λ more. f.0 ∷ more) (all_made (map made_of (values_in h names es))) ms f.2 in
      subst (Each (SoundMade scope set)) g.2 (value_sound x f.0 f.1, values_sound es g.0 g.1)

  pub test_has : (x : Expr) (e : CExpr) → (test_in h names x).made ≡ Some e → Has scope set e Ty-F.Bool
  test_has x e is =
      let f = one_made _ _ as_bool (value_in h names x).made e is in
      condition_has scope set f.0 e (value_sound x f.0 f.1) f.2

  pub waited_has : (x : Expr) (e : CExpr) → (instance_in h names x).made ≡ Some e → Has scope set e Ty-F.Inst
  waited_has x e is =
      let f = one_made _ _ as_instance (value_in h names x).made e is in
      instance_has scope set f.0 e (value_sound x f.0 f.1) f.2
