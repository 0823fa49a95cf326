-- Whole expressions and types.
use Rattle.std.proofs.Common.{◌≡◌, Bool, List, Option, Some, None, subst}
use Rattle.chi_tree.specs.declared.expr.Expr.{Expr}
use Rattle.chi_tree.specs.declared.type_tree.TypeTree.{TypeTree}
use Rattle.chi_core.specs.Scopes.{Scope}
use Rattle.chi_core.specs.SetSlots.{Known as Set}
use Rattle.chi_check_types.specs.declared.fault.Fault.{Fault}
use Rattle.chi_check_types.specs.declared.known.Known.TheVariants as known
use Rattle.chi_check_types.specs.declared.meant.Made.{Made}
use Rattle.chi_check_types.specs.declared.meant.Meant.{Meant}
use Rattle.chi_check_types.specs.declared.site.Site.{Site}
use Rattle.chi_check_types.specs.Names.{Names}
use Rattle.chi_check_expr.specs.Clean.{Clean}
use Rattle.chi_check_expr.specs.Typing.{typing, reading}
use Rattle.chi_check_expr.proofs.Kept.{Good}
use Rattle.chi_check_expr.proofs.Induction.{typing_good, reading_good}
use Rattle.chi_check_laws.specs.KnownNames.{IsSite, AllStand, SoundMade, SoundMeant}
use Rattle.chi_check_laws.proofs.Conversions.{some_is}
use Rattle.chi_check_laws.proofs.Expressions.{keeps_sound}

good_made : {A : Type 0} (T : A → Type 0) (fs : List Fault) (o : Option A) (a : A) → Good T fs o → o ≡ Some a → T a
good_made T fs None a g e = absurd (cc)
good_made T fs (Some b) a g e = subst T (some_is b a e) g.1

module _ (scope : Scope) (set : Set) (s : Site) (names : Names) (at : IsSite s scope.role) (all : AllStand scope set names) where
  clean : Clean names
  clean name kind e = all name (known.Untyped kind) e

  pub expression_sound : (e : Expr) (m : Made) → (typing s names e).made ≡ Some m → SoundMade scope set m
  expression_sound e m is = good_made (SoundMade scope set) (typing s names e).faults (typing s names e).made m
      (typing_good (SoundMade scope set) (SoundMeant scope set) s names clean (keeps_sound scope set s names at all) e) is

  pub type_sound : (t : TypeTree) (sizes : Bool) (m : Meant) → (reading s names t sizes).made ≡ Some m → SoundMeant scope set m
  type_sound t sizes m is = good_made (SoundMeant scope set) (reading s names t sizes).faults (reading s names t sizes).made m
      (reading_good (SoundMade scope set) (SoundMeant scope set) s names clean (keeps_sound scope set s names at all) t sizes) is
