-- Private to proofs. The answers for a whole tree, by what was kept of its broken rules.
use Rattle.std.proofs.Common.{◌≡◌, Bool, Some, None, refl}
use Rattle.std.specs.Prelude.{Ok}
use Rattle.chi_core.specs.declared.expression.CExpr.{CExpr}
use Rattle.chi_tree.specs.declared.expr.Expr.{Expr}
use Rattle.chi_tree.specs.declared.type_tree.TypeTree.{TypeTree}
use Rattle.chi_check_types.specs.declared.meant.Made.{Made}
use Rattle.chi_check_types.specs.declared.meant.Meant.{Meant}
use Rattle.chi_check_types.specs.declared.site.Site.{Site}
use Rattle.chi_check_types.specs.Defaults.{default_of}
use Rattle.chi_check_types.specs.Faults.{first_of}
use Rattle.chi_check_types.specs.Names.{Names}
use Rattle.chi_check_types.specs.Typed.{Typed}
use Rattle.chi_check_types.proofs.FirstLaws.{none_first}
use Rattle.chi_check_expr.specs.Answers.{Answers, CoreAndType, TypeAndDefault}
use Rattle.chi_check_expr.specs.Clean.{Clean}
use Rattle.chi_check_expr.specs.Laws.{IsExact}
use Rattle.chi_check_expr.specs.Typing.{typing, reading}
use Rattle.chi_check_expr.proofs.Exact.{exact_typing, exact_reading}

nothing_made : {A : Type 0} (t : Typed A) → IsExact t → t.made ≡ None → first_of None t.faults ≡ None → ⊥
nothing_made t exact h n = let made = exact.0 (none_first t.faults n) in absurd (let e = made.1 in cc)

module _ (site : Site) (names : Names) where
  pub expr_made : (e : Expr) (m : Made) → (typing site names e).made ≡ Some m → first_of None (typing site names e).faults ≡ None → Answers CoreAndType (Ok (m.core, m.ty)) (typing site names e)
  expr_made e m h n = (none_first (typing site names e).faults n, (m, h, (refl, refl)))

  pub expr_unmade : Clean names → (e : Expr) → (typing site names e).made ≡ None → first_of None (typing site names e).faults ≡ None → ⊥
  expr_unmade clean e h n = nothing_made (typing site names e) (exact_typing site names e clean) h n

  pub type_made : (t : TypeTree) (sizes : Bool) (m : Meant) (default : CExpr) → (reading site names t sizes).made ≡ Some m → first_of None (reading site names t sizes).faults ≡ None → default_of m.ty m.sizes ≡ Some default
      → Answers TypeAndDefault (Ok (m.ty, default)) (reading site names t sizes)
  type_made t sizes m default h n d = (none_first (reading site names t sizes).faults n, (m, h, (refl, d)))

  pub type_unmade : Clean names → (t : TypeTree) (sizes : Bool) → (reading site names t sizes).made ≡ None → first_of None (reading site names t sizes).faults ≡ None → ⊥
  type_unmade clean t sizes h n = nothing_made (reading site names t sizes) (exact_reading site names t sizes clean) h n
