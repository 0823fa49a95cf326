-- Private to proofs. A tree comes to something exactly where no rule is broken: the induction at no further fact.
use Rattle.std.proofs.Common.{◌≡◌, Bool, List, [], Option, Some, None, refl}
use Rattle.chi_tree.specs.declared.expr.Expr.{Expr}
use Rattle.chi_tree.specs.declared.type_tree.TypeTree.{TypeTree}
use Rattle.chi_check_types.specs.declared.fault.Fault.{Fault}
use Rattle.chi_check_types.specs.declared.site.Site.{Site}
use Rattle.chi_check_types.specs.Names.{Names}
use Rattle.chi_check_types.specs.Typed.{Typed}
use Rattle.chi_check_expr.specs.Clean.{Clean}
use Rattle.chi_check_expr.specs.Laws.{IsExact}
use Rattle.chi_check_expr.specs.Typing.{typing, reading}
use Rattle.chi_check_expr.proofs.Kept.{Good, Keeps}
use Rattle.chi_check_expr.proofs.Induction.{typing_good, reading_good}

-- nothing more
abbrev pub Anything : {A : Type 0} → A → Type 0
Anything a = Unit {0}

pub keeps_anything : (site : Site) (names : Names) → Keeps site names Anything Anything
keeps_anything site names = record {
  int = λ _ _ _. tt;
  real = λ _ _ _. tt;
  text = λ _. tt;
  bool = λ _. tt;
  time = λ _ _ _. tt;
  name = λ _ _ _ _ _. tt;
  chain = λ _ _ _ _ _ _ _ _. tt;
  prefix = λ _ _ _ _ _ _. tt;
  relation = λ _ _ _ _ _ _ _ _. tt;
  power = λ _ _ _ _ _ _ _. tt;
  cast = λ _ _ _ _ _ _. tt;
  index = λ _ _ _ _ _ _ _. tt;
  slice = λ _ _ _ _ _ _ _ _. tt;
  field = λ _ _ _ _ _. tt;
  call = λ _ _ _ _ _ _ _. tt;
  predefined_name = λ _ _ _ _ _ _. tt;
  insertion = λ _ _ _ _ _ _ _ _ _ _. tt;
  tuple = λ _ _ _ _ _. tt;
  list = λ _ _ _ _ _. tt;
  set = λ _ _ _ _ _. tt;
  dict = λ _ _ _ _ _ _ _. tt;
  empty_list = λ _ _ _ _ _. tt;
  empty_set = λ _ _ _ _ _. tt;
  empty_dict = λ _ _ _ _ _ _ _. tt;
  word = λ _ _ _ _. tt;
  named_type = λ _ _ _ _ _. tt;
  list_type = λ _ _ _ _ _. tt;
  sized_list = λ _ _ _ _ _ _ _ _. tt;
  set_type = λ _ _ _ _ _. tt;
  dict_type = λ _ _ _ _ _ _ _. tt;
  dist = λ _ _ _ _ _. tt;
  tuple_type = λ _ _ _ _ _ _. tt;
  chan = λ _ _ _ _ _ _. tt;
  void_chan = λ _ _ _ _. tt;
}

module _ {A : Type 0} (T : A → Type 0) where
  made_where : (fs : List Fault) (m : Option A) → Good T fs m → fs ≡ [] → (a : A) × (m ≡ Some a)
  made_where fs None g e = absurd (g e)
  made_where fs (Some a) g e = (a, refl)

  none_where : (fs : List Fault) (m : Option A) → Good T fs m → (a : A) × (m ≡ Some a) → fs ≡ []
  none_where fs None g h = absurd (let e = h.1 in cc)
  none_where fs (Some a) g h = g.0

exact_of : {A : Type 0} (t : Typed A) → Good Anything t.faults t.made → IsExact t
exact_of t g = (made_where Anything t.faults t.made g, none_where Anything t.faults t.made g)

pub exact_typing : (site : Site) (names : Names) (e : Expr) → Clean names → IsExact (typing site names e)
exact_typing site names e clean = exact_of (typing site names e) (typing_good Anything Anything site names clean (keeps_anything site names) e)

pub exact_reading : (site : Site) (names : Names) (t : TypeTree) (sizes : Bool) → Clean names → IsExact (reading site names t sizes)
exact_reading site names t sizes clean = exact_of (reading site names t sizes) (reading_good Anything Anything site names clean (keeps_anything site names) t sizes)
