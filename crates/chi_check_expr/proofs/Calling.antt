-- Private to proofs. Names and calls, where no visible name lacks a type.
use Rattle.std.proofs.Common.{ℕ, ◌≡◌, Bool, true, false, cond, nat_eq, length, List, [], ◌∷◌, ◌++◌, map, Option, Some, None, refl, sym, ap, subst, ◌∙◌}
use Rattle.chi_token.specs.declared.place.Place.{Place}
use Rattle.chi_tree.specs.declared.type_tree.Name.{Name}
use Rattle.chi_types.specs.declared.ty.Ty.{out-Ty}
use Rattle.chi_check_types.specs.declared.fault.Fault.{Fault}
use Rattle.chi_check_types.specs.declared.known.Known.{Known}
use Rattle.chi_check_types.specs.declared.known.Known.TheVariants as known
use Rattle.chi_check_types.specs.declared.known.NameKind.{NameKind}
use Rattle.chi_check_types.specs.declared.meant.Made.{Made}
use Rattle.chi_check_types.specs.declared.meant.Meant.{Meant}
use Rattle.chi_check_types.specs.declared.predefined.Predefined.{Predefined}
use Rattle.chi_check_types.specs.declared.predefined.Predefined.TheVariants as predefined
use Rattle.chi_check_types.specs.declared.rules.TheConstants.{PREDEFINED, CALL_ARGUMENTS, NAME_KIND}
use Rattle.chi_check_types.specs.declared.site.Site.{Site}
use Rattle.chi_check_types.specs.Names.{Names, known_in}
use Rattle.chi_check_types.specs.Predefined.{predefined_of, is_predefined}
use Rattle.chi_check_types.specs.Typed.{Typed, refused, after}
use Rattle.chi_check_types.specs.TypeRules as types
use Rattle.chi_check_expr_rules.specs.Nodes.{of_all, barred, all_made}
use Rattle.chi_check_expr_rules.specs.Named.{visible_value, named_value}
use Rattle.chi_check_expr_rules.specs.Calls.{call_of, called, function_call}
use Rattle.chi_check_expr_rules.specs.Sites.{calling_rule}
use Rattle.chi_check_expr_rules.specs.PredefinedCalls as rule
use Rattle.chi_check_expr_rules.specs.PredefinedCalls.{predefined_call, insertion, insertion_of, inserted_in, is_count}
use Rattle.chi_check_expr.specs.Calls as calls
use Rattle.chi_check_expr.specs.Calls.{is_insertion, function_known, inserted, call_by, called_with}
use Rattle.chi_check_expr.specs.Clean.{Clean}
use Rattle.chi_check_expr.specs.Reads.{Read, typed_of, made_of, all_faults}
use Rattle.chi_check_expr.proofs.Kept.{Good, GoodTyped, Each, typed_parts, Keeps}
use Rattle.chi_check_expr.proofs.Nodes.{cons_nil, ExactTyped, unless_exact, settled_exact, refused_exact, barred_exact, barred_none, of_all_exact, of_all_none, node_good, two_good, list_good, AllGood, all_good, typed_all}

-- each of these has a type
abbrev Has : Known → Type 0
Has k = (n : NameKind) → k ≡ known.Untyped n → ⊥

value_exact : (place : Place) (k : Known) → Has k → ExactTyped (visible_value place (Some k))
value_exact place (known.Var slot t) h = refl
value_exact place (known.Fixed slot t) h = refl
value_exact place (known.Const number t) h = refl
value_exact place (known.Value enumeration position) h = refl
value_exact place (known.Untyped n) h = absurd (h n refl)
value_exact place (known.Kind t) h = refused_exact Made _ place
value_exact place (known.Func number params result) h = refused_exact Made _ place
value_exact place (known.Proc number params exit) h = refused_exact Made _ place
value_exact place (known.Model number params exit) h = refused_exact Made _ place
value_exact place (known.Xper number) h = refused_exact Made _ place

type_exact : (place : Place) (k : Known) → Has k → ExactTyped (types.visible_type place (Some k))
type_exact place (known.Kind t) h = unless_exact _ _
type_exact place (known.Untyped n) h = absurd (h n refl)
type_exact place (known.Var slot t) h = refused_exact Meant _ place
type_exact place (known.Fixed slot t) h = refused_exact Meant _ place
type_exact place (known.Const number t) h = refused_exact Meant _ place
type_exact place (known.Value enumeration position) h = refused_exact Meant _ place
type_exact place (known.Func number params result) h = refused_exact Meant _ place
type_exact place (known.Proc number params exit) h = refused_exact Meant _ place
type_exact place (known.Model number params exit) h = refused_exact Meant _ place
type_exact place (known.Xper number) h = refused_exact Meant _ place

call_exact : (site : Site) (place : Place) (k : Known) (ms : List Made) → Has k → ExactTyped (call_of site place (Some k) (typed_parts ms))
call_exact site place (known.Func number params result) ms h =
    barred_exact (calling_rule site place) (function_call place number params result (typed_parts ms)) (subst (λ o. ExactTyped (of_all CALL_ARGUMENTS place (nat_eq (length (typed_parts ms)) (length params)) (called number params result) o)) (sym (typed_all ms))
    (of_all_exact CALL_ARGUMENTS place (nat_eq (length (typed_parts ms)) (length params)) (called number params result) ms))
call_exact site place (known.Untyped n) ms h = absurd (h n refl)
call_exact site place (known.Kind t) ms h = refused_exact Made _ place
call_exact site place (known.Var slot t) ms h = refused_exact Made _ place
call_exact site place (known.Fixed slot t) ms h = refused_exact Made _ place
call_exact site place (known.Const number t) ms h = refused_exact Made _ place
call_exact site place (known.Value enumeration position) ms h = refused_exact Made _ place
call_exact site place (known.Proc number params exit) ms h = refused_exact Made _ place
call_exact site place (known.Model number params exit) ms h = refused_exact Made _ place
call_exact site place (known.Xper number) ms h = refused_exact Made _ place

call_none : (site : Site) (place : Place) (k : Known) (ms : List (Option Made)) → Has k → all_made ms ≡ None → (call_of site place (Some k) ms).made ≡ None
call_none site place (known.Func number params result) ms h e =
    barred_none (calling_rule site place) (function_call place number params result ms) (of_all_none CALL_ARGUMENTS place (nat_eq (length ms) (length params)) (called number params result) (all_made ms) e)
call_none site place (known.Untyped n) ms h e = absurd (h n refl)
call_none site place (known.Kind t) ms h e = refl
call_none site place (known.Var slot t) ms h e = refl
call_none site place (known.Fixed slot t) ms h e = refl
call_none site place (known.Const number t) ms h e = refl
call_none site place (known.Value enumeration position) ms h e = refl
call_none site place (known.Proc number params exit) ms h e = refl
call_none site place (known.Model number params exit) ms h e = refl
call_none site place (known.Xper number) ms h e = refl

-- an insertion whose third argument isn't known
unknown_exact : (place : Place) (list : Made) (ms : List Made) → ExactTyped (rule.insert_call place (typed_parts (list ∷ ms)) None)
unknown_exact place list [] = refused_exact Made _ place
unknown_exact place list (x ∷ []) = refused_exact Made _ place
unknown_exact place list (x ∷ third ∷ []) = refused_exact Made _ place
unknown_exact place list (x ∷ third ∷ more ∷ ms) = refused_exact Made _ place

insert_exact : (place : Place) (ms : List Made) → ExactTyped (rule.insert_call place (typed_parts ms) None)
insert_exact place [] = refused_exact Made _ place
insert_exact place (list ∷ ms) = unknown_exact place list ms

insertion_none : (place : Place) (list x : Option Made) → (insertion_of place list x None).made ≡ None
insertion_none place None x = refl
insertion_none place (Some list) None = refl
insertion_none place (Some list) (Some x) = refl

insert_none : (place : Place) (ms : List (Option Made)) → (rule.insert_call place ms None).made ≡ None
insert_none place [] = refl
insert_none place (a ∷ []) = refl
insert_none place (a ∷ b ∷ []) = refl
insert_none place (a ∷ b ∷ c ∷ []) = insertion_none place a b
insert_none place (a ∷ b ∷ c ∷ d ∷ ms) = refl

plain_exact : (place : Place) (p : Predefined) (ms : List Made) → ExactTyped (rule.plain_call place p (typed_parts ms))
plain_exact place p ms = subst (λ o. ExactTyped (of_all PREDEFINED place (is_count p (length (typed_parts ms))) (rule.predefined p) o)) (sym (typed_all ms)) (of_all_exact PREDEFINED place _ (rule.predefined p) ms)

either_exact : (place : Place) (p : Predefined) (ms : List Made) (b : Bool) → ExactTyped (cond b (rule.insert_call place (typed_parts ms) None) (rule.plain_call place p (typed_parts ms)))
either_exact place p ms true = insert_exact place ms
either_exact place p ms false = plain_exact place p ms

predefined_exact : (site : Site) (place : Place) (p : Predefined) (ms : List Made) → ExactTyped (predefined_call site place p (typed_parts ms) None)
predefined_exact site place p ms = barred_exact (rule.predefined_rule site p place) (rule.predefined_made place p (typed_parts ms) None) (either_exact place p ms (rule.is_insert p))

either_none : (place : Place) (p : Predefined) (ms : List (Option Made)) (b : Bool) → all_made ms ≡ None → (cond b (rule.insert_call place ms None) (rule.plain_call place p ms)).made ≡ None
either_none place p ms true e = insert_none place ms
either_none place p ms false e = of_all_none PREDEFINED place (is_count p (length ms)) (rule.predefined p) (all_made ms) e

predefined_none : (site : Site) (place : Place) (p : Predefined) (ms : List (Option Made)) → all_made ms ≡ None → (predefined_call site place p ms None).made ≡ None
predefined_none site place p ms e = barred_none (rule.predefined_rule site p place) (rule.predefined_made place p ms None) (either_none place p ms (rule.is_insert p) e)

insertion_exact : (place : Place) (list x : Made) (k : Known) → Has k → ExactTyped (insertion place list x (Some k))
insertion_exact place list x (known.Untyped n) h = absurd (h n refl)
insertion_exact place list x k h = settled_exact PREDEFINED place (inserted_in (out-Ty list.ty) list x k)

module _ (T : Made → Type 0) (U : Meant → Type 0) (site : Site) (names : Names) (clean : Clean names) (k : Keeps site names T U) where
  has : (name : List ℕ) (known_as : Known) → known_in names name ≡ Some known_as → Has known_as
  has name known_as e n h = clean name n (e ∙ ap Some h)

  visible_good : (name : Name) (o : Option Known) → known_in names name.text ≡ o → GoodTyped T (visible_value name.place o)
  visible_good name None e = cons_nil _ _
  visible_good name (Some v) e = node_good T _ (value_exact name.place v (has name.text v e)) (λ m. k.name name v m e)

  named_on : (name : Name) (b : Bool) → GoodTyped T (cond b (refused NAME_KIND name.place) (visible_value name.place (known_in names name.text)))
  named_on name true = cons_nil _ _
  named_on name false = visible_good name (known_in names name.text) refl

  pub named_good : (name : Name) → GoodTyped T (named_value names name)
  named_good name = named_on name (is_predefined name.text)

  visible_type_good : (name : Name) (o : Option Known) → known_in names name.text ≡ o → GoodTyped U (types.visible_type name.place o)
  visible_type_good name None e = cons_nil _ _
  visible_type_good name (Some v) e = node_good U _ (type_exact name.place v (has name.text v e)) (λ m. k.named_type name v m e)

  named_type_on : (name : Name) (b : Bool) → GoodTyped U (cond b (refused NAME_KIND name.place) (types.visible_type name.place (known_in names name.text)))
  named_type_on name true = cons_nil _ _
  named_type_on name false = visible_type_good name (known_in names name.text) refl

  pub named_type_good : (name : Name) → GoodTyped U (types.named_type names name)
  named_type_good name = named_type_on name (is_predefined name.text)

  known_call_good : (name : Name) (o : Option Known) (fs : List Fault) (ms : List (Option Made)) → known_in names name.text ≡ o → Good (Each T) fs (all_made ms)
      → Good T (fs ++ (call_of site name.place o ms).faults) (call_of site name.place o ms).made
  known_call_good name None fs ms e g = list_good T T (call_of site name.place None) (λ ms n. refl) (λ xs h. cons_nil _ _) fs ms g
  known_call_good name (Some v) fs ms e g =
      list_good T T (call_of site name.place (Some v)) (λ ms. call_none site name.place v ms (has name.text v e))
      (λ xs h. node_good T _ (call_exact site name.place v xs (has name.text v e)) (λ m. k.call name v xs m e h)) fs ms g

  by_good : (name : Name) (p : Option Predefined) (fs : List Fault) (ms : List (Option Made)) → Good (Each T) fs (all_made ms)
      → Good T (fs ++ (call_by site names name p ms).faults) (call_by site names name p ms).made
  by_good name None fs ms g = known_call_good name (known_in names name.text) fs ms refl g
  by_good name (Some p) fs ms g =
      list_good T T (λ ms. predefined_call site name.place p ms None) (predefined_none site name.place p)
      (λ xs h. node_good T _ (predefined_exact site name.place p xs) (λ m. k.predefined_name p name.place xs m h)) fs ms g

  with_good : (name : Name) (ts : List (Typed Made)) → AllGood T ts → GoodTyped T (called_with site names name ts)
  with_good name ts g = by_good name (predefined_of name.text) (all_faults ts) (map made_of ts) (all_good T ts g)

  function_is : (names : Names) (by : Option Name) (v : Known) → function_known names by ≡ Some v → (text : List ℕ) × (known_in names text ≡ Some v)
  function_is names None v e = absurd (cc)
  function_is names (Some n) v e = (n.text, visible (is_predefined n.text) e)
    where
      visible : (b : Bool) → cond b None (known_in names n.text) ≡ Some v → known_in names n.text ≡ Some v
      visible true e = absurd (cc)
      visible false e = e

  barred_refused : (fs : List Fault) (place : Place) → GoodTyped T (barred fs (refused PREDEFINED place))
  barred_refused [] place = cons_nil _ _
  barred_refused (f ∷ fs) place = cons_nil _ _

  inserted_on : (place : Place) (by : Option Name) (o : Option Known) → function_known names by ≡ o → (list x : Made) → T list → T x
      → GoodTyped T (predefined_call site place predefined.Insert (Some list ∷ Some x ∷ None ∷ []) o)
  inserted_on place by None e list x g h = barred_refused (rule.predefined_rule site predefined.Insert place) place
  inserted_on place by (Some v) e list x g h =
      let is = function_is names by v e in
      node_good T (predefined_call site place predefined.Insert (Some list ∷ Some x ∷ None ∷ []) (Some v))
      (barred_exact (rule.predefined_rule site predefined.Insert place) (insertion place list x (Some v)) (insertion_exact place list x v (has is.0 v is.1)))
      (λ m. k.insertion place list x is.0 v m g h is.1)

  unmade : (place : Place) (a b : Option Made) (o : Option Known) → (insertion_of place a b o).made ≡ None → (predefined_call site place predefined.Insert (a ∷ b ∷ None ∷ []) o).made ≡ None
  unmade place a b o = barred_none (rule.predefined_rule site predefined.Insert place) (insertion_of place a b o)

  insert_good : (name : Name) (by : Option Name) (a b : Typed Made) → GoodTyped T a → GoodTyped T b → GoodTyped T (after (a.faults ++ b.faults) (inserted site names name a.made b.made by))
  insert_good name by = two_good T T T (λ a b. inserted site names name a b by)
      (λ b. unmade name.place None b (function_known names by) refl) (λ a. unmade name.place (Some a) None (function_known names by) refl)
      (λ a b. inserted_on name.place by (function_known names by) refl a b)

  abbrev pub AllRead : List Read → Type 0
  AllRead rs = AllGood T (map typed_of rs)

  called_good : (name : Name) (b : Bool) (rs : List Read) → AllRead rs → GoodTyped T (calls.called site names name b rs)
  called_good name true (a ∷ b ∷ c ∷ []) g = insert_good name c.name a.typed b.typed g.0 g.1.0
  called_good name true [] g = with_good name [] g
  called_good name true (a ∷ []) g = with_good name (map typed_of (a ∷ [])) g
  called_good name true (a ∷ b ∷ []) g = with_good name (map typed_of (a ∷ b ∷ [])) g
  called_good name true (a ∷ b ∷ c ∷ d ∷ rs) g = with_good name (map typed_of (a ∷ b ∷ c ∷ d ∷ rs)) g
  called_good name false rs g = with_good name (map typed_of rs) g

  pub call_good : (name : Name) (rs : List Read) → AllRead rs → GoodTyped T (calls.call site names name rs)
  call_good name rs g = called_good name (is_insertion (predefined_of name.text)) rs g
