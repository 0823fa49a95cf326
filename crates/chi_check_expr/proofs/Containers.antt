-- Private to proofs. Literals of several parts, slices and fields, over parts of which a fact holds.
use Rattle.std.proofs.Common.{ℕ, ◌≡◌, List, [], ◌∷◌, ◌++◌, map, Option, Some, None, refl, sym, ap, subst}
use Rattle.std.specs.Prelude.{option_map, is_some}
use Rattle.std.specs.Option.{option_and_then}
use Rattle.chi_token.specs.declared.place.Place.{Place}
use Rattle.chi_tree.specs.declared.type_tree.Name.{Name}
use Rattle.chi_types.specs.declared.ty.Ty.{Ty}
use Rattle.chi_check_types.specs.declared.fault.Fault.{Fault}
use Rattle.chi_check_types.specs.declared.meant.Made.{Made}
use Rattle.chi_check_types.specs.declared.meant.Meant.{Meant}
use Rattle.chi_check_types.specs.declared.rules.TheConstants.{INDEX}
use Rattle.chi_check_types.specs.Typed.{Typed, after}
use Rattle.chi_check_expr_rules.specs.Nodes.{of_two, all_made}
use Rattle.chi_check_expr_rules.specs.Parts.{Bounds, given, sliced, slice_of}
use Rattle.chi_check_expr_rules.specs.Containers.{tuple_of, tuple_parts, list_of, list_joined, list_parts, set_of, set_joined, set_parts, dict_of, dict_joined, dict_parts, joined_all, keys_rule}
use Rattle.chi_check_expr.specs.Reads.{Paired, Field, made_of, all_faults, entry_faults, key_made, value_made, each_bound}
use Rattle.chi_check_expr.specs.TypeTrees.{faults_of, each_field_faults, field_faults, field_type, parts_from}
use Rattle.chi_check_expr.proofs.Kept.{Good, GoodTyped, Each, FieldOk, IfGiven, typed_parts}
use Rattle.chi_check_expr.proofs.Nodes.{ExactTyped, left_nil, right_nil, both_nil, cons_nil, unless_exact, settled_exact, settled_made, refused_exact, node_good, more_good, less_good, AllGood, all_good, all_typed, typed_all}

-- ---- exactness

tuple_exact : (place : Place) (ms : List Made) (o : Option (List Made)) → o ≡ Some ms → ExactTyped (tuple_parts place o)
tuple_exact place ms None e = absurd (cc)
tuple_exact place ms (Some xs) e = unless_exact _ _

pub tuple_whole : (place : Place) (ms : List Made) → ExactTyped (tuple_of place (typed_parts ms))
tuple_whole place ms = tuple_exact place ms _ (typed_all ms)

pub tuple_none : (place : Place) (ms : List (Option Made)) → all_made ms ≡ None → (tuple_of place ms).made ≡ None
tuple_none place ms e = ap (λ o. (tuple_parts place o).made) e

list_exact : (place : Place) (ms : List Made) (o : Option Ty) → ExactTyped (list_joined place ms o)
list_exact place ms None = refused_exact Made _ place
list_exact place ms (Some t) = unless_exact _ _

pub list_whole : (place : Place) (ms : List Made) → ExactTyped (list_of place (typed_parts ms))
list_whole place ms = subst (λ o. ExactTyped (list_parts place o)) (sym (typed_all ms)) (list_exact place ms (joined_all ms))

pub list_none : (place : Place) (ms : List (Option Made)) → all_made ms ≡ None → (list_of place ms).made ≡ None
list_none place ms e = ap (λ o. (list_parts place o).made) e

set_exact : (place : Place) (ms : List Made) (o : Option Ty) → ExactTyped (set_joined place ms o)
set_exact place ms None = refused_exact Made _ place
set_exact place ms (Some t) = unless_exact _ _

pub set_whole : (place : Place) (ms : List Made) → ExactTyped (set_of place (typed_parts ms))
set_whole place ms = subst (λ o. ExactTyped (set_parts place o)) (sym (typed_all ms)) (set_exact place ms (joined_all ms))

pub set_none : (place : Place) (ms : List (Option Made)) → all_made ms ≡ None → (set_of place ms).made ≡ None
set_none place ms e = ap (λ o. (set_parts place o).made) e

dict_exact : (place : Place) (ks vs : List Made) (k v : Option Ty) → ExactTyped (dict_joined place ks vs k v)
dict_exact place ks vs (Some k) (Some v) = unless_exact _ _
dict_exact place ks vs (Some k) None = λ e. cons_nil _ _ (right_nil (keys_rule place (Some k)) _ e)
dict_exact place ks vs None v = cons_nil _ _

dict_whole : (place : Place) (ks vs : List Made) → ExactTyped (dict_of place (typed_parts ks) (typed_parts vs))
dict_whole place ks vs = subst (λ o. ExactTyped (dict_parts place o (all_made (typed_parts vs)))) (sym (typed_all ks))
    (subst (λ o. ExactTyped (dict_parts place (Some ks) o)) (sym (typed_all vs)) (dict_exact place ks vs (joined_all ks) (joined_all vs)))

-- ---- dictionaries

module _ (T : Made → Type 0) where
  abbrev pub Paireds : List Paired → Type 0
  Paireds [] = Unit {0}
  Paireds (e ∷ es) = (GoodTyped T e.key × GoodTyped T e.value) × Paireds es

  -- both lists, or some part is broken
  abbrev BothGood : List Fault → Option (List Made) → Option (List Made) → Type 0
  BothGood fs (Some ks) (Some vs) = (fs ≡ []) × Each T ks × Each T vs
  BothGood fs (Some ks) None = fs ≡ [] → ⊥
  BothGood fs None vs = fs ≡ [] → ⊥

  abbrev joined : Option Made → Option (List Made) → Option (List Made)
  joined m o = option_and_then (λ first. option_map (λ more. first ∷ more) o) m

  one_more : (fs gs hs : List Fault) (k v : Option Made) (ks vs : Option (List Made)) → Good T fs k → Good T gs v → BothGood hs ks vs → BothGood ((fs ++ gs) ++ hs) (joined k ks) (joined v vs)
  one_more fs gs hs None v ks vs p q r = λ e. p (left_nil fs gs (left_nil (fs ++ gs) hs e))
  one_more fs gs hs (Some k) v None vs p q r = λ e. r (right_nil (fs ++ gs) hs e)
  one_more fs gs hs (Some k) None (Some ks) vs p q r = λ e. q (right_nil fs gs (left_nil (fs ++ gs) hs e))
  one_more fs gs hs (Some k) (Some v) (Some ks) None p q r = λ e. r (right_nil (fs ++ gs) hs e)
  one_more fs gs hs (Some k) (Some v) (Some ks) (Some vs) p q r = (both_nil (fs ++ gs) hs (both_nil fs gs p.0 q.0) r.0, (p.1, r.1), (q.1, r.2))

  both_good : (es : List Paired) → Paireds es → BothGood (entry_faults es) (all_made (map key_made es)) (all_made (map value_made es))
  both_good [] g = (refl, tt, tt)
  both_good (e ∷ es) g = one_more e.key.faults e.value.faults (entry_faults es) e.key.made e.value.made _ _ g.0.0 g.0.1 (both_good es g.1)

  dict_on : (place : Place) (fs : List Fault) (ks vs : List (Option Made)) (o p : Option (List Made)) → all_made ks ≡ o → all_made vs ≡ p → BothGood fs o p
      → ((keys values : List Made) (m : Made) → Each T keys → Each T values → (dict_of place (typed_parts keys) (typed_parts values)).made ≡ Some m → T m)
      → Good T (fs ++ (dict_of place ks vs).faults) (dict_of place ks vs).made
  dict_on place fs ks vs (Some xs) (Some ys) e f g k =
      more_good T fs _ _ g.0 (subst (λ ks. GoodTyped T (dict_of place ks vs)) (sym (all_typed ks xs e)) (subst (λ vs. GoodTyped T (dict_of place (typed_parts xs) vs)) (sym (all_typed vs ys f))
      (node_good T _ (dict_whole place xs ys) (λ m. k xs ys m g.1 g.2))))
  dict_on place fs ks vs (Some xs) None e f g k = less_good T fs _ _ g ((λ i. (dict_parts place (e i) (f i)).made))
  dict_on place fs ks vs None (Some ys) e f g k = less_good T fs _ _ g ((λ i. (dict_parts place (e i) (f i)).made))
  dict_on place fs ks vs None None e f g k = less_good T fs _ _ g ((λ i. (dict_parts place (e i) (f i)).made))

  pub dict_good : (place : Place) (es : List Paired) → Paireds es
      → ((keys values : List Made) (m : Made) → Each T keys → Each T values → (dict_of place (typed_parts keys) (typed_parts values)).made ≡ Some m → T m)
      → GoodTyped T (after (entry_faults es) (dict_of place (map key_made es) (map value_made es)))
  dict_good place es g = dict_on place (entry_faults es) (map key_made es) (map value_made es) _ _ refl refl (both_good es g)

  -- ---- slices

  abbrev pub GoodBounds : Bounds (Typed Made) → Type 0
  GoodBounds b = IfGiven (GoodTyped T) b.from × IfGiven (GoodTyped T) b.upto × IfGiven (GoodTyped T) b.by

  bounds_on : (from upto by : Option (Typed Made)) → IfGiven (GoodTyped T) from → IfGiven (GoodTyped T) upto → IfGiven (GoodTyped T) by → AllGood T (given (record { from = from; upto = upto; by = by }))
  bounds_on None None None p q r = tt
  bounds_on None None (Some c) p q r = (r, tt)
  bounds_on None (Some b) None p q r = (q, tt)
  bounds_on None (Some b) (Some c) p q r = (q, (r, tt))
  bounds_on (Some a) None None p q r = (p, tt)
  bounds_on (Some a) None (Some c) p q r = (p, (r, tt))
  bounds_on (Some a) (Some b) None p q r = (p, (q, tt))
  bounds_on (Some a) (Some b) (Some c) p q r = (p, (q, (r, tt)))

  given_made : (from upto by : Option (Typed Made)) → given (each_bound made_of (record { from = from; upto = upto; by = by })) ≡ map made_of (given (record { from = from; upto = upto; by = by }))
  given_made None None None = refl
  given_made None None (Some c) = refl
  given_made None (Some b) None = refl
  given_made None (Some b) (Some c) = refl
  given_made (Some a) None None = refl
  given_made (Some a) None (Some c) = refl
  given_made (Some a) (Some b) None = refl
  given_made (Some a) (Some b) (Some c) = refl

  slice_on : (place : Place) (rule : Made → List Made → Option Made) (fs gs : List Fault) (m : Option Made) (o : Option (List Made)) → Good T fs m → Good (Each T) gs o
      → ((x : Made) (xs : List Made) (m : Made) → T x → Each T xs → o ≡ Some xs → rule x xs ≡ Some m → T m)
      → Good T ((fs ++ gs) ++ (of_two INDEX place rule m o).faults) (of_two INDEX place rule m o).made
  slice_on place rule fs gs None o g h k = less_good T (fs ++ gs) _ _ (λ e. g (left_nil fs gs e)) refl
  slice_on place rule fs gs (Some x) None g h k = less_good T (fs ++ gs) _ _ (λ e. h (right_nil fs gs e)) refl
  slice_on place rule fs gs (Some x) (Some xs) g h k = more_good T (fs ++ gs) _ _ (both_nil fs gs g.0 h.0)
      (node_good T _ (settled_exact INDEX place (rule x xs)) (λ m made. k x xs m g.1 h.1 refl (settled_made INDEX place (rule x xs) m made)))

  pub slice_good : (place : Place) (fs : List Fault) (m : Option Made) (b : Bounds (Typed Made)) → Good T fs m → GoodBounds b
      → ((whole : Made) (c : Bounds (Option Made)) (bounds : List Made) (m : Made) → T whole → Each T bounds → all_made (given c) ≡ Some bounds → sliced (is_some c.from) (is_some c.upto) (is_some c.by) whole bounds ≡ Some m → T m)
      → Good T ((fs ++ all_faults (given b)) ++ (slice_of place m (each_bound made_of b)).faults) (slice_of place m (each_bound made_of b)).made
  slice_good place fs m b g h k =
      let c = each_bound made_of b in
      slice_on place (sliced (is_some c.from) (is_some c.upto) (is_some c.by)) fs (all_faults (given b)) m (all_made (given c)) g
      (subst (λ ms. Good (Each T) (all_faults (given b)) (all_made ms)) (sym (given_made b.from b.upto b.by)) (all_good T (given b) (bounds_on b.from b.upto b.by h.0 h.1 h.2)))
      (λ x xs m. k x c xs m)

-- ---- the fields of a tuple

module _ (U : Meant → Type 0) where
  abbrev pub Fields : List Field → Type 0
  Fields [] = Unit {0}
  Fields (f ∷ fs) = IfGiven (GoodTyped U) f.ty × Fields fs

  abbrev Parts : List Fault → Option (List (List ℕ × Ty)) → Type 0
  Parts = Good (Each (FieldOk U))

  with_part : (fs gs : List Fault) (name : List ℕ) (t : Ty) (o : Option (List (List ℕ × Ty))) → fs ≡ [] → FieldOk U (name, t) → Parts gs o → Parts (fs ++ gs) (option_map (λ parts. (name, t) ∷ parts) o)
  with_part fs gs name t None e u g = λ h. g (right_nil fs gs h)
  with_part fs gs name t (Some parts) e u g = (both_nil fs gs e g.0, (u, g.1))

  -- a field with its type, where those after it are good whatever type is before them
  with_type : (fs gs : List Fault) (name : List ℕ) (m : Option Meant) (rest : Option Ty → Option (List (List ℕ × Ty))) → Good U fs m → ((t : Ty) → FieldOk U (name, t) → Parts gs (rest (Some t)))
      → Parts (fs ++ gs) (option_and_then (λ t. option_map (λ parts. (name, t) ∷ parts) (rest (Some t))) (option_map (λ m. m.ty) m))
  with_type fs gs name None rest g h = λ e. g (left_nil fs gs e)
  with_type fs gs name (Some m) rest g h = with_part fs gs name m.ty (rest (Some m.ty)) g.0 (m, g.1, refl) (h m.ty (m, g.1, refl))

  part_good : (name : List ℕ) (ty : Option (Typed Meant)) (fs : List Field) (t : Ty) → FieldOk U ([], t) → IfGiven (GoodTyped U) ty
      → ((t : Ty) → FieldOk U ([], t) → Parts (each_field_faults fs) (parts_from (Some t) fs))
      → Parts (faults_of ty ++ each_field_faults fs) (option_and_then (λ t. option_map (λ parts. (name, t) ∷ parts) (parts_from (Some t) fs)) (field_type (Some t) ty))
  part_good name None fs t u g h = with_part [] (each_field_faults fs) name t (parts_from (Some t) fs) refl u (h t u)
  part_good name (Some x) fs t u g h = with_type x.faults (each_field_faults fs) name x.made (λ o. parts_from o fs) g h

  parts_good : (fields : List Field) (t : Ty) → FieldOk U ([], t) → Fields fields → Parts (each_field_faults fields) (parts_from (Some t) fields)
  parts_good [] t u g = (refl, tt)
  parts_good (f ∷ fs) t u g = part_good f.name.text f.ty fs t u g.0 (λ t u. parts_good fs t u g.1)

  first_good : (name : Name) (ty : Option (Typed Meant)) (fs : List Field) → IfGiven (GoodTyped U) ty → Fields fs
      → Parts (field_faults (record { ty = ty; name = name } ∷ fs)) (parts_from None (record { ty = ty; name = name } ∷ fs))
  first_good name None fs g h = cons_nil _ _
  first_good name (Some x) fs g h = with_type x.faults (each_field_faults fs) name.text x.made (λ o. parts_from o fs) g (λ t u. parts_good fs t u h)

  pub fields_good : (fields : List Field) → Fields fields → Parts (field_faults fields) (parts_from None fields)
  fields_good [] g = (refl, tt)
  fields_good (f ∷ fs) g = first_good f.name f.ty fs g.0 g.1
