-- Operations on sets.
use Rattle.std.proofs.Common.{◌≡◌, Bool, true, List, [], ◌∷◌, ◌++◌, length, IsTrue, refl, arith}
use Rattle.std.proofs.lemmas.Bool.{and_from}
use Rattle.std.specs.Prelude.{not, filter}
use Rattle.chi_types.specs.declared.ty.Ty.{Ty, Ty-F, out-Ty}
use Rattle.chi_types.specs.declared.ty.Ty.TheVariants as ty
use Rattle.chi_types.specs.Plain.{is_plain}
use Rattle.chi_value.specs.declared.value.Value.{Value, Value-F, out-Value}
use Rattle.chi_value.specs.declared.value.Value.TheVariants as value
use Rattle.chi_value.specs.Order.{order}
use Rattle.chi_value.proofs.OrderLaws.{order_total}
use Rattle.chi_sets.specs.Sets as sets
use Rattle.chi_sets.specs.Sets.{among, is_ascending, is_subset}
use Rattle.chi_sets.proofs.Ascending.{tail_ascends}
use Rattle.chi_sets.proofs.SetLaws.{set_of_ascends, meet_ascends, minus_ascends}
use Rattle.chi_ops.specs.Conditions.{may_has, may_hold, may_sub}
use Rattle.chi_ops.specs.Kinds.{is_set, is_sorted, is_container}
use Rattle.chi_ops.specs.Operations.{has, sub, union, meet, minus, pop, first_and_rest}
use Rattle.chi_core.specs.Comparisons.{tells}
use Rattle.chi_core.specs.Containers.{done}
use Rattle.chi_core.specs.Kinds.{Every, tuple_of}
use Rattle.chi_core.specs.Of.{World, IsShort, IsOf}
use Rattle.chi_core.proofs.Tidied.{tidy_of}
use Rattle.chi_core_kinds.specs.Laws.{WellOf}
use Rattle.chi_core_kinds.proofs.Comparisons.{well_tells_if}
use Rattle.chi_core_kinds.proofs.Composing.{every_append}
use Rattle.chi_core_kinds.proofs.Conditions.{peers, key_is, alike_to_all, plain_kind}
use Rattle.chi_core_kinds.proofs.Elements.{every_filter, every_in_order, every_tail, length_filter}
use Rattle.chi_core_kinds.proofs.Shapes.{set_is, a_set, a_pair, of_type, few, well_where, well_within, well_done}

module _ (w : World) where
  subset_known : (a b : Value) (xs ys : List Value) → out-Value a ≡ Value-F.SetOf xs → out-Value b ≡ Value-F.SetOf ys → may_sub a b ≡ true → WellOf w Ty-F.Bool (tells (sub a b))
  subset_known a b xs ys is is' may = well_tells_if w _ _ (is_subset xs ys) may (rw (is, is') refl)

  member_known : (v x : Value) (items : List Value) → out-Value v ≡ Value-F.SetOf items → may_has v x ≡ true → WellOf w Ty-F.Bool (tells (has v x))
  member_known v x items is may = well_tells_if w _ _ (among items x) may (rw is refl)

module _ (w : World) (t : Ty) where
  -- the elements of a set that pass a test
  filtered : (test : Value → Bool) (xs : List Value) → IsShort xs → IsTrue (is_plain t) → IsTrue (is_ascending (filter test xs)) → Every (IsOf w (out-Ty t)) xs
      → IsOf w (Ty-F.SetOf t) (value.SetOf (filter test xs))
  filtered test xs short plain up each =
      let less = length_filter test xs in
      a_set w (filter test xs) t (omega (arith, short, less)) plain up (every_filter (IsOf w (out-Ty t)) test xs each)

  module _ (a b : Value) (h : IsOf w (Ty-F.SetOf t) a) (l : IsOf w (Ty-F.SetOf t) b) where
    pub well_union : WellOf w (Ty-F.SetOf t) (done (union a b))
    well_union =
        let x = set_is w t (out-Value a) h in
        let y = set_is w t (out-Value b) l in
        let both = sets.union x.items y.items in
        well_where w (Ty-F.SetOf t) _ _ (and_from _ _ (peers w (Ty-F.SetOf t) a b h l) (rw (x.is, is_sorted) refl))
        (rw (x.is, y.is) (well_within w (Ty-F.SetOf t) (length both) (value.SetOf both) (λ small.
        a_set w both t (few both small) x.plain (set_of_ascends (x.items ++ y.items))
        (every_in_order (IsOf w (out-Ty t)) order (x.items ++ y.items) (every_append (IsOf w (out-Ty t)) x.items y.items x.each y.each)))))

    pub well_meet : WellOf w (Ty-F.SetOf t) (done (meet a b))
    well_meet =
        let x = set_is w t (out-Value a) h in
        let y = set_is w t (out-Value b) l in
        well_where w (Ty-F.SetOf t) _ _ (and_from _ _ (peers w (Ty-F.SetOf t) a b h l) (rw (x.is, is_set) refl))
        (rw (x.is, y.is) (well_done w (Ty-F.SetOf t) (value.SetOf (sets.meet x.items y.items))
        (filtered (among y.items) x.items x.short x.plain (meet_ascends x.items y.items x.ascending) x.each)))

    pub well_minus : WellOf w (Ty-F.SetOf t) (done (minus a b))
    well_minus =
        let x = set_is w t (out-Value a) h in
        let y = set_is w t (out-Value b) l in
        well_where w (Ty-F.SetOf t) _ _ (and_from _ _ (peers w (Ty-F.SetOf t) a b h l) (rw (x.is, is_set) refl))
        (rw (x.is, y.is) (well_done w (Ty-F.SetOf t) (value.SetOf (sets.minus x.items y.items))
        (filtered (λ e. not (among y.items e)) x.items x.short x.plain (minus_ascends x.items y.items x.ascending) x.each)))

    pub well_subset : WellOf w Ty-F.Bool (tells (sub a b))
    well_subset =
        let x = set_is w t (out-Value a) h in
        let y = set_is w t (out-Value b) l in
        subset_known w a b x.items y.items x.is y.is (and_from _ _ (peers w (Ty-F.SetOf t) a b h l) (rw (x.is, is_set) refl))

  pub well_in_set : (v x : Value) → IsOf w (Ty-F.SetOf t) v → IsOf w (out-Ty t) x → WellOf w Ty-F.Bool (tells (has v x))
  well_in_set v x h l =
      let s = set_is w t (out-Value v) h in
      member_known w v x s.items s.is
      (and_from _ _ (and_from _ _ (tidy_of w v (Ty-F.SetOf t) h) (key_is w (out-Ty t) (plain_kind t s.plain) x l)) (rw (s.is, may_hold) (alike_to_all w (out-Ty t) s.items s.each x l)))

  popped : (xs : List Value) → IsShort xs → IsTrue (is_plain t) → IsTrue (is_ascending xs) → Every (IsOf w (out-Ty t)) xs
      → WellOf w (tuple_of (t ∷ ty.SetOf t ∷ [])) (done (first_and_rest value.SetOf xs))
  popped [] short plain up each = λ view fits. tt
  popped (x ∷ xs) short plain up each =
      well_done w (tuple_of (t ∷ ty.SetOf t ∷ [])) (value.TupleOf (x ∷ value.SetOf xs ∷ []))
      (a_pair w x (value.SetOf xs) t (ty.SetOf t) (each 0 x refl)
      (of_type w (ty.SetOf t) (Ty-F.SetOf t) (value.SetOf xs) (ty.outs-SetOf t)
      (a_set w xs t (omega (arith, short)) plain (tail_ascends order order_total x xs up) (every_tail (IsOf w (out-Ty t)) x xs each))))

  pub well_pop_set : (a : Value) → IsOf w (Ty-F.SetOf t) a → WellOf w (tuple_of (t ∷ ty.SetOf t ∷ [])) (done (pop a))
  well_pop_set a h =
      let x = set_is w t (out-Value a) h in
      well_where w (tuple_of (t ∷ ty.SetOf t ∷ [])) _ _ (and_from _ _ (tidy_of w a (Ty-F.SetOf t) h) (rw (x.is, is_container) refl))
      (rw x.is (popped x.items x.short x.plain x.ascending x.each))
