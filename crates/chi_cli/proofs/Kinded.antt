-- Values that texts are for parameters are of the parameters' kinds.
use Rattle.std.proofs.Common.{◌≡◌, ℕ, ◌+◌, ◌==◌, ℤ, Bool, true, false, List, [], ◌∷◌, length, zip, Option, Some, None, Result, Ok, Err, if◌then◌else◌, refl, sym, subst, ap, ◌∙◌, arith}
use Rattle.std.proofs.lemmas.Bool.{and_parts, eqb-true, ltb-true}
use Rattle.std.specs.Prelude.{option_map, nat_lt}
use Rattle.std.specs.List.{list_all}
use Rattle.std.specs.Result.{result_ok}
use Rattle.chi_num.specs.TextNumbers.{answer_of, int_meant, real_meant}
use Rattle.chi_types.specs.declared.ty.Ty.{Ty, Ty-F, map-Ty, fold_out-Ty, out-Ty, roll-Ty, out-roll-Ty}
use Rattle.chi_value.specs.declared.value.Value.{Value, out-Value}
use Rattle.chi_value.specs.declared.value.Value.TheVariants as value
use Rattle.chi_core.specs.Kinds.{Kind, erased, kind_of, kinds_of, without_ways_and_names}
use Rattle.chi_core.specs.Of.{World, IsShort, Of, of_bool, of_int, of_real, of_text, IsOf, AreOf, none_of, one_of, at_start}
use Rattle.chi_cli.specs.declared.args.ArgFault.{ArgFault}
use Rattle.chi_cli.specs.declared.args.ArgFault.TheVariants as fault
use Rattle.chi_cli.specs.Commands.{Text}
use Rattle.chi_cli.specs.Arguments.{values_of, is_of_string, is_string, readable_values, read_or_text, truth_in, unreadable_from, value_in, values_from}

abbrev kind_of_layer : Ty-F Ty → Kind
kind_of_layer layer = without_ways_and_names (map-Ty Ty Ty erased layer)

-- the kind of a type, by its outermost layer
kind_at : (t : Ty) → kind_of t ≡ kind_of_layer (out-Ty t)
kind_at t = ap out-Ty (fold_out-Ty Ty (λ layer. roll-Ty (without_ways_and_names layer)) t) ∙ out-roll-Ty (kind_of_layer (out-Ty t))

module _ (w : World) where
  a_truth : (o : Option Bool) (v : Value) → option_map (λ b. value.Bool b) o ≡ Some v → IsOf w Ty-F.Bool v
  unfolding out-Value denote.Hole.Carrier.out
  a_truth None v e = absurd (cc)
  a_truth (Some b) v e = let same : value.Bool b ≡ v = cc in subst (λ (x : Value). IsOf w Ty-F.Bool x) same (of_bool b)

  an_int : (o : Option ℤ) (v : Value) → option_map (λ n. value.Int n) o ≡ Some v → IsOf w Ty-F.Int v
  unfolding out-Value denote.Hole.Carrier.out
  an_int None v e = absurd (cc)
  an_int (Some n) v e = let same : value.Int n ≡ v = cc in subst (λ (x : Value). IsOf w Ty-F.Int x) same (of_int n)

  a_real : (o : Option ℤ) (v : Value) → option_map (λ r. value.Real r) o ≡ Some v → IsOf w Ty-F.Real v
  unfolding out-Value denote.Hole.Carrier.out
  a_real None v e = absurd (cc)
  a_real (Some r) v e = let same : value.Real r ≡ v = cc in subst (λ (x : Value). IsOf w Ty-F.Real x) same (of_real r)

  a_string : (text : Text) (is : Bool) (v : Value) → (is ≡ true → IsShort text) → (if is then Some (value.Text text) else None) ≡ Some v → IsOf w Ty-F.Text v
  unfolding out-Value denote.Hole.Carrier.out
  a_string text true v short e = let same : value.Text text ≡ v = cc in subst (λ (x : Value). IsOf w Ty-F.Text x) same (of_text text (short refl))
  a_string text false v short e = absurd (cc)

  short_string : (text : Text) → is_string text ≡ true → IsShort text
  short_string text is = ltb-true (length text) 4_294_967_296 (and_parts (nat_lt (length text) 4_294_967_296) (list_all is_of_string text) is).0

  value_kinded : (layer : Ty-F Ty) (text : Text) (v : Value) → value_in layer text ≡ Some v → Of w (out-Value v) (kind_of_layer layer)
  value_kinded Ty-F.Bool text v e = a_truth (truth_in text) v e
  value_kinded Ty-F.Int text v e = an_int (result_ok (answer_of (int_meant text))) v e
  value_kinded Ty-F.Real text v e = a_real (result_ok (answer_of (real_meant text))) v e
  value_kinded Ty-F.Text text v e = a_string text (is_string text) v (short_string text) e
  value_kinded Ty-F.Timer text v e = absurd (cc)
  value_kinded Ty-F.Inst text v e = absurd (cc)
  value_kinded Ty-F.Void text v e = absurd (cc)
  value_kinded (Ty-F.Choice k) text v e = absurd (cc)
  value_kinded (Ty-F.TupleOf parts) text v e = absurd (cc)
  value_kinded (Ty-F.ListOf element) text v e = absurd (cc)
  value_kinded (Ty-F.SetOf element) text v e = absurd (cc)
  value_kinded (Ty-F.DictOf key has) text v e = absurd (cc)
  value_kinded (Ty-F.Chan way element) text v e = absurd (cc)
  value_kinded (Ty-F.Dist element) text v e = absurd (cc)

  one_more : (k : ℕ) (t : Ty) (ts : List Ty) (text : Text) (values : List Value) (o : Option Value) → value_in (out-Ty t) text ≡ o
      → (rest : Result (List Value) ArgFault) → ((vs : List Value) → rest ≡ Ok vs → AreOf w vs (kinds_of ts))
      → read_or_text k o rest ≡ Ok values → AreOf w values (kinds_of (t ∷ ts))
  one_more k t ts text values None is rest are e = absurd (cc)
  one_more k t ts text values (Some v) is (Err refused) are e = absurd (cc)
  one_more k t ts text values (Some v) is (Ok vs) are e =
      let same : v ∷ vs ≡ values = cc in
      let kinded : Of w (out-Value v) (kind_of t) = subst (λ (T : Kind). Of w (out-Value v) T) (sym (kind_at t)) (value_kinded (out-Ty t) text v is) in
      subst (λ (us : List Value). AreOf w us (kinds_of (t ∷ ts))) same (one_of v vs (kind_of t) (kinds_of ts) kinded (are vs refl))

  values_from_kinded : (k : ℕ) (ts : List Ty) (xs : List Text) (values : List Value) → length ts ≡ length xs
      → values_from k (zip ts xs) ≡ Ok values → AreOf w values (kinds_of ts)
  values_from_kinded k [] [] values same e = let none : [] ≡ values = cc in subst (λ (us : List Value). AreOf w us []) none none_of
  values_from_kinded k [] (x ∷ xs) values same e = absurd (omega arith)
  values_from_kinded k (t ∷ ts) [] values same e = absurd (omega arith)
  values_from_kinded k (t ∷ ts) (x ∷ xs) values same e =
      let fewer : length ts ≡ length xs = omega arith in
      one_more k t ts x values (value_in (out-Ty t) x) refl (values_from (k + 1) (zip ts xs)) (λ vs is. values_from_kinded (k + 1) ts xs vs fewer is) e

  readable_kinded : (ts : List Ty) (xs : List Text) (values : List Value) (o : Option ℕ) → length ts ≡ length xs
      → readable_values o (zip ts xs) ≡ Ok values → AreOf w values (kinds_of ts)
  readable_kinded ts xs values None same e = values_from_kinded 1 ts xs values same e
  readable_kinded ts xs values (Some k) same e = absurd (cc)

  counted_kinded : (ts : List Ty) (xs : List Text) (values : List Value) (alike : Bool) → (length ts == length xs) ≡ alike
      → (if alike then readable_values (unreadable_from 1 ts) (zip ts xs) else Err fault.Count) ≡ Ok values → AreOf w values (kinds_of ts)
  counted_kinded ts xs values true is e = readable_kinded ts xs values (unreadable_from 1 ts) (eqb-true (length ts) (length xs) is) e
  counted_kinded ts xs values false is e = absurd (cc)

pub values_are_kinded : (names : List (List (List ℕ))) (params : List Ty) (args : List Text) (values : List Value)
    → values_of params args ≡ Ok values → AreOf (at_start names) values (kinds_of params)
values_are_kinded names params args values e =
    counted_kinded (at_start names) params args values (length params == length args) refl e
