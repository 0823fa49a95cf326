-- Literals, and what is built of parts, are of their kinds.
use Rattle.std.proofs.Common.{◌≡◌, ℕ, zero, suc, true, Some, List, [], ◌∷◌, map, length, IsTrue, refl, sym, ap, subst}
use Rattle.std.proofs.lemmas.Bool.{and_from}
use Rattle.std.specs.Prelude.{option_map}
use Rattle.chi_types.specs.declared.ty.Ty.{Ty, Ty-F, out-Ty}
use Rattle.chi_types.specs.Plain.{is_plain}
use Rattle.chi_value.specs.declared.format.Kind.TheVariants as kind
use Rattle.chi_value.specs.declared.value.Value.{Value, Value-F, out-Value}
use Rattle.chi_value.specs.declared.value.Value.TheVariants as value
use Rattle.chi_value.specs.Order.{order}
use Rattle.chi_sets.specs.Dictionaries.{by_key, entry, keys, entries_of, dictionary_of}
use Rattle.chi_sets.specs.Sets.{set_of}
use Rattle.chi_sets.proofs.DictionaryLaws.{dictionary_of_ascends}
use Rattle.chi_sets.proofs.SetLaws.{set_of_ascends}
use Rattle.chi_ops.specs.Conditions.{may_build}
use Rattle.chi_ops.specs.Operations.{build, built}
use Rattle.chi_ops.specs.Tidy.{all_tidy}
use Rattle.chi_core.specs.Containers.{done}
use Rattle.chi_core.specs.Kinds.{Kind, Every, entry_of, tuple_of, nameless_parts}
use Rattle.chi_core.specs.Of.{World, nowhere, Of, IsOf, of_bool, of_int, of_real, of_text, of_choice, AreOf, none_of, one_of, PartsOf, no_part, one_part}
use Rattle.chi_core.specs.SoundExpressions.{LiteralKind, bool, int, real, text, choice, entry_kinds}
use Rattle.chi_core.proofs.Lists.{every_nil, every_cons}
use Rattle.chi_core.proofs.Tidied.{tidy_of}
use Rattle.chi_core_kinds.specs.Laws.{WellOf}
use Rattle.chi_core_kinds.proofs.Conditions.{contained, all_plain, plain_kind, keys_are}
use Rattle.chi_core_kinds.proofs.Elements.{every_in_order}
use Rattle.chi_core_kinds.proofs.Shapes.{a_pair, a_tuple, a_list, a_set, a_dictionary, few, well_where, well_within}

literal_layer : (names : List (List (List ℕ))) (x : Value-F Value) (T : Kind) → LiteralKind names x T → Of (nowhere names) x T
literal_layer names _ _ (bool b) = of_bool b
literal_layer names _ _ (int n) = of_int n
literal_layer names _ _ (real units) = of_real units
literal_layer names _ _ (text bytes short) = of_text bytes short
literal_layer names _ _ (choice enumeration position name e) = of_choice enumeration position name e

pub literal_of : (names : List (List (List ℕ))) (v : Value) (T : Kind) → LiteralKind names (out-Value v) T → IsOf (nowhere names) T v
literal_of names v T h = literal_layer names (out-Value v) T h

-- tuples

module _ (w : World) where
  tidy_values : (values : List Value) (Ts : List Kind) → AreOf w values Ts → all_tidy values ≡ true
  tidy_values _ _ none_of = refl
  tidy_values _ _ (one_of x xs T Ts is are) = and_from _ _ (tidy_of w x T is) (tidy_values xs Ts are)

  parts_are : (ts : List Ty) (values : List Value) → AreOf w values (map out-Ty ts) → PartsOf w values (nameless_parts ts)
  parts_are [] _ none_of = no_part
  parts_are (t ∷ ts) _ (one_of x xs _ _ is are) = one_part x xs ([], t) (nameless_parts ts) is (parts_are ts xs are)

  pub well_tuple : (values : List Value) (ts : List Ty) → AreOf w values (map out-Ty ts) → WellOf w (tuple_of ts) (done (build kind.TupleOf values))
  well_tuple values ts are =
      well_where w (tuple_of ts) _ _ (tidy_values values (map out-Ty ts) are)
      (well_within w (tuple_of ts) (length values) (value.TupleOf values) (λ small. a_tuple w values (nameless_parts ts) (parts_are ts values are)))

  -- lists and sets

  pub well_list : (values : List Value) (t : Ty) → Every (IsOf w (out-Ty t)) values → WellOf w (Ty-F.ListOf t) (done (build kind.ListOf values))
  well_list values t each =
      well_where w (Ty-F.ListOf t) _ _ (contained w (out-Ty t) values each)
      (well_within w (Ty-F.ListOf t) (length values) (value.ListOf values) (λ small. a_list w values t (few values small) each))

  pub well_set : (values : List Value) (t : Ty) → IsTrue (is_plain t) → Every (IsOf w (out-Ty t)) values → WellOf w (Ty-F.SetOf t) (done (build kind.SetOf values))
  well_set values t plain each =
      well_where w (Ty-F.SetOf t) _ _ (and_from _ _ (contained w (out-Ty t) values each) (all_plain w (out-Ty t) (plain_kind t plain) values each))
      (well_within w (Ty-F.SetOf t) (length (set_of values)) (value.SetOf (set_of values)) (λ small.
      a_set w (set_of values) t (few (set_of values) small) plain (set_of_ascends values) (every_in_order (IsOf w (out-Ty t)) order values each)))

-- dictionaries

record Entries (w : World) (key has : Ty) (values : List Value) : Type 0 where
  found : List Value
  is : entries_of values ≡ Some found
  each : Every (IsOf w (entry_of key has)) found

module _ (w : World) (key has : Ty) where
  entries_there : (entries : ℕ) (values : List Value) → AreOf w values (entry_kinds entries (out-Ty key) (out-Ty has)) → Entries w key has values
  entries_there zero _ none_of = record { found = []; is = refl; each = every_nil (IsOf w (entry_of key has)) }
  entries_there (suc entries) _ (one_of k _ _ _ is (one_of h rest _ _ is' are)) =
      let others = entries_there entries rest are in
      record {
        found = entry k h ∷ others.found;
        is = ap (option_map (λ es. entry k h ∷ es)) others.is;
        each = every_cons (IsOf w (entry_of key has)) (entry k h) others.found (a_pair w k h key has is is') others.each;
      }

  built_of : (values es : List Value) → entries_of values ≡ Some es → IsTrue (is_plain key) → Every (IsOf w (entry_of key has)) es
      → WellOf w (Ty-F.DictOf key has) (done (build kind.DictOf values))
  built_of values es is plain each =
      well_where w (Ty-F.DictOf key has) _ _
      (rw (is, may_build) (and_from _ _ (contained w (entry_of key has) es each) (all_plain w (out-Ty key) (plain_kind key plain) (keys es) (keys_are w key has es each))))
      (subst (λ o. WellOf w (Ty-F.DictOf key has) (done (built kind.DictOf (option_map dictionary_of o)))) (sym is)
      (well_within w (Ty-F.DictOf key has) (length (dictionary_of es)) (value.DictOf (dictionary_of es)) (λ small.
      a_dictionary w (dictionary_of es) key has (few (dictionary_of es) small) plain (dictionary_of_ascends es) (every_in_order (IsOf w (entry_of key has)) by_key es each))))

  pub well_dictionary : (values : List Value) (entries : ℕ) → IsTrue (is_plain key) → AreOf w values (entry_kinds entries (out-Ty key) (out-Ty has))
      → WellOf w (Ty-F.DictOf key has) (done (build kind.DictOf values))
  well_dictionary values entries plain are = let es = entries_there entries values are in built_of values es.found es.is plain es.each
