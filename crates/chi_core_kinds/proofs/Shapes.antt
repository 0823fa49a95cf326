-- What a value of a kind is, and what is of a kind.
use Rattle.std.proofs.Common.{◌≡◌, ℕ, ◌≤◌, ℤ, Bool, true, false, cond, nat_le, List, [], ◌∷◌, length, Option, None, Some, IsTrue, refl, sym, subst, arith}
use Rattle.std.proofs.lemmas.Bool.{leb-true}
use Rattle.chi_num.specs.declared.dist.Dist.{Dist}
use Rattle.chi_types.specs.declared.ty.Ty.{Ty, Ty-F, out-Ty}
use Rattle.chi_types.specs.Plain.{is_plain}
use Rattle.chi_value.specs.declared.value.TheConstants.{MOST_ELEMENTS}
use Rattle.chi_value.specs.declared.value.Value.{Value, Value-F}
use Rattle.chi_value.specs.declared.value.Value.TheVariants as value
use Rattle.chi_sets.specs.Sets.{is_ascending}
use Rattle.chi_sets.specs.Dictionaries.{ascending_by_key}
use Rattle.chi_ops.specs.Outcome as outcome
use Rattle.chi_ops.specs.Outcome.{Outcome, where_may, gives_or, gives_within}
use Rattle.chi_core.specs.Containers.{done}
use Rattle.chi_core.specs.Kinds.{Kind, Every, entry_of, tuple_of, nameless_parts}
use Rattle.chi_core.specs.Of.{World, IsShort, Of, of_bool, of_int, of_real, of_text, of_tuple, of_list, of_set, of_dictionary, of_dist, of_timer, PartsOf, no_part, one_part, IsOf, Yields}
use Rattle.chi_core_kinds.specs.Laws.{WellOf}
use Rattle.chi_core_kinds.proofs.Composing.{well_gives}

-- the outermost layer of a value of a kind

pub int_is : (w : World) (x : Value-F Value) → Of w x Ty-F.Int → (n : ℤ) × (x ≡ Value-F.Int n)
int_is w _ (of_int n) = (n, refl)

pub record ListIs (w : World) (t : Ty) (x : Value-F Value) : Type 0 where
  pub items : List Value
  pub is : x ≡ Value-F.ListOf items
  pub short : IsShort items
  pub each : Every (IsOf w (out-Ty t)) items

pub list_is : (w : World) (t : Ty) (x : Value-F Value) → Of w x (Ty-F.ListOf t) → ListIs w t x
list_is w _ _ (of_list xs t short each) = record { items = xs; is = refl; short = short; each = each }

pub record SetIs (w : World) (t : Ty) (x : Value-F Value) : Type 0 where
  pub items : List Value
  pub is : x ≡ Value-F.SetOf items
  pub short : IsShort items
  pub plain : IsTrue (is_plain t)
  pub ascending : IsTrue (is_ascending items)
  pub each : Every (IsOf w (out-Ty t)) items

pub set_is : (w : World) (t : Ty) (x : Value-F Value) → Of w x (Ty-F.SetOf t) → SetIs w t x
set_is w _ _ (of_set xs t short plain ascending each) = record { items = xs; is = refl; short = short; plain = plain; ascending = ascending; each = each }

pub record DictionaryIs (w : World) (key has : Ty) (x : Value-F Value) : Type 0 where
  pub items : List Value
  pub is : x ≡ Value-F.DictOf items
  pub short : IsShort items
  pub plain : IsTrue (is_plain key)
  pub ascending : IsTrue (ascending_by_key items)
  pub each : Every (IsOf w (entry_of key has)) items

pub dictionary_is : (w : World) (key has : Ty) (x : Value-F Value) → Of w x (Ty-F.DictOf key has) → DictionaryIs w key has x
dictionary_is w _ _ _ (of_dictionary xs key has short plain ascending each) =
    record { items = xs; is = refl; short = short; plain = plain; ascending = ascending; each = each }

pub record TextIs (x : Value-F Value) : Type 0 where
  pub bytes : List ℕ
  pub is : x ≡ Value-F.Text bytes
  pub short : IsShort bytes

pub text_is : (w : World) (x : Value-F Value) → Of w x Ty-F.Text → TextIs x
text_is w _ (of_text bytes short) = record { bytes = bytes; is = refl; short = short }

-- the elements of a list of a kind
pub elements_are : (w : World) (items : List Value) (t : Ty) → Of w (Value-F.ListOf items) (Ty-F.ListOf t) → IsShort items × Every (IsOf w (out-Ty t)) items
elements_are w _ _ (of_list xs t short each) = (short, each)

-- values of kinds

pub a_bool : (w : World) (b : Bool) → IsOf w Ty-F.Bool (value.Bool b)
a_bool w b = subst (λ x. Of w x Ty-F.Bool) (sym (value.outs-Bool b)) (of_bool b)

pub an_int : (w : World) (n : ℤ) → IsOf w Ty-F.Int (value.Int n)
an_int w n = subst (λ x. Of w x Ty-F.Int) (sym (value.outs-Int n)) (of_int n)

pub a_real : (w : World) (n : ℤ) → IsOf w Ty-F.Real (value.Real n)
a_real w n = subst (λ x. Of w x Ty-F.Real) (sym (value.outs-Real n)) (of_real n)

pub a_timer : (w : World) (due : ℤ) → IsOf w Ty-F.Timer (value.Timer due)
a_timer w due = subst (λ x. Of w x Ty-F.Timer) (sym (value.outs-Timer due)) (of_timer due)

pub a_text : (w : World) (bytes : List ℕ) → IsShort bytes → IsOf w Ty-F.Text (value.Text bytes)
a_text w bytes short = subst (λ x. Of w x Ty-F.Text) (sym (value.outs-Text bytes)) (of_text bytes short)

pub a_tuple : (w : World) (xs : List Value) (parts : List (List ℕ × Ty)) → PartsOf w xs parts → IsOf w (Ty-F.TupleOf parts) (value.TupleOf xs)
a_tuple w xs parts are = subst (λ x. Of w x (Ty-F.TupleOf parts)) (sym (value.outs-TupleOf xs)) (of_tuple xs parts are)

pub a_list : (w : World) (xs : List Value) (t : Ty) → IsShort xs → Every (IsOf w (out-Ty t)) xs → IsOf w (Ty-F.ListOf t) (value.ListOf xs)
a_list w xs t short each = subst (λ x. Of w x (Ty-F.ListOf t)) (sym (value.outs-ListOf xs)) (of_list xs t short each)

pub a_set : (w : World) (xs : List Value) (t : Ty) → IsShort xs → IsTrue (is_plain t) → IsTrue (is_ascending xs) → Every (IsOf w (out-Ty t)) xs → IsOf w (Ty-F.SetOf t) (value.SetOf xs)
a_set w xs t short plain ascending each = subst (λ x. Of w x (Ty-F.SetOf t)) (sym (value.outs-SetOf xs)) (of_set xs t short plain ascending each)

pub a_dictionary : (w : World) (xs : List Value) (key has : Ty) → IsShort xs → IsTrue (is_plain key) → IsTrue (ascending_by_key xs) → Every (IsOf w (entry_of key has)) xs
    → IsOf w (Ty-F.DictOf key has) (value.DictOf xs)
a_dictionary w xs key has short plain ascending each =
    subst (λ x. Of w x (Ty-F.DictOf key has)) (sym (value.outs-DictOf xs)) (of_dictionary xs key has short plain ascending each)

-- a distribution of a type whose layer is known
pub a_dist : (w : World) (d : Dist) (t : Ty) (T : Kind) → out-Ty t ≡ T → Yields d T → IsOf w (Ty-F.Dist t) (value.Dist d)
a_dist w d t T e yields = subst (λ x. Of w x (Ty-F.Dist t)) (sym (value.outs-Dist d)) (of_dist d t (subst (Yields d) (sym e) yields))

-- what operations come to

pub well_where : (w : World) (T : Kind) (b : Bool) (o : Outcome) → b ≡ true → WellOf w T (done o) → WellOf w T (done (where_may b o))
well_where w T true o e h = h
well_where w T false o e h = absurd (cc)

pub well_done : (w : World) (T : Kind) (v : Value) → IsOf w T v → WellOf w T (done (outcome.gives v))
well_done w T v is = well_gives w (λ v x. IsOf v T x) v is

-- what has at most so many elements is short
pub few : {A : Type 0} (xs : List A) → length xs ≤ MOST_ELEMENTS → IsShort xs
few xs h = omega (arith, h)

pub well_fault : (w : World) (T : Kind) (fault : outcome.Fault) → WellOf w T (done (outcome.faults fault))
well_fault w T fault view fits = tt

-- unless there is a fault
pub well_unless : (w : World) (T : Kind) (b : Bool) (fault : outcome.Fault) (o : Outcome) → (b ≡ false → WellOf w T (done o)) → WellOf w T (done (cond b (outcome.faults fault) o))
well_unless w T true fault o h = well_fault w T fault
well_unless w T false fault o h = h refl

-- so many elements, where a value may have that many
pub well_within : (w : World) (T : Kind) (count : ℕ) (v : Value) → (count ≤ MOST_ELEMENTS → IsOf w T v) → WellOf w T (done (gives_within count v))
well_within w T count v is = decided (nat_le count MOST_ELEMENTS) (λ e. is (leb-true count MOST_ELEMENTS e))
  where
    decided : (b : Bool) → (b ≡ true → IsOf w T v) → WellOf w T (done (cond b (outcome.gives v) (outcome.faults outcome.limit_fault)))
    decided true h = well_done w T v (h refl)
    decided false h = well_fault w T outcome.limit_fault

-- a value, if there is one
pub well_or : (w : World) (T : Kind) (fault : outcome.Fault) (o : Option Value) → ((v : Value) → o ≡ Some v → IsOf w T v) → WellOf w T (done (gives_or fault o))
well_or w T fault None h = well_fault w T fault
well_or w T fault (Some v) h = well_done w T v (h v refl)

-- pairs and triples

pub a_pair : (w : World) (a b : Value) (s t : Ty) → IsOf w (out-Ty s) a → IsOf w (out-Ty t) b → IsOf w (tuple_of (s ∷ t ∷ [])) (value.TupleOf (a ∷ b ∷ []))
a_pair w a b s t h l =
    a_tuple w (a ∷ b ∷ []) (nameless_parts (s ∷ t ∷ [])) (one_part a (b ∷ []) ([], s) (([], t) ∷ []) h (one_part b [] ([], t) [] l no_part))

pub a_triple : (w : World) (a b c : Value) (s t u : Ty) → IsOf w (out-Ty s) a → IsOf w (out-Ty t) b → IsOf w (out-Ty u) c → IsOf w (tuple_of (s ∷ t ∷ u ∷ [])) (value.TupleOf (a ∷ b ∷ c ∷ []))
a_triple w a b c s t u h l m =
    a_tuple w (a ∷ b ∷ c ∷ []) (nameless_parts (s ∷ t ∷ u ∷ []))
    (one_part a (b ∷ c ∷ []) ([], s) (([], t) ∷ ([], u) ∷ []) h (one_part b (c ∷ []) ([], t) (([], u) ∷ []) l (one_part c [] ([], u) [] m no_part)))

-- of the kind of a type whose layer is known
pub of_type : (w : World) (t : Ty) (T : Kind) (v : Value) → out-Ty t ≡ T → IsOf w T v → IsOf w (out-Ty t) v
of_type w t T v e is = subst (λ U. IsOf w U v) (sym e) is
