-- A value of each kind; and values that are of no kind.
use Rattle.std.proofs.Common.{◌≡◌, ℕ, zero, suc, ℤ, pos, negsuc, true, false, Some, None, [], ◌∷◌, refl, sym, subst, ap, ◌∙◌, arith}
use Rattle.std.proofs.lemmas.Bool.{false≢true}
use Rattle.std.specs.Prelude.{slice_get, codes}
use Rattle.std.specs.declared.cmp.Ordering.{Ordering}
use Rattle.chi_num.specs.declared.dist.Dist.TheVariants as dist
use Rattle.chi_types.specs.declared.ty.Ty.{Ty, Ty-F, out-Ty}
use Rattle.chi_types.specs.declared.ty.Ty.TheVariants as ty
use Rattle.chi_types.specs.declared.ty.Way.TheVariants as way
use Rattle.chi_types.specs.Plain.{is_plain}
use Rattle.chi_value.specs.declared.value.Value.{Value, Value-F, out-Value, fold_out-Value, map-Value}
use Rattle.chi_value.specs.declared.value.Value.TheVariants as value
use Rattle.chi_value.specs.Order.{order, order_step}
use Rattle.chi_sets.specs.Sets.{is_ascending}
use Rattle.chi_sets.specs.Dictionaries.{ascending_by_key, key_in, key_of}
use Rattle.chi_core.specs.Kinds.{Kind, tuple_of, entry_of}
use Rattle.chi_core.proofs.Erased.{plain_at}
use Rattle.chi_core.specs.Of.{World, Of, of_bool, of_int, of_real, of_text, of_choice, of_tuple, of_list, of_set, of_dictionary, of_channel, of_dist, of_timer, of_no_instance, of_instance, no_part, one_part, Yields, some_int}

-- one enumeration with two values; a channel of ints, and one of bools; and two instances
some_world : World
some_world = record { names = (codes "red" ∷ codes "blue" ∷ []) ∷ []; carried = ty.Int ∷ ty.Bool ∷ []; instances = 2 }

pub is_int : (w : World) (n : ℤ) (t : Ty) → out-Ty t ≡ Ty-F.Int → Of w (out-Value (value.Int n)) (out-Ty t)
is_int w n t e = subst (Of w (out-Value (value.Int n))) (sym e) (subst (λ x. Of w x Ty-F.Int) (sym (value.outs-Int n)) (of_int n))

plain_int : is_plain ty.Int ≡ true
plain_int = plain_at ty.Int Ty-F.Int ty.outs-Int

a_bool : Of some_world (Value-F.Bool true) Ty-F.Bool
a_bool = of_bool true

an_int : Of some_world (Value-F.Int (negsuc 6)) Ty-F.Int
an_int = of_int (negsuc 6)

a_real : Of some_world (Value-F.Real (pos 1_500_000_000)) Ty-F.Real
a_real = of_real (pos 1_500_000_000)

a_timer : Of some_world (Value-F.Timer (pos 0)) Ty-F.Timer
a_timer = of_timer (pos 0)

a_text : Of some_world (Value-F.Text (codes "abc")) Ty-F.Text
a_text = of_text (codes "abc") (omega arith)

blue : Of some_world (Value-F.Choice 0 1) (Ty-F.Choice 0)
unfolding some_world
blue = of_choice 0 1 (codes "blue") refl

a_pair : Of some_world (Value-F.TupleOf (value.Int (pos 1) ∷ value.Int (pos 2) ∷ [])) (tuple_of (ty.Int ∷ ty.Int ∷ []))
a_pair = of_tuple _ _
    (one_part (value.Int (pos 1)) _ ([], ty.Int) _ (is_int some_world (pos 1) ty.Int ty.outs-Int)
    (one_part (value.Int (pos 2)) [] ([], ty.Int) [] (is_int some_world (pos 2) ty.Int ty.outs-Int) no_part))

ints : (k : ℕ) (x : Value) → slice_get (value.Int (pos 1) ∷ value.Int (pos 2) ∷ []) k ≡ Some x → Of some_world (out-Value x) (out-Ty ty.Int)
ints zero x e = let same : value.Int (pos 1) ≡ x = cc in subst (λ x. Of some_world (out-Value x) (out-Ty ty.Int)) same (is_int some_world (pos 1) ty.Int ty.outs-Int)
ints (suc zero) x e = let same : value.Int (pos 2) ≡ x = cc in subst (λ x. Of some_world (out-Value x) (out-Ty ty.Int)) same (is_int some_world (pos 2) ty.Int ty.outs-Int)
ints (suc (suc k)) x e = absurd (cc)

a_list : Of some_world (Value-F.ListOf (value.Int (pos 1) ∷ value.Int (pos 2) ∷ [])) (Ty-F.ListOf ty.Int)
a_list = of_list _ ty.Int (omega arith) ints

order_int : (x y : ℤ) → order (value.Int x) (value.Int y) ≡ order_step (Value-F.Int x) (Value-F.Int y)
unfolding out-Value denote.Hole.Carrier.out
order_int x y =
    ap (λ f. f (value.Int y)) (fold_out-Value (Value → Ordering) (λ layer other. order_step layer (out-Value other)) (value.Int x))
    ∙ ap (λ o. order_step (map-Value _ _ order o) (out-Value (value.Int y))) (value.outs-Int x)

a_set : Of some_world (Value-F.SetOf (value.Int (pos 1) ∷ value.Int (pos 2) ∷ [])) (Ty-F.SetOf ty.Int)
a_set = of_set _ ty.Int (omega arith) plain_int ascending ints
  where
    ascending : is_ascending (value.Int (pos 1) ∷ value.Int (pos 2) ∷ []) ≡ true
    ascending = simp (order_int) refl

-- the elements of a set stand in ascending order
no_set : (w : World) (T : Kind) → Of w (Value-F.SetOf (value.Int (pos 2) ∷ value.Int (pos 1) ∷ [])) T → ⊥
no_set w _ (of_set _ t short plain ascending each) = false≢true (descending ∙ ascending)
  where
    descending : false ≡ is_ascending (value.Int (pos 2) ∷ value.Int (pos 1) ∷ [])
    descending = simp (order_int) refl

-- two entries with keys in order
entry : ℕ → Value
entry n = value.TupleOf (value.Int (pos n) ∷ value.Int (pos 0) ∷ [])

is_entry : (n : ℕ) → Of some_world (out-Value (entry n)) (entry_of ty.Int ty.Int)
unfolding entry
is_entry n = subst (λ x. Of some_world x (entry_of ty.Int ty.Int)) (sym (value.outs-TupleOf (value.Int (pos n) ∷ value.Int (pos 0) ∷ [])))
    (of_tuple _ _
    (one_part (value.Int (pos n)) _ ([], ty.Int) _ (is_int some_world (pos n) ty.Int ty.outs-Int)
    (one_part (value.Int (pos 0)) [] ([], ty.Int) [] (is_int some_world (pos 0) ty.Int ty.outs-Int) no_part)))

entries : (k : ℕ) (x : Value) → slice_get (entry 1 ∷ entry 2 ∷ []) k ≡ Some x → Of some_world (out-Value x) (entry_of ty.Int ty.Int)
entries zero x e = let same : entry 1 ≡ x = cc in subst (λ x. Of some_world (out-Value x) (entry_of ty.Int ty.Int)) same (is_entry 1)
entries (suc zero) x e = let same : entry 2 ≡ x = cc in subst (λ x. Of some_world (out-Value x) (entry_of ty.Int ty.Int)) same (is_entry 2)
entries (suc (suc k)) x e = absurd (cc)

key_of_entry : (n : ℕ) → key_of (entry n) ≡ Some (value.Int (pos n))
unfolding entry
key_of_entry n = ap key_in (value.outs-TupleOf (value.Int (pos n) ∷ value.Int (pos 0) ∷ []))

a_dictionary : Of some_world (Value-F.DictOf (entry 1 ∷ entry 2 ∷ [])) (Ty-F.DictOf ty.Int ty.Int)
a_dictionary = of_dictionary _ ty.Int ty.Int (omega arith) plain_int ascending entries
  where
    ascending : ascending_by_key (entry 1 ∷ entry 2 ∷ []) ≡ true
    ascending = simp (key_of_entry, order_int) refl

-- the entries of a dictionary stand in ascending order of their keys
no_dictionary : (w : World) (T : Kind) → Of w (Value-F.DictOf (entry 1 ∷ entry 1 ∷ [])) T → ⊥
no_dictionary w _ (of_dictionary _ key has short plain ascending each) = false≢true (tied ∙ ascending)
  where
    tied : false ≡ ascending_by_key (entry 1 ∷ entry 1 ∷ [])
    tied = simp (key_of_entry, order_int) refl

a_channel : Of some_world (Value-F.Chan 1) (Ty-F.Chan way.Both ty.Bool)
unfolding some_world
a_channel = of_channel 1 ty.Bool refl

-- a channel of ints is none of bools, and a channel that isn't there is of no kind
no_channel : (w : World) (T : Kind) → slice_get w.carried 7 ≡ None → Of w (Value-F.Chan 7) T → ⊥
no_channel w _ none (of_channel _ t e) = absurd (cc)

an_instance : Of some_world (Value-F.Inst (Some 1)) Ty-F.Inst
unfolding some_world
an_instance = of_instance 1 (omega arith)

no_instance : Of some_world (Value-F.Inst (Some 2)) Ty-F.Inst → ⊥
unfolding some_world
no_instance (of_instance _ l) = absurd (omega (arith, l))

some_instance : Of some_world (Value-F.Inst None) Ty-F.Inst
some_instance = of_no_instance

a_dist : Of some_world (Value-F.Dist (dist.UniformInt (pos 0) (pos 1) 63)) (Ty-F.Dist ty.Int)
a_dist = of_dist _ ty.Int (subst (Yields (dist.UniformInt (pos 0) (pos 1) 63)) (sym ty.outs-Int) (some_int (pos 0) (pos 1) 63 (omega arith)))

-- a stream is one of sixty-four
no_stream : (T : Kind) → Yields (dist.UniformInt (pos 0) (pos 1) 64) T → ⊥
no_stream _ (some_int _ _ _ l) = absurd (omega (arith, l))
