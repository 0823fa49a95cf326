-- Where its condition holds, an operation comes to a value or a named fault.
use Rattle.std.proofs.Common.{◌≡◌, ℕ, ℤ, pos, Bool, true, false, ◌&&◌, IsTrue, cond, Option, None, Some, List, [], ◌∷◌, is_some, nat_le, refl, sym, ap, ◌∙◌}
use Rattle.std.proofs.lemmas.Bool.{false≢true, and_parts}
use Rattle.std.specs.Ordering.{int_eq}
use Rattle.chi_value.specs.declared.format.Kind.{Kind}
use Rattle.chi_value.specs.declared.format.Kind.TheVariants as kind
use Rattle.chi_value.specs.declared.value.TheConstants.{MOST_ELEMENTS}
use Rattle.chi_value.specs.declared.value.Value.{Value, Value-F, fold_out-Value, map-Value, out-Value, roll-Value, roll-out-Value}
use Rattle.chi_value.specs.declared.value.Value.TheVariants as value
use Rattle.chi_value.specs.Alike.{alike, alike_step}
use Rattle.chi_sets.specs.Dictionaries.{are_entries, entries_of, is_entry, key_in, value_in}
use Rattle.chi_ops.specs.Conditions.{are_keys_alike, are_peers, has_size, is_key, may_build, may_del, may_enumerate, may_has, may_hold, may_index, may_insert_at, may_join, may_keys, may_lookup, may_meet, may_minus, may_minus_keys, may_pop, may_size, may_slice, may_sub, may_union, may_values, takes_at, takes_key}
use Rattle.chi_ops.specs.Kinds.{is_container, is_dictionary, is_list, is_sequence, is_set, is_sorted}
use Rattle.chi_ops.specs.Operations.{build, entry_and_others, entry_and_rest, first_and_rest, has, keys_of, lookup, meet, minus, minus_keys, pop, size, sub, union, values_of}
use Rattle.chi_ops.specs.Outcome.{Fault, Outcome, gives, faults, is_wrong, where_may, gives_or, gives_within, limit_fault}
use Rattle.chi_ops.specs.Sequences.{index, slice, join, insert_at, del, range, enumerate, step_of}
use Rattle.chi_ops.specs.Tidy.{tidy}
use Rattle.chi_ops.proofs.TidyLaws.{dictionary_entries}

-- outcomes

pub right_where : (may : Bool) (o : Outcome) → may ≡ true → is_wrong o ≡ false → is_wrong (where_may may o) ≡ false
right_where true o h k = k
right_where false o h k = absurd (false≢true h)

or_right : (f : Fault) (o : Option Value) → is_wrong (gives_or f o) ≡ false
or_right f None = refl
or_right f (Some v) = refl

pub cond_right : (b : Bool) (x y : Outcome) → is_wrong x ≡ false → is_wrong y ≡ false → is_wrong (cond b x y) ≡ false
cond_right true x y h k = h
cond_right false x y h k = k

within_right : (size : ℕ) (v : Value) → is_wrong (gives_within size v) ≡ false
within_right size v = cond_right (nat_le size MOST_ELEMENTS) (gives v) (faults limit_fault) refl refl

-- kinds

dictionary_is : (v : Value) (items : List Value) → out-Value v ≡ Value-F.DictOf items → v ≡ value.DictOf items
dictionary_is v items out = sym (roll-out-Value v) ∙ ap roll-Value out ∙ value.rolls-DictOf items

alike_at : (a b : Value) (o : Value-F Value) → out-Value a ≡ o → alike a b ≡ alike_step (map-Value _ _ alike o) (out-Value b)
alike_at a b o h = ap (λ f. f b) (fold_out-Value (Value → Bool) (λ layer other. alike_step layer (out-Value other)) a) ∙
    ap (λ o. alike_step (map-Value _ _ alike o) (out-Value b)) h

list_peer : (xs : List Value) (o : Value-F Value) → alike_step (map-Value _ _ alike (Value-F.ListOf xs)) o ≡ true → (ys : List Value) × (o ≡ Value-F.ListOf ys)
list_peer xs (Value-F.ListOf ys) h = (ys, refl)
list_peer xs _ h = absurd (false≢true h)

text_peer : (xs : List ℕ) (o : Value-F Value) → alike_step (map-Value _ _ alike (Value-F.Text xs)) o ≡ true → (ys : List ℕ) × (o ≡ Value-F.Text ys)
text_peer xs (Value-F.Text ys) h = (ys, refl)
text_peer xs _ h = absurd (false≢true h)

set_peer : (xs : List Value) (o : Value-F Value) → alike_step (map-Value _ _ alike (Value-F.SetOf xs)) o ≡ true → (ys : List Value) × (o ≡ Value-F.SetOf ys)
set_peer xs (Value-F.SetOf ys) h = (ys, refl)
set_peer xs _ h = absurd (false≢true h)

dictionary_peer : (xs : List Value) (o : Value-F Value) → alike_step (map-Value _ _ alike (Value-F.DictOf xs)) o ≡ true → (ys : List Value) × (o ≡ Value-F.DictOf ys)
dictionary_peer xs (Value-F.DictOf ys) h = (ys, refl)
dictionary_peer xs _ h = absurd (false≢true h)

peers_alike : (a b : Value) (more : Bool) → (are_peers a b && more) ≡ true → alike a b ≡ true
peers_alike a b more h = (and_parts (tidy a && tidy b) (alike a b) (and_parts (are_peers a b) more h).0).1

-- of one list, string, set or dictionary

pub index_right : (v : Value) (i : ℤ) → IsTrue (may_index v i) → is_wrong (index v i) ≡ false
index_right v i h = by_layer (out-Value v) refl
  where
    by_layer : (o : Value-F Value) → out-Value v ≡ o → is_wrong (index v i) ≡ false
    by_layer (Value-F.ListOf items) out = right_where (may_index v i) _ h (rw (out, index) (or_right _ _))
    by_layer (Value-F.Text bytes) out = right_where (may_index v i) _ h (rw (out, index) (or_right _ _))
    by_layer _ out = absurd (false≢true (rw (out, is_sequence) at ((and_parts (tidy v) (is_sequence v) h).1)))

pub slice_right : (v : Value) (first last by : Option ℤ) → IsTrue (may_slice v first last by) → is_wrong (slice v first last by) ≡ false
slice_right v first last by h = by_layer (out-Value v) refl
  where
    by_layer : (o : Value-F Value) → out-Value v ≡ o → is_wrong (slice v first last by) ≡ false
    by_layer (Value-F.ListOf items) out = right_where (may_slice v first last by) _ h (rw (out, slice) (cond_right (int_eq (step_of by) (pos 0)) _ _ refl refl))
    by_layer (Value-F.Text bytes) out = right_where (may_slice v first last by) _ h (rw (out, slice) (cond_right (int_eq (step_of by) (pos 0)) _ _ refl refl))
    by_layer _ out = absurd (false≢true (rw (out, is_sequence) at ((and_parts (tidy v) (is_sequence v) h).1)))

pub del_right : (v : Value) (i : ℤ) → IsTrue (may_del v i) → is_wrong (del v i) ≡ false
del_right v i h = by_layer (out-Value v) refl
  where
    by_layer : (o : Value-F Value) → out-Value v ≡ o → is_wrong (del v i) ≡ false
    by_layer (Value-F.ListOf items) out = right_where (may_del v i) _ h (rw (out, del) (or_right _ _))
    by_layer _ out = absurd (false≢true (rw (out, is_list) at ((and_parts (tidy v) (is_list v) h).1)))

pub enumerate_right : (v : Value) → IsTrue (may_enumerate v) → is_wrong (enumerate v) ≡ false
enumerate_right v h = by_layer (out-Value v) refl
  where
    by_layer : (o : Value-F Value) → out-Value v ≡ o → is_wrong (enumerate v) ≡ false
    by_layer (Value-F.ListOf items) out = right_where (may_enumerate v) _ h (rw (out, enumerate) (refl))
    by_layer _ out = absurd (false≢true (rw (out, is_list) at ((and_parts (tidy v) (is_list v) h).1)))

pub insert_at_right : (v : Value) (i : ℕ) (x : Value) → IsTrue (may_insert_at v i x) → is_wrong (insert_at v i x) ≡ false
insert_at_right v i x h = by_layer (out-Value v) refl
  where
    by_layer : (o : Value-F Value) → out-Value v ≡ o → is_wrong (insert_at v i x) ≡ false
    by_layer (Value-F.ListOf items) out = right_where (may_insert_at v i x) _ h (rw (out, insert_at) (within_right _ _))
    by_layer _ out = absurd (false≢true (rw (out, takes_at) at ((and_parts (tidy v && tidy x) (takes_at v i x) h).1)))

pub lookup_right : (d : Value) (key : Value) → IsTrue (may_lookup d key) → is_wrong (lookup d key) ≡ false
lookup_right d key h = by_layer (out-Value d) refl
  where
    by_layer : (o : Value-F Value) → out-Value d ≡ o → is_wrong (lookup d key) ≡ false
    by_layer (Value-F.DictOf items) out = right_where (may_lookup d key) _ h (rw (out, lookup) (or_right _ _))
    by_layer _ out = absurd (false≢true (rw (out, takes_key) at ((and_parts (tidy d && is_key key) (takes_key d key) h).1)))

pub keys_right : (d : Value) → IsTrue (may_keys d) → is_wrong (keys_of d) ≡ false
keys_right d h = by_layer (out-Value d) refl
  where
    by_layer : (o : Value-F Value) → out-Value d ≡ o → is_wrong (keys_of d) ≡ false
    by_layer (Value-F.DictOf items) out = right_where (may_keys d) _ h (rw (out, keys_of) (refl))
    by_layer _ out = absurd (false≢true (rw (out, is_dictionary) at ((and_parts (tidy d) (is_dictionary d) h).1)))

pub values_right : (d : Value) → IsTrue (may_values d) → is_wrong (values_of d) ≡ false
values_right d h = by_layer (out-Value d) refl
  where
    by_layer : (o : Value-F Value) → out-Value d ≡ o → is_wrong (values_of d) ≡ false
    by_layer (Value-F.DictOf items) out = right_where (may_values d) _ h (rw (out, values_of) (refl))
    by_layer _ out = absurd (false≢true (rw (out, is_dictionary) at ((and_parts (tidy d) (is_dictionary d) h).1)))

first_right : (made : List Value → Value) (xs : List Value) → is_wrong (first_and_rest made xs) ≡ false
first_right made [] = refl
first_right made (x ∷ xs) = refl

others_right : (o : Value-F Value) (es : List Value) → is_some (key_in o) ≡ true → is_wrong (entry_and_others (key_in o) (value_in o) es) ≡ false
others_right (Value-F.TupleOf []) es h = absurd (false≢true h)
others_right (Value-F.TupleOf (key ∷ [])) es h = absurd (false≢true h)
others_right (Value-F.TupleOf (key ∷ (has ∷ []))) es h = refl
others_right (Value-F.TupleOf (key ∷ (has ∷ (x ∷ xs)))) es h = absurd (false≢true h)
others_right _ es h = absurd (false≢true h)

entries_right : (es : List Value) → are_entries es ≡ true → is_wrong (entry_and_rest es) ≡ false
entries_right [] h = refl
entries_right (e ∷ es) h = others_right (out-Value e) es (and_parts (is_entry e) (are_entries es) h).0

pub pop_right : (v : Value) → IsTrue (may_pop v) → is_wrong (pop v) ≡ false
pop_right v h = by_layer (out-Value v) refl
  where
    by_layer : (o : Value-F Value) → out-Value v ≡ o → is_wrong (pop v) ≡ false
    by_layer (Value-F.ListOf items) out = right_where (may_pop v) _ h (rw (out, pop) (first_right _ _))
    by_layer (Value-F.SetOf items) out = right_where (may_pop v) _ h (rw (out, pop) (first_right _ _))
    by_layer (Value-F.DictOf items) out = right_where (may_pop v) _ h (rw (out, pop) (entries_right items (dictionary_entries v items (dictionary_is v items out) (and_parts (tidy v) (is_container v) h).0)))
    by_layer _ out = absurd (false≢true (rw (out, is_container) at ((and_parts (tidy v) (is_container v) h).1)))

-- of two

pub join_right : (a b : Value) → IsTrue (may_join a b) → is_wrong (join a b) ≡ false
join_right a b h = by_layer (out-Value a) refl
  where
    by_layer : (o : Value-F Value) → out-Value a ≡ o → is_wrong (join a b) ≡ false
    by_layer (Value-F.ListOf xs) out =
        let peer = list_peer xs (out-Value b) (sym (alike_at a b (Value-F.ListOf xs) out) ∙ peers_alike a b (is_sequence a) h) in
        right_where (may_join a b) _ h (rw (out, peer.1, join) (within_right _ _))
    by_layer (Value-F.Text xs) out =
        let peer = text_peer xs (out-Value b) (sym (alike_at a b (Value-F.Text xs) out) ∙ peers_alike a b (is_sequence a) h) in
        right_where (may_join a b) _ h (rw (out, peer.1, join) (within_right _ _))
    by_layer _ out = absurd (false≢true (rw (out, is_sequence) at (and_parts (are_peers a b) (is_sequence a) h).1))

pub union_right : (a b : Value) → IsTrue (may_union a b) → is_wrong (union a b) ≡ false
union_right a b h = by_layer (out-Value a) refl
  where
    by_layer : (o : Value-F Value) → out-Value a ≡ o → is_wrong (union a b) ≡ false
    by_layer (Value-F.SetOf xs) out =
        let peer = set_peer xs (out-Value b) (sym (alike_at a b (Value-F.SetOf xs) out) ∙ peers_alike a b (is_sorted a) h) in
        right_where (may_union a b) _ h (rw (out, peer.1, union) (within_right _ _))
    by_layer (Value-F.DictOf xs) out =
        let peer = dictionary_peer xs (out-Value b) (sym (alike_at a b (Value-F.DictOf xs) out) ∙ peers_alike a b (is_sorted a) h) in
        right_where (may_union a b) _ h (rw (out, peer.1, union) (within_right _ _))
    by_layer _ out = absurd (false≢true (rw (out, is_sorted) at (and_parts (are_peers a b) (is_sorted a) h).1))

pub meet_right : (a b : Value) → IsTrue (may_meet a b) → is_wrong (meet a b) ≡ false
meet_right a b h = by_layer (out-Value a) refl
  where
    by_layer : (o : Value-F Value) → out-Value a ≡ o → is_wrong (meet a b) ≡ false
    by_layer (Value-F.SetOf xs) out =
        let peer = set_peer xs (out-Value b) (sym (alike_at a b (Value-F.SetOf xs) out) ∙ peers_alike a b (is_set a) h) in
        right_where (may_meet a b) _ h (rw (out, peer.1, meet) (refl))
    by_layer _ out = absurd (false≢true (rw (out, is_set) at (and_parts (are_peers a b) (is_set a) h).1))

pub minus_right : (a b : Value) → IsTrue (may_minus a b) → is_wrong (minus a b) ≡ false
minus_right a b h = by_layer (out-Value a) refl
  where
    by_layer : (o : Value-F Value) → out-Value a ≡ o → is_wrong (minus a b) ≡ false
    by_layer (Value-F.SetOf xs) out =
        let peer = set_peer xs (out-Value b) (sym (alike_at a b (Value-F.SetOf xs) out) ∙ peers_alike a b (is_set a) h) in
        right_where (may_minus a b) _ h (rw (out, peer.1, minus) (refl))
    by_layer _ out = absurd (false≢true (rw (out, is_set) at (and_parts (are_peers a b) (is_set a) h).1))

pub minus_keys_right : (d removed : Value) → IsTrue (may_minus_keys d removed) → is_wrong (minus_keys d removed) ≡ false
minus_keys_right d removed h = by_layer (out-Value d) refl (out-Value removed) refl
  where
    by_layer : (o : Value-F Value) → out-Value d ≡ o → (other : Value-F Value) → out-Value removed ≡ other → is_wrong (minus_keys d removed) ≡ false
    by_layer (Value-F.DictOf xs) out (Value-F.SetOf ys) is = right_where (may_minus_keys d removed) _ h (rw (out, is, minus_keys) refl)
    by_layer (Value-F.DictOf xs) out _ is = absurd (false≢true (rw (out, is, are_keys_alike) at (and_parts (tidy d && tidy removed) (are_keys_alike d removed) h).1))
    by_layer _ out other is = absurd (false≢true (rw (out, are_keys_alike) at (and_parts (tidy d && tidy removed) (are_keys_alike d removed) h).1))

-- answers that are no values

some_where : {A : Type 0} (may : Bool) (o : Option A) → may ≡ true → is_some o ≡ true → is_some (cond may o None) ≡ true
some_where true o h k = k
some_where false o h k = absurd (false≢true h)

pub size_some : (v : Value) → IsTrue (may_size v) → is_some (size v) ≡ true
size_some v h = by_layer (out-Value v) refl
  where
    by_layer : (o : Value-F Value) → out-Value v ≡ o → is_some (size v) ≡ true
    by_layer (Value-F.Text bytes) out = some_where (may_size v) _ h (rw (out, size) refl)
    by_layer (Value-F.ListOf items) out = some_where (may_size v) _ h (rw (out, size) refl)
    by_layer (Value-F.SetOf items) out = some_where (may_size v) _ h (rw (out, size) refl)
    by_layer (Value-F.DictOf items) out = some_where (may_size v) _ h (rw (out, size) refl)
    by_layer _ out = absurd (false≢true (rw (out, has_size) at ((and_parts (tidy v) (has_size v) h).1)))

pub has_some : (v x : Value) → IsTrue (may_has v x) → is_some (has v x) ≡ true
has_some v x h = by_layer (out-Value v) refl
  where
    by_layer : (o : Value-F Value) → out-Value v ≡ o → is_some (has v x) ≡ true
    by_layer (Value-F.ListOf items) out = some_where (may_has v x) _ h (rw (out, has) refl)
    by_layer (Value-F.SetOf items) out = some_where (may_has v x) _ h (rw (out, has) refl)
    by_layer (Value-F.DictOf items) out = some_where (may_has v x) _ h (rw (out, has) refl)
    by_layer _ out = absurd (false≢true (rw (out, may_hold) at ((and_parts (tidy v && is_key x) (may_hold v x) h).1)))

pub sub_some : (a b : Value) → IsTrue (may_sub a b) → is_some (sub a b) ≡ true
sub_some a b h = by_layer (out-Value a) refl
  where
    by_layer : (o : Value-F Value) → out-Value a ≡ o → is_some (sub a b) ≡ true
    by_layer (Value-F.SetOf xs) out =
        let peer = set_peer xs (out-Value b) (sym (alike_at a b (Value-F.SetOf xs) out) ∙ peers_alike a b (is_set a) h) in
        some_where (may_sub a b) _ h (rw (out, peer.1, sub) refl)
    by_layer _ out = absurd (false≢true (rw (out, is_set) at (and_parts (are_peers a b) (is_set a) h).1))

-- ranges and literals

pub range_right : (first last by : ℤ) → is_wrong (range first last by) ≡ false
range_right first last by = cond_right (int_eq by (pos 0)) _ _ refl (within_right _ _)

pub build_right : (k : Kind) (parts : List Value) → IsTrue (may_build k parts) → is_wrong (build k parts) ≡ false
build_right kind.TupleOf parts h = right_where (may_build kind.TupleOf parts) _ h (within_right _ _)
build_right kind.ListOf parts h = right_where (may_build kind.ListOf parts) _ h (within_right _ _)
build_right kind.SetOf parts h = right_where (may_build kind.SetOf parts) _ h (within_right _ _)
build_right kind.DictOf parts h = by_layer (entries_of parts) refl
  where
    by_layer : (o : Option (List Value)) → entries_of parts ≡ o → is_wrong (build kind.DictOf parts) ≡ false
    by_layer None is = absurd (false≢true (rw (is, may_build) at h))
    by_layer (Some entries) is = right_where (may_build kind.DictOf parts) _ h (rw (is, build) (within_right _ _))
