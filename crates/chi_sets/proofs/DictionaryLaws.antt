-- What holds of all dictionaries.
use Rattle.std.proofs.Common.{◌≡◌, Bool, true, false, not, ◌&&◌, ◌||◌, List, [], ◌∷◌, ◌++◌, map, reverse, filter, find, Option, Some, None, is_some, option_and_then, Ordering, Less, Equal, Greater, is_eq, is_lt, refl, sym, ap, ap₂, ◌∙◌}
use Rattle.std.proofs.lemmas.Bool.{false≢true, and_parts, and_from}
use Rattle.std.proofs.lemmas.Cmp.{eq_by_cmp_equiv}
use Rattle.std.proofs.lemmas.List.Folds.{list_all-append}
use Rattle.std.specs.List.{list_any, list_all, cons_option}
use Rattle.std.specs.Option.{option_cmp, option_or}
use Rattle.chi_value.specs.Order.{order}
use Rattle.chi_value.specs.declared.value.Value.{Value, Value-F, out-Value, out-roll-Value}
use Rattle.chi_value.specs.declared.value.Value.TheVariants as value
use Rattle.chi_sets.specs.Ascending.{ties_by}
use Rattle.chi_sets.specs.Dictionaries.{entry, key_of, key_in, value_of, value_in, is_entry, are_entries, keys, by_key, ascending_by_key, has_key, has, value_at, with_entry, dictionary_of, dictionary_union, key_among, minus_keys}
use Rattle.chi_sets.specs.Sets.{among, ties, is_ascending}
use Rattle.chi_sets.proofs.Ascending.{equal, ascends_in_order, ascends_placed, ascends_filter, in_order_ascending, all_gathered, all_placed, all_filter}
use Rattle.chi_sets.proofs.Members.{among_both, any_filter, find_in_order, find_placed, find_others, find_both}
use Rattle.chi_sets.proofs.Orders.{keys_total, by_key_total}

-- entries

out_entry : (key x : Value) → out-Value (entry key x) ≡ Value-F.TupleOf (key ∷ x ∷ [])
out_entry key x = ap out-Value (sym (value.rolls-TupleOf (key ∷ x ∷ []))) ∙ out-roll-Value (Value-F.TupleOf (key ∷ x ∷ []))

pub entry_key : (key x : Value) → key_of (entry key x) ≡ Some key
entry_key key x = ap key_in (out_entry key x)

pub entry_value : (key x : Value) → value_of (entry key x) ≡ Some x
entry_value key x = ap value_in (out_entry key x)

-- a key stands to an entry as an entry with that key does
key_ties : (key x e : Value) → has_key key e ≡ ties_by by_key (entry key x) e
key_ties key x e =
    (eq_by_cmp_equiv keys_total).symm (key_of e) (Some key) ∙ ap (λ own. is_eq (option_cmp order own (key_of e))) (sym (entry_key key x))

find_key : (key x : Value) (es : List Value) → find (has_key key) es ≡ find (ties_by by_key (entry key x)) es
find_key key x es = λ i. find (λ e. key_ties key x e i) es

any_key : (key x : Value) (es : List Value) → has es key ≡ list_any (ties_by by_key (entry key x)) es
any_key key x es = λ i. list_any (λ e. key_ties key x e i) es

-- dictionaries of entries

pub dictionary_of_ascends : (es : List Value) → ascending_by_key (dictionary_of es) ≡ true
dictionary_of_ascends = ascends_in_order by_key by_key_total

pub dictionary_of_dictionary : (es : List Value) → ascending_by_key es ≡ true → dictionary_of es ≡ es
dictionary_of_dictionary = in_order_ascending by_key by_key_total

pub dictionary_of_entries : (es : List Value) → are_entries es ≡ true → are_entries (dictionary_of es) ≡ true
dictionary_of_entries es all = all_gathered by_key by_key_total is_entry [] es refl all

pub dictionary_of_values : (es : List Value) (key : Value) → value_at (dictionary_of es) key ≡ value_at (reverse es) key
dictionary_of_values es key =
    ap (option_and_then value_of) (find_key key key (dictionary_of es) ∙ find_in_order by_key by_key_total es (entry key key) ∙ sym (find_key key key (reverse es)))

-- an entry more

pub with_entry_ascends : (es : List Value) (e : Value) → ascending_by_key es ≡ true → ascending_by_key (with_entry es e) ≡ true
with_entry_ascends = ascends_placed by_key by_key_total

pub with_entry_entries : (es : List Value) (e : Value) → are_entries es ≡ true → is_entry e ≡ true → are_entries (with_entry es e) ≡ true
with_entry_entries = all_placed by_key by_key_total is_entry

pub with_entry_value : (es : List Value) (key x : Value) → value_at (with_entry es (entry key x)) key ≡ Some x
with_entry_value es key x =
    ap (option_and_then value_of) (find_key key x (with_entry es (entry key x)) ∙ find_placed by_key by_key_total es (entry key x)) ∙ entry_value key x

pub with_entry_others : (es : List Value) (key x other : Value) → ties other key ≡ false → value_at (with_entry es (entry key x)) other ≡ value_at es other
with_entry_others es key x other apart =
    let apart' : ties_by by_key (entry other other) (entry key x) ≡ false =
    (λ i. is_eq (option_cmp order (entry_key other other i) (entry_key key x i))) ∙ apart in
    ap (option_and_then value_of) (
    find_key other other (with_entry es (entry key x)) ∙
    find_others by_key by_key_total es (entry key x) (entry other other) apart' ∙
    sym (find_key other other es))

-- the union

pub union_entries : (a b : List Value) → are_entries a ≡ true → are_entries b ≡ true → are_entries (dictionary_union a b) ≡ true
union_entries a b left right = dictionary_of_entries (a ++ b) (list_all-append is_entry a b ∙ and_from _ _ left right)

pub union_keys : (a b : List Value) (key : Value) → has (dictionary_union a b) key ≡ (has a key || has b key)
union_keys a b key =
    any_key key key (dictionary_union a b) ∙ among_both by_key by_key_total a b (entry key key) ∙ sym (ap₂ ◌||◌ (any_key key key a) (any_key key key b))

-- what has a key has a value

both_parts : (v : Value-F Value) → is_some (key_in v) ≡ is_some (value_in v)
both_parts (Value-F.TupleOf []) = refl
both_parts (Value-F.TupleOf (key ∷ [])) = refl
both_parts (Value-F.TupleOf (key ∷ x ∷ [])) = refl
both_parts (Value-F.TupleOf (key ∷ x ∷ y ∷ rest)) = refl
both_parts _ = refl

chosen_value : (key : Value) (own : Option Value) (x : Option Value) → is_eq (option_cmp order own (Some key)) ≡ true → is_some own ≡ is_some x → is_some x ≡ true
chosen_value key None x h same = absurd (false≢true h)
chosen_value key (Some k) x h same = sym same

found_value : (key : Value) (es : List Value) (other : Option Value) →
    option_and_then value_of (option_or (find (has_key key) es) other) ≡ option_or (value_at es key) (option_and_then value_of other)
found_value key [] other = refl
found_value key (e ∷ es) other = split (has_key key e) refl (found_value key es other)
  where
    present : (x : Option Value) → is_some x ≡ true → (rest : Option Value) → x ≡ option_or x rest
    present None h rest = absurd (false≢true h)
    present (Some x) h rest = refl

    split : (b : Bool) → has_key key e ≡ b →
        option_and_then value_of (option_or (find (has_key key) es) other) ≡ option_or (value_at es key) (option_and_then value_of other) →
        option_and_then value_of (option_or (find (has_key key) (e ∷ es)) other) ≡ option_or (value_at (e ∷ es) key) (option_and_then value_of other)
    split true h rest = rw h (present (value_of e) (chosen_value key (key_of e) (value_of e) h (both_parts (out-Value e))) (option_and_then value_of other))
    split false h rest = rw h rest

pub union_values : (a b : List Value) (key : Value) → ascending_by_key a ≡ true → ascending_by_key b ≡ true →
    value_at (dictionary_union a b) key ≡ option_or (value_at b key) (value_at a key)
union_values a b key up up' =
    ap (option_and_then value_of) (
    find_key key key (dictionary_union a b) ∙
    find_both by_key by_key_total a b (entry key key) up up' ∙
    ap₂ option_or (sym (find_key key key b)) (sym (find_key key key a))) ∙
    found_value key b (find (has_key key) a)

-- without some keys

pub minus_keys_ascends : (es removed : List Value) → ascending_by_key es ≡ true → ascending_by_key (minus_keys es removed) ≡ true
minus_keys_ascends es removed = ascends_filter by_key by_key_total (λ e. not (key_among removed e)) es

pub minus_keys_keys : (es removed : List Value) (key : Value) → has (minus_keys es removed) key ≡ (has es key && not (among removed key))
minus_keys_keys es removed key =
    any_filter (has_key key) (λ e. not (key_among removed e)) (not (among removed key))
    (λ e h. ap not (λ i. list_any (λ k. is_eq (keys_total.congr (key_of e) (Some key) (Some k) (equal _ h) i)) removed)) es

-- the keys of a dictionary are a set

one_key : (own : Option Value) → is_ascending (cons_option own []) ≡ true
one_key None = refl
one_key (Some key) = refl

two_keys : (own next : Option Value) (rest : List Value) (b : Bool) → is_some own ≡ true → is_some next ≡ true →
    is_ascending (cons_option next rest) ≡ b → is_ascending (cons_option own (cons_option next rest)) ≡ (is_lt (option_cmp order own next) && b)
two_keys None next rest b h k e = absurd (false≢true h)
two_keys (Some key) None rest b h k e = absurd (false≢true k)
two_keys (Some key) (Some other) rest b h k e = ap (λ c. is_lt (order key other) && c) e

pub keys_ascend : (es : List Value) → are_entries es ≡ true → is_ascending (keys es) ≡ ascending_by_key es
keys_ascend [] all = refl
keys_ascend (e ∷ []) all = one_key (key_of e)
keys_ascend (e ∷ (f ∷ es)) all =
    let first = and_parts (is_entry e) (are_entries (f ∷ es)) all in
    let second = and_parts (is_entry f) (are_entries es) first.1 in
    two_keys (key_of e) (key_of f) (keys es) (ascending_by_key (f ∷ es)) first.0 second.0 (keys_ascend (f ∷ es) first.1)
