-- What holds of all sets.
use Rattle.std.proofs.Common.{◌≡◌, ℕ, Bool, true, false, not, ◌&&◌, ◌||◌, List, ◌++◌, Contains, Decides, Equal, get_or, refl, sym, ap, subst, ◌∙◌}
use Rattle.std.proofs.lemmas.Bool.{and_parts}
use Rattle.std.proofs.lemmas.Cmp.{eq_by_cmp_equiv}
use Rattle.std.proofs.lemmas.List.Folds.{Any-from_list_any}
use Rattle.std.proofs.lemmas.Map.Views.{list_any-from_Contains}
use Rattle.chi_value.proofs.OrderLaws.{order_total, order_equal}
use Rattle.chi_value.specs.Order.{order}
use Rattle.chi_value.specs.Plain.{is_plain}
use Rattle.chi_value.specs.declared.value.Value.{Value}
use Rattle.chi_sets.specs.Sets.{among, ties, is_ascending, set_of, union, meet, minus, is_subset}
use Rattle.chi_sets.proofs.Ascending.{equal, ascends_in_order, ascends_filter, in_order_ascending}
use Rattle.chi_sets.proofs.Members.{among_in_order, among_both, among_kept}

pub set_of_ascends : (xs : List Value) → is_ascending (set_of xs) ≡ true
set_of_ascends = ascends_in_order order order_total

pub set_of_members : (xs : List Value) (x : Value) → among (set_of xs) x ≡ among xs x
set_of_members = among_in_order order order_total

pub set_of_set : (xs : List Value) → is_ascending xs ≡ true → set_of xs ≡ xs
set_of_set = in_order_ascending order order_total

pub union_members : (xs ys : List Value) (x : Value) → among (union xs ys) x ≡ (among xs x || among ys x)
union_members = among_both order order_total

pub meet_ascends : (xs ys : List Value) → is_ascending xs ≡ true → is_ascending (meet xs ys) ≡ true
meet_ascends xs ys = ascends_filter order order_total (among ys) xs

pub meet_members : (xs ys : List Value) (x : Value) → among (meet xs ys) x ≡ (among xs x && among ys x)
meet_members = among_kept order order_total (λ is_there. is_there)

pub minus_ascends : (xs ys : List Value) → is_ascending xs ≡ true → is_ascending (minus xs ys) ≡ true
minus_ascends xs ys = ascends_filter order order_total (λ x. not (among ys x)) xs

pub minus_members : (xs ys : List Value) (x : Value) → among (minus xs ys) x ≡ (among xs x && not (among ys x))
minus_members = among_kept order order_total not

-- a plain value ties with none but itself
contained : (xs : List Value) (x : Value) → is_plain x ≡ true → among xs x ≡ true → Contains xs x
contained xs x plain h =
    let at = Any-from_list_any (ties x) xs h in
    let same : x ≡ at.1 = order_equal x plain at.1 (equal _ at.4) in
    (at.0, at.2, ap (get_or xs at.0) same ∙ at.3 ∙ sym same)

pub among_means : (xs : List Value) (x : Value) → is_plain x ≡ true → Decides (among xs x) (Contains xs x)
among_means xs x plain = (contained xs x plain, list_any-from_Contains (eq_by_cmp_equiv order_total) x xs)
