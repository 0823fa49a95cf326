-- A key that is given a value twice.
use Rattle.std.proofs.Common.{◌≡◌, Bool, true, false, cond, List, [], ◌∷◌, is_eq, refl, sym, ap, ◌∙◌}
use Rattle.std.specs.Option.{option_cmp}
use Rattle.chi_value.specs.Order.{order}
use Rattle.chi_value.specs.declared.value.Value.{Value}
use Rattle.chi_sets.specs.Ascending.{ties_by}
use Rattle.chi_sets.specs.Dictionaries.{entry, key_of, by_key, ascending_by_key, with_entry}
use Rattle.chi_sets.proofs.DictionaryLaws.{entry_key, with_entry_ascends}
use Rattle.chi_sets.proofs.Orders.{by_key_total}
use Rattle.chi_sets.proofs.Repeats.{class_placed, one_list}

merged : (b c : Bool) (xs ys zs : List Value) → b ≡ c → cond c xs (cond b ys zs) ≡ cond c xs zs
merged b true xs ys zs e = refl
merged b false xs ys zs e = ap (λ t. cond t ys zs) e

module _ (es : List Value) (key f x : Value) where
  same_tie : (z : Value) → ties_by by_key z (entry key f) ≡ ties_by by_key z (entry key x)
  same_tie z = ap (λ k. is_eq (option_cmp order (key_of z) k)) (entry_key key f ∙ sym (entry_key key x))

  -- the later value stays
  pub with_entry_twice : ascending_by_key es ≡ true → with_entry (with_entry es (entry key f)) (entry key x) ≡ with_entry es (entry key x)
  with_entry_twice up =
      let first = with_entry_ascends es (entry key f) up in
      one_list by_key by_key_total _ _ (with_entry_ascends (with_entry es (entry key f)) (entry key x) first) (with_entry_ascends es (entry key x) up)
      (λ z. class_placed by_key by_key_total z (entry key x) (with_entry es (entry key f))
      ∙ ap (cond (ties_by by_key z (entry key x)) (entry key x ∷ [])) (class_placed by_key by_key_total z (entry key f) es)
      ∙ merged (ties_by by_key z (entry key f)) (ties_by by_key z (entry key x)) _ _ _ (same_tie z)
      ∙ sym (class_placed by_key by_key_total z (entry key x) es))
