-- Slices, by the bounds that are given.
use Rattle.std.proofs.Common.{◌≡◌, ◌≢◌, ℤ, Bool, true, false, List, [], ◌∷◌, Option, Some, None, length, refl, ap, ◌∙◌, arith}
use Rattle.std.specs.Prelude.{option_map}
use Rattle.std.proofs.lemmas.Int.{to_z-of_z}
use Rattle.chi_value.specs.declared.value.Value.{Value}
use Rattle.chi_ops.specs.Sequences.{slice}
use Rattle.chi_core.specs.declared.view.View.{View}
use Rattle.chi_core.specs.Answer.{Amiss}
use Rattle.chi_core.specs.Containers.{done, bounds, slice_by, sliced}
use Rattle.chi_core.specs.Reading.{int_of}
use Rattle.chi_core_apply.specs.Bounds.{next_bound}
use Rattle.chi_core_apply.proofs.Operations.{may, done_gives, done_fails}

abbrev paired : List Value → ℤ → Option ℤ × List Value
paired rest x = (Some x, rest)

inside : (p q : Option ℤ × List Value) → Some p ≡ Some q → p ≡ q
inside p q e = cc

module _ (others : List Bool) (operands : List Value) where
  pub bound_there : (given : Bool) → bounds (given ∷ others) operands ≢ None → next_bound given operands ≢ None
  bound_there false h = λ e. absurd (cc)
  bound_there true h = by_operands operands h
    where
      by_operands : (l : List Value) → bounds (true ∷ others) l ≢ None → next_bound true l ≢ None
      by_operands [] h e = h refl
      by_operands (b ∷ rest) h e = by_int (int_of b) refl e
        where
          by_int : (o : Option ℤ) → int_of b ≡ o → option_map (paired rest) o ≡ None → ⊥
          by_int None is e = h (rw is refl)
          by_int (Some x) is e = cc

  pub bound_is : (given : Bool) (x : Option ℤ) (rest : List Value) → next_bound given operands ≡ Some (x, rest)
      → bounds (given ∷ others) operands ≡ option_map (λ more. x ∷ more) (bounds others rest)
  bound_is false x rest e =
      let both = inside (None, operands) (x, rest) e in (λ i. option_map (λ more. (both i).0 ∷ more) (bounds others (both i).1))
  bound_is true x rest e = by_operands operands e
    where
      by_operands : (l : List Value) → next_bound true l ≡ Some (x, rest) → bounds (true ∷ others) l ≡ option_map (λ more. x ∷ more) (bounds others rest)
      by_operands [] e = absurd (cc)
      by_operands (b ∷ more) e = by_int (int_of b) refl e
        where
          by_rest : (y : ℤ) (o : Option (List (Option ℤ))) → int_of b ≡ Some y → bounds others more ≡ o
              → bounds (true ∷ others) (b ∷ more) ≡ option_map (λ more. Some y ∷ more) o
          by_rest y None is at = rw (is, at) refl
          by_rest y (Some l) is at = rw (is, at) refl

          by_int : (o : Option ℤ) → int_of b ≡ o → option_map (paired more) o ≡ Some (x, rest)
              → bounds (true ∷ others) (b ∷ more) ≡ option_map (λ more. x ∷ more) (bounds others rest)
          by_int None is e = absurd (cc)
          by_int (Some y) is e =
              let both = inside (Some y, more) (x, rest) e in
              by_rest y (bounds others more) is refl ∙ (λ i. option_map (λ more. (both i).0 ∷ more) (bounds others (both i).1))

  pub rest_there : (given : Bool) (x : Option ℤ) (rest : List Value) → next_bound given operands ≡ Some (x, rest)
      → bounds (given ∷ others) operands ≢ None → bounds others rest ≢ None
  rest_there given x rest e h a = h (bound_is given x rest e ∙ ap (option_map (λ more. x ∷ more)) a)

none_left : (l : List Value) → bounds [] l ≢ None → bounds [] l ≡ Some []
none_left [] h = refl
none_left (b ∷ l) h = absurd (h refl)

module _ (first last by : Bool) (a : Value) (operands : List Value) (view : View) where
  all_there : sliced first last by a operands view ≢ Amiss → bounds (first ∷ last ∷ by ∷ []) operands ≢ None
  all_there h e = h (ap (λ o. slice_by a o view) e)

  pub first_bound : sliced first last by a operands view ≢ Amiss → next_bound first operands ≢ None
  first_bound h = bound_there (last ∷ by ∷ []) operands first (all_there h)

  module _ (x : Option ℤ) (more : List Value) (at_first : next_bound first operands ≡ Some (x, more)) where
    pub last_bound : sliced first last by a operands view ≢ Amiss → next_bound last more ≢ None
    last_bound h = bound_there (by ∷ []) more last (rest_there (last ∷ by ∷ []) operands first x more at_first (all_there h))

    module _ (y : Option ℤ) (rest : List Value) (at_last : next_bound last more ≡ Some (y, rest)) where
      third : sliced first last by a operands view ≢ Amiss → bounds (by ∷ []) rest ≢ None
      third h = rest_there (by ∷ []) more last y rest at_last (rest_there (last ∷ by ∷ []) operands first x more at_first (all_there h))

      pub step_bound : sliced first last by a operands view ≢ Amiss → next_bound by rest ≢ None
      step_bound h = bound_there [] rest by (third h)

      pub slice_is : (z : Option ℤ) (left : List Value) → next_bound by rest ≡ Some (z, left) → sliced first last by a operands view ≢ Amiss
          → sliced first last by a operands view ≡ done (slice a x y z) view
      slice_is z left at_step h =
          ap (λ o. slice_by a o view)
          (bound_is (last ∷ by ∷ []) operands first x more at_first
          ∙ ap (option_map (λ l. x ∷ l)) (bound_is (by ∷ []) more last y rest at_last
          ∙ ap (option_map (λ l. y ∷ l)) (bound_is [] rest by z left at_step
          ∙ ap (option_map (λ l. z ∷ l)) (none_left left (rest_there [] rest by z left at_step (third h))))))

      pub slice_there : (z : Option ℤ) (left : List Value) → next_bound by rest ≡ Some (z, left) → sliced first last by a operands view ≢ Amiss
          → done (slice a x y z) view ≢ Amiss
      slice_there z left at_step h b = h (slice_is z left at_step h ∙ b)

pub ruleset slicing = (to_z-of_z, first_bound, last_bound, step_bound, slice_is, slice_there)

-- one bound
pub given_int : (operands rest : List Value) (b : Value) → operands ≡ b ∷ rest → next_bound true operands ≢ None → int_of b ≢ None
given_int operands rest b e h a = h (ap (next_bound true) e ∙ ap (option_map (paired rest)) a)

pub given_is : (operands rest : List Value) (b : Value) (x : ℤ) → operands ≡ b ∷ rest → int_of b ≡ Some x → next_bound true operands ≡ Some (Some x, rest)
given_is operands rest b x e a = ap (next_bound true) e ∙ ap (option_map (paired rest)) a

pub no_operand : (operands : List Value) → length operands ≡ 0 → next_bound true operands ≢ None → ⊥
no_operand [] e h = h refl
no_operand (b ∷ rest) e h = absurd (omega arith)

pub ruleset bounding = (to_z-of_z, given_int, given_is, no_operand)
