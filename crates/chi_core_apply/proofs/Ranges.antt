-- Ranges of ints.
use Rattle.std.proofs.Common.{◌≡◌, ◌≢◌, ℤ, List, [], ◌∷◌, Some, None, length, refl, arith}
use Rattle.std.proofs.lemmas.Int.{to_z-of_z}
use Rattle.chi_value.specs.declared.value.Value.{Value, Value-F, out-Value}
use Rattle.chi_ops.specs.Sequences.{range}
use Rattle.chi_core.specs.declared.op_name.OpName.TheVariants as op
use Rattle.chi_core.specs.declared.scene.Scene.{Scene}
use Rattle.chi_core.specs.declared.view.View.{View}
use Rattle.chi_core.specs.Answer.{Amiss}
use Rattle.chi_core.specs.Containers.{done, range_of}
use Rattle.chi_core.specs.Operators.{applied}
use Rattle.chi_core.specs.Reading.{int_of, int_in}
use Rattle.chi_core_apply.proofs.Operations.{done_gives, done_fails}

module _ (view : View) where
  first_in : (a b c : Value-F Value) → range_of a b c view ≢ Amiss → int_in a ≢ None
  first_in (Value-F.Int x) b c h = λ e. absurd (cc)
  first_in _ b c h = absurd (h refl)

  last_in : (a b c : Value-F Value) → range_of a b c view ≢ Amiss → int_in b ≢ None
  last_in (Value-F.Int x) (Value-F.Int y) c h = λ e. absurd (cc)
  last_in (Value-F.Int x) _ c h = absurd (h refl)
  last_in _ b c h = absurd (h refl)

  by_in : (a b c : Value-F Value) → range_of a b c view ≢ Amiss → int_in c ≢ None
  by_in (Value-F.Int x) (Value-F.Int y) (Value-F.Int z) h = λ e. absurd (cc)
  by_in (Value-F.Int x) (Value-F.Int y) _ h = absurd (h refl)
  by_in (Value-F.Int x) _ c h = absurd (h refl)
  by_in _ b c h = absurd (h refl)

  is_in : (a b c : Value-F Value) (x y z : ℤ) → int_in a ≡ Some x → int_in b ≡ Some y → int_in c ≡ Some z → range_of a b c view ≡ done (range x y z) view
  is_in (Value-F.Int u) (Value-F.Int v) (Value-F.Int w) x y z e f g =
      let p : u ≡ x = cc in let q : v ≡ y = cc in let r : w ≡ z = cc in (λ i. done (range (p i) (q i) (r i)) view)
  is_in (Value-F.Int u) (Value-F.Int v) _ x y z e f g = absurd (cc)
  is_in (Value-F.Int u) _ c x y z e f g = absurd (cc)
  is_in _ b c x y z e f g = absurd (cc)

  pub range_first : (a b c : Value) → range_of (out-Value a) (out-Value b) (out-Value c) view ≢ Amiss → int_of a ≢ None
  range_first a b c = first_in (out-Value a) (out-Value b) (out-Value c)

  pub range_last : (a b c : Value) → range_of (out-Value a) (out-Value b) (out-Value c) view ≢ Amiss → int_of b ≢ None
  range_last a b c = last_in (out-Value a) (out-Value b) (out-Value c)

  pub range_by : (a b c : Value) → range_of (out-Value a) (out-Value b) (out-Value c) view ≢ Amiss → int_of c ≢ None
  range_by a b c = by_in (out-Value a) (out-Value b) (out-Value c)

  pub range_is : (a b c : Value) (x y z : ℤ) → int_of a ≡ Some x → int_of b ≡ Some y → int_of c ≡ Some z
      → range_of (out-Value a) (out-Value b) (out-Value c) view ≡ done (range x y z) view
  range_is a b c = is_in (out-Value a) (out-Value b) (out-Value c)

pub range_many : (scene : Scene) (a b c : Value) (rest : List Value) (view : View) → length rest ≢ 0 → applied scene op.Range (a ∷ b ∷ c ∷ rest) view ≢ Amiss → ⊥
range_many scene a b c [] view h there = h refl
range_many scene a b c (d ∷ rest) view h there = there refl

pub uniform_many : (scene : Scene) (a b c : Value) (rest : List Value) (view : View) → length rest ≢ 0 → applied scene op.Uniform (a ∷ b ∷ c ∷ rest) view ≢ Amiss → ⊥
uniform_many scene a b c [] view h there = h refl
uniform_many scene a b c (d ∷ rest) view h there = there refl

pub binomial_many : (scene : Scene) (a b c : Value) (rest : List Value) (view : View) → length rest ≢ 0 → applied scene op.Binomial (a ∷ b ∷ c ∷ rest) view ≢ Amiss → ⊥
binomial_many scene a b c [] view h there = h refl
binomial_many scene a b c (d ∷ rest) view h there = there refl

pub no_value : (xs : List Value) → length xs ≡ 0 → xs ≡ []
no_value [] e = refl
no_value (x ∷ xs) e = absurd (omega arith)

pub ruleset made = (to_z-of_z, done_gives, done_fails)

pub ruleset ranges = (to_z-of_z, range_first, range_last, range_by, range_is)

pub ruleset many = (to_z-of_z, range_many, uniform_many, binomial_many, no_value)
