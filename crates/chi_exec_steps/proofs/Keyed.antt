-- What an operator of two values comes to, by whether it takes a key.
use Rattle.std.proofs.Common.{◌≡◌, ◌≢◌, length, List, [], ◌∷◌, true, false, refl}
use Rattle.chi_value.specs.declared.value.Value.{Value, out-Value}
use Rattle.chi_core.specs.declared.op_name.OpName.{OpName}
use Rattle.chi_core.specs.declared.op_name.OpName.TheVariants as op
use Rattle.chi_core.specs.declared.scene.Scene.{Scene}
use Rattle.chi_core.specs.declared.view.View.{View}
use Rattle.chi_core.specs.Operators.{applied}
use Rattle.chi_core.specs.Spots.{element_by}
use Rattle.chi_exec_steps.specs.Keyed.{keyed}
use Rattle.chi_exec_law.specs.Instructions.{operated}

pub by_key : (scene : Scene) (name : OpName) (a b : Value) (view : View) → keyed name ≡ true → operated scene name (a ∷ b ∷ []) view ≡ element_by a (out-Value a) b (out-Value b) view
by_key scene op.Index a b view e = refl
by_key scene op.Lookup a b view e = refl
by_key scene _ a b view e = absurd (cc)

pub by_name : (scene : Scene) (name : OpName) (xs : List Value) → keyed name ≡ false → operated scene name xs ≡ applied scene name xs
by_name scene op.Index xs e = absurd (cc)
by_name scene op.Lookup xs e = absurd (cc)
by_name scene _ xs e = refl

pub by_count : (scene : Scene) (name : OpName) (xs : List Value) → length xs ≢ 2 → operated scene name xs ≡ applied scene name xs
by_count scene op.Index [] h = refl
by_count scene op.Index (x ∷ []) h = refl
by_count scene op.Index (x ∷ y ∷ []) h = absurd (h refl)
by_count scene op.Index (x ∷ y ∷ z ∷ xs) h = refl
by_count scene op.Lookup [] h = refl
by_count scene op.Lookup (x ∷ []) h = refl
by_count scene op.Lookup (x ∷ y ∷ []) h = absurd (h refl)
by_count scene op.Lookup (x ∷ y ∷ z ∷ xs) h = refl
by_count scene _ xs h = refl

pub by_one : (scene : Scene) (name : OpName) (a : Value) → operated scene name (a ∷ []) ≡ applied scene name (a ∷ [])
by_one scene op.Index a = refl
by_one scene op.Lookup a = refl
by_one scene _ a = refl

pub ruleset keys = (by_key, by_name)
