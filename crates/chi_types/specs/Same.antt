-- When two types are the same: built alike, where the names of a tuple's parts don't count.
use Rattle.std.specs.Prelude.{ℕ, Bool, true, false, nat_eq, List, [], ◌∷◌, ◌&&◌}
use Rattle.chi_types.specs.declared.ty.Way.{Way}
use Rattle.chi_types.specs.declared.ty.Way.TheVariants as way
use Rattle.chi_types.specs.declared.ty.Ty.{Ty, Ty-F, fold-Ty, out-Ty, roll-Ty}

-- equally many parts, each of which passes its test
abbrev pub each_passes : List (List ℕ × (Ty → Bool)) → List (List ℕ × Ty) → Bool
each_passes [] [] = true
each_passes (test ∷ tests) (part ∷ parts) = test.1 part.1 && each_passes tests parts
each_passes _ _ = false

-- a part of a tuple, with something else in place of what stands beside its name
abbrev pub beside : {A B : Type 0} → (A → B) → List ℕ × A → List ℕ × B
beside f part = (part.0, f part.1)

abbrev pub same_way : Way → Way → Bool
same_way way.Both way.Both = true
same_way way.Send way.Send = true
same_way way.Receive way.Receive = true
same_way _ _ = false

-- the same at the outermost, with a test for each part
abbrev pub same_step : Ty-F (Ty → Bool) → Ty-F Ty → Bool
same_step Ty-F.Bool Ty-F.Bool = true
same_step Ty-F.Int Ty-F.Int = true
same_step Ty-F.Real Ty-F.Real = true
same_step Ty-F.Text Ty-F.Text = true
same_step Ty-F.Timer Ty-F.Timer = true
same_step Ty-F.Inst Ty-F.Inst = true
same_step Ty-F.Void Ty-F.Void = true
same_step (Ty-F.Choice k) (Ty-F.Choice l) = nat_eq k l
same_step (Ty-F.TupleOf tests) (Ty-F.TupleOf parts) = each_passes tests parts
same_step (Ty-F.ListOf test) (Ty-F.ListOf element) = test element
same_step (Ty-F.SetOf test) (Ty-F.SetOf element) = test element
same_step (Ty-F.DictOf key_test value_test) (Ty-F.DictOf key value) = key_test key && value_test value
same_step (Ty-F.Chan w test) (Ty-F.Chan v element) = same_way w v && test element
same_step (Ty-F.Dist test) (Ty-F.Dist element) = test element
same_step _ _ = false

-- two types are the same
abbrev pub same : Ty → Ty → Bool
same = fold-Ty (Ty → Bool) (λ layer ty. same_step layer (out-Ty ty))

-- the parts without their names
abbrev pub nameless : List (List ℕ × Ty) → List (List ℕ × Ty)
nameless [] = []
nameless (part ∷ parts) = ([], part.1) ∷ nameless parts

abbrev pub bare : Ty-F Ty → Ty-F Ty
bare (Ty-F.TupleOf parts) = Ty-F.TupleOf (nameless parts)
bare layer = layer

-- a type without the names of the parts of its tuples
abbrev pub unnamed : Ty → Ty
unnamed = fold-Ty Ty (λ layer. roll-Ty (bare layer))
