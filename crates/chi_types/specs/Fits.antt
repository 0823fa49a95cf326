-- When a value of a given type serves where a type is wanted.
use Rattle.std.specs.Prelude.{Bool, true, false, nat_eq, map, ◌&&◌, ◌||◌}
use Rattle.chi_types.specs.declared.ty.Way.{Way}
use Rattle.chi_types.specs.declared.ty.Way.TheVariants as way
use Rattle.chi_types.specs.declared.ty.Ty.{Ty, Ty-F, para-Ty, out-Ty}
use Rattle.chi_types.specs.Same.{same, same_way, each_passes, beside}

-- a channel for both ways serves for each of them
abbrev pub serves : Way → Way → Bool
serves way.Both wanted = true
serves given wanted = same_way given wanted

-- the test of a type that stands beside it
abbrev pub test_of : Ty × (Ty → Bool) → Ty → Bool
test_of part = part.1

-- serves at the outermost, without int for real; each part stands beside its own test
abbrev pub serves_step : Ty-F (Ty × (Ty → Bool)) → Ty-F Ty → Bool
serves_step Ty-F.Bool Ty-F.Bool = true
serves_step Ty-F.Int Ty-F.Int = true
serves_step Ty-F.Real Ty-F.Real = true
serves_step Ty-F.Text Ty-F.Text = true
serves_step Ty-F.Timer Ty-F.Timer = true
serves_step Ty-F.Inst Ty-F.Inst = true
serves_step Ty-F.Void Ty-F.Void = true
serves_step (Ty-F.Choice k) (Ty-F.Choice l) = nat_eq k l
serves_step (Ty-F.TupleOf given) (Ty-F.TupleOf wanted) = each_passes (map (beside test_of) given) wanted
serves_step (Ty-F.ListOf given) (Ty-F.ListOf wanted) = given.1 wanted
serves_step (Ty-F.SetOf given) (Ty-F.SetOf wanted) = same given.0 wanted
serves_step (Ty-F.DictOf key value) (Ty-F.DictOf wanted_key wanted_value) =
    same key.0 wanted_key && value.1 wanted_value
serves_step (Ty-F.Chan given element) (Ty-F.Chan wanted wanted_element) =
    serves given wanted && same element.0 wanted_element
serves_step (Ty-F.Dist given) (Ty-F.Dist wanted) = same given.0 wanted
serves_step _ _ = false

-- the given type serves as it is, with no value converted
abbrev pub fits_unconverted : Ty → Ty → Bool
fits_unconverted = para-Ty (Ty → Bool) (λ layer wanted. serves_step layer (out-Ty wanted))

-- an int where a real is wanted, which is then converted
abbrev pub widens : Ty-F Ty → Ty-F Ty → Bool
widens Ty-F.Int Ty-F.Real = true
widens _ _ = false

-- the given type serves where the other is wanted
abbrev pub fits : Ty → Ty → Bool
fits given wanted = fits_unconverted given wanted || widens (out-Ty given) (out-Ty wanted)
