-- Expressions, of each kind.
use Rattle.std.proofs.Common.{◌≡◌, ℕ, zero, List, [], ◌∷◌, pos, negsuc, None, Some, Bool, true, false, map}
use Rattle.std.specs.Prelude.{int_lt}
use Rattle.chi_value.specs.declared.value.Value.{Value, Value-F, out-Value}
use Rattle.chi_value.specs.declared.value.Value.TheVariants as value
use Rattle.chi_value.specs.declared.shape.Shape.TheVariants as shape
use Rattle.chi_value.specs.declared.format.Kind.TheVariants as kind
use Rattle.chi_ops.specs.Conditions.{takes_at}
use Rattle.chi_ops.specs.Sequences.{insert_at}
use Rattle.chi_core.specs.declared.expression.CExpr.{CExpr}
use Rattle.chi_core.specs.declared.expression.CExpr.TheVariants as e
use Rattle.chi_core.specs.declared.op_name.OpName.TheVariants as op
use Rattle.chi_core.specs.declared.fault.FaultKind.TheVariants.{TooLarge, TooManyChannels, DivideByZero}
use Rattle.chi_core.specs.declared.view.View.{View}
use Rattle.chi_core.specs.declared.scene.Scene.{Scene}
use Rattle.chi_core.specs.Answer.{Answer, Gives, Fails, Amiss}
use Rattle.chi_core.specs.Variables.{Variables}
use Rattle.chi_core.specs.Evaluation.{eval, Run}
use Rattle.chi_core.specs.Beginning.{no_draws}
use Rattle.chi_core.proofs.Equations.{eval_lit, eval_var, eval_const, eval_op, eval_and, eval_or, eval_build, eval_part, eval_call, eval_insert, eval_default, eval_repeat}
use Rattle.chi_core_rows.proofs.Closed.{closed}
use Rattle.chi_core_rows.proofs.Small.{int, number, set, left_of}

abbrev scene : Scene
scene = record { names = record { kinds = [] }; seed = 0; clock = pos 3; constants = int 8 ∷ []; finished = [] }

-- a function 0 that says whether its first argument is below its second
abbrev is_below : Value-F Value → Value-F Value → Answer Value
is_below (Value-F.Int x) (Value-F.Int y) = Gives (value.Bool (int_lt x y)) (left_of 5)
is_below _ _ = Amiss

abbrev run : Run
run zero (x ∷ y ∷ []) view = is_below (out-Value x) (out-Value y)
run _ _ view = Amiss

abbrev value_of : Variables → CExpr → Answer Value
value_of variables e = eval run scene variables e (left_of 5)

abbrev gives : Value → Answer Value
gives v = Gives v (left_of 5)

literal : value_of [] (number 3) ≡ gives (int 3)
literal = eval_lit run scene [] (left_of 5) (int 3)

variable : value_of (set 3 ∷ None ∷ []) (e.Var 0) ≡ gives (int 3)
variable = eval_var run scene (set 3 ∷ None ∷ []) (left_of 5) 0

not_set : value_of (set 3 ∷ None ∷ []) (e.Var 1) ≡ Amiss
not_set = eval_var run scene (set 3 ∷ None ∷ []) (left_of 5) 1

constant : value_of [] (e.Const 0) ≡ gives (int 8)
constant = eval_const run scene [] (left_of 5) 0

-- from left to right, so that the first fault decides
first_fault : value_of (None ∷ []) (e.Op op.Add (e.Op op.Div (number 1 ∷ number 0 ∷ []) ∷ e.Var 0 ∷ [])) ≡ Fails DivideByZero
unfolding denote.Hole.Carrier.out
first_fault = simp (eval_op, eval_lit, closed)

abbrev truth : Bool → CExpr
truth x = e.Lit (value.Bool x)

-- what need not be evaluated isn't: variable 0 isn't set
both_stops : value_of (None ∷ []) (e.And (truth false) (e.Var 0)) ≡ gives (value.Bool false)
unfolding denote.Hole.Carrier.out
both_stops = simp (eval_and, eval_lit, closed)

either_stops : value_of (None ∷ []) (e.Or (truth true) (e.Var 0)) ≡ gives (value.Bool true)
unfolding denote.Hole.Carrier.out
either_stops = simp (eval_or, eval_lit, closed)

both_go_on : value_of [] (e.And (truth true) (truth false)) ≡ gives (value.Bool false)
unfolding denote.Hole.Carrier.out
both_go_on = simp (eval_and, eval_lit, closed)

part : value_of (Some (value.TupleOf (int 7 ∷ int 8 ∷ [])) ∷ []) (e.Part (e.Var 0) 1) ≡ gives (int 8)
unfolding denote.Hole.Carrier.out
part = simp (eval_part, eval_var, closed)

no_part : value_of (Some (value.TupleOf (int 7 ∷ int 8 ∷ [])) ∷ []) (e.Part (e.Var 0) 2) ≡ Amiss
unfolding denote.Hole.Carrier.out
no_part = simp (eval_part, eval_var, closed)

built_list : value_of [] (e.Build kind.ListOf (number 7 ∷ number 8 ∷ [])) ≡ gives (value.ListOf (int 7 ∷ int 8 ∷ []))
unfolding denote.Hole.Carrier.out
built_list = simp (eval_build, eval_lit, closed)

abbrev channels : ℕ → View
channels count = record { left = 5; draws = no_draws; channels = count; instances = 1 }

-- each channel of a default is new
fresh : value_of [] (e.Default (shape.TupleOf (shape.Chan ∷ shape.Int ∷ shape.Chan ∷ []))) ≡ Gives (value.TupleOf (value.Chan 0 ∷ int 0 ∷ value.Chan 1 ∷ [])) (channels 2)
unfolding denote.Hole.Carrier.out
fresh = simp (eval_default, closed)

most_channels : eval run scene [] (e.Default shape.Chan) (channels 1_000_000) ≡ Fails TooManyChannels
unfolding denote.Hole.Carrier.out
most_channels = simp (eval_default, closed)

-- list(2) chan void
repeats : value_of [] (e.Repeat (number 2) (e.Default shape.Chan)) ≡ Gives (value.ListOf (value.Chan 0 ∷ value.Chan 1 ∷ [])) (channels 2)
unfolding denote.Hole.Carrier.out
repeats = simp (eval_repeat, eval_default, eval_lit, closed)

repeats_below_0 : value_of [] (e.Repeat (e.Lit (value.Int (negsuc 0))) (e.Default shape.Chan)) ≡ Fails TooLarge
unfolding denote.Hole.Carrier.out
repeats_below_0 = simp (eval_repeat, eval_lit, closed)

repeats_too_often : value_of [] (e.Repeat (number 1_048_577) (e.Default shape.Chan)) ≡ Fails TooLarge
unfolding denote.Hole.Carrier.out
repeats_too_often = simp (eval_repeat, eval_lit, closed)

abbrev list : List ℕ → Value
list ns = value.ListOf (map int ns)

-- 5 comes before the first that it is below
inserts : value_of (Some (list (2 ∷ 9 ∷ 7 ∷ [])) ∷ []) (e.InsertBy (e.Var 0) (number 5) 0) ≡ gives (list (2 ∷ 5 ∷ 9 ∷ 7 ∷ []))
unfolding denote.Hole.Carrier.out
inserts = simp (eval_insert, eval_lit, eval_var, insert_at, takes_at, closed)

inserts_last : value_of (Some (list (2 ∷ [])) ∷ []) (e.InsertBy (e.Var 0) (number 5) 0) ≡ gives (list (2 ∷ 5 ∷ []))
unfolding denote.Hole.Carrier.out
inserts_last = simp (eval_insert, eval_lit, eval_var, insert_at, takes_at, closed)

calls : value_of [] (e.Call 0 (number 5 ∷ number 9 ∷ [])) ≡ gives (value.Bool true)
unfolding denote.Hole.Carrier.out
calls = simp (eval_call, eval_lit, closed)
