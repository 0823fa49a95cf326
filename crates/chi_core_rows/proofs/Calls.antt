-- Calls: one to its last step, and what it comes to where its cost is more than is left.
use Rattle.std.proofs.Common.{◌≡◌, refl, ℕ, [], ◌∷◌, pos, None, false, map, ◌∙◌, arith}
use Rattle.std.specs.Prelude.{codes}
use Rattle.std.specs.Fmt.{digits}
use Rattle.chi_value.specs.declared.shape.Shape.TheVariants as shape
use Rattle.chi_value.specs.declared.format.Piece.TheVariants as piece
use Rattle.chi_types.specs.declared.ty.Ty.TheVariants as ty
use Rattle.chi_core.specs.declared.expression.CExpr.{CExpr}
use Rattle.chi_core.specs.declared.expression.CExpr.TheVariants as e
use Rattle.chi_core.specs.declared.op_name.OpName.TheVariants as op
use Rattle.chi_core.specs.declared.statement.CStat.{CStat}
use Rattle.chi_core.specs.declared.statement.CStat.TheVariants as s
use Rattle.chi_core.specs.declared.fault.FaultKind.TheVariants.{CallDepth, NoReturn}
use Rattle.chi_core.specs.declared.program.Core.{Core}
use Rattle.chi_core.specs.declared.program.FuncDef.{FuncDef}
use Rattle.chi_core.specs.declared.program.ProcDef.{ProcDef}
use Rattle.chi_core.specs.declared.label.Label.TheVariants.{Local}
use Rattle.chi_core.specs.declared.scene.Scene.{Scene}
use Rattle.chi_core.specs.Answer.{Gives, Fails, Spent, Amiss}
use Rattle.chi_core.specs.Variables.{Variables}
use Rattle.chi_core.specs.Evaluation.{eval, Run}
use Rattle.chi_core.specs.Terms.{Do, Loop, Item, On, Returns, Term, act}
use Rattle.chi_core.specs.Functions.{exec, run_at}
use Rattle.chi_core.specs.Config.{Config, Running, Finished, scene_of, run_of}
use Rattle.chi_core.specs.Beginning.{start, Begins}
use Rattle.chi_core.specs.Step as outcome
use Rattle.chi_core.specs.Step.{step, Outcome, Next, Over}
use Rattle.chi_core.proofs.Equations.{eval_lit, eval_var, eval_op, eval_call, eval_default}
use Rattle.chi_core.proofs.Bodies.{exec_goes, exec_gives, exec_over, exec_none, run_found, run_lost, run_none}
use Rattle.chi_core_rows.proofs.Closed.{closed}
use Rattle.chi_core_rows.proofs.Small.{int, number, whole, config_of, instance, set, left_of}

abbrev declare : CStat
declare = s.Declare 1 1 (e.Default shape.Int)

abbrev test : CExpr
test = e.Op op.Greater (e.Var 0 ∷ number 0 ∷ [])

abbrev adds : CStat
adds = s.Assign 1 (whole 1 ∷ []) (e.Op op.Add (e.Var 1 ∷ e.Var 0 ∷ []) ∷ [])

abbrev takes : CStat
takes = s.Assign 1 (whole 0 ∷ []) (e.Op op.Sub (e.Var 0 ∷ number 1 ∷ []) ∷ [])

abbrev loop : CStat
loop = s.While 1 test (adds ∷ takes ∷ [])

abbrev ret : CStat
ret = s.Return 1 (e.Var 1)

-- func int f(int n): int s; while n > 0: s = s + n; n = n - 1 end; return s end
abbrev sums : FuncDef
sums = record { name = codes "f"; arity = 1; result = ty.Int; slots = ty.Int ∷ ty.Int ∷ []; body = declare ∷ loop ∷ ret ∷ [] }

abbrev call : CExpr
call = e.Call 0 (number 3 ∷ [])

-- model M(): writeln("%d", f(3)) end
abbrev shows : ProcDef
shows = record {
  name = codes "M";
  params = [];
  exit = None;
  slots = [];
  body = s.Write 1 (piece.Whole (record { left = false; width = 0 }) ∷ piece.Plain (10 ∷ []) ∷ []) (call ∷ []) ∷ [];
}

abbrev core : Core
core = record { consts = []; funcs = sums ∷ []; procs = shows ∷ []; model = 0; names = record { kinds = [] }; xpers = [] }

abbrev config : Config
config = config_of (pos 0) 0 (instance 0 [] (map Do shows.body) Running ∷ [])

abbrev after : Config
after = config_of (pos 0) 0 (instance 0 [] [] Finished ∷ [])

begins : start core [] 0 None ≡ Begins config
begins = refl

abbrev here : Scene
here = scene_of core config

abbrev run : Run
run = run_at 499 (sums ∷ []) here

-- the variables n and s
abbrev both : ℕ → ℕ → Variables
both n s = set n ∷ set s ∷ []

abbrev fresh : Variables
fresh = set 3 ∷ None ∷ []

abbrev again : Item
again = Loop 1 test (adds ∷ takes ∷ [])

abbrev last : Term
last = Do ret ∷ []

-- an item of the body with these variables and this view, in general in how much is left
abbrev goes : Variables → Item → Term → ℕ → Variables → Term → Type 0
goes variables item term left new more = act (eval run here variables) variables item term (left_of left) ≡ Gives (On new more) (left_of left)

declares : (left : ℕ) → goes fresh (Do declare) (Do loop ∷ last) left (both 3 0) (Do loop ∷ last)
unfolding denote.Hole.Carrier.out
declares left = simp (eval_default, s.outs-Declare, closed)

enters : (left : ℕ) → goes (both 3 0) (Do loop) last left (both 3 0) (Do adds ∷ Do takes ∷ again ∷ last)
unfolding denote.Hole.Carrier.out
enters left = simp (eval_lit, eval_var, eval_op, s.outs-While, closed)

adds_3 : (left : ℕ) → goes (both 3 0) (Do adds) (Do takes ∷ again ∷ last) left (both 3 3) (Do takes ∷ again ∷ last)
unfolding denote.Hole.Carrier.out
adds_3 left = simp (eval_lit, eval_var, eval_op, s.outs-Assign, closed)

takes_3 : (left : ℕ) → goes (both 3 3) (Do takes) (again ∷ last) left (both 2 3) (again ∷ last)
unfolding denote.Hole.Carrier.out
takes_3 left = simp (eval_lit, eval_var, eval_op, s.outs-Assign, closed)

tests_2 : (left : ℕ) → goes (both 2 3) again last left (both 2 3) (Do adds ∷ Do takes ∷ again ∷ last)
unfolding denote.Hole.Carrier.out
tests_2 left = simp (eval_lit, eval_var, eval_op, closed)

adds_2 : (left : ℕ) → goes (both 2 3) (Do adds) (Do takes ∷ again ∷ last) left (both 2 5) (Do takes ∷ again ∷ last)
unfolding denote.Hole.Carrier.out
adds_2 left = simp (eval_lit, eval_var, eval_op, s.outs-Assign, closed)

takes_2 : (left : ℕ) → goes (both 2 5) (Do takes) (again ∷ last) left (both 1 5) (again ∷ last)
unfolding denote.Hole.Carrier.out
takes_2 left = simp (eval_lit, eval_var, eval_op, s.outs-Assign, closed)

tests_1 : (left : ℕ) → goes (both 1 5) again last left (both 1 5) (Do adds ∷ Do takes ∷ again ∷ last)
unfolding denote.Hole.Carrier.out
tests_1 left = simp (eval_lit, eval_var, eval_op, closed)

adds_1 : (left : ℕ) → goes (both 1 5) (Do adds) (Do takes ∷ again ∷ last) left (both 1 6) (Do takes ∷ again ∷ last)
unfolding denote.Hole.Carrier.out
adds_1 left = simp (eval_lit, eval_var, eval_op, s.outs-Assign, closed)

takes_1 : (left : ℕ) → goes (both 1 6) (Do takes) (again ∷ last) left (both 0 6) (again ∷ last)
unfolding denote.Hole.Carrier.out
takes_1 left = simp (eval_lit, eval_var, eval_op, s.outs-Assign, closed)

tests_0 : (left : ℕ) → goes (both 0 6) again last left (both 0 6) (last)
unfolding denote.Hole.Carrier.out
tests_0 left = simp (eval_lit, eval_var, eval_op, closed)

returns : (left : ℕ) → act (eval run here (both 0 6)) (both 0 6) (Do ret) [] (left_of left) ≡ Gives (Returns (int 6)) (left_of left)
unfolding denote.Hole.Carrier.out
returns left = simp (eval_var, s.outs-Return)

-- the body takes 12 turns
body : exec 12 run here fresh (map Do sums.body) (left_of 12) ≡ Gives (int 6) (left_of 0)
body =
    exec_goes run here (fresh) (left_of 12) 12 (Do declare) _ (Do loop ∷ last) (both 3 0) (Do loop ∷ last) (left_of 11) refl (omega arith) (omega arith) (declares 11) ∙
    exec_goes run here (both 3 0) (left_of 11) 11 (Do loop) _ (last) (both 3 0) (Do adds ∷ Do takes ∷ again ∷ last) (left_of 10) refl (omega arith) (omega arith) (enters 10) ∙
    exec_goes run here (both 3 0) (left_of 10) 10 (Do adds) _ (Do takes ∷ again ∷ last) (both 3 3) (Do takes ∷ again ∷ last) (left_of 9) refl (omega arith) (omega arith) (adds_3 9) ∙
    exec_goes run here (both 3 3) (left_of 9) 9 (Do takes) _ (again ∷ last) (both 2 3) (again ∷ last) (left_of 8) refl (omega arith) (omega arith) (takes_3 8) ∙
    exec_goes run here (both 2 3) (left_of 8) 8 (again) _ (last) (both 2 3) (Do adds ∷ Do takes ∷ again ∷ last) (left_of 7) refl (omega arith) (omega arith) (tests_2 7) ∙
    exec_goes run here (both 2 3) (left_of 7) 7 (Do adds) _ (Do takes ∷ again ∷ last) (both 2 5) (Do takes ∷ again ∷ last) (left_of 6) refl (omega arith) (omega arith) (adds_2 6) ∙
    exec_goes run here (both 2 5) (left_of 6) 6 (Do takes) _ (again ∷ last) (both 1 5) (again ∷ last) (left_of 5) refl (omega arith) (omega arith) (takes_2 5) ∙
    exec_goes run here (both 1 5) (left_of 5) 5 (again) _ (last) (both 1 5) (Do adds ∷ Do takes ∷ again ∷ last) (left_of 4) refl (omega arith) (omega arith) (tests_1 4) ∙
    exec_goes run here (both 1 5) (left_of 4) 4 (Do adds) _ (Do takes ∷ again ∷ last) (both 1 6) (Do takes ∷ again ∷ last) (left_of 3) refl (omega arith) (omega arith) (adds_1 3) ∙
    exec_goes run here (both 1 6) (left_of 3) 3 (Do takes) _ (again ∷ last) (both 0 6) (again ∷ last) (left_of 2) refl (omega arith) (omega arith) (takes_1 2) ∙
    exec_goes run here (both 0 6) (left_of 2) 2 (again) _ (last) (both 0 6) (last) (left_of 1) refl (omega arith) (omega arith) (tests_0 1) ∙
    exec_gives run here (both 0 6) (left_of 1) 1 (Do ret) _ [] (int 6) (left_of 0) refl (omega arith) (omega arith) (returns 0)

-- and eleven are too few
too_short : exec 11 run here fresh (map Do sums.body) (left_of 11) ≡ Spent
too_short =
    exec_goes run here (fresh) (left_of 11) 11 (Do declare) _ (Do loop ∷ last) (both 3 0) (Do loop ∷ last) (left_of 10) refl (omega arith) (omega arith) (declares 10) ∙
    exec_goes run here (both 3 0) (left_of 10) 10 (Do loop) _ (last) (both 3 0) (Do adds ∷ Do takes ∷ again ∷ last) (left_of 9) refl (omega arith) (omega arith) (enters 9) ∙
    exec_goes run here (both 3 0) (left_of 9) 9 (Do adds) _ (Do takes ∷ again ∷ last) (both 3 3) (Do takes ∷ again ∷ last) (left_of 8) refl (omega arith) (omega arith) (adds_3 8) ∙
    exec_goes run here (both 3 3) (left_of 8) 8 (Do takes) _ (again ∷ last) (both 2 3) (again ∷ last) (left_of 7) refl (omega arith) (omega arith) (takes_3 7) ∙
    exec_goes run here (both 2 3) (left_of 7) 7 (again) _ (last) (both 2 3) (Do adds ∷ Do takes ∷ again ∷ last) (left_of 6) refl (omega arith) (omega arith) (tests_2 6) ∙
    exec_goes run here (both 2 3) (left_of 6) 6 (Do adds) _ (Do takes ∷ again ∷ last) (both 2 5) (Do takes ∷ again ∷ last) (left_of 5) refl (omega arith) (omega arith) (adds_2 5) ∙
    exec_goes run here (both 2 5) (left_of 5) 5 (Do takes) _ (again ∷ last) (both 1 5) (again ∷ last) (left_of 4) refl (omega arith) (omega arith) (takes_2 4) ∙
    exec_goes run here (both 1 5) (left_of 4) 4 (again) _ (last) (both 1 5) (Do adds ∷ Do takes ∷ again ∷ last) (left_of 3) refl (omega arith) (omega arith) (tests_1 3) ∙
    exec_goes run here (both 1 5) (left_of 3) 3 (Do adds) _ (Do takes ∷ again ∷ last) (both 1 6) (Do takes ∷ again ∷ last) (left_of 2) refl (omega arith) (omega arith) (adds_1 2) ∙
    exec_goes run here (both 1 6) (left_of 2) 2 (Do takes) _ (again ∷ last) (both 0 6) (again ∷ last) (left_of 1) refl (omega arith) (omega arith) (takes_1 1) ∙
    exec_goes run here (both 0 6) (left_of 1) 1 (again) _ (last) (both 0 6) (last) (left_of 0) refl (omega arith) (omega arith) (tests_0 0) ∙
    exec_over run here (both 0 6) (left_of 0) 0 (Do ret) _ [] refl refl

called : eval (run_of core config) here [] call (left_of 12) ≡ Gives (int 6) (left_of 0)
called = simp (eval_call, eval_lit) (run_found (sums ∷ []) here 0 (int 3 ∷ []) (left_of 12) 500 sums (omega arith) refl ∙ body)

-- so the step costs 13
enough : step core config (Local 0) 13 ≡ Next after (codes "6\n") 0
unfolding step denote.Hole.Carrier.out digits
enough = simp (called, s.outs-Write, closed)

called_short : eval (run_of core config) here [] call (left_of 11) ≡ Spent
called_short = simp (eval_call, eval_lit) (run_found (sums ∷ []) here 0 (int 3 ∷ []) (left_of 11) 500 sums (omega arith) refl ∙ too_short)

one_less : step core config (Local 0) 12 ≡ outcome.Spent
unfolding step denote.Hole.Carrier.out
one_less = simp (called_short, s.outs-Write)

-- a call within 500 others, a body without return, a function that isn't there, and too many arguments

too_deep : run_at 0 (sums ∷ []) here 0 (int 3 ∷ []) (left_of 12) ≡ Fails CallDepth
too_deep = run_none (sums ∷ []) here 0 (int 3 ∷ []) (left_of 12) 0 refl

no_return : exec 12 run here fresh [] (left_of 12) ≡ Fails NoReturn
no_return = exec_none run here fresh (left_of 12) 12 [] refl

no_function : run_at 500 (sums ∷ []) here 1 (int 3 ∷ []) (left_of 12) ≡ Amiss
no_function = run_lost (sums ∷ []) here 1 (int 3 ∷ []) (left_of 12) 500 (omega arith) refl

too_many : run_at 500 (sums ∷ []) here 0 (int 3 ∷ int 4 ∷ []) (left_of 12) ≡ Amiss
too_many = run_lost (sums ∷ []) here 0 (int 3 ∷ int 4 ∷ []) (left_of 12) 500 (omega arith) refl
