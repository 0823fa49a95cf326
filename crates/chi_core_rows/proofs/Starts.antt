-- Starts: what one element stores in its target, the next one reads.
use Rattle.std.proofs.Common.{◌≡◌, ℕ, pos, List, [], ◌∷◌, Some, None, false}
use Rattle.std.specs.Prelude.{codes}
use Rattle.chi_value.specs.declared.value.Value.{Value}
use Rattle.chi_value.specs.declared.value.Value.TheVariants as value
use Rattle.chi_types.specs.declared.ty.Ty.{Ty}
use Rattle.chi_types.specs.declared.ty.Ty.TheVariants as ty
use Rattle.chi_core.specs.declared.expression.CExpr.TheVariants as e
use Rattle.chi_core.specs.declared.op_name.OpName.TheVariants as op
use Rattle.chi_core.specs.declared.statement.CStat.TheVariants as s
use Rattle.chi_core.specs.declared.element.CElem.{CElem}
use Rattle.chi_core.specs.declared.element.CElem.TheVariants.{Make, Unwind}
use Rattle.chi_core.specs.declared.label.Label.TheVariants.{Local}
use Rattle.chi_core.specs.declared.program.Core.{Core}
use Rattle.chi_core.specs.declared.program.ProcDef.{ProcDef}
use Rattle.chi_core.specs.Terms.{Do}
use Rattle.chi_core.specs.Config.{Instance, Running}
use Rattle.chi_core.specs.Variables.{Variables}
use Rattle.chi_core.specs.Starting.{makes, told_at, made_by}
use Rattle.chi_core.specs.Step.{step, Outcome, Next}
use Rattle.chi_core.proofs.Equations.{eval_lit, eval_var, eval_op}
use Rattle.chi_core_rows.proofs.Closed.{layers}
use Rattle.chi_core_rows.proofs.Parts.{parts}
use Rattle.chi_core_rows.proofs.Small.{int, number, whole, process, core_of, config_of, instance, alone, set}

-- a process with one parameter
abbrev taking : Ty → ProcDef
taking t = record { name = codes "Q"; params = t ∷ []; exit = None; slots = t ∷ []; body = s.Pass 9 ∷ [] }

abbrev core : Core
core = core_of (process [] [] ∷ taking ty.Int ∷ taking ty.Inst ∷ taking ty.Bool ∷ [])

abbrev does : Variables → List CElem → Outcome
does variables elements = step core (alone variables (Do (s.Start 4 elements) ∷ Do (s.Pass 5) ∷ [])) (Local 0) 50

abbrev goes : Variables → List Instance → Outcome
goes variables others = Next (config_of (pos 0) 0 (instance 0 variables (Do (s.Pass 5) ∷ []) Running ∷ others)) [] 49

abbrev new : ℕ → Value → Instance
new definition v = instance definition (Some v ∷ []) (Do (s.Pass 9) ∷ []) Running

-- start p = Q1(5), Q2(p), Q3(finished(p)): the first is instance 1, and isn't finished
read_back : does (Some (value.Inst None) ∷ []) (Make (Some (whole 0)) 1 (number 5 ∷ []) ∷ Make None 2 (e.Var 0 ∷ []) ∷ Make None 3 (e.Op op.Finished (e.Var 0 ∷ []) ∷ []) ∷ [])
    ≡ goes (Some (value.Inst (Some 1)) ∷ []) (new 1 (int 5) ∷ new 2 (value.Inst (Some 1)) ∷ new 3 (value.Bool false) ∷ [])
unfolding step makes told_at made_by denote.Hole.Carrier.out
read_back = simp (s.outs-Start, parts, eval_lit, eval_var, eval_op, layers)

-- start unwind i in [7, 8]: Q1(i) end
unwinds : does (None ∷ Some (value.ListOf (int 7 ∷ int 8 ∷ [])) ∷ []) (Unwind (0 ∷ []) (e.Var 1) (Make None 1 (e.Var 0 ∷ []) ∷ []) ∷ [])
    ≡ goes (set 8 ∷ Some (value.ListOf (int 7 ∷ int 8 ∷ [])) ∷ []) (new 1 (int 7) ∷ new 1 (int 8) ∷ [])
unfolding step makes told_at made_by denote.Hole.Carrier.out
unwinds = simp (s.outs-Start, parts, eval_var, layers)
