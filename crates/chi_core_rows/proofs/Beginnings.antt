-- Beginnings: constants in file order, and a fault in one of them.
use Rattle.std.proofs.Common.{◌≡◌, refl, ℕ, pos, List, [], ◌∷◌, None, Some}
use Rattle.std.specs.Prelude.{codes}
use Rattle.chi_types.specs.declared.ty.Ty.TheVariants as ty
use Rattle.chi_core.specs.declared.expression.CExpr.{CExpr}
use Rattle.chi_core.specs.declared.expression.CExpr.TheVariants as e
use Rattle.chi_core.specs.declared.op_name.OpName.TheVariants as op
use Rattle.chi_core.specs.declared.statement.CStat.TheVariants as s
use Rattle.chi_core.specs.declared.program.Core.{Core}
use Rattle.chi_core.specs.declared.program.ConstDef.{ConstDef}
use Rattle.chi_core.specs.declared.program.ProcDef.{ProcDef}
use Rattle.chi_core.specs.declared.fault.FaultKind.TheVariants.{DivideByZero}
use Rattle.chi_core.specs.declared.verdict.Verdict.TheVariants.{Fault}
use Rattle.chi_core.specs.Terms.{Do}
use Rattle.chi_core.specs.Config.{Running}
use Rattle.chi_core.specs.Beginning.{Begins, Breaks, Amiss, start}
use Rattle.chi_core.proofs.Equations.{eval_lit, eval_const, eval_op}
use Rattle.chi_core_rows.proofs.Closed.{closed}
use Rattle.chi_core_rows.proofs.Small.{int, number, config_of, instance, set}

abbrev constant : ℕ → CExpr → ConstDef
constant line e = record { line = line; ty = ty.Int; value = e }

-- model M(int n)
abbrev model : ProcDef
model = record { name = codes "M"; params = ty.Int ∷ []; exit = None; slots = ty.Int ∷ ty.Int ∷ []; body = s.Pass 1 ∷ [] }

abbrev core : List ConstDef → Core
core constants = record { consts = constants; funcs = []; procs = model ∷ []; model = 0; names = record { kinds = [] }; xpers = [] }

-- const int a = 4, and const int b = a + 3: the second reads the first
begins : start (core (constant 1 (number 4) ∷ constant 2 (e.Op op.Add (e.Const 0 ∷ number 3 ∷ [])) ∷ [])) (int 9 ∷ []) 5 (Some (pos 8))
    ≡ Begins (record (config_of (pos 0) 0 (instance 0 (set 9 ∷ None ∷ []) (Do (s.Pass 1) ∷ []) Running ∷ [])) { seed = 5; until = Some (pos 8); constants = int 4 ∷ int 7 ∷ [] })
unfolding denote.Hole.Carrier.out
begins = simp (eval_lit, eval_const, eval_op, closed)

breaks : start (core (constant 1 (number 4) ∷ constant 2 (e.Op op.Div (e.Const 0 ∷ number 0 ∷ [])) ∷ [])) (int 9 ∷ []) 5 None
    ≡ Breaks (record { verdict = Fault DivideByZero (codes "const") 2; clock = pos 0 })
unfolding denote.Hole.Carrier.out
breaks = simp (eval_lit, eval_const, eval_op, closed)

-- a constant reads only those before it, and the model takes as many arguments as it has parameters
later : start (core (constant 1 (e.Const 1) ∷ constant 2 (number 4) ∷ [])) (int 9 ∷ []) 5 None ≡ Amiss
unfolding denote.Hole.Carrier.out
later = simp (eval_const)

no_argument : start (core []) [] 5 None ≡ Amiss
no_argument = refl
