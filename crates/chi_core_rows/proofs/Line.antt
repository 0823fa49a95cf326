-- A program: a model with a line of two processes that meet, started by an unwind, and one function.
--
--     func int twice(int n): return n + n end
--     proc S(chan! int a): a!twice(3) end
--     proc R(chan? int a): int x; a?x; writeln("%d", x) end
--     model M(): chan int c; run unwind i in range(1): S(c) end, R(c) end
use Rattle.std.proofs.Common.{ℕ, pos, false, Some, None, [], ◌∷◌}
use Rattle.std.specs.Prelude.{codes}
use Rattle.chi_types.specs.declared.ty.Ty.TheVariants as ty
use Rattle.chi_types.specs.declared.ty.Way.TheVariants as way
use Rattle.chi_value.specs.declared.format.Field.{Field}
use Rattle.chi_value.specs.declared.format.Piece.TheVariants as piece
use Rattle.chi_value.specs.declared.shape.Shape.TheVariants as shape
use Rattle.chi_value.specs.declared.value.Value.TheVariants as value
use Rattle.chi_core.specs.declared.communication.CComm.TheVariants as comm
use Rattle.chi_core.specs.declared.element.CElem.TheVariants as elem
use Rattle.chi_core.specs.declared.expression.CExpr.{CExpr}
use Rattle.chi_core.specs.declared.expression.CExpr.TheVariants as e
use Rattle.chi_core.specs.declared.op_name.OpName.TheVariants as op
use Rattle.chi_core.specs.declared.program.Core.{Core}
use Rattle.chi_core.specs.declared.program.FuncDef.{FuncDef}
use Rattle.chi_core.specs.declared.program.ProcDef.{ProcDef}
use Rattle.chi_core.specs.declared.statement.CAlt.TheVariants as a
use Rattle.chi_core.specs.declared.statement.CStat.TheVariants as s
use Rattle.chi_core.specs.declared.target.CTarget.{CTarget}

abbrev pub slot : ℕ → CTarget
slot n = record { slot = n; steps = [] }

abbrev pub int : ℕ → CExpr
int n = e.Lit (value.Int (pos n))

abbrev pub bare : Field
bare = record { left = false; width = 0 }

abbrev pub twice : FuncDef
twice = record {
  name = codes "twice";
  arity = 1;
  result = ty.Int;
  slots = ty.Int ∷ [];
  body = s.Return 1 (e.Op op.Add (e.Var 0 ∷ e.Var 0 ∷ [])) ∷ [];
}

abbrev pub sender : ProcDef
sender = record {
  name = codes "S";
  params = ty.Chan way.Send ty.Int ∷ [];
  exit = None;
  slots = ty.Chan way.Send ty.Int ∷ [];
  body = s.Select 2 (a.Guarded None (comm.Send (slot 0) (Some (e.Call 0 (int 3 ∷ [])))) [] ∷ []) ∷ [];
}

abbrev pub receiver : ProcDef
receiver = record {
  name = codes "R";
  params = ty.Chan way.Receive ty.Int ∷ [];
  exit = None;
  slots = ty.Chan way.Receive ty.Int ∷ ty.Int ∷ [];
  body = s.Declare 3 1 (e.Default shape.Int)
      ∷ s.Select 3 (a.Guarded None (comm.Receive (slot 0) (Some 1)) [] ∷ [])
      ∷ s.Write 3 (piece.Whole bare ∷ piece.Plain (10 ∷ []) ∷ []) (e.Var 1 ∷ []) ∷ [];
}

abbrev pub model : ProcDef
model = record {
  name = codes "M";
  params = [];
  exit = None;
  slots = ty.Chan way.Both ty.Int ∷ ty.Int ∷ [];
  body = s.Declare 4 0 (e.Default shape.Chan)
      ∷ s.Run 4 (elem.Unwind (1 ∷ []) (e.Op op.Range (int 1 ∷ [])) (elem.Make None 0 (e.Var 0 ∷ []) ∷ []) ∷ elem.Make None 1 (e.Var 0 ∷ []) ∷ []) ∷ [];
}

abbrev pub line_of_two : Core
line_of_two = record {
  consts = [];
  funcs = twice ∷ [];
  procs = sender ∷ receiver ∷ model ∷ [];
  model = 2;
  names = record { kinds = [] };
  xpers = [];
}
