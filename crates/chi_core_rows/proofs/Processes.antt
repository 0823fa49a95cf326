-- One step of each statement that only processes have.
use Rattle.std.proofs.Common.{◌≡◌, ℕ, ◌*◌, pos, List, [], ◌∷◌, Some, None, true, false}
use Rattle.std.specs.Prelude.{codes}
use Rattle.std.specs.Fmt.{digits}
use Rattle.chi_num.specs.Decimal.{last_digits}
use Rattle.chi_value.specs.declared.value.Value.{Value}
use Rattle.chi_value.specs.declared.value.Value.TheVariants as value
use Rattle.chi_value.specs.declared.format.Piece.TheVariants as piece
use Rattle.chi_value.specs.Text.{quoted_text}
use Rattle.chi_types.specs.declared.ty.Ty.TheVariants as ty
use Rattle.chi_core.specs.declared.expression.CExpr.TheVariants as e
use Rattle.chi_core.specs.declared.statement.CStat.{CStat}
use Rattle.chi_core.specs.declared.statement.CStat.TheVariants as s
use Rattle.chi_core.specs.declared.statement.CAlt.{CAlt}
use Rattle.chi_core.specs.declared.statement.CAlt.TheVariants as a
use Rattle.chi_core.specs.declared.communication.CComm.{CComm}
use Rattle.chi_core.specs.declared.communication.CComm.TheVariants as comm
use Rattle.chi_core.specs.declared.element.CElem.TheVariants as elem
use Rattle.chi_core.specs.declared.label.Label.TheVariants.{Local}
use Rattle.chi_core.specs.declared.program.Core.{Core}
use Rattle.chi_core.specs.declared.program.ProcDef.{ProcDef}
use Rattle.chi_core.specs.declared.verdict.Verdict.TheVariants.{Exit}
use Rattle.chi_core.specs.declared.act.Act.TheVariants.{Send, Receive, Delay}
use Rattle.chi_core.specs.Terms.{Do, Item}
use Rattle.chi_core.specs.Config.{Instance, State, Running, Waiting, Joining}
use Rattle.chi_core.specs.Variables.{Variables}
use Rattle.chi_core.specs.Starting.{makes, told_at, made_by}
use Rattle.chi_core.specs.Step.{step, Outcome, Next, Over, Amiss}
use Rattle.chi_core.proofs.Equations.{eval_lit, eval_var}
use Rattle.chi_core_rows.proofs.Closed.{closed, layers}
use Rattle.chi_core_rows.proofs.Parts.{parts}
use Rattle.chi_core_rows.proofs.Small.{int, number, whole, process, core_of, config_of, instance, alone, set}

-- process 1 has one parameter and writes nothing
abbrev other : ProcDef
other = record { name = codes "Q"; params = ty.Int ∷ []; exit = None; slots = ty.Int ∷ []; body = s.Pass 9 ∷ [] }

abbrev core : Core
core = core_of (process [] [] ∷ other ∷ [])

-- the step of the only instance, which has these variables and does this statement
abbrev does : Variables → CStat → Outcome
does variables statement = step core (alone variables (Do statement ∷ rest ∷ [])) (Local 0) 50
  where
    rest : Item
    rest = Do (s.Pass 2)

-- it goes on with these, in a state
abbrev goes : Variables → State → List Instance → List ℕ → Outcome
goes variables state others text = Next (config_of (pos 0) 0 (instance 0 variables (Do (s.Pass 2) ∷ []) state ∷ others)) text 49

-- writeln("%d", 42)
writes : does [] (s.Write 1 (piece.Whole (record { left = false; width = 0 }) ∷ piece.Plain (10 ∷ []) ∷ []) (number 42 ∷ [])) ≡ goes [] Running [] (codes "42\n")
unfolding step denote.Hole.Carrier.out digits
writes = simp (s.outs-Write, eval_lit, layers)

-- writeln("%-3d|%.1f", 4, 2.25)
writes_fields : does [] (s.Write 1 (piece.Whole (record { left = true; width = 3 }) ∷ piece.Plain (codes "|") ∷ piece.Fixed (record { left = false; width = 0 }) 1 ∷ piece.Plain (10 ∷ []) ∷ [])
    (number 4 ∷ e.Lit (value.Real (pos 2_250_000_000)) ∷ []))
    ≡ goes [] Running [] (codes "4  |2.3\n")
unfolding step denote.Hole.Carrier.out digits last_digits
writes_fields = simp (s.outs-Write, eval_lit, layers)

-- exit 7, and exit
exits : does [] (s.Exit 1 (Some (number 7))) ≡ Over (Exit (Some (int 7)))
unfolding step denote.Hole.Carrier.out digits
exits = simp (s.outs-Exit, eval_lit, closed, quoted_text)

exits_bare : does [] (s.Exit 1 None) ≡ Over (Exit None)
unfolding step denote.Hole.Carrier.out
exits_bare = simp s.outs-Exit

abbrev of_seconds : ℕ → Value
of_seconds n = value.Real (pos (n * 1_000_000_000))

abbrev body : List CStat
body = s.Pass 3 ∷ []

abbrev alternative : CComm → CAlt
alternative communication = a.Guarded None communication body

-- select c!5 alt c?x alt c! alt delay 2.0 alt delay t
selects : does (Some (value.Chan 4) ∷ None ∷ Some (value.Timer (pos 7)) ∷ [])
    (s.Select 1 (alternative (comm.Send (whole 0) (Some (number 5))) ∷ alternative (comm.Receive (whole 0) (Some 1)) ∷ alternative (comm.Send (whole 0) None)
    ∷ alternative (comm.Delay (e.Lit (of_seconds 2))) ∷ alternative (comm.Timer (e.Var 2)) ∷ []))
    ≡ goes (Some (value.Chan 4) ∷ None ∷ Some (value.Timer (pos 7)) ∷ []) (Waiting (
    record { act = Send 4 (Some (int 5)); bindings = []; body = body }
    ∷ record { act = Receive 4 (Some 1); bindings = []; body = body }
    ∷ record { act = Send 4 None; bindings = []; body = body }
    ∷ record { act = Delay (pos 2_000_000_000); bindings = []; body = body }
    ∷ record { act = Delay (pos 7); bindings = []; body = body } ∷ [])) [] []
unfolding step denote.Hole.Carrier.out
selects = simp (s.outs-Select, parts, eval_lit, eval_var, layers)

-- start Q(5)
starts : does [] (s.Start 1 (elem.Make None 1 (number 5 ∷ []) ∷ [])) ≡ goes [] Running (instance 1 (set 5 ∷ []) (Do (s.Pass 9) ∷ []) Running ∷ []) []
unfolding step makes told_at made_by denote.Hole.Carrier.out
starts = simp (s.outs-Start, parts, eval_lit)

-- run Q(5)
runs : does [] (s.Run 1 (elem.Make None 1 (number 5 ∷ []) ∷ [])) ≡ goes [] (Joining (1 ∷ [])) (instance 1 (set 5 ∷ []) (Do (s.Pass 9) ∷ []) Running ∷ []) []
unfolding step makes told_at made_by denote.Hole.Carrier.out
runs = simp (s.outs-Run, parts, eval_lit)

-- finish p, q, where p is this very instance and q is none
finishes : does (Some (value.Inst (Some 0)) ∷ Some (value.Inst None) ∷ []) (s.Finish 1 (e.Var 0 ∷ e.Var 1 ∷ []))
    ≡ goes (Some (value.Inst (Some 0)) ∷ Some (value.Inst None) ∷ []) (Joining (0 ∷ [])) [] []
unfolding step denote.Hole.Carrier.out
finishes = simp (s.outs-Finish, eval_var, layers)

-- an instance that isn't there is amiss, and so is a process that isn't there, or that takes other arguments
no_instance : does (Some (value.Inst (Some 1)) ∷ []) (s.Finish 1 (e.Var 0 ∷ [])) ≡ Amiss
unfolding step denote.Hole.Carrier.out
no_instance = simp (s.outs-Finish, eval_var, layers)

no_process : does [] (s.Start 1 (elem.Make None 2 (number 5 ∷ []) ∷ [])) ≡ Amiss
unfolding step makes told_at made_by denote.Hole.Carrier.out
no_process = simp (s.outs-Start, parts, eval_lit)

too_few : does [] (s.Start 1 (elem.Make None 1 [] ∷ [])) ≡ Amiss
unfolding step makes told_at made_by denote.Hole.Carrier.out
too_few = simp (s.outs-Start, parts)
