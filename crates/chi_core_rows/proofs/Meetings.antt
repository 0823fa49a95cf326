-- Two instances that meet, up to their deadlock; and a select that offers both ends of one channel.
use Rattle.std.proofs.Common.{◌≡◌, ℕ, suc, pos, List, [], ◌∷◌, Some, None, map, false, refl, sym, subst, inl, arith}
use Rattle.std.specs.Prelude.{codes}
use Rattle.std.specs.Fmt.{digits}
use Rattle.chi_value.specs.declared.value.Value.TheVariants as value
use Rattle.chi_value.specs.declared.shape.Shape.TheVariants as shape
use Rattle.chi_value.specs.declared.format.Piece.TheVariants as piece
use Rattle.chi_types.specs.declared.ty.Ty.TheVariants as ty
use Rattle.chi_types.specs.declared.ty.Way.TheVariants as way
use Rattle.chi_core.specs.declared.expression.CExpr.TheVariants as e
use Rattle.chi_core.specs.declared.statement.CStat.{CStat}
use Rattle.chi_core.specs.declared.statement.CStat.TheVariants as s
use Rattle.chi_core.specs.declared.statement.CAlt.TheVariants.{Guarded}
use Rattle.chi_core.specs.declared.communication.CComm.TheVariants as comm
use Rattle.chi_core.specs.declared.element.CElem.TheVariants.{Make}
use Rattle.chi_core.specs.declared.label.Label.{Label}
use Rattle.chi_core.specs.declared.label.Label.TheVariants.{Local, Pair}
use Rattle.chi_core.specs.declared.program.Core.{Core}
use Rattle.chi_core.specs.declared.program.ProcDef.{ProcDef}
use Rattle.chi_core.specs.declared.verdict.Verdict.TheVariants.{Deadlock, OutOfSteps}
use Rattle.chi_core.specs.declared.act.Act.TheVariants.{Send, Receive}
use Rattle.chi_core.specs.Terms.{Do, Term}
use Rattle.chi_core.specs.Config.{Config, Instance, Offer, State, Running, Waiting, Finished}
use Rattle.chi_core.specs.Starting.{makes, told_at, made_by}
use Rattle.chi_core.specs.Options.{Ending, enabled, ending}
use Rattle.chi_core.specs.Beginning.{start, Begins}
use Rattle.chi_core.specs.Runs.{Runs, After, along, text_told, nothing, Told, MayDerive, Derivation}
use Rattle.chi_core.specs.Picks.{picks_of, last_numbers, listed, MayPick, Picked}
use Rattle.chi_core.specs.Step.{step, Next, Amiss}
use Rattle.chi_core.proofs.Equations.{eval_lit, eval_var, eval_default}
use Rattle.chi_core_rows.proofs.Closed.{closed, layers}
use Rattle.chi_core_rows.proofs.Parts.{parts}
use Rattle.chi_core_rows.proofs.Small.{int, number, whole, core_of, config_of, instance, set}

-- proc S(chan! int a): a!1 end
abbrev sender : ProcDef
sender = record {
  name = codes "S";
  params = ty.Chan way.Send ty.Int ∷ [];
  exit = None;
  slots = ty.Chan way.Send ty.Int ∷ [];
  body = s.Select 1 (Guarded None (comm.Send (whole 0) (Some (number 1))) [] ∷ []) ∷ [];
}

abbrev receives : List CStat → CStat
receives body = s.Select 1 (Guarded None (comm.Receive (whole 0) (Some 1)) body ∷ [])

abbrev shows : CStat
shows = s.Write 1 (piece.Whole (record { left = false; width = 0 }) ∷ piece.Plain (10 ∷ []) ∷ []) (e.Var 1 ∷ [])

-- model M(): chan int a; int x; start S(a); select a?x: writeln("%d", x) end; a?x end
abbrev model : ProcDef
model = record {
  name = codes "M";
  params = [];
  exit = None;
  slots = ty.Chan way.Both ty.Int ∷ ty.Int ∷ [];
  body = s.Declare 1 0 (e.Default shape.Chan) ∷ s.Declare 1 1 (e.Default shape.Int) ∷ s.Start 1 (Make None 1 (e.Var 0 ∷ []) ∷ [])
      ∷ receives (shows ∷ []) ∷ receives [] ∷ [];
}

abbrev core : Core
core = core_of (model ∷ sender ∷ [])

abbrev starts : CStat
starts = s.Start 1 (Make None 1 (e.Var 0 ∷ []) ∷ [])

abbrev m : ℕ → Term → State → Instance
m x term state = instance 0 (Some (value.Chan 0) ∷ set x ∷ []) term state

abbrev running_sender : Instance
running_sender = instance 1 (Some (value.Chan 0) ∷ []) (map Do sender.body) Running

abbrev sends : Offer
sends = record { act = Send 0 (Some (int 1)); bindings = []; body = [] }

abbrev waiting_sender : Instance
waiting_sender = instance 1 (Some (value.Chan 0) ∷ []) [] (Waiting (sends ∷ []))

abbrev done_sender : Instance
done_sender = instance 1 (Some (value.Chan 0) ∷ []) [] Finished

abbrev awaits : List CStat → State
awaits body = Waiting (record { act = Receive 0 (Some 1); bindings = []; body = body } ∷ [])

abbrev c0 : Config
c0 = config_of (pos 0) 0 (instance 0 (None ∷ None ∷ []) (map Do model.body) Running ∷ [])

abbrev c1 : Config
c1 = config_of (pos 0) 1 (instance 0 (Some (value.Chan 0) ∷ None ∷ []) (Do (s.Declare 1 1 (e.Default shape.Int)) ∷ Do starts ∷ Do (receives (shows ∷ [])) ∷ Do (receives []) ∷ []) Running ∷ [])

abbrev c2 : Config
c2 = config_of (pos 0) 1 (m 0 (Do starts ∷ Do (receives (shows ∷ [])) ∷ Do (receives []) ∷ []) Running ∷ [])

abbrev c3 : Config
c3 = config_of (pos 0) 1 (m 0 (Do (receives (shows ∷ [])) ∷ Do (receives []) ∷ []) Running ∷ running_sender ∷ [])

abbrev c4 : Config
c4 = config_of (pos 0) 1 (m 0 (Do (receives (shows ∷ [])) ∷ Do (receives []) ∷ []) Running ∷ waiting_sender ∷ [])

abbrev c5 : Config
c5 = config_of (pos 0) 1 (m 0 (Do (receives []) ∷ []) (awaits (shows ∷ [])) ∷ waiting_sender ∷ [])

abbrev c6 : Config
c6 = config_of (pos 0) 1 (m 1 (Do shows ∷ Do (receives []) ∷ []) Running ∷ done_sender ∷ [])

abbrev c7 : Config
c7 = config_of (pos 0) 1 (m 1 (Do (receives []) ∷ []) Running ∷ done_sender ∷ [])

abbrev c8 : Config
c8 = config_of (pos 0) 1 (m 1 [] (awaits []) ∷ done_sender ∷ [])

begins : start core [] 0 None ≡ Begins c0
begins = refl

step0 : step core c0 (Local 0) 50 ≡ Next c1 [] 49
unfolding step denote.Hole.Carrier.out
step0 = simp (s.outs-Declare, eval_default, closed)

step1 : step core c1 (Local 0) 49 ≡ Next c2 [] 48
unfolding step denote.Hole.Carrier.out
step1 = simp (s.outs-Declare, eval_default, closed)

step2 : step core c2 (Local 0) 48 ≡ Next c3 [] 47
unfolding step makes told_at made_by denote.Hole.Carrier.out
step2 = simp (s.outs-Start, parts, eval_var)

-- both run, and the sender goes first
either : enabled c3 ≡ Local 0 ∷ Local 1 ∷ []
either = refl

step3 : step core c3 (Local 1) 47 ≡ Next c4 [] 46
unfolding step denote.Hole.Carrier.out
step3 = simp (s.outs-Select, parts, eval_lit, layers)

step4 : step core c4 (Local 0) 46 ≡ Next c5 [] 45
unfolding step denote.Hole.Carrier.out
step4 = simp (s.outs-Select, parts, layers)

-- they can only meet, which is an option of the sender
meet : enabled c5 ≡ Pair 1 0 0 0 ∷ []
meet = refl

step5 : step core c5 (Pair 1 0 0 0) 45 ≡ Next c6 [] 44
unfolding step
step5 = refl

step6 : step core c6 (Local 0) 44 ≡ Next c7 (codes "1\n") 43
unfolding step denote.Hole.Carrier.out digits
step6 = simp (s.outs-Write, eval_var, layers)

step7 : step core c7 (Local 0) 43 ≡ Next c8 [] 42
unfolding step denote.Hole.Carrier.out
step7 = simp (s.outs-Select, parts, layers)

ends : ending c8 ≡ Some (record { verdict = Deadlock; clock = pos 0 })
ends = refl

abbrev told : Told
told = record {
  labels = Local 0 ∷ Local 0 ∷ Local 0 ∷ Local 1 ∷ Local 0 ∷ Pair 1 0 0 0 ∷ Local 0 ∷ Local 0 ∷ [];
  ending = record { verdict = Deadlock; clock = pos 0 };
  output = codes "1\n";
}

-- what was written
output : along text_told nothing core 0 c0 50 told.labels ≡ codes "1\n"
unfolding along
output = simp (step0, step1, step2, step3, step4, step5, step6, step7)

-- the numbers by which it is picked: at turn 3 that of the second instance
abbrev numbers : List ℕ
numbers = 0 ∷ 0 ∷ 0 ∷ 0 ∷ 0 ∷ 0 ∷ 1 ∷ 0 ∷ 0 ∷ 0 ∷ 0 ∷ 0 ∷ 0 ∷ 0 ∷ 0 ∷ 0 ∷ []

picks : picks_of core (Begins c0) 50 told ≡ numbers
unfolding along
picks = simp (step0, step1, step2, step3, step4, step5, step6, step7)

abbrev May : Type 1
May = ℕ → Config → Label → Type 0

goes_on : (may : May) (turn : ℕ) (config new : Config) (left rest : ℕ) (text : List ℕ) (label : Label) (labels : List Label) (end : Ending)
    → may turn config label → step core config label left ≡ Next new text rest → Runs may core (suc turn) new rest labels end → Runs may core turn config left (label ∷ labels) end
unfolding Runs
goes_on may turn config new left rest text label labels end m h r =
    (m, subst (λ o. After (λ new rest. Runs may core (suc turn) new rest labels end) o config labels end) (sym h) r)

at_rest : (may : May) (turn left : ℕ) → Runs may core turn c8 left [] told.ending
unfolding Runs
at_rest may turn left = inl ends

-- a run of these labels, where each of them may come
runs : (may : May) → may 0 c0 (Local 0) → may 1 c1 (Local 0) → may 2 c2 (Local 0) → may 3 c3 (Local 1) → may 4 c4 (Local 0)
    → may 5 c5 (Pair 1 0 0 0) → may 6 c6 (Local 0) → may 7 c7 (Local 0) → Runs may core 0 c0 50 told.labels told.ending
runs may m0 m1 m2 m3 m4 m5 m6 m7 =
    goes_on may 0 c0 c1 50 49 _ _ _ _ m0 step0 (
    goes_on may 1 c1 c2 49 48 _ _ _ _ m1 step1 (
    goes_on may 2 c2 c3 48 47 _ _ _ _ m2 step2 (
    goes_on may 3 c3 c4 47 46 _ _ _ _ m3 step3 (
    goes_on may 4 c4 c5 46 45 _ _ _ _ m4 step4 (
    goes_on may 5 c5 c6 45 44 _ _ _ _ m5 step5 (
    goes_on may 6 c6 c7 44 43 _ _ _ _ m6 step6 (
    goes_on may 7 c7 c8 43 42 _ _ _ _ m7 step7 (at_rest may 8 42))))))))

derives : Derivation core (start core [] 0 None) 50 told
derives =
    (runs MayDerive (0, omega arith, refl) (0, omega arith, refl) (0, omega arith, refl) (1, omega arith, refl) (0, omega arith, refl) (0, omega arith, refl) (0, omega arith, refl) (0, omega arith, refl), sym output)

-- the policy that answers those numbers picks it
picked : Picked core (start core [] 0 None) (listed numbers) 50 told
picked = (runs (MayPick (listed numbers)) refl refl refl refl refl refl refl refl, sym output)

-- where nothing is left of the bound, the first enabled label costs too much
cut_off : last_numbers core OutOfSteps c4 0 ≡ 0 ∷ 0 ∷ []
unfolding step
cut_off = refl

-- an instance isn't paired with itself
abbrev both : Config
both = config_of (pos 0) 1 (instance 0 (Some (value.Chan 0) ∷ None ∷ []) [] (Waiting (sends ∷ record { act = Receive 0 (Some 1); bindings = []; body = [] } ∷ [])) ∷ [])

alone : ending both ≡ Some (record { verdict = Deadlock; clock = pos 0 })
alone = refl

not_with_itself : step core both (Pair 0 0 0 1) 50 ≡ Amiss
unfolding step
not_with_itself = refl

-- nor do offers on two channels meet
apart : step core (config_of (pos 0) 2 (waiting_sender ∷ instance 0 (Some (value.Chan 1) ∷ None ∷ []) [] (Waiting (record { act = Receive 1 (Some 1); bindings = []; body = [] } ∷ [])) ∷ [])) (Pair 0 0 1 0) 50 ≡ Amiss
unfolding step
apart = refl
