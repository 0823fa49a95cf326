-- Worked rows: how experiments of one statement end.
use Rattle.std.proofs.Common.{◌≡◌, refl, ℕ, pos, [], ◌∷◌, None, Some, Bool, true, false}
use Rattle.std.specs.Prelude.{codes, ◌^◌, ◌-◌}
use Rattle.chi_types.specs.declared.ty.Ty.TheVariants as ty
use Rattle.chi_value.specs.declared.value.Value.TheVariants as value
use Rattle.chi_core.specs.declared.experiment.XStat.TheVariants as x
use Rattle.chi_core.specs.declared.fault.FaultKind.TheVariants.{RealRange}
use Rattle.chi_core.specs.declared.program.Core.{Core}
use Rattle.chi_core.specs.declared.program.ProcDef.{ProcDef}
use Rattle.chi_core.specs.declared.verdict.Verdict.{Verdict}
use Rattle.chi_core.specs.declared.verdict.Verdict.TheVariants.{Completed, Exit, Deadlock}
use Rattle.chi_xper.specs.Experiments.{Outcomes, End, Made, Told, Done, Run, Fault, Spent, seed_of, goes, experiment}

-- model int M()
abbrev model : ProcDef
model = record { name = codes "M"; params = []; exit = Some ty.Int; slots = []; body = [] }

-- xper X(): int v = M() end; or real v
abbrev core : Bool → Core
core widen = record {
  consts = [];
  funcs = [];
  procs = model ∷ [];
  model = 0;
  names = record { kinds = [] };
  xpers = record { name = codes "X"; slots = ty.Int ∷ []; body = x.RunModel 4 (record { slot = 0; steps = [] }) 0 [] widen ∷ [] } ∷ [];
}

-- each run writes a text, and ends so
abbrev ends : Verdict → Outcomes
ends verdict number arguments seed = record { output = codes "a"; verdict = verdict; clock = pos 7 }

abbrev made : ℕ → Made
made seed = record { model = 0; arguments = []; seed = seed }

abbrev told : ℕ → End → Told
told seed end = record { runs = made seed ∷ []; output = codes "a"; end = end }

deadlocks : experiment (core false) [] 5 (ends Deadlock) 1 ≡ told 5 (Run 0 0 Deadlock (pos 7))
unfolding goes denote.Hole.Carrier.out
deadlocks = simp (x.outs-RunModel)

completes : experiment (core false) [] 5 (ends Completed) 1 ≡ told 5 (Run 0 0 Completed (pos 7))
unfolding goes denote.Hole.Carrier.out
completes = simp (x.outs-RunModel)

no_value : experiment (core false) [] 5 (ends (Exit None)) 1 ≡ told 5 (Run 0 0 (Exit None) (pos 7))
unfolding goes denote.Hole.Carrier.out
no_value = simp (x.outs-RunModel)

exits : experiment (core false) [] 5 (ends (Exit (Some (value.Int (pos 3))))) 1 ≡ told 5 (Done 1)
unfolding goes denote.Hole.Carrier.out
exits = simp (x.outs-RunModel)

-- the conversion comes after the run, which counts
too_great : experiment (core true) [] 5 (ends (Exit (Some (value.Int (pos (2 ^ 62)))))) 1 ≡ told 5 (Fault RealRange 4 1)
unfolding goes denote.Hole.Carrier.out
too_great = simp (x.outs-RunModel, value.outs-Int)

no_cost_left : experiment (core false) [] 5 (ends Deadlock) 0 ≡ record { runs = []; output = []; end = Spent 0 }
unfolding goes
no_cost_left = refl

-- the seed after the greatest is 0
wraps : seed_of (2 ^ 64 - 1) 1 ≡ 0
wraps = refl
