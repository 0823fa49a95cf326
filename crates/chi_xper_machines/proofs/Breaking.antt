-- The verdict by which a constant breaks an experiment can be told.
use Rattle.std.proofs.Common.{◌≡◌, ℕ, List, [], ◌∷◌, ◌++◌, codes, pos, lit≤, refl, subst}
use Rattle.chi_value.specs.declared.value.Value.{Value}
use Rattle.chi_core.specs.declared.fault.FaultKind.{FaultKind}
use Rattle.chi_core.specs.declared.program.ConstDef.{ConstDef}
use Rattle.chi_core.specs.declared.program.Core.{Core}
use Rattle.chi_core.specs.declared.verdict.Verdict.TheVariants.{Fault}
use Rattle.chi_core.specs.Answer as answer
use Rattle.chi_core.specs.Answer.{Answer, Gives, Fails}
use Rattle.chi_core.specs.Beginning.{constant_value}
use Rattle.chi_core.specs.Options.{Ending}
use Rattle.chi_core.specs.VerdictLine.{MayTell}
use Rattle.chi_xper_runs.specs.Constants.{Constants, Breaks, with_constant, set_after, constants}

fault_told : (core : Core) (kind : FaultKind) (name : List ℕ) (line : ℕ) → MayTell core (Fault kind name line)
fault_told core kind name line = record { may = refl; within = lit≤ tt }

same_ending : (e f : Ending) → Breaks e ≡ Breaks f → e ≡ f
same_ending e f h = cc

module _ (core : Core) (seed : ℕ) (ending : Ending) where
  by_value : (values : List Value) (c : ConstDef) (rest : List Value → Constants) (a : Answer Value) → ((more : List Value) → rest more ≡ Breaks ending → MayTell core ending.verdict)
      → with_constant core seed rest values c a ≡ Breaks ending → MayTell core ending.verdict
  by_value values c rest (Gives v view) told e = told (values ++ v ∷ []) e
  by_value values c rest (Fails kind) told e =
      subst (λ (x : Ending). MayTell core x.verdict) (same_ending (record { verdict = Fault kind (codes "const") c.line; clock = pos 0 }) ending e) (fault_told core kind (codes "const") c.line)
  by_value values c rest answer.Spent told e = absurd (cc)
  by_value values c rest answer.Amiss told e = absurd (cc)

  from_there : (values : List Value) (cs : List ConstDef) → set_after core seed values cs ≡ Breaks ending → MayTell core ending.verdict
  from_there values [] e = absurd (cc)
  from_there values (c ∷ cs) e = by_value values c (λ more. set_after core seed more cs) (constant_value core seed values c) (λ more. from_there more cs) e

-- a fault in a constant
pub breaks_told : (core : Core) (seed : ℕ) (ending : Ending) → constants core seed ≡ Breaks ending → MayTell core ending.verdict
breaks_told core seed ending = from_there core seed ending [] core.consts
