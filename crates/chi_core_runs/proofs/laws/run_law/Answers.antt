use Rattle.chi_core.specs.Picks.{MayPick}
use Rattle.chi_core_runs.proofs.Turns.{from-on, from-over, from-cut, from-rest}
use Rattle.chi_core_runs.proofs.laws.run_law.Goals as goal

pub returns : goal.returns
returns c = record {
  on = λ core pick. from-on (MayPick pick) core;
  over = λ core pick. from-over (MayPick pick) core;
  cut_off = λ core pick. from-cut (MayPick pick) core;
  at_rest = λ core pick. from-rest (MayPick pick) core;
}
