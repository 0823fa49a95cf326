use Rattle.chi_core_runs.proofs.Enabled.{advance_is_last}
use Rattle.chi_core_runs.proofs.Time.{each_costs, stands_still, goes_on_later, stays_in_time, runs_bounded, runs_end_within, derivations_end_within}
use Rattle.chi_core_runs.proofs.laws.time_law.Goals as goal

pub returns : goal.returns
returns c = record {
  costs = λ core config label left new text rest e. each_costs core config label new text rest left e;
  bounded = runs_bounded;
  others = λ core config label left new text rest e. stands_still core config label new text rest left e;
  advance = goes_on_later;
  last = advance_is_last;
  in_time = λ core config label left new text rest e. stays_in_time core config label new text rest left e;
  runs = runs_end_within;
  derivations = derivations_end_within;
}
