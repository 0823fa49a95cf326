-- What a run is asked for with, beside its program.
use Rattle.std.specs.Prelude.{ℕ, ℤ, List, Option}
use Rattle.chi_cli.specs.declared.request.Pick as words
use Rattle.chi_cli.specs.declared.request.Pick.TheVariants as pick
use Rattle.chi_core.specs.Picks.{Pick}
use Rattle.chi_sched.specs.Policies.{first, last, spread}
use Rattle.chi_terms.specs.declared.terms.Terms.{Terms}
use Rattle.chi_trace.specs.declared.filter.Filter.{Filter}
use Rattle.chi_value.specs.declared.value.Value.{Value}
use Rattle.chi_engine.specs.declared.engine.Job.{Job}

-- The seed of its draws; the bound on the costs of all its steps together; the policy that picks among what may
-- happen; the arguments of its model; the stopping time, if there is one; and, where its trace is
-- logged, which events are shown.
pub record Settings : Type 0 where
  pub seed : ℕ
  pub bound : ℕ
  pub pick : Pick
  pub arguments : List Value
  pub until : Option ℤ
  pub trace : Option Filter

-- the policy that words name
abbrev pub policy_of : words.Pick → Pick
policy_of pick.First = first
policy_of pick.Last = last
policy_of (pick.Spread salt) = spread salt

-- those of a run with these arguments on such terms, by a policy and with what is shown of its trace
abbrev pub settings_by : {P S : Type 0} → Pick → Option Filter → List Value → Terms P S → Settings
settings_by pick trace arguments terms = record { seed = terms.seed; bound = terms.bound; pick = pick; arguments = arguments; until = terms.until; trace = trace }

-- with what a job of an engine asks for its run
abbrev pub settings_of : Job → Settings
settings_of job = settings_by (policy_of job.terms.policy) job.terms.trace job.arguments.items job.terms
