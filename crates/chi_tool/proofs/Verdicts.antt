-- Verdicts, and ends of experiments, by their statuses.
use Rattle.std.proofs.Common.{◌≡◌, ℕ, ◌≤◌, ◌⊎◌, inl, inr, refl, arith}
use Rattle.chi_core.specs.declared.verdict.Verdict.{Verdict}
use Rattle.chi_core.specs.declared.verdict.Verdict.TheVariants as verdict
use Rattle.chi_xper_machines.specs.declared.tale.Ended.{Ended}
use Rattle.chi_xper_machines.specs.declared.tale.Ended.TheVariants as ended
use Rattle.chi_tool.specs.Headline.{IsExit, IsFault}
use Rattle.chi_tool.specs.Statuses.{status_of, status_of_trial}

-- no run has a status of a refusal
pub status_bound : (v : Verdict) → (status_of v ≡ 0) ⊎ ((10 ≤ status_of v) × (status_of v ≤ 14))
status_bound verdict.Completed = inl refl
status_bound (verdict.Exit x) = inr (omega arith, omega arith)
status_bound verdict.Deadlock = inr (omega arith, omega arith)
status_bound (verdict.Fault kind name line) = inr (omega arith, omega arith)
status_bound verdict.OutOfSteps = inr (omega arith, omega arith)
status_bound verdict.Stopped = inr (omega arith, omega arith)

pub completed_by : (v : Verdict) → status_of v ≡ 0 → v ≡ verdict.Completed
completed_by verdict.Completed e = refl
completed_by (verdict.Exit x) e = absurd (omega arith)
completed_by verdict.Deadlock e = absurd (omega arith)
completed_by (verdict.Fault kind name line) e = absurd (omega arith)
completed_by verdict.OutOfSteps e = absurd (omega arith)
completed_by verdict.Stopped e = absurd (omega arith)

pub exit_by : (v : Verdict) → status_of v ≡ 10 → IsExit v
exit_by verdict.Completed e = absurd (omega arith)
exit_by (verdict.Exit x) e = (x, refl)
exit_by verdict.Deadlock e = absurd (omega arith)
exit_by (verdict.Fault kind name line) e = absurd (omega arith)
exit_by verdict.OutOfSteps e = absurd (omega arith)
exit_by verdict.Stopped e = absurd (omega arith)

pub deadlock_by : (v : Verdict) → status_of v ≡ 11 → v ≡ verdict.Deadlock
deadlock_by verdict.Completed e = absurd (omega arith)
deadlock_by (verdict.Exit x) e = absurd (omega arith)
deadlock_by verdict.Deadlock e = refl
deadlock_by (verdict.Fault kind name line) e = absurd (omega arith)
deadlock_by verdict.OutOfSteps e = absurd (omega arith)
deadlock_by verdict.Stopped e = absurd (omega arith)

pub fault_by : (v : Verdict) → status_of v ≡ 12 → IsFault v
fault_by verdict.Completed e = absurd (omega arith)
fault_by (verdict.Exit x) e = absurd (omega arith)
fault_by verdict.Deadlock e = absurd (omega arith)
fault_by (verdict.Fault kind name line) e = (kind, name, line, refl)
fault_by verdict.OutOfSteps e = absurd (omega arith)
fault_by verdict.Stopped e = absurd (omega arith)

pub out_of_steps_by : (v : Verdict) → status_of v ≡ 13 → v ≡ verdict.OutOfSteps
out_of_steps_by verdict.Completed e = absurd (omega arith)
out_of_steps_by (verdict.Exit x) e = absurd (omega arith)
out_of_steps_by verdict.Deadlock e = absurd (omega arith)
out_of_steps_by (verdict.Fault kind name line) e = absurd (omega arith)
out_of_steps_by verdict.OutOfSteps e = refl
out_of_steps_by verdict.Stopped e = absurd (omega arith)

pub stopped_by : (v : Verdict) → status_of v ≡ 14 → v ≡ verdict.Stopped
stopped_by verdict.Completed e = absurd (omega arith)
stopped_by (verdict.Exit x) e = absurd (omega arith)
stopped_by verdict.Deadlock e = absurd (omega arith)
stopped_by (verdict.Fault kind name line) e = absurd (omega arith)
stopped_by verdict.OutOfSteps e = absurd (omega arith)
stopped_by verdict.Stopped e = refl

-- no experiment has a status of another refusal than its own, nor that of a run that was cut off by its stopping time
abbrev pub OfTrialStatus : ℕ → Type 0
OfTrialStatus n = (n ≡ 0) ⊎ (((11 ≤ n) × (n ≤ 13)) ⊎ ((n ≡ 15) ⊎ (n ≡ 28)))

pub ended_bound : (e : Ended) → OfTrialStatus (status_of_trial e)
ended_bound ended.Missing = inr (inr (inr refl))
ended_bound ended.Completed = inl refl
ended_bound ended.WithoutValue = inr (inr (inl refl))
ended_bound ended.Deadlocked = inr (inl (omega arith, omega arith))
ended_bound ended.Faulted = inr (inl (omega arith, omega arith))
ended_bound ended.OutOfSteps = inr (inl (omega arith, omega arith))

-- each end has its own status
pub same_end : (e f : Ended) → status_of_trial e ≡ status_of_trial f → e ≡ f
same_end ended.Missing ended.Missing h = refl
same_end ended.Missing ended.Completed h = absurd (omega arith)
same_end ended.Missing ended.WithoutValue h = absurd (omega arith)
same_end ended.Missing ended.Deadlocked h = absurd (omega arith)
same_end ended.Missing ended.Faulted h = absurd (omega arith)
same_end ended.Missing ended.OutOfSteps h = absurd (omega arith)
same_end ended.Completed ended.Missing h = absurd (omega arith)
same_end ended.Completed ended.Completed h = refl
same_end ended.Completed ended.WithoutValue h = absurd (omega arith)
same_end ended.Completed ended.Deadlocked h = absurd (omega arith)
same_end ended.Completed ended.Faulted h = absurd (omega arith)
same_end ended.Completed ended.OutOfSteps h = absurd (omega arith)
same_end ended.WithoutValue ended.Missing h = absurd (omega arith)
same_end ended.WithoutValue ended.Completed h = absurd (omega arith)
same_end ended.WithoutValue ended.WithoutValue h = refl
same_end ended.WithoutValue ended.Deadlocked h = absurd (omega arith)
same_end ended.WithoutValue ended.Faulted h = absurd (omega arith)
same_end ended.WithoutValue ended.OutOfSteps h = absurd (omega arith)
same_end ended.Deadlocked ended.Missing h = absurd (omega arith)
same_end ended.Deadlocked ended.Completed h = absurd (omega arith)
same_end ended.Deadlocked ended.WithoutValue h = absurd (omega arith)
same_end ended.Deadlocked ended.Deadlocked h = refl
same_end ended.Deadlocked ended.Faulted h = absurd (omega arith)
same_end ended.Deadlocked ended.OutOfSteps h = absurd (omega arith)
same_end ended.Faulted ended.Missing h = absurd (omega arith)
same_end ended.Faulted ended.Completed h = absurd (omega arith)
same_end ended.Faulted ended.WithoutValue h = absurd (omega arith)
same_end ended.Faulted ended.Deadlocked h = absurd (omega arith)
same_end ended.Faulted ended.Faulted h = refl
same_end ended.Faulted ended.OutOfSteps h = absurd (omega arith)
same_end ended.OutOfSteps ended.Missing h = absurd (omega arith)
same_end ended.OutOfSteps ended.Completed h = absurd (omega arith)
same_end ended.OutOfSteps ended.WithoutValue h = absurd (omega arith)
same_end ended.OutOfSteps ended.Deadlocked h = absurd (omega arith)
same_end ended.OutOfSteps ended.Faulted h = absurd (omega arith)
same_end ended.OutOfSteps ended.OutOfSteps h = refl
