-- What policies answer: each picks one of the choices.
use Rattle.std.proofs.Common.{◌≡◌, ℕ, ◌<◌, Bool, List, Option, Some, None, option_map, refl, sym, subst, arith}
use Rattle.std.proofs.Math.Nat.{mod-lt}
use Rattle.std.specs.Prelude.{◌-◌, Result}
use Rattle.chi_cli.specs.declared.request.Pick as words
use Rattle.chi_cli.specs.declared.request.Pick.TheVariants as pick
use Rattle.chi_core.specs.Picks.{Pick, IsLawful}
use Rattle.chi_sched.specs.Policies.{Answers}
use Rattle.chi_core.specs.declared.program.Core.{Core}
use Rattle.chi_core.specs.Options.{Ending}
use Rattle.chi_machine_traces.specs.declared.passing.PassFault.{PassFault}
use Rattle.chi_terms.specs.declared.terms.Terms.{Terms}
use Rattle.chi_trace.specs.declared.filter.Filter.{Filter}
use Rattle.chi_value.specs.declared.value.Value.{Value}
use Rattle.chi_engine.specs.declared.engine.Job.{Job}
use Rattle.chi_engine.specs.Courses.{IsRunOf}
use Rattle.chi_engine.specs.Running.{RunsTo}
use Rattle.chi_engine.specs.Settings.{Settings, policy_of, settings_by, settings_of}

last_below : (count : ℕ) → 0 < count → count - 1 < count
last_below count some = omega arith

-- what words name does so
pub named_lawful : (p : words.Pick) → IsLawful (policy_of p)
named_lawful pick.First question count early some few = some
named_lawful pick.Last question count early some few = last_below count some
named_lawful (pick.Spread salt) question count early some few = mod-lt _ some

-- what tells the answers of a chooser does so
pub answers_lawful : (gives : ℕ → ℕ → ℕ → Type 0) (pick : Pick) → Answers gives pick → IsLawful pick
answers_lawful gives pick answers question count early some few = (answers question count (record { numbered = early; some = some; counted = few })).0

-- a formula answers as its policy does
pub formula_given : (pick : Pick) → IsLawful pick → Answers (λ question count answer. answer ≡ pick question count) pick
formula_given pick lawful question count asked = (lawful question count asked.numbered asked.some asked.counted, ∣ refl ∣₁)

-- a filter keeps to itself
pub itself : (trace : Option Filter) → option_map (λ (filter : Filter). filter) trace ≡ trace
itself None = refl
itself (Some filter) = refl

-- what comes of a run on terms that differ from others in what their policy is, a filter telling what is shown
pub exchanged : {P Q : Type 0} (at : Settings → Type 0) (pick : Pick) (arguments : List Value) (terms : Terms P Filter) (policy : Q) (new : Terms Q Filter)
    → new ≡ record { seed = terms.seed; bound = terms.bound; policy = policy; until = terms.until; trace = terms.trace }
    → at (settings_by pick (option_map (λ (filter : Filter). filter) new.trace) arguments new) → at (settings_by pick terms.trace arguments terms)
exchanged {P} {Q} at pick arguments terms policy new same ran =
    subst (λ (trace : Option Filter). at (settings_by pick trace arguments terms)) (itself terms.trace)
    (subst (λ (t : Terms Q Filter). at (settings_by pick (option_map (λ (filter : Filter). filter) t.trace) arguments t)) same ran)

-- what comes of a job by a policy, whichever function tells what it answers, comes of it by that which words name
pub named_ran : (p : words.Pick) (job : Job) (core : Core) (took logged : List ℕ → Type 0) (rose : Type 0) (stopped : Bool) (result : Result Ending PassFault) → job.terms.policy ≡ p
    → ((pick : Pick) → Answers (λ question count answer. answer ≡ policy_of p question count) pick
    → RunsTo (IsRunOf core (settings_by pick job.terms.trace job.arguments.items job.terms)) core took logged rose stopped result)
    → RunsTo (IsRunOf core (settings_of job)) core took logged rose stopped result
named_ran p job core took logged rose stopped result same ran =
    let at : words.Pick → Type 0 = λ q.
    RunsTo (IsRunOf core (settings_by (policy_of q) job.terms.trace job.arguments.items job.terms)) core took logged rose stopped result in
    subst at (sym same) (ran (policy_of p) (formula_given (policy_of p) (named_lawful p)))
