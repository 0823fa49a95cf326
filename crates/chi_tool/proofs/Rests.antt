-- What is told of where the run comes to rest that words ask for.
use Rattle.std.proofs.Common.{◌≡◌, ℕ, ◌<◌, ◌^◌, List, [], Some, sym, ◌∙◌, ap, subst, refl}
use Rattle.std.specs.Prelude.{Result, IfOk, slice_get}
use Rattle.chi_base.specs.declared.no_memory.NoMemory.{NoMemory}
use Rattle.chi_cli.specs.declared.request.Pick as words
use Rattle.chi_core.specs.declared.program.Core.{Core}
use Rattle.chi_core.specs.declared.program.ProcDef.{ProcDef}
use Rattle.chi_core.specs.Beginning.{start}
use Rattle.chi_core.specs.Kinds.{kinds_of}
use Rattle.chi_core.specs.Of.{at_start, AreOf}
use Rattle.chi_core.specs.Options.{Ending}
use Rattle.chi_core.specs.Picks.{Pick}
use Rattle.chi_core.specs.Sound.{Sound}
use Rattle.chi_engine.proofs.Policies.{formula_given, named_lawful}
use Rattle.chi_engine.specs.Settings.{Settings, policy_of}
use Rattle.chi_explain_runs.specs.Laws.{WaitingToldAlways, WaitingToldOnce}
use Rattle.chi_explain_runs.specs.Waits.{IsWaitingTold}
use Rattle.chi_sched.specs.Policies.{Answers}
use Rattle.chi_value.specs.declared.value.Value.{Value}
use Rattle.chi_tool.specs.declared.report.Reported.{Reported}
use Rattle.chi_tool.specs.declared.task.Asked.{Asked}
use Rattle.chi_tool.specs.Arguments.{Means}
use Rattle.chi_tool.specs.Explaining.{run_told}
use Rattle.chi_tool.specs.Reported.{report_in}
use Rattle.chi_tool.specs.Running.{IsRestTold}
use Rattle.chi_tool.specs.Settings.{settings_with, wanted_of}
use Rattle.chi_tool.proofs.Runs.{if_ok}

-- by the policy that words name, whichever function tells what it answers
pub rest_named : {T : Type 0} (core : Core) (source : List ℕ) (arguments : List Value) (asked : Asked words.Pick) (p : words.Pick) (result : Result T NoMemory) (items : T → List ℕ)
    → asked.terms.policy ≡ p
    → IfOk result (λ text. (pick : Pick) → Answers (λ question count answer. answer ≡ policy_of p question count) pick
    → IsWaitingTold core source (start core arguments asked.terms.seed asked.terms.until) pick asked.terms.bound (items text))
    → IfOk result (λ text. IsRestTold core source (settings_with (wanted_of asked) arguments) (items text))
rest_named core source arguments asked p result items same told =
    if_ok result
    (λ text told'.
    subst (λ (q : words.Pick). IsWaitingTold core source (start core arguments asked.terms.seed asked.terms.until) (policy_of q) asked.terms.bound (items text)) (sym same)
    (told' (policy_of p) (formula_given (policy_of p) (named_lawful p))))
    told

-- there is such a text
pub rest_of : WaitingToldAlways → (core : Core) (source : List ℕ) → Sound core → (asked : Asked words.Pick) → asked.terms.bound < 2 ^ 63 → (arguments : List Value)
    → Means core asked.texts arguments
    → ((d : ProcDef) → slice_get core.procs core.model ≡ Some d → AreOf (at_start core.names.kinds) arguments (kinds_of d.params))
    → (rest : List ℕ) × IsRestTold core source (settings_with (wanted_of asked) arguments) rest
rest_of law core source sound asked bound arguments means fit =
    law core sound (start core arguments asked.terms.seed asked.terms.until)
    (record { model = means.model; is = means.is; arguments = arguments; fit = fit means.model means.is; seed = asked.terms.seed; until = asked.terms.until; begins = refl })
    (policy_of asked.terms.policy) (named_lawful asked.terms.policy) asked.terms.bound bound source

-- and it is the one that is told
pub rest_known : WaitingToldOnce → (core : Core) (source : List ℕ) (s : Settings) (rest : List ℕ) → IsRestTold core source s rest
    → (lines : List ℕ) (end : Ending) (result : Result Reported NoMemory)
    → IfOk result (λ r. (other : List ℕ) × IsRestTold core source s other × (report_in r ≡ run_told source core other (record { output = []; log = lines; ending = end })))
    → IfOk result (λ r. report_in r ≡ run_told source core rest (record { output = []; log = lines; ending = end }))
rest_known law core source s rest is lines end result told =
    if_ok result
    (λ r t. t.2 ∙ ap (λ (x : List ℕ). run_told source core x (record { output = []; log = lines; ending = end }))
    (law core source (start core s.arguments s.seed s.until) s.pick s.bound t.0 rest t.1 is)) told
