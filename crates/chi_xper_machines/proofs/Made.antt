-- Runs of models by machines.
use Rattle.std.proofs.Common.{◌≡◌, ℕ, ℤ, ◌^◌, ◌<◌, List, [], ◌++◌, Option, Some, None, refl, sym, ap, subst, ◌∙◌}
use Rattle.std.specs.Prelude.{slice_get}
use Rattle.chi_code.specs.declared.code.Code.{Code}
use Rattle.chi_code.specs.Codes.{Codes}
use Rattle.chi_core.specs.declared.program.Core.{Core}
use Rattle.chi_core.specs.declared.program.ProcDef.{ProcDef}
use Rattle.chi_core.specs.Beginning.{Beginning, start}
use Rattle.chi_core.specs.Kinds.{Kind, kinds_of}
use Rattle.chi_core.specs.Options.{Ending}
use Rattle.chi_core.specs.Of.{at_start, nowhere, AreOf}
use Rattle.chi_core.specs.Picks.{Pick, IsLawful, Picked}
use Rattle.chi_core.specs.Runs.{Told}
use Rattle.chi_core.specs.Sound.{Sound}
use Rattle.chi_core.proofs.Worlds.{from_nowhere, are_grow}
use Rattle.chi_core_runs.specs.Picked.{IsBeginning, PicksOnly, PickedAlways, PickedOnce}
use Rattle.chi_engine.specs.Courses.{Course, IsCourse, IsRunOf}
use Rattle.chi_engine.specs.Courses as courses
use Rattle.chi_engine.specs.Running.{RanToItsEnd}
use Rattle.chi_engine.specs.Settings.{Settings}
use Rattle.chi_engine.specs.Below.chi_machine_traces.specs.Told.{RunsCode}
use Rattle.chi_engine.specs.Below.chi_machine_traces.specs.Below.chi_machine.specs.Calls.{MayBegin}
use Rattle.chi_io.specs.Sink.{Grew}
use Rattle.chi_trace.specs.declared.filter.Filter.{Filter}
use Rattle.chi_value.specs.declared.value.Value.{Value}
use Rattle.chi_xper.specs.declared.runner.RunEnd.{RunEnd}
use Rattle.chi_xper.specs.Conditions.{MayRun, AllowsAll}
use Rattle.chi_xper.specs.Ends.{ComesTo}
use Rattle.chi_xper.specs.Experiments.{Outcome}
use Rattle.chi_xper_runs.specs.Models.{with_model, told_with, IsOutcome, AreOutcomes}
use Rattle.chi_xper_runs.proofs.Computed.{computed, computed_is}
use Rattle.chi_xper_runs.proofs.OtherModel.{sound_there}
use Rattle.chi_xper_runs.proofs.Outcomes.{outcome_in}
use Rattle.chi_xper_machines.specs.Runs.{MayBeMade, outcomes_by, outcome_with, Wrote}

-- the arguments of a run that may be made fit where it begins
fitting : (core : Core) (number : ℕ) (exit : Kind) (arguments : List Value) (may : MayRun core number exit arguments) → AreOf (at_start core.names.kinds) arguments (kinds_of may.d.params)
fitting core number exit arguments may = are_grow (nowhere core.names.kinds) (at_start core.names.kinds) (from_nowhere (at_start core.names.kinds)) arguments (kinds_of may.d.params) may.fit

-- what is computed of each run comes of it
pub are_by : PickedAlways → (core : Core) → Sound core → (pick : Pick) → IsLawful pick → (bound : ℕ) → bound < 2 ^ 63 → AreOutcomes core pick bound (outcomes_by core pick bound)
are_by always core sound pick lawful bound small number exit arguments may seed =
    let there : Core = with_model core number in
    let from : Beginning = start there arguments seed None in
    let begins : IsBeginning there from
    = record {
      model = may.d;
      is = may.is;
      arguments = arguments;
      fit = fitting core number exit arguments may;
      seed = seed;
      until = None;
      begins = refl;
    } in
    let r : (told : Told) × PicksOnly there from pick bound told = always there (sound_there core number may.d may.is sound) from begins pick lawful bound small in
    let same : computed there pick bound from ≡ r.0 = computed_is there pick from bound r.0 r.1.0 in
    record { labels = (computed there pick bound from).labels; picked = subst (λ (told : Told). Picked there from pick bound told) (sym same) r.1.0 }

-- code that names another model is that of the program with that model
pub codes_there : (core : Core) (code : Code) (number : ℕ) → Codes (with_model core code.model) code → Codes (with_model core number) (record code { model = number })
codes_there core code number k = record {
  consts = k.consts;
  model = refl;
  names = k.names;
  over = k.over;
  second = k.second;
  constants = k.constants;
  done = k.done;
  functions = k.functions;
  processes = k.processes;
}

-- that of the program names its model
pub codes_here : (core : Core) (code : Code) → Codes core code → Codes (with_model core code.model) code
codes_here core code k = record {
  consts = k.consts;
  model = refl;
  names = k.names;
  over = k.over;
  second = k.second;
  constants = k.constants;
  done = k.done;
  functions = k.functions;
  processes = k.processes;
}

some_same : {A : Type 0} (o : Option A) (x y : A) → o ≡ Some x → o ≡ Some y → x ≡ y
some_same o x y h k = cc

some_injective : {A : Type 0} (x y : A) → Some x ≡ Some y → x ≡ y
some_injective x y e = cc

-- so it runs
pub runs_there : (core : Core) (code : Code) (bound number : ℕ) (arguments : List Value) → MayBeMade core code bound number arguments
    → RunsCode (with_model core number) (record code { model = number }) arguments
runs_there core code bound number arguments made = record {
  codes = codes_there core code number made.codes;
  sound = sound_there core number made.may.d made.may.is made.sound;
  model_takes = λ d is.
      subst (λ (p : ProcDef). AreOf (at_start core.names.kinds) arguments (kinds_of p.params)) (some_same (slice_get core.procs number) made.may.d d made.may.is is) (fitting core number made.exit arguments made.may);
}

-- which model the code names says nothing about which runs may be made
pub made_there : (core : Core) (code : Code) (model bound number : ℕ) (arguments : List Value) → MayBeMade core code bound number arguments
    → MayBeMade core (record code { model = model }) bound number arguments
made_there core code model bound number arguments made = record {
  exit = made.exit;
  may = made.may;
  sound = made.sound;
  codes = codes_there core code model made.codes;
  bounded = made.bounded;
}

pub may_begin : (core : Core) (code : Code) (arguments : List Value) (bound : ℕ) → RunsCode core code arguments → bound < 2 ^ 63 → MayBegin code arguments bound
may_begin core code arguments bound runs bounded = record { core = core; codes = runs.codes; sound = runs.sound; model_takes = runs.model_takes; bounded = bounded }

-- one thing comes of a run: what came of it by machines is what comes of it
same_outcome : PickedOnce → (core : Core) (pick : Pick) (bound number : ℕ) (arguments : List Value) (seed : ℕ) (trace : Option Filter) (outcome : Outcome) → IsOutcome core pick bound number arguments seed outcome
    → (course : Course) → IsCourse trace (with_model core number) (start (with_model core number) arguments seed None) pick bound course
    → outcome_with course.output course.ending ≡ outcome
same_outcome once core pick bound number arguments seed trace outcome is course run =
    let there : Core = with_model core number in
    ap outcome_in (once there (start there arguments seed None) pick bound (courses.told_with run.labels course) (told_with is.labels outcome) run.picked is.picked)

pub came_of : PickedOnce → (core : Core) (pick : Pick) (bound number : ℕ) (arguments : List Value) (seed : ℕ) (until : Option ℤ) (trace : Option Filter) (outcome : Outcome)
    → IsOutcome core pick bound number arguments seed outcome → until ≡ None → (output : List ℕ) (ending : Ending)
    → Wrote (IsCourse trace (with_model core number) (start (with_model core number) arguments seed until) pick bound) output ending
    → (before after : List ℕ) (end : RunEnd) (text : List ℕ) → text ≡ output → ComesTo (outcome_with text ending) before after end → ComesTo outcome before after end
came_of once core pick bound number arguments seed until trace outcome is none output ending wrote before after end text all comes =
    let there : Core = with_model core number in
    let run : IsCourse trace there (start there arguments seed None) pick bound wrote.course
    = subst (λ (u : Option ℤ). IsCourse trace there (start there arguments seed u) pick bound wrote.course) none wrote.run in
    let same : outcome_with wrote.course.output wrote.course.ending ≡ outcome = same_outcome once core pick bound number arguments seed trace outcome is wrote.course run in
    let here : outcome_with text ending ≡ outcome_with wrote.course.output wrote.course.ending
    = λ i. outcome_with ((all ∙ wrote.wrote) i) (sym wrote.ended i) in
    subst (λ (o : Outcome). ComesTo o before after end) (here ∙ same) comes

-- all that a run wrote is gathered, where nothing was before
pub wrote_all : (core : Core) (s : Settings) (before after : List ℕ) (logged : List ℕ → Type 0) (end : Ending) → RanToItsEnd (IsRunOf core s) core (Grew (Some before) (Some after)) logged end → before ≡ []
    → Wrote (IsRunOf core s) after end
wrote_all core s before after logged end r empty =
    let grew : Some after ≡ Some (before ++ r.course.output) = r.took_all in
    record { course = r.course; run = r.run; ended = r.ended; wrote = some_injective after (before ++ r.course.output) grew ∙ ap (λ bytes. bytes ++ r.course.output) empty }

-- each run that an experiment may make is one that the machines may
pub allows_all : (core : Core) (code : Code) (bound : ℕ) → Sound core → Codes core code → bound < 2 ^ 63 → AllowsAll core (MayBeMade core code bound)
allows_all core code bound sound codes bounded number exit arguments may = record { exit = exit; may = may; sound = sound; codes = codes_here core code codes; bounded = bounded }
