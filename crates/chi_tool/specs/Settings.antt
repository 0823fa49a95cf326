-- What a run is asked for with, beside its program.
use Rattle.std.specs.Prelude.{ℕ, ◌^◌, ◌<◌, ◌≤◌, ℤ, Bool, true, false, List, [], length, Option, Some, None}
use Rattle.chi_cli.specs.declared.request.Pick as words
use Rattle.chi_cli.specs.declared.request.Pick.TheVariants as pick
use Rattle.chi_cli.specs.declared.words.TheConstants.{STEPS}
use Rattle.chi_lex.specs.declared.lexer.TheConstants.{MOST_BYTES}
use Rattle.chi_trace.specs.declared.filter.Filter.{Filter}
use Rattle.chi_value.specs.declared.value.Value.{Value}
use Rattle.chi_core.specs.Picks.{Pick, IsLawful}
use Rattle.chi_engine.specs.Settings.{Settings, policy_of}
use Rattle.chi_xper_machines.specs.declared.terms.ExperimentTerms.{ExperimentTerms}
use Rattle.chi_tool.specs.declared.task.Asked.{Asked}
use Rattle.chi_tool.specs.declared.settings.ByPicks.{ByPicks}
use Rattle.chi_tool.specs.declared.task.LogPurpose.{LogPurpose}
use Rattle.chi_tool.specs.declared.task.PairPurpose.{PairPurpose}
use Rattle.chi_tool.specs.declared.task.PairPurpose.TheVariants.{Replay, OnLog}
use Rattle.chi_tool.specs.declared.task.Purpose.{Purpose}
use Rattle.chi_tool.specs.declared.task.Purpose.TheVariants.{OfProgram, Explain, LayOut}
use Rattle.chi_tool.specs.declared.task.ProgramPurpose.{ProgramPurpose}
use Rattle.chi_tool.specs.declared.task.ProgramPurpose.TheVariants.{Simulate, Check, ListCode, Experiment}

-- what a run's settings are, with the texts of its arguments
pub record Wanted : Type 0 where
  pub seed : ℕ
  pub bound : ℕ
  pub pick : Pick
  pub texts : List (List ℕ)
  pub until : Option ℤ
  pub trace : Option Filter

-- the same, but for the policy
pub record Unpicked : Type 0 where
  pub seed : ℕ
  pub bound : ℕ
  pub texts : List (List ℕ)
  pub until : Option ℤ
  pub trace : Option Filter

-- by a policy
abbrev pub picked_by : Pick → Unpicked → Wanted
picked_by pick u = record { seed = u.seed; bound = u.bound; pick = pick; texts = u.texts; until = u.until; trace = u.trace }

-- on what terms an experiment is run: the seed of its first run, the bound on the costs of its own statements and on those of each run, and the policy
-- by which each run is picked
pub record Trying : Type 0 where
  pub seed : ℕ
  pub bound : ℕ
  pub pick : Pick

-- what is done with a program: it is run, is run by the picks of a text, is asked of a text as its log, is only checked, has its code listed, or has
-- its first experiment run
pub data ProgramAim : Type 0 where
  simulates : Wanted → ProgramAim
  replays : Unpicked → List ℕ → ProgramAim
  judges : LogPurpose → Unpicked → List ℕ → ProgramAim
  checks : ProgramAim
  lists : ProgramAim
  tries : Trying → ProgramAim

-- what is done with a source: something with its program, or it is laid out as it is written
pub data Aim : Type 0 where
  of_program : ProgramAim → Aim
  lays_out : Aim

-- what tells which events of a trace are logged, where it is wanted
abbrev pub trace_by : {S : Type 0} → Bool → S → Option S
trace_by false probe = None
trace_by true probe = Some probe

-- as words ask
abbrev pub wanted_of : Asked words.Pick → Wanted
wanted_of a = record { seed = a.terms.seed; bound = a.terms.bound; pick = policy_of a.terms.policy; texts = a.texts; until = a.terms.until; trace = a.terms.trace }

abbrev pub unpicked_of : Asked ByPicks → Unpicked
unpicked_of a = record { seed = a.terms.seed; bound = a.terms.bound; texts = a.texts; until = a.terms.until; trace = a.terms.trace }

abbrev pub trying_of : ExperimentTerms → Trying
trying_of t = record { seed = t.seed; bound = t.bound; pick = policy_of t.pick }

abbrev pub program_aim : ProgramPurpose → ProgramAim
program_aim (Simulate a) = simulates (wanted_of a)
program_aim Check = checks
program_aim ListCode = lists
program_aim (Experiment t) = tries (trying_of t)

-- what is told at length is simulated, as words ask
abbrev pub aim_of : Purpose → Aim
aim_of (OfProgram p) = of_program (program_aim p)
aim_of (Explain a) = of_program (simulates (wanted_of a))
aim_of LayOut = lays_out

-- what is done with a program by the text of a second file
abbrev pub pair_aim : PairPurpose → List ℕ → ProgramAim
pair_aim (Replay a) text = replays (unpicked_of a) text
pair_aim (OnLog purpose a) text = judges purpose (unpicked_of a) text

-- with the arguments that the texts mean
abbrev pub settings_with : Wanted → List Value → Settings
settings_with w arguments = record { seed = w.seed; bound = w.bound; pick = w.pick; arguments = arguments; until = w.until; trace = w.trace }

-- where the words say nothing of it
abbrev pub plain : Asked words.Pick
plain = record { terms = record { seed = 0; bound = STEPS; policy = pick.First; until = None; trace = None }; texts = [] }

-- within what is counted
abbrev pub IsBoundedFor : ProgramPurpose → Type 0
IsBoundedFor (Simulate a) = a.terms.bound < 2 ^ 63
IsBoundedFor Check = Unit {0}
IsBoundedFor ListCode = Unit {0}
IsBoundedFor (Experiment t) = t.bound < 2 ^ 63

abbrev pub IsBoundedPair : PairPurpose → Type 0
IsBoundedPair (Replay a) = a.terms.bound < 2 ^ 63
IsBoundedPair (OnLog purpose a) = Unit {0}

abbrev pub IsBounded : Purpose → Type 0
IsBounded (OfProgram p) = IsBoundedFor p
IsBounded (Explain a) = a.terms.bound < 2 ^ 63
IsBounded LayOut = Unit {0}

-- the same, by a policy that picks one of the choices
abbrev pub MayBeAimedAt : ProgramAim → Type 0
MayBeAimedAt (simulates w) = (w.bound < 2 ^ 63) × IsLawful w.pick
MayBeAimedAt (replays u text) = u.bound < 2 ^ 63
MayBeAimedAt (judges purpose u text) = Unit {0}
MayBeAimedAt checks = Unit {0}
MayBeAimedAt lists = Unit {0}
MayBeAimedAt (tries t) = (t.bound < 2 ^ 63) × IsLawful t.pick

abbrev pub MayBeAimed : Aim → Type 0
MayBeAimed (of_program a) = MayBeAimedAt a
MayBeAimed lays_out = Unit {0}

-- a source whose program is asked of a log, or whose experiment is run, is within the limit
abbrev pub IsShortFor : Aim → List ℕ → Type 0
IsShortFor (of_program (judges purpose u text)) source = length source ≤ MOST_BYTES
IsShortFor (of_program (tries t)) source = length source ≤ MOST_BYTES
IsShortFor _ source = Unit {0}
