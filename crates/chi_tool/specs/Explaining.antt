-- Private to proofs: what is told at length of a simulation, as the program makes it.
use Rattle.std.specs.Prelude.{◌≡◌, ℕ, List, [], ◌++◌}
use Rattle.chi_cli.specs.declared.args.ArgFault.{ArgFault}
use Rattle.chi_core.specs.declared.program.Core.{Core}
use Rattle.chi_core.specs.Options.{Ending}
use Rattle.chi_engine.specs.Courses.{Course, Runs}
use Rattle.chi_explain.specs.Explanations.{explained}
use Rattle.chi_explain.specs.Lexical as lexical
use Rattle.chi_explain_counts.specs.Numbers.{told_words}
use Rattle.chi_explain_syntax.specs.Syntax.{IsSyntaxExplanation}
use Rattle.chi_value.specs.declared.value.Value.{Value}
use Rattle.chi_tool.specs.declared.reading.Unparsed.{Unparsed}
use Rattle.chi_tool.specs.declared.reading.Unparsed.TheVariants as unparsed
use Rattle.chi_tool.specs.declared.reading.Refusal.{Refusal}
use Rattle.chi_tool.specs.declared.reading.Refusal.TheVariants as refused
use Rattle.chi_tool.specs.Arguments.{Means, Misfits, IsMisfitExplained}
use Rattle.chi_tool.specs.Refusals.{Report}
use Rattle.chi_tool.specs.Running.{IsRestTold, end_told}
use Rattle.chi_tool.specs.Settings.{Wanted, settings_with}
use Rattle.chi_tool.specs.Statuses as statuses
use Rattle.chi_tool.specs.Statuses.{status_of}

-- the text explains why a source has no tree
abbrev pub IsUnparsedText : List ℕ → List ℕ → Unparsed → List ℕ → Type 0
IsUnparsedText file source (unparsed.Lexical fault) text = lexical.IsExplanation file source fault text
IsUnparsedText file source (unparsed.Syntax tokens fault) text = IsSyntaxExplanation file source tokens.items fault text

-- or why it is no program that can be run
abbrev pub IsRefusalText : List ℕ → List ℕ → Refusal → List ℕ → Type 0
IsRefusalText file source (refused.Unparsed it) text = IsUnparsedText file source it text
IsRefusalText file source (refused.Broken rule place tree) text = text ≡ explained file source place (told_words source tree rule place)

abbrev pub refusal_status : Refusal → ℕ
refusal_status (refused.Unparsed (unparsed.Lexical fault)) = statuses.lexical
refusal_status (refused.Unparsed (unparsed.Syntax tokens fault)) = statuses.syntax
refusal_status (refused.Broken rule place tree) = statuses.typing

-- nothing but a text, in the log
abbrev pub text_alone : ℕ → List ℕ → Report
text_alone status text = record { status = status; out = []; log = text }

-- a refusal that is told at length
abbrev pub IsRefusalTold : List ℕ → List ℕ → Refusal → Report → Type 0
IsRefusalTold file source it r = (text : List ℕ) × IsRefusalText file source it text × (r ≡ text_alone (refusal_status it) text)

-- that of arguments
abbrev pub IsMisfitTold : (core : Core) (texts : List (List ℕ)) (wanted : ℕ) (fault : ArgFault) → Report → Type 0
IsMisfitTold core texts wanted fault r =
    (misfits : Misfits core texts wanted fault) × (text : List ℕ) × IsMisfitExplained misfits.model.params texts fault text
    × (r ≡ text_alone statuses.arguments text)

-- what is told of a run, by what is told of its ending
abbrev pub told_with : (Ending → List ℕ) → Course → Report
told_with text course = record { status = status_of course.ending.verdict; out = course.output; log = course.log ++ text course.ending }

-- at length
abbrev pub run_told : List ℕ → Core → List ℕ → Course → Report
run_told source core rest = told_with (end_told source core rest)

-- a program whose simulation is told at length: its arguments are refused, or it is run with them
pub data IsProgramTold (runs : Runs) (source : List ℕ) (core : Core) (w : Wanted) (r : Report) : Type 0 where
  misfit : (wanted : ℕ) (fault : ArgFault) → IsMisfitTold core w.texts wanted fault r → IsProgramTold runs source core w r
  ran : (values : List Value) → Means core w.texts values → (course : Course) → runs core (settings_with w values) course
      → (rest : List ℕ) → IsRestTold core source (settings_with w values) rest → r ≡ run_told source core rest course → IsProgramTold runs source core w r
