-- Private to proofs: what a source comes to, as the program holds it.
use Rattle.std.specs.Prelude.{◌≡◌, ℕ, List, length, Some, slice_get}
use Rattle.chi_cli.specs.declared.args.ArgFault.{ArgFault}
use Rattle.chi_core.specs.declared.program.Core.{Core}
use Rattle.chi_core.specs.declared.program.ProcDef.{ProcDef}
use Rattle.chi_core.specs.Kinds.{kinds_of}
use Rattle.chi_core.specs.Of.{at_start, AreOf}
use Rattle.chi_core.specs.Sound.{Sound}
use Rattle.chi_lex.specs.Reading.{Reads}
use Rattle.chi_lex.specs.Reading as lexical
use Rattle.chi_check_types.specs.Faults.{fault as broken}
use Rattle.chi_tool.specs.declared.arguments.Arguments.{Arguments}
use Rattle.chi_tool.specs.declared.arguments.Arguments.TheVariants as arguments
use Rattle.chi_tool.specs.declared.arguments.Fitting.{Fitting}
use Rattle.chi_tool.specs.declared.arguments.Fitting.TheVariants as fitting
use Rattle.chi_tool.specs.declared.reading.Unparsed.{Unparsed}
use Rattle.chi_tool.specs.declared.reading.Unparsed.TheVariants as unparsed
use Rattle.chi_tool.specs.declared.reading.Refusal.{Refusal}
use Rattle.chi_tool.specs.declared.reading.Refusal.TheVariants as refused
use Rattle.chi_tool.specs.declared.reading.Spelling.{Spelling}
use Rattle.chi_tool.specs.declared.reading.Spelling.TheVariants as spelling
use Rattle.chi_tool.specs.declared.reading.Reading.{Reading}
use Rattle.chi_tool.specs.declared.reading.Reading.TheVariants as reading
use Rattle.chi_tool.specs.declared.source.Parsed.{Parsed}
use Rattle.chi_tool.specs.declared.source.Parsed.TheVariants as parsed
use Rattle.chi_tool.specs.declared.source.Source.{Source}
use Rattle.chi_tool.specs.declared.source.Source.TheVariants.{Refused, Program}
use Rattle.chi_tool.specs.Arguments.{Means, Misfits}
use Rattle.chi_tool.specs.Refusals as refusal
use Rattle.chi_tool.specs.Refusals.{Report, unfit_arguments}
use Rattle.chi_tool.specs.Reported.{report_in}
use Rattle.chi_tool.specs.Sources.{IsUnparsed, IsNoProgram, IsRefused, BreaksRule, ComesTo}
use Rattle.chi_tool.specs.Syntax.{HasTree}

-- a sound program to which it comes
pub record SoundlyComes (source : List ℕ) (core : Core) : Type 0 where
  pub comes : ComesTo source core
  pub sound : Sound core

-- it has this fault, as it is written
abbrev pub IsUnparsedAs : List ℕ → Unparsed → Type 0
IsUnparsedAs source (unparsed.Lexical fault) = lexical.HasFault source fault
IsUnparsedAs source (unparsed.Syntax tokens fault) = IsNoProgram source tokens.items fault

abbrev pub unparsed_report : List ℕ → Unparsed → Report
unparsed_report source (unparsed.Lexical fault) = refusal.lexical fault
unparsed_report source (unparsed.Syntax tokens fault) = refusal.syntax source tokens.items fault

-- or this fault
abbrev pub IsRefusedAs : List ℕ → Refusal → Type 0
IsRefusedAs source (refused.Unparsed it) = IsUnparsedAs source it
IsRefusedAs source (refused.Broken rule place tree) = (there : BreaksRule source (broken rule place)) × (there.tree ≡ tree)

abbrev pub refusal_report : List ℕ → Refusal → Report
refusal_report source (refused.Unparsed it) = unparsed_report source it
refusal_report source (refused.Broken rule place tree) = refusal.typing (broken rule place)

-- it has this fault, or has these tokens, which are this program
abbrev pub IsSpelledAs : List ℕ → Spelling → Type 0
IsSpelledAs source (spelling.Unparsed it) = IsUnparsedAs source it
IsSpelledAs source (spelling.Written tokens tree) = Reads source tokens.items × HasTree tokens.items tree

abbrev pub IsReadingOf : List ℕ → Reading → Type 0
IsReadingOf source (reading.Refused it) = IsRefusedAs source it
IsReadingOf source (reading.Program core) = SoundlyComes source core

-- it is refused, or has these tokens, which are this program
abbrev pub IsParsedAs : List ℕ → Parsed → Type 0
IsParsedAs source (parsed.Refused r) = IsUnparsed source (report_in r)
IsParsedAs source (parsed.Written tokens tree) = Reads source tokens.items × HasTree tokens.items tree

-- arguments that the texts mean are of the kinds of the parameters, or the texts don't fit
abbrev pub AreFittedAs : Core → List (List ℕ) → Fitting → Type 0
AreFittedAs core texts (fitting.Unfit it) = Misfits core texts it.wanted it.fault
AreFittedAs core texts (fitting.Fit values) =
    Means core texts values.items × ((d : ProcDef) → slice_get core.procs core.model ≡ Some d → AreOf (at_start core.names.kinds) values.items (kinds_of d.params))

-- or the texts are refused
abbrev pub AreReadAs : Core → List (List ℕ) → Arguments → Type 0
AreReadAs core texts (arguments.Unfit r) =
    (wanted : ℕ) × (fault : ArgFault) × Misfits core texts wanted fault × (report_in r ≡ unfit_arguments wanted (length texts) fault)
AreReadAs core texts (arguments.Fit values) =
    Means core texts values.items × ((d : ProcDef) → slice_get core.procs core.model ≡ Some d → AreOf (at_start core.names.kinds) values.items (kinds_of d.params))

abbrev pub IsReadAs : List ℕ → Source → Type 0
IsReadAs source (Refused r) = IsRefused source (report_in r)
IsReadAs source (Program core) = SoundlyComes source core
