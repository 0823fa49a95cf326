-- Reports, and those that are nothing but the line of a refusal.
use Rattle.std.specs.Prelude.{ℕ, List, [], ◌∷◌, ◌++◌, codes}
use Rattle.std.specs.Fmt.{decimal}
use Rattle.chi_cli.specs.declared.args.ArgFault.{ArgFault}
use Rattle.chi_cli.specs.declared.args.ArgFault.TheVariants as arg
use Rattle.chi_cli_help.specs.declared.topic.Topic.{Topic}
use Rattle.chi_cli_help.specs.Help.{help_text}
use Rattle.chi_code.specs.declared.code.Code.{Code}
use Rattle.chi_code_listing.specs.Listing.{listing_text}
use Rattle.chi_token.specs.declared.place.Spanned.{Spanned}
use Rattle.chi_lex.specs.declared.fault.LexFault.{LexFault}
use Rattle.chi_lex.specs.declared.fault.LexFault.TheVariants as fault
use Rattle.chi_grammar.specs.declared.fault.ParseFault.{ParseFault}
use Rattle.chi_check_types.specs.declared.fault.Fault.{Fault}
use Rattle.chi_picks.specs.Lists.{spelled}
use Rattle.chi_tool.specs.declared.task.LogPurpose.{LogPurpose}
use Rattle.chi_tool.specs.declared.task.LogPurpose.TheVariants.{Judge, Picks}
use Rattle.chi_tool.specs.Statuses as statuses
use Rattle.chi_tool.specs.Syntax.{placed, syntax_text}

-- the status, and what is written to the output and to the log
pub record Report : Type 0 where
  pub status : ℕ
  pub out : List ℕ
  pub log : List ℕ

abbrev pub line : List ℕ → List ℕ
line text = text ++ 10 ∷ []

-- nothing but one line, in the log
abbrev pub refused : ℕ → List ℕ → Report
refused status text = record { status = status; out = []; log = line text }

-- the same, with this text in place of its log
abbrev pub at_length : Report → List ℕ → Report
at_length r text = record { status = r.status; out = r.out; log = text }

abbrev pub usage : Report
usage = refused statuses.no_request (codes "usage: chi COMMAND [OPTIONS] FILE [ARGS]")

abbrev pub no_such_file : Report
no_such_file = refused statuses.not_read (codes "no such file")

abbrev pub file_too_long : Report
file_too_long = refused statuses.not_read (codes "file too long")

-- the line of a fault of a source's reading, of which want of memory is none
abbrev pub lexical_text : LexFault → List ℕ
lexical_text (fault.BadByte place) = placed place (codes "bad byte")
lexical_text (fault.OpenString place) = placed place (codes "open string")
lexical_text (fault.BadEscape place) = placed place (codes "bad escape")
lexical_text fault.NoMemory = []

abbrev pub lexical : LexFault → Report
lexical fault = refused statuses.lexical (lexical_text fault)

abbrev pub syntax : List ℕ → List Spanned → ParseFault → Report
syntax source tokens fault = refused statuses.syntax (syntax_text source tokens fault)

-- the rule that a program breaks first, and where
abbrev pub typing : Fault → Report
typing fault = refused statuses.typing (placed fault.place (codes "rule " ++ decimal fault.rule))

-- the line of a fault of arguments, of which so many are wanted and so many are given; want of memory is none
abbrev pub arguments_text : ℕ → ℕ → ArgFault → List ℕ
arguments_text wanted given arg.Count = codes "arguments: wanted " ++ decimal wanted ++ codes ", given " ++ decimal given
arguments_text wanted given (arg.Kind k) = codes "argument " ++ decimal k ++ codes ": type"
arguments_text wanted given (arg.Text k) = codes "argument " ++ decimal k ++ codes ": text"
arguments_text wanted given arg.NoMemory = []

abbrev pub unfit_arguments : ℕ → ℕ → ArgFault → Report
unfit_arguments wanted given fault = refused statuses.arguments (arguments_text wanted given fault)

-- line k of the picks, counted from 1, is the first that doesn't fit
abbrev pub mispicked : ℕ → Report
mispicked k = refused statuses.mispicked (codes "picks line " ++ decimal k)

-- line k of a text, counted from 1, is the first wrong one: it is no log that a program can give
abbrev pub no_log : ℕ → Report
no_log k = refused statuses.no_log (codes "no at line " ++ decimal k)

-- no refusal: it is the log of a run, whose output is written, or its picks
abbrev pub is_log : LogPurpose → List ℕ → List ℕ → Report
is_log Judge output picks = record { status = statuses.judged; out = output; log = line (codes "yes") }
is_log Picks output picks = record { status = statuses.picks_told; out = spelled picks; log = [] }

-- line k of a log of old, counted from 1, is the first that doesn't fit
abbrev pub misfit : ℕ → Report
misfit k = refused statuses.misfit (codes "line " ++ decimal k ++ codes ": trace form")

-- no refusal: a log is brought up to this one, which is written to the output
abbrev pub brought_up : List ℕ → Report
brought_up up = record { status = statuses.brought_up; out = up; log = [] }

-- no refusal: a program that was to be checked breaks no rule
abbrev pub accepted : Report
accepted = refused statuses.accepted (codes "accepted")

-- no refusal: the code of a program is listed in the output
abbrev pub listed : Code → Report
listed code = record { status = statuses.listed; out = listing_text code; log = [] }

-- no refusal: the layout of a source is written to the output
abbrev pub laid_out : List ℕ → Report
laid_out text = record { status = statuses.laid_out; out = text; log = [] }

abbrev pub layout_too_long : Report
layout_too_long = refused statuses.layout_too_long (codes "formatted text too long")

-- no refusal: help on a topic is written to the output
abbrev pub helped : Topic → Report
helped topic = record { status = statuses.helped; out = help_text topic; log = [] }
