-- What a source comes to, by what the lexer, the parser and the checker answer; and a log, by what bringing it up answers.
use Rattle.std.proofs.Common.{◌≡◌, ℕ, ◌≤◌, List, length, Result, Ok, Err, refl, subst}
use Rattle.std.specs.Prelude.{IfOk}
use Rattle.chi_base.specs.declared.no_memory.NoMemory.{NoMemory}
use Rattle.chi_token.specs.declared.place.Place.{Place}
use Rattle.chi_token.specs.declared.place.Spanned.{Spanned}
use Rattle.chi_lex.specs.declared.fault.LexFault.{LexFault}
use Rattle.chi_lex.specs.declared.lexer.TheConstants.{MOST_BYTES}
use Rattle.chi_lex.specs.declared.fault.LexFault.TheVariants.{BadByte, OpenString, BadEscape, NoMemory as LexNoMemory}
use Rattle.chi_lex.specs.Reading as lexical
use Rattle.chi_lex.specs.Reading.{Reads, IsFaultOf}
use Rattle.chi_grammar.specs.declared.fault.ParseFault.{ParseFault}
use Rattle.chi_grammar.specs.declared.fault.ParseFault.TheVariants.{Syntax, TooDeep}
use Rattle.chi_grammar.specs.Rules.{part}
use Rattle.chi_grammar.specs.Exact.{ParsesAll}
use Rattle.chi_tree_laws.specs.Answers.{IsFault, IsDepth}
use Rattle.chi_tree.specs.Limits.{whole_room}
use Rattle.chi_tree.specs.Parts as s
use Rattle.chi_tree.specs.Rules.{grammar}
use Rattle.chi_tree.specs.Statements.{program_of}
use Rattle.chi_tree.specs.declared.definition.Program as tree
use Rattle.chi_check_types.specs.declared.fault.TypeFault.{TypeFault}
use Rattle.chi_check_types.specs.declared.fault.TypeFault.TheVariants.{Broken}
use Rattle.chi_check_types.specs.Faults.{fault as broken}
use Rattle.chi_check.specs.Programs.{checked, Answers}
use Rattle.chi_core.specs.declared.program.Core.{Core}
use Rattle.chi_tool.specs.declared.report.Reported.{Reported}
use Rattle.chi_tool.specs.declared.reading.Unparsed.{Unparsed}
use Rattle.chi_tool.specs.declared.reading.Unparsed.TheVariants as reason
use Rattle.chi_tool.specs.declared.reading.Refusal.{Refusal}
use Rattle.chi_tool.specs.declared.reading.Refusal.TheVariants as refusal_by
use Rattle.chi_tool.specs.Readings.{IsUnparsedAs, unparsed_report, IsRefusedAs, refusal_report, SoundlyComes}
use Rattle.chi_trace.specs.declared.fault.LogFault.{LogFault}
use Rattle.chi_trace.specs.declared.fault.LogFault.TheVariants.{Form}
use Rattle.chi_trace.specs.Logs as logs
use Rattle.chi_tool.specs.Refusals as refusal
use Rattle.chi_tool.specs.Report.{IsReportOfLog, misfit}
use Rattle.chi_tool.specs.Reported.{report_in}
use Rattle.chi_tool.specs.Sources.{IsWritten, IsNoProgram, IsUnparsed, by_lexer, by_parser, BreaksRule, IsRefused, unparsed, by_checker, ComesTo}
use Rattle.chi_tool.proofs.LawClauses.{CheckLaw, comes_sound}

-- a fault of the bytes is what the lexer answers
pub lexer_fault : (source : List ℕ) (fault : LexFault) → lexical.HasFault source fault → IsFaultOf source fault
lexer_fault source (BadByte place) has = has
lexer_fault source (OpenString place) has = has
lexer_fault source (BadEscape place) has = has
lexer_fault source LexNoMemory has = tt

-- what the parser answers, but for want of memory
abbrev Answered : List Spanned → Result tree.Program ParseFault → Type 0
Answered tokens result = ParsesAll grammar tokens program_of whole_room (part s.Program) result

module _ (source : List ℕ) (tokens : List Spanned) where
  pub syntax_refused : (fault : ParseFault) (k : ℕ) → (Answered tokens (Err (Syntax k)) → IsFault tokens k) → Reads source tokens
      → fault ≡ Syntax k → (seen : List Spanned) → seen ≡ tokens → Answered seen (Err fault) → IsNoProgram source tokens (Syntax k)
  syntax_refused fault k named reads e seen same has =
      record { read = reads; has = named (subst (λ f. Answered tokens (Err f)) e (subst (λ ts. Answered ts (Err fault)) same has)) }

  pub too_deep_refused : (fault : ParseFault) (k : ℕ) → (Answered tokens (Err (TooDeep k)) → IsDepth tokens k) → Reads source tokens
      → fault ≡ TooDeep k → (seen : List Spanned) → seen ≡ tokens → Answered seen (Err fault) → IsNoProgram source tokens (TooDeep k)
  too_deep_refused fault k named reads e seen same has =
      record { read = reads; has = named (subst (λ f. Answered tokens (Err f)) e (subst (λ ts. Answered ts (Err fault)) same has)) }

pub misfit_refused : (text : List ℕ) (fault : LogFault) (number : ℕ) (result : Result Reported NoMemory) → fault ≡ Form number → logs.IsRefused text fault
    → IfOk result (λ r. report_in r ≡ refusal.misfit number) → IfOk result (λ r. IsReportOfLog text (report_in r))
misfit_refused text fault number (Ok r) e has is = misfit number (subst (λ f. logs.IsRefused text f) e has) is
misfit_refused text fault number (Err lost) e has is = tt

-- what the checker answers

module _ (source : List ℕ) (program : tree.Program) (written : IsWritten source program) where
  pub soundly_read : CheckLaw → (core : Core) → length source ≤ MOST_BYTES → Answers (Ok core) (checked program) → SoundlyComes source core
  soundly_read law core within answer =
      let comes : ComesTo source core = record { tree = program; written = written; unbroken = answer.0; made = answer.1 } in
      record { comes = comes; sound = comes_sound law source core within comes }

  pub rule_broken : (fault : TypeFault) (rule : ℕ) (place : Place) → fault ≡ Broken rule place → Answers (Err fault) (checked program)
      → (there : BreaksRule source (broken rule place)) × (there.tree ≡ program)
  rule_broken fault rule place e answer =
      (record { tree = program; written = written; first = subst (λ f. Answers (Err f) (checked program)) e answer }, refl)

-- a source that is refused so has the report of that

pub unparsed_is : (source : List ℕ) (it : Unparsed) → IsUnparsedAs source it → IsUnparsed source (unparsed_report source it)
unparsed_is source (reason.Lexical fault) has = by_lexer fault has refl
unparsed_is source (reason.Syntax tokens fault) has = by_parser tokens.items fault has refl

pub refused_is : (source : List ℕ) (it : Refusal) → IsRefusedAs source it → IsRefused source (refusal_report source it)
refused_is source (refusal_by.Unparsed it) has = unparsed (unparsed_is source it has)
refused_is source (refusal_by.Broken rule place tree) has = by_checker (broken rule place) has.0 refl
