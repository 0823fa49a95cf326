-- What a source comes to: it is refused with its first fault, or it is a program that can be run, which breaks no rule.
use Rattle.std.specs.Prelude.{◌≡◌, ℕ, List, [], Some, option_map}
use Rattle.chi_token.specs.declared.place.Spanned.{Spanned}
use Rattle.chi_lex.specs.declared.fault.LexFault.{LexFault}
use Rattle.chi_lex.specs.Reading.{Reads}
use Rattle.chi_lex.specs.Reading as lexical
use Rattle.chi_grammar.specs.declared.fault.ParseFault.{ParseFault}
use Rattle.chi_tree.specs.declared.definition.Program.{Program}
use Rattle.chi_check_types.specs.declared.fault.Fault.{Fault}
use Rattle.chi_check_types.specs.Faults.{first}
use Rattle.chi_check.specs.Programs.{checked}
use Rattle.chi_check_streams.specs.Streams.{with_streams}
use Rattle.chi_core.specs.declared.program.Core.{Core}
use Rattle.chi_tool.specs.Refusals as refusal
use Rattle.chi_tool.specs.Refusals.{Report}
use Rattle.chi_tool.specs.Syntax.{HasTree, HasFault}

-- the source is this program, as it is written
pub record IsWritten (source : List ℕ) (tree : Program) : Type 0 where
  pub tokens : List Spanned
  pub read : Reads source tokens
  pub parsed : HasTree tokens tree

-- its tokens are no program: at one of them there is none, or it stands too deep
pub record IsNoProgram (source : List ℕ) (tokens : List Spanned) (fault : ParseFault) : Type 0 where
  pub read : Reads source tokens
  pub has : HasFault tokens fault

-- it is a program that breaks rules, this one first
pub record BreaksRule (source : List ℕ) (fault : Fault) : Type 0 where
  pub tree : Program
  pub written : IsWritten source tree
  pub first : first (checked tree).faults ≡ Some fault

-- a source is refused with its first fault as it is written
pub data IsUnparsed (source : List ℕ) (r : Report) : Type 0 where
  by_lexer : (fault : LexFault) → lexical.HasFault source fault → r ≡ refusal.lexical fault → IsUnparsed source r
  by_parser : (tokens : List Spanned) (fault : ParseFault) → IsNoProgram source tokens fault → r ≡ refusal.syntax source tokens fault → IsUnparsed source r

-- or with the rule that it breaks first
pub data IsRefused (source : List ℕ) (r : Report) : Type 0 where
  unparsed : IsUnparsed source r → IsRefused source r
  by_checker : (fault : Fault) → BreaksRule source fault → r ≡ refusal.typing fault → IsRefused source r

-- or it comes to a program that can be run: the core of what breaks no rule, each distribution with its stream
pub record ComesTo (source : List ℕ) (core : Core) : Type 0 where
  pub tree : Program
  pub written : IsWritten source tree
  pub unbroken : (checked tree).faults ≡ []
  pub made : option_map with_streams (checked tree).made ≡ Some core
