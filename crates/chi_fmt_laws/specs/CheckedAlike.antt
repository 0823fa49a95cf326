-- What the checker makes of the text of a layout.
use Rattle.std.specs.Prelude.{◌≡◌, ℕ, List, Ok}
use Rattle.chi_token.specs.declared.place.Spanned.{Spanned}
use Rattle.chi_lex.specs.Reading.{Reads}
use Rattle.chi_tree.specs.declared.definition.Program.{Program}
use Rattle.chi_tree_laws.specs.Answers.{IsProgram}
use Rattle.chi_core.specs.declared.program.Core.{Core}
use Rattle.chi_check_program_places.specs.Below.chi_check.specs.Programs.{checked, Answers}
use Rattle.chi_check_program_places.specs.Lineless.{lineless, lineless_typed}

-- The text is a program that comes to what this one comes to, but for places and lines: it breaks the same rules in the same
-- order, and has the same core.
pub record IsCheckedAlike (text : List ℕ) (program : Program) : Type 0 where
  pub tokens : List Spanned
  pub reads : Reads text tokens
  pub tree : Program
  pub is : IsProgram tokens tree
  pub same : lineless_typed (checked tree) ≡ lineless_typed (checked program)

-- the text is a program that is accepted with this core, but for its lines
pub record IsAcceptedAs (text : List ℕ) (core : Core) : Type 0 where
  pub tokens : List Spanned
  pub reads : Reads text tokens
  pub tree : Program
  pub is : IsProgram tokens tree
  pub accepted : Core
  pub answers : Answers (Ok accepted) (checked tree)
  pub same : lineless accepted ≡ lineless core
