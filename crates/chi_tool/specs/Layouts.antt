-- The canonical layout of a source.
use Rattle.std.specs.Prelude.{◌≡◌, ℕ, List}
use Rattle.chi_fmt.specs.Comments.{comments_of}
use Rattle.chi_fmt.specs.Layout.{layout}
use Rattle.chi_tree.specs.declared.definition.Program.{Program}
use Rattle.chi_tool.specs.Sources.{IsWritten}

-- the source is a program, as it is written, whose layout with the comments of the source is this text
pub record HasLayout (source text : List ℕ) : Type 0 where
  pub tree : Program
  pub written : IsWritten source tree
  pub is : text ≡ layout tree (comments_of source written.tokens)
