-- What the text of a program is read as, and what is written of that.
use Rattle.std.specs.Prelude.{◌≡◌, ℕ, List, map}
use Rattle.chi_token.specs.declared.place.Spanned.{Spanned}
use Rattle.chi_lex.specs.Reading.{Reads}
use Rattle.chi_tree.specs.declared.definition.Program.{Program}
use Rattle.chi_tree.specs.Limits.{whole_room}
use Rattle.chi_tree_spell.specs.Statements.{spelled}
use Rattle.chi_tree_spell.specs.Words.{token_of}
use Rattle.chi_tree_laws.specs.Answers.{IsProgram}
use Rattle.chi_tree_laws.specs.Definitions.{FormedProgram}
use Rattle.chi_tree_laws.specs.UnplacedStatements.{unplaced}
use Rattle.chi_fmt.specs.declared.comment.Comment.{Comment}
use Rattle.chi_fmt.specs.Comments.{comments_of}
use Rattle.chi_fmt.specs.Kept.{kept}
use Rattle.chi_fmt.specs.Layout.{layout}

abbrev pub text_at : Comment → List ℕ
text_at comment = comment.text

-- the program is formed within the limits on nesting, and its tokens are those of some source
pub record IsOfSource (program : Program) : Type 0 where
  pub formed : FormedProgram whole_room.blocks whole_room.expressions program
  pub source : List ℕ
  pub tokens : List Spanned
  pub reads : Reads source tokens
  pub same : spelled program ≡ map token_of tokens

-- The text is read as tokens, which are a program: the one with the `;` that are kept, but for its places. It has comments with the
-- same bytes in the same order, and the layout of what is read, with them, is the same text.
pub record IsReread (text : List ℕ) (program : Program) (comments : List Comment) : Type 0 where
  pub tokens : List Spanned
  pub reads : Reads text tokens
  pub tree : Program
  pub is : IsProgram tokens tree
  pub same : unplaced tree ≡ unplaced (kept program)
  pub texts : map text_at (comments_of text tokens) ≡ map text_at comments
  pub again : layout tree (comments_of text tokens) ≡ text
