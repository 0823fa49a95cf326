-- The canonical layout of a tree with comments, as a text.
use Rattle.std.specs.Prelude.{ℕ, List}
use Rattle.chi_tree.specs.declared.definition.Program.{Program}
use Rattle.chi_fmt.specs.declared.comment.Comment.{Comment}
use Rattle.chi_fmt.specs.Definitions.{program_lines}
use Rattle.chi_fmt.specs.Pages.{lines_text}

abbrev pub layout : Program → List Comment → List ℕ
layout program comments = lines_text 0 (program_lines program) comments
