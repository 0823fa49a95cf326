-- The broken rules of an expression or a type, in the order of the text, and what it comes to where there are none.
use Rattle.std.specs.Prelude.{ℕ, Bool, List, [], ◌∷◌, Option, Some, None}
use Rattle.chi_tree.specs.declared.type_tree.TypeTree.{TypeTree, fold-TypeTree}
use Rattle.chi_tree.specs.declared.type_tree.Formal.{Formal, fold-Formal}
use Rattle.chi_tree.specs.declared.expr.Expr.{Expr, fold-Expr}
use Rattle.chi_tree.specs.declared.expr.Postfix.{Postfix, fold-Postfix}
use Rattle.chi_tree.specs.declared.expr.Entry.{Entry, fold-Entry}
use Rattle.chi_tree.specs.declared.expr.Link.{Link, fold-Link}
use Rattle.chi_check_types.specs.declared.meant.Made.{Made}
use Rattle.chi_check_types.specs.declared.site.Site.{Site}
use Rattle.chi_check_types.specs.Names.{Names}
use Rattle.chi_check_types.specs.Typed.{Typed}
use Rattle.chi_check_expr.specs.Reads.{Read, Taken, Reading, Paired, Linked, Field}
use Rattle.chi_check_expr.specs.Expressions.{expr_step, postfix_step, entry_step, link_step}
use Rattle.chi_check_expr.specs.TypeTrees.{type_step, formal_step}

module _ (site : Site) (names : Names) where
  unfoldable pub read : Expr → Read
  read = fold-Expr Read Taken Reading Paired Linked Field (expr_step site names) postfix_step (type_step names) entry_step link_step formal_step

  unfoldable pub taken : Postfix → Taken
  taken = fold-Postfix Read Taken Reading Paired Linked Field (expr_step site names) postfix_step (type_step names) entry_step link_step formal_step

  unfoldable pub paired : Entry → Paired
  paired = fold-Entry Read Taken Reading Paired Linked Field (expr_step site names) postfix_step (type_step names) entry_step link_step formal_step

  unfoldable pub linked : Link → Linked
  linked = fold-Link Read Taken Reading Paired Linked Field (expr_step site names) postfix_step (type_step names) entry_step link_step formal_step

  -- a formal or a field
  unfoldable pub formal : Formal → Field
  formal = fold-Formal Read Taken Reading Paired Linked Field (expr_step site names) postfix_step (type_step names) entry_step link_step formal_step

  -- a type, with whether it may have a size
  unfoldable pub reading : TypeTree → Reading
  reading = fold-TypeTree Read Taken Reading Paired Linked Field (expr_step site names) postfix_step (type_step names) entry_step link_step formal_step

  -- an expression
  abbrev pub typing : Expr → Typed Made
  typing e = (read e).typed
