use Rattle.chi_tree.specs.Statements.{block_of, program_of}
use Rattle.chi_tree.specs.Parts as s
use Rattle.chi_tree.specs.View.{type_of, expr_of}
use Rattle.chi_tree_spell.specs.Expressions.{spelled_expr, spelled_type}
use Rattle.chi_tree_spell.specs.Statements.{spelled, spelled_block}
use Rattle.chi_tree_laws.specs.Answers.{ExprWithin, TypeWithin}
use Rattle.chi_tree_laws.specs.Definitions.{FormedProgram}
use Rattle.chi_tree_laws.specs.ExprNestings.{expr_nestings, type_nestings}
use Rattle.chi_tree_laws.specs.StatementNestings.{block_nestings, nestings}
use Rattle.chi_tree_laws.specs.Statements.{FormedBlock}
use Rattle.chi_tree_laws.proofs.FormedPart.{limits_are, same_length}
use Rattle.chi_tree_laws.proofs.FormedParts.{types, exprs, blocks, programs}
use Rattle.chi_tree_laws.proofs.Leaves.{levels}
use Rattle.chi_tree_laws.proofs.laws.nesting_law.Goals as goal

pub returns : goal.returns
returns c = record {
  types = limits_are TypeWithin spelled_type type_nestings type_of s.AnyType types;
  expressions = limits_are ExprWithin spelled_expr expr_nestings expr_of s.Expr exprs;
  blocks = limits_are FormedBlock spelled_block block_nestings block_of s.Block blocks;
  programs = limits_are FormedProgram spelled nestings program_of s.Program programs;
  of_each_token = λ b d program p. same_length FormedProgram spelled nestings program_of s.Program programs (levels b d) program p;
}
