use Rattle.chi_tree.specs.Parts as s
use Rattle.chi_tree.specs.View.{type_of, expr_of}
use Rattle.chi_tree_spell.specs.Expressions.{spelled_expr, spelled_type, marked_expr, marked_type}
use Rattle.chi_tree_spell.proofs.ProgramSpelling.{type_places, expr_places}
use Rattle.chi_tree_laws.specs.Answers.{ExprWithin, TypeWithin}
use Rattle.chi_tree_laws.specs.ExprNestings.{expr_nestings, type_nestings}
use Rattle.chi_tree_laws.proofs.FormedParts.{types, exprs}
use Rattle.chi_tree_laws.proofs.OneExpr.{one_type, one_expr}
use Rattle.chi_tree_laws.proofs.PlacedOnce.{one_placed_expr, one_placed_type}
use Rattle.chi_tree_laws.proofs.PartAnswers.{stop_is, depth_is, longest_to, longest_from}
use Rattle.chi_tree_laws.proofs.laws.parsed_part_law.Goals as goal

pub returns : goal.returns
returns c = record {
  expr = λ tokens at room e end inside. (
    longest_to tokens at inside room s.Expr ExprWithin spelled_expr expr_nestings expr_of exprs marked_expr expr_places e end,
    longest_from tokens at inside room s.Expr ExprWithin spelled_expr expr_nestings expr_of exprs marked_expr expr_places
        (λ x y p q same xs a b.
        one_placed_expr room.expressions room.expressions x y xs p q a b (one_expr room.expressions room.expressions x y p q same)) e end,
  );
  expr_syntax = λ tokens at room k inside. stop_is tokens at inside room s.Expr ExprWithin spelled_expr expr_nestings expr_of exprs k;
  expr_too_deep = λ tokens at room k inside. depth_is tokens at inside room s.Expr ExprWithin spelled_expr expr_nestings expr_of exprs k;
  any_type = λ tokens at room ty end inside. (
    longest_to tokens at inside room s.AnyType TypeWithin spelled_type type_nestings type_of types marked_type type_places ty end,
    longest_from tokens at inside room s.AnyType TypeWithin spelled_type type_nestings type_of types marked_type type_places
        (λ x y p q same xs a b.
        one_placed_type room.expressions room.expressions x y xs p q a b (one_type room.expressions room.expressions x y p q same)) ty end,
  );
  type_syntax = λ tokens at room k inside. stop_is tokens at inside room s.AnyType TypeWithin spelled_type type_nestings type_of types k;
  type_too_deep = λ tokens at room k inside. depth_is tokens at inside room s.AnyType TypeWithin spelled_type type_nestings type_of types k;
}
