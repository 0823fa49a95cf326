-- The levels of expressions, from the one that binds least to the one that binds most.
use Rattle.chi_tree.specs.declared.operator.Operator.{Operator}
use Rattle.chi_tree.specs.declared.operator.Operator.TheVariants as operator
use Rattle.chi_tree.specs.declared.operator.PrefixSign.{PrefixSign}
use Rattle.chi_tree.specs.declared.operator.PrefixSign.TheVariants as prefix

pub data Level : Type 0 where
  Expr Conj Neg Rel Sum Prod Unary Power Post Primary : Level

-- the level of the chains that an operator makes
abbrev pub level_of : Operator → Level
level_of operator.Or = Expr
level_of operator.And = Conj
level_of operator.Add = Sum
level_of operator.Subtract = Sum
level_of operator.Multiply = Prod
level_of operator.Divide = Prod
level_of operator.DivideWhole = Prod
level_of operator.Remainder = Prod

-- the level of what begins with a prefix operator
abbrev pub prefix_level : PrefixSign → Level
prefix_level prefix.Not = Neg
prefix_level prefix.Minus = Unary
prefix_level prefix.Plus = Unary
prefix_level prefix.Sample = Unary
