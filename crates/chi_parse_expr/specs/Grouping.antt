-- Levels of operators that group from the left, as parts of the grammar.
use Rattle.chi_parse_expr.specs.declared.level.ChainLevel.{ChainLevel}
use Rattle.chi_parse_expr.specs.declared.level.ChainLevel.TheVariants.{Or, And, Sum, Product}
use Rattle.chi_tree.specs.Parts.{Part}
use Rattle.chi_tree.specs.Parts as s

-- an operand with the links after it
abbrev pub chain_part : ChainLevel → Part
chain_part Or = s.Expr
chain_part And = s.Conj
chain_part Sum = s.Sum
chain_part Product = s.Prod

-- an operator with the operand after it
abbrev pub link_part : ChainLevel → Part
link_part Or = s.OrLink
link_part And = s.AndLink
link_part Sum = s.SumLink
link_part Product = s.ProdLink

-- what the operators of the level stand between
abbrev pub operand_part : ChainLevel → Part
operand_part Or = s.Conj
operand_part And = s.Neg
operand_part Sum = s.Prod
operand_part Product = s.Unary
