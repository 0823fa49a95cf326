-- What single tokens stand for in the tree: of each kind a table with a row for each token that stands for such a thing, and none
-- for exactly the others.
use Rattle.std.specs.Prelude.{ℕ, Bool, true, false, Option, Some, None, List, []}
use Rattle.chi_token.specs.declared.keyword.Keyword.TheVariants as keyword
use Rattle.chi_token.specs.declared.sign.Sign.TheVariants as sign
use Rattle.chi_token.specs.declared.token.Token.{Token}
use Rattle.chi_token.specs.declared.token.Token.TheVariants as token
use Rattle.chi_token.specs.declared.place.Place.{Place}
use Rattle.chi_token.specs.declared.place.Spanned.{Spanned}
use Rattle.chi_tree.specs.declared.type_tree.Name.{Name}
use Rattle.chi_tree.specs.declared.type_tree.TypeWord.{TypeWord}
use Rattle.chi_tree.specs.declared.type_tree.TypeWord.TheVariants as type_word
use Rattle.chi_tree.specs.declared.type_tree.Way.{Way}
use Rattle.chi_tree.specs.declared.type_tree.Way.TheVariants as way
use Rattle.chi_tree.specs.declared.operator.Operator.{Operator}
use Rattle.chi_tree.specs.declared.operator.Operator.TheVariants as operator
use Rattle.chi_tree.specs.declared.operator.RelationSign.{RelationSign}
use Rattle.chi_tree.specs.declared.operator.RelationSign.TheVariants as relation
use Rattle.chi_tree.specs.declared.operator.PrefixSign.{PrefixSign}
use Rattle.chi_tree.specs.declared.operator.PrefixSign.TheVariants as prefix
use Rattle.chi_tree.specs.declared.operator.CastWord.{CastWord}
use Rattle.chi_tree.specs.declared.operator.CastWord.TheVariants as cast
use Rattle.chi_tree.specs.declared.expr.Expr.{Expr}
use Rattle.chi_tree.specs.declared.expr.Expr.TheVariants as expr
use Rattle.chi_tree.specs.declared.statement.Statement.{Statement}
use Rattle.chi_tree.specs.declared.statement.Statement.TheVariants as statement

-- the bytes of a name, a number or a text
abbrev pub bytes_of : Token → List ℕ
bytes_of (token.Name bytes) = bytes
bytes_of (token.Int bytes) = bytes
bytes_of (token.Real bytes) = bytes
bytes_of (token.Text bytes) = bytes
bytes_of (token.Word _) = []
bytes_of (token.Sign _) = []

abbrev pub name_of : Spanned → Name
name_of x = record { text = bytes_of x.token; place = x.place }

-- the operators of chains
abbrev pub operator_of : Token → Option Operator
operator_of (token.Word keyword.OrWord) = Some operator.Or
operator_of (token.Word keyword.AndWord) = Some operator.And
operator_of (token.Sign sign.Plus) = Some operator.Add
operator_of (token.Sign sign.Minus) = Some operator.Subtract
operator_of (token.Sign sign.Star) = Some operator.Multiply
operator_of (token.Sign sign.Slash) = Some operator.Divide
operator_of (token.Word keyword.DivWord) = Some operator.DivideWhole
operator_of (token.Word keyword.ModWord) = Some operator.Remainder
operator_of _ = None

abbrev pub relation_of : Token → Option RelationSign
relation_of (token.Sign sign.Less) = Some relation.Less
relation_of (token.Sign sign.LessEqual) = Some relation.LessEqual
relation_of (token.Sign sign.Equal) = Some relation.Equal
relation_of (token.Sign sign.NotEqual) = Some relation.NotEqual
relation_of (token.Sign sign.Greater) = Some relation.Greater
relation_of (token.Sign sign.GreaterEqual) = Some relation.GreaterEqual
relation_of (token.Word keyword.InWord) = Some relation.In
relation_of (token.Word keyword.SubWord) = Some relation.Sub
relation_of _ = None

abbrev pub prefix_of : Token → Option PrefixSign
prefix_of (token.Word keyword.NotWord) = Some prefix.Not
prefix_of (token.Sign sign.Minus) = Some prefix.Minus
prefix_of (token.Sign sign.Plus) = Some prefix.Plus
prefix_of (token.Word keyword.SampleWord) = Some prefix.Sample
prefix_of _ = None

abbrev pub cast_of : Token → Option CastWord
cast_of (token.Word keyword.IntWord) = Some cast.Int
cast_of (token.Word keyword.RealWord) = Some cast.Real
cast_of (token.Word keyword.StringWord) = Some cast.Text
cast_of (token.Word keyword.BoolWord) = Some cast.Bool
cast_of (token.Word keyword.TimerWord) = Some cast.Timer
cast_of _ = None

abbrev pub type_word_of : Token → Option TypeWord
type_word_of (token.Word keyword.BoolWord) = Some type_word.Bool
type_word_of (token.Word keyword.IntWord) = Some type_word.Int
type_word_of (token.Word keyword.RealWord) = Some type_word.Real
type_word_of (token.Word keyword.StringWord) = Some type_word.Text
type_word_of (token.Word keyword.TimerWord) = Some type_word.Timer
type_word_of (token.Word keyword.InstWord) = Some type_word.Inst
type_word_of _ = None

abbrev pub way_of : Token → Option Way
way_of (token.Sign sign.Bang) = Some way.Send
way_of (token.Sign sign.Question) = Some way.Receive
way_of _ = None

abbrev pub literal_of : Token → Place → Option Expr
literal_of (token.Int digits) place = Some (expr.Int digits place)
literal_of (token.Real digits) place = Some (expr.Real digits place)
literal_of (token.Text text) place = Some (expr.Text text place)
literal_of (token.Word keyword.TrueWord) place = Some (expr.Bool true place)
literal_of (token.Word keyword.FalseWord) place = Some (expr.Bool false place)
literal_of (token.Word keyword.TimeWord) place = Some (expr.Time place)
literal_of _ place = None

abbrev pub jump_of : Token → Place → Option Statement
jump_of (token.Word keyword.PassWord) place = Some (statement.Pass place)
jump_of (token.Word keyword.BreakWord) place = Some (statement.Break place)
jump_of (token.Word keyword.ContinueWord) place = Some (statement.Continue place)
jump_of _ place = None

-- whether a write ends its line
abbrev pub ends_line : Token → Option Bool
ends_line (token.Word keyword.WriteWord) = Some false
ends_line (token.Word keyword.WritelnWord) = Some true
ends_line _ = None

-- whether what is made is run, and not started
abbrev pub is_run : Token → Option Bool
is_run (token.Word keyword.RunWord) = Some true
is_run (token.Word keyword.StartWord) = Some false
is_run _ = None
