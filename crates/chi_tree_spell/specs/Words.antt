-- The token of each operator and of each word, and lists with others between them.
use Rattle.std.specs.Prelude.{Bool, true, false, List, [], ◌∷◌, ◌++◌, Option, Some, None}
use Rattle.chi_token.specs.declared.keyword.Keyword.{Keyword}
use Rattle.chi_token.specs.declared.keyword.Keyword.TheVariants as keyword
use Rattle.chi_token.specs.declared.sign.Sign.TheVariants as sign
use Rattle.chi_token.specs.declared.place.Spanned.{Spanned}
use Rattle.chi_token.specs.declared.token.Token.{Token}
use Rattle.chi_token.specs.declared.token.Token.TheVariants.{Word, Sign, Name}
use Rattle.chi_tree.specs.declared.type_tree.Name as name
use Rattle.chi_tree.specs.declared.type_tree.TypeWord.{TypeWord}
use Rattle.chi_tree.specs.declared.type_tree.TypeWord.TheVariants as type_word
use Rattle.chi_tree.specs.declared.operator.Operator.{Operator}
use Rattle.chi_tree.specs.declared.operator.Operator.TheVariants as operator
use Rattle.chi_tree.specs.declared.operator.RelationSign.{RelationSign}
use Rattle.chi_tree.specs.declared.operator.RelationSign.TheVariants as relation
use Rattle.chi_tree.specs.declared.operator.PrefixSign.{PrefixSign}
use Rattle.chi_tree.specs.declared.operator.PrefixSign.TheVariants as prefix
use Rattle.chi_tree.specs.declared.operator.CastWord.{CastWord}
use Rattle.chi_tree.specs.declared.operator.CastWord.TheVariants as cast

abbrev pub Tokens : Type 0
Tokens = List Token

-- the token of one that stands in a source
abbrev pub token_of : Spanned → Token
token_of x = x.token

abbrev pub operator_token : Operator → Token
operator_token operator.Or = Word keyword.OrWord
operator_token operator.And = Word keyword.AndWord
operator_token operator.Add = Sign sign.Plus
operator_token operator.Subtract = Sign sign.Minus
operator_token operator.Multiply = Sign sign.Star
operator_token operator.Divide = Sign sign.Slash
operator_token operator.DivideWhole = Word keyword.DivWord
operator_token operator.Remainder = Word keyword.ModWord

abbrev pub relation_token : RelationSign → Token
relation_token relation.Less = Sign sign.Less
relation_token relation.LessEqual = Sign sign.LessEqual
relation_token relation.Equal = Sign sign.Equal
relation_token relation.NotEqual = Sign sign.NotEqual
relation_token relation.Greater = Sign sign.Greater
relation_token relation.GreaterEqual = Sign sign.GreaterEqual
relation_token relation.In = Word keyword.InWord
relation_token relation.Sub = Word keyword.SubWord

abbrev pub prefix_token : PrefixSign → Token
prefix_token prefix.Not = Word keyword.NotWord
prefix_token prefix.Minus = Sign sign.Minus
prefix_token prefix.Plus = Sign sign.Plus
prefix_token prefix.Sample = Word keyword.SampleWord

abbrev pub cast_token : CastWord → Token
cast_token cast.Int = Word keyword.IntWord
cast_token cast.Real = Word keyword.RealWord
cast_token cast.Text = Word keyword.StringWord
cast_token cast.Bool = Word keyword.BoolWord
cast_token cast.Timer = Word keyword.TimerWord

abbrev pub type_token : TypeWord → Token
type_token type_word.Bool = Word keyword.BoolWord
type_token type_word.Int = Word keyword.IntWord
type_token type_word.Real = Word keyword.RealWord
type_token type_word.Text = Word keyword.StringWord
type_token type_word.Timer = Word keyword.TimerWord
type_token type_word.Inst = Word keyword.InstWord

abbrev pub truth_token : Bool → Token
truth_token true = Word keyword.TrueWord
truth_token false = Word keyword.FalseWord

-- that of a write, by whether it ends its line
abbrev pub write_word : Bool → Keyword
write_word false = keyword.WriteWord
write_word true = keyword.WritelnWord

abbrev pub name_token : name.Name → Token
name_token n = Name n.text

-- what may be left out
abbrev pub if_any : {X : Type 0} → Option (List X) → List X
if_any None = []
if_any (Some tokens) = tokens

-- all of them in turn
abbrev pub all : {X : Type 0} → List (List X) → List X
all [] = []
all (tokens ∷ more) = tokens ++ all more

-- each of them after this one
abbrev pub each_after : {X : Type 0} → X → List (List X) → List X
each_after between [] = []
each_after between (tokens ∷ more) = between ∷ tokens ++ each_after between more

-- all of them, with this one between each two
abbrev pub separated : {X : Type 0} → X → List (List X) → List X
separated between [] = []
separated between (tokens ∷ more) = tokens ++ each_after between more
