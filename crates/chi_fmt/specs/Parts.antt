-- The spots of what stands within one line: names, variables, targets, walks, communications, and what is run or started.
use Rattle.std.specs.Prelude.{List, [], ◌∷◌, ◌++◌, Option, Some, None, map}
use Rattle.std.specs.Option.{option_map}
use Rattle.chi_token.specs.declared.keyword.Keyword.{Keyword}
use Rattle.chi_token.specs.declared.keyword.Keyword.TheVariants.{DelayWord, EndWord, InWord, UnwindWord}
use Rattle.chi_token.specs.declared.sign.Sign.{Sign}
use Rattle.chi_token.specs.declared.sign.Sign.TheVariants.{Assign, Bang, Question, Comma, Colon}
use Rattle.chi_token.specs.declared.token.Token.TheVariants as token
use Rattle.chi_tree.specs.declared.type_tree.Name.{Name}
use Rattle.chi_tree.specs.declared.expr.Expr.{Expr}
use Rattle.chi_tree.specs.declared.statement.Variable.{Variable}
use Rattle.chi_tree.specs.declared.statement.Initial.{Initial}
use Rattle.chi_tree.specs.declared.statement.Target.{Target}
use Rattle.chi_tree.specs.declared.statement.Walk.{Walk}
use Rattle.chi_tree.specs.declared.statement.Communication.{Communication}
use Rattle.chi_tree.specs.declared.statement.Communication.TheVariants.{Send, Receive, Delay}
use Rattle.chi_tree.specs.declared.statement.Element.{Element, Element-F, fold-Element}
use Rattle.chi_tree_spell.specs.Words.{name_token, if_any, all}
use Rattle.chi_fmt.specs.declared.spot.Role.TheVariants.{Usual, Communicates}
use Rattle.chi_fmt.specs.declared.spot.Spot.{Spot}
use Rattle.chi_fmt.specs.Expressions.{Spots, spot, expr_spots, exprs_spots, postfix_spots, commas, round}

abbrev pub word : Keyword → Spot
word keyword = spot (token.Word keyword) Usual

abbrev pub sign : Sign → Spot
sign mark = spot (token.Sign mark) Usual

abbrev pub name_spot : Name → Spot
name_spot name = spot (name_token name) Usual

abbrev pub name_spots : Name → Spots
name_spots name = name_spot name ∷ []

abbrev pub names_spots : List Name → Spots
names_spots names = commas (map name_spots names)

abbrev pub initial_spots : Option Initial → Spots
initial_spots None = []
initial_spots (Some initial) = sign Assign ∷ expr_spots initial.value

abbrev pub variable_spots : Variable → Spots
variable_spots variable = name_spot variable.name ∷ initial_spots variable.initial

abbrev pub target_spots : Target → Spots
target_spots target = name_spot target.name ∷ all (map postfix_spots target.steps)

abbrev pub walk_spots : Walk → Spots
walk_spots walk = names_spots walk.names ++ word InWord ∷ expr_spots walk.container

-- the `!` or `?` of a communication
abbrev pub communicates : Sign → Spot
communicates mark = spot (token.Sign mark) Communicates

abbrev pub communication_spots : Communication → Spots
communication_spots (Send target place value) = target_spots target ++ communicates Bang ∷ if_any (option_map expr_spots value)
communication_spots (Receive target place name) = target_spots target ++ communicates Question ∷ if_any (option_map name_spots name)
communication_spots (Delay place length) = word DelayWord ∷ expr_spots length

-- what is run or started

abbrev pub assigned_spots : Option Target → Spots
assigned_spots None = []
assigned_spots (Some target) = target_spots target ++ sign Assign ∷ []

abbrev pub element_step : Element-F Spots → Spots
element_step (Element-F.Make target name arguments) = assigned_spots target ++ name_spot name ∷ round (exprs_spots arguments)
element_step (Element-F.Unwind place walk elements) =
    word UnwindWord ∷ walk_spots walk ++ sign Colon ∷ commas elements ++ word EndWord ∷ []

abbrev pub element_spots : Element → Spots
element_spots = fold-Element Spots element_step

abbrev pub elements_spots : List Element → Spots
elements_spots elements = commas (map element_spots elements)

-- the condition of an alternative, where one is written
abbrev pub guard_spots : Option Expr → Spots
guard_spots None = []
guard_spots (Some guard) = expr_spots guard ++ sign Comma ∷ []

-- what an alternative offers: its condition and its communication
abbrev pub offer_spots : Option Expr → Communication → Spots
offer_spots guard communication = guard_spots guard ++ communication_spots communication
