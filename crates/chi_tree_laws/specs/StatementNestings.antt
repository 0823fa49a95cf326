-- The nesting of each token of a statement, a definition and a program, from left to right.
use Rattle.std.specs.Prelude.{Bool, true, false, List, [], ◌∷◌, ◌++◌, Option, Some, None, map}
use Rattle.std.specs.Option.{option_map}
use Rattle.chi_tree.specs.declared.type_tree.Name.{Name}
use Rattle.chi_tree.specs.declared.type_tree.TypeTree.{TypeTree}
use Rattle.chi_tree.specs.declared.type_tree.Formal.{Formal}
use Rattle.chi_tree.specs.declared.expr.Expr.{Expr}
use Rattle.chi_tree.specs.declared.statement.Variable.{Variable}
use Rattle.chi_tree.specs.declared.statement.Initial.{Initial}
use Rattle.chi_tree.specs.declared.statement.Target.{Target}
use Rattle.chi_tree.specs.declared.statement.Walk.{Walk}
use Rattle.chi_tree.specs.declared.statement.Communication.{Communication}
use Rattle.chi_tree.specs.declared.statement.Communication.TheVariants.{Send, Receive, Delay}
use Rattle.chi_tree.specs.declared.statement.Element.{Element, Element-F, fold-Element}
use Rattle.chi_tree.specs.declared.statement.Step.{Step, Step-F, fold-Step}
use Rattle.chi_tree.specs.declared.statement.Statement.{Statement, Statement-F, fold-Statement}
use Rattle.chi_tree.specs.declared.statement.Branch.{Branch, Branch-F, fold-Branch}
use Rattle.chi_tree.specs.declared.statement.Alternative.{Alternative, Alternative-F, fold-Alternative}
use Rattle.chi_tree.specs.declared.definition.Definition.{Definition}
use Rattle.chi_tree.specs.declared.definition.Definition.TheVariants as definition
use Rattle.chi_tree.specs.declared.definition.Item.{Item}
use Rattle.chi_tree.specs.declared.definition.Program.{Program}
use Rattle.chi_tree_laws.specs.Nestings.{Nestings, outside, in_block, bracketed, if_any, all, each_after, separated}
use Rattle.chi_tree_laws.specs.ExprNestings.{expr_nestings, postfix_nestings, type_nestings, formal_nestings}

abbrev pub name_nestings : Name → Nestings
name_nestings n = outside ∷ []

abbrev pub names_nestings : List Name → Nestings
names_nestings names = separated (map name_nestings names)

abbrev pub exprs_nestings : List Expr → Nestings
exprs_nestings exprs = separated (map expr_nestings exprs)

abbrev pub semicolon_if : Bool → Nestings
semicolon_if false = []
semicolon_if true = outside ∷ []

-- variables, targets, walks and communications

abbrev pub initial_nestings : Option Initial → Nestings
initial_nestings None = []
initial_nestings (Some initial) = outside ∷ expr_nestings initial.value

abbrev pub variable_nestings : Variable → Nestings
variable_nestings variable = outside ∷ initial_nestings variable.initial

abbrev pub target_nestings : Target → Nestings
target_nestings target = outside ∷ all (map postfix_nestings target.steps)

abbrev pub walk_nestings : Walk → Nestings
walk_nestings walk = names_nestings walk.names ++ outside ∷ expr_nestings walk.container

abbrev pub communication_nestings : Communication → Nestings
communication_nestings (Send target place e) = target_nestings target ++ outside ∷ if_any (option_map expr_nestings e)
communication_nestings (Receive target place name) = target_nestings target ++ outside ∷ if_any (option_map name_nestings name)
communication_nestings (Delay place e) = outside ∷ expr_nestings e

-- what is run or started

abbrev pub assigned_nestings : Option Target → Nestings
assigned_nestings None = []
assigned_nestings (Some target) = target_nestings target ++ outside ∷ []

abbrev pub element_step : Element-F Nestings → Nestings
element_step (Element-F.Make target name arguments) = assigned_nestings target ++ outside ∷ bracketed (exprs_nestings arguments)
-- the first token of the elements of an unwind is the first that is deeper
element_step (Element-F.Unwind place walk elements) =
    outside ∷ walk_nestings walk ++ (outside ∷ in_block (separated elements) ++ outside ∷ [])

abbrev pub element_nestings : Element → Nestings
element_nestings = fold-Element Nestings element_step

abbrev pub elements_nestings : List Element → Nestings
elements_nestings elements = separated (map element_nestings elements)

-- statements

abbrev pub guard_nestings : Option Expr → Nestings
guard_nestings None = []
guard_nestings (Some guard) = expr_nestings guard ++ outside ∷ []

-- the first token of an inner block is the first that is deeper

-- a block after its colon, if there is one
abbrev pub body_nestings : List Nestings → Nestings
body_nestings [] = []
body_nestings (first ∷ more) = outside ∷ in_block (all (first ∷ more))

abbrev pub else_nestings : List Nestings → Nestings
else_nestings [] = []
else_nestings (first ∷ more) = outside ∷ outside ∷ in_block (all (first ∷ more))

-- a block from its colon to its end
abbrev pub to_end : List Nestings → Nestings
to_end block = outside ∷ in_block (all block) ++ outside ∷ []

abbrev pub statement_step : Statement-F Nestings Nestings Nestings Nestings → Nestings
statement_step (Statement-F.Declare ty variables) = type_nestings ty ++ separated (map variable_nestings variables)
statement_step (Statement-F.Assign targets place values) = separated (map target_nestings targets) ++ outside ∷ exprs_nestings values
statement_step (Statement-F.Communicate communication) = communication_nestings communication
statement_step (Statement-F.Pass place) = outside ∷ []
statement_step (Statement-F.Break place) = outside ∷ []
statement_step (Statement-F.Continue place) = outside ∷ []
-- the alternatives of a select itself are no deeper
statement_step (Statement-F.Select place alternatives) = outside ∷ separated alternatives ++ outside ∷ []
statement_step (Statement-F.If place branches otherwise) = outside ∷ separated branches ++ (else_nestings otherwise ++ outside ∷ [])
statement_step (Statement-F.While place condition block) = outside ∷ expr_nestings condition ++ to_end block
statement_step (Statement-F.For place walk block) = outside ∷ walk_nestings walk ++ to_end block
statement_step (Statement-F.Return place e) = outside ∷ expr_nestings e
statement_step (Statement-F.Exit place e) = outside ∷ if_any (option_map expr_nestings e)
statement_step (Statement-F.Run place elements) = outside ∷ elements_nestings elements
statement_step (Statement-F.Start place elements) = outside ∷ elements_nestings elements
statement_step (Statement-F.Finish place values) = outside ∷ exprs_nestings values
statement_step (Statement-F.Write place line text at values) = outside ∷ bracketed (outside ∷ each_after (map expr_nestings values))

abbrev pub step_step : Step-F Nestings Nestings Nestings Nestings → Nestings
step_step step = step.statement ++ semicolon_if step.semicolon

abbrev pub branch_step : Branch-F Nestings Nestings Nestings Nestings → Nestings
branch_step branch = expr_nestings branch.condition ++ outside ∷ in_block (all branch.block)

abbrev pub alternative_step : Alternative-F Nestings Nestings Nestings Nestings → Nestings
alternative_step (Alternative-F.Guarded guard communication block) =
    guard_nestings guard ++ communication_nestings communication ++ body_nestings block
-- the first token of the alternatives of an unwind is the first that is deeper
alternative_step (Alternative-F.Unwind place walk alternatives) =
    outside ∷ walk_nestings walk ++ (outside ∷ in_block (separated alternatives) ++ outside ∷ [])

abbrev pub step_nestings : Step → Nestings
step_nestings = fold-Step Nestings Nestings Nestings Nestings alternative_step statement_step branch_step step_step

abbrev pub statement_nestings : Statement → Nestings
statement_nestings = fold-Statement Nestings Nestings Nestings Nestings alternative_step statement_step branch_step step_step

abbrev pub branch_nestings : Branch → Nestings
branch_nestings = fold-Branch Nestings Nestings Nestings Nestings alternative_step statement_step branch_step step_step

abbrev pub alternative_nestings : Alternative → Nestings
alternative_nestings = fold-Alternative Nestings Nestings Nestings Nestings alternative_step statement_step branch_step step_step

abbrev pub block_nestings : List Step → Nestings
block_nestings block = all (map step_nestings block)

-- definitions

abbrev pub head_nestings : Option TypeTree → Nestings
head_nestings ty = if_any (option_map type_nestings ty) ++ outside ∷ []

abbrev pub defined_body : List Formal → List Step → Nestings
defined_body parameters block = bracketed (formal_nestings parameters) ++ to_end (map step_nestings block)

abbrev pub definition_nestings : Definition → Nestings
definition_nestings (definition.Enum place name names) = outside ∷ outside ∷ outside ∷ bracketed (names_nestings names)
definition_nestings (definition.Const place ty name at value) = outside ∷ type_nestings ty ++ outside ∷ outside ∷ expr_nestings value
definition_nestings (definition.TypeWord place name ty) = outside ∷ outside ∷ outside ∷ type_nestings ty
definition_nestings (definition.Func place ty name parameters block) = outside ∷ type_nestings ty ++ outside ∷ defined_body parameters block
definition_nestings (definition.Proc place ty name parameters block) = outside ∷ head_nestings ty ++ defined_body parameters block
definition_nestings (definition.Model place ty name parameters block) = outside ∷ head_nestings ty ++ defined_body parameters block
definition_nestings (definition.Xper place name block) = outside ∷ outside ∷ defined_body [] block

abbrev pub item_nestings : Item → Nestings
item_nestings item = definition_nestings item.definition ++ semicolon_if item.semicolon

-- of each token of a source
abbrev pub nestings : Program → Nestings
nestings program = all (map item_nestings program.items)
