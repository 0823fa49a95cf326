-- A statement, a definition and a program without their places.
use Rattle.std.specs.Prelude.{List, map}
use Rattle.std.specs.Option.{option_map}
use Rattle.chi_tree.specs.declared.statement.Variable.{Variable}
use Rattle.chi_tree.specs.declared.statement.Initial.{Initial}
use Rattle.chi_tree.specs.declared.statement.Target.{Target}
use Rattle.chi_tree.specs.declared.statement.Walk.{Walk}
use Rattle.chi_tree.specs.declared.statement.Communication.{Communication}
use Rattle.chi_tree.specs.declared.statement.Communication.TheVariants.{Send, Receive, Delay}
use Rattle.chi_tree.specs.declared.statement.Element.{Element, Element-F, fold-Element}
use Rattle.chi_tree.specs.declared.statement.Element.TheVariants as element
use Rattle.chi_tree.specs.declared.statement.Step.{Step, Step-F, fold-Step}
use Rattle.chi_tree.specs.declared.statement.Statement.{Statement, Statement-F, fold-Statement}
use Rattle.chi_tree.specs.declared.statement.Statement.TheVariants as statement
use Rattle.chi_tree.specs.declared.statement.Branch.{Branch, Branch-F, fold-Branch, roll-Branch}
use Rattle.chi_tree.specs.declared.statement.Alternative.{Alternative, Alternative-F, fold-Alternative}
use Rattle.chi_tree.specs.declared.statement.Alternative.TheVariants as alternative
use Rattle.chi_tree.specs.declared.definition.Definition.{Definition}
use Rattle.chi_tree.specs.declared.definition.Definition.TheVariants as definition
use Rattle.chi_tree.specs.declared.definition.Item.{Item}
use Rattle.chi_tree.specs.declared.definition.Program.{Program}
use Rattle.chi_tree.specs.View.{nowhere}
use Rattle.chi_tree.specs.Statements.{step}
use Rattle.chi_tree_laws.specs.Unplaced.{unplaced_name, unplaced_type, unplaced_formal, unplaced_expr, unplaced_postfix}

-- variables, targets, walks and communications

abbrev pub unplaced_initial : Initial → Initial
unplaced_initial initial = record { equals = nowhere; value = unplaced_expr initial.value }

abbrev pub unplaced_variable : Variable → Variable
unplaced_variable variable = record { name = unplaced_name variable.name; initial = option_map unplaced_initial variable.initial }

abbrev pub unplaced_target : Target → Target
unplaced_target target = record { name = unplaced_name target.name; steps = map unplaced_postfix target.steps }

abbrev pub unplaced_walk : Walk → Walk
unplaced_walk walk = record { names = map unplaced_name walk.names; container = unplaced_expr walk.container }

abbrev pub unplaced_communication : Communication → Communication
unplaced_communication (Send target place e) = Send (unplaced_target target) nowhere (option_map unplaced_expr e)
unplaced_communication (Receive target place name) = Receive (unplaced_target target) nowhere (option_map unplaced_name name)
unplaced_communication (Delay place e) = Delay nowhere (unplaced_expr e)

-- what is run or started

abbrev pub element_without : Element-F Element → Element
element_without (Element-F.Make target name arguments) =
    element.Make (option_map unplaced_target target) (unplaced_name name) (map unplaced_expr arguments)
element_without (Element-F.Unwind place walk elements) = element.Unwind nowhere (unplaced_walk walk) elements

abbrev pub unplaced_element : Element → Element
unplaced_element = fold-Element Element element_without

-- statements

abbrev pub statement_without : Statement-F Alternative Statement Branch Step → Statement
statement_without (Statement-F.Declare ty variables) = statement.Declare (unplaced_type ty) (map unplaced_variable variables)
statement_without (Statement-F.Assign targets place values) =
    statement.Assign (map unplaced_target targets) nowhere (map unplaced_expr values)
statement_without (Statement-F.Communicate communication) = statement.Communicate (unplaced_communication communication)
statement_without (Statement-F.Pass place) = statement.Pass nowhere
statement_without (Statement-F.Break place) = statement.Break nowhere
statement_without (Statement-F.Continue place) = statement.Continue nowhere
statement_without (Statement-F.Select place alternatives) = statement.Select nowhere alternatives
statement_without (Statement-F.If place branches otherwise) = statement.If nowhere branches otherwise
statement_without (Statement-F.While place condition block) = statement.While nowhere (unplaced_expr condition) block
statement_without (Statement-F.For place walk block) = statement.For nowhere (unplaced_walk walk) block
statement_without (Statement-F.Return place e) = statement.Return nowhere (unplaced_expr e)
statement_without (Statement-F.Exit place e) = statement.Exit nowhere (option_map unplaced_expr e)
statement_without (Statement-F.Run place elements) = statement.Run nowhere (map unplaced_element elements)
statement_without (Statement-F.Start place elements) = statement.Start nowhere (map unplaced_element elements)
statement_without (Statement-F.Finish place values) = statement.Finish nowhere (map unplaced_expr values)
statement_without (Statement-F.Write place line text at values) = statement.Write nowhere line text nowhere (map unplaced_expr values)

abbrev pub step_without : Step-F Alternative Statement Branch Step → Step
step_without s = step s.statement s.semicolon

abbrev pub branch_without : Branch-F Alternative Statement Branch Step → Branch
branch_without b = roll-Branch (record { condition = unplaced_expr b.condition; block = b.block })

abbrev pub alternative_without : Alternative-F Alternative Statement Branch Step → Alternative
alternative_without (Alternative-F.Guarded guard communication block) =
    alternative.Guarded (option_map unplaced_expr guard) (unplaced_communication communication) block
alternative_without (Alternative-F.Unwind place walk alternatives) = alternative.Unwind nowhere (unplaced_walk walk) alternatives

abbrev pub unplaced_step : Step → Step
unplaced_step = fold-Step Alternative Statement Branch Step alternative_without statement_without branch_without step_without

abbrev pub unplaced_statement : Statement → Statement
unplaced_statement = fold-Statement Alternative Statement Branch Step alternative_without statement_without branch_without step_without

abbrev pub unplaced_branch : Branch → Branch
unplaced_branch = fold-Branch Alternative Statement Branch Step alternative_without statement_without branch_without step_without

abbrev pub unplaced_alternative : Alternative → Alternative
unplaced_alternative = fold-Alternative Alternative Statement Branch Step alternative_without statement_without branch_without step_without

abbrev pub unplaced_block : List Step → List Step
unplaced_block block = map unplaced_step block

-- definitions

abbrev pub unplaced_definition : Definition → Definition
unplaced_definition (definition.Enum place name names) = definition.Enum nowhere (unplaced_name name) (map unplaced_name names)
unplaced_definition (definition.Const place ty name at value) =
    definition.Const nowhere (unplaced_type ty) (unplaced_name name) nowhere (unplaced_expr value)
unplaced_definition (definition.TypeWord place name ty) = definition.TypeWord nowhere (unplaced_name name) (unplaced_type ty)
unplaced_definition (definition.Func place ty name parameters block) =
    definition.Func nowhere (unplaced_type ty) (unplaced_name name) (map unplaced_formal parameters) (unplaced_block block)
unplaced_definition (definition.Proc place ty name parameters block) =
    definition.Proc nowhere (option_map unplaced_type ty) (unplaced_name name) (map unplaced_formal parameters) (unplaced_block block)
unplaced_definition (definition.Model place ty name parameters block) =
    definition.Model nowhere (option_map unplaced_type ty) (unplaced_name name) (map unplaced_formal parameters) (unplaced_block block)
unplaced_definition (definition.Xper place name block) = definition.Xper nowhere (unplaced_name name) (unplaced_block block)

abbrev pub unplaced_item : Item → Item
unplaced_item item = record { definition = unplaced_definition item.definition; semicolon = item.semicolon }

abbrev pub unplaced : Program → Program
unplaced program = record { items = map unplaced_item program.items; last = nowhere }
