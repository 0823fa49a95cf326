-- What is counted at a place of a statement: the targets and values of an assignment, the codes and values of a write, and
-- the arguments of what is run or started, or of a call in any of its expressions.
use Rattle.std.specs.Prelude.{ℕ, ◌+◌, ◌==◌, Bool, true, false, List, [], ◌∷◌, length, map, Option, Some, None, if◌then◌else◌}
use Rattle.std.specs.Option.{option_map, option_or}
use Rattle.chi_token.specs.declared.place.Place.{Place}
use Rattle.chi_tree.specs.declared.expr.Expr.{Expr, Expr-F, out-Expr}
use Rattle.chi_tree.specs.declared.statement.Alternative.{Alternative, Alternative-F, fold-Alternative}
use Rattle.chi_tree.specs.declared.statement.Branch.{Branch, Branch-F, fold-Branch}
use Rattle.chi_tree.specs.declared.statement.Communication.{Communication}
use Rattle.chi_tree.specs.declared.statement.Communication.TheVariants as communication
use Rattle.chi_tree.specs.declared.statement.Element.{Element, Element-F, fold-Element}
use Rattle.chi_tree.specs.declared.statement.Initial.{Initial}
use Rattle.chi_tree.specs.declared.statement.Statement.{Statement, Statement-F, fold-Statement}
use Rattle.chi_tree.specs.declared.statement.Step.{Step, Step-F, fold-Step}
use Rattle.chi_tree.specs.declared.statement.Target.{Target}
use Rattle.chi_tree.specs.declared.statement.Variable.{Variable}
use Rattle.chi_tree.specs.declared.statement.Walk.{Walk}
use Rattle.chi_explain_counts.specs.declared.counted.Counted.{Counted}
use Rattle.chi_explain_counts.specs.declared.counted.Counted.TheVariants as counted
use Rattle.chi_explain_counts.specs.Found.{Found, here, first_found, where_some}
use Rattle.chi_explain_counts.specs.Expressions.{counted_in_expr, counted_in_exprs, counted_in_postfixes, counted_in_type, counted_where_expr}

-- ---- what is counted

-- the parts of a tuple, where one is written
abbrev pub tuple_parts : {P T E L F : Type 0} → Expr-F Expr P T E L F → Option ℕ
tuple_parts (Expr-F.TupleOf at parts) = Some (length parts)
tuple_parts _ = None

-- those of the one value, where there is just one
abbrev pub parts_of_one : List Expr → Option ℕ
parts_of_one [] = None
parts_of_one (value ∷ []) = tuple_parts (out-Expr value)
parts_of_one (value ∷ other ∷ more) = None

abbrev pub parts_or_values : ℕ → ℕ → Option ℕ → Counted
parts_or_values targets values (Some parts) = counted.Parts targets parts
parts_or_values targets values None = counted.Values targets values

-- so many targets, and their values, or the parts of the one tuple that is written for them
abbrev pub assigned : ℕ → List Expr → Counted
assigned targets values = parts_or_values targets (length values) (parts_of_one values)

-- a percent sign
abbrev pub percent : ℕ
percent = 37

-- Each percent sign begins a code, unless the format ends with it, or another one stands after it, with which it is one of
-- the text. It is told whether such a sign stands just before.
abbrev pub codes_from : Bool → List ℕ → ℕ
codes_from before [] = 0
codes_from false (c ∷ format) = codes_from (c == percent) format
codes_from true (c ∷ format) = (if c == percent then 0 else 1) + codes_from false format

-- how many codes a format has
abbrev pub code_count : List ℕ → ℕ
code_count format = codes_from false format

-- ---- where it stands

module _ (place : Place) where
  abbrev pub counted_in_initial : Initial → Found
  counted_in_initial initial = counted_in_expr place initial.value

  abbrev pub counted_in_variable : Variable → Found
  counted_in_variable variable = where_some (option_map counted_in_initial variable.initial)

  abbrev pub counted_in_target : Target → Found
  counted_in_target target = counted_in_postfixes place target.steps

  abbrev pub counted_in_targets : List Target → Found
  counted_in_targets targets = first_found (map counted_in_target targets)

  abbrev pub counted_where_target : Option Target → Found
  counted_where_target target = where_some (option_map counted_in_target target)

  abbrev pub counted_in_walk : Walk → Found
  counted_in_walk walk = counted_in_expr place walk.container

  abbrev pub counted_in_communication : Communication → Found
  counted_in_communication (communication.Send target at value) = option_or (counted_in_target target) (counted_where_expr place value)
  counted_in_communication (communication.Receive target at name) = counted_in_target target
  counted_in_communication (communication.Delay at time) = counted_in_expr place time

  abbrev pub counted_in_declaration : List Variable → Found
  counted_in_declaration variables = first_found (map counted_in_variable variables)

  abbrev pub counted_in_assignment : List Target → Place → List Expr → Found
  counted_in_assignment targets equals values =
      option_or (here place equals (assigned (length targets) values)) (option_or (counted_in_targets targets) (counted_in_exprs place values))

  abbrev pub counted_in_write : List ℕ → Place → List Expr → Found
  counted_in_write format format_place values =
      option_or (here place format_place (counted.Shown (code_count format) (length values))) (counted_in_exprs place values)

  -- what is run or started

  abbrev pub element_step : Element-F Found → Found
  element_step (Element-F.Make target name arguments) =
      option_or (here place name.place (counted.Arguments (length arguments)))
      (option_or (counted_where_target target) (counted_in_exprs place arguments))
  element_step (Element-F.Unwind at walk elements) = option_or (counted_in_walk walk) (first_found elements)

  abbrev pub counted_in_element : Element → Found
  counted_in_element = fold-Element Found element_step

  abbrev pub counted_in_elements : List Element → Found
  counted_in_elements elements = first_found (map counted_in_element elements)

  -- statements

  abbrev pub statement_step : Statement-F Found Found Found Found → Found
  statement_step (Statement-F.Declare tree variables) = option_or (counted_in_type place tree) (counted_in_declaration variables)
  statement_step (Statement-F.Assign targets equals values) = counted_in_assignment targets equals values
  statement_step (Statement-F.Communicate c) = counted_in_communication c
  statement_step (Statement-F.Pass at) = None
  statement_step (Statement-F.Break at) = None
  statement_step (Statement-F.Continue at) = None
  statement_step (Statement-F.Select at alternatives) = first_found alternatives
  statement_step (Statement-F.If at branches otherwise) = option_or (first_found branches) (first_found otherwise)
  statement_step (Statement-F.While at test block) = option_or (counted_in_expr place test) (first_found block)
  statement_step (Statement-F.For at walk block) = option_or (counted_in_walk walk) (first_found block)
  statement_step (Statement-F.Return at value) = counted_in_expr place value
  statement_step (Statement-F.Exit at value) = counted_where_expr place value
  statement_step (Statement-F.Run at elements) = counted_in_elements elements
  statement_step (Statement-F.Start at elements) = counted_in_elements elements
  statement_step (Statement-F.Finish at instances) = counted_in_exprs place instances
  statement_step (Statement-F.Write at ends_line format format_place values) = counted_in_write format format_place values

  abbrev pub branch_step : Branch-F Found Found Found Found → Found
  branch_step b = option_or (counted_in_expr place b.condition) (first_found b.block)

  abbrev pub alternative_step : Alternative-F Found Found Found Found → Found
  alternative_step (Alternative-F.Guarded guard c block) =
      option_or (counted_where_expr place guard) (option_or (counted_in_communication c) (first_found block))
  alternative_step (Alternative-F.Unwind at walk alternatives) = option_or (counted_in_walk walk) (first_found alternatives)

  abbrev pub step_step : Step-F Found Found Found Found → Found
  step_step step = step.statement

  abbrev pub counted_in_statement : Statement → Found
  counted_in_statement = fold-Statement Found Found Found Found alternative_step statement_step branch_step step_step

  abbrev pub counted_in_step : Step → Found
  counted_in_step = fold-Step Found Found Found Found alternative_step statement_step branch_step step_step

  abbrev pub counted_in_branch : Branch → Found
  counted_in_branch = fold-Branch Found Found Found Found alternative_step statement_step branch_step step_step

  abbrev pub counted_in_alternative : Alternative → Found
  counted_in_alternative = fold-Alternative Found Found Found Found alternative_step statement_step branch_step step_step

  abbrev pub counted_in_block : List Step → Found
  counted_in_block steps = first_found (map counted_in_step steps)
