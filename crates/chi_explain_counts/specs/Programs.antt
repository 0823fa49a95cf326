-- What is counted at a place of a program, and how many parameters a definition has.
use Rattle.std.specs.Prelude.{ℕ, List, [], ◌∷◌, length, map, Option, Some, None, if◌then◌else◌}
use Rattle.std.specs.Option.{option_or}
use Rattle.std.specs.Str.{bytes_eq}
use Rattle.chi_token.specs.declared.place.Place.{Place}
use Rattle.chi_tree.specs.declared.definition.Definition.{Definition}
use Rattle.chi_tree.specs.declared.definition.Definition.TheVariants as definition
use Rattle.chi_tree.specs.declared.definition.Item.{Item}
use Rattle.chi_tree.specs.declared.definition.Program.{Program}
use Rattle.chi_tree.specs.declared.statement.Step.{Step}
use Rattle.chi_tree.specs.declared.type_tree.Formal.{Formal}
use Rattle.chi_tree.specs.declared.type_tree.Name.{Name}
use Rattle.chi_explain_counts.specs.Found.{Found, first_found}
use Rattle.chi_explain_counts.specs.Expressions.{counted_in_expr, counted_in_formals, counted_in_type, counted_where_type}
use Rattle.chi_explain_counts.specs.Statements.{counted_in_block}

module _ (place : Place) where
  abbrev pub counted_in_body : List Formal → List Step → Found
  counted_in_body formals block = option_or (counted_in_formals place formals) (counted_in_block place block)

  abbrev pub counted_in_definition : Definition → Found
  counted_in_definition (definition.Enum at name values) = None
  counted_in_definition (definition.Const at t name equals value) = option_or (counted_in_type place t) (counted_in_expr place value)
  counted_in_definition (definition.TypeWord at name t) = counted_in_type place t
  counted_in_definition (definition.Func at result_type name formals block) =
      option_or (counted_in_type place result_type) (counted_in_body formals block)
  counted_in_definition (definition.Proc at exit_type name formals block) =
      option_or (counted_where_type place exit_type) (counted_in_body formals block)
  counted_in_definition (definition.Model at exit_type name formals block) =
      option_or (counted_where_type place exit_type) (counted_in_body formals block)
  counted_in_definition (definition.Xper at name block) = counted_in_block place block

  abbrev pub counted_in_item : Item → Found
  counted_in_item item = counted_in_definition item.definition

  abbrev pub counted_at : Program → Found
  counted_at tree = first_found (map counted_in_item tree.items)

-- how many parameters a function, a process or a model of this name has, if the definition is one
abbrev pub parameters_named : List ℕ → Name → List Formal → Option ℕ
parameters_named wanted name formals = if bytes_eq wanted name.text then Some (length formals) else None

abbrev pub parameters_in : List ℕ → Definition → Option ℕ
parameters_in wanted (definition.Func at result_type name formals block) = parameters_named wanted name formals
parameters_in wanted (definition.Proc at exit_type name formals block) = parameters_named wanted name formals
parameters_in wanted (definition.Model at exit_type name formals block) = parameters_named wanted name formals
parameters_in wanted (definition.Enum at name values) = None
parameters_in wanted (definition.Const at t name equals value) = None
parameters_in wanted (definition.TypeWord at name t) = None
parameters_in wanted (definition.Xper at name block) = None

-- those of the first one
abbrev pub parameters_of : List ℕ → List Item → Option ℕ
parameters_of wanted [] = None
parameters_of wanted (item ∷ items) = option_or (parameters_in wanted item.definition) (parameters_of wanted items)
