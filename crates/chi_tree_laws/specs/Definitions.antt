-- Which definitions and programs are formed, with so many levels of blocks and so many of expressions.
use Rattle.std.specs.Prelude.{ℕ, suc, Bool, List, [], ◌∷◌, Option, Some, None}
use Rattle.chi_token.specs.declared.place.Place.{Place}
use Rattle.chi_tree.specs.declared.type_tree.Name.{Name}
use Rattle.chi_tree.specs.declared.type_tree.TypeTree.{TypeTree}
use Rattle.chi_tree.specs.declared.type_tree.Formal.{Formal}
use Rattle.chi_tree.specs.declared.expr.Expr.{Expr}
use Rattle.chi_tree.specs.declared.statement.Step.{Step}
use Rattle.chi_tree.specs.declared.definition.Definition.{Definition}
use Rattle.chi_tree.specs.declared.definition.Definition.TheVariants as definition
use Rattle.chi_tree.specs.declared.definition.Item.{Item}
use Rattle.chi_tree.specs.declared.definition.Program.{Program}
use Rattle.chi_tree_laws.specs.Levels as level
use Rattle.chi_tree_laws.specs.Expressions.{FormedType, FormedFormals, FormedExpr}
use Rattle.chi_tree_laws.specs.Statements.{FormedInner}

-- "(" [ formals ] ")"
pub data FormedParameters : ℕ → List Formal → Type 0 where
  no_parameters : {d : ℕ} → FormedParameters (suc d) []
  parameters : {d : ℕ} {fs : List Formal} → FormedFormals d fs → FormedParameters (suc d) fs

-- [ type ]
pub data FormedExitType : ℕ → Option TypeTree → Type 0 where
  no_exit_type : {d : ℕ} → FormedExitType d None
  exit_type : {d : ℕ} {t : TypeTree} → FormedType d t → FormedExitType d (Some t)

pub data FormedDefinition : ℕ → ℕ → Definition → Type 0 where
  -- "enum" name "=" "{" name { "," name } "}"
  enumeration : {b d : ℕ} {place : Place} {name first : Name} {more : List Name}
      → FormedDefinition b (suc d) (definition.Enum place name (first ∷ more))
  -- "const" type name "=" expr
  constant : {b d : ℕ} {place at : Place} {t : TypeTree} {name : Name} {e : Expr}
      → FormedType d t → FormedExpr level.Expr d e → FormedDefinition b d (definition.Const place t name at e)
  -- "type" name "=" type
  type_name : {b d : ℕ} {place : Place} {name : Name} {t : TypeTree} → FormedType d t → FormedDefinition b d (definition.TypeWord place name t)
  -- "func" type name "(" [ formals ] ")" ":" block "end"
  function : {b d : ℕ} {place : Place} {t : TypeTree} {name : Name} {fs : List Formal} {block : List Step}
      → FormedType d t → FormedParameters d fs → FormedInner b d block → FormedDefinition b d (definition.Func place t name fs block)
  -- ( "proc" | "model" ) [ type ] name "(" [ formals ] ")" ":" block "end"
  process : {b d : ℕ} {place : Place} {t : Option TypeTree} {name : Name} {fs : List Formal} {block : List Step}
      → FormedExitType d t → FormedParameters d fs → FormedInner b d block → FormedDefinition b d (definition.Proc place t name fs block)
  model : {b d : ℕ} {place : Place} {t : Option TypeTree} {name : Name} {fs : List Formal} {block : List Step}
      → FormedExitType d t → FormedParameters d fs → FormedInner b d block → FormedDefinition b d (definition.Model place t name fs block)
  -- "xper" name "(" ")" ":" block "end"
  experiment : {b d : ℕ} {place : Place} {name : Name} {block : List Step}
      → FormedInner b (suc d) block → FormedDefinition b (suc d) (definition.Xper place name block)

abbrev pub item : Definition → Bool → Item
item definition semicolon = record { definition = definition; semicolon = semicolon }

-- definition [ ";" ] { definition [ ";" ] }
pub data FormedItems : ℕ → ℕ → List Item → Type 0 where
  one_item : {b d : ℕ} {definition : Definition} {semicolon : Bool}
      → FormedDefinition b d definition → FormedItems b d (item definition semicolon ∷ [])
  items : {b d : ℕ} {definition : Definition} {semicolon : Bool} {more : List Item}
      → FormedDefinition b d definition → FormedItems b d more → FormedItems b d (item definition semicolon ∷ more)

-- the place of the last token may be any
abbrev pub FormedProgram : ℕ → ℕ → Program → Type 0
FormedProgram b d program = FormedItems b d program.items
