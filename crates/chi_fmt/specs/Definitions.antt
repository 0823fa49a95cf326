-- How definitions are lines: each begins at the margin, and an empty line stands between two.
use Rattle.std.specs.Prelude.{Bool, true, false, List, [], ◌∷◌, ◌++◌, Option, map}
use Rattle.std.specs.Option.{option_map}
use Rattle.chi_token.specs.declared.keyword.Keyword.TheVariants.{ConstWord, EnumWord, FuncWord, ModelWord, ProcWord, TypeWord, XperWord}
use Rattle.chi_token.specs.declared.sign.Sign.TheVariants.{Assign, Colon}
use Rattle.chi_tree.specs.declared.type_tree.TypeTree.{TypeTree}
use Rattle.chi_tree.specs.declared.type_tree.Formal.{Formal}
use Rattle.chi_tree.specs.declared.statement.Step.{Step}
use Rattle.chi_tree.specs.declared.definition.Definition.{Definition}
use Rattle.chi_tree.specs.declared.definition.Definition.TheVariants as definition
use Rattle.chi_tree.specs.declared.definition.Item.{Item}
use Rattle.chi_tree.specs.declared.definition.Program.{Program}
use Rattle.chi_tree_spell.specs.Words.{if_any}
use Rattle.chi_fmt.specs.declared.line.Line.{Line}
use Rattle.chi_fmt.specs.declared.line.Semicolon.{Semicolon}
use Rattle.chi_fmt.specs.Expressions.{Spots, expr_spots, type_spots, formals_spots, round, curly}
use Rattle.chi_fmt.specs.Parts.{word, sign, name_spot, names_spots}
use Rattle.chi_fmt.specs.Lines.{inside, no_semicolon, end_line, block_lines, step_lines}

-- the first line of a definition, before which an empty line may stand
abbrev pub first_line : Bool → Spots → Semicolon → Line
first_line after_empty spots semicolon =
    record { after_empty = after_empty; margin = 0; spots = spots; semicolon = semicolon }

-- an `enum`, `const` or `type` definition
abbrev pub definition_line : Bool → Spots → Semicolon → List Line
definition_line after_empty spots semicolon = first_line after_empty spots semicolon ∷ []

-- any other: what stands before its parameters, the parameters and a colon; the block; and a line with `end`
abbrev pub callable_lines : Bool → Spots → List Formal → List Step → Semicolon → List Line
callable_lines after_empty spots formals block semicolon =
    first_line after_empty (spots ++ round (formals_spots formals) ++ sign Colon ∷ []) no_semicolon
    ∷ block_lines (inside 0) (map step_lines block) ++ end_line 0 semicolon ∷ []

abbrev pub exit_type_spots : Option TypeTree → Spots
exit_type_spots ty = if_any (option_map type_spots ty)

abbrev pub definition_lines : Bool → Definition → Semicolon → List Line
definition_lines after_empty (definition.Enum place name values) =
    definition_line after_empty (word EnumWord ∷ name_spot name ∷ sign Assign ∷ curly (names_spots values))
definition_lines after_empty (definition.Const place ty name equals value) =
    definition_line after_empty (word ConstWord ∷ type_spots ty ++ name_spot name ∷ sign Assign ∷ expr_spots value)
definition_lines after_empty (definition.TypeWord place name ty) =
    definition_line after_empty (word TypeWord ∷ name_spot name ∷ sign Assign ∷ type_spots ty)
definition_lines after_empty (definition.Func place result_type name formals block) =
    callable_lines after_empty (word FuncWord ∷ type_spots result_type ++ name_spot name ∷ []) formals block
definition_lines after_empty (definition.Proc place exit_type name formals block) =
    callable_lines after_empty (word ProcWord ∷ exit_type_spots exit_type ++ name_spot name ∷ []) formals block
definition_lines after_empty (definition.Model place exit_type name formals block) =
    callable_lines after_empty (word ModelWord ∷ exit_type_spots exit_type ++ name_spot name ∷ []) formals block
definition_lines after_empty (definition.Xper place name block) =
    callable_lines after_empty (word XperWord ∷ name_spot name ∷ []) [] block

-- the `;` after a definition is never kept
abbrev pub item_lines : Bool → Item → List Line
item_lines after_empty item = definition_lines after_empty item.definition (record { written = item.semicolon; kept = false })

-- those of definitions, the first of which stands after an empty line or not
abbrev pub items_lines : Bool → List Item → List Line
items_lines after_empty [] = []
items_lines after_empty (item ∷ more) = item_lines after_empty item ++ items_lines true more

abbrev pub program_lines : Program → List Line
program_lines program = items_lines false program.items
