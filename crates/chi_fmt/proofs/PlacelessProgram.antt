-- The lines of a formed program are those of the program without its places.
use Rattle.std.proofs.Common.{◌≡◌, ℕ, Bool, true, false, List, [], ◌∷◌, ◌++◌, Option, map, refl, ap}
use Rattle.std.specs.Option.{option_map}
use Rattle.chi_token.specs.declared.keyword.Keyword.TheVariants.{ConstWord, EnumWord, FuncWord, ModelWord, ProcWord, TypeWord, XperWord}
use Rattle.chi_token.specs.declared.sign.Sign.TheVariants.{Assign, Colon}
use Rattle.chi_tree.specs.declared.type_tree.TypeTree.{TypeTree}
use Rattle.chi_tree.specs.declared.type_tree.Formal.{Formal}
use Rattle.chi_tree.specs.declared.definition.Definition.{Definition}
use Rattle.chi_tree.specs.declared.definition.Item.{Item}
use Rattle.chi_tree.specs.declared.definition.Program.{Program}
use Rattle.chi_tree_spell.specs.Expressions.{declared_formals}
use Rattle.chi_tree_laws.specs.Definitions.{FormedDefinition, FormedItems, FormedParameters, FormedExitType, FormedProgram}
use Rattle.chi_tree_laws.specs.Definitions as formed
use Rattle.chi_tree_laws.specs.Unplaced.{unplaced_type, unplaced_formal}
use Rattle.chi_tree_laws.specs.UnplacedStatements.{unplaced_definition, unplaced_item, unplaced}
use Rattle.chi_fmt.specs.declared.line.Line.{Line}
use Rattle.chi_fmt.specs.declared.line.Semicolon.{Semicolon}
use Rattle.chi_fmt.specs.Expressions.{Spots, usual, commas, curly, formals_spots, round}
use Rattle.chi_fmt.specs.Parts.{sign, word, name_spot}
use Rattle.chi_fmt.specs.Lines.{InBlock, block_lines, end_line, inside, no_semicolon}
use Rattle.chi_fmt.specs.Definitions.{definition_line, definition_lines, exit_type_spots, first_line, items_lines, program_lines}
use Rattle.chi_fmt.proofs.PlacelessExprs.{type-same, expr-same, formals-same}
use Rattle.chi_fmt.proofs.PlacelessParts.{names-same}
use Rattle.chi_fmt.proofs.PlacelessLines.{inner-same}

parameters-same : {d : ℕ} {fs : List Formal} → FormedParameters d fs → formals_spots (map unplaced_formal fs) ≡ formals_spots fs
parameters-same formed.no_parameters = refl
parameters-same (formed.parameters h) = ap (declared_formals usual) (formals-same h)

exit-same : {d : ℕ} {t : Option TypeTree} → FormedExitType d t → exit_type_spots (option_map unplaced_type t) ≡ exit_type_spots t
exit-same formed.no_exit_type = refl
exit-same (formed.exit_type h) = type-same h

-- any definition but the one-line ones: what stands before its parameters, the parameters and a colon; the block; and a line with `end`
abbrev callable : Bool → Spots → Spots → List InBlock → Semicolon → List Line
callable after_empty spots parameters block semicolon =
    first_line after_empty (spots ++ round parameters ++ sign Colon ∷ []) no_semicolon ∷ block_lines (inside 0) block ++ end_line 0 semicolon ∷ []

definition-same : {b d : ℕ} {definition : Definition} → FormedDefinition b d definition → (after_empty : Bool) (semicolon : Semicolon)
    → definition_lines after_empty (unplaced_definition definition) semicolon ≡ definition_lines after_empty definition semicolon
definition-same (formed.enumeration {name = n} {first = first} {more = more}) after_empty semicolon =
    ap (λ xs. definition_line after_empty (word EnumWord ∷ name_spot n ∷ sign Assign ∷ curly (commas xs)) semicolon) (names-same (first ∷ more))
definition-same (formed.constant {name = n} h j) after_empty semicolon =
    λ i. definition_line after_empty (word ConstWord ∷ type-same h i ++ name_spot n ∷ sign Assign ∷ expr-same j i) semicolon
definition-same (formed.type_name {name = n} h) after_empty semicolon =
    ap (λ xs. definition_line after_empty (word TypeWord ∷ name_spot n ∷ sign Assign ∷ xs) semicolon) (type-same h)
definition-same (formed.function {name = n} h j k) after_empty semicolon =
    λ i. callable after_empty (word FuncWord ∷ type-same h i ++ name_spot n ∷ []) (parameters-same j i) (inner-same k i) semicolon
definition-same (formed.process {name = n} h j k) after_empty semicolon =
    λ i. callable after_empty (word ProcWord ∷ exit-same h i ++ name_spot n ∷ []) (parameters-same j i) (inner-same k i) semicolon
definition-same (formed.model {name = n} h j k) after_empty semicolon =
    λ i. callable after_empty (word ModelWord ∷ exit-same h i ++ name_spot n ∷ []) (parameters-same j i) (inner-same k i) semicolon
definition-same (formed.experiment {name = n} k) after_empty semicolon =
    ap (λ block. callable after_empty (word XperWord ∷ name_spot n ∷ []) [] block semicolon) (inner-same k)

items-same : {b d : ℕ} {items : List Item} → FormedItems b d items → (after_empty : Bool) → items_lines after_empty (map unplaced_item items) ≡ items_lines after_empty items
items-same (formed.one_item {semicolon = c} h) after_empty = ap (λ ls. ls ++ []) (definition-same h after_empty (record { written = c; kept = false }))
items-same (formed.items {semicolon = c} h hs) after_empty =
    λ i. definition-same h after_empty (record { written = c; kept = false }) i ++ items-same hs true i

pub placeless : {b d : ℕ} (program : Program) → FormedProgram b d program → program_lines (unplaced program) ≡ program_lines program
placeless program h = items-same h false
