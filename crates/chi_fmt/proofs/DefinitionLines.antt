-- The lines of formed programs have sound rows, none without a token, and show the tokens of the source.
use Rattle.std.proofs.Common.{◌≡◌, ℕ, Bool, true, false, List, [], ◌∷◌, ◌++◌, Option, map, refl, append_assoc, append-nil}
use Rattle.std.specs.Option.{option_map}
use Rattle.chi_token.specs.declared.keyword.Keyword.{Keyword}
use Rattle.chi_token.specs.declared.keyword.Keyword.TheVariants.{ConstWord, EndWord, EnumWord, FuncWord, ModelWord, ProcWord, TypeWord, XperWord}
use Rattle.chi_token.specs.declared.sign.Sign.TheVariants.{Assign, Colon}
use Rattle.chi_token.specs.declared.token.Token.TheVariants.{Word, Sign, Name}
use Rattle.chi_tree.specs.declared.type_tree.Name as names
use Rattle.chi_tree.specs.declared.type_tree.TypeTree.{TypeTree}
use Rattle.chi_tree.specs.declared.type_tree.Formal.{Formal}
use Rattle.chi_tree.specs.declared.statement.Step.{Step}
use Rattle.chi_tree.specs.declared.definition.Definition.{Definition}
use Rattle.chi_tree.specs.declared.definition.Item.{Item}
use Rattle.chi_tree.specs.declared.definition.Program.{Program}
use Rattle.chi_tree_spell.specs.Expressions.{spelled_formals, spelled_type}
use Rattle.chi_tree_spell.specs.Expressions as spell
use Rattle.chi_tree_spell.specs.Statements.{semicolon_if, spelled, spelled_block, spelled_definition, spelled_item, spelled_step, to_end}
use Rattle.chi_tree_spell.specs.Words.{Tokens, all, if_any}
use Rattle.chi_tree_laws.specs.Definitions.{FormedDefinition, FormedItems, FormedParameters, FormedExitType, FormedProgram}
use Rattle.chi_tree_laws.specs.Definitions as formed
use Rattle.chi_tree_laws.specs.Statements.{FormedInner}
use Rattle.chi_tree_laws.specs.Statements as formed_statement
use Rattle.chi_fmt.specs.declared.line.Semicolon.{Semicolon}
use Rattle.chi_fmt.specs.Expressions.{Spots, formals_spots, round}
use Rattle.chi_fmt.specs.Parts.{sign, word, name_spot}
use Rattle.chi_fmt.specs.Lines.{inside, no_semicolon, end_line, block_lines, step_lines}
use Rattle.chi_fmt.specs.Definitions.{first_line, callable_lines, definition_lines, exit_type_spots, items_lines, program_lines}
use Rattle.chi_fmt.proofs.ExprRows.{expr-start, type-start, formals-start}
use Rattle.chi_fmt.proofs.PartRows.{names-start}
use Rattle.chi_fmt.proofs.LineRows.{Sources, one, both, nothing, sources_as}
use Rattle.chi_fmt.proofs.StatementLines.{block-sources}
use Rattle.chi_fmt.proofs.Starts.{Start, Within, row-nothing, row-start, row-after, row-then, row-round, row-curly, start-after, start-one, start-then, within-start, within-nothing, ending-start}

-- a definition on one line
line-sources : (after_empty : Bool) (xs : Spots) (ts : Tokens) (semicolon : Semicolon) → Start xs ts
    → Sources (first_line after_empty xs semicolon ∷ []) (ts ++ semicolon_if semicolon.written)
line-sources after_empty xs ts semicolon s = one (first_line after_empty xs semicolon) ts (ending-start s)

-- parameters in brackets
parameters-within : {d : ℕ} {fs : List Formal} → FormedParameters d fs → Within (formals_spots fs) (spelled_formals fs)
parameters-within formed.no_parameters = within-nothing
parameters-within (formed.parameters h) = within-start (formals-start h)

inner-block : {b d : ℕ} {block : List Step} → FormedInner b d block → Sources (block_lines (inside 0) (map step_lines block)) (spelled_block block)
inner-block (formed_statement.inner h) = block-sources h (inside 0)

end-one : (semicolon : Semicolon) → Sources (end_line 0 semicolon ∷ []) (Word EndWord ∷ semicolon_if semicolon.written)
end-one semicolon = one (end_line 0 semicolon) (Word EndWord ∷ []) (ending-start (start-one (Word EndWord) refl refl refl))

callable_tokens : (ts rs bs us : Tokens) → (ts ++ (rs ++ (Sign Colon ∷ bs ++ Word EndWord ∷ []))) ++ us ≡ (((ts ++ rs ++ Sign Colon ∷ []) ++ []) ++ bs) ++ Word EndWord ∷ us
callable_tokens ts rs bs us = simp (append_assoc, append-nil)

callable-sources : {b d : ℕ} {block : List Step} (fs : List Formal) (after_empty : Bool) (xs : Spots) (ts : Tokens) (semicolon : Semicolon)
    → Start xs ts → Within (formals_spots fs) (spelled_formals fs) → FormedInner b d block
    → Sources (callable_lines after_empty xs fs block semicolon) ((ts ++ (spell.round (spelled_formals fs) ++ to_end (map spelled_step block))) ++ semicolon_if semicolon.written)
callable-sources {block = block} fs after_empty xs ts semicolon s w h =
    sources_as refl (callable_tokens ts (spell.round (spelled_formals fs)) (spelled_block block) (semicolon_if semicolon.written))
    (both
    (both
    (line-sources after_empty (xs ++ round (formals_spots fs) ++ sign Colon ∷ []) (ts ++ spell.round (spelled_formals fs) ++ Sign Colon ∷ []) no_semicolon
    (start-then (start-then s (row-round w)) (row-after (Sign Colon) refl refl row-nothing)))
    (inner-block h))
    (end-one semicolon))

-- a word, and a type where there is one, and a name
head-start : {d : ℕ} {t : Option TypeTree} (k : Keyword) (n : names.Name) → FormedExitType d t
    → Start (word k ∷ exit_type_spots t ++ name_spot n ∷ []) (Word k ∷ if_any (option_map spelled_type t) ++ Name n.text ∷ [])
head-start k n formed.no_exit_type = start-after (Word k) refl refl refl (row-after (Name n.text) refl refl row-nothing)
head-start k n (formed.exit_type h) = start-after (Word k) refl refl refl (row-then (row-start (type-start h)) (row-after (Name n.text) refl refl row-nothing))

apart : (ts ns rs us : Tokens) → (ts ++ (ns ++ rs)) ++ us ≡ ((ts ++ ns) ++ rs) ++ us
apart ts ns rs us = simp append_assoc

pub definition-sources : {b d : ℕ} {definition : Definition} → FormedDefinition b d definition → (after_empty : Bool) (semicolon : Semicolon)
    → Sources (definition_lines after_empty definition semicolon) (spelled_definition definition ++ semicolon_if semicolon.written)
definition-sources (formed.enumeration {name = n} {first = first} {more = more}) after_empty semicolon =
    line-sources after_empty _ _ semicolon
    (start-after (Word EnumWord) refl refl refl
    (row-after (Name n.text) refl refl (row-after (Sign Assign) refl refl (row-curly (within-start (names-start first more))))))
definition-sources (formed.constant {name = n} h j) after_empty semicolon =
    line-sources after_empty _ _ semicolon
    (start-after (Word ConstWord) refl refl refl
    (row-then (row-start (type-start h)) (row-after (Name n.text) refl refl (row-after (Sign Assign) refl refl (row-start (expr-start j))))))
definition-sources (formed.type_name {name = n} h) after_empty semicolon =
    line-sources after_empty _ _ semicolon
    (start-after (Word TypeWord) refl refl refl (row-after (Name n.text) refl refl (row-after (Sign Assign) refl refl (row-start (type-start h)))))
definition-sources (formed.function {t = t} {name = n} {fs = fs} {block = block} h j k) after_empty semicolon =
    sources_as refl (apart (Word FuncWord ∷ spelled_type t) (Name n.text ∷ []) (spell.round (spelled_formals fs) ++ to_end (map spelled_step block)) (semicolon_if semicolon.written))
    (callable-sources fs after_empty _ _ semicolon
    (start-after (Word FuncWord) refl refl refl (row-then (row-start (type-start h)) (row-after (Name n.text) refl refl row-nothing))) (parameters-within j) k)
definition-sources (formed.process {name = n} {fs = fs} h j k) after_empty semicolon =
    callable-sources fs after_empty _ _ semicolon (head-start ProcWord n h) (parameters-within j) k
definition-sources (formed.model {name = n} {fs = fs} h j k) after_empty semicolon =
    callable-sources fs after_empty _ _ semicolon (head-start ModelWord n h) (parameters-within j) k
definition-sources (formed.experiment {name = n} k) after_empty semicolon =
    callable-sources [] after_empty _ _ semicolon
    (start-after (Word XperWord) refl refl refl (row-after (Name n.text) refl refl row-nothing)) within-nothing k

items-sources : {b d : ℕ} {items : List Item} → FormedItems b d items → (after_empty : Bool) → Sources (items_lines after_empty items) (all (map spelled_item items))
items-sources (formed.one_item {semicolon = c} h) after_empty = both (definition-sources h after_empty (record { written = c; kept = false })) nothing
items-sources (formed.items {semicolon = c} h hs) after_empty = both (definition-sources h after_empty (record { written = c; kept = false })) (items-sources hs true)

pub program-sources : {b d : ℕ} (program : Program) → FormedProgram b d program → Sources (program_lines program) (spelled program)
program-sources program h = items-sources h false
