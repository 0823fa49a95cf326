-- The lines of a kept program are those of the program, with those `;` written that are kept; and it is formed.
use Rattle.std.proofs.Common.{◌≡◌, ℕ, Bool, true, false, List, [], ◌∷◌, ◌++◌, map, refl, ap}
use Rattle.chi_tree.specs.declared.type_tree.Formal.{Formal}
use Rattle.chi_tree.specs.declared.statement.Step.{Step}
use Rattle.chi_tree.specs.declared.definition.Definition.{Definition}
use Rattle.chi_tree.specs.declared.definition.Item.{Item}
use Rattle.chi_tree.specs.declared.definition.Program.{Program}
use Rattle.chi_token.specs.declared.keyword.Keyword.TheVariants.{FuncWord, ModelWord, ProcWord, XperWord}
use Rattle.chi_token.specs.declared.sign.Sign.TheVariants.{Colon}
use Rattle.chi_tree_laws.specs.Definitions.{FormedDefinition, FormedItems, FormedProgram}
use Rattle.chi_tree_laws.specs.Definitions as formed
use Rattle.chi_fmt.specs.declared.line.Semicolon.{Semicolon}
use Rattle.chi_fmt.specs.Expressions.{Spots, formals_spots, round, type_spots}
use Rattle.chi_fmt.specs.Parts.{name_spot, sign, word}
use Rattle.chi_fmt.specs.Lines.{block_lines, end_line, inside, no_semicolon, step_lines}
use Rattle.chi_fmt.specs.Definitions.{callable_lines, definition_lines, exit_type_spots, first_line, items_lines, program_lines}
use Rattle.chi_fmt.specs.Kept.{kept_block, kept_definition, kept_item, kept}
use Rattle.chi_fmt.specs.Reread.{settled}
use Rattle.chi_fmt.proofs.SettledLines.{KeptInner, both_settled, inner-kept, settle}

pub record KeptDefinition (b d : ℕ) (definition : Definition) : Type 0 where
  pub same : (after_empty : Bool) (semicolon : Semicolon)
      → definition_lines after_empty (kept_definition definition) (settle semicolon) ≡ map settled (definition_lines after_empty definition semicolon)
  pub holds : FormedDefinition b d (kept_definition definition)

pub record KeptItems (b d : ℕ) (items : List Item) : Type 0 where
  pub same : (after_empty : Bool) → items_lines after_empty (map kept_item items) ≡ map settled (items_lines after_empty items)
  pub holds : FormedItems b d (map kept_item items)

callable-settled : {b d : ℕ} {block : List Step} (after_empty : Bool) (xs : Spots) (fs : List Formal) (semicolon : Semicolon) → KeptInner b d block
    → callable_lines after_empty xs fs (kept_block block) (settle semicolon) ≡ map settled (callable_lines after_empty xs fs block semicolon)
callable-settled {block = block} after_empty xs fs semicolon k =
    let first = first_line after_empty (xs ++ round (formals_spots fs) ++ sign Colon ∷ []) no_semicolon in
    both_settled _ (first ∷ block_lines (inside 0) (map step_lines block)) _ (end_line 0 semicolon ∷ [])
    (ap (λ ls. first ∷ ls) (k.same (inside 0))) refl

definition-kept : {b d : ℕ} {definition : Definition} → FormedDefinition b d definition → KeptDefinition b d definition
definition-kept (formed.enumeration {first = first} {more = more}) = record { same = λ after_empty semicolon. refl; holds = formed.enumeration }
definition-kept (formed.constant h j) = record { same = λ after_empty semicolon. refl; holds = formed.constant h j }
definition-kept (formed.type_name h) = record { same = λ after_empty semicolon. refl; holds = formed.type_name h }
definition-kept (formed.function {t = t} {name = n} {fs = fs} h j i) =
    let k = inner-kept i in
    record { same = λ after_empty semicolon. callable-settled after_empty (word FuncWord ∷ type_spots t ++ name_spot n ∷ []) fs semicolon k; holds = formed.function h j k.holds }
definition-kept (formed.process {t = t} {name = n} {fs = fs} h j i) =
    let k = inner-kept i in
    record { same = λ after_empty semicolon. callable-settled after_empty (word ProcWord ∷ exit_type_spots t ++ name_spot n ∷ []) fs semicolon k; holds = formed.process h j k.holds }
definition-kept (formed.model {t = t} {name = n} {fs = fs} h j i) =
    let k = inner-kept i in
    record { same = λ after_empty semicolon. callable-settled after_empty (word ModelWord ∷ exit_type_spots t ++ name_spot n ∷ []) fs semicolon k; holds = formed.model h j k.holds }
definition-kept (formed.experiment {name = n} i) =
    let k = inner-kept i in
    record { same = λ after_empty semicolon. callable-settled after_empty (word XperWord ∷ name_spot n ∷ []) [] semicolon k; holds = formed.experiment k.holds }

items-kept : {b d : ℕ} {items : List Item} → FormedItems b d items → KeptItems b d items
items-kept (formed.one_item {definition = definition} {semicolon = c} h) =
    let k = definition-kept h in
    record {
      same = λ after_empty.
          both_settled _ (definition_lines after_empty definition (record { written = c; kept = false })) [] [] (k.same after_empty (record { written = c; kept = false })) refl;
      holds = formed.one_item k.holds;
    }
items-kept (formed.items {definition = definition} {semicolon = c} {more = more} h hs) =
    let k = definition-kept h in
    let r = items-kept hs in
    record {
      same = λ after_empty.
          both_settled _ (definition_lines after_empty definition (record { written = c; kept = false })) _ (items_lines true more)
          (k.same after_empty (record { written = c; kept = false })) (r.same true);
      holds = formed.items k.holds r.holds;
    }

pub kept-lines : {b d : ℕ} (program : Program) → FormedProgram b d program → program_lines (kept program) ≡ map settled (program_lines program)
kept-lines program h = let k = items-kept h in k.same false

pub kept-formed : {b d : ℕ} (program : Program) → FormedProgram b d program → FormedProgram b d (kept program)
kept-formed program h = let k = items-kept h in k.holds
