-- What a parser makes of tokens, said of formed programs.
use Rattle.std.proofs.Common.{◌≡◌, List, map, Ok, refl, ap, sym, ◌∙◌}
use Rattle.chi_grammar.specs.declared.room.Room.{Room}
use Rattle.chi_grammar.specs.Exact.{ParsesAll}
use Rattle.chi_grammar.specs.Rules.{part}
use Rattle.chi_grammar.specs.Trees.{Is}
use Rattle.chi_token.specs.declared.place.Spanned.{Spanned}
use Rattle.chi_tree.specs.declared.definition.Item.{Item}
use Rattle.chi_tree.specs.declared.definition.Program.{Program}
use Rattle.chi_tree.specs.Parts as s
use Rattle.chi_tree.specs.Rules.{grammar}
use Rattle.chi_tree_spell.specs.Statements.{spelled, spelled_item}
use Rattle.chi_tree.specs.Statements.{program_of}
use Rattle.chi_tree.specs.View.{Built, nowhere}
use Rattle.chi_tree_spell.specs.Words.{Tokens, all, token_of}
use Rattle.chi_tree_spell.proofs.ProgramSpelling.{program_spelling}
use Rattle.chi_tree_laws.specs.Definitions.{FormedProgram}
use Rattle.chi_tree_laws.specs.UnplacedStatements.{unplaced, unplaced_item}
use Rattle.chi_tree_laws.proofs.PlacedTree.{placed_tree}
use Rattle.chi_tree_laws.proofs.StatementLaw.{formed_items}
use Rattle.chi_tree_laws.proofs.UnplacedProgramShown.{shown_program}

-- what is shown of a tree is a formed program of its tokens
pub parsed_formed : (room : Room) (tokens : List Spanned) (program : Program)
    → ParsesAll grammar tokens program_of room (part s.Program) (Ok program)
    → FormedProgram room.blocks room.expressions program × (spelled program ≡ map token_of tokens)
parsed_formed room tokens program p = (
  (formed_items room program.items).1 (p.0, p.2, ap (λ (program : Program). program.items) p.1),
  ap spelled (sym p.1) ∙ program_spelling room p.0 p.2 ∙ ap (map token_of) p.3,
)

-- the tokens of a program of the items, and it without its places

abbrev spelled_items : List Item → Tokens
spelled_items items = all (map spelled_item items)

abbrev unplaced_items : List Item → Program
unplaced_items items = record { items = map unplaced_item items; last = nowhere }

-- a formed program of the tokens, but for its places, is shown of a tree that has them
pub formed_parsed : (room : Room) (tokens : List Spanned) (program : Program)
    → FormedProgram room.blocks room.expressions program → spelled program ≡ map token_of tokens
    → (parsed : Program) × ParsesAll grammar tokens program_of room (part s.Program) (Ok parsed) × (unplaced parsed ≡ unplaced program)
formed_parsed room tokens program formed same =
    let t : (t : Built) × Is grammar room (part s.Program) t × ((program_of t).items ≡ program.items) =
    (formed_items room program.items).0 formed in
    let spelt = sym (program_spelling room t.0 t.1) ∙ ap spelled_items t.2 ∙ same in
    let u = placed_tree t.0 tt t.1 tokens spelt in (
      program_of u.0,
      (u.0, refl, u.1, u.2),
      shown_program u.0 ∙ ap program_of u.3 ∙ sym (shown_program t.0) ∙ ap unplaced_items t.2,
    )
