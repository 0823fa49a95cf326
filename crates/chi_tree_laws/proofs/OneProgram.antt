-- A formed block or program is the only one of its tokens, but for its places.
use Rattle.std.proofs.Common.{◌≡◌, ℕ, List, map, refl, ap, sym, ◌∙◌}
use Rattle.chi_grammar.specs.declared.room.Room.{Room}
use Rattle.chi_grammar.specs.Rules.{part}
use Rattle.chi_grammar.specs.Trees.{Is}
use Rattle.chi_tree.specs.declared.definition.Item.{Item}
use Rattle.chi_tree.specs.declared.definition.Program.{Program}
use Rattle.chi_tree.specs.declared.statement.Step.{Step}
use Rattle.chi_tree.specs.Parts as s
use Rattle.chi_tree.specs.Rules.{grammar}
use Rattle.chi_tree_spell.specs.Statements.{spelled_block, spelled_item, spelled}
use Rattle.chi_tree.specs.Statements.{block_of, program_of}
use Rattle.chi_tree.specs.View.{Built, nowhere}
use Rattle.chi_tree_spell.specs.Words.{all}
use Rattle.chi_tree_spell.proofs.ProgramSpelling.{block_spelling, program_spelling}
use Rattle.chi_tree_laws.specs.UnplacedStatements.{unplaced_block, unplaced_step, unplaced_item, unplaced}
use Rattle.chi_tree_laws.specs.Statements.{FormedBlock}
use Rattle.chi_tree_laws.specs.Definitions.{FormedProgram}
use Rattle.chi_tree_laws.proofs.StatementLaw.{formed_blocks, formed_items}
use Rattle.chi_tree_laws.proofs.UnplacedStatementShown.{shown_block}
use Rattle.chi_tree_laws.proofs.UnplacedProgramShown.{shown_program}
use Rattle.chi_tree_laws.proofs.Leaves.{levels}
use Rattle.chi_tree_laws.proofs.OneBuilt.{one_built}
use Rattle.chi_tree_laws.proofs.Blind.{blind}

-- the grammar builds the block, or a program of the items

abbrev pub BuiltBlock : Room → List Step → Type 0
BuiltBlock room block = (t : Built) × Is grammar room (part s.Block) t × (block_of t ≡ block)

abbrev pub BuiltItems : Room → List Item → Type 0
BuiltItems room items = (t : Built) × Is grammar room (part s.Program) t × ((program_of t).items ≡ items)

one_built_block : (room other : Room) (ss uu : List Step) → BuiltBlock room ss → BuiltBlock other uu
    → spelled_block ss ≡ spelled_block uu → map unplaced_step ss ≡ map unplaced_step uu
one_built_block room other ss uu b c e =
    let same = sym (block_spelling room b.0 b.1) ∙ ap spelled_block b.2 ∙ e ∙ sym (ap spelled_block c.2) ∙ block_spelling other c.0 c.1 in
    let one = one_built blind (part s.Block) refl tt room other b.0 c.0 b.1 c.1 same in
    ap unplaced_block (sym b.2) ∙ shown_block b.0 ∙ ap block_of one ∙ sym (shown_block c.0) ∙ ap unplaced_block c.2

one_built_items : (room other : Room) (items others : List Item) → BuiltItems room items → BuiltItems other others
    → all (map spelled_item items) ≡ all (map spelled_item others) → map unplaced_item items ≡ map unplaced_item others
one_built_items room other items others b c e =
    let same = sym (program_spelling room b.0 b.1) ∙ ap (λ xs. all (map spelled_item xs)) b.2 ∙ e
    ∙ sym (ap (λ xs. all (map spelled_item xs)) c.2) ∙ program_spelling other c.0 c.1 in
    let one = one_built blind (part s.Program) refl tt room other b.0 c.0 b.1 c.1 same in
    ap (map unplaced_item) (sym b.2) ∙ ap (λ (p : Program). p.items) (shown_program b.0) ∙ ap (λ t. (program_of t).items) one
    ∙ sym (ap (λ (p : Program). p.items) (shown_program c.0)) ∙ ap (map unplaced_item) c.2

-- the laws

pub one_block : (b c d e : ℕ) (block other : List Step) → FormedBlock b c block → FormedBlock d e other
    → spelled_block block ≡ spelled_block other → unplaced_block block ≡ unplaced_block other
one_block b c d e block other p q same =
    one_built_block (levels b c) (levels d e) block other ((formed_blocks (levels b c) block).0 p) ((formed_blocks (levels d e) other).0 q) same

pub one_program : (b c d e : ℕ) (program other : Program) → FormedProgram b c program → FormedProgram d e other
    → spelled program ≡ spelled other → unplaced program ≡ unplaced other
one_program b c d e program other p q same =
    let items = one_built_items (levels b c) (levels d e) program.items other.items ((formed_items (levels b c) program.items).0 p)
    ((formed_items (levels d e) other.items).0 q) same in
    λ i. record { items = items i; last = nowhere }
