-- What the checker answers of a parsed program is sound.
use Rattle.std.proofs.Common.{◌≡◌, ℕ, ◌≤◌, ◌<◌, ◌^◌, List, [], length, Option, Some, None, Ok, refl, sym, subst, arith}
use Rattle.std.specs.Prelude.{option_map, IsTrue}
use Rattle.chi_token.specs.declared.place.Spanned.{Spanned}
use Rattle.chi_lex.specs.declared.lexer.TheConstants.{MOST_BYTES}
use Rattle.chi_lex.specs.Reading.{Reads}
use Rattle.chi_tree.specs.declared.definition.Program.{Program}
use Rattle.chi_tree_spell.specs.Statements.{spelled}
use Rattle.chi_tree_laws.specs.Answers.{IsProgram}
use Rattle.chi_core.specs.declared.program.Core.{Core}
use Rattle.chi_core.specs.Sound.{Sound}
use Rattle.chi_check_laws.specs.Below.chi_check_streams.specs.Streams.{with_streams}
use Rattle.chi_check_laws.specs.Below.chi_check.specs.Programs.{checked, Answers}
use Rattle.chi_check_laws.specs.Laws.{IsWhole}
use Rattle.chi_check_laws.specs.CheckedBodies.{BodiesAreWhole, TextsAreShort}
use Rattle.chi_check_laws.specs.Formals.{formals_are_typed}
use Rattle.chi_check_laws.specs.Spelled.{NamesAreNames}
use Rattle.chi_check_parsed.proofs.Tokens.{AllFit, tokens_fit}
use Rattle.chi_check_parsed.proofs.Premises.{headers_typed, bodies_whole, each_spelled}
use Rattle.chi_check_parsed.proofs.Programs.{texts_short}

-- the laws of programs, as their functions' contracts give them

abbrev pub WholeLaw : Type 0
WholeLaw = (tree : Program) → IsTrue (formals_are_typed tree) → IsWhole (checked tree)

abbrev pub SoundLaw : Type 0
SoundLaw = (tree : Program) (core : Core) → NamesAreNames tree → BodiesAreWhole tree → (checked tree).faults ≡ [] → (checked tree).made ≡ Some core
    → TextsAreShort core → Sound (with_streams core)

-- those of parsed programs

pub parsed_whole : WholeLaw → (tokens : List Spanned) (tree : Program) → IsProgram tokens tree → IsWhole (checked tree)
parsed_whole law tokens tree is = law tree (headers_typed _ _ tree.items is.formed)

pub parsed_sound : SoundLaw → (source : List ℕ) (tokens : List Spanned) (tree : Program) (core : Core) → length source ≤ MOST_BYTES → Reads source tokens → IsProgram tokens tree
    → Answers (Ok core) (checked tree) → Sound core
parsed_sound law source tokens tree core low reads is answers = by (checked tree).made refl answers.1
  where
    few : length source < 2 ^ 32
    few = omega (arith, low)

    fit : AllFit (spelled tree)
    fit = subst AllFit (sym is.same) (tokens_fit source tokens few reads)

    by : (o : Option Core) → (checked tree).made ≡ o → option_map with_streams o ≡ Some core → Sound core
    by None made e = absurd (cc)
    by (Some c) made e =
        let same : with_streams c ≡ core = cc in
        subst Sound same (law tree c (each_spelled _ _ tree.items is.formed fit) (bodies_whole _ _ tree.items is.formed) answers.0 made
        (texts_short _ _ tree c is.formed fit made))
