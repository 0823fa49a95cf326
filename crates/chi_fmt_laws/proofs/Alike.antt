-- A layout is accepted where its program is, with the same core but for lines.
use Rattle.std.proofs.Common.{◌≡◌, ℕ, List, [], ◌∷◌, Option, Some, None, Ok, refl, ap, sym, ◌∙◌}
use Rattle.std.specs.Prelude.{option_map}
use Rattle.chi_token.specs.declared.place.Spanned.{Spanned}
use Rattle.chi_lex.specs.Reading.{Reads}
use Rattle.chi_tree.specs.declared.definition.Program.{Program}
use Rattle.chi_tree_laws.specs.Answers.{IsProgram}
use Rattle.chi_tree_laws.specs.UnplacedStatements.{unplaced}
use Rattle.chi_core.specs.declared.program.Core.{Core}
use Rattle.chi_check_types.specs.declared.fault.Fault.{Fault}
use Rattle.chi_check_program_places.specs.Below.chi_check.specs.Programs.{checked, Answers}
use Rattle.chi_check_program_places.specs.Below.chi_check_streams.specs.Streams.{with_streams}
use Rattle.chi_check_program_places.specs.Below.chi_check_places.specs.UnplacedTyped.{unplaced_faults}
use Rattle.chi_check_program_places.specs.Lineless.{lineless, lineless_typed}
use Rattle.chi_fmt.specs.declared.comment.Comment.{Comment}
use Rattle.chi_fmt.specs.Kept.{kept}
use Rattle.chi_fmt.specs.Laws.{IsOfSource, IsReread}
use Rattle.chi_fmt.specs.Layout.{layout}
use Rattle.chi_fmt_laws.specs.CheckedAlike.{IsCheckedAlike, IsAcceptedAs}
use Rattle.chi_fmt_laws.proofs.KeptPrograms.{kept-checked}

-- what the tokens of a source are is a program of that source
pub of_source : {source : List ℕ} {tokens : List Spanned} {tree : Program} → Reads source tokens → IsProgram tokens tree → IsOfSource tree
of_source {source = source} {tokens = tokens} reads is = record { formed = is.formed; source = source; tokens = tokens; reads = reads; same = is.same }

pub checked_alike : ((program : Program) → checked (unplaced program) ≡ lineless_typed (checked program)) → (program : Program) (comments : List Comment)
    → IsReread (layout program comments) program comments → IsCheckedAlike (layout program comments) program
checked_alike law program comments r = record {
  tokens = r.tokens;
  reads = r.reads;
  tree = r.tree;
  is = r.is;
  same = sym (law r.tree) ∙ ap checked r.same ∙ law (kept program) ∙ ap lineless_typed (kept-checked program);
}

unbroken : (fs : List Fault) → unplaced_faults fs ≡ [] → fs ≡ []
unbroken [] e = refl
unbroken (f ∷ fs) e = absurd (cc)

abbrev Streamed : Option Core → Core → Type 0
Streamed made core = (c : Core) × (option_map with_streams made ≡ Some c) × (lineless c ≡ lineless core)

streamed_alike : ((core : Core) → with_streams (lineless core) ≡ lineless (with_streams core)) → (a b : Option Core) (core : Core)
    → option_map lineless a ≡ option_map lineless b → option_map with_streams b ≡ Some core → Streamed a core
streamed_alike law a None core same made = absurd (cc)
streamed_alike law None (Some d) core same made = absurd (cc)
streamed_alike law (Some c) (Some d) core same made =
    let cores : lineless c ≡ lineless d = cc in
    let streams : with_streams d ≡ core = cc in
    (with_streams c, refl, sym (law c) ∙ ap with_streams cores ∙ law d ∙ ap lineless streams)

pub accepted_alike : ((core : Core) → with_streams (lineless core) ≡ lineless (with_streams core)) → {text : List ℕ} (program : Program) (core : Core)
    → Answers (Ok core) (checked program) → IsCheckedAlike text program → IsAcceptedAs text core
accepted_alike law program core answers alike =
    let made = streamed_alike law (checked alike.tree).made (checked program).made core (λ i. (alike.same i).made) answers.1 in
    record {
      tokens = alike.tokens;
      reads = alike.reads;
      tree = alike.tree;
      is = alike.is;
      accepted = made.0;
      answers = (unbroken (checked alike.tree).faults ((λ i. (alike.same i).faults) ∙ ap unplaced_faults answers.0), made.1);
      same = made.2;
    }
