-- What rows hold of what was said, and one use more.
use Rattle.std.proofs.Common.{◌≡◌, ◌∙◌, ◌&&◌, Bool, true, false, not, codes, List, [], ◌∷◌, ◌++◌, Option, Some, None, if◌then◌else◌, refl, sym, ap, subst}
use Rattle.std.specs.Prelude.{bytes_eq, is_some, option_map}
use Rattle.std.proofs.lemmas.Slice.Eq.{bytes_eq-Decides}
use Rattle.clap.specs.Walk.{Row, has_row, used, with_values}
use Rattle.clap.specs.Kinds.{Kinds, or_else}
use Rattle.clap.specs.Faults.{use_fault}
use Rattle.clap.specs.declared.builder.value_parser.Reading.TheVariants.{AsWritten}
use Rattle.clap.specs.declared.error.kind.ErrorKind.TheVariants as kind
use Rattle.clap.specs.declared.parser.matches.ValueSource.TheVariants.{CommandLine}
use Rattle.chi_cli.specs.declared.command.OptionName.{OptionName}
use Rattle.chi_cli.specs.declared.command.OptionName.TheVariants as option
use Rattle.chi_cli.specs.Commands.{Text, option_text}
use Rattle.chi_cli.specs.Splitting.{Said}
use Rattle.chi_cli.specs.Saying.{nothing}
use Rattle.chi_cli.specs.Parsing.{rest}
use Rattle.chi_cli.proofs.Once.{Given, given_by, given_more, is_among, or_given}
use Rattle.chi_cli.proofs.Rules.{built_args, built_file, built_option}
use Rattle.chi_cli.proofs.Uses.{has_row_is, none_out, row_at, row_grown, row_kept, grown}

abbrev pub use_row : Text → List Text → Row
use_row id values = record { id = id; values = values; count = None; source = Some CommandLine; reading = AsWritten }

-- the text that a use of an option leaves
abbrev pub held_text : Text → Text → Text
held_text name value = if bytes_eq name (codes "trace") then codes "true" else value

abbrev pub held_row : Text → Option Given → Option Row
held_row name None = None
held_row name (Some given) = Some (use_row name (held_text name given.1 ∷ []))

abbrev pub words_row : Text → List Text → Option Row
words_row id [] = None
words_row id (word ∷ words) = Some (use_row id (word ∷ words))

abbrev pub one_word : List Text → List Text
one_word [] = []
one_word (word ∷ words) = word ∷ []

pub record Holds (rows : List Row) (said : Said) : Type 0 where
  pub options : (o : OptionName) → row_at (option_text o) rows ≡ held_row (option_text o) (given_by (option_text o) said.options)
  pub file : row_at (codes "file") rows ≡ words_row (codes "file") (one_word said.plain)
  pub args : row_at (codes "args") rows ≡ words_row (codes "args") (rest said.plain)

pub holds_nothing : Holds [] nothing
holds_nothing = record { options = λ o. refl; file = refl; args = refl }

-- one more option; one more plain word
abbrev pub option_more : Said → OptionName → Text → Said
option_more said o value = record said { options = said.options ++ (o, value) ∷ [] }

abbrev pub plain_more : Said → Text → Said
plain_more said word = record said { plain = said.plain ++ word ∷ [] }

-- what stands in the words for the value of an option
abbrev pub given_values : OptionName → Text → List Text
given_values option.Trace value = []
given_values _ value = value ∷ []

none_given : (o : Option Given) → is_some (option_map (λ given. given.1) o) ≡ false → o ≡ None
none_given None e = refl
none_given (Some given) e = absurd (cc)

abbrev with_text : Text → Text → List Row → List Row
with_text id value rows = with_values id AsWritten CommandLine (value ∷ []) rows

used_option : (o : OptionName) (value : Text) (rows : List Row) → row_at (option_text o) rows ≡ None
    → used (built_option o) (given_values o value) rows ≡ with_text (option_text o) (held_text (option_text o) value) rows
used_option option.Seed value rows none = ap (with_text (codes "seed") value) (none_out (codes "seed") rows none)
used_option option.Steps value rows none = ap (with_text (codes "steps") value) (none_out (codes "steps") rows none)
used_option option.Policy value rows none = ap (with_text (codes "policy") value) (none_out (codes "policy") rows none)
used_option option.Salt value rows none = ap (with_text (codes "salt") value) (none_out (codes "salt") rows none)
used_option option.Until value rows none = ap (with_text (codes "until") value) (none_out (codes "until") rows none)
used_option option.Probe value rows none = ap (with_text (codes "probe") value) (none_out (codes "probe") rows none)
used_option option.Trace value rows none = ap (with_text (codes "trace") (codes "true")) (none_out (codes "trace") rows none)

no_option : (o : OptionName) → (bytes_eq (option_text o) (codes "file") ≡ false) × (bytes_eq (option_text o) (codes "args") ≡ false)
    × (bytes_eq (codes "file") (option_text o) ≡ false) × (bytes_eq (codes "args") (option_text o) ≡ false)
no_option option.Seed = (refl, refl, refl, refl)
no_option option.Steps = (refl, refl, refl, refl)
no_option option.Policy = (refl, refl, refl, refl)
no_option option.Salt = (refl, refl, refl, refl)
no_option option.Until = (refl, refl, refl, refl)
no_option option.Probe = (refl, refl, refl, refl)
no_option option.Trace = (refl, refl, refl, refl)

-- the row of a name, after a use of an option
row_after : (name : Text) (o : OptionName) (value : Text) (rows : List Row) (options : List Given)
    → row_at name rows ≡ held_row name (given_by name options) → row_at (option_text o) rows ≡ None → given_by (option_text o) options ≡ None
    → row_at name (with_text (option_text o) (held_text (option_text o) value) rows) ≡ held_row name (given_by name (options ++ (o, value) ∷ []))
row_after name o value rows options held none not_given =
    each (bytes_eq (option_text o) name) refl ∙ ap (held_row name) (sym (given_more name options (o, value))) where
      fresh : row_at (option_text o) (with_text (option_text o) (held_text (option_text o) value) rows)
          ≡ held_row (option_text o) (or_given (given_by (option_text o) options) (Some (o, value)))
      fresh = row_grown (option_text o) AsWritten CommandLine (held_text (option_text o) value ∷ []) rows ∙ rw (none, not_given) refl

      old : (given : Option Given) → held_row name given ≡ held_row name (or_given given None)
      old None = refl
      old (Some given) = refl

      each : (same : Bool) → bytes_eq (option_text o) name ≡ same → row_at name (with_text (option_text o) (held_text (option_text o) value) rows)
          ≡ held_row name (or_given (given_by name options) (if same then Some (o, value) else None))
      each true is = subst (λ (n : Text). row_at n (with_text (option_text o) (held_text (option_text o) value) rows)
          ≡ held_row n (or_given (given_by n options) (Some (o, value)))) ((bytes_eq-Decides (option_text o) name).0 is) fresh
      each false is =
          row_kept (option_text o) name AsWritten CommandLine (held_text (option_text o) value ∷ []) rows is ∙ held ∙ old (given_by name options)

pub holds_option : (o : OptionName) (value : Text) (rows : List Row) (said : Said) → Holds rows said → is_among (option_text o) said.options ≡ false
    → Holds (used (built_option o) (given_values o value) rows) (option_more said o value)
holds_option o value rows said holds new =
    let not_given : given_by (option_text o) said.options ≡ None = none_given (given_by (option_text o) said.options) new in
    let none : row_at (option_text o) rows ≡ None = holds.options o ∙ ap (held_row (option_text o)) not_given in
    let apart = no_option o in
    let held : List Text = held_text (option_text o) value ∷ [] in
    let after : Holds (with_text (option_text o) (held_text (option_text o) value) rows) (option_more said o value) = record {
      options = λ other. row_after (option_text other) o value rows said.options (holds.options other) none not_given;
      file = row_kept (option_text o) (codes "file") AsWritten CommandLine held rows apart.0 ∙ holds.file;
      args = row_kept (option_text o) (codes "args") AsWritten CommandLine held rows apart.1 ∙ holds.args;
    } in
    subst (λ (rs : List Row). Holds rs (option_more said o value)) (sym (used_option o value rows none)) after

-- the first plain word
pub holds_file : (word : Text) (rows : List Row) (options : List Given) → Holds rows (record { options = options; plain = [] })
    → Holds (used built_file (word ∷ []) rows) (record { options = options; plain = word ∷ [] })
holds_file word rows options holds =
    let is : used built_file (word ∷ []) rows ≡ with_text (codes "file") word rows = ap (with_text (codes "file") word) (none_out (codes "file") rows holds.file) in
    let after : Holds (with_text (codes "file") word rows) (record { options = options; plain = word ∷ [] }) = record {
      options = λ o. row_kept (codes "file") (option_text o) AsWritten CommandLine (word ∷ []) rows (no_option o).2 ∙ holds.options o;
      file = row_grown (codes "file") AsWritten CommandLine (word ∷ []) rows ∙ rw holds.file refl;
      args = row_kept (codes "file") (codes "args") AsWritten CommandLine (word ∷ []) rows refl ∙ holds.args;
    } in
    subst (λ (rs : List Row). Holds rs (record { options = options; plain = word ∷ [] })) (sym is) after

-- a plain word after it
pub holds_args : (word : Text) (rows : List Row) (options : List Given) (file : Text) (args : List Text) → Holds rows (record { options = options; plain = file ∷ args })
    → Holds (used built_args (word ∷ []) rows) (record { options = options; plain = file ∷ args ++ word ∷ [] })
holds_args word rows options file args holds = record {
  options = λ o. row_kept (codes "args") (option_text o) AsWritten CommandLine (word ∷ []) rows (no_option o).3 ∙ holds.options o;
  file = row_kept (codes "args") (codes "file") AsWritten CommandLine (word ∷ []) rows refl ∙ holds.file;
  args = row_grown (codes "args") AsWritten CommandLine (word ∷ []) rows ∙ each args holds.args;
} where
  each : (args : List Text) → row_at (codes "args") rows ≡ words_row (codes "args") args
      → Some (grown (codes "args") AsWritten CommandLine (word ∷ []) (row_at (codes "args") rows)) ≡ words_row (codes "args") (args ++ word ∷ [])
  each [] is = rw is refl
  each (arg ∷ args) is = rw is refl

-- no kind of fault
abbrev pub none : Kinds → Bool
none [] = true
none (k ∷ ks) = false

pub none_both : (a b : Kinds) → none (or_else a b) ≡ (none a && none b)
none_both [] b = refl
none_both (k ∷ ks) b = refl

repeats : (again : Bool) → none (or_else (if again && not false then kind.ArgumentConflict ∷ [] else []) []) ≡ not again
repeats true = refl
repeats false = refl

repeated : (id : Text) (rows : List Row) → none (or_else (if has_row id rows && not false then kind.ArgumentConflict ∷ [] else []) []) ≡ not (is_some (row_at id rows))
repeated id rows = repeats (has_row id rows) ∙ ap not (has_row_is id rows)

use_option : (o : OptionName) (value : Text) (rows : List Row)
    → none (use_fault false (built_option o) (given_values o value) rows) ≡ not (is_some (row_at (option_text o) rows))
use_option option.Seed value rows = repeated (codes "seed") rows
use_option option.Steps value rows = repeated (codes "steps") rows
use_option option.Policy value rows = repeated (codes "policy") rows
use_option option.Salt value rows = repeated (codes "salt") rows
use_option option.Until value rows = repeated (codes "until") rows
use_option option.Probe value rows = repeated (codes "probe") rows
use_option option.Trace value rows = repeated (codes "trace") rows

-- an option that was given already is refused, and no other
pub use_once : (o : OptionName) (value : Text) (rows : List Row) (said : Said) → Holds rows said
    → none (use_fault false (built_option o) (given_values o value) rows) ≡ not (is_among (option_text o) said.options)
use_once o value rows said holds =
    use_option o value rows ∙ ap (λ (r : Option Row). not (is_some r)) (holds.options o) ∙ each (given_by (option_text o) said.options) where
      each : (given : Option Given) → not (is_some (held_row (option_text o) given)) ≡ not (is_some (option_map (λ (g : Given). g.1) given))
      each None = refl
      each (Some given) = refl

pub use_file : (word : Text) (rows : List Row) → row_at (codes "file") rows ≡ None → none (use_fault false built_file (word ∷ []) rows) ≡ true
use_file word rows is = repeated (codes "file") rows ∙ ap (λ (r : Option Row). not (is_some r)) is

pub use_args : (word : Text) (rows : List Row) → none (use_fault false built_args (word ∷ []) rows) ≡ true
use_args word rows = refl
