-- What is checked after the last word, and what the matches then give.
use Rattle.std.proofs.Common.{◌≡◌, ◌∙◌, ◌&&◌, ◌||◌, Bool, true, false, not, codes, List, [], ◌∷◌, drop, Option, Some, None, if◌then◌else◌, refl, sym, ap, ap₂, subst}
use Rattle.std.specs.Prelude.{bytes_eq, fold, option_and_then, option_map, slice_get, unwrap_or}
use Rattle.std.specs.Option.{is_some, option_map_or}
use Rattle.std.proofs.lemmas.Bool.{and_left}
use Rattle.clap.specs.Facts.{explicit_source}
use Rattle.clap.specs.Walk.{Row, Rule, default_rows, finished, has_row, row_text, settled_rows, with_default}
use Rattle.clap.specs.Takes.{is_given as row_is_given}
use Rattle.clap.specs.Kinds.{Kinds, check_kinds, or_else}
use Rattle.clap.specs.Faults.{check_fault, default_fault, defaults_fault, given_default_fault, settle_fault}
use Rattle.clap.specs.declared.builder.value_parser.Reading.TheVariants.{AsWritten}
use Rattle.clap.specs.declared.parser.matches.ValueSource.TheVariants.{DefaultValue}
use Rattle.chi_cli.specs.declared.command.Command.{Command}
use Rattle.chi_cli.specs.declared.command.Command.TheVariants as command
use Rattle.chi_cli.specs.declared.command.OptionName.{OptionName}
use Rattle.chi_cli.specs.declared.command.OptionName.TheVariants as name
use Rattle.chi_cli.specs.Commands.{Text, option_text, takes_value}
use Rattle.chi_cli.specs.Requests.{each_once}
use Rattle.chi_cli.specs.Splitting.{Said}
use Rattle.chi_cli.specs.Parsing.{Gives, first, fits, is_given, rest, truth_text}
use Rattle.chi_cli.proofs.Holding.{Holds, held_row, none, none_both, one_word, words_row}
use Rattle.chi_cli.proofs.Once.{Given, given_by}
use Rattle.chi_cli.proofs.Rules.{built_args, built_file, built_option, rules, shape}
use Rattle.chi_cli.proofs.Standing.{Pending, Settles, held}
use Rattle.chi_cli.proofs.Turning.{ends}
use Rattle.chi_cli.proofs.Uses.{has_row_is, row_at, row_grown, row_kept}

-- ---- defaults

or_true : (b : Bool) (fault : Kinds) → (if b || true then [] else fault) ≡ []
or_true true fault = refl
or_true false fault = refl

without_default : (a : Rule) → a.defaults ≡ [] → (rows : List Row) → default_fault rows a ≡ []
without_default a is rows = rw is (or_true (has_row a.id rows) (given_default_fault a []))

trace_default : (rows : List Row) → default_fault rows (built_option name.Trace) ≡ []
trace_default rows = each (has_row (codes "trace") rows) where
  each : (has : Bool) → (if has || false then [] else given_default_fault (built_option name.Trace) (codes "false" ∷ [])) ≡ []
  each true = refl
  each false = refl

one_more : (a : Rule) (more : List Rule) → ((rows : List Row) → default_fault rows a ≡ []) → ((rows : List Row) → defaults_fault rows more ≡ [])
    → (rows : List Row) → defaults_fault rows (a ∷ more) ≡ []
unfolding defaults_fault
one_more a more here later rows = ap (λ (k : Kinds). or_else k (defaults_fault (with_default rows a) more)) (here rows) ∙ later (with_default rows a)

no_more : (rows : List Row) → defaults_fault rows [] ≡ []
unfolding defaults_fault
no_more rows = refl

plain_option : (o : OptionName) → (built_option o).defaults ≡ [] → (more : List Rule) → ((rows : List Row) → defaults_fault rows more ≡ [])
    → (rows : List Row) → defaults_fault rows (built_option o ∷ more) ≡ []
plain_option o is more later = one_more (built_option o) more (without_default (built_option o) is) later

file_alone : (rows : List Row) → defaults_fault rows (built_file ∷ []) ≡ []
file_alone = one_more built_file [] (without_default built_file refl) no_more

no_judge_fault : (rows : List Row) → defaults_fault rows (rules command.Judge) ≡ []
no_judge_fault rows =
    plain_option name.Seed refl _ (plain_option name.Steps refl _ (plain_option name.Until refl _
    (one_more built_file _ (without_default built_file refl) (one_more built_args _ (without_default built_args refl) no_more)))) rows

no_default_fault : (c : Command) (rows : List Row) → defaults_fault rows (rules c) ≡ []
no_default_fault command.Check rows = file_alone rows
no_default_fault command.Code rows = file_alone rows
no_default_fault command.Fmt rows = file_alone rows
no_default_fault command.Load rows = file_alone rows
no_default_fault command.TraceUp rows = file_alone rows
no_default_fault command.Judge rows = no_judge_fault rows
no_default_fault command.Picks rows = no_judge_fault rows
no_default_fault command.Replay rows =
    plain_option name.Seed refl _ (plain_option name.Steps refl _ (plain_option name.Until refl _ (one_more (built_option name.Trace) _ trace_default
    (one_more built_file _ (without_default built_file refl) (one_more built_args _ (without_default built_args refl) no_more))))) rows
no_default_fault command.Explain rows =
    plain_option name.Seed refl _ (plain_option name.Steps refl _ (plain_option name.Policy refl _ (plain_option name.Salt refl _ (plain_option name.Until refl _
    (one_more built_file _ (without_default built_file refl) (one_more built_args _ (without_default built_args refl) no_more)))))) rows
no_default_fault command.Xper rows =
    plain_option name.Seed refl _ (plain_option name.Steps refl _ (plain_option name.Policy refl _ (plain_option name.Salt refl _ file_alone))) rows
no_default_fault command.Sim rows =
    plain_option name.Seed refl _ (plain_option name.Steps refl _ (plain_option name.Policy refl _ (plain_option name.Salt refl _ (plain_option name.Until refl _
    (plain_option name.Probe refl _ (one_more (built_option name.Trace) _ trace_default (one_more built_file _ (without_default built_file refl)
    (one_more built_args _ (without_default built_args refl) no_more)))))))) rows

unchanged : (a : Rule) → a.defaults ≡ [] → (rows : List Row) → with_default rows a ≡ rows
unchanged a is rows = rw is (each (has_row a.id rows)) where
  each : (has : Bool) → (if has then rows else rows) ≡ rows
  each true = refl
  each false = refl

-- at the end, `sim` and `replay` have a row for the trace
abbrev at_end : Command → List Row → List Row
at_end command.Sim rows = with_default rows (built_option name.Trace)
at_end command.Replay rows = with_default rows (built_option name.Trace)
at_end _ rows = rows

skip : (o : OptionName) → (built_option o).defaults ≡ [] → (more : List Rule) (rows : List Row) → fold with_default rows (built_option o ∷ more) ≡ fold with_default rows more
skip o is more rows = ap (λ (rs : List Row). fold with_default rs more) (unchanged (built_option o) is rows)

judge_finished : (rows : List Row) → fold with_default rows (rules command.Judge) ≡ rows
judge_finished rows =
    skip name.Seed refl (drop 1 (rules command.Judge)) rows ∙ skip name.Steps refl (drop 2 (rules command.Judge)) rows
    ∙ skip name.Until refl (drop 3 (rules command.Judge)) rows
    ∙ ap (λ (rs : List Row). with_default rs built_args) (unchanged built_file refl rows) ∙ unchanged built_args refl rows

finished_is : (c : Command) (rows : List Row) → fold with_default rows (rules c) ≡ at_end c rows
finished_is command.Check rows = unchanged built_file refl rows
finished_is command.Code rows = unchanged built_file refl rows
finished_is command.Fmt rows = unchanged built_file refl rows
finished_is command.Load rows = unchanged built_file refl rows
finished_is command.TraceUp rows = unchanged built_file refl rows
finished_is command.Judge rows = judge_finished rows
finished_is command.Picks rows = judge_finished rows
finished_is command.Replay rows =
    skip name.Seed refl (drop 1 (rules command.Replay)) rows ∙ skip name.Steps refl (drop 2 (rules command.Replay)) rows
    ∙ skip name.Until refl (drop 3 (rules command.Replay)) rows
    ∙ ap (λ (rs : List Row). with_default rs built_args) (unchanged built_file refl (with_default rows (built_option name.Trace)))
    ∙ unchanged built_args refl (with_default rows (built_option name.Trace))
finished_is command.Explain rows =
    skip name.Seed refl (drop 1 (rules command.Explain)) rows ∙ skip name.Steps refl (drop 2 (rules command.Explain)) rows
    ∙ skip name.Policy refl (drop 3 (rules command.Explain)) rows ∙ skip name.Salt refl (drop 4 (rules command.Explain)) rows
    ∙ skip name.Until refl (drop 5 (rules command.Explain)) rows
    ∙ ap (λ (rs : List Row). with_default rs built_args) (unchanged built_file refl rows) ∙ unchanged built_args refl rows
finished_is command.Xper rows =
    skip name.Seed refl (drop 1 (rules command.Xper)) rows ∙ skip name.Steps refl (drop 2 (rules command.Xper)) rows
    ∙ skip name.Policy refl (drop 3 (rules command.Xper)) rows ∙ skip name.Salt refl (drop 4 (rules command.Xper)) rows
    ∙ unchanged built_file refl rows
finished_is command.Sim rows =
    skip name.Seed refl (drop 1 (rules command.Sim)) rows ∙ skip name.Steps refl (drop 2 (rules command.Sim)) rows
    ∙ skip name.Policy refl (drop 3 (rules command.Sim)) rows ∙ skip name.Salt refl (drop 4 (rules command.Sim)) rows ∙ skip name.Until refl (drop 5 (rules command.Sim)) rows
    ∙ skip name.Probe refl (drop 6 (rules command.Sim)) rows
    ∙ ap (λ (rs : List Row). with_default rs built_args) (unchanged built_file refl (with_default rows (built_option name.Trace)))
    ∙ unchanged built_args refl (with_default rows (built_option name.Trace))

trace_kept : (id : Text) (rows : List Row) → bytes_eq (codes "trace") id ≡ false → row_at id (with_default rows (built_option name.Trace)) ≡ row_at id rows
trace_kept id rows apart = each (has_row (codes "trace") rows) where
  each : (has : Bool) → row_at id (if has then rows else default_rows (codes "trace") AsWritten (codes "false" ∷ []) rows) ≡ row_at id rows
  each true = refl
  each false = row_kept (codes "trace") id AsWritten DefaultValue (codes "false" ∷ []) rows apart

end_kept : (c : Command) (id : Text) (rows : List Row) → bytes_eq (codes "trace") id ≡ false → row_at id (at_end c rows) ≡ row_at id rows
end_kept command.Sim id rows apart = trace_kept id rows apart
end_kept command.Replay id rows apart = trace_kept id rows apart
end_kept command.Explain id rows apart = refl
end_kept command.Xper id rows apart = refl
end_kept command.Judge id rows apart = refl
end_kept command.Picks id rows apart = refl
end_kept command.Check id rows apart = refl
end_kept command.Code id rows apart = refl
end_kept command.Fmt id rows apart = refl
end_kept command.Load id rows apart = refl
end_kept command.TraceUp id rows apart = refl

-- ---- what the matches give

option_apart : (o : OptionName) → takes_value o ≡ true → (bytes_eq (codes "trace") (option_text o) ≡ false) × (bytes_eq (option_text o) (codes "trace") ≡ false)
option_apart name.Seed e = (refl, refl)
option_apart name.Steps e = (refl, refl)
option_apart name.Policy e = (refl, refl)
option_apart name.Salt e = (refl, refl)
option_apart name.Until e = (refl, refl)
option_apart name.Probe e = (refl, refl)
option_apart name.Trace e = absurd (cc)

value_held : (name : Text) (given : Option Given) → bytes_eq name (codes "trace") ≡ false
    → option_and_then (λ (r : Row). slice_get r.values 0) (held_row name given) ≡ option_map (λ (g : Given). g.1) given
value_held name None apart = refl
value_held name (Some g) apart = rw apart refl

abbrev flag_of : Option Row → Text
flag_of r = unwrap_or (option_and_then row_text r) (codes "false")

flag_held : (given : Option Given) → flag_of (held_row (codes "trace") given) ≡ truth_text (is_some (option_map (λ (g : Given). g.1) given))
flag_held None = refl
flag_held (Some g) = refl

trace_end : (rows : List Row) → flag_of (row_at (codes "trace") (with_default rows (built_option name.Trace))) ≡ flag_of (row_at (codes "trace") rows)
trace_end rows = each (row_at (codes "trace") rows) refl where
  each : (r : Option Row) → row_at (codes "trace") rows ≡ r → flag_of (row_at (codes "trace") (with_default rows (built_option name.Trace))) ≡ flag_of (row_at (codes "trace") rows)
  each None is =
      let has : has_row (codes "trace") rows ≡ false = has_row_is (codes "trace") rows ∙ ap (λ (r : Option Row). is_some r) is in
      rw has (ap flag_of (row_grown (codes "trace") AsWritten DefaultValue (codes "false" ∷ []) rows) ∙ rw is refl)
  each (Some r) is =
      let has : has_row (codes "trace") rows ≡ true = has_row_is (codes "trace") rows ∙ ap (λ (r : Option Row). is_some r) is in
      rw has refl

flag_end : (c : Command) (rows : List Row) → flag_of (row_at (codes "trace") (at_end c rows)) ≡ flag_of (row_at (codes "trace") rows)
flag_end command.Sim rows = trace_end rows
flag_end command.Replay rows = trace_end rows
flag_end command.Explain rows = refl
flag_end command.Xper rows = refl
flag_end command.Judge rows = refl
flag_end command.Picks rows = refl
flag_end command.Check rows = refl
flag_end command.Code rows = refl
flag_end command.Fmt rows = refl
flag_end command.Load rows = refl
flag_end command.TraceUp rows = refl

first_held : (id : Text) (words : List Text) → option_and_then (λ (r : Row). slice_get r.values 0) (words_row id (one_word words)) ≡ first words
first_held id [] = refl
first_held id (word ∷ words) = refl

all_held : (id : Text) (words : List Text) → unwrap_or (option_map (λ (r : Row). r.values) (words_row id words)) [] ≡ words
all_held id [] = refl
all_held id (word ∷ words) = refl

gives : (c : Command) (rows : List Row) (said : Said) → fits c said ≡ true → Holds rows said → Gives c (at_end c rows) said
gives c rows said fit holds = record {
  fit = fit;
  values = λ o takes_one. ap (λ (r : Option Row). option_and_then (λ (r : Row). slice_get r.values 0) r)
      (end_kept c (option_text o) rows (option_apart o takes_one).0 ∙ holds.options o)
      ∙ value_held (option_text o) (given_by (option_text o) said.options) (option_apart o takes_one).1;
  trace = flag_end c rows ∙ ap flag_of (holds.options name.Trace) ∙ flag_held (given_by (codes "trace") said.options);
  file = ap (λ (r : Option Row). option_and_then (λ (r : Row). slice_get r.values 0) r) (end_kept c (codes "file") rows refl ∙ holds.file)
      ∙ first_held (codes "file") said.plain;
  args = ap (λ (r : Option Row). unwrap_or (option_map (λ (r : Row). r.values) r) []) (end_kept c (codes "args") rows refl ∙ holds.args)
      ∙ all_held (codes "args") (rest said.plain);
}

-- ---- the last checks

wants : (given : Bool) → none (check_kinds false false (not given || false)) ≡ given
wants true = refl
wants false = refl

check_is : (c : Command) (rows : List Row) → none (check_fault (shape c) rows false) ≡ row_is_given (codes "file") rows
check_is command.Sim rows = wants (row_is_given (codes "file") rows)
check_is command.Explain rows = wants (row_is_given (codes "file") rows)
check_is command.Xper rows = wants (row_is_given (codes "file") rows)
check_is command.Check rows = wants (row_is_given (codes "file") rows)
check_is command.Code rows = wants (row_is_given (codes "file") rows)
check_is command.Fmt rows = wants (row_is_given (codes "file") rows)
check_is command.Load rows = wants (row_is_given (codes "file") rows)
check_is command.Replay rows = wants (row_is_given (codes "file") rows)
check_is command.Judge rows = wants (row_is_given (codes "file") rows)
check_is command.Picks rows = wants (row_is_given (codes "file") rows)
check_is command.TraceUp rows = wants (row_is_given (codes "file") rows)

file_given : (words : List Text) → option_map_or (λ (r : Row). explicit_source r.source) (words_row (codes "file") (one_word words)) false ≡ is_given words
file_given [] = refl
file_given (word ∷ words) = refl

module _ (c : Command) (rows : List Row) (pending : Pending) (said : Said) (settles : Settles c rows pending said) where
  abbrev settled_now : List Row
  settled_now = settled_rows (rules c) pending rows

  last_check : Holds settled_now said → none (check_fault (shape c) (finished (rules c) (held rows pending)) false) ≡ is_given said.plain
  last_check holds = check_is c (finished (rules c) (held rows pending))
      ∙ ap (λ (rs : List Row). row_is_given (codes "file") rs) (finished_is c settled_now)
      ∙ ap (λ (r : Option Row). option_map_or (λ (r : Row). explicit_source r.source) r false) (end_kept c (codes "file") settled_now refl ∙ holds.file)
      ∙ file_given said.plain

  pub ends_fit : ends c (held rows pending) ≡ fits c said
  ends_fit = none_both (settle_fault (rules c) false (held rows pending)) _ ∙ each (each_once said.options) refl where
    last : Kinds
    last = check_fault (shape c) (finished (rules c) (held rows pending)) false

    each : (once : Bool) → each_once said.options ≡ once
        → (none (settle_fault (rules c) false (held rows pending)) && none (or_else (defaults_fault settled_now (rules c)) last)) ≡ fits c said
    each false twice = and_left _ _ (settles.once ∙ twice) ∙ sym (and_left _ _ (and_left _ _ twice))
    each true once =
        let defaults : none (or_else (defaults_fault settled_now (rules c)) last) ≡ is_given said.plain =
        ap (λ (k : Kinds). none (or_else k last)) (no_default_fault c settled_now) ∙ last_check (settles.holds once) in
        ap₂ (λ (a b : Bool). a && b) (settles.once ∙ once) defaults
        ∙ sym (ap₂ (λ (a b : Bool). (a && b) && is_given said.plain) once settles.room)

  pub ends_give : fits c said ≡ true → Gives c (finished (rules c) (held rows pending)) said
  ends_give fit = each (each_once said.options) refl where
    each : (once : Bool) → each_once said.options ≡ once → Gives c (finished (rules c) (held rows pending)) said
    each false twice =
        let unfit : fits c said ≡ false = and_left _ _ (and_left _ _ twice) in
        absurd (cc)
    each true once = subst (λ (rs : List Row). Gives c rs said) (sym (finished_is c settled_now)) (gives c settled_now said fit (settles.holds once))
