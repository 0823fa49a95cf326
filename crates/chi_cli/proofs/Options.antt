-- A word with two hyphens and a name, and the value of an option, are read by clap as the definitions say.
use Rattle.std.proofs.Common.{◌≡◌, ◌∙◌, ◌&&◌, Bool, true, false, not, List, [], ◌∷◌, ◌++◌, Option, Some, None, if◌then◌else◌, refl, sym, ap, subst, inl}
use Rattle.std.specs.Prelude.{bytes_eq, option_map}
use Rattle.std.specs.Option.{is_some, option_map_or}
use Rattle.std.proofs.lemmas.Bool.{and_left, not-true}
use Rattle.clap.specs.Lexer.{long_of, short_of}
use Rattle.clap.specs.Walk.{Held, Row, Rule, Waiting, Walk, idle, option, next as goes_on, trailing, value as to_plain, arg_by_id, arg_by_long, option_word, reacted, settled, settled_rows, takes_values, used, used_by_id, walked, word_met, is_pending}
use Rattle.clap.specs.Faults.{long_fault, positional_fault, react_fault, settle_fault, step_fault, stray_fault, turn_fault, use_fault, walk_fault, word_fault, option_fault}
use Rattle.clap.specs.declared.error.kind.ErrorKind.TheVariants as kind
use Rattle.chi_cli.specs.declared.command.Command.{Command}
use Rattle.chi_cli.specs.declared.command.Command.TheVariants as command
use Rattle.chi_cli.specs.declared.command.OptionName.{OptionName}
use Rattle.chi_cli.specs.declared.command.OptionName.TheVariants as name
use Rattle.chi_cli.specs.Commands.{Text, option_named, option_text, takes_value}
use Rattle.chi_cli.specs.Requests.{each_once}
use Rattle.chi_cli.specs.Splitting.{Said, any, value_of, given, waiting, unfit, any_word, is_plain, option_or_unfit, option_word as word_of_option}
use Rattle.chi_cli.proofs.Forms.{hyphens}
use Rattle.chi_cli.proofs.Holding.{Holds, given_values, holds_option, none, none_both, option_more, use_once}
use Rattle.chi_cli.proofs.Once.{is_among, once_more}
use Rattle.chi_cli.proofs.Rules.{built_args, built_file, built_option, file_first, id_found, long_found, rules, shape, takes}
use Rattle.chi_cli.proofs.Standing.{Pending, Settles, Turns, held, never, place, stand}
use Rattle.chi_cli.proofs.Turning.{fault_first, given_fault, given_said, given_turns, given_walk, is_taken, long_turns, refused_turn, same_said, turn_fault_is, values_of_flag, values_of_option, waits_turns, waits_walk, walked_is}
use Rattle.chi_cli.proofs.EachWord.{IsRead, refused_word, turns_as}
use Rattle.chi_cli.specs.Parsing.{has_place}

-- ---- where any word may stand

module _ (c : Command) (rows : List Row) (pending : Pending) (waits : Waiting) (said : Said) (text : Text) (name : Text) (value : Option Text)
    (apart : bytes_eq text hyphens ≡ false) (long : long_of text ≡ Some (name, value))
    (is : any_word c text ≡ option_or_unfit (option_named c name) value) where
  abbrev from : Walk
  from = stand rows pending waits false said

  abbrev at : Held
  at = held rows pending

  fault_of_long : word_fault (shape c) [] false waits text at ≡ long_fault (rules c) false (arg_by_long (rules c) name) value at
  fault_of_long = fault_first c rows pending waits false said text refl ∙ rw (apart, long) refl

  no_such : option_named c name ≡ None → IsRead c from any said text
  no_such none_named =
      let found : arg_by_long (rules c) name ≡ None = long_found c name ∙ ap (option_map built_option) none_named in
      record {
        word = unfit;
        is = is ∙ ap (λ (o : Option OptionName). option_or_unfit o value) none_named;
        reads = λ more. refused_word c rows pending waits false said text more
            (ap none (fault_of_long ∙ ap (λ (a : Option Rule). long_fault (rules c) false a value at) found));
      }

  module _ (o : OptionName) (named : option_named c name ≡ Some o) (settles : Settles c rows pending said) where
    found : arg_by_long (rules c) name ≡ Some (built_option o)
    found = long_found c name ∙ ap (option_map built_option) named

    word_is : (takes_one : Bool) → takes_value o ≡ takes_one → any_word c text ≡ word_of_option o takes_one value
    word_is takes_one takes_is = is ∙ ap (λ (found : Option OptionName). option_or_unfit found value) named ∙ ap (λ (t : Bool). word_of_option o t value) takes_is

    abbrev used_walk : List Text → Walk
    used_walk values = record from { held = reacted (rules c) (built_option o) values at; waiting = idle }

    used_so : (given_text : Text) (values : List Text) → given_values o given_text ≡ values → turn_fault (shape c) [] from text ≡ react_fault (rules c) false (built_option o) values at
        → walked (rules c) [] from text ≡ used_walk values
        → Turns c (turn_fault (shape c) [] from text) (walked (rules c) [] from text) any (option_more said o given_text)
    used_so given_text values same fault after = turns_as c any _ (given_fault c rows pending said o given_text) _ (given_walk c rows pending said o given_text) _ _
        (fault ∙ ap (λ (vs : List Text). react_fault (rules c) false (built_option o) vs at) (sym same))
        (after ∙ ap (λ (vs : List Text). used_walk vs) (sym same))
        refl
        (given_turns c rows pending said o given_text settles)

    read_option : (takes_one : Bool) → takes_value o ≡ takes_one → (found_value : Option Text) → value ≡ found_value → IsRead c from any said text
    read_option true takes_is (Some v) value_is =
        let turn = long_turns c rows pending waits said text name value apart long o true found takes_is
        (reacted (rules c) (built_option o) (v ∷ []) at) idle (react_fault (rules c) false (built_option o) (v ∷ []) at) (rw value_is refl) (rw value_is refl) in
        record {
          word = given o v;
          is = word_is true takes_is ∙ ap (λ (x : Option Text). word_of_option o true x) value_is;
          reads = turns_as c any _ _ _ _ _ _ refl refl (given_said said o v text) (used_so v (v ∷ []) (values_of_option o v takes_is) turn.0 turn.1);
        }
    read_option true takes_is None value_is =
        let turn = long_turns c rows pending waits said text name value apart long o true found takes_is
        (record (settled (rules c) at) { pending = Some (option_text o, []) }) (option (option_text o)) (settle_fault (rules c) false at) (rw value_is refl) (rw value_is refl) in
        record {
          word = waiting o;
          is = word_is true takes_is ∙ ap (λ (x : Option Text). word_of_option o true x) value_is;
          reads = turns_as c (value_of o) _ _ _ (waits_walk c rows pending said o) _ _ turn.0 turn.1 (same_said said (waiting o) text refl)
              (waits_turns c rows pending said o settles (id_found c name o named) takes_is);
        }
    read_option false takes_is (Some v) value_is =
        let refuses : long_fault (rules c) false (arg_by_long (rules c) name) value at ≡ kind.TooManyValues ∷ [] =
        rw (found, takes o, takes_is, value_is) refl in
        record {
          word = unfit;
          is = word_is false takes_is ∙ ap (λ (x : Option Text). word_of_option o false x) value_is;
          reads = λ more. refused_word c rows pending waits false said text more (ap none (fault_of_long ∙ refuses));
        }
    read_option false takes_is None value_is =
        let turn = long_turns c rows pending waits said text name value apart long o false found takes_is
        (reacted (rules c) (built_option o) [] at) idle (react_fault (rules c) false (built_option o) [] at) (rw value_is refl) (rw value_is refl) in
        record {
          word = given o [];
          is = word_is false takes_is ∙ ap (λ (x : Option Text). word_of_option o false x) value_is;
          reads = turns_as c any _ _ _ _ _ _ refl refl (given_said said o [] text) (used_so [] [] (values_of_flag o [] takes_is) turn.0 turn.1);
        }

  pub any_long : Settles c rows pending said → IsRead c from any said text
  any_long settles = each (option_named c name) refl where
    each : (found : Option OptionName) → option_named c name ≡ found → IsRead c from any said text
    each None named = no_such named
    each (Some o) named = read_option o named settles (takes_value o) refl value refl

-- ---- where an option waits for its value

full : (o : OptionName) (rows : List Row) (text : Text) → takes_value o ≡ true
    → option_word (Some (built_option o)) (option_text o) text (held rows (Some (option_text o, []))) ≡ (held rows (Some (option_text o, text ∷ [])), idle)
full name.Seed rows text e = refl
full name.Steps rows text e = refl
full name.Policy rows text e = refl
full name.Salt rows text e = refl
full name.Until rows text e = refl
full name.Probe rows text e = refl
full name.Trace rows text e = absurd (cc)

lacks : (o : OptionName) (rows : List Row) → takes_value o ≡ true → none (use_fault false (built_option o) [] rows) ≡ false
lacks name.Seed rows e = refl
lacks name.Steps rows e = refl
lacks name.Policy rows e = refl
lacks name.Salt rows e = refl
lacks name.Until rows e = refl
lacks name.Probe rows e = refl
lacks name.Trace rows e = absurd (cc)

-- where settling is a fault, an option is one
long_lacks : (c : Command) (found : Option Rule) (value : Option Text) (h : Held) → none (settle_fault (rules c) false h) ≡ false
    → none (long_fault (rules c) false found value h) ≡ false
long_lacks c None value h unsettled = refl
long_lacks c (Some a) value h unsettled = each (takes_values a) value where
  each : (takes_one : Bool) (value : Option Text) → none (if takes_one then option_fault (rules c) false a value h
      else (if is_some value then kind.TooManyValues ∷ [] else react_fault (rules c) false a [] h)) ≡ false
  each true (Some v) = none_both (settle_fault (rules c) false h) (use_fault false a (v ∷ []) (settled (rules c) h).rows) ∙ and_left _ _ unsettled
  each true None = unsettled
  each false (Some v) = refl
  each false None = none_both (settle_fault (rules c) false h) (use_fault false a [] (settled (rules c) h).rows) ∙ and_left _ _ unsettled

-- and a plain word
plain_lacks : (c : Command) (plain : List Text) (h : Held) → none (settle_fault (rules c) false h) ≡ false → none (step_fault (shape c) (place plain) h to_plain) ≡ false
plain_lacks c [] h unsettled =
    ap none (ap (λ (a : Option Rule). option_map_or (λ r. positional_fault (rules c) false r h) a (stray_fault (shape c))) (file_first c)
    ∙ never (is_pending built_file h.pending) (settle_fault (rules c) false h)) ∙ unsettled
plain_lacks command.Sim (file ∷ args) h unsettled = ap none (never (is_pending built_args h.pending) (settle_fault (rules command.Sim) false h)) ∙ unsettled
plain_lacks command.Explain (file ∷ args) h unsettled = ap none (never (is_pending built_args h.pending) (settle_fault (rules command.Explain) false h)) ∙ unsettled
plain_lacks command.Replay (file ∷ args) h unsettled = ap none (never (is_pending built_args h.pending) (settle_fault (rules command.Replay) false h)) ∙ unsettled
plain_lacks command.Judge (file ∷ args) h unsettled = ap none (never (is_pending built_args h.pending) (settle_fault (rules command.Judge) false h)) ∙ unsettled
plain_lacks command.Picks (file ∷ args) h unsettled = ap none (never (is_pending built_args h.pending) (settle_fault (rules command.Picks) false h)) ∙ unsettled
plain_lacks command.Xper (file ∷ args) h unsettled = refl
plain_lacks command.Check (file ∷ args) h unsettled = refl
plain_lacks command.Code (file ∷ args) h unsettled = refl
plain_lacks command.Fmt (file ∷ args) h unsettled = refl
plain_lacks command.Load (file ∷ args) h unsettled = refl
plain_lacks command.TraceUp (file ∷ args) h unsettled = refl

module _ (c : Command) (rows : List Row) (said : Said) (o : OptionName) (known : arg_by_id (rules c) (option_text o) ≡ Some (built_option o))
    (takes_is : takes_value o ≡ true) where
  abbrev lacking : Held
  lacking = held rows (Some (option_text o, []))

  abbrev waits_from : Walk
  waits_from = stand rows (Some (option_text o, [])) (option (option_text o)) false said

  pub unsettled : none (settle_fault (rules c) false lacking) ≡ false
  unsettled = ap none (ap (λ (a : Option Rule). option_map_or (λ r. use_fault false r [] rows) a []) known) ∙ lacks o rows takes_is

  -- after `--` too it lacks its value
  never_taken : (more : List Text) → is_taken c (stand rows (Some (option_text o, [])) (option (option_text o)) true said) more ≡ false
  unfolding walk_fault
  never_taken [] = none_both (settle_fault (rules c) false lacking) _ ∙ and_left _ _ unsettled
  never_taken (text ∷ more) = refused_turn c (stand rows (Some (option_text o, [])) (option (option_text o)) true said) text more (plain_lacks c said.plain lacking unsettled)

  pub end_lacks : (more : List Text) → is_taken c waits_from (hyphens ∷ more) ≡ false
  unfolding walk_fault
  end_lacks more =
      let met : word_met (rules c) [] false (option (option_text o)) (place said.plain) hyphens lacking ≡ (lacking, trailing (place said.plain)) = refl in
      let after : walked (rules c) [] waits_from hyphens ≡ stand rows (Some (option_text o, [])) (option (option_text o)) true said =
      walked_is c rows (Some (option_text o, [])) (option (option_text o)) false said hyphens lacking (trailing (place said.plain)) met in
      ap (λ (w : Walk). is_taken c w more) after ∙ never_taken more

  -- the value
  pub value_read : each_once said.options ≡ true → Holds rows said → has_place c said.plain ≡ true
      → (text : Text) → bytes_eq text hyphens ≡ false → long_of text ≡ None → short_of text ≡ None → is_plain text ≡ true
      → IsRead c waits_from (value_of o) said text
  value_read once holds room text apart long short is =
      let full_held : Held = held rows (Some (option_text o, text ∷ [])) in
      let met : word_met (rules c) [] false (option (option_text o)) (place said.plain) text lacking ≡ (full_held, goes_on idle) =
      rw (apart, long, short, known) (ap (λ (met : Held × Waiting). (met.0, goes_on met.1)) (full o rows text takes_is)) in
      let fault : word_fault (shape c) [] false (option (option_text o)) text lacking ≡ [] = rw (apart, long, short) refl in
      let values : given_values o text ≡ text ∷ [] = values_of_option o text takes_is in
      let uses : none (use_fault false (built_option o) (text ∷ []) rows) ≡ not (is_among (option_text o) said.options) =
      ap (λ (vs : List Text). none (use_fault false (built_option o) vs rows)) (sym values) ∙ use_once o text rows said holds in
      let now_once : each_once (said.options ++ (o, text) ∷ []) ≡ not (is_among (option_text o) said.options) =
      once_more said.options (o, text) ∙ ap (λ (b : Bool). b && not (is_among (option_text o) said.options)) once in
      let used_is : used (built_option o) (given_values o text) rows ≡ settled_rows (rules c) (Some (option_text o, text ∷ [])) rows =
      ap (λ (vs : List Text). used (built_option o) vs rows) values ∙ ap (λ (a : Option Rule). used_by_id a (text ∷ []) rows) (sym known) in
      record {
        word = given o text;
        is = rw is refl;
        reads = turns_as c any _ [] _ _ _ _
            (turn_fault_is c rows (Some (option_text o, [])) (option (option_text o)) false said text full_held (goes_on idle) [] met fault)
            (walked_is c rows (Some (option_text o, [])) (option (option_text o)) false said text full_held (goes_on idle) met)
            (given_said said o text text)
            (inl (
              refl,
              record {
                rows = rows;
                pending = Some (option_text o, text ∷ []);
                waiting = idle;
                is = refl;
                stands = (
                  refl,
                  record {
                    once = ap none (ap (λ (a : Option Rule). option_map_or (λ r. use_fault false r (text ∷ []) rows) a []) known) ∙ uses ∙ sym now_once;
                    holds = λ e. subst (λ (rs : List Row). Holds rs (option_more said o text)) used_is
                        (holds_option o text rows said holds (not-true _ (sym now_once ∙ e)));
                    room = room;
                  },
                );
              },
            ));
      }

  -- another option
  pub long_refused : (text name : Text) (value : Option Text) (more : List Text) → bytes_eq text hyphens ≡ false → long_of text ≡ Some (name, value)
      → is_taken c waits_from (text ∷ more) ≡ false
  long_refused text name value more apart long =
      let fault : word_fault (shape c) [] false (option (option_text o)) text lacking ≡ long_fault (rules c) false (arg_by_long (rules c) name) value lacking =
      rw (apart, long) refl in
      refused_word c rows (Some (option_text o, [])) (option (option_text o)) false said text more
      (ap none fault ∙ long_lacks c (arg_by_long (rules c) name) value lacking unsettled)
