-- What one word does to clap's walk, by what it is where it stands.
use Rattle.std.proofs.Common.{◌≡◌, ◌∙◌, ◌&&◌, Bool, true, false, not, List, [], ◌∷◌, ◌++◌, Option, Some, None, if◌then◌else◌, refl, sym, ap, ap₂, append-nil, inl, inr}
use Rattle.std.specs.Prelude.{bytes_eq, fold}
use Rattle.std.proofs.lemmas.Bool.{and_left, and_right}
use Rattle.clap.specs.Lexer.{long_of}
use Rattle.clap.specs.Walk.{Held, Row, Step, Waiting, Walk, idle, option, positional, next as goes_on, trailing, after_flag, after_step, arg_by_id, arg_by_long, finished, flag_met, long_or_other, option_met, settled, settled_rows, takes_values, used, walked, word_met}
use Rattle.clap.specs.Kinds.{Kinds, or_else}
use Rattle.clap.specs.Faults.{check_fault, defaults_fault, flag_word_fault, option_fault, react_fault, settle_fault, step_fault, turn_fault, use_fault, walk_fault, word_fault}
use Rattle.clap.specs.declared.error.kind.ErrorKind.TheVariants as kind
use Rattle.chi_cli.specs.declared.command.Command.{Command}
use Rattle.chi_cli.specs.declared.command.OptionName.{OptionName}
use Rattle.chi_cli.specs.declared.command.OptionName.TheVariants as name
use Rattle.chi_cli.specs.Commands.{Text, option_text, takes_value}
use Rattle.chi_cli.specs.Requests.{each_once}
use Rattle.chi_cli.specs.Splitting.{Said, Next, any, value_of, Word, plain, given, unfit, next_after}
use Rattle.chi_cli.specs.Saying.{said_and}
use Rattle.chi_cli.proofs.Forms.{hyphens}
use Rattle.chi_cli.proofs.Holding.{given_values, holds_option, none, none_both, option_more, plain_more, use_once}
use Rattle.chi_cli.proofs.Once.{is_among, once_more}
use Rattle.chi_cli.proofs.Rules.{built_option, rules, shape, takes}
use Rattle.chi_cli.proofs.Standing.{Pending, Settles, Turns, held, place, stand}
use Rattle.std.specs.Option.{is_some}

-- what is left to check after the last word
abbrev pub ends : Command → Held → Bool
ends c h = none (or_else (settle_fault (rules c) false h)
    (or_else (defaults_fault (settled (rules c) h).rows (rules c)) (check_fault (shape c) (finished (rules c) h) false)))

-- clap takes the words, from where the walk stands
abbrev pub is_taken : Command → Walk → List Text → Bool
is_taken c w words = none (walk_fault (shape c) [] w words) && ends c (fold (walked (rules c) []) w words).held

-- a word is read as the definitions say, or what follows doesn't matter
abbrev pub Reads : Command → Walk → Next → Said → Text → Word → Type 0
Reads c w next said word unfit = (more : List Text) → is_taken c w (word ∷ more) ≡ false
Reads c w next said word as_is =
    Turns c (turn_fault (shape c) [] w word) (walked (rules c) [] w word) (next_after as_is next) (said_and said as_is word)

pub refused_turn : (c : Command) (w : Walk) (word : Text) (more : List Text) → none (turn_fault (shape c) [] w word) ≡ false → is_taken c w (word ∷ more) ≡ false
unfolding walk_fault
refused_turn c w word more refuses =
    and_left _ _ (none_both (turn_fault (shape c) [] w word) (walk_fault (shape c) [] (walked (rules c) [] w word) more)
    ∙ and_left _ _ refuses)

pub or_nothing : (fault : Kinds) → or_else fault [] ≡ fault
or_nothing [] = refl
or_nothing (k ∷ ks) = refl

-- what a said thing becomes by a word
pub plain_said : (said : Said) (word : Text) → said_and said plain word ≡ plain_more said word
plain_said said word = λ i. record { options = append-nil said.options i; plain = said.plain ++ word ∷ [] }

pub given_said : (said : Said) (o : OptionName) (text word : Text) → said_and said (given o text) word ≡ option_more said o text
given_said said o text word = λ i. record { options = said.options ++ (o, text) ∷ []; plain = append-nil said.plain i }

pub same_said : (said : Said) (w : Word) (word : Text) → said_and said w word ≡ record { options = said.options ++ []; plain = said.plain ++ [] } → said_and said w word ≡ said
same_said said w word is = is ∙ (λ i. record { options = append-nil said.options i; plain = append-nil said.plain i })

module _ (c : Command) (rows : List Row) (pending : Pending) (waits : Waiting) (alone : Bool) (said : Said) (word : Text) where
  abbrev pub h : Held
  h = held rows pending

  abbrev pub w : Walk
  w = stand rows pending waits alone said

  -- a turn, by what the word is met as
  pub turn_fault_is : (after : Held) (step : Step) (fault : Kinds) → word_met (rules c) [] alone waits (place said.plain) word h ≡ (after, step)
      → word_fault (shape c) [] alone waits word h ≡ fault → turn_fault (shape c) [] w word ≡ or_else fault (step_fault (shape c) (place said.plain) after step)
  turn_fault_is after step fault met is = λ i. or_else (is i) (step_fault (shape c) (place said.plain) (met i).0 (met i).1)

  pub walked_is : (after : Held) (step : Step) → word_met (rules c) [] alone waits (place said.plain) word h ≡ (after, step)
      → walked (rules c) [] w word ≡ after_step (rules c) word w after step
  unfolding walked
  walked_is after step met = λ i. after_step (rules c) word w (met i).0 (met i).1

  pub met_first : alone ≡ false → word_met (rules c) [] alone waits (place said.plain) word h
      ≡ (if bytes_eq word hyphens then (h, trailing (place said.plain)) else long_or_other (rules c) waits word (long_of word) h)
  met_first is = rw is (each waits) where
    each : (waits : Waiting) → word_met (rules c) [] false waits (place said.plain) word h
        ≡ (if bytes_eq word hyphens then (h, trailing (place said.plain)) else long_or_other (rules c) waits word (long_of word) h)
    each idle = refl
    each (option id) = refl
    each positional = refl

  pub fault_first : alone ≡ false → word_fault (shape c) [] alone waits word h
      ≡ (if bytes_eq word hyphens then [] else flag_word_fault (rules c) false (long_of word) word h)
  fault_first is = rw is (each waits) where
    each : (waits : Waiting) → word_fault (shape c) [] false waits word h
        ≡ (if bytes_eq word hyphens then [] else flag_word_fault (rules c) false (long_of word) word h)
    each idle = refl
    each (option id) = refl
    each positional = refl

-- an option that is given: what is held is settled, and the option used
module _ (c : Command) (rows : List Row) (pending : Pending) (said : Said) (o : OptionName) (text : Text) where
  abbrev pub now : List Row
  now = settled_rows (rules c) pending rows

  abbrev pub given_fault : Kinds
  given_fault = react_fault (rules c) false (built_option o) (given_values o text) (held rows pending)

  abbrev pub given_walk : Walk
  given_walk = stand (used (built_option o) (given_values o text) now) None idle false (option_more said o text)

  abbrev pub given_once : Bool
  given_once = each_once (said.options ++ (o, text) ∷ [])

  pub given_turns : Settles c rows pending said → Turns c given_fault given_walk any (option_more said o text)
  given_turns before = each (each_once said.options) refl (is_among (option_text o) said.options) refl where
    fault_is : none given_fault ≡ (none (settle_fault (rules c) false (held rows pending)) && none (use_fault false (built_option o) (given_values o text) now))
    fault_is = none_both (settle_fault (rules c) false (held rows pending)) (use_fault false (built_option o) (given_values o text) now)

    each : (once : Bool) → each_once said.options ≡ once → (among : Bool) → is_among (option_text o) said.options ≡ among
        → Turns c given_fault given_walk any (option_more said o text)
    each false twice among is = inr (
      fault_is ∙ and_left _ _ (before.once ∙ twice),
      and_left _ _ (once_more said.options (o, text) ∙ and_left _ _ twice),
    )
    each true once true is = inr (
      fault_is ∙ and_right _ _ (use_once o text now said (before.holds once) ∙ ap not is),
      and_left _ _ (once_more said.options (o, text) ∙ and_right _ _ (ap not is)),
    )
    each true once false is =
        let now_once : given_once ≡ true = once_more said.options (o, text) ∙ ap₂ (λ (a b : Bool). a && not b) once is in
        inl (
          fault_is ∙ ap₂ (λ (a b : Bool). a && b) (before.once ∙ once) (use_once o text now said (before.holds once) ∙ ap not is),
          record {
            rows = used (built_option o) (given_values o text) now;
            pending = None;
            waiting = idle;
            is = refl;
            stands = (
              refl,
              record {
                once = sym now_once;
                holds = λ _. holds_option o text now said (before.holds once) is;
                room = before.room;
              },
            );
          },
        )

-- an option that waits for its value
module _ (c : Command) (rows : List Row) (pending : Pending) (said : Said) (o : OptionName) where
  abbrev pub waits_walk : Walk
  waits_walk = stand (settled_rows (rules c) pending rows) (Some (option_text o, [])) (option (option_text o)) false said

  pub waits_turns : Settles c rows pending said → arg_by_id (rules c) (option_text o) ≡ Some (built_option o) → takes_value o ≡ true
      → Turns c (settle_fault (rules c) false (held rows pending)) waits_walk (value_of o) said
  waits_turns before known takes_one = each (each_once said.options) refl where
    each : (once : Bool) → each_once said.options ≡ once → Turns c (settle_fault (rules c) false (held rows pending)) waits_walk (value_of o) said
    each false twice = inr (before.once ∙ twice, and_left _ _ twice)
    each true once = inl (
      before.once ∙ once,
      record {
        rows = settled_rows (rules c) pending rows;
        pending = Some (option_text o, []);
        waiting = option (option_text o);
        is = refl;
        stands = record {
          known = known;
          takes = takes_one;
          waits = refl;
          empty = refl;
          once = once;
          holds = before.holds once;
          room = before.room;
        };
      },
    )

pub values_of_option : (o : OptionName) (text : Text) → takes_value o ≡ true → given_values o text ≡ text ∷ []
values_of_option name.Seed text e = refl
values_of_option name.Steps text e = refl
values_of_option name.Policy text e = refl
values_of_option name.Salt text e = refl
values_of_option name.Until text e = refl
values_of_option name.Probe text e = refl
values_of_option name.Trace text e = absurd (cc)

pub values_of_flag : (o : OptionName) (text : Text) → takes_value o ≡ false → given_values o text ≡ []
values_of_flag name.Seed text e = absurd (cc)
values_of_flag name.Steps text e = absurd (cc)
values_of_flag name.Policy text e = absurd (cc)
values_of_flag name.Salt text e = absurd (cc)
values_of_flag name.Until text e = absurd (cc)
values_of_flag name.Probe text e = absurd (cc)
values_of_flag name.Trace text e = refl

-- a word with two hyphens and a name, where any word may stand
module _ (c : Command) (rows : List Row) (pending : Pending) (waits : Waiting) (said : Said) (word : Text) (name : Text) (text : Option Text)
    (apart : bytes_eq word hyphens ≡ false) (long : long_of word ≡ Some (name, text)) where
  abbrev pub start : Walk
  start = stand rows pending waits false said

  abbrev pub at : Held
  at = held rows pending

  pub long_turns : (o : OptionName) (takes_one : Bool) → arg_by_long (rules c) name ≡ Some (built_option o) → takes_value o ≡ takes_one
      → (after : Held) (goes : Waiting) (fault : Kinds)
      → after_flag (rules c) waits word (if takes_one then option_met (rules c) (built_option o) text at else flag_met (rules c) (built_option o) text at).0
      (if takes_one then option_met (rules c) (built_option o) text at else flag_met (rules c) (built_option o) text at).1 ≡ (after, goes_on goes)
      → (if takes_one then option_fault (rules c) false (built_option o) text at
      else (if is_some text then kind.TooManyValues ∷ [] else react_fault (rules c) false (built_option o) [] at)) ≡ fault
      → (turn_fault (shape c) [] start word ≡ fault) × (walked (rules c) [] start word ≡ record start { held = after; waiting = goes })
  long_turns o takes_one found is after goes fault met refuses =
      let takes_is : takes_values (built_option o) ≡ takes_one = takes o ∙ is in
      let met_is : word_met (rules c) [] false waits (place said.plain) word at ≡ (after, goes_on goes) =
      met_first c rows pending waits false said word refl ∙ rw (apart, long, found, takes_is) met in
      let fault_is : word_fault (shape c) [] false waits word at ≡ fault =
      fault_first c rows pending waits false said word refl ∙ rw (apart, long, found, takes_is) refuses in (
        turn_fault_is c rows pending waits false said word after (goes_on goes) fault met_is fault_is ∙ or_nothing fault,
        walked_is c rows pending waits false said word after (goes_on goes) met_is,
      )
