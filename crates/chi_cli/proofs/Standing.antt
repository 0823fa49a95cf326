-- Where clap's walk stands between two words, by what was said before.
use Rattle.std.proofs.Common.{◌≡◌, ◌⊎◌, ◌∙◌, ◌&&◌, ◌||◌, ℕ, Bool, true, false, codes, List, [], ◌∷◌, ◌++◌, Option, Some, None, if◌then◌else◌, refl, sym, ap, ap₂, subst, inl, inr}
use Rattle.std.specs.Option.{option_map_or}
use Rattle.std.proofs.lemmas.Bool.{and_left, and_right}
use Rattle.clap.specs.Walk.{Held, Row, Rule, Waiting, Walk, idle, option, positional, arg_by_id, arg_by_index, is_pending, settled, settled_rows, to_positional, used, used_by_id, value, pushed}
use Rattle.clap.specs.Kinds.{Kinds}
use Rattle.clap.specs.Faults.{positional_fault, settle_fault, step_fault, stray_fault, use_fault}
use Rattle.chi_cli.specs.declared.command.Command.{Command}
use Rattle.chi_cli.specs.declared.command.Command.TheVariants as command
use Rattle.chi_cli.specs.declared.command.OptionName.{OptionName}
use Rattle.chi_cli.specs.Commands.{Text, option_text, takes_value}
use Rattle.chi_cli.specs.Requests.{each_once}
use Rattle.chi_cli.specs.Splitting.{Said, Next, any, value_of, plain_alone}
use Rattle.chi_cli.specs.Parsing.{has_place}
use Rattle.chi_cli.proofs.Holding.{Holds, holds_args, holds_file, none, use_args, use_file}
use Rattle.chi_cli.proofs.Once.{Given, is_right}
use Rattle.chi_cli.proofs.Rules.{built_args, built_file, built_option, file_first, file_found, rules, shape, TakesMore, sim_takes_more, explain_takes_more, replay_takes_more, judge_takes_more, picks_takes_more}

-- the argument that is being read, with its values so far
abbrev pub Pending : Type 0
Pending = Option (Text × List Text)

abbrev pub held : List Row → Pending → Held
held rows pending = record { rows = rows; pending = pending; skip = 0 }

-- the number of the plain word that is next, where the second stands for all after the first
abbrev pub place : List Text → ℕ
place [] = 1
place (word ∷ words) = 2

abbrev pub is_alone : Next → Bool
is_alone plain_alone = true
is_alone _ = false

abbrev pub stand : List Row → Pending → Waiting → Bool → Said → Walk
stand rows pending waiting alone said = record {
  held = held rows pending;
  waiting = waiting;
  position = place said.plain;
  is_trailing = alone;
  stopped = None;
}

-- no option waits for its value
abbrev pub is_idle : Waiting → Bool
is_idle (option id) = false
is_idle _ = true

-- what is held is what was said before, where this was right
pub record Settles (c : Command) (rows : List Row) (pending : Pending) (said : Said) : Type 0 where
  pub once : none (settle_fault (rules c) false (held rows pending)) ≡ each_once said.options
  pub holds : each_once said.options ≡ true → Holds (settled_rows (rules c) pending rows) said
  pub room : has_place c said.plain ≡ true

-- an option waits for its value
pub record Waits (c : Command) (rows : List Row) (pending : Pending) (waiting : Waiting) (o : OptionName) (said : Said) : Type 0 where
  pub known : arg_by_id (rules c) (option_text o) ≡ Some (built_option o)
  pub takes : takes_value o ≡ true
  pub waits : waiting ≡ option (option_text o)
  pub empty : pending ≡ Some (option_text o, [])
  pub once : each_once said.options ≡ true
  pub holds : Holds rows said
  pub room : has_place c said.plain ≡ true

abbrev pub Stands : Command → List Row → Pending → Waiting → Next → Said → Type 0
Stands c rows pending waiting any said = (is_idle waiting ≡ true) × Settles c rows pending said
Stands c rows pending waiting (value_of o) said = Waits c rows pending waiting o said
Stands c rows pending waiting plain_alone said = Settles c rows pending said

-- the walk came to stand so
pub record Comes (c : Command) (after : Walk) (next : Next) (said : Said) : Type 0 where
  pub rows : List Row
  pub pending : Pending
  pub waiting : Waiting
  pub is : after ≡ stand rows pending waiting (is_alone next) said
  pub stands : Stands c rows pending waiting next said

-- it did so without a fault; or with one, and what was said is wrong
abbrev pub Turns : Command → Kinds → Walk → Next → Said → Type 0
Turns c fault after next said = (none fault ≡ true) × Comes c after next said ⊎ (none fault ≡ false) × (is_right c said ≡ false)

-- the same of a plain word, before or after `--`
pub record Puts (c : Command) (after : Walk) (alone : Bool) (said : Said) : Type 0 where
  pub rows : List Row
  pub pending : Pending
  pub waiting : Waiting
  pub is : after ≡ stand rows pending waiting alone said
  pub idle : is_idle waiting ≡ true
  pub settles : Settles c rows pending said

abbrev pub TakesPlain : Command → Kinds → Walk → Bool → Said → Type 0
TakesPlain c fault after alone said = (none fault ≡ true) × Puts c after alone said ⊎ (none fault ≡ false) × (is_right c said ≡ false)

pub never : (b : Bool) (fault : Kinds) → (if b && false then [] else fault) ≡ fault
never true fault = refl
never false fault = refl

never_held : (b : Bool) (a h : Held) → (if b && false then a else h) ≡ h
never_held true a h = refl
never_held false a h = refl

or_not : (b : Bool) → (b || false) ≡ b
or_not true = refl
or_not false = refl

one_place : (c : Command) (word : Text) → has_place c (word ∷ []) ≡ true
one_place command.Sim word = refl
one_place command.Explain word = refl
one_place command.Xper word = refl
one_place command.Check word = refl
one_place command.Code word = refl
one_place command.Fmt word = refl
one_place command.Load word = refl
one_place command.Replay word = refl
one_place command.Judge word = refl
one_place command.Picks word = refl
one_place command.TraceUp word = refl

-- the fault of settling, and then whatever it comes to
settling : (c : Command) (fault : Kinds) (after : Walk) (alone : Bool) (said : Said) (once : Bool) → none fault ≡ once
    → (once ≡ true → Puts c after alone said) → (once ≡ false → is_right c said ≡ false) → TakesPlain c fault after alone said
settling c fault after alone said true is puts wrong = inl (is, puts refl)
settling c fault after alone said false is puts wrong = inr (is, wrong refl)

module _ (c : Command) (rows : List Row) (pending : Pending) (waiting : Waiting) (alone : Bool) (options : List Given) (word : Text) where
  abbrev before : List Text → Said
  before plain = record { options = options; plain = plain }

  abbrev put_fault : List Text → Kinds
  put_fault plain = step_fault (shape c) (place plain) (held rows pending) value

  abbrev put : List Text → Walk
  put plain = to_positional (rules c) (arg_by_index (rules c) (place plain)) word (stand rows pending waiting alone (before plain)) (held rows pending)

  abbrev settled_now : List Row
  settled_now = settled_rows (rules c) pending rows

  -- the first plain word
  first_fault : put_fault [] ≡ settle_fault (rules c) false (held rows pending)
  first_fault = ap (λ (a : Option Rule). option_map_or (λ r. positional_fault (rules c) false r (held rows pending)) a (stray_fault (shape c))) (file_first c)
      ∙ never (is_pending built_file pending) (settle_fault (rules c) false (held rows pending))

  first_put : put [] ≡ stand settled_now (Some (codes "file", word ∷ [])) idle alone (before (word ∷ []))
  first_put = ap (λ (a : Option Rule). to_positional (rules c) a word (stand rows pending waiting alone (before [])) (held rows pending)) (file_first c)
      ∙ ap₂ (λ (h : Held) (b : Bool). record { held = pushed (codes "file") word h; waiting = idle; position = 2; is_trailing = b; stopped = None })
      (never_held (is_pending built_file pending) (held rows pending) (settled (rules c) (held rows pending))) (or_not alone)

  -- what was held is settled where no option stood twice
  first_settles : Settles c rows pending (before []) → each_once options ≡ true → Settles c settled_now (Some (codes "file", word ∷ [])) (before (word ∷ []))
  first_settles before_is once =
      let holds : Holds settled_now (before []) = before_is.holds once in
      let by_id : (a : Option Rule) → a ≡ Some built_file → none (option_map_or (λ r. use_fault false r (word ∷ []) settled_now) a []) ≡ true
      = λ a is. rw is (use_file word settled_now holds.file) in
      let rows_are : used built_file (word ∷ []) settled_now ≡ used_by_id (arg_by_id (rules c) (codes "file")) (word ∷ []) settled_now
      = ap (λ (a : Option Rule). used_by_id a (word ∷ []) settled_now) (sym (file_found c)) in
      record {
        once = by_id (arg_by_id (rules c) (codes "file")) (file_found c) ∙ sym once;
        holds = λ _. subst (λ (rs : List Row). Holds rs (before (word ∷ []))) rows_are (holds_file word settled_now options holds);
        room = one_place c word;
      }

  pub plain_first : Settles c rows pending (before []) → TakesPlain c (put_fault []) (put []) alone (before (word ∷ []))
  plain_first before_is = settling c (put_fault []) (put []) alone (before (word ∷ [])) (each_once options) (ap none first_fault ∙ before_is.once)
      (λ once. record {
        rows = settled_now;
        pending = Some (codes "file", word ∷ []);
        waiting = idle;
        is = first_put;
        idle = refl;
        settles = first_settles before_is once;
      })
      (λ twice. and_left (each_once options) _ twice)

-- a plain word after the first, of a command that takes more
module _ (c : Command) (more : TakesMore c) (rows : List Row) (pending : Pending) (waiting : Waiting) (alone : Bool) (options : List Given) (file : Text) (args : List Text)
    (word : Text) where
  abbrev said_before : Said
  said_before = record { options = options; plain = file ∷ args }

  abbrev said_now : Said
  said_now = record { options = options; plain = file ∷ args ++ word ∷ [] }

  abbrev rows_now : List Row
  rows_now = settled_rows (rules c) pending rows

  abbrev next_fault : Kinds
  next_fault = step_fault (shape c) 2 (held rows pending) value

  abbrev next_put : Walk
  next_put = to_positional (rules c) (arg_by_index (rules c) 2) word (stand rows pending waiting alone said_before) (held rows pending)

  next_fault_is : next_fault ≡ settle_fault (rules c) false (held rows pending)
  next_fault_is = ap (λ (a : Option Rule). option_map_or (λ r. positional_fault (rules c) false r (held rows pending)) a (stray_fault (shape c))) more.second
      ∙ never (is_pending built_args pending) (settle_fault (rules c) false (held rows pending))

  next_is : next_put ≡ stand rows_now (Some (codes "args", word ∷ [])) positional alone said_now
  next_is = ap (λ (a : Option Rule). to_positional (rules c) a word (stand rows pending waiting alone said_before) (held rows pending)) more.second
      ∙ ap₂ (λ (h : Held) (b : Bool). record { held = pushed (codes "args") word h; waiting = positional; position = 2; is_trailing = b; stopped = None })
      (never_held (is_pending built_args pending) (held rows pending) (settled (rules c) (held rows pending))) (or_not alone)

  next_settles : Settles c rows pending said_before → each_once options ≡ true → Settles c rows_now (Some (codes "args", word ∷ [])) said_now
  next_settles before_is once =
      let by_id : (a : Option Rule) → a ≡ Some built_args → none (option_map_or (λ r. use_fault false r (word ∷ []) rows_now) a []) ≡ true
      = λ a is. rw is (use_args word rows_now) in
      let rows_are : used built_args (word ∷ []) rows_now ≡ used_by_id (arg_by_id (rules c) (codes "args")) (word ∷ []) rows_now
      = ap (λ (a : Option Rule). used_by_id a (word ∷ []) rows_now) (sym more.found) in
      record {
        once = by_id (arg_by_id (rules c) (codes "args")) more.found ∙ sym once;
        holds = λ _. subst (λ (rs : List Row). Holds rs said_now) rows_are (holds_args word rows_now options file args (before_is.holds once));
        room = more.room said_now.plain;
      }

  plain_next : Settles c rows pending said_before → TakesPlain c next_fault next_put alone said_now
  plain_next before_is = settling c next_fault next_put alone said_now (each_once options) (ap none next_fault_is ∙ before_is.once)
      (λ once. record {
        rows = rows_now;
        pending = Some (codes "args", word ∷ []);
        waiting = positional;
        is = next_is;
        idle = refl;
        settles = next_settles before_is once;
      })
      (λ twice. and_left (each_once options) _ twice)

-- and another command doesn't
no_place : (c : Command) (file word : Text) (args : List Text) → has_place c (file ∷ args ++ word ∷ []) ≡ has_place c (file ∷ word ∷ [])
no_place command.Sim file word args = refl
no_place command.Explain file word args = refl
no_place command.Replay file word args = refl
no_place command.Judge file word args = refl
no_place command.Picks file word args = refl
no_place command.Xper file word [] = refl
no_place command.Xper file word (arg ∷ args) = refl
no_place command.Check file word [] = refl
no_place command.Check file word (arg ∷ args) = refl
no_place command.Code file word [] = refl
no_place command.Code file word (arg ∷ args) = refl
no_place command.Fmt file word [] = refl
no_place command.Fmt file word (arg ∷ args) = refl
no_place command.Load file word [] = refl
no_place command.Load file word (arg ∷ args) = refl
no_place command.TraceUp file word [] = refl
no_place command.TraceUp file word (arg ∷ args) = refl

pub takes_plain : (c : Command) (rows : List Row) (pending : Pending) (waiting : Waiting) (alone : Bool) (options : List Given) (plain : List Text) (word : Text)
    → Settles c rows pending (record { options = options; plain = plain })
    → TakesPlain c (step_fault (shape c) (place plain) (held rows pending) value)
    (to_positional (rules c) (arg_by_index (rules c) (place plain)) word (stand rows pending waiting alone (record { options = options; plain = plain })) (held rows pending))
    alone (record { options = options; plain = plain ++ word ∷ [] })
takes_plain c rows pending waiting alone options [] word before_is = plain_first c rows pending waiting alone options word before_is
takes_plain command.Sim rows pending waiting alone options (file ∷ args) word before_is = plain_next command.Sim sim_takes_more rows pending waiting alone options file args word before_is
takes_plain command.Explain rows pending waiting alone options (file ∷ args) word before_is = plain_next command.Explain explain_takes_more rows pending waiting alone options file args word before_is
takes_plain command.Replay rows pending waiting alone options (file ∷ args) word before_is = plain_next command.Replay replay_takes_more rows pending waiting alone options file args word before_is
takes_plain command.Judge rows pending waiting alone options (file ∷ args) word before_is = plain_next command.Judge judge_takes_more rows pending waiting alone options file args word before_is
takes_plain command.Picks rows pending waiting alone options (file ∷ args) word before_is = plain_next command.Picks picks_takes_more rows pending waiting alone options file args word before_is
takes_plain command.Xper rows pending waiting alone options (file ∷ args) word before_is = inr (refl, and_right (each_once options) _ (no_place command.Xper file word args))
takes_plain command.Check rows pending waiting alone options (file ∷ args) word before_is = inr (refl, and_right (each_once options) _ (no_place command.Check file word args))
takes_plain command.Code rows pending waiting alone options (file ∷ args) word before_is = inr (refl, and_right (each_once options) _ (no_place command.Code file word args))
takes_plain command.Fmt rows pending waiting alone options (file ∷ args) word before_is = inr (refl, and_right (each_once options) _ (no_place command.Fmt file word args))
takes_plain command.Load rows pending waiting alone options (file ∷ args) word before_is = inr (refl, and_right (each_once options) _ (no_place command.Load file word args))
takes_plain command.TraceUp rows pending waiting alone options (file ∷ args) word before_is = inr (refl, and_right (each_once options) _ (no_place command.TraceUp file word args))
