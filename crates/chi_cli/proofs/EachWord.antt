-- Each word is read by clap as the definitions say, wherever the walk stands.
use Rattle.std.proofs.Common.{◌≡◌, ◌∙◌, ℕ, Bool, true, false, List, [], ◌∷◌, Some, None, refl, ap, subst, inl, inr, IsUtf8, chars, arith}
use Rattle.std.specs.Prelude.{bytes_eq, encode_utf8_all}
use Rattle.std.proofs.lemmas.Bool.{and_left}
use Rattle.std.proofs.lemmas.Str.{IsUtf8-drop, IsCharBoundary-after_ascii, encodes-chars}
use Rattle.clap.specs.Lexer.{long_of, short_of}
use Rattle.clap.specs.Walk.{Held, Row, Waiting, Walk, idle, option, positional, trailing, value as to_plain, arg_by_index, plain_word, to_positional, word_met}
use Rattle.clap.specs.Kinds.{Kinds}
use Rattle.clap.specs.Faults.{bundle_fault, flags_fault, step_fault, word_fault}
use Rattle.chi_cli.specs.declared.command.Command.{Command}
use Rattle.chi_cli.specs.Commands.{Text}
use Rattle.chi_cli.specs.Splitting.{Said, Next, any, plain_alone, Word, plain, end, any_word, word_of}
use Rattle.chi_cli.proofs.Forms.{hyphens}
use Rattle.chi_cli.proofs.Holding.{none, none_both, plain_more}
use Rattle.chi_cli.proofs.Rules.{rules, shape, short_none}
use Rattle.chi_cli.proofs.Standing.{Pending, Settles, TakesPlain, Turns, held, is_idle, place, stand, takes_plain}
use Rattle.chi_cli.proofs.Turning.{Reads, fault_first, is_taken, met_first, plain_said, refused_turn, same_said, turn_fault_is, walked_is}

-- what the word is, and that it is read so
pub record IsRead (c : Command) (w : Walk) (standing : Next) (said : Said) (text : Text) : Type 0 where
  pub word : Word
  pub is : word_of c standing text ≡ word
  pub reads : Reads c w standing said text word

pub turns_as : (c : Command) (standing : Next) (fault old_fault : Kinds) (after old_after : Walk) (said old_said : Said)
    → fault ≡ old_fault → after ≡ old_after → said ≡ old_said → Turns c old_fault old_after standing old_said → Turns c fault after standing said
turns_as c standing fault old_fault after old_after said old_said a b s turns = rw (a, b, s) turns

-- a word that is refused for what it is
pub refused_word : (c : Command) (rows : List Row) (pending : Pending) (waits : Waiting) (alone : Bool) (said : Said) (text : Text) (more : List Text)
    → none (word_fault (shape c) [] alone waits text (held rows pending)) ≡ false → is_taken c (stand rows pending waits alone said) (text ∷ more) ≡ false
refused_word c rows pending waits alone said text more refuses =
    let met = word_met (rules c) [] alone waits (place said.plain) text (held rows pending) in
    let fault : Kinds = word_fault (shape c) [] alone waits text (held rows pending) in
    refused_turn c (stand rows pending waits alone said) text more
    (none_both fault (step_fault (shape c) (place said.plain) met.0 met.1) ∙ and_left _ _ refuses)

-- ---- a hyphen and another character

no_chars : (cs : List ℕ) (x : ℕ) (xs : Text) → cs ≡ [] → encode_utf8_all cs ≡ x ∷ xs → ⊥
no_chars [] x xs e same = absurd (cc)
no_chars (c ∷ cs) x xs e same = absurd (cc)

pub short_fault_is : (c : Command) (x : ℕ) (xs : Text) (h : Held) → h.skip ≡ 0 → IsUtf8 (45 ∷ x ∷ xs) → none (bundle_fault (rules c) false (x ∷ xs) h) ≡ false
unfolding flags_fault
short_fault_is c x xs h no_skip utf8 = each (chars (x ∷ xs)) refl where
  rest_is : IsUtf8 (x ∷ xs)
  rest_is = IsUtf8-drop (45 ∷ x ∷ xs) 1 utf8 (IsCharBoundary-after_ascii (45 ∷ x ∷ xs) 0 utf8 (omega arith) (omega arith))

  each : (cs : List ℕ) → chars (x ∷ xs) ≡ cs → none (bundle_fault (rules c) false (x ∷ xs) h) ≡ false
  each [] is = absurd (no_chars (chars (x ∷ xs)) x xs is (encodes-chars (x ∷ xs) rest_is))
  each (y ∷ ys) is = rw (no_skip, is, short_none c y) refl

module _ (c : Command) (rows : List Row) (pending : Pending) (waits : Waiting) (said : Said) (text : Text) (more : List Text)
    (x : ℕ) (xs : Text) (is : text ≡ 45 ∷ x ∷ xs) (apart : bytes_eq text hyphens ≡ false) (long : long_of text ≡ None) (short : short_of text ≡ Some (x ∷ xs)) where
  pub short_refused : IsUtf8 text → is_taken c (stand rows pending waits false said) (text ∷ more) ≡ false
  short_refused utf8 =
      let bundle : none (bundle_fault (rules c) false (x ∷ xs) (held rows pending)) ≡ false =
      short_fault_is c x xs (held rows pending) refl (subst IsUtf8 is utf8) in
      let fault : word_fault (shape c) [] false waits text (held rows pending) ≡ bundle_fault (rules c) false (x ∷ xs) (held rows pending) =
      fault_first c rows pending waits false said text refl ∙ rw (apart, long, short) refl in
      refused_word c rows pending waits false said text more (ap none fault ∙ bundle)

-- ---- any word may stand

module _ (c : Command) (rows : List Row) (pending : Pending) (waits : Waiting) (said : Said) (text : Text) where
  abbrev from : Walk
  from = stand rows pending waits false said

  idle_plain : (waits : Waiting) → is_idle waits ≡ true → plain_word (rules c) waits text (held rows pending) ≡ (held rows pending, to_plain)
  idle_plain idle e = refl
  idle_plain positional e = refl
  idle_plain (option id) e = absurd (cc)

  abbrev put_fault : Kinds
  put_fault = step_fault (shape c) (place said.plain) (held rows pending) to_plain

  abbrev put_walk : Bool → Walk
  put_walk alone = to_positional (rules c) (arg_by_index (rules c) (place said.plain)) text (stand rows pending waits alone said) (held rows pending)

  plain_turns : TakesPlain c put_fault (put_walk false) false (plain_more said text)
      → Turns c put_fault (put_walk false) any (plain_more said text)
  plain_turns (inl both) = inl (
    both.0,
    record {
      rows = (both.1).rows;
      pending = (both.1).pending;
      waiting = (both.1).waiting;
      is = (both.1).is;
      stands = ((both.1).idle, (both.1).settles);
    },
  )
  plain_turns (inr wrong) = inr wrong

  alone_turns : TakesPlain c put_fault (put_walk true) true (plain_more said text)
      → Turns c put_fault (put_walk true) plain_alone (plain_more said text)
  alone_turns (inl both) = inl (
    both.0,
    record {
      rows = (both.1).rows;
      pending = (both.1).pending;
      waiting = (both.1).waiting;
      is = (both.1).is;
      stands = (both.1).settles;
    },
  )
  alone_turns (inr wrong) = inr wrong

  pub any_plain : is_idle waits ≡ true → Settles c rows pending said → bytes_eq text hyphens ≡ false → long_of text ≡ None → short_of text ≡ None
      → any_word c text ≡ plain → IsRead c from any said text
  any_plain rests settles apart long short is =
      let met : word_met (rules c) [] false waits (place said.plain) text (held rows pending) ≡ (held rows pending, to_plain) =
      met_first c rows pending waits false said text refl ∙ rw (apart, long, short) (idle_plain waits rests) in
      let fault : word_fault (shape c) [] false waits text (held rows pending) ≡ [] =
      fault_first c rows pending waits false said text refl ∙ rw (apart, long, short) refl in
      record {
        word = plain;
        is = is;
        reads = turns_as c any _ put_fault _ (put_walk false) _ _
            (turn_fault_is c rows pending waits false said text (held rows pending) to_plain [] met fault)
            (walked_is c rows pending waits false said text (held rows pending) to_plain met)
            (plain_said said text)
            (plain_turns (takes_plain c rows pending waits false said.options said.plain text settles));
      }

  -- after `--`
  pub alone_plain : Settles c rows pending said → IsRead c (stand rows pending waits true said) plain_alone said text
  alone_plain settles = record {
    word = plain;
    is = refl;
    reads = turns_as c plain_alone _ put_fault _ (put_walk true) _ _
        (turn_fault_is c rows pending waits true said text (held rows pending) to_plain [] refl refl)
        (walked_is c rows pending waits true said text (held rows pending) to_plain refl)
        (plain_said said text)
        (alone_turns (takes_plain c rows pending waits true said.options said.plain text settles));
  }

-- `--`
pub any_end : (c : Command) (rows : List Row) (pending : Pending) (waits : Waiting) (said : Said) → Settles c rows pending said
    → IsRead c (stand rows pending waits false said) any said hyphens
any_end c rows pending waits said settles =
    let met : word_met (rules c) [] false waits (place said.plain) hyphens (held rows pending) ≡ (held rows pending, trailing (place said.plain)) =
    met_first c rows pending waits false said hyphens refl in
    let fault : word_fault (shape c) [] false waits hyphens (held rows pending) ≡ [] = fault_first c rows pending waits false said hyphens refl in
    record {
      word = end;
      is = refl;
      reads = turns_as c plain_alone _ [] _ (stand rows pending waits true said) _ said
          (turn_fault_is c rows pending waits false said hyphens (held rows pending) (trailing (place said.plain)) [] met fault)
          (walked_is c rows pending waits false said hyphens (held rows pending) (trailing (place said.plain)) met)
          (same_said said end hyphens refl)
          (inl (refl, record { rows = rows; pending = pending; waiting = waits; is = refl; stands = settles }));
    }
