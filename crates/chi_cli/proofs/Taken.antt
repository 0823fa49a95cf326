-- Clap takes the words that the definitions split and find fit, and gives what they say.
use Rattle.std.proofs.Common.{◌≡◌, ◌∙◌, ◌&&◌, Bool, true, false, List, [], ◌∷◌, Option, Some, None, if◌then◌else◌, refl, sym, ap, ap₂, subst, append-nil, inl, inr, IsUtf8}
use Rattle.std.specs.Prelude.{fold}
use Rattle.std.specs.Option.{is_some}
use Rattle.std.specs.List.{AllByRecursion}
use Rattle.std.proofs.lemmas.Bool.{and_left}
use Rattle.clap.specs.Walk.{Held, Row, Waiting, Walk, idle, option, finished, nothing_held, settled, walk, walked}
use Rattle.clap.specs.Simple.{built, entered, matches_of}
use Rattle.clap.specs.Kinds.{Kinds, or_else}
use Rattle.clap.specs.Faults.{check_fault, defaults_fault, entered_fault, fault_of, level_fault, settle_fault, turn_fault, walk_fault}
use Rattle.chi_cli.specs.declared.command.Command.{Command}
use Rattle.chi_cli.specs.declared.command.Command.TheVariants as command
use Rattle.chi_cli.specs.declared.command.OptionName.{OptionName}
use Rattle.chi_cli.specs.Commands.{Text, option_text}
use Rattle.chi_cli.specs.Splitting.{Said, Next, any, value_of, plain_alone, Word, plain, given, waiting, end, unfit, is_fit, next_after, split, split_from, word_of}
use Rattle.chi_cli.specs.Saying.{joined, nothing, said_after, said_and}
use Rattle.chi_cli.specs.Parsing.{Gives, app_for, fits, has_place, if_fits, taken}
use Rattle.chi_cli.proofs.Joining.{joined_nothing, misstep, step}
use Rattle.chi_cli.proofs.Ending.{ends_fit, ends_give}
use Rattle.chi_cli.proofs.Forms.{Form, form, plain_form, end_form, long_form, short_form}
use Rattle.chi_cli.proofs.Holding.{holds_nothing, none, none_both}
use Rattle.chi_cli.proofs.Once.{is_right, wrong_after}
use Rattle.chi_cli.proofs.Options.{any_long, end_lacks, long_refused, unsettled, value_read}
use Rattle.chi_cli.proofs.EachWord.{IsRead, alone_plain, any_end, any_plain, short_refused}
use Rattle.chi_cli.proofs.Rules.{rules, shape}
use Rattle.chi_cli.proofs.Standing.{Comes, Pending, Settles, Stands, Turns, Waits, held, is_alone, is_idle, stand}
use Rattle.chi_cli.proofs.Turning.{Reads, ends, is_taken, refused_turn}

-- an option that waits, with its word's forms
waits_read : (c : Command) (rows : List Row) (pending : Pending) (waits : Waiting) (said : Said) (o : OptionName) → Waits c rows pending waits o said
    → (text : Text) → IsUtf8 text → Form text → IsRead c (stand rows pending waits false said) (value_of o) said text
waits_read c rows pending waits said o at text utf8 known_form =
    subst (λ (wt : Waiting). IsRead c (stand rows pending wt false said) (value_of o) said text) (sym at.waits)
    (subst (λ (p : Pending). IsRead c (stand rows p (option (option_text o)) false said) (value_of o) said text) (sym at.empty) (each text utf8 known_form)) where
      start : Walk
      start = stand rows (Some (option_text o, [])) (option (option_text o)) false said

      each : (text : Text) → IsUtf8 text → Form text → IsRead c (stand rows (Some (option_text o, [])) (option (option_text o)) false said) (value_of o) said text
      each text utf8 (plain_form apart long short is plain_is) = value_read c rows said o at.known at.takes at.once at.holds at.room text apart long short plain_is
      each text utf8 (end_form is) =
          subst (λ (t : Text). IsRead c (stand rows (Some (option_text o, [])) (option (option_text o)) false said) (value_of o) said t) (sym is)
          (record { word = unfit; is = refl; reads = end_lacks c rows said o at.known at.takes })
      each text utf8 (long_form name value apart long is plain_is) = record {
        word = unfit;
        is = rw plain_is refl;
        reads = λ more. long_refused c rows said o at.known at.takes text name value more apart long;
      }
      each text utf8 (short_form x xs is apart long short unfit_is plain_is) = record {
        word = unfit;
        is = rw plain_is refl;
        reads = λ more. short_refused c rows (Some (option_text o, [])) (option (option_text o)) said text more x xs is apart long short utf8;
      }

any_read : (c : Command) (rows : List Row) (pending : Pending) (waits : Waiting) (said : Said) → is_idle waits ≡ true → Settles c rows pending said
    → (text : Text) → IsUtf8 text → Form text → IsRead c (stand rows pending waits false said) any said text
any_read c rows pending waits said rests settles text utf8 (plain_form apart long short is plain_is) =
    any_plain c rows pending waits said text rests settles apart long short (is c)
any_read c rows pending waits said rests settles text utf8 (end_form is) =
    subst (λ (t : Text). IsRead c (stand rows pending waits false said) any said t) (sym is) (any_end c rows pending waits said settles)
any_read c rows pending waits said rests settles text utf8 (long_form name value apart long is plain_is) =
    any_long c rows pending waits said text name value apart long (is c) settles
any_read c rows pending waits said rests settles text utf8 (short_form x xs is apart long short unfit_is plain_is) = record {
  word = unfit;
  is = unfit_is c;
  reads = λ more. short_refused c rows pending waits said text more x xs is apart long short utf8;
}

reads_on : (c : Command) (rows : List Row) (pending : Pending) (waits : Waiting) (standing : Next) (said : Said) → Stands c rows pending waits standing said
    → (text : Text) → IsUtf8 text → IsRead c (stand rows pending waits (is_alone standing) said) standing said text
reads_on c rows pending waits any said stands text utf8 = any_read c rows pending waits said stands.0 stands.1 text utf8 (form text)
reads_on c rows pending waits (value_of o) said stands text utf8 = waits_read c rows pending waits said o stands text utf8 (form text)
reads_on c rows pending waits plain_alone said stands text utf8 = alone_plain c rows pending waits said text stands

-- ---- all words

-- taken or not, as the definitions say, with the rows that give what was said
abbrev Agrees : Command → Bool → List Row → Option Said → Type 0
Agrees c ok rows None = ok ≡ false
Agrees c ok rows (Some said) = (ok ≡ fits c said) × (fits c said ≡ true → Gives c rows said)

-- the rows after the words
abbrev rows_from : Command → Walk → List Text → List Row
rows_from c w words = finished (rules c) (fold (walked (rules c) []) w words).held

-- what was said is wrong, whatever comes
agrees_wrong : (c : Command) (ok : Bool) (rows : List Row) (said : Said) (later : Option Said) → ok ≡ false → is_right c said ≡ false → Agrees c ok rows (joined said later)
agrees_wrong c ok rows said None refuses wrong = refuses
agrees_wrong c ok rows said (Some more) refuses wrong =
    let unfit_all : fits c (said_after said more) ≡ false = wrong_after c said more wrong in
    (refuses ∙ sym unfit_all, λ fit. absurd (cc))

-- where no word is left
agrees_end : (c : Command) (rows : List Row) (pending : Pending) (waits : Waiting) (standing : Next) (said : Said) → Stands c rows pending waits standing said
    → Agrees c (is_taken c (stand rows pending waits (is_alone standing) said) []) (rows_from c (stand rows pending waits (is_alone standing) said) [])
    (joined said (split_from c [] standing))
unfolding walk_fault
agrees_end c rows pending waits any said stands =
    subst (λ (s : Said). Agrees c (ends c (held rows pending)) (finished (rules c) (held rows pending)) (Some s))
    (λ i. record { options = sym (append-nil said.options) i; plain = sym (append-nil said.plain) i })
    (ends_fit c rows pending said stands.1, ends_give c rows pending said stands.1)
agrees_end c rows pending waits plain_alone said stands =
    subst (λ (s : Said). Agrees c (ends c (held rows pending)) (finished (rules c) (held rows pending)) (Some s))
    (λ i. record { options = sym (append-nil said.options) i; plain = sym (append-nil said.plain) i })
    (ends_fit c rows pending said stands, ends_give c rows pending said stands)
agrees_end c rows pending waits (value_of o) said stands =
    ap (λ (p : Pending). ends c (held rows p)) stands.empty
    ∙ none_both (settle_fault (rules c) false (held rows (Some (option_text o, [])))) _ ∙ and_left _ _ (unsettled c rows said o stands.known stands.takes)

taken_more : (c : Command) (w : Walk) (text : Text) (words : List Text) (fault_free : none (turn_fault (shape c) [] w text) ≡ true)
    → is_taken c w (text ∷ words) ≡ is_taken c (walked (rules c) [] w text) words
unfolding walk_fault
taken_more c w text words free =
    ap (λ (b : Bool). b && ends c (fold (walked (rules c) []) (walked (rules c) [] w text) words).held)
    (none_both (turn_fault (shape c) [] w text) (walk_fault (shape c) [] (walked (rules c) [] w text) words)
    ∙ ap (λ (b : Bool). b && none (walk_fault (shape c) [] (walked (rules c) [] w text) words)) free)

agrees_as : (c : Command) (ok old_ok : Bool) (rows old_rows : List Row) (all old_all : Option Said) → ok ≡ old_ok → rows ≡ old_rows → all ≡ old_all
    → Agrees c old_ok old_rows old_all → Agrees c ok rows all
agrees_as c ok old_ok rows old_rows all old_all a b e agreed = rw (a, b, e) agreed

-- the words after this one are read as the definitions say
abbrev AgreesOn : Command → List Text → Type 0
AgreesOn c words = (rows : List Row) (pending : Pending) (waits : Waiting) (standing : Next) (said : Said) → Stands c rows pending waits standing said
    → Agrees c (is_taken c (stand rows pending waits (is_alone standing) said) words) (rows_from c (stand rows pending waits (is_alone standing) said) words)
    (joined said (split_from c words standing))

module _ (c : Command) (w : Walk) (standing : Next) (said : Said) (text : Text) (words : List Text) (later : AgreesOn c words) where
  abbrev All : Type 0
  All = Agrees c (is_taken c w (text ∷ words)) (rows_from c w (text ∷ words)) (joined said (split_from c (text ∷ words) standing))

  unfit_word : word_of c standing text ≡ unfit → ((more : List Text) → is_taken c w (text ∷ more) ≡ false) → All
  unfit_word is refuses = agrees_as c _ false _ (rows_from c w (text ∷ words)) _ None (refuses words) refl
      (ap (joined said) (misstep c text words standing (ap is_fit is))) refl

  fit_word : (word : Word) → word_of c standing text ≡ word → is_fit word ≡ true
      → Turns c (turn_fault (shape c) [] w text) (walked (rules c) [] w text) (next_after word standing) (said_and said word text) → All
  fit_word word is fit turns = each turns where
    split_is : joined (said_and said word text) (split_from c words (next_after word standing)) ≡ joined said (split_from c (text ∷ words) standing)
    split_is = step c text words standing (next_after word standing) said (said_and said word text) (ap is_fit is ∙ fit)
        (ap (λ (x : Word). next_after x standing) (sym is)) (ap (λ (x : Word). said_and said x text) (sym is))

    each : Turns c (turn_fault (shape c) [] w text) (walked (rules c) [] w text) (next_after word standing) (said_and said word text) → All
    each (inl both) =
        let comes : Comes c (walked (rules c) [] w text) (next_after word standing) (said_and said word text) = both.1 in
        agrees_as c _ _ _ _ _ _
        (taken_more c w text words both.0 ∙ ap (λ (at : Walk). is_taken c at words) comes.is)
        (ap (λ (at : Walk). rows_from c at words) comes.is)
        (sym split_is)
        (later comes.rows comes.pending comes.waiting (next_after word standing) (said_and said word text) comes.stands)
    each (inr both) = subst (λ (all : Option Said). Agrees c (is_taken c w (text ∷ words)) (rows_from c w (text ∷ words)) all) split_is
        (agrees_wrong c (is_taken c w (text ∷ words)) (rows_from c w (text ∷ words)) (said_and said word text) (split_from c words (next_after word standing))
        (refused_turn c w text words both.0) both.1)

  one_word : (word : Word) → word_of c standing text ≡ word → Reads c w standing said text word → All
  one_word unfit is reads = unfit_word is reads
  one_word plain is reads = fit_word plain is refl reads
  one_word (given o value) is reads = fit_word (given o value) is refl reads
  one_word (waiting o) is reads = fit_word (waiting o) is refl reads
  one_word end is reads = fit_word end is refl reads

agrees : (words : List Text) → AllByRecursion IsUtf8 words → (c : Command) → AgreesOn c words
agrees [] utf8 c rows pending waits standing said stands = agrees_end c rows pending waits standing said stands
agrees (text ∷ words) utf8 c rows pending waits standing said stands =
    let read : IsRead c (stand rows pending waits (is_alone standing) said) standing said text = reads_on c rows pending waits standing said stands text utf8.0 in
    one_word c (stand rows pending waits (is_alone standing) said) standing said text words (agrees words utf8.1 c) read.word read.is read.reads

-- ---- the parse

no_subcommand : (c : Command) (stop : Option (Text × List Text)) → (entered (built (app_for c)) stop ≡ None) × (entered_fault (built (app_for c)) stop ≡ [])
no_subcommand c None = (refl, refl)
no_subcommand c (Some p) = (refl, refl)

starts : (c : Command) → Stands c [] None idle any nothing
starts c = (refl, record { once = refl; holds = λ _. holds_nothing; room = has_room c }) where
  has_room : (c : Command) → has_place c [] ≡ true
  has_room command.Sim = refl
  has_room command.Replay = refl
  has_room command.Judge = refl
  has_room command.Picks = refl
  has_room command.Explain = refl
  has_room command.Xper = refl
  has_room command.Check = refl
  has_room command.Code = refl
  has_room command.Fmt = refl
  has_room command.Load = refl
  has_room command.TraceUp = refl

abbrev first_walk : Walk
first_walk = stand [] None idle false nothing

fault_is : (c : Command) (words : List Text) → none (fault_of (app_for c) words) ≡ is_taken c first_walk words
fault_is c words =
    let stop : Option (Text × List Text) = (walk (rules c) [] nothing_held words).stopped in
    let end_held : Held = (walk (rules c) [] nothing_held words).held in
    ap₂ (λ (e : Option (Text × List Row)) (below : Kinds). none (level_fault (shape c) [] nothing_held words (is_some e) below)) (no_subcommand c stop).0 (no_subcommand c stop).1
    ∙ none_both (walk_fault (shape c) [] first_walk words) (or_else (settle_fault (rules c) false end_held)
    (or_else (defaults_fault (settled (rules c) end_held).rows (rules c)) (check_fault (shape c) (finished (rules c) end_held) false)))

-- words that clap takes, or refuses, and what the matches give
abbrev pub IsTaken : Command → Bool → List Row → Option Said → Type 0
IsTaken c ok rows None = ok ≡ false
IsTaken c ok rows (Some said) = (ok ≡ true) × Gives c rows said

fits_taken : (c : Command) (ok : Bool) (rows : List Row) (said : Option Said) → Agrees c ok rows said → IsTaken c ok rows (if_fits c said)
fits_taken c ok rows None agreed = agreed
fits_taken c ok rows (Some said) agreed = each (fits c said) refl where
  each : (fit : Bool) → fits c said ≡ fit → IsTaken c ok rows (if fit then Some said else None)
  each true fit = (agreed.0 ∙ fit, agreed.1 fit)
  each false unfit_all = agreed.0 ∙ unfit_all

pub is_taken_as : (c : Command) (words : List Text) → AllByRecursion IsUtf8 words
    → IsTaken c (none (fault_of (app_for c) words)) (matches_of (app_for c) words) (taken c words)
is_taken_as c words utf8 =
    let agreed : Agrees c (is_taken c first_walk words) (rows_from c first_walk words) (split c words) =
    subst (λ (all : Option Said). Agrees c (is_taken c first_walk words) (rows_from c first_walk words) all) (joined_nothing (split c words))
    (agrees words utf8 c [] None idle any nothing (starts c)) in
    subst (λ (ok : Bool). IsTaken c ok (matches_of (app_for c) words) (taken c words)) (sym (fault_is c words))
    (fits_taken c (is_taken c first_walk words) (rows_from c first_walk words) (split c words) agreed)
