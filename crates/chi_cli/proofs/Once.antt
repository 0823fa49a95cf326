-- What was given so far, and one option more.
use Rattle.std.proofs.Common.{◌≡◌, ◌∙◌, ◌&&◌, ◌||◌, Bool, true, false, not, List, [], ◌∷◌, ◌++◌, Option, Some, None, if◌then◌else◌, refl, sym, ap, subst, append-nil, append_assoc}
use Rattle.std.specs.Prelude.{bytes_eq, find, is_some, option_map}
use Rattle.std.proofs.lemmas.Bool.{and_left, and_right, false_from_ne_true}
use Rattle.std.proofs.lemmas.Slice.Eq.{bytes_eq-Decides}
use Rattle.chi_cli.specs.declared.command.Command.{Command}
use Rattle.chi_cli.specs.declared.command.Command.TheVariants as command
use Rattle.chi_cli.specs.declared.command.OptionName.{OptionName}
use Rattle.chi_cli.specs.Commands.{Text, option_text}
use Rattle.chi_cli.specs.Requests.{each_once}
use Rattle.chi_cli.specs.Splitting.{Said}
use Rattle.chi_cli.specs.Saying.{said_after}
use Rattle.chi_cli.specs.Parsing.{fits, has_place}

abbrev pub Given : Type 0
Given = OptionName × Text

-- the first that was given of a name
abbrev pub given_by : Text → List Given → Option Given
given_by name options = find (λ given. bytes_eq (option_text given.0) name) options

-- the first of the two that there is
abbrev pub or_given : Option Given → Option Given → Option Given
or_given None other = other
or_given (Some given) other = Some given

pub given_more : (name : Text) (options : List Given) (given : Given)
    → given_by name (options ++ given ∷ []) ≡ or_given (given_by name options) (if bytes_eq (option_text given.0) name then Some given else None)
given_more name [] given = refl
given_more name (g ∷ gs) given = each (bytes_eq (option_text g.0) name) (given_more name gs given) where
  each : (here : Bool) → given_by name (gs ++ given ∷ []) ≡ or_given (given_by name gs) (if bytes_eq (option_text given.0) name then Some given else None)
      → (if here then Some g else given_by name (gs ++ given ∷ []))
      ≡ or_given (if here then Some g else given_by name gs) (if bytes_eq (option_text given.0) name then Some given else None)
  each true later = refl
  each false later = later

text_symmetric : (a b : Text) → bytes_eq a b ≡ bytes_eq b a
text_symmetric a b = each (bytes_eq a b) refl where
  each : (same : Bool) → bytes_eq a b ≡ same → same ≡ bytes_eq b a
  each true is = sym ((bytes_eq-Decides b a).1 (sym ((bytes_eq-Decides a b).0 is)))
  each false is = sym (false_from_ne_true (bytes_eq b a) (λ e.
      let back : bytes_eq a b ≡ true = (bytes_eq-Decides a b).1 (sym ((bytes_eq-Decides b a).0 e)) in
      absurd (cc)))

-- a name is among those given
abbrev pub is_among : Text → List Given → Bool
is_among name options = is_some (option_map (λ given. given.1) (given_by name options))

among_more : (name : Text) (options : List Given) (given : Given)
    → is_among name (options ++ given ∷ []) ≡ (is_among name options || bytes_eq (option_text given.0) name)
among_more name options given = ap (λ (o : Option Given). is_some (option_map (λ (g : Given). g.1) o)) (given_more name options given)
    ∙ each (given_by name options) (bytes_eq (option_text given.0) name) where
      each : (o : Option Given) (same : Bool) → is_some (option_map (λ (g : Given). g.1) (or_given o (if same then Some given else None)))
          ≡ (is_some (option_map (λ (g : Given). g.1) o) || same)
      each None true = refl
      each None false = refl
      each (Some g) same = refl

pub once_more : (options : List Given) (given : Given) → each_once (options ++ given ∷ []) ≡ (each_once options && not (is_among (option_text given.0) options))
once_more [] given = refl
once_more (g ∷ gs) given =
    let law = each (is_among (option_text g.0) gs) (bytes_eq (option_text g.0) (option_text given.0)) (each_once gs) (given_by (option_text given.0) gs) in
    rw (among_more (option_text g.0) gs given, once_more gs given, text_symmetric (option_text given.0) (option_text g.0)) law where
      each : (among same once : Bool) (later : Option Given)
          → (not (among || same) && (once && not (is_some (option_map (λ (x : Given). x.1) later))))
          ≡ ((not among && once) && not (is_some (option_map (λ (x : Given). x.1) (if same then Some g else later))))
      each true same once later = refl
      each false true true later = refl
      each false true false later = refl
      each false false true later = refl
      each false false false later = refl

-- an option that stood twice stays one
pub twice_after : (options more : List Given) → each_once options ≡ false → each_once (options ++ more) ≡ false
twice_after options [] twice = rw append-nil twice
twice_after options (g ∷ gs) twice =
    let one : each_once (options ++ g ∷ []) ≡ false = once_more options g ∙ and_left (each_once options) (not (is_among (option_text g.0) options)) twice in
    subst (λ (all : List Given). each_once all ≡ false) (append_assoc options (g ∷ []) gs) (twice_after (options ++ g ∷ []) gs one)

-- a plain word too many stays one
pub no_place_after : (c : Command) (plain more : List Text) → has_place c plain ≡ false → has_place c (plain ++ more) ≡ false
no_place_after command.Sim plain more none = absurd (cc)
no_place_after command.Explain plain more none = absurd (cc)
no_place_after command.Replay plain more none = absurd (cc)
no_place_after command.Judge plain more none = absurd (cc)
no_place_after command.Picks plain more none = absurd (cc)
no_place_after command.Xper [] more none = absurd (cc)
no_place_after command.Xper (word ∷ []) more none = absurd (cc)
no_place_after command.Xper (word ∷ other ∷ plain) more none = refl
no_place_after command.Check [] more none = absurd (cc)
no_place_after command.Check (word ∷ []) more none = absurd (cc)
no_place_after command.Check (word ∷ other ∷ plain) more none = refl
no_place_after command.Code [] more none = absurd (cc)
no_place_after command.Code (word ∷ []) more none = absurd (cc)
no_place_after command.Code (word ∷ other ∷ plain) more none = refl
no_place_after command.Fmt [] more none = absurd (cc)
no_place_after command.Fmt (word ∷ []) more none = absurd (cc)
no_place_after command.Fmt (word ∷ other ∷ plain) more none = refl
no_place_after command.Load [] more none = absurd (cc)
no_place_after command.Load (word ∷ []) more none = absurd (cc)
no_place_after command.Load (word ∷ other ∷ plain) more none = refl
no_place_after command.TraceUp [] more none = absurd (cc)
no_place_after command.TraceUp (word ∷ []) more none = absurd (cc)
no_place_after command.TraceUp (word ∷ other ∷ plain) more none = refl

-- so far, each option stands once and each plain word has a place
abbrev pub is_right : Command → Said → Bool
is_right c said = each_once said.options && has_place c said.plain

pub wrong_after : (c : Command) (said more : Said) → is_right c said ≡ false → fits c (said_after said more) ≡ false
wrong_after c said more wrong = each (each_once said.options) refl (has_place c said.plain) refl wrong where
  each : (once : Bool) → each_once said.options ≡ once → (place : Bool) → has_place c said.plain ≡ place → (once && place) ≡ false
      → fits c (said_after said more) ≡ false
  each false twice place is wrong = and_left _ _ (and_left _ _ (twice_after said.options more.options twice))
  each true once false none wrong = and_left _ _ (and_right _ _ (no_place_after c said.plain more.plain none))
  each true once true some wrong = absurd (cc)
