-- What clap's answer to the words after a command says of them.
use Rattle.std.proofs.Common.{◌≡◌, ◌⊎◌, ◌∙◌, Bool, true, false, List, [], ◌∷◌, Option, Some, None, refl, sym, ap, subst, inl, inr, IsUtf8}
use Rattle.std.specs.List.{AllByRecursion}
use Rattle.std.specs.Prelude.{option_map}
use Rattle.clap.specs.Matches.{first_value, found_of, matched_of, one_text, raw_values}
use Rattle.clap.specs.Walk.{Row, all_of, first_of, one_of, rows_of}
use Rattle.clap.specs.Simple.{App, HasMatchesOf, is_simple, matches_of}
use Rattle.clap.specs.Kinds.{IsAmong, Kinds}
use Rattle.clap.specs.Faults.{fault_of, is_simple_and_free}
use Rattle.clap.specs.declared.error.kind.ErrorKind.{ErrorKind}
use Rattle.clap.specs.declared.error.kind.ErrorKind.TheVariants as kind
use Rattle.clap.specs.declared.parser.matches.ArgMatches.{ArgMatches}
use Rattle.clap.specs.declared.parser.matches.Found.{Found}
use Rattle.clap.proofs.WalkLemmas.{first_value-rows, one_text-rows, raw_values-rows}
use Rattle.chi_cli.specs.declared.command.Command.{Command}
use Rattle.chi_cli.specs.declared.command.Command.TheVariants as command
use Rattle.chi_cli.specs.Commands.{Text}
use Rattle.chi_cli.specs.Splitting.{Said}
use Rattle.chi_cli.specs.Saying.{IsMismatch}
use Rattle.chi_cli.specs.Parsing.{Gives, app_for, clap_fault, taken}
use Rattle.chi_cli.proofs.Holding.{none}
use Rattle.chi_cli.proofs.Taken.{IsTaken, is_taken_as}

simple : (c : Command) → (is_simple_and_free (app_for c) ≡ true) × (is_simple (app_for c) ≡ true)
simple command.Sim = (refl, refl)
simple command.Explain = (refl, refl)
simple command.Xper = (refl, refl)
simple command.Replay = (refl, refl)
simple command.Judge = (refl, refl)
simple command.Picks = (refl, refl)
simple command.Check = (refl, refl)
simple command.Code = (refl, refl)
simple command.Fmt = (refl, refl)
simple command.Load = (refl, refl)
simple command.TraceUp = (refl, refl)

some_kind : (k : ErrorKind) (kinds : Kinds) → IsAmong k kinds → none kinds ≡ false
some_kind k [] among = absurd among
some_kind k (other ∷ kinds) among = refl

said_by : (c : Command) (ok : Bool) (rows : List Row) (found : Option Said) → IsTaken c ok rows found → ok ≡ true → (said : Said) × (found ≡ Some said) × Gives c rows said
said_by c ok rows None is passes = absurd (cc)
said_by c ok rows (Some said) is passes = (said, refl, is.1)

refused_by : (c : Command) (ok : Bool) (rows : List Row) (found : Option Said) → IsTaken c ok rows found → ok ≡ false → found ≡ None
refused_by c ok rows None is refuses = refl
refused_by c ok rows (Some said) is refuses =
    let passes : ok ≡ true = is.0 in
    absurd (cc)

-- what matches say
pub matches_say : (c : Command) (words : List Text) (app : App) (m : ArgMatches) → app ≡ app_for c → AllByRecursion IsUtf8 words → HasMatchesOf app words m
    → (is_simple_and_free app ≡ true → fault_of app words ≡ [])
    → (said : Said) × (taken c words ≡ Some said) × Gives c (rows_of (found_of m)) said
matches_say c words app m is utf8 has passes =
    let is_simple_app : is_simple app ≡ true = ap is_simple is ∙ (simple c).1 in
    let is_free_app : is_simple_and_free app ≡ true = ap is_simple_and_free is ∙ (simple c).0 in
    let rows : rows_of (found_of m) ≡ matches_of (app_for c) words = (has is_simple_app).0 ∙ ap (λ (a : App). matches_of a words) is in
    let none_for : fault_of (app_for c) words ≡ [] = ap (λ (a : App). fault_of a words) (sym is) ∙ passes is_free_app in
    let all = said_by c (none (fault_of (app_for c) words)) (matches_of (app_for c) words) (taken c words) (is_taken_as c words utf8) (ap none none_for) in
    (all.0, all.1, subst (λ (rs : List Row). Gives c rs all.0) (sym rows) all.2)

-- what an error says
pub error_says : (c : Command) (words : List Text) (app : App) (k : ErrorKind) → app ≡ app_for c → AllByRecursion IsUtf8 words
    → (is_simple_and_free app ≡ true → (k ≡ kind.OutOfMemory) ⊎ IsAmong k (fault_of app words)) → IsMismatch (taken c words) (clap_fault k)
error_says c words app k is utf8 fails =
    each k (fails (ap is_simple_and_free is ∙ (simple c).0)) where
      refused : (k : ErrorKind) → IsAmong k (fault_of app words) → taken c words ≡ None
      refused k among = refused_by c (none (fault_of (app_for c) words)) (matches_of (app_for c) words) (taken c words) (is_taken_as c words utf8)
          (ap (λ (a : App). none (fault_of a words)) (sym is) ∙ some_kind k (fault_of app words) among)

      or_memory : (k : ErrorKind) → (k ≡ kind.OutOfMemory → ⊥) → (k ≡ kind.OutOfMemory) ⊎ IsAmong k (fault_of app words) → taken c words ≡ None
      or_memory k another (inl memory) = absurd (another memory)
      or_memory k another (inr among) = refused k among

      each : (k : ErrorKind) → (k ≡ kind.OutOfMemory) ⊎ IsAmong k (fault_of app words) → IsMismatch (taken c words) (clap_fault k)
      each kind.OutOfMemory fault = tt
      each other fault = or_memory other (λ memory. absurd (cc)) fault

-- ---- what the getters give, by the rows

pub first_text : (found : Found) (id : Text) → first_value found id ≡ first_of id (rows_of found)
first_text found id = first_value-rows found id

pub flag_text : (found : Found) (id : Text) → one_text found id ≡ one_of id (rows_of found)
flag_text found id = one_text-rows found id

pub all_texts : (found : Found) (id : Text) → option_map raw_values (matched_of found id) ≡ all_of id (rows_of found)
all_texts found id = raw_values-rows found id
