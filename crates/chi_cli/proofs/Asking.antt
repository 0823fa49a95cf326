-- What a command asks for, by what clap's matches give.
use Rattle.std.proofs.Common.{◌≡◌, ◌∙◌, ◌&&◌, Bool, true, false, codes, List, [], ◌∷◌, Option, Some, None, Result, Ok, Err, if◌then◌else◌, refl, sym, ap, ap₂, subst}
use Rattle.std.specs.Prelude.{IfErr, IfOk, is_some, unwrap_or}
use Rattle.std.proofs.lemmas.Bool.{and_parts}
use Rattle.clap.specs.Walk.{Row, all_of, first_of, one_of}
use Rattle.chi_cli.specs.declared.command.Command.{Command}
use Rattle.chi_cli.specs.declared.command.Command.TheVariants as command
use Rattle.chi_cli.specs.declared.command.OptionName.TheVariants as option
use Rattle.chi_cli.specs.declared.fault.CliFault.{CliFault}
use Rattle.chi_cli.specs.declared.fault.CliFault.TheVariants as fault
use Rattle.chi_cli.specs.declared.request.Request.{Request}
use Rattle.chi_cli.specs.declared.request.Request.TheVariants as asked_for
use Rattle.chi_cli.specs.declared.one_run.OneRun.{OneRun}
use Rattle.chi_cli.specs.declared.two_files.TwoFiles.{TwoFiles}
use Rattle.chi_trace.specs.declared.filter.Filter.{Filter}
use Rattle.chi_cli.specs.Commands.{Text, command_named}
use Rattle.chi_cli.specs.Parsing.{EachGiven, Gives, first, fits, has_place, if_fits, is_given, rest, taken, truth_text}
use Rattle.chi_cli.specs.Probes.{probe_or_all}
use Rattle.chi_cli.specs.Requests.{IsRefused, asked, command_request, each_once, experimented, explained, file_with, of_two, one_run, one_word, said_request, sim, simulated, two_files, value_given}
use Rattle.chi_cli.specs.Splitting.{Said, split}

-- what fits a command is asked
fits_asked : (c : Command) (found : Option Said) (said : Said) → if_fits c found ≡ Some said → said_request c found ≡ asked c said
fits_asked c None said is = absurd (cc)
fits_asked c (Some other) said is = each (fits c other) refl is where
  each : (fit : Bool) → fits c other ≡ fit → (if fit then Some other else None) ≡ Some said → said_request c (Some other) ≡ asked c said
  each false unfit is = absurd (cc)
  each true fit is =
      let once : each_once other.options ≡ true = (and_parts (each_once other.options) (has_place c other.plain) (and_parts _ _ fit).0).0 in
      let same : other ≡ said = cc in
      rw once (ap (asked c) same)

taken_asked : (c : Command) (words : List Text) (said : Said) → taken c words ≡ Some said → said_request c (split c words) ≡ asked c said
taken_asked c words said is = fits_asked c (split c words) said is

-- the request of the words after a command's name

request_is : (name : Text) (words : List Text) (c : Command) → command_named name ≡ Some c → command_request (command_named name) words ≡ said_request c (split c words)
request_is name words c named = ap (λ (found : Option Command). command_request found words) named

pub fault_read : (name : Text) (words : List Text) (c : Command) (rows : List Row) (said : Said) (answer : Result Request CliFault) → command_named name ≡ Some c
    → taken c words ≡ Some said → Gives c rows said → IfErr answer (λ fault. EachGiven c rows (λ s. IsRefused (asked c s) fault))
    → IfErr answer (λ fault. IsRefused (command_request (command_named name) words) fault)
fault_read name words c rows said (Ok request) named is gives asks = tt
fault_read name words c rows said (Err fault) named is gives asks =
    subst (λ (meant : Result Request CliFault). IsRefused meant fault) (sym (request_is name words c named ∙ taken_asked c words said is)) (asks said gives)

-- two files: the first of the words after the file names the second

module _ (c : Command) (said : Said) (rows : List Row) (gives : Gives c rows said) where
  two_by : (file : Text) (words plain : List Text) → first plain ≡ Some file → rest plain ≡ words → two_files plain said.options ≡ file_with file words said.options
  two_by file words [] named after = absurd (cc)
  two_by file words (word ∷ more) named after = let same : word ≡ file = cc in λ i. file_with (same i) (after i) said.options

  two_is : (file : Text) (words : List Text) → first_of (codes "file") rows ≡ Some file → all_of (codes "args") rows ≡ Some words
      → two_files said.plain said.options ≡ file_with file words said.options
  two_is file words named after =
      two_by file words said.plain (sym gives.file ∙ named) (sym gives.args ∙ ap (λ (o : Option (List Text)). unwrap_or o []) after)

  one_alone : (plain : List Text) → rest plain ≡ [] → two_files plain said.options ≡ Err fault.Usage
  one_alone [] none = refl
  one_alone (word ∷ []) none = refl
  one_alone (word ∷ other ∷ more) none = absurd (cc)

  pub no_second : all_of (codes "args") rows ≡ None → two_files said.plain said.options ≡ Err fault.Usage
  no_second none = one_alone said.plain (sym gives.args ∙ ap (λ (o : Option (List Text)). unwrap_or o []) none)

module _ (rows : List Row) (file : Text) (words : List Text) (named : first_of (codes "file") rows ≡ Some file) (after : all_of (codes "args") rows ≡ Some words) where
  pub two_given : (answer : Result TwoFiles CliFault) → IfOk answer (λ two. (c : Command) → EachGiven c rows (λ said. file_with file words said.options ≡ Ok two))
      → IfOk answer (λ two. (c : Command) → EachGiven c rows (λ said. two_files said.plain said.options ≡ Ok two))
  two_given (Ok two) asks = λ c said gives. two_is c said rows gives file words named after ∙ asks c said gives
  two_given (Err why) asks = tt

  pub two_refused : (answer : Result TwoFiles CliFault) → IfErr answer (λ fault. (c : Command) → EachGiven c rows (λ said. IsRefused (file_with file words said.options) fault))
      → IfErr answer (λ fault. (c : Command) → EachGiven c rows (λ said. IsRefused (two_files said.plain said.options) fault))
  two_refused (Ok two) asks = tt
  two_refused (Err why) asks =
      λ c said gives. subst (λ (meant : Result TwoFiles CliFault). IsRefused meant why) (sym (two_is c said rows gives file words named after)) (asks c said gives)

-- what is done with two files is refused as these are
pub of_two_refused : (done : TwoFiles → Request) (meant : Result TwoFiles CliFault) (why : CliFault) → IsRefused meant why → IsRefused (of_two done meant) why
of_two_refused done meant fault.NoMemory is = tt
of_two_refused done meant fault.Usage is = ap (of_two done) is
of_two_refused done meant fault.Command is = ap (of_two done) is
of_two_refused done meant fault.BadNumber is = ap (of_two done) is

-- a run that is told in words is refused as the run is
pub explained_refused : (meant : Result OneRun CliFault) (why : CliFault) → IsRefused meant why → IsRefused (explained meant) why
explained_refused meant fault.NoMemory is = tt
explained_refused meant fault.Usage is = ap explained is
explained_refused meant fault.Command is = ap explained is
explained_refused meant fault.BadNumber is = ap explained is

-- an experiment has one plain word where the words fit
one_file : (plain : List Text) → has_place command.Xper plain ≡ true → is_given plain ≡ true → (file : Text) × (one_word plain ≡ Some file)
one_file [] room given = absurd (cc)
one_file (file ∷ []) room given = (file, refl)
one_file (file ∷ other ∷ more) room given = absurd (cc)

file_of : (rows : List Row) (said : Said) → Gives command.Xper rows said → (file : Text) × (one_word said.plain ≡ Some file)
file_of rows said gives =
    let both = and_parts (each_once said.options && has_place command.Xper said.plain) (is_given said.plain) gives.fit in
    one_file said.plain (and_parts (each_once said.options) (has_place command.Xper said.plain) both.0).1 both.1

pub experiment_given : (rows : List Row) (said : Said) → Gives command.Xper rows said → (run : OneRun) → one_run said.plain said.options ≡ Ok run
    → experimented (one_word said.plain) (one_run said.plain said.options) ≡ Ok (asked_for.Xper run.file run.seed run.bound run.pick)
experiment_given rows said gives run is =
    let file = file_of rows said gives in
    ap₂ experimented file.1 is

refused_by : (rows : List Row) (said : Said) → Gives command.Xper rows said → (why : CliFault) → one_run said.plain said.options ≡ Err why
    → experimented (one_word said.plain) (one_run said.plain said.options) ≡ Err why
refused_by rows said gives why is =
    let file = file_of rows said gives in
    ap₂ experimented file.1 is

pub experiment_refused : (rows : List Row) (said : Said) → Gives command.Xper rows said → (why : CliFault) → IsRefused (one_run said.plain said.options) why
    → IsRefused (experimented (one_word said.plain) (one_run said.plain said.options)) why
experiment_refused rows said gives fault.NoMemory is = tt
experiment_refused rows said gives fault.Usage is = refused_by rows said gives fault.Usage is
experiment_refused rows said gives fault.Command is = refused_by rows said gives fault.Command is
experiment_refused rows said gives fault.BadNumber is = refused_by rows said gives fault.BadNumber is

refused_as : (meant : Result Request CliFault) (why : CliFault) → meant ≡ Err why → IsRefused meant why
refused_as meant fault.NoMemory is = tt
refused_as meant fault.Usage is = is
refused_as meant fault.Command is = is
refused_as meant fault.BadNumber is = is

-- a run with a filter of its trace's events
module _ (rows : List Row) (trace : Bool) (probe : Option Filter)
    (wanted : (wanted : Bool) → unwrap_or (one_of (codes "trace") rows) (codes "false") ≡ truth_text wanted → trace ≡ wanted)
    (filtered : probe_or_all (first_of (codes "probe") rows) ≡ Some probe) where
  simulated_so : (said : Said) → Gives command.Sim rows said → (meant : Result OneRun CliFault) → one_run said.plain said.options ≡ meant
      → sim said.plain said.options ≡ simulated trace (Some probe) meant
  simulated_so said gives meant is =
      let traced : is_some (value_given option.Trace said.options) ≡ trace = sym (wanted (is_some (value_given option.Trace said.options)) gives.trace) in
      let probed : probe_or_all (value_given option.Probe said.options) ≡ Some probe = ap probe_or_all (sym (gives.values option.Probe refl)) ∙ filtered in
      λ i. simulated (traced i) (probed i) (is i)

  module _ (run : OneRun) (asked : (c : Command) → EachGiven c rows (λ said. one_run said.plain said.options ≡ Ok run)) where
    pub sim_given : (answer : Result Request CliFault) → answer ≡ simulated trace (Some probe) (Ok run)
        → IfOk answer (λ request. EachGiven command.Sim rows (λ said. sim said.plain said.options ≡ Ok request))
    sim_given (Ok request) is = λ said gives. simulated_so said gives (Ok run) (asked command.Sim said gives) ∙ sym is
    sim_given (Err why) is = tt

    pub sim_refused : (answer : Result Request CliFault) → answer ≡ simulated trace (Some probe) (Ok run)
        → IfErr answer (λ fault. EachGiven command.Sim rows (λ said. IsRefused (sim said.plain said.options) fault))
    sim_refused (Ok request) is = tt
    sim_refused (Err why) is =
        λ said gives. refused_as (sim said.plain said.options) why (simulated_so said gives (Ok run) (asked command.Sim said gives) ∙ sym is)

  pub sim_without : (why : CliFault) → ((c : Command) → EachGiven c rows (λ said. IsRefused (one_run said.plain said.options) why))
      → EachGiven command.Sim rows (λ said. IsRefused (sim said.plain said.options) why)
  sim_without fault.NoMemory refused said gives = tt
  sim_without fault.Usage refused said gives = simulated_so said gives (Err fault.Usage) (refused command.Sim said gives)
  sim_without fault.Command refused said gives = simulated_so said gives (Err fault.Command) (refused command.Sim said gives)
  sim_without fault.BadNumber refused said gives = simulated_so said gives (Err fault.BadNumber) (refused command.Sim said gives)
