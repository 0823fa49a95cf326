-- Which words are a request, and for what; else why they are none.
use Rattle.std.specs.Prelude.{◌≡◌, ℕ, ℤ, ◌&&◌, Bool, true, not, bytes_eq, codes, find, is_some, List, [], ◌∷◌, Option, Some, None, option_map, Result, Ok, Err, if◌then◌else◌}
use Rattle.chi_cli.specs.declared.command.Command.{Command}
use Rattle.chi_cli.specs.declared.command.Command.TheVariants as command
use Rattle.chi_cli.specs.declared.command.OptionName.{OptionName}
use Rattle.chi_cli.specs.declared.command.OptionName.TheVariants as option
use Rattle.chi_cli.specs.declared.fault.CliFault.{CliFault}
use Rattle.chi_cli.specs.declared.fault.CliFault.TheVariants as fault
use Rattle.chi_cli.specs.declared.one_run.OneRun.{OneRun}
use Rattle.chi_cli.specs.declared.policy.PolicyName.{PolicyName}
use Rattle.chi_cli.specs.declared.policy.PolicyName.TheVariants as policy
use Rattle.chi_cli.specs.declared.request.Pick.{Pick}
use Rattle.chi_cli.specs.declared.request.Pick.TheVariants as pick
use Rattle.chi_cli.specs.declared.request.Request.{Request}
use Rattle.chi_cli.specs.declared.request.Request.TheVariants as request
use Rattle.chi_cli.specs.declared.two_files.TwoFiles.{TwoFiles}
use Rattle.chi_cli.specs.declared.words.TheConstants.{STEPS, MOST_STEPS}
use Rattle.chi_cli_help.specs.declared.topic.Topic.{Topic}
use Rattle.chi_cli_help.specs.declared.topic.Topic.TheVariants.{AllCommands}
use Rattle.chi_cli_help.specs.Topics.{topic_named}
use Rattle.chi_cli.specs.Commands.{Text, command_named, option_text}
use Rattle.chi_cli.specs.Numbers.{number_in, number_or, time_or_none}
use Rattle.chi_cli.specs.Probes.{probe_or_all}
use Rattle.chi_cli.specs.Splitting.{Said, split}
use Rattle.chi_trace.specs.declared.filter.Filter.{Filter}
use Rattle.chi_load.specs.declared.source.TheConstants.{MOST_MACHINES}

-- the value that an option was given, if it was
abbrev pub value_given : OptionName → List (OptionName × Text) → Option Text
value_given o options = option_map (λ given. given.1) (find (λ given. bytes_eq (option_text given.0) (option_text o)) options)

-- each option stands at most once
abbrev pub each_once : List (OptionName × Text) → Bool
each_once [] = true
each_once (given ∷ options) = not (is_some (value_given given.0 options)) && each_once options

abbrev pub policy_named : Text → Option PolicyName
policy_named name =
    if bytes_eq name (codes "first") then Some policy.First
    else if bytes_eq name (codes "last") then Some policy.Last
    else if bytes_eq name (codes "spread") then Some policy.Spread
    else None

-- the policy that is asked for, the first where the option isn't given
abbrev pub policy_or_first : Option Text → Option PolicyName
policy_or_first None = Some policy.First
policy_or_first (Some name) = policy_named name

abbrev pub pick_of : PolicyName → ℕ → Pick
pick_of policy.First salt = pick.First
pick_of policy.Last salt = pick.Last
pick_of policy.Spread salt = pick.Spread salt

-- a file, arguments and what its run is asked for with, where all its numbers are in their forms and ranges
abbrev pub run_asked : Text → List Text → PolicyName → Option ℕ → Option ℕ → Option ℕ → Option (Option ℤ) → Result OneRun CliFault
run_asked file args policy (Some seed) (Some bound) (Some salt) (Some until) =
    Ok (record { file = file; args = args; seed = seed; bound = bound; until = until; pick = pick_of policy salt })
run_asked file args policy seed bound salt until = Err fault.BadNumber

-- the seed and the salt are below 2^64, and the bound on steps is within its limit
abbrev pub run_of_file : Text → List Text → Option PolicyName → List (OptionName × Text) → Result OneRun CliFault
run_of_file file args None options = Err fault.Usage
run_of_file file args (Some policy) options = run_asked file args policy
    (number_or 0 0 18_446_744_073_709_551_615 (value_given option.Seed options))
    (number_or STEPS 0 MOST_STEPS (value_given option.Steps options))
    (number_or 0 0 18_446_744_073_709_551_615 (value_given option.Salt options))
    (time_or_none (value_given option.Until options))

-- a file that is to be run, and arguments
abbrev pub one_run : List Text → List (OptionName × Text) → Result OneRun CliFault
one_run [] options = Err fault.Usage
one_run (file ∷ args) options = run_of_file file args (policy_or_first (value_given option.Policy options)) options

-- a run, whether its trace is wanted, and which events of that are shown
abbrev pub simulated : Bool → Option (Option Filter) → Result OneRun CliFault → Result Request CliFault
simulated trace None run = Err fault.Usage
simulated trace (Some probe) (Err why) = Err why
simulated trace (Some None) (Ok run) = Err fault.BadNumber
simulated trace (Some (Some probe)) (Ok run) = Ok (request.Sim run.file run.args run.seed run.bound run.until run.pick trace probe)

abbrev pub sim : List Text → List (OptionName × Text) → Result Request CliFault
sim plain options =
    simulated (is_some (value_given option.Trace options)) (probe_or_all (value_given option.Probe options)) (one_run plain options)

-- a run that is told in words
abbrev pub explained : Result OneRun CliFault → Result Request CliFault
explained (Ok run) = Ok (request.Explain run.file run.args run.seed run.bound run.until run.pick)
explained (Err why) = Err why

-- one plain word and no other
abbrev pub one_word : List Text → Option Text
one_word (word ∷ []) = Some word
one_word _ = None

-- The first experiment of a file: the words are those of a run, and none stands after the file. No option of it is a
-- stopping time.
abbrev pub experimented : Option Text → Result OneRun CliFault → Result Request CliFault
experimented None run = Err fault.Usage
experimented (Some file) (Ok run) = Ok (request.Xper run.file run.seed run.bound run.pick)
experimented (Some file) (Err why) = Err why

-- two files, arguments, and the numbers of a run, where these are all in their forms and ranges
abbrev pub two_files_asked : Text → Text → List Text → Option ℕ → Option ℕ → Option (Option ℤ) → Result TwoFiles CliFault
two_files_asked file beside args (Some seed) (Some bound) (Some until) =
    Ok (record { file = file; beside = beside; args = args; seed = seed; bound = bound; until = until })
two_files_asked file beside args seed bound until = Err fault.BadNumber

abbrev pub two_files_named : Text → Text → List Text → List (OptionName × Text) → Result TwoFiles CliFault
two_files_named file beside args options = two_files_asked file beside args
    (number_or 0 0 18_446_744_073_709_551_615 (value_given option.Seed options))
    (number_or STEPS 0 MOST_STEPS (value_given option.Steps options)) (time_or_none (value_given option.Until options))

abbrev pub file_with : Text → List Text → List (OptionName × Text) → Result TwoFiles CliFault
file_with file [] options = Err fault.Usage
file_with file (beside ∷ args) options = two_files_named file beside args options

-- a file, a second one, and arguments
abbrev pub two_files : List Text → List (OptionName × Text) → Result TwoFiles CliFault
two_files [] options = Err fault.Usage
two_files (file ∷ words) options = file_with file words options

-- what is done with two files
abbrev pub of_two : (TwoFiles → Request) → Result TwoFiles CliFault → Result Request CliFault
of_two done (Ok two) = Ok (done two)
of_two done (Err why) = Err why

-- the program of the first is run by the picks of the second
abbrev pub replayed : Bool → TwoFiles → Request
replayed trace two = request.Replay two.file two.beside two.args two.seed two.bound two.until trace

-- the log in the second is judged by the program of the first
abbrev pub judged : TwoFiles → Request
judged two = request.Judge two.file two.beside two.args two.seed two.bound two.until

-- the picks of that log are written
abbrev pub picked : TwoFiles → Request
picked two = request.Picks two.file two.beside two.args two.seed two.bound two.until

-- what is done with a file, where there is one
abbrev pub of_file : (Text → Request) → Option Text → Result Request CliFault
of_file done None = Err fault.Usage
of_file done (Some file) = Ok (done file)

abbrev pub load_of : Option ℕ → Result Request CliFault
load_of None = Err fault.BadNumber
load_of (Some n) = Ok (request.Load n)

-- `load`: the factory has a machine, and no more than it may have
abbrev pub load : Option Text → Result Request CliFault
load None = Err fault.Usage
load (Some size) = load_of (number_in 1 MOST_MACHINES size)

-- the request of a command's options and plain words
abbrev pub asked : Command → Said → Result Request CliFault
asked command.Sim said = sim said.plain said.options
asked command.Explain said = explained (one_run said.plain said.options)
asked command.Xper said = experimented (one_word said.plain) (one_run said.plain said.options)
asked command.Check said = of_file request.Check (one_word said.plain)
asked command.Code said = of_file request.Code (one_word said.plain)
asked command.Fmt said = of_file request.Fmt (one_word said.plain)
asked command.Load said = load (one_word said.plain)
asked command.Replay said = of_two (replayed (is_some (value_given option.Trace said.options))) (two_files said.plain said.options)
asked command.Judge said = of_two judged (two_files said.plain said.options)
asked command.Picks said = of_two picked (two_files said.plain said.options)
asked command.TraceUp said = of_file request.TraceUp (one_word said.plain)

abbrev pub said_request : Command → Option Said → Result Request CliFault
said_request command None = Err fault.Usage
said_request command (Some said) = if each_once said.options then asked command said else Err fault.Usage

abbrev pub command_request : Option Command → List Text → Result Request CliFault
command_request None words = Err fault.Command
command_request (Some command) words = said_request command (split command words)

abbrev pub help_on : Option Topic → Result Request CliFault
help_on None = Err fault.Command
help_on (Some topic) = Ok (request.Help topic)

-- `help`: on all commands, or on the one that a word names
abbrev pub help : List Text → Result Request CliFault
help [] = Ok (request.Help AllCommands)
help (word ∷ []) = help_on (topic_named word)
help _ = Err fault.Usage

-- the request of words, or why they are none
abbrev pub request_of : List Text → Result Request CliFault
request_of [] = Err fault.Command
request_of (name ∷ words) = if bytes_eq name (codes "help") then help words else command_request (command_named name) words

-- what is refused, and why; want of memory is tied to nothing
abbrev pub IsRefused : {A : Type 0} → Result A CliFault → CliFault → Type 0
IsRefused meant fault.NoMemory = Unit {0}
IsRefused meant fault.Usage = meant ≡ Err fault.Usage
IsRefused meant fault.Command = meant ≡ Err fault.Command
IsRefused meant fault.BadNumber = meant ≡ Err fault.BadNumber
