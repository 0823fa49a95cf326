-- The commands and their options.
use Rattle.std.specs.Prelude.{ℕ, Bool, true, false, bytes_eq, codes, find, List, [], ◌∷◌, Option, Some, None, if◌then◌else◌}
use Rattle.chi_cli.specs.declared.command.Command.{Command}
use Rattle.chi_cli.specs.declared.command.Command.TheVariants as command
use Rattle.chi_cli.specs.declared.command.OptionName.{OptionName}
use Rattle.chi_cli.specs.declared.command.OptionName.TheVariants as option

abbrev pub Text : Type 0
Text = List ℕ

-- the command that a word names
abbrev pub command_named : Text → Option Command
command_named word =
    if bytes_eq word (codes "sim") then Some command.Sim
    else if bytes_eq word (codes "explain") then Some command.Explain
    else if bytes_eq word (codes "xper") then Some command.Xper
    else if bytes_eq word (codes "check") then Some command.Check
    else if bytes_eq word (codes "code") then Some command.Code
    else if bytes_eq word (codes "fmt") then Some command.Fmt
    else if bytes_eq word (codes "load") then Some command.Load
    else if bytes_eq word (codes "replay") then Some command.Replay
    else if bytes_eq word (codes "judge") then Some command.Judge
    else if bytes_eq word (codes "picks") then Some command.Picks
    else if bytes_eq word (codes "trace-up") then Some command.TraceUp
    else None

-- the options of each command
abbrev pub options_of : Command → List OptionName
options_of command.Sim =
    option.Seed ∷ option.Steps ∷ option.Policy ∷ option.Salt ∷ option.Until ∷ option.Probe ∷ option.Trace ∷ []
options_of command.Explain = option.Seed ∷ option.Steps ∷ option.Policy ∷ option.Salt ∷ option.Until ∷ []
options_of command.Xper = option.Seed ∷ option.Steps ∷ option.Policy ∷ option.Salt ∷ []
options_of command.Check = []
options_of command.Code = []
options_of command.Fmt = []
options_of command.Load = []
options_of command.Replay = option.Seed ∷ option.Steps ∷ option.Until ∷ option.Trace ∷ []
options_of command.Judge = option.Seed ∷ option.Steps ∷ option.Until ∷ []
options_of command.Picks = option.Seed ∷ option.Steps ∷ option.Until ∷ []
options_of command.TraceUp = []

-- the name of an option, which its word has after two hyphens
abbrev pub option_text : OptionName → Text
option_text option.Seed = codes "seed"
option_text option.Steps = codes "steps"
option_text option.Policy = codes "policy"
option_text option.Salt = codes "salt"
option_text option.Until = codes "until"
option_text option.Probe = codes "probe"
option_text option.Trace = codes "trace"

-- an option has a value, but for those that say all by standing there
abbrev pub takes_value : OptionName → Bool
takes_value option.Trace = false
takes_value _ = true

-- the option of a command that has this name
abbrev pub option_named : Command → Text → Option OptionName
option_named command name = find (λ o. bytes_eq (option_text o) name) (options_of command)
