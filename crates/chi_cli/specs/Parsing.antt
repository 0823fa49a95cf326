-- The commands by which clap reads words, and what it gives of what they say.
use Rattle.std.specs.Prelude.{◌≡◌, ◌&&◌, Bool, true, false, codes, List, [], ◌∷◌, ◌++◌, map, Option, Some, None, is_some, unwrap_or, if◌then◌else◌}
use Rattle.clap.specs.Walk.{Row, Rule, all_of, first_of, one_of}
use Rattle.clap.specs.Simple.{App, new_rule, new_shape, on_top}
use Rattle.clap.specs.declared.builder.action.ArgAction.TheVariants as action
use Rattle.clap.specs.declared.error.kind.ErrorKind.{ErrorKind}
use Rattle.clap.specs.declared.error.kind.ErrorKind.TheVariants as kind
use Rattle.chi_cli.specs.declared.fault.CliFault.{CliFault}
use Rattle.chi_cli.specs.declared.fault.CliFault.TheVariants as fault
use Rattle.chi_cli.specs.declared.command.Command.{Command}
use Rattle.chi_cli.specs.declared.command.Command.TheVariants as command
use Rattle.chi_cli.specs.declared.command.OptionName.{OptionName}
use Rattle.chi_cli.specs.declared.command.OptionName.TheVariants as option
use Rattle.chi_cli.specs.Commands.{Text, option_text, options_of, takes_value}
use Rattle.chi_cli.specs.Requests.{each_once, value_given}
use Rattle.chi_cli.specs.Splitting.{Said, split}

abbrev pub option_rule : OptionName → Rule
option_rule o = record (new_rule (option_text o)) {
  long = Some (option_text o);
  action = Some (if takes_value o then action.Set else action.SetTrue);
}

-- the first plain word
abbrev pub file_rule : Rule
file_rule = record (new_rule (codes "file")) { action = Some action.Set; required = true }

-- those after it
abbrev pub args_rule : Rule
args_rule = record (new_rule (codes "args")) { action = Some action.Append }

abbrev pub plain_rules : Command → List Rule
plain_rules command.Sim = file_rule ∷ args_rule ∷ []
plain_rules command.Explain = file_rule ∷ args_rule ∷ []
plain_rules command.Replay = file_rule ∷ args_rule ∷ []
plain_rules command.Judge = file_rule ∷ args_rule ∷ []
plain_rules command.Picks = file_rule ∷ args_rule ∷ []
plain_rules _ = file_rule ∷ []

-- a command without flags for help or the version, and without arguments
abbrev pub bare_app : App
bare_app = record {
  top = record (new_shape (codes "chi")) {
    no_binary_name = true;
    disable_help_flag = true;
    disable_help_subcommand = true;
    disable_version_flag = true;
  };
  subs = [];
}

-- the command by which clap reads the words after a command's name
abbrev pub app_for : Command → App
app_for c = on_top (λ shape. record shape { rules = map option_rule (options_of c) ++ plain_rules c }) bare_app

-- `sim`, `explain` and the commands on two files have any number of plain words after the first, another command none
abbrev pub has_place : Command → List Text → Bool
has_place command.Sim plain = true
has_place command.Explain plain = true
has_place command.Replay plain = true
has_place command.Judge plain = true
has_place command.Picks plain = true
has_place _ (word ∷ other ∷ plain) = false
has_place _ plain = true

abbrev pub is_given : List Text → Bool
is_given [] = false
is_given (word ∷ plain) = true

-- each option stands at most once, and the plain words are as many as the command wants
abbrev pub fits : Command → Said → Bool
fits c said = (each_once said.options && has_place c said.plain) && is_given said.plain

abbrev pub if_fits : Command → Option Said → Option Said
if_fits c None = None
if_fits c (Some said) = if fits c said then Some said else None

-- what words say to a command that takes them
abbrev pub taken : Command → List Text → Option Said
taken c words = if_fits c (split c words)

abbrev pub first : List Text → Option Text
first [] = None
first (word ∷ words) = Some word

abbrev pub rest : List Text → List Text
rest [] = []
rest (word ∷ words) = words

abbrev pub truth_text : Bool → Text
truth_text true = codes "true"
truth_text false = codes "false"

-- the matches give what fits the command: the value of each option, whether the trace is wanted, and the plain words
pub record Gives (c : Command) (rows : List Row) (said : Said) : Type 0 where
  pub fit : fits c said ≡ true
  pub values : (o : OptionName) → takes_value o ≡ true → first_of (option_text o) rows ≡ value_given o said.options
  pub trace : unwrap_or (one_of (codes "trace") rows) (codes "false") ≡ truth_text (is_some (value_given option.Trace said.options))
  pub file : first_of (codes "file") rows ≡ first said.plain
  pub args : unwrap_or (all_of (codes "args") rows) [] ≡ rest said.plain

-- what a kind of clap's errors is told as
abbrev pub clap_fault : ErrorKind → CliFault
clap_fault kind.OutOfMemory = fault.NoMemory
clap_fault _ = fault.Usage

-- of all that the matches may give
abbrev pub EachGiven : Command → List Row → (Said → Type 0) → Type 0
EachGiven c rows P = (said : Said) → Gives c rows said → P said
