-- How the words after a command are split into options with their values, and plain words.
use Rattle.std.specs.Prelude.{◌==◌, Bool, true, false, not, List, [], ◌∷◌, Option, Some, None, option_map, if◌then◌else◌}
use Rattle.chi_cli.specs.declared.command.Command.{Command}
use Rattle.chi_cli.specs.declared.command.OptionName.{OptionName}
use Rattle.chi_cli.specs.Commands.{Text, option_named, takes_value}

-- What words say: the options that were given, in order, each with its value, which is empty where it takes none;
-- and the plain words.
pub record Said : Type 0 where
  pub options : List (OptionName × Text)
  pub plain : List Text

-- What may stand next: any word; the value of the option before; or, after `--`, plain words alone.
pub data Next : Type 0 where
  any : Next
  value_of : OptionName → Next
  plain_alone : Next

-- What a word is where it stands: a plain word; an option with its value; an option whose value is the next word;
-- `--`; or nothing that may stand there.
pub data Word : Type 0 where
  plain : Word
  given : OptionName → Text → Word
  waiting : OptionName → Word
  end : Word
  unfit : Word

-- the empty word, a lone `-`, and each word that doesn't begin with `-`
abbrev pub is_plain : Text → Bool
is_plain [] = true
is_plain (c ∷ []) = true
is_plain (c ∷ d ∷ cs) = not (c == 45)

-- what stands before the first `=`
abbrev pub name_in : Text → Text
name_in [] = []
name_in (c ∷ cs) = if c == 61 then [] else c ∷ name_in cs

-- what stands after the first `=`, if there is one
abbrev pub value_in : Text → Option Text
value_in [] = None
value_in (c ∷ cs) = if c == 61 then Some cs else value_in cs

-- an option, by whether it takes a value and what stands after the `=` of its word
abbrev pub option_word : OptionName → Bool → Option Text → Word
option_word o true (Some value) = given o value
option_word o true None = waiting o
option_word o false (Some value) = unfit
option_word o false None = given o []

abbrev pub option_or_unfit : Option OptionName → Option Text → Word
option_or_unfit None value = unfit
option_or_unfit (Some o) value = option_word o (takes_value o) value

-- a word that begins with `--`, by what stands after that
abbrev pub after_hyphens : Command → Text → Word
after_hyphens command [] = end
after_hyphens command (c ∷ cs) = option_or_unfit (option_named command (name_in (c ∷ cs))) (value_in (c ∷ cs))

-- a word that begins with `-`, by what stands after that
abbrev pub after_hyphen : Command → Text → Word
after_hyphen command [] = plain
after_hyphen command (c ∷ cs) = if c == 45 then after_hyphens command cs else unfit

abbrev pub any_word : Command → Text → Word
any_word command [] = plain
any_word command (c ∷ cs) = if c == 45 then after_hyphen command cs else plain

abbrev pub word_of : Command → Next → Text → Word
word_of command any word = any_word command word
word_of command (value_of o) word = if is_plain word then given o word else unfit
word_of command plain_alone word = plain

-- one more option in front, one more plain word in front
abbrev pub with_option : OptionName → Text → Said → Said
with_option o value said = record said { options = (o, value) ∷ said.options }

abbrev pub with_plain : Text → Said → Said
with_plain word said = record said { plain = word ∷ said.plain }

-- what a word adds to what the words after it say
abbrev pub with_word : Word → Text → Said → Said
with_word plain word said = with_plain word said
with_word (given o value) word said = with_option o value said
with_word _ word said = said

-- what may stand after a word
abbrev pub next_after : Word → Next → Next
next_after (given o value) next = any
next_after (waiting o) next = value_of o
next_after end next = plain_alone
next_after _ next = next

abbrev pub is_fit : Word → Bool
is_fit unfit = false
is_fit _ = true

-- what a word says together with those after it, by what they say where this or that may stand next
abbrev pub word_said : Word → Next → Text → (Next → Option Said) → Option Said
word_said w next word rest = if is_fit w then option_map (with_word w word) (rest (next_after w next)) else None

-- no word is left, and no option may still wait for its value
abbrev pub nothing_said : Next → Option Said
nothing_said (value_of o) = None
nothing_said _ = Some (record { options = []; plain = [] })

-- what words say to a command where this may stand next; none where they don't match it
abbrev pub split_from : Command → List Text → Next → Option Said
split_from command [] next = nothing_said next
split_from command (word ∷ words) next = word_said (word_of command next word) next word (split_from command words)

abbrev pub split : Command → List Text → Option Said
split command words = split_from command words any
