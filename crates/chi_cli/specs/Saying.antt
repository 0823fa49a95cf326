-- What was said before some words, with what they say.
use Rattle.std.specs.Prelude.{◌≡◌, List, [], ◌++◌, map, Option, None, option_map}
use Rattle.std.specs.Borrow.{Bor}
use Rattle.chi_cli.specs.declared.fault.CliFault.{CliFault}
use Rattle.chi_cli.specs.declared.fault.CliFault.TheVariants as fault
use Rattle.chi_cli.specs.Commands.{Text}
use Rattle.chi_cli.specs.Splitting.{Said, Word, with_word}

abbrev pub texts : List (Bor Text) → List Text
texts = map (λ word. word.now)

-- what was said before, and then this
abbrev pub said_after : Said → Said → Said
said_after before after = record { options = before.options ++ after.options; plain = before.plain ++ after.plain }

abbrev pub joined : Said → Option Said → Option Said
joined before = option_map (said_after before)

-- words are refused that don't match their command
abbrev pub IsMismatch : Option Said → CliFault → Type 0
IsMismatch said fault.NoMemory = Unit {0}
IsMismatch said fault.Usage = said ≡ None
IsMismatch said fault.Command = ⊥
IsMismatch said fault.BadNumber = ⊥

abbrev pub nothing : Said
nothing = record { options = []; plain = [] }

-- what was said before, and then what one word adds
abbrev pub said_and : Said → Word → Text → Said
said_and before w word = said_after before (with_word w word nothing)
