-- What was said before some words, together with what they say.
use Rattle.std.proofs.Common.{◌≡◌, true, false, List, [], ◌∷◌, ◌++◌, Option, Some, None, refl, ap, append_assoc, append-nil}
use Rattle.std.specs.Prelude.{option_map}
use Rattle.chi_cli.specs.declared.command.Command.{Command}
use Rattle.chi_cli.specs.Commands.{Text}
use Rattle.chi_cli.specs.Splitting.{Said, Next, Word, plain, given, waiting, end, unfit, is_fit, next_after, split_from, with_word, word_of}
use Rattle.chi_cli.specs.Saying.{joined, nothing, said_after, said_and}

pub joined_nothing : (o : Option Said) → joined nothing o ≡ o
joined_nothing None = refl
joined_nothing (Some said) = refl

same_said : {before after : Said} → before.options ≡ after.options → before.plain ≡ after.plain → before ≡ after
same_said e f = λ i. record { options = e i; plain = f i }

-- one more word goes to what was said before, or to what is said after
said_once : (before : Said) (w : Word) (word : Text) (said : Said) → said_after (said_and before w word) said ≡ said_after before (with_word w word said)
said_once before plain word said = same_said (ap (λ xs. xs ++ said.options) (append-nil before.options)) (append_assoc before.plain (word ∷ []) said.plain)
said_once before (given o value) word said = same_said (append_assoc before.options ((o, value) ∷ []) said.options) (ap (λ xs. xs ++ said.plain) (append-nil before.plain))
said_once before (waiting o) word said = same_said (ap (λ xs. xs ++ said.options) (append-nil before.options)) (ap (λ xs. xs ++ said.plain) (append-nil before.plain))
said_once before end word said = same_said (ap (λ xs. xs ++ said.options) (append-nil before.options)) (ap (λ xs. xs ++ said.plain) (append-nil before.plain))
said_once before unfit word said = same_said (ap (λ xs. xs ++ said.options) (append-nil before.options)) (ap (λ xs. xs ++ said.plain) (append-nil before.plain))

joined_once : (before : Said) (w : Word) (word : Text) (o : Option Said) → joined (said_and before w word) o ≡ joined before (option_map (with_word w word) o)
joined_once before w word None = refl
joined_once before w word (Some said) = ap (λ s. Some s) (said_once before w word said)

-- a word that fits is read
pub step : (command : Command) (word : Text) (words : List Text) (next after : Next) (before now : Said)
    → is_fit (word_of command next word) ≡ true → after ≡ next_after (word_of command next word) next
    → now ≡ said_and before (word_of command next word) word
    → joined now (split_from command words after) ≡ joined before (split_from command (word ∷ words) next)
step command word words next after before now fits follows adds =
    rw (fits, follows, adds) (joined_once before (word_of command next word) word (split_from command words (next_after (word_of command next word) next)))

-- a word that doesn't fit ends it
pub misstep : (command : Command) (word : Text) (words : List Text) (next : Next) → is_fit (word_of command next word) ≡ false
    → split_from command (word ∷ words) next ≡ None
misstep command word words next unfits = rw unfits refl
