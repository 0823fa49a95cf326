-- What the code finds at the front of the rest of a text. Private to proofs.
use Rattle.std.specs.Prelude.{ℕ, ◌≡◌, ◌≢◌, ◌<◌, ◌≤◌, suc, Some, None, List, [], ◌∷◌, length, take, slice_index}
use Rattle.chi_token.specs.Characters.{quote}
use Rattle.chi_token.specs.Texts.{meaning}
use Rattle.chi_lex.specs.declared.piece.Stop.TheVariants.{Byte, Open, Escape}
use Rattle.chi_lex.specs.declared.text.Character.{Character}
use Rattle.chi_lex.specs.declared.text.Character.TheVariants.{Means, Closes, Unclosed, BadEscape, BadByte}
use Rattle.chi_lex.specs.Stops.{text_stop}

-- no front of the rest is a run of whole characters, and it doesn't begin with the closing quote
abbrev pub StopsText : List ℕ → Type 0
StopsText rest = ((k : ℕ) → k < length rest → meaning (take (suc k) rest) ≡ None) × (slice_index rest 0 ≢ quote)

-- the character at the front of the rest of a text
abbrev pub IsCharacter : List ℕ → Character → Type 0
IsCharacter rest (Means byte size) = (meaning (take size rest) ≡ Some (byte ∷ [])) × (0 < size) × (size ≤ length rest)
IsCharacter rest Closes = (0 < length rest) × (slice_index rest 0 ≡ quote)
IsCharacter rest Unclosed = StopsText rest × ((passed : ℕ) → text_stop passed rest ≡ Open)
IsCharacter rest BadEscape = StopsText rest × ((passed : ℕ) → text_stop passed rest ≡ Escape passed)
IsCharacter rest BadByte = StopsText rest × ((passed : ℕ) → text_stop passed rest ≡ Byte passed)
