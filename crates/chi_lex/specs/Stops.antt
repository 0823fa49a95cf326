-- What stops the code where no token is a prefix of the rest of a source. Private to proofs.
use Rattle.std.specs.Prelude.{ℕ, ◌+◌, ◌==◌, List, [], ◌∷◌, if◌then◌else◌}
use Rattle.chi_token.specs.Characters.{line_feed, quote, backslash}
use Rattle.chi_lex.specs.declared.fault.LexFault.{LexFault}
use Rattle.chi_lex.specs.declared.fault.LexFault.TheVariants.{BadByte, OpenString, BadEscape}
use Rattle.chi_lex.specs.declared.piece.Stop.{Stop}
use Rattle.chi_lex.specs.declared.piece.Stop.TheVariants.{Byte, Open, Escape}
use Rattle.chi_lex.specs.Faults.{characters_length, after_characters}
use Rattle.chi_lex.specs.Places.{place_of}

-- what stops a text, by the number of its bytes before that and what stands there
abbrev pub text_stop : ℕ → List ℕ → Stop
text_stop passed [] = Open
text_stop passed (c ∷ cs) =
    if c == line_feed then Open
    else if c == backslash then Escape passed
    else Byte passed

-- what stops the rest of a source: the first thing that no text goes on with, or its first byte
unfoldable pub stop_of : List ℕ → Stop
stop_of [] = Byte 0
stop_of (c ∷ cs) =
    if c == quote then text_stop (1 + characters_length cs) (after_characters cs)
    else Byte 0

-- the fault of a stop that is found from an offset of a source on
abbrev pub fault_of : List ℕ → ℕ → Stop → LexFault
fault_of source offset (Byte passed) = BadByte (place_of source (offset + passed))
fault_of source offset Open = OpenString (place_of source offset)
fault_of source offset (Escape passed) = BadEscape (place_of source (offset + passed))
