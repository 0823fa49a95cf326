-- The numbers of the faults of reading, from 1 on. Want of memory has none.
use Rattle.std.specs.Prelude.{ℕ, Option, Some, None}
use Rattle.chi_lex.specs.declared.fault.LexFault.{LexFault}
use Rattle.chi_lex.specs.declared.fault.LexFault.TheVariants.{BadByte, OpenString, BadEscape, NoMemory}

abbrev pub number_of : LexFault → Option ℕ
number_of (BadByte place) = Some 1
number_of (OpenString place) = Some 2
number_of (BadEscape place) = Some 3
number_of NoMemory = None
