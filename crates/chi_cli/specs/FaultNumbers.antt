-- The numbers of the faults of arguments, which go on from those of words. Want of memory has none.
use Rattle.std.specs.Prelude.{ℕ, Option, Some, None}
use Rattle.chi_cli.specs.declared.args.ArgFault.{ArgFault}
use Rattle.chi_cli.specs.declared.args.ArgFault.TheVariants.{Count, Kind, Text, NoMemory}

abbrev pub number_of : ArgFault → Option ℕ
number_of Count = Some 4
number_of (Kind parameter) = Some 5
number_of (Text argument) = Some 6
number_of NoMemory = None
