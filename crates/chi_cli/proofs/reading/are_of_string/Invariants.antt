use Rattle.std.proofs.Common.{◌≡◌, drop}
use Rattle.std.specs.List.{list_all}
use Rattle.chi_cli.specs.Arguments.{is_of_string}
use Rattle.chi_cli.proofs.reading.are_of_string.Given as goal

abbrev pub invariant-loop-byte : goal.invariant-loop-byte
invariant-loop-byte l = list_all is_of_string (drop l.byte-index l.text) ≡ list_all is_of_string l.text
