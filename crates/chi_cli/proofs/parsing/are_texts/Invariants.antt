use Rattle.std.proofs.Common.{IsUtf8, drop}
use Rattle.std.specs.List.{AllByRecursion}
use Rattle.chi_cli.specs.Saying.{texts}
use Rattle.chi_cli.proofs.parsing.are_texts.Given as goal

abbrev pub invariant-loop-word : goal.invariant-loop-word
invariant-loop-word l = AllByRecursion IsUtf8 (texts (drop l.word-index l.words)) → AllByRecursion IsUtf8 (texts l.words)
