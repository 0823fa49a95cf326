use Rattle.std.proofs.Common.{◌≡◌, ◌++◌, drop}
use Rattle.chi_cli.specs.Saying.{texts}
use Rattle.chi_cli.proofs.words.copied.Given as goal

abbrev pub invariant-loop-word : goal.invariant-loop-word
invariant-loop-word l = l.kept.items ++ texts (drop l.word-index l.words) ≡ texts l.words
