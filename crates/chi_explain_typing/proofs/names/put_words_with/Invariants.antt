use Rattle.std.proofs.Common.{◌≡◌, ◌++◌, drop}
use Rattle.chi_explain_typing.specs.Names.{words_with}
use Rattle.chi_explain_typing.proofs.names.put_words_with.Given as goal

abbrev pub invariant-loop-byte : goal.invariant-loop-byte
invariant-loop-byte l = l.out.items ++ words_with l.name (drop l.byte-index l.words) ≡ l.fn.out.items ++ words_with l.name l.words
