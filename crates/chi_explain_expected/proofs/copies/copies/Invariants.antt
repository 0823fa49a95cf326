use Rattle.std.proofs.Common.{◌≡◌, ◌++◌, drop, map}
use Rattle.chi_tree_spell.specs.Words.{token_of}
use Rattle.chi_explain_expected.proofs.copies.copies.Given as goal

abbrev pub invariant-loop-spanned : goal.invariant-loop-spanned
invariant-loop-spanned l = map token_of l.copies.items ++ map token_of (drop l.spanned-index l.tokens) ≡ map token_of l.tokens
