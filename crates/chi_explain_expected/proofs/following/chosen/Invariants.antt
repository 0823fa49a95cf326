use Rattle.chi_explain_expected.specs.Expected.{tokens_before}
use Rattle.chi_explain_expected.proofs.Choices.{Chosen}
use Rattle.chi_explain_expected.proofs.following.chosen.Given as goal

-- of the classes before this one those that can stand are chosen
abbrev pub invariant-loop-class : goal.invariant-loop-class
invariant-loop-class l = Chosen (tokens_before l.tokens l.k) l.classes l.class-index l.chosen.items
