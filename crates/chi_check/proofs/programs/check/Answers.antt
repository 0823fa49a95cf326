use Rattle.chi_check.proofs.Answered.{accepted, broken}
use Rattle.chi_check.proofs.programs.check.Goals as goal

pub returns-in-Some : goal.returns-in-Some
returns-in-Some c = record { answers = broken c.args.tree.now _ c.as_slice.ensures.same _ c.in_ok-made.ensures.noted _ c.in-Some.is }

pub returns-in_ok-with_streams-in-Some-made : goal.returns-in_ok-with_streams-in-Some-made
returns-in_ok-with_streams-in-Some-made c = record {
  answers = accepted c.args.tree.now _ c.as_slice.ensures.same _ c.in_ok-made.ensures.noted _ _ _ c.in-None.is c.in_ok-made.ensures.made c.in-Some-made.is c.in_ok-with_streams-in-Some-made.ensures.streams;
}
