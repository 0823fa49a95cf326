use Rattle.chi_machine_laws.proofs.Turns.{calls_are_right, calls_follow}
use Rattle.chi_machine_laws.proofs.laws.turns_law.Goals as goal

pub returns : goal.returns
returns c = record {
  turns = λ core code codes sound pick lawful. calls_follow core code codes pick (c.safe_law.ensures.safe core sound pick lawful);
  exact = λ core code codes sound pick lawful. calls_are_right core code codes pick (c.safe_law.ensures.safe core sound pick lawful);
}
