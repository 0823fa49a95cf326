use Rattle.chi_grammar.proofs.Rooms.{Is-within, Front-within}
use Rattle.chi_grammar.proofs.laws.room_law.Goals as goal

pub returns : goal.returns
returns g c = record {
  trees = λ grammar room larger r t blocks expressions p. Is-within grammar p (record { blocks = blocks; expressions = expressions });
  fronts = λ grammar room larger r f blocks expressions p. Front-within grammar p (record { blocks = blocks; expressions = expressions });
}
