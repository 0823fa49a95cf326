use Rattle.chi_machine.proofs.Added.{Adding}
use Rattle.chi_machine.proofs.crowd.Crowd.add_all.Given as goal

abbrev pub invariant-loop-new : goal.invariant-loop-new
invariant-loop-new l = Adding l.code l.fn.self l.self l.new-iterator.rest.items l.fn.made.items
