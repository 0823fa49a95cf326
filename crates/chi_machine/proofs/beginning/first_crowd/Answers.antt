use Rattle.std.proofs.Common.{sym, ◌∙◌}
use Rattle.chi_machine.proofs.Begins.{as_many, entry_there, not_past}
use Rattle.chi_machine.proofs.beginning.first_crowd.Goals as goal

pub alone-requires-clause-there : goal.alone-requires-clause-there
alone-requires-clause-there c =
    entry_there c.args.code.now.procs c.as_slice.result.now c.as_slice.ensures.same c.args.code.now.model c.in-Some.entry.now c.in-Some.ensures.lookup.3.0 c.in-Some.ensures.lookup.1

pub alone-requires-clause-arity : goal.alone-requires-clause-arity
alone-requires-clause-arity c =
    let there = entry_there c.args.code.now.procs c.as_slice.result.now c.as_slice.ensures.same c.args.code.now.model c.in-Some.entry.now c.in-Some.ensures.lookup.3.0 c.in-Some.ensures.lookup.1 in
    as_many c.args.arguments.items c.requires.0 c.in-Some.entry.now (sym c.requires.1 ∙ there) c.requires.2

pub unreachable-requires : goal.unreachable-requires
unreachable-requires c =
    not_past c.args.code.now.procs c.as_slice.result.now c.as_slice.ensures.same c.args.code.now.model c.requires.0 c.requires.1 c.in-None.ensures.lookup.3
