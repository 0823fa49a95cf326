use Rattle.std.proofs.Common.{option_map, ap, sym, subst}
use Rattle.chi_machine_traces.specs.Turns.{LogsBy}
use Rattle.chi_machine_traces.proofs.Answered.{if_ok}
use Rattle.chi_machine_traces.proofs.Showing.{nothing_logged}
use Rattle.chi_machine_traces.proofs.turn.take_told.Goals as goal

pub returns-in-Some-clause-logs : goal.returns-in-Some-clause-logs
returns-in-Some-clause-logs g c =
    if_ok c.take_shown.result c.take_shown.ensures.logs (λ end l core config may.
    subst (λ trace. LogsBy (option_map g.S.Sieve.keeps_to trace) core c.args.course.now.turn config c.args.label.now end c.args.told.now.log.items c.take_shown.new.told.log.items) (sym c.in-Some.is) (l core config may))

pub returns-in-None-clause-logs : goal.returns-in-None-clause-logs
returns-in-None-clause-logs g c =
    if_ok c.take.result c.take.ensures.taken (λ end t core config may.
    nothing_logged (option_map g.S.Sieve.keeps_to c.args.trace.now) (ap (option_map g.S.Sieve.keeps_to) c.in-None.is) core c.args.course.now.turn config c.args.label.now end c.args.told.now.log.items)
