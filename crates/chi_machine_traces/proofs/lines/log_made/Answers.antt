use Rattle.chi_machine_traces.proofs.Showing.{made_logged, unmade_logged}
use Rattle.chi_machine_traces.proofs.lines.log_made.Goals as goal

pub returns-in-Some : goal.returns-in-Some
returns-in-Some g c =
    made_logged c.log_event.result (g.S.Sieve.keeps_to c.args.sieve.now) c.in-Some.event c.args.made.now c.args.log.now.items c.log_event.new.log.items c.in-Some.is c.log_event.ensures

pub returns-in-None : goal.returns-in-None
returns-in-None g c = unmade_logged (g.S.Sieve.keeps_to c.args.sieve.now) c.args.made.now c.args.log.now.items c.in-None.is
