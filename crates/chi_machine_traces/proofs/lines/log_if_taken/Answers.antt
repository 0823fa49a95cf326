use Rattle.std.proofs.Common.{sym, ◌∙◌}
use Rattle.chi_machine_traces.proofs.Showing.{taken_logged, untaken_logged}
use Rattle.chi_machine_traces.proofs.lines.log_if_taken.Goals as goal

pub returns-then-was_taken : goal.returns-then-was_taken
returns-then-was_taken g c =
    taken_logged c.log_made.result (g.S.Sieve.keeps_to c.args.sieve.now) c.args.made.now c.args.log.now.items c.log_made.new.log.items c.args.end.now (sym c.was_taken.ensures ∙ c.if-was_taken.true) c.log_made.ensures

pub returns-else-was_taken : goal.returns-else-was_taken
returns-else-was_taken g c =
    untaken_logged (g.S.Sieve.keeps_to c.args.sieve.now) c.args.made.now c.args.log.now.items c.args.end.now (sym c.was_taken.ensures ∙ c.if-was_taken.false)
