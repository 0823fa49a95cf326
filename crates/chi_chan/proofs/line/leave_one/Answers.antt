use Rattle.std.proofs.Common.{ap, sym, ◌∙◌}
use Rattle.chi_chan.specs.declared.offers.Party.{Party}
use Rattle.chi_chan.proofs.Lining.{one-own, one-others}
use Rattle.chi_chan.proofs.line.leave_one.Goals as goal

pub returns-then-party_at-pid : goal.returns-then-party_at-pid
returns-then-party_at-pid c =
    c.clear.ensures.items
    ∙ sym (one-own c.args.pid c.args.parties.now.items c.requires (ap (λ (p : Party). p.pid) (sym c.party_at.ensures) ∙ c.if-party_at-pid.true))

pub returns-else-party_at-pid : goal.returns-else-party_at-pid
returns-else-party_at-pid c =
    sym (one-others c.args.pid c.args.parties.now.items c.requires (λ s. c.if-party_at-pid.false (ap (λ (p : Party). p.pid) c.party_at.ensures ∙ s)))
