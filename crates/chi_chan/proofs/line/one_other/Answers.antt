use Rattle.std.proofs.Common.{length, ap, sym, ◌∙◌, arith}
use Rattle.chi_chan.specs.declared.offers.Party.{Party}
use Rattle.chi_chan.proofs.Lining.{one-others, one-own}
use Rattle.chi_chan.proofs.line.one_other.Goals as goal

pub returns-then-party_at-pid-clause-count : goal.returns-then-party_at-pid-clause-count
returns-then-party_at-pid-clause-count c =
    sym (ap length (one-own c.args.pid c.args.parties.now.items c.requires (ap (λ (p : Party). p.pid) (sym c.party_at.ensures) ∙ c.if-party_at-pid.true)))

pub returns-else-party_at-pid-clause-count : goal.returns-else-party_at-pid-clause-count
returns-else-party_at-pid-clause-count c =
    let r = c.requires in
    let e = ap length (one-others c.args.pid c.args.parties.now.items r (λ s. c.if-party_at-pid.false (ap (λ (p : Party). p.pid) c.party_at.ensures ∙ s))) in omega (arith, e, r)
