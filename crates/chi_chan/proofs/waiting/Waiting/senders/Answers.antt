use Rattle.std.proofs.Common.{◌∙◌, ap, subst}
use Rattle.chi_chan.specs.Held.{Offered, senders_on}
use Rattle.chi_chan.specs.Lined.{Ascends}
use Rattle.chi_chan.proofs.Scanning.{senders-scanned}
use Rattle.chi_chan.proofs.waiting.Waiting.senders.Goals as goal

pub returns : goal.returns
returns c =
    let e = c.at.ensures.same in
    e ∙ senders-scanned c.args.channel c.self.inside.seats c.self.inside.senders c.self.invariant.fits (subst (Ascends 0) e c.at.ensures.ascending) c.self.invariant.sending
    ∙ ap (λ (m : Offered). senders_on m c.args.channel) c.self.view_is
