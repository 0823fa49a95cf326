use Rattle.std.proofs.Common.{◌∙◌, ap, subst}
use Rattle.chi_chan.specs.Held.{Offered, receivers_on}
use Rattle.chi_chan.specs.Lined.{Ascends}
use Rattle.chi_chan.proofs.Scanning.{receivers-scanned}
use Rattle.chi_chan.proofs.waiting.Waiting.receivers.Goals as goal

pub returns : goal.returns
returns c =
    let e = c.at.ensures.same in
    e ∙ receivers-scanned c.args.channel c.self.inside.seats c.self.inside.receivers c.self.invariant.fits (subst (Ascends 0) e c.at.ensures.ascending) c.self.invariant.receiving
    ∙ ap (λ (m : Offered). receivers_on m c.args.channel) c.self.view_is
