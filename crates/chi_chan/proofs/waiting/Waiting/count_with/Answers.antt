use Rattle.std.proofs.Common.{ℤ, length, sym, ◌∙◌, ap}
use Rattle.std.proofs.lemmas.Int.{to_z-of_z}
use mir.Syntax.{w64}
use Rattle.chi_chan.specs.Held.{Offered, held, options}
use Rattle.chi_chan.specs.Kept.{offers_or, choices_from}
use Rattle.chi_chan.proofs.Scanning.{kept-options}
use Rattle.chi_chan.proofs.waiting.Waiting.count_with.Goals as goal

pub returns : goal.returns
returns c =
    let k = to_z-of_z w64 c.args.clock c.ranges.clock in
    let waits = ap (λ (m : Offered). held m c.args.pid) c.self.view_is ∙ c.requires in
    let same = ap (λ (t : ℤ). choices_from c.self.inside.receivers t c.args.pid 0 c.args.offers.now) k
    ∙ kept-options c.self.inside.seats c.self.inside.receivers c.self.invariant.fits c.ascending.ensures c.self.invariant.receiving c.args.clock c.args.pid c.args.offers.now
    (sym (ap offers_or waits))
    ∙ ap (λ (m : Offered). options m c.args.clock c.args.pid) c.self.view_is in
    c.count_among.ensures ∙ ap length same
