use Rattle.std.proofs.Common.{◌<◌, ℤ, List, length, sym, ◌∙◌, ap, subst, arith}
use Rattle.std.proofs.lemmas.Int.{to_z-of_z}
use mir.Syntax.{w64}
use Rattle.std.specs.List.{slice_get}
use Rattle.chi_chan.specs.declared.offers.Choice.{Choice}
use Rattle.chi_chan.specs.Held.{Offered, held, options}
use Rattle.chi_chan.specs.Kept.{offers_or, choices_from}
use Rattle.chi_chan.proofs.Scanning.{kept-options, no-options}
use Rattle.chi_chan.proofs.Standing.{waits-fits}
use Rattle.chi_chan.proofs.waiting.Waiting.option_at.Goals as goal

pub choice_among-requires-clause-pid : goal.choice_among-requires-clause-pid
choice_among-requires-clause-pid c =
    let f = waits-fits c.self.inside.seats c.self.inside.senders c.self.inside.receivers c.self.invariant c.args.pid c.in-Some.offers.now c.in-Some.ensures in f.0

pub choice_among-requires-clause-few : goal.choice_among-requires-clause-few
choice_among-requires-clause-few c =
    let f = waits-fits c.self.inside.seats c.self.inside.senders c.self.inside.receivers c.self.invariant c.args.pid c.in-Some.offers.now c.in-Some.ensures in f.1

pub choice_among-requires-clause-some : goal.choice_among-requires-clause-some
choice_among-requires-clause-some c =
    let k = to_z-of_z w64 c.args.clock c.ranges.clock in
    let same = ap (λ (t : ℤ). choices_from c.self.inside.receivers t c.args.pid 0 c.in-Some.offers.now) k
    ∙ kept-options c.self.inside.seats c.self.inside.receivers c.self.invariant.fits c.ascending.ensures c.self.invariant.receiving c.args.clock c.args.pid c.in-Some.offers.now
    (sym (ap offers_or c.in-Some.ensures))
    ∙ ap (λ (m : Offered). options m c.args.clock c.args.pid) c.self.view_is in
    subst (λ (cs : List Choice). c.args.i < length cs) (sym same) c.requires

pub returns : goal.returns
returns c =
    let k = to_z-of_z w64 c.args.clock c.ranges.clock in
    let same = ap (λ (t : ℤ). choices_from c.self.inside.receivers t c.args.pid 0 c.in-Some.offers.now) k
    ∙ kept-options c.self.inside.seats c.self.inside.receivers c.self.invariant.fits c.ascending.ensures c.self.invariant.receiving c.args.clock c.args.pid c.in-Some.offers.now
    (sym (ap offers_or c.in-Some.ensures))
    ∙ ap (λ (m : Offered). options m c.args.clock c.args.pid) c.self.view_is in
    ap (λ (cs : List Choice). slice_get cs c.args.i) (sym same) ∙ c.choice_among.ensures

pub unreachable-requires : goal.unreachable-requires
unreachable-requires c =
    let z = no-options c.args.self.now c.args.clock c.args.pid (ap (λ (m : Offered). held m c.args.pid) (sym c.self.view_is) ∙ c.in-None.ensures) in
    let r = c.requires in omega (arith, z, r)
