use Rattle.std.proofs.Common.{List, sym, subst}
use Rattle.chi_chan.specs.declared.offers.Party.{Party}
use Rattle.chi_chan.specs.Lined.{Ascends, Has}
use Rattle.chi_chan.proofs.Lining.{without-gone, without-stays, without-only, without-ascends}
use Rattle.chi_chan.proofs.line.Line.leave.Goals as goal

pub invariant_of-self : goal.invariant_of-self
invariant_of-self c = subst (Ascends 0) (sym c.leave_all.ensures) (without-ascends c.args.pid 0 c.self.inside.parties.items c.self.invariant)

pub returns-clause-gone : goal.returns-clause-gone
returns-clause-gone c x h = without-gone c.args.pid c.self.inside.parties.items x (subst (λ (l : List Party). Has l x) c.leave_all.ensures h)

pub returns-clause-stays : goal.returns-clause-stays
returns-clause-stays c x z h =
    subst (λ (l : List Party). Has l x) (sym c.leave_all.ensures)
    (without-stays c.args.pid c.self.inside.parties.items x z (subst (λ (l : List Party). Has l x) (sym c.self.view_is) h))

pub returns-clause-only : goal.returns-clause-only
returns-clause-only c x h =
    subst (λ (l : List Party). Has l x) c.self.view_is
    (without-only c.args.pid c.self.inside.parties.items x (subst (λ (l : List Party). Has l x) c.leave_all.ensures h))

pub returns-clause-ascends : goal.returns-clause-ascends
returns-clause-ascends c = subst (Ascends 0) (sym c.leave_all.ensures) (without-ascends c.args.pid 0 c.self.inside.parties.items c.self.invariant)
