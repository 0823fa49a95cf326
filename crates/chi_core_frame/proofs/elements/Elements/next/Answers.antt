use Rattle.std.proofs.Common.{sym}
use Rattle.chi_core_frame.specs.Elements.{held_by}
use Rattle.chi_core_frame.proofs.Leaving.{none_left}
use Rattle.chi_core_frame.proofs.elements.Elements.next.Goals as goal

pub returns-in-None : goal.returns-in-None
returns-in-None c = none_left (held_by c.self.inside.held) c.args.self.now c.self.inside.taken c.self.view_is (sym c.in-None.ensures.same)
