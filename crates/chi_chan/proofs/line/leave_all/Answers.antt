use Rattle.std.proofs.Common.{◌+◌, ◌*◌, ◌∙◌, arith}
use Rattle.chi_chan.proofs.Lining.{places, without-range}
use Rattle.chi_chan.proofs.line.leave_all.Goals as goal

pub cut-requires-clause-order : goal.cut-requires-clause-order
cut-requires-clause-order c =
    places 0 c.args.parties.now.items c.requires.ascends (c.args.pid * 65536) (c.args.pid * 65536 + 65536) c.place_of-first.result c.place_of-after.result
    (omega arith) c.place_of-first.ensures.place c.place_of-after.ensures.place

pub returns : goal.returns
returns c =
    c.cut.ensures
    ∙ without-range c.args.pid 0 c.args.parties.now.items c.place_of-first.result c.place_of-after.result c.requires.ascends
    (c.place_of-first.ensures.place, c.place_of-after.ensures.place)
