use Rattle.chi_plain.proofs.Led.{led_on}
use Rattle.chi_plain.proofs.watching.Watched.take.Goals as goal

pub mended-requires : goal.mended-requires
mended-requires c =
    led_on c.args.core.now c.self.inside.configuration c.take.new.self c.args.label.now c.args.left c.args.out.now.items c.take.new.out.items
    c.in_ok-rest.field-0 c.in-On.rest c.self.inside.kept c.in_ok-known.known c.self.invariant c.in_ok-known.ensures c.in_ok-rest.ensures.taken c.in-On.is
