use Rattle.std.proofs.Common.{sym, subst}
use Rattle.chi_plain.specs.Progressing.{Stands}
use Rattle.chi_plain.proofs.Running.{begins_well, begun_stands}
use Rattle.chi_plain.proofs.plain.Plain.new.Goals as goal

pub begin-requires : goal.begin-requires
begin-requires c =
    let m = c.requires.sound.model in
    begins_well c.args.core.now _
    (c.kinded_law.ensures.begins c.args.core.now c.requires.sound m.0 m.1 c.args.arguments.items (c.requires.arguments m.0 m.1) c.args.seed c.args.until)

pub invariant_of-result : goal.invariant_of-result
invariant_of-result c =
    let m = c.requires.sound.model in
    record {
      sound = c.requires.sound;
      stands = subst (Stands c.args.core.now) (sym c.in_ok-progress.ensures)
          (begun_stands c.args.core.now c.args.arguments.items c.args.seed c.args.until c.in_ok-begin.field-0 c.in_ok-begin.ensures
          (c.kinded_law.ensures.begins c.args.core.now c.requires.sound m.0 m.1 c.args.arguments.items (c.requires.arguments m.0 m.1) c.args.seed c.args.until));
    }
