use Rattle.std.proofs.Common.{sym}
use Rattle.chi_check_types.proofs.Firsts.{found_sooner, found_later}
use Rattle.chi_check_types.proofs.fault.note.Goals as goal

pub returns-then-is_sooner : goal.returns-then-is_sooner
returns-then-is_sooner c = sym (found_sooner c.args.kept.now c.in-Some.sooner _ c.in-Some.is (sym c.if-is_sooner.ensures))

pub returns-else-is_sooner : goal.returns-else-is_sooner
returns-else-is_sooner c = sym (found_later c.args.kept.now c.in-Some.sooner _ c.in-Some.is (sym c.if-is_sooner.ensures))
