use Rattle.std.proofs.Common.{List, refl, subst}
use Rattle.chi_code.specs.declared.instr.Instr.{Instr}
use Rattle.chi_exec.specs.Hints.{AreRight}
use Rattle.chi_machine_constants.specs.declared.setting.Constants.{Constants}
use Rattle.chi_machine_constants.specs.Settings.{HaveCome}
use Rattle.chi_machine.proofs.Begins.{is_ready_so}
use Rattle.chi_machine.proofs.world.World.begin.Goals as goal

pub returns : goal.returns
returns c =
    is_ready_so c.args.code.now c.args.arguments.items c.args.seed c.args.until _ c.requires.0 c.requires.1
    (subst (λ (o : Constants). HaveCome c.args.code.now c.args.seed o) c.in-Set.is c.in_ok-values.ensures)
    (subst (λ (l : List Instr). AreRight c.in_ok-hints.hints.items l) c.as_slice.ensures.same c.in_ok-hints.ensures.right)
    c.in_ok-crowd.ensures c.in_ok-exec.ensures refl
