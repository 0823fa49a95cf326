use Rattle.std.proofs.Common.{◌∙◌, ap, sym, subst, refl, length, map}
use Rattle.chi_core.specs.Variables.{variables_of}
use Rattle.chi_xper.specs.Conditions.{IsFine}
use Rattle.chi_xper.specs.Experiments.{Told}
use Rattle.chi_xper.specs.Items.{Do}
use Rattle.chi_xper.proofs.Turns.{begins_is}
use Rattle.chi_xper.proofs.whole.begin.Goals as goal

pub go-end-requires-clause-fine : goal.go-end-requires-clause-fine
go-end-requires-clause-fine g c =
    let P : Told → Type 0 = IsFine (g.R.Runner.allows c.args.runner.now) in
    subst P
    (sym (begins_is c.args.setting.now.core.now c.args.setting.now.constants.now c.args.setting.now.seed (g.R.Runner.outcome c.args.runner.now) c.args.setting.now.bound
    (length c.as_slice.result.now) c.args.x.now c.in-Ok.variables c.in-Ok-new.term _ (ap length c.as_slice.ensures.same)
    (c.in-Ok.ensures ∙ ap (variables_of (length c.as_slice.result.now)) c.new.ensures.items)
    (c.in-Ok-new.ensures ∙ ap (map Do) c.as_slice-2.ensures.same) refl))
    c.requires
