use Rattle.std.proofs.Common.{◌≡◌, Err, sym, subst}
use Rattle.chi_core.specs.declared.program.ProcDef.{ProcDef}
use Rattle.chi_cli.specs.Arguments.{values_of}
use Rattle.chi_tool.specs.Arguments.{IsMisfitExplained}
use Rattle.chi_tool.proofs.explain.misfit_of.Goals as goal

pub text_of_misfit-requires : goal.text_of_misfit-requires
text_of_misfit-requires c =
    let its = c.requires.misfits in
    let same : its.model ≡ c.args.model.now = cc (its.is, c.requires.model) in
    let read = subst (λ (d : ProcDef). values_of d.params c.args.texts.now ≡ Err c.args.misfit.fault) same its.read in
    subst (λ ps. values_of ps c.args.texts.now ≡ Err c.args.misfit.fault) (sym c.as_slice.ensures.same) read

pub returns : goal.returns
returns c =
    let its = c.requires.misfits in
    let same : its.model ≡ c.args.model.now = cc (its.is, c.requires.model) in
    let explains = subst (λ ps. IsMisfitExplained ps c.args.texts.now c.args.misfit.fault c.in_ok-text.text.items) c.as_slice.ensures.same c.in_ok-text.ensures in (
      its,
      c.in_ok-text.text.items,
      subst (λ (d : ProcDef). IsMisfitExplained d.params c.args.texts.now c.args.misfit.fault c.in_ok-text.text.items) (sym same) explains,
      c.alone.ensures,
    )
