use Rattle.std.proofs.Common.{◌≡◌, sym, subst}
use Rattle.std.specs.Prelude.{IfOk}
use Rattle.chi_tool.specs.Readings.{unparsed_report}
use Rattle.chi_tool.specs.Refusals.{syntax}
use Rattle.chi_tool.specs.Reported.{report_in}
use Rattle.chi_tool.proofs.refusal.told_unparsed.Goals as goal

pub returns-in-Syntax : goal.returns-in-Syntax
returns-in-Syntax c =
    subst (λ it. IfOk c.told_syntax.result (λ r. report_in r ≡ unparsed_report c.args.source.now it)) (sym c.in-Syntax.is)
    (subst (λ ts. IfOk c.told_syntax.result (λ r. report_in r ≡ syntax c.args.source.now ts c.in-Syntax.fault)) c.deref.ensures.value c.told_syntax.ensures)
