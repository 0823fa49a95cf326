use Rattle.std.proofs.Common.{◌∙◌, ap, refl}
use Rattle.chi_core.specs.Variables.{variables_of}
use Rattle.chi_machine_tests.proofs.Values.{ready_with}
use Rattle.chi_machine_tests.proofs.expressions.run.Goals as goal

pub run_expr-ran-requires-clause-ready : goal.run_expr-ran-requires-clause-ready
run_expr-ran-requires-clause-ready c =
    ready_with c.args.p.now.core c.args.p.now.code c.requires.has _ refl c.requires.kinded c.args.at c.requires.value c.args.bound _ _
    (c.in_ok-new.ensures ∙ ap (variables_of 0) c.new.ensures.items) c.view_with.ensures
