use Rattle.std.proofs.Common.{◌≡◌, rules, arith}
use Rattle.std.proofs.lemmas.Grind.{common_steps}
use Rattle.chi_core.specs.Answer.{Gives}
use Rattle.chi_core.specs.Beginning.{constant_value}
use Rattle.chi_plain_open.proofs.Going.{if_ok}
use Rattle.chi_plain_steps.proofs.beginning.constant.Goals as goal

pub returns-clause-value : goal.returns-clause-value
returns-clause-value c =
    if_ok c.constant_value-value.result c.constant_value-value.ensures.value (λ v e.
    let g : constant_value c.args.core.now c.args.seed c.args.before.now c.args.c.now ≡ Gives v c.constant_value-value.new.view
    = first_of (search (rules, e), grind (arith, common_steps, e)) in
    (c.constant_value-value.new.view, g))
