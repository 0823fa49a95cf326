use Rattle.std.proofs.Common.{◌≡◌, rules, arith}
use Rattle.std.proofs.lemmas.Grind.{common_steps}
use Rattle.std.specs.Prelude.{Result, Ok, Err, IfOk}
use Rattle.chi_core.specs.Answer.{Gives}
use Rattle.chi_core.specs.Beginning.{constant_value}
use Rattle.chi_xper_machines.proofs.constants.constant.Goals as goal

if_ok : {T E : Type 0} (r : Result T E) {P Q : T → Type 0} → IfOk r P → ((x : T) → P x → Q x) → IfOk r Q
if_ok (Ok x) p f = f x p
if_ok (Err e) p f = tt

pub returns-clause-value : goal.returns-clause-value
returns-clause-value c =
    if_ok c.constant_value-value.result c.constant_value-value.ensures.value (λ v e.
    let g : constant_value c.args.core.now c.args.seed c.args.before.now c.args.c.now ≡ Gives v c.constant_value-value.new.view
    = first_of (search (rules, e), grind (arith, common_steps, e)) in
    (c.constant_value-value.new.view, g))
