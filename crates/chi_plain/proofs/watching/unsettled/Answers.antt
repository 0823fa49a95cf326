use Rattle.chi_plain.proofs.Led.{settled_others}
use Rattle.chi_plain.proofs.watching.unsettled.Goals as goal

pub returns-in_ok-affected : goal.returns-in_ok-affected
returns-in_ok-affected c =
    settled_others c.args.label.now c.args.config.now c.args.parties.now c.args.joiners.now c.args.before c.in_ok-affected.field-0.items c.is_advance.result
    c.is_advance.ensures c.if-is_advance.false c.in_ok-affected.ensures
