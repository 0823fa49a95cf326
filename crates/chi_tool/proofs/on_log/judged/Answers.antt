use Rattle.chi_tool.specs.Settings.{unpicked_of}
use Rattle.chi_tool.proofs.OnLogs.{judged_from, yes_told, no_told}
use Rattle.chi_tool.proofs.on_log.judged.Goals as goal

pub returns-in-Yes : goal.returns-in-Yes
returns-in-Yes c =
    let core = c.args.core.now in
    let u = unpicked_of c.args.asked.now in
    let values = c.args.arguments.items in
    let said =
    judged_from core values u.seed u.bound c.args.text.now c.judge.new.out.items _ u.until _ _ _ c.units_of_until-until.ensures c.new-output.ensures.items
    c.in-Yes.is c.judge.ensures in
    yes_told core c.args.purpose u c.args.text.now values c.told.result said.0 c.in-Yes.picks.items c.judge.new.out.items said.1 said.2 (rw (c.as_slice.ensures.value) at c.told.ensures)

pub returns-in-No : goal.returns-in-No
returns-in-No c =
    let core = c.args.core.now in
    let u = unpicked_of c.args.asked.now in
    let values = c.args.arguments.items in
    let said =
    judged_from core values u.seed u.bound c.args.text.now c.judge.new.out.items _ u.until _ _ _ c.units_of_until-until.ensures c.new-output.ensures.items
    c.in-No.is c.judge.ensures in
    no_told core c.args.purpose u c.args.text.now values c.no_log.result c.in-No.line said.1 c.no_log.ensures
