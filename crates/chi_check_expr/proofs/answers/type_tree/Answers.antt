use Rattle.chi_check_expr.proofs.Answered.{type_made}
use Rattle.chi_check_expr.proofs.answers.type_tree.Goals as goal

pub returns-in-Some-2 : goal.returns-in-Some-2
returns-in-Some-2 c =
    let e = c.in_ok-meant.ensures in
    let d = c.in_ok-default-in-Some-meant.ensures.default in
    record { answer = type_made c.args.site c.args.scope.now c.args.tree.now c.args.local c.in-Some-meant.field-0 c.in-Some-2.default (cc (e.made, c.in-Some-meant.is)) (cc (e.noted, c.in-None.is)) (cc (d, c.in-Some-2.is)) }
