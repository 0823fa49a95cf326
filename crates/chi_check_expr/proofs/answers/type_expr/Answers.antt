use Rattle.chi_check_expr.proofs.Answered.{expr_made}
use Rattle.chi_check_expr.proofs.answers.type_expr.Goals as goal

pub returns-in-Some-made : goal.returns-in-Some-made
returns-in-Some-made c =
    let e = c.in_ok-made.ensures in
    record { answer = expr_made c.args.site c.args.scope.now c.args.tree.now c.in-Some-made.field-0 (cc (e.made, c.in-Some-made.is)) (cc (e.noted, c.in-None.is)) }
