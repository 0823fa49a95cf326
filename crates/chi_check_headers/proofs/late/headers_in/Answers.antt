use Rattle.std.proofs.Common.{◌≡◌, sym, ◌∙◌, arith}
use Rattle.std.proofs.lemmas.Grind.{common_steps}
use Rattle.chi_check_headers.proofs.Typed.{header_given, header_noted, headers_noted}
use Rattle.chi_check_headers.proofs.late.headers_in.Goals as goal

pub loop-item-preserved : goal.loop-item-preserved
loop-item-preserved c =
    let l = c.loop-item in
    let x = c.item-item.result in
    let r = c.in_ok-header.ensures in
    record {
      given = header_given c.args.items.now c.args.scope.now _ l.headers.items _ l.item-index x _ l.invariant.given c.loop-item-test.true c.item-item.is r.given c.in_ok-push.ensures.items;
      noted = header_noted c.args.items.now c.args.scope.now _ l.kept _ l.item-index x l.invariant.noted c.loop-item-test.true c.item-item.is r.noted;
    }

pub returns-clause-noted : goal.returns-clause-noted
returns-clause-noted c =
    let l = c.loop-item in
    sym (l.invariant.noted ∙ headers_noted c.args.items.now c.args.scope.now l.item-index l.kept (omega arith))
