use Rattle.std.proofs.Common.{arith}
use Rattle.chi_gen_parts.proofs.AddedExpressions.{add_op, add_and, add_or, add_build, add_part, add_call, add_insert, add_repeat, expr_longer, add_none, add_next}
use Rattle.chi_gen_parts.proofs.expressing.+expression.Goals as goal

pub all-loop-x-init : goal.all-loop-x-init
all-loop-x-init t c = add_none c.args.code.now.items

pub all-loop-x-preserved : goal.all-loop-x-preserved
all-loop-x-preserved t c = add_next c.args.xs.now c.loop-x.x-index c.x-item.result _ _ _ (omega arith) c.x-item.is c.loop-x.invariant c.in_ok-expression.ensures

pub expression-returns-in_ok-put-in-Op : goal.expression-returns-in_ok-put-in-Op
expression-returns-in_ok-put-in-Op t c =
    add_op c.args.x.now c.args.code.now.items c.in-Op.name c.in-Op.parts _ _ _ c.in-Op.is c.in_ok-expressions-in-Op.ensures c.in_ok-number_of-in-Op.ensures c.in_ok-put-in-Op.ensures

pub expression-returns-in_ok-put-in-Build : goal.expression-returns-in_ok-put-in-Build
expression-returns-in_ok-put-in-Build t c =
    add_build c.args.x.now c.args.code.now.items c.in-Build.kind c.in-Build.parts _ _ _ c.in-Build.is c.in_ok-expressions-in-Build.ensures c.in_ok-number_of-in-Build.ensures c.in_ok-put-in-Build.ensures

pub expression-returns-in_ok-put-in-Call : goal.expression-returns-in_ok-put-in-Call
expression-returns-in_ok-put-in-Call t c = add_call c.args.x.now c.args.code.now.items c.in-Call.number c.in-Call.parts _ _ c.in-Call.is c.in_ok-expressions-in-Call.ensures c.in_ok-put-in-Call.ensures

pub expression-returns-in_ok-put-in-Part : goal.expression-returns-in_ok-put-in-Part
expression-returns-in_ok-put-in-Part t c = add_part c.args.x.now c.args.code.now.items c.in-Part.a c.in-Part.number _ _ c.in-Part.is c.in_ok-boxed-in-Part.ensures c.in_ok-put-in-Part.ensures

pub expression-fill-requires : goal.expression-fill-requires
expression-fill-requires t c = omega (arith, c.in_ok-at-in-And.ensures.place, c.in_ok-at-in-And.ensures.end, expr_longer _ _ _ c.in_ok-boxed-in-And-2.ensures)

pub expression-returns-in_ok-boxed-in-And-2 : goal.expression-returns-in_ok-boxed-in-And-2
expression-returns-in_ok-boxed-in-And-2 t c =
    add_and c.args.x.now c.args.code.now.items c.in-And.a c.in-And.b _ _ _ _ _ _ c.in-And.is c.in_ok-boxed-in-And.ensures c.in_ok-at-in-And.ensures c.in_ok-boxed-in-And-2.ensures c.place-end.ensures c.fill.ensures

pub expression-fill-requires-in-Or : goal.expression-fill-requires-in-Or
expression-fill-requires-in-Or t c = omega (arith, c.in_ok-at-in-Or.ensures.place, c.in_ok-at-in-Or.ensures.end, expr_longer _ _ _ c.in_ok-boxed-in-Or-2.ensures)

pub expression-returns-in_ok-boxed-in-Or-2 : goal.expression-returns-in_ok-boxed-in-Or-2
expression-returns-in_ok-boxed-in-Or-2 t c =
    add_or c.args.x.now c.args.code.now.items c.in-Or.a c.in-Or.b _ _ _ _ _ _ c.in-Or.is c.in_ok-boxed-in-Or.ensures c.in_ok-at-in-Or.ensures c.in_ok-boxed-in-Or-2.ensures c.place-end-in-Or.ensures c.fill-in-Or.ensures

pub expression-returns-in_ok-put-in-InsertBy-5 : goal.expression-returns-in_ok-put-in-InsertBy-5
expression-returns-in_ok-put-in-InsertBy-5 t c =
    add_insert c.args.x.now c.args.code.now.items c.in-InsertBy.a c.in-InsertBy.b c.in-InsertBy.number _ _ _ _ _ _ _ _ _ c.in-InsertBy.is c.in_ok-boxed-in-InsertBy.ensures c.in_ok-boxed-in-InsertBy-2.ensures
    c.in_ok-put-in-InsertBy.ensures c.place-top.ensures c.in_ok-end-in-InsertBy.ensures c.in_ok-put-in-InsertBy-2.ensures c.in_ok-put-in-InsertBy-3.ensures c.in_ok-put-in-InsertBy-4.ensures c.in_ok-put-in-InsertBy-5.ensures

pub expression-fill-requires-in-Repeat : goal.expression-fill-requires-in-Repeat
expression-fill-requires-in-Repeat t c =
    omega (arith, c.in_ok-top-in-Repeat.ensures.place, c.in_ok-top-in-Repeat.ensures.end, expr_longer _ _ _ c.in_ok-boxed-in-Repeat-2.ensures, c.in_ok-put-in-Repeat-2.ensures.end, c.in_ok-put-in-Repeat-3.ensures.end)

pub expression-returns-in_ok-put-in-Repeat-3 : goal.expression-returns-in_ok-put-in-Repeat-3
expression-returns-in_ok-put-in-Repeat-3 t c =
    add_repeat c.args.x.now c.args.code.now.items c.in-Repeat.a c.in-Repeat.b _ _ _ _ _ _ _ _ _ c.in-Repeat.is c.in_ok-boxed-in-Repeat.ensures c.in_ok-put-in-Repeat.ensures c.in_ok-top-in-Repeat.ensures
    c.in_ok-boxed-in-Repeat-2.ensures c.in_ok-put-in-Repeat-2.ensures c.in_ok-put-in-Repeat-3.ensures c.place-end-in-Repeat.ensures c.fill-in-Repeat.ensures
