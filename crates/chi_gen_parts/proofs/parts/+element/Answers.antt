use Rattle.std.proofs.Common.{◌∙◌, sym, ap, arith}
use Rattle.chi_core.specs.declared.element.CElem.TheVariants as element
use Rattle.chi_gen_parts.proofs.AddedParts.{add_unwind, elements_longer, add_no_element, add_next_element}
use Rattle.chi_gen_parts.proofs.parts.+element.Goals as goal

pub elements-loop-x-init : goal.elements-loop-x-init
elements-loop-x-init t c = add_no_element c.args.code.now.items

pub elements-loop-x-preserved : goal.elements-loop-x-preserved
elements-loop-x-preserved t c = add_next_element c.args.xs.now c.loop-x.x-index c.x-item.result _ _ _ (omega arith) c.x-item.is c.loop-x.invariant c.in_ok-element.ensures

pub element-fill-requires : goal.element-fill-requires
element-fill-requires t c = omega (arith, c.in_ok-top-in-Unwind.ensures.place, c.in_ok-top-in-Unwind.ensures.end, elements_longer _ _ _ c.in_ok-elements-in-Unwind.ensures, c.in_ok-put-in-Unwind-2.ensures.end)

pub element-returns-in_ok-put-in-Unwind-2 : goal.element-returns-in_ok-put-in-Unwind-2
element-returns-in_ok-put-in-Unwind-2 t c =
    add_unwind c.args.x.now c.in-Unwind.names _ c.in-Unwind.e c.as_slice-inner.result.now _ _ c.args.code.now.items _ _ _ _ _ _ (c.in-Unwind.is ∙ ap (element.Unwind c.in-Unwind.names c.in-Unwind.e) (sym c.as_slice-inner.ensures.same))
    c.in_ok-expression-in-Unwind.ensures c.in_ok-put-in-Unwind.ensures c.in_ok-own-in-Unwind.ensures c.in_ok-top-in-Unwind.ensures c.in_ok-elements-in-Unwind.ensures c.in_ok-put-in-Unwind-2.ensures c.place-end.ensures c.fill.ensures
