use Rattle.std.proofs.Common.{◌+◌, ◌∙◌, Some, ap, drop, sym, refl}
use Rattle.chi_core.specs.Variables.{bindings_at}
use Rattle.chi_plain_open.proofs.Keeping.{joined, bindings_set, bindings_more}
use Rattle.chi_plain_open.proofs.opening.bindings_at.Goals as goal

pub get-requires : goal.get-requires
get-requires c =
    bindings_set c.args.variables.now c.args.slots.now c.loop-slot.slot-index _ c.loop-slot.bindings.items _ c.loop-slot-test.true refl c.loop-slot.invariant c.requires

pub loop-slot-preserved : goal.loop-slot-preserved
loop-slot-preserved c =
    c.loop-slot.invariant
    ∙ bindings_more c.args.variables.now c.args.slots.now c.loop-slot.slot-index _ c.in_ok-value.value c.loop-slot.bindings.items c.loop-slot-test.true refl
    (c.get.ensures ∙ ap Some (sym c.in_ok-value.ensures.copied))
    ∙ ap (λ b. joined b (bindings_at (drop (c.loop-slot.slot-index + 1) c.args.slots.now) c.args.variables.now)) (sym c.in_ok-push.ensures.items)
