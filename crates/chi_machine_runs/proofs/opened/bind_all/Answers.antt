use Rattle.std.proofs.Common.{rules, refl}
use Rattle.std.specs.Prelude.{slice_index_or}
use Rattle.chi_machine_runs.specs.Kept.{bound_to}
use Rattle.chi_machine_runs.proofs.Bound.{bound_set, bound_more, bound_all}
use Rattle.chi_machine_runs.proofs.opened.bind_all.Goals as goal

pub get-requires : goal.get-requires
get-requires c =
    bound_set c.args.alternative c.args.names.now c.args.variables.now c.loop-slot.slot-index (slice_index_or c.args.names.now c.loop-slot.slot-index 0)
    c.args.bindings.now.items c.loop-slot.bindings.items (search rules) refl c.loop-slot.invariant c.requires.set

pub loop-slot-preserved : goal.loop-slot-preserved
loop-slot-preserved c =
    let slot = slice_index_or c.args.names.now c.loop-slot.slot-index 0 in
    bound_more c.args.alternative c.args.names.now c.args.variables.now c.loop-slot.slot-index slot
    c.args.bindings.now.items c.loop-slot.bindings.items (search rules) refl c.loop-slot.invariant
    c.in_ok-value.value (bound_to c.args.alternative (slot, c.in_ok-value.value)) c.push.new.self.items (search rules) refl (search rules)

pub returns-clause-bound : goal.returns-clause-bound
returns-clause-bound c =
    bound_all c.args.alternative c.args.names.now c.args.variables.now c.loop-slot.slot-index c.args.bindings.now.items c.loop-slot.bindings.items (search rules) c.loop-slot.invariant
