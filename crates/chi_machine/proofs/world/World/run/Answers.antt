use Rattle.std.proofs.Common.{◌<◌, length, rules, w64, FitsSigned, arith, refl, ◌∙◌}
use Rattle.std.proofs.lemmas.Int.{to_z-of_z}
use Rattle.chi_machine_agenda.specs.Phases.{Running}
use Rattle.chi_machine.proofs.Answers.{vec_within, vec_length}
use Rattle.chi_machine.proofs.Crowded.{as_many, kept_moved, runs_fit}
use Rattle.chi_machine.proofs.Listed.{get_set}
use Rattle.chi_machine.proofs.Ran.{there_within, runs_there, place_fits, place_read, room_read, stands_read, halts_read, has_run_read, within_same}
use Rattle.chi_machine.proofs.world.World.run.Goals as goal

pub index-requires : goal.index-requires
index-requires c = vec_within c.args.self.now.crowd.instances c.args.p (there_within c.args.code.now c.args.self.now c.requires.kept c.args.p c.args.left c.requires.may)

pub overflow_add-at : goal.overflow_add-at
overflow_add-at c =
    let w : c.index.result.now.at < length c.args.code.now.instrs = place_read c.args.code.now c.args.self.now c.requires.kept c.args.p c.args.left c.requires.may c.index.result.now c.index.ensures in
    grind (arith, place_fits)

pub index_mut-instance-requires : goal.index_mut-instance-requires
index_mut-instance-requires c = vec_within c.args.self.now.crowd.instances c.args.p (there_within c.args.code.now c.args.self.now c.requires.kept c.args.p c.args.left c.requires.may)

pub run_in-requires-clause-there : goal.run_in-requires-clause-there
run_in-requires-clause-there c =
    room_read c.args.code.now c.args.self.now c.requires.kept c.args.p c.args.left c.requires.may c.index_mut-instance.result.now c.index_mut-instance.ensures.value

pub run_in-requires-clause-halts : goal.run_in-requires-clause-halts
run_in-requires-clause-halts c =
    let fits : FitsSigned w64 c.clock.result = search rules in
    halts_read c.args.code.now c.args.self.now c.requires.kept c.args.p c.args.left c.requires.may c.index_mut-instance.result.now c.index_mut-instance.ensures.value c.set_out.new.m _
    (stands_read c.args.code.now c.args.self.now c.requires.kept c.args.p c.args.left c.requires.may c.index.result.now c.index_mut-instance.result.now c.index.ensures c.index_mut-instance.ensures.value
    c.set_out.new.m c.len-count.result (c.len-count.ensures ∙ vec_length c.args.self.now.crowd.instances) c.set_out.ensures.stands)
    (within_same c.args.code.now c.args.self.now c.args.self.now.seed _ c.as_slice.result.now c.finished.result.now (as_many c.args.self.now.crowd c.requires.kept.crowd) refl
    (to_z-of_z w64 c.clock.result fits ∙ c.clock.ensures) c.as_slice.ensures.value c.finished.ensures)

pub returns-clause-kept : goal.returns-clause-kept
returns-clause-kept c = record {
  hints = c.requires.kept.hints;
  crowd = kept_moved c.args.self.now.crowd c.requires.kept.crowd _ c.args.p c.run_in.new.instance Running (runs_there c.args.code.now c.args.self.now c.requires.kept c.args.p c.args.left c.requires.may) refl refl
      (runs_fit c.run_in.new.instance.room c.run_in.ensures.there);
}

pub returns-clause-ran : goal.returns-clause-ran
returns-clause-ran c =
    let fits : FitsSigned w64 c.clock.result = search rules in
    has_run_read c.args.code.now c.args.self.now c.requires.kept c.args.p c.args.left c.requires.may c.index_mut-instance.result.now c.index_mut-instance.ensures.value c.set_out.new.m _
    (stands_read c.args.code.now c.args.self.now c.requires.kept c.args.p c.args.left c.requires.may c.index.result.now c.index_mut-instance.result.now c.index.ensures c.index_mut-instance.ensures.value
    c.set_out.new.m c.len-count.result (c.len-count.ensures ∙ vec_length c.args.self.now.crowd.instances) c.set_out.ensures.stands)
    (within_same c.args.code.now c.args.self.now c.args.self.now.seed _ c.as_slice.result.now c.finished.result.now (as_many c.args.self.now.crowd c.requires.kept.crowd) refl
    (to_z-of_z w64 c.clock.result fits ∙ c.clock.ensures) c.as_slice.ensures.value c.finished.ensures)
    _ c.run_in.new.instance c.run_in.result c.run_in.ensures.ran c.run_in.ensures.process c.run_in.ensures.at refl refl
    (get_set c.args.self.now.crowd.instances.items c.args.p c.run_in.new.instance (there_within c.args.code.now c.args.self.now c.requires.kept c.args.p c.args.left c.requires.may)) refl refl
