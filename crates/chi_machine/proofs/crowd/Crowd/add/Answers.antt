use Rattle.std.proofs.Common.{◌∙◌}
use Rattle.chi_machine.specs.declared.crowd.Crowd.{Crowd}
use Rattle.chi_machine.proofs.Added.{room_for, more_kept, more_runs, added_becomes, added_first}
use Rattle.chi_machine.proofs.Answers.{on_ok, vec_length}
use Rattle.chi_machine.proofs.crowd.Crowd.add.Goals as goal

pub add-requires : goal.add-requires
add-requires c = room_for c.args.self.now c.requires.kept c.requires.room

pub rest_at-requires-clause-kept : goal.rest_at-requires-clause-kept
rest_at-requires-clause-kept c =
    let mid : Crowd = record { instances = c.push.new.self; agenda = c.add.new.self } in
    more_kept c.args.self.now mid c.requires.kept c.requires.room _ _ _ c.in_ok-push.ensures.items c.in_ok-add.ensures.ok c.len-p.result (c.len-p.ensures ∙ vec_length c.args.self.now.instances)

pub rest_at-requires-clause-runs : goal.rest_at-requires-clause-runs
rest_at-requires-clause-runs c =
    let mid : Crowd = record { instances = c.push.new.self; agenda = c.add.new.self } in
    more_runs c.args.self.now mid c.requires.kept c.requires.room _ _ _ c.in_ok-push.ensures.items c.in_ok-add.ensures.ok c.len-p.result (c.len-p.ensures ∙ vec_length c.args.self.now.instances)

pub returns-clause-added : goal.returns-clause-added
returns-clause-added c =
    let mid : Crowd = record { instances = c.push.new.self; agenda = c.add.new.self } in
    on_ok c.rest_at.result c.rest_at.ensures.rests
    (added_becomes c.args.self.now mid c.requires.kept c.requires.room c.args.new.process c.args.new.at c.args.new.room c.in_ok-push.ensures.items c.in_ok-add.ensures.ok c.len-p.result
    (c.len-p.ensures ∙ vec_length c.args.self.now.instances) c.rest_at.new.self c.args.code.now)

pub returns-clause-first : goal.returns-clause-first
returns-clause-first c =
    let mid : Crowd = record { instances = c.push.new.self; agenda = c.add.new.self } in
    on_ok c.rest_at.result c.rest_at.ensures.others
    (added_first c.args.self.now mid c.requires.kept c.requires.room c.args.new.process c.args.new.at c.args.new.room c.in_ok-push.ensures.items c.in_ok-add.ensures.ok c.len-p.result
    (c.len-p.ensures ∙ vec_length c.args.self.now.instances) c.rest_at.new.self)
