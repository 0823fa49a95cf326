use Rattle.std.proofs.Common.{refl}
use Rattle.chi_machine.specs.declared.crowd.Crowd.{Crowd}
use Rattle.chi_machine.proofs.Answers.{on_ok, vec_within}
use Rattle.chi_machine.proofs.GoneOn.{joins_within, joins_rest, joins_halt, joined_kept, joined_runs, joined_becomes}
use Rattle.chi_machine.proofs.crowd.Crowd.go_on.Goals as goal

pub index-requires : goal.index-requires
index-requires c = vec_within c.args.self.now.instances c.args.p (joins_within c.args.code.now c.args.self.now c.requires.kept c.args.p c.requires.may)

pub end_join-requires : goal.end_join-requires
end_join-requires c = joins_rest c.args.code.now c.args.self.now c.requires.kept c.args.p c.requires.may c.index.result.now c.index.ensures

pub settle-requires : goal.settle-requires
settle-requires c = joins_halt c.args.code.now c.args.self.now c.requires.kept c.args.p c.requires.may c.index.result.now c.index.ensures

pub rest_at-requires-clause-kept : goal.rest_at-requires-clause-kept
rest_at-requires-clause-kept c = joined_kept c.args.code.now c.args.self.now c.requires.kept c.args.p c.requires.may c.index.result.now c.index.ensures _ refl c.end_join.ensures

pub rest_at-requires-clause-runs : goal.rest_at-requires-clause-runs
rest_at-requires-clause-runs c =
    let mid : Crowd = record { instances = c.args.self.now.instances; agenda = c.end_join.new.self } in
    joined_runs c.args.code.now c.args.self.now c.requires.kept c.args.p c.requires.may c.index.result.now c.index.ensures mid refl c.end_join.ensures

pub returns-clause-goes : goal.returns-clause-goes
returns-clause-goes c =
    on_ok c.rest_at.result c.rest_at.ensures.rests (λ f r.
    joined_becomes c.args.code.now c.args.self.now c.requires.kept c.args.p r c.index.result.now c.index.ensures (record { instances = c.args.self.now.instances; agenda = c.end_join.new.self }) refl c.end_join.ensures c.rest_at.new.self c.settle.result c.settle.ensures f)
