use Rattle.std.proofs.Common.{refl}
use Rattle.std.specs.Vec.{with_item}
use Rattle.chi_machine.specs.declared.crowd.Crowd.{Crowd}
use Rattle.chi_machine.proofs.Answers.{vec_within}
use Rattle.chi_machine.proofs.GoneOn.{takes_within, takes_room, takes_seen, takes_may, takes_sent, takes_halt, takes_becomes, takes_kept, takes_runs}
use Rattle.chi_machine.proofs.crowd.Crowd.take_offer.Goals as goal

pub index-requires : goal.index-requires
index-requires c = vec_within c.args.self.now.instances c.args.p (takes_within c.args.code.now c.args.self.now c.requires.kept c.args.p c.args.a c.args.received c.requires.may)

pub go_on-requires : goal.go_on-requires
go_on-requires c =
    takes_seen c.args.code.now c.args.self.now c.requires.kept c.args.p c.args.a c.args.received c.requires.may c.index.result.now c.index.ensures c.in-Some.room c.in-Some.is c.offers.result.now c.offers.ensures.offers

pub unreachable-requires : goal.unreachable-requires
unreachable-requires c =
    takes_room c.args.code.now c.args.self.now c.requires.kept c.args.p c.args.a c.args.received c.requires.may c.index.result.now c.index.ensures c.in-None.is

pub index_mut-instance-requires : goal.index_mut-instance-requires
index_mut-instance-requires c = vec_within c.args.self.now.instances c.args.p (takes_within c.args.code.now c.args.self.now c.requires.kept c.args.p c.args.a c.args.received c.requires.may)

pub resume-sent-requires-clause-there : goal.resume-sent-requires-clause-there
resume-sent-requires-clause-there c =
    takes_room c.args.code.now c.args.self.now c.requires.kept c.args.p c.args.a c.args.received c.requires.may c.index_mut-instance.result.now c.index_mut-instance.ensures.value

pub resume-sent-requires-clause-may : goal.resume-sent-requires-clause-may
resume-sent-requires-clause-may c =
    takes_may c.args.code.now c.args.self.now c.requires.kept c.args.p c.args.a c.args.received c.requires.may c.index_mut-instance.result.now c.index_mut-instance.ensures.value

pub settle-requires : goal.settle-requires
settle-requires c =
    takes_halt c.args.code.now c.args.self.now c.requires.kept c.args.p c.args.a c.args.received c.requires.may c.index_mut-instance.result.now c.index_mut-instance.ensures.value
    c.resume-sent.new.self _ c.resume-sent.ensures.resumed

pub rest_at-requires-clause-kept : goal.rest_at-requires-clause-kept
rest_at-requires-clause-kept c =
    takes_kept c.args.code.now c.args.self.now c.requires.kept c.args.p c.args.a c.args.received c.requires.may _ c.resume-sent.new.self c.resume-sent.ensures.there refl c.go_on.ensures

pub rest_at-requires-clause-runs : goal.rest_at-requires-clause-runs
rest_at-requires-clause-runs c =
    let mid : Crowd = record { instances = with_item c.args.self.now.instances c.args.p c.resume-sent.new.self; agenda = c.go_on.new.self } in
    takes_runs c.args.code.now c.args.self.now c.requires.kept c.args.p c.args.a c.args.received c.requires.may mid c.resume-sent.new.self refl c.go_on.ensures

pub returns-clause-resumed : goal.returns-clause-resumed
returns-clause-resumed c = λ r.
    let mid : Crowd = record { instances = with_item c.args.self.now.instances c.args.p c.resume-sent.new.self; agenda = c.go_on.new.self } in
    takes_becomes c.args.code.now c.args.self.now c.requires.kept c.args.p c.args.a c.args.received r c.index_mut-instance.result.now c.index_mut-instance.ensures.value
    c.resume-sent.new.self c.resume-sent.result.1 c.resume-sent.ensures.resumed mid c.rest_at.new.self c.settle.result refl c.go_on.ensures c.settle.ensures
    c.resume-sent.ensures.process c.resume-sent.ensures.under c.in_ok-rest_at.ensures.rests

pub returns-clause-sent : goal.returns-clause-sent
returns-clause-sent c = λ r.
    takes_sent c.args.code.now c.args.self.now c.requires.kept c.args.p c.args.a c.args.received r c.index_mut-instance.result.now c.index_mut-instance.ensures.value
    c.resume-sent.result.0 c.resume-sent.ensures.sent
