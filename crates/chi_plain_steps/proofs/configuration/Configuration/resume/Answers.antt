use Rattle.std.proofs.Common.{◌≡◌, ◌<◌, ◌∙◌, Some, length, ap, sym, refl, arith}
use Rattle.std.specs.Prelude.{slice_set}
use Rattle.std.specs.List.{slice_get}
use Rattle.std.proofs.lemmas.Option.{slice_get_read}
use Rattle.chi_core.specs.Answer.{Gives}
use Rattle.chi_core.specs.Config.{Config}
use Rattle.chi_core.specs.Meeting.{offer_at}
use Rattle.chi_plain_open.specs.Taken.{sent_by}
use Rattle.chi_plain_steps.proofs.Changes.{kept-set}
use Rattle.chi_plain_open.proofs.Going.{on_ok, if_ok}
use Rattle.chi_plain_steps.proofs.Meetings.{resumed_there, resumed_gives, resumed_well}
use Rattle.chi_plain_steps.proofs.configuration.Configuration.resume.Goals as goal

pub resume-sent-requires : goal.resume-sent-requires
resume-sent-requires c =
    let all : length c.self.inside.instances.items ≡ length c.args.self.now.instances = ap (λ (k : Config). length k.instances) c.self.view_is in
    let within : c.args.pid < length c.self.inside.instances.items
    = let h = resumed_there c.args.self.now c.args.pid c.args.number c.args.received c.args.view.now c.requires in omega arith in
    let at : slice_get c.args.self.now.instances c.args.pid ≡ Some c.index_mut-instance.result.now
    = ap (λ (k : Config). slice_get k.instances c.args.pid) (sym c.self.view_is)
    ∙ slice_get_read c.self.inside.instances.items _ c.args.pid c.index_mut-instance.result.now refl within c.index_mut-instance.ensures.value in
    resumed_well c.args.self.now c.args.pid c.args.number c.args.received c.args.view.now _ at c.requires

pub invariant_of-self : goal.invariant_of-self
invariant_of-self c = kept-set _ _ _ _ c.args.pid c.settle.new.self _ c.self.invariant refl refl c.has_finished-finished.ensures

pub returns-clause-resumed : goal.returns-clause-resumed
returns-clause-resumed c =
    let all : length c.self.inside.instances.items ≡ length c.args.self.now.instances = ap (λ (k : Config). length k.instances) c.self.view_is in
    let within : c.args.pid < length c.self.inside.instances.items
    = let h = resumed_there c.args.self.now c.args.pid c.args.number c.args.received c.args.view.now c.requires in omega arith in
    let at : slice_get c.args.self.now.instances c.args.pid ≡ Some c.index_mut-instance.result.now
    = ap (λ (k : Config). slice_get k.instances c.args.pid) (sym c.self.view_is)
    ∙ slice_get_read c.self.inside.instances.items _ c.args.pid c.index_mut-instance.result.now refl within c.index_mut-instance.ensures.value in
    on_ok c.resume-sent.result c.resume-sent.ensures.resumed (λ e.
    resumed_gives c.args.self.now c.args.pid c.args.number c.args.received c.args.view.now c.index_mut-instance.result.now c.resume-sent.new.self c.settle.new.self
    at c.settle.ensures e
    ∙ ap (λ (k : Config). let new : Config = record k { instances = slice_set k.instances c.args.pid c.settle.new.self } in Gives new c.args.view.now) (sym c.self.view_is))

pub returns-clause-sent : goal.returns-clause-sent
returns-clause-sent c =
    let all : length c.self.inside.instances.items ≡ length c.args.self.now.instances = ap (λ (k : Config). length k.instances) c.self.view_is in
    let within : c.args.pid < length c.self.inside.instances.items
    = let h = resumed_there c.args.self.now c.args.pid c.args.number c.args.received c.args.view.now c.requires in omega arith in
    let at : slice_get c.args.self.now.instances c.args.pid ≡ Some c.index_mut-instance.result.now
    = ap (λ (k : Config). slice_get k.instances c.args.pid) (sym c.self.view_is)
    ∙ slice_get_read c.self.inside.instances.items _ c.args.pid c.index_mut-instance.result.now refl within c.index_mut-instance.ensures.value in
    if_ok c.resume-sent.result c.resume-sent.ensures.sent (λ sent e. e ∙ sym (ap (λ o. sent_by (offer_at o c.args.number)) at))
