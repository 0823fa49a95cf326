use Rattle.std.proofs.Common.{◌≡◌, ◌<◌, ◌∙◌, Some, length, ap, sym, refl, arith}
use Rattle.std.specs.Prelude.{slice_set}
use Rattle.std.specs.List.{slice_get}
use Rattle.std.proofs.lemmas.Option.{slice_get_read}
use Rattle.chi_core.specs.Answer.{Gives}
use Rattle.chi_core.specs.Config.{Config}
use Rattle.chi_core.specs.Performing.{quietly}
use Rattle.chi_plain_steps.proofs.Changes.{kept-set}
use Rattle.chi_plain_steps.proofs.Meetings.{joined_there, joined_gives}
use Rattle.chi_plain_steps.proofs.configuration.Configuration.join.Goals as goal

pub invariant_of-self : goal.invariant_of-self
invariant_of-self c = kept-set _ _ _ _ c.args.pid c.go_on.new.self _ c.self.invariant refl refl c.has_finished-finished.ensures

pub returns : goal.returns
returns c =
    let all : length c.self.inside.instances.items ≡ length c.args.self.now.instances = ap (λ (k : Config). length k.instances) c.self.view_is in
    let within : c.args.pid < length c.self.inside.instances.items
    = let h = joined_there c.args.self.now c.args.pid c.args.view.now c.requires in omega arith in
    let at : slice_get c.args.self.now.instances c.args.pid ≡ Some c.index_mut-instance.result.now
    = ap (λ (k : Config). slice_get k.instances c.args.pid) (sym c.self.view_is)
    ∙ slice_get_read c.self.inside.instances.items _ c.args.pid c.index_mut-instance.result.now refl within c.index_mut-instance.ensures.value in
    joined_gives c.args.self.now c.args.pid c.args.view.now c.index_mut-instance.result.now c.go_on.new.self at c.go_on.ensures c.requires
    ∙ ap (λ (k : Config). let new : Config = record k { instances = slice_set k.instances c.args.pid c.go_on.new.self } in Gives (quietly new) c.args.view.now) (sym c.self.view_is)
