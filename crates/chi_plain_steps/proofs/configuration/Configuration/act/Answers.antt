use Rattle.std.proofs.Common.{◌≡◌, ◌<◌, ◌∙◌, Some, None, length, ap, sym, subst, refl, arith, rules}
use Rattle.std.specs.Prelude.{slice_set}
use Rattle.std.specs.List.{slice_get}
use Rattle.std.proofs.lemmas.Int.{to_z-of_z}
use Rattle.std.proofs.lemmas.Option.{slice_get_read}
use mir.Syntax.{w64}
use mir.Val.{to_z, of_z}
use Rattle.chi_core.specs.Answer.{Answer, Gives, giving}
use Rattle.chi_core.specs.Config.{Config, Instance, scene_of, with_instance}
use Rattle.chi_core.specs.Performing.{Change, quietly}
use Rattle.chi_core_frame.specs.Stops.{Stops}
use Rattle.chi_plain_eval.specs.Surroundings.{scene_in}
use Rattle.chi_plain_steps.specs.Configurations.{config_at}
use Rattle.chi_plain_steps.specs.Plans.{own_of}
use Rattle.chi_plain_steps.proofs.Changes.{kept-set}
use Rattle.chi_plain_open.proofs.Going.{at_known, giving_stops, if_err, on_ok}
use Rattle.chi_plain_steps.proofs.Planned.{scene_is, seen_shared, shared_gives}
use Rattle.chi_plain_steps.proofs.configuration.Configuration.act.Goals as goal

pub act-acted-requires : goal.act-acted-requires
act-acted-requires c =
    let all : length c.self.inside.instances.items ≡ length c.args.self.now.instances = ap (λ (k : Config). length k.instances) c.self.view_is in
    let within : c.args.pid < length c.self.inside.instances.items = let h = c.requires.there in omega arith in
    let at : slice_get c.args.self.now.instances c.args.pid ≡ Some c.index_mut-instance.result.now
    = ap (λ (k : Config). slice_get k.instances c.args.pid) (sym c.self.view_is)
    ∙ slice_get_read c.self.inside.instances.items _ c.args.pid c.index_mut-instance.result.now refl within c.index_mut-instance.ensures.value in
    let time : to_z w64 (of_z w64 c.self.inside.clock) ≡ c.self.inside.clock = to_z-of_z w64 c.self.inside.clock (search rules) in
    let here : Config = config_at c.self.inside.clock c.self.inside.draws c.self.inside.channels c.self.inside.instances.items c.self.inside.seed c.self.inside.until c.self.inside.constants.items in
    let sees : scene_in c.surroundings-scene.result ≡ scene_of c.args.core.now c.args.self.now
    = scene_is c.args.core.now here _ _ _ _ c.surroundings-scene.ensures.scene time c.as_slice.ensures.value (c.as_slice-2.ensures.value ∙ c.self.invariant.flags)
    ∙ ap (scene_of c.args.core.now) c.self.view_is in
    let none : own_of c.index_mut-instance.result.now.term ≡ None = at_known _ (λ (i : Instance). own_of i.term ≡ None) _ at c.requires.shared in
    let does = seen_shared c.args.core.now c.args.self.now c.args.pid c.index_mut-instance.result.now c.args.view.now c.surroundings-scene.result at sees c.surroundings-scene.ensures.functions none in
    λ e. c.requires.well (does ∙ ap (giving (λ j. quietly (with_instance c.args.self.now c.args.pid j))) e)

pub returns-clause-acted : goal.returns-clause-acted
returns-clause-acted c =
    let all : length c.self.inside.instances.items ≡ length c.args.self.now.instances = ap (λ (k : Config). length k.instances) c.self.view_is in
    let within : c.args.pid < length c.self.inside.instances.items = let h = c.requires.there in omega arith in
    let at : slice_get c.args.self.now.instances c.args.pid ≡ Some c.index_mut-instance.result.now
    = ap (λ (k : Config). slice_get k.instances c.args.pid) (sym c.self.view_is)
    ∙ slice_get_read c.self.inside.instances.items _ c.args.pid c.index_mut-instance.result.now refl within c.index_mut-instance.ensures.value in
    let time : to_z w64 (of_z w64 c.self.inside.clock) ≡ c.self.inside.clock = to_z-of_z w64 c.self.inside.clock (search rules) in
    let here : Config = config_at c.self.inside.clock c.self.inside.draws c.self.inside.channels c.self.inside.instances.items c.self.inside.seed c.self.inside.until c.self.inside.constants.items in
    let sees : scene_in c.surroundings-scene.result ≡ scene_of c.args.core.now c.args.self.now
    = scene_is c.args.core.now here _ _ _ _ c.surroundings-scene.ensures.scene time c.as_slice.ensures.value (c.as_slice-2.ensures.value ∙ c.self.invariant.flags)
    ∙ ap (scene_of c.args.core.now) c.self.view_is in
    let none : own_of c.index_mut-instance.result.now.term ≡ None = at_known _ (λ (i : Instance). own_of i.term ≡ None) _ at c.requires.shared in
    let does = seen_shared c.args.core.now c.args.self.now c.args.pid c.index_mut-instance.result.now c.args.view.now c.surroundings-scene.result at sees c.surroundings-scene.ensures.functions none in
    on_ok c.act-acted.result c.act-acted.ensures.acted (λ e.
    does ∙ shared_gives c.args.self.now c.args.pid _ c.act-acted.new.self c.act-acted.new.view e
    ∙ ap (λ (k : Config). let new : Config = record k { instances = slice_set k.instances c.args.pid c.act-acted.new.self } in Gives (quietly new) c.act-acted.new.view) (sym c.self.view_is))

pub returns-clause-stops : goal.returns-clause-stops
returns-clause-stops c =
    let all : length c.self.inside.instances.items ≡ length c.args.self.now.instances = ap (λ (k : Config). length k.instances) c.self.view_is in
    let within : c.args.pid < length c.self.inside.instances.items = let h = c.requires.there in omega arith in
    let at : slice_get c.args.self.now.instances c.args.pid ≡ Some c.index_mut-instance.result.now
    = ap (λ (k : Config). slice_get k.instances c.args.pid) (sym c.self.view_is)
    ∙ slice_get_read c.self.inside.instances.items _ c.args.pid c.index_mut-instance.result.now refl within c.index_mut-instance.ensures.value in
    let time : to_z w64 (of_z w64 c.self.inside.clock) ≡ c.self.inside.clock = to_z-of_z w64 c.self.inside.clock (search rules) in
    let here : Config = config_at c.self.inside.clock c.self.inside.draws c.self.inside.channels c.self.inside.instances.items c.self.inside.seed c.self.inside.until c.self.inside.constants.items in
    let sees : scene_in c.surroundings-scene.result ≡ scene_of c.args.core.now c.args.self.now
    = scene_is c.args.core.now here _ _ _ _ c.surroundings-scene.ensures.scene time c.as_slice.ensures.value (c.as_slice-2.ensures.value ∙ c.self.invariant.flags)
    ∙ ap (scene_of c.args.core.now) c.self.view_is in
    let none : own_of c.index_mut-instance.result.now.term ≡ None = at_known _ (λ (i : Instance). own_of i.term ≡ None) _ at c.requires.shared in
    let does = seen_shared c.args.core.now c.args.self.now c.args.pid c.index_mut-instance.result.now c.args.view.now c.surroundings-scene.result at sees c.surroundings-scene.ensures.functions none in
    if_err c.act-acted.result c.act-acted.ensures.stops (λ stop e.
    let P : Answer Change → Type 0 = Stops stop in
    subst P (sym does) (giving_stops stop _ (λ j. quietly (with_instance c.args.self.now c.args.pid j)) e))

pub invariant_of-self : goal.invariant_of-self
invariant_of-self c = kept-set _ _ _ _ c.args.pid c.act-acted.new.self _ c.self.invariant refl refl c.has_finished-finished.ensures
