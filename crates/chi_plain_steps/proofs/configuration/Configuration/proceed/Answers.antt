use Rattle.std.proofs.Common.{◌≡◌, ◌<◌, ◌∙◌, Some, length, ap, sym, refl, arith}
use Rattle.std.specs.Prelude.{slice_set}
use Rattle.std.specs.List.{slice_get}
use Rattle.std.proofs.lemmas.Option.{slice_get_read}
use Rattle.chi_core.specs.Config.{Config, Instance}
use Rattle.chi_plain_steps.proofs.Changes.{kept-set}
use Rattle.chi_plain_open.proofs.Going.{at_some}
use Rattle.chi_plain_steps.proofs.configuration.Configuration.proceed.Goals as goal

pub invariant_of-self : goal.invariant_of-self
invariant_of-self c = kept-set _ _ _ _ c.args.pid c.proceed.new.self _ c.self.invariant refl refl c.has_finished-finished.ensures

pub returns : goal.returns
returns c =
    let all : length c.self.inside.instances.items ≡ length c.args.self.now.instances = ap (λ (k : Config). length k.instances) c.self.view_is in
    let within : c.args.pid < length c.self.inside.instances.items = let h = c.requires.there in omega arith in
    let at : slice_get c.args.self.now.instances c.args.pid ≡ Some c.index_mut-instance.result.now
    = ap (λ (k : Config). slice_get k.instances c.args.pid) (sym c.self.view_is)
    ∙ slice_get_read c.self.inside.instances.items _ c.args.pid c.index_mut-instance.result.now refl within c.index_mut-instance.ensures.value in
    at_some _ _ c.index_mut-instance.result.now at
    (ap (λ (k : Config). record k { instances = slice_set k.instances c.args.pid c.proceed.new.self }) c.self.view_is
    ∙ ap (λ (x : Instance). record c.args.self.now { instances = slice_set c.args.self.now.instances c.args.pid x }) c.proceed.ensures)
