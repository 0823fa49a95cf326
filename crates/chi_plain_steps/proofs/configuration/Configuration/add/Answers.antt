use Rattle.std.proofs.Common.{◌≡◌, ◌∙◌, length, ap, arith}
use Rattle.std.proofs.lemmas.List.{length-map}
use Rattle.chi_core.specs.Config.{Config, settled}
use Rattle.chi_plain_steps.proofs.Adding.{kept-add}
use Rattle.chi_plain_steps.proofs.configuration.Configuration.add.Goals as goal

pub invariant_of-self-in-Ok : goal.invariant_of-self-in-Ok
invariant_of-self-in-Ok c =
    let all : length c.self.inside.instances.items ≡ length c.args.self.now.instances = ap (λ (k : Config). length k.instances) c.self.view_is in
    let more : length c.in_ok-more.more.items ≡ length c.args.new.items = ap length c.in_ok-more.ensures.settled ∙ length-map c.args.new.items settled in
    kept-add c.self.inside.instances.items _ c.in_ok-more.more.items c.self.inside.finished.items c.in_ok-more.flags.items _ c.self.invariant c.in-Ok.ensures.items
    c.in_ok-append.ensures.items c.in_ok-more.ensures.flags (let few = c.requires in omega arith)
