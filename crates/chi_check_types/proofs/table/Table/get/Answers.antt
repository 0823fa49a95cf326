use Rattle.std.proofs.Common.{◌∙◌, ap}
use Rattle.chi_check_types.specs.Names.{looked_up}
use Rattle.chi_check_types.proofs.Shown.{known_shown}
use Rattle.chi_check_types.proofs.table.Table.get.Goals as goal

pub returns : goal.returns
returns g c = c.get.ensures.value ∙ known_shown (λ k. k.items) c.args.name.now _ ∙ ap (λ s. looked_up s c.args.name.now) c.self.view_is
