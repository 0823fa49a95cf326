use Rattle.std.proofs.Common.{◌∙◌, ap, sym}
use Rattle.chi_core.specs.Variables.{Variables}
use Rattle.chi_core_frame.specs.Terms.{item_of}
use Rattle.chi_plain_eval.specs.Surroundings.{value_in}
use Rattle.chi_plain_open.proofs.Going.{on_ok}
use Rattle.chi_plain_costs.specs.Tried.{tried_item}
use Rattle.chi_plain_costs.proofs.Foretold.{tried_goes}
use Rattle.chi_plain_costs.proofs.trying.try_shared.Goals as goal

pub returns-clause-goes : goal.returns-clause-goes
returns-clause-goes c =
    let item = item_of c.in-Some.task.now in
    let same = ap (λ (v : Variables). tried_item (value_in c.args.scene.now v) item c.args.view.now) (sym c.variables.ensures) in
    on_ok c.try_item.result c.try_item.ensures.goes (λ e.
    tried_goes (value_in c.args.scene.now) c.args.instance.now item c.args.view.now c.try_item.new.view c.in-Some.ensures c.requires (same ∙ e))
