use Rattle.std.proofs.Common.{sym, ◌∙◌, ap, take, map}
use Rattle.std.proofs.lemmas.List.{take-map}
use Rattle.chi_check_types.proofs.table.Table.cut.Goals as goal

pub returns : goal.returns
returns g c = ap (map (λ e. (e.0.items, e.1))) c.truncate.ensures.entries ∙ sym (take-map _ c.args.count _) ∙ ap (take c.args.count) c.self.view_is
