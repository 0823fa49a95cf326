use Rattle.std.proofs.Common.{◌∙◌, ap, ◌∷◌, [], ◌++◌, map}
use Rattle.chi_check_types.specs.Names.{looked_up}
use Rattle.chi_check_types.proofs.Shown.{insert_shown}
use Rattle.chi_check_types.proofs.table.Table.add.Goals as goal

pub returns-in-Ok-clause-ok : goal.returns-in-Ok-clause-ok
returns-in-Ok-clause-ok g c =
    let named = c.in_ok-key.ensures.items in
    ap (map (λ e. (e.0.items, e.1))) c.in-Ok.ensures.entries
    ∙ insert_shown (λ k. k.items) c.self.inside.entries.entries c.in_ok-key.key c.args.value ((λ i. looked_up (c.self.view_is i) (named i)) ∙ c.requires)
    ∙ (λ i. c.self.view_is i ++ (named i, c.args.value) ∷ [])
