use Rattle.std.proofs.Common.{◌≡◌, ◌∙◌, ap, drop, length, vec_len, arith}
use Rattle.std.proofs.lemmas.Grind.{common_steps}
use Rattle.chi_xper.proofs.Tasks.{todo_pop}
use Rattle.chi_xper.proofs.term.Term.drop_first.Goals as goal

pub returns : goal.returns
returns c =
    let n : vec_len c.self.inside.tasks ≡ length c.self.inside.tasks.items = grind (arith, common_steps) in
    todo_pop _ _ _ _ c.pop.ensures.items n c.pop.ensures.variant ∙ ap (drop 1) c.self.view_is
