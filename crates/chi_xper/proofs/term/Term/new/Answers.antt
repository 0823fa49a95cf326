use Rattle.std.proofs.Common.{◌++◌, ap, ◌∙◌}
use Rattle.std.specs.Prelude.{map}
use Rattle.std.proofs.lemmas.List.{append-nil}
use Rattle.chi_xper.specs.Items.{Do}
use Rattle.chi_xper.specs.Tasks.{todo}
use Rattle.chi_xper.proofs.Tasks.{todo_none}
use Rattle.chi_xper.proofs.term.Term.new.Goals as goal

pub returns : goal.returns
returns c =
    c.in_ok-push_block.ensures ∙ ap (λ l. map Do c.args.body.now ++ todo l) c.new-tasks.ensures.items
    ∙ ap (λ l. map Do c.args.body.now ++ l) todo_none ∙ append-nil (map Do c.args.body.now)
