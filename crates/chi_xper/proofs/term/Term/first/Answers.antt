use Rattle.std.proofs.Common.{◌-◌, length, ap, ◌∙◌, slice_get}
use Rattle.chi_xper.proofs.Tasks.{first_is}
use Rattle.chi_xper.proofs.term.Term.first.Goals as goal

pub returns : goal.returns
returns c =
    first_is _ c.self.inside.tasks.items _ c.self.view_is
    (c.last.ensures.value ∙ ap (λ l. slice_get l (length l - 1)) c.deref.ensures.value)
