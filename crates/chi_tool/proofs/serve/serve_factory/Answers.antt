use Rattle.std.proofs.Common.{◌∙◌}
use Rattle.chi_tool.proofs.serve.serve_factory.Goals as goal

pub returns : goal.returns
returns g c = rw (c.in-Ok-unasked.ensures) at (rw (c.deref.ensures.value ∙ c.in-Ok.ensures.source) at c.tell_source.ensures)
