use Rattle.std.proofs.Common.{sym, refl, ◌∙◌}
use Rattle.chi_parse.proofs.Ending.{last_ends-some, last_ends-none}
use Rattle.chi_parse.proofs.launches.last_ends.Goals as goal

pub returns-in-Some : goal.returns-in-Some
returns-in-Some c = c.ends.ensures ∙ sym (last_ends-some c.args.elements.now _ _ refl (sym c.in-Some.ensures.value))

pub returns-in-None : goal.returns-in-None
returns-in-None c = sym (last_ends-none c.args.elements.now _ refl (sym c.in-None.ensures.value))
