use Rattle.std.proofs.Common.{◌∙◌, refl, sym}
use Rattle.chi.specs.Engines.{abc}
use Rattle.chi.proofs.tests.engines.abc_law.Goals as goal

pub returns-clause-some : goal.returns-clause-some
returns-clause-some c = λ core sound s may. (abc, refl)

pub returns-clause-one : goal.returns-clause-one
returns-clause-one c = λ core s course other p q. p ∙ sym q
