use Rattle.chi.proofs.tests.engines.AbcEngine.run.Goals as goal

pub returns-clause-comes : goal.returns-clause-comes
returns-clause-comes g c = λ core coded. c.put_abc.ensures.comes core
