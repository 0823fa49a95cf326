use Rattle.std.proofs.Common.{refl, sym, subst, append-nil, arith}
use Rattle.chi_core.specs.declared.program.Core.{Core}
use Rattle.chi_core.specs.declared.verdict.Verdict.TheVariants.{Completed}
use Rattle.chi_core.specs.Options.{Ending}
use Rattle.chi_core.specs.VerdictLine.{MayTell}
use Rattle.chi.specs.Engines.{abc}
use Rattle.chi.proofs.tests.engines.put_abc.Goals as goal

completed : (core : Core) → MayTell core Completed
completed core = record { may = refl; within = omega arith }

pub returns-in-Ok-clause-comes : goal.returns-in-Ok-clause-comes
returns-in-Ok-clause-comes g c = λ core. (
  c.in-Ok.ensures.goes_on,
  record {
    course = abc;
    run = refl;
    ended = sym c.of.ensures;
    took_all = c.in-Ok.ensures.ok;
    logged_all = sym (append-nil c.args.log.now.items);
    may = subst (λ (end : Ending). MayTell core end.verdict) (sym c.of.ensures) (completed core);
  },
)

pub returns-in-Err-clause-comes : goal.returns-in-Err-clause-comes
returns-in-Err-clause-comes g c = λ core. (
  c.in-Err.ensures.stopped,
  c.in-Err.ensures.cause,
  record {
    course = abc;
    run = refl;
    front = c.in-Err.ensures.err.0;
    part = c.in-Err.ensures.err.1;
    took_part = c.in-Err.ensures.err.2;
  },
)
