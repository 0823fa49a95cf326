use Rattle.std.proofs.Common.{arith, inr, refl}
use Rattle.chi_trace.specs.declared.filter.Filter.TheVariants.{All}
use Rattle.chi_sched.specs.Policies.{listed}
use Rattle.chi_tool.specs.Serving.{untold}
use Rattle.chi_tool.specs.Settings.{Wanted, settings_with, trace_by}
use Rattle.chi_tool.proofs.LawClauses.{SourceLaw}
use Rattle.chi_engine.proofs.Policies.{formula_given}
use Rattle.chi_tool.proofs.Runs.{asked_settings, listed_lawful}
use Rattle.chi_tool.proofs.Simulations.{simulation-headline, simulation-own}
use Rattle.chi_tool.proofs.Sinks.{still}
use Rattle.chi_tool.proofs.library.replay.Goals as goal

pub returns-in_default-clause-headline : goal.returns-in_default-clause-headline
returns-in_default-clause-headline g c =
    let law : SourceLaw = record { some = c.source_law.ensures.some; one = c.source_law.ensures.one } in
    let below = c.requires.bound in
    simulation-headline law _ c.requires.within (omega arith, listed_lawful c.args.picks.now)
    (untold refl (record { took = still _; goes = c.requires.out_goes }) (record { took = still _; goes = c.requires.log_goes }))

pub returns-in_default-clause-complete : goal.returns-in_default-clause-complete
returns-in_default-clause-complete g c =
    λ out log core comes arguments means.
    let below = c.requires.bound in
    let w : Wanted = record {
      seed = c.args.seed;
      bound = c.args.bound;
      pick = listed c.args.picks.now;
      texts = c.args.texts.now;
      until = c.args.until;
      trace = trace_by c.args.trace All;
    } in
    let may = asked_settings c.values_are_of_parameters.ensures core w arguments means.model means.is means.read (omega arith, listed_lawful c.args.picks.now) in
    let ran = c.one_run_law.ensures.some c.args.source.now core c.requires.within comes (settings_with w arguments) may in
    (ran.0, ran.1, inr refl)

pub returns-clause-headline : goal.returns-clause-headline
returns-clause-headline g c =
    rw (c.in-Ok.ensures.items) at (c.simulate.ensures.headline (listed c.in-Ok.picks.items) (formula_given (listed c.in-Ok.picks.items) (listed_lawful c.in-Ok.picks.items)))

pub returns-clause-causes : goal.returns-clause-causes
returns-clause-causes g c =
    rw (c.in-Ok.ensures.items) at (c.simulate.ensures.causes (listed c.in-Ok.picks.items) (formula_given (listed c.in-Ok.picks.items) (listed_lawful c.in-Ok.picks.items)))

pub returns-clause-complete : goal.returns-clause-complete
returns-clause-complete g c =
    rw (c.in-Ok.ensures.items) at (c.simulate.ensures.complete (listed c.in-Ok.picks.items) (formula_given (listed c.in-Ok.picks.items) (listed_lawful c.in-Ok.picks.items)))

pub returns-clause-own : goal.returns-clause-own
returns-clause-own g c =
    let law : SourceLaw = record { some = c.source_law.ensures.some; one = c.source_law.ensures.one } in
    simulation-own law _ c.own_picks_law.ensures
    (rw (c.in-Ok.ensures.items) at (c.simulate.ensures.headline (listed c.in-Ok.picks.items) (formula_given (listed c.in-Ok.picks.items) (listed_lawful c.in-Ok.picks.items))))
    c.args.picks.now refl
