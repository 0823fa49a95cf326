use Rattle.std.proofs.Common.{Option}
use Rattle.chi_trace.specs.declared.filter.Filter.{Filter}
use Rattle.chi_tool.specs.Settings.{Wanted, trace_by}
use Rattle.chi_tool.proofs.LawClauses.{SourceLaw}
use Rattle.chi_tool.proofs.Simulations.{tells_kept, may_be_simulated, simulation-headline, simulation-causes, simulation-complete}
use Rattle.chi_tool.proofs.library.simulate_probed.Goals as goal

pub returns-clause-headline : goal.returns-clause-headline
returns-clause-headline g c pick answers =
    let law : SourceLaw = record { some = c.source_law.ensures.some; one = c.source_law.ensures.one } in
    let wanted : Option Filter → Wanted = λ trace. record { seed = c.args.seed; bound = c.args.bound; pick = pick; texts = c.args.texts.now; until = c.args.until; trace = trace } in
    let may = may_be_simulated (g.P.Chooser.gives c.args.policy) (wanted (trace_by c.args.trace (g.S.Sieve.keeps_to c.args.probe))) c.requires.bound answers in
    simulation-headline law _ c.requires.within may
    (tells_kept g.S.Sieve.keeps_to c.args.trace c.args.probe c.trace_by-trace.result c.trace_by-trace.ensures c.args.source.now wanted _ _ _
    (c.tell_terms.ensures pick answers))

pub returns-clause-causes : goal.returns-clause-causes
returns-clause-causes g c pick answers =
    let law : SourceLaw = record { some = c.source_law.ensures.some; one = c.source_law.ensures.one } in
    let wanted : Option Filter → Wanted = λ trace. record { seed = c.args.seed; bound = c.args.bound; pick = pick; texts = c.args.texts.now; until = c.args.until; trace = trace } in
    let may = may_be_simulated (g.P.Chooser.gives c.args.policy) (wanted (trace_by c.args.trace (g.S.Sieve.keeps_to c.args.probe))) c.requires.bound answers in
    simulation-causes law _ c.requires.within may
    (tells_kept g.S.Sieve.keeps_to c.args.trace c.args.probe c.trace_by-trace.result c.trace_by-trace.ensures c.args.source.now wanted _ _ _
    (c.tell_terms.ensures pick answers))

pub returns-clause-complete : goal.returns-clause-complete
returns-clause-complete g c pick answers =
    let law : SourceLaw = record { some = c.source_law.ensures.some; one = c.source_law.ensures.one } in
    let wanted : Option Filter → Wanted = λ trace. record { seed = c.args.seed; bound = c.args.bound; pick = pick; texts = c.args.texts.now; until = c.args.until; trace = trace } in
    let may = may_be_simulated (g.P.Chooser.gives c.args.policy) (wanted (trace_by c.args.trace (g.S.Sieve.keeps_to c.args.probe))) c.requires.bound answers in
    simulation-complete law _ c.requires.within may
    (tells_kept g.S.Sieve.keeps_to c.args.trace c.args.probe c.trace_by-trace.result c.trace_by-trace.ensures c.args.source.now wanted _ _ _
    (c.tell_terms.ensures pick answers))
    c.one_run_law.ensures.some c.values_are_of_parameters.ensures
