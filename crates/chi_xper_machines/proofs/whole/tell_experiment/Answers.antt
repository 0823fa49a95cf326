use Rattle.std.proofs.Common.{sym, ap, ◌∙◌}
use Rattle.chi_engine.specs.Settings.{policy_of}
use Rattle.chi_xper.specs.Experiments.{experiment}
use Rattle.chi_xper_runs.specs.Constants.{Set}
use Rattle.chi_xper_machines.specs.Constants.{constants_in}
use Rattle.chi_xper_machines.specs.Runs.{outcomes_by}
use Rattle.chi_xper_machines.specs.Trials as trials
use Rattle.chi_xper_machines.specs.Trials.{Missing, Broken, Tried}
use Rattle.chi_xper_machines.proofs.Breaking.{breaks_told}
use Rattle.chi_xper_machines.proofs.Telling.{are_named, is_tale, none_there, some_there, first_there}
use Rattle.chi_xper_machines.proofs.whole.tell_experiment.Goals as goal

pub returns-then-is_empty : goal.returns-then-is_empty
returns-then-is_empty c =
    let core = c.args.core.now in
    let terms = c.args.terms in
    is_tale core terms.seed (policy_of terms.pick) terms.bound Missing
    (trials.IsTrial.missing (none_there c.as_slice.result.now core.xpers c.is_empty.result c.is_empty.ensures c.if-is_empty.true c.as_slice.ensures.same)) c.tell_missing.result c.tell_missing.ensures

pub tell_broken-tale-requires : goal.tell_broken-tale-requires
tell_broken-tale-requires c =
    breaks_told c.args.core.now c.args.terms.seed c.in-Breaks.ending (c.in_ok-ending.ensures ∙ ap constants_in c.in-Breaks.is)

pub tell_made-tale-requires-clause-some : goal.tell_made-tale-requires-clause-some
tell_made-tale-requires-clause-some c =
    let core = c.args.core.now in
    first_there core.xpers (some_there c.as_slice.result.now core.xpers c.is_empty.result c.is_empty.ensures c.if-is_empty.false c.as_slice.ensures.same)

pub returns-in-Breaks : goal.returns-in-Breaks
returns-in-Breaks c =
    let core = c.args.core.now in
    let terms = c.args.terms in
    let ending = c.in-Breaks.ending in
    is_tale core terms.seed (policy_of terms.pick) terms.bound (Broken ending)
    (trials.IsTrial.broken (some_there c.as_slice.result.now core.xpers c.is_empty.result c.is_empty.ensures c.if-is_empty.false c.as_slice.ensures.same) ending
    (c.in_ok-ending.ensures ∙ ap constants_in c.in-Breaks.is)) c.tell_broken-tale.result c.tell_broken-tale.ensures

pub returns-in-Set : goal.returns-in-Set
returns-in-Set c =
    let core = c.args.core.now in
    let terms = c.args.terms in
    let values = c.as_slice-in-Set.result.now in
    let outcomes = outcomes_by core (policy_of terms.pick) terms.bound in
    is_tale core terms.seed (policy_of terms.pick) terms.bound (Tried (experiment core values terms.seed outcomes terms.bound))
    (trials.IsTrial.tried (some_there c.as_slice.result.now core.xpers c.is_empty.result c.is_empty.ensures c.if-is_empty.false c.as_slice.ensures.same) values
    (c.in_ok-ending.ensures ∙ ap constants_in c.in-Set.is ∙ ap Set (sym c.as_slice-in-Set.ensures.value)) outcomes
    (are_named c.picked_law.ensures.always core c.requires.sound terms.pick terms.bound c.requires.bound)) c.tell_made-tale.result c.tell_made-tale.ensures
