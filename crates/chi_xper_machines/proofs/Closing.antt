-- The end of an experiment can be told, and what is told of it.
use Rattle.std.proofs.Common.{◌≡◌, ◌≢◌, ℕ, ℤ, List, [], ◌++◌, Option, Some, None, refl, sym, ◌∙◌, subst}
use Rattle.std.specs.Prelude.{codes, slice_get}
use Rattle.std.specs.Fmt.{decimal}
use Rattle.chi_value.specs.declared.value.Value.{Value}
use Rattle.chi_core.specs.declared.experiment.XperDef.{XperDef}
use Rattle.chi_core.specs.declared.fault.FaultKind.{FaultKind}
use Rattle.chi_core.specs.declared.program.Core.{Core}
use Rattle.chi_core.specs.declared.verdict.Verdict.{Verdict}
use Rattle.chi_core.specs.Kinded.{KindedConstants}
use Rattle.chi_core.specs.Picks.{Pick}
use Rattle.chi_core.specs.Sound.{Sound}
use Rattle.chi_core.specs.VerdictLine.{MayTell, verdict_line_of}
use Rattle.chi_xper.specs.declared.ending.XEnd.{XEnd}
use Rattle.chi_xper.specs.declared.ending.XEnd.TheVariants as xend
use Rattle.chi_xper.specs.Ends.{EndsAs}
use Rattle.chi_xper.specs.Experiments as experiments
use Rattle.chi_xper.specs.Experiments.{Outcomes, End, Done, Run, Fault, Spent, Told, experiment}
use Rattle.chi_xper_runs.specs.Models.{AreOutcomes, IsWithoutValue, RunsEndWithoutValue, VerdictsCanBeTold}
use Rattle.chi_xper_machines.specs.declared.tale.Ended.{Ended}
use Rattle.chi_xper_machines.specs.declared.tale.Ended.TheVariants as word
use Rattle.chi_xper_machines.specs.declared.tale.Tale.{Tale}
use Rattle.chi_xper_machines.specs.Closings.{EndsIt, MayClose, Tells, called, fault_line, line_for, name_of, run_line, word_by, word_for}
use Rattle.chi_xper_machines.specs.Trials as trials
use Rattle.chi_xper_machines.specs.Trials.{EndOf, TellsEnd, Tried}
use Rattle.chi_xper_machines.proofs.Words.{word_of_run}

-- where a run ends it, it is one of the program's, without a value, and its verdict can be told
abbrev pub RunsEndIt : Core → Told → Type 0
RunsEndIt core told = (number model : ℕ) (verdict : Verdict) (clock : ℤ) → told.end ≡ Run number model verdict clock → EndsIt core model verdict

pub runs_end_it : RunsEndWithoutValue → VerdictsCanBeTold → (core : Core) → Sound core → (constants : List Value) → KindedConstants core constants → (seed : ℕ) (pick : Pick) (bound most : ℕ)
    (outcomes : Outcomes) → AreOutcomes core pick most outcomes → RunsEndIt core (experiment core constants seed outcomes bound)
runs_end_it without can core sound constants kinded seed pick bound most outcomes are number model verdict clock e =
    let w : IsWithoutValue core outcomes model verdict clock = without core sound constants kinded seed pick bound most outcomes are number model verdict clock e in
    let t = can core sound pick most outcomes are model w.exit w.arguments w.may w.seed in
    record {
      d = w.may.d;
      is = w.may.is;
      may = subst (MayTell core) (sym w.ended) t.0;
      none = w.none;
      goes_on = λ stopped. t.1 (sym w.ended ∙ stopped);
    }

not_none : {A : Type 0} (o : Option A) (x : A) → o ≡ Some x → o ≡ None → ⊥
not_none o x is none = absurd (cc)

first_of_them : (xs : List XperDef) → slice_get xs 0 ≢ None → (x : XperDef) × (slice_get xs 0 ≡ Some x)
first_of_them xs some = by_option (slice_get xs 0) some
  where
    by_option : (o : Option XperDef) → o ≢ None → (x : XperDef) × (o ≡ Some x)
    by_option None none = absurd (none refl)
    by_option (Some x) none = (x, refl)

-- so its end can be told
pub may_close : (core : Core) (told : Told) (before after : List ℕ) (end : XEnd) → EndsAs told before after end → RunsEndIt core told → MayClose core end
may_close core told before after (xend.Done count) ends it = tt
may_close core told before after (xend.Run number model verdict clock) ends it =
    let r : EndsIt core model verdict = it number model verdict clock ends.0 in (λ none. not_none (slice_get core.procs model) r.d r.is none, r.may)
may_close core told before after (xend.Fault kind line count) ends it = tt
may_close core told before after (xend.Spent count) ends it = tt
may_close core told before after xend.NoMemory ends it = tt

-- the word and the line for an end are those for what is told, which ended so
told_of : (core : Core) (told : Told) (it : End) (ended : Ended) (line : List ℕ) (tale : Tale) → told.end ≡ it → EndOf it ended → TellsEnd core it line → tale.ended ≡ ended → tale.log.items ≡ line
    → tale.out.items ≡ told.output → Tells core (Tried told) tale
told_of core told it ended line tale e f t w l out = record {
  ended = trials.EndsSo.tried told tale.ended (subst (λ g. EndOf told.end g) (sym w) (subst (λ x. EndOf x ended) (sym e) f));
  out = out;
  log = trials.Logs.tried told tale.log.items (subst (λ m. TellsEnd core told.end m) (sym l) (subst (λ x. TellsEnd core x line) (sym e) t));
}

-- a run's line names its model
run_names : (core : Core) (number model : ℕ) (verdict : Verdict) (clock : ℤ) → EndsIt core model verdict → TellsEnd core (Run number model verdict clock) (run_line core number model verdict clock)
run_names core number model verdict clock r =
    subst (λ o. TellsEnd core (Run number model verdict clock)
    (codes "run " ++ decimal number ++ codes " of " ++ name_of o ++ codes ": " ++ verdict_line_of core.names.kinds verdict clock)) (sym r.is)
    (trials.TellsEnd.run number model verdict clock r.d r.is)

fault_names : (core : Core) (kind : FaultKind) (line count : ℕ) (x : XperDef) → slice_get core.xpers 0 ≡ Some x
    → TellsEnd core (Fault kind line count) (fault_line (called (slice_get core.xpers 0)) kind line count)
fault_names core kind line count x is = subst (λ o. TellsEnd core (Fault kind line count) (fault_line (called o) kind line count)) (sym is) (trials.TellsEnd.fault kind line count x is)

pub closes_told : (core : Core) (told : Told) (end : XEnd) (tale : Tale) → slice_get core.xpers 0 ≢ None → RunsEndIt core told → EndsAs told [] tale.out.items end → end ≢ xend.NoMemory
    → tale.ended ≡ word_for end → tale.log.items ≡ line_for core end → Tells core (Tried told) tale
closes_told core told (xend.Done count) tale some it ends on w l = told_of core told (Done count) _ _ tale ends.0 (trials.EndOf.done count) (trials.TellsEnd.done count) w l ends.1
closes_told core told (xend.Run number model verdict clock) tale some it ends on w l =
    let r : EndsIt core model verdict = it number model verdict clock ends.0 in
    told_of core told (Run number model verdict clock) _ _ tale ends.0 (word_of_run number model verdict clock r.none r.goes_on) (run_names core number model verdict clock r) w l ends.1
closes_told core told (xend.Fault kind line count) tale some it ends on w l =
    let x = first_of_them core.xpers some in
    told_of core told (Fault kind line count) _ _ tale ends.0 (trials.EndOf.fault kind line count) (fault_names core kind line count x.0 x.1) w l ends.1
closes_told core told (xend.Spent count) tale some it ends on w l = told_of core told (Spent count) _ _ tale ends.0 (trials.EndOf.spent count) (trials.TellsEnd.spent count) w l ends.1
closes_told core told xend.NoMemory tale some it ends on w l = absurd (on refl)

-- each end that isn't amiss has a word and a line
abbrev pub HasWordAndLine : Core → End → Type 0
HasWordAndLine core it = ((ended : Ended) × EndOf it ended) × ((line : List ℕ) × TellsEnd core it line)

pub has_word_and_line : (core : Core) (it : End) → slice_get core.xpers 0 ≢ None → it ≢ experiments.Amiss
    → ((number model : ℕ) (verdict : Verdict) (clock : ℤ) → it ≡ Run number model verdict clock → EndsIt core model verdict) → HasWordAndLine core it
has_word_and_line core (Done count) some well runs = ((word.Completed, trials.EndOf.done count), (_, trials.TellsEnd.done count))
has_word_and_line core (Run number model verdict clock) some well runs =
    let r : EndsIt core model verdict = runs number model verdict clock refl in
    ((word_by verdict, word_of_run number model verdict clock r.none r.goes_on), (_, trials.TellsEnd.run number model verdict clock r.d r.is))
has_word_and_line core (Fault kind line count) some well runs =
    let x = first_of_them core.xpers some in ((word.Faulted, trials.EndOf.fault kind line count), (_, trials.TellsEnd.fault kind line count x.0 x.1))
has_word_and_line core (Spent count) some well runs = ((word.OutOfSteps, trials.EndOf.spent count), (_, trials.TellsEnd.spent count))
has_word_and_line core experiments.Amiss some well runs = absurd (well refl)
