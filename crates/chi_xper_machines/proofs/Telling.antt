-- The experiment of a program, as it is made and told.
use Rattle.std.proofs.Common.{◌≡◌, ◌≢◌, ℕ, ◌^◌, ◌<◌, Bool, true, false, ◌==◌, List, [], ◌∷◌, ◌++◌, codes, None, length, refl, sym, ◌∙◌, subst, arith}
use Rattle.std.specs.Prelude.{Result, Ok, Err, IfOk, slice_get}
use Rattle.std.proofs.lemmas.Bool.{eqb-true}
use Rattle.chi_cli.specs.declared.request.Pick as words
use Rattle.chi_value.specs.declared.value.Value.{Value}
use Rattle.chi_core.specs.declared.experiment.XperDef.{XperDef}
use Rattle.chi_core.specs.declared.program.Core.{Core}
use Rattle.chi_core.specs.Kinded.{KindedConstants}
use Rattle.chi_core.specs.Options.{Ending}
use Rattle.chi_core.specs.Picks.{Pick}
use Rattle.chi_core.specs.Sound.{Sound}
use Rattle.chi_core.specs.VerdictLine.{verdict_line_of}
use Rattle.chi_core_runs.specs.Picked.{PickedAlways}
use Rattle.chi_engine.specs.Settings.{policy_of}
use Rattle.chi_engine.proofs.Policies.{named_lawful}
use Rattle.chi_xper.specs.Experiments.{experiment}
use Rattle.chi_xper_runs.specs.Models.{AreOutcomes, RunsEndWithoutValue, VerdictsCanBeTold}
use Rattle.chi_xper_machines.specs.declared.tale.Ended.TheVariants as word
use Rattle.chi_xper_machines.specs.declared.tale.Tale.{Tale}
use Rattle.chi_xper_machines.specs.Closings.{Tells}
use Rattle.chi_xper_machines.specs.Runs.{outcomes_by}
use Rattle.chi_xper_machines.specs.Trials as trials
use Rattle.chi_xper_machines.specs.Trials.{Trial, Missing, Broken, IsTrial, IsTale, Logs}
use Rattle.chi_xper_machines.proofs.Closing.{RunsEndIt, runs_end_it}
use Rattle.chi_xper_machines.proofs.Made.{are_by}

-- what comes of runs by a policy that words name
pub are_named : PickedAlways → (core : Core) → Sound core → (p : words.Pick) (bound : ℕ) → bound < 2 ^ 63 → AreOutcomes core (policy_of p) bound (outcomes_by core (policy_of p) bound)
are_named always core sound p bound small = are_by always core sound (policy_of p) (named_lawful p) bound small

pub runs_end_by : PickedAlways → RunsEndWithoutValue → VerdictsCanBeTold → (core : Core) → Sound core → (p : words.Pick) (bound : ℕ) → bound < 2 ^ 63 → (values : List Value)
    → KindedConstants core values → (seed : ℕ) → RunsEndIt core (experiment core values seed (outcomes_by core (policy_of p) bound) bound)
runs_end_by always without can core sound p bound small values kinded seed =
    runs_end_it without can core sound values kinded seed (policy_of p) bound bound (outcomes_by core (policy_of p) bound) (are_named always core sound p bound small)

pub missing_told : (core : Core) (tale : Tale) → tale.ended ≡ word.Missing → tale.out.items ≡ [] → tale.log.items ≡ codes "no xper\n" → Tells core Missing tale
missing_told core tale w out log = record {
  ended = subst (λ e. trials.EndsSo Missing e) (sym w) trials.EndsSo.missing;
  out = out;
  log = subst (λ l. Logs core Missing l) (sym log) trials.Logs.missing;
}

pub broken_told : (core : Core) (ending : Ending) (tale : Tale) (before : List ℕ) → tale.ended ≡ word.Faulted → tale.out.items ≡ []
    → tale.log.items ≡ before ++ verdict_line_of core.names.kinds ending.verdict ending.clock → before ≡ [] → Tells core (Broken ending) tale
broken_told core ending tale before w out log none =
    let line : List ℕ = verdict_line_of core.names.kinds ending.verdict ending.clock in
    let all : tale.log.items ≡ line = log ∙ (λ i. none i ++ verdict_line_of core.names.kinds ending.verdict ending.clock) in
    record {
      ended = subst (λ e. trials.EndsSo (Broken ending) e) (sym w) (trials.EndsSo.broken ending);
      out = out;
      log = subst (λ l. Logs core (Broken ending) l) (sym all) (trials.Logs.broken ending);
    }

-- what is told of what came of an experiment is told of it
pub is_tale : {E : Type 0} (core : Core) (seed : ℕ) (pick : Pick) (bound : ℕ) (trial : Trial) → IsTrial core seed pick bound trial → (r : Result Tale E) → IfOk r (Tells core trial)
    → IfOk r (IsTale core seed pick bound)
is_tale core seed pick bound trial is (Ok tale) t = record { trial = trial; is = is; ended = t.ended; out = t.out; log = t.log }
is_tale core seed pick bound trial is (Err e) t = tt

-- whether there is an experiment

pub none_there : (xs ys : List XperDef) (b : Bool) → b ≡ (length xs == 0) → b ≡ true → xs ≡ ys → ys ≡ []
none_there [] ys b e t same = sym same
none_there (x ∷ xs) ys b e t same = absurd (let no : length (x ∷ xs) ≡ 0 = eqb-true (length (x ∷ xs)) 0 (sym e ∙ t) in omega (arith, no))

pub some_there : (xs ys : List XperDef) (b : Bool) → b ≡ (length xs == 0) → b ≡ false → xs ≡ ys → ys ≢ []
some_there [] ys b e f same none = absurd (let no : true ≡ false = sym e ∙ f in cc)
some_there (x ∷ xs) ys b e f same none = absurd (let no : x ∷ xs ≡ [] = same ∙ none in cc)

pub first_there : (xs : List XperDef) → xs ≢ [] → slice_get xs 0 ≢ None
first_there [] some none = some refl
first_there (x ∷ xs) some none = absurd (cc)
