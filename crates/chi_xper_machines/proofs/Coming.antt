-- Of the experiment of a sound program comes one thing.
use Rattle.std.proofs.Common.{◌≡◌, ◌≢◌, ℕ, List, [], ◌∷◌, refl, sym, ap, ◌∙◌}
use Rattle.std.specs.Prelude.{None, slice_get}
use Rattle.chi_value.specs.declared.value.Value.{Value}
use Rattle.chi_core.specs.declared.experiment.XperDef.{XperDef}
use Rattle.chi_core.specs.declared.program.Core.{Core}
use Rattle.chi_core.specs.Options.{Ending}
use Rattle.chi_core.specs.Picks.{Pick}
use Rattle.chi_core_kinds.proofs.Operations.{Laws}
use Rattle.chi_xper.specs.Conditions.{MayRun, IsFine}
use Rattle.chi_xper.specs.Experiments.{Told, experiment}
use Rattle.chi_xper.proofs.Fined.{experiment_fine}
use Rattle.chi_xper_runs.specs.Constants as runs
use Rattle.chi_xper_runs.specs.Constants.{Constants, Set, Breaks, ConstantsAreSet, constants}
use Rattle.chi_xper_runs.specs.Models.{SomethingComes, ExitsAreOfTheirKinds, ExperimentIsOne, RunsEndWithoutValue, VerdictsCanBeTold}
use Rattle.chi_xper_machines.specs.declared.tale.Ended.{Ended}
use Rattle.chi_xper_machines.specs.declared.tale.Ended.TheVariants as word
use Rattle.chi_xper_machines.specs.Laws.{SomethingComesOfIt, OneTrial}
use Rattle.chi_xper_machines.specs.Trials as trials
use Rattle.chi_xper_machines.specs.Trials.{Trial, Missing, Broken, Tried, IsTrial, EndsSo, Logs}
use Rattle.chi_xper_machines.proofs.Closing.{HasWordAndLine, has_word_and_line, runs_end_it}

same_ending : (c : Constants) (e f : Ending) → c ≡ Breaks e → c ≡ Breaks f → e ≡ f
same_ending c e f h k = cc

same_values : (c : Constants) (vs ws : List Value) → c ≡ Set vs → c ≡ Set ws → vs ≡ ws
same_values c vs ws h k = cc

not_both : (c : Constants) (e : Ending) (vs : List Value) → c ≡ Breaks e → c ≡ Set vs → ⊥
not_both c e vs h k = absurd (cc)

pub one_trial : ConstantsAreSet → ExperimentIsOne → OneTrial
one_trial set one core sound seed pick bound _ _ (trials.IsTrial.missing e) (trials.IsTrial.missing f) = refl
one_trial set one core sound seed pick bound _ _ (trials.IsTrial.missing e) (trials.IsTrial.broken some ending is) = absurd (some e)
one_trial set one core sound seed pick bound _ _ (trials.IsTrial.missing e) (trials.IsTrial.tried some values is outcomes are) = absurd (some e)
one_trial set one core sound seed pick bound _ _ (trials.IsTrial.broken some ending is) (trials.IsTrial.missing f) = absurd (some f)
one_trial set one core sound seed pick bound _ _ (trials.IsTrial.broken some ending is) (trials.IsTrial.broken any other here) =
    ap Broken (same_ending (constants core seed) ending other is here)
one_trial set one core sound seed pick bound _ _ (trials.IsTrial.broken some ending is) (trials.IsTrial.tried any values here outcomes are) =
    absurd (not_both (constants core seed) ending values is here)
one_trial set one core sound seed pick bound _ _ (trials.IsTrial.tried some values is outcomes are) (trials.IsTrial.missing f) = absurd (some f)
one_trial set one core sound seed pick bound _ _ (trials.IsTrial.tried some values is outcomes are) (trials.IsTrial.broken any ending here) =
    absurd (not_both (constants core seed) ending values here is)
one_trial set one core sound seed pick bound _ _ (trials.IsTrial.tried some values is outcomes are) (trials.IsTrial.tried any others here outcomes2 are2) =
    let same : values ≡ others = same_values (constants core seed) values others is here in
    let told : experiment core values seed outcomes bound ≡ experiment core values seed outcomes2 bound
    = one core sound values ((set core sound seed).1 values is) seed pick bound bound outcomes outcomes2 are are2 in
    ap Tried (told ∙ ap (λ vs. experiment core vs seed outcomes2 bound) same)

-- what comes of it has a word and a line
abbrev Comes : Core → ℕ → Pick → ℕ → Type 0
Comes core seed pick bound = (trial : Trial) × IsTrial core seed pick bound trial × ((ended : Ended) × EndsSo trial ended) × ((line : List ℕ) × Logs core trial line)

tried_comes : (core : Core) (seed : ℕ) (pick : Pick) (bound : ℕ) (told : Told) → IsTrial core seed pick bound (Tried told) → HasWordAndLine core told.end → Comes core seed pick bound
tried_comes core seed pick bound told is has = (Tried told, is, (has.0.0, trials.EndsSo.tried told has.0.0 has.0.1), (has.1.0, trials.Logs.tried told has.1.0 has.1.1))

pub something_comes_of_it : SomethingComes → ConstantsAreSet → ExitsAreOfTheirKinds → VerdictsCanBeTold → RunsEndWithoutValue → Laws → SomethingComesOfIt
something_comes_of_it comes set exits can without laws core sound seed pick lawful bound small = by_experiments core.xpers refl
  where
    by_values : core.xpers ≢ [] → slice_get core.xpers 0 ≢ None → (values : List Value) → constants core seed ≡ Set values → Comes core seed pick bound
    by_values some first values is =
        let o = comes core sound pick lawful bound small in
        let kinded = (set core sound seed).1 values is in
        let told : Told = experiment core values seed o.0 bound in
        let fine : IsFine (λ number arguments. (exit : _) × MayRun core number exit arguments) told
        = experiment_fine laws core sound values kinded seed o.0 (λ number arguments. (exit : _) × MayRun core number exit arguments) (λ number exit arguments may. (exit, may))
        (exits core sound pick bound o.0 o.1) first bound in
        tried_comes core seed pick bound told (trials.IsTrial.tried some values is o.0 o.1)
        (has_word_and_line core told.end first fine.well (runs_end_it without can core sound values kinded seed pick bound bound o.0 o.1))

    by_constants : core.xpers ≢ [] → slice_get core.xpers 0 ≢ None → (c : Constants) → constants core seed ≡ c → Comes core seed pick bound
    by_constants some first (Set values) is = by_values some first values is
    by_constants some first (Breaks ending) is =
        (Broken ending, trials.IsTrial.broken some ending is, (word.Faulted, trials.EndsSo.broken ending), (_, trials.Logs.broken ending))
    by_constants some first runs.Amiss is = absurd ((set core sound seed).0 is)

    by_experiments : (xs : List XperDef) → core.xpers ≡ xs → Comes core seed pick bound
    by_experiments [] e = (Missing, trials.IsTrial.missing e, (word.Missing, trials.EndsSo.missing), (_, trials.Logs.missing))
    by_experiments (x ∷ xs) e =
        by_constants (λ none. absurd (let no : x ∷ xs ≡ [] = sym e ∙ none in cc)) (λ none. absurd (let no : slice_get (x ∷ xs) 0 ≡ None = sym (ap (λ ys. slice_get ys 0) e) ∙ none in cc))
        (constants core seed) refl
