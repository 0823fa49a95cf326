-- A run of a sound program that exits with a value has one of the kind of its model's exits.
use Rattle.std.proofs.Common.{◌≡◌, ℕ, ℤ, List, [], Option, Some, sym, subst, ◌∙◌}
use Rattle.std.specs.Prelude.{slice_get, Contains}
use Rattle.chi_value.specs.declared.value.Value.{Value}
use Rattle.chi_core.specs.declared.label.Label.{Label}
use Rattle.chi_core.specs.declared.program.Core.{Core}
use Rattle.chi_core.specs.declared.program.ProcDef.{ProcDef}
use Rattle.chi_core.specs.declared.verdict.Verdict.{Verdict}
use Rattle.chi_core.specs.Beginning as beginning
use Rattle.chi_core.specs.Beginning.{Beginning, Begins, Breaks, start}
use Rattle.chi_core.specs.Config.{Config}
use Rattle.chi_core.specs.Kinded.{Kinded}
use Rattle.chi_core.specs.Kinds.{kinds_of}
use Rattle.chi_core.specs.Of.{at_start, AreOf}
use Rattle.chi_core.specs.Options.{enabled}
use Rattle.chi_core.specs.Runs.{Told, Derivation}
use Rattle.chi_core.specs.Scopes.{exit_of}
use Rattle.chi_core.specs.Sound.{Sound}
use Rattle.chi_core.specs.Step as outcome
use Rattle.chi_core.specs.Step.{Outcome, Next, Over, step}
use Rattle.chi_core_kinds.specs.Keeps.{GoesKinded, BeginsKinded, BeginsAlways, KeepsKinded}
use Rattle.chi_core_kinds.proofs.Operations.{Laws}
use Rattle.chi_xper_runs.proofs.Derived.{rests_so, StepSo, BeginsSo, derived_so, begins_so}
use Rattle.chi_xper_runs.proofs.ExitsChanges.{ExitFits, StepExits}
use Rattle.chi_xper_runs.proofs.ExitsItems.{fits_step}

module _ (laws : Laws) (core : Core) (fine : Sound core) (keeps : KeepsKinded core) (d : ProcDef) (is : slice_get core.procs core.model ≡ Some d) where
  abbrev Exits : Verdict → Type 0
  Exits = ExitFits core.names.kinds (exit_of d)

  abbrev Step : Outcome → Type 0
  Step = StepSo core (Kinded core) Exits

  -- a step leads to a kinded configuration, or ends the run so
  step_exits : (config : Config) → Kinded core config → (l : Label) → Contains (enabled config) l → (left : ℕ) → Step (step core config l left)
  step_exits config h l may left =
      both (step core config l left) (keeps config h l may left)
      (let same : h.model ≡ d = cc (sym h.is ∙ is) in subst (λ m. StepExits core.names.kinds (exit_of m) (step core config l left)) same (fits_step laws core fine config h l left))
    where
      both : (o : Outcome) → GoesKinded core o → StepExits core.names.kinds (exit_of d) o → Step o
      both (Next new text rest) good fits = good
      both (Over verdict) good fits = fits
      both outcome.Spent good fits = tt
      both outcome.Amiss good fits = tt

  -- a derivation from its beginning, with arguments of the kinds of the model's parameters
  pub derived_exits : BeginsAlways core → (arguments : List Value) → AreOf (at_start core.names.kinds) arguments (kinds_of d.params) → (seed : ℕ) (until : Option ℤ) (bound : ℕ) (told : Told)
      → Derivation core (start core arguments seed until) bound told → Exits told.ending.verdict
  derived_exits begins arguments fit seed until =
      derived_so core (Kinded core) Exits step_exits (λ config h. rests_so Exits tt tt config (λ t e. tt)) tt (start core arguments seed until)
      (both (start core arguments seed until) (begins d is arguments fit seed until) (begins_so core Exits (λ kind name line. tt) arguments seed until [] core.consts))
    where
      both : (b : Beginning) → BeginsKinded core b → BeginsSo core (λ config. config.until ≡ until) Exits b → BeginsSo core (Kinded core) Exits b
      both (Begins config) good so = good
      both (Breaks end) good so = so
      both beginning.Amiss good so = tt
