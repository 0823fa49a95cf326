-- A runner of a sound program stays in kinded configurations, and what it tells can be told.
use Rattle.std.proofs.Common.{Some, ◌≡◌, ◌≢◌, ℕ, ◌-◌, ◌<◌, ◌≤◌, List, [], Option, sym, ◌∙◌, ap, subst, refl, arith}
use Rattle.chi_value.specs.declared.value.Value.{Value}
use Rattle.chi_core.specs.declared.label.Label.{Label}
use Rattle.chi_core.specs.declared.program.Core.{Core}
use Rattle.chi_core.specs.declared.verdict.Verdict.{Verdict}
use Rattle.chi_core.specs.Beginning as beginning
use Rattle.chi_core.specs.Beginning.{Beginning, Begins, Breaks, start}
use Rattle.chi_core.specs.Config.{Config}
use Rattle.chi_core.specs.Kinded.{Kinded}
use Rattle.chi_core.specs.Options.{Ending, ending}
use Rattle.chi_core.specs.Step.{Outcome, Next, Over, Spent, Amiss, step}
use Rattle.chi_core_kinds.specs.Keeps.{GoesKinded, BeginsKinded}
use Rattle.chi_core_runs.specs.Time.{EachCosts}
use Rattle.chi_plain_steps.specs.declared.beginning.Begun.{Begun}
use Rattle.chi_plain_steps.specs.declared.beginning.Begun.TheVariants as begun
use Rattle.chi_plain.specs.declared.progress.Progress.{Progress}
use Rattle.chi_plain.specs.declared.stepped.Stepped.TheVariants as stepped
use Rattle.chi_plain.specs.declared.taking.Taken.{Taken}
use Rattle.chi_plain.specs.declared.taking.Taken.TheVariants as taken
use Rattle.chi_plain_steps.specs.Begun.{begun_of}
use Rattle.chi_plain.specs.Stage as stage
use Rattle.chi_core.specs.VerdictLine.{MayTell}
use Rattle.chi_core_runs.proofs.Endings as endings
use Rattle.chi_core_runs.proofs.Endings.{may_tell, breaks_told}
use Rattle.chi_plain.specs.Progressing.{stage_of, progress_at, Stands}
use Rattle.chi_plain_steps.specs.Takings.{Appends, IsRight}
use Rattle.chi_plain.specs.Taken.{TakesTo}
use Rattle.std.proofs.lemmas.List.{append-nil}
use Rattle.std.proofs.Common.{ℤ}

-- the ending where nothing is enabled can be told
pub rest_told : (core : Core) (config : Config) (end : Ending) → ending config ≡ Some end → MayTell core end.verdict
rest_told = endings.rest_told

pub right_of : (core : Core) (o : Outcome) → GoesKinded core o → IsRight o
right_of core (Next config text left) good = good.few
right_of core (Over verdict) good = tt
right_of core Spent good = tt
right_of core Amiss good = good

pub begins_well : (core : Core) (b : Beginning) → BeginsKinded core b → b ≢ beginning.Amiss
begins_well core b good e = subst (BeginsKinded core) e good

pub kinded_begin : (core : Core) (b : Beginning) (config : Config) → b ≡ Begins config → BeginsKinded core b → Kinded core config
kinded_begin core b config e good = subst (BeginsKinded core) e good

pub kinded_next : (core : Core) (o : Outcome) (config : Config) (text : List ℕ) (left : ℕ) → o ≡ Next config text left → GoesKinded core o → Kinded core config
kinded_next core o config text left e good = subst (GoesKinded core) e good

pub told_over : (core : Core) (o : Outcome) (v : Verdict) → o ≡ Over v → GoesKinded core o → MayTell core v
told_over core o v e good = may_tell core v (subst (GoesKinded core) e good)

-- where a run stands at its beginning

pub begun_stands : (core : Core) (arguments : List Value) (seed : ℕ) (until : Option ℤ) (b : Begun) → start core arguments seed until ≡ begun_of b
    → BeginsKinded core (start core arguments seed until) → Stands core (progress_at b)
begun_stands core arguments seed until (begun.Begins config) e good = record { known = refl; kinded = kinded_begin core _ config e good }
begun_stands core arguments seed until (begun.Breaks end) e good = breaks_told core arguments seed until [] core.consts end e

pub begun_stage : (b : Beginning) (kept : Begun) (s : Progress) → b ≡ begun_of kept → s ≡ progress_at kept → stage.Begun b (stage_of s)
begun_stage b (begun.Begins config) s e is =
    let P : Beginning → Type 0 = λ b. stage.Begun b (stage_of s) in subst P (sym e) (ap stage_of is)
begun_stage b (begun.Breaks end) s e is =
    let P : Beginning → Type 0 = λ b. stage.Begun b (stage_of s) in subst P (sym e) (ap stage_of is)

-- a label that was taken
module _ (core : Core) (old : Config) (label : Label) (left : ℕ) (before after : List ℕ) (how : Taken)
    (took : Appends before after (λ text. TakesTo (step core old label left) old text how)) where
  pub on_next : (new : Config) (rest : ℕ) → how ≡ taken.On new rest → (text : List ℕ) × (step core old label left ≡ Next new text rest)
  on_next new rest is =
      let P : Taken → Type 0 = λ w. TakesTo (step core old label left) old took.0 w in (took.0, subst P is took.2)

  pub on_costs : EachCosts → (new : Config) (rest : ℕ) → how ≡ taken.On new rest → rest ≤ left
  on_costs costs new rest is =
      let n = on_next new rest is in
      let less : rest < left = costs core old label left new n.0 rest n.1 in omega arith

  pub on_kinded : (new : Config) (rest : ℕ) → how ≡ taken.On new rest → GoesKinded core (step core old label left) → Kinded core new
  on_kinded new rest is good = let n = on_next new rest is in kinded_next core _ new n.0 rest n.1 good

  pub on_steps : EachCosts → (new : Config) (rest : ℕ) → how ≡ taken.On new rest → Appends before after (λ text. stage.Steps core (stage.At old) (stage.At new) label left text (stepped.Next (left - rest)))
  on_steps costs new rest is =
      let less : rest ≤ left = on_costs costs new rest is in
      let P : Taken → Type 0 = λ w. TakesTo (step core old label left) old took.0 w in
      (took.0, took.1, (rest, subst P is took.2, omega arith))

  pub over_told : (v : Verdict) → how ≡ taken.Over v → GoesKinded core (step core old label left) → MayTell core v
  over_told v is good =
      let P : Taken → Type 0 = λ w. TakesTo (step core old label left) old took.0 w in
      let t = subst P is took.2 in told_over core _ v t.0 good

  pub over_steps : (v : Verdict) (clock : ℤ) → how ≡ taken.Over v → clock ≡ old.clock
      → Appends before after (λ text. stage.Steps core (stage.At old) (stage.Ended (record { verdict = v; clock = clock })) label left text stepped.Over)
  over_steps v clock is same =
      let P : Taken → Type 0 = λ w. TakesTo (step core old label left) old took.0 w in
      let t = subst P is took.2 in
      (took.0, took.1, (t.0, (λ k. record { verdict = v; clock = same k }), t.1))

  pub spent_same : (new : Config) → how ≡ taken.Spent new → new ≡ old
  spent_same new is =
      let P : Taken → Type 0 = λ w. TakesTo (step core old label left) old took.0 w in
      let t = subst P is took.2 in t.1

  pub spent_steps : (new : Config) → how ≡ taken.Spent new → Appends before after (λ text. stage.Steps core (stage.At old) (stage.At new) label left text stepped.Spent)
  spent_steps new is =
      let P : Taken → Type 0 = λ w. TakesTo (step core old label left) old took.0 w in
      let t = subst P is took.2 in
      (took.0, took.1, (t.0, ap stage.At t.1, t.2))

pub lost_steps : (core : Core) (old : Config) (label : Label) (left : ℕ) (before after : List ℕ) → after ≡ before
    → Appends before after (λ text. stage.Steps core (stage.At old) stage.Lost label left text stepped.NoMemory)
lost_steps core old label left before after same = ([], same ∙ sym (append-nil before), (refl, refl))
