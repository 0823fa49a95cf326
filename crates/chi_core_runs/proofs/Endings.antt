-- The verdict of each derivation of a sound program can be told.
use Rattle.std.proofs.Common.{◌≡◌, ℕ, ℤ, suc, List, [], ◌∷◌, ◌++◌, Option, Some, None, pos, Bool, true, false, cond, inl, inr, sym, ◌∙◌, ap, subst, refl, arith}
use Rattle.std.specs.Prelude.{IsTrue, ◌&&◌, codes, length}
use Rattle.chi_value.specs.declared.value.Value.{Value}
use Rattle.chi_core.specs.declared.label.Label.{Label}
use Rattle.chi_core.specs.declared.program.ConstDef.{ConstDef}
use Rattle.chi_core.specs.declared.program.Core.{Core}
use Rattle.chi_core.specs.declared.program.ProcDef.{ProcDef}
use Rattle.chi_core.specs.declared.verdict.Verdict.{Verdict}
use Rattle.chi_core.specs.declared.verdict.Verdict.TheVariants.{Completed, Exit, Deadlock, Fault, OutOfSteps, Stopped}
use Rattle.chi_core.specs.Answer as answer
use Rattle.chi_core.specs.Answer.{Answer, Gives, Fails}
use Rattle.chi_core.specs.Beginning as beginning
use Rattle.chi_core.specs.Beginning.{Beginning, Begins, Breaks, model_begins, constant_value, with_constant, begins_after, start}
use Rattle.chi_core.specs.Config.{Config}
use Rattle.chi_core.specs.Kinded.{Kinded}
use Rattle.chi_core.specs.Options.{Ending, all_finished, stopped_at, at_rest, ending_of, enabled, ending}
use Rattle.chi_core.specs.Meeting.{next_due}
use Rattle.chi_core.specs.Runs.{After, Runs, MayDerive, Told, Derivation}
use Rattle.chi_core.specs.Sound.{Sound}
use Rattle.chi_core.specs.Starting.{started_by}
use Rattle.chi_core.specs.Step as outcome
use Rattle.chi_core.specs.Step.{Outcome, Next, Over, step}
use Rattle.chi_core.specs.VerdictLine.{MayTell}
use Rattle.chi_core_kinds.specs.Keeps.{SoundVerdict, GoesKinded, BeginsKinded, BeginsAlways, KeepsKinded}
use Rattle.chi_core_runs.specs.Endings.{EachEndingIsTold}

both_true : (a b : Bool) → IsTrue a → IsTrue b → IsTrue (a && b)
both_true a b p q = ap (λ x. x && b) p ∙ q

pub may_tell : (core : Core) (v : Verdict) → SoundVerdict core v → MayTell core v
may_tell core (Exit (Some v)) h = record { may = both_true _ _ h.plain h.named; within = h.short }
may_tell core (Exit None) h = record { may = refl; within = omega arith }
may_tell core Completed h = record { may = refl; within = omega arith }
may_tell core Deadlock h = record { may = refl; within = omega arith }
may_tell core (Fault kind name line) h = record { may = refl; within = omega arith }
may_tell core OutOfSteps h = record { may = refl; within = omega arith }
may_tell core Stopped h = record { may = refl; within = omega arith }

-- the ending where nothing is enabled can be told
pub rest_told : (core : Core) (config : Config) (end : Ending) → ending config ≡ Some end → MayTell core end.verdict
rest_told core config end e = by_enabled (enabled config) e
  where
    by_stop : (t u : Option ℤ) → SoundVerdict core (stopped_at config t u).verdict
    by_stop (Some t) (Some u) = tt
    by_stop (Some t) None = tt
    by_stop None u = tt

    by_all : (b : Bool) → SoundVerdict core (cond b (record { verdict = Completed; clock = config.clock }) (stopped_at config (next_due config) config.until)).verdict
    by_all true = tt
    by_all false = by_stop (next_due config) config.until

    by_enabled : (ls : List Label) → ending_of ls config ≡ Some end → MayTell core end.verdict
    by_enabled [] e =
        let same : at_rest config ≡ end = cc in
        may_tell core end.verdict (subst (λ (x : Ending). SoundVerdict core x.verdict) same (by_all (all_finished config)))
    by_enabled (l ∷ ls) e = absurd (cc)

-- the fault of a constant can be told
pub breaks_told : (core : Core) (arguments : List Value) (seed : ℕ) (until : Option ℤ) (values : List Value) (cs : List ConstDef) (end : Ending)
    → begins_after core arguments seed until values cs ≡ Breaks end → MayTell core end.verdict
breaks_told core arguments seed until values [] end e = by_model (started_by core.procs core.model (length arguments)) e
  where
    by_model : (o : Option ProcDef) → model_begins seed until arguments values core.model o ≡ Breaks end → MayTell core end.verdict
    by_model None e = absurd (cc)
    by_model (Some d) e = absurd (cc)
breaks_told core arguments seed until values (c ∷ cs) end e =
    by_value (λ more. breaks_told core arguments seed until more cs end) (constant_value core seed values c) e
  where
    by_value : ((more : List Value) → begins_after core arguments seed until more cs ≡ Breaks end → MayTell core end.verdict)
        → (m : Answer Value) → with_constant core arguments seed until (λ more. begins_after core arguments seed until more cs) values c m ≡ Breaks end → MayTell core end.verdict
    by_value later (Gives v view) e = later (values ++ v ∷ []) e
    by_value later (Fails kind) e =
        let broken : Ending = record { verdict = Fault kind (codes "const") c.line; clock = pos 0 } in
        let same : broken ≡ end = cc in
        may_tell core end.verdict (subst (λ (x : Ending). SoundVerdict core x.verdict) same tt)
    by_value later answer.Spent e = absurd (cc)
    by_value later answer.Amiss e = absurd (cc)

-- so a run from a kinded configuration ends
pub run_told : (core : Core) → KeepsKinded core → (labels : List Label) (turn : ℕ) (config : Config) (left : ℕ) (end : Ending) → Kinded core config
    → Runs MayDerive core turn config left labels end → MayTell core end.verdict
unfolding Runs
run_told core keeps [] turn config left end kinded (inl rests) = rest_told core config end rests
run_told core keeps [] turn config left end kinded (inr cut) =
    may_tell core end.verdict (subst (λ (x : Ending). SoundVerdict core x.verdict) (sym cut.out_of_steps) tt)
run_told core keeps (label ∷ labels) turn config left end kinded run =
    by_step (λ new rest good after. run_told core keeps labels (suc turn) new rest end good after)
    (step core config label left) (keeps config kinded label run.0 left) run.1
  where
    by_step : ((new : Config) (rest : ℕ) → Kinded core new → Runs MayDerive core (suc turn) new rest labels end → MayTell core end.verdict)
        → (o : Outcome) → GoesKinded core o → After (λ new rest. Runs MayDerive core (suc turn) new rest labels end) o config labels end → MayTell core end.verdict
    by_step more (Next new text rest) good after = more new rest good after
    by_step more (Over verdict) good after = may_tell core end.verdict (subst (λ (x : Ending). SoundVerdict core x.verdict) (sym after.1) good)
    by_step more outcome.Spent good after = absurd after
    by_step more outcome.Amiss good after = absurd after

pub each_ending_is_told : ((core : Core) → Sound core → BeginsAlways core) → ((core : Core) → Sound core → KeepsKinded core) → EachEndingIsTold
each_ending_is_told begins keeps core sound beginning' is bound told derived =
    by_beginning (start core is.arguments is.seed is.until) refl (begins core sound is.model is.is is.arguments is.fit is.seed is.until)
    (subst (λ b. Derivation core b bound told) is.begins derived)
  where
    by_beginning : (b : Beginning) → start core is.arguments is.seed is.until ≡ b → BeginsKinded core b → Derivation core b bound told → MayTell core told.ending.verdict
    by_beginning (Begins config) e good run = run_told core (keeps core sound) told.labels 0 config bound told.ending good run.0
    by_beginning (Breaks end) e good run =
        subst (λ (t : Told). MayTell core t.ending.verdict) (sym run) (breaks_told core is.arguments is.seed is.until [] core.consts end e)
    by_beginning beginning.Amiss e good run = absurd run
