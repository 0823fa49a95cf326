-- Time: delays, and a stopping time before, at and after a due time.
use Rattle.std.proofs.Common.{◌≡◌, ℤ, pos, [], ◌∷◌, Option, Some, None, refl}
use Rattle.chi_core.specs.declared.label.Label.TheVariants.{Local, Advance, Wake}
use Rattle.chi_core.specs.declared.program.Core.{Core}
use Rattle.chi_core.specs.declared.verdict.Verdict.TheVariants.{Completed, Deadlock, Stopped}
use Rattle.chi_core.specs.declared.act.Act.{Act}
use Rattle.chi_core.specs.declared.act.Act.TheVariants.{Receive, Delay}
use Rattle.chi_core.specs.declared.statement.CStat.TheVariants as s
use Rattle.chi_core.specs.Config.{Config, Offer, State, Waiting, Finished, Running}
use Rattle.chi_core.specs.Options.{enabled, ending}
use Rattle.chi_core.specs.Step.{step, Next, Amiss}
use Rattle.chi_core.specs.Terms.{Do}
use Rattle.chi_core_rows.proofs.Small.{process, core_of, config_of, instance}

abbrev core : Core
core = core_of (process [] [] ∷ [])

abbrev offer : Act → Offer
offer act = record { act = act; bindings = []; body = s.Pass 3 ∷ [] }

-- an instance waits for a delay that is due at 7, and one for a delay that is due at 5
abbrev waiting : ℤ → Option ℤ → Config
waiting clock until = record (config_of clock 0 (instance 0 [] [] (Waiting (offer (Delay (pos 7)) ∷ [])) ∷ instance 0 [] [] (Waiting (offer (Receive 0 None) ∷ offer (Delay (pos 5)) ∷ [])) ∷ [])) { until = until }

no_stop : enabled (waiting (pos 0) None) ≡ Advance ∷ []
no_stop = refl

after_due : enabled (waiting (pos 0) (Some (pos 6))) ≡ Advance ∷ []
after_due = refl

-- a time that is due at the stopping time is reached
at_due : enabled (waiting (pos 0) (Some (pos 5))) ≡ Advance ∷ []
at_due = refl

before_due : enabled (waiting (pos 0) (Some (pos 4))) ≡ []
before_due = refl

-- the run is stopped at the stopping time, whatever the clock is then
stops : ending (waiting (pos 0) (Some (pos 4))) ≡ Some (record { verdict = Stopped; clock = pos 4 })
stops = refl

goes_on : ending (waiting (pos 0) (Some (pos 5))) ≡ None
goes_on = refl

-- the clock becomes the least due time
advances : step core (waiting (pos 0) (Some (pos 5))) Advance 50 ≡ Next (waiting (pos 5) (Some (pos 5))) [] 49
unfolding step
advances = refl

-- then the instance for which it is due goes on, and no time passes
wakes : enabled (waiting (pos 5) (Some (pos 5))) ≡ Wake 1 1 ∷ []
wakes = refl

woken : step core (waiting (pos 5) None) (Wake 1 1) 50
    ≡ Next (config_of (pos 5) 0 (instance 0 [] [] (Waiting (offer (Delay (pos 7)) ∷ [])) ∷ instance 0 [] (Do (s.Pass 3) ∷ []) Running ∷ [])) [] 49
unfolding step
woken = refl

-- no label takes the time past the stopping time, or wakes an instance too early
past_stop : step core (waiting (pos 0) (Some (pos 4))) Advance 50 ≡ Amiss
unfolding step
past_stop = refl

too_early : step core (waiting (pos 4) None) (Wake 1 1) 50 ≡ Amiss
unfolding step
too_early = refl

-- an instance that waits does no item
not_running : step core (waiting (pos 5) None) (Local 0) 50 ≡ Amiss
unfolding step
not_running = refl

-- an alternative that isn't a delay has no label that wakes
no_delay : step core (waiting (pos 5) None) (Wake 1 0) 50 ≡ Amiss
unfolding step
no_delay = refl

-- without a delay a stopping time changes nothing
abbrev resting : State → Config
resting state = record (config_of (pos 3) 0 (instance 0 [] [] state ∷ [])) { until = Some (pos 4) }

completes : ending (resting Finished) ≡ Some (record { verdict = Completed; clock = pos 3 })
completes = refl

deadlocks : ending (resting (Waiting (offer (Receive 0 None) ∷ []))) ≡ Some (record { verdict = Deadlock; clock = pos 3 })
deadlocks = refl
