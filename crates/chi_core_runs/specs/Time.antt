-- Time along runs, and the bound: the time never falls, goes on only where nothing else may come, and not past the
-- stopping time; and each label costs at least 1.
use Rattle.std.specs.Prelude.{◌≡◌, ◌≢◌, ℕ, ◌<◌, ◌≤◌, ℤ, pos, ◌<ℤ◌, ◌≤ℤ◌, List, [], Option, length, IsTrue, Contains}
use Rattle.chi_value.specs.declared.value.Value.{Value}
use Rattle.chi_core.specs.declared.label.Label.{Label}
use Rattle.chi_core.specs.declared.label.Label.TheVariants.{Advance}
use Rattle.chi_core.specs.declared.program.Core.{Core}
use Rattle.chi_core.specs.Beginning.{start}
use Rattle.chi_core.specs.Config.{Config}
use Rattle.chi_core.specs.Meeting.{may_reach}
use Rattle.chi_core.specs.Options.{Ending, options, enabled}
use Rattle.chi_core.specs.Runs.{Runs, MayDerive, Told, Derivation}
use Rattle.chi_core.specs.Step.{Next, step}

-- a step that goes on leaves less of the bound than there was
abbrev pub EachCosts : Type 0
EachCosts =
    (core : Core) (config : Config) (label : Label) (left : ℕ) (new : Config) (text : List ℕ) (rest : ℕ)
    → step core config label left ≡ Next new text rest → rest < left

-- so a run has no more labels than the bound
abbrev pub RunsAreBounded : Type 0
RunsAreBounded =
    (core : Core) (turn : ℕ) (config : Config) (left : ℕ) (labels : List Label) (end : Ending)
    → Runs MayDerive core turn config left labels end → length labels ≤ left

-- the time stands still but where the label is Advance
abbrev pub OthersStandStill : Type 0
OthersStandStill =
    (core : Core) (config : Config) (label : Label) (left : ℕ) (new : Config) (text : List ℕ) (rest : ℕ)
    → step core config label left ≡ Next new text rest → label ≢ Advance → new.clock ≡ config.clock

-- Advance, where it may come, leads to a later time
abbrev pub AdvanceGoesOn : Type 0
AdvanceGoesOn =
    (core : Core) (config : Config) (left : ℕ) (new : Config) (text : List ℕ) (rest : ℕ)
    → Contains (enabled config) Advance → step core config Advance left ≡ Next new text rest → config.clock <ℤ new.clock

-- and it may come only where no instance has an option
abbrev pub AdvanceIsLast : Type 0
AdvanceIsLast = (config : Config) → Contains (enabled config) Advance → (p : ℕ) → options config p ≡ []

-- the time isn't past the stopping time, if there is one
abbrev pub InTime : Config → Type 0
InTime config = IsTrue (may_reach config.until config.clock)

-- where it isn't, it isn't after a step either
abbrev pub StaysInTime : Type 0
StaysInTime =
    (core : Core) (config : Config) (label : Label) (left : ℕ) (new : Config) (text : List ℕ) (rest : ℕ)
    → step core config label left ≡ Next new text rest → InTime config → (new.until ≡ config.until) × InTime new

-- an ending isn't before a time, and isn't past the stopping time, if there is one
abbrev pub EndsWithin : ℤ → Option ℤ → Ending → Type 0
EndsWithin from until end = (from ≤ℤ end.clock) × IsTrue (may_reach until end.clock)

-- so ends each run of enabled labels
abbrev pub RunsEndWithin : Type 0
RunsEndWithin =
    (core : Core) (turn : ℕ) (config : Config) (left : ℕ) (labels : List Label) (end : Ending)
    → Runs MayDerive core turn config left labels end → InTime config → EndsWithin config.clock config.until end

-- and each derivation of a program, where the stopping time isn't before 0.0
abbrev pub DerivationsEndWithin : Type 0
DerivationsEndWithin =
    (core : Core) (arguments : List Value) (seed : ℕ) (until : Option ℤ) (bound : ℕ) (told : Told)
    → Derivation core (start core arguments seed until) bound told → IsTrue (may_reach until (pos 0)) → EndsWithin (pos 0) until told.ending
