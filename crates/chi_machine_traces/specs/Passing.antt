-- A run's output is passed on to a sink as it goes.
use Rattle.std.specs.Prelude.{◌≡◌, ℕ, Bool, true, false, nat_lt, List, [], length, Result, Ok, Err, if◌then◌else◌}
use Rattle.chi_core.specs.declared.program.Core.{Core}
use Rattle.chi_core.specs.Beginning.{Beginning}
use Rattle.chi_core.specs.Beginning as beginnings
use Rattle.chi_core.specs.Picks.{Pick, Picked}
use Rattle.chi_core.specs.Runs.{Told}
use Rattle.chi_code.specs.declared.code.Code.{Code}
use Rattle.chi_io.specs.Sink.{IsFrontOf, IsProperFrontOf}
use Rattle.chi_sched.specs.Policies.{Answers}
use Rattle.chi_terms.specs.declared.terms.Terms.{Terms}
use Rattle.chi_value.specs.declared.value.Value.{Value}
use Rattle.chi_machine_traces.specs.declared.passing.PassFault.{PassFault}
use Rattle.chi_machine_traces.specs.declared.passing.PassFault.TheVariants.{Stopped, NoMemory}
use Rattle.chi_machine_traces.specs.declared.passing.TheConstants.{PASSED_FROM}
use Rattle.chi_machine_traces.specs.Told.{RunsCode}

-- what may be said of a run that a policy picks from a beginning, within a bound
abbrev pub OfRun : Type 1
OfRun = Core → Beginning → Pick → ℕ → Type 0

-- P holds of the run of this code with these arguments on such terms, whichever program it is the code of and whichever function
-- tells what the policy answers
abbrev pub OfEach : {C S : Type 0} → (ℕ → ℕ → ℕ → Type 0) → Code → List Value → Terms C S → OfRun → Type 0
OfEach gives code arguments terms P =
    (core : Core) → RunsCode core code arguments → (pick : Pick) → Answers gives pick
    → P core (beginnings.start core arguments terms.seed terms.until) pick terms.bound

-- its output begins with these bytes
abbrev pub BeginsWith : List ℕ → OfRun
BeginsWith bytes core beginning pick bound = (told : Told) → Picked core beginning pick bound told → IsFrontOf bytes told.output

-- and goes on after them
abbrev pub GoesPast : List ℕ → OfRun
GoesPast bytes core beginning pick bound = (told : Told) → Picked core beginning pick bound told → IsProperFrontOf bytes told.output

-- Why it isn't told to its end, by what the sink took of its output: a part that the output goes past, and the sink failed; or one
-- that it begins with, and memory was wanting.
abbrev pub Fails : (OfRun → Type 0) → (List ℕ → Type 0) → Type 0 → Bool → PassFault → Type 0
Fails each took rose stopped Stopped = (stopped ≡ true) × rose × (passed : List ℕ) × took passed × each (GoesPast passed)
Fails each took rose stopped NoMemory = (stopped ≡ false) × (passed : List ℕ) × took passed × each (BeginsWith passed)

-- or the sink took a part of it, and of that part and of what came of the run P holds
abbrev pub Passes : {T : Type 0} → (OfRun → Type 0) → (List ℕ → T → OfRun) → (List ℕ → Type 0) → Type 0 → Bool → Result T PassFault → Type 0
Passes each P took rose stopped (Ok x) = (stopped ≡ false) × (passed : List ℕ) × took passed × each (P passed x)
Passes each P took rose stopped (Err lost) = Fails each took rose stopped lost

-- of output that is kept after a turn, so much is passed on, and so much is kept: all or nothing

abbrev pub passed_of : List ℕ → List ℕ
passed_of kept = if nat_lt (length kept) PASSED_FROM then [] else kept

abbrev pub kept_of : List ℕ → List ℕ
kept_of kept = if nat_lt (length kept) PASSED_FROM then kept else []

-- that was done, or the sink failed before it had taken it all
abbrev pub PassesKept : {T : Type 0} → List ℕ → List ℕ → (List ℕ → Type 0) → Type 0 → Bool → Result T PassFault → Type 0
PassesKept kept rest took rose stopped (Ok x) = (stopped ≡ false) × took (passed_of kept) × (rest ≡ kept_of kept)
PassesKept kept rest took rose stopped (Err Stopped) = (stopped ≡ true) × rose × (passed : List ℕ) × took passed × IsProperFrontOf passed kept
PassesKept kept rest took rose stopped (Err NoMemory) = ⊥
