-- The ranges of a request's numbers.
use Rattle.std.specs.Prelude.{◌≡◌, ℕ, ◌^◌, ◌≤◌, ◌<◌, ℤ, pos, IfSome}
use Rattle.chi_cli.specs.declared.request.Pick.{Pick}
use Rattle.chi_cli.specs.declared.request.Pick.TheVariants as pick
use Rattle.chi_cli.specs.declared.request.Request.{Request}
use Rattle.chi_cli.specs.declared.request.Request.TheVariants as request
use Rattle.chi_cli.specs.declared.words.TheConstants.{MOST_STEPS}
use Rattle.chi_trace.specs.declared.filter.Filter.{Filter}
use Rattle.chi_trace.specs.declared.filter.Filter.TheVariants as filter
use Rattle.chi_load.specs.declared.source.TheConstants.{MOST_MACHINES}

abbrev pub IsPick : Pick → Type 0
IsPick pick.First = Unit {0}
IsPick pick.Last = Unit {0}
IsPick (pick.Spread salt) = salt < 2 ^ 64

-- a stopping time isn't before 0.0
abbrev pub IsTime : ℤ → Type 0
IsTime time = (units : ℕ) × (time ≡ pos units)

abbrev pub IsFilter : Filter → Type 0
IsFilter (filter.Instance n) = n < 2 ^ 32
IsFilter (filter.Channel n) = n < 2 ^ 32
IsFilter _ = Unit {0}

-- the seed and the salt fit 64 bits, the bound on steps is within its limit, and a factory has a machine and no more than it may have
abbrev pub IsInRange : Request → Type 0
IsInRange (request.Sim file args seed bound until pick trace probe) =
    (seed < 2 ^ 64) × (bound ≤ MOST_STEPS) × IfSome until IsTime × IsPick pick × IsFilter probe
IsInRange (request.Explain file args seed bound until pick) = (seed < 2 ^ 64) × (bound ≤ MOST_STEPS) × IfSome until IsTime × IsPick pick
IsInRange (request.Xper file seed bound pick) = (seed < 2 ^ 64) × (bound ≤ MOST_STEPS) × IsPick pick
IsInRange (request.Replay file picks args seed bound until trace) = (seed < 2 ^ 64) × (bound ≤ MOST_STEPS) × IfSome until IsTime
IsInRange (request.Judge file log args seed bound until) = (seed < 2 ^ 64) × (bound ≤ MOST_STEPS) × IfSome until IsTime
IsInRange (request.Picks file log args seed bound until) = (seed < 2 ^ 64) × (bound ≤ MOST_STEPS) × IfSome until IsTime
IsInRange (request.Load n) = (1 ≤ n) × (n ≤ MOST_MACHINES)
IsInRange _ = Unit {0}
