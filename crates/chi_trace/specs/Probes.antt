-- What a probe keeps of its closure.
use Rattle.std.specs.Prelude.{◌≡◌, ℕ, ◌<◌, ◌^◌, ◌↔◌, Bool, FitsSigned}
use Rattle.std.specs.Borrow.{Bor}
use Rattle.std.specs.Int.{w64}
use Rattle.chi_trace.specs.declared.event.Detail.{Detail}
use Rattle.chi_trace.specs.declared.event.Detail.TheVariants.{Unknown, Bare, At, Of, Sent}
use Rattle.chi_trace.specs.declared.event.Event.{Event}
use Rattle.chi_trace.specs.declared.filter.Filter.{Filter}
use Rattle.chi_trace.specs.Events.{IsNumbered}
use Rattle.chi_trace.specs.Filters.{shows}

-- the line and the channel have 32 bits
abbrev pub IsDetailNumbered : Detail → Type 0
IsDetailNumbered Unknown = Unit {0}
IsDetailNumbered Bare = Unit {0}
IsDetailNumbered (At name line) = line < 2 ^ 32
IsDetailNumbered (Of name) = Unit {0}
IsDetailNumbered (Sent channel value) = channel < 2 ^ 32

-- the numbers of an event are in the ranges of their types
pub record IsInRange (e : Event) : Type 0 where
  pub turn : e.turn < 2 ^ 64
  pub label : IsNumbered e.label
  pub clock : FitsSigned w64 e.clock
  pub detail : IsDetailNumbered e.detail

-- The closure tells what the filter shows: at each event in range it may be called, and may answer nothing else.
pub record Faithful (may_call : Bor Event → Type 0) (may_answer : Bor Event → Bool → Type 0) (filter : Filter) : Type 0 where
  pub callable : (event : Bor Event) → IsInRange event.now → may_call event
  pub one_answer : (event : Bor Event) → IsInRange event.now → (answer : Bool) → may_answer event answer ↔ (answer ≡ shows filter event.now)
