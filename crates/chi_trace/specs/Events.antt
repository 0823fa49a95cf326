-- The events of a run, as a trace tells them: what is told with each label.
use Rattle.std.specs.Prelude.{◌≡◌, ℕ, ◌<◌, ◌^◌, ◌==◌, ◌&&◌, not, nat_lt, Bool, ℤ, pos, List, [], ◌∷◌, length, bytes_eq, IsTrue, FitsSigned}
use Rattle.std.specs.Int.{w64}
use Rattle.std.specs.List.{list_all}
use Rattle.chi_core.specs.declared.label.Label.{Label}
use Rattle.chi_core.specs.declared.label.Label.TheVariants.{Local, Pair, Wake, Join, Advance}
use Rattle.chi_core.specs.Sound.{IsName}
use Rattle.chi_trace.specs.declared.event.Detail.{Detail}
use Rattle.chi_trace.specs.declared.event.Detail.TheVariants.{Unknown, Bare, At, Of, Sent}
use Rattle.chi_trace.specs.declared.event.Event.{Event}

-- the part that stands for what isn't known
abbrev pub unknown_part : List ℕ
unknown_part = 45 ∷ []

-- the text of a value: some bytes, which don't say that it isn't known, with no line feed among them
abbrev pub is_value_text : List ℕ → Bool
is_value_text text = nat_lt 0 (length text) && not (bytes_eq text unknown_part) && list_all (λ c. not (c == 10)) text

-- the detail is one of the label: where a process is, by whom, or what was sent; or it isn't known. An advance has none.
abbrev pub Fits : Label → Detail → Type 0
Fits (Local p) Unknown = Unit {0}
Fits (Local p) (At name line) = IsName name × (line < 2 ^ 32)
Fits (Pair p a q b) Unknown = Unit {0}
Fits (Pair p a q b) (Sent channel value) = (channel < 2 ^ 32) × IsTrue (is_value_text value)
Fits (Wake p a) Unknown = Unit {0}
Fits (Wake p a) (Of name) = IsName name
Fits (Join p) Unknown = Unit {0}
Fits (Join p) (Of name) = IsName name
Fits Advance Bare = Unit {0}
Fits label detail = ⊥

-- the detail where a trace tells none
abbrev pub untold : Label → Detail
untold Advance = Bare
untold label = Unknown

-- the numbers of a label have 32 bits
abbrev pub IsNumbered : Label → Type 0
IsNumbered (Local p) = p < 2 ^ 32
IsNumbered (Pair p a q b) = (p < 2 ^ 32) × (a < 2 ^ 32) × (q < 2 ^ 32) × (b < 2 ^ 32)
IsNumbered (Wake p a) = (p < 2 ^ 32) × (a < 2 ^ 32)
IsNumbered (Join p) = p < 2 ^ 32
IsNumbered Advance = Unit {0}

-- an event that a trace can tell
pub record IsEvent (e : Event) : Type 0 where
  pub turn : e.turn < 2 ^ 64
  pub label : IsNumbered e.label
  pub clock : FitsSigned w64 e.clock
  pub detail : Fits e.label e.detail

-- the clock that the line names: that of an advance alone
abbrev pub clock_told : Label → ℤ → ℤ
clock_told Advance clock = clock
clock_told label clock = pos 0

-- the event as its line tells it
abbrev pub as_told : Event → Event
as_told e = record e { clock = clock_told e.label e.clock }
