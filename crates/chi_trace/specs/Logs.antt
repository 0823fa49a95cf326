-- The log of a run with its trace in version 1: what it is brought up to in version 2, or its first line that doesn't fit.
use Rattle.std.specs.Prelude.{◌≡◌, ◌≢◌, ℕ, ◌+◌, ◌==◌, ◌&&◌, nat_le, not, ◌⊎◌, Bool, false, List, [], ◌∷◌, ◌++◌, length, IsTrue}
use Rattle.std.specs.List.{list_all, flat_map}
use Rattle.chi_trace.specs.declared.event.Event.{Event}
use Rattle.chi_trace.specs.declared.fault.LogFault.{LogFault}
use Rattle.chi_trace.specs.declared.fault.LogFault.TheVariants.{Form, NoMemory}
use Rattle.chi_trace.specs.Events.{IsEvent, untold, as_told}
use Rattle.chi_trace.specs.Lines.{first_line, first_line_1, event_text_1, event_line}

-- a line of a text, with the line feed that ends it
abbrev pub ended : List ℕ → List ℕ
ended line = line ++ 10 ∷ []

-- an event as a line of version 1 tells it
pub record IsOld (e : Event) : Type 0 where
  pub event : IsEvent e
  pub told : as_told e ≡ e
  pub no_detail : e.detail ≡ untold e.label

abbrev pub AreOld : List Event → Type 0
AreOld [] = Unit {0}
AreOld (e ∷ es) = IsOld e × AreOld es

-- a line for each event, in version 1 and in version 2
abbrev pub old_lines : List Event → List ℕ
old_lines events = flat_map (λ e. ended (event_text_1 e)) events

abbrev pub new_lines : List Event → List ℕ
new_lines events = flat_map event_line events

-- what a trace begins with, in version 1 and in version 2
abbrev pub old_trace : List Event → List ℕ
old_trace events = ended first_line_1 ++ old_lines events

abbrev pub new_trace : List Event → List ℕ
new_trace events = ended first_line ++ new_lines events

abbrev pub begins_small : List ℕ → Bool
begins_small [] = false
begins_small (c ∷ cs) = nat_le 97 c && nat_le c 122

abbrev pub is_one_line : List ℕ → Bool
is_one_line line = list_all (λ c. not (c == 10)) line

-- a line after the events: any that begins with a lower-case letter
pub record IsLast (line : List ℕ) : Type 0 where
  pub small : IsTrue (begins_small line)
  pub one_line : IsTrue (is_one_line line)

-- what may stand after the events: nothing, or one such line
abbrev pub IsEnd : List ℕ → Type 0
IsEnd rest = (rest ≡ []) ⊎ ((line : List ℕ) × IsLast line × (rest ≡ ended line))

-- a log is brought up to this one: of the same events, with the same end
pub record IsUp (text up : List ℕ) : Type 0 where
  pub events : List Event
  pub old : AreOld events
  pub rest : List ℕ
  pub end : IsEnd rest
  pub is : text ≡ old_trace events ++ rest
  pub raised : up ≡ new_trace events ++ rest

-- something that begins neither with the line of an event nor with one that may come after the events
pub record BeginsOddly (rest : List ℕ) : Type 0 where
  pub some : rest ≢ []
  pub no_event : (e : Event) (more : List ℕ) → IsOld e → rest ≢ ended (event_text_1 e) ++ more
  pub no_last : (line more : List ℕ) → IsLast line → rest ≢ ended line ++ more

-- line k, counted from 1, is the first that doesn't fit
pub data Misfits (text : List ℕ) (k : ℕ) : Type 0 where
  first : ((more : List ℕ) → text ≢ ended first_line_1 ++ more) → k ≡ 1 → Misfits text k
  next : (events : List Event) (rest : List ℕ) → AreOld events → BeginsOddly rest → text ≡ old_trace events ++ rest → k ≡ length events + 2
      → Misfits text k
  after_last : (events : List Event) (line more : List ℕ) → AreOld events → IsLast line → more ≢ []
      → text ≡ old_trace events ++ (ended line ++ more) → k ≡ length events + 3 → Misfits text k

-- what is refused, and with which line; want of memory is tied to nothing
abbrev pub IsRefused : List ℕ → LogFault → Type 0
IsRefused text (Form k) = Misfits text k
IsRefused text NoMemory = Unit {0}
