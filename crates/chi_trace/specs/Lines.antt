-- The lines of a trace: what stands in the line of an event, in version 2 and in version 1.
use Rattle.std.specs.Prelude.{◌≡◌, ℕ, ℤ, List, [], ◌∷◌, ◌++◌, codes}
use Rattle.std.specs.Fmt.{decimal}
use Rattle.std.specs.List.{flat_map}
use Rattle.chi_core.specs.declared.label.Label.{Label}
use Rattle.chi_core.specs.declared.label.Label.TheVariants.{Local, Pair, Wake, Join, Advance}
use Rattle.chi_num.specs.RealText.{real_text_of}
use Rattle.chi_trace.specs.declared.event.Detail.{Detail}
use Rattle.chi_trace.specs.declared.event.Detail.TheVariants.{Unknown, Bare, At, Of, Sent}
use Rattle.chi_trace.specs.declared.event.Event.{Event}
use Rattle.chi_trace.specs.Events.{IsEvent, unknown_part, untold, as_told}

-- the first line of a trace, without its line feed
abbrev pub first_line : List ℕ
first_line = codes "trace 2"

abbrev pub first_line_1 : List ℕ
first_line_1 = codes "trace 1"

-- what happened, and by whom: a sender and its alternative go before the receiver and its own
abbrev pub label_parts : Label → ℤ → List (List ℕ)
label_parts (Local p) clock = codes "local" ∷ decimal p ∷ []
label_parts (Pair p a q b) clock = codes "pair" ∷ decimal p ∷ decimal a ∷ decimal q ∷ decimal b ∷ []
label_parts (Wake p a) clock = codes "wake" ∷ decimal p ∷ decimal a ∷ []
label_parts (Join p) clock = codes "join" ∷ decimal p ∷ []
label_parts Advance clock = codes "advance" ∷ real_text_of clock ∷ []

-- what isn't known of a label
abbrev pub unknown_parts : Label → List (List ℕ)
unknown_parts (Local p) = unknown_part ∷ unknown_part ∷ []
unknown_parts (Pair p a q b) = unknown_part ∷ unknown_part ∷ []
unknown_parts (Wake p a) = unknown_part ∷ []
unknown_parts (Join p) = unknown_part ∷ []
unknown_parts Advance = []

-- what version 2 tells more: a name and a line, a name, or a channel and the text of a value
abbrev pub detail_parts : Label → Detail → List (List ℕ)
detail_parts label Unknown = unknown_parts label
detail_parts label Bare = []
detail_parts label (At name line) = name ∷ decimal line ∷ []
detail_parts label (Of name) = name ∷ []
detail_parts label (Sent channel value) = decimal channel ∷ value ∷ []

-- each part after a space
abbrev pub spaced : List (List ℕ) → List ℕ
spaced parts = flat_map (λ part. 32 ∷ part) parts

-- the line of an event in version 1, without its line feed
unfoldable pub event_text_1 : Event → List ℕ
event_text_1 e = decimal e.turn ++ spaced (label_parts e.label e.clock)

-- the line of an event, without its line feed, and with it
unfoldable pub event_text : Event → List ℕ
event_text e = decimal e.turn ++ spaced (label_parts e.label e.clock) ++ spaced (detail_parts e.label e.detail)

abbrev pub event_line : Event → List ℕ
event_line e = event_text e ++ 10 ∷ []

-- a text is the line of an event, as far as the line tells it
pub record IsLine (text : List ℕ) (e : Event) : Type 0 where
  pub event : IsEvent e
  pub told : as_told e ≡ e
  pub spelled : text ≡ event_text e

-- the same in version 1, which tells no details
pub record IsLine1 (text : List ℕ) (e : Event) : Type 0 where
  pub event : IsEvent e
  pub told : as_told e ≡ e
  pub no_detail : e.detail ≡ untold e.label
  pub spelled : text ≡ event_text_1 e
