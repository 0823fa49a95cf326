-- Private to proofs: how a line is read, part by part. What is left of a line has ended, or goes on with a space.
use Rattle.std.specs.Prelude.{◌≡◌, ℕ, ◌==◌, ◌^◌, ◌&&◌, not, nat_lt, is_none, ℤ, pos, Bool, true, false, List, [], ◌∷◌, length, drop, take, bytes_eq, codes, Option, Some, None, option_and_then, if◌then◌else◌}
use Rattle.std.specs.Fmt.{decimal}
use Rattle.std.specs.List.{list_all, prefix_len}
use Rattle.std.specs.Str.Parse.{digits_value}
use Rattle.chi_core.specs.declared.label.Label.{Label}
use Rattle.chi_core.specs.declared.label.Label.TheVariants.{Local, Pair, Wake, Join, Advance}
use Rattle.chi_num.specs.RealText.{real_text_of}
use Rattle.chi_num.specs.TextNumbers.{Meant, means, no_form, out_of_range, real_meant}
use Rattle.chi_token.specs.Characters.{is_name_start, is_name_byte}
use Rattle.chi_token.specs.Keywords.{keyword_of}
use Rattle.chi_trace.specs.declared.event.Detail.{Detail}
use Rattle.chi_trace.specs.declared.event.Detail.TheVariants.{Unknown, Bare, At, Of, Sent}
use Rattle.chi_trace.specs.declared.event.Event.{Event}
use Rattle.chi_trace.specs.Events.{unknown_part, is_value_text, untold}

infixl 10 ◌>>=◌
abbrev pub ◌>>=◌ : {A B : Type 0} → Option A → (A → Option B) → Option B
o >>= f = option_and_then f o

abbrev pub is_part_byte : ℕ → Bool
is_part_byte c = not (c == 32)

-- the bytes before the first space, and what stands from there on
abbrev pub front : List ℕ → List ℕ
front text = take (prefix_len is_part_byte text) text

abbrev pub after : List ℕ → List ℕ
after text = drop (prefix_len is_part_byte text) text

-- the part after a space, and what is left
unfoldable pub part_told : List ℕ → Option (List ℕ × List ℕ)
part_told [] = None
part_told (c ∷ cs) = if c == 32 then Some (front cs, after cs) else None

-- a number below the bound
unfoldable pub number_told : ℕ → List ℕ → Option ℕ
number_told bound text =
    if nat_lt (digits_value 10 text) bound && bytes_eq (decimal (digits_value 10 text)) text then Some (digits_value 10 text)
    else None

unfoldable pub number_part : List ℕ → Option (ℕ × List ℕ)
number_part text = do
  part ← part_told text
  number ← number_told (2 ^ 32) part.0
  Some (number, part.1)

-- the units of a time
abbrev pub canonical_units : Meant → List ℕ → Option ℤ
canonical_units (means z) text = if bytes_eq (real_text_of z) text then Some z else None
canonical_units no_form text = None
canonical_units out_of_range text = None

unfoldable pub time_told : List ℕ → Option ℤ
time_told text = canonical_units (real_meant text) text

-- a name of the language
unfoldable pub is_name : List ℕ → Bool
is_name [] = false
is_name (c ∷ cs) = is_name_start c && list_all is_name_byte cs && is_none (keyword_of (c ∷ cs))

unfoldable pub local_told : List ℕ → Option ((Label × ℤ) × List ℕ)
local_told rest = do
  p ← number_part rest
  Some ((Local p.0, pos 0), p.1)

unfoldable pub two_told : List ℕ → Option ((ℕ × ℕ) × List ℕ)
two_told text = do
  a ← number_part text
  b ← number_part a.1
  Some ((a.0, b.0), b.1)

unfoldable pub pair_told : List ℕ → Option ((Label × ℤ) × List ℕ)
pair_told rest = do
  sender ← two_told rest
  receiver ← two_told sender.1
  Some ((Pair sender.0.0 sender.0.1 receiver.0.0 receiver.0.1, pos 0), receiver.1)

unfoldable pub wake_told : List ℕ → Option ((Label × ℤ) × List ℕ)
wake_told rest = do
  two ← two_told rest
  Some ((Wake two.0.0 two.0.1, pos 0), two.1)

unfoldable pub join_told : List ℕ → Option ((Label × ℤ) × List ℕ)
join_told rest = do
  p ← number_part rest
  Some ((Join p.0, pos 0), p.1)

unfoldable pub advance_told : List ℕ → Option ((Label × ℤ) × List ℕ)
advance_told rest = do
  part ← part_told rest
  units ← time_told part.0
  Some ((Advance, units), part.1)

abbrev pub label_by : List ℕ → List ℕ → Option ((Label × ℤ) × List ℕ)
label_by kind rest =
    if bytes_eq kind (codes "local") then local_told rest
    else if bytes_eq kind (codes "pair") then pair_told rest
    else if bytes_eq kind (codes "wake") then wake_told rest
    else if bytes_eq kind (codes "join") then join_told rest
    else if bytes_eq kind (codes "advance") then advance_told rest
    else None

unfoldable pub label_told : List ℕ → Option ((Label × ℤ) × List ℕ)
label_told text = do
  kind ← part_told text
  label_by kind.0 kind.1

-- what stands in both versions: the turn, the label and the clock, and what is left
unfoldable pub head_told : List ℕ → Option ((ℕ × Label × ℤ) × List ℕ)
head_told text = do
  turn ← number_told (2 ^ 64) (front text)
  label ← label_told (after text)
  Some ((turn, label.0.0, label.0.1), label.1)

-- nothing is left
abbrev pub ended : {A : Type 0} → A → List ℕ → Option A
ended a [] = Some a
ended a (c ∷ cs) = None

-- a name and a line, neither of which or both are known
abbrev pub place_of : List ℕ → List ℕ → List ℕ → Option Detail
place_of name line left =
    if bytes_eq name unknown_part then (if bytes_eq line unknown_part then ended Unknown left else None)
    else if is_name name then (number_told (2 ^ 32) line >>= λ n. ended (At name n) left)
    else None

unfoldable pub place_told : List ℕ → Option Detail
place_told rest = do
  name ← part_told rest
  line ← part_told name.1
  place_of name.0 line.0 line.1

abbrev pub name_of : List ℕ → List ℕ → Option Detail
name_of name left =
    if bytes_eq name unknown_part then ended Unknown left
    else if is_name name then ended (Of name) left
    else None

unfoldable pub name_told : List ℕ → Option Detail
name_told rest = do
  name ← part_told rest
  name_of name.0 name.1

-- all that is left after a space
unfoldable pub value_part : List ℕ → Option (List ℕ)
value_part [] = None
value_part (c ∷ cs) = if c == 32 then Some cs else None

-- a channel and a value, neither of which or both are known
abbrev pub sent_of : List ℕ → List ℕ → Option Detail
sent_of channel value =
    if bytes_eq channel unknown_part then (if bytes_eq value unknown_part then Some Unknown else None)
    else if is_value_text value then (number_told (2 ^ 32) channel >>= λ n. Some (Sent n value))
    else None

unfoldable pub sent_told : List ℕ → Option Detail
sent_told rest = do
  channel ← part_told rest
  value ← value_part channel.1
  sent_of channel.0 value

abbrev pub detail_told : Label → List ℕ → Option Detail
detail_told (Local p) rest = place_told rest
detail_told (Pair p a q b) rest = sent_told rest
detail_told (Wake p a) rest = name_told rest
detail_told (Join p) rest = name_told rest
detail_told Advance rest = ended Bare rest

abbrev pub event_of : (ℕ × Label × ℤ) → Detail → Event
event_of head detail = record { turn = head.0; label = head.1; clock = head.2; detail = detail }

-- the event that a line tells, in version 2 and in version 1
unfoldable pub event_told : List ℕ → Option Event
event_told text = do
  head ← head_told text
  detail ← detail_told head.0.1 head.1
  Some (event_of head.0 detail)

unfoldable pub event_told_1 : List ℕ → Option Event
event_told_1 text = do
  head ← head_told text
  ended (event_of head.0 (untold head.0.1)) head.1
