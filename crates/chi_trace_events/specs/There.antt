-- What an event tells is there.
use Rattle.std.specs.Prelude.{◌≡◌, ◌≢◌, ℕ, List, [], Option, Some, None, IfSome, IsSomeAnd, IsTrue, slice_get, option_map}
use Rattle.chi_value.specs.declared.value.Value.{Value}
use Rattle.chi_value.specs.Plain.{within}
use Rattle.chi_core.specs.declared.act.Act.{Act}
use Rattle.chi_core.specs.declared.act.Act.TheVariants.{Send}
use Rattle.chi_core.specs.declared.label.Label.{Label}
use Rattle.chi_core.specs.declared.label.Label.TheVariants.{Local, Pair, Wake, Join, Advance}
use Rattle.chi_core.specs.declared.program.Core.{Core}
use Rattle.chi_core.specs.Config.{Config, Instance}
use Rattle.chi_core.specs.Meeting.{offer_at, next_due}
use Rattle.chi_core.specs.Sound.{IsName}
use Rattle.chi_trace.specs.Events.{is_value_text}
use Rattle.chi_trace_events.specs.Traces.{name_in, sent_text}

-- an instance is there, and its definition has a name
abbrev pub IsNamed : Core → Option Instance → Type 0
IsNamed core place = (name : List ℕ) × (name_in core place ≡ Some name) × IsName name

-- what is sent can be told
pub record IsSent (names : List (List (List ℕ))) (x : Option Value) : Type 0 where
  pub named : IfSome x (λ v. IsTrue (within names v))
  pub text : IsTrue (is_value_text (sent_text names x))

abbrev pub act_at : Config → ℕ → ℕ → Option Act
act_at config p a = option_map (λ offer. offer.act) (offer_at (slice_get config.instances p) a)

-- it is a send of something that can be told
abbrev pub Sends : Core → Option Act → Type 0
Sends core act = (channel : ℕ) × (x : Option Value) × (act ≡ Some (Send channel x)) × IsSent core.names.kinds x

abbrev pub IsDoing : Option Instance → Type 0
IsDoing place = IsSomeAnd place (λ i. i.term ≢ [])

-- all that the event of a label tells
abbrev pub IsThere : Core → Config → Label → Type 0
IsThere core config (Local p) = IsNamed core (slice_get config.instances p) × IsDoing (slice_get config.instances p)
IsThere core config (Pair p a q b) = Sends core (act_at config p a)
IsThere core config (Wake p a) = IsNamed core (slice_get config.instances p)
IsThere core config (Join p) = IsNamed core (slice_get config.instances p)
IsThere core config Advance = next_due config ≢ None
