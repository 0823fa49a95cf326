-- Private to proofs: an offer of an instance that is taken.
use Rattle.std.specs.Prelude.{ℕ, Option, None, Some, slice_get}
use Rattle.chi_value.specs.declared.value.Value.{Value}
use Rattle.chi_core.specs.declared.act.Act.{Act}
use Rattle.chi_core.specs.declared.act.Act.TheVariants.{Send, Receive, Delay}
use Rattle.chi_core.specs.Answer.{Does, then_do, wanted}
use Rattle.chi_core.specs.Config.{Instance, Offer, offers_in}
use Rattle.chi_core.specs.Meeting.{resumed}

-- the slot that receives
abbrev pub slot_in : Act → Option ℕ
slot_in (Send channel x) = None
slot_in (Receive channel slot) = slot
slot_in (Delay due) = None

-- the value that is sent
abbrev pub sent_in : Act → Option Value
sent_in (Send channel x) = x
sent_in (Receive channel slot) = None
sent_in (Delay due) = None

-- an instance whose offer of this number is taken, which receives a value where there is one
abbrev pub resumed_by : ℕ → Option Value → Instance → Does Instance
resumed_by a received i view = then_do (wanted (slice_get (offers_in i.state) a) view) (λ o. resumed o (slot_in o.act) received i)

-- what is sent by an offer
abbrev pub sent_by : Option Offer → Option Value
sent_by None = None
sent_by (Some o) = sent_in o.act
