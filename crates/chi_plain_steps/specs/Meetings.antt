-- Private to proofs: an offer of an instance that is taken.
use Rattle.std.specs.Prelude.{ℕ, Option, slice_get}
use Rattle.chi_value.specs.declared.value.Value.{Value}
use Rattle.chi_core.specs.Answer.{Does, then_do, wanted, giving}
use Rattle.chi_core.specs.Config.{Config, with_instance}
use Rattle.chi_core.specs.Meeting.{offer_at}
use Rattle.chi_plain_open.specs.Taken.{sent_by, resumed_by}

-- what instance p sends by this offer
abbrev pub sent_at : Config → ℕ → ℕ → Option Value
sent_at config p a = sent_by (offer_at (slice_get config.instances p) a)

-- the configuration where an offer of instance p is taken
abbrev pub resumed_at : Config → ℕ → ℕ → Option Value → Does Config
resumed_at config p a received view =
    then_do (wanted (slice_get config.instances p) view) (λ i now. giving (with_instance config p) (resumed_by a received i now))
