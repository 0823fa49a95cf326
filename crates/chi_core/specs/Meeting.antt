-- What becomes of instances that wait or join: their offers are taken, or those that they wait for have finished.
use Rattle.std.specs.Prelude.{ℕ, nat_eq, ℤ, int_lt, Bool, true, false, not, Option, Some, None, List, [], ◌∷◌, slice_get, if◌then◌else◌}
use Rattle.std.specs.List.{flat_map, list_all}
use Rattle.std.specs.Int.{int_min}
use Rattle.chi_value.specs.declared.value.Value.{Value}
use Rattle.chi_core.specs.Answer.{Gives, Amiss, Does, then_do, amiss, wanted, giving}
use Rattle.chi_core.specs.Variables.{Variables, with_slot, bind}
use Rattle.chi_core.specs.Terms.{first_the}
use Rattle.chi_core.specs.Config.{Config, Instance, Offer, Act, Send, Receive, Delay, State, Running, Joining, offers_in, has_finished, with_instance}
use Rattle.chi_core.specs.Performing.{Change, quietly}

-- what is received goes into the slot: both are there, or neither is
abbrev pub filled : Option ℕ → Option Value → Variables → Option Variables
filled None None variables = Some variables
filled (Some slot) (Some x) variables = with_slot slot x variables
filled _ _ variables = None

-- An offer of an instance is taken: the names of its unwinds are bound, what it receives is stored, and its body
-- is done first.
abbrev pub resumed : Offer → Option ℕ → Option Value → Instance → Does Instance
resumed offer slot x i view =
    then_do (wanted (bind offer.bindings i.variables) view) (λ bound now.
    giving (λ variables. record i { variables = variables; term = first_the offer.body i.term; state = Running })
    (wanted (filled slot x bound) now))

-- the offer of an instance as its alternative a
abbrev pub offer_at : Option Instance → ℕ → Option Offer
offer_at None a = None
offer_at (Some i) a = slice_get (offers_in i.state) a

-- instance p sends, and instance q, another one, receives on the same channel
abbrev pub met : Config → ℕ → Instance → Offer → Act → ℕ → Instance → Offer → Act → Does Change
met config p i sends (Send channel x) q j receives (Receive its slot) view =
    if nat_eq channel its
    then then_do (resumed sends None None i view) (λ sender now.
    giving (λ receiver. quietly (with_instance (with_instance config p sender) q receiver)) (resumed receives slot x j now))
    else Amiss
met config p i sends _ q j receives _ view = Amiss

abbrev pub paired : Config → ℕ → Option Instance → Option Offer → ℕ → Option Instance → Option Offer → Does Change
paired config p (Some i) (Some sends) q (Some j) (Some receives) view =
    if nat_eq p q then Amiss else met config p i sends sends.act q j receives receives.act view
paired config p _ _ q _ _ view = Amiss

-- a delay of instance p is due
abbrev pub woken_by : Config → ℕ → Instance → Offer → Act → Does Change
woken_by config p i offer (Delay due) view =
    if int_lt config.clock due then Amiss
    else giving (λ woken. quietly (with_instance config p woken)) (resumed offer None None i view)
woken_by config p i offer _ view = Amiss

abbrev pub woken : Config → ℕ → Option Instance → Option Offer → Does Change
woken config p (Some i) (Some offer) = woken_by config p i offer offer.act
woken config p _ _ = amiss

abbrev pub is_over : Option Instance → Bool
is_over None = false
is_over (Some i) = has_finished i

-- instances of these numbers are there, and have finished
abbrev pub are_over : Config → List ℕ → Bool
are_over config numbers = list_all (λ q. is_over (slice_get config.instances q)) numbers

abbrev pub joined_in : Config → ℕ → Instance → State → Does Change
joined_in config p i (Joining numbers) view =
    if are_over config numbers then Gives (quietly (with_instance config p (record i { state = Running }))) view else Amiss
joined_in config p i _ view = Amiss

-- all for which instance p waits have finished
abbrev pub joined : Config → ℕ → Option Instance → Does Change
joined config p None = amiss
joined config p (Some i) = joined_in config p i i.state

-- time

abbrev pub due_in : Act → List ℤ
due_in (Delay due) = due ∷ []
due_in (Send channel x) = []
due_in (Receive channel slot) = []

-- the due times of all offers
abbrev pub due_times : Config → List ℤ
due_times config = flat_map (λ i. flat_map (λ o. due_in o.act) (offers_in i.state)) config.instances

abbrev pub earlier : ℤ → Option ℤ → Option ℤ
earlier t None = Some t
earlier t (Some u) = Some (int_min t u)

abbrev pub least_time : List ℤ → Option ℤ
least_time [] = None
least_time (t ∷ ts) = earlier t (least_time ts)

-- the least due time of all offers, if there is any
abbrev pub next_due : Config → Option ℤ
next_due config = least_time (due_times config)

-- the time doesn't go on past the stopping time, if there is one
abbrev pub may_reach : Option ℤ → ℤ → Bool
may_reach None t = true
may_reach (Some until) t = not (int_lt until t)

abbrev pub advanced : Config → Option ℤ → Does Change
advanced config None view = Amiss
advanced config (Some t) view = if may_reach config.until t then Gives (quietly (record config { clock = t })) view else Amiss
