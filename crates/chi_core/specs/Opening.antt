-- Opening a select: what its alternatives offer, in order.
use Rattle.std.specs.Prelude.{ℕ, ℤ, pos, ◌+ℤ◌, int_lt, nat_lt, Option, Some, None, option_map, List, [], ◌∷◌, ◌++◌, length, map, if◌then◌else◌}
use Rattle.chi_num.specs.Results.{fits}
use Rattle.chi_value.specs.declared.value.Value.{Value}
use Rattle.chi_core.specs.declared.limits.TheConstants.{MOST_OFFERS}
use Rattle.chi_core.specs.declared.expression.CExpr.{CExpr}
use Rattle.chi_core.specs.declared.statement.CStat.{CStat}
use Rattle.chi_core.specs.declared.statement.Branch.{Branch}
use Rattle.chi_core.specs.declared.statement.CAlt.{CAlt, CAlt-F, para-CAlt}
use Rattle.chi_core.specs.declared.communication.CComm.{CComm}
use Rattle.chi_core.specs.declared.communication.CComm.TheVariants as comm
use Rattle.chi_core.specs.declared.fault.FaultKind.TheVariants.{NegativeDelay, RealRange, TooLarge}
use Rattle.chi_core.specs.Answer.{Gives, Fails, Does, then_do, gives, wanted, giving, through}
use Rattle.chi_core.specs.Reading.{truth_of, channel_of, elements_of, real_of, due_of}
use Rattle.chi_core.specs.Variables.{Variables, bound, bindings_at}
use Rattle.chi_core.specs.Evaluation.{Evaluates, on_truth}
use Rattle.chi_core.specs.Spots.{read_at}
use Rattle.chi_core.specs.Config.{Act, Send, Receive, Delay, Offer}

-- the instance's variables, and the offers that were kept so far
pub record Opening : Type 0 where
  pub variables : Variables
  pub offers : List Offer

abbrev pub sent : Value → Option Value → Does Act
sent channel x = wanted (option_map (λ number. Send number x) (channel_of channel))

abbrev pub received : Value → Option ℕ → Does Act
received channel slot = wanted (option_map (λ number. Receive number slot) (channel_of channel))

-- a delay that isn't below 0 is due so much after the clock, at a time that is a real
abbrev pub delayed_by : ℤ → ℤ → Does Act
delayed_by clock delay view =
    if int_lt delay (pos 0) then Fails NegativeDelay
    else if fits (clock +ℤ delay) then Gives (Delay (clock +ℤ delay)) view
    else Fails RealRange

abbrev pub delayed : ℤ → Value → Does Act
delayed clock delay view = then_do (wanted (real_of delay) view) (delayed_by clock)

-- a timer has its own due time
abbrev pub due : Value → Does Act
due timer = wanted (option_map Delay (due_of timer))

-- An offer is kept with its body and with what the names around it are bound to, where there may be one more.
abbrev pub kept : List ℕ → List CStat → Opening → Act → Does Opening
kept names body o act view =
    if nat_lt (length o.offers) MOST_OFFERS
    then giving (λ bindings. record o { offers = o.offers ++ record { act = act; bindings = bindings; body = body } ∷ [] })
    (wanted (bindings_at names o.variables) view)
    else Fails TooLarge

-- with this evaluation of expressions by variables, at this time
module _ (value_in : Variables → Evaluates) (clock : ℤ) where
  -- what is offered: a channel is evaluated before the value that is sent
  abbrev pub act_of : Variables → CComm → Does Act
  act_of variables (comm.Send target None) view =
      then_do (read_at (value_in variables) variables target view) (λ channel. sent channel None)
  act_of variables (comm.Send target (Some e)) view =
      then_do (read_at (value_in variables) variables target view) (λ channel now.
      then_do (value_in variables e now) (λ x. sent channel (Some x)))
  act_of variables (comm.Receive target slot) view =
      then_do (read_at (value_in variables) variables target view) (λ channel. received channel slot)
  act_of variables (comm.Delay e) view = then_do (value_in variables e view) (delayed clock)
  act_of variables (comm.Timer e) view = then_do (value_in variables e view) due

  abbrev pub offered : List ℕ → CComm → List CStat → Opening → Does Opening
  offered names communication body o view = then_do (act_of o.variables communication view) (kept names body o)

  -- the guard, where there is one, is evaluated first; where it is false, nothing is offered
  abbrev pub guarded : Option CExpr → List ℕ → CComm → List CStat → Opening → Does Opening
  guarded None names communication body o view = offered names communication body o view
  guarded (Some guard) names communication body o view =
      then_do (value_in o.variables guard view) (λ x. on_truth (truth_of x) (offered names communication body o) (gives o))

  -- what an alternative does within unwinds that bind these names, the outermost first
  abbrev pub Opens : Type 0
  Opens = List ℕ → Opening → Does Opening

  abbrev pub each_opens : List ℕ → List Opens → Opening → Does Opening
  each_opens names = through (λ opens o. opens names o)

  -- the alternatives once more, with the names of an unwind bound to one element
  abbrev pub unwound : List ℕ → List ℕ → List Opens → Value → Opening → Does Opening
  unwound names slots alternatives element o view =
      then_do (wanted (bound slots element o.variables) view) (λ variables.
      each_opens (names ++ slots) alternatives (record o { variables = variables }))

  -- the alternatives once more for each element of a container
  abbrev pub unwinds : List ℕ → CExpr → List Opens → Opens
  unwinds slots e alternatives names o view =
      then_do (value_in o.variables e view) (λ x now.
      then_do (wanted (elements_of x) now) (λ elements.
      through (unwound names slots alternatives) elements o))

  abbrev pub itself : CStat × Unit {0} → CStat
  itself p = p.0

  abbrev pub meaning : CAlt × Opens → Opens
  meaning p = p.1

  abbrev pub opens_step : CAlt-F (CAlt × Opens) (CStat × Unit {0}) (Branch × Unit {0}) → Opens
  opens_step (CAlt-F.Guarded guard communication body) names o view =
      guarded guard names communication (map itself body) o view
  opens_step (CAlt-F.Unwind slots e alternatives) names o view = unwinds slots e (map meaning alternatives) names o view

  -- what an alternative adds
  unfoldable pub opens : CAlt → Opens
  opens = para-CAlt Opens (Unit {0}) (Unit {0}) opens_step (λ layer. tt) (λ layer. tt)

  -- the variables and the offers once all alternatives are open
  abbrev pub opened : Variables → List CAlt → Does Opening
  opened variables alternatives = each_opens [] (map opens alternatives) (record { variables = variables; offers = [] })
