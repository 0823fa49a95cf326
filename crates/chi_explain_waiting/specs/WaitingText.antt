-- The text that says who waits for what, and where, in a configuration in which instances haven't finished.
use Rattle.std.specs.Prelude.{ℕ, ℤ, ◌-◌, nat_lt, ◌==◌, if◌then◌else◌, Bool, true, false, List, [], ◌∷◌, ◌++◌, length, take, flat_map, codes, Option, Some, None, unwrap_or, slice_get}
use Rattle.std.specs.Fmt.{decimal}
use Rattle.chi_num.specs.RealText.{real_text_of}
use Rattle.chi_core.specs.declared.act.Act.{Act}
use Rattle.chi_core.specs.declared.act.Act.TheVariants.{Send, Receive, Delay}
use Rattle.chi_core.specs.declared.program.Core.{Core}
use Rattle.chi_core.specs.Config.{Config, Instance, Offer, State, Running, Waiting, Joining, Finished}
use Rattle.chi_core.specs.Options.{numbers}
use Rattle.chi_core.specs.Step.{name_of}
use Rattle.chi_explain.specs.Excerpts.{ended}
use Rattle.chi_explain_waiting.specs.declared.pieces.TheConstants.{MOST_TOLD}
use Rattle.chi_explain_waiting.specs.Joins.{is_in_ring, not_over, once}
use Rattle.chi_explain_waiting.specs.Partners.{is_answered}
use Rattle.chi_explain_waiting.specs.Whereabouts.{at_line, line_at}

abbrev pub unless : Bool → List ℕ → List ℕ
unless true words = []
unless false words = words

-- how many more there are than are told
abbrev pub and_more : List ℕ → ℕ → List ℕ
and_more words count = if nat_lt 0 count then ended (words ++ decimal count) else []

-- what an instance offers: to send, to receive, or to go on at a time; and where no other offers the other side of it, that is told

abbrev pub send_words : ℕ → Bool → List ℕ
send_words channel answered = codes "  waits to send on channel " ++ decimal channel ++ codes "!" ++ unless answered (codes ", where nobody else receives")

abbrev pub receive_words : ℕ → Bool → List ℕ
receive_words channel answered = codes "  waits to receive on channel " ++ decimal channel ++ codes "?" ++ unless answered (codes ", where nobody else sends")

abbrev pub time_words : ℤ → List ℕ
time_words due = codes "  waits until time " ++ real_text_of due

abbrev pub act_words : Bool → Act → List ℕ
act_words answered (Send channel x) = send_words channel answered
act_words answered (Receive channel slot) = receive_words channel answered
act_words answered (Delay due) = time_words due

abbrev pub offer_told : Config → ℕ → Offer → List ℕ
offer_told config p o = ended (act_words (is_answered config p o.act) o.act)

abbrev pub open_told : Config → ℕ → List Offer → List ℕ
open_told config p offers =
    flat_map (offer_told config p) (take MOST_TOLD offers) ++ and_more (codes "  more alternatives: ") (length offers - MOST_TOLD)

abbrev pub offers_told : Config → ℕ → List Offer → List ℕ
offers_told config p offers = if length offers == 0 then ended (codes "  waits for ever: no alternative is open") else open_told config p offers

-- numbers with commas between them
abbrev pub listed : List ℕ → List ℕ
listed [] = []
listed (q ∷ qs) = decimal q ++ flat_map (λ r. codes ", " ++ decimal r) qs

abbrev pub ring_told : Bool → List ℕ
ring_told true = ended (codes "  waits so for itself, in a ring")
ring_told false = []

-- the instances for which instance p waits that joins: each is told once
abbrev pub left_told : Config → ℕ → List ℕ → List ℕ
left_told config p left =
    ended (codes "  waits for instances to finish: " ++ listed (take MOST_TOLD left))
    ++ and_more (codes "  more instances: ") (length left - MOST_TOLD) ++ ring_told (is_in_ring config p)

-- that an instance goes on that joins these
abbrev pub goes_on_told : List ℕ → List ℕ
goes_on_told numbers =
    if length numbers == 0 then ended (codes "  goes on: there is none for which it waits")
    else ended (codes "  goes on: those for which it waited have finished")

-- of an instance that joins these, of which some are left
abbrev pub joins_told : Config → ℕ → List ℕ → List ℕ → List ℕ
joins_told config p numbers left = if length left == 0 then goes_on_told numbers else left_told config p left

abbrev pub state_told : Config → ℕ → State → List ℕ
state_told config p Running = ended (codes "  runs: this line is next")
state_told config p (Waiting offers) = offers_told config p offers
state_told config p (Joining numbers) = joins_told config p numbers (once (not_over config numbers))
state_told config p Finished = []

-- the name of the process
abbrev pub name_told : Core → ℕ → List ℕ
name_told core definition = unwrap_or (name_of core definition) []

-- the instances that haven't finished, ascending
abbrev pub unfinished : Config → List ℕ
unfinished config = not_over config (numbers (length config.instances))

-- with a program, its source, and the lines that instances did last
module _ (core : Core) (source : List ℕ) (lines : List ℕ) (config : Config) where
  abbrev pub head_told : ℕ → Instance → List ℕ
  head_told p i = ended (codes "instance " ++ decimal p ++ codes " " ++ name_told core i.definition ++ at_line source (line_at lines p i))

  abbrev pub instance_told : ℕ → Option Instance → List ℕ
  instance_told p None = []
  instance_told p (Some i) = head_told p i ++ state_told config p i.state

  abbrev pub waiting_text : List ℕ
  waiting_text =
      flat_map (λ p. instance_told p (slice_get config.instances p)) (take MOST_TOLD (unfinished config))
      ++ and_more (codes "more that haven't finished: ") (length (unfinished config) - MOST_TOLD)
