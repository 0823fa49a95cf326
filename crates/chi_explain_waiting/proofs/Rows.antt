-- Worked rows: what the text is of small configurations.
use Rattle.std.proofs.Common.{◌≡◌, ℕ, pos, List, [], ◌∷◌, ◌++◌, None, true, false, refl}
use Rattle.std.specs.Prelude.{codes}
use Rattle.std.specs.Fmt.{digits}
use Rattle.chi_num.specs.Decimal.{last_digits}
use Rattle.chi_num.specs.RealText.{trimmed}
use Rattle.chi_core.specs.declared.act.Act.{Act}
use Rattle.chi_core.specs.declared.act.Act.TheVariants.{Send, Receive, Delay}
use Rattle.chi_core.specs.declared.program.Core.{Core}
use Rattle.chi_core.specs.declared.program.ProcDef.{ProcDef}
use Rattle.chi_core.specs.Config.{Config, Instance, Offer, State, Running, Waiting, Joining, Finished}
use Rattle.chi_core.specs.Terms.{Walk}
use Rattle.chi_explain.specs.Excerpts.{ended}
use Rattle.chi_explain_waiting.specs.Joins.{is_in_ring, through}
use Rattle.chi_explain_waiting.specs.WaitingText.{waiting_text}
use Rattle.chi_explain_waiting.specs.Whereabouts.{line_told}

abbrev process : ProcDef
process = record { name = codes "P"; params = []; exit = None; slots = []; body = [] }

abbrev core : Core
core = record {
  consts = [];
  funcs = [];
  procs = process ∷ [];
  model = 0;
  names = record { kinds = [] };
  xpers = [];
}

abbrev source : List ℕ
source = ended (codes "model P():") ++ ended (codes "  c!1;  ") ++ ended (codes "  finish p")

abbrev config_of : List Instance → Config
config_of instances = record { clock = pos 0; draws = []; channels = 3; instances = instances; seed = 0; until = None; constants = [] }

abbrev in_state : State → Instance
in_state state = record { definition = 0; variables = []; term = Walk 1 [] [] [] ∷ []; state = state }

abbrev offer : Act → Offer
offer act = record { act = act; bindings = []; body = [] }

-- one offers to send, where nobody else receives, and waits until a time; another one has finished, and the third runs
abbrev alone : Config
alone = config_of (in_state (Waiting (offer (Send 2 None) ∷ offer (Delay (pos 5_000_000_000)) ∷ [])) ∷ in_state Finished ∷ in_state Running ∷ [])

alone_told : waiting_text core source (2 ∷ []) alone
    ≡ ended (codes "instance 0 P at line 2: `c!1;`") ++ ended (codes "  waits to send on channel 2!, where nobody else receives")
    ++ ended (codes "  waits until time 5.0") ++ ended (codes "instance 2 P at line 1: `model P():`") ++ ended (codes "  runs: this line is next")
unfolding digits last_digits trimmed
alone_told = refl

-- two that offer both sides; lines aren't known
abbrev both : Config
both = config_of (in_state (Waiting (offer (Send 2 None) ∷ [])) ∷ in_state (Waiting (offer (Receive 2 None) ∷ [])) ∷ [])

both_told : waiting_text core source [] both
    ≡ ended (codes "instance 0 P") ++ ended (codes "  waits to send on channel 2!") ++ ended (codes "instance 1 P") ++ ended (codes "  waits to receive on channel 2?")
unfolding digits
both_told = refl

-- a ring of two, and one that waits for them
abbrev ring : Config
ring = config_of (in_state (Joining (1 ∷ [])) ∷ in_state (Joining (0 ∷ [])) ∷ in_state (Joining (1 ∷ 0 ∷ [])) ∷ [])

ring_told : waiting_text core source (3 ∷ 3 ∷ 3 ∷ []) ring
    ≡ ended (codes "instance 0 P at line 3: `finish p`") ++ ended (codes "  waits for instances to finish: 1") ++ ended (codes "  waits so for itself, in a ring")
    ++ ended (codes "instance 1 P at line 3: `finish p`") ++ ended (codes "  waits for instances to finish: 0") ++ ended (codes "  waits so for itself, in a ring")
    ++ ended (codes "instance 2 P at line 3: `finish p`") ++ ended (codes "  waits for instances to finish: 1, 0")
unfolding digits through
ring_told = refl

-- one that names another twice, and one that joins none
abbrev twice : Config
twice = config_of (in_state (Joining (2 ∷ 1 ∷ 2 ∷ [])) ∷ in_state (Joining []) ∷ in_state Running ∷ [])

twice_told : waiting_text core source [] twice
    ≡ ended (codes "instance 0 P") ++ ended (codes "  waits for instances to finish: 2, 1") ++ ended (codes "instance 1 P")
    ++ ended (codes "  goes on: there is none for which it waits") ++ ended (codes "instance 2 P at line 1: `model P():`")
    ++ ended (codes "  runs: this line is next")
unfolding digits through
twice_told = refl

-- a line between blanks, of which the last is a carriage return
between_blanks : line_told (codes "model P():" ++ 13 ∷ 10 ∷ 9 ∷ codes "c!1 " ++ 13 ∷ 10 ∷ []) 2 ≡ codes "c!1"
between_blanks = refl

-- one that waits for itself, and one that waits for that
abbrev itself : Config
itself = config_of (in_state (Joining (0 ∷ [])) ∷ in_state (Joining (0 ∷ [])) ∷ [])

in_ring : is_in_ring itself 0 ≡ true
unfolding through
in_ring = refl

in_none : is_in_ring itself 1 ≡ false
unfolding through
in_none = refl
