-- What each label does to the state of the machine, which is given the code alone.
use Rattle.std.specs.Prelude.{◌≡◌, ℕ, suc, ◌+◌, ℤ, int_lt, nat_eq, List, [], ◌++◌, length, map, option_map, slice_get, slice_set, Option, Some, None, true, false}
use Rattle.chi_value.specs.declared.value.Value.{Value}
use Rattle.chi_core.specs.declared.act.Act.TheVariants.{Send, Receive, Delay}
use Rattle.chi_core.specs.declared.fault.FaultKind.{FaultKind}
use Rattle.chi_core.specs.declared.label.Label.{Label}
use Rattle.chi_core.specs.declared.label.Label.TheVariants.{Local, Pair, Wake, Join, Advance}
use Rattle.chi_core.specs.declared.scene.Scene.{Scene}
use Rattle.chi_core.specs.declared.verdict.Verdict.{Verdict}
use Rattle.chi_core.specs.declared.verdict.Verdict.TheVariants.{Fault, Exit}
use Rattle.chi_core.specs.declared.view.View.{View}
use Rattle.chi_core.specs.Config.{has_finished}
use Rattle.chi_core.specs.Meeting.{filled, are_over, next_due, may_reach}
use Rattle.chi_core.specs.Variables.{Variables, bind}
use Rattle.chi_code.specs.declared.code.Code.{Code}
use Rattle.chi_code.specs.declared.instr.Instr.{Instr}
use Rattle.chi_code.specs.declared.instr.Instr.TheVariants as i
use Rattle.chi_exec_law.specs.Runs.{End, Rests, Faults, Spends, Next, Goes, Ends, Reaches}
use Rattle.chi_exec_law.specs.State.{State, state, frame_of}
use Rattle.chi_machine_laws.specs.Instances.{Kept, Standing, Running, Waiting, Joining, Held, Whole}
use Rattle.chi_machine_laws.specs.Choosing.{instance_of, config_of}
use Rattle.chi_machine_laws.specs.Deeds.{Brought, nothing, Rest, Pauses, Waits, Joins, Exits, Within, moves, held_there}

-- The machine goes on in a state, with a text that it writes and so much left of the bound; or the run is over; or the label
-- costs more than is left.
pub data Outcome : Type 0 where
  GoesOn : Whole → List ℕ → ℕ → Outcome
  Over : Verdict → Outcome
  Spent : Outcome

-- what a run of an instance works within, and what it begins with, where so much is left

abbrev pub scene_at : Code → Whole → Scene
scene_at code m = record {
  names = code.names;
  seed = m.seed;
  clock = m.clock;
  constants = m.constants;
  finished = map (λ h. has_finished (instance_of h)) m.instances;
}

abbrev pub within_at : Code → Whole → Within
within_at code m = record { code = code; scene = scene_at code m; count = length m.instances }

abbrev pub view_at : Whole → ℕ → View
view_at m left = record { left = left; draws = m.draws; channels = m.channels; instances = length m.instances }

-- an instance runs from behind the instruction where it stands, which begins its turn
abbrev pub going : Held → View → State
going h view = state (h.at + 1) [] h.frame [] view

-- an instance that rests
abbrev pub held_at : ℕ → State → Standing → Held
held_at definition s standing = record { definition = definition; at = s.at; frame = s.frame; standing = standing }

-- the machine with instance p as it is now, with those that it made, and with what was used up
abbrev pub with_held : Whole → ℕ → Held → List Held → View → Whole
with_held m p h made view = record m { instances = slice_set m.instances p h ++ made; draws = view.draws; channels = view.channels }

abbrev pub name_at : Code → ℕ → Option (List ℕ)
name_at code definition = option_map (λ e. e.name) (slice_get code.procs definition)

-- What becomes of the machine after a run of instance p, of this definition, whose statement has this line.
pub data After (code : Code) (m : Whole) (p definition line : ℕ) : End Rest → Outcome → Type 0 where
  paused : (s : State) (b : Brought)
      → After code m p definition line (Rests (Pauses s b)) (GoesOn (with_held m p (held_there code definition s.frame s.at) b.made s.view) b.text s.view.left)
  waited : (s : State) (b : Brought)
      → After code m p definition line (Rests (Waits s b)) (GoesOn (with_held m p (held_at definition s (Waiting b.offers)) b.made s.view) b.text s.view.left)
  joined : (numbers : List ℕ) (s : State) (b : Brought)
      → After code m p definition line (Rests (Joins numbers s b)) (GoesOn (with_held m p (held_at definition s (Joining numbers)) b.made s.view) b.text s.view.left)
  exited : (v : Option Value) → After code m p definition line (Rests (Exits v)) (Over (Exit v))
  broke : (kind : FaultKind) (name : List ℕ) → name_at code definition ≡ Some name → After code m p definition line (Faults kind) (Over (Fault kind name line))
  spent : After code m p definition line Spends Spent

-- An instance that waited or joined goes on at a place: through jumps, to the instruction that is next to be done.

abbrev pub jumps_from : Option Instr → ℕ → Next ℕ ℕ
jumps_from (Some (i.Jump goal)) place = Goes goal
jumps_from _ place = Ends (Rests place)

unfoldable pub jumps : List Instr → ℕ → Next ℕ ℕ
jumps code place = jumps_from (slice_get code place) place

-- its offer is taken: names are bound, and what is received is stored
pub record Resumed (code : Code) (h : Held) (k : Kept) (slot : Option ℕ) (x : Option Value) (next : Held) : Type 0 where
  pub bound : Variables
  pub binds : bind k.bindings h.frame.variables ≡ Some bound
  pub full : Variables
  pub fills : filled slot x bound ≡ Some full
  pub place : ℕ
  pub settles : Reaches (jumps code.instrs) k.place (Rests place)
  pub is : next ≡ held_there code h.definition (frame_of full h.frame.under) place

-- the offer of an instance as its alternative a
pub record Keeps (m : Whole) (p : ℕ) (h : Held) (a : ℕ) (k : Kept) : Type 0 where
  pub there : slice_get m.instances p ≡ Some h
  pub offers : List Kept
  pub waits : h.standing ≡ Waiting offers
  pub kept : slice_get offers a ≡ Some k

-- what a label does, where so much is left of the bound; each costs 1
pub data Takes (code : Code) (m : Whole) : Label → ℕ → Outcome → Type 0 where
  none_left : (label : Label) → Takes code m label 0 Spent
  goes : (p left line : ℕ) (h : Held) (e : End Rest) (o : Outcome) → slice_get m.instances p ≡ Some h → h.standing ≡ Running → slice_get code.instrs h.at ≡ Some (i.Mark line)
      → Reaches (moves (within_at code m)) (going h (view_at m left), nothing) e → After code m p h.definition line e o
      → Takes code m (Local p) (suc left) o
  meets : (p a q b left channel : ℕ) (x : Option Value) (slot : Option ℕ) (h g new next : Held) (k l : Kept) → nat_eq p q ≡ false
      → Keeps m p h a k → k.act ≡ Send channel x → Keeps m q g b l → l.act ≡ Receive channel slot → Resumed code h k None None new → Resumed code g l slot x next
      → Takes code m (Pair p a q b) (suc left) (GoesOn (record m { instances = slice_set (slice_set m.instances p new) q next }) [] left)
  wakes : (p a left : ℕ) (t : ℤ) (h new : Held) (k : Kept) → Keeps m p h a k → k.act ≡ Delay t → int_lt m.clock t ≡ false → Resumed code h k None None new
      → Takes code m (Wake p a) (suc left) (GoesOn (record m { instances = slice_set m.instances p new }) [] left)
  joins : (p left place : ℕ) (h : Held) (numbers : List ℕ) → slice_get m.instances p ≡ Some h → h.standing ≡ Joining numbers → are_over (config_of m) numbers ≡ true
      → Reaches (jumps code.instrs) h.at (Rests place)
      → Takes code m (Join p) (suc left) (GoesOn (record m { instances = slice_set m.instances p (held_there code h.definition h.frame place) }) [] left)
  advances : (left : ℕ) (t : ℤ) → next_due (config_of m) ≡ Some t → may_reach m.until t ≡ true → Takes code m Advance (suc left) (GoesOn (record m { clock = t }) [] left)
