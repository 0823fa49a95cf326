-- Kinded instances: in wider worlds, in other states, settled, and new ones.
use Rattle.std.proofs.Common.{◌≡◌, ℕ, lt_of_lt_of_le, List, [], ◌∷◌, Option, Some, refl, sym, subst, ◌∙◌}
use Rattle.std.specs.Prelude.{slice_get}
use Rattle.chi_types.specs.declared.ty.Ty.{out-Ty}
use Rattle.chi_value.specs.declared.value.Value.{Value, out-Value}
use Rattle.chi_core.specs.declared.act.Act.{Act}
use Rattle.chi_core.specs.declared.communication.CComm.{CComm}
use Rattle.chi_core.specs.declared.program.Core.{Core}
use Rattle.chi_core.specs.declared.program.ProcDef.{ProcDef}
use Rattle.chi_core.specs.declared.statement.CAlt.{CAlt}
use Rattle.chi_core.specs.declared.statement.CStat.{CStat}
use Rattle.chi_core.specs.Config.{Offer, State, Running, Waiting, Joining, Finished, Instance, new_instance, rested, settled}
use Rattle.chi_core.specs.Kinded.{ActFits, sends, sends_void, receives, receives_void, delays, waits_for_timer, OfferFits, StateFits, At, KindedInstance}
use Rattle.chi_core.specs.Kinds.{Kind, kinds_of}
use Rattle.chi_core.specs.Of.{World, Wider, AreOf}
use Rattle.chi_core.specs.Scopes.{Scope, Home, process_home, exit_of}
use Rattle.chi_core.specs.SetSlots.{Known}
use Rattle.chi_core.specs.Sound.{SoundProcess}
use Rattle.chi_core.specs.SoundParts.{MayStart}
use Rattle.chi_core.specs.Standing.{Frame}
use Rattle.chi_core.specs.Terms.{Term}
use Rattle.chi_core.specs.Variables.{Variables}
use Rattle.chi_core.proofs.Beginnings.{new_kinded}
use Rattle.chi_core.proofs.Worlds.{grows}
use Rattle.chi_core_kinds.proofs.Held.{held_grows, binds_grow, walks_grow}

pub act_grows : (w v : World) → Wider w v → (scope : Scope) (c : CComm) (a : Act) → ActFits w scope c a → ActFits v scope c a
act_grows w v wider scope _ _ (sends t e channel x element at full is) = sends t e channel x element (wider.carried channel element at) full (grows w v wider (out-Value x) (out-Ty element) is)
act_grows w v wider scope _ _ (sends_void t channel element at void) = sends_void t channel element (wider.carried channel element at) void
act_grows w v wider scope _ _ (receives t slot channel element at full there) = receives t slot channel element (wider.carried channel element at) full there
act_grows w v wider scope _ _ (receives_void t channel element at void) = receives_void t channel element (wider.carried channel element at) void
act_grows w v wider scope _ _ (delays e due) = delays e due
act_grows w v wider scope _ _ (waits_for_timer e due) = waits_for_timer e due

pub offer_grows : (w v : World) → Wider w v → (scope : Scope) (alternatives : List CAlt) (o : Offer) → OfferFits w scope alternatives o → OfferFits v scope alternatives o
offer_grows w v wider scope alternatives o h = record {
  slots = h.slots;
  communication = h.communication;
  among = h.among;
  binds = binds_grow w v wider scope h.slots o.bindings h.binds;
  act = act_grows w v wider scope h.communication o.act h.act;
}

state_grows : (w v : World) → Wider w v → (d : Home) (rest : List CStat) (frames : List Frame) (known : Known) (s : State) → StateFits w d rest frames known s → StateFits v d rest frames known s
state_grows w v wider d rest frames known Running h = tt
state_grows w v wider d rest frames known (Waiting offers) h = record {
  x = h.x;
  line = h.line;
  alternatives = h.alternatives;
  before = h.before;
  is = h.is;
  each = λ k o e. offer_grows w v wider d.scope h.alternatives o (h.each k o e);
  few = h.few;
}
state_grows w v wider d rest frames known (Joining numbers) h = λ k n e. lt_of_lt_of_le (h k n e) wider.instances
state_grows w v wider d rest frames known Finished h = tt

pub at_grows : (w v : World) → Wider w v → (d : Home) (variables : Variables) (term : Term) (s : State) → At w d variables term s → At v d variables term s
at_grows w v wider d variables term s h = record {
  known = h.known;
  rest = h.rest;
  frames = h.frames;
  place = h.place;
  left = h.left;
  walks = walks_grow w v wider d.scope h.frames h.walks;
  held = held_grows w v wider d.scope h.known variables h.held;
  state = state_grows w v wider d h.rest h.frames h.known s h.state;
}

pub instance_grows : (core : Core) (exit : Option Kind) (w v : World) → Wider w v → (i : Instance) → KindedInstance core exit w i → KindedInstance core exit v i
instance_grows core exit w v wider i h = record {
  d = h.d;
  is = h.is;
  exits = h.exits;
  at = at_grows w v wider (process_home core h.d) i.variables i.term i.state h.at;
  settled = h.settled;
}

-- in another state at the same place
pub in_state : (w : World) (d : Home) (variables : Variables) (term : Term) (s t : State) (h : At w d variables term s) → StateFits w d h.rest h.frames h.known t → At w d variables term t
in_state w d variables term s t h fits = record {
  known = h.known;
  rest = h.rest;
  frames = h.frames;
  place = h.place;
  left = h.left;
  walks = h.walks;
  held = h.held;
  state = fits;
}

rested_fits : (w : World) (d : Home) (rest : List CStat) (frames : List Frame) (known : Known) (term : Term) (s : State) → StateFits w d rest frames known s
    → StateFits w d rest frames known (rested term s)
rested_fits w d rest frames known [] Running h = tt
rested_fits w d rest frames known (item ∷ term) Running h = tt
rested_fits w d rest frames known term (Waiting offers) h = h
rested_fits w d rest frames known term (Joining numbers) h = h
rested_fits w d rest frames known term Finished h = tt

rested_twice : (term : Term) (s : State) → rested term (rested term s) ≡ rested term s
rested_twice [] Running = refl
rested_twice (item ∷ term) Running = refl
rested_twice term (Waiting offers) = refl
rested_twice term (Joining numbers) = refl
rested_twice term Finished = refl

-- an instance at a place of its definition is kinded once it is settled
pub kinded_settled : (core : Core) (exit : Option Kind) (w : World) (d : ProcDef) (i : Instance) → slice_get core.procs i.definition ≡ Some d → MayStart exit (exit_of d)
    → At w (process_home core d) i.variables i.term i.state → KindedInstance core exit w (settled i)
kinded_settled core exit w d i e may at = record {
  d = d;
  is = e;
  exits = may;
  at = in_state w (process_home core d) i.variables i.term i.state (rested i.term i.state) at (rested_fits w (process_home core d) at.rest at.frames at.known i.term i.state at.state);
  settled = rested_twice i.term i.state;
}

-- a new instance, by a definition that may start it
pub kinded_new : (core : Core) (exit : Option Kind) (w : World) (number : ℕ) (d : ProcDef) (xs : List Value) → slice_get core.procs number ≡ Some d → SoundProcess core d → MayStart exit (exit_of d)
    → AreOf w xs (kinds_of d.params) → KindedInstance core exit w (settled (new_instance number d xs))
kinded_new core exit w number d xs there fine may are =
    let i : KindedInstance core (exit_of d) w (settled (new_instance number d xs)) = new_kinded core (exit_of d) w number d xs there fine refl are in
    let same : d ≡ i.d = cc (sym there ∙ i.is) in
    record {
      d = i.d;
      is = i.is;
      exits = subst (λ z. MayStart exit (exit_of z)) same may;
      at = i.at;
      settled = i.settled;
    }
