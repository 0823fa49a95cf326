-- Kinded configurations: what holds at each moment of a run of a sound program.
use Rattle.std.specs.Prelude.{◌≡◌, ℕ, ◌<◌, ◌≤◌, ℤ, Option, Some, None, List, [], ◌∷◌, length, slice_get, IsTrue, false}
use Rattle.chi_types.specs.declared.ty.Ty.{Ty, out-Ty}
use Rattle.chi_value.specs.declared.value.Value.{Value, out-Value}
use Rattle.chi_dist.specs.Draws.{stream_count}
use Rattle.chi_core.specs.declared.communication.CComm.{CComm}
use Rattle.chi_core.specs.declared.communication.CComm.TheVariants as comm
use Rattle.chi_core.specs.declared.expression.CExpr.{CExpr}
use Rattle.chi_core.specs.declared.limits.TheConstants.{MOST_INSTANCES, MOST_OFFERS}
use Rattle.chi_core.specs.declared.program.ConstDef.{ConstDef}
use Rattle.chi_core.specs.declared.program.Core.{Core}
use Rattle.chi_core.specs.declared.program.ProcDef.{ProcDef}
use Rattle.chi_core.specs.declared.statement.CAlt.{CAlt}
use Rattle.chi_core.specs.declared.statement.CStat.{CStat, CStat-F, out-CStat}
use Rattle.chi_core.specs.declared.target.CTarget.{CTarget}
use Rattle.chi_core.specs.Config.{Act, Send, Receive, Delay, Offer, State, Running, Waiting, Joining, Finished, Instance, Config, rested}
use Rattle.chi_core.specs.Kinds.{Kind, kind_of, is_void, Every}
use Rattle.chi_core.specs.Of.{World, nowhere, Of, IsOf}
use Rattle.chi_core.specs.Scopes.{Scope, Home, process_home, exit_of}
use Rattle.chi_core.specs.SetSlots.{Known}
use Rattle.chi_core.specs.SoundParts.{SlotsTake, MayStart}
use Rattle.chi_core.specs.Standing.{Frame, Inner, Looping, Walking, term_of, Among, Standing}
use Rattle.chi_core.specs.Terms.{Term}
use Rattle.chi_core.specs.Variables.{Variables, Bindings}

-- there is such a slot, and its variable holds a value of its kind
abbrev pub HoldsOf : World → Option Kind → Option (Option Value) → Type 0
HoldsOf w (Some T) (Some (Some v)) = Of w (out-Value v) T
HoldsOf w (Some T) (Some None) = ⊥
HoldsOf w (Some T) None = ⊥
HoldsOf w None variable = ⊥

-- there is a variable for each slot, and those that count as set hold values of their kinds
pub record Held (w : World) (scope : Scope) (known : Known) (variables : Variables) : Type 0 where
  pub sized : length variables ≡ length scope.slots
  pub each : (slot : ℕ) → IsTrue (known slot) → HoldsOf w (slice_get scope.slots slot) (slice_get variables slot)

-- the elements left in each walk are of the kinds of the slots that they will set
abbrev pub WalksFit : World → Scope → List Frame → Type 0
WalksFit w scope [] = Unit {0}
WalksFit w scope (Inner after ∷ frames) = WalksFit w scope frames
WalksFit w scope (Looping line test block after ∷ frames) = WalksFit w scope frames
WalksFit w scope (Walking line slots elements container block after ∷ frames) =
    ((T : Kind) × SlotsTake scope slots T × Every (IsOf w T) elements) × WalksFit w scope frames

-- a binding for each slot in turn, to a value of its kind
pub data Binds (w : World) (scope : Scope) : List ℕ → Bindings → Type 0 where
  no_binding : Binds w scope [] []
  one_binding : (slot : ℕ) (slots : List ℕ) (v : Value) (bindings : Bindings) (T : Kind) → slice_get scope.slots slot ≡ Some T → Of w (out-Value v) T
      → Binds w scope slots bindings → Binds w scope (slot ∷ slots) ((slot, v) ∷ bindings)

-- what is offered is what a communication offers, and fits what the channel carries: a value or a slot of that kind,
-- and none exactly where that is void
pub data ActFits (w : World) (scope : Scope) : CComm → Act → Type 0 where
  sends : (t : CTarget) (e : CExpr) (channel : ℕ) (v : Value) (element : Ty) → slice_get w.carried channel ≡ Some element → is_void (out-Ty element) ≡ false → Of w (out-Value v) (out-Ty element)
      → ActFits w scope (comm.Send t (Some e)) (Send channel (Some v))
  sends_void : (t : CTarget) (channel : ℕ) (element : Ty) → slice_get w.carried channel ≡ Some element → IsTrue (is_void (out-Ty element))
      → ActFits w scope (comm.Send t None) (Send channel None)
  receives : (t : CTarget) (slot channel : ℕ) (element : Ty) → slice_get w.carried channel ≡ Some element → is_void (out-Ty element) ≡ false → slice_get scope.slots slot ≡ Some (out-Ty element)
      → ActFits w scope (comm.Receive t (Some slot)) (Receive channel (Some slot))
  receives_void : (t : CTarget) (channel : ℕ) (element : Ty) → slice_get w.carried channel ≡ Some element → IsTrue (is_void (out-Ty element))
      → ActFits w scope (comm.Receive t None) (Receive channel None)
  delays : (e : CExpr) (due : ℤ) → ActFits w scope (comm.Delay e) (Delay due)
  waits_for_timer : (e : CExpr) (due : ℤ) → ActFits w scope (comm.Timer e) (Delay due)

-- an offer is of one of the alternatives, with its body, and with a binding for each slot of the unwinds around it
pub record OfferFits (w : World) (scope : Scope) (alternatives : List CAlt) (o : Offer) : Type 0 where
  pub slots : List ℕ
  pub communication : CComm
  pub among : Among alternatives slots communication o.body
  pub binds : Binds w scope slots o.bindings
  pub act : ActFits w scope communication o.act

-- directly before the place stands the select whose alternatives are offered
pub record Opened (w : World) (d : Home) (rest : List CStat) (frames : List Frame) (known : Known) (offers : List Offer) : Type 0 where
  pub x : CStat
  pub line : ℕ
  pub alternatives : List CAlt
  pub before : Standing d known (x ∷ rest) frames
  pub is : out-CStat x ≡ CStat-F.Select line alternatives
  pub each : Every (OfferFits w d.scope alternatives) offers
  pub few : length offers ≤ MOST_OFFERS

abbrev pub StateFits : World → Home → List CStat → List Frame → Known → State → Type 0
StateFits w d rest frames known Running = Unit {0}
StateFits w d rest frames known (Waiting offers) = Opened w d rest frames known offers
StateFits w d rest frames known (Joining numbers) = Every (λ number. number < w.instances) numbers
StateFits w d rest frames known Finished = Unit {0}

-- A term is what is left to do from a place of a body, each slot that counts as set there holds a value of its kind, and
-- what is waited for fits that place.
pub record At (w : World) (d : Home) (variables : Variables) (term : Term) (now : State) : Type 0 where
  pub known : Known
  pub rest : List CStat
  pub frames : List Frame
  pub place : Standing d known rest frames
  pub left : term ≡ term_of rest frames
  pub walks : WalksFit w d.scope frames
  pub held : Held w d.scope known variables
  pub state : StateFits w d rest frames known now

-- an instance is of a process that has the exit type of the model or none, and it has finished once it has nothing
-- left to do and waits for nothing
pub record KindedInstance (core : Core) (exit : Option Kind) (w : World) (i : Instance) : Type 0 where
  pub d : ProcDef
  pub is : slice_get core.procs i.definition ≡ Some d
  pub exits : MayStart exit (exit_of d)
  pub at : At w (process_home core d) i.variables i.term i.state
  pub settled : rested i.term i.state ≡ i.state

-- each constant has a value of its kind, which names no channel and no instance
abbrev pub KindedConstants : Core → List Value → Type 0
KindedConstants core values =
    (number : ℕ) (c : ConstDef) → slice_get core.consts number ≡ Some c
    → (v : Value) × (slice_get values number ≡ Some v) × IsOf (nowhere core.names.kinds) (kind_of c.ty) v

-- There is a type for what each channel carries, by which all values are of their kinds.
pub record Kinded (core : Core) (config : Config) : Type 0 where
  pub world : World
  pub names : world.names ≡ core.names.kinds
  pub constants : KindedConstants core config.constants
  pub channels : length world.carried ≡ config.channels
  pub streams : length config.draws ≡ stream_count
  pub instances : world.instances ≡ length config.instances
  pub model : ProcDef
  pub is : slice_get core.procs core.model ≡ Some model
  pub each : Every (KindedInstance core (exit_of model) world) config.instances
  pub few : length config.instances ≤ MOST_INSTANCES
