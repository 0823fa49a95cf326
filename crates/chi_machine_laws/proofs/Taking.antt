-- Instances that wait or join go on: through jumps, to where the next turn begins.
use Rattle.std.proofs.Common.{◌≡◌, ℕ, List, [], ◌∷◌, Option, Some, refl, sym, ap, subst, ◌∙◌}
use Rattle.std.specs.Prelude.{slice_get}
use Rattle.chi_types.specs.declared.ty.Ty.{Ty}
use Rattle.chi_value.specs.declared.value.Value.{Value}
use Rattle.chi_core.specs.declared.program.Core.{Core}
use Rattle.chi_core.specs.declared.program.ProcDef.{ProcDef}
use Rattle.chi_core.specs.Config as instance
use Rattle.chi_core.specs.Config.{Config, Instance, Offer, settled, offers_in}
use Rattle.chi_core.specs.Meeting.{filled}
use Rattle.chi_core.specs.Terms.{Term, first_the}
use Rattle.chi_core.specs.Variables.{Variables, bind}
use Rattle.chi_code.specs.declared.code.Around.{Around}
use Rattle.chi_code.specs.declared.code.Code.{Code}
use Rattle.chi_code.specs.declared.instr.Instr.{Instr}
use Rattle.chi_code.specs.declared.instr.Instr.TheVariants as instr
use Rattle.chi_code.specs.Codes.{in_process}
use Rattle.chi_exec_law.specs.Runs.{Rests, Goes, Ends, Reaches}
use Rattle.chi_exec_law.specs.State.{Turning, Frame, frame_of}
use Rattle.chi_exec_law.specs.Standing.{TermAt, here, jumps as jumps_on, ReadyAt, over}
use Rattle.chi_exec_law.proofs.Going.{leads_step, reaches_step, reaches_on}
use Rattle.chi_exec_law.proofs.Lines.{item_line}
use Rattle.chi_exec_law.proofs.Standing.{block_term}
use Rattle.chi_machine_laws.specs.Instances.{Standing, Held, Whole}
use Rattle.chi_machine_laws.specs.Instances as machine
use Rattle.chi_machine_laws.specs.Deeds.{held_there}
use Rattle.chi_machine_laws.specs.Labels.{jumps_from, jumps, Resumed, Keeps}
use Rattle.chi_machine_laws.specs.Stands.{OfferAt, StateAt, runs, waits, joins, ends, VariablesAt, InstanceAt, Stands}
use Rattle.chi_machine_laws.proofs.Pairs.{pairs_get}
use Rattle.chi_machine_laws.proofs.Standing.{ready_instance}

module _ (code : List Instr) (slots : List Ty) where
  no_jump : (around : List Around) (under : List Turning) (term : Term) (a : ℕ) → ReadyAt code in_process slots instr.Done around under term a → jumps code a ≡ Ends (Rests a)
  unfolding jumps
  no_jump _ _ [] _ (over a e) = ap (λ o. jumps_from o a) e
  no_jump around under (x ∷ term) a h = ap (λ o. jumps_from o a) (item_line code in_process slots instr.Done around under x term a h)

  a_jump : (a b : ℕ) → slice_get code a ≡ Some (instr.Jump b) → jumps code a ≡ Goes b
  unfolding jumps
  a_jump a b h = ap (λ o. jumps_from o a) h

  pub settles : (around : List Around) (under : List Turning) (term : Term) (a : ℕ) → TermAt code in_process slots instr.Done around under term a
      → (z : ℕ) × Reaches (jumps code) a (Rests z) × ReadyAt code in_process slots instr.Done around under term z
  settles _ _ _ _ (here around under term a h) = (a, reaches_step (jumps code) a (Rests a) (no_jump around under term a h), h)
  settles _ _ _ _ (jumps_on around under term a b h t) =
      let r = settles around under term b t in
      (r.0, reaches_on (jumps code) a b (Rests r.0) (leads_step (jumps code) a b (a_jump a b h)) r.1, r.2)

module _ (core : Core) (code : Code) where
  -- an instance goes on from a place that stands for a term
  pub goes_on_at : (process : ProcDef) (i : Instance) → slice_get core.procs i.definition ≡ Some process → (definition : ℕ) → definition ≡ i.definition → (variables : Variables) (term : Term)
      → (frame : Frame) → frame.variables ≡ variables → (around : List Around) (a : ℕ) → TermAt code.instrs in_process process.slots instr.Done around frame.under term a
      → (z : ℕ) × Reaches (jumps code.instrs) a (Rests z) × InstanceAt core code (settled (record i { variables = variables; term = term; state = instance.Running })) (held_there code definition frame z)
  goes_on_at process i is definition same variables term frame its around a t =
      let r = settles code.instrs process.slots around frame.under term a t in
      (r.0, r.1, ready_instance core code process i.definition is definition same variables frame.variables its around frame.under term r.0 r.2)

  module _ (config : Config) (m : Whole) (st : Stands core code config m) where
    -- an offer that the configuration's instance has, the machine's has; and once it is taken both go on alike
    pub record Offered (p a : ℕ) (h : Held) (i : Instance) (o : Offer) : Type 0 where
      pub kept : machine.Kept
      pub keeps : Keeps m p h a kept
      pub act : kept.act ≡ o.act
      pub resumes : (slot : Option ℕ) (x : Option Value) (bound full : Variables) → bind o.bindings i.variables ≡ Some bound → filled slot x bound ≡ Some full
          → (next : Held) × Resumed code h kept slot x next × InstanceAt core code (settled (record i { variables = full; term = first_the o.body i.term; state = instance.Running })) next

    offered_by : (p a : ℕ) (h : Held) (i : Instance) (o : Offer) → slice_get m.instances p ≡ Some h → InstanceAt core code i h → (under : List Turning) (place : ℕ) (term : Term) (s : instance.State) (standing : Standing)
        → (process : ProcDef) → slice_get core.procs i.definition ≡ Some process
        → StateAt code.instrs process.slots under place term s standing → h.frame.under ≡ under → h.standing ≡ standing → i.state ≡ s → i.term ≡ term → slice_get (offers_in s) a ≡ Some o → Offered p a h i o
    offered_by p a h i o there at _ _ _ _ _ process is (runs around under x term place r) ue se ie te e = absurd (cc)
    offered_by p a h i o there at _ _ _ _ _ process is (joins around under term place numbers t) ue se ie te e = absurd (cc)
    offered_by p a h i o there at _ _ _ _ _ process is (ends place r) ue se ie te e = absurd (cc)
    offered_by p a h i o there at _ _ _ _ _ process is (waits around under term place end offers ks all t) ue se ie te e =
        let its : h.frame.variables ≡ i.variables = subst (λ s. VariablesAt s i.variables h.frame.variables) ie at.variables in
        let k = pairs_get (OfferAt code.instrs process.slots around end) offers ks a o all e in
        record {
          kept = k.0;
          keeps = record { there = there; offers = ks; waits = se; kept = k.1 };
          act = k.2.act;
          resumes = λ slot x bound full binds fills.
              let stood = block_term code.instrs in_process process.slots instr.Done around under o.body term k.0.place k.2.after k.2.block (jumps_on around under term k.2.after end k.2.jump t) in
              let g = goes_on_at process i is h.definition at.definition full (first_the o.body i.term) (frame_of full h.frame.under) refl around k.0.place
              (subst (λ u. TermAt code.instrs in_process process.slots instr.Done around u (first_the o.body i.term) k.0.place) (sym ue)
              (subst (λ t. TermAt code.instrs in_process process.slots instr.Done around under (first_the o.body t) k.0.place) (sym te) stood)) in (
                held_there code h.definition (frame_of full h.frame.under) g.0,
                record {
                  bound = bound;
                  binds = (λ j. bind (k.2.bindings j) (its j)) ∙ binds;
                  full = full;
                  fills = fills;
                  place = g.0;
                  settles = g.1;
                  is = refl;
                },
                g.2,
              );
        }

    pub offered : (p a : ℕ) (i : Instance) (o : Offer) → slice_get config.instances p ≡ Some i → slice_get (offers_in i.state) a ≡ Some o → (h : Held) × Offered p a h i o
    offered p a i o there e =
        let h = pairs_get (InstanceAt core code) config.instances m.instances p i st.instances there in
        (h.0, offered_by p a h.0 i o h.1 h.2 h.0.frame.under h.0.at i.term i.state h.0.standing h.2.process h.2.is h.2.state refl refl refl refl e)
