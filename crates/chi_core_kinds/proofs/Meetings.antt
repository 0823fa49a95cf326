-- Instances whose offers are taken, or whose waiting is over, go on at a place.
use Rattle.std.proofs.Common.{◌≡◌, ℕ, true, ◌∷◌, Option, Some, None, refl, sym, ap, subst, ◌∙◌}
use Rattle.std.specs.Prelude.{slice_get}
use Rattle.std.specs.Option.{IsSomeAnd}
use Rattle.chi_types.specs.declared.ty.Ty.{out-Ty}
use Rattle.chi_value.specs.declared.value.Value.{Value, out-Value}
use Rattle.chi_core.specs.declared.act.Act.TheVariants as act
use Rattle.chi_core.specs.declared.communication.CComm.{CComm}
use Rattle.chi_core.specs.declared.program.Core.{Core}
use Rattle.chi_core.specs.declared.view.View.{View}
use Rattle.chi_core.specs.Answer.{Gives, then_do, wanted, giving}
use Rattle.chi_core.specs.Config.{Instance, Offer, State, Running, Waiting, Joining, Finished, offers_in, settled}
use Rattle.chi_core.specs.Kinded.{Held, ActFits, sends, sends_void, receives, receives_void, OfferFits, At, KindedInstance}
use Rattle.chi_core.specs.Kinds.{Kind, is_void}
use Rattle.chi_core.specs.Meeting.{filled, resumed}
use Rattle.chi_core.specs.Of.{World, Of}
use Rattle.chi_core.specs.Scopes.{Scope, Home, process_home}
use Rattle.chi_core.specs.SetSlots.{Known, also, also_all}
use Rattle.chi_core.specs.Standing.{Inner, in_body}
use Rattle.chi_core.specs.Terms.{Term, first_the}
use Rattle.chi_core.specs.Variables.{Variables, bind, with_slot}
use Rattle.chi_core_kinds.proofs.Held.{within_also, held_less, held_with, held_bind}
use Rattle.chi_core_kinds.proofs.Instances.{in_state, kinded_settled}

-- there is one, of which P holds
pub the_one : {A : Type 0} (o : Option A) (P : A → Type 0) → IsSomeAnd o P → (x : A) × (o ≡ Some x) × P x
the_one None P h = absurd h
the_one (Some x) P h = (x, refl, h)

-- what is received goes into a slot of its kind, or neither is there
pub data Receives (w : World) (scope : Scope) : Option ℕ → Option Value → Type 0 where
  nothing : Receives w scope None None
  something : (slot : ℕ) (x : Value) (T : Kind) → slice_get scope.slots slot ≡ Some T → Of w (out-Value x) T → Receives w scope (Some slot) (Some x)

-- what one sends on a channel is what another receives there
pub met_receives : (w : World) (s t : Scope) (c e : CComm) (channel : ℕ) (x : Option Value) (slot : Option ℕ) → ActFits w s c (act.Send channel x) → ActFits w t e (act.Receive channel slot)
    → Receives w t slot x
met_receives w s t _ _ _ _ _ (sends target expression channel x u at full is) (receives source slot _ v at' full' there) =
    let both : u ≡ v = cc (sym at ∙ at') in something slot x (out-Ty v) there (subst (λ z. Of w (out-Value x) (out-Ty z)) both is)
met_receives w s t _ _ _ _ _ (sends target expression channel x u at full is) (receives_void source _ v at' void) =
    let both : u ≡ v = cc (sym at ∙ at') in let yes : is_void (out-Ty u) ≡ true = subst (λ z. is_void (out-Ty z) ≡ true) (sym both) void in absurd (cc (sym yes ∙ full))
met_receives w s t _ _ _ _ _ (sends_void target channel u at void) (receives source slot _ v at' full there) =
    let both : u ≡ v = cc (sym at ∙ at') in let yes : is_void (out-Ty v) ≡ true = subst (λ z. is_void (out-Ty z) ≡ true) both void in absurd (cc (sym yes ∙ full))
met_receives w s t _ _ _ _ _ (sends_void target channel u at void) (receives_void source _ v at' void') = nothing

module _ (w : World) (scope : Scope) where
  held_filled : (known : Known) (variables : Variables) (slot : Option ℕ) (x : Option Value) → Receives w scope slot x → Held w scope known variables → IsSomeAnd (filled slot x variables) (Held w scope known)
  held_filled known variables _ _ nothing h = h
  held_filled known variables _ _ (something slot x T there is) h = less (with_slot slot x variables) (held_with w scope known variables slot T x there is h)
    where
      less : (o : Option Variables) → IsSomeAnd o (Held w scope (also slot known)) → IsSomeAnd o (Held w scope known)
      less None h = h
      less (Some after) h = held_less w scope known (also slot known) after (within_also slot known) h

-- how an offer of an instance may be taken
record Takes (w : World) (d : Home) (variables : Variables) (term : Term) (o : Offer) : Type 0 where
  known : Known
  communication : CComm
  act : ActFits w d.scope communication o.act
  held : IsSomeAnd (bind o.bindings variables) (Held w d.scope known)
  goes_on : (after : Variables) → Held w d.scope known after → At w d after (first_the o.body term) Running

takes : (w : World) (d : Home) (variables : Variables) (term : Term) (s : State) (a : ℕ) (o : Offer) → At w d variables term s → slice_get (offers_in s) a ≡ Some o → Takes w d variables term o
takes w d variables term Running a o at e = absurd (cc)
takes w d variables term (Joining numbers) a o at e = absurd (cc)
takes w d variables term Finished a o at e = absurd (cc)
takes w d variables term (Waiting offers) a o at e =
    let s = at.state in
    let f : OfferFits w d.scope s.alternatives o = s.each a o e in
    record {
      known = also_all f.slots at.known;
      communication = f.communication;
      act = f.act;
      held = held_bind w d.scope f.slots o.bindings f.binds at.known variables at.held;
      goes_on = λ after held. record {
        known = also_all f.slots at.known;
        rest = o.body;
        frames = Inner at.rest ∷ at.frames;
        place = in_body at.known s.x at.rest at.frames s.line s.alternatives f.slots f.communication o.body s.before s.is f.among;
        left = ap (first_the o.body) at.left;
        walks = at.walks;
        held = held;
        state = tt;
      };
    }

module _ (core : Core) (exit : Option Kind) (w : World) where
  -- an instance whose offer is taken, with what it receives
  pub record Resumes (o : Offer) (slot : Option ℕ) (x : Option Value) (i : Instance) : Type 0 where
    pub now : Instance
    pub gives_it : (view : View) → resumed o slot x i view ≡ Gives now view
    pub kinded : KindedInstance core exit w (settled now)

  pub act_fits : (i : Instance) (k : KindedInstance core exit w i) (a : ℕ) (o : Offer) → slice_get (offers_in i.state) a ≡ Some o → (c : CComm) × ActFits w (process_home core k.d).scope c o.act
  act_fits i k a o e = let t = takes w (process_home core k.d) i.variables i.term i.state a o k.at e in (t.communication, t.act)

  pub resumes : (i : Instance) (k : KindedInstance core exit w i) (a : ℕ) (o : Offer) → slice_get (offers_in i.state) a ≡ Some o → (slot : Option ℕ) (x : Option Value)
      → Receives w (process_home core k.d).scope slot x → Resumes o slot x i
  resumes i k a o e slot x received =
      let home : Home = process_home core k.d in
      let t = takes w home i.variables i.term i.state a o k.at e in
      let first = the_one (bind o.bindings i.variables) (Held w home.scope t.known) t.held in
      let second = the_one (filled slot x first.0) (Held w home.scope t.known) (held_filled w home.scope t.known first.0 slot x received first.2) in
      let j : Instance = record i { variables = second.0; term = first_the o.body i.term; state = Running } in
      record {
        now = j;
        gives_it = λ view.
            ap (λ z. then_do (wanted z view) (λ bound now. giving (λ variables. record i { variables = variables; term = first_the o.body i.term; state = Running }) (wanted (filled slot x bound) now))) first.1
            ∙ ap (λ z. giving (λ variables. record i { variables = variables; term = first_the o.body i.term; state = Running }) (wanted z view)) second.1;
        kinded = kinded_settled core exit w k.d j k.is k.exits (t.goes_on second.0 second.2);
      }

  -- an instance for which those that it waits for have finished
  pub goes_on_from : (i : Instance) (k : KindedInstance core exit w i) → KindedInstance core exit w (settled (record i { state = Running }))
  goes_on_from i k =
      kinded_settled core exit w k.d (record i { state = Running }) k.is k.exits (in_state w (process_home core k.d) i.variables i.term i.state Running k.at tt)
