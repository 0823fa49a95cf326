-- Opening a select: each offer that is kept fits, and the variables hold what they did.
use Rattle.std.proofs.Common.{◌≡◌, ◌++◌, ◌+◌, ◌+ℤ◌, ◌<◌, ◌≤◌, ℕ, ℤ, pos, Bool, nat_lt, ltb-true, List, [], ◌∷◌, map, length, Option, Some, None, refl, sym, ap, subst, ◌∙◌, arith}
use Rattle.std.proofs.lemmas.List.{append_assoc, append-nil, length-append}
use Rattle.std.specs.Prelude.{slice_get, int_lt, IsTrue}
use Rattle.std.specs.Option.{IsSomeAnd, option_map}
use Rattle.chi_types.specs.declared.ty.Ty.{Ty, Ty-F, out-Ty}
use Rattle.chi_types.specs.declared.ty.Way.TheVariants as way
use Rattle.chi_num.specs.Results.{fits}
use Rattle.chi_value.specs.declared.value.Value.{Value, Value-F, out-Value}
use Rattle.chi_core.specs.declared.act.Act.{Act}
use Rattle.chi_core.specs.declared.act.Act.TheVariants as act
use Rattle.chi_core.specs.declared.communication.CComm.{CComm}
use Rattle.chi_core.specs.declared.communication.CComm.TheVariants as comm
use Rattle.chi_core.specs.declared.expression.CExpr.{CExpr}
use Rattle.chi_core.specs.declared.limits.TheConstants.{MOST_OFFERS}
use Rattle.chi_core.specs.declared.scene.Scene.{Scene}
use Rattle.chi_core.specs.declared.statement.Branch.{Branch}
use Rattle.chi_core.specs.declared.statement.CAlt.{CAlt, CAlt-F, out-CAlt, roll-CAlt, roll-out-CAlt}
use Rattle.chi_core.specs.declared.statement.CAlt.TheVariants as alternative
use Rattle.chi_core.specs.declared.statement.CStat.{CStat}
use Rattle.chi_core.specs.declared.target.CTarget.{CTarget}
use Rattle.chi_core.specs.Answer.{Does, then_do, gives, wanted}
use Rattle.chi_core.specs.Config.{Offer}
use Rattle.chi_core.specs.Evaluation.{Run, Evaluates, eval}
use Rattle.chi_core.specs.Kinded.{Held, Binds, ActFits, sends, sends_void, receives, receives_void, delays, waits_for_timer, OfferFits}
use Rattle.chi_core.specs.Kinds.{Kind, Every}
use Rattle.chi_core.specs.Of.{World, Wider, IsOf, Of, of_real, of_channel, of_timer}
use Rattle.chi_core.specs.Opening.{Opening, delayed_by, delayed, due, kept, act_of, offered, guarded, each_opens, unwound, unwinds, opens, opened}
use Rattle.chi_core.specs.Reading.{real_in, real_of, due_in, due_of, channel_in, channel_of, elements_of}
use Rattle.chi_core.specs.Scopes.{Scope}
use Rattle.chi_core.specs.SetSlots.{Known, also, also_all}
use Rattle.chi_core.specs.SoundParts as sound
use Rattle.chi_core.specs.SoundParts.{ChannelAt, SoundComm, SoundGuard, no_guard, a_guard, Walks, SlotsTake}
use Rattle.chi_core.specs.SoundStatements as statement
use Rattle.chi_core.specs.SoundStatements.{SoundAlternatives, no_alternative, one_alternative, SoundAlternative}
use Rattle.chi_core.specs.Spots.{read_at}
use Rattle.chi_core.specs.Standing.{Among, here, later, inside}
use Rattle.chi_core.specs.Variables.{Variables, bound, bindings_at}
use Rattle.chi_core.proofs.Lists.{every_nil, every_cons}
use Rattle.chi_core.proofs.Opened.{opens_guarded, opens_unwind}
use Rattle.chi_core.proofs.Worlds.{same_world, wider_still, value_grows}
use Rattle.chi_core_kinds.specs.Well.{Kept, Same, Well}
use Rattle.chi_core_kinds.proofs.Composing.{well_gives, well_if, well_then, well_giving, well_weaker, well_through, every_append}
use Rattle.chi_core_kinds.proofs.Expressions.{Provides, Reads, reads_grow, well_some, grows_truth, well_value}
use Rattle.chi_core_kinds.proofs.Operations.{Laws}
use Rattle.chi_core_kinds.proofs.Held.{some_map, within_all, all_there, held_grows, held_less, held_bound, held_bindings, elements_fit}
use Rattle.chi_core_kinds.proofs.Instances.{act_grows, offer_grows}
use Rattle.chi_core_kinds.proofs.Targets.{well_channel}

channel_fits : (w : World) (t : Ty) (x : Value-F Value) → Of w x (Ty-F.Chan way.Both t) → IsSomeAnd (channel_in x) (λ number. slice_get w.carried number ≡ Some t)
channel_fits w t _ (of_channel number _ e) = e

real_fits : (w : World) (x : Value-F Value) → Of w x Ty-F.Real → IsSomeAnd (real_in x) (λ units. Unit {0})
real_fits w _ (of_real units) = tt

timer_fits : (w : World) (x : Value-F Value) → Of w x Ty-F.Timer → IsSomeAnd (due_in x) (λ due. Unit {0})
timer_fits w _ (of_timer due) = tt

also_append : (slots more : List ℕ) (known : Known) → also_all (slots ++ more) known ≡ also_all more (also_all slots known)
also_append [] more known = refl
also_append (slot ∷ slots) more known = also_append slots more (also slot known)

module _ (scope : Scope) (outer : Known) (all : List CAlt) where
  -- the variables hold what counts as set within unwinds that bind these names, and the offers fit
  record OpenFits (names : List ℕ) (w : World) (o : Opening) : Type 0 where
    of_program : w.names ≡ scope.core.names.kinds
    held : Held w scope (also_all names outer) o.variables
    each : Every (OfferFits w scope all) o.offers
    few : length o.offers ≤ MOST_OFFERS

  open_grows : (names : List ℕ) (w v : World) → Wider w v → (o : Opening) → OpenFits names w o → OpenFits names v o
  open_grows names w v wider o h = record {
    of_program = wider.names ∙ h.of_program;
    held = held_grows w v wider scope (also_all names outer) o.variables h.held;
    each = λ k offer e. offer_grows w v wider scope all offer (h.each k offer e);
    few = h.few;
  }

  reads : (names : List ℕ) (w : World) (o : Opening) → OpenFits names w o → Reads w scope (also_all names outer) o.variables
  reads names w o h = record { names = h.of_program; held = h.held }

module _ (all : List CAlt) where
  -- where alternatives within unwinds that bind these names stand among all

  abbrev AllLead : List ℕ → List CAlt → Type 0
  AllLead names alternatives = (bound : List ℕ) (c : CComm) (body : List CStat) → Among alternatives bound c body → Among all (names ++ bound) c body

  abbrev Leads : List ℕ → CAlt-F CAlt CStat Branch → Type 0
  Leads names (CAlt-F.Guarded guard c body) = Among all names c body
  Leads names (CAlt-F.Unwind slots container alternatives) = AllLead (names ++ slots) alternatives

  leads : (names : List ℕ) (a : CAlt) (more : List CAlt) → AllLead names (a ∷ more) → (layer : CAlt-F CAlt CStat Branch) → out-CAlt a ≡ layer → Leads names layer
  leads names a more under (CAlt-F.Guarded guard c body) e = subst (λ z. Among all z c body) (append-nil names) (under [] c body (here a more guard c body e))
  leads names a more under (CAlt-F.Unwind slots container alternatives) e =
      λ bound c body m. subst (λ z. Among all z c body) (sym (append_assoc names slots bound)) (under (slots ++ bound) c body (inside a more slots container alternatives bound c body e m))

guarded_by : (a : CAlt) (guard : Option CExpr) (c : CComm) (body : List CStat) → out-CAlt a ≡ CAlt-F.Guarded guard c body → a ≡ alternative.Guarded guard c body
guarded_by a guard c body e = sym (roll-out-CAlt a) ∙ ap roll-CAlt e ∙ alternative.rolls-Guarded guard c body

unwinds_by : (a : CAlt) (slots : List ℕ) (container : CExpr) (alternatives : List CAlt) → out-CAlt a ≡ CAlt-F.Unwind slots container alternatives → a ≡ alternative.Unwind slots container alternatives
unwinds_by a slots container alternatives e = sym (roll-out-CAlt a) ∙ ap roll-CAlt e ∙ alternative.rolls-Unwind slots container alternatives

module _ (laws : Laws) (scope : Scope) (run : Run) (scene : Scene) (provides : Provides scope run scene) (clock : ℤ) where
  abbrev value_in : Variables → Evaluates
  value_in variables = eval run scene variables

  -- what a communication offers
  module _ (known : Known) (variables : Variables) where
    abbrev Sees : World → Type 0
    Sees w = Reads w scope known variables

    abbrev Offers : CComm → World → Act → Type 0
    Offers c w = ActFits w scope c

    -- an act on the channel that a value names
    well_named : (c : CComm) (f : ℕ → Act) (element : Ty) (w : World) (channel : Value) → IsOf w (Ty-F.Chan way.Both element) channel
        → ((number : ℕ) → slice_get w.carried number ≡ Some element → Offers c w (f number)) → Well w (Offers c) (wanted (option_map f (channel_of channel)))
    well_named c f element w channel is fit =
        well_some w (Offers c) (option_map f (channel_of channel))
        (some_map (λ number. slice_get w.carried number ≡ Some element) (Offers c w) f (channel_of channel) (channel_fits w element (out-Value channel) is) fit)

    well_read : (c : CComm) (t : CTarget) (f : ℕ → Act) (element : Ty) → ChannelAt scope known t element
        → ((w : World) (number : ℕ) → slice_get w.carried number ≡ Some element → Offers c w (f number)) → (w : World) → Sees w
        → Well w (Offers c) (λ view. then_do (read_at (value_in variables) variables t view) (λ channel. wanted (option_map f (channel_of channel))))
    well_read c t f element at fit w r =
        well_then w (λ v. IsOf v (Ty-F.Chan way.Both element)) (Offers c) _ (λ v wider same channel is. well_named c f element v channel is (fit v))
        (read_at (value_in variables) variables t) (well_channel laws scope known run scene provides variables t element at w r)

    well_delayed : (e : CExpr) (w : World) (delay : Value) → IsOf w Ty-F.Real delay → Well w (Offers (comm.Delay e)) (delayed clock delay)
    well_delayed e w delay is =
        well_then w (λ v units. Unit {0}) (Offers (comm.Delay e)) (delayed_by clock)
        (λ v wider same units u. well_if v (Offers (comm.Delay e)) (int_lt units (pos 0)) _ _ (λ s view fits. tt)
        (λ s. well_if v (Offers (comm.Delay e)) (fits (clock +ℤ units)) _ _
        (λ s. well_gives v (Offers (comm.Delay e)) (act.Delay (clock +ℤ units)) (delays e (clock +ℤ units))) (λ s view fits. tt)))
        (wanted (real_of delay)) (well_some w (λ v units. Unit {0}) (real_of delay) (real_fits w (out-Value delay) is))

    well_due : (e : CExpr) (w : World) (timer : Value) → IsOf w Ty-F.Timer timer → Well w (Offers (comm.Timer e)) (due timer)
    well_due e w timer is =
        well_some w (Offers (comm.Timer e)) (option_map act.Delay (due_of timer))
        (some_map (λ due. Unit {0}) (Offers (comm.Timer e) w) act.Delay (due_of timer) (timer_fits w (out-Value timer) is) (λ due u. waits_for_timer e due))

    well_act : (c : CComm) → SoundComm scope known c → (w : World) → Sees w → Well w (Offers c) (act_of value_in clock variables c)
    well_act _ (sound.sends t e element at full h) w r =
        well_then w (λ v. IsOf v (Ty-F.Chan way.Both element)) (Offers (comm.Send t (Some e))) _
        (λ v wider same channel is. well_then v (λ u. IsOf u (out-Ty element)) (Offers (comm.Send t (Some e))) _
        (λ u wider' same' x of_it. well_named (comm.Send t (Some e)) (λ number. act.Send number (Some x)) element u channel (value_grows v u wider' channel (Ty-F.Chan way.Both element) is)
        (λ number there. sends t e number x element there full of_it))
        (value_in variables e) (well_value laws scope run scene provides known variables e (out-Ty element) h v (reads_grow w v wider scope known variables r)))
        (read_at (value_in variables) variables t) (well_channel laws scope known run scene provides variables t element at w r)
    well_act _ (sound.sends_void t element at void) w r =
        well_read (comm.Send t None) t (λ number. act.Send number None) element at (λ v number there. sends_void t number element there void) w r
    well_act _ (sound.receives t slot element at full is) w r =
        well_read (comm.Receive t (Some slot)) t (λ number. act.Receive number (Some slot)) element at (λ v number there. receives t slot number element there full is) w r
    well_act _ (sound.receives_void t element at void) w r =
        well_read (comm.Receive t None) t (λ number. act.Receive number None) element at (λ v number there. receives_void t number element there void) w r
    well_act _ (sound.delays e h) w r =
        well_then w (λ v. IsOf v Ty-F.Real) (Offers (comm.Delay e)) (delayed clock) (λ v wider same delay is. well_delayed e v delay is)
        (value_in variables e) (well_value laws scope run scene provides known variables e Ty-F.Real h w r)
    well_act _ (sound.waits_for_timer e h) w r =
        well_then w (λ v. IsOf v Ty-F.Timer) (Offers (comm.Timer e)) due (λ v wider same timer is. well_due e v timer is)
        (value_in variables e) (well_value laws scope run scene provides known variables e Ty-F.Timer h w r)

  -- among all alternatives of a select, before which these slots count as set
  module _ (outer : Known) (all : List CAlt) where
    abbrev Fits : List ℕ → World → Opening → Type 0
    Fits = OpenFits scope outer all

    well_kept : (names : List ℕ) (c : CComm) (body : List CStat) (o : Opening) (a : Act) (w : World) → Among all names c body → Fits names w o → ActFits w scope c a
        → Well w (Fits names) (kept names body o a)
    well_kept names c body o a w among h fit =
        well_if w (Fits names) (nat_lt (length o.offers) MOST_OFFERS) _ _
        (λ e. well_giving w (λ v. Binds v scope names) (Fits names) _
        (λ v wider bindings binds. let grown : Fits names v o = open_grows scope outer all names w v wider o h in record {
          of_program = grown.of_program;
          held = grown.held;
          each = every_append (OfferFits v scope all) o.offers _ grown.each
              (every_cons (OfferFits v scope all) _ [] (record {
                slots = names;
                communication = c;
                among = among;
                binds = binds;
                act = act_grows w v wider scope c a fit;
              }) (every_nil (OfferFits v scope all)));
          few = one_more o.offers _ (ltb-true (length o.offers) MOST_OFFERS e);
        })
        (wanted (bindings_at names o.variables))
        (well_some w (λ v. Binds v scope names) (bindings_at names o.variables) (held_bindings w scope names (also_all names outer) o.variables (all_there names outer) h.held)))
        (λ e view fits. tt)
      where
        one_more : (offers : List Offer) (offer : Offer) → length offers < MOST_OFFERS → length (offers ++ offer ∷ []) ≤ MOST_OFFERS
        one_more offers offer l = let more : length (offers ++ offer ∷ []) ≡ length offers + 1 = length-append offers (offer ∷ []) in omega (arith, more, l)

    well_offered : (names : List ℕ) (c : CComm) (body : List CStat) (o : Opening) (w : World) → SoundComm scope (also_all names outer) c → Among all names c body → Fits names w o
        → Well w (Fits names) (offered value_in clock names c body o)
    well_offered names c body o w h among fit =
        well_then w (λ v. ActFits v scope c) (Fits names) (kept names body o) (λ v wider same a is. well_kept names c body o a v among (open_grows scope outer all names w v wider o fit) is)
        (act_of value_in clock o.variables c) (well_act (also_all names outer) o.variables c h w (reads scope outer all names w o fit))

    well_guarded : (names : List ℕ) (guard : Option CExpr) (c : CComm) (body : List CStat) (o : Opening) (w : World) → SoundGuard scope (also_all names outer) guard
        → SoundComm scope (also_all names outer) c → Among all names c body → Fits names w o → Well w (Fits names) (guarded value_in clock guard names c body o)
    well_guarded names _ c body o w no_guard h among fit = well_offered names c body o w h among fit
    well_guarded names _ c body o w (a_guard e g) h among fit =
        well_then w (λ v. IsOf v Ty-F.Bool) (Fits names) _
        (λ v wider same x is. let grown : Fits names v o = open_grows scope outer all names w v wider o fit in
        grows_truth v (Same v (Fits names)) (out-Value x) (offered value_in clock names c body o) (gives o) is
        (well_offered names c body o v h among grown) (well_gives v (Fits names) o grown))
        (value_in o.variables e) (well_value laws scope run scene provides (also_all names outer) o.variables e Ty-F.Bool g w (reads scope outer all names w o fit))

    -- what opens alternatives does well in each wider world
    abbrev OpensWell : World → List ℕ → (List ℕ → Opening → Does Opening) → Type 0
    OpensWell w names f = (v : World) → Wider w v → (o : Opening) → Fits names v o → Well v (Fits names) (f names o)

    abbrev alternatives_open : List CAlt → List ℕ → Opening → Does Opening
    alternatives_open alternatives names = each_opens value_in clock names (map (opens value_in clock) alternatives)

    well_unwound : (names slots : List ℕ) (T : Kind) (alternatives : List CAlt) → SlotsTake scope slots T → (w : World) → OpensWell w (names ++ slots) (alternatives_open alternatives) → (x : Value)
        → IsOf w T x → (o : Opening) → Fits names w o → Well w (Fits names) (unwound value_in clock names slots (map (opens value_in clock) alternatives) x o)
    well_unwound names slots T alternatives take w well x is o fit =
        well_then w (λ v. Held v scope (also_all slots (also_all names outer))) (Fits names) _
        (λ v wider same variables held.
        let grown : Fits names v o = open_grows scope outer all names w v wider o fit in
        well_weaker v (Fits (names ++ slots)) (Fits names)
        (λ u after h. record {
          of_program = h.of_program;
          held = held_less u scope (also_all names outer) (also_all (names ++ slots) outer) after.variables
              (λ k kn. subst (λ z. IsTrue (z k)) (sym (also_append names slots outer)) (within_all slots (also_all names outer) k kn)) h.held;
          each = h.each;
          few = h.few;
        })
        (alternatives_open alternatives (names ++ slots) (record o { variables = variables }))
        (well v wider (record o { variables = variables }) (record {
          of_program = grown.of_program;
          held = subst (λ z. Held v scope z variables) (sym (also_append names slots outer)) held;
          each = grown.each;
          few = grown.few;
        })))
        (wanted (bound slots x o.variables))
        (well_some w (λ v. Held v scope (also_all slots (also_all names outer))) (bound slots x o.variables)
        (held_bound w scope slots T x take is (also_all names outer) o.variables fit.held))

    -- an alternative by its outermost layer
    abbrev Layer : World → List ℕ → CAlt-F CAlt CStat Branch → Type 0
    Layer w names (CAlt-F.Guarded guard c body) = OpensWell w names (λ names. guarded value_in clock guard names c body)
    Layer w names (CAlt-F.Unwind slots container alternatives) = OpensWell w names (unwinds value_in clock slots container (map (opens value_in clock) alternatives))

    by_layer : (w : World) (names : List ℕ) (a : CAlt) (layer : CAlt-F CAlt CStat Branch) → out-CAlt a ≡ layer → Layer w names layer → OpensWell w names (opens value_in clock a)
    by_layer w names a (CAlt-F.Guarded guard c body) e well v wider o fit view fits =
        subst (Kept v (Same v (Fits names))) (sym (opens_guarded value_in clock names o view a guard c body (guarded_by a guard c body e))) (well v wider o fit view fits)
    by_layer w names a (CAlt-F.Unwind slots container alternatives) e well v wider o fit view fits =
        subst (Kept v (Same v (Fits names))) (sym (opens_unwind value_in clock names o view a slots container alternatives (unwinds_by a slots container alternatives e))) (well v wider o fit view fits)

    mutual
      well_alternatives : (loop : Bool) (known : Known) (alternatives : List CAlt) → SoundAlternatives scope loop known alternatives → (names : List ℕ) → known ≡ also_all names outer
          → AllLead all names alternatives → (w : World) → OpensWell w names (alternatives_open alternatives)
      well_alternatives _ _ _ (no_alternative loop known) names same lead w = λ v wider o fit. well_gives v (Fits names) o fit
      well_alternatives _ _ _ (one_alternative loop known a more h rest) names same lead w = λ v wider o fit.
          well_then v (Fits names) (Fits names) (alternatives_open more names)
          (λ u wider' s after fit'. well_alternatives loop known more rest names same (λ bound c body m. lead bound c body (later a more bound c body m)) w u (wider_still w v u wider wider') after fit')
          (opens value_in clock a names o)
          (by_layer w names a (out-CAlt a) refl (well_alternative loop known (out-CAlt a) h names same (leads all names a more lead (out-CAlt a) refl) w) v wider o fit)

      well_alternative : (loop : Bool) (known : Known) (layer : CAlt-F CAlt CStat Branch) → SoundAlternative scope loop known layer → (names : List ℕ) → known ≡ also_all names outer → Leads all names layer
          → (w : World) → Layer w names layer
      well_alternative _ _ _ (statement.guarded loop known guard c body g h block) names same lead w = λ v wider o fit.
          well_guarded names guard c body o v (subst (λ z. SoundGuard scope z guard) same g) (subst (λ z. SoundComm scope z c) same h) lead fit
      well_alternative _ _ _ (statement.unwinds loop known slots container alternatives over more) names same lead w = λ v wider o fit.
          well_then v (λ u. IsOf u over.kind) (Fits names) _
          (λ u wider1 s1 x is. well_then u (λ z. Every (IsOf z over.element)) (Fits names) _
          (λ z wider2 s2 xs each.
          well_through (Fits names) (unwound value_in clock names slots (map (opens value_in clock) alternatives)) z xs
          (λ y wider3 s3 k element e after fit'. well_unwound names slots over.element alternatives over.take y
          (well_alternatives loop (also_all slots known) alternatives more (names ++ slots) (ap (also_all slots) same ∙ sym (also_append names slots outer)) lead y) element
          (value_grows z y wider3 element over.element (each k element e)) after fit')
          o (open_grows scope outer all names v z (wider_still v u z wider1 wider2) o fit))
          (wanted (elements_of x)) (well_some u (λ z. Every (IsOf z over.element)) (elements_of x) (elements_fit u scope over.kind over.element (out-Value x) over.over is)))
          (value_in o.variables container)
          (well_value laws scope run scene provides known o.variables container over.kind over.has_kind v
          (subst (λ z. Reads v scope z o.variables) (sym same) (reads scope outer all names v o fit)))

  pub well_opened : (known : Known) (loop : Bool) (variables : Variables) (alternatives : List CAlt) → SoundAlternatives scope loop known alternatives → (w : World) → Reads w scope known variables
      → Well w (λ v o. Held v scope known o.variables × Every (OfferFits v scope alternatives) o.offers × (length o.offers ≤ MOST_OFFERS)) (opened value_in clock variables alternatives)
  well_opened known loop variables alternatives h w r =
      well_weaker w (OpenFits scope known alternatives []) (λ v o. Held v scope known o.variables × Every (OfferFits v scope alternatives) o.offers × (length o.offers ≤ MOST_OFFERS))
      (λ v o fit. (fit.held, fit.each, fit.few)) (opened value_in clock variables alternatives)
      (well_alternatives known alternatives loop known alternatives h [] refl (λ bound c body m. m) w w (same_world w) (record { variables = variables; offers = [] })
      (record { of_program = r.names; held = r.held; each = every_nil (OfferFits w scope alternatives); few = omega arith }))
