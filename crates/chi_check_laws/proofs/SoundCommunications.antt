-- Sends, receives and delays are sound.
use Rattle.std.proofs.Common.{◌≡◌, inr, ℕ, true, false, Some, None, refl, ap, subst, ◌∙◌}
use Rattle.std.proofs.lemmas.Bool.{and_parts}
use Rattle.chi_types.specs.declared.ty.Ty.{Ty, Ty-F, out-Ty, map-Ty}
use Rattle.chi_types.specs.declared.ty.Ty.TheVariants as ty
use Rattle.chi_types.specs.declared.ty.Way.TheVariants as way
use Rattle.chi_types.specs.Fits.{fits}
use Rattle.chi_types.specs.Same.{same}
use Rattle.chi_core.specs.declared.communication.CComm.{CComm}
use Rattle.chi_core.specs.declared.communication.CComm.TheVariants as comm
use Rattle.chi_core.specs.Kinds.{kind_of, erased, without_ways_and_names, is_void}
use Rattle.chi_core.specs.Scopes.{Scope}
use Rattle.chi_core.specs.SetSlots.{Known as Set}
use Rattle.chi_core.specs.SoundParts as sound
use Rattle.chi_core.specs.SoundParts.{StepsLead, ChannelAt}
use Rattle.chi_core.proofs.Erased.{kind_at, same_kind}
use Rattle.chi_check.specs.Below.chi_check_streams.specs.Streams.{of_target}
use Rattle.chi_check_types.specs.declared.meant.Made.{Made}
use Rattle.chi_check_expr_rules.specs.Conversions.{converted}
use Rattle.chi_check.specs.Below.chi_check_stat_rules.specs.declared.parts.Aim.{Aim}
use Rattle.chi_check.specs.Below.chi_check_stat_rules.specs.declared.parts.Receiver.{Receiver}
use Rattle.chi_check.specs.Below.chi_check_stat_rules.specs.Values.{fitted}
use Rattle.chi_check.specs.Below.chi_check_stat_rules.specs.Channels.{sent_type, sending, received_type, receiving, delayed, delaying}
use Rattle.chi_check_laws.specs.KnownNames.{Has, SoundMade}
use Rattle.chi_check_laws.proofs.Conversions.{some_is, mapped, chosen, fits_has, converts}
use Rattle.chi_check_laws.proofs.TypeKinds.{kind_real}
use Rattle.chi_check_laws.specs.Parts.{target_texts, SoundAim, SoundReceiver, Communicates}

void_layer : (layer : Ty-F Ty) → is_void (without_ways_and_names (map-Ty Ty Ty erased layer)) ≡ is_void layer
void_layer Ty-F.Void = refl
void_layer _ = refl

-- void has no other kind
void_kind : (t : Ty) → is_void (kind_of t) ≡ is_void (out-Ty t)
void_kind t = ap is_void (kind_at t (out-Ty t) refl) ∙ void_layer (out-Ty t)

sent_layer : (t carried : Ty) (layer : Ty-F Ty) → out-Ty t ≡ layer → sent_type layer ≡ Some carried → kind_of t ≡ Ty-F.Chan way.Both (erased carried)
sent_layer t carried (Ty-F.Chan way.Both u) p e = kind_at t _ p ∙ ap (λ c. Ty-F.Chan way.Both (erased c)) (some_is u carried e)
sent_layer t carried (Ty-F.Chan way.Send u) p e = kind_at t _ p ∙ ap (λ c. Ty-F.Chan way.Both (erased c)) (some_is u carried e)
sent_layer t carried _ p e = absurd (cc)

received_layer : (t carried : Ty) (layer : Ty-F Ty) → out-Ty t ≡ layer → received_type layer ≡ Some carried → kind_of t ≡ Ty-F.Chan way.Both (erased carried)
received_layer t carried (Ty-F.Chan way.Both u) p e = kind_at t _ p ∙ ap (λ c. Ty-F.Chan way.Both (erased c)) (some_is u carried e)
received_layer t carried (Ty-F.Chan way.Receive u) p e = kind_at t _ p ∙ ap (λ c. Ty-F.Chan way.Both (erased c)) (some_is u carried e)
received_layer t carried _ p e = absurd (cc)

module _ (scope : Scope) (set : Set) where
  channel_at : (a : Aim) (carried : Ty) → kind_of a.ty ≡ Ty-F.Chan way.Both (erased carried) → SoundAim scope set a → target_texts a.target ≡ true → (count : ℕ) → ChannelAt scope set (of_target a.target count).part (erased carried)
  channel_at a carried is h short count = record {
    kind = h.kind;
    set = h.counts;
    is = h.is;
    steps = subst (StepsLead scope set (of_target a.target count).part.steps h.kind) is (h.steps short count);
  }

  -- ---- sends

  pub sending_sound : (a : Aim) (carried : Ty) (m : Made) (c : CComm) → sent_type (out-Ty a.ty) ≡ Some carried → is_void (out-Ty carried) ≡ false → SoundAim scope set a → SoundMade scope set m
      → sending a carried m ≡ Some c → Communicates scope set c
  sending_sound a carried m c is full h j e =
      let f = mapped (λ e. comm.Send a.target (Some e)) (fitted m carried) c e in
      let g = chosen (fits m.ty carried) (converted m carried) f.0 f.1 in
      let has : Has scope set f.0 (kind_of carried) = subst (λ e. Has scope set e (kind_of carried)) g.1 (fits_has scope set m carried g.0 j) in
      subst (Communicates scope set) f.2 (λ short count.
      let both = and_parts _ _ short in
      sound.sends (of_target a.target count).part _ (erased carried) (channel_at a carried (sent_layer a.ty carried (out-Ty a.ty) refl is) h both.0 count) (void_kind carried ∙ full) (has both.1 (of_target a.target count).next))

  pub void_sending_sound : (a : Aim) (carried : Ty) → sent_type (out-Ty a.ty) ≡ Some carried → is_void (out-Ty carried) ≡ true → SoundAim scope set a → Communicates scope set (comm.Send a.target None)
  void_sending_sound a carried is empty h short count =
      sound.sends_void (of_target a.target count).part (erased carried) (channel_at a carried (sent_layer a.ty carried (out-Ty a.ty) refl is) h (and_parts _ _ short).0 count) (void_kind carried ∙ empty)

  -- ---- receives

  pub receiving_sound : (a : Aim) (carried : Ty) (r : Receiver) (c : CComm) → received_type (out-Ty a.ty) ≡ Some carried → is_void (out-Ty carried) ≡ false → SoundAim scope set a → SoundReceiver scope r
      → receiving a carried r ≡ Some c → Communicates scope set c
  receiving_sound a carried r c is full h j e =
      let g = chosen (same r.ty carried) (comm.Receive a.target (Some r.slot)) c e in
      subst (Communicates scope set) g.1 (λ short count.
      sound.receives (of_target a.target count).part r.slot (erased carried) (channel_at a carried (received_layer a.ty carried (out-Ty a.ty) refl is) h short count) (void_kind carried ∙ full)
      (j ∙ ap Some (same_kind r.ty carried g.0)))

  pub void_receiving_sound : (a : Aim) (carried : Ty) → received_type (out-Ty a.ty) ≡ Some carried → is_void (out-Ty carried) ≡ true → SoundAim scope set a → Communicates scope set (comm.Receive a.target None)
  void_receiving_sound a carried is empty h short count =
      sound.receives_void (of_target a.target count).part (erased carried) (channel_at a carried (received_layer a.ty carried (out-Ty a.ty) refl is) h short count) (void_kind carried ∙ empty)

  -- ---- delays

  delayed_by : (m : Made) (c : CComm) → SoundMade scope set m → (layer : Ty-F Ty) → out-Ty m.ty ≡ layer → delayed layer m ≡ Some c → Communicates scope set c
  delayed_by m c h Ty-F.Int p e =
      let has : Has scope set (converted m ty.Real) Ty-F.Real = subst (Has scope set (converted m ty.Real)) kind_real (converts scope set m ty.Real (inr (kind_at m.ty _ p, kind_real)) h) in
      subst (Communicates scope set) (some_is _ c e) (λ short count. sound.delays _ (has short count))
  delayed_by m c h Ty-F.Real p e =
      let has : Has scope set m.core Ty-F.Real = subst (Has scope set m.core) (kind_at m.ty _ p) h.kind in
      subst (Communicates scope set) (some_is _ c e) (λ short count. sound.delays _ (has short count))
  delayed_by m c h Ty-F.Timer p e =
      let has : Has scope set m.core Ty-F.Timer = subst (Has scope set m.core) (kind_at m.ty _ p) h.kind in
      subst (Communicates scope set) (some_is _ c e) (λ short count. sound.waits_for_timer _ (has short count))
  delayed_by m c h _ p e = absurd (cc)

  pub delaying_sound : (m : Made) (c : CComm) → SoundMade scope set m → delaying m ≡ Some c → Communicates scope set c
  delaying_sound m c h e = delayed_by m c h (out-Ty m.ty) refl e
