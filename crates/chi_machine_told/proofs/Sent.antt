-- What offers send, as waiting lists have them and as they are kept.
use Rattle.std.proofs.Common.{◌≡◌, ℕ, ◌<◌, ◌≤◌, List, length, get_or, map, Option, Some, None, refl, sym, ap, subst, ◌∙◌}
use Rattle.std.specs.Prelude.{IfSome, IsTrue, option_map, option_and_then, slice_get}
use Rattle.std.specs.Option.{option_copied}
use Rattle.std.proofs.lemmas.Option.{slice_get-get_or, slice_get-map, slice_get_past}
use denote.Ref.{Bor}
use Rattle.chi_value.specs.declared.value.Value.{Value}
use Rattle.chi_chan.specs.declared.offers.Offer.{Offer}
use Rattle.chi_chan_laws.specs.Agreement.{offered_by}
use Rattle.chi_core.specs.declared.act.Act.{Act}
use Rattle.chi_core.specs.declared.act.Act.TheVariants as act
use Rattle.chi_code.specs.declared.code.Code.{Code}
use Rattle.chi_machine_laws.specs.Instances.{Kept}
use Rattle.chi_machine.specs.Below.chi_machine_runs.specs.Resuming.{value_by, sent_at}
use Rattle.chi_machine_told.specs.There.{Sends, act_in, channel_by}
use Rattle.chi_trace.specs.declared.event.Detail.TheVariants.{Sent}
use Rattle.chi_trace.specs.Events.{is_value_text}
use Rattle.chi_trace_events.specs.Channels.{channel_sent}
use Rattle.chi_trace_events.specs.Traces.{sending_told, sent_text}

-- the channel

abbrev offered : Kept → Offer
offered k = offered_by k.act

channel_so : (a : Act) → channel_by (offered_by a) ≡ channel_sent a
channel_so (act.Send channel x) = refl
channel_so (act.Receive channel slot) = refl
channel_so (act.Delay due) = refl

by_kept : (o : Offer) (k : Option Kept) → option_map offered k ≡ Some o → channel_by o ≡ option_and_then channel_sent (option_map (λ k. k.act) k)
by_kept o None e = absurd (cc)
by_kept o (Some k) e = let same : offered k ≡ o = cc in ap channel_by (sym same) ∙ channel_so k.act

by_none : (k : Option Kept) → option_map offered k ≡ None → None ≡ option_and_then channel_sent (option_map (λ k. k.act) k)
by_none None e = refl
by_none (Some k) e = absurd (cc)

module _ (ks : List Kept) (list : List Offer) (a : ℕ) (are : list ≡ map offered ks) where
  pub channel_there : (o : Offer) (r : Option ℕ) → a < length list → o ≡ get_or list a o → r ≡ channel_by o → r ≡ option_and_then channel_sent (act_in ks a)
  channel_there o r h read is =
      is ∙ by_kept o (slice_get ks a) (sym (slice_get-map offered ks a) ∙ ap (λ l. slice_get l a) (sym are) ∙ slice_get-get_or list a o h ∙ ap Some (sym read))

  pub channel_past : length list ≤ a → None ≡ option_and_then channel_sent (act_in ks a)
  channel_past h = by_none (slice_get ks a) (sym (slice_get-map offered ks a) ∙ ap (λ l. slice_get l a) (sym are) ∙ slice_get_past list a h)

-- the value

value_so : (channel : ℕ) (x : Option Value) (k : Option Kept) → option_map (λ (k : Kept). k.act) k ≡ Some (act.Send channel x) → option_and_then (λ (k : Kept). value_by k.act) k ≡ x
value_so channel x None e = absurd (cc)
value_so channel x (Some k) e = let same : k.act ≡ act.Send channel x = cc in ap value_by same

pub named_by : (r : Option (Bor Value)) (x : Option Value) (P : Value → Type 0) → option_copied r ≡ x → IfSome x P → IfSome r (λ v. P v.now)
named_by r x P e p = back r (subst (λ x. IfSome x P) (sym e) p)
  where
    back : (r : Option (Bor Value)) → IfSome (option_copied r) P → IfSome r (λ v. P v.now)
    back None p = tt
    back (Some v) p = p

module _ (code : Code) (ks : List Kept) (a : ℕ) (s : Sends code (act_in ks a)) where
  pub its_value : (r : Option Value) → r ≡ sent_at ks a → r ≡ s.1
  its_value r is = is ∙ value_so s.0 s.1 (slice_get ks a) s.2

  pub its_channel : (channel : ℕ) → Some channel ≡ option_and_then channel_sent (act_in ks a) → channel ≡ s.0
  its_channel channel is = let same : Some channel ≡ Some s.0 = is ∙ ap (option_and_then channel_sent) s.2 in cc

  pub has_channel : None ≡ option_and_then channel_sent (act_in ks a) → ⊥
  has_channel is = let same : ◌≡◌ {A = Option ℕ} None (Some s.0) = is ∙ ap (option_and_then channel_sent) s.2 in absurd (cc)

  pub told : (channel : ℕ) (text : List ℕ) → channel ≡ s.0 → text ≡ sent_text code.names.kinds s.1 → option_and_then (sending_told code.names.kinds) (act_in ks a) ≡ Some (Sent channel text)
  told channel text c t = ap (option_and_then (sending_told code.names.kinds)) s.2 ∙ (λ j. Some (Sent (sym c j) (sym t j)))

  pub fits : (text : List ℕ) → text ≡ sent_text code.names.kinds s.1 → IsTrue (is_value_text text)
  fits text t = subst (λ text. IsTrue (is_value_text text)) (sym t) s.3.text
