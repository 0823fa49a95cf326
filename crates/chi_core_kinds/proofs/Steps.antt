-- A step of an enabled label in a kinded configuration of a sound program leads to a kinded one in a world as wide or
-- wider, or ends with a verdict that can be told.
use Rattle.std.proofs.Common.{◌≡◌, ℕ, zero, suc, ℤ, false, cond, nat_eq, eq-eqb, ne_eqb, List, [], ◌∷◌, Option, Some, None, refl, sym, ap, subst, ◌∙◌}
use Rattle.std.proofs.lemmas.Bool.{eqb-false}
use Rattle.std.specs.Prelude.{slice_get, int_lt, IsTrue}
use Rattle.std.specs.Option.{option_map}
use Rattle.chi_value.specs.declared.value.Value.{Value}
use Rattle.chi_core.specs.declared.act.Act.TheVariants as act
use Rattle.chi_core.specs.declared.fault.FaultKind.{FaultKind}
use Rattle.chi_core.specs.declared.label.Label.{Label}
use Rattle.chi_core.specs.declared.label.Label.TheVariants as label
use Rattle.chi_core.specs.declared.program.Core.{Core}
use Rattle.chi_core.specs.declared.view.View.{View}
use Rattle.chi_core.specs.Answer as answer
use Rattle.chi_core.specs.Answer.{Answer, Gives, Fails, then_do, giving}
use Rattle.chi_core.specs.Config.{Config, Instance, Offer, State, Running, Waiting, Joining, Finished, rested, with_instance, view_of}
use Rattle.chi_core.specs.Kinded.{ActFits, KindedInstance, Kinded}
use Rattle.chi_core.specs.Kinds.{Kind}
use Rattle.chi_core.specs.Meeting.{are_over, offer_at, resumed, met, paired, woken_by, woken, joined_in, joined, next_due, may_reach, advanced}
use Rattle.chi_core.specs.Of.{World, Wider}
use Rattle.chi_core.specs.Options.{enabled}
use Rattle.chi_core.specs.Performing.{Change, Goes, Exits, quietly, performed}
use Rattle.chi_core.specs.Scopes.{process_home, exit_of}
use Rattle.chi_core.specs.Sound.{Sound}
use Rattle.chi_core.specs.Step as outcome
use Rattle.chi_core.specs.Step.{Outcome, Next, Over, after_step, first_done, local_in, local, no_fault, fault_in, name_of, line_of, taken, step}
use Rattle.chi_core.specs.Terms.{Term}
use Rattle.chi_core.proofs.Worlds.{same_world}
use Rattle.chi_core_kinds.specs.Well.{FitsView, Kept}
use Rattle.chi_core_kinds.specs.Keeps.{SoundVerdict, GoesKinded, KeepsKinded, GoesWider, KeepsCarried}
use Rattle.chi_core_kinds.proofs.Configs.{ConfigFits, ChangeFits, kinded_with, fits_with}
use Rattle.chi_core_kinds.proofs.Enabled.{Offers, IsEnabled, runs, meets, wakes, joins, goes_on, enabled_is}
use Rattle.chi_core_kinds.proofs.Operations.{Laws}
use Rattle.chi_core_kinds.proofs.Meetings.{Receives, nothing, met_receives, Resumes, act_fits, resumes, goes_on_from}
use Rattle.chi_core_kinds.proofs.Performing.{FirstWell, well_performed}

-- both that are said of a step
abbrev GoesOn : Core → World → Outcome → Type 0
GoesOn core w (Next config text left) = (later : Kinded core config) × Wider w later.world
GoesOn core w (Over verdict) = SoundVerdict core verdict
GoesOn core w outcome.Spent = Unit {0}
GoesOn core w outcome.Amiss = ⊥

kinded_on : (core : Core) (w : World) (o : Outcome) → GoesOn core w o → GoesKinded core o
kinded_on core w (Next config text left) on = on.0
kinded_on core w (Over verdict) on = on
kinded_on core w outcome.Spent on = tt
kinded_on core w outcome.Amiss on = on

wider_on : (core : Core) (w : World) (o : Outcome) → GoesOn core w o → GoesWider core w o
wider_on core w (Next config text left) on = on
wider_on core w (Over verdict) on = tt
wider_on core w outcome.Spent on = tt
wider_on core w outcome.Amiss on = on

module _ (laws : Laws) (core : Core) (fine : Sound core) (config : Config) (h : Kinded core config) where
  abbrev w : World
  w = h.world

  abbrev exit : Option Kind
  exit = exit_of h.model

  fits : ConfigFits core h.model w config
  fits = record { names = h.names; constants = h.constants; instances = h.instances; each = h.each; few = h.few }

  view_fits : (left : ℕ) → FitsView w (view_of config left)
  view_fits left = record { channels = h.channels; streams = h.streams; instances = h.instances }

  goes_after : (fault : FaultKind → Outcome) → ((kind : FaultKind) → GoesOn core w (fault kind)) → (a : Answer Change) → Kept w (ChangeFits core h.model) a → GoesOn core w (after_step fault a)
  goes_after fault ends (Gives (Goes new text) view) k = kinded_with core h.model h.is k.world new k.is view k.fits w k.wider
  goes_after fault ends (Gives (Exits v) view) k = k.is
  goes_after fault ends (Fails kind) k = ends kind
  goes_after fault ends answer.Spent k = tt
  goes_after fault ends answer.Amiss k = k

  -- where the answer is known
  goes_to : (a : Answer Change) (new : Config) (left : ℕ) → a ≡ Gives (quietly new) (view_of config left) → ConfigFits core h.model w new → GoesOn core w (after_step no_fault a)
  goes_to a new left e fit = subst (λ z. GoesOn core w (after_step no_fault z)) (sym e) (kinded_with core h.model h.is w new fit (view_of config left) (view_fits left) w (same_world w))

  -- an item of an instance

  has_item : (term : Term) (s : State) → rested term s ≡ s → s ≡ Running → term ≡ [] → ⊥
  has_item [] Running e r none = absurd (cc)
  has_item (item ∷ term) s e r none = absurd (cc)
  has_item [] (Waiting offers) e r none = absurd (cc)
  has_item [] (Joining numbers) e r none = absurd (cc)
  has_item [] Finished e r none = absurd (cc)

  can_fault : (i : Instance) (k : KindedInstance core exit w i) (line : ℕ) (kind : FaultKind) → GoesOn core w (fault_in (name_of core i.definition) line kind)
  can_fault i k line kind = subst (λ o. GoesOn core w (fault_in (option_map (λ d. d.name) o) line kind)) (sym k.is) tt

  goes_first : (p : ℕ) (i : Instance) (k : KindedInstance core exit w i) (running : i.state ≡ Running) (left : ℕ) (term : Term) → (term ≡ [] → ⊥)
      → FirstWell laws core fine config h p i k running term → GoesOn core w (first_done core config p i term (view_of config left))
  goes_first p i k running left [] some well = absurd (some refl)
  goes_first p i k running left (item ∷ rest) some well =
      goes_after (fault_in (name_of core i.definition) (line_of item)) (can_fault i k (line_of item)) (performed core config p (record i { term = rest }) item (view_of config left))
      (well (view_of config left) (view_fits left))

  goes_local : (p : ℕ) (i : Instance) → slice_get config.instances p ≡ Some i → i.state ≡ Running → (left : ℕ) → GoesOn core w (local core config p (slice_get config.instances p) (view_of config left))
  goes_local p i e running left =
      let k : KindedInstance core exit w i = h.each p i e in
      subst (λ o. GoesOn core w (local core config p o (view_of config left))) (sym e)
      (subst (λ s. GoesOn core w (local_in core config p i s (view_of config left))) (sym running)
      (goes_first p i k running left i.term (has_item i.term i.state k.settled running) (well_performed laws core fine config h p i k running)))

  -- offers

  offered : (p a : ℕ) (o : Offer) (f : Offers config p a o) → offer_at (slice_get config.instances p) a ≡ Some o
  offered p a o f = ap (λ z. offer_at z a) f.is ∙ f.at

  module _ (p a q b : ℕ) (o r : Offer) (channel : ℕ) (x : Option Value) (slot : Option ℕ) (f : Offers config p a o) (g : Offers config q b r) (other : nat_eq q p ≡ false)
      (sends : o.act ≡ act.Send channel x) (receives : r.act ≡ act.Receive channel slot) where
    k : KindedInstance core exit w f.i
    k = h.each p f.i f.is

    l : KindedInstance core exit w g.i
    l = h.each q g.i g.is

    sender : Resumes core exit w o None None f.i
    sender = resumes core exit w f.i k a o f.at None None nothing

    received : Receives w (process_home core l.d).scope slot x
    received =
        let sent = act_fits core exit w f.i k a o f.at in
        let got = act_fits core exit w g.i l b r g.at in
        met_receives w (process_home core k.d).scope (process_home core l.d).scope sent.0 got.0 channel x slot
        (subst (ActFits w (process_home core k.d).scope sent.0) sends sent.1) (subst (ActFits w (process_home core l.d).scope got.0) receives got.1)

    receiver : Resumes core exit w r slot x g.i
    receiver = resumes core exit w g.i l b r g.at slot x received

    abbrev first : Config
    first = with_instance config p sender.now

    abbrev last : Config
    last = with_instance first q receiver.now

    last_fits : ConfigFits core h.model w last
    last_fits =
        fits_with core h.model w first (fits_with core h.model w config fits w (same_world w) refl p sender.now sender.kinded) w (same_world w) refl q receiver.now receiver.kinded

    answers : (view : View) → paired config p (slice_get config.instances p) (offer_at (slice_get config.instances p) a) q (slice_get config.instances q) (offer_at (slice_get config.instances q) b) view
        ≡ Gives (quietly last) view
    answers view =
        (λ j. paired config p (f.is j) (offered p a o f j) q (g.is j) (offered q b r g j) view)
        ∙ ap (λ t. cond t answer.Amiss (met config p f.i o o.act q g.i r r.act view)) (ne_eqb p q (λ e. eqb-false q p other (sym e)))
        ∙ (λ j. met config p f.i o (sends j) q g.i r (receives j) view)
        ∙ ap (λ t. cond t (then_do (resumed o None None f.i view) meet) answer.Amiss) (eq-eqb channel channel refl)
        ∙ ap (λ z. then_do z meet) (sender.gives_it view)
        ∙ ap (giving (λ receiver. quietly (with_instance first q receiver))) (receiver.gives_it view)
      where
        meet : Instance → View → Answer Change
        meet from now = giving (λ receiver. quietly (with_instance (with_instance config p from) q receiver)) (resumed r slot x g.i now)

    goes_pair : (left : ℕ) → GoesOn core w (taken core config (label.Pair p a q b) (view_of config left))
    goes_pair left = goes_to _ last left (answers (view_of config left)) last_fits

  goes_wake : (p a : ℕ) (o : Offer) (due : ℤ) → Offers config p a o → o.act ≡ act.Delay due → int_lt config.clock due ≡ false → (left : ℕ)
      → GoesOn core w (taken core config (label.Wake p a) (view_of config left))
  goes_wake p a o due f delays reached left = goes_to _ (with_instance config p now.now) left answers (fits_with core h.model w config fits w (same_world w) refl p now.now now.kinded)
    where
      now : Resumes core exit w o None None f.i
      now = resumes core exit w f.i (h.each p f.i f.is) a o f.at None None nothing

      answers : woken config p (slice_get config.instances p) (offer_at (slice_get config.instances p) a) (view_of config left) ≡ Gives (quietly (with_instance config p now.now)) (view_of config left)
      answers =
          (λ j. woken config p (f.is j) (offered p a o f j) (view_of config left)) ∙ (λ j. woken_by config p f.i o (delays j) (view_of config left))
          ∙ ap (λ t. cond t answer.Amiss (giving (λ woken. quietly (with_instance config p woken)) (resumed o None None f.i (view_of config left)))) reached
          ∙ ap (giving (λ woken. quietly (with_instance config p woken))) (now.gives_it (view_of config left))

  goes_join : (p : ℕ) (i : Instance) (waited : List ℕ) → slice_get config.instances p ≡ Some i → i.state ≡ Joining waited → IsTrue (are_over config waited) → (left : ℕ)
      → GoesOn core w (taken core config (label.Join p) (view_of config left))
  goes_join p i waited e waits over left =
      goes_to _ (with_instance config p (record i { state = Running })) left answers
      (fits_with core h.model w config fits w (same_world w) refl p (record i { state = Running }) (goes_on_from core exit w i k))
    where
      k : KindedInstance core exit w i
      k = h.each p i e

      answers : joined config p (slice_get config.instances p) (view_of config left) ≡ Gives (quietly (with_instance config p (record i { state = Running }))) (view_of config left)
      answers =
          ap (λ z. joined config p z (view_of config left)) e ∙ ap (λ s. joined_in config p i s (view_of config left)) waits
          ∙ ap (λ t. cond t (Gives (quietly (with_instance config p (record i { state = Running }))) (view_of config left)) answer.Amiss) over

  goes_advance : (t : ℤ) → next_due config ≡ Some t → IsTrue (may_reach config.until t) → (left : ℕ) → GoesOn core w (taken core config label.Advance (view_of config left))
  goes_advance t e reach left =
      goes_to _ (record config { clock = t }) left
      (ap (λ z. advanced config z (view_of config left)) e ∙ ap (λ b. cond b (Gives (quietly (record config { clock = t })) (view_of config left)) answer.Amiss) reach)
      (record { names = h.names; constants = h.constants; instances = h.instances; each = h.each; few = h.few })

  goes_taken : (l : Label) → IsEnabled config l → (left : ℕ) → GoesOn core w (taken core config l (view_of config left))
  goes_taken _ (runs p i e running) left = goes_local p i e running left
  goes_taken _ (meets p a q b o r channel x slot f g other sends receives) left = goes_pair p a q b o r channel x slot f g other sends receives left
  goes_taken _ (wakes p a o due f delays reached) left = goes_wake p a o due f delays reached left
  goes_taken _ (joins p i waited e waits over) left = goes_join p i waited e waits over left
  goes_taken _ (goes_on t e reach) left = goes_advance t e reach left

  goes_step : (l : Label) → IsEnabled config l → (left : ℕ) → GoesOn core w (step core config l left)
  unfolding step
  goes_step l is zero = tt
  goes_step l is (suc left) = goes_taken l is left

pub steps_keep : Laws → (core : Core) → Sound core → KeepsKinded core
steps_keep laws core fine config h l enabled left =
    kinded_on core h.world (step core config l left) (goes_step laws core fine config h l (enabled_is config l enabled) left)

pub steps_widen : Laws → (core : Core) → Sound core → KeepsCarried core
steps_widen laws core fine config h l enabled left =
    wider_on core h.world (step core config l left) (goes_step laws core fine config h l (enabled_is config l enabled) left)
