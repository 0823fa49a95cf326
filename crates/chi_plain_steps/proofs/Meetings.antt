-- Two offers that are taken together.
use Rattle.std.proofs.Common.{◌≡◌, ◌≢◌, ◌<◌, length, ℕ, Option, Some, None, Bool, true, false, cond, sym, ◌∙◌, ap, refl, arith}
use Rattle.std.specs.Prelude.{nat_eq, int_lt, slice_set}
use Rattle.std.specs.List.{slice_get}
use Rattle.std.proofs.lemmas.Option.{slice_get_within}
use Rattle.chi_value.specs.declared.value.Value.{Value}
use Rattle.chi_core.specs.declared.act.Act.{Act}
use Rattle.chi_core.specs.declared.act.Act.TheVariants.{Send, Receive, Delay}
use Rattle.chi_core.specs.declared.view.View.{View}
use Rattle.chi_core.specs.Answer.{Answer, Gives, Fails, Spent, Amiss, then_do, giving, wanted}
use Rattle.chi_core.specs.Config.{Config, Instance, Offer, State, Running, Waiting, Joining, Finished, offers_in, settled, with_instance}
use Rattle.chi_core.specs.Meeting.{resumed, offer_at, met, paired, woken_by, woken, are_over, joined_in, joined}
use Rattle.chi_core.specs.Performing.{Change, quietly}
use Rattle.chi_plain_open.specs.Taken.{slot_in, sent_in, sent_by, resumed_by}
use Rattle.chi_plain_steps.specs.Meetings.{sent_at, resumed_at}
use Rattle.chi_plain_steps.proofs.Changes.{slice_get-set_other}

giving-giving : {A B C : Type 0} (g : B → C) (f : A → B) (it : Answer A) → giving (λ x. g (f x)) it ≡ giving g (giving f it)
giving-giving g f (Gives x view) = refl
giving-giving g f (Fails kind) = refl
giving-giving g f Spent = refl
giving-giving g f Amiss = refl

-- where the number of an offer, and what it offers, are known
resumed-known : (config : Config) (p a : ℕ) (i : Instance) (o : Offer) (received : Option Value) (view : View) → slice_get config.instances p ≡ Some i
    → slice_get (offers_in i.state) a ≡ Some o → resumed_at config p a received view ≡ giving (with_instance config p) (resumed o (slot_in o.act) received i view)
resumed-known config p a i o received view at has =
    ap (λ f. then_do (wanted f view) (λ i now. giving (with_instance config p) (resumed_by a received i now))) at
    ∙ ap (λ f. giving (with_instance config p) (then_do (wanted f view) (λ o. resumed o (slot_in o.act) received i))) has

-- what is known of an offer that is taken

pub resumed_there : (config : Config) (p a : ℕ) (received : Option Value) (view : View) → resumed_at config p a received view ≢ Amiss → p < length config.instances
resumed_there config p a received view well = by_instance (slice_get config.instances p) refl well
  where
    by_instance : (o : Option Instance) → slice_get config.instances p ≡ o
        → then_do (wanted o view) (λ i now. giving (with_instance config p) (resumed_by a received i now)) ≢ Amiss → p < length config.instances
    by_instance None at w = absurd (w refl)
    by_instance (Some i) at w = slice_get_within config.instances p i at

pub resumed_gives : (config : Config) (p a : ℕ) (received : Option Value) (view : View) (i j k : Instance) → slice_get config.instances p ≡ Some i
    → k ≡ settled j → resumed_by a received i view ≡ Gives j view
    → resumed_at config p a received view ≡ Gives (record config { instances = slice_set config.instances p k }) view
resumed_gives config p a received view i j k at rest e =
    ap (λ f. then_do (wanted f view) (λ i now. giving (with_instance config p) (resumed_by a received i now))) at
    ∙ ap (giving (with_instance config p)) e ∙ ap (λ x. let new : Config = record config { instances = slice_set config.instances p x } in Gives new view) (sym rest)

pub resumed_well : (config : Config) (p a : ℕ) (received : Option Value) (view : View) (i : Instance) → slice_get config.instances p ≡ Some i
    → resumed_at config p a received view ≢ Amiss → resumed_by a received i view ≢ Amiss
resumed_well config p a received view i at well e =
    well (ap (λ f. then_do (wanted f view) (λ i now. giving (with_instance config p) (resumed_by a received i now))) at ∙ ap (giving (with_instance config p)) e)

module _ (config : Config) (p a q b : ℕ) (view : View) where
  -- the one offer is taken, and then the other
  abbrev both : Answer Change
  both = then_do (resumed_at config p a None view) (λ new now. giving quietly (resumed_at new q b (sent_at config p a) now))

  module _ (i j : Instance) (s r : Offer) (at : slice_get config.instances p ≡ Some i) (has : slice_get (offers_in i.state) a ≡ Some s) (there : slice_get config.instances q ≡ Some j)
      (holds : slice_get (offers_in j.state) b ≡ Some r) (others : p ≢ q) where
    met_both : (x : Option Value) (slot : Option ℕ) → slot_in r.act ≡ slot → (m : Answer Instance)
        → then_do m (λ sender now. giving (λ receiver. quietly (with_instance (with_instance config p sender) q receiver)) (resumed r slot x j now))
        ≡ then_do (giving (with_instance config p) m) (λ new now. giving quietly (resumed_at new q b x now))
    met_both x slot e (Gives sender now) =
        let here : slice_get (with_instance config p sender).instances q ≡ Some j = slice_get-set_other config.instances p q _ others ∙ there in
        giving-giving quietly (with_instance (with_instance config p sender) q) (resumed r slot x j now)
        ∙ ap (λ k. giving quietly (giving (with_instance (with_instance config p sender) q) (resumed r k x j now))) (sym e)
        ∙ ap (giving quietly) (sym (resumed-known (with_instance config p sender) q b j r x now here holds))
    met_both x slot e (Fails kind) = refl
    met_both x slot e Spent = refl
    met_both x slot e Amiss = refl

    met_is : (channel its : ℕ) (x : Option Value) (slot : Option ℕ) → s.act ≡ Send channel x → r.act ≡ Receive its slot
        → then_do (resumed s None None i view) (λ sender now. giving (λ receiver. quietly (with_instance (with_instance config p sender) q receiver)) (resumed r slot x j now)) ≡ both
    met_is channel its x slot is_s is_r =
        let first : resumed_at config p a None view ≡ giving (with_instance config p) (resumed s None None i view)
        = resumed-known config p a i s None view at has ∙ ap (λ act. giving (with_instance config p) (resumed s (slot_in act) None i view)) is_s in
        let sent : sent_at config p a ≡ x
        = ap (λ o. sent_by (offer_at o a)) at ∙ ap sent_by has ∙ ap sent_in is_s in
        met_both x slot (ap slot_in is_r) (resumed s None None i view)
        ∙ sym ((λ k. then_do (first k) (λ new now. giving quietly (resumed_at new q b (sent k) now))))

    acts : (sa ra : Act) → s.act ≡ sa → r.act ≡ ra → met config p i s sa q j r ra view ≢ Amiss → met config p i s sa q j r ra view ≡ both
    acts (Send channel x) (Receive its slot) is_s is_r well = by_test (nat_eq channel its) well
      where
        by_test : (t : Bool)
            → cond t (then_do (resumed s None None i view) (λ sender now. giving (λ receiver. quietly (with_instance (with_instance config p sender) q receiver)) (resumed r slot x j now))) Amiss ≢ Amiss
            → cond t (then_do (resumed s None None i view) (λ sender now. giving (λ receiver. quietly (with_instance (with_instance config p sender) q receiver)) (resumed r slot x j now))) Amiss ≡ both
        by_test true w = met_is channel its x slot is_s is_r
        by_test false w = absurd (w refl)
    acts (Send channel x) (Send its y) is_s is_r well = absurd (well refl)
    acts (Send channel x) (Delay due) is_s is_r well = absurd (well refl)
    acts (Receive channel slot) ra is_s is_r well = absurd (well refl)
    acts (Delay due) ra is_s is_r well = absurd (well refl)

  paired_known : (i j : Instance) (s r : Offer) → slice_get config.instances p ≡ Some i → slice_get (offers_in i.state) a ≡ Some s → slice_get config.instances q ≡ Some j
      → slice_get (offers_in j.state) b ≡ Some r → paired config p (Some i) (Some s) q (Some j) (Some r) view ≢ Amiss
      → paired config p (Some i) (Some s) q (Some j) (Some r) view ≡ both
  paired_known i j s r at has there holds well = by_test (nat_eq p q) (λ e. grind arith) well
    where
      by_test : (t : Bool) → (t ≡ false → p ≢ q) → cond t Amiss (met config p i s s.act q j r r.act view) ≢ Amiss → cond t Amiss (met config p i s s.act q j r r.act view) ≡ both
      by_test true others w = absurd (w refl)
      by_test false others w = acts i j s r at has there holds (others refl) s.act r.act refl refl w

  paired_some : (oi : Option Instance) → slice_get config.instances p ≡ oi → (os : Option Offer) → offer_at oi a ≡ os → (oj : Option Instance) → slice_get config.instances q ≡ oj
      → (of : Option Offer) → offer_at oj b ≡ of → paired config p oi os q oj of view ≢ Amiss → paired config p oi os q oj of view ≡ both
  paired_some (Some i) at (Some s) has (Some j) there (Some r) holds well = paired_known i j s r at has there holds well
  paired_some None at os has oj there of holds well = absurd (well refl)
  paired_some (Some i) at None has oj there of holds well = absurd (well refl)
  paired_some (Some i) at (Some s) has None there of holds well = absurd (well refl)
  paired_some (Some i) at (Some s) has (Some j) there None holds well = absurd (well refl)

  abbrev pair : Answer Change
  pair =
      paired config p (slice_get config.instances p) (offer_at (slice_get config.instances p) a) q (slice_get config.instances q)
      (offer_at (slice_get config.instances q) b) view

  -- a pair is the one offer that is taken, and then the other
  paired_is : pair ≢ Amiss → pair ≡ both
  paired_is well = paired_some (slice_get config.instances p) refl _ refl (slice_get config.instances q) refl _ refl well

  pub pair_first : pair ≢ Amiss → resumed_at config p a None view ≢ Amiss
  pair_first well e = well (paired_is well ∙ ap (λ m. then_do m (λ new now. giving quietly (resumed_at new q b (sent_at config p a) now))) e)

  pub pair_second : (new : Config) (x : Option Value) → pair ≢ Amiss → resumed_at config p a None view ≡ Gives new view → x ≡ sent_at config p a
      → resumed_at new q b x view ≢ Amiss
  pair_second new x well e sent f =
      well (paired_is well ∙ ap (λ m. then_do m (λ new now. giving quietly (resumed_at new q b (sent_at config p a) now))) e
      ∙ ap (λ y. giving quietly (resumed_at new q b y view)) (sym sent) ∙ ap (giving quietly) f)

  pub pair_gives : (new last : Config) (x : Option Value) → pair ≢ Amiss → resumed_at config p a None view ≡ Gives new view → x ≡ sent_at config p a
      → resumed_at new q b x view ≡ Gives last view → pair ≡ Gives (quietly last) view
  pair_gives new last x well e sent f =
      paired_is well ∙ ap (λ m. then_do m (λ new now. giving quietly (resumed_at new q b (sent_at config p a) now))) e
      ∙ ap (λ y. giving quietly (resumed_at new q b y view)) (sym sent) ∙ ap (giving quietly) f

-- where what instance p waits for is there

pub joined_there : (config : Config) (p : ℕ) (view : View) → joined config p (slice_get config.instances p) view ≢ Amiss → p < length config.instances
joined_there config p view well = by_instance (slice_get config.instances p) refl well
  where
    by_instance : (o : Option Instance) → slice_get config.instances p ≡ o → joined config p o view ≢ Amiss → p < length config.instances
    by_instance None at w = absurd (w refl)
    by_instance (Some i) at w = slice_get_within config.instances p i at

pub joined_gives : (config : Config) (p : ℕ) (view : View) (i k : Instance) → slice_get config.instances p ≡ Some i → k ≡ settled (record i { state = Running })
    → joined config p (slice_get config.instances p) view ≢ Amiss
    → joined config p (slice_get config.instances p) view ≡ Gives (quietly (record config { instances = slice_set config.instances p k })) view
joined_gives config p view i k at rest well =
    ap (λ o. joined config p o view) at ∙ by_state i.state (λ e. well (ap (λ o. joined config p o view) at ∙ e))
  where
    by_state : (s : State) → joined_in config p i s view ≢ Amiss → joined_in config p i s view ≡ Gives (quietly (record config { instances = slice_set config.instances p k })) view
    by_state (Joining numbers) w = by_test (are_over config numbers) w
      where
        by_test : (t : Bool) → cond t (Gives (quietly (with_instance config p (record i { state = Running }))) view) Amiss ≢ Amiss
            → cond t (Gives (quietly (with_instance config p (record i { state = Running }))) view) Amiss ≡ Gives (quietly (record config { instances = slice_set config.instances p k })) view
        by_test true w' = ap (λ x. let new : Config = record config { instances = slice_set config.instances p x } in Gives (quietly new) view) (sym rest)
        by_test false w' = absurd (w' refl)
    by_state Running w = absurd (w refl)
    by_state (Waiting offers) w = absurd (w refl)
    by_state Finished w = absurd (w refl)

-- a delay that has passed
module _ (config : Config) (p a : ℕ) (view : View) where
  abbrev wakes : Answer Change
  wakes = woken config p (slice_get config.instances p) (offer_at (slice_get config.instances p) a) view

  woken_known : (i : Instance) (o : Offer) → slice_get config.instances p ≡ Some i → slice_get (offers_in i.state) a ≡ Some o → (act : Act) → o.act ≡ act
      → woken_by config p i o act view ≢ Amiss → woken_by config p i o act view ≡ giving quietly (resumed_at config p a None view)
  woken_known i o at has (Delay due) is well = by_test (int_lt config.clock due) well
    where
      by_test : (t : Bool) → cond t Amiss (giving (λ woken. quietly (with_instance config p woken)) (resumed o None None i view)) ≢ Amiss
          → cond t Amiss (giving (λ woken. quietly (with_instance config p woken)) (resumed o None None i view)) ≡ giving quietly (resumed_at config p a None view)
      by_test true w = absurd (w refl)
      by_test false w =
          giving-giving quietly (with_instance config p) (resumed o None None i view)
          ∙ ap (giving quietly) (sym (resumed-known config p a i o None view at has ∙ ap (λ act. giving (with_instance config p) (resumed o (slot_in act) None i view)) is))
  woken_known i o at has (Send channel x) is well = absurd (well refl)
  woken_known i o at has (Receive channel slot) is well = absurd (well refl)

  woken_some : (oi : Option Instance) → slice_get config.instances p ≡ oi → (os : Option Offer) → offer_at oi a ≡ os → woken config p oi os view ≢ Amiss
      → woken config p oi os view ≡ giving quietly (resumed_at config p a None view)
  woken_some (Some i) at (Some o) has well = woken_known i o at has o.act refl well
  woken_some None at os has well = absurd (well refl)
  woken_some (Some i) at None has well = absurd (well refl)

  woken_is : wakes ≢ Amiss → wakes ≡ giving quietly (resumed_at config p a None view)
  woken_is well = woken_some (slice_get config.instances p) refl _ refl well

  pub wake_first : wakes ≢ Amiss → resumed_at config p a None view ≢ Amiss
  wake_first well e = well (woken_is well ∙ ap (giving quietly) e)

  pub wake_gives : (new : Config) → wakes ≢ Amiss → resumed_at config p a None view ≡ Gives new view → wakes ≡ Gives (quietly new) view
  wake_gives new well e = woken_is well ∙ ap (giving quietly) e
