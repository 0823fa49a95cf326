-- What is kept, as the time goes on.
use Rattle.std.proofs.Common.{◌≡◌, ℕ, ℤ, List, Option, Some, None, Bool, true, false, cond, length, sym, ◌∙◌, ap, subst, refl}
use Rattle.std.specs.Prelude.{int_lt, not}
use Rattle.std.specs.List.{slice_get}
use Rattle.std.proofs.lemmas.Bool.{false≢true}
use Rattle.chi_chan.specs.declared.offers.Offer.{Offer}
use Rattle.chi_chan.specs.declared.offers.Offer.TheVariants.{Delay}
use Rattle.chi_chan.specs.Held.{Offered, held}
use Rattle.chi_chan.specs.Kept.{offer_in}
use Rattle.chi_order.specs.Dated.{due_of}
use Rattle.chi_machine_agenda.specs.declared.standing.Standing.{Standing}
use Rattle.chi_machine_agenda.specs.declared.standing.Standing.TheVariants as stands
use Rattle.chi_machine_agenda.specs.Asking.{asks, MayGo, meets, wakes}
use Rattle.chi_machine_agenda.specs.Kept.{goes, IsKept, IsSeated}
use Rattle.chi_machine_agenda.specs.Timed.{Awaits, AreWoken, is_due}
use Rattle.chi_machine_agenda.specs.Timed as timed
use Rattle.chi_machine_agenda.proofs.Going.{asks-may, may-asks}
use Rattle.chi_machine_agenda.proofs.Seats.{room-more}
use Rattle.chi_machine_agenda.proofs.Times.{before-all, none-awaited, not-false, not-true}

module _ (clock : ℤ) (ss : List Standing) (ended : List Bool) (old : Offered) (marks : List Bool) (times : List (Option ℤ)) (rows : List (List ℕ)) (counts : List ℕ)
    (watching : List (List ℕ)) (is : IsKept clock ss ended old marks times rows counts watching) (none : (q : ℕ) → goes old clock counts q (slice_get ss q) ≡ false) where
  -- nobody that waits has an option
  waits-none : (q : ℕ) → slice_get ss q ≡ Some stands.Waiting → asks old clock q ≡ false
  waits-none q e = sym (ap (goes old clock counts q) e) ∙ none q

  pub held-waits : (q a : ℕ) (o : Offer) → offer_in (held old q) a ≡ Some o → slice_get ss q ≡ Some stands.Waiting
  held-waits q a o e = by_standing (slice_get ss q) (held old q) refl e (is.seated q)
    where
      by_standing : (s : Option Standing) (w : Option (List Offer)) → slice_get ss q ≡ s → offer_in w a ≡ Some o → IsSeated s w → slice_get ss q ≡ Some stands.Waiting
      by_standing None w at g h = absurd (let z : None ≡ Some o = sym (ap (λ x. offer_in x a) h) ∙ g in cc)
      by_standing (Some stands.Running) w at g h = absurd (let z : None ≡ Some o = sym (ap (λ x. offer_in x a) h) ∙ g in cc)
      by_standing (Some stands.Waiting) w at g h = at
      by_standing (Some stands.Joining) w at g h = absurd (let z : None ≡ Some o = sym (ap (λ x. offer_in x a) h) ∙ g in cc)
      by_standing (Some stands.Finished) w at g h = absurd (let z : None ≡ Some o = sym (ap (λ x. offer_in x a) h) ∙ g in cc)

  -- no delay is due
  pub none-due : (q a : ℕ) (d : ℤ) → offer_in (held old q) a ≡ Some (Delay d) → int_lt clock d ≡ true
  none-due q a d e = by_test (int_lt clock d) refl
    where
      by_test : (b : Bool) → int_lt clock d ≡ b → int_lt clock d ≡ true
      by_test true f = f
      by_test false f = absurd (false≢true (sym (waits-none q (held-waits q a (Delay d) e)) ∙ may-asks old clock q (wakes a d e f)))

  -- so each delay is at least as late as what is awaited
  pub awaited-least : (q a : ℕ) (d : ℤ) (w : Option ℤ) → Awaits clock (held old q) w → offer_in (held old q) a ≡ Some (Delay d) → (u : ℤ) × (w ≡ Some u) × (int_lt d u ≡ false)
  awaited-least q a d _ (timed.Awaits.nothing h) e = absurd (h a d e)
  awaited-least q a d _ (timed.Awaits.already b u f g) e = absurd (false≢true (sym g ∙ none-due q b u f))
  awaited-least q a d _ (timed.Awaits.later b u f g least) e = (u, refl, least a d e)

  pub awaited-there : (q : ℕ) (u : ℤ) (w : Option ℤ) → Awaits clock (held old q) w → w ≡ Some u → (a : ℕ) × (offer_in (held old q) a ≡ Some (Delay u))
  awaited-there q u _ (timed.Awaits.nothing h) e = absurd (cc)
  awaited-there q u _ (timed.Awaits.already b v f g) e = absurd (cc)
  awaited-there q u _ (timed.Awaits.later b v f g least) e = let same : v ≡ u = cc in (b, f ∙ ap (λ x. Some (Delay x)) same)

  module _ (t : ℤ) where
    -- who goes once it is that time
    later-asks : (q : ℕ) → slice_get ss q ≡ Some stands.Waiting → (b : Bool) → is_due t (due_of times q) ≡ b → asks old t q ≡ b
    later-asks q at true d = by_due (due_of times q) refl d
      where
        by_due : (w : Option ℤ) → due_of times q ≡ w → is_due t w ≡ true → asks old t q ≡ true
        by_due None e f = absurd (false≢true f)
        by_due (Some u) e f =
            let there = awaited-there q u (due_of times q) (is.due q) e in
            may-asks old t q (wakes there.0 u there.1 (not-true (int_lt t u) f))
    later-asks q at false d = by_test (asks old t q) refl
      where
        by_may : MayGo old t q → ⊥
        by_may (meets a c r b e n g) = false≢true (sym (waits-none q at) ∙ may-asks old clock q (meets a c r b e n g))
        by_may (wakes a v e f) =
            let l = awaited-least q a v (due_of times q) (is.due q) e in
            let later : int_lt t l.0 ≡ true = not-false (int_lt t l.0) (sym (ap (is_due t) l.1) ∙ d) in
            false≢true (sym f ∙ before-all t l.0 v later l.2)

        by_test : (b : Bool) → asks old t q ≡ b → asks old t q ≡ false
        by_test true e = absurd (by_may (asks-may old t q e))
        by_test false e = e

    goes-later : (q : ℕ) → goes old t counts q (slice_get ss q) ≡ cond (is_due t (due_of times q)) true false
    goes-later q = by_standing (slice_get ss q) refl (is.seated q) (none q)
      where
        whole : (b : Bool) → cond b true false ≡ b
        whole true = refl
        whole false = refl

        idle : held old q ≡ None → cond (is_due t (due_of times q)) true false ≡ false
        idle e =
            let w : due_of times q ≡ None = none-awaited clock (due_of times q) (subst (λ (x : Option (List Offer)). Awaits clock x (due_of times q)) e (is.due q)) in
            ap (λ x. cond (is_due t x) true false) w

        by_standing : (o : Option Standing) → slice_get ss q ≡ o → IsSeated o (held old q) → goes old clock counts q o ≡ false → goes old t counts q o ≡ cond (is_due t (due_of times q)) true false
        by_standing None at h f = sym (idle h)
        by_standing (Some stands.Running) at h f = absurd (false≢true (sym f))
        by_standing (Some stands.Waiting) at h f = later-asks q at (is_due t (due_of times q)) refl ∙ sym (whole (is_due t (due_of times q)))
        by_standing (Some stands.Joining) at h f = f ∙ sym (idle h)
        by_standing (Some stands.Finished) at h f = sym (idle h)

    pub kept-later : (marks' : List Bool) (times' : List (Option ℤ)) → AreWoken t marks marks' times times' → length marks' ≡ length marks → length times' ≡ length times
        → IsKept t ss ended old marks' times' rows counts watching
    kept-later marks' times' woken a b = record {
      over = is.over;
      room = room-more (length ss) (length ss) marks marks' times times' rows rows counts counts watching watching is.room refl a b refl refl refl;
      seated = is.seated;
      ready = λ q. (woken q).1 ∙ ap (λ m. cond (is_due t (due_of times q)) true m) (is.ready q ∙ none q) ∙ sym (goes-later q);
      due = λ q. by_due q (due_of times q) (is.due q) refl ((woken q).0);
      ahead = is.ahead;
      joined = is.joined;
    }
      where
        by_later : (q : ℕ) (u : ℤ) (a : ℕ) → offer_in (held old q) a ≡ Some (Delay u) → ((b : ℕ) (d : ℤ) → offer_in (held old q) b ≡ Some (Delay d) → int_lt d u ≡ false)
            → (x : Bool) → int_lt t u ≡ x → (w : Option ℤ) → w ≡ cond (not (int_lt t u)) None (Some u) → Awaits t (held old q) w
        by_later q u a e least true f w g =
            subst (Awaits t (held old q)) (sym (g ∙ ap (λ x. cond (not x) None (Some u)) f)) (timed.Awaits.later a u e f least)
        by_later q u a e least false f w g =
            subst (Awaits t (held old q)) (sym (g ∙ ap (λ x. cond (not x) None (Some u)) f)) (timed.Awaits.already a u e f)

        by_due : (q : ℕ) (v : Option ℤ) → Awaits clock (held old q) v → due_of times q ≡ v → due_of times' q ≡ cond (is_due t (due_of times q)) None (due_of times q)
            → Awaits t (held old q) (due_of times' q)
        by_due q _ (timed.Awaits.nothing h) e g =
            subst (Awaits t (held old q)) (sym (g ∙ ap (λ x. cond (is_due t x) None x) e)) (timed.Awaits.nothing h)
        by_due q _ (timed.Awaits.already c u f h) e g = absurd (false≢true (sym h ∙ none-due q c u f))
        by_due q _ (timed.Awaits.later c u f h least) e g =
            by_later q u c f least (int_lt t u) refl (due_of times' q) (g ∙ ap (λ x. cond (is_due t x) None x) e)
