-- What is kept, as instances come to wait with offers and go on.
use Rattle.std.proofs.Common.{◌≡◌, ◌≢◌, ℕ, ◌<◌, ◌≤◌, ℤ, List, Option, Some, None, Bool, true, false, cond, length, ◌⊎◌, inl, inr, sym, ◌∙◌, ap, subst, refl, arith}
use Rattle.std.specs.Prelude.{slice_set, map}
use Rattle.std.specs.List.{slice_get}
use Rattle.std.proofs.lemmas.Bool.{false≢true}
use Rattle.chi_chan.specs.declared.offers.Offer.{Offer}
use Rattle.chi_chan.specs.declared.offers.Offer.TheVariants.{Send, Receive}
use Rattle.chi_chan.specs.Held.{Offered, held, Updates}
use Rattle.chi_chan.specs.Kept.{offer_in}
use Rattle.chi_order.specs.Dated.{due_of}
use Rattle.chi_order.specs.Marked.{is_marked}
use Rattle.chi_machine_agenda.specs.declared.standing.Standing.{Standing}
use Rattle.chi_machine_agenda.specs.declared.standing.Standing.TheVariants as stands
use Rattle.chi_machine_agenda.specs.Asking.{asks, meets, told_for, is_met, AllWithin}
use Rattle.chi_machine_agenda.specs.Kept.{is_finished, goes, HasRoom, IsJoined, IsKept, IsSeated}
use Rattle.chi_machine_agenda.specs.Meeting.{Comes, Goes, HasSeats, IsRefused}
use Rattle.chi_machine_agenda.specs.Timed.{Awaits, Dates}
use Rattle.chi_machine_agenda.specs.Joined.{AreAhead}
use Rattle.chi_machine_agenda.proofs.Lists.{eq-cases, got-none, got-within, at-set, map-set-same, or-there, or-other, set-length}
use Rattle.chi_machine_agenda.proofs.Telling.{told_for-length, marked-for, met, is-met, all-within}
use Rattle.chi_machine_agenda.proofs.Times.{awaits-none}
use Rattle.chi_machine_agenda.proofs.Going.{may-asks, asks-same, asks-kept, SendsTo}

-- room

pub room-more : (n m : ℕ) (marks marks' : List Bool) (times times' : List (Option ℤ)) (rows rows' : List (List ℕ)) (counts counts' : List ℕ) (watching watching' : List (List ℕ))
    → HasRoom n marks times rows counts watching → m ≡ n → length marks' ≡ length marks → length times' ≡ length times → length rows' ≡ length rows → length counts' ≡ length counts
    → length watching' ≡ length watching → HasRoom m marks' times' rows' counts' watching'
room-more n m marks marks' times times' rows rows' counts counts' watching watching' r e a b c d f = record {
  few = let x = r.few in omega (arith, x, e);
  ready = let x = r.ready in omega (arith, x, e, a);
  dues = let x = r.dues in omega (arith, x, e, b);
  numbers = let x = r.numbers in omega (arith, x, e, c);
  left = let x = r.left in omega (arith, x, e, d);
  watchers = let x = r.watchers in omega (arith, x, e, f);
}

-- there is room for all that send, where one has come or gone
pub seats-within : (p : ℕ) (old new : Offered) (marks : List Bool) (times : List (Option ℤ)) (w : Option (List Offer)) → HasSeats p old marks times → Updates old new p w → AllWithin (length marks) new
seats-within p old new marks times w s u = all-within new (length marks) (λ q os e. by_place q os e (eq-cases q p))
  where
    by_place : (q : ℕ) (os : List Offer) → held new q ≡ Some os → (q ≡ p) ⊎ (q ≢ p) → q < length marks
    by_place q os e (inl z) = let r = s.ready in omega (arith, r, z)
    by_place q os e (inr n) = s.others q os (sym (u.others q n) ∙ e)

-- who waits is seated

pub waits-is : (o : Option Standing) (w : Option (List Offer)) (os : List Offer) → IsSeated o w → w ≡ Some os → o ≡ Some stands.Waiting
waits-is None w os h e = absurd (let z : None ≡ Some os = sym h ∙ e in cc)
waits-is (Some stands.Running) w os h e = absurd (let z : None ≡ Some os = sym h ∙ e in cc)
waits-is (Some stands.Waiting) w os h e = refl
waits-is (Some stands.Joining) w os h e = absurd (let z : None ≡ Some os = sym h ∙ e in cc)
waits-is (Some stands.Finished) w os h e = absurd (let z : None ≡ Some os = sym h ∙ e in cc)

-- whether an instance may go depends on the offers only where it waits with some
pub goes-same : (old new : Offered) (clock : ℤ) (counts : List ℕ) (q : ℕ) (o : Option Standing) → asks old clock q ≡ asks new clock q → goes old clock counts q o ≡ goes new clock counts q o
goes-same old new clock counts q None e = refl
goes-same old new clock counts q (Some stands.Running) e = refl
goes-same old new clock counts q (Some stands.Waiting) e = e
goes-same old new clock counts q (Some stands.Joining) e = refl
goes-same old new clock counts q (Some stands.Finished) e = refl

offer-waits : (w : Option (List Offer)) (a : ℕ) (x : Offer) → offer_in w a ≡ Some x → (os : List Offer) × (w ≡ Some os)
offer-waits None a x e = absurd (cc)
offer-waits (Some os) a x e = (os, refl)

module _ (clock : ℤ) (ss : List Standing) (ended : List Bool) (old : Offered) (marks : List Bool) (times : List (Option ℤ)) (rows : List (List ℕ)) (counts : List ℕ)
    (watching : List (List ℕ)) (is : IsKept clock ss ended old marks times rows counts watching) where
  -- nobody waits past the instances
  none-past : (q : ℕ) → length ss ≤ q → held old q ≡ None
  none-past q h = subst (λ (o : Option Standing). IsSeated o (held old q)) (got-none ss q h) (is.seated q)

  pub waits-within : (q : ℕ) (os : List Offer) → held old q ≡ Some os → q < length ss
  waits-within q os e = by_place (let c : (q < length ss) ⊎ (length ss ≤ q) = grind arith in c)
    where
      by_place : (q < length ss) ⊎ (length ss ≤ q) → q < length ss
      by_place (inl h) = h
      by_place (inr h) = absurd (let z : None ≡ Some os = sym (none-past q h) ∙ e in cc)

  pub kept-seats : (p : ℕ) (s : Standing) → slice_get ss p ≡ Some s → HasSeats p old marks times
  kept-seats p s e =
      let h = got-within ss p s e in
      let room = is.room in
      record {
        few = let r = room.few in omega (arith, h, r);
        ready = let r = room.ready in omega (arith, h, r);
        dues = let r = room.dues in omega (arith, h, r);
        others = λ q os w. let l = waits-within q os w in let r = room.ready in omega (arith, l, r);
      }

  -- one that doesn't wait has no offers
  pub none-held : (p : ℕ) (s : Standing) → slice_get ss p ≡ Some s → IsSeated (Some s) (held old p)
  none-held p s e = subst (λ (o : Option Standing). IsSeated o (held old p)) e (is.seated p)

  -- where all have the same offers
  pub kept-refused : (new : Offered) (marks' : List Bool) (times' : List (Option ℤ)) → IsRefused old marks times new marks' times'
      → IsKept clock ss ended new marks' times' rows counts watching
  kept-refused new marks' times' r = record {
    over = is.over;
    room = room-more (length ss) (length ss) marks marks' times times' rows rows counts counts watching watching is.room refl (ap length r.ready) (ap length r.dues) refl refl refl;
    seated = λ q. subst (IsSeated (slice_get ss q)) (sym (r.waits q)) (is.seated q);
    ready = λ q. ap (λ (m : List Bool). is_marked m q) r.ready ∙ is.ready q ∙ goes-same old new clock counts q (slice_get ss q) (asks-kept old new clock q r.waits);
    due = λ q. subst (Awaits clock (held new q)) (sym (ap (λ (t : List (Option ℤ)). due_of t q) r.dues)) (subst (λ (w : Option (List Offer)). Awaits clock w (due_of times q)) (sym (r.waits q)) (is.due q));
    ahead = is.ahead;
    joined = is.joined;
  }

  module _ (p : ℕ) (s t : Standing) (was : slice_get ss p ≡ Some s) (same_end : is_finished t ≡ is_finished s) where
    within : p < length ss
    within = got-within ss p s was

    pub over-set : ended ≡ map is_finished (slice_set ss p t)
    over-set = is.over ∙ sym (map-set-same is_finished ss p t s was same_end)

    pub ahead-set : AreAhead (length (slice_set ss p t)) rows counts
    ahead-set = subst (λ (n : ℕ). AreAhead n rows counts) (sym (set-length ss p t)) is.ahead

    pub due-set : (new : Offered) (times' : List (Option ℤ)) (w : Option (List Offer)) (d : Option ℤ) → Updates old new p w → Dates times times' p d → Awaits clock w d
        → (q : ℕ) → Awaits clock (held new q) (due_of times' q)
    due-set new times' w d u dates a q = by_place (eq-cases q p)
      where
        by_place : (q ≡ p) ⊎ (q ≢ p) → Awaits clock (held new q) (due_of times' q)
        by_place (inl e) =
            subst (λ (k : ℕ). Awaits clock (held new k) (due_of times' k)) (sym e)
            (subst (λ (x : Option (List Offer)). Awaits clock x (due_of times' p)) (sym u.changed) (subst (Awaits clock w) (sym dates.it) a))
        by_place (inr n) =
            subst (λ (x : Option (List Offer)). Awaits clock x (due_of times' q)) (sym (u.others q n)) (subst (Awaits clock (held old q)) (sym (dates.others q n)) (is.due q))

    pub seated-set : (new : Offered) (w : Option (List Offer)) → Updates old new p w → IsSeated (Some t) w → (q : ℕ) → IsSeated (slice_get (slice_set ss p t) q) (held new q)
    seated-set new w u it = at-set ss p t (λ q o. IsSeated o (held new q)) within (subst (IsSeated (Some t)) (sym u.changed) it)
        (λ q n. subst (IsSeated (slice_get ss q)) (sym (u.others q n)) (is.seated q))

    pub joined-set : IsJoined ended rows counts watching p (Some t) → (q : ℕ) → IsJoined ended rows counts watching q (slice_get (slice_set ss p t) q)
    joined-set it = at-set ss p t (λ q o. IsJoined ended rows counts watching q o) within it (λ q n. is.joined q)

  -- who is told anew

  module _ (p : ℕ) (offers : List Offer) (new : Offered) where
    -- those that send to one that comes may go
    came-others : (marks' : List Bool) → held old p ≡ None → Updates old new p (Some offers) → AllWithin (length marks) new
        → marks' ≡ slice_set (told_for (λ q. true) new offers marks) p (asks new clock p)
        → (q : ℕ) → q ≢ p → is_marked marks' q ≡ goes new clock counts q (slice_get ss q)
    came-others marks' none u all e q n =
        ap (λ (m : List Bool). is_marked m q) e ∙ or-other (told_for (λ q. true) new offers marks) p q (asks new clock p) false n
        ∙ marked-for (λ q. true) new offers marks q all ∙ by_test (is_met new q offers) refl
      where
        by_test : (b : Bool) → is_met new q offers ≡ b → cond (is_met new q offers) true (is_marked marks q) ≡ goes new clock counts q (slice_get ss q)
        by_test true m =
            let f = met new q offers m in
            let w = offer-waits (held new q) f.own (Send f.channel) f.sends in
            let waits : slice_get ss q ≡ Some stands.Waiting = waits-is (slice_get ss q) (held old q) w.0 (is.seated q) (sym (u.others q n) ∙ w.1) in
            ap (λ b. cond b true (is_marked marks q)) m
            ∙ sym (ap (goes new clock counts q) waits
            ∙ may-asks new clock q (meets f.own f.channel p f.place f.sends (λ s. n (sym s)) (ap (λ x. offer_in x f.place) u.changed ∙ f.receives)))
        by_test false m =
            ap (λ b. cond b true (is_marked marks q)) m ∙ is.ready q
            ∙ goes-same old new clock counts q (slice_get ss q) (asks-same old new clock p q u.others n none_old none_new)
          where
            none_old : SendsTo old q (held old p) → ⊥
            none_old x = let r = x.receives in let z : None ≡ Some (Receive x.channel) = sym (ap (λ w. offer_in w x.place) none) ∙ r in cc

            none_new : SendsTo new q (held new p) → ⊥
            none_new x =
                false≢true (sym m ∙ is-met new q offers x.channel x.own x.place x.sends (sym (ap (λ w. offer_in w x.place) u.changed) ∙ x.receives))

    pub kept-came : (marks' : List Bool) (times' : List (Option ℤ)) → slice_get ss p ≡ Some stands.Running → Comes clock p offers old marks times new marks' times'
        → IsKept clock (slice_set ss p stands.Waiting) ended new marks' times' rows counts watching
    kept-came marks' times' runs c =
        let h = got-within ss p stands.Running runs in
        let seats = kept-seats p stands.Running runs in
        let length_told : length (told_for (λ q. true) new offers marks) ≡ length marks = told_for-length (λ q. true) new offers marks in
        record {
          over = over-set p stands.Running stands.Waiting runs refl;
          room = room-more (length ss) (length (slice_set ss p stands.Waiting)) marks marks' times times' rows rows counts counts watching watching is.room (set-length ss p stands.Waiting)
              (ap length c.ready ∙ set-length (told_for (λ q. true) new offers marks) p (asks new clock p) ∙ length_told) c.due.2.room refl refl refl;
          seated = seated-set p stands.Running stands.Waiting runs refl new (Some offers) c.waits refl;
          ready = at-set ss p stands.Waiting (λ q o. is_marked marks' q ≡ goes new clock counts q o) h
              (ap (λ (m : List Bool). is_marked m p) c.ready
              ∙ or-there (told_for (λ q. true) new offers marks) p (asks new clock p) false (let r = seats.ready in omega (arith, r, length_told)))
              (came-others marks' (none-held p stands.Running runs) c.waits (seats-within p old new marks times _ seats c.waits) c.ready);
          due = due-set p stands.Running stands.Waiting runs refl new times' (Some offers) c.due.0 c.waits c.due.2 c.due.1;
          ahead = ahead-set p stands.Running stands.Waiting runs refl;
          joined = joined-set p stands.Running stands.Waiting runs refl (subst (IsJoined ended rows counts watching p) runs (is.joined p));
        }

    -- those that sent to one that goes are asked again
    went-others : (marks' : List Bool) → held old p ≡ Some offers → Updates old new p None → AllWithin (length marks) new
        → marks' ≡ slice_set (told_for (asks new clock) new offers marks) p true
        → (q : ℕ) → q ≢ p → is_marked marks' q ≡ goes new clock counts q (slice_get ss q)
    went-others marks' some u all e q n =
        ap (λ (m : List Bool). is_marked m q) e ∙ or-other (told_for (asks new clock) new offers marks) p q true false n
        ∙ marked-for (asks new clock) new offers marks q all ∙ by_test (is_met new q offers) refl
      where
        by_test : (b : Bool) → is_met new q offers ≡ b → cond (is_met new q offers) (asks new clock q) (is_marked marks q) ≡ goes new clock counts q (slice_get ss q)
        by_test true m =
            let f = met new q offers m in
            let w = offer-waits (held new q) f.own (Send f.channel) f.sends in
            let waits : slice_get ss q ≡ Some stands.Waiting = waits-is (slice_get ss q) (held old q) w.0 (is.seated q) (sym (u.others q n) ∙ w.1) in
            ap (λ b. cond b (asks new clock q) (is_marked marks q)) m ∙ sym (ap (goes new clock counts q) waits)
        by_test false m =
            ap (λ b. cond b (asks new clock q) (is_marked marks q)) m ∙ is.ready q
            ∙ goes-same old new clock counts q (slice_get ss q) (asks-same old new clock p q u.others n none_old none_new)
          where
            none_old : SendsTo old q (held old p) → ⊥
            none_old x =
                false≢true (sym m ∙ is-met new q offers x.channel x.own x.place (ap (λ w. offer_in w x.own) (u.others q n) ∙ x.sends) (sym (ap (λ w. offer_in w x.place) some) ∙ x.receives))

            none_new : SendsTo new q (held new p) → ⊥
            none_new x = let r = x.receives in let z : None ≡ Some (Receive x.channel) = sym (ap (λ w. offer_in w x.place) u.changed) ∙ r in cc

    pub kept-went : (marks' : List Bool) (times' : List (Option ℤ)) → slice_get ss p ≡ Some stands.Waiting → held old p ≡ Some offers → Goes clock p offers old marks times new marks' times'
        → IsKept clock (slice_set ss p stands.Running) ended new marks' times' rows counts watching
    kept-went marks' times' waits some c =
        let h = got-within ss p stands.Waiting waits in
        let seats = kept-seats p stands.Waiting waits in
        let length_told : length (told_for (asks new clock) new offers marks) ≡ length marks = told_for-length (asks new clock) new offers marks in
        record {
          over = over-set p stands.Waiting stands.Running waits refl;
          room = room-more (length ss) (length (slice_set ss p stands.Running)) marks marks' times times' rows rows counts counts watching watching is.room (set-length ss p stands.Running)
              (ap length c.ready ∙ set-length (told_for (asks new clock) new offers marks) p true ∙ length_told) c.due.room refl refl refl;
          seated = seated-set p stands.Waiting stands.Running waits refl new None c.waits refl;
          ready = at-set ss p stands.Running (λ q o. is_marked marks' q ≡ goes new clock counts q o) h
              (ap (λ (m : List Bool). is_marked m p) c.ready
              ∙ or-there (told_for (asks new clock) new offers marks) p true false (let r = seats.ready in omega (arith, r, length_told)))
              (went-others marks' some c.waits (seats-within p old new marks times _ seats c.waits) c.ready);
          due = due-set p stands.Waiting stands.Running waits refl new times' None None c.waits c.due (awaits-none clock None refl);
          ahead = ahead-set p stands.Waiting stands.Running waits refl;
          joined = joined-set p stands.Waiting stands.Running waits refl (subst (IsJoined ended rows counts watching p) waits (is.joined p));
        }
