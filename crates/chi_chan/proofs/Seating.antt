-- Instances take seats and rise from them.
use Rattle.std.proofs.Common.{◌≡◌, ◌≢◌, ℕ, zero, suc, ◌+◌, ◌<◌, ◌≤◌, List, [], ◌∷◌, ◌++◌, Option, None, Some, Bool, true, false, cond, length, get_or, ◌⊎◌, inl, inr, sym, ◌∙◌, ap, subst, refl, arith, length-append}
use Rattle.std.specs.Prelude.{map, slice_set, IsSome}
use Rattle.std.proofs.lemmas.List.{get_or-set_same, get_or-set_other}
use Rattle.std.proofs.Math.ListN.{length-set}
use Rattle.chi_chan.specs.declared.offers.Offer.{Offer}
use Rattle.chi_chan.specs.declared.seats.Seat.{Seat}
use Rattle.chi_chan.specs.Held.{held, SameOffers, Updates}
use Rattle.chi_chan.specs.Seated.{seated, seen, seat, nobody, key_of, Seated}

-- what is seen

held-map : (f : Seat → Option (List Offer)) (seats : List Seat) (q : ℕ) → q < length seats → held (map f seats) q ≡ f (get_or seats q nobody)
held-map f [] q h = absurd (omega (arith, h))
held-map f (s ∷ ss) zero h = refl
held-map f (s ∷ ss) (suc q) h = held-map f ss q (omega (arith, h))

held-past : (f : Seat → Option (List Offer)) (seats : List Seat) (q : ℕ) → length seats ≤ q → held (map f seats) q ≡ None
held-past f [] q h = refl
held-past f (s ∷ ss) zero h = absurd (omega (arith, h))
held-past f (s ∷ ss) (suc q) h = held-past f ss q (omega (arith, h))

seat-past : (seats : List Seat) (q : ℕ) → length seats ≤ q → get_or seats q nobody ≡ nobody
seat-past [] q h = refl
seat-past (s ∷ ss) zero h = absurd (omega (arith, h))
seat-past (s ∷ ss) (suc q) h = seat-past ss q (omega (arith, h))

pub held-seen : (slots : List (Option (List Offer))) (seats : List Seat) (q : ℕ) → held (seen slots seats) q ≡ seated slots (get_or seats q nobody)
unfolding seen
held-seen slots seats q = by_room (let z : (q < length seats) ⊎ (length seats ≤ q) = grind arith in z)
  where
    by_room : (q < length seats) ⊎ (length seats ≤ q) → held (map (seated slots) seats) q ≡ seated slots (get_or seats q nobody)
    by_room (inl h) = held-map (seated slots) seats q h
    by_room (inr p) = held-past (seated slots) seats q p ∙ sym (ap (seated slots) (seat-past seats q p))

pub length-seen : (slots : List (Option (List Offer))) (seats : List Seat) → length (seen slots seats) ≡ length seats
unfolding seen
length-seen slots [] = refl
length-seen slots (s ∷ ss) = let e = length-seen slots ss in omega (arith, e)

pub nobody-seen : (slots : List (Option (List Offer))) (seats : List Seat) → seats ≡ [] → seen slots seats ≡ []
unfolding seen
nobody-seen slots seats e = ap (map (seated slots)) e

module _ (slots slots' : List (Option (List Offer))) (seats : List Seat) (is : Seated slots seats) where
  -- other slots change
  pub other-slots : (key : ℕ) → ((k : ℕ) → k ≢ key → get_or slots' k None ≡ get_or slots k None) → ((q : ℕ) → q < length seats → key_of seats q ≢ key)
      → SameOffers (seen slots seats) (seen slots' seats)
  other-slots key others apart q =
      held-seen slots' seats q ∙ by_room (let z : (q < length seats) ⊎ (length seats ≤ q) = grind arith in z) ∙ sym (held-seen slots seats q)
    where
      by_room : (q < length seats) ⊎ (length seats ≤ q) → seated slots' (get_or seats q nobody) ≡ seated slots (get_or seats q nobody)
      by_room (inl h) = ap (λ (o : Option (List Offer)). cond (get_or seats q nobody).waits o None) (others (key_of seats q) (apart q h))
      by_room (inr p) = ap (seated slots') (seat-past seats q p) ∙ sym (ap (seated slots) (seat-past seats q p))

  not-waiting : (pid : ℕ) → pid < length seats → held (seen slots seats) pid ≡ None → (get_or seats pid nobody).waits ≡ false
  not-waiting pid h none = by_bool (get_or seats pid nobody).waits refl
    where
      none_there : IsSome (get_or slots (key_of seats pid) None) → get_or slots (key_of seats pid) None ≡ None → ⊥
      none_there s e = let z : false ≡ true = subst IsSome e s in cc

      by_bool : (b : Bool) → (get_or seats pid nobody).waits ≡ b → (get_or seats pid nobody).waits ≡ false
      by_bool false e = e
      by_bool true e =
          absurd (none_there (is.some pid h)
          (sym (ap (λ (b : Bool). cond b (get_or slots (key_of seats pid) None) None) e) ∙ sym (held-seen slots seats pid) ∙ none))

  -- the slot of an instance that doesn't wait is filled
  pub filled : (pid : ℕ) → pid < length seats → held (seen slots seats) pid ≡ None → ((k : ℕ) → k ≢ key_of seats pid → get_or slots' k None ≡ get_or slots k None)
      → IsSome (get_or slots' (key_of seats pid) None) → Seated slots' seats × SameOffers (seen slots seats) (seen slots' seats)
  filled pid h none others some = (
    record {
      few = is.few;
      some = λ q g. by_key q g (let z : (key_of seats q ≡ key_of seats pid) ⊎ (key_of seats q ≢ key_of seats pid) = grind arith in z);
      own = is.own;
    },
    λ q. held-seen slots' seats q ∙ by_pid q (let z : (q ≡ pid) ⊎ (q ≢ pid) = grind arith in z) ∙ sym (held-seen slots seats q),
  )
    where
      by_key : (q : ℕ) → q < length seats → (key_of seats q ≡ key_of seats pid) ⊎ (key_of seats q ≢ key_of seats pid) → IsSome (get_or slots' (key_of seats q) None)
      by_key q g (inl e) = subst (λ (k : ℕ). IsSome (get_or slots' k None)) (sym e) some
      by_key q g (inr z) = subst IsSome (sym (others (key_of seats q) z)) (is.some q g)

      Same : ℕ → Type 0
      Same q = seated slots' (get_or seats q nobody) ≡ seated slots (get_or seats q nobody)

      by_room : (q : ℕ) → q ≢ pid → (q < length seats) ⊎ (length seats ≤ q) → Same q
      by_room q z (inl g) =
          ap (λ (o : Option (List Offer)). cond (get_or seats q nobody).waits o None) (others (key_of seats q) (λ e. z (is.own q pid g h e)))
      by_room q z (inr p) = ap (seated slots') (seat-past seats q p) ∙ sym (ap (seated slots) (seat-past seats q p))

      by_pid : (q : ℕ) → (q ≡ pid) ⊎ (q ≢ pid) → Same q
      by_pid q (inl e) =
          subst Same (sym e)
          (ap (λ (b : Bool). cond b (get_or slots' (key_of seats pid) None) None) (not-waiting pid h none)
          ∙ sym (ap (λ (b : Bool). cond b (get_or slots (key_of seats pid) None) None) (not-waiting pid h none)))
      by_pid q (inr z) = by_room q z (let c : (q < length seats) ⊎ (length seats ≤ q) = grind arith in c)

  -- an instance sits down, or rises
  pub sits : (pid key : ℕ) (waits : Bool) → pid < length seats → key ≡ key_of seats pid
      → Seated slots (slice_set seats pid (seat key waits)) × Updates (seen slots seats) (seen slots (slice_set seats pid (seat key waits))) pid (cond waits (get_or slots key None) None)
  sits pid key waits h e = (
    record {
      few = let f = is.few in let l = length-set seats pid (seat key waits) in omega (arith, f, l);
      some = λ q g. subst (λ (k : ℕ). IsSome (get_or slots k None)) (sym (same-key q)) (is.some q (let l = length-set seats pid (seat key waits) in omega (arith, l, g)));
      own = λ q r g f s.
          let l = length-set seats pid (seat key waits) in
          is.own q r (omega (arith, l, g)) (omega (arith, l, f)) (sym (same-key q) ∙ s ∙ same-key r);
    },
    record {
      changed = held-seen slots new pid ∙ ap (seated slots) (get_or-set_same seats pid (seat key waits) nobody h);
      others = λ q z. held-seen slots new q ∙ ap (seated slots) (get_or-set_other seats pid q (seat key waits) nobody z) ∙ sym (held-seen slots seats q);
    },
  )
    where
      new : List Seat
      new = slice_set seats pid (seat key waits)

      by_pid : (q : ℕ) → (q ≡ pid) ⊎ (q ≢ pid) → key_of new q ≡ key_of seats q
      by_pid q (inl s) =
          ap (λ (n : ℕ). key_of new n) s ∙ ap (λ (x : Seat). x.key) (get_or-set_same seats pid (seat key waits) nobody h) ∙ e ∙ ap (key_of seats) (sym s)
      by_pid q (inr z) = ap (λ (x : Seat). x.key) (get_or-set_other seats pid q (seat key waits) nobody z)

      same-key : (q : ℕ) → key_of new q ≡ key_of seats q
      same-key q = by_pid q (let z : (q ≡ pid) ⊎ (q ≢ pid) = grind arith in z)

-- one seat more

seat-front : (seats : List Seat) (s : Seat) (q : ℕ) → q < length seats → get_or (seats ++ s ∷ []) q nobody ≡ get_or seats q nobody
seat-front [] s q h = absurd (omega (arith, h))
seat-front (x ∷ xs) s zero h = refl
seat-front (x ∷ xs) s (suc q) h = seat-front xs s q (omega (arith, h))

seat-last : (seats : List Seat) (s : Seat) → get_or (seats ++ s ∷ []) (length seats) nobody ≡ s
seat-last [] s = refl
seat-last (x ∷ xs) s = seat-last xs s

pub seat-more : (slots slots' : List (Option (List Offer))) (seats seats' : List Seat) (key : ℕ) (w : List Offer) → Seated slots seats → length seats < 100000
    → get_or slots key None ≡ None → get_or slots' key None ≡ Some w → ((k : ℕ) → k ≢ key → get_or slots' k None ≡ get_or slots k None)
    → seats' ≡ seats ++ seat key false ∷ [] → Seated slots' seats' × SameOffers (seen slots seats) (seen slots' seats')
seat-more slots slots' seats seats' key w is room vacant set others e =
    (subst (Seated slots') (sym e) all, subst (λ (ss : List Seat). SameOffers (seen slots seats) (seen slots' ss)) (sym e) same)
  where
    new : List Seat
    new = seats ++ seat key false ∷ []

    count : length new ≡ length seats + 1
    count = length-append seats (seat key false ∷ [])

    apart : (q : ℕ) → q < length seats → key_of seats q ≢ key
    apart q h s = let z : false ≡ true = subst IsSome (ap (λ (k : ℕ). get_or slots k None) s ∙ vacant) (is.some q h) in cc

    by_last : (q : ℕ) → q < length new → (q < length seats) ⊎ (q ≡ length seats)
    by_last q h = let c = count in let z : (q < length seats) ⊎ (q ≡ length seats) = grind arith in z

    last-key : (q : ℕ) → q ≡ length seats → key_of new q ≡ key
    last-key q s = ap (key_of new) s ∙ ap (λ (x : Seat). x.key) (seat-last seats (seat key false))

    front-key : (q : ℕ) → q < length seats → key_of new q ≡ key_of seats q
    front-key q h = ap (λ (x : Seat). x.key) (seat-front seats (seat key false) q h)

    some : (q : ℕ) → (q < length seats) ⊎ (q ≡ length seats) → IsSome (get_or slots' (key_of new q) None)
    some q (inl h) =
        subst (λ (k : ℕ). IsSome (get_or slots' k None)) (sym (front-key q h)) (subst IsSome (sym (others (key_of seats q) (apart q h))) (is.some q h))
    some q (inr s) = subst (λ (k : ℕ). IsSome (get_or slots' k None)) (sym (last-key q s)) (subst IsSome (sym set) refl)

    own : (q r : ℕ) → (q < length seats) ⊎ (q ≡ length seats) → (r < length seats) ⊎ (r ≡ length seats) → key_of new q ≡ key_of new r → q ≡ r
    own q r (inl h) (inl g) s = is.own q r h g (sym (front-key q h) ∙ s ∙ front-key r g)
    own q r (inl h) (inr g) s = absurd (apart q h (sym (front-key q h) ∙ s ∙ last-key r g))
    own q r (inr h) (inl g) s = absurd (apart r g (sym (front-key r g) ∙ sym s ∙ last-key q h))
    own q r (inr h) (inr g) s = h ∙ sym g

    all : Seated slots' new
    all = record {
      few = let c = count in omega (arith, c, room);
      some = λ q h. some q (by_last q h);
      own = λ q r h g s. own q r (by_last q h) (by_last r g) s;
    }

    Same : ℕ → Type 0
    Same q = seated slots' (get_or new q nobody) ≡ seated slots (get_or seats q nobody)

    by_room : (q : ℕ) → (q < length seats) ⊎ ((q ≡ length seats) ⊎ (length new ≤ q)) → Same q
    by_room q (inl h) =
        ap (seated slots') (seat-front seats (seat key false) q h)
        ∙ ap (λ (o : Option (List Offer)). cond (get_or seats q nobody).waits o None) (others (key_of seats q) (apart q h))
    by_room q (inr (inl s)) =
        ap (λ (n : ℕ). seated slots' (get_or new n nobody)) s ∙ ap (seated slots') (seat-last seats (seat key false))
        ∙ sym (ap (seated slots) (seat-past seats q (omega (arith, s))))
    by_room q (inr (inr p)) =
        ap (seated slots') (seat-past new q p) ∙ sym (ap (seated slots) (seat-past seats q (let c = count in omega (arith, c, p))))

    same : SameOffers (seen slots seats) (seen slots' new)
    same q =
        held-seen slots' new q
        ∙ by_room q (let c = count in let z : (q < length seats) ⊎ ((q ≡ length seats) ⊎ (length new ≤ q)) = grind arith in z)
        ∙ sym (held-seen slots seats q)

module _ (slots : List (Option (List Offer))) (seats : List Seat) (is : Seated slots seats) where
  pub seats-few : length (seen slots seats) ≤ 100000
  seats-few = let l = length-seen slots seats in let f = is.few in omega (arith, l, f)

  module _ (pid : ℕ) (s : Seat) (its : s ≡ get_or seats pid nobody) where
    pub waits-not : s.waits ≡ false → held (seen slots seats) pid ≡ None
    waits-not e =
        held-seen slots seats pid ∙ ap (seated slots) (sym its) ∙ ap (λ (b : Bool). cond b (get_or slots s.key None) None) e

    pub waits-offers : s.waits ≡ true → held (seen slots seats) pid ≡ get_or slots s.key None
    waits-offers e =
        held-seen slots seats pid ∙ ap (seated slots) (sym its) ∙ ap (λ (b : Bool). cond b (get_or slots s.key None) None) e

    pub waits-seat : s.waits ≡ true → pid < length seats
    waits-seat e = by_room (let z : (pid < length seats) ⊎ (length seats ≤ pid) = grind arith in z)
      where
        by_room : (pid < length seats) ⊎ (length seats ≤ pid) → pid < length seats
        by_room (inl h) = h
        by_room (inr p) = absurd (let z : true ≡ false = sym e ∙ ap (λ (x : Seat). x.waits) (its ∙ seat-past seats pid p) in cc)

    pub seat-key : s.key ≡ key_of seats pid
    seat-key = ap (λ (x : Seat). x.key) its

    pub seat-some : pid < length seats → IsSome (get_or slots s.key None)
    seat-some h = subst (λ (k : ℕ). IsSome (get_or slots k None)) (sym seat-key) (is.some pid h)

    pub waits-some : pid < length seats → get_or slots s.key None ≡ None → ⊥
    waits-some h e = let z : false ≡ true = subst IsSome e (seat-some h) in cc

  -- who waits has a seat
  pub has-seat : (pid : ℕ) → IsSome (held (seen slots seats) pid) → pid < length seats
  has-seat pid some = by_room (let z : (pid < length seats) ⊎ (length seats ≤ pid) = grind arith in z)
    where
      by_room : (pid < length seats) ⊎ (length seats ≤ pid) → pid < length seats
      by_room (inl h) = h
      by_room (inr p) =
          absurd (let z : false ≡ true = subst IsSome (held-seen slots seats pid ∙ ap (seated slots) (seat-past seats pid p)) some in cc)

pub no-seats : (slots : List (Option (List Offer))) (seats : List Seat) → seats ≡ [] → Seated slots seats
no-seats slots seats e =
    let n : length seats ≡ 0 = ap length e in
    record {
      few = omega (arith, n);
      some = λ q h. absurd (omega (arith, n, h));
      own = λ q r h k s. absurd (omega (arith, n, h));
    }

-- an instance that has a seat waits with these offers, or doesn't any more

module _ (slots slots' : List (Option (List Offer))) (seats seats' : List Seat) (is : Seated slots seats) (pid key : ℕ) (h : pid < length seats) (its : key ≡ key_of seats pid)
    (others : (k : ℕ) → k ≢ key → get_or slots' k None ≡ get_or slots k None) where
  pub same-seats : held (seen slots seats) pid ≡ None → IsSome (get_or slots' key None) → Seated slots' seats × SameOffers (seen slots seats) (seen slots' seats)
  same-seats none some =
      filled slots slots' seats is pid h none (λ k z. others k (λ e. z (e ∙ its))) (subst (λ (k : ℕ). IsSome (get_or slots' k None)) its some)

  pub takes : (offers : List Offer) → held (seen slots seats) pid ≡ None → get_or slots' key None ≡ Some offers → seats' ≡ slice_set seats pid (seat key true)
      → Seated slots' seats' × Updates (seen slots seats) (seen slots' seats') pid (Some offers)
  takes offers none set e =
      let f = same-seats none (subst IsSome (sym set) refl) in
      let t = sits slots' slots' seats f.0 pid key true h its in
      let u : Updates (seen slots seats) (seen slots' (slice_set seats pid (seat key true))) pid (Some offers)
      = record { changed = t.1.changed ∙ set; others = λ q z. t.1.others q z ∙ f.1 q } in
      (subst (Seated slots') (sym e) t.0, subst (λ (ss : List Seat). Updates (seen slots seats) (seen slots' ss) pid (Some offers)) (sym e) u)

  pub rises : IsSome (get_or slots' key None) → seats' ≡ slice_set seats pid (seat key false)
      → Seated slots' seats' × Updates (seen slots seats) (seen slots' seats') pid None
  rises some e =
      let t = sits slots slots seats is pid key false h its in
      let room = length-set seats pid (seat key false) in
      let here : key_of (slice_set seats pid (seat key false)) pid ≡ key = ap (λ (x : Seat). x.key) (get_or-set_same seats pid (seat key false) nobody h) in
      let f = filled slots slots' (slice_set seats pid (seat key false)) t.0 pid (omega (arith, room, h)) t.1.changed
      (λ k z. others k (λ e. z (e ∙ sym here))) (subst (λ (k : ℕ). IsSome (get_or slots' k None)) (sym here) some) in
      let u : Updates (seen slots seats) (seen slots' (slice_set seats pid (seat key false))) pid None
      = record { changed = f.1 pid ∙ t.1.changed; others = λ q z. f.1 q ∙ t.1.others q z } in
      (subst (Seated slots') (sym e) f.0, subst (λ (ss : List Seat). Updates (seen slots seats) (seen slots' ss) pid None) (sym e) u)
