-- Marks of those that are told anew.
use Rattle.std.proofs.Common.{◌≡◌, ◌≢◌, ℕ, zero, suc, ◌+◌, ◌<◌, ◌≤◌, List, [], ◌∷◌, Option, Some, None, Bool, true, false, cond, length, get_or, drop, ◌⊎◌, inl, inr, sym, ◌∙◌, ap, subst, refl, arith}
use Rattle.std.specs.Prelude.{nat_eq, slice_set, ◌||◌}
use Rattle.std.specs.List.{slice_get}
use Rattle.std.proofs.lemmas.Bool.{false≢true}
use Rattle.chi_chan.specs.declared.offers.Offer.{Offer}
use Rattle.chi_chan.specs.declared.offers.Offer.TheVariants.{Send, Receive, Delay}
use Rattle.chi_chan.specs.declared.offers.Party.{Party}
use Rattle.chi_chan.specs.Held.{Offered, held, party, sends_on, senders_on}
use Rattle.chi_chan.specs.Kept.{offer_in}
use Rattle.chi_chan.specs.Lined.{Has}
use Rattle.chi_chan.proofs.Scanning.{from-has, from-there, sends-is}
use Rattle.chi_order.specs.Marked.{is_marked}
use Rattle.chi_machine_agenda.specs.Asking.{told_all, told_by, told_for, is_among, is_met_by, is_met, AreWithin, AllWithin}
use Rattle.chi_machine_agenda.proofs.Lists.{eq-cases, eq-yes, eq-no, eq-is, or-there, or-other, set-length, drop-step, drop-end}

module _ (told : ℕ → Bool) where
  pub told_all-length : (ps : List Party) (marks : List Bool) → length (told_all told ps marks) ≡ length marks
  told_all-length [] marks = refl
  told_all-length (x ∷ xs) marks = told_all-length xs (slice_set marks x.pid (told x.pid)) ∙ set-length marks x.pid (told x.pid)

  pub told_all-step : (ps : List Party) (i : ℕ) (d : Party) (marks : List Bool) → i < length ps
      → told_all told (drop i ps) marks ≡ told_all told (drop (i + 1) ps) (slice_set marks (get_or ps i d).pid (told (get_or ps i d).pid))
  told_all-step ps i d marks h = ap (λ l. told_all told l marks) (drop-step ps i d h)

  pub told_all-end : (ps : List Party) (i : ℕ) (marks : List Bool) → length ps ≤ i → told_all told (drop i ps) marks ≡ marks
  told_all-end ps i marks h = ap (λ l. told_all told l marks) (drop-end ps i h)

  pub marked-all : (ps : List Party) (marks : List Bool) (q : ℕ) → AreWithin (length marks) ps
      → is_marked (told_all told ps marks) q ≡ cond (is_among q ps) (told q) (is_marked marks q)
  marked-all [] marks q within = refl
  marked-all (x ∷ xs) marks q within = marked-all xs (slice_set marks x.pid (told x.pid)) q rest ∙ by_first (eq-cases x.pid q)
    where
      rest : AreWithin (length (slice_set marks x.pid (told x.pid))) xs
      rest k y e = subst (λ (n : ℕ). y.pid < n) (sym (set-length marks x.pid (told x.pid))) (within (suc k) y e)

      its : Bool → Bool
      its b = cond (b || is_among q xs) (told q) (is_marked marks q)

      either : (b : Bool) → cond b (told q) (told q) ≡ told q
      either true = refl
      either false = refl

      by_first : (x.pid ≡ q) ⊎ (x.pid ≢ q)
          → cond (is_among q xs) (told q) (is_marked (slice_set marks x.pid (told x.pid)) q) ≡ cond (nat_eq x.pid q || is_among q xs) (told q) (is_marked marks q)
      by_first (inl e) =
          let set : is_marked (slice_set marks x.pid (told x.pid)) q ≡ told q =
          subst (λ (n : ℕ). is_marked (slice_set marks x.pid (told x.pid)) n ≡ told n) e (or-there marks x.pid (told x.pid) false (within 0 x refl)) in
          ap (λ b. cond (is_among q xs) (told q) b) set ∙ either (is_among q xs) ∙ sym (ap its (eq-yes x.pid q e))
      by_first (inr n) =
          ap (λ b. cond (is_among q xs) (told q) b) (or-other marks x.pid q (told x.pid) false (λ e. n (sym e))) ∙ sym (ap its (eq-no x.pid q n))

  module _ (offered : Offered) where
    pub told_by-length : (o : Offer) (marks : List Bool) → length (told_by told offered o marks) ≡ length marks
    told_by-length (Send c) marks = refl
    told_by-length (Receive c) marks = told_all-length (senders_on offered c) marks
    told_by-length (Delay t) marks = refl

    pub told_for-length : (os : List Offer) (marks : List Bool) → length (told_for told offered os marks) ≡ length marks
    told_for-length [] marks = refl
    told_for-length (o ∷ os) marks = told_for-length os (told_by told offered o marks) ∙ told_by-length o marks

    pub told_for-step : (os : List Offer) (i : ℕ) (d : Offer) (marks : List Bool) → i < length os
        → told_for told offered (drop i os) marks ≡ told_for told offered (drop (i + 1) os) (told_by told offered (get_or os i d) marks)
    told_for-step os i d marks h = ap (λ l. told_for told offered l marks) (drop-step os i d h)

    pub told_for-end : (os : List Offer) (i : ℕ) (marks : List Bool) → length os ≤ i → told_for told offered (drop i os) marks ≡ marks
    told_for-end os i marks h = ap (λ l. told_for told offered l marks) (drop-end os i h)

    marked-by : (o : Offer) (marks : List Bool) (q : ℕ) → AllWithin (length marks) offered
        → is_marked (told_by told offered o marks) q ≡ cond (is_met_by offered q o) (told q) (is_marked marks q)
    marked-by (Send c) marks q within = refl
    marked-by (Receive c) marks q within = marked-all (senders_on offered c) marks q (within c)
    marked-by (Delay t) marks q within = refl

    pub marked-for : (os : List Offer) (marks : List Bool) (q : ℕ) → AllWithin (length marks) offered
        → is_marked (told_for told offered os marks) q ≡ cond (is_met offered q os) (told q) (is_marked marks q)
    marked-for [] marks q within = refl
    marked-for (o ∷ os) marks q within =
        marked-for os (told_by told offered o marks) q (subst (λ (n : ℕ). AllWithin n offered) (sym (told_by-length o marks)) within)
        ∙ ap (λ b. cond (is_met offered q os) (told q) b) (marked-by o marks q within) ∙ joined (is_met_by offered q o) (is_met offered q os)
      where
        joined : (a b : Bool) → cond b (told q) (cond a (told q) (is_marked marks q)) ≡ cond (a || b) (told q) (is_marked marks q)
        joined true true = refl
        joined true false = refl
        joined false true = refl
        joined false false = refl

-- who sends

among-has : (q : ℕ) (ps : List Party) → is_among q ps ≡ true → (x : Party) × Has ps x × (x.pid ≡ q)
among-has q [] e = absurd (false≢true e)
among-has q (x ∷ xs) e = by_test (nat_eq x.pid q) refl e (among-has q xs)
  where
    by_test : (b : Bool) → nat_eq x.pid q ≡ b → (b || is_among q xs) ≡ true → (is_among q xs ≡ true → (y : Party) × Has xs y × (y.pid ≡ q))
        → (y : Party) × Has (x ∷ xs) y × (y.pid ≡ q)
    by_test true is h rest = (x, inl refl, eq-is x.pid q is)
    by_test false is h rest = let r = rest h in (r.0, inr r.1, r.2)

has-among : (ps : List Party) (x : Party) → Has ps x → is_among x.pid ps ≡ true
has-among [] x h = absurd h
has-among (y ∷ ys) x (inl e) = ap (λ b. b || is_among x.pid ys) (eq-yes y.pid x.pid (ap (λ (z : Party). z.pid) e))
has-among (y ∷ ys) x (inr h) = ap (λ b. nat_eq y.pid x.pid || b) (has-among ys x h) ∙ any (nat_eq y.pid x.pid)
  where
    any : (b : Bool) → (b || true) ≡ true
    any true = refl
    any false = refl

pub among-sender : (offered : Offered) (q c : ℕ) → is_among q (senders_on offered c) ≡ true → (a : ℕ) × (offer_in (held offered q) a ≡ Some (Send c))
unfolding senders_on
among-sender offered q c e =
    let h = among-has q (senders_on offered c) e in
    let f = from-has (sends_on c) 0 offered h.0 h.1 in
    let its : f.1 ≡ Send c = sends-is c f.1 f.4 in
    let place : f.0 ≡ q = (let w = f.2 in let v = h.2 in omega (arith, w, v)) in
    (h.0.alternative, (subst (λ (k : ℕ). offer_in (held offered k) h.0.alternative ≡ Some (Send c)) place (f.3 ∙ ap Some its)))

pub sender-among : (offered : Offered) (q c a : ℕ) → offer_in (held offered q) a ≡ Some (Send c) → is_among q (senders_on offered c) ≡ true
unfolding senders_on
sender-among offered q c a e =
    let place : 0 + q ≡ q = omega arith in
    subst (λ (k : ℕ). is_among k (senders_on offered c) ≡ true) place
    (has-among (senders_on offered c) (party (0 + q) a) (from-there (sends_on c) 0 offered q a (Send c) e (eq-yes c c refl)))

-- who is met

pub record Met (offered : Offered) (q : ℕ) (os : List Offer) : Type 0 where
  pub channel : ℕ
  pub own : ℕ
  pub place : ℕ
  pub sends : offer_in (held offered q) own ≡ Some (Send channel)
  pub receives : slice_get os place ≡ Some (Receive channel)

pub met : (offered : Offered) (q : ℕ) (os : List Offer) → is_met offered q os ≡ true → Met offered q os
met offered q [] e = absurd (false≢true e)
met offered q (o ∷ os) e = by_test (is_met_by offered q o) refl e (met offered q os)
  where
    here : (o : Offer) → is_met_by offered q o ≡ true → Met offered q (o ∷ os)
    here (Send c) h = absurd (false≢true h)
    here (Receive c) h = let s = among-sender offered q c h in record { channel = c; own = s.0; place = 0; sends = s.1; receives = refl }
    here (Delay t) h = absurd (false≢true h)

    by_test : (b : Bool) → is_met_by offered q o ≡ b → (b || is_met offered q os) ≡ true → (is_met offered q os ≡ true → Met offered q os) → Met offered q (o ∷ os)
    by_test true is h rest = here o is
    by_test false is h rest = let m = rest h in record { channel = m.channel; own = m.own; place = suc m.place; sends = m.sends; receives = m.receives }

pub is-met : (offered : Offered) (q : ℕ) (os : List Offer) (c a b : ℕ) → offer_in (held offered q) a ≡ Some (Send c) → slice_get os b ≡ Some (Receive c) → is_met offered q os ≡ true
is-met offered q [] c a b s r = absurd (cc)
is-met offered q (o ∷ os) c a zero s r =
    let its : o ≡ Receive c = cc in
    ap (λ x. is_met_by offered q x || is_met offered q os) its ∙ ap (λ x. x || is_met offered q os) (sender-among offered q c a s)
is-met offered q (o ∷ os) c a (suc b) s r = ap (λ x. is_met_by offered q o || x) (is-met offered q os c a b s r) ∙ any (is_met_by offered q o)
  where
    any : (x : Bool) → (x || true) ≡ true
    any true = refl
    any false = refl

-- there is room for all senders where there is for all that wait

has-at : (ps : List Party) (k : ℕ) (x : Party) → slice_get ps k ≡ Some x → Has ps x
has-at [] k x e = absurd (cc)
has-at (y ∷ ys) zero x e = inl (cc)
has-at (y ∷ ys) (suc k) x e = inr (has-at ys k x e)

pub all-within : (offered : Offered) (room : ℕ) → ((q : ℕ) (os : List Offer) → held offered q ≡ Some os → q < room) → AllWithin room offered
unfolding senders_on
all-within offered room h c k x e =
    let f = from-has (sends_on c) 0 offered x (has-at (senders_on offered c) k x e) in
    let place = f.2 in
    let its : f.0 < room = by_offers f.0 (held offered f.0) refl x.alternative f.1 f.3 in
    omega (arith, place, its)
  where
    by_offers : (q : ℕ) (w : Option (List Offer)) → held offered q ≡ w → (a : ℕ) (o : Offer) → offer_in w a ≡ Some o → q < room
    by_offers q None is a o e' = absurd (cc)
    by_offers q (Some os) is a o e' = h q os is
