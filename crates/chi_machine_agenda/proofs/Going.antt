-- Why an instance that waits has an option, and how that changes as others come and go.
use Rattle.std.proofs.Common.{◌≡◌, ◌≢◌, ℕ, zero, suc, ◌+◌, ℤ, List, [], ◌∷◌, Option, Some, None, Bool, true, false, cond, ◌⊎◌, inl, inr, sym, ◌∙◌, ap, subst, refl, arith}
use Rattle.std.specs.Prelude.{nat_eq, int_lt, map}
use Rattle.std.specs.List.{slice_get}
use Rattle.std.proofs.lemmas.Bool.{false≢true}
use Rattle.chi_chan.specs.declared.offers.Offer.{Offer}
use Rattle.chi_chan.specs.declared.offers.Offer.TheVariants.{Send, Receive, Delay}
use Rattle.chi_chan.specs.declared.offers.Choice.{Choice}
use Rattle.chi_chan.specs.declared.offers.Choice.TheVariants.{Pair, Wake}
use Rattle.chi_chan.specs.Held.{Offered, held, party, receives_on, parties_in, parties_of, pairs_from, options_by, options_from, options_of, options, SameOffers}
use Rattle.chi_chan.specs.Kept.{offer_in}
use Rattle.chi_chan.proofs.Scanning.{receives-is}
use Rattle.chi_machine_agenda.specs.Asking.{asks, MayGo, meets, wakes}
use Rattle.chi_machine_agenda.proofs.Lists.{eq-cases, eq-yes, eq-no, same-bool, some, some-length, some-left, some-right, some-either, some-map}

-- those of one instance that receive

in-some : (test : Offer → Bool) (q a : ℕ) (os : List Offer) → some (parties_in test q a os) ≡ true → (b : ℕ) × (o : Offer) × (slice_get os b ≡ Some o) × (test o ≡ true)
in-some test q a [] e = absurd (false≢true e)
in-some test q a (o ∷ os) e = by_test (test o) refl e (in-some test q (suc a) os)
  where
    by_test : (t : Bool) → test o ≡ t → some (cond t (party q a ∷ parties_in test q (suc a) os) (parties_in test q (suc a) os)) ≡ true
        → (some (parties_in test q (suc a) os) ≡ true → (b : ℕ) × (x : Offer) × (slice_get os b ≡ Some x) × (test x ≡ true))
        → (b : ℕ) × (x : Offer) × (slice_get (o ∷ os) b ≡ Some x) × (test x ≡ true)
    by_test true is h rest = (0, o, refl, is)
    by_test false is h rest = let r = rest h in (suc r.0, r.1, r.2, r.3)

some-in : (test : Offer → Bool) (q a : ℕ) (os : List Offer) (b : ℕ) (o : Offer) → slice_get os b ≡ Some o → test o ≡ true → some (parties_in test q a os) ≡ true
some-in test q a [] b o e t = absurd (cc)
some-in test q a (x ∷ os) zero o e t =
    let its : o ≡ x = cc in
    ap (λ (t : Bool). some (cond t (party q a ∷ parties_in test q (suc a) os) (parties_in test q (suc a) os))) (sym (ap test its) ∙ t)
some-in test q a (x ∷ os) (suc b) o e t = by_test (test x) (some-in test q (suc a) os b o e t)
  where
    by_test : (t : Bool) → some (parties_in test q (suc a) os) ≡ true → some (cond t (party q a ∷ parties_in test q (suc a) os) (parties_in test q (suc a) os)) ≡ true
    by_test true h = refl
    by_test false h = h

module _ (p a c : ℕ) where
  abbrev pairs_by : ℕ → Option (List Offer) → List Choice
  pairs_by q w = cond (nat_eq q p) [] (map (Pair a) (parties_of (receives_on c) q w))

  by-some : (q : ℕ) (w : Option (List Offer)) → some (pairs_by q w) ≡ true → (q ≢ p) × (b : ℕ) × (offer_in w b ≡ Some (Receive c))
  by-some q w e = by_test (nat_eq q p) refl e
    where
      its : (v : Option (List Offer)) → some (parties_of (receives_on c) q v) ≡ true → (b : ℕ) × (offer_in v b ≡ Some (Receive c))
      its None h = absurd (false≢true h)
      its (Some os) h = let f = in-some (receives_on c) q 0 os h in (f.0, (f.2 ∙ ap Some (receives-is c f.1 f.3)))

      by_test : (t : Bool) → nat_eq q p ≡ t → some (cond t [] (map (Pair a) (parties_of (receives_on c) q w))) ≡ true → (q ≢ p) × (b : ℕ) × (offer_in w b ≡ Some (Receive c))
      by_test true is h = absurd (false≢true h)
      by_test false is h =
          let f = its w (sym (some-map (Pair a) (parties_of (receives_on c) q w)) ∙ h) in
          ((λ same. false≢true (sym is ∙ eq-yes q p same)), f.0, f.1)

  some-by : (q : ℕ) (w : Option (List Offer)) (b : ℕ) → q ≢ p → offer_in w b ≡ Some (Receive c) → some (pairs_by q w) ≡ true
  some-by q None b n e = absurd (cc)
  some-by q (Some os) b n e =
      ap (λ (t : Bool). some (cond t [] (map (Pair a) (parties_of (receives_on c) q (Some os))))) (eq-no q p n)
      ∙ some-map (Pair a) (parties_in (receives_on c) q 0 os) ∙ some-in (receives_on c) q 0 os b (Receive c) e (eq-yes c c refl)

  pairs-some : (q : ℕ) (offered : Offered) → some (pairs_from p a c q offered) ≡ true → (k b : ℕ) × (q + k ≢ p) × (offer_in (held offered k) b ≡ Some (Receive c))
  pairs-some q [] e = absurd (false≢true e)
  pairs-some q (w ∷ ws) e = by_either (some-either (pairs_by q w) (pairs_from p a c (suc q) ws) e) (pairs-some (suc q) ws)
    where
      by_either : (some (pairs_by q w) ≡ true) ⊎ (some (pairs_from p a c (suc q) ws) ≡ true)
          → (some (pairs_from p a c (suc q) ws) ≡ true → (k b : ℕ) × (suc q + k ≢ p) × (offer_in (held ws k) b ≡ Some (Receive c)))
          → (k b : ℕ) × (q + k ≢ p) × (offer_in (held (w ∷ ws) k) b ≡ Some (Receive c))
      by_either (inl h) rest = let f = by-some q w h in (0, f.1, (λ same. f.0 (omega (arith, same))), f.2)
      by_either (inr h) rest = let f = rest h in (suc f.0, f.1, (λ same. f.2 (omega (arith, same))), f.3)

  some-pairs : (q : ℕ) (offered : Offered) (k b : ℕ) → q + k ≢ p → offer_in (held offered k) b ≡ Some (Receive c) → some (pairs_from p a c q offered) ≡ true
  some-pairs q [] k b n e = absurd (cc)
  some-pairs q (w ∷ ws) zero b n e = some-left (pairs_by q w) (pairs_from p a c (suc q) ws) (some-by q w b (λ same. n (omega (arith, same))) e)
  some-pairs q (w ∷ ws) (suc k) b n e =
      some-right (pairs_by q w) (pairs_from p a c (suc q) ws) (some-pairs (suc q) ws k b (λ same. n (omega (arith, same))) e)

module _ (offered : Offered) (clock : ℤ) (p : ℕ) where
  from-some : (a : ℕ) (os : List Offer) → some (options_from offered clock p a os) ≡ true
      → (k : ℕ) × (o : Offer) × (slice_get os k ≡ Some o) × (some (options_by offered clock p (a + k) o) ≡ true)
  from-some a [] e = absurd (false≢true e)
  from-some a (o ∷ os) e = by_either (some-either (options_by offered clock p a o) (options_from offered clock p (suc a) os) e) (from-some (suc a) os)
    where
      by_either : (some (options_by offered clock p a o) ≡ true) ⊎ (some (options_from offered clock p (suc a) os) ≡ true)
          → (some (options_from offered clock p (suc a) os) ≡ true → (k : ℕ) × (x : Offer) × (slice_get os k ≡ Some x) × (some (options_by offered clock p (suc a + k) x) ≡ true))
          → (k : ℕ) × (x : Offer) × (slice_get (o ∷ os) k ≡ Some x) × (some (options_by offered clock p (a + k) x) ≡ true)
      by_either (inl h) rest =
          let z : a ≡ a + 0 = omega arith in
          (0, o, refl, subst (λ (n : ℕ). some (options_by offered clock p n o) ≡ true) z h)
      by_either (inr h) rest =
          let f = rest h in
          let z : suc a + f.0 ≡ a + suc f.0 = omega arith in
          (suc f.0, f.1, f.2, subst (λ (n : ℕ). some (options_by offered clock p n f.1) ≡ true) z f.3)

  some-from : (a : ℕ) (os : List Offer) (k : ℕ) (o : Offer) → slice_get os k ≡ Some o → ((b : ℕ) → some (options_by offered clock p b o) ≡ true)
      → some (options_from offered clock p a os) ≡ true
  some-from a [] k o e h = absurd (cc)
  some-from a (x ∷ os) zero o e h =
      let its : o ≡ x = cc in
      some-left (options_by offered clock p a x) (options_from offered clock p (suc a) os) (subst (λ (y : Offer). some (options_by offered clock p a y) ≡ true) its (h a))
  some-from a (x ∷ os) (suc k) o e h =
      some-right (options_by offered clock p a x) (options_from offered clock p (suc a) os) (some-from (suc a) os k o e h)

  by-may : (os : List Offer) → held offered p ≡ Some os → (a b : ℕ) (o : Offer) → slice_get os a ≡ Some o → some (options_by offered clock p b o) ≡ true → MayGo offered clock p
  by-may os is a b (Send c) e h =
      let f = pairs-some p b c 0 offered h in
      meets a c f.0 f.1 (ap (λ w. offer_in w a) is ∙ e) (λ same. f.2 (omega (arith, same))) f.3
  by-may os is a b (Receive c) e h = absurd (false≢true h)
  by-may os is a b (Delay t) e h = by_test (int_lt clock t) refl h
    where
      by_test : (x : Bool) → int_lt clock t ≡ x → some (cond x [] (Wake b ∷ [])) ≡ true → MayGo offered clock p
      by_test true due g = absurd (false≢true g)
      by_test false due g = wakes a t (ap (λ w. offer_in w a) is ∙ e) due

  asks-some : asks offered clock p ≡ some (options offered clock p)
  asks-some = some-length (options offered clock p)

  pub asks-may : asks offered clock p ≡ true → MayGo offered clock p
  unfolding options
  asks-may e = by_held (held offered p) refl (sym asks-some ∙ e)
    where
      by_held : (w : Option (List Offer)) → held offered p ≡ w → some (options_of offered clock p w) ≡ true → MayGo offered clock p
      by_held None is h = absurd (false≢true h)
      by_held (Some os) is h = let f = from-some 0 os h in by-may os is f.0 (0 + f.0) f.1 f.2 f.3

  some-may : MayGo offered clock p → some (options offered clock p) ≡ true
  unfolding options
  some-may (meets a c q b e n t) = by_held (held offered p) e
    where
      by_held : (w : Option (List Offer)) → offer_in w a ≡ Some (Send c) → some (options_of offered clock p w) ≡ true
      by_held None h = absurd (cc)
      by_held (Some os) h = some-from 0 os a (Send c) h (λ x. some-pairs p x c 0 offered q b (λ same. n (omega (arith, same))) t)
  some-may (wakes a t e d) = by_held (held offered p) e
    where
      by_held : (w : Option (List Offer)) → offer_in w a ≡ Some (Delay t) → some (options_of offered clock p w) ≡ true
      by_held None h = absurd (cc)
      by_held (Some os) h = some-from 0 os a (Delay t) h (λ x. ap (λ (y : Bool). some (cond y [] (Wake x ∷ []))) d)

  pub may-asks : MayGo offered clock p → asks offered clock p ≡ true
  may-asks m = asks-some ∙ some-may m

-- how that changes

-- others than one have the same offers as before
abbrev pub OthersSame : Offered → Offered → ℕ → Type 0
OthersSame old new p = (q : ℕ) → q ≢ p → held new q ≡ held old q

-- an instance sends to one
pub record SendsTo (offered : Offered) (q : ℕ) (offers : Option (List Offer)) : Type 0 where
  pub channel : ℕ
  pub own : ℕ
  pub place : ℕ
  pub sends : offer_in (held offered q) own ≡ Some (Send channel)
  pub receives : offer_in offers place ≡ Some (Receive channel)

pub still-may : (old new : Offered) (clock : ℤ) (p q : ℕ) → OthersSame old new p → q ≢ p → MayGo old clock q → MayGo new clock q ⊎ SendsTo old q (held old p)
still-may old new clock p q same other (wakes a t e d) = inl (wakes a t (ap (λ w. offer_in w a) (same q other) ∙ e) d)
still-may old new clock p q same other (meets a c r b e n t) = by_place (eq-cases r p)
  where
    by_place : (r ≡ p) ⊎ (r ≢ p) → MayGo new clock q ⊎ SendsTo old q (held old p)
    by_place (inl is) = inr (record { channel = c; own = a; place = b; sends = e; receives = subst (λ (k : ℕ). offer_in (held old k) b ≡ Some (Receive c)) is t })
    by_place (inr not_it) = inl (meets a c r b (ap (λ w. offer_in w a) (same q other) ∙ e) n (ap (λ w. offer_in w b) (same r not_it) ∙ t))

-- an instance that sends to none of those that come or go is as it was
pub asks-same : (old new : Offered) (clock : ℤ) (p q : ℕ) → OthersSame old new p → q ≢ p → (SendsTo old q (held old p) → ⊥) → (SendsTo new q (held new p) → ⊥)
    → asks old clock q ≡ asks new clock q
asks-same old new clock p q same other none none' =
    same-bool (asks old clock q) (asks new clock q)
    (λ e. may-asks new clock q (by_old (still-may old new clock p q same other (asks-may old clock q e))))
    (λ e. may-asks old clock q (by_new (still-may new old clock p q (λ r n. sym (same r n)) other (asks-may new clock q e))))
  where
    by_old : MayGo new clock q ⊎ SendsTo old q (held old p) → MayGo new clock q
    by_old (inl m) = m
    by_old (inr s) = absurd (none s)

    by_new : MayGo old clock q ⊎ SendsTo new q (held new p) → MayGo old clock q
    by_new (inl m) = m
    by_new (inr s) = absurd (none' s)

-- where all have the same offers, all are as they were
may-same : (old new : Offered) (clock : ℤ) (q : ℕ) → SameOffers old new → MayGo old clock q → MayGo new clock q
may-same old new clock q same (meets a c r b e n t) = meets a c r b (ap (λ w. offer_in w a) (same q) ∙ e) n (ap (λ w. offer_in w b) (same r) ∙ t)
may-same old new clock q same (wakes a t e d) = wakes a t (ap (λ w. offer_in w a) (same q) ∙ e) d

pub asks-kept : (old new : Offered) (clock : ℤ) (q : ℕ) → SameOffers old new → asks old clock q ≡ asks new clock q
asks-kept old new clock q same =
    same-bool (asks old clock q) (asks new clock q)
    (λ e. may-asks new clock q (may-same old new clock q same (asks-may old clock q e)))
    (λ e. may-asks old clock q (may-same new old clock q (λ r. sym (same r)) (asks-may new clock q e)))
