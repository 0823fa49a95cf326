-- What a scan of all offers gives.
use Rattle.std.proofs.Common.{◌≡◌, ℕ, zero, suc, ◌+◌, ◌-◌, ◌*◌, ◌<◌, ◌≤◌, ℤ, List, [], ◌∷◌, ◌++◌, Option, None, Some, Bool, true, false, cond, length, get_or, ◌⊎◌, inl, inr, sym, ◌∙◌, ap, subst, refl, arith, drop, length-append}
use Rattle.std.proofs.Math.Seq.{drop-cons}
use Rattle.std.specs.Prelude.{nat_eq, map}
use Rattle.std.specs.Prelude.{map as mapped}
use Rattle.std.specs.List.{slice_get}
use Rattle.chi_chan.specs.declared.offers.Offer.{Offer}
use Rattle.chi_chan.specs.declared.offers.Offer.TheVariants.{Send, Receive, Delay}
use Rattle.chi_chan.specs.declared.offers.Party.{Party}
use Rattle.chi_chan.specs.declared.offers.Choice.{Choice}
use Rattle.chi_chan.specs.declared.offers.Choice.TheVariants.{Pair}
use Rattle.chi_chan.specs.Held.{held, sends_on, receives_on, party, parties_in, parties_of, parties_from, senders_on, receivers_on, pairs_from, options_by, options_from, options_of, options}
use Rattle.chi_chan.specs.Lined.{code, Ascends, Has, AllAscend, without, line}
use Rattle.chi_chan.specs.Kept.{Fits, offer_in, offers_or, Lists, choices_by, choices_from}
use Rattle.chi_chan.proofs.Lining.{eq-true, eq-same, ascends-from, has-party, same-line}

module _ (test : Offer → Bool) where
  -- one more offer

  chosen : (q b : ℕ) (o : Offer) (os : List Offer) (t : Bool) → test o ≡ t
      → parties_in test q b (o ∷ os) ≡ cond t (party q b ∷ parties_in test q (suc b) os) (parties_in test q (suc b) os)
  chosen q b o os t e = ap (λ (t : Bool). cond t (party q b ∷ parties_in test q (suc b) os) (parties_in test q (suc b) os)) e

  -- ascending

  in-ascends : (q b : ℕ) (os : List Offer) → q < 100000 → b + length os ≤ 65536 → Ascends (q * 65536 + b) (parties_in test q b os)
  in-ascends q b [] h l = tt
  in-ascends q b (o ∷ os) h l = by_test (test o) refl (in-ascends q (suc b) os h (omega (arith, l)))
    where
      by_test : (t : Bool) → test o ≡ t → Ascends (q * 65536 + suc b) (parties_in test q (suc b) os) → Ascends (q * 65536 + b) (parties_in test q b (o ∷ os))
      by_test true e rest =
          let P : List Party → Type 0 = Ascends (q * 65536 + b) in
          let up : Ascends (suc (q * 65536 + b)) (parties_in test q (suc b) os) = ascends-from (suc (q * 65536 + b)) (q * 65536 + suc b) _ rest (omega arith) in
          subst P (sym (chosen q b o os true e)) ((omega arith), (h, (omega (arith, l))), up)
      by_test false e rest =
          let P : List Party → Type 0 = Ascends (q * 65536 + b) in
          subst P (sym (chosen q b o os false e)) (ascends-from (q * 65536 + b) (q * 65536 + suc b) _ rest (omega arith))

  join : (n m : ℕ) (xs ys : List Party) → Ascends n xs → ((x : Party) → Has xs x → code x < m) → n ≤ m → Ascends m ys → Ascends n (xs ++ ys)
  join n m [] ys up below h down = ascends-from n m ys down h
  join n m (x ∷ xs) ys up below h down =
      let c = below x (inl refl) in (up.0, up.1, join (suc (code x)) m xs ys up.2 (λ y g. below y (inr g)) (omega (arith, c)) down)

  in-has : (q b : ℕ) (os : List Offer) (x : Party) → Has (parties_in test q b os) x
      → (k : ℕ) × (o : Offer) × (x ≡ party q (b + k)) × (slice_get os k ≡ Some o) × (test o ≡ true)
  in-has q b [] x h = absurd h
  in-has q b (o ∷ os) x h = by_test (test o) refl (in-has q (suc b) os x)
    where
      Found : Type 0
      Found = (k : ℕ) × (o' : Offer) × (x ≡ party q (b + k)) × (slice_get (o ∷ os) k ≡ Some o') × (test o' ≡ true)

      later : (k : ℕ) × (o : Offer) × (x ≡ party q (suc b + k)) × (slice_get os k ≡ Some o) × (test o ≡ true) → Found
      later f =
          let e : suc b + f.0 ≡ b + suc f.0 = omega arith in (suc f.0, f.1, f.2 ∙ ap (party q) e, f.3, f.4)

      by_test : (t : Bool) → test o ≡ t
          → (Has (parties_in test q (suc b) os) x → (k : ℕ) × (o : Offer) × (x ≡ party q (suc b + k)) × (slice_get os k ≡ Some o) × (test o ≡ true)) → Found
      by_test true e rest = by_has (subst (λ (l : List Party). Has l x) (chosen q b o os true e) h)
        where
          by_has : Has (party q b ∷ parties_in test q (suc b) os) x → Found
          by_has (inl s) = let z : b ≡ b + 0 = omega arith in (0, o, sym s ∙ ap (party q) z, refl, e)
          by_has (inr g) = later (rest g)
      by_test false e rest = later (rest (subst (λ (l : List Party). Has l x) (chosen q b o os false e) h))

  in-there : (q b : ℕ) (os : List Offer) (k : ℕ) (o : Offer) → slice_get os k ≡ Some o → test o ≡ true → Has (parties_in test q b os) (party q (b + k))
  in-there q b [] k o e t = absurd (cc)
  in-there q b (y ∷ os) zero o e t =
      let same : y ≡ o = cc in
      let z : b ≡ b + 0 = omega arith in
      subst (λ (l : List Party). Has l (party q (b + 0))) (sym (chosen q b y os true (ap test same ∙ t))) (inl (ap (party q) z))
  in-there q b (y ∷ os) (suc k) o e t = by_test (test y) refl
      (let s : suc b + k ≡ b + suc k = omega arith in subst (λ (n : ℕ). Has (parties_in test q (suc b) os) (party q n)) s (in-there q (suc b) os k o e t))
    where
      by_test : (u : Bool) → test y ≡ u → Has (parties_in test q (suc b) os) (party q (b + suc k)) → Has (parties_in test q b (y ∷ os)) (party q (b + suc k))
      by_test true f rest = subst (λ (l : List Party). Has l (party q (b + suc k))) (sym (chosen q b y os true f)) (inr rest)
      by_test false f rest = subst (λ (l : List Party). Has l (party q (b + suc k))) (sym (chosen q b y os false f)) rest

  has-left : (xs ys : List Party) (x : Party) → Has xs x → Has (xs ++ ys) x
  has-left [] ys x h = absurd h
  has-left (y ∷ xs) ys x (inl e) = inl e
  has-left (y ∷ xs) ys x (inr h) = inr (has-left xs ys x h)

  has-right : (xs ys : List Party) (x : Party) → Has ys x → Has (xs ++ ys) x
  has-right [] ys x h = h
  has-right (y ∷ xs) ys x h = inr (has-right xs ys x h)

  has-either : (xs ys : List Party) (x : Party) → Has (xs ++ ys) x → Has xs x ⊎ Has ys x
  has-either [] ys x h = inr h
  has-either (y ∷ xs) ys x (inl e) = inl (inl e)
  has-either (y ∷ xs) ys x (inr h) = by_rest (has-either xs ys x h)
    where
      by_rest : Has xs x ⊎ Has ys x → Has (y ∷ xs) x ⊎ Has ys x
      by_rest (inl g) = inl (inr g)
      by_rest (inr g) = inr g

  of-ascends : (q : ℕ) (o : Option (List Offer)) → q < 100000 → ((offers : List Offer) → o ≡ Some offers → length offers ≤ 65536) → Ascends (q * 65536) (parties_of test q o)
  of-ascends q None h few = tt
  of-ascends q (Some os) h few =
      let z : q * 65536 + 0 ≡ q * 65536 = omega arith in
      subst (λ (n : ℕ). Ascends n (parties_in test q 0 os)) z (in-ascends q 0 os h (let f = few os refl in omega (arith, f)))

  of-its : (q : ℕ) (o : Option (List Offer)) (x : Party) → Has (parties_of test q o) x → x.pid ≡ q
  of-its q None x h = absurd h
  of-its q (Some os) x h = let f = in-has q 0 os x h in ap (λ (p : Party). p.pid) f.2

  rest-fits : (q : ℕ) (o : Option (List Offer)) (os : List (Option (List Offer))) → Fits q (o ∷ os) → Fits (suc q) os
  rest-fits q o os f = record {
    instances = let i = f.instances in omega (arith, i);
    offers = λ k offers e. f.offers (suc k) offers e;
  }

  pub from-ascends : (q : ℕ) (os : List (Option (List Offer))) → Fits q os → Ascends (q * 65536) (parties_from test q os)
  from-ascends q [] f = tt
  from-ascends q (o ∷ os) f =
      let i = f.instances in
      let h : q < 100000 = omega (arith, i) in
      let first = of-ascends q o h (λ offers e. f.offers 0 offers e) in
      let rest = from-ascends (suc q) os (rest-fits q o os f) in
      join (q * 65536) (suc q * 65536) (parties_of test q o) (parties_from test (suc q) os) first
      (λ x g. let e = of-its q o x g in let p = has-party (q * 65536) (parties_of test q o) x first g in let a = p.1 in omega (arith, e, a))
      (omega arith) rest

  pub from-has : (q : ℕ) (os : List (Option (List Offer))) (x : Party) → Has (parties_from test q os) x
      → (k : ℕ) × (o : Offer) × (x.pid ≡ q + k) × (offer_in (held os k) x.alternative ≡ Some o) × (test o ≡ true)
  from-has q [] x h = absurd h
  from-has q (w ∷ os) x h = by_has (has-either (parties_of test q w) (parties_from test (suc q) os) x h) (from-has (suc q) os x)
    where
      Found : Type 0
      Found = (k : ℕ) × (o : Offer) × (x.pid ≡ q + k) × (offer_in (held (w ∷ os) k) x.alternative ≡ Some o) × (test o ≡ true)

      here : (v : Option (List Offer)) → Has (parties_of test q v) x → (o : Offer) × (x.pid ≡ q + 0) × (offer_in v x.alternative ≡ Some o) × (test o ≡ true)
      here None g = absurd g
      here (Some offers) g =
          let f = in-has q 0 offers x g in
          let p : x.pid ≡ q = ap (λ (p : Party). p.pid) f.2 in
          let a : f.0 ≡ x.alternative = (let e : x.alternative ≡ 0 + f.0 = ap (λ (p : Party). p.alternative) f.2 in omega (arith, e)) in
          (f.1, (omega (arith, p)), subst (λ (n : ℕ). slice_get offers n ≡ Some f.1) a f.3, f.4)

      by_has : Has (parties_of test q w) x ⊎ Has (parties_from test (suc q) os) x
          → (Has (parties_from test (suc q) os) x → (k : ℕ) × (o : Offer) × (x.pid ≡ suc q + k) × (offer_in (held os k) x.alternative ≡ Some o) × (test o ≡ true)) → Found
      by_has (inl g) rest = let f = here w g in (0, f.0, f.1, f.2, f.3)
      by_has (inr g) rest = let f = rest g in let e = f.2 in (suc f.0, f.1, (omega (arith, e)), f.3, f.4)

  pub from-there : (q : ℕ) (os : List (Option (List Offer))) (k b : ℕ) (o : Offer) → offer_in (held os k) b ≡ Some o → test o ≡ true
      → Has (parties_from test q os) (party (q + k) b)
  from-there q [] k b o e t = absurd (cc)
  from-there q (None ∷ os) zero b o e t = absurd (cc)
  from-there q (Some offers ∷ os) zero b o e t =
      let z : q ≡ q + 0 = omega arith in
      let s : 0 + b ≡ b = omega arith in
      has-left (parties_in test q 0 offers) (parties_from test (suc q) os) (party (q + 0) b)
      (subst (λ (n : ℕ). Has (parties_in test q 0 offers) (party n b)) z (subst (λ (n : ℕ). Has (parties_in test q 0 offers) (party q n)) s (in-there q 0 offers b o e t)))
  from-there q (w ∷ os) (suc k) b o e t =
      let s : suc q + k ≡ q + suc k = omega arith in
      has-right (parties_of test q w) (parties_from test (suc q) os) (party (q + suc k) b)
      (subst (λ (n : ℕ). Has (parties_from test (suc q) os) (party n b)) s (from-there (suc q) os k b o e t))

-- lines in which those stand who make an offer are what the scan gives

pub sends-is : (c : ℕ) (o : Offer) → sends_on c o ≡ true → o ≡ Send c
sends-is c (Send d) e = ap Send (eq-true d c e)
sends-is c (Receive d) e = absurd (cc)
sends-is c (Delay t) e = absurd (cc)

pub receives-is : (c : ℕ) (o : Offer) → receives_on c o ≡ true → o ≡ Receive c
receives-is c (Receive d) e = ap Receive (eq-true d c e)
receives-is c (Send d) e = absurd (cc)
receives-is c (Delay t) e = absurd (cc)

scanned : (kind : ℕ → Offer) (test : Offer → Bool) (c : ℕ) (map : List (Option (List Offer))) (lines : List (List Party)) → Fits 0 map → Ascends 0 (line lines c)
    → Lists kind map lines → ((o : Offer) → test o ≡ true → o ≡ kind c) → test (kind c) ≡ true → line lines c ≡ parties_from test 0 map
scanned kind test c map lines fits up lists is its =
    same-line 0 0 (line lines c) (parties_from test 0 map) up (from-ascends test 0 map fits)
    (λ p h.
    let o = lists.only c p.pid p.alternative h in
    let z : 0 + p.pid ≡ p.pid = omega arith in
    subst (λ (n : ℕ). Has (parties_from test 0 map) (party n p.alternative)) z (from-there test 0 map p.pid p.alternative (kind c) o its))
    (λ p h.
    let f = from-has test 0 map p h in
    let e = f.2 in
    let same : f.0 ≡ p.pid = omega (arith, e) in
    lists.all c p.pid p.alternative (subst (λ (n : ℕ). offer_in (held map n) p.alternative ≡ Some (kind c)) same (f.3 ∙ ap Some (is f.1 f.4))))

pub senders-scanned : (c : ℕ) (map : List (Option (List Offer))) (lines : List (List Party)) → Fits 0 map → Ascends 0 (line lines c) → Lists Send map lines
    → line lines c ≡ senders_on map c
unfolding senders_on
senders-scanned c map lines fits up lists = scanned Send (sends_on c) c map lines fits up lists (sends-is c) (eq-same c c refl)

pub receivers-scanned : (c : ℕ) (map : List (Option (List Offer))) (lines : List (List Party)) → Fits 0 map → Ascends 0 (line lines c) → Lists Receive map lines
    → line lines c ≡ receivers_on map c
unfolding receivers_on
receivers-scanned c map lines fits up lists = scanned Receive (receives_on c) c map lines fits up lists (receives-is c) (eq-same c c refl)

-- options

without-append : (p : ℕ) (xs ys : List Party) → without p (xs ++ ys) ≡ without p xs ++ without p ys
without-append p [] ys = refl
without-append p (x ∷ xs) ys = by_test (nat_eq x.pid p) refl (without-append p xs ys)
  where
    by_test : (t : Bool) → nat_eq x.pid p ≡ t → without p (xs ++ ys) ≡ without p xs ++ without p ys → without p (x ∷ xs ++ ys) ≡ without p (x ∷ xs) ++ without p ys
    by_test true e rest =
        ap (λ (t : Bool). cond t (without p (xs ++ ys)) (x ∷ without p (xs ++ ys))) e ∙ rest
        ∙ sym (ap (λ (t : Bool). cond t (without p xs) (x ∷ without p xs) ++ without p ys) e)
    by_test false e rest =
        ap (λ (t : Bool). cond t (without p (xs ++ ys)) (x ∷ without p (xs ++ ys))) e ∙ ap (λ (l : List Party). x ∷ l) rest
        ∙ sym (ap (λ (t : Bool). cond t (without p xs) (x ∷ without p xs) ++ without p ys) e)

without-all : (p q : ℕ) (xs : List Party) → ((x : Party) → Has xs x → x.pid ≡ q) → (t : Bool) → nat_eq q p ≡ t → without p xs ≡ cond t [] xs
without-all p q [] its true e = refl
without-all p q [] its false e = refl
without-all p q (x ∷ xs) its true e =
    ap (λ (t : Bool). cond t (without p xs) (x ∷ without p xs)) (ap (λ (n : ℕ). nat_eq n p) (its x (inl refl)) ∙ e)
    ∙ without-all p q xs (λ y h. its y (inr h)) true e
without-all p q (x ∷ xs) its false e =
    ap (λ (t : Bool). cond t (without p xs) (x ∷ without p xs)) (ap (λ (n : ℕ). nat_eq n p) (its x (inl refl)) ∙ e)
    ∙ ap (λ (l : List Party). x ∷ l) (without-all p q xs (λ y h. its y (inr h)) false e)

map-append : {A B : Type 0} (f : A → B) (xs ys : List A) → map f (xs ++ ys) ≡ map f xs ++ map f ys
map-append f [] ys = refl
map-append f (x ∷ xs) ys = let e = map-append f xs ys in cc

pairs-without : (p a c q : ℕ) (os : List (Option (List Offer))) → map (Pair a) (without p (parties_from (receives_on c) q os)) ≡ pairs_from p a c q os
pairs-without p a c q [] = refl
pairs-without p a c q (o ∷ os) =
    ap (map (Pair a)) (without-append p (parties_of (receives_on c) q o) (parties_from (receives_on c) (suc q) os))
    ∙ map-append (Pair a) (without p (parties_of (receives_on c) q o)) (without p (parties_from (receives_on c) (suc q) os))
    ∙ ap (λ (l : List Choice). l ++ map (Pair a) (without p (parties_from (receives_on c) (suc q) os))) (first (nat_eq q p) refl)
    ∙ ap (λ (l : List Choice). cond (nat_eq q p) [] (map (Pair a) (parties_of (receives_on c) q o)) ++ l) (pairs-without p a c (suc q) os)
  where
    first : (t : Bool) → nat_eq q p ≡ t → map (Pair a) (without p (parties_of (receives_on c) q o)) ≡ cond (nat_eq q p) [] (map (Pair a) (parties_of (receives_on c) q o))
    first true e =
        ap (map (Pair a)) (without-all p q (parties_of (receives_on c) q o) (of-its (receives_on c) q o) true e)
        ∙ sym (ap (λ (t : Bool). cond t [] (map (Pair a) (parties_of (receives_on c) q o))) e)
    first false e =
        ap (map (Pair a)) (without-all p q (parties_of (receives_on c) q o) (of-its (receives_on c) q o) false e)
        ∙ sym (ap (λ (t : Bool). cond t [] (map (Pair a) (parties_of (receives_on c) q o))) e)

module _ (map : List (Option (List Offer))) (lines : List (List Party)) (same : (c : ℕ) → line lines c ≡ receivers_on map c) (clock : ℤ) (p : ℕ) where
  by-same : (a : ℕ) (o : Offer) → choices_by lines clock p a o ≡ options_by map clock p a o
  unfolding receivers_on
  by-same a (Send c) = ap (λ (l : List Party). mapped (Pair a) (without p l)) (same c) ∙ pairs-without p a c 0 map
  by-same a (Receive c) = refl
  by-same a (Delay due) = refl

  pub from-same : (a : ℕ) (os : List Offer) → choices_from lines clock p a os ≡ options_from map clock p a os
  from-same a [] = refl
  from-same a (o ∷ os) =
      ap (λ (l : List Choice). l ++ choices_from lines clock p (suc a) os) (by-same a o) ∙ ap (λ (l : List Choice). options_by map clock p a o ++ l) (from-same (suc a) os)

  pub options-same : (w : Option (List Offer)) → held map p ≡ w → choices_from lines clock p 0 (offers_or w) ≡ options map clock p
  unfolding options
  options-same None e = sym (ap (options_of map clock p) e)
  options-same (Some os) e = from-same 0 os ∙ sym (ap (options_of map clock p) e)

-- options one offer after another

module _ (lines : List (List Party)) (clock : ℤ) (p : ℕ) where
  pub next-choices : (os : List Offer) (i : ℕ) (d : Offer) → i < length os
      → choices_from lines clock p i (drop i os) ≡ choices_by lines clock p i (get_or os i d) ++ choices_from lines clock p (i + 1) (drop (i + 1) os)
  next-choices os i d h =
      let one : i + 1 ≡ suc i = omega arith in
      ap (choices_from lines clock p i) (drop-cons os i d h)
      ∙ ap (λ (n : ℕ). choices_by lines clock p i (get_or os i d) ++ choices_from lines clock p n (drop n os)) (sym one)

  pub next-length : (os : List Offer) (i : ℕ) (d : Offer) → i < length os
      → length (choices_from lines clock p i (drop i os)) ≡ length (choices_by lines clock p i (get_or os i d)) + length (choices_from lines clock p (i + 1) (drop (i + 1) os))
  next-length os i d h =
      ap length (next-choices os i d h) ∙ length-append (choices_by lines clock p i (get_or os i d)) (choices_from lines clock p (i + 1) (drop (i + 1) os))

pub got-offer : (os : List Offer) (i : ℕ) (d : Offer) → i < length os → slice_get os i ≡ Some (get_or os i d)
got-offer [] i d h = absurd (omega (arith, h))
got-offer (o ∷ os) zero d h = refl
got-offer (o ∷ os) (suc i) d h = got-offer os i d (omega (arith, h))

pub slice-left : {A : Type 0} (xs ys : List A) (i : ℕ) → i < length xs → slice_get (xs ++ ys) i ≡ slice_get xs i
slice-left [] ys i h = absurd (omega (arith, h))
slice-left (x ∷ xs) ys zero h = refl
slice-left (x ∷ xs) ys (suc i) h = slice-left xs ys i (omega (arith, h))

pub slice-right : {A : Type 0} (xs ys : List A) (i : ℕ) → length xs ≤ i → slice_get (xs ++ ys) i ≡ slice_get ys (i - length xs)
slice-right [] ys i h = let z : i ≡ i - 0 = omega arith in ap (slice_get ys) z
slice-right (x ∷ xs) ys zero h = absurd (omega (arith, h))
slice-right (x ∷ xs) ys (suc i) h = slice-right xs ys i (omega (arith, h)) ∙ (let z : i - length xs ≡ suc i - suc (length xs) = omega arith in ap (slice_get ys) z)

-- lines that are kept give the options by the scan
pub kept-options : (m : List (Option (List Offer))) (lines : List (List Party)) → Fits 0 m → AllAscend lines → Lists Receive m lines → (clock : ℤ) (p : ℕ) (offers : List Offer)
    → offers ≡ offers_or (held m p) → choices_from lines clock p 0 offers ≡ options m clock p
kept-options m lines fits up lists clock p offers e =
    ap (choices_from lines clock p 0) e ∙ options-same m lines (λ c. receivers-scanned c m lines fits (up c) lists) clock p (held m p) refl

pub no-options : (m : List (Option (List Offer))) (clock : ℤ) (p : ℕ) → held m p ≡ None → length (options m clock p) ≡ 0
unfolding options
no-options m clock p e = ap (λ (w : Option (List Offer)). length (options_of m clock p w)) e
