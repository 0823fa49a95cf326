-- Ascending parties: places, one more, those of an instance, and those of others.
use Rattle.std.proofs.Common.{◌≡◌, ◌≢◌, ℕ, zero, suc, ◌+◌, ◌-◌, ◌*◌, ◌<◌, ◌≤◌, List, [], ◌∷◌, ◌++◌, Some, Bool, true, false, cond, length, get_or, ◌⊎◌, inl, inr, sym, ◌∙◌, ap, subst, refl, arith}
use Rattle.std.specs.Prelude.{nat_eq, nat_lt}
use Rattle.std.specs.List.{slice_get, insert, remove_range}
use Rattle.chi_chan.specs.declared.offers.Party.{Party}
use Rattle.chi_chan.specs.Lined.{code, IsParty, Ascends, Has, IsPlace, without, nobody_here, line}

pub eq-true : (x y : ℕ) → nat_eq x y ≡ true → x ≡ y
eq-true x y e = grind arith

pub less-true : (x y : ℕ) → nat_lt x y ≡ true → x < y
less-true x y e = grind arith

pub eq-false : (x y : ℕ) → nat_eq x y ≡ false → x ≢ y
eq-false x y e = grind arith

pub eq-same : (x y : ℕ) → x ≡ y → nat_eq x y ≡ true
eq-same x y e = grind arith

pub eq-differ : (x y : ℕ) → x ≢ y → nat_eq x y ≡ false
eq-differ x y e = grind arith

pub ascends-from : (m n : ℕ) (xs : List Party) → Ascends n xs → m ≤ n → Ascends m xs
ascends-from m n [] up h = tt
ascends-from m n (x ∷ xs) up h = ((let a = up.0 in omega (arith, a, h)), up.1, up.2)

pub has-code : (n : ℕ) (xs : List Party) (p : Party) → Ascends n xs → Has xs p → n ≤ code p
has-code n [] p up h = absurd h
has-code n (x ∷ xs) p up (inl e) = let a = up.0 in let c : code x ≡ code p = ap code e in omega (arith, a, c)
has-code n (x ∷ xs) p up (inr h) = let a = up.0 in let r = has-code (suc (code x)) xs p up.2 h in omega (arith, a, r)

pub has-party : (n : ℕ) (xs : List Party) (p : Party) → Ascends n xs → Has xs p → IsParty p
has-party n [] p up h = absurd h
has-party n (x ∷ xs) p up (inl e) = subst IsParty e up.1
has-party n (x ∷ xs) p up (inr h) = has-party (suc (code x)) xs p up.2 h

code-few : (p : Party) → IsParty p → code p < 6553600000
code-few p h = let a = h.0 in let b = h.1 in omega (arith, a, b)

pub ascends-few : (n : ℕ) (xs : List Party) → Ascends n xs → n ≤ 6553600000 → n + length xs ≤ 6553600000
ascends-few n [] up h = omega (arith, h)
ascends-few n (x ∷ xs) up h =
    let a = up.0 in
    let f = code-few x up.1 in
    let r = ascends-few (suc (code x)) xs up.2 (omega (arith, f)) in omega (arith, a, r)

-- one of a number
pub same-party : (p q : Party) → IsParty p → IsParty q → code p ≡ code q → p ≡ q
same-party p q a b e =
    let a1 = a.1 in
    let b1 = b.1 in
    let x : p.pid ≡ q.pid = omega (arith, e, a1, b1) in
    let y : p.alternative ≡ q.alternative = omega (arith, e, a1, b1) in
    λ i. record { pid = x i; alternative = y i }

-- by index

at : List Party → ℕ → Party
at xs i = get_or xs i nobody_here

ascends-at : (n : ℕ) (xs : List Party) → Ascends n xs → (i : ℕ) → i < length xs → n ≤ code (get_or xs i nobody_here)
ascends-at n [] up i h = absurd (omega (arith, h))
ascends-at n (x ∷ xs) up zero h = up.0
ascends-at n (x ∷ xs) up (suc i) h = let a = up.0 in let r = ascends-at (suc (code x)) xs up.2 i (omega (arith, h)) in omega (arith, a, r)

pub ascends-order : (n : ℕ) (xs : List Party) → Ascends n xs → (i j : ℕ) → i ≤ j → j < length xs → code (get_or xs i nobody_here) ≤ code (get_or xs j nobody_here)
ascends-order n [] up i j h l = absurd (omega (arith, l))
ascends-order n (x ∷ xs) up zero zero h l = omega arith
ascends-order n (x ∷ xs) up zero (suc j) h l = let r = ascends-at (suc (code x)) xs up.2 j (omega (arith, l)) in omega (arith, r)
ascends-order n (x ∷ xs) up (suc i) zero h l = absurd (omega (arith, h))
ascends-order n (x ∷ xs) up (suc i) (suc j) h l = ascends-order (suc (code x)) xs up.2 i j (omega (arith, h)) (omega (arith, l))

pub placed : (xs : List Party) (key r : ℕ) → r ≤ length xs → ((i : ℕ) → i < r → code (get_or xs i nobody_here) < key)
    → ((i : ℕ) → r ≤ i → i < length xs → key ≤ code (get_or xs i nobody_here)) → IsPlace xs key r
placed [] key r h low high = omega (arith, h)
placed (x ∷ xs) key zero h low high = high 0 (omega arith) (omega arith)
placed (x ∷ xs) key (suc r) h low high = (
  low 0 (omega arith),
  placed xs key r (omega (arith, h)) (λ i l. low (suc i) (omega (arith, l))) (λ i g l. high (suc i) (omega (arith, g)) (omega (arith, l))),
)

pub place-within : (xs : List Party) (key r : ℕ) → IsPlace xs key r → r ≤ length xs
place-within [] key r p = omega (arith, p)
place-within (x ∷ xs) key zero p = omega arith
place-within (x ∷ xs) key (suc r) p = let w = place-within xs key r p.1 in omega (arith, w)

-- before a greater number there are no fewer
pub places : (n : ℕ) (xs : List Party) → Ascends n xs → (low high f a : ℕ) → low ≤ high → IsPlace xs low f → IsPlace xs high a → f ≤ a
places n [] up low high f a h p q = omega (arith, p)
places n (x ∷ xs) up low high zero a h p q = omega arith
places n (x ∷ xs) up low high (suc f) zero h p q = absurd (let l = p.0 in omega (arith, l, q, h))
places n (x ∷ xs) up low high (suc f) (suc a) h p q = let r = places (suc (code x)) xs up.2 low high f a h p.1 q.1 in omega (arith, r)

-- all are before a number where the last is
pub placed-last : (xs : List Party) (key : ℕ) → Ascends 0 xs → (0 < length xs → code (get_or xs (length xs - 1) nobody_here) < key) → IsPlace xs key (length xs)
placed-last xs key up last =
    placed xs key (length xs) (omega arith)
    (λ i l. let h = last (omega (arith, l)) in let o = ascends-order 0 xs up i (length xs - 1) (omega (arith, l)) (omega (arith, l)) in omega (arith, h, o))
    (λ i g l. absurd (omega (arith, g, l)))

-- one more

pub insert-last : (xs : List Party) (p : Party) → xs ++ p ∷ [] ≡ insert xs (length xs) p
insert-last [] p = refl
insert-last (x ∷ xs) p = ap (λ (l : List Party). x ∷ l) (insert-last xs p)

pub insert-ascends : (n : ℕ) (xs : List Party) (r : ℕ) (p : Party) → Ascends n xs → IsParty p → n ≤ code p → IsPlace xs (code p) r
    → (r < length xs → code (get_or xs r nobody_here) ≢ code p) → Ascends n (insert xs r p)
insert-ascends n [] zero p up is h place new = (h, is, tt)
insert-ascends n [] (suc r) p up is h place new = absurd (omega (arith, place))
insert-ascends n (x ∷ xs) zero p up is h place new =
    let d = new (omega arith) in (h, is, (omega (arith, place, d), up.1, up.2))
insert-ascends n (x ∷ xs) (suc r) p up is h place new =
    let l = place.0 in (up.0, up.1, insert-ascends (suc (code x)) xs r p up.2 is (omega (arith, l)) place.1 (λ g. new (omega (arith, g))))

pub insert-there : (xs : List Party) (r : ℕ) (p : Party) → r ≤ length xs → Has (insert xs r p) p
insert-there xs zero p h = inl refl
insert-there [] (suc r) p h = absurd (omega (arith, h))
insert-there (x ∷ xs) (suc r) p h = inr (insert-there xs r p (omega (arith, h)))

pub insert-stays : (xs : List Party) (r : ℕ) (p x : Party) → Has xs x → Has (insert xs r p) x
insert-stays xs zero p x h = inr h
insert-stays [] (suc r) p x h = absurd h
insert-stays (y ∷ xs) (suc r) p x (inl e) = inl e
insert-stays (y ∷ xs) (suc r) p x (inr h) = inr (insert-stays xs r p x h)

pub insert-only : (xs : List Party) (r : ℕ) (p x : Party) → r ≤ length xs → Has (insert xs r p) x → Has xs x ⊎ (x ≡ p)
insert-only xs zero p x l (inl e) = inr (sym e)
insert-only xs zero p x l (inr h) = inl h
insert-only [] (suc r) p x l h = absurd (omega (arith, l))
insert-only (y ∷ xs) (suc r) p x l (inl e) = inl (inl e)
insert-only (y ∷ xs) (suc r) p x l (inr h) = by_rest (insert-only xs r p x (omega (arith, l)) h)
  where
    by_rest : Has xs x ⊎ (x ≡ p) → Has (y ∷ xs) x ⊎ (x ≡ p)
    by_rest (inl h) = inl (inr h)
    by_rest (inr e) = inr e

pub has-at : (xs : List Party) (r : ℕ) → r < length xs → Has xs (get_or xs r nobody_here)
has-at [] r h = absurd (omega (arith, h))
has-at (x ∷ xs) zero h = inl refl
has-at (x ∷ xs) (suc r) h = inr (has-at xs r (omega (arith, h)))

-- those of an instance, and those of others

module _ (pid : ℕ) where
  abbrev pub Between : List Party → ℕ → ℕ → Type 0
  Between xs f a = IsPlace xs (pid * 65536) f × IsPlace xs (pid * 65536 + 65536) a

  its : (p : Party) → IsParty p → pid * 65536 ≤ code p → code p < pid * 65536 + 65536 → p.pid ≡ pid
  its p is low high = let a = is.1 in omega (arith, a, low, high)

  place-low : (n : ℕ) (xs : List Party) (key : ℕ) → Ascends n xs → key ≤ n → IsPlace xs key 0
  place-low n [] key up h = refl
  place-low n (x ∷ xs) key up h = let a = up.0 in omega (arith, a, h)

  -- those of others

  kept : (y : Party) (xs : List Party) → y.pid ≢ pid → without pid (y ∷ xs) ≡ y ∷ without pid xs
  kept y xs z =
      let P : Bool → Type 0 = λ b. cond b (without pid xs) (y ∷ without pid xs) ≡ y ∷ without pid xs in
      subst P (sym (eq-differ y.pid pid z)) refl

  dropped : (y : Party) (xs : List Party) → y.pid ≡ pid → without pid (y ∷ xs) ≡ without pid xs
  dropped y xs e =
      let P : Bool → Type 0 = λ b. cond b (without pid xs) (y ∷ without pid xs) ≡ without pid xs in
      subst P (sym (eq-same y.pid pid e)) refl

  -- who is among those of others

  pub without-gone : (xs : List Party) (x : Party) → Has (without pid xs) x → x.pid ≢ pid
  without-gone [] x h = absurd h
  without-gone (y ∷ xs) x h = by_test (without-gone xs x) (let c : (y.pid ≡ pid) ⊎ (y.pid ≢ pid) = grind arith in c)
    where
      by_has : (Has (without pid xs) x → x.pid ≢ pid) → y.pid ≢ pid → Has (y ∷ without pid xs) x → x.pid ≢ pid
      by_has rest z (inl e) = λ s. z (ap (λ (p : Party). p.pid) e ∙ s)
      by_has rest z (inr g) = rest g

      by_test : (Has (without pid xs) x → x.pid ≢ pid) → (y.pid ≡ pid) ⊎ (y.pid ≢ pid) → x.pid ≢ pid
      by_test rest (inl e) = rest (subst (λ (l : List Party). Has l x) (dropped y xs e) h)
      by_test rest (inr z) = by_has rest z (subst (λ (l : List Party). Has l x) (kept y xs z) h)

  pub without-stays : (xs : List Party) (x : Party) → x.pid ≢ pid → Has xs x → Has (without pid xs) x
  without-stays [] x z h = absurd h
  without-stays (y ∷ xs) x z (inl e) =
      let far : y.pid ≢ pid = λ s. z (ap (λ (p : Party). p.pid) (sym e) ∙ s) in
      subst (λ (l : List Party). Has l x) (sym (kept y xs far)) (inl e)
  without-stays (y ∷ xs) x z (inr h) = by_test (without-stays xs x z h) (let c : (y.pid ≡ pid) ⊎ (y.pid ≢ pid) = grind arith in c)
    where
      by_test : Has (without pid xs) x → (y.pid ≡ pid) ⊎ (y.pid ≢ pid) → Has (without pid (y ∷ xs)) x
      by_test g (inl e) = subst (λ (l : List Party). Has l x) (sym (dropped y xs e)) g
      by_test g (inr far) = subst (λ (l : List Party). Has l x) (sym (kept y xs far)) (inr g)

  pub without-only : (xs : List Party) (x : Party) → Has (without pid xs) x → Has xs x
  without-only [] x h = absurd h
  without-only (y ∷ xs) x h = by_test (without-only xs x) (let c : (y.pid ≡ pid) ⊎ (y.pid ≢ pid) = grind arith in c)
    where
      by_has : (Has (without pid xs) x → Has xs x) → Has (y ∷ without pid xs) x → Has (y ∷ xs) x
      by_has rest (inl e) = inl e
      by_has rest (inr g) = inr (rest g)

      by_test : (Has (without pid xs) x → Has xs x) → (y.pid ≡ pid) ⊎ (y.pid ≢ pid) → Has (y ∷ xs) x
      by_test rest (inl e) = inr (rest (subst (λ (l : List Party). Has l x) (dropped y xs e) h))
      by_test rest (inr far) = by_has rest (subst (λ (l : List Party). Has l x) (kept y xs far) h)

  pub without-ascends : (n : ℕ) (xs : List Party) → Ascends n xs → Ascends n (without pid xs)
  without-ascends n [] up = tt
  without-ascends n (y ∷ xs) up = by_test (without-ascends (suc (code y)) xs up.2) (let c : (y.pid ≡ pid) ⊎ (y.pid ≢ pid) = grind arith in c)
    where
      by_test : Ascends (suc (code y)) (without pid xs) → (y.pid ≡ pid) ⊎ (y.pid ≢ pid) → Ascends n (without pid (y ∷ xs))
      by_test rest (inl e) =
          subst (Ascends n) (sym (dropped y xs e)) (ascends-from n (suc (code y)) (without pid xs) rest (let a = up.0 in omega (arith, a)))
      by_test rest (inr far) = subst (Ascends n) (sym (kept y xs far)) (up.0, up.1, rest)

  -- they are all but those between two places

  without-none : (n : ℕ) (xs : List Party) → Ascends n xs → pid * 65536 + 65536 ≤ n → without pid xs ≡ xs
  without-none n [] up h = refl
  without-none n (y ∷ xs) up h =
      let a = up.0 in
      let i1 = up.1.1 in
      let far : y.pid ≢ pid = omega (arith, a, i1, h) in
      kept y xs far ∙ ap (λ (l : List Party). y ∷ l) (without-none (suc (code y)) xs up.2 (omega (arith, a, h)))

  pub without-range : (n : ℕ) (xs : List Party) (f a : ℕ) → Ascends n xs → Between xs f a → remove_range xs f a ≡ without pid xs
  without-range n [] zero zero up b = refl
  without-range n [] zero (suc a) up b = refl
  without-range n [] (suc f) zero up b = refl
  without-range n [] (suc f) (suc a) up b = refl
  without-range n (y ∷ xs) zero zero up b = sym (without-none (code y) (y ∷ xs) ((omega arith), up.1, up.2) b.1)
  without-range n (y ∷ xs) zero (suc a) up b =
      let p = b.0 in
      let q = b.1 in
      let q0 = q.0 in
      without-range (suc (code y)) xs zero a up.2 (place-low (suc (code y)) xs (pid * 65536) up.2 (omega (arith, p)), q.1)
      ∙ sym (dropped y xs (its y up.1 p q0))
  without-range n (y ∷ xs) (suc f) zero up b = absurd (let p = b.0 in let p0 = p.0 in let q = b.1 in omega (arith, p0, q))
  without-range n (y ∷ xs) (suc f) (suc a) up b =
      let p = b.0 in
      let q = b.1 in
      let p0 = p.0 in
      let far : y.pid ≢ pid = omega (arith, p0) in
      ap (λ (l : List Party). y ∷ l) (without-range (suc (code y)) xs f a up.2 (p.1, q.1)) ∙ sym (kept y xs far)

  pub without-length : (n : ℕ) (xs : List Party) (f a : ℕ) → Ascends n xs → Between xs f a → length (without pid xs) + (a - f) ≡ length xs
  without-length n [] f a up b = let p = b.0 in let q = b.1 in omega (arith, p, q)
  without-length n (y ∷ xs) zero zero up b =
      let p = b.0 in
      let q = b.1 in
      let is = up.1 in
      let i1 = is.1 in
      let z : y.pid ≢ pid = omega (arith, q, i1) in
      let r = without-length (suc (code y)) xs zero zero up.2
      (place-low (suc (code y)) xs (pid * 65536) up.2 (omega (arith, p)), place-low (suc (code y)) xs (pid * 65536 + 65536) up.2 (omega (arith, q))) in
      let e = ap length (kept y xs z) in omega (arith, r, e)
  without-length n (y ∷ xs) zero (suc a) up b =
      let p = b.0 in
      let q = b.1 in
      let q0 = q.0 in
      let r = without-length (suc (code y)) xs zero a up.2 (place-low (suc (code y)) xs (pid * 65536) up.2 (omega (arith, p)), q.1) in
      let e = ap length (dropped y xs (its y up.1 p q0)) in omega (arith, r, e)
  without-length n (y ∷ xs) (suc f) zero up b = absurd (let p = b.0 in let p0 = p.0 in let q = b.1 in omega (arith, p0, q))
  without-length n (y ∷ xs) (suc f) (suc a) up b =
      let p = b.0 in
      let q = b.1 in
      let p0 = p.0 in
      let z : y.pid ≢ pid = omega (arith, p0) in
      let r = without-length (suc (code y)) xs f a up.2 (p.1, q.1) in
      let e = ap length (kept y xs z) in omega (arith, r, e)

  pub without-low : (n : ℕ) (xs : List Party) (f i : ℕ) → Ascends n xs → IsPlace xs (pid * 65536) f → i < f → slice_get (without pid xs) i ≡ slice_get xs i
  without-low n [] f i up b h = absurd (omega (arith, b, h))
  without-low n (y ∷ xs) zero i up b h = absurd (omega (arith, h))
  without-low n (y ∷ xs) (suc f) zero up b h =
      let p0 = b.0 in
      let z : y.pid ≢ pid = omega (arith, p0) in ap (λ (l : List Party). slice_get l 0) (kept y xs z)
  without-low n (y ∷ xs) (suc f) (suc i) up b h =
      let p0 = b.0 in
      let z : y.pid ≢ pid = omega (arith, p0) in
      ap (λ (l : List Party). slice_get l (suc i)) (kept y xs z) ∙ without-low (suc (code y)) xs f i up.2 b.1 (omega (arith, h))

  pub without-high : (n : ℕ) (xs : List Party) (f a i : ℕ) → Ascends n xs → Between xs f a → f ≤ i → slice_get (without pid xs) i ≡ slice_get xs (i + (a - f))
  without-high n [] f a i up b h = refl
  without-high n (y ∷ xs) zero zero zero up b h =
      let q = b.1 in
      let is = up.1 in
      let i1 = is.1 in
      let z : y.pid ≢ pid = omega (arith, q, i1) in ap (λ (l : List Party). slice_get l 0) (kept y xs z)
  without-high n (y ∷ xs) zero zero (suc i) up b h =
      let p = b.0 in
      let q = b.1 in
      let is = up.1 in
      let i1 = is.1 in
      let z : y.pid ≢ pid = omega (arith, q, i1) in
      let r = without-high (suc (code y)) xs zero zero i up.2
      (place-low (suc (code y)) xs (pid * 65536) up.2 (omega (arith, p)), place-low (suc (code y)) xs (pid * 65536 + 65536) up.2 (omega (arith, q))) (omega arith) in
      let e : suc (i + (0 - 0)) ≡ suc i + (0 - 0) = omega arith in
      ap (λ (l : List Party). slice_get l (suc i)) (kept y xs z) ∙ r ∙ ap (slice_get (y ∷ xs)) e
  without-high n (y ∷ xs) zero (suc a) i up b h =
      let p = b.0 in
      let q = b.1 in
      let q0 = q.0 in
      let r = without-high (suc (code y)) xs zero a i up.2 (place-low (suc (code y)) xs (pid * 65536) up.2 (omega (arith, p)), q.1) (omega arith) in
      let e : suc (i + (a - 0)) ≡ i + (suc a - 0) = omega arith in
      ap (λ (l : List Party). slice_get l i) (dropped y xs (its y up.1 p q0)) ∙ r ∙ ap (slice_get (y ∷ xs)) e
  without-high n (y ∷ xs) (suc f) zero i up b h = absurd (let p = b.0 in let p0 = p.0 in let q = b.1 in omega (arith, p0, q))
  without-high n (y ∷ xs) (suc f) (suc a) zero up b h = absurd (omega (arith, h))
  without-high n (y ∷ xs) (suc f) (suc a) (suc i) up b h =
      let p = b.0 in
      let q = b.1 in
      let p0 = p.0 in
      let z : y.pid ≢ pid = omega (arith, p0) in
      let r = without-high (suc (code y)) xs f a i up.2 (p.1, q.1) (omega (arith, h)) in
      let e : suc (i + (a - f)) ≡ suc i + (suc a - suc f) = omega arith in
      ap (λ (l : List Party). slice_get l (suc i)) (kept y xs z) ∙ r ∙ ap (slice_get (y ∷ xs)) e

-- two ascending lists of the same parties are one
pub same-line : (m n : ℕ) (xs ys : List Party) → Ascends m xs → Ascends n ys → ((p : Party) → Has xs p → Has ys p) → ((p : Party) → Has ys p → Has xs p) → xs ≡ ys
same-line m n [] [] up down there back = refl
same-line m n [] (y ∷ ys) up down there back = absurd (back y (inl refl))
same-line m n (x ∷ xs) [] up down there back = absurd (there x (inl refl))
same-line m n (x ∷ xs) (y ∷ ys) up down there back =
    let low = has-code (code y) (y ∷ ys) x ((omega arith), down.1, down.2) (there x (inl refl)) in
    let high = has-code (code x) (x ∷ xs) y ((omega arith), up.1, up.2) (back y (inl refl)) in
    let first : x ≡ y = same-party x y up.1 down.1 (omega (arith, low, high)) in
    let rest : xs ≡ ys = same-line (suc (code x)) (suc (code y)) xs ys up.2 down.2
    (λ p h. later x y xs ys p first up.2 h (there p (inr h)))
    (λ p h. later y x ys xs p (sym first) down.2 h (back p (inr h))) in
    λ i. first i ∷ rest i
  where
    later : (x y : Party) (xs ys : List Party) (p : Party) → x ≡ y → Ascends (suc (code x)) xs → Has xs p → Has (y ∷ ys) p → Has ys p
    later x y xs ys p e up h (inl s) = absurd (let c = has-code (suc (code x)) xs p up h in let d : code x ≡ code y = ap code e in let f : code y ≡ code p = ap code s in omega (arith, c, d, f))
    later x y xs ys p e up h (inr g) = g

pub got : (xs : List Party) (i : ℕ) (p : Party) → i < length xs → p ≡ get_or xs i nobody_here → slice_get xs i ≡ Some p
got [] i p h e = absurd (omega (arith, h))
got (x ∷ xs) zero p h e = ap Some (sym e)
got (x ∷ xs) (suc i) p h e = got xs i p (omega (arith, h)) e

pub either-line : (xs ys zs : List Party) (t : Bool) → zs ≡ cond t ys xs → Ascends 0 xs → Ascends 0 ys → Ascends 0 zs
either-line xs ys zs true e up down = subst (Ascends 0) (sym e) down
either-line xs ys zs false e up down = subst (Ascends 0) (sym e) up

pub more-line : (lines : List (List Party)) (d : ℕ) → line (lines ++ [] ∷ []) d ≡ line lines d
more-line [] zero = refl
more-line [] (suc d) = refl
more-line (l ∷ ls) zero = refl
more-line (l ∷ ls) (suc d) = more-line ls d

-- a line of one party

module _ (pid : ℕ) where
  pub one-own : (xs : List Party) → length xs ≡ 1 → (get_or xs 0 nobody_here).pid ≡ pid → without pid xs ≡ []
  one-own [] h e = absurd (omega (arith, h))
  one-own (x ∷ []) h e = dropped pid x [] e
  one-own (x ∷ y ∷ ys) h e = absurd (omega (arith, h))

  pub one-others : (xs : List Party) → length xs ≡ 1 → (get_or xs 0 nobody_here).pid ≢ pid → without pid xs ≡ xs
  one-others [] h z = absurd (omega (arith, h))
  one-others (x ∷ []) h z = kept pid x [] z
  one-others (x ∷ y ∷ ys) h z = absurd (omega (arith, h))

  pub one-at : (xs : List Party) (i : ℕ) → length xs ≡ 1 → i < length (without pid xs) → slice_get (without pid xs) i ≡ Some (get_or xs 0 nobody_here)
  one-at [] i h l = absurd (omega (arith, h))
  one-at (x ∷ y ∷ ys) i h l = absurd (omega (arith, h))
  one-at (x ∷ []) i h l = by_pid (let c : (x.pid ≡ pid) ⊎ (x.pid ≢ pid) = grind arith in c)
    where
      by_pid : (x.pid ≡ pid) ⊎ (x.pid ≢ pid) → slice_get (without pid (x ∷ [])) i ≡ Some x
      by_pid (inl e) = absurd (let n = ap length (dropped pid x [] e) in omega (arith, n, l))
      by_pid (inr z) =
          let n = ap length (kept pid x [] z) in
          let first : i ≡ 0 = omega (arith, n, l) in
          ap (λ (ys : List Party). slice_get ys i) (kept pid x [] z) ∙ ap (slice_get (x ∷ [])) first

  pub one-has : (xs : List Party) (x : Party) → length xs ≡ 1 → Has xs x → x ≡ get_or xs 0 nobody_here
  one-has [] x h g = absurd g
  one-has (y ∷ []) x h (inl e) = sym e
  one-has (y ∷ []) x h (inr g) = absurd g
  one-has (y ∷ z ∷ ys) x h g = absurd (omega (arith, h))
