-- Those that wait until others have finished, and whom they watch.
use Rattle.std.proofs.Common.{◌≡◌, ◌≢◌, ℕ, zero, suc, ◌+◌, ◌-◌, ◌<◌, ◌≤◌, List, [], ◌∷◌, ◌++◌, Some, Bool, true, false, cond, length, get_or, drop, ◌⊎◌, inl, inr, sym, ◌∙◌, ap, subst, refl, arith}
use Rattle.std.specs.Prelude.{nat_eq, slice_set, ◌||◌}
use Rattle.std.proofs.lemmas.Bool.{false≢true}
use Rattle.chi_order.specs.Marked.{is_marked}
use Rattle.chi_machine_agenda.specs.Joined.{numbers_at, has_ended, still, is_in, lowered_by, lowered, freed_by, freed, Sees, IsSeen, AreSeen, IsWatched, AreLeft, AreRoomy}
use Rattle.chi_machine_agenda.proofs.Lists.{eq-cases, eq-yes, eq-no, eq-is, got, or-there, or-other, or-past, set-length, set-twice, set-same, drop-step, drop-end}

either-or : (a b : Bool) → (a || b) ≡ true → (a ≡ true) ⊎ (b ≡ true)
either-or true b e = inl refl
either-or false b e = inr e

or-right : (a b : Bool) → b ≡ true → (a || b) ≡ true
or-right true b e = refl
or-right false b e = e

or-left : (a b : Bool) → a ≡ true → (a || b) ≡ true
or-left true b e = refl
or-left false b e = absurd (false≢true e)

-- up to which numbers are still waited for

pub still-within : (ended : List Bool) (numbers : List ℕ) (n : ℕ) → still ended numbers n ≤ n
still-within ended numbers zero = omega arith
still-within ended numbers (suc n) = by_test (has_ended ended (get_or numbers n 0)) (still-within ended numbers n)
  where
    by_test : (b : Bool) → still ended numbers n ≤ n → cond b (still ended numbers n) (suc n) ≤ suc n
    by_test true h = omega (arith, h)
    by_test false h = omega arith

-- one of them that has finished is passed over, and one that hasn't ends it
pub still-ended : (ended : List Bool) (numbers : List ℕ) (n : ℕ) → has_ended ended (get_or numbers n 0) ≡ true → still ended numbers (suc n) ≡ still ended numbers n
still-ended ended numbers n e = ap (λ b. cond b (still ended numbers n) (suc n)) e

pub still-waits : (ended : List Bool) (numbers : List ℕ) (n : ℕ) → has_ended ended (get_or numbers n 0) ≡ false → still ended numbers (suc n) ≡ suc n
still-waits ended numbers n e = ap (λ b. cond b (still ended numbers n) (suc n)) e

-- what stops it hasn't finished
pub still-stops : (ended : List Bool) (numbers : List ℕ) (n m : ℕ) → still ended numbers n ≡ suc m → has_ended ended (get_or numbers m 0) ≡ false
still-stops ended numbers zero m e = absurd (omega (arith, e))
still-stops ended numbers (suc n) m e = by_test (has_ended ended (get_or numbers n 0)) refl e (still-stops ended numbers n m)
  where
    by_test : (b : Bool) → has_ended ended (get_or numbers n 0) ≡ b → cond b (still ended numbers n) (suc n) ≡ suc m
        → (still ended numbers n ≡ suc m → has_ended ended (get_or numbers m 0) ≡ false) → has_ended ended (get_or numbers m 0) ≡ false
    by_test true is h rest = rest h
    by_test false is h rest = let same : n ≡ m = omega (arith, h) in subst (λ (k : ℕ). has_ended ended (get_or numbers k 0) ≡ false) same is

-- and all from there on have
pub still-over : (ended : List Bool) (numbers : List ℕ) (n k : ℕ) → still ended numbers n ≤ k → k < n → has_ended ended (get_or numbers k 0) ≡ true
still-over ended numbers zero k h l = absurd (omega (arith, l))
still-over ended numbers (suc n) k h l = by_test (has_ended ended (get_or numbers n 0)) refl h (still-over ended numbers n k)
  where
    by_test : (b : Bool) → has_ended ended (get_or numbers n 0) ≡ b → cond b (still ended numbers n) (suc n) ≤ k
        → (still ended numbers n ≤ k → k < n → has_ended ended (get_or numbers k 0) ≡ true) → has_ended ended (get_or numbers k 0) ≡ true
    by_test true is g rest = by_place (eq-cases k n)
      where
        by_place : (k ≡ n) ⊎ (k ≢ n) → has_ended ended (get_or numbers k 0) ≡ true
        by_place (inl same) = subst (λ (j : ℕ). has_ended ended (get_or numbers j 0) ≡ true) (sym same) is
        by_place (inr other) = rest g (omega (arith, l, other))
    by_test false is g rest = absurd (omega (arith, g, l))

-- a second look finds the same
pub still-again : (ended : List Bool) (numbers : List ℕ) (n : ℕ) → still ended numbers (still ended numbers n) ≡ still ended numbers n
still-again ended numbers zero = refl
still-again ended numbers (suc n) = by_test (has_ended ended (get_or numbers n 0)) refl (still-again ended numbers n)
  where
    by_test : (b : Bool) → has_ended ended (get_or numbers n 0) ≡ b → still ended numbers (still ended numbers n) ≡ still ended numbers n
        → still ended numbers (cond b (still ended numbers n) (suc n)) ≡ cond b (still ended numbers n) (suc n)
    by_test true is h = h
    by_test false is h = still-waits ended numbers n is

-- the step of a loop down the numbers
pub still-back : (ended : List Bool) (numbers : List ℕ) (n x : ℕ) → 0 < n → has_ended ended x ≡ true → x ≡ get_or numbers (n - 1) 0 → still ended numbers (n - 1) ≡ still ended numbers n
still-back ended numbers zero x h e is = absurd (omega (arith, h))
still-back ended numbers (suc m) x h e is =
    let one : suc m - 1 ≡ m = omega arith in
    ap (still ended numbers) one ∙ sym (still-ended ended numbers m (sym (ap (has_ended ended) (is ∙ ap (λ k. get_or numbers k 0) one)) ∙ e))

pub still-here : (ended : List Bool) (numbers : List ℕ) (n x : ℕ) → 0 < n → has_ended ended x ≡ false → x ≡ get_or numbers (n - 1) 0 → n ≡ still ended numbers n
still-here ended numbers zero x h e is = absurd (omega (arith, h))
still-here ended numbers (suc m) x h e is =
    let one : suc m - 1 ≡ m = omega arith in
    sym (still-waits ended numbers m (sym (ap (has_ended ended) (is ∙ ap (λ k. get_or numbers k 0) one)) ∙ e))

pub still-none : (ended : List Bool) (numbers : List ℕ) (n : ℕ) → n ≤ 0 → still ended numbers n ≡ 0
still-none ended numbers zero h = refl
still-none ended numbers (suc n) h = absurd (omega (arith, h))

-- lists of watchers

pub in-more : (w q : ℕ) (xs : List ℕ) → is_in w xs ≡ true → is_in w (xs ++ q ∷ []) ≡ true
in-more w q [] e = absurd (false≢true e)
in-more w q (x ∷ xs) e = by_either (either-or (nat_eq x w) (is_in w xs) e) (in-more w q xs)
  where
    by_either : (nat_eq x w ≡ true) ⊎ (is_in w xs ≡ true) → (is_in w xs ≡ true → is_in w (xs ++ q ∷ []) ≡ true) → (nat_eq x w || is_in w (xs ++ q ∷ [])) ≡ true
    by_either (inl h) rest = or-left (nat_eq x w) (is_in w (xs ++ q ∷ [])) h
    by_either (inr h) rest = or-right (nat_eq x w) (is_in w (xs ++ q ∷ [])) (rest h)

pub in-last : (w : ℕ) (xs : List ℕ) → is_in w (xs ++ w ∷ []) ≡ true
in-last w [] = or-left (nat_eq w w) false (eq-yes w w refl)
in-last w (x ∷ xs) = or-right (nat_eq x w) (is_in w (xs ++ w ∷ [])) (in-last w xs)

pub watched-none : (ended : List Bool) (watchers : List (List ℕ)) → IsWatched ended watchers watchers
watched-none ended watchers = record { kept = λ q w h. h; same = λ q e. refl; room = refl }

pub watched-then : (ended : List Bool) (a b c : List (List ℕ)) → IsWatched ended a b → IsWatched ended b c → IsWatched ended a c
watched-then ended a b c u v = record {
  kept = λ q w h. v.kept q w (u.kept q w h);
  same = λ q e. v.same q e ∙ u.same q e;
  room = v.room ∙ u.room;
}

-- one more watches an instance that hasn't finished
pub watched-more : (ended : List Bool) (watchers new : List (List ℕ)) (q w : ℕ) → new ≡ slice_set watchers q (numbers_at watchers q ++ w ∷ []) → q < length watchers
    → has_ended ended q ≡ false → IsWatched ended watchers new × (is_in w (numbers_at new q) ≡ true)
watched-more ended watchers new q w e h runs = (
  record { kept = λ r v g. kept r v g (eq-cases r q); same = λ r f. same r f (eq-cases r q); room = ap length e ∙ set-length watchers q (numbers_at watchers q ++ w ∷ []) },
  ap (is_in w) its ∙ in-last w (numbers_at watchers q),
)
  where
    its : numbers_at new q ≡ numbers_at watchers q ++ w ∷ []
    its = ap (λ l. numbers_at l q) e ∙ or-there watchers q (numbers_at watchers q ++ w ∷ []) [] h

    other : (r : ℕ) → r ≢ q → numbers_at new r ≡ numbers_at watchers r
    other r n = ap (λ l. numbers_at l r) e ∙ or-other watchers q r (numbers_at watchers q ++ w ∷ []) [] n

    kept : (r v : ℕ) → is_in v (numbers_at watchers r) ≡ true → (r ≡ q) ⊎ (r ≢ q) → is_in v (numbers_at new r) ≡ true
    kept r v g (inl is) =
        let there : is_in v (numbers_at watchers q) ≡ true = subst (λ (k : ℕ). is_in v (numbers_at watchers k) ≡ true) is g in
        ap (λ k. is_in v (numbers_at new k)) is ∙ ap (is_in v) its ∙ in-more v w (numbers_at watchers q) there
    kept r v g (inr n) = ap (is_in v) (other r n) ∙ g

    same : (r : ℕ) → has_ended ended r ≡ true → (r ≡ q) ⊎ (r ≢ q) → numbers_at new r ≡ numbers_at watchers r
    same r f (inl is) = absurd (false≢true (sym runs ∙ ap (has_ended ended) (sym is) ∙ f))
    same r f (inr n) = other r n

pub no-sees : (own : List ℕ) (left : ℕ) (watchers : List (List ℕ)) (w : ℕ) → left ≡ 0 → Sees own left watchers w
no-sees own left watchers w e n g = absurd (omega (arith, e, g))

-- an instance watches the last number that is left
pub watch-more : (ended : List Bool) (own : List ℕ) (n left x w : ℕ) (watchers new : List (List ℕ)) → left ≡ still ended own n → left ≢ 0 → x ≡ get_or own (left - 1) 0
    → x < length watchers → new ≡ slice_set watchers x (numbers_at watchers x ++ w ∷ []) → IsWatched ended watchers new × Sees own (still ended own n) new w
watch-more ended own n zero x w watchers new is some at h e = absurd (some refl)
watch-more ended own n (suc m) x w watchers new is some at h e =
    let one : suc m - 1 ≡ m = omega arith in
    let its : x ≡ get_or own m 0 = at ∙ ap (λ k. get_or own k 0) one in
    let more = watched-more ended watchers new x w e h (ap (has_ended ended) its ∙ still-stops ended own n m (sym is)) in
    (more.0, λ k g. let same : m ≡ k = omega (arith, is, g) in ap (λ j. is_in w (numbers_at new (get_or own j 0))) (sym same) ∙ ap (λ y. is_in w (numbers_at new y)) (sym its) ∙ more.1)

pub sees-kept : (ended : List Bool) (own : List ℕ) (left w : ℕ) (old new : List (List ℕ)) → IsWatched ended old new → Sees own left old w → Sees own left new w
sees-kept ended own left w old new u s n e = u.kept (get_or own n 0) w (s n e)

-- all watchers of an instance look for others

-- those before a number have
abbrev pub AreSeenBelow : List Bool → List (List ℕ) → List ℕ → List ℕ → ℕ → List (List ℕ) → Type 0
AreSeenBelow ended numbers left ws i watchers = (w : ℕ) → is_in w ws ≡ true → IsSeen ended numbers left watchers w ⊎ (is_in w (drop i ws) ≡ true)

pub seen-first : (ended : List Bool) (numbers : List (List ℕ)) (left ws : List ℕ) (watchers : List (List ℕ)) → AreSeenBelow ended numbers left ws 0 watchers
seen-first ended numbers left [] watchers w h = inr h
seen-first ended numbers left (x ∷ xs) watchers w h = inr h

pub seen-more : (ended : List Bool) (numbers : List (List ℕ)) (left ws : List ℕ) (i : ℕ) (old new : List (List ℕ)) → i < length ws → IsWatched ended old new
    → IsSeen ended numbers left new (get_or ws i 0) → AreSeenBelow ended numbers left ws i old → AreSeenBelow ended numbers left ws (i + 1) new
seen-more ended numbers left ws i old new h u its so w g = by_case (so w g)
  where
    by_rest : (nat_eq (get_or ws i 0) w ≡ true) ⊎ (is_in w (drop (i + 1) ws) ≡ true) → IsSeen ended numbers left new w ⊎ (is_in w (drop (i + 1) ws) ≡ true)
    by_rest (inl e) = inl (subst (λ (k : ℕ). IsSeen ended numbers left new k) (eq-is (get_or ws i 0) w e) its)
    by_rest (inr e) = inr e

    by_case : IsSeen ended numbers left old w ⊎ (is_in w (drop i ws) ≡ true) → IsSeen ended numbers left new w ⊎ (is_in w (drop (i + 1) ws) ≡ true)
    by_case (inl s) = inl (sees-kept ended (numbers_at numbers w) (still ended (numbers_at numbers w) (get_or left w 0)) w old new u s)
    by_case (inr e) = by_rest (either-or (nat_eq (get_or ws i 0) w) (is_in w (drop (i + 1) ws)) (sym (ap (is_in w) (drop-step ws i 0 h)) ∙ e))

pub seen-all : (ended : List Bool) (numbers : List (List ℕ)) (left ws : List ℕ) (i : ℕ) (watchers : List (List ℕ)) → length ws ≤ i
    → AreSeenBelow ended numbers left ws i watchers → AreSeen ended numbers left ws watchers
seen-all ended numbers left ws i watchers h so w g = by_case (so w g)
  where
    by_case : IsSeen ended numbers left watchers w ⊎ (is_in w (drop i ws) ≡ true) → IsSeen ended numbers left watchers w
    by_case (inl s) = s
    by_case (inr e) = absurd (false≢true (sym (ap (is_in w) (drop-end ws i h)) ∙ e))

-- and pass over those that have finished

module _ (ended : List Bool) (numbers : List (List ℕ)) where
  abbrev pub now_left : List ℕ → ℕ → ℕ
  now_left left w = still ended (numbers_at numbers w) (get_or left w 0)

  positive : (left : List ℕ) (w n : ℕ) → get_or left w 0 ≡ suc n → w < length left
  positive [] w n e = absurd (omega (arith, e))
  positive (x ∷ xs) zero n e = omega arith
  positive (x ∷ xs) (suc w) n e = let r = positive xs w n e in omega (arith, r)

  -- of itself
  pub lowered-it : (left : List ℕ) (w : ℕ) → get_or (lowered_by ended numbers w left) w 0 ≡ now_left left w
  lowered-it left w = by_count (get_or left w 0) refl
    where
      by_count : (n : ℕ) → get_or left w 0 ≡ n → get_or (lowered_by ended numbers w left) w 0 ≡ now_left left w
      by_count zero e =
          let test : nat_eq (get_or left w 0) 0 ≡ true = eq-yes (get_or left w 0) 0 e in
          ap (λ b. get_or (cond b left (slice_set left w (now_left left w))) w 0) test ∙ e ∙ sym (ap (still ended (numbers_at numbers w)) e)
      by_count (suc n) e =
          let test : nat_eq (get_or left w 0) 0 ≡ false = eq-no (get_or left w 0) 0 (λ z. omega (arith, z, e)) in
          ap (λ b. get_or (cond b left (slice_set left w (now_left left w))) w 0) test ∙ or-there left w (now_left left w) 0 (positive left w n e)

  pub lowered-other : (left : List ℕ) (w v : ℕ) → v ≢ w → get_or (lowered_by ended numbers w left) v 0 ≡ get_or left v 0
  lowered-other left w v n = by_test (nat_eq (get_or left w 0) 0)
    where
      by_test : (b : Bool) → get_or (cond b left (slice_set left w (now_left left w))) v 0 ≡ get_or left v 0
      by_test true = refl
      by_test false = or-other left w v (now_left left w) 0 n

  pub lowered-length : (left : List ℕ) (w : ℕ) → length (lowered_by ended numbers w left) ≡ length left
  lowered-length left w = by_test (nat_eq (get_or left w 0) 0)
    where
      by_test : (b : Bool) → length (cond b left (slice_set left w (now_left left w))) ≡ length left
      by_test true = refl
      by_test false = set-length left w (now_left left w)

  -- no more are left than were
  pub lowered-less : (left : List ℕ) (w v : ℕ) → get_or (lowered_by ended numbers w left) v 0 ≤ get_or left v 0
  lowered-less left w v = by_place (eq-cases v w)
    where
      by_place : (v ≡ w) ⊎ (v ≢ w) → get_or (lowered_by ended numbers w left) v 0 ≤ get_or left v 0
      by_place (inl is) =
          subst (λ (k : ℕ). get_or (lowered_by ended numbers w left) k 0 ≤ get_or left k 0) (sym is)
          (let e = lowered-it left w in let h = still-within ended (numbers_at numbers w) (get_or left w 0) in omega (arith, e, h))
      by_place (inr n) = let e = lowered-other left w v n in omega (arith, e)

  pub all-length : (ws left : List ℕ) → length (lowered ended numbers ws left) ≡ length left
  all-length [] left = refl
  all-length (w ∷ ws) left = all-length ws (lowered_by ended numbers w left) ∙ lowered-length left w

  pub left-all : (ws left : List ℕ) (v : ℕ) → get_or (lowered ended numbers ws left) v 0 ≡ cond (is_in v ws) (now_left left v) (get_or left v 0)
  left-all [] left v = refl
  left-all (w ∷ ws) left v = left-all ws (lowered_by ended numbers w left) v ∙ by_place (eq-cases w v)
    where
      its : Bool → ℕ
      its b = cond (b || is_in v ws) (now_left left v) (get_or left v 0)

      either : (b : Bool) (n : ℕ) → cond b n n ≡ n
      either true n = refl
      either false n = refl

      by_place : (w ≡ v) ⊎ (w ≢ v)
          → cond (is_in v ws) (now_left (lowered_by ended numbers w left) v) (get_or (lowered_by ended numbers w left) v 0) ≡ cond (nat_eq w v || is_in v ws) (now_left left v) (get_or left v 0)
      by_place (inl is) =
          let now : get_or (lowered_by ended numbers w left) v 0 ≡ now_left left v =
          subst (λ (k : ℕ). get_or (lowered_by ended numbers w left) k 0 ≡ now_left left k) is (lowered-it left w) in
          (λ j. cond (is_in v ws) (still ended (numbers_at numbers v) (now j)) (now j))
          ∙ ap (λ n. cond (is_in v ws) n (now_left left v)) (still-again ended (numbers_at numbers v) (get_or left v 0))
          ∙ either (is_in v ws) (now_left left v) ∙ sym (ap its (eq-yes w v is))
      by_place (inr n) =
          let now : get_or (lowered_by ended numbers w left) v 0 ≡ get_or left v 0 = lowered-other left w v (λ e. n (sym e)) in
          (λ j. cond (is_in v ws) (still ended (numbers_at numbers v) (now j)) (now j)) ∙ sym (ap its (eq-no w v n))

  -- who is ready

  pub freed-length : (w : ℕ) (left : List ℕ) (marks : List Bool) → length (freed_by ended numbers w left marks) ≡ length marks
  freed-length w left marks = by_tests (nat_eq (get_or left w 0) 0) (nat_eq (now_left left w) 0)
    where
      by_tests : (a b : Bool) → length (cond a marks (cond b (slice_set marks w true) marks)) ≡ length marks
      by_tests true b = refl
      by_tests false true = set-length marks w true
      by_tests false false = refl

  pub freed-all-length : (ws left : List ℕ) (marks : List Bool) → length (freed ended numbers ws left marks) ≡ length marks
  freed-all-length [] left marks = refl
  freed-all-length (w ∷ ws) left marks = freed-all-length ws (lowered_by ended numbers w left) (freed_by ended numbers w left marks) ∙ freed-length w left marks

  -- One that had none left is as it was. One that had some is ready where none is left, if it wasn't.
  pub freed-idle : (ws left : List ℕ) (marks : List Bool) (v : ℕ) → get_or left v 0 ≡ 0 → is_marked (freed ended numbers ws left marks) v ≡ is_marked marks v
  freed-idle [] left marks v e = refl
  freed-idle (w ∷ ws) left marks v e =
      freed-idle ws (lowered_by ended numbers w left) (freed_by ended numbers w left marks) v (let h = lowered-less left w v in omega (arith, h, e)) ∙ by_place (eq-cases w v)
    where
      by_place : (w ≡ v) ⊎ (w ≢ v) → is_marked (freed_by ended numbers w left marks) v ≡ is_marked marks v
      by_place (inl is) =
          let none : nat_eq (get_or left w 0) 0 ≡ true = eq-yes (get_or left w 0) 0 (ap (λ k. get_or left k 0) is ∙ e) in
          ap (λ b. is_marked (cond b marks (cond (nat_eq (now_left left w) 0) (slice_set marks w true) marks)) v) none
      by_place (inr n) = by_tests (nat_eq (get_or left w 0) 0) (nat_eq (now_left left w) 0)
        where
          by_tests : (a b : Bool) → is_marked (cond a marks (cond b (slice_set marks w true) marks)) v ≡ is_marked marks v
          by_tests true b = refl
          by_tests false true = or-other marks w v true false (λ s. n (sym s))
          by_tests false false = refl

  pub roomy-more : (left : List ℕ) (w : ℕ) (marks : List Bool) → AreRoomy left marks → AreRoomy (lowered_by ended numbers w left) (freed_by ended numbers w left marks)
  roomy-more left w marks room p n g =
      let l = freed-length w left marks in
      let h = lowered-less left w p in
      by_count (get_or left p 0) refl (omega (arith, h, g)) l
    where
      by_count : (c : ℕ) → get_or left p 0 ≡ c → 0 < c → length (freed_by ended numbers w left marks) ≡ length marks → p < length (freed_by ended numbers w left marks)
      by_count zero d pos l = absurd (omega (arith, pos))
      by_count (suc k) d pos l = let u = room p k d in omega (arith, u, l)

  abbrev Frees : ℕ → List ℕ → Type 0
  Frees v ws =
      (left : List ℕ) (marks : List Bool) (m : ℕ) → get_or left v 0 ≡ suc m → is_marked marks v ≡ false → AreRoomy left marks
      → is_marked (freed ended numbers ws left marks) v ≡ nat_eq (get_or (lowered ended numbers ws left) v 0) 0

  pub freed-waiting : (ws left : List ℕ) (marks : List Bool) (v m : ℕ) → get_or left v 0 ≡ suc m → is_marked marks v ≡ false → AreRoomy left marks
      → is_marked (freed ended numbers ws left marks) v ≡ nat_eq (get_or (lowered ended numbers ws left) v 0) 0
  freed-waiting [] left marks v m e f room = f ∙ sym (eq-no (get_or left v 0) 0 (λ z. omega (arith, z, e)))
  freed-waiting (w ∷ ws) left marks v m e f room = by_place (eq-cases w v) (λ l k n. freed-waiting ws l k v n)
    where
      left' : List ℕ
      left' = lowered_by ended numbers w left

      marks' : List Bool
      marks' = freed_by ended numbers w left marks

      roomy : AreRoomy left' marks'
      roomy = roomy-more left w marks room

      some_left : nat_eq (get_or left v 0) 0 ≡ false
      some_left = eq-no (get_or left v 0) 0 (λ z. omega (arith, z, e))

      by_place : (w ≡ v) ⊎ (w ≢ v) → Frees v ws → is_marked (freed ended numbers ws left' marks') v ≡ nat_eq (get_or (lowered ended numbers ws left') v 0) 0
      by_place (inl is) rest = by_now (now_left left v) refl
        where
          its : get_or left' v 0 ≡ now_left left v
          its = subst (λ (k : ℕ). get_or (lowered_by ended numbers w left) k 0 ≡ now_left left k) is (lowered-it left w)

          none : nat_eq (get_or left w 0) 0 ≡ false
          none = ap (λ k. nat_eq (get_or left k 0) 0) is ∙ some_left

          marked : (b : Bool) → nat_eq (now_left left w) 0 ≡ b → is_marked marks' v ≡ is_marked (cond b (slice_set marks w true) marks) v
          marked b g = ap (λ a. is_marked (cond a marks (cond (nat_eq (now_left left w) 0) (slice_set marks w true) marks)) v) none ∙ ap (λ x. is_marked (cond x (slice_set marks w true) marks) v) g

          still_none : (b : Bool) → get_or left' v 0 ≡ 0 → cond b (now_left left' v) (get_or left' v 0) ≡ 0
          still_none true h = ap (still ended (numbers_at numbers v)) h
          still_none false h = h

          by_now : (n : ℕ) → now_left left v ≡ n → is_marked (freed ended numbers ws left' marks') v ≡ nat_eq (get_or (lowered ended numbers ws left') v 0) 0
          by_now zero g =
              let gone : get_or left' v 0 ≡ 0 = its ∙ g in
              let so : is_marked marks' v ≡ true =
              marked true (eq-yes (now_left left w) 0 (ap (now_left left) is ∙ g))
              ∙ subst (λ (k : ℕ). is_marked (slice_set marks w true) k ≡ true) is (or-there marks w true false (room w m (ap (λ k. get_or left k 0) is ∙ e))) in
              freed-idle ws left' marks' v gone ∙ so ∙ sym (eq-yes (get_or (lowered ended numbers ws left') v 0) 0 (left-all ws left' v ∙ still_none (is_in v ws) gone))
          by_now (suc n) g =
              let so : is_marked marks' v ≡ false = marked false (eq-no (now_left left w) 0 (λ z. let y = ap (now_left left) is in omega (arith, y, z, g))) ∙ f in
              rest left' marks' n (its ∙ g) so roomy
      by_place (inr n) rest = rest left' marks' m (lowered-other left w v (λ s. n (sym s)) ∙ e) (by_tests (nat_eq (get_or left w 0) 0) (nat_eq (now_left left w) 0)) roomy
        where
          by_tests : (a b : Bool) → is_marked (cond a marks (cond b (slice_set marks w true) marks)) v ≡ false
          by_tests true b = f
          by_tests false true = or-other marks w v true false (λ s. n (sym s)) ∙ f
          by_tests false false = f

  -- the steps of a loop over them

  pub lowered-step : (ws : List ℕ) (i : ℕ) (left : List ℕ) → i < length ws
      → lowered ended numbers (drop i ws) left ≡ lowered ended numbers (drop (i + 1) ws) (lowered_by ended numbers (get_or ws i 0) left)
  lowered-step ws i left h = ap (λ l. lowered ended numbers l left) (drop-step ws i 0 h)

  pub freed-step : (ws : List ℕ) (i : ℕ) (left : List ℕ) (marks : List Bool) → i < length ws
      → freed ended numbers (drop i ws) left marks
      ≡ freed ended numbers (drop (i + 1) ws) (lowered_by ended numbers (get_or ws i 0) left) (freed_by ended numbers (get_or ws i 0) left marks)
  freed-step ws i left marks h = ap (λ l. freed ended numbers l left marks) (drop-step ws i 0 h)

  pub lowered-end : (ws : List ℕ) (i : ℕ) (left : List ℕ) → length ws ≤ i → lowered ended numbers (drop i ws) left ≡ left
  lowered-end ws i left h = ap (λ l. lowered ended numbers l left) (drop-end ws i h)

  pub freed-end : (ws : List ℕ) (i : ℕ) (left : List ℕ) (marks : List Bool) → length ws ≤ i → freed ended numbers (drop i ws) left marks ≡ marks
  freed-end ws i left marks h = ap (λ l. freed ended numbers l left marks) (drop-end ws i h)

-- for each that has some left there is room

pub left-within : (numbers : List (List ℕ)) (left : List ℕ) (p : ℕ) → AreLeft numbers left → get_or left p 0 ≢ 0 → p < length numbers
left-within numbers left p within some = by_place (let c : (p < length numbers) ⊎ (length numbers ≤ p) = grind arith in c)
  where
    by_place : (p < length numbers) ⊎ (length numbers ≤ p) → p < length numbers
    by_place (inl h) = h
    by_place (inr h) =
        let w = within p in
        let e : length (numbers_at numbers p) ≡ 0 = ap length (or-past numbers p [] h) in
        absurd (some (omega (arith, w, e)))

pub left-roomy : (left : List ℕ) (marks : List Bool) (p : ℕ) → AreRoomy left marks → get_or left p 0 ≢ 0 → p < length marks
left-roomy left marks p room some = by_count (get_or left p 0) refl
  where
    by_count : (n : ℕ) → get_or left p 0 ≡ n → p < length marks
    by_count zero e = absurd (some e)
    by_count (suc n) e = room p n e

-- what was set to have finished and is set back
pub ended-back : (ended : List Bool) (p : ℕ) → p < length ended → has_ended ended p ≡ false → slice_set (slice_set ended p true) p false ≡ ended
ended-back ended p h e = set-twice ended p true false ∙ set-same ended p false (got ended p false h ∙ ap Some e)
