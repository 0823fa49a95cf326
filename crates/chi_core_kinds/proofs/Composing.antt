-- What is composed of what is done well is done well.
use Rattle.std.proofs.Common.{◌≡◌, ℕ, zero, suc, ◌+◌, Bool, true, false, cond, Option, Some, None, List, [], ◌∷◌, ◌++◌, length, length-append, append_assoc, append-nil, refl, sym, ap, subst, ◌∙◌, arith}
use Rattle.std.specs.Prelude.{slice_get}
use Rattle.chi_value.specs.declared.value.Value.{Value}
use Rattle.chi_core.specs.declared.view.View.{View}
use Rattle.chi_core.specs.Answer.{Answer, Gives, Fails, Spent, Amiss, Does, then_do, gives, wanted, giving, gathered, in_turn, through, gathered_times, times, ticked, tick}
use Rattle.chi_core.specs.Kinds.{Kind, Every}
use Rattle.chi_core.specs.Of.{World, Wider, AreOf, one_of, IsOf}
use Rattle.chi_core.proofs.Lists.{every_nil, every_cons}
use Rattle.chi_core.proofs.Worlds.{same_world, wider_still, value_grows}
use Rattle.chi_core_kinds.specs.Well.{Kept, Grows, Same, Well}

-- one answer

pub grows_gives : {A : Type 0} (w : World) (P : World → A → Type 0) (x : A) → P w x → Grows w P (gives x)
grows_gives w P x p view f = record { world = w; wider = same_world w; fits = f; is = p }

pub well_gives : {A : Type 0} (w : World) (P : World → A → Type 0) (x : A) → P w x → Well w P (gives x)
well_gives w P x p = grows_gives w (Same w P) x (refl, p)

pub kept_weaker : {A : Type 0} (w : World) (P Q : World → A → Type 0) → ((v : World) (x : A) → P v x → Q v x) → (answer : Answer A) → Kept w P answer → Kept w Q answer
kept_weaker w P Q f (Gives x view) k = record { world = k.world; wider = k.wider; fits = k.fits; is = f k.world x k.is }
kept_weaker w P Q f (Fails kind) k = tt
kept_weaker w P Q f Spent k = tt
kept_weaker w P Q f Amiss k = k

-- what went in a wider world went
pub after_kept : {A : Type 0} (w v : World) (P : World → A → Type 0) → Wider w v → (answer : Answer A) → Kept v P answer → Kept w P answer
after_kept w v P h (Gives x view) k = record { world = k.world; wider = wider_still w v k.world h k.wider; fits = k.fits; is = k.is }
after_kept w v P h (Fails kind) k = tt
after_kept w v P h Spent k = tt
after_kept w v P h Amiss k = k

pub not_amiss : {A : Type 0} (w : World) (P : World → A → Type 0) (answer : Answer A) → Kept w P answer → answer ≡ Amiss → ⊥
not_amiss w P answer k e = subst (Kept w P) e k

pub grows_weaker : {A : Type 0} (w : World) (P Q : World → A → Type 0) → ((v : World) (x : A) → P v x → Q v x) → (m : Does A) → Grows w P m → Grows w Q m
grows_weaker w P Q f m h view fits = kept_weaker w P Q f (m view) (h view fits)

pub well_weaker : {A : Type 0} (w : World) (P Q : World → A → Type 0) → ((v : World) (x : A) → P v x → Q v x) → (m : Does A) → Well w P m → Well w Q m
well_weaker w P Q f = grows_weaker w (Same w P) (Same w Q) (λ v x both. (both.0, f v x both.1))

-- the worlds in which it went may be known to be wider
pub kept_wider : {A : Type 0} (w : World) (P Q : World → A → Type 0) → ((v : World) → Wider w v → (x : A) → P v x → Q v x) → (answer : Answer A) → Kept w P answer → Kept w Q answer
kept_wider w P Q f (Gives x view) k = record { world = k.world; wider = k.wider; fits = k.fits; is = f k.world k.wider x k.is }
kept_wider w P Q f (Fails kind) k = tt
kept_wider w P Q f Spent k = tt
kept_wider w P Q f Amiss k = k

-- one and then another

-- the first makes no instance
module _ {A B : Type 0} (w : World) (P : World → A → Type 0) (Q : World → B → Type 0) (next : A → Does B)
    (after : (v : World) → Wider w v → v.instances ≡ w.instances → (x : A) → P v x → Grows v Q (next x)) where
  pub kept_then : (answer : Answer A) → Kept w (Same w P) answer → Kept w Q (then_do answer next)
  kept_then (Gives x view) k = after_kept w k.world Q k.wider (next x view) (after k.world k.wider k.is.0 x k.is.1 view k.fits)
  kept_then (Fails kind) k = tt
  kept_then Spent k = tt
  kept_then Amiss k = k

  pub grows_then : (m : Does A) → Well w P m → Grows w Q (λ view. then_do (m view) next)
  grows_then m h view fits = kept_then (m view) (h view fits)

-- both may make instances
module _ {A B : Type 0} (w : World) (P : World → A → Type 0) (Q : World → B → Type 0) (next : A → Does B)
    (after : (v : World) → Wider w v → (x : A) → P v x → Grows v Q (next x)) where
  pub made_then : (answer : Answer A) → Kept w P answer → Kept w Q (then_do answer next)
  made_then (Gives x view) k = after_kept w k.world Q k.wider (next x view) (after k.world k.wider x k.is view k.fits)
  made_then (Fails kind) k = tt
  made_then Spent k = tt
  made_then Amiss k = k

  pub makes_then : (m : Does A) → Grows w P m → Grows w Q (λ view. then_do (m view) next)
  makes_then m h view fits = made_then (m view) (h view fits)

-- neither makes one
module _ {A B : Type 0} (w : World) (P : World → A → Type 0) (Q : World → B → Type 0) (next : A → Does B)
    (after : (v : World) → Wider w v → v.instances ≡ w.instances → (x : A) → P v x → Well v Q (next x)) where
  same_next : (v : World) → Wider w v → v.instances ≡ w.instances → (x : A) → P v x → Grows v (Same w Q) (next x)
  same_next v wider s x is view fits = kept_weaker v (Same v Q) (Same w Q) (λ u y both. (both.0 ∙ s, both.1)) (next x view) (after v wider s x is view fits)

  pub well_kept : (answer : Answer A) → Kept w (Same w P) answer → Kept w (Same w Q) (then_do answer next)
  well_kept = kept_then w P (Same w Q) next same_next

  pub well_then : (m : Does A) → Well w P m → Well w Q (λ view. then_do (m view) next)
  well_then m h view fits = well_kept (m view) (h view fits)

-- with what it gives changed

pub kept_giving : {A B : Type 0} (w : World) (P : World → A → Type 0) (Q : World → B → Type 0) (f : A → B)
    → ((v : World) → Wider w v → (x : A) → P v x → Q v (f x)) → (answer : Answer A) → Kept w P answer → Kept w Q (giving f answer)
kept_giving w P Q f g (Gives x view) k = record { world = k.world; wider = k.wider; fits = k.fits; is = g k.world k.wider x k.is }
kept_giving w P Q f g (Fails kind) k = tt
kept_giving w P Q f g Spent k = tt
kept_giving w P Q f g Amiss k = k

pub grows_giving : {A B : Type 0} (w : World) (P : World → A → Type 0) (Q : World → B → Type 0) (f : A → B)
    → ((v : World) → Wider w v → (x : A) → P v x → Q v (f x)) → (m : Does A) → Grows w P m → Grows w Q (λ view. giving f (m view))
grows_giving w P Q f g m h view fits = kept_giving w P Q f g (m view) (h view fits)

pub well_giving : {A B : Type 0} (w : World) (P : World → A → Type 0) (Q : World → B → Type 0) (f : A → B)
    → ((v : World) → Wider w v → (x : A) → P v x → Q v (f x)) → (m : Does A) → Well w P m → Well w Q (λ view. giving f (m view))
well_giving w P Q f g = grows_giving w (Same w P) (Same w Q) f (λ v wider x both. (both.0, g v wider x both.1))

-- what is wanted, which is there

pub grows_wanted : {A : Type 0} (w : World) (P : World → A → Type 0) (o : Option A) (x : A) → o ≡ Some x → P w x → Grows w P (wanted o)
grows_wanted w P None x e p = absurd (cc)
grows_wanted w P (Some y) x e p = let same : x ≡ y = cc in grows_gives w P y (subst (P w) same p)

pub well_wanted : {A : Type 0} (w : World) (P : World → A → Type 0) (o : Option A) (x : A) → o ≡ Some x → P w x → Well w P (wanted o)
well_wanted w P o x e p = grows_wanted w (Same w P) o x e (refl, p)

-- of two things the one that a test picks
pub well_if : {A : Type 0} (w : World) (P : World → A → Type 0) (b : Bool) (f g : Does A) → (b ≡ true → Well w P f) → (b ≡ false → Well w P g)
    → Well w P (λ view. cond b (f view) (g view))
well_if w P true f g h l = h refl
well_if w P false f g h l = l refl

-- one of the bound is used up
pub well_tick : (w : World) → Well w (λ v x. Unit {0}) tick
well_tick w view fits = ticked_well view.left
  where
    ticked_well : (left : ℕ) → Kept w (Same w (λ v x. Unit {0})) (ticked left view)
    ticked_well zero = tt
    ticked_well (suc left) = record { world = w; wider = same_world w; fits = record { channels = fits.channels; streams = fits.streams; instances = fits.instances }; is = (refl, tt) }

-- in turn

module _ {A : Type 0} where
  two_fronts : (xs ys : List A) (answer : Answer (List A)) → giving (λ zs. xs ++ zs) (giving (λ zs. ys ++ zs) answer) ≡ giving (λ zs. (xs ++ ys) ++ zs) answer
  two_fronts xs ys (Gives zs view) = ap (λ zs. Gives zs view) (sym (append_assoc xs ys zs))
  two_fronts xs ys (Fails kind) = refl
  two_fronts xs ys Spent = refl
  two_fronts xs ys Amiss = refl

  first_after : (fs : List (Does A)) → ((xs : List A) (view : View) → gathered xs fs view ≡ giving (λ ys. xs ++ ys) (in_turn fs view)) → (xs : List A) (answer : Answer A)
      → then_do answer (λ x. gathered (xs ++ x ∷ []) fs) ≡ giving (λ ys. xs ++ ys) (then_do answer (λ x. gathered (x ∷ []) fs))
  first_after fs h xs (Gives x view) = h (xs ++ x ∷ []) view ∙ sym (two_fronts xs (x ∷ []) (in_turn fs view)) ∙ ap (giving (λ ys. xs ++ ys)) (sym (h (x ∷ []) view))
  first_after fs h xs (Fails kind) = refl
  first_after fs h xs Spent = refl
  first_after fs h xs Amiss = refl

  -- what was gathered before comes first
  gathered_after : (fs : List (Does A)) (xs : List A) (view : View) → gathered xs fs view ≡ giving (λ ys. xs ++ ys) (in_turn fs view)
  gathered_after [] xs view = ap (λ ys. Gives ys view) (sym (append-nil xs))
  gathered_after (f ∷ fs) xs view = first_after fs (gathered_after fs) xs (f view)

  -- the first, and then the others
  pub well_in_turn : (w : World) (P : World → A → Type 0) (Q : World → List A → Type 0) (f : Does A) (fs : List (Does A)) → Well w P f
      → ((v : World) → Wider w v → v.instances ≡ w.instances → (x : A) → P v x → Well v (λ u xs. Q u (x ∷ xs)) (in_turn fs)) → Well w Q (in_turn (f ∷ fs))
  well_in_turn w P Q f fs first others view fits =
      well_kept w P Q (λ x. gathered (x ∷ []) fs)
      (λ v wider s x is now fits. subst (Kept v (Same v Q)) (sym (gathered_after fs (x ∷ []) now))
      (kept_giving v (Same v (λ u xs. Q u (x ∷ xs))) (Same v Q) (λ ys. x ∷ ys) (λ u wider ys both. both) (in_turn fs now) (others v wider s x is now fits)))
      (f view) (first view fits)

-- values of kinds
pub values_in_turn : (w : World) (T : Kind) (Ts : List Kind) (f : Does Value) (fs : List (Does Value)) → Well w (λ v x. IsOf v T x) f
    → ((v : World) → Wider w v → v.instances ≡ w.instances → Well v (λ u xs. AreOf u xs Ts) (in_turn fs)) → Well w (λ v xs. AreOf v xs (T ∷ Ts)) (in_turn (f ∷ fs))
values_in_turn w T Ts f fs first others =
    well_in_turn w (λ v x. IsOf v T x) (λ v xs. AreOf v xs (T ∷ Ts)) f fs first
    (λ v wider s x is view fits. kept_wider v (Same v (λ u xs. AreOf u xs Ts)) (Same v (λ u xs. AreOf u (x ∷ xs) (T ∷ Ts)))
    (λ u wider xs both. (both.0, one_of x xs T Ts (value_grows v u wider x T is) both.1)) (in_turn fs view) (others v wider s view fits))

-- through states

module _ {X S : Type 0} (P : World → S → Type 0) (each : X → S → Does S) where
  pub grows_through : (w : World) (xs : List X) → ((v : World) → Wider w v → (k : ℕ) (x : X) → slice_get xs k ≡ Some x → (s : S) → P v s → Grows v P (each x s))
      → (s : S) → P w s → Grows w P (through each xs s)
  grows_through w [] h s p = grows_gives w P s p
  grows_through w (x ∷ xs) h s p =
      makes_then w P P (through each xs)
      (λ v wider t q. grows_through v xs (λ u wider' k y e. h u (wider_still w v u wider wider') (suc k) y e) t q)
      (each x s) (h w (same_world w) zero x refl s p)

  pub well_through : (w : World) (xs : List X)
      → ((v : World) → Wider w v → v.instances ≡ w.instances → (k : ℕ) (x : X) → slice_get xs k ≡ Some x → (s : S) → P v s → Well v P (each x s))
      → (s : S) → P w s → Well w P (through each xs s)
  well_through w [] h s p = well_gives w P s p
  well_through w (x ∷ xs) h s p =
      well_then w P P (through each xs)
      (λ v wider same t q. well_through v xs (λ u wider' same' k y e. h u (wider_still w v u wider wider') (same' ∙ same) (suc k) y e) t q)
      (each x s) (h w (same_world w) refl zero x refl s p)

-- the same so many times

pub every_append : {A : Type 0} (P : A → Type 0) (xs ys : List A) → Every P xs → Every P ys → Every P (xs ++ ys)
every_append P [] ys ps qs = qs
every_append P (x ∷ xs) ys ps qs = every_cons P x (xs ++ ys) (ps zero x refl) (every_append P xs ys (λ k y e. ps (suc k) y e) qs)

module _ {A : Type 0} (P : World → A → Type 0) (grown : (v u : World) → Wider v u → (x : A) → P v x → P u x) (each : Does A) where
  well_gathered : (count : ℕ) (w : World) (xs : List A) → Every (P w) xs → ((v : World) → Wider w v → v.instances ≡ w.instances → Well v P each)
      → Well w (λ v ys. (length ys ≡ length xs + count) × Every (P v) ys) (gathered_times xs count each)
  well_gathered zero w xs all h = well_gives w (λ v ys. (length ys ≡ length xs + 0) × Every (P v) ys) xs (omega arith, all)
  well_gathered (suc count) w xs all h =
      well_then w P (λ v ys. (length ys ≡ length xs + suc count) × Every (P v) ys) (λ x. gathered_times (xs ++ x ∷ []) count each)
      (λ v wider s x is. well_weaker v (λ u ys. (length ys ≡ length (xs ++ x ∷ []) + count) × Every (P u) ys) (λ u ys. (length ys ≡ length xs + suc count) × Every (P u) ys)
      (λ u ys both. (omega (arith, both.0, length-append xs (x ∷ [])), both.1)) (gathered_times (xs ++ x ∷ []) count each)
      (well_gathered count v (xs ++ x ∷ [])
      (every_append (P v) xs (x ∷ []) (λ k y e. grown w v wider y (all k y e)) (every_cons (P v) x [] is (every_nil (P v))))
      (λ u wider' s'. h u (wider_still w v u wider wider') (s' ∙ s))))
      each (h w (same_world w) refl)

  pub well_times : (w : World) (count : ℕ) → ((v : World) → Wider w v → v.instances ≡ w.instances → Well v P each)
      → Well w (λ v xs. (length xs ≡ count) × Every (P v) xs) (times count each)
  well_times w count h =
      well_weaker w (λ v ys. (length ys ≡ 0 + count) × Every (P v) ys) (λ v xs. (length xs ≡ count) × Every (P v) xs)
      (λ v ys both. (omega (arith, both.0), both.1)) (times count each) (well_gathered count w [] (every_nil (P w)) h)
