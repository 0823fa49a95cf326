-- Runs of bytes that pass a test.
use Rattle.std.proofs.Common.{◌≡◌, ℕ, suc, ◌+◌, Bool, true, false, ◌&&◌, cond, List, [], ◌∷◌, ◌++◌, length, take, drop, refl, ap, ◌∙◌, arith}
use Rattle.std.proofs.Math.Bool.{and-false}
use Rattle.std.specs.List.{list_all, prefix_len}

-- the bytes don't begin with one that passes
abbrev pub StopsAt : (ℕ → Bool) → List ℕ → Type 0
StopsAt p [] = Unit {0}
StopsAt p (x ∷ xs) = p x ≡ false

pub and_left : (a b : Bool) → (a && b) ≡ true → a ≡ true
and_left true b h = refl
and_left false b h = cc

pub and_right : (a b : Bool) → (a && b) ≡ true → b ≡ true
and_right true b h = h
and_right false b h = cc

-- one byte that fails is enough
pub list_all-stop : (p : ℕ → Bool) (xs : List ℕ) (x : ℕ) (ys : List ℕ) → p x ≡ false → list_all p (xs ++ x ∷ ys) ≡ false
list_all-stop p [] x ys fails = ap (λ b. b && list_all p ys) fails
list_all-stop p (y ∷ xs) x ys fails = ap (λ b. p y && b) (list_all-stop p xs x ys fails) ∙ and-false (p y)

pub one_suc : (n : ℕ) → 1 + n ≡ suc n
one_suc n = omega arith

-- the front that passes
pub list_all-take-prefix_len : (p : ℕ → Bool) (xs : List ℕ) → list_all p (take (prefix_len p xs) xs) ≡ true
list_all-take-prefix_len p [] = refl
list_all-take-prefix_len p (x ∷ xs) = by (p x) refl (list_all-take-prefix_len p xs)
  where
    by : (b : Bool) → p x ≡ b → list_all p (take (prefix_len p xs) xs) ≡ true → list_all p (take (cond b (1 + prefix_len p xs) 0) (x ∷ xs)) ≡ true
    by true passes rest = rw one_suc (ap (λ b. b && list_all p (take (prefix_len p xs) xs)) passes ∙ rest)
    by false fails rest = refl

-- the rest after it
pub StopsAt-drop-prefix_len : (p : ℕ → Bool) (xs : List ℕ) → StopsAt p (drop (prefix_len p xs) xs)
StopsAt-drop-prefix_len p [] = tt
StopsAt-drop-prefix_len p (x ∷ xs) = by (p x) refl (StopsAt-drop-prefix_len p xs)
  where
    by : (b : Bool) → p x ≡ b → StopsAt p (drop (prefix_len p xs) xs) → StopsAt p (drop (cond b (1 + prefix_len p xs) 0) (x ∷ xs))
    by true passes rest = rw one_suc rest
    by false fails rest = fails

-- a list that passes, and a byte after it that fails
pub prefix_len-stop : (p : ℕ → Bool) (xs : List ℕ) (x : ℕ) (ys : List ℕ) → list_all p xs ≡ true → p x ≡ false → prefix_len p (xs ++ x ∷ ys) ≡ length xs
prefix_len-stop p [] x ys passes fails = ap (λ b. cond b (1 + prefix_len p ys) 0) fails
prefix_len-stop p (y ∷ xs) x ys passes fails =
    ap (λ b. cond b (1 + prefix_len p (xs ++ x ∷ ys)) 0) (and_left (p y) (list_all p xs) passes)
    ∙ one_suc (prefix_len p (xs ++ x ∷ ys))
    ∙ ap suc (prefix_len-stop p xs x ys (and_right (p y) (list_all p xs) passes) fails)
