-- How far the putting of some bytes has come: a sink took a front of them, and the rest is to put.
use Rattle.std.proofs.Common.{◌≡◌, ◌<◌, ◌≤◌, ℕ, Bool, false, List, [], ◌∷◌, ◌++◌, length, take, drop, Option, Some, None, refl, sym, ◌∙◌, ap, append_assoc, subst, length-append, arith}
use Rattle.std.proofs.lemmas.List.{take-append-drop, append-nil}
use Rattle.chi_io.specs.Sink.{Grew, GrewByProperFront}

pub record Passed (old now : Option (List ℕ)) (bytes rest : List ℕ) : Type 0 where
  pub front : List ℕ
  pub whole : front ++ rest ≡ bytes
  pub grew : Grew old now front

-- what putting keeps: a front was taken and the sink goes on; with nothing to put it is the very same
pub record Putting {S : Type 0} (taken : S → Option (List ℕ)) (faults : S → ℕ) (stopped : S → Bool) (first now : S) (bytes rest : List ℕ) : Type 0 where
  pub passed : Passed (taken first) (taken now) bytes rest
  pub goes_on : stopped now ≡ false
  pub count : faults first ≤ faults now
  pub nothing : bytes ≡ [] → now ≡ first

-- nothing was taken yet
pub Grew-nothing : (old : Option (List ℕ)) → Grew old old []
Grew-nothing None = refl
Grew-nothing (Some old) = ap Some (sym (append-nil old))

pub Grew-append : (old now new : Option (List ℕ)) (front next : List ℕ)
    → Grew old now front → Grew now new next → Grew old new (front ++ next)
Grew-append None None new front next p q = q
Grew-append None (Some now) new front next p q = cc
Grew-append (Some old) None new front next p q = cc
Grew-append (Some old) (Some now) new front next p q =
    let same : now ≡ old ++ front = cc in
    rw (← append_assoc old front next) (rw (← same) q)

pub Passed-start : (old : Option (List ℕ)) (bytes : List ℕ) → Passed old old bytes bytes
Passed-start old bytes = record { front = []; whole = refl; grew = Grew-nothing old }

-- a put took n bytes of the rest
pub Passed-took : (old now new : Option (List ℕ)) (bytes rest : List ℕ) (n : ℕ)
    → Passed old now bytes rest → Grew now new (take n rest) → Passed old new bytes (drop n rest)
Passed-took old now new bytes rest n p q =
    record {
      front = p.front ++ take n rest;
      whole = rw (append_assoc, take-append-drop) p.whole;
      grew = Grew-append old now new p.front (take n rest) p.grew q;
    }

-- nothing is left to put
pub Passed-whole : (old now : Option (List ℕ)) (bytes rest : List ℕ)
    → Passed old now bytes rest → length rest ≡ 0 → Grew old now bytes
Passed-whole old now bytes [] p e = subst (Grew old now) (sym (append-nil p.front) ∙ p.whole) p.grew
Passed-whole old now bytes (b ∷ rest) p e = cc

-- some of the bytes are left to put
pub Passed-part : (old now : Option (List ℕ)) (bytes rest : List ℕ)
    → Passed old now bytes rest → 0 < length rest → GrewByProperFront old now bytes
Passed-part old now bytes rest p some = (p.front, (rest, p.whole, some), p.grew)

-- where some of the bytes are left, there were some
pub Passed-some : (old now : Option (List ℕ)) (bytes rest : List ℕ)
    → Passed old now bytes rest → 0 < length rest → 0 < length bytes
Passed-some old now bytes rest p some = omega (arith, length-append p.front rest, ap length p.whole)
