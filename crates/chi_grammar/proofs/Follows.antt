-- A tree of a rule that other tokens follow: no other tree of the rule stands there, unless it goes on where this one ends.
use Rattle.std.proofs.Common.{◌≡◌, ℕ, ◌<◌, true, List, inl, inr, slice_get, refl, sym, subst, arith}
use Rattle.std.proofs.lemmas.Bool.{cases_lt, cases_order}
use Rattle.chi_grammar.specs.declared.room.Room.{Room}
use Rattle.chi_grammar.specs.Rules.{Tree, pair, spelling, Rule, Grammar}
use Rattle.chi_grammar.specs.Trees.{Is}
use Rattle.chi_grammar.specs.Fronts.{Front}
use Rattle.chi_grammar.specs.Fronts as front
use Rattle.chi_grammar.specs.Lookahead.{Table, going_on}
use Rattle.chi_grammar.specs.Fine.{are_apart}
use Rattle.chi_grammar.proofs.At.{At, At-ordered, At-split, At-parts}
use Rattle.chi_grammar.proofs.Classes.{In, in_apart}
use Rattle.chi_grammar.proofs.Cases.{SeqFront, inside, beyond, SeqTree, beside}

module _ {A S : Type 0} (g : Grammar A S) (table : Table S) (ts : List A) where
  -- A tree of a rule stands between two indices. A longer front of the rule goes on at its end; no other tree ends there; at
  -- the end of a shorter tree that one goes on.
  pub record Sure (r : Rule A S) (t : Tree A S) (i j : ℕ) : Type 0 where
    pub longer : (room : Room) (f : List A) (k : ℕ) → Front g room r f → At ts i f k → j < k → In g ts j (going_on table r)
    pub same : (room : Room) (u : Tree A S) → Is g room r u → At ts i (spelling u) j → u ≡ t
    pub shorter : (room : Room) (u : Tree A S) (k : ℕ) → Is g room r u → At ts i (spelling u) k → k < j → In g ts k (going_on table r)

  module _ (a : Rule A S) (starts goes : List ℕ) (ThenFront : Tree A S → Room → List A → Type 0) (ThenTree : Tree A S → Room → Tree A S → Type 0) where
    -- what may follow a tree of the first rule: it begins with some classes, with which the first rule's trees never go on;
    -- and where it is empty, what those go on with the whole goes on with
    pub record Follows : Type 0 where
      pub apart : are_apart (going_on table a) starts ≡ true
      pub begins : (t : Tree A S) (room : Room) (h : List A) (i j : ℕ) → ThenFront t room h → At ts i h j → i < j → In g ts i starts
      pub whole : (t : Tree A S) (room : Room) (u : Tree A S) → ThenTree t room u → ThenFront t room (spelling u)
      pub ends : (t : Tree A S) (room : Room) (u : Tree A S) (i : ℕ) → ThenTree t room u → At ts i (spelling u) i
          → In g ts i (going_on table a) → In g ts i goes

    -- the same as of a tree, for the tree after a first one
    pub record SureAfter (t u : Tree A S) (i j : ℕ) : Type 0 where
      pub longer : (room : Room) (h : List A) (k : ℕ) → ThenFront t room h → At ts i h k → j < k → In g ts j goes
      pub same : (room : Room) (v : Tree A S) → ThenTree t room v → At ts i (spelling v) j → v ≡ u
      pub shorter : (room : Room) (v : Tree A S) (k : ℕ) → ThenTree t room v → At ts i (spelling v) k → k < j → In g ts k goes

    module _ (follows : Follows) where
      -- where the first rule's tree goes on, nothing else follows it
      pub halts : (t : Tree A S) (room : Room) (h : List A) (i j : ℕ) → ThenFront t room h → At ts i h j
          → In g ts i (going_on table a) → i ≡ j
      halts t room h i j p at on =
          elim (cases_lt i j) [
            | inl lt ↦
                absurd (in_apart g.class_of (going_on table a) starts (slice_get ts i) follows.apart on
                (follows.begins t room h i j p at lt))
            | inr le ↦ let ge = At-ordered at in omega arith
          ]

      pub halts_tree : (t : Tree A S) (room : Room) (u : Tree A S) (i j : ℕ) → ThenTree t room u → At ts i (spelling u) j
          → In g ts i (going_on table a) → (i ≡ j) × In g ts j goes
      halts_tree t room u i j p at on =
          let e = halts t room (spelling u) i j (follows.whole t room u p) at on in (
            e,
            subst (λ n. In g ts n goes) e
                (follows.ends t room u i p (subst (λ n. At ts i (spelling u) n) (sym e) at) on),
          )

      module _ (t u : Tree A S) (room0 : Room) (i m j : ℕ) (is : Is g room0 a t) (at : At ts i (spelling t) m)
          (then : ThenTree t room0 u) (at_then : At ts m (spelling u) j) (sure : Sure a t i m) (sure_after : SureAfter t u m j) where
        pub seq_longer : (room : Room) (f : List A) (k : ℕ) → SeqFront g a ThenFront room f → At ts i f k → j < k → In g ts j goes
        seq_longer room f k (inside p) at' lt =
            let order = At-ordered at_then in
            (halts_tree t room0 u m j then at_then (sure.longer room f k p at' (omega arith))).1
        seq_longer room f k (beyond {t = v} {h = h} p q e) at' lt =
            let s = At-parts (spelling v) h e at' in
            let order = At-ordered at_then in
            elim (cases_order m s.mid) [
              | inl eq ↦
                  let here : At ts m h k = subst (λ n. At ts n h k) (sym eq) s.back in
                  let front : At ts i (spelling v) m = subst (λ n. At ts i (spelling v) n) (sym eq) s.front in
                  let one = sure.same room v p front in
                  sure_after.longer room h k (subst (λ x. ThenFront x room h) one q) here lt
              | inr (inl low) ↦
                  (halts_tree t room0 u m j then at_then (sure.longer room (spelling v) s.mid (front.whole p refl) s.front low)).1
              | inr (inr high) ↦
                  let stop = halts v room h s.mid k q s.back (sure.shorter room v s.mid p s.front high) in absurd (omega arith)
            ]

        pub seq_same : (room : Room) (v : Tree A S) → SeqTree g a ThenTree room v → At ts i (spelling v) j → v ≡ pair t u
        seq_same room v (beside {t = x} {u = y} p q) at' =
            let s = At-split (spelling x) (spelling y) at' in
            let order = At-ordered at_then in
            let order' = At-ordered s.back in
            elim (cases_order m s.mid) [
              | inl eq ↦
                  let here : At ts m (spelling y) j = subst (λ n. At ts n (spelling y) j) (sym eq) s.back in
                  let front : At ts i (spelling x) m = subst (λ n. At ts i (spelling x) n) (sym eq) s.front in
                  let one = sure.same room x p front in
                  let other = sure_after.same room y (subst (λ x. ThenTree x room y) one q) here in
                  (λ n. pair (one n) (other n))
              | inr (inl low) ↦
                  let stop =
                  (halts_tree t room0 u m j then at_then (sure.longer room (spelling x) s.mid (front.whole p refl) s.front low)).0 in
                  absurd (omega arith)
              | inr (inr high) ↦
                  let stop = (halts_tree x room y s.mid j q s.back (sure.shorter room x s.mid p s.front high)).0 in absurd (omega arith)
            ]

        pub seq_shorter : (room : Room) (v : Tree A S) (k : ℕ) → SeqTree g a ThenTree room v → At ts i (spelling v) k → k < j → In g ts k goes
        seq_shorter room v k (beside {t = x} {u = y} p q) at' lt =
            let s = At-split (spelling x) (spelling y) at' in
            let order' = At-ordered s.back in
            elim (cases_order m s.mid) [
              | inl eq ↦
                  let here : At ts m (spelling y) k = subst (λ n. At ts n (spelling y) k) (sym eq) s.back in
                  let front : At ts i (spelling x) m = subst (λ n. At ts i (spelling x) n) (sym eq) s.front in
                  let one = sure.same room x p front in
                  sure_after.shorter room y k (subst (λ x. ThenTree x room y) one q) here lt
              | inr (inl low) ↦
                  let stop =
                  (halts_tree t room0 u m j then at_then (sure.longer room (spelling x) s.mid (front.whole p refl) s.front low)).0 in
                  absurd (omega arith)
              | inr (inr high) ↦ (halts_tree x room y s.mid k q s.back (sure.shorter room x s.mid p s.front high)).1
            ]
