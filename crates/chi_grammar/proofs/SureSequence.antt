-- The trees of rules that go on after a tree are sure: one after the other, any number of times, by a test.
use Rattle.std.proofs.Common.{◌≡◌, ℕ, ◌<◌, Bool, true, false, ◌||◌, if◌then◌else◌, List, [], ◌++◌, inl, inr, slice_get, refl, subst, arith}
use Rattle.chi_grammar.specs.declared.room.Room.{Room}
use Rattle.chi_grammar.specs.Rules.{Tree, pair, spelling, Rule, ◌▸◌, many, when, Grammar}
use Rattle.chi_grammar.specs.Trees.{Is}
use Rattle.chi_grammar.specs.Trees as is
use Rattle.chi_grammar.specs.Fronts.{Front}
use Rattle.chi_grammar.specs.Fronts as front
use Rattle.chi_grammar.specs.Lookahead.{Table, may_be_empty, first, going_on}
use Rattle.chi_grammar.specs.Fine.{Fine}
use Rattle.chi_grammar.proofs.At.{At, At-ordered, At-none, At-of_none}
use Rattle.chi_grammar.proofs.Classes.{In, in_left, in_right, in_either, in_second}
use Rattle.chi_grammar.proofs.Decided.{Decided}
use Rattle.chi_grammar.proofs.Cases.{beside, ThenFront, ThenTree, WhenFront, WhenTree, front_seq, front_many, front_when, tree_seq, tree_when}
use Rattle.chi_grammar.proofs.Starts.{no_tokens, takes, tree_starts, front_starts}
use Rattle.chi_grammar.proofs.Follows.{Sure, Follows, SureAfter, seq_longer, seq_same, seq_shorter}

or_first : (a b : Bool) → a ≡ true → (a || b) ≡ true
or_first true b e = refl
or_first false b e = cc

or_second : (a b : Bool) → b ≡ true → (a || b) ≡ true
or_second true b e = refl
or_second false b e = e

module _ {A S : Type 0} (g : Grammar A S) (table : Table S) (fine : Fine g table) (ts : List A) where
  pub seq_follows : (a b : Rule A S) → Decided table (a ▸ b)
      → Follows g table ts a (first table b) (going_on table (a ▸ b)) (ThenFront g b) (ThenTree g b)
  seq_follows a b d = record {
    apart = d.2;
    begins = λ t room h i j p at lt. front_starts g table fine ts d.1 p at lt;
    whole = λ t room u p. front.whole p refl;
    ends = λ t room u i p at on.
        in_second g.class_of (may_be_empty b) (going_on table b) (going_on table a) (slice_get ts i)
        (no_tokens g table fine d.1 p (At-none at refl)) on;
  }

  pub many_follows : (a : Rule A S) → Decided table (many a)
      → Follows g table ts a (first table a) (going_on table (many a)) (ThenFront g (many a)) (ThenTree g (many a))
  many_follows a d = record {
    apart = d.2;
    begins = λ t room h i j p at lt. front_starts g table fine ts {r = many a} d p at lt;
    whole = λ t room u p. front.whole p refl;
    ends = λ t room u i p at on. in_right g.class_of (first table a) (going_on table a) (slice_get ts i) on;
  }

  if_empty : (b : Bool) (classes : List ℕ) (i : ℕ) → b ≡ true → In g ts i classes → In g ts i (if b then classes else [])
  if_empty true classes i e h = h
  if_empty false classes i e h = cc

  pub when_follows : (a : Rule A S) (test : Tree A S → Bool) (b c : Rule A S) → Decided table (when a test b c)
      → Follows g table ts a (first table b ++ first table c) (going_on table (when a test b c)) (WhenFront g test b c) (WhenTree g test b c)
  when_follows a test b c d = record {
    apart = d.4;
    begins = begins;
    whole = whole;
    ends = ends;
  }
    where
      begins : (t : Tree A S) (room : Room) (h : List A) (i j : ℕ) → WhenFront g test b c t room h → At ts i h j → i < j
          → In g ts i (first table b ++ first table c)
      begins t room h i j (inl p) at lt =
          in_left g.class_of (first table b) (first table c) (slice_get ts i) (front_starts g table fine ts d.1 p.1 at lt)
      begins t room h i j (inr p) at lt =
          in_right g.class_of (first table b) (first table c) (slice_get ts i) (front_starts g table fine ts d.2 p.1 at lt)

      whole : (t : Tree A S) (room : Room) (u : Tree A S) → WhenTree g test b c t room u → WhenFront g test b c t room (spelling u)
      whole t room u (inl p) = inl (p.0, front.whole p.1 refl)
      whole t room u (inr p) = inr (p.0, front.whole p.1 refl)

      ends : (t : Tree A S) (room : Room) (u : Tree A S) (i : ℕ) → WhenTree g test b c t room u → At ts i (spelling u) i
          → In g ts i (going_on table a) → In g ts i (going_on table (when a test b c))
      ends t room u i (inl p) at h =
          in_left g.class_of (if may_be_empty b || may_be_empty c then going_on table a else []) (going_on table b ++ going_on table c) (slice_get ts i)
          (if_empty (may_be_empty b || may_be_empty c) (going_on table a) i
          (or_first (may_be_empty b) (may_be_empty c) (no_tokens g table fine d.1 p.1 (At-none at refl))) h)
      ends t room u i (inr p) at h =
          in_left g.class_of (if may_be_empty b || may_be_empty c then going_on table a else []) (going_on table b ++ going_on table c) (slice_get ts i)
          (if_empty (may_be_empty b || may_be_empty c) (going_on table a) i
          (or_second (may_be_empty b) (may_be_empty c) (no_tokens g table fine d.2 p.1 (At-none at refl))) h)

  pub sure_both : {room0 : Room} {a b : Rule A S} {t u : Tree A S} {i m j : ℕ} → Decided table (a ▸ b)
      → Is g room0 a t → At ts i (spelling t) m → Sure g table ts a t i m
      → Is g room0 b u → At ts m (spelling u) j → Sure g table ts b u m j → Sure g table ts (a ▸ b) (pair t u) i j
  sure_both {room0} {a} {b} {t} {u} {i} {m} {j} d p at sure q at_then sure_then = record {
    longer = λ room f k x y lt.
        seq_longer g table ts a starts goes (ThenFront g b) (ThenTree g b) follows t u room0 i m j p at q at_then sure after room f k (front_seq g x) y lt;
    same = λ room v x y.
        seq_same g table ts a starts goes (ThenFront g b) (ThenTree g b) follows t u room0 i m j p at q at_then sure after room v (tree_seq g x) y;
    shorter = λ room v k x y lt.
        seq_shorter g table ts a starts goes (ThenFront g b) (ThenTree g b) follows t u room0 i m j p at q at_then sure after room v k (tree_seq g x) y lt;
  }
    where
      starts : List ℕ
      starts = first table b

      goes : List ℕ
      goes = going_on table (a ▸ b)

      follows : Follows g table ts a (first table b) (going_on table (a ▸ b)) (ThenFront g b) (ThenTree g b)
      follows = seq_follows a b d

      more : (k : ℕ) → In g ts k (going_on table b) → In g ts k (going_on table (a ▸ b))
      more k h = in_either g.class_of (may_be_empty b) (going_on table b) (going_on table a) (slice_get ts k) h

      after : SureAfter g table ts a (first table b) (going_on table (a ▸ b)) (ThenFront g b) (ThenTree g b) t u m j
      after = record {
        longer = λ room h k x y lt. more j (sure_then.longer room h k x y lt);
        same = sure_then.same;
        shorter = λ room v k x y lt. more k (sure_then.shorter room v k x y lt);
      }

  pub sure_more : {room0 : Room} {a : Rule A S} {t u : Tree A S} {i m j : ℕ} → Decided table (many a)
      → Is g room0 a t → At ts i (spelling t) m → Sure g table ts a t i m
      → Is g room0 (many a) u → At ts m (spelling u) j → Sure g table ts (many a) u m j → Sure g table ts (many a) (pair t u) i j
  sure_more {room0} {a} {t} {u} {i} {m} {j} d p at sure q at_then sure_then =
      record { longer = longer; same = same; shorter = shorter }
    where
      after : SureAfter g table ts a (first table a) (going_on table (many a)) (ThenFront g (many a)) (ThenTree g (many a)) t u m j
      after = record { longer = sure_then.longer; same = sure_then.same; shorter = sure_then.shorter }

      follows : Follows g table ts a (first table a) (going_on table (many a)) (ThenFront g (many a)) (ThenTree g (many a))
      follows = many_follows a d

      some : i < m
      some = takes g table fine ts d.0 d.1 p at

      longer : (room : Room) (f : List A) (k : ℕ) → Front g room (many a) f → At ts i f k → j < k → In g ts j (going_on table (many a))
      longer room f k x y lt =
          seq_longer g table ts a (first table a) (going_on table (many a)) (ThenFront g (many a)) (ThenTree g (many a)) follows
          t u room0 i m j p at q at_then sure after room f k (front_many g x) y lt

      same : (room : Room) (v : Tree A S) → Is g room (many a) v → At ts i (spelling v) j → v ≡ pair t u
      same room v is.enough y =
          let end = At-of_none y refl in let order = At-ordered at_then in absurd (omega (arith, some))
      same room v (is.more x z) y =
          seq_same g table ts a (first table a) (going_on table (many a)) (ThenFront g (many a)) (ThenTree g (many a)) follows
          t u room0 i m j p at q at_then sure after room v (beside x z) y

      shorter : (room : Room) (v : Tree A S) (k : ℕ) → Is g room (many a) v → At ts i (spelling v) k → k < j
          → In g ts k (going_on table (many a))
      shorter room v k is.enough y lt =
          subst (λ n. In g ts n (going_on table (many a))) (At-of_none y refl)
          (in_left g.class_of (first table a) (going_on table a) (slice_get ts i) (tree_starts g table fine ts d.0 p at some))
      shorter room v k (is.more x z) y lt =
          seq_shorter g table ts a (first table a) (going_on table (many a)) (ThenFront g (many a)) (ThenTree g (many a)) follows
          t u room0 i m j p at q at_then sure after room v k (beside x z) y lt

  pub sure_when : {room0 : Room} {a b c : Rule A S} {test : Tree A S → Bool} {t u : Tree A S} {i m j : ℕ} → Decided table (when a test b c)
      → Is g room0 a t → At ts i (spelling t) m → Sure g table ts a t i m
      → WhenTree g test b c t room0 u → At ts m (spelling u) j
      → SureAfter g table ts a (first table b ++ first table c) (going_on table (when a test b c)) (WhenFront g test b c) (WhenTree g test b c) t u m j
      → Sure g table ts (when a test b c) (pair t u) i j
  sure_when {room0} {a} {b} {c} {test} {t} {u} {i} {m} {j} d p at sure q at_then after =
      let starts = first table b ++ first table c in
      let goes = going_on table (when a test b c) in
      let follows = when_follows a test b c d in
      record {
        longer = λ room f k x y lt.
            seq_longer g table ts a starts goes (WhenFront g test b c) (WhenTree g test b c) follows t u room0 i m j p at q at_then sure after room f k (front_when g x) y lt;
        same = λ room v x y.
            seq_same g table ts a starts goes (WhenFront g test b c) (WhenTree g test b c) follows t u room0 i m j p at q at_then sure after room v (tree_when g x) y;
        shorter = λ room v k x y lt.
            seq_shorter g table ts a starts goes (WhenFront g test b c) (WhenTree g test b c) follows t u room0 i m j p at q at_then sure after room v k (tree_when g x) y lt;
      }

  pub after_chosen : (a b c : Rule A S) (test : Tree A S → Bool) (t u : Tree A S) (i j : ℕ) → test t ≡ true → Sure g table ts b u i j
      → SureAfter g table ts a (first table b ++ first table c) (going_on table (when a test b c)) (WhenFront g test b c) (WhenTree g test b c) t u i j
  after_chosen a b c test t u i j e sure = record { longer = longer; same = same; shorter = shorter }
    where
      more : (k : ℕ) → In g ts k (going_on table b) → In g ts k (going_on table (when a test b c))
      more k h =
          in_right g.class_of (if may_be_empty b || may_be_empty c then going_on table a else []) (going_on table b ++ going_on table c) (slice_get ts k)
          (in_left g.class_of (going_on table b) (going_on table c) (slice_get ts k) h)

      longer : (room : Room) (h : List A) (k : ℕ) → WhenFront g test b c t room h → At ts i h k → j < k
          → In g ts j (going_on table (when a test b c))
      longer room h k (inl p) at lt = more j (sure.longer room h k p.1 at lt)
      longer room h k (inr p) at lt = let other = p.0 in cc

      same : (room : Room) (v : Tree A S) → WhenTree g test b c t room v → At ts i (spelling v) j → v ≡ u
      same room v (inl p) at = sure.same room v p.1 at
      same room v (inr p) at = let other = p.0 in cc

      shorter : (room : Room) (v : Tree A S) (k : ℕ) → WhenTree g test b c t room v → At ts i (spelling v) k → k < j
          → In g ts k (going_on table (when a test b c))
      shorter room v k (inl p) at lt = more k (sure.shorter room v k p.1 at lt)
      shorter room v k (inr p) at lt = let other = p.0 in cc

  pub after_otherwise : (a b c : Rule A S) (test : Tree A S → Bool) (t u : Tree A S) (i j : ℕ) → test t ≡ false → Sure g table ts c u i j
      → SureAfter g table ts a (first table b ++ first table c) (going_on table (when a test b c)) (WhenFront g test b c) (WhenTree g test b c) t u i j
  after_otherwise a b c test t u i j e sure = record { longer = longer; same = same; shorter = shorter }
    where
      more : (k : ℕ) → In g ts k (going_on table c) → In g ts k (going_on table (when a test b c))
      more k h =
          in_right g.class_of (if may_be_empty b || may_be_empty c then going_on table a else []) (going_on table b ++ going_on table c) (slice_get ts k)
          (in_right g.class_of (going_on table b) (going_on table c) (slice_get ts k) h)

      longer : (room : Room) (h : List A) (k : ℕ) → WhenFront g test b c t room h → At ts i h k → j < k
          → In g ts j (going_on table (when a test b c))
      longer room h k (inr p) at lt = more j (sure.longer room h k p.1 at lt)
      longer room h k (inl p) at lt = let other = p.0 in cc

      same : (room : Room) (v : Tree A S) → WhenTree g test b c t room v → At ts i (spelling v) j → v ≡ u
      same room v (inr p) at = sure.same room v p.1 at
      same room v (inl p) at = let other = p.0 in cc

      shorter : (room : Room) (v : Tree A S) (k : ℕ) → WhenTree g test b c t room v → At ts i (spelling v) k → k < j
          → In g ts k (going_on table (when a test b c))
      shorter room v k (inr p) at lt = more k (sure.shorter room v k p.1 at lt)
      shorter room v k (inl p) at lt = let other = p.0 in cc
