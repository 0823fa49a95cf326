-- The trees of single rules are sure: a token, a part, an alternative, what may be left out, a level deeper.
use Rattle.std.proofs.Common.{◌≡◌, ℕ, suc, ◌<◌, Some, List, [], ◌∷◌, inl, inr, slice_get, refl, ap, subst, arith}
use Rattle.chi_grammar.specs.declared.room.Nesting.{Nesting}
use Rattle.chi_grammar.specs.declared.room.Room.{Room}
use Rattle.chi_grammar.specs.Rules.{Tree, leaf, node, pair, none, spelling, Rule, ◌▸◌, ◌∣◌, maybe, many, when, Grammar}
use Rattle.chi_grammar.specs.Rules as rule
use Rattle.chi_grammar.specs.Trees.{Is}
use Rattle.chi_grammar.specs.Trees as is
use Rattle.chi_grammar.specs.Fronts.{Front}
use Rattle.chi_grammar.specs.Lookahead.{Table, first, going_on}
use Rattle.chi_grammar.specs.Fine.{Fine}
use Rattle.chi_grammar.proofs.At.{At, here, on, At-ordered, At-split, At-of_none}
use Rattle.chi_grammar.proofs.Classes.{In, in_left, in_right, in_among, in_apart}
use Rattle.chi_grammar.proofs.Decided.{Decided, fine_part}
use Rattle.chi_grammar.proofs.Cases.{front_word, front_part, front_or, front_maybe, front_deeper}
use Rattle.chi_grammar.proofs.Starts.{takes, tree_starts, front_starts}
use Rattle.chi_grammar.proofs.Follows.{Sure}

one_token : {A : Type 0} {ts : List A} {i k : ℕ} {x : A} → At ts i (x ∷ []) k → k ≡ suc i
one_token (on h here) = refl

pub one_end : {A : Type 0} {ts : List A} {i k : ℕ} {f : List A} (x : A) → f ≡ x ∷ [] → At ts i f k → k ≡ suc i
one_end {ts = ts} {i = i} {k = k} x e at = one_token (subst (λ f. At ts i f k) e at)

module _ {A S : Type 0} (g : Grammar A S) (table : Table S) (fine : Fine g table) (ts : List A) where
  pub sure_word : {class i : ℕ} {x : A} → slice_get ts i ≡ Some x → Sure g table ts (rule.word class) (leaf x) i (suc i)
  sure_word {class} {i} {x} h = record { longer = longer; same = same; shorter = shorter }
    where
      longer : (room : Room) (f : List A) (k : ℕ) → Front g room (rule.word class) f → At ts i f k → suc i < k
          → In g ts (suc i) (going_on {A = A} table (rule.word class))
      longer room f k p at lt =
          elim (front_word g p) [
            | inl e ↦ let end = At-of_none at e in absurd (omega arith)
            | inr q ↦ let end = one_end q.0 q.1 at in absurd (omega arith)
          ]

      same : (room : Room) (u : Tree A S) → Is g room (rule.word class) u → At ts i (spelling u) (suc i) → u ≡ leaf x
      same room u (is.word {x = y} e) (on h' at) = cc

      shorter : (room : Room) (u : Tree A S) (k : ℕ) → Is g room (rule.word class) u → At ts i (spelling u) k → k < suc i
          → In g ts k (going_on {A = A} table (rule.word class))
      shorter room u k (is.word {x = y} e) (on h' here) lt = absurd (omega arith)

  pub sure_part : {s : S} {t : Tree A S} {i j : ℕ} → Sure g table ts (g.rule_of s) t i j → Sure g table ts (rule.part s) (node s t) i j
  sure_part {s} {t} {i} {j} sure = record { longer = longer; same = same; shorter = shorter }
    where
      on_with : (k : ℕ) → In g ts k (going_on table (g.rule_of s)) → In g ts k (going_on {A = A} table (rule.part s))
      on_with k h =
          in_among g.class_of (going_on table (g.rule_of s)) (table.goes_on s) (slice_get ts k) (fine_part g table fine s).goes_on h

      longer : (room : Room) (f : List A) (k : ℕ) → Front g room (rule.part s) f → At ts i f k → j < k
          → In g ts j (going_on {A = A} table (rule.part s))
      longer room f k p at lt = on_with j (sure.longer room f k (front_part g p) at lt)

      same : (room : Room) (u : Tree A S) → Is g room (rule.part s) u → At ts i (spelling u) j → u ≡ node s t
      same room u (is.part {t = v} p) at = ap (node s) (sure.same room v p at)

      shorter : (room : Room) (u : Tree A S) (k : ℕ) → Is g room (rule.part s) u → At ts i (spelling u) k → k < j
          → In g ts k (going_on {A = A} table (rule.part s))
      shorter room u k (is.part {t = v} p) at lt = on_with k (sure.shorter room v k p at lt)

  pub sure_left : {room0 : Room} {a b : Rule A S} {t : Tree A S} {i j : ℕ} → Decided table (a ∣ b) → Is g room0 a t → At ts i (spelling t) j
      → Sure g table ts a t i j → Sure g table ts (a ∣ b) t i j
  sure_left {room0} {a} {b} {t} {i} {j} d is0 at0 sure = record { longer = longer; same = same; shorter = shorter }
    where
      begun : In g ts i (first table a)
      begun = tree_starts g table fine ts d.0 is0 at0 (takes g table fine ts d.0 d.2 is0 at0)

      not_other : In g ts i (first table b) → ⊥
      not_other h = in_apart g.class_of (first table a) (first table b) (slice_get ts i) d.4 begun h

      other_tree : (room : Room) (u : Tree A S) (k : ℕ) → Is g room b u → At ts i (spelling u) k → ⊥
      other_tree room u k p at = not_other (tree_starts g table fine ts d.1 p at (takes g table fine ts d.1 d.3 p at))

      on_with : (k : ℕ) → In g ts k (going_on table a) → In g ts k (going_on table (a ∣ b))
      on_with k h = in_left g.class_of (going_on table a) (going_on table b) (slice_get ts k) h

      longer : (room : Room) (f : List A) (k : ℕ) → Front g room (a ∣ b) f → At ts i f k → j < k → In g ts j (going_on table (a ∣ b))
      longer room f k p at lt =
          let order = At-ordered at0 in
          elim (front_or g p) [
            | inl q ↦ on_with j (sure.longer room f k q at lt)
            | inr q ↦ absurd (not_other (front_starts g table fine ts d.1 q at (omega arith)))
          ]

      same : (room : Room) (u : Tree A S) → Is g room (a ∣ b) u → At ts i (spelling u) j → u ≡ t
      same room u (is.left p) at = sure.same room u p at
      same room u (is.right p) at = absurd (other_tree room u j p at)

      shorter : (room : Room) (u : Tree A S) (k : ℕ) → Is g room (a ∣ b) u → At ts i (spelling u) k → k < j
          → In g ts k (going_on table (a ∣ b))
      shorter room u k (is.left p) at lt = on_with k (sure.shorter room u k p at lt)
      shorter room u k (is.right p) at lt = absurd (other_tree room u k p at)

  pub sure_right : {room0 : Room} {a b : Rule A S} {t : Tree A S} {i j : ℕ} → Decided table (a ∣ b) → Is g room0 b t → At ts i (spelling t) j
      → Sure g table ts b t i j → Sure g table ts (a ∣ b) t i j
  sure_right {room0} {a} {b} {t} {i} {j} d is0 at0 sure = record { longer = longer; same = same; shorter = shorter }
    where
      begun : In g ts i (first table b)
      begun = tree_starts g table fine ts d.1 is0 at0 (takes g table fine ts d.1 d.3 is0 at0)

      not_other : In g ts i (first table a) → ⊥
      not_other h = in_apart g.class_of (first table a) (first table b) (slice_get ts i) d.4 h begun

      other_tree : (room : Room) (u : Tree A S) (k : ℕ) → Is g room a u → At ts i (spelling u) k → ⊥
      other_tree room u k p at = not_other (tree_starts g table fine ts d.0 p at (takes g table fine ts d.0 d.2 p at))

      on_with : (k : ℕ) → In g ts k (going_on table b) → In g ts k (going_on table (a ∣ b))
      on_with k h = in_right g.class_of (going_on table a) (going_on table b) (slice_get ts k) h

      longer : (room : Room) (f : List A) (k : ℕ) → Front g room (a ∣ b) f → At ts i f k → j < k → In g ts j (going_on table (a ∣ b))
      longer room f k p at lt =
          let order = At-ordered at0 in
          elim (front_or g p) [
            | inl q ↦ absurd (not_other (front_starts g table fine ts d.0 q at (omega arith)))
            | inr q ↦ on_with j (sure.longer room f k q at lt)
          ]

      same : (room : Room) (u : Tree A S) → Is g room (a ∣ b) u → At ts i (spelling u) j → u ≡ t
      same room u (is.left p) at = absurd (other_tree room u j p at)
      same room u (is.right p) at = sure.same room u p at

      shorter : (room : Room) (u : Tree A S) (k : ℕ) → Is g room (a ∣ b) u → At ts i (spelling u) k → k < j
          → In g ts k (going_on table (a ∣ b))
      shorter room u k (is.left p) at lt = absurd (other_tree room u k p at)
      shorter room u k (is.right p) at lt = on_with k (sure.shorter room u k p at lt)

  pub sure_once : {room0 : Room} {a : Rule A S} {t : Tree A S} {i j : ℕ} → Decided table (maybe a) → Is g room0 a t → At ts i (spelling t) j
      → Sure g table ts a t i j → Sure g table ts (maybe a) t i j
  sure_once {room0} {a} {t} {i} {j} d is0 at0 sure = record { longer = longer; same = same; shorter = shorter }
    where
      some : i < j
      some = takes g table fine ts d.0 d.1 is0 at0

      on_with : (k : ℕ) → In g ts k (going_on table a) → In g ts k (going_on table (maybe a))
      on_with k h = in_right g.class_of (first table a) (going_on table a) (slice_get ts k) h

      longer : (room : Room) (f : List A) (k : ℕ) → Front g room (maybe a) f → At ts i f k → j < k → In g ts j (going_on table (maybe a))
      longer room f k p at lt = on_with j (sure.longer room f k (front_maybe g p) at lt)

      same : (room : Room) (u : Tree A S) → Is g room (maybe a) u → At ts i (spelling u) j → u ≡ t
      same room u (is.once p) at = sure.same room u p at
      same room u is.never at = let end = At-of_none at refl in absurd (omega (arith, some))

      shorter : (room : Room) (u : Tree A S) (k : ℕ) → Is g room (maybe a) u → At ts i (spelling u) k → k < j
          → In g ts k (going_on table (maybe a))
      shorter room u k (is.once p) at lt = on_with k (sure.shorter room u k p at lt)
      shorter room u k is.never at lt =
          subst (λ n. In g ts n (going_on table (maybe a))) (At-of_none at refl)
          (in_left g.class_of (first table a) (going_on table a) (slice_get ts i) (tree_starts g table fine ts d.0 is0 at0 some))

  pub sure_never : {a : Rule A S} {i : ℕ} → Decided table (maybe a) → Sure g table ts (maybe a) none i i
  sure_never {a} {i} d = record { longer = longer; same = same; shorter = shorter }
    where
      longer : (room : Room) (f : List A) (k : ℕ) → Front g room (maybe a) f → At ts i f k → i < k → In g ts i (going_on table (maybe a))
      longer room f k p at lt =
          in_left g.class_of (first table a) (going_on table a) (slice_get ts i) (front_starts g table fine ts d.0 (front_maybe g p) at lt)

      same : (room : Room) (u : Tree A S) → Is g room (maybe a) u → At ts i (spelling u) i → u ≡ none
      same room u (is.once p) at = let some = takes g table fine ts d.0 d.1 p at in absurd (omega arith)
      same room u is.never at = refl

      shorter : (room : Room) (u : Tree A S) (k : ℕ) → Is g room (maybe a) u → At ts i (spelling u) k → k < i
          → In g ts k (going_on table (maybe a))
      shorter room u k p at lt = let order = At-ordered at in absurd (omega arith)

  pub sure_enough : {a : Rule A S} {i : ℕ} → Decided table (many a) → Sure g table ts (many a) none i i
  sure_enough {a} {i} d = record { longer = longer; same = same; shorter = shorter }
    where
      longer : (room : Room) (f : List A) (k : ℕ) → Front g room (many a) f → At ts i f k → i < k → In g ts i (going_on table (many a))
      longer room f k p at lt =
          in_left g.class_of (first table a) (going_on table a) (slice_get ts i) (front_starts g table fine ts {r = many a} d p at lt)

      same : (room : Room) (u : Tree A S) → Is g room (many a) u → At ts i (spelling u) i → u ≡ none
      same room u (is.more {t = t} {u = v} p q) at =
          let s = At-split (spelling t) (spelling v) at in
          let some = takes g table fine ts d.0 d.1 p s.front in
          let order = At-ordered s.back in
          absurd (omega arith)
      same room u is.enough at = refl

      shorter : (room : Room) (u : Tree A S) (k : ℕ) → Is g room (many a) u → At ts i (spelling u) k → k < i
          → In g ts k (going_on table (many a))
      shorter room u k p at lt = let order = At-ordered at in absurd (omega arith)

  pub sure_deeper : {nesting : Nesting} {a : Rule A S} {t : Tree A S} {i j : ℕ} → At ts i (spelling t) j
      → Sure g table ts a t i j → Sure g table ts (rule.deeper nesting a) t i j
  sure_deeper {nesting} {a} {t} {i} {j} at0 sure = record { longer = longer; same = same; shorter = shorter }
    where
      longer : (room : Room) (f : List A) (k : ℕ) → Front g room (rule.deeper nesting a) f → At ts i f k → j < k
          → In g ts j (going_on table (rule.deeper nesting a))
      longer room f k p at lt =
          let order = At-ordered at0 in
          elim (front_deeper g p) [
            | inl e ↦ let end = At-of_none at e in absurd (omega arith)
            | inr q ↦ sure.longer q.0 f k q.2 at lt
          ]

      same : (room : Room) (u : Tree A S) → Is g room (rule.deeper nesting a) u → At ts i (spelling u) j → u ≡ t
      same room u (is.deeper {inner = inner} e p) at = sure.same inner u p at

      shorter : (room : Room) (u : Tree A S) (k : ℕ) → Is g room (rule.deeper nesting a) u → At ts i (spelling u) k → k < j
          → In g ts k (going_on table (rule.deeper nesting a))
      shorter room u k (is.deeper {inner = inner} e p) at lt = sure.shorter inner u k p at lt
