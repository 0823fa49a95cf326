-- What runs of single rules mean: a token, a part, an alternative, what may be left out, a level deeper.
use Rattle.std.proofs.Common.{◌≡◌, ℕ, suc, ◌≤◌, false, Some, List, [], ◌⊎◌, inl, inr, slice_get, refl, subst, arith}
use Rattle.std.proofs.lemmas.Bool.{cases_lt}
use Rattle.chi_grammar.specs.declared.fault.ParseFault.{ParseFault}
use Rattle.chi_grammar.specs.declared.room.Nesting.{Nesting}
use Rattle.chi_grammar.specs.declared.room.Room.{Room}
use Rattle.chi_grammar.specs.Rooms.{IsInside, IsFull}
use Rattle.chi_grammar.specs.Rules.{Tree, leaf, node, pair, none, spelling, Rule, ◌▸◌, ◌∣◌, maybe, many, when, Grammar}
use Rattle.chi_grammar.specs.Rules as rule
use Rattle.chi_grammar.specs.Trees.{Is}
use Rattle.chi_grammar.specs.Trees as is
use Rattle.chi_grammar.specs.Fronts.{Front}
use Rattle.chi_grammar.specs.Fronts as front
use Rattle.chi_grammar.specs.Lookahead.{Table, first, starts_in}
use Rattle.chi_grammar.specs.Fine.{Fine}
use Rattle.chi_grammar.specs.RuleRuns.{Outcome, Done, Fail}
use Rattle.chi_grammar.proofs.At.{At, here, on, At-of_none}
use Rattle.chi_grammar.proofs.Classes.{In, in_apart}
use Rattle.chi_grammar.proofs.Decided.{Decided}
use Rattle.chi_grammar.proofs.Cases.{front_word, front_part, front_or, front_maybe, front_deeper}
use Rattle.chi_grammar.proofs.Starts.{takes, tree_starts, front_starts}
use Rattle.chi_grammar.proofs.SureSingle.{one_end}
use Rattle.chi_grammar.proofs.Rooms.{IsInside-one, IsInside-around, IsFull-IsInside, around}
use Rattle.chi_grammar.proofs.Means.{Ends, Any, Only, Longest, Deep, FailMeans, Means}
use Rattle.chi_grammar.proofs.Through.{FrontThrough, TreeThrough, through_done, through_fails, no_front, one_further, moves}

module _ {A S : Type 0} (g : Grammar A S) (table : Table S) (fine : Fine g table) (ts : List A) where
  -- one token

  pub word_done : (room : Room) (class i : ℕ) (x : A) → slice_get ts i ≡ Some x → g.class_of x ≡ class
      → Longest g ts room (rule.word class) i (leaf x) (suc i)
  word_done room class i x at e = record {
    is = is.word e;
    at = on at here;
    ends = λ other f n q p h.
        elim (front_word g p) [
          | inl z ↦ let end = At-of_none h z in omega arith
          | inr q ↦ let end = one_end q.0 q.1 h in omega arith
        ];
  }

  -- a part

  part_inverse : (room : Room) (s : S) (i : ℕ) (other : Room) (f : List A) (n : ℕ) → Front g other (rule.part s) f → At ts i f n
      → (n ≤ i) ⊎ FrontThrough g ts room room (rule.part s) (g.rule_of s) i other f
  part_inverse room s i other f n p at = inr (record { other_inner = other; is = front_part g p; same = λ e. e })

  part_tree : (room : Room) (s : S) (i k : ℕ) → Ends g ts (Any g ts) (g.rule_of s) i k → (other : Room) (t : Tree A S)
      → Is g other (rule.part s) t → At ts i (spelling t) k → TreeThrough g ts room room (rule.part s) (g.rule_of s) i k
  part_tree room s i k ends other t (is.part {t = u} p) at = record { any = other; tree = u; is = p; at = at }

  pub part_done : (room : Room) (s : S) (i j : ℕ) (t : Tree A S) → Longest g ts room (g.rule_of s) i t j → Longest g ts room (rule.part s) i (node s t) j
  part_done room s i j t longest =
      through_done g ts room room (rule.part s) (g.rule_of s) i (part_inverse room s i) t (node s t) j (is.part longest.is) longest.at longest

  pub part_fails : (room : Room) (s : S) (i : ℕ) (fault : ParseFault) → FailMeans g ts room (g.rule_of s) i fault → FailMeans g ts room (rule.part s) i fault
  part_fails room s i fault h =
      through_fails g ts room room (rule.part s) (g.rule_of s) i (part_inverse room s i) (λ f p. front.part p)
      (λ larger f p. record { larger = larger; is = front.part p }) (part_tree room s i) fault h

  -- one of two

  left_inverse : (room : Room) (a b : Rule A S) (i : ℕ) → Decided table (a ∣ b) → In g ts i (first table a)
      → (other : Room) (f : List A) (n : ℕ) → Front g other (a ∣ b) f → At ts i f n → (n ≤ i) ⊎ FrontThrough g ts room room (a ∣ b) a i other f
  left_inverse room a b i d h other f n p at =
      elim (front_or g p) [
        | inl q ↦ inr (record { other_inner = other; is = q; same = λ e. e })
        | inr q ↦
            elim (cases_lt i n) [
              | inl lt ↦
                  absurd (in_apart g.class_of (first table a) (first table b) (slice_get ts i) d.4 h (front_starts g table fine ts d.1 q at lt))
              | inr le ↦ inl le
            ]
      ]

  left_tree : (room : Room) (a b : Rule A S) (i : ℕ) → Decided table (a ∣ b) → In g ts i (first table a)
      → (k : ℕ) → Ends g ts (Any g ts) a i k → (other : Room) (t : Tree A S) → Is g other (a ∣ b) t → At ts i (spelling t) k
      → TreeThrough g ts room room (a ∣ b) a i k
  left_tree room a b i d h k ends other t (is.left p) at = record { any = other; tree = t; is = p; at = at }
  left_tree room a b i d h k ends other t (is.right p) at =
      absurd (in_apart g.class_of (first table a) (first table b) (slice_get ts i) d.4 h
      (tree_starts g table fine ts d.1 p at (takes g table fine ts d.1 d.3 p at)))

  pub left : (room : Room) (a b : Rule A S) (i : ℕ) (o : Outcome A S) → Decided table (a ∣ b) → In g ts i (first table a)
      → Means g ts room a i o → Means g ts room (a ∣ b) i o
  left room a b i (Done t j) d h longest =
      through_done g ts room room (a ∣ b) a i (left_inverse room a b i d h) t t j (is.left longest.is) longest.at longest
  left room a b i (Fail fault) d h fails =
      through_fails g ts room room (a ∣ b) a i (left_inverse room a b i d h) (λ f p. front.left p)
      (λ larger f p. record { larger = larger; is = front.left p }) (left_tree room a b i d h) fault fails

  right_inverse : (room : Room) (a b : Rule A S) (i : ℕ) → Decided table (a ∣ b) → starts_in g.class_of (first table a) (slice_get ts i) ≡ false
      → (other : Room) (f : List A) (n : ℕ) → Front g other (a ∣ b) f → At ts i f n → (n ≤ i) ⊎ FrontThrough g ts room room (a ∣ b) b i other f
  right_inverse room a b i d h other f n p at =
      elim (front_or g p) [
        | inl q ↦ inl (no_front g table fine ts d.0 h other f n q at)
        | inr q ↦ inr (record { other_inner = other; is = q; same = λ e. e })
      ]

  right_tree : (room : Room) (a b : Rule A S) (i : ℕ) → Decided table (a ∣ b) → starts_in g.class_of (first table a) (slice_get ts i) ≡ false
      → (k : ℕ) → Ends g ts (Any g ts) b i k → (other : Room) (t : Tree A S) → Is g other (a ∣ b) t → At ts i (spelling t) k
      → TreeThrough g ts room room (a ∣ b) b i k
  right_tree room a b i d h k ends other t (is.right p) at = record { any = other; tree = t; is = p; at = at }
  right_tree room a b i d h k ends other t (is.left p) at =
      let some = takes g table fine ts d.0 d.2 p at in
      let le = no_front g table fine ts d.0 h other (spelling t) k (front.whole p refl) at in
      absurd (omega arith)

  pub right : (room : Room) (a b : Rule A S) (i : ℕ) (o : Outcome A S) → Decided table (a ∣ b) → starts_in g.class_of (first table a) (slice_get ts i) ≡ false
      → Means g ts room b i o → Means g ts room (a ∣ b) i o
  right room a b i (Done t j) d h longest =
      through_done g ts room room (a ∣ b) b i (right_inverse room a b i d h) t t j (is.right longest.is) longest.at longest
  right room a b i (Fail fault) d h fails =
      through_fails g ts room room (a ∣ b) b i (right_inverse room a b i d h) (λ f p. front.right p)
      (λ larger f p. record { larger = larger; is = front.right p }) (right_tree room a b i d h) fault fails

  -- once or not at all

  once_inverse : (room : Room) (a : Rule A S) (i : ℕ) (other : Room) (f : List A) (n : ℕ) → Front g other (maybe a) f → At ts i f n
      → (n ≤ i) ⊎ FrontThrough g ts room room (maybe a) a i other f
  once_inverse room a i other f n p at = inr (record { other_inner = other; is = front_maybe g p; same = λ e. e })

  once_tree : (room : Room) (a : Rule A S) (i : ℕ) → Decided table (maybe a) → In g ts i (first table a)
      → (k : ℕ) → Ends g ts (Any g ts) a i k → (other : Room) (t : Tree A S) → Is g other (maybe a) t → At ts i (spelling t) k
      → TreeThrough g ts room room (maybe a) a i k
  once_tree room a i d h k ends other t (is.once p) at = record { any = other; tree = t; is = p; at = at }
  once_tree room a i d h k ends other t is.never at =
      let end = At-of_none at refl in let lt = moves g table fine ts d.0 h ends in absurd (omega arith)

  pub once : (room : Room) (a : Rule A S) (i : ℕ) (o : Outcome A S) → Decided table (maybe a) → In g ts i (first table a)
      → Means g ts room a i o → Means g ts room (maybe a) i o
  once room a i (Done t j) d h longest =
      through_done g ts room room (maybe a) a i (once_inverse room a i) t t j (is.once longest.is) longest.at longest
  once room a i (Fail fault) d h fails =
      through_fails g ts room room (maybe a) a i (once_inverse room a i) (λ f p. front.once p)
      (λ larger f p. record { larger = larger; is = front.once p }) (once_tree room a i d h) fault fails

  pub never : (room : Room) (a : Rule A S) (i : ℕ) → Decided table (maybe a) → starts_in g.class_of (first table a) (slice_get ts i) ≡ false
      → Longest g ts room (maybe a) i none i
  never room a i d h = record {
    is = is.never;
    at = here;
    ends = λ other f n e p at. no_front g table fine ts d.0 h other f n (front_maybe g p) at;
  }

  -- one level deeper

  deeper_inverse : (room inner : Room) (nesting : Nesting) (a : Rule A S) (i : ℕ) → IsInside nesting room inner
      → (other : Room) (f : List A) (n : ℕ) → Front g other (rule.deeper nesting a) f → At ts i f n
      → (n ≤ i) ⊎ FrontThrough g ts room inner (rule.deeper nesting a) a i other f
  deeper_inverse room inner nesting a i h other f n p at =
      elim (front_deeper g p) [
        | inl e ↦ let end = At-of_none at e in inl (omega arith)
        | inr q ↦
            inr (record {
              other_inner = q.0;
              is = q.2;
              same = λ e. IsInside-one nesting room inner q.0 h (subst (λ x. IsInside nesting x q.0) e q.1);
            })
      ]

  deeper_tree : (room inner : Room) (nesting : Nesting) (a : Rule A S) (i k : ℕ) → Ends g ts (Any g ts) a i k → (other : Room) (t : Tree A S)
      → Is g other (rule.deeper nesting a) t → At ts i (spelling t) k → TreeThrough g ts room inner (rule.deeper nesting a) a i k
  deeper_tree room inner nesting a i k ends other t (is.deeper {inner = any} e p) at = record { any = any; tree = t; is = p; at = at }

  pub deeper : (room inner : Room) (nesting : Nesting) (a : Rule A S) (i : ℕ) (o : Outcome A S) → IsInside nesting room inner
      → Means g ts inner a i o → Means g ts room (rule.deeper nesting a) i o
  deeper room inner nesting a i (Done t j) h longest =
      through_done g ts room inner (rule.deeper nesting a) a i (deeper_inverse room inner nesting a i h) t t j (is.deeper h longest.is) longest.at longest
  deeper room inner nesting a i (Fail fault) h fails =
      through_fails g ts room inner (rule.deeper nesting a) a i (deeper_inverse room inner nesting a i h) (λ f p. front.deeper h p)
      (λ larger f p. record { larger = around nesting larger; is = front.deeper (IsInside-around nesting larger) p })
      (deeper_tree room inner nesting a i) fault fails

  full_ends : (room : Room) (nesting : Nesting) (a : Rule A S) (i : ℕ) → IsFull nesting room → Ends g ts (Only g ts room) (rule.deeper nesting a) i i
  full_ends room nesting a i full other f n e p at =
      elim (front_deeper g p) [
        | inl z ↦ let end = At-of_none at z in omega arith
        | inr q ↦ absurd (IsFull-IsInside nesting room q.0 full (subst (λ x. IsInside nesting x q.0) e q.1))
      ]

  pub too_deep : (room : Room) (nesting : Nesting) (a : Rule A S) (i : ℕ) → Decided table (rule.deeper nesting a) → IsFull nesting room
      → In g ts i (first table a) → Deep g ts room (rule.deeper nesting a) i i
  too_deep room nesting a i d full h =
      let further = one_further g table fine ts d.0 h in
      let q = further.1 in
      record {
        reaches = record { tokens = []; is = front.empty; at = here };
        ends = full_ends room nesting a i full;
        larger = around nesting further.0;
        further = record { tokens = q.tokens; is = front.deeper (IsInside-around nesting further.0) q.is; at = q.at };
      }
