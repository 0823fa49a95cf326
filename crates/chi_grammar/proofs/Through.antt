-- A rule that stands for another one, whose fronts and trees are those of the other.
use Rattle.std.proofs.Common.{◌≡◌, ℕ, suc, ◌<◌, ◌≤◌, true, false, Option, Some, None, List, [], ◌∷◌, ◌⊎◌, inl, inr, slice_get, refl, arith}
use Rattle.std.proofs.lemmas.Bool.{cases_lt}
use Rattle.chi_grammar.specs.declared.fault.ParseFault.{ParseFault}
use Rattle.chi_grammar.specs.declared.fault.ParseFault.TheVariants.{Syntax, TooDeep, NoMemory}
use Rattle.chi_grammar.specs.declared.room.Room.{Room}
use Rattle.chi_grammar.specs.Rules.{Tree, spelling, Rule, Grammar}
use Rattle.chi_grammar.specs.Trees.{Is}
use Rattle.chi_grammar.specs.Fronts.{Front}
use Rattle.chi_grammar.specs.Fronts as front
use Rattle.chi_grammar.specs.Lookahead.{Table, may_be_empty, first, starts_in}
use Rattle.chi_grammar.specs.Fine.{Fine}
use Rattle.chi_grammar.proofs.At.{At, here, on, At-ordered}
use Rattle.chi_grammar.proofs.Classes.{In}
use Rattle.chi_grammar.proofs.Decided.{Decided}
use Rattle.chi_grammar.proofs.Starts.{takes, front_starts}
use Rattle.chi_grammar.proofs.Begun.{begun}
use Rattle.chi_grammar.proofs.Means.{Reaches, Ends, Any, Only, Longest, Stuck, FailMeans}

module _ {A S : Type 0} (g : Grammar A S) (ts : List A) (room inner : Room) (r a : Rule A S) (i : ℕ) where
  -- a front of the rule is one of the other, within a room that is the inner one where the first is the room
  pub record FrontThrough (other : Room) (f : List A) : Type 0 where
    pub other_inner : Room
    pub is : Front g other_inner a f
    pub same : other ≡ room → other_inner ≡ inner

  pub record TreeThrough (k : ℕ) : Type 0 where
    pub any : Room
    pub tree : Tree A S
    pub is : Is g any a tree
    pub at : At ts i (spelling tree) k

  pub record FrontOut (f : List A) : Type 0 where
    pub larger : Room
    pub is : Front g larger r f

  module _ (inverse : (other : Room) (f : List A) (n : ℕ) → Front g other r f → At ts i f n → (n ≤ i) ⊎ FrontThrough other f) where
    pub through_ends : (k : ℕ) → i ≤ k → Ends g ts (Any g ts) a i k → Ends g ts (Any g ts) r i k
    through_ends k le ends other f n e p at =
        elim (inverse other f n p at) [ inl low ↦ omega arith | inr q ↦ ends q.other_inner f n tt q.is at ]

    through_ends_only : (k : ℕ) → i ≤ k → Ends g ts (Only g ts inner) a i k → Ends g ts (Only g ts room) r i k
    through_ends_only k le ends other f n e p at =
        elim (inverse other f n p at) [ inl low ↦ omega arith | inr q ↦ ends q.other_inner f n (q.same e) q.is at ]

    pub through_done : (t u : Tree A S) (j : ℕ) → Is g room r u → At ts i (spelling u) j → Longest g ts inner a i t j → Longest g ts room r i u j
    through_done t u j p at longest = record { is = p; at = at; ends = through_ends j (At-ordered at) longest.ends }

    module _ (out : (f : List A) → Front g inner a f → Front g room r f) (out_any : (larger : Room) (f : List A) → Front g larger a f → FrontOut f)
        (trees : (k : ℕ) → Ends g ts (Any g ts) a i k → (other : Room) (t : Tree A S) → Is g other r t → At ts i (spelling t) k → TreeThrough k) where
      through_reaches : (k : ℕ) → Reaches g ts inner a i k → Reaches g ts room r i k
      through_reaches k reached = record { tokens = reached.tokens; is = out reached.tokens reached.is; at = reached.at }

      pub through_fails : (fault : ParseFault) → FailMeans g ts inner a i fault → FailMeans g ts room r i fault
      through_fails (Syntax k) stuck = record {
        reaches = through_reaches k stuck.reaches;
        ends = through_ends k (At-ordered stuck.reaches.at) stuck.ends;
        no_tree = λ other t p at. let q = trees k stuck.ends other t p at in stuck.no_tree q.any q.tree q.is q.at;
      }
      through_fails (TooDeep k) deep =
          let further = deep.further in
          let q = out_any deep.larger further.tokens further.is in
          record {
            reaches = through_reaches k deep.reaches;
            ends = through_ends_only k (At-ordered deep.reaches.at) deep.ends;
            larger = q.larger;
            further = record { tokens = further.tokens; is = q.is; at = further.at };
          }
      through_fails NoMemory h = tt

module _ {A S : Type 0} (g : Grammar A S) (table : Table S) (fine : Fine g table) (ts : List A) where
  not_in : (r : Rule A S) (i : ℕ) → starts_in g.class_of (first table r) (slice_get ts i) ≡ false → In g ts i (first table r) → ⊥
  not_in r i e h = cc

  -- no token of those with which the rule begins stands here: its fronts are empty
  pub no_front : {r : Rule A S} {i : ℕ} → Decided table r → starts_in g.class_of (first table r) (slice_get ts i) ≡ false
      → (room : Room) (f : List A) (n : ℕ) → Front g room r f → At ts i f n → n ≤ i
  no_front {r} {i} d e room f n p at =
      elim (cases_lt i n) [ inl lt ↦ absurd (not_in r i e (front_starts g table fine ts d p at lt)) | inr le ↦ le ]

  -- and where it isn't empty, no tree of it stands here
  pub blocked : {room : Room} {r : Rule A S} {i : ℕ} → Decided table r → may_be_empty r ≡ false
      → starts_in g.class_of (first table r) (slice_get ts i) ≡ false → Stuck g ts room r i i
  blocked {room} {r} {i} d some e = record {
    reaches = record { tokens = []; is = front.empty; at = here };
    ends = λ other f n q p at. no_front d e other f n p at;
    no_tree = λ other t p at. let lt = takes g table fine ts d some p at in absurd (omega arith);
  }

  -- one of them stands here: it is a front of the rule
  pub one_further : {r : Rule A S} {i : ℕ} → Decided table r → In g ts i (first table r) → (room : Room) × Reaches g ts room r i (suc i)
  one_further {r} {i} d h = by (slice_get ts i) refl h
    where
      by : (o : Option A) → slice_get ts i ≡ o → starts_in g.class_of (first table r) o ≡ true → (room : Room) × Reaches g ts room r i (suc i)
      by None e h = cc
      by (Some x) e h =
          let b = begun g table fine r x d h in (b.room, record { tokens = x ∷ []; is = b.is; at = on e here })

  pub moves : {r : Rule A S} {i k : ℕ} → Decided table r → In g ts i (first table r) → Ends g ts (Any g ts) r i k → i < k
  moves {r} {i} {k} d h ends = let f = one_further d h in let q = f.1 in ends f.0 q.tokens (suc i) tt q.is q.at
