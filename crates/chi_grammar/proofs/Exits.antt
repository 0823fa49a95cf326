-- What the exits of a parsing function answer: one lemma for each way in which a rule is read.
use Rattle.std.proofs.Common.{◌≡◌, ℕ, suc, ◌≤◌, Bool, true, false, Ok, Err, Result, IsErrAnd, inl, inr, List, [], ◌∷◌, length, sym, subst, arith}
use Rattle.chi_grammar.specs.declared.fault.ParseFault.{ParseFault}
use Rattle.chi_grammar.specs.declared.fault.ParseFault.TheVariants.{Syntax, NoMemory}
use Rattle.chi_grammar.specs.declared.room.Nesting.{Nesting}
use Rattle.chi_grammar.specs.declared.room.Room.{Room}
use Rattle.chi_grammar.specs.Rooms.{IsInside, IsFull}
use Rattle.chi_grammar.specs.Rules.{Tree, leaf, node, pair, none, spelling, Rule, ◌▸◌, ◌∣◌, maybe, many, when, Grammar}
use Rattle.chi_grammar.specs.Rules as rule
use Rattle.chi_grammar.specs.Lookahead.{Table, Next, first}
use Rattle.chi_grammar.specs.RuleRuns.{Outcome, Done, Fail, RuleRuns}
use Rattle.chi_grammar.specs.RuleRuns as runs
use Rattle.chi_grammar.specs.Reads.{Reads, ReadsTree, TokenAt, Refuses}
use Rattle.chi_grammar.proofs.At.{At, here, on, At-ordered, At-inside, At-join}

module _ {A S : Type 0} (g : Grammar A S) (table : Table S) (tokens : List A) where
  -- the tokens of the tree that a run gives
  pub run_at : {room : Room} {r : Rule A S} {i j : ℕ} {t : Tree A S} → RuleRuns g table tokens room r i (Done t j) → At tokens i (spelling t) j
  run_at (runs.word e f) = on e here
  run_at (runs.part p) = run_at p
  run_at (runs.both p q) = At-join (run_at p) (run_at q)
  run_at (runs.left h p) = run_at p
  run_at (runs.right h p) = run_at p
  run_at (runs.once h p) = run_at p
  run_at (runs.never h) = here
  run_at (runs.more h p q) = At-join (run_at p) (run_at q)
  run_at (runs.enough h) = here
  run_at (runs.deeper h p) = run_at p
  run_at (runs.chosen p e q) = At-join (run_at p) (run_at q)
  run_at (runs.otherwise p e q) = At-join (run_at p) (run_at q)

  -- one token

  pub run_word : {room : Room} {class i j : ℕ} {x : A} → TokenAt g tokens class i x j → RuleRuns g table tokens room (rule.word class) i (Done (leaf x) j)
  run_word {room} {class} {i} {j} {x} t =
      let next : suc i ≡ j = omega (arith, t.after) in
      subst (λ n. RuleRuns g table tokens room (rule.word class) i (Done (leaf x) n)) next (runs.word t.stands t.of_class)

  pub run_no_word : {room : Room} {class i : ℕ} {fault : ParseFault} → (fault ≡ Syntax i) × Next g tokens i (class ∷ []) false
      → RuleRuns g table tokens room (rule.word class) i (Fail fault)
  run_no_word {room} {class} {i} h = subst (λ f. RuleRuns g table tokens room (rule.word class) i (Fail f)) (sym h.0) (runs.no_word h.1)

  -- no level is left
  pub run_refused : (room : Room) (nesting : Nesting) (a : Rule A S) (i : ℕ) (fault : ParseFault) → IsFull nesting room
      → Refuses g tokens (first table a) i fault → RuleRuns g table tokens room (rule.deeper nesting a) i (Fail fault)
  run_refused room nesting a i fault full (inl h) =
      subst (λ f. RuleRuns g table tokens room (rule.deeper nesting a) i (Fail f)) (sym h.0) (runs.too_deep full h.1)
  run_refused room nesting a i fault full (inr h) =
      subst (λ f. RuleRuns g table tokens room (rule.deeper nesting a) i (Fail f)) (sym h.0) (runs.not_deeper full h.1)

  module _ {T : Type 0} (view : Tree A S → T) where
    -- a tree that was read
    pub read : {room : Room} {r : Rule A S} {at k : ℕ} {t : Tree A S} {x : T} → at ≤ length tokens
        → RuleRuns g table tokens room r at (Done t k) → view t ≡ x → ReadsTree g table tokens view room r at x k
    read {t = t} inside p shows = record {
      tree = t;
      runs = p;
      shows = shows;
      ordered = At-ordered (run_at p);
      inside = At-inside (run_at p) inside;
    }

    -- an answer that is passed on

    pub reads_part : (room : Room) (s : S) (at : ℕ) (result : Result (T × ℕ) ParseFault)
        → Reads g table tokens (λ t. view (node s t)) room (g.rule_of s) at result → Reads g table tokens view room (rule.part s) at result
    reads_part room s at (Ok p) q =
        record { tree = node s q.tree; runs = runs.part q.runs; shows = q.shows; ordered = q.ordered; inside = q.inside }
    reads_part room s at (Err fault) q = runs.part_fails q

    pub reads_left : (room : Room) (a b : Rule A S) (at : ℕ) (result : Result (T × ℕ) ParseFault)
        → Next g tokens at (first table a) true
        → Reads g table tokens view room a at result → Reads g table tokens view room (a ∣ b) at result
    reads_left room a b at (Ok p) h q =
        record { tree = q.tree; runs = runs.left h q.runs; shows = q.shows; ordered = q.ordered; inside = q.inside }
    reads_left room a b at (Err fault) h q = runs.left h q

    pub reads_right : (room : Room) (a b : Rule A S) (at : ℕ) (result : Result (T × ℕ) ParseFault)
        → Next g tokens at (first table a) false
        → Reads g table tokens view room b at result → Reads g table tokens view room (a ∣ b) at result
    reads_right room a b at (Ok p) h q =
        record { tree = q.tree; runs = runs.right h q.runs; shows = q.shows; ordered = q.ordered; inside = q.inside }
    reads_right room a b at (Err fault) h q = runs.right h q

    pub reads_once : (room : Room) (a : Rule A S) (at : ℕ) (result : Result (T × ℕ) ParseFault)
        → Next g tokens at (first table a) true
        → Reads g table tokens view room a at result → Reads g table tokens view room (maybe a) at result
    reads_once room a at (Ok p) h q =
        record { tree = q.tree; runs = runs.once h q.runs; shows = q.shows; ordered = q.ordered; inside = q.inside }
    reads_once room a at (Err fault) h q = runs.once h q

    pub reads_deeper : (room inner : Room) (nesting : Nesting) (a : Rule A S) (at : ℕ) (result : Result (T × ℕ) ParseFault)
        → IsInside nesting room inner
        → Reads g table tokens view inner a at result → Reads g table tokens view room (rule.deeper nesting a) at result
    reads_deeper room inner nesting a at (Ok p) h q =
        record { tree = q.tree; runs = runs.deeper h q.runs; shows = q.shows; ordered = q.ordered; inside = q.inside }
    reads_deeper room inner nesting a at (Err fault) h q = runs.deeper h q

    -- an answer that is passed on after a tree

    pub reads_then : (room : Room) (a b : Rule A S) (at j : ℕ) (t : Tree A S) (result : Result (T × ℕ) ParseFault)
        → RuleRuns g table tokens room a at (Done t j) → Reads g table tokens (λ u. view (pair t u)) room b j result
        → Reads g table tokens view room (a ▸ b) at result
    reads_then room a b at j t (Ok p) begin q =
        let before = At-ordered (run_at begin) in
        let after = q.ordered in
        record { tree = pair t q.tree; runs = runs.both begin q.runs; shows = q.shows; ordered = omega arith; inside = q.inside }
    reads_then room a b at j t (Err fault) begin q = runs.next_fails begin q

    pub reads_chosen : (room : Room) (a b c : Rule A S) (test : Tree A S → Bool) (at j : ℕ) (t : Tree A S) (result : Result (T × ℕ) ParseFault)
        → RuleRuns g table tokens room a at (Done t j) → test t ≡ true → Reads g table tokens (λ u. view (pair t u)) room b j result
        → Reads g table tokens view room (when a test b c) at result
    reads_chosen room a b c test at j t (Ok p) begin e q =
        let before = At-ordered (run_at begin) in
        let after = q.ordered in
        record { tree = pair t q.tree; runs = runs.chosen begin e q.runs; shows = q.shows; ordered = omega arith; inside = q.inside }
    reads_chosen room a b c test at j t (Err fault) begin e q = runs.chosen_fails begin e q

    pub reads_otherwise : (room : Room) (a b c : Rule A S) (test : Tree A S → Bool) (at j : ℕ) (t : Tree A S) (result : Result (T × ℕ) ParseFault)
        → RuleRuns g table tokens room a at (Done t j) → test t ≡ false → Reads g table tokens (λ u. view (pair t u)) room c j result
        → Reads g table tokens view room (when a test b c) at result
    reads_otherwise room a b c test at j t (Ok p) begin e q =
        let before = At-ordered (run_at begin) in
        let after = q.ordered in
        record { tree = pair t q.tree; runs = runs.otherwise begin e q.runs; shows = q.shows; ordered = omega arith; inside = q.inside }
    reads_otherwise room a b c test at j t (Err fault) begin e q = runs.otherwise_fails begin e q

    -- a fault that `?` passes on

    pub failed : (room : Room) (r : Rule A S) (at : ℕ) (result : Result (T × ℕ) ParseFault) (fault : ParseFault) → IsErrAnd result (λ e. e ≡ fault)
        → RuleRuns g table tokens room r at (Fail fault) → Reads g table tokens view room r at result
    failed room r at (Ok p) fault e run = absurd e
    failed room r at (Err f) fault e run = subst (λ x. RuleRuns g table tokens room r at (Fail x)) (sym e) run

    pub no_memory : (room : Room) (r : Rule A S) (at : ℕ) (result : Result (T × ℕ) ParseFault) → IsErrAnd result (λ e. e ≡ NoMemory)
        → Reads g table tokens view room r at result
    no_memory room r at result e = failed room r at result NoMemory e runs.no_memory
