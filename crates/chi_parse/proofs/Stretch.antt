-- A block is read statement by statement.
use Rattle.std.proofs.Common.{◌≡◌, ℕ, ◌+◌, ◌-◌, ◌<◌, ◌≤◌, Bool, true, false, ◌||◌, ◌&&◌, ◌==◌, Some, None, Option, List, [], ◌∷◌, ◌++◌, length, slice_get, refl, sym, ap, ◌∙◌, append_assoc, if◌then◌else◌, arith}
use Rattle.chi_grammar.specs.declared.fault.ParseFault.{ParseFault}
use Rattle.chi_grammar.specs.declared.room.Room.{Room}
use Rattle.chi_grammar.specs.Rules.{Rule, node, pair, none, part, maybe}
use Rattle.chi_grammar.specs.Lookahead.{Next, first, holds, starts_in}
use Rattle.chi_grammar.specs.Reads.{ReadsTree}
use Rattle.chi_grammar.specs.RuleRuns.{Outcome, Done, Fail, RuleRuns}
use Rattle.chi_grammar.specs.RuleRuns as runs
use Rattle.chi_grammar.proofs.Exits.{read}
use Rattle.chi_token.specs.declared.place.Spanned.{Spanned}
use Rattle.chi_token.specs.declared.sign.Sign.TheVariants.{Semicolon}
use Rattle.chi_tree.specs.declared.statement.Statement.{Statement}
use Rattle.chi_tree.specs.declared.statement.Step.{Step}
use Rattle.chi_tree.specs.Parts.{Part}
use Rattle.chi_tree.specs.Parts as s
use Rattle.chi_tree.specs.Rules.{grammar, sign}
use Rattle.chi_tree.specs.Statements.{block_of, ends_in_end, followed, statement_of, step}
use Rattle.chi_tree.specs.Tables.{table}
use Rattle.chi_tree.specs.View.{Built}
use Rattle.chi_parse.proofs.Shapes.{run_ahead}
use Rattle.chi_parse.specs.Heads.{statement, shown, is_there}

abbrev pub R : List Spanned → Room → Rule Spanned Part → ℕ → Outcome Spanned Part → Type 0
R = RuleRuns grammar table

-- Statements were read from `at` to before `i`, where a block begins: with them before it, the whole is a block.
pub record Before (tokens : List Spanned) (room : Room) (at i : ℕ) (steps : List Step) : Type 0 where
  pub whole : Built → Built
  pub shows : (t : Built) → block_of (whole t) ≡ steps ++ block_of (node s.Block t)
  pub done : (t : Built) (k : ℕ) → R tokens room (part s.Block) i (Done (node s.Block t) k) → R tokens room (part s.Block) at (Done (whole t) k)
  pub fails : (fault : ParseFault) → R tokens room (part s.Block) i (Fail fault) → R tokens room (part s.Block) at (Fail fault)
  pub inside : i ≤ length tokens

-- where more statements follow, they stand before a block; else they are the whole block
abbrev pub Stretch : List Spanned → Room → ℕ → Bool → ℕ → List Step → Type 0
Stretch tokens room at true i steps = Before tokens room at i steps
Stretch tokens room at false i steps = ReadsTree grammar table tokens block_of room (part s.Block) at steps i

-- what stands after a statement, by whether its last token is "end"
abbrev pub after_rule : Bool → Part
after_rule true = s.AfterEnd
after_rule false = s.AfterOpen

abbrev around : Built → Outcome Spanned Part → Outcome Spanned Part
around t (Done u k) = Done (node s.Block (pair t u)) k
around t (Fail fault) = Fail fault

or_right : (a b : Bool) → b ≡ true → (a || b) ≡ true
or_right true b e = refl
or_right false b e = e

or_alone : (a b : Bool) → (a || false) ≡ true → (a || b) ≡ true
or_alone true b e = refl
or_alone false b e = absurd (cc)

abbrev block_classes : List ℕ
block_classes = first {A = Spanned} table (part s.Block)

class_more : (f : Spanned → ℕ) (c : ℕ) (cs : List ℕ) (o : Option Spanned) → starts_in f cs o ≡ true → starts_in f (c ∷ cs) o ≡ true
class_more f c cs None e = e
class_more f c cs (Some x) e = or_right (c == f x) (holds cs (f x)) e

class_none : (f : Spanned → ℕ) (c : ℕ) (cs : List ℕ) (o : Option Spanned) → starts_in f (c ∷ []) o ≡ false → starts_in f cs o ≡ false → starts_in f (c ∷ cs) o ≡ false
class_none f c cs None h e = e
class_none f c cs (Some x) h e = cc

class_one : (f : Spanned → ℕ) (c : ℕ) (cs : List ℕ) (o : Option Spanned) → starts_in f (c ∷ []) o ≡ true → starts_in f (c ∷ cs) o ≡ true
class_one f c cs None h = h
class_one f c cs (Some x) h = or_alone (c == f x) (holds cs (f x)) h

module _ (tokens : List Spanned) (room : Room) where
  closes : {i j : ℕ} {t : Built} (e : Bool) → ends_in_end t ≡ e → R tokens room statement i (Done t j) → (o : Outcome Spanned Part)
      → R tokens room (maybe (part (after_rule e))) j o → R tokens room (part s.Block) i (around t o)
  closes true same (runs.left h (runs.part p)) (Done u k) q = runs.part (runs.left h (runs.both (runs.part p) q))
  closes true same (runs.left h (runs.part p)) (Fail fault) q = runs.part_fails (runs.left h (runs.next_fails (runs.part p) q))
  closes false same (runs.left h (runs.part p)) o q = absurd (cc)
  closes true same (runs.right h (runs.left h' (runs.part p))) (Done u k) q = runs.part (runs.right h (runs.left h' (runs.chosen (runs.part p) same q)))
  closes true same (runs.right h (runs.left h' (runs.part p))) (Fail fault) q =
      runs.part_fails (runs.right h (runs.left h' (runs.chosen_fails (runs.part p) same q)))
  closes false same (runs.right h (runs.left h' (runs.part p))) (Done u k) q = runs.part (runs.right h (runs.left h' (runs.otherwise (runs.part p) same q)))
  closes false same (runs.right h (runs.left h' (runs.part p))) (Fail fault) q =
      runs.part_fails (runs.right h (runs.left h' (runs.otherwise_fails (runs.part p) same q)))
  closes true same (runs.right h (runs.right h' (runs.part p))) o q = absurd (cc)
  closes false same (runs.right h (runs.right h' (runs.part p))) (Done u k) q = runs.part (runs.right h (runs.right h' (runs.both (runs.part p) q)))
  closes false same (runs.right h (runs.right h' (runs.part p))) (Fail fault) q =
      runs.part_fails (runs.right h (runs.right h' (runs.next_fails (runs.part p) q)))

  -- a `;` as what stands after a statement
  semicolon_then : (e : Bool) {j k : ℕ} {u : Built} → Next grammar tokens j (first table (sign Semicolon)) true → R tokens room (sign Semicolon) j (Done u k)
      → {m : ℕ} {v : Built} → R tokens room (maybe (part s.Block)) k (Done v m)
      → R tokens room (maybe (part (after_rule e))) j (Done (node (after_rule e) (pair u v)) m)
  semicolon_then true {j} h p q = runs.once (class_one grammar.class_of _ block_classes (slice_get tokens j) h) (runs.part (runs.left h (runs.both p q)))
  semicolon_then false h p q = runs.once h (runs.part (runs.both p q))

  semicolon_fails : (e : Bool) {j k : ℕ} {u : Built} → Next grammar tokens j (first table (sign Semicolon)) true → R tokens room (sign Semicolon) j (Done u k)
      → {fault : ParseFault} → R tokens room (maybe (part s.Block)) k (Fail fault)
      → R tokens room (maybe (part (after_rule e))) j (Fail fault)
  semicolon_fails true {j} h p q = runs.once (class_one grammar.class_of _ block_classes (slice_get tokens j) h) (runs.part_fails (runs.left h (runs.next_fails p q)))
  semicolon_fails false h p q = runs.once h (runs.part_fails (runs.next_fails p q))

  -- a statement that fails
  pub begun_fails : {i : ℕ} {fault : ParseFault} → R tokens room statement i (Fail fault) → R tokens room (part s.Block) i (Fail fault)
  begun_fails (runs.left h p) = runs.part_fails (runs.left h (runs.first_fails p))
  begun_fails (runs.right h (runs.left h' p)) = runs.part_fails (runs.right h (runs.left h' (runs.test_fails p)))
  begun_fails (runs.right h (runs.right h' p)) = runs.part_fails (runs.right h (runs.right h' (runs.first_fails p)))
  begun_fails (runs.right h runs.no_memory) = runs.no_memory
  begun_fails runs.no_memory = runs.no_memory

  pub statement_ahead : {i j : ℕ} {t : Built} → R tokens room statement i (Done t j) → i < j
  statement_ahead (runs.left h p) = run_ahead p
  statement_ahead (runs.right h (runs.left h' p)) = run_ahead p
  statement_ahead (runs.right h (runs.right h' p)) = run_ahead p

  module _ {at i j : ℕ} {t : Built} {steps : List Step} (before : Before tokens room at i steps) (e : Bool) (same : ends_in_end t ≡ e)
      (p : R tokens room statement i (Done t j)) (semi : Bool) (longer : List Step) (is : longer ≡ steps ++ step (statement_of t) semi ∷ []) where
    goes_on : {k : ℕ} (rest : Built → Built)
        → ((v : Built) (m : ℕ) → R tokens room (part s.Block) k (Done (node s.Block v) m) → R tokens room (maybe (part (after_rule e))) j (Done (rest v) m))
        → ((fault : ParseFault) → R tokens room (part s.Block) k (Fail fault) → R tokens room (maybe (part (after_rule e))) j (Fail fault))
        → ((v : Built) → followed (statement_of t) (rest v) ≡ step (statement_of t) semi ∷ block_of (node s.Block v))
        → k ≤ length tokens → Before tokens room at k longer
    goes_on rest reads fails view inside = record {
      whole = λ v. before.whole (pair t (rest v));
      shows = λ v.
          before.shows (pair t (rest v)) ∙ ap (λ xs. steps ++ xs) (view v)
          ∙ sym (append_assoc steps (step (statement_of t) semi ∷ []) (block_of (node s.Block v))) ∙ ap (λ xs. xs ++ block_of (node s.Block v)) (sym is);
      done = λ v m r. before.done (pair t (rest v)) m (closes e same p (Done (rest v) m) (reads v m r));
      fails = λ fault r. before.fails fault (closes e same p (Fail fault) (fails fault r));
      inside = inside;
    }

    ends_here : {k : ℕ} (w : Built) → R tokens room (maybe (part (after_rule e))) j (Done w k)
        → followed (statement_of t) w ≡ step (statement_of t) semi ∷ [] → at ≤ length tokens
        → ReadsTree grammar table tokens block_of room (part s.Block) at longer k
    ends_here {k} w r view inside =
        read grammar table tokens block_of inside (before.done (pair t w) k (closes e same p (Done w k) r))
        (before.shows (pair t w) ∙ ap (λ xs. steps ++ xs) view ∙ sym is)

  turn_by : {at i j k : ℕ} {t u : Built} {steps : List Step} → Before tokens room at i steps → R tokens room statement i (Done t j)
      → R tokens room (maybe (sign Semicolon)) j (Done u k) → (e semi next : Bool) → ends_in_end t ≡ e → is_there u ≡ semi
      → Next grammar tokens k block_classes next → (longer : List Step) → longer ≡ steps ++ step (statement_of t) semi ∷ []
      → at ≤ length tokens → k ≤ length tokens → Stretch tokens room at ((e || semi) && next) k longer
  turn_by {k = k} before p (runs.never h) true false true same there next longer is start inside =
      goes_on before true same p false longer is (λ v. node s.AfterEnd (node s.Block v))
      (λ v m r. runs.once (class_more grammar.class_of _ block_classes (slice_get tokens k) next) (runs.part (runs.right h r)))
      (λ fault r. runs.once (class_more grammar.class_of _ block_classes (slice_get tokens k) next) (runs.part_fails (runs.right h r)))
      (λ v. refl) inside
  turn_by {k = k} before p (runs.never h) true false false same there next longer is start inside =
      ends_here before true same p false longer is none (runs.never (class_none grammar.class_of _ block_classes (slice_get tokens k) h next)) refl start
  turn_by before p (runs.never h) false false true same there next longer is start inside = ends_here before false same p false longer is none (runs.never h) refl start
  turn_by before p (runs.never h) false false false same there next longer is start inside = ends_here before false same p false longer is none (runs.never h) refl start
  turn_by before p (runs.never h) e true b same there next longer is start inside = absurd (cc)
  turn_by {u = u} before p (runs.once h q) true true true same there next longer is start inside =
      goes_on before true same p true longer is (λ v. node s.AfterEnd (pair u (node s.Block v)))
      (λ v m r. semicolon_then true h q (runs.once next r)) (λ fault r. semicolon_fails true h q (runs.once next r)) (λ v. refl) inside
  turn_by {u = u} before p (runs.once h q) false true true same there next longer is start inside =
      goes_on before false same p true longer is (λ v. node s.AfterOpen (pair u (node s.Block v)))
      (λ v m r. semicolon_then false h q (runs.once next r)) (λ fault r. semicolon_fails false h q (runs.once next r)) (λ v. refl) inside
  turn_by {u = u} before p (runs.once h q) true true false same there next longer is start inside =
      ends_here before true same p true longer is (node s.AfterEnd (pair u none)) (semicolon_then true h q (runs.never next)) refl start
  turn_by {u = u} before p (runs.once h q) false true false same there next longer is start inside =
      ends_here before false same p true longer is (node s.AfterOpen (pair u none)) (semicolon_then false h q (runs.never next)) refl start
  turn_by before p (runs.once h (runs.word x y)) e false b same there next longer is start inside = absurd (cc)

  -- one more statement
  pub turn : {at i j k : ℕ} {steps : List Step} {read_one : Statement × Bool} {semi : Bool} → Before tokens room at i steps
      → ReadsTree grammar table tokens shown room statement i read_one j → ReadsTree grammar table tokens is_there room (maybe (sign Semicolon)) j semi k
      → (next : Bool) → Next grammar tokens k block_classes next
      → (longer : List Step) → longer ≡ steps ++ step read_one.0 semi ∷ [] → at ≤ length tokens
      → Stretch tokens room at ((read_one.1 || semi) && next) k longer
  turn {steps = steps} {read_one = read_one} {semi = semi} before one there next h longer is start =
      turn_by before one.runs there.runs read_one.1 semi next (ap (λ (x : Statement × Bool). x.1) one.shows) there.shows h longer
      (is ∙ ap (λ (x : Statement × Bool). steps ++ step x.0 semi ∷ []) (sym one.shows)) start there.inside

pub stretch_start : (tokens : List Spanned) (room : Room) (at : ℕ) (steps : List Step) → steps ≡ [] → at ≤ length tokens → Before tokens room at at steps
stretch_start tokens room at steps e inside = record {
  whole = λ t. node s.Block t;
  shows = λ t. ap (λ xs. xs ++ block_of (node s.Block t)) (sym e);
  done = λ t k r. r;
  fails = λ fault r. r;
  inside = inside;
}

pub stretch_before : {tokens : List Spanned} {room : Room} {at i : ℕ} {steps : List Step} (more : Bool) → more ≡ true → Stretch tokens room at more i steps
    → Before tokens room at i steps
stretch_before true e b = b
stretch_before false e b = absurd (cc)

pub stretch_end : {tokens : List Spanned} {room : Room} {at i : ℕ} {steps : List Step} (more : Bool) → more ≡ false → Stretch tokens room at more i steps
    → (got : List Step) → got ≡ steps → ReadsTree grammar table tokens block_of room (part s.Block) at got i
stretch_end true e b got same = absurd (cc)
stretch_end false e b got same =
    record { tree = b.tree; runs = b.runs; shows = b.shows ∙ sym same; ordered = b.ordered; inside = b.inside }

pub smaller : (n i k : ℕ) (more next : Bool) → more ≡ true → i < k → k ≤ n → (n - k) + (if next then 1 else 0) < (n - i) + (if more then 1 else 0)
smaller n i k true true e lt le = omega arith
smaller n i k true false e lt le = omega arith
smaller n i k false next e lt le = absurd (cc)
