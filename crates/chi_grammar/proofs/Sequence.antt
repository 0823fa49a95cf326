-- A rule that begins with another one, after whose tree something follows.
use Rattle.std.proofs.Common.{◌≡◌, ℕ, suc, ◌≤◌, List, ◌++◌, inl, inr, refl, sym, subst, arith}
use Rattle.std.proofs.lemmas.Bool.{cases_lt}
use Rattle.chi_grammar.specs.declared.fault.ParseFault.{ParseFault}
use Rattle.chi_grammar.specs.declared.fault.ParseFault.TheVariants.{Syntax, TooDeep, NoMemory}
use Rattle.chi_grammar.specs.declared.room.Room.{Room}
use Rattle.chi_grammar.specs.Rules.{Tree, pair, spelling, Rule, Grammar}
use Rattle.chi_grammar.specs.Trees.{Is}
use Rattle.chi_grammar.specs.Fronts.{Front}
use Rattle.chi_grammar.specs.Fronts as front
use Rattle.chi_grammar.specs.Lookahead.{Table, going_on}
use Rattle.chi_grammar.specs.Fine.{Fine}
use Rattle.chi_grammar.proofs.At.{At, At-ordered, At-split, At-parts, At-join}
use Rattle.chi_grammar.proofs.Cases.{SeqFront, inside, beyond, SeqTree, beside}
use Rattle.chi_grammar.proofs.Classes.{In}
use Rattle.chi_grammar.proofs.Decided.{Decided}
use Rattle.chi_grammar.proofs.Follows.{Follows, halts, halts_tree}
use Rattle.chi_grammar.proofs.Sure.{sure}
use Rattle.chi_grammar.proofs.Rooms.{joined, Within-joined, Within-joined_right, Is-within}
use Rattle.chi_grammar.proofs.Rooms.{Front-within}
use Rattle.chi_grammar.proofs.Means.{Reaches, Ends, Any, Only, Longest, Stuck, Deep, FailMeans}

module _ {A S : Type 0} (g : Grammar A S) (table : Table S) (fine : Fine g table) (ts : List A) (a : Rule A S) (starts goes : List ℕ)
    (ThenFront : Tree A S → Room → List A → Type 0) (ThenTree : Tree A S → Room → Tree A S → Type 0)
    (follows : Follows g table ts a starts goes ThenFront ThenTree) (d : Decided table a) where
  -- The first rule comes to its end at k, and each of its trees goes on: then so does the whole.

  abbrev pub GoesOn : (Room → Type 0) → ℕ → Type 0
  GoesOn E i = (room : Room) (t : Tree A S) (j : ℕ) → E room → Is g room a t → At ts i (spelling t) j → In g ts j (going_on table a)

  pub first_ends : (E : Room → Type 0) (i k : ℕ) → Ends g ts E a i k → GoesOn E i
      → (room : Room) (f : List A) (j : ℕ) → E room → SeqFront g a ThenFront room f → At ts i f j → j ≤ k
  first_ends E i k ends goes_on room f j e (inside p) at = ends room f j e p at
  first_ends E i k ends goes_on room f j e (beyond {t = t} {h = h} p q eq) at =
      let s = At-parts (spelling t) h eq at in
      let stop = halts g table ts a starts goes ThenFront ThenTree follows t room h s.mid j q s.back (goes_on room t s.mid e p s.front) in
      let le = ends room (spelling t) s.mid e (front.whole p refl) s.front in
      omega arith

  pub stuck_goes_on : {room : Room} {i k : ℕ} → Stuck g ts room a i k → GoesOn (Any g ts) i
  stuck_goes_on {room} {i} {k} stuck other t j e p at =
      let le = stuck.ends other (spelling t) j tt (front.whole p refl) at in
      let r = stuck.reaches in
      elim (cases_lt j k) [
        | inl lt ↦ (sure g table fine ts d p at).longer room r.tokens k r.is r.at lt
        | inr ge ↦
            let same : j ≡ k = omega arith in
            absurd (stuck.no_tree other t p (subst (λ n. At ts i (spelling t) n) same at))
      ]

  pub deep_goes_on : {room : Room} {i k : ℕ} → Deep g ts room a i k → GoesOn (Only g ts room) i
  deep_goes_on {room} {i} {k} deep other t j e p at =
      let le = deep.ends other (spelling t) j e (front.whole p refl) at in
      let r = deep.further in
      (sure g table fine ts d p at).longer deep.larger r.tokens (suc k) r.is r.at (omega arith)

  pub first_no_tree : {room : Room} {i k : ℕ} → Stuck g ts room a i k
      → (other : Room) (t : Tree A S) → SeqTree g a ThenTree other t → At ts i (spelling t) k → ⊥
  first_no_tree {room} {i} {k} stuck other t (beside {t = x} {u = y} p q) at =
      let s = At-split (spelling x) (spelling y) at in
      let stop =
      (halts_tree g table ts a starts goes ThenFront ThenTree follows x other y s.mid k q s.back
      (stuck_goes_on stuck other x s.mid tt p s.front)).0 in
      stuck.no_tree other x p (subst (λ n. At ts i (spelling x) n) stop s.front)

  -- The first rule gives a tree, and what follows it comes to its end at k: then so does the whole.

  module _ (room : Room) (t : Tree A S) (i j : ℕ) (longest : Longest g ts room a i t j) where
    pub then_ends : (E : Room → Type 0) (k : ℕ) → j ≤ k
        → ((other : Room) (h : List A) (n : ℕ) → E other → ThenFront t other h → At ts j h n → n ≤ k)
        → (other : Room) (f : List A) (n : ℕ) → E other → SeqFront g a ThenFront other f → At ts i f n → n ≤ k
    then_ends E k le ends other f n e (inside p) at = let first = longest.ends other f n tt p at in omega arith
    then_ends E k le ends other f n e (beyond {t = x} {h = h} p q eq) at =
        let s = At-parts (spelling x) h eq at in
        let first = longest.ends other (spelling x) s.mid tt (front.whole p refl) s.front in
        let certain = sure g table fine ts d p s.front in
        elim (cases_lt s.mid j) [
          | inl lt ↦
              let stop =
              halts g table ts a starts goes ThenFront ThenTree follows x other h s.mid n q s.back
              (certain.longer room (spelling t) j (front.whole longest.is refl) longest.at lt) in
              omega arith
          | inr ge ↦
              let same : s.mid ≡ j = omega arith in
              let one : t ≡ x = certain.same room t longest.is (subst (λ m. At ts i (spelling t) m) (sym same) longest.at) in
              ends other h n e (subst (λ y. ThenFront y other h) (sym one) q) (subst (λ m. At ts m h n) same s.back)
        ]

    pub then_no_tree : (k : ℕ) → j ≤ k
        → ((other : Room) (u : Tree A S) → ThenTree t other u → At ts j (spelling u) k → ⊥)
        → (other : Room) (u : Tree A S) → SeqTree g a ThenTree other u → At ts i (spelling u) k → ⊥
    then_no_tree k le no_tree other u (beside {t = x} {u = y} p q) at =
        let s = At-split (spelling x) (spelling y) at in
        let first = longest.ends other (spelling x) s.mid tt (front.whole p refl) s.front in
        let certain = sure g table fine ts d p s.front in
        elim (cases_lt s.mid j) [
          | inl lt ↦
              let stop =
              (halts_tree g table ts a starts goes ThenFront ThenTree follows x other y s.mid k q s.back
              (certain.longer room (spelling t) j (front.whole longest.is refl) longest.at lt)).0 in
              absurd (omega arith)
          | inr ge ↦
              let same : s.mid ≡ j = omega arith in
              let one : t ≡ x = certain.same room t longest.is (subst (λ m. At ts i (spelling t) m) (sym same) longest.at) in
              no_tree other y (subst (λ z. ThenTree z other y) (sym one) q) (subst (λ m. At ts m (spelling y) k) same s.back)
        ]

  -- the rule that so begins

  module _ (r : Rule A S)
      (inverse : (room : Room) (f : List A) → Front g room r f → SeqFront g a ThenFront room f)
      (make_first : (room : Room) (f : List A) → Front g room a f → Front g room r f)
      (make_next : (room : Room) (t : Tree A S) (h : List A) → Is g room a t → ThenFront t room h → Front g room r (spelling t ++ h))
      (i : ℕ) (trees : (k : ℕ) → Ends g ts (Any g ts) a i k → (room : Room) (t : Tree A S) → Is g room r t → At ts i (spelling t) k → SeqTree g a ThenTree room t) where
    pub first_fails : (room : Room) (fault : ParseFault) → FailMeans g ts room a i fault → FailMeans g ts room r i fault
    first_fails room (Syntax k) stuck =
        let reached = stuck.reaches in
        record {
          reaches = record { tokens = reached.tokens; is = make_first room reached.tokens reached.is; at = reached.at };
          ends = λ other f j e p at. first_ends (Any g ts) i k stuck.ends (stuck_goes_on stuck) other f j e (inverse other f p) at;
          no_tree = λ other t p at. first_no_tree stuck other t (trees k stuck.ends other t p at) at;
        }
    first_fails room (TooDeep k) deep =
        let reached = deep.reaches in
        let further = deep.further in
        record {
          reaches = record { tokens = reached.tokens; is = make_first room reached.tokens reached.is; at = reached.at };
          ends = λ other f j e p at. first_ends (Only g ts room) i k deep.ends (deep_goes_on deep) other f j e (inverse other f p) at;
          larger = deep.larger;
          further = record { tokens = further.tokens; is = make_first deep.larger further.tokens further.is; at = further.at };
        }
    first_fails room NoMemory h = tt

    -- the rule that follows the tree t

    module _ (room : Room) (t : Tree A S) (j : ℕ) (longest : Longest g ts room a i t j) (b : Rule A S)
        (to : (other : Room) (h : List A) → Front g other b h → ThenFront t other h)
        (of : (other : Room) (h : List A) → ThenFront t other h → Front g other b h)
        (of_tree : (other : Room) (u : Tree A S) → ThenTree t other u → Is g other b u) where
      pub then_done : (u : Tree A S) (k : ℕ) → Is g room r (pair t u) → Longest g ts room b j u k → Longest g ts room r i (pair t u) k
      then_done u k p after =
          let order = At-ordered after.at in
          record {
            is = p;
            at = At-join longest.at after.at;
            ends = λ other f n e q at.
                then_ends room t i j longest (Any g ts) k order (λ o h m e' x y. after.ends o h m e' (of o h x) y) other f n e (inverse other f q) at;
          }

      then_reaches : (k : ℕ) → Reaches g ts room b j k → Reaches g ts room r i k
      then_reaches k reached = record {
        tokens = spelling t ++ reached.tokens;
        is = make_next room t reached.tokens longest.is (to room reached.tokens reached.is);
        at = At-join longest.at reached.at;
      }

      pub then_fails : (fault : ParseFault) → FailMeans g ts room b j fault → FailMeans g ts room r i fault
      then_fails (Syntax k) stuck =
          let order = At-ordered stuck.reaches.at in
          let ends : Ends g ts (Any g ts) a i k = (λ o h m e x y. let le = longest.ends o h m e x y in omega arith) in
          record {
            reaches = then_reaches k stuck.reaches;
            ends = λ other f n e q at.
                then_ends room t i j longest (Any g ts) k order (λ o h m e' x y. stuck.ends o h m e' (of o h x) y) other f n e (inverse other f q) at;
            no_tree = λ other u q at.
                then_no_tree room t i j longest k order (λ o v x y. stuck.no_tree o v (of_tree o v x) y) other u (trees k ends other u q at) at;
          }
      then_fails (TooDeep k) deep =
          let order = At-ordered deep.reaches.at in
          let further = deep.further in
          let larger = joined room deep.larger in
          record {
            reaches = then_reaches k deep.reaches;
            ends = λ other f n e q at.
                then_ends room t i j longest (Only g ts room) k order (λ o h m e' x y. deep.ends o h m e' (of o h x) y) other f n e (inverse other f q) at;
            larger = larger;
            further = record {
              tokens = spelling t ++ further.tokens;
              is = make_next larger t further.tokens (Is-within g longest.is (Within-joined room deep.larger))
                  (to larger further.tokens (Front-within g further.is (Within-joined_right room deep.larger)));
              at = At-join longest.at further.at;
            };
          }
      then_fails NoMemory h = tt
