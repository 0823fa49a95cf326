-- The meaning of a run in the words of the public contracts.
use Rattle.std.proofs.Common.{◌≡◌, ℕ, suc, ◌-◌, ◌<◌, ◌≤◌, true, Ok, Err, Result, IsErrAnd, List, length, take, slice_range, refl, sym, ap, subst, ◌∙◌, arith, add-one}
use Rattle.std.proofs.Math.Seq.{take-length}
use Rattle.chi_grammar.specs.declared.fault.ParseFault.{ParseFault}
use Rattle.chi_grammar.specs.declared.fault.ParseFault.TheVariants.{Syntax, TooDeep, NoMemory}
use Rattle.chi_grammar.specs.declared.room.Room.{Room}
use Rattle.chi_grammar.specs.Rules.{Tree, spelling, Rule, Grammar}
use Rattle.chi_grammar.specs.Exact.{TreeTo, FrontTo, IsLongest, Parses, ParsesAll}
use Rattle.chi_grammar.specs.Trees.{Is}
use Rattle.chi_grammar.specs.Fronts as front
use Rattle.chi_grammar.specs.Lookahead.{Table}
use Rattle.chi_grammar.specs.Fine.{Fine, is_decided}
use Rattle.chi_grammar.specs.Reads.{Reads}
use Rattle.chi_grammar.proofs.At.{Stands-from_At, At-from_Stands}
use Rattle.chi_grammar.proofs.Decided.{decided}
use Rattle.chi_grammar.proofs.Means.{Reaches, Longest, FailMeans}
use Rattle.chi_grammar.proofs.Answers.{means}

module _ {A S : Type 0} (g : Grammar A S) (tokens : List A) (r : Rule A S) (at : ℕ) (inside : at ≤ length tokens) where
  front_to : (room : Room) (k : ℕ) → Reaches g tokens room r at k → FrontTo g tokens room r at k
  front_to room k reached = record { begins = reached.tokens; is = reached.is; stands = Stands-from_At reached.at inside }

  longest_of : (room : Room) (t : Tree A S) (k : ℕ) → Longest g tokens room r at t k → IsLongest g tokens room r at t k
  longest_of room t k longest = record {
    is = longest.is;
    stands = Stands-from_At longest.at inside;
    none_further = λ other end f. longest.ends other f.begins end tt f.is (At-from_Stands f.stands);
  }

  pub fault_of : {T : Type 0} (view : Tree A S → T) (room : Room) (fault : ParseFault) → FailMeans g tokens room r at fault
      → Parses g tokens view room r at (Err fault)
  fault_of view room (Syntax k) stuck = record {
    front = front_to room k stuck.reaches;
    none_further = λ other end f. stuck.ends other f.begins end tt f.is (At-from_Stands f.stands);
    no_tree = λ any t. stuck.no_tree any t.tree t.is (At-from_Stands t.stands);
  }
  fault_of view room (TooDeep k) deep = record {
    front = front_to room k deep.reaches;
    none_within = λ end f. deep.ends room f.begins end refl f.is (At-from_Stands f.stands);
    deeper = (deep.larger, rw add-one (front_to deep.larger (suc k) deep.further));
  }
  fault_of view room NoMemory h = tt

-- a parsing function whose answer is that of a run is exact
pub parses : {A S T : Type 0} (g : Grammar A S) (table : Table S) → Fine g table → (view : Tree A S → T) (tokens : List A) (room : Room) (r : Rule A S)
    → is_decided table r ≡ true → (at : ℕ) → at ≤ length tokens → (result : Result (T × ℕ) ParseFault)
    → Reads g table tokens view room r at result → Parses g tokens view room r at result
parses g table fine view tokens room r d at inside (Ok p) reads =
    (reads.tree, reads.shows, longest_of g tokens r at inside room reads.tree p.1 (means g table fine tokens (decided table r d) reads.runs))
parses g table fine view tokens room r d at inside (Err fault) reads =
    fault_of g tokens r at inside view room fault (means g table fine tokens (decided table r d) reads)

-- all the tokens

slice_range-all : {A : Type 0} (ts : List A) → slice_range ts 0 (length ts) ≡ ts
slice_range-all ts = let all : length ts - 0 ≡ length ts = omega arith in ap (λ n. take n ts) all ∙ take-length ts

module _ {A S : Type 0} (g : Grammar A S) (tokens : List A) (r : Rule A S) where
  pub all_to : (any : Room) (t : Tree A S) → Is g any r t → spelling t ≡ tokens → TreeTo g tokens any r 0 (length tokens)
  all_to any t p e = record {
    tree = t;
    is = p;
    stands = record { ordered = omega arith; inside = omega arith; same = slice_range-all tokens ∙ sym e };
  }

  pub front_of : (any : Room) (at k : ℕ) → TreeTo g tokens any r at k → FrontTo g tokens any r at k
  front_of any at k t = record { begins = spelling t.tree; is = front.whole t.is refl; stands = t.stands }

  -- a tree that goes up to the last token
  pub all_read : {T : Type 0} (view : Tree A S → T) (room : Room) (shown : T) (k : ℕ) → Parses g tokens view room r 0 (Ok (shown, k)) → k ≡ length tokens
      → ParsesAll g tokens view room r (Ok shown)
  all_read view room shown k p last =
      let stands = p.2.stands in
      (p.0, p.1, p.2.is, sym stands.same ∙ ap (λ n. slice_range tokens 0 n) last ∙ slice_range-all tokens)

  -- a token after the longest tree
  pub more_left : {T : Type 0} (view : Tree A S → T) (room : Room) (shown : T) (k : ℕ) → Parses g tokens view room r 0 (Ok (shown, k)) → k < length tokens
      → ParsesAll g tokens view room r (Err (Syntax k))
  more_left view room shown k p left = record {
    front = record { begins = spelling p.0; is = front.whole p.2.is refl; stands = p.2.stands };
    none_further = p.2.none_further;
    no_tree = λ any t q e. let le = p.2.none_further any (length tokens) (front_of any 0 (length tokens) (all_to any t q e)) in omega arith;
  }

  -- a fault
  all_fault : {T U : Type 0} (view : Tree A S → T) (shown : Tree A S → U) (room : Room) (fault : ParseFault)
      → Parses g tokens view room r 0 (Err fault) → ParsesAll g tokens shown room r (Err fault)
  all_fault view shown room (Syntax k) p = record {
    front = p.front;
    none_further = p.none_further;
    no_tree = λ any t q e.
        let whole = all_to any t q e in
        let le = p.none_further any (length tokens) (front_of any 0 (length tokens) whole) in
        let inside = p.front.stands.inside in
        let same : length tokens ≡ k = omega arith in
        p.no_tree any (subst (λ n. TreeTo g tokens any r 0 n) same whole);
  }
  all_fault view shown room (TooDeep k) p = p
  all_fault view shown room NoMemory p = tt

  -- a fault that `?` passes on
  pub all_failed : {T U : Type 0} (view : Tree A S → T) (shown : Tree A S → U) (room : Room) (result : Result U ParseFault) (fault : ParseFault)
      → IsErrAnd result (λ e. e ≡ fault) → Parses g tokens view room r 0 (Err fault) → ParsesAll g tokens shown room r result
  all_failed view shown room (Ok x) fault e p = absurd e
  all_failed view shown room (Err f) fault e p = subst (λ x. ParsesAll g tokens shown room r (Err x)) (sym e) (all_fault view shown room fault p)
