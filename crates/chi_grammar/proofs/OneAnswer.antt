-- No two answers of a parser are exact, but for want of memory.
use Rattle.std.proofs.Common.{◌≡◌, ℕ, ◌+◌, true, Ok, Err, Result, List, slice_range, ◌⊎◌, inl, inr, refl, sym, ap, subst, ◌∙◌, arith}
use Rattle.chi_grammar.specs.declared.fault.ParseFault.{ParseFault}
use Rattle.chi_grammar.specs.declared.fault.ParseFault.TheVariants.{Syntax, TooDeep, NoMemory}
use Rattle.chi_grammar.specs.declared.room.Room.{Room}
use Rattle.chi_grammar.specs.Rules.{Tree, spelling, Rule, Grammar}
use Rattle.chi_grammar.specs.Fronts as front
use Rattle.chi_grammar.specs.Exact.{TreeTo, FrontTo, IsLongest, IsStuck, IsTooDeep, Parses}
use Rattle.chi_grammar.specs.Lookahead.{Table}
use Rattle.chi_grammar.specs.Fine.{Fine, is_decided}
use Rattle.chi_grammar.proofs.OneTree.{one_tree}

module _ {A S : Type 0} (g : Grammar A S) (tokens : List A) (room : Room) (r : Rule A S) (at : ℕ) where
  reached : (t : Tree A S) (k : ℕ) → IsLongest g tokens room r at t k → FrontTo g tokens room r at k
  reached t k longest = record { begins = spelling t; is = front.whole longest.is refl; stands = longest.stands }

  longest_stuck : (t : Tree A S) (j k : ℕ) → IsLongest g tokens room r at t j → IsStuck g tokens room r at k → ⊥
  longest_stuck t j k longest stuck =
      let low = stuck.none_further room j (reached t j longest) in
      let high = longest.none_further room k stuck.front in
      let same : j ≡ k = omega arith in
      stuck.no_tree room (subst (λ n. TreeTo g tokens room r at n) same (record { tree = t; is = longest.is; stands = longest.stands }))

  longest_deep : (t : Tree A S) (j k : ℕ) → IsLongest g tokens room r at t j → IsTooDeep g tokens room r at k → ⊥
  longest_deep t j k longest deep =
      let low = deep.none_within j (reached t j longest) in
      let high = longest.none_further deep.deeper.0 (k + 1) deep.deeper.1 in
      omega arith

  stuck_deep : (j k : ℕ) → IsStuck g tokens room r at j → IsTooDeep g tokens room r at k → ⊥
  stuck_deep j k stuck deep =
      let low = deep.none_within j stuck.front in
      let high = stuck.none_further deep.deeper.0 (k + 1) deep.deeper.1 in
      omega arith

pub one_answer : {A S T : Type 0} (g : Grammar A S) (table : Table S) → Fine g table → (r : Rule A S) → is_decided table r ≡ true
    → (view : Tree A S → T) (tokens : List A) (room : Room) (at : ℕ) (result other : Result (T × ℕ) ParseFault)
    → Parses g tokens view room r at result → Parses g tokens view room r at other
    → (result ≡ Err NoMemory) ⊎ ((other ≡ Err NoMemory) ⊎ (result ≡ other))
one_answer g table fine r d view tokens room at (Ok p) (Ok q) x y =
    let l = x.2 in
    let m = y.2 in
    let low = m.none_further room p.1 (reached g tokens room r at x.0 p.1 l) in
    let high = l.none_further room q.1 (reached g tokens room r at y.0 q.1 m) in
    let ends : p.1 ≡ q.1 = omega arith in
    let same : spelling x.0 ≡ spelling y.0 = sym l.stands.same ∙ ap (λ n. slice_range tokens at n) ends ∙ m.stands.same in
    let trees : x.0 ≡ y.0 = one_tree g table fine r d room room x.0 y.0 l.is m.is same in
    let shown : p.0 ≡ q.0 = sym x.1 ∙ ap view trees ∙ y.1 in
    inr (inr (λ i. Ok (shown i, ends i)))
one_answer g table fine r d view tokens room at (Ok p) (Err (Syntax k)) x y = absurd (longest_stuck g tokens room r at x.0 p.1 k x.2 y)
one_answer g table fine r d view tokens room at (Ok p) (Err (TooDeep k)) x y = absurd (longest_deep g tokens room r at x.0 p.1 k x.2 y)
one_answer g table fine r d view tokens room at (Err (Syntax k)) (Ok p) x y = absurd (longest_stuck g tokens room r at y.0 p.1 k y.2 x)
one_answer g table fine r d view tokens room at (Err (TooDeep k)) (Ok p) x y = absurd (longest_deep g tokens room r at y.0 p.1 k y.2 x)
one_answer g table fine r d view tokens room at (Err (Syntax j)) (Err (Syntax k)) x y =
    let low = y.none_further room j x.front in
    let high = x.none_further room k y.front in
    let same : j ≡ k = omega arith in
    inr (inr (λ i. Err (Syntax (same i))))
one_answer g table fine r d view tokens room at (Err (Syntax j)) (Err (TooDeep k)) x y = absurd (stuck_deep g tokens room r at j k x y)
one_answer g table fine r d view tokens room at (Err (TooDeep k)) (Err (Syntax j)) x y = absurd (stuck_deep g tokens room r at j k y x)
one_answer g table fine r d view tokens room at (Err (TooDeep j)) (Err (TooDeep k)) x y =
    let low = y.none_within j x.front in
    let high = x.none_within k y.front in
    let same : j ≡ k = omega arith in
    inr (inr (λ i. Err (TooDeep (same i))))
one_answer g table fine r d view tokens room at (Err NoMemory) other x y = inl refl
one_answer g table fine r d view tokens room at result (Err NoMemory) x y = inr (inl refl)
