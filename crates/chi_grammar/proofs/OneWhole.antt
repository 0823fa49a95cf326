-- No two answers of a parser for all the tokens are exact, but for want of memory.
use Rattle.std.proofs.Common.{◌≡◌, ℕ, ◌+◌, true, Ok, Err, Result, List, length, ◌⊎◌, inl, inr, refl, sym, ap, ◌∙◌, arith}
use Rattle.chi_grammar.specs.declared.fault.ParseFault.{ParseFault}
use Rattle.chi_grammar.specs.declared.fault.ParseFault.TheVariants.{Syntax, TooDeep, NoMemory}
use Rattle.chi_grammar.specs.declared.room.Room.{Room}
use Rattle.chi_grammar.specs.Rules.{Tree, spelling, Rule, Grammar}
use Rattle.chi_grammar.specs.Trees.{Is}
use Rattle.chi_grammar.specs.Exact.{IsBad, IsTooDeep, ParsesAll}
use Rattle.chi_grammar.specs.Lookahead.{Table}
use Rattle.chi_grammar.specs.Fine.{Fine, is_decided}
use Rattle.chi_grammar.proofs.OneTree.{one_tree}
use Rattle.chi_grammar.proofs.Exact.{all_to, front_of}

module _ {A S : Type 0} (g : Grammar A S) (tokens : List A) (room : Room) (r : Rule A S) where
  whole_deep : (t : Tree A S) (k : ℕ) → Is g room r t → spelling t ≡ tokens → IsTooDeep g tokens room r 0 k → ⊥
  whole_deep t k is e deep =
      let low = deep.none_within (length tokens) (front_of g tokens r room 0 (length tokens) (all_to g tokens r room t is e)) in
      let further = deep.deeper.1 in
      let high = further.stands.inside in
      omega arith

  bad_deep : (j k : ℕ) → IsBad g tokens room r j → IsTooDeep g tokens room r 0 k → ⊥
  bad_deep j k bad deep =
      let low = deep.none_within j bad.front in
      let high = bad.none_further deep.deeper.0 (k + 1) deep.deeper.1 in
      omega arith

pub one_whole : {A S T : Type 0} (g : Grammar A S) (table : Table S) → Fine g table → (r : Rule A S) → is_decided table r ≡ true
    → (view : Tree A S → T) (tokens : List A) (room : Room) (result other : Result T ParseFault)
    → ParsesAll g tokens view room r result → ParsesAll g tokens view room r other
    → (result ≡ Err NoMemory) ⊎ ((other ≡ Err NoMemory) ⊎ (result ≡ other))
one_whole g table fine r d view tokens room (Ok p) (Ok q) x y =
    let trees : x.0 ≡ y.0 = one_tree g table fine r d room room x.0 y.0 x.2 y.2 (x.3 ∙ sym y.3) in
    let shown : p ≡ q = sym x.1 ∙ ap view trees ∙ y.1 in
    inr (inr (λ i. Ok (shown i)))
one_whole g table fine r d view tokens room (Ok p) (Err (Syntax k)) x y = absurd (y.no_tree room x.0 x.2 x.3)
one_whole g table fine r d view tokens room (Ok p) (Err (TooDeep k)) x y = absurd (whole_deep g tokens room r x.0 k x.2 x.3 y)
one_whole g table fine r d view tokens room (Err (Syntax k)) (Ok p) x y = absurd (x.no_tree room y.0 y.2 y.3)
one_whole g table fine r d view tokens room (Err (TooDeep k)) (Ok p) x y = absurd (whole_deep g tokens room r y.0 k y.2 y.3 x)
one_whole g table fine r d view tokens room (Err (Syntax j)) (Err (Syntax k)) x y =
    let low = y.none_further room j x.front in
    let high = x.none_further room k y.front in
    let same : j ≡ k = omega arith in
    inr (inr (λ i. Err (Syntax (same i))))
one_whole g table fine r d view tokens room (Err (Syntax j)) (Err (TooDeep k)) x y = absurd (bad_deep g tokens room r j k x y)
one_whole g table fine r d view tokens room (Err (TooDeep k)) (Err (Syntax j)) x y = absurd (bad_deep g tokens room r j k y x)
one_whole g table fine r d view tokens room (Err (TooDeep j)) (Err (TooDeep k)) x y =
    let low = y.none_within j x.front in
    let high = x.none_within k y.front in
    let same : j ≡ k = omega arith in
    inr (inr (λ i. Err (TooDeep (same i))))
one_whole g table fine r d view tokens room (Err NoMemory) other x y = inl refl
one_whole g table fine r d view tokens room result (Err NoMemory) x y = inr (inl refl)
