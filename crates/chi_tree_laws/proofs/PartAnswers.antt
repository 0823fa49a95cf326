-- What a parser answers of an expression or a type from an index on.
use Rattle.std.proofs.Common.{◌≡◌, ℕ, ◌↔◌, ◌+◌, ◌-◌, ◌≤◌, List, map, length, take, drop, Ok, Err, ap, sym, subst, arith, ◌∙◌}
use Rattle.chi_grammar.specs.declared.fault.ParseFault.TheVariants.{Syntax, TooDeep}
use Rattle.chi_grammar.specs.declared.room.Room.{Room}
use Rattle.chi_grammar.specs.Exact.{IsLongest, IsStuck, IsTooDeep, Parses}
use Rattle.chi_grammar.specs.Rules.{part, spelling}
use Rattle.chi_grammar.specs.Trees.{Is}
use Rattle.chi_token.specs.declared.place.Spanned.{Spanned}
use Rattle.chi_tree.specs.Parts.{Part}
use Rattle.chi_tree.specs.Rules.{grammar}
use Rattle.chi_tree.specs.View.{Built}
use Rattle.chi_tree_spell.specs.Marks.{Mark, Agree}
use Rattle.chi_tree_spell.specs.Words.{Tokens, token_of}
use Rattle.chi_tree_laws.specs.Beginnings.{NamesDepth, StandsLongest, NamesStop}
use Rattle.chi_tree_laws.specs.Nestings.{Nestings}
use Rattle.chi_tree_laws.proofs.Answered.{names_depth, is_too_deep, names_stop, is_stuck, stands_longest, is_longest}
use Rattle.chi_tree_laws.proofs.FormedPart.{FormedPart}

module _ (tokens : List Spanned) (at : ℕ) (inside : at ≤ length tokens) (room : Room) (s : Part)
    {X : Type 0} (Formed : ℕ → ℕ → X → Type 0) (spelled : X → Tokens) (nestings : X → Nestings) (view : Built → X)
    (formed : FormedPart Formed spelled nestings view s) where
  from_at : (k : ℕ) → at ≤ k → at + (k - at) ≡ k
  from_at k le = omega arith

  pub stop_is : (k : ℕ) → Parses grammar tokens view room (part s) at (Err (Syntax k))
      ↔ ((n : ℕ) × (k ≡ at + n) × NamesStop Formed spelled nestings room.blocks room.expressions (map token_of (drop at tokens)) n)
  stop_is k = (to, from)
    where
      to : IsStuck grammar tokens room (part s) at k
          → (n : ℕ) × (k ≡ at + n) × NamesStop Formed spelled nestings room.blocks room.expressions (map token_of (drop at tokens)) n
      to stuck =
          let e = from_at k stuck.front.stands.ordered in (
            k - at,
            sym e,
            names_stop tokens s at Formed spelled nestings view formed inside room (k - at)
                (subst (λ m. IsStuck grammar tokens room (part s) at m) (sym e) stuck),
          )

      from : (n : ℕ) × (k ≡ at + n) × NamesStop Formed spelled nestings room.blocks room.expressions (map token_of (drop at tokens)) n
          → IsStuck grammar tokens room (part s) at k
      from p =
          subst (λ m. IsStuck grammar tokens room (part s) at m) (sym p.1) (is_stuck tokens s at Formed spelled nestings view formed inside room p.0 p.2)

  pub depth_is : (k : ℕ) → Parses grammar tokens view room (part s) at (Err (TooDeep k))
      ↔ ((n : ℕ) × (k ≡ at + n) × NamesDepth Formed spelled nestings room.blocks room.expressions (map token_of (drop at tokens)) n)
  depth_is k = (to, from)
    where
      to : IsTooDeep grammar tokens room (part s) at k
          → (n : ℕ) × (k ≡ at + n) × NamesDepth Formed spelled nestings room.blocks room.expressions (map token_of (drop at tokens)) n
      to deep =
          let e = from_at k deep.front.stands.ordered in (
            k - at,
            sym e,
            names_depth tokens s at Formed spelled nestings view formed inside room (k - at)
                (subst (λ m. IsTooDeep grammar tokens room (part s) at m) (sym e) deep),
          )

      from : (n : ℕ) × (k ≡ at + n) × NamesDepth Formed spelled nestings room.blocks room.expressions (map token_of (drop at tokens)) n
          → IsTooDeep grammar tokens room (part s) at k
      from p =
          subst (λ m. IsTooDeep grammar tokens room (part s) at m) (sym p.1) (is_too_deep tokens s at Formed spelled nestings view formed inside room p.0 p.2)

  -- the longest that stands there, with its places

  module _ (marked : X → List Mark)
      (places : (r : Room) (t : Built) → Is grammar r (part s) t → Agree (marked (view t)) (spelling t)) where
    abbrev Longest : X → ℕ → Type 0
    Longest x end =
        (n : ℕ) × (end ≡ at + n) × StandsLongest Formed spelled nestings room.blocks room.expressions (map token_of (drop at tokens)) n x
        × Agree (marked x) (take n (drop at tokens))

    placed_there : (n : ℕ) (t : Built) → IsLongest grammar tokens room (part s) at t (at + n) → Agree (marked (view t)) (take n (drop at tokens))
    placed_there n t longest =
        let all : at + n - at ≡ n = omega arith in
        subst (λ xs. Agree (marked (view t)) xs) (sym longest.stands.same ∙ ap (λ m. take m (drop at tokens)) all) (places room t longest.is)

    pub longest_to : (x : X) (end : ℕ) → Parses grammar tokens view room (part s) at (Ok (x, end)) → Longest x end
    longest_to x end p =
        let e = from_at end p.2.stands.ordered in
        let longest = subst (λ m. IsLongest grammar tokens room (part s) at p.0 m) (sym e) p.2 in (
          end - at,
          sym e,
          subst (λ y. StandsLongest Formed spelled nestings room.blocks room.expressions (map token_of (drop at tokens)) (end - at) y) p.1
              (stands_longest tokens s at Formed spelled nestings view formed inside room (end - at) p.0 longest),
          subst (λ y. Agree (marked y) (take (end - at) (drop at tokens))) p.1 (placed_there (end - at) p.0 longest),
        )

    -- where of formed ones with the same tokens, with which the places of both agree, there is one
    pub longest_from : ((x y : X) → Formed room.blocks room.expressions x → Formed room.blocks room.expressions y → spelled x ≡ spelled y
        → (xs : List Spanned) → Agree (marked x) xs → Agree (marked y) xs → x ≡ y)
        → (x : X) (end : ℕ) → Longest x end → Parses grammar tokens view room (part s) at (Ok (x, end))
    longest_from one x end p =
        let t = is_longest tokens s at Formed spelled nestings view formed inside room p.0 x p.2 in
        let shown : view t.0 ≡ x = one (view t.0) x (formed.shown room t.0 t.1.is) p.2.formed t.2 (take p.0 (drop at tokens)) (placed_there p.0 t.0 t.1) p.3 in
        (t.0, shown, subst (λ m. IsLongest grammar tokens room (part s) at t.0 m) (sym p.1) t.1)
