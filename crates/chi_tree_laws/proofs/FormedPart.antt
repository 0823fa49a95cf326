-- What is formed is what the rule of a part builds, with the same tokens and nestings; and so the fronts of the part are the
-- tokens with which something formed begins, within the same limits.
use Rattle.std.proofs.Common.{◌≡◌, ℕ, ◌↔◌, ◌+◌, ◌-◌, ◌<◌, ◌≤◌, Option, Some, None, List, [], ◌∷◌, ◌++◌, map, length, take, ◌⊎◌, inl, inr, refl, ap, sym, subst, ◌∙◌, arith}
use Rattle.std.proofs.Math.Seq.{take-length, take-append_seam, take-append-add}
use Rattle.std.proofs.lemmas.Bool.{cases_lt}
use Rattle.std.proofs.lemmas.List.{map-append, length-map, length-append, take-append-le}
use Rattle.chi_grammar.specs.declared.fault.ParseFault.TheVariants.{TooDeep}
use Rattle.chi_grammar.specs.declared.room.Room.{Room}
use Rattle.chi_grammar.specs.Exact.{Stands}
use Rattle.chi_grammar.specs.Fronts.{Front}
use Rattle.chi_grammar.specs.Rules.{part, spelling}
use Rattle.chi_grammar.specs.RuleRuns.{Fail, RuleRuns}
use Rattle.chi_grammar.specs.Trees.{Is}
use Rattle.chi_grammar.proofs.Answers.{means}
use Rattle.chi_grammar.proofs.At.{At, Stands-from_At, At-from_Stands}
use Rattle.chi_grammar.proofs.Means.{Longest, Deep}
use Rattle.chi_grammar.proofs.Prefixes.{tree_front, front_before}
use Rattle.chi_token.specs.declared.place.Spanned.{Spanned}
use Rattle.chi_tree.proofs.Fine.{grammar_fine}
use Rattle.chi_tree.specs.Parts.{Part}
use Rattle.chi_tree.specs.Rules.{grammar}
use Rattle.chi_tree.specs.Tables.{table}
use Rattle.chi_tree.specs.View.{Built}
use Rattle.chi_tree_spell.specs.Words.{Tokens, token_of}
use Rattle.chi_tree_laws.specs.Beginnings.{FormedFront, FormedFrontWithin}
use Rattle.chi_tree_laws.specs.Nestings.{Nestings, first_passing}
use Rattle.chi_tree_laws.proofs.Depths.{depths, depths-length, depths_keep}
use Rattle.chi_tree_laws.proofs.FrontTrees.{front_tree}
use Rattle.chi_tree_laws.proofs.Leaves.{levels}
use Rattle.chi_tree_laws.proofs.Passing.{passing-take_none, passing-take_before, passing-take_after}
use Rattle.chi_tree_laws.proofs.PlacedTree.{IsNested, placed_nested}
use Rattle.chi_tree_laws.proofs.ReadWithin.{Ended, read_within, no_more}
use Rattle.chi_tree_laws.proofs.UnplacedBuilt.{bare_token}

-- A tree of the part with these tokens and nestings. Where the rule builds it within another room P holds of that room.
pub record NestedTree (room : Room) (s : Part) (tokens : Tokens) (ns : Nestings) (P : Room → Type 0) : Type 0 where
  pub tree : Built
  pub is : Is grammar room (part s) tree
  pub nests : depths is ≡ ns
  pub spells : map token_of (spelling tree) ≡ tokens
  pub again : (other : Room) → Is grammar other (part s) tree → P other

-- the rule of the part builds exactly what is formed
pub record FormedPart {X : Type 0} (Formed : ℕ → ℕ → X → Type 0) (spelled : X → Tokens) (nestings : X → Nestings) (view : Built → X) (s : Part) : Type 0 where
  pub built : (room : Room) (x : X) → Formed room.blocks room.expressions x
      → NestedTree room s (spelled x) (nestings x) (λ other. Formed other.blocks other.expressions x)
  pub shown : (room : Room) (t : Built) → Is grammar room (part s) t → Formed room.blocks room.expressions (view t)
  pub spells : (room : Room) (t : Built) → Is grammar room (part s) t → spelled (view t) ≡ map token_of (spelling t)

-- the tokens, at any place
pub bare_tokens : (ts : Tokens) → map token_of (map bare_token ts) ≡ ts
bare_tokens [] = refl
bare_tokens (t ∷ ts) = ap (λ us. t ∷ us) (bare_tokens ts)

at_whole : (xs : List Spanned) → At xs 0 xs (length xs)
at_whole xs =
    let all : length xs - 0 ≡ length xs = omega arith in
    At-from_Stands (record { ordered = omega arith; inside = omega arith; same = ap (λ n. take n xs) all ∙ take-length xs })

at_front : (xs : List Spanned) (n : ℕ) → n ≤ length xs → At xs 0 (take n xs) n
at_front xs n inside =
    let all : n - 0 ≡ n = omega arith in
    At-from_Stands (record { ordered = omega arith; inside = inside; same = ap (λ n. take n xs) all })

front_is_take : (xs f : List Spanned) (k : ℕ) → At xs 0 f k → f ≡ take k xs
front_is_take xs f k at =
    let all : k - 0 ≡ k = omega arith in
    let stands : Stands xs 0 f k = Stands-from_At at (omega arith) in
    sym stands.same ∙ ap (λ n. take n xs) all

-- a front of tokens with more after them
pub past-front : (f rest : List Spanned) (k : ℕ) → length f ≤ k → take k (f ++ rest) ≡ f ++ take (k - length f) rest
past-front f rest k le =
    let e : k ≡ length f + (k - length f) = omega arith in
    ap (λ n. take n (f ++ rest)) e ∙ take-append-add f rest (k - length f)

module _ (s : Part) where
  -- how tokens that the part has are read within a room: as the tree, or to the first token that passes the room
  pub data ReadTokens (room : Room) (ns : Nestings) (t : Built) (xs : List Spanned) : Type 0 where
    whole : first_passing room.blocks room.expressions ns ≡ None → Is grammar room (part s) t → spelling t ≡ xs
        → ReadTokens room ns t xs
    deep : (k : ℕ) → first_passing room.blocks room.expressions ns ≡ Some k → Front grammar room (part s) (take k xs)
        → ((n : ℕ) → n ≤ length xs → Front grammar room (part s) (take n xs) → n ≤ k) → ReadTokens room ns t xs

  pub read_tokens : (room larger : Room) (ns : Nestings) (t : Built) → IsNested larger (part s) ns t → ReadTokens room ns t (spelling t)
  read_tokens room larger ns t p =
      by (first_passing room.blocks room.expressions ns) refl
      (subst (λ ms. Ended grammar table grammar_fine (spelling t) room (part s) 0 t (length (spelling t)) (first_passing room.blocks room.expressions ms)) p.1
      (read_within grammar table grammar_fine (spelling t) room tt p.0 (at_whole (spelling t))
      (no_more grammar table grammar_fine (spelling t) (table.goes_on s))))
    where
      by : (o : Option ℕ) → first_passing room.blocks room.expressions ns ≡ o
          → Ended grammar table grammar_fine (spelling t) room (part s) 0 t (length (spelling t)) o → ReadTokens room ns t (spelling t)
      by None e run =
          let longest : Longest grammar (spelling t) room (part s) 0 t (length (spelling t)) =
          means grammar table grammar_fine (spelling t) tt run in
          whole e longest.is refl
      by (Some k) e run =
          let same : 0 + k ≡ k = omega arith in
          let at : RuleRuns grammar table (spelling t) room (part s) 0 (Fail (TooDeep k)) =
          subst (λ n. RuleRuns grammar table (spelling t) room (part s) 0 (Fail (TooDeep n))) same run in
          let d : Deep grammar (spelling t) room (part s) 0 k = means grammar table grammar_fine (spelling t) tt at in
          deep k e
          (subst (λ f. Front grammar room (part s) f) (front_is_take (spelling t) d.reaches.tokens k d.reaches.at) d.reaches.is)
          (λ n inside f. d.ends room (take n (spelling t)) n refl f (at_front (spelling t) n inside))

module _ {X : Type 0} (Formed : ℕ → ℕ → X → Type 0) (spelled : X → Tokens) (nestings : X → Nestings) (view : Built → X) (s : Part)
    (formed : FormedPart Formed spelled nestings view s) where
  -- a tree of the part with these very tokens
  pub record Placed (room : Room) (x : X) (xs : List Spanned) : Type 0 where
    pub tree : Built
    pub nested : IsNested room (part s) (nestings x) tree
    pub spells : spelling tree ≡ xs

  pub placed : (room : Room) (x : X) → Formed room.blocks room.expressions x → (xs : List Spanned) → spelled x ≡ map token_of xs → Placed room x xs
  placed room x p xs e =
      let n = formed.built room x p in
      let u = placed_nested n.tree tt n.is xs (n.spells ∙ e) in
      record { tree = u.0; nested = subst (λ ns. IsNested room (part s) ns u.0) n.nests u.1; spells = u.2 }

  -- as many nestings as tokens
  pub same_length : (room : Room) (x : X) → Formed room.blocks room.expressions x → length (nestings x) ≡ length (spelled x)
  same_length room x p =
      let n = formed.built room x p in
      sym (ap length n.nests) ∙ depths-length n.is ∙ sym (length-map (spelling n.tree) token_of) ∙ ap length n.spells

  read_formed : (room larger : Room) (x : X) → Formed larger.blocks larger.expressions x → (xs : List Spanned) → spelled x ≡ map token_of xs
      → (t : Built) × ReadTokens s room (nestings x) t xs
  read_formed room larger x p xs e =
      let u = placed larger x p xs e in
      (u.tree, subst (λ ys. ReadTokens s room (nestings x) u.tree ys) u.spells (read_tokens s room larger (nestings x) u.tree u.nested))

  -- what begins with the tokens, with those after them at any place
  record Rest (f : List Spanned) (b : FormedFront Formed spelled nestings (map token_of f)) : Type 0 where
    rest : List Spanned
    same : spelled b.whole ≡ map token_of (f ++ rest)

  rest_of : (f : List Spanned) (b : FormedFront Formed spelled nestings (map token_of f)) → Rest f b
  rest_of f b =
      let rest = map bare_token b.more in record {
        rest = rest;
        same = b.same ∙ ap (λ ts. map token_of f ++ ts) (sym (bare_tokens b.more)) ∙ sym (map-append token_of f rest);
      }

  -- a front is the beginning of a tree

  pub begins_of : (room : Room) (f : List Spanned) → Front grammar room (part s) f → FormedFront Formed spelled nestings (map token_of f)
  begins_of room f p = let u = front_tree refl p in record {
    blocks = u.room.blocks;
    expressions = u.room.expressions;
    whole = view u.tree;
    formed = formed.shown u.room u.tree u.is;
    more = map token_of u.more;
    same = formed.spells u.room u.tree u.is ∙ ap (map token_of) u.spells ∙ map-append token_of f u.more;
  }

  pub front_of : (f : List Spanned) → FormedFront Formed spelled nestings (map token_of f) → (room : Room) × Front grammar room (part s) f
  front_of f b =
      let room = levels b.blocks b.expressions in
      let r = rest_of f b in
      let u = placed room b.whole b.formed (f ++ r.rest) r.same in (
        room,
        front_before grammar room (part s) f r.rest
            (subst (λ ts. Front grammar room (part s) ts) u.spells (tree_front grammar room (part s) u.tree u.nested.0)),
      )

  keeps_first : {t : Built} (room : Room) (f rest : List Spanned) (ns : Nestings) → length f ≤ length ns → Front grammar room (part s) f
      → ReadTokens s room ns t (f ++ rest) → first_passing room.blocks room.expressions (take (length f) ns) ≡ None
  keeps_first room f rest ns inside p (whole e is same) = passing-take_none room.blocks room.expressions (length f) ns e
  keeps_first room f rest ns inside p (deep k e front ends) =
      let size = length-append f rest in
      let low = ends (length f) (omega arith) (subst (λ ts. Front grammar room (part s) ts) (sym (take-append_seam f rest)) p) in
      passing-take_before room.blocks room.expressions (length f) k ns inside e low

  -- of at least as many tokens as these
  long_enough : (room : Room) (x : X) (f rest : List Spanned) → Formed room.blocks room.expressions x → spelled x ≡ map token_of (f ++ rest)
      → length f ≤ length (nestings x)
  long_enough room x f rest p e =
      let size = same_length room x p in
      let same = ap length e ∙ length-map (f ++ rest) token_of ∙ length-append f rest in
      omega arith

  pub begins_within : (room : Room) (f : List Spanned) → Front grammar room (part s) f
      → FormedFrontWithin Formed spelled nestings room.blocks room.expressions (map token_of f)
  begins_within room f p =
      let b = begins_of room f p in
      let r = rest_of f b in
      let larger = levels b.blocks b.expressions in
      let enough = long_enough larger b.whole f r.rest b.formed r.same in
      record {
        front = b;
        keeps = ap (λ n. first_passing room.blocks room.expressions (take n (nestings b.whole))) (length-map f token_of)
            ∙ keeps_first room f r.rest (nestings b.whole) enough p (read_formed room larger b.whole b.formed (f ++ r.rest) r.same).1;
      }

  front_from : {t : Built} (room : Room) (f rest : List Spanned) (ns : Nestings) → length f ≤ length ns
      → first_passing room.blocks room.expressions (take (length f) ns) ≡ None → ReadTokens s room ns t (f ++ rest) → Front grammar room (part s) f
  front_from room f rest ns inside keeps (whole e is same) =
      front_before grammar room (part s) f rest (subst (λ ts. Front grammar room (part s) ts) same (tree_front grammar room (part s) _ is))
  front_from room f rest ns inside keeps (deep k e front ends) = by (cases_lt k (length f))
    where
      by : (k < length f) ⊎ (length f ≤ k) → Front grammar room (part s) f
      by (inl lt) = let there = passing-take_after room.blocks room.expressions (length f) k ns inside e lt in cc
      by (inr le) =
          front_before grammar room (part s) f (take (k - length f) rest)
          (subst (λ ts. Front grammar room (part s) ts) (past-front f rest k le) front)

  pub front_within : (room : Room) (f : List Spanned) → FormedFrontWithin Formed spelled nestings room.blocks room.expressions (map token_of f)
      → Front grammar room (part s) f
  front_within room f w =
      let b = w.front in
      let r = rest_of f b in
      let larger = levels b.blocks b.expressions in
      let keeps = ap (λ n. first_passing room.blocks room.expressions (take n (nestings b.whole))) (sym (length-map f token_of)) ∙ w.keeps in
      front_from room f r.rest (nestings b.whole) (long_enough larger b.whole f r.rest b.formed r.same) keeps
      (read_formed room larger b.whole b.formed (f ++ r.rest) r.same).1

  -- the first token too deep

  deep_at : {t : Built} (room : Room) (f rest : List Spanned) (k : ℕ) (ns : Nestings) → length f ≡ k + 1 → Front grammar room (part s) (take k f)
      → (Front grammar room (part s) f → ⊥) → ReadTokens s room ns t (f ++ rest) → first_passing room.blocks room.expressions ns ≡ Some k
  deep_at room f rest k ns size earlier none (whole e is same) =
      absurd (none (front_before grammar room (part s) f rest
      (subst (λ ts. Front grammar room (part s) ts) same (tree_front grammar room (part s) _ is))))
  deep_at room f rest k ns size earlier none (deep j e front ends) = by (cases_lt k j)
    where
      first_k : take k (f ++ rest) ≡ take k f
      first_k = take-append-le k f rest (omega arith)

      by : (k < j) ⊎ (j ≤ k) → first_passing room.blocks room.expressions ns ≡ Some k
      by (inl lt) =
          absurd (none (front_before grammar room (part s) f (take (j - length f) rest)
          (subst (λ ts. Front grammar room (part s) ts) (past-front f rest j (omega arith)) front)))
      by (inr le) =
          let long = length-append f rest in
          let low = ends k (omega arith) (subst (λ ts. Front grammar room (part s) ts) (sym first_k) earlier) in
          let same : j ≡ k = omega arith in
          e ∙ ap (λ n. Some n) same

  pub first_deep : (room : Room) (f : List Spanned) (k : ℕ) → length f ≡ k + 1 → Front grammar room (part s) (take k f)
      → (Front grammar room (part s) f → ⊥) → (b : FormedFront Formed spelled nestings (map token_of f))
      → first_passing room.blocks room.expressions (nestings b.whole) ≡ Some k
  first_deep room f k size earlier none b =
      let r = rest_of f b in
      deep_at room f r.rest k (nestings b.whole) size earlier none
      (read_formed room (levels b.blocks b.expressions) b.whole b.formed (f ++ r.rest) r.same).1

  -- the fronts around it
  pub record DeepFronts (room : Room) (f : List Spanned) (k : ℕ) : Type 0 where
    pub before : Front grammar room (part s) (take k f)
    pub none : Front grammar room (part s) f → ⊥

  fronts_at : {t : Built} (room : Room) (f rest : List Spanned) (k : ℕ) (ns : Nestings) → length f ≡ k + 1
      → first_passing room.blocks room.expressions ns ≡ Some k → ReadTokens s room ns t (f ++ rest) → DeepFronts room f k
  fronts_at room f rest k ns size is (whole e p same) = cc
  fronts_at room f rest k ns size is (deep j e front ends) =
      let at : ◌≡◌ {A = Option ℕ} (Some j) (Some k) = sym e ∙ is in
      let same : j ≡ k = cc in
      let first_k : take k (f ++ rest) ≡ take k f = take-append-le k f rest (omega arith) in
      let long = length-append f rest in
      record {
        before = subst (λ ts. Front grammar room (part s) ts) (ap (λ n. take n (f ++ rest)) same ∙ first_k) front;
        none = λ p.
            let low = ends (length f) (omega arith) (subst (λ ts. Front grammar room (part s) ts) (sym (take-append_seam f rest)) p) in
            omega arith;
      }

  pub deep_fronts : (room : Room) (f : List Spanned) (k : ℕ) → length f ≡ k + 1 → (b : FormedFront Formed spelled nestings (map token_of f))
      → first_passing room.blocks room.expressions (nestings b.whole) ≡ Some k → DeepFronts room f k
  deep_fronts room f k size b is =
      let r = rest_of f b in
      fronts_at room f r.rest k (nestings b.whole) size is
      (read_formed room (levels b.blocks b.expressions) b.whole b.formed (f ++ r.rest) r.same).1

  -- within limits is what is formed at all, and in which no token passes them

  pub within_none : (room : Room) (x : X) → Formed room.blocks room.expressions x → first_passing room.blocks room.expressions (nestings x) ≡ None
  within_none room x p =
      let n = formed.built room x p in ap (first_passing room.blocks room.expressions) (sym n.nests) ∙ depths_keep n.is

  kept : {t : Built} (room : Room) (xs : List Spanned) (ns : Nestings) → first_passing room.blocks room.expressions ns ≡ None
      → ReadTokens s room ns t xs → Is grammar room (part s) t
  kept room xs ns none (whole e is same) = is
  kept room xs ns none (deep k e front ends) = cc

  pub formed_within : (room larger : Room) (x : X) → Formed larger.blocks larger.expressions x
      → first_passing room.blocks room.expressions (nestings x) ≡ None → Formed room.blocks room.expressions x
  formed_within room larger x p none =
      let n = formed.built larger x p in
      let nested : IsNested larger (part s) (nestings x) n.tree = (n.is, n.nests) in
      n.again room (kept room (spelling n.tree) (nestings x) none (read_tokens s room larger (nestings x) n.tree nested))

  -- formed at all, and no token of it passes a limit
  pub limits_are : (b d : ℕ) (x : X)
      → Formed b d x ↔ ((c e : ℕ) × Formed c e x × (first_passing b d (nestings x) ≡ None))
  limits_are b d x = (
    (λ p. (b, d, p, within_none (levels b d) x p)),
    (λ p. formed_within (levels b d) (levels p.0 p.1) x p.2 p.3),
  )
