-- A tree whose tokens have other places: the same rules build it.
use Rattle.std.proofs.Common.{◌≡◌, ℕ, List, [], ◌∷◌, ◌++◌, map, refl, ap, sym, subst, ◌∙◌, append_assoc, append-nil}
use Rattle.std.proofs.lemmas.List.{map-append}
use Rattle.chi_grammar.specs.declared.room.Room.{Room}
use Rattle.chi_grammar.specs.Rules.{leaf, node, pair, none, spelling, Rule}
use Rattle.chi_grammar.specs.Trees.{Is}
use Rattle.chi_grammar.specs.Trees as is
use Rattle.chi_token.specs.declared.place.Spanned.{Spanned}
use Rattle.chi_token.specs.declared.token.Token.{Token}
use Rattle.chi_tree.specs.Classes.{class_of, number_of}
use Rattle.chi_tree.specs.Parts.{Part}
use Rattle.chi_tree.specs.Rules.{grammar}
use Rattle.chi_tree.specs.View.{Built}
use Rattle.chi_tree_spell.specs.Words.{Tokens, token_of}
use Rattle.chi_tree_laws.specs.Nestings.{Nestings, outside}
use Rattle.chi_tree_laws.proofs.Depths.{one_in, depths}
use Rattle.chi_tree_laws.proofs.UnplacedBuilt.{bare_token, unplaced_token, unplaced_tree, Blind}
use Rattle.chi_tree_laws.proofs.Blind.{blind}

-- the shape of a tree that differs from another in places alone

leaf_like : (x : Spanned) (u : Built) → unplaced_tree u ≡ unplaced_tree (leaf x) → (y : Spanned) × (u ≡ leaf y) × (x.token ≡ y.token)
leaf_like x (leaf y) e =
    let bare : unplaced_token y ≡ unplaced_token x = cc in
    (y, refl, ap (λ (z : Spanned). z.token) (sym bare))
leaf_like x (node s u) e = cc
leaf_like x (pair u v) e = cc
leaf_like x none e = cc

node_like : (s : Part) (t u : Built) → unplaced_tree u ≡ unplaced_tree (node s t) → (v : Built) × (u ≡ node s v) × (unplaced_tree v ≡ unplaced_tree t)
node_like s t (leaf y) e = cc
node_like s t (node r u) e = (u, cc, cc)
node_like s t (pair u v) e = cc
node_like s t none e = cc

pair_like : (t u v : Built) → unplaced_tree v ≡ unplaced_tree (pair t u)
    → (a b : Built) × (v ≡ pair a b) × (unplaced_tree a ≡ unplaced_tree t) × (unplaced_tree b ≡ unplaced_tree u)
pair_like t u (leaf y) e = cc
pair_like t u (node r v) e = cc
pair_like t u (pair a b) e = (a, b, refl, cc, cc)
pair_like t u none e = cc

none_like : (u : Built) → unplaced_tree u ≡ none → u ≡ none
none_like (leaf y) e = cc
none_like (node r u) e = cc
none_like (pair a b) e = cc
none_like none e = refl

abbrev class_of_token : Token → ℕ
class_of_token t = number_of (class_of t)

-- the rule builds the tree, with these nestings
abbrev pub IsNested : Room → Rule Spanned Part → Nestings → Built → Type 0
IsNested room r ns t = (p : Is grammar room r t) × (depths p ≡ ns)

-- what a rule builds it builds with other places too, and no deeper
like_is : {room : Room} {r : Rule Spanned Part} {t : Built} → Blind r → (p : Is grammar room r t)
    → (u : Built) → unplaced_tree u ≡ unplaced_tree t → IsNested room r (depths p) u
like_is {room} {r} b (is.word {x = x} e) u same =
    let y = leaf_like x u same in
    subst (λ u. IsNested room r (outside ∷ []) u) (sym y.1) (is.word (sym (ap class_of_token y.2) ∙ e), refl)
like_is {room} {r} b (is.part {s = s} {t = t} p) u same =
    let v = node_like s t u same in
    let q = like_is (blind s) p v.0 v.2 in
    subst (λ u. IsNested room r (depths p) u) (sym v.1) (is.part q.0, q.1)
like_is {room} {r} b (is.both {t = t} {u = w} p q) u same =
    let v = pair_like t w u same in
    let x = like_is b.0 p v.0 v.3 in
    let y = like_is b.1 q v.1 v.4 in
    subst (λ u. IsNested room r (depths p ++ depths q) u) (sym v.2) (is.both x.0 y.0, (λ i. x.1 i ++ y.1 i))
like_is b (is.left p) u same = let q = like_is b.0 p u same in (is.left q.0, q.1)
like_is b (is.right p) u same = let q = like_is b.1 p u same in (is.right q.0, q.1)
like_is b (is.once p) u same = let q = like_is b p u same in (is.once q.0, q.1)
like_is {room} {r} b is.never u same = subst (λ u. IsNested room r [] u) (sym (none_like u same)) (is.never, refl)
like_is {room} {r} b (is.more {t = t} {u = w} p q) u same =
    let v = pair_like t w u same in
    let x = like_is b p v.0 v.3 in
    let y = like_is b q v.1 v.4 in
    subst (λ u. IsNested room r (depths p ++ depths q) u) (sym v.2) (is.more x.0 y.0, (λ i. x.1 i ++ y.1 i))
like_is {room} {r} b is.enough u same = subst (λ u. IsNested room r [] u) (sym (none_like u same)) (is.enough, refl)
like_is b (is.deeper {nesting = nesting} i p) u same =
    let q = like_is b p u same in (is.deeper i q.0, ap (map (one_in nesting)) q.1)
like_is {room} {r} b (is.chosen {test = test} {t = t} {u = w} p e q) u same =
    let v = pair_like t w u same in
    let x = like_is b.0 p v.0 v.3 in
    let y = like_is b.2 q v.1 v.4 in
    subst (λ u. IsNested room r (depths p ++ depths q) u) (sym v.2)
    (is.chosen x.0 (sym (b.1 v.0) ∙ ap test v.3 ∙ b.1 t ∙ e) y.0, (λ i. x.1 i ++ y.1 i))
like_is {room} {r} b (is.otherwise {test = test} {t = t} {u = w} p e q) u same =
    let v = pair_like t w u same in
    let x = like_is b.0 p v.0 v.3 in
    let y = like_is b.3 q v.1 v.4 in
    subst (λ u. IsNested room r (depths p ++ depths q) u) (sym v.2)
    (is.otherwise x.0 (sym (b.1 v.0) ∙ ap test v.3 ∙ b.1 t ∙ e) y.0, (λ i. x.1 i ++ y.1 i))

-- the tokens of a list, put into the leaves of a tree in turn
record Filled (t : Built) (xs : List Spanned) (more : Tokens) : Type 0 where
  tree : Built
  rest : List Spanned
  takes : spelling tree ++ rest ≡ xs
  leaves : map token_of rest ≡ more
  same : unplaced_tree tree ≡ unplaced_tree t

one_leaf : (x : Spanned) (xs : List Spanned) (more : Tokens) → map token_of xs ≡ x.token ∷ more → Filled (leaf x) xs more
one_leaf x [] more e = cc
one_leaf x (y ∷ ys) more e =
    let one : y.token ≡ x.token = cc in
    record { tree = leaf y; rest = ys; takes = refl; leaves = cc; same = λ i. leaf (bare_token (one i)) }

filled : (t : Built) (xs : List Spanned) (more : Tokens) → map token_of xs ≡ map token_of (spelling t) ++ more → Filled t xs more
filled (leaf x) xs more e = one_leaf x xs more e
filled (node s t) xs more e =
    let f = filled t xs more e in
    record { tree = node s f.tree; rest = f.rest; takes = f.takes; leaves = f.leaves; same = ap (node s) f.same }
filled (pair t u) xs more e =
    let first = filled t xs (map token_of (spelling u) ++ more)
    (e ∙ ap (λ ts. ts ++ more) (map-append token_of (spelling t) (spelling u))
    ∙ append_assoc (map token_of (spelling t)) (map token_of (spelling u)) more) in
    let second = filled u first.rest more first.leaves in
    record {
      tree = pair first.tree second.tree;
      rest = second.rest;
      takes = append_assoc (spelling first.tree) (spelling second.tree) second.rest
          ∙ ap (λ ys. spelling first.tree ++ ys) second.takes ∙ first.takes;
      leaves = second.leaves;
      same = λ i. pair (first.same i) (second.same i);
    }
filled none xs more e = record { tree = none; rest = xs; takes = refl; leaves = e; same = refl }

no_rest : (xs : List Spanned) → map token_of xs ≡ [] → xs ≡ []
no_rest [] e = refl
no_rest (x ∷ xs) e = cc

-- the tree that the rule builds of tokens that differ from another's in their places alone, and no deeper
pub placed_nested : {room : Room} {r : Rule Spanned Part} (t : Built) → Blind r → (p : Is grammar room r t) → (xs : List Spanned)
    → map token_of (spelling t) ≡ map token_of xs
    → (u : Built) × IsNested room r (depths p) u × (spelling u ≡ xs) × (unplaced_tree u ≡ unplaced_tree t)
placed_nested t b p xs e =
    let f = filled t xs [] (sym e ∙ sym (append-nil (map token_of (spelling t)))) in
    let takes = sym (append-nil (spelling f.tree)) ∙ ap (λ ys. spelling f.tree ++ ys) (sym (no_rest f.rest f.leaves)) ∙ f.takes in
    (f.tree, like_is b p f.tree f.same, takes, f.same)

pub placed_tree : {room : Room} {r : Rule Spanned Part} (t : Built) → Blind r → Is grammar room r t → (xs : List Spanned)
    → map token_of (spelling t) ≡ map token_of xs
    → (u : Built) × Is grammar room r u × (spelling u ≡ xs) × (unplaced_tree u ≡ unplaced_tree t)
placed_tree t b p xs e = let u = placed_nested t b p xs e in (u.0, u.1.0, u.2, u.3)
