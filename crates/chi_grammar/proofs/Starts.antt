-- With which class of token trees and fronts begin.
use Rattle.std.proofs.Common.{◌≡◌, ℕ, ◌<◌, Bool, true, false, ◌||◌, List, [], ◌∷◌, ◌++◌, inl, inr, slice_get, refl, sym, subst, arith}
use Rattle.std.proofs.lemmas.Bool.{cases_lt, and_from}
use Rattle.chi_grammar.specs.declared.room.Room.{Room}
use Rattle.chi_grammar.specs.Rules.{Tree, spelling, Rule, ◌▸◌, Grammar}
use Rattle.chi_grammar.specs.Trees.{Is}
use Rattle.chi_grammar.specs.Trees as is
use Rattle.chi_grammar.specs.Fronts.{Front}
use Rattle.chi_grammar.specs.Fronts as front
use Rattle.chi_grammar.specs.Lookahead.{Table, may_be_empty, first, starts_in}
use Rattle.chi_grammar.specs.Fine.{Fine}
use Rattle.chi_grammar.proofs.At.{At, here, on, At-ordered, At-split, At-parts, At-none}
use Rattle.chi_grammar.proofs.Classes.{In, in_one, in_left, in_right, in_among, in_either, in_second}
use Rattle.chi_grammar.proofs.Decided.{Decided, fine_part}

append_none : {A : Type 0} (xs ys : List A) → xs ++ ys ≡ [] → (xs ≡ []) × (ys ≡ [])
append_none [] ys e = (refl, e)
append_none (x ∷ xs) ys e = cc

or_first : (a b : Bool) → a ≡ true → (a || b) ≡ true
or_first true b e = refl
or_first false b e = cc

or_second : (a b : Bool) → b ≡ true → (a || b) ≡ true
or_second true b e = refl
or_second false b e = e

module _ {A S : Type 0} (g : Grammar A S) (table : Table S) (fine : Fine g table) where
  -- only a rule that may be empty builds a tree without tokens
  pub no_tokens : {room : Room} {r : Rule A S} {t : Tree A S} → Decided table r → Is g room r t → spelling t ≡ [] → may_be_empty r ≡ true
  no_tokens d (is.word e) eq = cc
  no_tokens d (is.part {s = s} t) eq = let p = fine_part g table fine s in let some = p.some in let empty = no_tokens p.decides t eq in cc
  no_tokens d (is.both {a = a} {b = b} {t = t} {u = u} p q) eq =
      let e = append_none (spelling t) (spelling u) eq in
      and_from (may_be_empty a) (may_be_empty b) (no_tokens d.0 p e.0) (no_tokens d.1 q e.1)
  no_tokens d (is.left {a = a} {b = b} t) eq = or_first (may_be_empty a) (may_be_empty b) (no_tokens d.0 t eq)
  no_tokens d (is.right {a = a} {b = b} t) eq = or_second (may_be_empty a) (may_be_empty b) (no_tokens d.1 t eq)
  no_tokens d (is.once t) eq = refl
  no_tokens d is.never eq = refl
  no_tokens d (is.more t u) eq = refl
  no_tokens d is.enough eq = refl
  no_tokens d (is.deeper e t) eq = no_tokens d.0 t eq
  no_tokens d (is.chosen {t = t} {u = u} p e q) eq =
      let f = append_none (spelling t) (spelling u) eq in let empty = no_tokens d.0 p f.0 in let some = d.3 in cc
  no_tokens d (is.otherwise {t = t} {u = u} p e q) eq =
      let f = append_none (spelling t) (spelling u) eq in let empty = no_tokens d.0 p f.0 in let some = d.3 in cc

  module _ (ts : List A) where
    -- a rule that may not be empty takes a token
    pub takes : {room : Room} {r : Rule A S} {t : Tree A S} {i j : ℕ} → Decided table r → may_be_empty r ≡ false
        → Is g room r t → At ts i (spelling t) j → i < j
    takes {i = i} {j = j} d some t at =
        elim (cases_lt i j) [
          | inl lt ↦ lt
          | inr le ↦
              let ge = At-ordered at in
              let same : i ≡ j = omega arith in
              let empty = no_tokens d t (At-none at same) in cc
        ]

    in_first : (a b : Rule A S) (i : ℕ) → In g ts i (first table a) → In g ts i (first table (a ▸ b))
    in_first a b i h = in_either g.class_of (may_be_empty a) (first table a) (first table b) (slice_get ts i) h

    in_next : (a b : Rule A S) (i : ℕ) → may_be_empty a ≡ true → In g ts i (first table b) → In g ts i (first table (a ▸ b))
    in_next a b i e h = in_second g.class_of (may_be_empty a) (first table a) (first table b) (slice_get ts i) e h

    pub tree_starts : {room : Room} {r : Rule A S} {t : Tree A S} {i j : ℕ} → Decided table r
        → Is g room r t → At ts i (spelling t) j → i < j → In g ts i (first table r)
    tree_starts d (is.word {class = class} {x = x} e) (on h at) lt =
        subst (λ o. starts_in g.class_of (class ∷ []) o ≡ true) (sym h) (in_one g.class_of class x e)
    tree_starts {i = i} d (is.part {s = s} t) at lt =
        let p = fine_part g table fine s in
        in_among g.class_of (first table (g.rule_of s)) (table.begins s) (slice_get ts i) p.begins (tree_starts p.decides t at lt)
    tree_starts {i = i} {j = j} d (is.both {a = a} {b = b} {t = t} {u = u} p q) at lt =
        let s = At-split (spelling t) (spelling u) at in
        elim (cases_lt i s.mid) [
          | inl some ↦ in_first a b i (tree_starts d.0 p s.front some)
          | inr le ↦
              let ge = At-ordered s.front in
              let same : i ≡ s.mid = omega arith in
              let lt' : s.mid < j = omega arith in
              in_next a b i (no_tokens d.0 p (At-none s.front same))
              (subst (λ n. In g ts n (first table b)) (sym same) (tree_starts d.1 q s.back lt'))
        ]
    tree_starts {i = i} d (is.left {a = a} {b = b} t) at lt =
        in_left g.class_of (first table a) (first table b) (slice_get ts i) (tree_starts d.0 t at lt)
    tree_starts {i = i} d (is.right {a = a} {b = b} t) at lt =
        in_right g.class_of (first table a) (first table b) (slice_get ts i) (tree_starts d.1 t at lt)
    tree_starts d (is.once t) at lt = tree_starts d.0 t at lt
    tree_starts d is.never here lt = absurd (omega arith)
    tree_starts {i = i} d (is.more {t = t} {u = u} p q) at lt =
        let s = At-split (spelling t) (spelling u) at in
        tree_starts d.0 p s.front (takes d.0 d.1 p s.front)
    tree_starts d is.enough here lt = absurd (omega arith)
    tree_starts d (is.deeper e t) at lt = tree_starts d.0 t at lt
    tree_starts d (is.chosen {t = t} {u = u} p e q) at lt =
        let s = At-split (spelling t) (spelling u) at in
        tree_starts d.0 p s.front (takes d.0 d.3 p s.front)
    tree_starts d (is.otherwise {t = t} {u = u} p e q) at lt =
        let s = At-split (spelling t) (spelling u) at in
        tree_starts d.0 p s.front (takes d.0 d.3 p s.front)

    pub front_starts : {room : Room} {r : Rule A S} {f : List A} {i j : ℕ} → Decided table r
        → Front g room r f → At ts i f j → i < j → In g ts i (first table r)
    front_starts d front.empty here lt = absurd (omega arith)
    front_starts {i = i} {j = j} d (front.whole t eq) at lt = tree_starts d t (subst (λ f. At ts i f j) eq at) lt
    front_starts {i = i} d (front.part {s = s} f) at lt =
        let p = fine_part g table fine s in
        in_among g.class_of (first table (g.rule_of s)) (table.begins s) (slice_get ts i) p.begins (front_starts p.decides f at lt)
    front_starts {i = i} d (front.first {a = a} {b = b} f) at lt = in_first a b i (front_starts d.0 f at lt)
    front_starts {i = i} {j = j} d (front.next {a = a} {b = b} {t = t} {h = h} p f eq) at lt =
        let s = At-parts (spelling t) h eq at in
        elim (cases_lt i s.mid) [
          | inl some ↦ in_first a b i (tree_starts d.0 p s.front some)
          | inr le ↦
              let ge = At-ordered s.front in
              let same : i ≡ s.mid = omega arith in
              let lt' : s.mid < j = omega arith in
              in_next a b i (no_tokens d.0 p (At-none s.front same))
              (subst (λ n. In g ts n (first table b)) (sym same) (front_starts d.1 f s.back lt'))
        ]
    front_starts {i = i} d (front.left {a = a} {b = b} f) at lt =
        in_left g.class_of (first table a) (first table b) (slice_get ts i) (front_starts d.0 f at lt)
    front_starts {i = i} d (front.right {a = a} {b = b} f) at lt =
        in_right g.class_of (first table a) (first table b) (slice_get ts i) (front_starts d.1 f at lt)
    front_starts d (front.once f) at lt = front_starts d.0 f at lt
    front_starts d (front.one f) at lt = front_starts d.0 f at lt
    front_starts {i = i} {j = j} d (front.more {t = t} {h = h} p f eq) at lt =
        let s = At-parts (spelling t) h eq at in
        tree_starts d.0 p s.front (takes d.0 d.1 p s.front)
    front_starts d (front.deeper e f) at lt = front_starts d.0 f at lt
    front_starts d (front.before f) at lt = front_starts d.0 f at lt
    front_starts {i = i} {j = j} d (front.chosen {t = t} {h = h} p e f eq) at lt =
        let s = At-parts (spelling t) h eq at in
        tree_starts d.0 p s.front (takes d.0 d.3 p s.front)
    front_starts {i = i} {j = j} d (front.otherwise {t = t} {h = h} p e f eq) at lt =
        let s = At-parts (spelling t) h eq at in
        tree_starts d.0 p s.front (takes d.0 d.3 p s.front)
