-- Each prefix of a front is a front.
use Rattle.std.proofs.Common.{◌≡◌, List, [], ◌∷◌, ◌++◌, ◌⊎◌, inl, inr, refl, sym, subst, ◌∙◌}
use Rattle.chi_grammar.specs.declared.room.Room.{Room}
use Rattle.chi_grammar.specs.Rules.{Tree, spelling, Rule, Grammar}
use Rattle.chi_grammar.specs.Trees.{Is}
use Rattle.chi_grammar.specs.Trees as is
use Rattle.chi_grammar.specs.Fronts.{Front}
use Rattle.chi_grammar.specs.Fronts as front

-- a prefix of two lists joined is one of the first, or the first and a prefix of the second
append_split : {A : Type 0} (xs ys f h : List A) → xs ++ ys ≡ f ++ h
    → ((rest : List A) × (xs ≡ f ++ rest)) ⊎ ((rest : List A) × (f ≡ xs ++ rest) × (ys ≡ rest ++ h))
append_split [] ys f h e = inr (f, refl, e)
append_split (x ∷ xs) ys [] h e = inl (x ∷ xs, refl)
append_split (x ∷ xs) ys (y ∷ f) h e =
    let one : x ≡ y = cc in
    let tails : xs ++ ys ≡ f ++ h = cc in
    elim (append_split xs ys f h tails) [
      | inl p ↦ inl (p.0, λ i. one i ∷ p.1 i)
      | inr p ↦ inr (p.0, (λ i. sym one i ∷ p.1 i), p.2)
    ]

none_before : {A : Type 0} (f h : List A) → [] ≡ f ++ h → f ≡ []
none_before [] h e = refl
none_before (x ∷ f) h e = cc

one_before : {A : Type 0} (x y : A) (f h : List A) → x ∷ [] ≡ y ∷ f ++ h → y ∷ f ≡ x ∷ []
one_before x y f h e =
    let one : x ≡ y = cc in
    let tails : [] ≡ f ++ h = cc in
    (λ i. sym one i ∷ none_before f h tails i)

module _ {A S : Type 0} (g : Grammar A S) where
  no_front : {room : Room} {r : Rule A S} {f : List A} → f ≡ [] → Front g room r f
  no_front {room} {r} e = subst (λ f. Front g room r f) (sym e) front.empty

  word_prefix : {room : Room} {r : Rule A S} {t : Tree A S} (x : A) → Is g room r t → spelling t ≡ x ∷ [] → (f h : List A) → spelling t ≡ f ++ h
      → Front g room r f
  word_prefix x p e [] h q = front.empty
  word_prefix x p e (y ∷ f) h q = front.whole p (one_before x y f h (sym e ∙ q) ∙ sym e)

  pub tree_prefix : {room : Room} {r : Rule A S} {t : Tree A S} → Is g room r t → (f h : List A) → spelling t ≡ f ++ h → Front g room r f
  tree_prefix (is.word {x = x} c) f h e = word_prefix x (is.word c) refl f h e
  tree_prefix (is.part p) f h e = front.part (tree_prefix p f h e)
  tree_prefix (is.both {t = t} {u = u} p q) f h e =
      elim (append_split (spelling t) (spelling u) f h e) [
        | inl s ↦ front.first (tree_prefix p f s.0 s.1)
        | inr s ↦ front.next p (tree_prefix q s.0 h s.2) s.1
      ]
  tree_prefix (is.left p) f h e = front.left (tree_prefix p f h e)
  tree_prefix (is.right p) f h e = front.right (tree_prefix p f h e)
  tree_prefix (is.once p) f h e = front.once (tree_prefix p f h e)
  tree_prefix is.never f h e = no_front (none_before f h e)
  tree_prefix (is.more {t = t} {u = u} p q) f h e =
      elim (append_split (spelling t) (spelling u) f h e) [
        | inl s ↦ front.one (tree_prefix p f s.0 s.1)
        | inr s ↦ front.more p (tree_prefix q s.0 h s.2) s.1
      ]
  tree_prefix is.enough f h e = no_front (none_before f h e)
  tree_prefix (is.deeper i p) f h e = front.deeper i (tree_prefix p f h e)
  tree_prefix (is.chosen {t = t} {u = u} p c q) f h e =
      elim (append_split (spelling t) (spelling u) f h e) [
        | inl s ↦ front.before (tree_prefix p f s.0 s.1)
        | inr s ↦ front.chosen p c (tree_prefix q s.0 h s.2) s.1
      ]
  tree_prefix (is.otherwise {t = t} {u = u} p c q) f h e =
      elim (append_split (spelling t) (spelling u) f h e) [
        | inl s ↦ front.before (tree_prefix p f s.0 s.1)
        | inr s ↦ front.otherwise p c (tree_prefix q s.0 h s.2) s.1
      ]

  front_prefix : {room : Room} {r : Rule A S} {whole : List A} → Front g room r whole → (f h : List A) → whole ≡ f ++ h → Front g room r f
  front_prefix front.empty f h e = no_front (none_before f h e)
  front_prefix (front.whole p q) f h e = tree_prefix p f h (sym q ∙ e)
  front_prefix (front.part p) f h e = front.part (front_prefix p f h e)
  front_prefix (front.first p) f h e = front.first (front_prefix p f h e)
  front_prefix (front.next {t = t} {h = rest} p q split) f h e =
      elim (append_split (spelling t) rest f h (sym split ∙ e)) [
        | inl s ↦ front.first (tree_prefix p f s.0 s.1)
        | inr s ↦ front.next p (front_prefix q s.0 h s.2) s.1
      ]
  front_prefix (front.left p) f h e = front.left (front_prefix p f h e)
  front_prefix (front.right p) f h e = front.right (front_prefix p f h e)
  front_prefix (front.once p) f h e = front.once (front_prefix p f h e)
  front_prefix (front.one p) f h e = front.one (front_prefix p f h e)
  front_prefix (front.more {t = t} {h = rest} p q split) f h e =
      elim (append_split (spelling t) rest f h (sym split ∙ e)) [
        | inl s ↦ front.one (tree_prefix p f s.0 s.1)
        | inr s ↦ front.more p (front_prefix q s.0 h s.2) s.1
      ]
  front_prefix (front.deeper i p) f h e = front.deeper i (front_prefix p f h e)
  front_prefix (front.before p) f h e = front.before (front_prefix p f h e)
  front_prefix (front.chosen {t = t} {h = rest} p c q split) f h e =
      elim (append_split (spelling t) rest f h (sym split ∙ e)) [
        | inl s ↦ front.before (tree_prefix p f s.0 s.1)
        | inr s ↦ front.chosen p c (front_prefix q s.0 h s.2) s.1
      ]
  front_prefix (front.otherwise {t = t} {h = rest} p c q split) f h e =
      elim (append_split (spelling t) rest f h (sym split ∙ e)) [
        | inl s ↦ front.before (tree_prefix p f s.0 s.1)
        | inr s ↦ front.otherwise p c (front_prefix q s.0 h s.2) s.1
      ]

-- of a tree
pub tree_front : {A S : Type 0} (g : Grammar A S) (room : Room) (r : Rule A S) (t : Tree A S) → Is g room r t → Front g room r (spelling t)
tree_front g room r t p = front.whole p refl

pub front_before : {A S : Type 0} (g : Grammar A S) (room : Room) (r : Rule A S) (f h : List A) → Front g room r (f ++ h) → Front g room r f
front_before g room r f h p = front_prefix g p f h refl
