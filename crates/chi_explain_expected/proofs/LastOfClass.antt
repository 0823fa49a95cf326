-- A front goes on with each token of a class, or with none of them.
use Rattle.std.proofs.Common.{◌≡◌, List, [], ◌∷◌, ◌++◌, ◌⊎◌, inl, inr, refl, ap, sym, ◌∙◌, append_assoc}
use Rattle.chi_grammar.specs.declared.room.Room.{Room}
use Rattle.chi_grammar.specs.Rules.{Tree, spelling, Rule, Grammar}
use Rattle.chi_grammar.specs.Trees.{Is}
use Rattle.chi_grammar.specs.Trees as is
use Rattle.chi_grammar.specs.Fronts.{Front}
use Rattle.chi_grammar.specs.Fronts as front

-- an element of two lists joined stands in the first, or in the second
spot : {A : Type 0} (xs ys f : List A) (x : A) (h : List A) → xs ++ ys ≡ f ++ x ∷ h
    → ((rest : List A) × (xs ≡ f ++ x ∷ rest)) ⊎ ((rest : List A) × (f ≡ xs ++ rest) × (ys ≡ rest ++ x ∷ h))
spot [] ys f x h e = inr (f, refl, e)
spot (z ∷ xs) ys [] x h e =
    let one : z ≡ x = cc in
    inl (xs, ap (λ w. w ∷ xs) one)
spot (z ∷ xs) ys (w ∷ f) x h e =
    let one : z ≡ w = cc in
    let tails : xs ++ ys ≡ f ++ x ∷ h = cc in
    elim (spot xs ys f x h tails) [
      | inl p ↦ inl (p.0, λ i. one i ∷ p.1 i)
      | inr p ↦ inr (p.0, (λ i. sym one i ∷ p.1 i), p.2)
    ]

nowhere : {A : Type 0} (f : List A) (x : A) (h : List A) → [] ≡ f ++ x ∷ h → ⊥
nowhere [] x h e = cc
nowhere (y ∷ f) x h e = cc

-- the one element of a list
alone : {A : Type 0} (z x : A) (f h : List A) → z ∷ [] ≡ f ++ x ∷ h → (f ≡ []) × (z ≡ x)
alone z x [] h e = let one : z ≡ x = cc in (refl, one)
alone z x (y ∷ f) h e = let tails : [] ≡ f ++ x ∷ h = cc in absurd (nowhere f x h tails)

module _ {A S : Type 0} (g : Grammar A S) (x y : A) (alike : g.class_of x ≡ g.class_of y) where
  -- the tokens of a tree before one of them, and then another of its class

  tree_with : {room : Room} {r : Rule A S} {t : Tree A S} → Is g room r t → (f h : List A) → spelling t ≡ f ++ x ∷ h → Front g room r (f ++ y ∷ [])
  tree_with {room} (is.word {class = class} {x = z} c) f h e =
      let only = alone z x f h e in
      let same : g.class_of y ≡ class = sym alike ∙ ap g.class_of (sym only.1) ∙ c in
      front.whole (is.word same) (ap (λ k. k ++ y ∷ []) only.0)
  tree_with (is.part p) f h e = front.part (tree_with p f h e)
  tree_with (is.both {t = t} {u = u} p q) f h e =
      elim (spot (spelling t) (spelling u) f x h e) [
        | inl s ↦ front.first (tree_with p f s.0 s.1)
        | inr s ↦ front.next p (tree_with q s.0 h s.2) (ap (λ k. k ++ y ∷ []) s.1 ∙ append_assoc (spelling t) s.0 (y ∷ []))
      ]
  tree_with (is.left p) f h e = front.left (tree_with p f h e)
  tree_with (is.right p) f h e = front.right (tree_with p f h e)
  tree_with (is.once p) f h e = front.once (tree_with p f h e)
  tree_with is.never f h e = absurd (nowhere f x h e)
  tree_with (is.more {t = t} {u = u} p q) f h e =
      elim (spot (spelling t) (spelling u) f x h e) [
        | inl s ↦ front.one (tree_with p f s.0 s.1)
        | inr s ↦ front.more p (tree_with q s.0 h s.2) (ap (λ k. k ++ y ∷ []) s.1 ∙ append_assoc (spelling t) s.0 (y ∷ []))
      ]
  tree_with is.enough f h e = absurd (nowhere f x h e)
  tree_with (is.deeper i p) f h e = front.deeper i (tree_with p f h e)
  tree_with (is.chosen {t = t} {u = u} p c q) f h e =
      elim (spot (spelling t) (spelling u) f x h e) [
        | inl s ↦ front.before (tree_with p f s.0 s.1)
        | inr s ↦ front.chosen p c (tree_with q s.0 h s.2) (ap (λ k. k ++ y ∷ []) s.1 ∙ append_assoc (spelling t) s.0 (y ∷ []))
      ]
  tree_with (is.otherwise {t = t} {u = u} p c q) f h e =
      elim (spot (spelling t) (spelling u) f x h e) [
        | inl s ↦ front.before (tree_with p f s.0 s.1)
        | inr s ↦ front.otherwise p c (tree_with q s.0 h s.2) (ap (λ k. k ++ y ∷ []) s.1 ∙ append_assoc (spelling t) s.0 (y ∷ []))
      ]

  -- the same of a front

  front_with : {room : Room} {r : Rule A S} {whole : List A} → Front g room r whole → (f h : List A) → whole ≡ f ++ x ∷ h → Front g room r (f ++ y ∷ [])
  front_with front.empty f h e = absurd (nowhere f x h e)
  front_with (front.whole p q) f h e = tree_with p f h (sym q ∙ e)
  front_with (front.part p) f h e = front.part (front_with p f h e)
  front_with (front.first p) f h e = front.first (front_with p f h e)
  front_with (front.next {t = t} {h = rest} p q split) f h e =
      elim (spot (spelling t) rest f x h (sym split ∙ e)) [
        | inl s ↦ front.first (tree_with p f s.0 s.1)
        | inr s ↦ front.next p (front_with q s.0 h s.2) (ap (λ k. k ++ y ∷ []) s.1 ∙ append_assoc (spelling t) s.0 (y ∷ []))
      ]
  front_with (front.left p) f h e = front.left (front_with p f h e)
  front_with (front.right p) f h e = front.right (front_with p f h e)
  front_with (front.once p) f h e = front.once (front_with p f h e)
  front_with (front.one p) f h e = front.one (front_with p f h e)
  front_with (front.more {t = t} {h = rest} p q split) f h e =
      elim (spot (spelling t) rest f x h (sym split ∙ e)) [
        | inl s ↦ front.one (tree_with p f s.0 s.1)
        | inr s ↦ front.more p (front_with q s.0 h s.2) (ap (λ k. k ++ y ∷ []) s.1 ∙ append_assoc (spelling t) s.0 (y ∷ []))
      ]
  front_with (front.deeper i p) f h e = front.deeper i (front_with p f h e)
  front_with (front.before p) f h e = front.before (front_with p f h e)
  front_with (front.chosen {t = t} {h = rest} p c q split) f h e =
      elim (spot (spelling t) rest f x h (sym split ∙ e)) [
        | inl s ↦ front.before (tree_with p f s.0 s.1)
        | inr s ↦ front.chosen p c (front_with q s.0 h s.2) (ap (λ k. k ++ y ∷ []) s.1 ∙ append_assoc (spelling t) s.0 (y ∷ []))
      ]
  front_with (front.otherwise {t = t} {h = rest} p c q split) f h e =
      elim (spot (spelling t) rest f x h (sym split ∙ e)) [
        | inl s ↦ front.before (tree_with p f s.0 s.1)
        | inr s ↦ front.otherwise p c (front_with q s.0 h s.2) (ap (λ k. k ++ y ∷ []) s.1 ∙ append_assoc (spelling t) s.0 (y ∷ []))
      ]

  pub last_of_class : (room : Room) (r : Rule A S) (f : List A) → Front g room r (f ++ x ∷ []) → Front g room r (f ++ y ∷ [])
  last_of_class room r f p = front_with p f [] refl
