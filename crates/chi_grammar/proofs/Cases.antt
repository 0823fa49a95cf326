-- What a front or a tree of a rule is made of.
use Rattle.std.proofs.Common.{◌≡◌, ℕ, Bool, true, false, List, [], ◌∷◌, ◌++◌, ◌⊎◌, inl, inr, refl, sym, subst}
use Rattle.chi_grammar.specs.declared.room.Nesting.{Nesting}
use Rattle.chi_grammar.specs.declared.room.Room.{Room}
use Rattle.chi_grammar.specs.Rooms.{IsInside}
use Rattle.chi_grammar.specs.Rules.{Tree, leaf, node, pair, none, spelling, Rule, ◌▸◌, ◌∣◌, maybe, many, when, Grammar}
use Rattle.chi_grammar.specs.Rules as rule
use Rattle.chi_grammar.specs.Trees.{Is}
use Rattle.chi_grammar.specs.Trees as is
use Rattle.chi_grammar.specs.Fronts.{Front}
use Rattle.chi_grammar.specs.Fronts as front

module _ {A S : Type 0} (g : Grammar A S) where
  -- a front of what begins with a: a front of a, or a tree of it with tokens after it
  pub data SeqFront (a : Rule A S) (Then : Tree A S → Room → List A → Type 0) : Room → List A → Type 0 where
    inside : {room : Room} {f : List A} → Front g room a f → SeqFront a Then room f
    beyond : {room : Room} {t : Tree A S} {f h : List A} → Is g room a t → Then t room h → f ≡ spelling t ++ h → SeqFront a Then room f

  -- a tree of a with one after it
  pub data SeqTree (a : Rule A S) (Then : Tree A S → Room → Tree A S → Type 0) : Room → Tree A S → Type 0 where
    beside : {room : Room} {t u : Tree A S} → Is g room a t → Then t room u → SeqTree a Then room (pair t u)

  -- what follows a tree, in each of the rules that go on after one

  abbrev pub ThenFront : Rule A S → Tree A S → Room → List A → Type 0
  ThenFront b t room h = Front g room b h

  abbrev pub ThenTree : Rule A S → Tree A S → Room → Tree A S → Type 0
  ThenTree b t room u = Is g room b u

  abbrev pub WhenFront : (Tree A S → Bool) → Rule A S → Rule A S → Tree A S → Room → List A → Type 0
  WhenFront test b c t room h = ((test t ≡ true) × Front g room b h) ⊎ ((test t ≡ false) × Front g room c h)

  abbrev pub WhenTree : (Tree A S → Bool) → Rule A S → Rule A S → Tree A S → Room → Tree A S → Type 0
  WhenTree test b c t room u = ((test t ≡ true) × Is g room b u) ⊎ ((test t ≡ false) × Is g room c u)

  pub front_word : {room : Room} {class : ℕ} {f : List A} → Front g room (rule.word class) f
      → (f ≡ []) ⊎ ((x : A) × (f ≡ x ∷ []) × (g.class_of x ≡ class))
  front_word front.empty = inl refl
  front_word (front.whole (is.word {x = x} e) eq) = inr (x, eq, e)

  pub front_part : {room : Room} {s : S} {f : List A} → Front g room (rule.part s) f → Front g room (g.rule_of s) f
  front_part front.empty = front.empty
  front_part (front.whole (is.part t) eq) = front.whole t eq
  front_part (front.part f) = f

  pub front_seq : {room : Room} {a b : Rule A S} {f : List A} → Front g room (a ▸ b) f → SeqFront a (ThenFront b) room f
  front_seq front.empty = inside front.empty
  front_seq (front.whole (is.both t u) eq) = beyond t (front.whole u refl) eq
  front_seq (front.first f) = inside f
  front_seq (front.next t h eq) = beyond t h eq

  pub front_or : {room : Room} {a b : Rule A S} {f : List A} → Front g room (a ∣ b) f → Front g room a f ⊎ Front g room b f
  front_or front.empty = inl front.empty
  front_or (front.whole (is.left t) eq) = inl (front.whole t eq)
  front_or (front.whole (is.right t) eq) = inr (front.whole t eq)
  front_or (front.left f) = inl f
  front_or (front.right f) = inr f

  pub front_maybe : {room : Room} {a : Rule A S} {f : List A} → Front g room (maybe a) f → Front g room a f
  front_maybe front.empty = front.empty
  front_maybe (front.whole (is.once t) eq) = front.whole t eq
  front_maybe {room} {a} (front.whole is.never eq) = subst (λ f. Front g room a f) (sym eq) front.empty
  front_maybe (front.once f) = f

  pub front_many : {room : Room} {a : Rule A S} {f : List A} → Front g room (many a) f → SeqFront a (ThenFront (many a)) room f
  front_many front.empty = inside front.empty
  front_many (front.whole (is.more t u) eq) = beyond t (front.whole u refl) eq
  front_many {room} {a} (front.whole is.enough eq) = inside (subst (λ f. Front g room a f) (sym eq) front.empty)
  front_many (front.one f) = inside f
  front_many (front.more t h eq) = beyond t h eq

  pub front_deeper : {room : Room} {nesting : Nesting} {a : Rule A S} {f : List A} → Front g room (rule.deeper nesting a) f
      → (f ≡ []) ⊎ ((inner : Room) × IsInside nesting room inner × Front g inner a f)
  front_deeper front.empty = inl refl
  front_deeper (front.whole (is.deeper {inner = inner} e t) eq) = inr (inner, e, front.whole t eq)
  front_deeper (front.deeper {inner = inner} e f) = inr (inner, e, f)

  pub front_when : {room : Room} {a b c : Rule A S} {test : Tree A S → Bool} {f : List A} → Front g room (when a test b c) f
      → SeqFront a (WhenFront test b c) room f
  front_when front.empty = inside front.empty
  front_when (front.whole (is.chosen t e u) eq) = beyond t (inl (e, front.whole u refl)) eq
  front_when (front.whole (is.otherwise t e u) eq) = beyond t (inr (e, front.whole u refl)) eq
  front_when (front.before f) = inside f
  front_when (front.chosen t e h eq) = beyond t (inl (e, h)) eq
  front_when (front.otherwise t e h eq) = beyond t (inr (e, h)) eq

  pub tree_seq : {room : Room} {a b : Rule A S} {t : Tree A S} → Is g room (a ▸ b) t → SeqTree a (ThenTree b) room t
  tree_seq (is.both t u) = beside t u

  pub tree_many : {room : Room} {a : Rule A S} {t : Tree A S} → Is g room (many a) t → (t ≡ none) ⊎ SeqTree a (ThenTree (many a)) room t
  tree_many (is.more t u) = inr (beside t u)
  tree_many is.enough = inl refl

  pub tree_when : {room : Room} {a b c : Rule A S} {test : Tree A S → Bool} {t : Tree A S} → Is g room (when a test b c) t
      → SeqTree a (WhenTree test b c) room t
  tree_when (is.chosen t e u) = beside t (inl (e, u))
  tree_when (is.otherwise t e u) = beside t (inr (e, u))
