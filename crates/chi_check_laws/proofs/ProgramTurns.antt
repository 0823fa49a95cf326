-- Private to proofs. What comes one after another comes to something where no rule is broken, and leaves names that have types.
use Rattle.std.proofs.Common.{◌≡◌, Bool, length, List, [], ◌∷◌, ◌++◌, map}
use Rattle.chi_tree.specs.declared.statement.Variable.{Variable}
use Rattle.chi_tree.specs.declared.statement.Walk.{Walk}
use Rattle.chi_tree.specs.declared.type_tree.TypeTree.{TypeTree}
use Rattle.chi_check_types.specs.declared.fault.Fault.{Fault}
use Rattle.chi_check_types.specs.Typed.{Typed}
use Rattle.chi_check_expr.proofs.Nodes.{left_nil, right_nil, cons_nil}
use Rattle.chi_check.specs.Below.chi_check_stat_rules.specs.declared.home.Home.{Home}
use Rattle.chi_check.specs.Below.chi_check_stat_lines.specs.declared.state.Binder.{Binder}
use Rattle.chi_check.specs.Below.chi_check_stat_lines.specs.declared.state.State.{State}
use Rattle.chi_check.specs.Below.chi_check_stat_lines.specs.Stated.{Stated, Turn, in_turn, alone, preceded, held_by}
use Rattle.chi_check.specs.Below.chi_check_stat_lines.specs.States.{cut, closed, block, Going, each_in}
use Rattle.chi_check.specs.Below.chi_check_stat_lines.specs.Declarations.{declaration_in, walk_in}
use Rattle.chi_check_laws.proofs.Entries.{Entries}
use Rattle.chi_check_laws.proofs.Shaped.{Fine}
use Rattle.chi_check_laws.proofs.WholeHeaders.{Comes, WholeTyped, mapped_comes, both_comes}

-- ---- of any state of which a fact is kept

module _ {S : Type 0} (P : S → Type 0) where
  abbrev pub Leaves : {B : Type 0} → Stated S B → Type 0
  Leaves t = t.faults ≡ [] → Comes t.made × P t.next

  abbrev pub Keeps : {A : Type 0} → Turn S A → Type 0
  Keeps f = (s : S) → P s → Leaves (f s)

  abbrev pub EachKeeps : {A : Type 0} → List (Turn S A) → Type 0
  EachKeeps [] = Unit {0}
  EachKeeps (f ∷ fs) = Keeps f × EachKeeps fs

  pub turns_keep : {A : Type 0} (fs : List (Turn S A)) → EachKeeps fs → Keeps (in_turn fs)
  turns_keep [] h s p e = (tt, p)
  turns_keep (f ∷ fs) h s p e =
      let first = f s in
      let one = h.0 s p (left_nil first.faults _ e) in
      let rest = turns_keep fs h.1 first.next one.1 (right_nil first.faults _ e) in
      (both_comes (λ x y. x ++ y) first.made (in_turn fs first.next).made one.0 rest.0, rest.1)

  pub each_keeps : {X A : Type 0} (f : X → Turn S A) → ((x : X) → Keeps (f x)) → (xs : List X) → EachKeeps (map f xs)
  each_keeps f w [] = tt
  each_keeps f w (x ∷ xs) = (w x, each_keeps f w xs)

-- ---- of bodies

module _ (P : State → Type 0) where
  pub held_leaves : {B : Type 0} (fs : List Fault) (t : Stated State B) → Leaves P t → Leaves P (held_by fs t)
  held_leaves [] t w e = w e
  held_leaves (f ∷ fs) t w e = absurd (cons_nil _ _ e)

  pub preceded_leaves : {B : Type 0} (fs : List Fault) (t : Stated State B) → Leaves P t → Leaves P (preceded fs t)
  preceded_leaves fs t w e = w (right_nil fs t.faults e)

  pub alone_leaves : {B : Type 0} (s : State) (t : Typed B) → P s → WholeTyped t → Leaves P (alone s t)
  alone_leaves s t p w e = (mapped_comes (λ a. a ∷ []) t.made (w e), p)

  -- kept at the end of a block
  abbrev pub Closes : Type 0
  Closes = (s t : State) → P s → P t → P (cut (length s.names) t)

  pub closed_leaves : {B : Type 0} → Closes → (s : State) (t : Stated State B) → P s → Leaves P t → Leaves P (closed s t)
  closed_leaves c s t p w e = let both = w e in (both.0, c s t.next p both.1)

  -- where a loop stands around it or not
  abbrev pub WholeGoing : {A : Type 0} → Going A → Type 0
  WholeGoing g = (loop : Bool) → Keeps P (g loop)

  pub block_keeps : {A : Type 0} → Closes → (fs : List (Turn State A)) → EachKeeps P fs → Keeps P (block fs)
  block_keeps c fs h s p = closed_leaves c s (in_turn fs s) p (turns_keep P fs h s p)

  -- of parts that are what they come to and that they do so
  pub each_going : {X A : Type 0} (f : X → Going A) (xs : List ((x : X) × WholeGoing (f x))) (loop : Bool) → EachKeeps P (each_in loop (map f (map (λ x. x.0) xs)))
  each_going f [] loop = tt
  each_going f (x ∷ xs) loop = (x.1 loop, each_going f xs loop)

-- what is visible has types
abbrev pub FineState : State → Type 0
FineState s = Entries Fine s.names

-- a fact that is kept wherever a body binds names and at the end of each block, of states in which all that is visible has types
pub record Holds (home : Home) (P : State → Type 0) : Type 0 where
  pub fine : (s : State) → P s → FineState s
  pub declares : (tree : TypeTree) (variables : List Variable) → Keeps P (declaration_in home tree variables)
  pub walks : (b : Binder) (w : Walk) (s : State) → P s → Leaves P (walk_in home b w s)
  pub closes : Closes P
