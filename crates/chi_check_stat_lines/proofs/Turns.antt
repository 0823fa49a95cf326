-- Private to proofs. One after another: what is done, and what is left.
use Rattle.std.proofs.Common.{Bool, ℕ, zero, suc, ◌≡◌, ◌+◌, ◌<◌, ◌≤◌, List, [], ◌∷◌, ◌++◌, map, drop, length, get_or, Option, Some, None, refl, sym, ap, ◌∙◌, arith, add-one, drop-cons, append_assoc}
use Rattle.std.proofs.lemmas.List.{append-nil}
use Rattle.chi_check_types.specs.declared.fault.Fault.{Fault}
use Rattle.chi_check_types.specs.Faults.{first_of}
use Rattle.chi_check_types.proofs.Firsts.{first_of_append, first_of_none}
use Rattle.chi_check_stat_lines.specs.declared.state.State.{State}
use Rattle.chi_check_stat_lines.specs.Stated.{Turn, in_turn, joined}
use Rattle.chi_check_stat_lines.specs.States.{block, Going, each_in}

pub at : {A : Type 0} (xs : List A) (i : ℕ) (x : A) → i < length xs → x ≡ get_or xs i x → drop i xs ≡ x ∷ drop (i + 1) xs
at xs i x h e = drop-cons xs i x h ∙ (λ j. sym e j ∷ drop (sym (add-one i) j) xs)

pub none_left : {A : Type 0} (xs : List A) (i : ℕ) → length xs ≤ i → drop i xs ≡ []
none_left [] zero h = refl
none_left [] (suc i) h = refl
none_left (x ∷ xs) zero h = absurd (omega arith)
none_left (x ∷ xs) (suc i) h = none_left xs i (omega arith)

pub joined_more : {A : Type 0} (a b c : Option (List A)) → joined a (joined b c) ≡ joined (joined a b) c
joined_more None b c = refl
joined_more (Some a) None c = refl
joined_more (Some a) (Some b) None = refl
joined_more (Some a) (Some b) (Some c) = ap Some (sym (append_assoc a b c))

pub joined_end : {A : Type 0} (a : Option (List A)) → joined a (Some []) ≡ a
joined_end None = refl
joined_end (Some a) = ap Some (append-nil a)

-- One more, where what is left comes of a list: what comes of all stays what was done so far and what is left.
module _ {X S A : Type 0} (through : List X → List (Turn S A)) (xs : List X) where
  pub step_next : (whole : S) (i : ℕ) (s next : S) (x : X) (f : Turn S A) (more : List (Turn S A)) → whole ≡ (in_turn (through (drop i xs)) s).next → i < length xs → x ≡ get_or xs i x → through (x ∷ drop (i + 1) xs) ≡ f ∷ more
      → next ≡ (f s).next → whole ≡ (in_turn more next).next
  step_next whole i s next x f more w h e t n =
      w ∙ ap (λ xs. (in_turn (through xs) s).next) (at xs i x h e) ∙ ap (λ fs. (in_turn fs s).next) t ∙ ap (λ s. (in_turn more s).next) (sym n)

  pub step_made : (whole : Option (List A)) (i : ℕ) (s next : S) (all grown : Option (List A)) (x : X) (f : Turn S A) (more : List (Turn S A)) → whole ≡ joined all (in_turn (through (drop i xs)) s).made → i < length xs → x ≡ get_or xs i x
      → through (x ∷ drop (i + 1) xs) ≡ f ∷ more → next ≡ (f s).next → grown ≡ joined all (f s).made → whole ≡ joined grown (in_turn more next).made
  step_made whole i s next all grown x f more w h e t n m =
      w ∙ ap (λ xs. joined all (in_turn (through xs) s).made) (at xs i x h e) ∙ ap (λ fs. joined all (in_turn fs s).made) t ∙ joined_more all (f s).made _
      ∙ (λ j. joined (sym m j) (in_turn more (sym n j)).made)

  pub step_noted : (whole : Option Fault) (i : ℕ) (s next : S) (kept after : Option Fault) (x : X) (f : Turn S A) (more : List (Turn S A)) → whole ≡ first_of kept (in_turn (through (drop i xs)) s).faults → i < length xs → x ≡ get_or xs i x
      → through (x ∷ drop (i + 1) xs) ≡ f ∷ more → next ≡ (f s).next → after ≡ first_of kept (f s).faults → whole ≡ first_of after (in_turn more next).faults
  step_noted whole i s next kept after x f more w h e t n k =
      w ∙ ap (λ xs. first_of kept (in_turn (through xs) s).faults) (at xs i x h e) ∙ ap (λ fs. first_of kept (in_turn fs s).faults) t ∙ first_of_append kept _ _
      ∙ (λ j. first_of (sym k j) (in_turn more (sym n j)).faults)

  pub end_next : (i : ℕ) (s : S) → length xs ≤ i → through [] ≡ [] → (in_turn (through (drop i xs)) s).next ≡ s
  end_next i s h e = ap (λ xs. (in_turn (through xs) s).next) (none_left xs i h) ∙ ap (λ fs. (in_turn fs s).next) e

  pub end_made : (i : ℕ) (s : S) (all : Option (List A)) → length xs ≤ i → through [] ≡ [] → joined all (in_turn (through (drop i xs)) s).made ≡ all
  end_made i s all h e = ap (λ xs. joined all (in_turn (through xs) s).made) (none_left xs i h) ∙ ap (λ fs. joined all (in_turn fs s).made) e ∙ joined_end all

  pub end_noted : (i : ℕ) (s : S) (kept : Option Fault) → length xs ≤ i → through [] ≡ [] → first_of kept (in_turn (through (drop i xs)) s).faults ≡ kept
  end_noted i s kept h e = ap (λ xs. first_of kept (in_turn (through xs) s).faults) (none_left xs i h) ∙ ap (λ fs. first_of kept (in_turn fs s).faults) e ∙ first_of_none kept [] refl

  pub short_noted : (i : ℕ) (s : S) (kept : Option Fault) (x : X) → i < length xs → x ≡ get_or xs i x → through (x ∷ drop (i + 1) xs) ≡ [] → first_of kept (in_turn (through (drop i xs)) s).faults ≡ kept
  short_noted i s kept x h e t = ap (λ xs. first_of kept (in_turn (through xs) s).faults) (at xs i x h e) ∙ ap (λ fs. first_of kept (in_turn fs s).faults) t ∙ first_of_none kept [] refl

-- each where a loop stands around it or not
pub each_mapped : {X A : Type 0} (loop : Bool) (f : X → Going A) (xs : List X) → each_in loop (map f xs) ≡ map (λ x. f x loop) xs
each_mapped loop f [] = refl
each_mapped loop f (x ∷ xs) = ap (λ r. f x loop ∷ r) (each_mapped loop f xs)

pub turns : {X A : Type 0} (loop : Bool) (f : X → Going A) (xs : List X) (s : State) → in_turn (each_in loop (map f xs)) s ≡ in_turn (map (λ x. f x loop) xs) s
turns loop f xs s = ap (λ fs. in_turn fs s) (each_mapped loop f xs)

pub blocks : {X A : Type 0} (loop : Bool) (f : X → Going A) (xs : List X) (s : State) → block (each_in loop (map f xs)) s ≡ block (map (λ x. f x loop) xs) s
blocks loop f xs s = ap (λ fs. block fs s) (each_mapped loop f xs)
