-- The innermost walk, which is kept last.
use Rattle.std.proofs.Common.{◌≡◌, ◌≢◌, ℕ, suc, ◌+◌, ◌-◌, ◌≤◌, ◌<◌, List, [], ◌∷◌, ◌++◌, reverse, length, take, get_or, Some, None, refl, sym, ap, ◌∙◌, arith}
use Rattle.std.specs.Prelude.{map, slice_set}
use Rattle.std.proofs.lemmas.List.{reverse-append, take-append-drop, drop_more, drop_all, length-take, length-reverse, length-map}
use Rattle.std.proofs.Math.Seq.{set-append_seam}
use Rattle.chi_value.specs.declared.value.Value.{Value}
use Rattle.chi_core.specs.Answer.{wanted}
use Rattle.chi_core.specs.Variables.{Variables, bound}
use Rattle.chi_exec_law.specs.Runs.{Goes, Stuck, taken}
use Rattle.chi_exec_law.specs.State as law
use Rattle.chi_exec_law.specs.State.{State, Step, state, frame_of, with_under}
use Rattle.chi_exec_law.specs.Instructions.{next_of}
use Rattle.chi_exec_steps.specs.declared.machinery.Turning.{Turning}
use Rattle.chi_exec_steps.specs.declared.machinery.Turning.TheVariants.{Walking, Scanning}
use Rattle.chi_exec_steps.specs.Views.{turning_of, under_of}
use Rattle.chi_exec_steps.specs.Walks.{Walks, Walked, WalkedOut}

under_last : (front : List Turning) (t : Turning) → under_of (front ++ t ∷ []) ≡ turning_of t ∷ under_of front
under_last front t = ap (map turning_of) (reverse-append front (t ∷ []))

pub under_taken : (all rest : List Turning) (t : Turning) → all ≡ rest ++ t ∷ [] → under_of all ≡ turning_of t ∷ under_of rest
under_taken all rest t e = ap under_of e ∙ under_last rest t

split_last : (xs : List Turning) (n : ℕ) (t : Turning) → length xs ≡ n + 1 → t ≡ get_or xs n t → xs ≡ take n xs ++ t ∷ []
split_last xs n t l e =
    sym (take-append-drop n xs)
    ∙ ap (λ l. take n xs ++ l) (drop_more xs n t (omega (arith, l)) ∙ (λ j. sym e j ∷ drop_all (n + 1) xs (omega (arith, l)) j))

set_last : (front : List Turning) (n : ℕ) (t new : Turning) → n ≡ length front → slice_set (front ++ t ∷ []) n new ≡ front ++ new ∷ []
set_last front n t new e = ap (λ n. slice_set (front ++ t ∷ []) n new) e ∙ set-append_seam front t [] new

some_there : (xs : List Turning) → Walks (under_of xs) → 0 < length xs
some_there xs w =
    let n : length (under_of xs) ≡ length xs = length-map (reverse xs) turning_of ∙ length-reverse xs in
    let m : length (under_of xs) ≡ suc (length w.rest) = ap length w.is in
    omega (arith, n, m)

pub walk_there : (xs : List Turning) → Walks (under_of xs) → 1 ≤ length xs
walk_there xs w = let h = some_there xs w in omega (arith, h)

module _ (xs : List Turning) (n : ℕ) (w : Walks (under_of xs)) (e : n ≡ length xs - 1) where
  size : length xs ≡ n + 1
  size = let h = some_there xs w in omega (arith, e, h)

  front_size : n ≡ length (take n xs)
  front_size = let h = some_there xs w in omega (arith, e, h, length-take n xs)

  pub walk_last : (t : Turning) → t ≡ get_or xs n t → turning_of t ≡ law.Walking w.elements
  walk_last t is =
      let both : turning_of t ∷ under_of (take n xs) ≡ law.Walking w.elements ∷ w.rest = sym (under_taken xs (take n xs) t (split_last xs n t size is)) ∙ w.is in
      cc

  pub no_scan : (ys y : Value) (place : ℕ) → Scanning ys y place ≡ get_or xs n (Scanning ys y place) → ⊥
  no_scan ys y place is = let p = walk_last (Scanning ys y place) is in cc

  set_is : (elements later : List Value) → xs ≡ take n xs ++ Walking elements ∷ [] → under_of (slice_set xs n (Walking later)) ≡ law.Walking later ∷ under_of (take n xs)
  set_is elements later split =
      ap under_of (ap (λ l. slice_set l n (Walking later)) split ∙ set_last (take n xs) n (Walking elements) (Walking later) front_size) ∙ under_last (take n xs) (Walking later)

  pub walk_goes : (elements later : List Value) (x : Value) → Walking elements ≡ get_or xs n (Walking elements) → elements ≡ x ∷ later
      → Walked x (under_of xs) (under_of (slice_set xs n (Walking later)))
  walk_goes elements later x is more =
      let split : xs ≡ take n xs ++ Walking elements ∷ [] = split_last xs n (Walking elements) size is in
      record {
        elements = later;
        rest = under_of (take n xs);
        was = under_taken xs (take n xs) (Walking elements) split ∙ ap (λ l. law.Walking l ∷ under_of (take n xs)) more;
        now = set_is elements later split;
      }

  pub walk_over : (elements later : List Value) → Walking elements ≡ get_or xs n (Walking elements) → elements ≡ []
      → WalkedOut (under_of xs) (under_of (slice_set xs n (Walking later)))
  walk_over elements later is none =
      let split : xs ≡ take n xs ++ Walking elements ∷ [] = split_last xs n (Walking elements) size is in
      record {
        rest = under_of (take n xs);
        last = later;
        was = under_taken xs (take n xs) (Walking elements) split ∙ ap (λ l. law.Walking l ∷ under_of (take n xs)) none;
        now = set_is elements later split;
      }

pub ruleset elements = (walk_there, walk_goes, walk_over)

-- the instruction

pub walks_by : (under : List law.Turning) (goal : ℕ) (slots : List ℕ) (s : State) → next_of under goal slots s ≢ Stuck → Walks under
walks_by [] goal slots s h = absurd (h refl)
walks_by (law.Walking elements ∷ rest) goal slots s h = record { elements = elements; rest = rest; is = refl }
walks_by (law.Scanning xs x place ∷ rest) goal slots s h = absurd (h refl)
walks_by (law.Repeating left made ∷ rest) goal slots s h = absurd (h refl)

module _ (before after : List law.Turning) (goal : ℕ) (slots : List ℕ) (s : State) where
  next_is : (x : Value) (w : Walked x before after) → next_of before goal slots s
      ≡ taken (wanted (bound slots x s.frame.variables) s.view) (λ variables view. state (s.at + 1) s.stack (frame_of variables (law.Walking w.elements ∷ w.rest)) s.callers view)
  next_is x w = ap (λ u. next_of u goal slots s) w.was

  pub next_bound : (x : Value) → Walked x before after → next_of before goal slots s ≢ Stuck → bound slots x s.frame.variables ≢ None
  next_bound x w h e =
      h (next_is x w ∙ ap (λ o. taken (wanted o s.view) (λ variables view. state (s.at + 1) s.stack (frame_of variables (law.Walking w.elements ∷ w.rest)) s.callers view)) e)

  pub next_goes : (x : Value) (new : Variables) → Walked x before after → bound slots x s.frame.variables ≡ Some new
      → next_of before goal slots s ≡ Goes (state (s.at + 1) s.stack (frame_of new after) s.callers s.view)
  next_goes x new w e =
      next_is x w
      ∙ ap (λ o. taken (wanted o s.view) (λ variables view. state (s.at + 1) s.stack (frame_of variables (law.Walking w.elements ∷ w.rest)) s.callers view)) e
      ∙ ap (λ u. Goes (state (s.at + 1) s.stack (frame_of new u) s.callers s.view)) (sym w.now)

  pub next_ends : (t : law.Turning) (rest : List law.Turning) → WalkedOut before after → after ≡ t ∷ rest
      → next_of before goal slots s ≡ Goes (state goal s.stack (frame_of s.frame.variables rest) s.callers s.view)
  next_ends t rest w e =
      let same : rest ≡ w.rest = let both : t ∷ rest ≡ law.Walking w.last ∷ w.rest = sym e ∙ w.now in cc in
      ap (λ u. next_of u goal slots s) w.was ∙ ap (λ u. Goes (state goal s.stack (frame_of s.frame.variables u) s.callers s.view)) (sym same)

pub ruleset turns = (walks_by, next_bound, next_goes, next_ends, under_taken)
