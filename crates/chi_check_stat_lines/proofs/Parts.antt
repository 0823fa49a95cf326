-- Private to proofs. The steps of a target and the values of a list, one by one.
use Rattle.std.proofs.Common.{ℕ, ◌≡◌, ◌+◌, ◌<◌, ◌≤◌, List, [], ◌∷◌, ◌++◌, map, drop, length, get_or, Option, Some, None, refl, sym, ap, ◌∙◌, append_assoc}
use Rattle.chi_token.specs.declared.place.Place.{Place}
use Rattle.chi_tree.specs.declared.expr.Expr.{Expr}
use Rattle.chi_tree.specs.declared.expr.Postfix.{Postfix, Postfix-F, out-Postfix}
use Rattle.chi_tree.specs.declared.expr.Postfix.TheVariants as postfix
use Rattle.chi_check_types.specs.declared.meant.Made.{Made}
use Rattle.chi_check_types.specs.declared.fault.Fault.{Fault}
use Rattle.chi_check_types.specs.Faults.{first_of}
use Rattle.chi_check_types.specs.Names.{Names}
use Rattle.chi_check_types.specs.Typed.{Typed}
use Rattle.chi_check_types.proofs.Firsts.{first_of_append, first_of_none}
use Rattle.chi_check_stat_rules.specs.declared.home.Home.{Home}
use Rattle.chi_check_stat_rules.specs.declared.parts.Aim.{Aim}
use Rattle.chi_check_stat_lines.specs.Stated.{both, joined}
use Rattle.chi_check_stat_rules.specs.Targets.{index_step}
use Rattle.chi_check_stat_lines.specs.Values.{made_of, all_faults, all_of, value_in, step_in, steps_in, with_last}
use Rattle.chi_check_stat_lines.specs.Lines.{placed}
use Rattle.chi_check_stat_lines.proofs.Turns.{at, none_left}

module _ (home : Home) (names : Names) (name : Place) (steps : List Postfix) where
  pub step_made : (whole a next : Option Aim) (i : ℕ) (x : Postfix) → whole ≡ (steps_in home names name a (drop i steps)).made → i < length steps → x ≡ get_or steps i x → next ≡ (step_in home names name a (out-Postfix x)).made
      → whole ≡ (steps_in home names name next (drop (i + 1) steps)).made
  step_made whole a next i x w h e n = w ∙ ap (λ ps. (steps_in home names name a ps).made) (at steps i x h e) ∙ ap (λ a. (steps_in home names name a (drop (i + 1) steps)).made) (sym n)

  pub step_noted : (whole kept after : Option Fault) (a next : Option Aim) (i : ℕ) (x : Postfix) → whole ≡ first_of kept (steps_in home names name a (drop i steps)).faults → i < length steps → x ≡ get_or steps i x
      → next ≡ (step_in home names name a (out-Postfix x)).made → after ≡ first_of kept (step_in home names name a (out-Postfix x)).faults → whole ≡ first_of after (steps_in home names name next (drop (i + 1) steps)).faults
  step_noted whole kept after a next i x w h e n k =
      w ∙ ap (λ ps. first_of kept (steps_in home names name a ps).faults) (at steps i x h e) ∙ first_of_append kept _ _ ∙ (λ j. first_of (sym k j) (steps_in home names name (sym n j) (drop (i + 1) steps)).faults)

  pub steps_end : (i : ℕ) (a : Option Aim) → length steps ≤ i → steps_in home names name a (drop i steps) ≡ record { faults = []; made = a }
  steps_end i a h = ap (λ ps. steps_in home names name a ps) (none_left steps i h)

  pub steps_end_noted : (i : ℕ) (a : Option Aim) (kept : Option Fault) → length steps ≤ i → first_of kept (steps_in home names name a (drop i steps)).faults ≡ kept
  steps_end_noted i a kept h = ap (λ (t : Typed Aim). first_of kept t.faults) (steps_end i a h) ∙ first_of_none kept [] refl

-- each of a list comes to something

pub grown_by : {A : Type 0} (all : Option (List A)) (a : Option A) (more : Option (List A)) → joined all (both (λ x xs. x ∷ xs) a more) ≡ joined (with_last all a) more
grown_by None a more = refl
grown_by (Some all) None more = refl
grown_by (Some all) (Some a) None = refl
grown_by (Some all) (Some a) (Some more) = ap Some (sym (append_assoc all (a ∷ []) more))

-- parts that change nothing, one by one
module _ {X A : Type 0} (f : X → Typed A) (xs : List X) where
  pub each_made : (whole all grown : List (Option A)) (i : ℕ) (x : X) (m : Option A) → whole ≡ all ++ map made_of (map f (drop i xs)) → i < length xs → x ≡ get_or xs i x → m ≡ (f x).made → grown ≡ all ++ m ∷ []
      → whole ≡ grown ++ map made_of (map f (drop (i + 1) xs))
  each_made whole all grown i x m w h e is g =
      w ∙ ap (λ xs. all ++ map made_of (map f xs)) (at xs i x h e) ∙ ap (λ m. all ++ m ∷ map made_of (map f (drop (i + 1) xs))) (sym is) ∙ sym (append_assoc all (m ∷ []) _)
      ∙ ap (λ all. all ++ map made_of (map f (drop (i + 1) xs))) (sym g)

  pub each_noted : (whole kept after : Option Fault) (i : ℕ) (x : X) → whole ≡ first_of kept (all_faults (map f (drop i xs))) → i < length xs → x ≡ get_or xs i x → after ≡ first_of kept (f x).faults
      → whole ≡ first_of after (all_faults (map f (drop (i + 1) xs)))
  each_noted whole kept after i x w h e k =
      w ∙ ap (λ xs. first_of kept (all_faults (map f xs))) (at xs i x h e) ∙ first_of_append kept _ _ ∙ ap (λ k. first_of k (all_faults (map f (drop (i + 1) xs)))) (sym k)

  pub each_gone : (whole kept : Option Fault) (i : ℕ) → whole ≡ first_of kept (all_faults (map f (drop i xs))) → length xs ≤ i → kept ≡ whole
  each_gone whole kept i w h = sym (w ∙ ap (λ xs. first_of kept (all_faults (map f xs))) (none_left xs i h) ∙ first_of_none kept [] refl)

  -- each comes to something
  pub all_made : (whole all grown : Option (List A)) (i : ℕ) (x : X) (m : Option A) → whole ≡ joined all (all_of (map f (drop i xs))).made → i < length xs → x ≡ get_or xs i x → m ≡ (f x).made → grown ≡ with_last all m
      → whole ≡ joined grown (all_of (map f (drop (i + 1) xs))).made
  all_made whole all grown i x m w h e is g =
      w ∙ ap (λ xs. joined all (all_of (map f xs)).made) (at xs i x h e) ∙ grown_by all (f x).made (all_of (map f (drop (i + 1) xs))).made
      ∙ ap (λ m. joined (with_last all m) (all_of (map f (drop (i + 1) xs))).made) (sym is) ∙ ap (λ all. joined all (all_of (map f (drop (i + 1) xs))).made) (sym g)

  pub all_noted : (whole kept after : Option Fault) (i : ℕ) (x : X) → whole ≡ first_of kept (all_of (map f (drop i xs))).faults → i < length xs → x ≡ get_or xs i x → after ≡ first_of kept (f x).faults
      → whole ≡ first_of after (all_of (map f (drop (i + 1) xs))).faults
  all_noted whole kept after i x w h e k =
      w ∙ ap (λ xs. first_of kept (all_of (map f xs)).faults) (at xs i x h e) ∙ first_of_append kept _ _ ∙ ap (λ k. first_of k (all_of (map f (drop (i + 1) xs))).faults) (sym k)

  pub all_gone : (whole kept : Option Fault) (i : ℕ) → whole ≡ first_of kept (all_of (map f (drop i xs))).faults → length xs ≤ i → kept ≡ whole
  all_gone whole kept i w h = sym (w ∙ ap (λ xs. first_of kept (all_of (map f xs)).faults) (none_left xs i h) ∙ first_of_none kept [] refl)

pub nothing_placed : (es : List Expr) (ms : List (Option Made)) → ms ≡ [] → placed es ms ≡ []
nothing_placed [] ms h = refl
nothing_placed (e ∷ es) ms h = ap (λ ms. placed (e ∷ es) ms) h

module _ (home : Home) (names : Names) (name : Place) (a : Option Aim) (kept : Option Fault) where
  pub noted_index : (p : Postfix) (place : Place) (index : Expr) → p ≡ postfix.Index place index
      → first_of kept (step_in home names name a (out-Postfix p)).faults ≡ first_of (first_of kept (value_in home names index).faults) (index_step name place a (value_in home names index).made).faults
  noted_index p place index h = ap (λ o. first_of kept (step_in home names name a o).faults) (ap out-Postfix h ∙ postfix.outs-Index place index) ∙ first_of_append kept _ _
