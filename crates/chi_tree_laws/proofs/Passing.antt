-- The first token of a list that passes a limit, and of a front of it.
use Rattle.std.proofs.Common.{◌≡◌, ℕ, suc, ◌+◌, ◌<◌, ◌≤◌, Bool, true, false, if◌then◌else◌, Option, Some, None, [], ◌∷◌, length, take, drop, refl, ap, sym, ◌∙◌, arith}
use Rattle.std.specs.Option.{option_map}
use Rattle.std.proofs.lemmas.List.{take-append-drop, length-take-le}
use Rattle.chi_tree_laws.specs.Nestings.{Nestings, passes, first_passing}
use Rattle.chi_tree_laws.proofs.Depths.{and_then, passing-append}

-- the token is there
passing-inside : (b d : ℕ) (ns : Nestings) (k : ℕ) → first_passing b d ns ≡ Some k → k < length ns
passing-inside b d [] k e = cc
passing-inside b d (n ∷ ns) k e = by (passes b d n) (first_passing b d ns) refl (passing-inside b d ns) e
  where
    by : (answer : Bool) (o : Option ℕ) → first_passing b d ns ≡ o → ((j : ℕ) → first_passing b d ns ≡ Some j → j < length ns)
        → (if answer then Some 0 else option_map suc (first_passing b d ns)) ≡ Some k
        → k < suc (length ns)
    by true o at below e = let first : 0 ≡ k = cc in omega arith
    by false None at below e = let none : None ≡ Some k = ap (option_map suc) (sym at) ∙ e in cc
    by false (Some j) at below e =
        let one : ◌≡◌ {A = Option ℕ} (Some (suc j)) (Some k) = ap (option_map suc) (sym at) ∙ e in
        let next : suc j ≡ k = cc in
        let low = below j at in
        omega arith

split : (b d n : ℕ) (ns : Nestings)
    → first_passing b d ns ≡ and_then (length (take n ns)) (first_passing b d (take n ns)) (first_passing b d (drop n ns))
split b d n ns = ap (first_passing b d) (sym (take-append-drop n ns)) ∙ passing-append b d (take n ns) (drop n ns)

pub passing-take_none : (b d n : ℕ) (ns : Nestings) → first_passing b d ns ≡ None → first_passing b d (take n ns) ≡ None
passing-take_none b d n ns e = by (first_passing b d (take n ns)) refl
  where
    by : (o : Option ℕ) → first_passing b d (take n ns) ≡ o → first_passing b d (take n ns) ≡ None
    by None at = at
    by (Some j) at =
        let both : None ≡ Some j = sym e ∙ split b d n ns
        ∙ ap (λ o. and_then (length (take n ns)) o (first_passing b d (drop n ns))) at in
        cc

pub passing-take_before : (b d n k : ℕ) (ns : Nestings) → n ≤ length ns → first_passing b d ns ≡ Some k → n ≤ k
    → first_passing b d (take n ns) ≡ None
passing-take_before b d n k ns inside e le = by (first_passing b d (take n ns)) refl
  where
    by : (o : Option ℕ) → first_passing b d (take n ns) ≡ o → first_passing b d (take n ns) ≡ None
    by None at = at
    by (Some j) at =
        let both : ◌≡◌ {A = Option ℕ} (Some k) (Some j) = sym e ∙ split b d n ns
        ∙ ap (λ o. and_then (length (take n ns)) o (first_passing b d (drop n ns))) at in
        let same : k ≡ j = cc in
        let low = passing-inside b d (take n ns) j at in
        let size = length-take-le n ns inside in
        absurd (omega arith)

pub passing-take_after : (b d n k : ℕ) (ns : Nestings) → n ≤ length ns → first_passing b d ns ≡ Some k → k < n
    → first_passing b d (take n ns) ≡ Some k
passing-take_after b d n k ns inside e lt = by (first_passing b d (take n ns)) refl
  where
    late : (p : Option ℕ) → first_passing b d (drop n ns) ≡ p → Some k ≡ option_map (λ m. length (take n ns) + m) p → ⊥
    late None at f = cc
    late (Some m) at f =
        let same : k ≡ length (take n ns) + m = cc in
        let size = length-take-le n ns inside in
        omega arith

    by : (o : Option ℕ) → first_passing b d (take n ns) ≡ o → first_passing b d (take n ns) ≡ Some k
    by None at =
        let both : Some k ≡ option_map (λ m. length (take n ns) + m) (first_passing b d (drop n ns)) = sym e ∙ split b d n ns
        ∙ ap (λ o. and_then (length (take n ns)) o (first_passing b d (drop n ns))) at in
        absurd (late (first_passing b d (drop n ns)) refl both)
    by (Some j) at =
        let both : ◌≡◌ {A = Option ℕ} (Some k) (Some j) = sym e ∙ split b d n ns
        ∙ ap (λ o. and_then (length (take n ns)) o (first_passing b d (drop n ns))) at in
        at ∙ sym both
