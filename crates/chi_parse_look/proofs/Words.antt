-- Runs of rules that one token decides.
use Rattle.std.proofs.Common.{◌≡◌, ◌==◌, ℕ, Bool, true, false, ◌||◌, Option, Some, None, List, [], ◌∷◌, map, slice_get, refl, sym, ap, ◌∙◌}
use Rattle.std.proofs.Math.Bool.{or-false}
use Rattle.std.proofs.lemmas.Bool.{eqb-true, false≢true}
use Rattle.std.specs.List.{list_any}
use Rattle.chi_grammar.specs.declared.fault.ParseFault.{ParseFault}
use Rattle.chi_grammar.specs.declared.room.Room.{Room}
use Rattle.chi_grammar.specs.Rules.{leaf}
use Rattle.chi_grammar.specs.Lookahead.{holds, Next, starts_in}
use Rattle.chi_grammar.specs.Reads.{TokenAt}
use Rattle.chi_grammar.specs.RuleRuns.{Done, Fail, RuleRuns}
use Rattle.chi_grammar.specs.RuleRuns as runs
use Rattle.chi_grammar.proofs.Exits.{run_word, run_no_word}
use Rattle.chi_token.specs.declared.place.Spanned.{Spanned}
use Rattle.chi_tree.specs.declared.class.Class.{Class}
use Rattle.chi_tree.specs.Classes.{number_of}
use Rattle.chi_tree.specs.Rules.{grammar, one_of}
use Rattle.chi_tree.specs.Tables.{table}
use Rattle.chi_parse_look.specs.Taking.{OneAt, NoneAt}

pub list_any-map : {X Y : Type 0} (p : Y → Bool) (f : X → Y) (xs : List X) → list_any p (map f xs) ≡ list_any (λ x. p (f x)) xs
list_any-map p f [] = refl
list_any-map p f (x ∷ xs) = ap (λ b. p (f x) || b) (list_any-map p f xs)

pub one_alone : {tokens : List Spanned} {c : Class} {at end : ℕ} {x : Spanned} → OneAt tokens (c ∷ []) at x end → TokenAt grammar tokens (number_of c) at x end
one_alone {c = c} {x = x} t = record {
  stands = t.stands;
  of_class = sym (eqb-true (number_of c) (grammar.class_of x) (sym (or-false (number_of c == grammar.class_of x)) ∙ t.of_classes));
  after = t.after;
  inside = t.inside;
}

none_here : (c : Class) (cs : List Class) (at : ℕ) (o : Option Spanned) → starts_in grammar.class_of (map number_of (c ∷ cs)) o ≡ false
    → (starts_in grammar.class_of (number_of c ∷ []) o ≡ false) × (starts_in grammar.class_of (map number_of cs) o ≡ false)
none_here c cs at None e = (refl, refl)
none_here c cs at (Some x) e = by (number_of c == grammar.class_of x) refl
  where
    by : (b : Bool) → (number_of c == grammar.class_of x) ≡ b
        → (holds (number_of c ∷ []) (grammar.class_of x) ≡ false) × (holds (map number_of cs) (grammar.class_of x) ≡ false)
    by true is = absurd (false≢true (sym e ∙ ap (λ b. b || holds (map number_of cs) (grammar.class_of x)) is))
    by false is = (ap (λ b. b || false) is, sym (ap (λ b. b || holds (map number_of cs) (grammar.class_of x)) is) ∙ e)

module _ {tokens : List Spanned} {room : Room} where
  pub run_one_of : (c : Class) (cs : List Class) {at end : ℕ} {x : Spanned} → OneAt tokens (c ∷ cs) at x end
      → RuleRuns grammar table tokens room (one_of c cs) at (Done (leaf x) end)
  run_one_of c [] t = run_word grammar table tokens (one_alone t)
  run_one_of c (d ∷ ds) {at = at} {end = end} {x = x} t = by (number_of c == grammar.class_of x) refl (run_one_of d ds)
    where
      by : (b : Bool) → (number_of c == grammar.class_of x) ≡ b
          → (OneAt tokens (d ∷ ds) at x end → RuleRuns grammar table tokens room (one_of d ds) at (Done (leaf x) end))
          → RuleRuns grammar table tokens room (one_of c (d ∷ ds)) at (Done (leaf x) end)
      by true e others =
          let here : Next grammar tokens at (number_of c ∷ []) true = ap (λ o. starts_in grammar.class_of (number_of c ∷ []) o) t.stands ∙ ap (λ b. b || false) e in
          let alone : OneAt tokens (c ∷ []) at x end = record { stands = t.stands; of_classes = ap (λ b. b || false) e; after = t.after; inside = t.inside } in
          runs.left here (run_word grammar table tokens (one_alone alone))
      by false e others =
          let here : Next grammar tokens at (number_of c ∷ []) false = ap (λ o. starts_in grammar.class_of (number_of c ∷ []) o) t.stands ∙ ap (λ b. b || false) e in
          let other : OneAt tokens (d ∷ ds) at x end = record {
            stands = t.stands;
            of_classes = sym (ap (λ b. b || holds (map number_of (d ∷ ds)) (grammar.class_of x)) e) ∙ t.of_classes;
            after = t.after;
            inside = t.inside;
          } in
          runs.right here (others other)

  pub run_none_of : (c : Class) (cs : List Class) {at : ℕ} {fault : ParseFault} → NoneAt tokens (c ∷ cs) at fault
      → RuleRuns grammar table tokens room (one_of c cs) at (Fail fault)
  run_none_of c [] h = run_no_word grammar table tokens h
  run_none_of c (d ∷ ds) {at = at} h =
      let apart = none_here c (d ∷ ds) at (slice_get tokens at) h.1 in
      runs.right apart.0 (run_none_of d ds (h.0, apart.1))
