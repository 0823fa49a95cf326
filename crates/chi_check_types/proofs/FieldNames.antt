-- Private to proofs. The names of fields, one by one.
use Rattle.std.proofs.Common.{◌≡◌, ℕ, zero, suc, ◌+◌, ◌<◌, ◌≤◌, Bool, true, false, cond, ◌||◌, ◌&&◌, bytes_eq, length, get_or, drop, drop-cons, add-one, List, [], ◌∷◌, ◌++◌, map, Option, Some, None, refl, sym, ap, ◌∙◌, arith}
use Rattle.std.specs.Prelude.{is_some}
use Rattle.chi_tree.specs.declared.type_tree.Name.{Name}
use Rattle.chi_tree.specs.declared.type_tree.Formal.{Formal}
use Rattle.chi_check_types.specs.declared.fault.Fault.{Fault}
use Rattle.chi_check_types.specs.declared.rules.TheConstants.{FIELD_NAMES}
use Rattle.chi_check_types.specs.Faults.{fault, first_of, are_none}
use Rattle.chi_check_types.specs.Names.{looked_up, is_among}
use Rattle.chi_check_types.specs.TypeRules.{names_rule}

-- the names of a table of names alone
abbrev pub names_in : List (List ℕ × Unit {0}) → List (List ℕ)
names_in = map (λ e. e.0)

abbrev pub names_of : List Formal → List Name
names_of = map (λ f. f.name)

found_or : (b : Bool) (x : Option (Unit {0})) (rest : Bool) → is_some x ≡ rest → is_some (cond b (Some tt) x) ≡ (b || rest)
found_or true x rest h = refl
found_or false x rest h = h

among : (name : List ℕ) (entries : List (List ℕ × Unit {0})) → is_some (looked_up entries name) ≡ is_among name (names_in entries)
among name [] = refl
among name (e ∷ es) = found_or (bytes_eq name e.0) (looked_up es name) (is_among name (names_in es)) (among name es)

names_append : (es : List (List ℕ × Unit {0})) (e : List ℕ × Unit {0}) → names_in (es ++ e ∷ []) ≡ names_in es ++ e.0 ∷ []
names_append [] e = refl
names_append (x ∷ xs) e = ap (λ r. x.0 ∷ r) (names_append xs e)

at : (fs : List Formal) (i : ℕ) (f : Formal) → i < length fs → f ≡ get_or fs i f → drop i fs ≡ f ∷ drop (i + 1) fs
at fs i f h e = drop-cons fs i f h ∙ (λ j. sym e j ∷ drop (sym (add-one i) j) fs)

split : (b c : Bool) (f : Fault) (xs ys : List Fault) → b ≡ c → cond b (f ∷ xs) ys ≡ cond c (f ∷ xs) ys
split b c f xs ys e = ap (λ b. cond b (f ∷ xs) ys) e

-- the field's name stands before it
pub named_again : (es : List (List ℕ × Unit {0})) (fs : List Formal) (i : ℕ) (f : Formal) → i < length fs → f ≡ get_or fs i f → is_some (looked_up es f.name.text) ≡ true
    → names_rule (names_in es) (names_of (drop i fs)) ≡ fault FIELD_NAMES f.name.place ∷ names_rule (names_in es) (names_of (drop (i + 1) fs))
named_again es fs i f h e known = ap (λ rest. names_rule (names_in es) (names_of rest)) (at fs i f h e)
    ∙ split _ true (fault FIELD_NAMES f.name.place) _ _ (sym (among f.name.text es) ∙ known)

-- the field's name is new
pub named_anew : (es more : List (List ℕ × Unit {0})) (fs : List Formal) (i : ℕ) (f : Formal) → i < length fs → f ≡ get_or fs i f → is_some (looked_up es f.name.text) ≡ false
    → more ≡ es ++ (f.name.text, tt) ∷ []
    → names_rule (names_in es) (names_of (drop i fs)) ≡ names_rule (names_in more) (names_of (drop (i + 1) fs))
named_anew es more fs i f h e known grown = ap (λ rest. names_rule (names_in es) (names_of rest)) (at fs i f h e)
    ∙ split _ false (fault FIELD_NAMES f.name.place) _ _ (sym (among f.name.text es) ∙ known)
    ∙ ap (λ names. names_rule names (names_of (drop (i + 1) fs))) (sym (ap names_in grown ∙ names_append es (f.name.text, tt)))

pub names_end : (before : List (List ℕ)) (fs : List Formal) (i : ℕ) → length fs ≤ i → names_rule before (names_of (drop i fs)) ≡ []
names_end before [] zero h = refl
names_end before [] (suc i) h = refl
names_end before (f ∷ fs) zero h = absurd (omega arith)
names_end before (f ∷ fs) (suc i) h = names_end before fs i (omega arith)

pub held_again : (holds : Bool) (all rest : List Fault) (f : Fault) → all ≡ f ∷ rest → (holds && are_none all) ≡ false
held_again true all rest f e = ap are_none e
held_again false all rest f e = refl
