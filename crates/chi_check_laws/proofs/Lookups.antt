-- Private to proofs. Names that are looked up among more names: what was known stays known, and a new name is known after it.
use Rattle.std.proofs.Common.{ℕ, ◌≡◌, Bool, true, false, cond, List, [], ◌∷◌, ◌++◌, take, length, Option, Some, None, refl, sym, ap, ◌∙◌, append_assoc, append-nil}
use Rattle.std.proofs.lemmas.Bool.{or_parts}
use Rattle.std.proofs.lemmas.Slice.Eq.{bytes_eq-Decides}
use Rattle.std.specs.Prelude.{is_some}
use Rattle.std.specs.Str.{bytes_eq}
use Rattle.chi_token.specs.declared.place.Place.{Place}
use Rattle.chi_tree.specs.declared.type_tree.Name.{Name}
use Rattle.chi_check_types.specs.declared.known.Known.{Known}
use Rattle.chi_check_types.specs.declared.rules.TheConstants.{NEW_NAME}
use Rattle.chi_check_types.specs.Names.{Names, known_in}
use Rattle.chi_check_types.specs.Predefined.{is_predefined}
use Rattle.chi_check_types.specs.Typed.{broken_if}
use Rattle.chi_check_expr.proofs.Nodes.{cons_nil}
use Rattle.chi_check.specs.Below.chi_check_stat_lines.specs.States.{is_taken, new_name_rule, with_name}

-- ---- what is known stays known

abbrev pub Extends : Names → Names → Type 0
Extends a b = (name : List ℕ) (k : Known) → known_in a name ≡ Some k → known_in b name ≡ Some k

pub extends_same : (names : Names) → Extends names names
extends_same names name k e = e

pub extends_on : (a b c : Names) → Extends a b → Extends b c → Extends a c
extends_on a b c f g name k e = g name k (f name k e)

either_more : (b : Bool) (found k : Known) (o p : Option Known) → (o ≡ Some k → p ≡ Some k) → cond b (Some found) o ≡ Some k → cond b (Some found) p ≡ Some k
either_more true found k o p h e = e
either_more false found k o p h e = h e

known_more : (names : Names) (text : List ℕ) (new : Known) → Extends names (names ++ (text, new) ∷ [])
known_more [] text new name k e = absurd (cc)
known_more (entry ∷ names) text new name k e = either_more (bytes_eq name entry.0) entry.1 k (known_in names name) (known_in (names ++ (text, new) ∷ []) name) (known_more names text new name k) e

either_extends : (b : Bool) (names : Names) (text : List ℕ) (new : Known) → Extends names (cond b names (names ++ (text, new) ∷ []))
either_extends true names text new = extends_same names
either_extends false names text new = known_more names text new

pub extends_with : (names : Names) (text : List ℕ) (k : Known) → Extends names (with_name names text k)
extends_with names text k = either_extends (is_taken names text) names text k

-- ---- a new name

same_text : (text : List ℕ) → bytes_eq text text ≡ true
same_text text = (bytes_eq-Decides text text).1 refl

none_known : (o : Option Known) → is_some o ≡ false → o ≡ None
none_known None e = refl
none_known (Some k) e = absurd (cc)

either_new : (b : Bool) (found k : Known) (o p : Option Known) → (o ≡ None → p ≡ Some k) → cond b (Some found) o ≡ None → cond b (Some found) p ≡ Some k
either_new true found k o p h e = absurd (cc)
either_new false found k o p h e = h e

known_new : (names : Names) (text : List ℕ) (k : Known) → known_in names text ≡ None → known_in (names ++ (text, k) ∷ []) text ≡ Some k
known_new [] text k e = ap (λ b. cond {A = Option Known} b (Some k) None) (same_text text)
known_new (entry ∷ names) text k e = either_new (bytes_eq text entry.0) entry.1 k (known_in names text) (known_in (names ++ (text, k) ∷ []) text) (known_new names text k) e

by_taken : (b : Bool) (rule : ℕ) (place : Place) (names : Names) (text : List ℕ) (k : Known) → (b ≡ false → known_in names text ≡ None) → broken_if b rule place ≡ [] → known_in (cond b names (names ++ (text, k) ∷ [])) text ≡ Some k
by_taken true rule place names text k h e = absurd (cons_nil _ _ e)
by_taken false rule place names text k h e = known_new names text k (h refl)

-- a name that may be new is known afterwards
pub fresh_known : (names : Names) (name : Name) (k : Known) → new_name_rule names name ≡ [] → known_in (with_name names name.text k) name.text ≡ Some k
fresh_known names name k e =
    by_taken (is_taken names name.text) NEW_NAME name.place names name.text k (λ free. none_known (known_in names name.text) (or_parts (is_predefined name.text) (is_some (known_in names name.text)) free).1) e

-- ---- names are put at the end

abbrev pub Continues : Names → Names → Type 0
Continues names longer = (more : Names) × (longer ≡ names ++ more)

pub continues_same : (names : Names) → Continues names names
continues_same names = ([], sym (append-nil names))

pub continues_on : (a b c : Names) → Continues a b → Continues b c → Continues a c
continues_on a b c f g = (f.0 ++ g.0, g.1 ∙ ap (λ b. b ++ g.0) f.1 ∙ append_assoc a f.0 g.0)

either_continues : (b : Bool) (names : Names) (text : List ℕ) (k : Known) → Continues names (cond b names (names ++ (text, k) ∷ []))
either_continues true names text k = continues_same names
either_continues false names text k = ((text, k) ∷ [], refl)

pub continues_with : (names : Names) (text : List ℕ) (k : Known) → Continues names (with_name names text k)
continues_with names text k = either_continues (is_taken names text) names text k

take_first : (names more : Names) → take (length names) (names ++ more) ≡ names
take_first [] more = refl
take_first (entry ∷ names) more = ap (λ rest. entry ∷ rest) (take_first names more)

pub first_again : (names longer : Names) → Continues names longer → take (length names) longer ≡ names
first_again names longer c = ap (take (length names)) c.1 ∙ take_first names c.0
