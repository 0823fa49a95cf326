-- Private to proofs. A fact about what is known of each visible name.
use Rattle.std.proofs.Common.{ℕ, zero, suc, ◌≡◌, Bool, true, false, cond, List, [], ◌∷◌, ◌++◌, take, Option, Some, subst}
use Rattle.std.specs.Str.{bytes_eq}
use Rattle.chi_check_types.specs.declared.known.Known.{Known}
use Rattle.chi_check_types.specs.Names.{Names, known_in}
use Rattle.chi_check.specs.Below.chi_check_stat_lines.specs.States.{is_taken, with_name}

module _ (P : Known → Type 0) where
  abbrev pub Entries : Names → Type 0
  Entries [] = Unit {0}
  Entries (entry ∷ names) = P entry.1 × Entries names

  either_known : (b : Bool) (k : Known) (o : Option Known) (found : Known) → P k → ((k : Known) → o ≡ Some k → P k) → cond b (Some k) o ≡ Some found → P found
  either_known true k o found p h e =
      let same : k ≡ found = cc in
      subst P same p
  either_known false k o found p h e = h found e

  pub known_entry : (names : Names) (name : List ℕ) (k : Known) → Entries names → known_in names name ≡ Some k → P k
  known_entry [] name k h e = absurd (cc)
  known_entry (entry ∷ names) name k h e = either_known (bytes_eq name entry.0) entry.1 (known_in names name) k h.0 (λ k. known_entry names name k h.1) e

  pub one_more : (names : Names) (name : List ℕ) (k : Known) → Entries names → P k → Entries (names ++ (name, k) ∷ [])
  one_more [] name k h p = (p, tt)
  one_more (entry ∷ names) name k h p = (h.0, one_more names name k h.1 p)

  either_name : (b : Bool) (names : Names) (name : List ℕ) (k : Known) → Entries names → P k → Entries (cond b names (names ++ (name, k) ∷ []))
  either_name true names name k h p = h
  either_name false names name k h p = one_more names name k h p

  pub entries_with : (names : Names) (name : List ℕ) (k : Known) → Entries names → P k → Entries (with_name names name k)
  entries_with names name k h p = either_name (is_taken names name) names name k h p

  pub first_entries : (count : ℕ) (names : Names) → Entries names → Entries (take count names)
  first_entries zero names h = tt
  first_entries (suc count) [] h = tt
  first_entries (suc count) (entry ∷ names) h = (h.0, first_entries count names h.1)

-- two facts
module _ (P Q : Known → Type 0) where
  pub entries_both : (names : Names) → Entries P names → Entries Q names → Entries (λ k. P k × Q k) names
  entries_both [] h k = tt
  entries_both (entry ∷ names) h k = ((h.0, k.0), entries_both names h.1 k.1)

-- what follows of a fact
module _ (P Q : Known → Type 0) (f : (k : Known) → P k → Q k) where
  pub entries_so : (names : Names) → Entries P names → Entries Q names
  entries_so [] h = tt
  entries_so (entry ∷ names) h = (f entry.1 h.0, entries_so names h.1)
