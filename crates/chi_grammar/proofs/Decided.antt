-- What the test of a grammar says, fact by fact.
use Rattle.std.proofs.Common.{◌≡◌, true, false, ◌++◌}
use Rattle.std.proofs.lemmas.Bool.{and_parts, not-true}
use Rattle.chi_grammar.specs.Rules.{Rule, word, part, ◌▸◌, ◌∣◌, maybe, many, deeper, when, Grammar}
use Rattle.chi_grammar.specs.Lookahead.{Table, may_be_empty, first, going_on}
use Rattle.chi_grammar.specs.Fine.{are_apart, are_among, is_decided, is_below, Fine}

-- one token decides the rule
abbrev pub Decided : {A S : Type 0} → Table S → Rule A S → Type 0
Decided table (word class) = Unit {0}
Decided table (part s) = Unit {0}
Decided table (a ▸ b) = Decided table a × Decided table b × (are_apart (going_on table a) (first table b) ≡ true)
Decided table (a ∣ b) =
    Decided table a × Decided table b × (may_be_empty a ≡ false) × (may_be_empty b ≡ false)
    × (are_apart (first table a) (first table b) ≡ true)
Decided table (maybe a) = Decided table a × (may_be_empty a ≡ false)
Decided table (many a) = Decided table a × (may_be_empty a ≡ false) × (are_apart (going_on table a) (first table a) ≡ true)
Decided table (deeper nesting a) = Decided table a × (may_be_empty a ≡ false)
Decided table (when a test b c) =
    Decided table a × Decided table b × Decided table c × (may_be_empty a ≡ false)
    × (are_apart (going_on table a) (first table b ++ first table c) ≡ true)

pub decided : {A S : Type 0} (table : Table S) (r : Rule A S) → is_decided table r ≡ true → Decided table r
decided table (word class) h = tt
decided table (part s) h = tt
decided table (a ▸ b) h =
    let p = and_parts _ _ h in
    let q = and_parts _ _ p.0 in
    (decided table a q.0, decided table b q.1, p.1)
decided table (a ∣ b) h =
    let p = and_parts _ _ h in
    let q = and_parts _ _ p.0 in
    let e = and_parts _ _ q.0 in
    let f = and_parts _ _ e.0 in
    (decided table a f.0, decided table b f.1, not-true (may_be_empty a) e.1, not-true (may_be_empty b) q.1, p.1)
decided table (maybe a) h =
    let p = and_parts _ _ h in
    (decided table a p.0, not-true (may_be_empty a) p.1)
decided table (many a) h =
    let p = and_parts _ _ h in
    let q = and_parts _ _ p.0 in
    (decided table a q.0, not-true (may_be_empty a) q.1, p.1)
decided table (deeper nesting a) h =
    let p = and_parts _ _ h in
    (decided table a p.0, not-true (may_be_empty a) p.1)
decided table (when a test b c) h =
    let p = and_parts _ _ h in
    let q = and_parts _ _ p.0 in
    let e = and_parts _ _ q.0 in
    let f = and_parts _ _ e.0 in
    (decided table a f.0, decided table b f.1, decided table c e.1, not-true (may_be_empty a) q.1, p.1)

-- what is fine of a part
pub record FinePart {A S : Type 0} (g : Grammar A S) (table : Table S) (s : S) : Type 0 where
  pub decides : Decided table (g.rule_of s)
  pub some : may_be_empty (g.rule_of s) ≡ false
  pub below : is_below table (table.rank s) (g.rule_of s) ≡ true
  pub begins : are_among (first table (g.rule_of s)) (table.begins s) ≡ true
  pub begins_only : are_among (table.begins s) (first table (g.rule_of s)) ≡ true
  pub goes_on : are_among (going_on table (g.rule_of s)) (table.goes_on s) ≡ true

pub fine_part : {A S : Type 0} (g : Grammar A S) (table : Table S) → Fine g table → (s : S) → FinePart g table s
fine_part g table fine s =
    let p = and_parts _ _ (fine s) in
    let q = and_parts _ _ p.0 in
    let e = and_parts _ _ q.0 in
    let f = and_parts _ _ e.0 in
    let h = and_parts _ _ f.0 in
    record {
      decides = decided table (g.rule_of s) h.0;
      some = not-true (may_be_empty (g.rule_of s)) h.1;
      below = f.1;
      begins = e.1;
      begins_only = q.1;
      goes_on = p.1;
    }
