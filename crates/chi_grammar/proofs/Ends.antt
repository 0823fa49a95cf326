-- Reading by a rule always ends: a token that is taken leaves fewer, and where none is taken the rank falls.
use Rattle.std.proofs.Common.{◌≡◌, ℕ, zero, suc, ◌+◌, ◌<◌, ◌≤◌, Bool, true, false, Option, Some, None, List, [], ◌∷◌, length, ◌⊎◌, inl, inr, slice_get, refl, ap, subst, ◌∙◌, arith}
use Rattle.std.proofs.lemmas.Bool.{cases_lt, cases_Bool, and_parts, ltb-true}
use Rattle.std.specs.Prelude.{if◌then◌else◌}
use Rattle.chi_grammar.specs.declared.fault.ParseFault.{ParseFault}
use Rattle.chi_grammar.specs.declared.fault.ParseFault.TheVariants.{Syntax, TooDeep, NoMemory}
use Rattle.chi_grammar.specs.declared.room.Nesting.{Nesting}
use Rattle.chi_grammar.specs.declared.room.Nesting.TheVariants.{Block, Expression}
use Rattle.chi_grammar.specs.declared.room.Room.{Room}
use Rattle.chi_grammar.specs.Rooms.{IsInside, IsFull}
use Rattle.chi_grammar.specs.Rules.{Tree, leaf, node, pair, none, spelling, Rule, ◌▸◌, ◌∣◌, maybe, many, when, Grammar}
use Rattle.chi_grammar.specs.Rules as rule
use Rattle.chi_grammar.specs.Lookahead.{Table, Next, may_be_empty, first, starts_in}
use Rattle.chi_grammar.specs.Fine.{Fine, is_below}
use Rattle.chi_grammar.specs.RuleRuns.{Outcome, Done, Fail, RuleRuns}
use Rattle.chi_grammar.specs.RuleRuns as runs
use Rattle.chi_grammar.proofs.At.{At-ordered, At-inside, At-none}
use Rattle.chi_grammar.proofs.Classes.{of_one}
use Rattle.chi_grammar.proofs.Decided.{Decided, fine_part}
use Rattle.chi_grammar.proofs.Starts.{no_tokens, takes}
use Rattle.chi_grammar.proofs.Means.{Longest}
use Rattle.chi_grammar.proofs.Answers.{means}

-- a fault of the tokens, and not of memory
abbrev pub OfTokens : ParseFault → Type 0
OfTokens (Syntax k) = Unit {0}
OfTokens (TooDeep k) = Unit {0}
OfTokens NoMemory = ⊥

-- something holds of each part with which the rule may begin
abbrev pub BeginsIn : {A S : Type 0} → (S → Type 0) → Rule A S → Type 0
BeginsIn P (rule.word class) = Unit {0}
BeginsIn P (rule.part s) = P s
BeginsIn P (a ▸ b) = BeginsIn P a × (may_be_empty a ≡ true → BeginsIn P b)
BeginsIn P (a ∣ b) = BeginsIn P a × BeginsIn P b
BeginsIn P (maybe a) = BeginsIn P a
BeginsIn P (many a) = BeginsIn P a
BeginsIn P (rule.deeper nesting a) = BeginsIn P a
BeginsIn P (when a test b c) = BeginsIn P a

abbrev pub Anything : {S : Type 0} → S → Type 0
Anything s = Unit {0}

begins_anyhow : {A S : Type 0} (r : Rule A S) → BeginsIn Anything r
begins_anyhow (rule.word class) = tt
begins_anyhow (rule.part s) = tt
begins_anyhow (a ▸ b) = (begins_anyhow a, λ e. begins_anyhow b)
begins_anyhow (a ∣ b) = (begins_anyhow a, begins_anyhow b)
begins_anyhow (maybe a) = begins_anyhow a
begins_anyhow (many a) = begins_anyhow a
begins_anyhow (rule.deeper nesting a) = begins_anyhow a
begins_anyhow (when a test b c) = begins_anyhow a

if_true : (b x : Bool) → (if b then x else true) ≡ true → b ≡ true → x ≡ true
if_true true x e h = e
if_true false x e h = cc

begins_below : {A S : Type 0} (table : Table S) (rank : ℕ) (r : Rule A S) → is_below table rank r ≡ true → BeginsIn (λ s. table.rank s < rank) r
begins_below table rank (rule.word class) h = tt
begins_below table rank (rule.part s) h = ltb-true _ _ h
begins_below table rank (a ▸ b) h =
    let p = and_parts _ _ h in
    (begins_below table rank a p.0, λ e. begins_below table rank b (if_true (may_be_empty a) (is_below table rank b) p.1 e))
begins_below table rank (a ∣ b) h = let p = and_parts _ _ h in (begins_below table rank a p.0, begins_below table rank b p.1)
begins_below table rank (maybe a) h = begins_below table rank a h
begins_below table rank (many a) h = begins_below table rank a h
begins_below table rank (rule.deeper nesting a) h = begins_below table rank a h
begins_below table rank (when a test b c) h = begins_below table rank a h

level : (nesting : Nesting) (room : Room) → ((inner : Room) × IsInside nesting room inner) ⊎ IsFull nesting room
level Block room = by room.blocks refl
  where
    by : (n : ℕ) → room.blocks ≡ n → ((inner : Room) × IsInside Block room inner) ⊎ IsFull Block room
    by zero e = inr e
    by (suc n) e = inl (record { blocks = n; expressions = room.expressions }, (e, refl))
level Expression room = by room.expressions refl
  where
    by : (n : ℕ) → room.expressions ≡ n → ((inner : Room) × IsInside Expression room inner) ⊎ IsFull Expression room
    by zero e = inr e
    by (suc n) e = inl (record { blocks = room.blocks; expressions = n }, (refl, e))

module _ {A S : Type 0} (g : Grammar A S) (table : Table S) (fine : Fine g table) (ts : List A) where
  -- reading by a rule ends there with a tree, or with a fault that isn't memory's
  pub data Ends (room : Room) (r : Rule A S) (i : ℕ) : Type 0 where
    done : (t : Tree A S) (j : ℕ) → RuleRuns g table ts room r i (Done t j) → Ends room r i
    fails : (fault : ParseFault) → OfTokens fault → RuleRuns g table ts room r i (Fail fault) → Ends room r i

  -- reading by any rule ends, from a later index on
  abbrev Later : ℕ → Type 0
  Later i = (j : ℕ) → i < j → j ≤ length ts → (room : Room) (r : Rule A S) → Decided table r → Ends room r j

  -- reading a part of which something holds ends, from this index on
  abbrev Here : (S → Type 0) → ℕ → Type 0
  Here P i = (room : Room) (s : S) → P s → Ends room (rule.part s) i

  run_longest : {room : Room} {r : Rule A S} {i j : ℕ} {t : Tree A S} → Decided table r → RuleRuns g table ts room r i (Done t j) → Longest g ts room r i t j
  run_longest d run = means g table fine ts d run

  run_moves : {room : Room} {r : Rule A S} {i j : ℕ} {t : Tree A S} → Decided table r → may_be_empty r ≡ false
      → RuleRuns g table ts room r i (Done t j) → i < j
  run_moves d some run = let l = run_longest d run in takes g table fine ts d some l.is l.at

  -- where no token is taken, the rule may be empty
  run_stays : {room : Room} {r : Rule A S} {i j : ℕ} {t : Tree A S} → Decided table r → RuleRuns g table ts room r i (Done t j) → i ≡ j
      → may_be_empty r ≡ true
  run_stays d run same = let l = run_longest d run in no_tokens g table fine d l.is (At-none l.at same)

  word_ends : (room : Room) (class i : ℕ) → Ends room (rule.word class) i
  word_ends room class i = by (slice_get ts i) refl
    where
      by : (o : Option A) → slice_get ts i ≡ o → Ends room (rule.word class) i
      by None e = fails (Syntax i) tt (runs.no_word (ap (starts_in g.class_of (class ∷ [])) e))
      by (Some x) e =
          elim (cases_Bool (starts_in g.class_of (class ∷ []) (Some x))) [
            | inl it ↦ done (leaf x) (suc i) (runs.word e (of_one g.class_of class x it))
            | inr other ↦ fails (Syntax i) tt (runs.no_word (ap (starts_in g.class_of (class ∷ [])) e ∙ other))
          ]

  run_inside : {room : Room} {r : Rule A S} {i j : ℕ} {t : Tree A S} → Decided table r → RuleRuns g table ts room r i (Done t j) → i ≤ length ts
      → j ≤ length ts
  run_inside d run inside = let l = run_longest d run in At-inside l.at inside

  module _ (P : S → Type 0) (i : ℕ) (inside : i ≤ length ts) (later : Later i) (here : Here P i) where
    then_ends : (room : Room) (a b : Rule A S) → Decided table (a ▸ b) → Ends room a i → (may_be_empty a ≡ true → Ends room b i)
        → Ends room (a ▸ b) i
    then_ends room a b d (fails fault told run) after = fails fault told (runs.first_fails run)
    then_ends room a b d (done t j run) after = next (by (cases_lt i j))
      where
        by : (i < j) ⊎ (j ≤ i) → Ends room b j
        by (inl lt) = later j lt (run_inside d.0 run inside) room b d.1
        by (inr le) =
            let l = run_longest d.0 run in
            let ge = At-ordered l.at in
            let same : i ≡ j = omega arith in
            subst (λ n. Ends room b n) same (after (run_stays d.0 run same))

        next : Ends room b j → Ends room (a ▸ b) i
        next (fails fault told rest) = fails fault told (runs.next_fails run rest)
        next (done u k rest) = done (pair t u) k (runs.both run rest)

    many_ends : (room : Room) (a : Rule A S) → Decided table (many a) → Next g ts i (first table a) true → Ends room a i → Ends room (many a) i
    many_ends room a d begins (fails fault told run) = fails fault told (runs.item_fails begins run)
    many_ends room a d begins (done t j run) = next (later j (run_moves d.0 d.1 run) (run_inside d.0 run inside) room (many a) d)
      where
        next : Ends room (many a) j → Ends room (many a) i
        next (fails fault told rest) = fails fault told (runs.rest_fails begins run rest)
        next (done u k rest) = done (pair t u) k (runs.more begins run rest)

    when_ends : (room : Room) (a b c : Rule A S) (test : Tree A S → Bool) → Decided table (when a test b c) → Ends room a i
        → Ends room (when a test b c) i
    when_ends room a b c test d (fails fault told run) = fails fault told (runs.test_fails run)
    when_ends room a b c test d (done t j run) = by (cases_Bool (test t))
      where
        chosen : test t ≡ true → Ends room b j → Ends room (when a test b c) i
        chosen e (fails fault told rest) = fails fault told (runs.chosen_fails run e rest)
        chosen e (done u k rest) = done (pair t u) k (runs.chosen run e rest)

        otherwise : test t ≡ false → Ends room c j → Ends room (when a test b c) i
        otherwise e (fails fault told rest) = fails fault told (runs.otherwise_fails run e rest)
        otherwise e (done u k rest) = done (pair t u) k (runs.otherwise run e rest)

        by : (test t ≡ true) ⊎ (test t ≡ false) → Ends room (when a test b c) i
        by (inl e) = chosen e (later j (run_moves d.0 d.3 run) (run_inside d.0 run inside) room b d.1)
        by (inr e) = otherwise e (later j (run_moves d.0 d.3 run) (run_inside d.0 run inside) room c d.2)

    -- an end that is passed on
    passed : {room inner : Room} {r a : Rule A S} → ((o : Outcome A S) → RuleRuns g table ts inner a i o → RuleRuns g table ts room r i o)
        → Ends inner a i → Ends room r i
    passed through (fails fault told run) = fails fault told (through (Fail fault) run)
    passed through (done t j run) = done t j (through (Done t j) run)

    rule_ends : (room : Room) (r : Rule A S) → Decided table r → BeginsIn P r → Ends room r i
    rule_ends room (rule.word class) d p = word_ends room class i
    rule_ends room (rule.part s) d p = here room s p
    rule_ends room (a ▸ b) d p = then_ends room a b d (rule_ends room a d.0 p.0) (λ e. rule_ends room b d.1 (p.1 e))
    rule_ends room (a ∣ b) d p =
        elim (cases_Bool (starts_in g.class_of (first table a) (slice_get ts i))) [
          | inl it ↦ passed (λ o run. runs.left it run) (rule_ends room a d.0 p.0)
          | inr other ↦ passed (λ o run. runs.right other run) (rule_ends room b d.1 p.1)
        ]
    rule_ends room (maybe a) d p =
        elim (cases_Bool (starts_in g.class_of (first table a) (slice_get ts i))) [
          | inl it ↦ passed (λ o run. runs.once it run) (rule_ends room a d.0 p)
          | inr other ↦ done none i (runs.never other)
        ]
    rule_ends room (many a) d p =
        elim (cases_Bool (starts_in g.class_of (first table a) (slice_get ts i))) [
          | inl it ↦ many_ends room a d it (rule_ends room a d.0 p)
          | inr other ↦ done none i (runs.enough other)
        ]
    rule_ends room (rule.deeper nesting a) d p =
        elim (level nesting room) [
          | inl in_it ↦ passed (λ o run. runs.deeper in_it.1 run) (rule_ends in_it.0 a d.0 p)
          | inr full ↦
              elim (cases_Bool (starts_in g.class_of (first table a) (slice_get ts i))) [
                | inl it ↦ fails (TooDeep i) tt (runs.too_deep full it)
                | inr other ↦ fails (Syntax i) tt (runs.not_deeper full other)
              ]
        ]
    rule_ends room (when a test b c) d p = when_ends room a b c test d (rule_ends room a d.0 p)

  part_ends : (i : ℕ) → i ≤ length ts → Later i → (rank : ℕ) → Here (λ s. table.rank s < rank) i
  part_ends i inside later zero room s low = absurd (omega arith)
  part_ends i inside later (suc rank) room s low =
      let f = fine_part g table fine s in
      let inner : Here (λ q. table.rank q < table.rank s) i = λ other q lower. part_ends i inside later rank other q (omega arith) in
      of_rule
      (rule_ends (λ q. table.rank q < table.rank s) i inside later inner room (g.rule_of s) f.decides
      (begins_below table (table.rank s) (g.rule_of s) f.below))
    where
      of_rule : Ends room (g.rule_of s) i → Ends room (rule.part s) i
      of_rule (fails fault told run) = fails fault told (runs.part_fails run)
      of_rule (done t j run) = done (node s t) j (runs.part run)

  here_ends : (i : ℕ) → i ≤ length ts → Later i → (room : Room) (r : Rule A S) → Decided table r → Ends room r i
  here_ends i inside later room r d =
      rule_ends Anything i inside later (λ other s p. part_ends i inside later (suc (table.rank s)) other s (omega arith)) room r d (begins_anyhow r)

  left_ends : (left i : ℕ) → length ts ≤ i + left → i ≤ length ts → (room : Room) (r : Rule A S) → Decided table r → Ends room r i
  left_ends zero i few inside room r d = here_ends i inside (λ j lt le other q e. absurd (omega arith)) room r d
  left_ends (suc left) i few inside room r d = here_ends i inside (λ j lt le other q e. left_ends left j (omega arith) le other q e) room r d

  pub ends : (room : Room) (r : Rule A S) (i : ℕ) → Decided table r → i ≤ length ts → Ends room r i
  ends room r i d inside = left_ends (length ts) i (omega arith) inside room r d
