-- How a tree of a rule is read with another room than it was built in: it is read whole, or the first token that passes the
-- room is too deep.
use Rattle.std.proofs.Common.{◌≡◌, ℕ, zero, suc, ◌+◌, ◌<◌, Bool, true, false, ◌||◌, if◌then◌else◌, Option, Some, None, List, [], ◌∷◌, ◌++◌, map, length, ◌⊎◌, inl, inr, slice_get, refl, ap, sym, subst, ◌∙◌, arith}
use Rattle.std.specs.Option.{option_map}
use Rattle.std.proofs.lemmas.Bool.{cases_lt}
use Rattle.std.proofs.lemmas.Option.{slice_get_past}
use Rattle.chi_grammar.specs.declared.fault.ParseFault.TheVariants.{TooDeep}
use Rattle.chi_grammar.specs.declared.room.Nesting.{Nesting}
use Rattle.chi_grammar.specs.declared.room.Nesting.TheVariants.{Block, Expression}
use Rattle.chi_grammar.specs.declared.room.Room.{Room}
use Rattle.chi_grammar.specs.Rooms.{IsInside, IsFull}
use Rattle.chi_grammar.specs.Rules.{Tree, node, pair, spelling, Rule, ◌▸◌, ◌∣◌, maybe, many, when, Grammar}
use Rattle.chi_grammar.specs.Rules as rule
use Rattle.chi_grammar.specs.Trees.{Is}
use Rattle.chi_grammar.specs.Trees as is
use Rattle.chi_grammar.specs.Lookahead.{Table, Next, starts_in, may_be_empty, first, going_on}
use Rattle.chi_grammar.specs.Fine.{Fine, are_apart}
use Rattle.chi_grammar.specs.RuleRuns.{Done, Fail, RuleRuns}
use Rattle.chi_grammar.specs.RuleRuns as runs
use Rattle.chi_grammar.proofs.At.{At, here, on, At-ordered, At-split, At-none}
use Rattle.chi_grammar.proofs.Classes.{In, in_apart, in_among, in_left, in_right, in_either, in_second}
use Rattle.chi_grammar.proofs.Decided.{Decided, fine_part}
use Rattle.chi_grammar.proofs.Starts.{no_tokens, takes, tree_starts}
use Rattle.chi_tree_laws.specs.Nestings.{Nestings, first_passing}
use Rattle.chi_tree_laws.proofs.Depths.{one_in, depths, depths-length, and_then, passing-append, inside-passing, full_passes, one_passes}

At-length : {A : Type 0} {ts : List A} {i j : ℕ} {xs : List A} → At ts i xs j → i + length xs ≡ j
At-length here = omega arith
At-length (on e h) = let rest = At-length h in omega arith

false_from : (b : Bool) → (b ≡ true → ⊥) → b ≡ false
false_from true h = absurd (h refl)
false_from false h = refl

-- the room inside, or no level is left
level : (nesting : Nesting) (room : Room) → ((inner : Room) × IsInside nesting room inner) ⊎ IsFull nesting room
level Block room = by room.blocks refl
  where
    by : (n : ℕ) → room.blocks ≡ n → ((inner : Room) × IsInside Block room inner) ⊎ IsFull Block room
    by zero e = inr e
    by (suc n) e = inl (record { blocks = n; expressions = room.expressions }, (e, refl))
level Expression room = by room.expressions refl
  where
    by : (n : ℕ) → room.expressions ≡ n → ((inner : Room) × IsInside Expression room inner) ⊎ IsFull Expression room
    by zero e = inr e
    by (suc n) e = inl (record { blocks = room.blocks; expressions = n }, (refl, e))

full-passing : (nesting : Nesting) (room : Room) → IsFull nesting room → (ns : Nestings) → 0 < length ns
    → first_passing room.blocks room.expressions (map (one_in nesting) ns) ≡ Some 0
full-passing nesting room full [] some = absurd (omega arith)
full-passing nesting room full (n ∷ ns) some =
    ap (λ b. if b then Some 0 else option_map suc (first_passing room.blocks room.expressions (map (one_in nesting) ns)))
    (full_passes nesting room full n)

module _ {A S : Type 0} (g : Grammar A S) (table : Table S) (fine : Fine g table) (ts : List A) where
  -- reading with the room ends with the tree, or with the token, counted from index i, that is too deep
  abbrev pub Ended : Room → Rule A S → ℕ → Tree A S → ℕ → Option ℕ → Type 0
  Ended room r i t j None = RuleRuns g table ts room r i (Done t j)
  Ended room r i t j (Some k) = RuleRuns g table ts room r i (Fail (TooDeep (i + k)))

  -- the tree doesn't go on at the index
  abbrev Halts : Rule A S → ℕ → Type 0
  Halts r j = In g ts j (going_on table r) → ⊥

  not_in : (i : ℕ) (classes : List ℕ) → (In g ts i classes → ⊥) → Next g ts i classes false
  not_in i classes h = false_from (starts_in g.class_of classes (slice_get ts i)) h

  part_ended : (room : Room) (s : S) (i j : ℕ) (t : Tree A S) (o : Option ℕ) → Ended room (g.rule_of s) i t j o
      → Ended room (rule.part s) i (node s t) j o
  part_ended room s i j t None x = runs.part x
  part_ended room s i j t (Some k) x = runs.part_fails x

  later : (room : Room) (r : Rule A S) (i n m k : ℕ) → i + n ≡ m → RuleRuns g table ts room r i (Fail (TooDeep (m + k)))
      → RuleRuns g table ts room r i (Fail (TooDeep (i + (n + k))))
  later room r i n m k e x =
      let same : m + k ≡ i + (n + k) = omega arith in subst (λ l. RuleRuns g table ts room r i (Fail (TooDeep l))) same x

  both_ended : (room : Room) (a b : Rule A S) (i n m j : ℕ) (t u : Tree A S) (o p : Option ℕ) → i + n ≡ m
      → Ended room a i t m o → Ended room b m u j p → Ended room (a ▸ b) i (pair t u) j (and_then n o p)
  both_ended room a b i n m j t u (Some k) p e x y = runs.first_fails x
  both_ended room a b i n m j t u None (Some k) e x y = later room (a ▸ b) i n m k e (runs.next_fails x y)
  both_ended room a b i n m j t u None None e x y = runs.both x y

  left_ended : (room : Room) (a b : Rule A S) (i j : ℕ) (t : Tree A S) (o : Option ℕ) → In g ts i (first table a)
      → Ended room a i t j o → Ended room (a ∣ b) i t j o
  left_ended room a b i j t None h x = runs.left h x
  left_ended room a b i j t (Some k) h x = runs.left h x

  right_ended : (room : Room) (a b : Rule A S) (i j : ℕ) (t : Tree A S) (o : Option ℕ) → Next g ts i (first table a) false
      → Ended room b i t j o → Ended room (a ∣ b) i t j o
  right_ended room a b i j t None h x = runs.right h x
  right_ended room a b i j t (Some k) h x = runs.right h x

  once_ended : (room : Room) (a : Rule A S) (i j : ℕ) (t : Tree A S) (o : Option ℕ) → In g ts i (first table a)
      → Ended room a i t j o → Ended room (maybe a) i t j o
  once_ended room a i j t None h x = runs.once h x
  once_ended room a i j t (Some k) h x = runs.once h x

  more_ended : (room : Room) (a : Rule A S) (i n m j : ℕ) (t u : Tree A S) (o p : Option ℕ) → i + n ≡ m → In g ts i (first table a)
      → Ended room a i t m o → Ended room (many a) m u j p → Ended room (many a) i (pair t u) j (and_then n o p)
  more_ended room a i n m j t u (Some k) p e h x y = runs.item_fails h x
  more_ended room a i n m j t u None (Some k) e h x y = later room (many a) i n m k e (runs.rest_fails h x y)
  more_ended room a i n m j t u None None e h x y = runs.more h x y

  deeper_ended : (room inner : Room) (nesting : Nesting) (a : Rule A S) (i j : ℕ) (t : Tree A S) (o : Option ℕ) → IsInside nesting room inner
      → Ended inner a i t j o → Ended room (rule.deeper nesting a) i t j o
  deeper_ended room inner nesting a i j t None e x = runs.deeper e x
  deeper_ended room inner nesting a i j t (Some k) e x = runs.deeper e x

  chosen_ended : (room : Room) (a b c : Rule A S) (test : Tree A S → Bool) (i n m j : ℕ) (t u : Tree A S) (o p : Option ℕ) → i + n ≡ m
      → test t ≡ true → Ended room a i t m o → Ended room b m u j p → Ended room (when a test b c) i (pair t u) j (and_then n o p)
  chosen_ended room a b c test i n m j t u (Some k) p e answer x y = runs.test_fails x
  chosen_ended room a b c test i n m j t u None (Some k) e answer x y =
      later room (when a test b c) i n m k e (runs.chosen_fails x answer y)
  chosen_ended room a b c test i n m j t u None None e answer x y = runs.chosen x answer y

  otherwise_ended : (room : Room) (a b c : Rule A S) (test : Tree A S → Bool) (i n m j : ℕ) (t u : Tree A S) (o p : Option ℕ) → i + n ≡ m
      → test t ≡ false → Ended room a i t m o → Ended room c m u j p → Ended room (when a test b c) i (pair t u) j (and_then n o p)
  otherwise_ended room a b c test i n m j t u (Some k) p e answer x y = runs.test_fails x
  otherwise_ended room a b c test i n m j t u None (Some k) e answer x y =
      later room (when a test b c) i n m k e (runs.otherwise_fails x answer y)
  otherwise_ended room a b c test i n m j t u None None e answer x y = runs.otherwise x answer y

  -- where what follows the first rule's tree begins with a token, that token isn't one with which the tree goes on; where
  -- nothing follows, the whole goes on with it
  halts_before : {larger : Room} {b : Rule A S} {u : Tree A S} {m j : ℕ} (goes starts whole : List ℕ) → Decided table b → Is g larger b u
      → At ts m (spelling u) j → are_apart goes starts ≡ true → (In g ts m (first table b) → In g ts m starts)
      → (may_be_empty b ≡ true → In g ts j goes → In g ts j whole) → (In g ts j whole → ⊥) → In g ts m goes → ⊥
  halts_before {m = m} {j = j} goes starts whole d q at apart begins ends halts h =
      elim (cases_lt m j) [
        | inl lt ↦ in_apart g.class_of goes starts (slice_get ts m) apart h (begins (tree_starts g table fine ts d q at lt))
        | inr le ↦
            let ge = At-ordered at in
            let same : m ≡ j = omega arith in
            halts (ends (no_tokens g table fine d q (At-none at same)) (subst (λ n. In g ts n goes) same h))
      ]

  if_or_left : (b c : Bool) (xs : List ℕ) (o : Option A) → b ≡ true → starts_in g.class_of xs o ≡ true
      → starts_in g.class_of (if b || c then xs else []) o ≡ true
  if_or_left true c xs o e h = h
  if_or_left false c xs o e h = cc

  if_or_right : (b c : Bool) (xs : List ℕ) (o : Option A) → c ≡ true → starts_in g.class_of xs o ≡ true
      → starts_in g.class_of (if b || c then xs else []) o ≡ true
  if_or_right true c xs o e h = h
  if_or_right false true xs o e h = h
  if_or_right false false xs o e h = cc

  -- by the first token that passes the room
  abbrev Read : Room → Rule A S → ℕ → Tree A S → ℕ → Nestings → Type 0
  Read room r i t j ns = Ended room r i t j (first_passing room.blocks room.expressions ns)

  joined : (room : Room) (r : Rule A S) (i j : ℕ) (t : Tree A S) (ns ms : Nestings)
      → Ended room r i t j (and_then (length ns) (first_passing room.blocks room.expressions ns) (first_passing room.blocks room.expressions ms))
      → Read room r i t j (ns ++ ms)
  joined room r i j t ns ms x = subst (λ o. Ended room r i t j o) (sym (passing-append room.blocks room.expressions ns ms)) x

  along : {larger : Room} {r : Rule A S} {t : Tree A S} {i j : ℕ} → (p : Is g larger r t) → At ts i (spelling t) j → i + length (depths p) ≡ j
  along {i = i} p at = ap (λ n. i + n) (depths-length p) ∙ At-length at

  within_level : (room : Room) (nesting : Nesting) (a : Rule A S) (i j : ℕ) (t : Tree A S) (ns : Nestings) → i + length ns ≡ j → i < j
      → In g ts i (first table a) → ((inner : Room) → Read inner a i t j ns)
      → ((inner : Room) × IsInside nesting room inner) ⊎ IsFull nesting room
      → Read room (rule.deeper nesting a) i t j (map (one_in nesting) ns)
  within_level room nesting a i j t ns e lt h x (inl p) =
      subst (λ o. Ended room (rule.deeper nesting a) i t j o) (sym (inside-passing nesting room p.0 p.1 ns))
      (deeper_ended room p.0 nesting a i j t (first_passing p.0.blocks p.0.expressions ns) p.1 (x p.0))
  within_level room nesting a i j t ns e lt h x (inr full) =
      let zero_more : i ≡ i + 0 = omega arith in
      subst (λ o. Ended room (rule.deeper nesting a) i t j o) (sym (full-passing nesting room full ns (omega arith)))
      (subst (λ k. RuleRuns g table ts room (rule.deeper nesting a) i (Fail (TooDeep k))) zero_more (runs.too_deep full h))

  pub read_within : (room : Room) {larger : Room} {r : Rule A S} {t : Tree A S} {i j : ℕ} → Decided table r → (p : Is g larger r t)
      → At ts i (spelling t) j → (In g ts j (going_on table r) → ⊥)
      → Ended room r i t j (first_passing room.blocks room.expressions (depths p))
  read_within room {r = r} {t = t} {i = i} d (is.word e) (on h here) halts =
      subst (λ o. Ended room r i t (suc i) o) (sym (one_passes room)) (runs.word h e)
  read_within room {i = i} {j = j} d (is.part {s = s} {t = t} p) at halts =
      let f = fine_part g table fine s in
      part_ended room s i j t (first_passing room.blocks room.expressions (depths p))
      (read_within room f.decides p at
      (λ h. halts (in_among g.class_of (going_on table (g.rule_of s)) (table.goes_on s) (slice_get ts j) f.goes_on h)))
  read_within room {i = i} {j = j} d (is.both {a = a} {b = b} {t = t} {u = u} p q) at halts =
      let s = At-split (spelling t) (spelling u) at in
      let x = read_within room d.0 p s.front
      (halts_before (going_on table a) (first table b) (going_on table (a ▸ b)) d.1 q s.back d.2 (λ h. h)
      (λ e h. in_second g.class_of (may_be_empty b) (going_on table b) (going_on table a) (slice_get ts j) e h) halts) in
      let y = read_within room d.1 q s.back
      (λ h. halts (in_either g.class_of (may_be_empty b) (going_on table b) (going_on table a) (slice_get ts j) h)) in
      joined room (a ▸ b) i j (pair t u) (depths p) (depths q)
      (both_ended room a b i (length (depths p)) s.mid j t u _ _ (along p s.front) x y)
  read_within room {i = i} {j = j} d (is.left {a = a} {b = b} {t = t} p) at halts =
      left_ended room a b i j t (first_passing room.blocks room.expressions (depths p))
      (tree_starts g table fine ts d.0 p at (takes g table fine ts d.0 d.2 p at))
      (read_within room d.0 p at (λ h. halts (in_left g.class_of (going_on table a) (going_on table b) (slice_get ts j) h)))
  read_within room {i = i} {j = j} d (is.right {a = a} {b = b} {t = t} p) at halts =
      let starts = tree_starts g table fine ts d.1 p at (takes g table fine ts d.1 d.3 p at) in
      right_ended room a b i j t (first_passing room.blocks room.expressions (depths p))
      (not_in i (first table a) (λ h. in_apart g.class_of (first table a) (first table b) (slice_get ts i) d.4 h starts))
      (read_within room d.1 p at (λ h. halts (in_right g.class_of (going_on table a) (going_on table b) (slice_get ts j) h)))
  read_within room {i = i} {j = j} d (is.once {a = a} {t = t} p) at halts =
      once_ended room a i j t (first_passing room.blocks room.expressions (depths p))
      (tree_starts g table fine ts d.0 p at (takes g table fine ts d.0 d.1 p at))
      (read_within room d.0 p at (λ h. halts (in_right g.class_of (first table a) (going_on table a) (slice_get ts j) h)))
  read_within room {i = i} d (is.never {a = a}) here halts =
      runs.never (not_in i (first table a) (λ h. halts (in_left g.class_of (first table a) (going_on table a) (slice_get ts i) h)))
  read_within room {i = i} {j = j} d (is.more {a = a} {t = t} {u = u} p q) at halts =
      let s = At-split (spelling t) (spelling u) at in
      let x = read_within room d.0 p s.front
      (halts_before (going_on table a) (first table a) (going_on table (many a)) d q s.back d.2 (λ h. h)
      (λ e h. in_right g.class_of (first table a) (going_on table a) (slice_get ts j) h) halts) in
      let y = read_within room d q s.back halts in
      joined room (many a) i j (pair t u) (depths p) (depths q)
      (more_ended room a i (length (depths p)) s.mid j t u _ _ (along p s.front)
      (tree_starts g table fine ts d.0 p s.front (takes g table fine ts d.0 d.1 p s.front)) x y)
  read_within room {i = i} d (is.enough {a = a}) here halts =
      runs.enough (not_in i (first table a) (λ h. halts (in_left g.class_of (first table a) (going_on table a) (slice_get ts i) h)))
  read_within room {i = i} {j = j} d (is.deeper {nesting = nesting} {a = a} {t = t} e p) at halts =
      let lt = takes g table fine ts d.0 d.1 p at in
      within_level room nesting a i j t (depths p) (along p at) lt (tree_starts g table fine ts d.0 p at lt)
      (λ inner. read_within inner d.0 p at halts) (level nesting room)
  read_within room {i = i} {j = j} d (is.chosen {a = a} {b = b} {c = c} {test = test} {t = t} {u = u} p e q) at halts =
      let s = At-split (spelling t) (spelling u) at in
      let after = if may_be_empty b || may_be_empty c then going_on table a else [] in
      let x = read_within room d.0 p s.front
      (halts_before (going_on table a) (first table b ++ first table c) (going_on table (when a test b c)) d.1 q s.back d.4
      (λ h. in_left g.class_of (first table b) (first table c) (slice_get ts s.mid) h)
      (λ e h. in_left g.class_of after (going_on table b ++ going_on table c) (slice_get ts j)
      (if_or_left (may_be_empty b) (may_be_empty c) (going_on table a) (slice_get ts j) e h)) halts) in
      let y = read_within room d.1 q s.back
      (λ h. halts (in_right g.class_of after (going_on table b ++ going_on table c) (slice_get ts j)
      (in_left g.class_of (going_on table b) (going_on table c) (slice_get ts j) h))) in
      joined room (when a test b c) i j (pair t u) (depths p) (depths q)
      (chosen_ended room a b c test i (length (depths p)) s.mid j t u _ _ (along p s.front) e x y)
  read_within room {i = i} {j = j} d (is.otherwise {a = a} {b = b} {c = c} {test = test} {t = t} {u = u} p e q) at halts =
      let s = At-split (spelling t) (spelling u) at in
      let after = if may_be_empty b || may_be_empty c then going_on table a else [] in
      let x = read_within room d.0 p s.front
      (halts_before (going_on table a) (first table b ++ first table c) (going_on table (when a test b c)) d.2 q s.back d.4
      (λ h. in_right g.class_of (first table b) (first table c) (slice_get ts s.mid) h)
      (λ e h. in_left g.class_of after (going_on table b ++ going_on table c) (slice_get ts j)
      (if_or_right (may_be_empty b) (may_be_empty c) (going_on table a) (slice_get ts j) e h)) halts) in
      let y = read_within room d.2 q s.back
      (λ h. halts (in_right g.class_of after (going_on table b ++ going_on table c) (slice_get ts j)
      (in_right g.class_of (going_on table b) (going_on table c) (slice_get ts j) h))) in
      joined room (when a test b c) i j (pair t u) (depths p) (depths q)
      (otherwise_ended room a b c test i (length (depths p)) s.mid j t u _ _ (along p s.front) e x y)

  -- after the last token nothing goes on
  pub no_more : (classes : List ℕ) → In g ts (length ts) classes → ⊥
  no_more classes h =
      let none : slice_get ts (length ts) ≡ None = slice_get_past ts (length ts) (omega arith) in
      let out : starts_in g.class_of classes None ≡ true = subst (λ o. starts_in g.class_of classes o ≡ true) none h in
      cc
