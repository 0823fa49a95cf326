-- The nesting of each token of what a rule builds, by how the rule builds it.
use Rattle.std.proofs.Common.{◌≡◌, ℕ, suc, ◌+◌, Bool, true, false, ◌||◌, if◌then◌else◌, Option, Some, None, [], ◌∷◌, ◌++◌, map, length, inl, inr, refl, ap, sym, ◌∙◌, arith}
use Rattle.std.specs.Prelude.{nat_lt}
use Rattle.std.specs.Option.{option_map}
use Rattle.std.proofs.lemmas.Bool.{le-ltb, lt-ltb, cases_lt}
use Rattle.std.proofs.lemmas.List.{length-append, length-map}
use Rattle.chi_grammar.specs.declared.room.Nesting.{Nesting}
use Rattle.chi_grammar.specs.declared.room.Nesting.TheVariants.{Block, Expression}
use Rattle.chi_grammar.specs.declared.room.Room.{Room}
use Rattle.chi_grammar.specs.Rooms.{IsInside, IsFull}
use Rattle.chi_grammar.specs.Rules.{Tree, spelling, Rule, ◌∣◌, Grammar}
use Rattle.chi_grammar.specs.Rules as rule
use Rattle.chi_grammar.specs.Trees.{Is}
use Rattle.chi_grammar.specs.Trees as is
use Rattle.chi_tree_laws.specs.Nestings.{Depths, Nestings, outside, one_block_in, one_level_in, passes, first_passing}

abbrev pub one_in : Nesting → Depths → Depths
one_in Block = one_block_in
one_in Expression = one_level_in

abbrev pub depths : {A S : Type 0} {g : Grammar A S} {room : Room} {r : Rule A S} {t : Tree A S} → Is g room r t → Nestings
depths (is.word e) = outside ∷ []
depths (is.part p) = depths p
depths (is.both p q) = depths p ++ depths q
depths (is.left p) = depths p
depths (is.right p) = depths p
depths (is.once p) = depths p
depths is.never = []
depths (is.more p q) = depths p ++ depths q
depths is.enough = []
depths (is.deeper {nesting = nesting} i p) = map (one_in nesting) (depths p)
depths (is.chosen p e q) = depths p ++ depths q
depths (is.otherwise p e q) = depths p ++ depths q

-- each token has one
pub depths-length : {A S : Type 0} {g : Grammar A S} {room : Room} {r : Rule A S} {t : Tree A S} → (p : Is g room r t)
    → length (depths p) ≡ length (spelling t)
depths-length (is.word e) = refl
depths-length (is.part p) = depths-length p
depths-length (is.both {t = t} {u = u} p q) =
    length-append (depths p) (depths q) ∙ (λ i. depths-length p i + depths-length q i) ∙ sym (length-append (spelling t) (spelling u))
depths-length (is.left p) = depths-length p
depths-length (is.right p) = depths-length p
depths-length (is.once p) = depths-length p
depths-length is.never = refl
depths-length (is.more {t = t} {u = u} p q) =
    length-append (depths p) (depths q) ∙ (λ i. depths-length p i + depths-length q i) ∙ sym (length-append (spelling t) (spelling u))
depths-length is.enough = refl
depths-length (is.deeper {nesting = nesting} i p) = length-map (depths p) (one_in nesting) ∙ depths-length p
depths-length (is.chosen {t = t} {u = u} p e q) =
    length-append (depths p) (depths q) ∙ (λ i. depths-length p i + depths-length q i) ∙ sym (length-append (spelling t) (spelling u))
depths-length (is.otherwise {t = t} {u = u} p e q) =
    length-append (depths p) (depths q) ∙ (λ i. depths-length p i + depths-length q i) ∙ sym (length-append (spelling t) (spelling u))

-- a rule of one token, of which class so ever
abbrev pub is_one : {A S : Type 0} → Rule A S → Bool
is_one (rule.word class) = true
is_one (a ∣ b) = if is_one a then is_one b else false
is_one _ = false

if_first : (a b : Bool) → (if a then b else false) ≡ true → a ≡ true
if_first true b e = refl
if_first false b e = cc

if_second : (a b : Bool) → (if a then b else false) ≡ true → b ≡ true
if_second true b e = e
if_second false b e = cc

pub one-depths : {A S : Type 0} {g : Grammar A S} {room : Room} {r : Rule A S} {t : Tree A S} → is_one r ≡ true → (p : Is g room r t)
    → depths p ≡ outside ∷ []
one-depths e (is.word c) = refl
one-depths e (is.left {a = a} {b = b} p) = one-depths (if_first (is_one a) (is_one b) e) p
one-depths e (is.right {a = a} {b = b} p) = one-depths (if_second (is_one a) (is_one b) e) p
one-depths e _ = cc

-- where the first token stands that passes a limit

-- after so many tokens of which the first that passes is this one
abbrev pub and_then : ℕ → Option ℕ → Option ℕ → Option ℕ
and_then n (Some k) other = Some k
and_then n None other = option_map (λ k. n + k) other

shifted : (n : ℕ) (a o : Option ℕ) → option_map suc (and_then n a o) ≡ and_then (suc n) (option_map suc a) o
shifted n (Some k) o = refl
shifted n None None = refl
shifted n None (Some k) = ap (λ m. Some m) (let e : suc (n + k) ≡ suc n + k = omega arith in e)

no_shift : (o : Option ℕ) → o ≡ option_map (λ k. 0 + k) o
no_shift None = refl
no_shift (Some k) = ap (λ m. Some m) (let e : k ≡ 0 + k = omega arith in e)

if_step : (b d : ℕ) (n : Depths) (ns ms : Nestings) (answer : Bool) → passes b d n ≡ answer
    → first_passing b d (ns ++ ms) ≡ and_then (length ns) (first_passing b d ns) (first_passing b d ms)
    → (if answer then Some 0 else option_map suc (first_passing b d (ns ++ ms)))
    ≡ and_then (suc (length ns)) (if answer then Some 0 else option_map suc (first_passing b d ns)) (first_passing b d ms)
if_step b d n ns ms true e rest = refl
if_step b d n ns ms false e rest = ap (option_map suc) rest ∙ shifted (length ns) (first_passing b d ns) (first_passing b d ms)

pub passing-append : (b d : ℕ) (ns ms : Nestings)
    → first_passing b d (ns ++ ms) ≡ and_then (length ns) (first_passing b d ns) (first_passing b d ms)
passing-append b d [] ms = no_shift (first_passing b d ms)
passing-append b d (n ∷ ns) ms = if_step b d n ns ms (passes b d n) refl (passing-append b d ns ms)

ltb-suc : (a b : ℕ) → nat_lt (suc a) (suc b) ≡ nat_lt a b
ltb-suc a b =
    elim (cases_lt a b) [
      | inl lt ↦ lt-ltb (suc a) (suc b) (omega arith) ∙ sym (lt-ltb a b lt)
      | inr le ↦ le-ltb (suc a) (suc b) (omega arith) ∙ sym (le-ltb a b le)
    ]

-- the tokens inside pass what is left where they pass the whole from outside
pub inside_passes : (nesting : Nesting) (room inner : Room) → IsInside nesting room inner → (n : Depths)
    → passes room.blocks room.expressions (one_in nesting n) ≡ passes inner.blocks inner.expressions n
inside_passes Block room inner i n =
    (λ j. nat_lt (i.0 j) (suc n.blocks) || nat_lt (i.1 j) n.expressions)
    ∙ ap (λ b. b || nat_lt inner.expressions n.expressions) (ltb-suc inner.blocks n.blocks)
inside_passes Expression room inner i n =
    (λ j. nat_lt (i.0 j) n.blocks || nat_lt (i.1 j) (suc n.expressions))
    ∙ ap (λ b. nat_lt inner.blocks n.blocks || b) (ltb-suc inner.expressions n.expressions)

pub inside-passing : (nesting : Nesting) (room inner : Room) → IsInside nesting room inner → (ns : Nestings)
    → first_passing room.blocks room.expressions (map (one_in nesting) ns) ≡ first_passing inner.blocks inner.expressions ns
inside-passing nesting room inner i [] = refl
inside-passing nesting room inner i (n ∷ ns) =
    (λ j. if inside_passes nesting room inner i n j then Some 0 else option_map suc (inside-passing nesting room inner i ns j))

or_true : (b : Bool) → (b || true) ≡ true
or_true true = refl
or_true false = refl

-- where no level is left the first token inside passes
pub full_passes : (nesting : Nesting) (room : Room) → IsFull nesting room → (n : Depths)
    → passes room.blocks room.expressions (one_in nesting n) ≡ true
full_passes Block room full n = ap (λ b. b || nat_lt room.expressions n.expressions) (lt-ltb room.blocks (suc n.blocks) (omega arith))
full_passes Expression room full n =
    ap (λ b. nat_lt room.blocks n.blocks || b) (lt-ltb room.expressions (suc n.expressions) (omega arith)) ∙ or_true (nat_lt room.blocks n.blocks)

pub outside_passes : (room : Room) → passes room.blocks room.expressions outside ≡ false
outside_passes room = (λ j. le-ltb room.blocks 0 (omega arith) j || le-ltb room.expressions 0 (omega arith) j)

pub one_passes : (room : Room) → first_passing room.blocks room.expressions (outside ∷ []) ≡ None
one_passes room = ap (λ b. if b then Some 0 else None) (outside_passes room)

-- none passes the room in which the rule has built

none_and_none : (room : Room) (ns ms : Nestings) → first_passing room.blocks room.expressions ns ≡ None
    → first_passing room.blocks room.expressions ms ≡ None → first_passing room.blocks room.expressions (ns ++ ms) ≡ None
none_and_none room ns ms e f = passing-append room.blocks room.expressions ns ms ∙ (λ i. and_then (length ns) (e i) (f i))

pub depths_keep : {A S : Type 0} {g : Grammar A S} {room : Room} {r : Rule A S} {t : Tree A S} → (p : Is g room r t)
    → first_passing room.blocks room.expressions (depths p) ≡ None
depths_keep {room = room} (is.word e) = one_passes room
depths_keep (is.part p) = depths_keep p
depths_keep {room = room} (is.both p q) = none_and_none room (depths p) (depths q) (depths_keep p) (depths_keep q)
depths_keep (is.left p) = depths_keep p
depths_keep (is.right p) = depths_keep p
depths_keep (is.once p) = depths_keep p
depths_keep is.never = refl
depths_keep {room = room} (is.more p q) = none_and_none room (depths p) (depths q) (depths_keep p) (depths_keep q)
depths_keep is.enough = refl
depths_keep {room = room} (is.deeper {inner = inner} {nesting = nesting} i p) =
    inside-passing nesting room inner i (depths p) ∙ depths_keep p
depths_keep {room = room} (is.chosen p e q) = none_and_none room (depths p) (depths q) (depths_keep p) (depths_keep q)
depths_keep {room = room} (is.otherwise p e q) = none_and_none room (depths p) (depths q) (depths_keep p) (depths_keep q)
