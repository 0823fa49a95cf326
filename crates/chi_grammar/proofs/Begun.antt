-- A token of the classes with which a rule begins is a front of it, in some room.
use Rattle.std.proofs.Common.{◌≡◌, ℕ, zero, suc, ◌+◌, ◌<◌, ◌≤◌, Bool, true, false, if◌then◌else◌, Some, List, [], ◌∷◌, ◌++◌, inl, inr, refl, sym, ap, ◌∙◌, arith}
use Rattle.std.proofs.lemmas.Bool.{and_parts, and_from, or_cases, ltb-true, lt-ltb}
use Rattle.chi_grammar.specs.declared.room.Room.{Room}
use Rattle.chi_grammar.specs.Rules.{Tree, pair, none, spelling, Rule, word, part, ◌▸◌, ◌∣◌, maybe, many, deeper, when, Grammar}
use Rattle.chi_grammar.specs.Trees.{Is}
use Rattle.chi_grammar.specs.Trees as is
use Rattle.chi_grammar.specs.Fronts.{Front}
use Rattle.chi_grammar.specs.Fronts as front
use Rattle.chi_grammar.specs.Lookahead.{Table, may_be_empty, first, starts_in}
use Rattle.chi_grammar.specs.Fine.{is_below, Fine}
use Rattle.chi_grammar.proofs.Classes.{of_one, in_split, in_among}
use Rattle.chi_grammar.proofs.Decided.{Decided, fine_part}
use Rattle.chi_grammar.proofs.Rooms.{around, IsInside-around}

module _ {A S : Type 0} (g : Grammar A S) (table : Table S) where
  -- a tree without tokens, in any room
  pub record Empty (room : Room) (r : Rule A S) : Type 0 where
    pub tree : Tree A S
    pub is : Is g room r tree
    pub none : spelling tree ≡ []

  empty : (room : Room) (r : Rule A S) → Decided table r → may_be_empty r ≡ true → Empty room r
  empty room (word class) d e = cc
  empty room (part s) d e = cc
  empty room (a ▸ b) d e =
      let p = and_parts (may_be_empty a) (may_be_empty b) e in
      let x = empty room a d.0 p.0 in
      let y = empty room b d.1 p.1 in
      record { tree = pair x.tree y.tree; is = is.both x.is y.is; none = ap (λ xs. xs ++ spelling y.tree) x.none ∙ y.none }
  empty room (a ∣ b) d e =
      elim (or_cases (may_be_empty a) (may_be_empty b) e) [
        | inl p ↦ let x = empty room a d.0 p in record { tree = x.tree; is = is.left x.is; none = x.none }
        | inr p ↦ let x = empty room b d.1 p in record { tree = x.tree; is = is.right x.is; none = x.none }
      ]
  empty room (maybe a) d e = record { tree = none; is = is.never; none = refl }
  empty room (many a) d e = record { tree = none; is = is.enough; none = refl }
  empty room (deeper nesting a) d e = let some = d.1 in cc
  empty room (when a test b c) d e = cc

  -- the token alone is a front
  pub record Begun (r : Rule A S) (x : A) : Type 0 where
    pub room : Room
    pub is : Front g room r (x ∷ [])

  -- the token is of one of the classes
  abbrev Of : A → List ℕ → Type 0
  Of x classes = starts_in g.class_of classes (Some x) ≡ true

  begun_rule : (x : A) (rank : ℕ) → ((s : S) → table.rank s < rank → Of x (table.begins s) → Begun (part s) x)
      → (r : Rule A S) → Decided table r → is_below table rank r ≡ true → Of x (first table r) → Begun r x
  begun_rule x rank parts (word class) d below h = record {
    room = record { blocks = 0; expressions = 0 };
    is = front.whole (is.word (of_one g.class_of class x h)) refl;
  }
  begun_rule x rank parts (part s) d below h = parts s (ltb-true (table.rank s) rank below) h
  begun_rule x rank parts (a ▸ b) d below h =
      let p = and_parts _ _ below in
      by (may_be_empty a) refl (begun_rule x rank parts a d.0 p.0) (begun_rule x rank parts b d.1) p.1 h
    where
      inside : Begun a x → Begun (a ▸ b) x
      inside q = record { room = q.room; is = front.first q.is }

      beyond : may_be_empty a ≡ true → Begun b x → Begun (a ▸ b) x
      beyond e q =
          let t = empty q.room a d.0 e in
          record { room = q.room; is = front.next t.is q.is (sym (ap (λ xs. xs ++ (x ∷ [])) t.none)) }

      by : (e : Bool) → may_be_empty a ≡ e → (Of x (first table a) → Begun a x) → (is_below table rank b ≡ true → Of x (first table b) → Begun b x)
          → (if e then is_below table rank b else true) ≡ true → Of x (if e then first table a ++ first table b else first table a) → Begun (a ▸ b) x
      by true e f k q w =
          elim (in_split g.class_of (first table a) (first table b) (Some x) w) [ inl l ↦ inside (f l) | inr l ↦ beyond e (k q l) ]
      by false e f k q w = inside (f w)
  begun_rule x rank parts (a ∣ b) d below h =
      let p = and_parts _ _ below in
      elim (in_split g.class_of (first table a) (first table b) (Some x) h) [
        | inl l ↦ let q = begun_rule x rank parts a d.0 p.0 l in record { room = q.room; is = front.left q.is }
        | inr l ↦ let q = begun_rule x rank parts b d.1 p.1 l in record { room = q.room; is = front.right q.is }
      ]
  begun_rule x rank parts (maybe a) d below h =
      let q = begun_rule x rank parts a d.0 below h in record { room = q.room; is = front.once q.is }
  begun_rule x rank parts (many a) d below h =
      let q = begun_rule x rank parts a d.0 below h in record { room = q.room; is = front.one q.is }
  begun_rule x rank parts (deeper nesting a) d below h =
      let q = begun_rule x rank parts a d.0 below h in
      record { room = around nesting q.room; is = front.deeper (IsInside-around nesting q.room) q.is }
  begun_rule x rank parts (when a test b c) d below h =
      let q = begun_rule x rank parts a d.0 below h in record { room = q.room; is = front.before q.is }

  begun_part : Fine g table → (x : A) (rank : ℕ) (s : S) → table.rank s < rank → Of x (table.begins s) → Begun (part s) x
  begun_part fine x zero s low h = absurd (omega arith)
  begun_part fine x (suc rank) s low h =
      let p = fine_part g table fine s in
      let q =
      begun_rule x (table.rank s) (λ s' low'. begun_part fine x rank s' (omega arith)) (g.rule_of s) p.decides p.below
      (in_among g.class_of (table.begins s) (first table (g.rule_of s)) (Some x) p.begins_only h)
      in
      record { room = q.room; is = front.part q.is }

  -- a bound on the ranks of the parts with which a rule begins
  bound : Rule A S → ℕ
  bound (word class) = 0
  bound (part s) = suc (table.rank s)
  bound (a ▸ b) = bound a + bound b
  bound (a ∣ b) = bound a + bound b
  bound (maybe a) = bound a
  bound (many a) = bound a
  bound (deeper nesting a) = bound a
  bound (when a test b c) = bound a

  below_bound : (r : Rule A S) (n : ℕ) → bound r ≤ n → is_below table n r ≡ true
  unfolding bound
  below_bound (word class) n le = refl
  below_bound (part s) n le = lt-ltb (table.rank s) n (omega arith)
  below_bound (a ▸ b) n le = and_from _ _ (below_bound a n (omega arith)) (by (may_be_empty a) (below_bound b n (omega arith)))
    where
      by : (e : Bool) → is_below table n b ≡ true → (if e then is_below table n b else true) ≡ true
      by true p = p
      by false p = refl
  below_bound (a ∣ b) n le = and_from _ _ (below_bound a n (omega arith)) (below_bound b n (omega arith))
  below_bound (maybe a) n le = below_bound a n le
  below_bound (many a) n le = below_bound a n le
  below_bound (deeper nesting a) n le = below_bound a n le
  below_bound (when a test b c) n le = below_bound a n le

  pub begun : Fine g table → (r : Rule A S) (x : A) → Decided table r → Of x (first table r) → Begun r x
  begun fine r x d h =
      begun_rule x (bound r) (λ s low. begun_part fine x (bound r) s low) r d (below_bound r (bound r) (omega arith)) h
