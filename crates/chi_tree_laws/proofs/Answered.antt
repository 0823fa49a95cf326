-- What an exact parser answers of a part, from an index on, said of what is formed: the longest that stands there, the token
-- with which nothing goes on, or the first that is too deep.
use Rattle.std.proofs.Common.{◌≡◌, ℕ, ◌+◌, ◌-◌, ◌<◌, ◌≤◌, Some, List, ◌++◌, map, length, take, drop, ◌⊎◌, inl, inr, ap, sym, subst, ◌∙◌, arith, take-take}
use Rattle.std.proofs.lemmas.Bool.{cases_lt}
use Rattle.std.proofs.lemmas.List.{length-map, length-drop, length-take-le, take-append-drop, take-map}
use Rattle.chi_grammar.specs.declared.room.Room.{Room}
use Rattle.chi_grammar.specs.Exact.{Stands, TreeTo, FrontTo, NoneFurther, IsStuck, IsLongest, IsTooDeep, IsBad}
use Rattle.chi_grammar.specs.Fronts.{Front}
use Rattle.chi_grammar.specs.Rules.{part, spelling}
use Rattle.chi_grammar.proofs.Prefixes.{front_before}
use Rattle.chi_token.specs.declared.place.Spanned.{Spanned}
use Rattle.chi_tree.specs.Parts.{Part}
use Rattle.chi_tree.specs.Rules.{grammar}
use Rattle.chi_tree.specs.View.{Built}
use Rattle.chi_tree_spell.specs.Words.{Tokens, token_of}
use Rattle.chi_tree_laws.specs.Beginnings.{FormedFront, FormedFrontWithin, NamesDepth, NoneGoesOn, NamesFault, StandsLongest, NamesStop}
use Rattle.chi_tree_laws.specs.Nestings.{Nestings, first_passing}
use Rattle.chi_tree_laws.proofs.FormedPart.{FormedPart, placed, begins_of, front_of, begins_within, front_within, first_deep, deep_fronts}
use Rattle.chi_tree_laws.proofs.Leaves.{levels}

module _ (tokens : List Spanned) (s : Part) (at : ℕ) where
  -- the tokens from the index on
  abbrev rest : List Spanned
  rest = drop at tokens

  -- a front of the part up to an index is as many of them

  pub front_taken : (room : Room) (n : ℕ) → FrontTo grammar tokens room (part s) at (at + n) → Front grammar room (part s) (take n rest)
  front_taken room n front =
      let all : at + n - at ≡ n = omega arith in
      subst (λ f. Front grammar room (part s) f) (sym front.stands.same ∙ ap (λ m. take m rest) all) front.is

  pub taken_front : (room : Room) (n : ℕ) → at + n ≤ length tokens → Front grammar room (part s) (take n rest)
      → FrontTo grammar tokens room (part s) at (at + n)
  taken_front room n inside front =
      let all : at + n - at ≡ n = omega arith in
      record {
        begins = take n rest;
        is = front;
        stands = record { ordered = omega arith; inside = inside; same = ap (λ m. take m rest) all };
      }

  fewer : (room : Room) (n m : ℕ) → m ≤ n → Front grammar room (part s) (take n rest) → Front grammar room (part s) (take m rest)
  fewer room n m le front =
      let split : take n rest ≡ take m rest ++ drop m (take n rest) = sym (take-append-drop m (take n rest)) ∙ ap (λ f. f ++ drop m (take n rest)) (take-take m n rest le) in
      front_before grammar room (part s) (take m rest) (drop m (take n rest)) (subst (λ f. Front grammar room (part s) f) split front)

  -- no front goes past the index where none is one token longer

  none_past : (room : Room) (n : ℕ) → (at + n < length tokens → Front grammar room (part s) (take (n + 1) rest) → ⊥)
      → (end : ℕ) → FrontTo grammar tokens room (part s) at end → end ≤ at + n
  none_past room n none end front = by (cases_lt (at + n) end)
    where
      by : (at + n < end) ⊎ (end ≤ at + n) → end ≤ at + n
      by (inr le) = le
      by (inl lt) =
          let order = front.stands.ordered in
          let inside = front.stands.inside in
          let long : at + (end - at) ≡ end = omega arith in
          let whole = subst (λ e. FrontTo grammar tokens room (part s) at e) (sym long) front in
          absurd (none (omega arith) (fewer room (end - at) (n + 1) (omega arith) (front_taken room (end - at) whole)))

  not_past : (room : Room) (n : ℕ) → ((end : ℕ) → FrontTo grammar tokens room (part s) at end → end ≤ at + n)
      → at + n < length tokens → Front grammar room (part s) (take (n + 1) rest) → ⊥
  not_past room n none lt front =
      let past = none (at + (n + 1)) (taken_front room (n + 1) (omega arith) front) in omega arith

  module _ {X : Type 0} (Formed : ℕ → ℕ → X → Type 0) (spelled : X → Tokens) (nestings : X → Nestings) (view : Built → X)
      (formed : FormedPart Formed spelled nestings view s) (inside : at ≤ length tokens) where
    size : length (map token_of rest) ≡ length tokens - at
    size = length-map rest token_of ∙ length-drop at tokens

    begins_taken : (n : ℕ) → FormedFront Formed spelled nestings (take n (map token_of rest)) → FormedFront Formed spelled nestings (map token_of (take n rest))
    begins_taken n b = subst (λ ts. FormedFront Formed spelled nestings ts) (take-map token_of n rest) b

    taken_begins : (n : ℕ) → FormedFront Formed spelled nestings (map token_of (take n rest)) → FormedFront Formed spelled nestings (take n (map token_of rest))
    taken_begins n b = subst (λ ts. FormedFront Formed spelled nestings ts) (sym (take-map token_of n rest)) b

    -- nothing goes on with a token

    none_goes : (n : ℕ) → NoneFurther grammar tokens (part s) at (at + n) → NoneGoesOn Formed spelled nestings (map token_of rest) n
    none_goes n none lt b =
        let front = front_of Formed spelled nestings view s formed (take (n + 1) rest) (begins_taken (n + 1) b) in
        not_past front.0 n (λ end f. none front.0 end f) (omega (arith, size)) front.1

    none_further : (n : ℕ) → NoneGoesOn Formed spelled nestings (map token_of rest) n → NoneFurther grammar tokens (part s) at (at + n)
    none_further n none room end front =
        none_past room n
        (λ lt f. none (omega (arith, size)) (taken_begins (n + 1) (begins_of Formed spelled nestings view s formed room (take (n + 1) rest) f)))
        end front

    -- the tokens before it are a front within the limits

    before_of : (room : Room) (n : ℕ) → FrontTo grammar tokens room (part s) at (at + n)
        → FormedFrontWithin Formed spelled nestings room.blocks room.expressions (take n (map token_of rest))
    before_of room n front =
        subst (λ ts. FormedFrontWithin Formed spelled nestings room.blocks room.expressions ts) (sym (take-map token_of n rest))
        (begins_within Formed spelled nestings view s formed room (take n rest) (front_taken room n front))

    front_before_it : (room : Room) (n : ℕ) → n ≤ length (map token_of rest)
        → FormedFrontWithin Formed spelled nestings room.blocks room.expressions (take n (map token_of rest)) → FrontTo grammar tokens room (part s) at (at + n)
    front_before_it room n there w =
        taken_front room n (omega (arith, size))
        (front_within Formed spelled nestings view s formed room (take n rest)
        (subst (λ ts. FormedFrontWithin Formed spelled nestings room.blocks room.expressions ts) (take-map token_of n rest) w))

    -- the first token too deep

    taken_size : (n : ℕ) → n < length (map token_of rest) → length (take (n + 1) rest) ≡ n + 1
    taken_size n lt = length-take-le (n + 1) rest (let drops = length-drop at tokens in omega (arith, size))

    take_twice : (n : ℕ) → take n (take (n + 1) rest) ≡ take n rest
    take_twice n = take-take n (n + 1) rest (omega arith)

    pub names_depth : (room : Room) (n : ℕ) → IsTooDeep grammar tokens room (part s) at (at + n)
        → NamesDepth Formed spelled nestings room.blocks room.expressions (map token_of rest) n
    names_depth room n deep =
        let long = deep.deeper.1.stands.inside in
        let lt : n < length (map token_of rest) = omega (arith, size) in
        let next : at + n + 1 ≡ at + (n + 1) = omega arith in
        let further = front_taken deep.deeper.0 (n + 1) (subst (λ e. FrontTo grammar tokens deep.deeper.0 (part s) at e) next deep.deeper.1) in
        let b = begins_of Formed spelled nestings view s formed deep.deeper.0 (take (n + 1) rest) further in
        let first = first_deep Formed spelled nestings view s formed room (take (n + 1) rest) n (taken_size n lt)
        (subst (λ f. Front grammar room (part s) f) (sym (take_twice n)) (front_taken room n deep.front))
        (not_past room n deep.none_within (omega arith)) b in
        named lt b first
      where
        named : n < length (map token_of rest) → (b : FormedFront Formed spelled nestings (map token_of (take (n + 1) rest)))
            → first_passing room.blocks room.expressions (nestings b.whole) ≡ Some n
            → NamesDepth Formed spelled nestings room.blocks room.expressions (map token_of rest) n
        named lt b first = record {
          inside = lt;
          front = record {
            blocks = b.blocks;
            expressions = b.expressions;
            whole = b.whole;
            formed = b.formed;
            more = b.more;
            same = b.same ∙ ap (λ ts. ts ++ b.more) (sym (take-map token_of (n + 1) rest));
          };
          first = first;
        }

    pub is_too_deep : (room : Room) (n : ℕ) → NamesDepth Formed spelled nestings room.blocks room.expressions (map token_of rest) n
        → IsTooDeep grammar tokens room (part s) at (at + n)
    is_too_deep room n names =
        let lt = names.inside in
        let b : FormedFront Formed spelled nestings (map token_of (take (n + 1) rest)) = record {
          blocks = names.front.blocks;
          expressions = names.front.expressions;
          whole = names.front.whole;
          formed = names.front.formed;
          more = names.front.more;
          same = names.front.same ∙ ap (λ ts. ts ++ names.front.more) (take-map token_of (n + 1) rest);
        } in
        let fronts = deep_fronts Formed spelled nestings view s formed room (take (n + 1) rest) n (taken_size n lt) b names.first in
        let larger = front_of Formed spelled nestings view s formed (take (n + 1) rest) b in
        let next : at + (n + 1) ≡ at + n + 1 = omega arith in
        record {
          front = taken_front room n (omega (arith, size)) (subst (λ f. Front grammar room (part s) f) (take_twice n) fronts.before);
          none_within = none_past room n (λ below f. fronts.none f);
          deeper = (
            larger.0,
            subst (λ e. FrontTo grammar tokens larger.0 (part s) at e) next
                (taken_front larger.0 (n + 1) (omega (arith, size)) larger.1),
          );
        }

    -- a tree of the tokens up to an index

    tree_of : (b d n : ℕ) (x : X) → Formed b d x → spelled x ≡ take n (map token_of rest) → at + n ≤ length tokens
        → TreeTo grammar tokens (levels b d) (part s) at (at + n)
    tree_of b d n x p e long =
        let all : at + n - at ≡ n = omega arith in
        let u = placed Formed spelled nestings view s formed (levels b d) x p (take n rest) (e ∙ take-map token_of n rest) in
        record {
          tree = u.tree;
          is = u.nested.0;
          stands = record { ordered = omega arith; inside = long; same = ap (λ m. take m rest) all ∙ sym u.spells };
        }

    tokens_of : (n : ℕ) (t : Built) → Stands tokens at (spelling t) (at + n) → map token_of (spelling t) ≡ take n (map token_of rest)
    tokens_of n t stands =
        let all : at + n - at ≡ n = omega arith in
        ap (map token_of) (sym stands.same ∙ ap (λ m. take m rest) all) ∙ sym (take-map token_of n rest)

    -- the token with which nothing goes on, and nothing ends before it

    pub names_stop : (room : Room) (n : ℕ) → IsStuck grammar tokens room (part s) at (at + n)
        → NamesStop Formed spelled nestings room.blocks room.expressions (map token_of rest) n
    names_stop room n stuck =
        let long = stuck.front.stands.inside in
        record {
          inside = omega (arith, size);
          front = before_of room n stuck.front;
          none_goes_on = none_goes n stuck.none_further;
          none_has_them = λ b d x p e. stuck.no_tree (levels b d) (tree_of b d n x p e long);
        }

    pub is_stuck : (room : Room) (n : ℕ) → NamesStop Formed spelled nestings room.blocks room.expressions (map token_of rest) n
        → IsStuck grammar tokens room (part s) at (at + n)
    is_stuck room n names = record {
      front = front_before_it room n names.inside names.front;
      none_further = none_further n names.none_goes_on;
      no_tree = λ any t.
          names.none_has_them any.blocks any.expressions (view t.tree) (formed.shown any t.tree t.is)
          (formed.spells any t.tree t.is ∙ tokens_of n t.tree t.stands);
    }

    -- the longest that stands there

    pub stands_longest : (room : Room) (n : ℕ) (t : Built) → IsLongest grammar tokens room (part s) at t (at + n)
        → StandsLongest Formed spelled nestings room.blocks room.expressions (map token_of rest) n (view t)
    stands_longest room n t longest =
        let long = longest.stands.inside in
        record {
          inside = omega (arith, size);
          formed = formed.shown room t longest.is;
          same = formed.spells room t longest.is ∙ tokens_of n t longest.stands;
          none_goes_on = none_goes n longest.none_further;
        }

    pub is_longest : (room : Room) (n : ℕ) (x : X) → StandsLongest Formed spelled nestings room.blocks room.expressions (map token_of rest) n x
        → (t : Built) × IsLongest grammar tokens room (part s) at t (at + n) × (spelled (view t) ≡ spelled x)
    is_longest room n x stands =
        let there = stands.inside in
        let t = tree_of room.blocks room.expressions n x stands.formed stands.same (omega (arith, size)) in (
          t.tree,
          record { is = t.is; stands = t.stands; none_further = none_further n stands.none_goes_on },
          formed.spells room t.tree t.is ∙ tokens_of n t.tree t.stands ∙ sym stands.same,
        )

-- all the tokens
module _ (tokens : List Spanned) (s : Part) {X : Type 0} (Formed : ℕ → ℕ → X → Type 0) (spelled : X → Tokens) (nestings : X → Nestings)
    (view : Built → X) (formed : FormedPart Formed spelled nestings view s) where
  none_before : 0 ≤ length tokens
  none_before = omega arith

  as_it_is : (k : ℕ) → 0 + k ≡ k
  as_it_is k = omega arith

  pub names_fault : (room : Room) (k : ℕ) → IsBad grammar tokens room (part s) k
      → NamesFault Formed spelled nestings room.blocks room.expressions (map token_of tokens) k
  names_fault room k bad =
      let long = bad.front.stands.inside in
      record {
        inside = omega (arith, length-map tokens token_of);
        front = before_of tokens s 0 Formed spelled nestings view formed none_before room k
            (subst (λ e. FrontTo grammar tokens room (part s) 0 e) (sym (as_it_is k)) bad.front);
        none_goes_on = none_goes tokens s 0 Formed spelled nestings view formed none_before k
            (subst (λ e. NoneFurther grammar tokens (part s) 0 e) (sym (as_it_is k)) bad.none_further);
        none_has_all = λ b d x p e.
            let u = placed Formed spelled nestings view s formed (levels b d) x p tokens e in
            bad.no_tree (levels b d) u.tree u.nested.0 u.spells;
      }

  pub is_bad : (room : Room) (k : ℕ) → NamesFault Formed spelled nestings room.blocks room.expressions (map token_of tokens) k
      → IsBad grammar tokens room (part s) k
  is_bad room k names = record {
    front = subst (λ e. FrontTo grammar tokens room (part s) 0 e) (as_it_is k)
        (front_before_it tokens s 0 Formed spelled nestings view formed none_before room k names.inside names.front);
    none_further = subst (λ e. NoneFurther grammar tokens (part s) 0 e) (as_it_is k)
        (none_further tokens s 0 Formed spelled nestings view formed none_before k names.none_goes_on);
    no_tree = λ any t is same.
        names.none_has_all any.blocks any.expressions (view t) (formed.shown any t is) (formed.spells any t is ∙ ap (map token_of) same);
  }

  pub names_first_depth : (room : Room) (k : ℕ) → IsTooDeep grammar tokens room (part s) 0 k
      → NamesDepth Formed spelled nestings room.blocks room.expressions (map token_of tokens) k
  names_first_depth room k deep =
      names_depth tokens s 0 Formed spelled nestings view formed none_before room k
      (subst (λ e. IsTooDeep grammar tokens room (part s) 0 e) (sym (as_it_is k)) deep)

  pub is_first_too_deep : (room : Room) (k : ℕ) → NamesDepth Formed spelled nestings room.blocks room.expressions (map token_of tokens) k
      → IsTooDeep grammar tokens room (part s) 0 k
  is_first_too_deep room k names =
      subst (λ e. IsTooDeep grammar tokens room (part s) 0 e) (as_it_is k)
      (is_too_deep tokens s 0 Formed spelled nestings view formed none_before room k names)
