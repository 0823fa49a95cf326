-- Of each rule the grammar builds some tree: of two alternatives the second, and nothing that may be left out.
use Rattle.std.proofs.Common.{◌≡◌, ℕ, zero, suc, ◌==◌, ◌&&◌, Bool, true, false, [], refl}
use Rattle.std.proofs.lemmas.Bool.{and_parts, false≢true, eqb-true}
use Rattle.chi_grammar.specs.declared.room.Nesting.{Nesting}
use Rattle.chi_grammar.specs.declared.room.Room.{Room}
use Rattle.chi_grammar.specs.Rules.{leaf, node, pair, none, Rule, ◌▸◌, ◌∣◌, maybe, many, when}
use Rattle.chi_grammar.specs.Rules as rule
use Rattle.chi_grammar.specs.Trees.{Is}
use Rattle.chi_grammar.specs.Trees as is
use Rattle.chi_grammar.proofs.Rooms.{joined, Within-joined, Within-joined_right, around, IsInside-around, Is-within}
use Rattle.chi_token.specs.declared.place.Spanned.{Spanned}
use Rattle.chi_tree.specs.Classes.{class_of, number_of}
use Rattle.chi_tree.specs.Parts.{Part}
use Rattle.chi_tree.specs.Parts as s
use Rattle.chi_tree.specs.Rules.{grammar, rule_of}
use Rattle.chi_tree.specs.View.{Built}
use Rattle.chi_tree.proofs.ClassTokens.{token_at}
use Rattle.chi_tree_laws.proofs.UnplacedBuilt.{bare_token}

-- a tree of the rule, in some room
pub record SomeTree (r : Rule Spanned Part) : Type 0 where
  pub room : Room
  pub tree : Built
  pub is : Is grammar room r tree

-- the class has a token
abbrev has_token : ℕ → Bool
has_token class = number_of (class_of (token_at class [])) == class

-- Each class in the rule has a token and each part is known to have a tree: of all that stands in the rule, or only of what
-- the tree is made of here.
abbrev pub is_ready : Bool → (Part → Bool) → Rule Spanned Part → Bool
is_ready all known (rule.word class) = has_token class
is_ready all known (rule.part s) = known s
is_ready all known (a ▸ b) = is_ready all known a && is_ready all known b
is_ready true known (a ∣ b) = is_ready true known a && is_ready true known b
is_ready false known (a ∣ b) = is_ready false known b
is_ready true known (maybe a) = is_ready true known a
is_ready false known (maybe a) = true
is_ready true known (many a) = is_ready true known a
is_ready false known (many a) = true
is_ready all known (rule.deeper nesting a) = is_ready all known a
is_ready all known (when a test b c) = is_ready all known a && (is_ready all known b && is_ready all known c)

-- trees in a room as large as two together

pub in_first : {room : Room} {r : Rule Spanned Part} {t : Built} (other : Room) → Is grammar room r t → Is grammar (joined room other) r t
in_first {room} other p = Is-within grammar p (Within-joined room other)

pub in_second : {other : Room} {r : Rule Spanned Part} {t : Built} (room : Room) → Is grammar other r t → Is grammar (joined room other) r t
in_second {other} room p = Is-within grammar p (Within-joined_right room other)

-- the tree of a rule, from those of the rules in it

no_levels : Room
no_levels = record { blocks = 0; expressions = 0 }

word_tree : (class : ℕ) → has_token class ≡ true → SomeTree (rule.word class)
word_tree class e = record { room = no_levels; tree = leaf (bare_token (token_at class [])); is = is.word (eqb-true _ _ e) }

part_tree : (s : Part) → SomeTree (rule_of s) → SomeTree (rule.part s)
part_tree s u = record { room = u.room; tree = node s u.tree; is = is.part u.is }

both_trees : {a b : Rule Spanned Part} → SomeTree a → SomeTree b → SomeTree (a ▸ b)
both_trees u v = record {
  room = joined u.room v.room;
  tree = pair u.tree v.tree;
  is = is.both (in_first v.room u.is) (in_second u.room v.is);
}

right_tree : {a b : Rule Spanned Part} → SomeTree b → SomeTree (a ∣ b)
right_tree u = record { room = u.room; tree = u.tree; is = is.right u.is }

deeper_tree : (nesting : Nesting) {a : Rule Spanned Part} → SomeTree a → SomeTree (rule.deeper nesting a)
deeper_tree nesting u = record {
  room = around nesting u.room;
  tree = u.tree;
  is = is.deeper (IsInside-around nesting u.room) u.is;
}

when_tree : {a b c : Rule Spanned Part} {test : Built → Bool} (u : SomeTree a) → SomeTree b → SomeTree c
    → (answer : Bool) → test u.tree ≡ answer → SomeTree (when a test b c)
when_tree u v w true e = record {
  room = joined u.room v.room;
  tree = pair u.tree v.tree;
  is = is.chosen (in_first v.room u.is) e (in_second u.room v.is);
}
when_tree u v w false e = record {
  room = joined u.room w.room;
  tree = pair u.tree w.tree;
  is = is.otherwise (in_first w.room u.is) e (in_second u.room w.is);
}

-- the tree of a ready rule
ready_tree : (all : Bool) (known : Part → Bool) → ((s : Part) → known s ≡ true → SomeTree (rule.part s))
    → (r : Rule Spanned Part) → is_ready all known r ≡ true → SomeTree r
ready_tree all known parts (rule.word class) e = word_tree class e
ready_tree all known parts (rule.part s) e = parts s e
ready_tree all known parts (a ▸ b) e =
    let p = and_parts _ _ e in both_trees (ready_tree all known parts a p.0) (ready_tree all known parts b p.1)
ready_tree true known parts (a ∣ b) e = let p = and_parts _ _ e in right_tree (ready_tree true known parts b p.1)
ready_tree false known parts (a ∣ b) e = right_tree (ready_tree false known parts b e)
ready_tree all known parts (maybe a) e = record { room = no_levels; tree = none; is = is.never }
ready_tree all known parts (many a) e = record { room = no_levels; tree = none; is = is.enough }
ready_tree all known parts (rule.deeper nesting a) e = deeper_tree nesting (ready_tree all known parts a e)
ready_tree all known parts (when a test b c) e =
    let p = and_parts _ _ e in
    let q = and_parts _ _ p.1 in
    let u = ready_tree all known parts a p.0 in
    when_tree u (ready_tree all known parts b q.0) (ready_tree all known parts c q.1) (test u.tree) refl

-- the part has a tree in which so many parts at most stand one inside the other
abbrev within : ℕ → Part → Bool
within zero s = false
within (suc n) s = is_ready false (within n) (rule_of s)

tree_within : (n : ℕ) (s : Part) → within n s ≡ true → SomeTree (rule.part s)
tree_within zero s e = absurd (false≢true e)
tree_within (suc n) s e = part_tree s (ready_tree false (within n) (tree_within n) (rule_of s) e)

abbrev enough : ℕ
enough = 40

all_within : (s : Part) → within enough s ≡ true
all_within s.Program = refl
all_within s = refl

pub some_part : (s : Part) → SomeTree (rule.part s)
some_part s = tree_within enough s (all_within s)

-- each class in the rule has a token
abbrev pub has_words : Rule Spanned Part → Bool
has_words = is_ready true (λ s. true)

pub some_rule : (r : Rule Spanned Part) → has_words r ≡ true → SomeTree r
some_rule = ready_tree true (λ s. true) (λ s e. some_part s)

pub all_words : (s : Part) → has_words (rule_of s) ≡ true
all_words s.Program = refl
all_words s = refl
