-- Each front of a rule is the beginning of a tree of it, in a room that may be larger.
use Rattle.std.proofs.Common.{◌≡◌, Bool, true, false, List, [], ◌++◌, refl, ap, sym, ◌∙◌, append_assoc, append-nil}
use Rattle.std.proofs.lemmas.Bool.{and_parts}
use Rattle.chi_grammar.specs.declared.room.Nesting.{Nesting}
use Rattle.chi_grammar.specs.declared.room.Room.{Room}
use Rattle.chi_grammar.specs.Rules.{node, pair, none, spelling, Rule, ◌▸◌, ◌∣◌, maybe, many, when}
use Rattle.chi_grammar.specs.Rules as rule
use Rattle.chi_grammar.specs.Trees.{Is}
use Rattle.chi_grammar.specs.Trees as is
use Rattle.chi_grammar.specs.Fronts.{Front}
use Rattle.chi_grammar.specs.Fronts as front
use Rattle.chi_grammar.proofs.Rooms.{around, IsInside-around}
use Rattle.chi_token.specs.declared.place.Spanned.{Spanned}
use Rattle.chi_tree.specs.Parts.{Part}
use Rattle.chi_tree.specs.Rules.{grammar}
use Rattle.chi_tree.specs.View.{Built}
use Rattle.chi_tree_laws.proofs.SomeTree.{SomeTree, in_first, in_second, has_words, some_rule, all_words}

-- a tree of the rule, in some room, that begins with these tokens
pub record BegunTree (r : Rule Spanned Part) (f : List Spanned) : Type 0 where
  pub room : Room
  pub tree : Built
  pub is : Is grammar room r tree
  pub more : List Spanned
  pub spells : spelling tree ≡ f ++ more

-- no tokens, of any tree; and all tokens of one

begun_empty : {r : Rule Spanned Part} → SomeTree r → BegunTree r []
begun_empty u = record { room = u.room; tree = u.tree; is = u.is; more = spelling u.tree; spells = refl }

begun_whole : {room : Room} {r : Rule Spanned Part} {t : Built} {f : List Spanned} → Is grammar room r t → f ≡ spelling t → BegunTree r f
begun_whole {room} {t = t} {f = f} p e = record { room = room; tree = t; is = p; more = []; spells = sym e ∙ sym (append-nil f) }

-- the front ends in the first of two trees, or in the second

first_begun : {room : Room} {r : Rule Spanned Part} {t u : Built} {f : List Spanned} (more : List Spanned)
    → spelling t ≡ f ++ more → Is grammar room r (pair t u) → BegunTree r f
first_begun {room} {t = t} {u = u} {f = f} more e p = record {
  room = room;
  tree = pair t u;
  is = p;
  more = more ++ spelling u;
  spells = ap (λ ts. ts ++ spelling u) e ∙ append_assoc f more (spelling u);
}

next_begun : {room : Room} {r : Rule Spanned Part} {t u : Built} {f : List Spanned} (h more : List Spanned)
    → f ≡ spelling t ++ h → spelling u ≡ h ++ more → Is grammar room r (pair t u) → BegunTree r f
next_begun {room} {t = t} {u = u} h more e d p = record {
  room = room;
  tree = pair t u;
  is = p;
  more = more;
  spells = ap (λ ts. spelling t ++ ts) d ∙ sym (append_assoc (spelling t) h more) ∙ ap (λ ts. ts ++ more) (sym e);
}

-- one after the other

begun_first : {a b : Rule Spanned Part} {f : List Spanned} → BegunTree a f → SomeTree b → BegunTree (a ▸ b) f
begun_first u v = first_begun u.more u.spells (is.both (in_first v.room u.is) (in_second u.room v.is))

begun_next : {room : Room} {a b : Rule Spanned Part} {t : Built} {f : List Spanned} (h : List Spanned)
    → Is grammar room a t → BegunTree b h → f ≡ spelling t ++ h → BegunTree (a ▸ b) f
begun_next {room} h p v e = next_begun h v.more e v.spells (is.both (in_first v.room p) (in_second room v.is))

-- one of many

begun_one : {a : Rule Spanned Part} {f : List Spanned} → BegunTree a f → BegunTree (many a) f
begun_one u = first_begun u.more u.spells (is.more u.is is.enough)

begun_more : {room : Room} {a : Rule Spanned Part} {t : Built} {f : List Spanned} (h : List Spanned)
    → Is grammar room a t → BegunTree (many a) h → f ≡ spelling t ++ h → BegunTree (many a) f
begun_more {room} h p v e = next_begun h v.more e v.spells (is.more (in_first v.room p) (in_second room v.is))

-- before a test, and after it

begun_before : {a b c : Rule Spanned Part} {test : Built → Bool} {f : List Spanned} (u : BegunTree a f) → SomeTree b → SomeTree c
    → (answer : Bool) → test u.tree ≡ answer → BegunTree (when a test b c) f
begun_before u v w true e = first_begun u.more u.spells (is.chosen (in_first v.room u.is) e (in_second u.room v.is))
begun_before u v w false e = first_begun u.more u.spells (is.otherwise (in_first w.room u.is) e (in_second u.room w.is))

begun_chosen : {room : Room} {a b c : Rule Spanned Part} {test : Built → Bool} {t : Built} {f : List Spanned} (h : List Spanned)
    → Is grammar room a t → test t ≡ true → BegunTree b h → f ≡ spelling t ++ h → BegunTree (when a test b c) f
begun_chosen {room} h p answer v e = next_begun h v.more e v.spells (is.chosen (in_first v.room p) answer (in_second room v.is))

begun_otherwise : {room : Room} {a b c : Rule Spanned Part} {test : Built → Bool} {t : Built} {f : List Spanned} (h : List Spanned)
    → Is grammar room a t → test t ≡ false → BegunTree c h → f ≡ spelling t ++ h → BegunTree (when a test b c) f
begun_otherwise {room} h p answer v e = next_begun h v.more e v.spells (is.otherwise (in_first v.room p) answer (in_second room v.is))

-- the tree stays, or becomes a part

begun_left : {a b : Rule Spanned Part} {f : List Spanned} → BegunTree a f → BegunTree (a ∣ b) f
begun_left u = record { room = u.room; tree = u.tree; is = is.left u.is; more = u.more; spells = u.spells }

begun_right : {a b : Rule Spanned Part} {f : List Spanned} → BegunTree b f → BegunTree (a ∣ b) f
begun_right u = record { room = u.room; tree = u.tree; is = is.right u.is; more = u.more; spells = u.spells }

begun_once : {a : Rule Spanned Part} {f : List Spanned} → BegunTree a f → BegunTree (maybe a) f
begun_once u = record { room = u.room; tree = u.tree; is = is.once u.is; more = u.more; spells = u.spells }

begun_deeper : (nesting : Nesting) {a : Rule Spanned Part} {f : List Spanned} → BegunTree a f → BegunTree (rule.deeper nesting a) f
begun_deeper nesting u = record {
  room = around nesting u.room;
  tree = u.tree;
  is = is.deeper (IsInside-around nesting u.room) u.is;
  more = u.more;
  spells = u.spells;
}

begun_part : (s : Part) {f : List Spanned} → BegunTree (grammar.rule_of s) f → BegunTree (rule.part s) f
begun_part s u = record { room = u.room; tree = node s u.tree; is = is.part u.is; more = u.more; spells = u.spells }

-- where each class in the rule has a token
pub front_tree : {room : Room} {r : Rule Spanned Part} {f : List Spanned} → has_words r ≡ true → Front grammar room r f → BegunTree r f
front_tree w (front.empty {r = r}) = begun_empty (some_rule r w)
front_tree w (front.whole p e) = begun_whole p e
front_tree w (front.part {s = s} p) = begun_part s (front_tree (all_words s) p)
front_tree w (front.first {b = b} p) = let v = and_parts _ _ w in begun_first (front_tree v.0 p) (some_rule b v.1)
front_tree w (front.next {h = h} p q e) = let v = and_parts _ _ w in begun_next h p (front_tree v.1 q) e
front_tree w (front.left p) = let v = and_parts _ _ w in begun_left (front_tree v.0 p)
front_tree w (front.right p) = let v = and_parts _ _ w in begun_right (front_tree v.1 p)
front_tree w (front.once p) = begun_once (front_tree w p)
front_tree w (front.one p) = begun_one (front_tree w p)
front_tree w (front.more {h = h} p q e) = begun_more h p (front_tree w q) e
front_tree w (front.deeper {nesting = nesting} i p) = begun_deeper nesting (front_tree w p)
front_tree w (front.before {b = b} {c = c} {test = test} p) =
    let v = and_parts _ _ w in
    let x = and_parts _ _ v.1 in
    let u = front_tree v.0 p in
    begun_before u (some_rule b x.0) (some_rule c x.1) (test u.tree) refl
front_tree w (front.chosen {h = h} p e q f) = let v = and_parts _ _ w in let x = and_parts _ _ v.1 in begun_chosen h p e (front_tree x.0 q) f
front_tree w (front.otherwise {h = h} p e q f) = let v = and_parts _ _ w in let x = and_parts _ _ v.1 in begun_otherwise h p e (front_tree x.1 q) f
