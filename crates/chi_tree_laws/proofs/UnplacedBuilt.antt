-- A built tree without its places, and the rules that build it as well.
use Rattle.std.proofs.Common.{◌≡◌, Bool, true, false, List, [], ◌∷◌, ◌++◌, map, refl, ap, sym, ◌∙◌, if◌then◌else◌}
use Rattle.std.proofs.lemmas.Bool.{false≢true}
use Rattle.std.proofs.lemmas.List.{map-append}
use Rattle.chi_grammar.specs.declared.room.Room.{Room}
use Rattle.chi_grammar.specs.Rules.{Tree, leaf, node, pair, none, spelling, Rule, ◌▸◌, ◌∣◌, maybe, many, when}
use Rattle.chi_grammar.specs.Rules as rule
use Rattle.chi_grammar.specs.Trees.{Is}
use Rattle.chi_grammar.specs.Trees as is
use Rattle.chi_token.specs.declared.place.Spanned.{Spanned}
use Rattle.chi_token.specs.declared.token.Token.{Token}
use Rattle.chi_tree.specs.Parts.{Part}
use Rattle.chi_tree.specs.Rules.{grammar, rule_of}
use Rattle.chi_tree.specs.View.{Built, nowhere}
use Rattle.chi_tree_spell.specs.Words.{token_of}

abbrev pub bare_token : Token → Spanned
bare_token t = record { token = t; place = nowhere; start = 0; stop = 0 }

abbrev pub unplaced_token : Spanned → Spanned
unplaced_token x = bare_token x.token

abbrev pub unplaced_tree : Built → Built
unplaced_tree (leaf x) = leaf (unplaced_token x)
unplaced_tree (node s t) = node s (unplaced_tree t)
unplaced_tree (pair t u) = pair (unplaced_tree t) (unplaced_tree u)
unplaced_tree none = none

pub unplaced_spelling : (t : Built) → spelling (unplaced_tree t) ≡ map unplaced_token (spelling t)
unplaced_spelling (leaf x) = refl
unplaced_spelling (node s t) = unplaced_spelling t
unplaced_spelling (pair t u) =
    (λ i. unplaced_spelling t i ++ unplaced_spelling u i) ∙ sym (map-append unplaced_token (spelling t) (spelling u))
unplaced_spelling none = refl

by_tokens : (xs : List Spanned) → map unplaced_token xs ≡ map bare_token (map token_of xs)
by_tokens [] = refl
by_tokens (x ∷ xs) = ap (λ ys. unplaced_token x ∷ ys) (by_tokens xs)

pub same_unplaced : (xs ys : List Spanned) → map token_of xs ≡ map token_of ys → map unplaced_token xs ≡ map unplaced_token ys
same_unplaced xs ys e = by_tokens xs ∙ ap (map bare_token) e ∙ sym (by_tokens ys)

-- no test of the rule sees a place
abbrev pub Blind : Rule Spanned Part → Type 0
Blind (rule.word class) = Unit {0}
Blind (rule.part s) = Unit {0}
Blind (a ▸ b) = Blind a × Blind b
Blind (a ∣ b) = Blind a × Blind b
Blind (maybe a) = Blind a
Blind (many a) = Blind a
Blind (rule.deeper nesting a) = Blind a
Blind (when a test b c) = Blind a × ((t : Built) → test (unplaced_tree t) ≡ test t) × Blind b × Blind c

-- the rule has no test
abbrev pub is_plain : Rule Spanned Part → Bool
is_plain (rule.word class) = true
is_plain (rule.part s) = true
is_plain (a ▸ b) = if is_plain a then is_plain b else false
is_plain (a ∣ b) = if is_plain a then is_plain b else false
is_plain (maybe a) = is_plain a
is_plain (many a) = is_plain a
is_plain (rule.deeper nesting a) = is_plain a
is_plain (when a test b c) = false

first_true : (a b : Bool) → (if a then b else false) ≡ true → a ≡ true
first_true true b e = refl
first_true false b e = e

then_true : (a b : Bool) → (if a then b else false) ≡ true → b ≡ true
then_true true b e = e
then_true false b e = absurd (false≢true e)

pub plain : (r : Rule Spanned Part) → is_plain r ≡ true → Blind r
plain (rule.word class) e = tt
plain (rule.part s) e = tt
plain (a ▸ b) e = (plain a (first_true (is_plain a) (is_plain b) e), plain b (then_true (is_plain a) (is_plain b) e))
plain (a ∣ b) e = (plain a (first_true (is_plain a) (is_plain b) e), plain b (then_true (is_plain a) (is_plain b) e))
plain (maybe a) e = plain a e
plain (many a) e = plain a e
plain (rule.deeper nesting a) e = plain a e
plain (when a test b c) e = absurd (false≢true e)

module _ (blind : (s : Part) → Blind (rule_of s)) where
  -- what a rule builds it builds without the places too
  pub unplaced_is : {room : Room} {r : Rule Spanned Part} {t : Built} → Blind r → Is grammar room r t → Is grammar room r (unplaced_tree t)
  unplaced_is b (is.word e) = is.word e
  unplaced_is b (is.part {s = s} p) = is.part (unplaced_is (blind s) p)
  unplaced_is b (is.both p q) = is.both (unplaced_is b.0 p) (unplaced_is b.1 q)
  unplaced_is b (is.left p) = is.left (unplaced_is b.0 p)
  unplaced_is b (is.right p) = is.right (unplaced_is b.1 p)
  unplaced_is b (is.once p) = is.once (unplaced_is b p)
  unplaced_is b is.never = is.never
  unplaced_is b (is.more p ps) = is.more (unplaced_is b p) (unplaced_is b ps)
  unplaced_is b is.enough = is.enough
  unplaced_is b (is.deeper i p) = is.deeper i (unplaced_is b p)
  unplaced_is b (is.chosen {t = t} p e q) = is.chosen (unplaced_is b.0 p) (b.1 t ∙ e) (unplaced_is b.2 q)
  unplaced_is b (is.otherwise {t = t} p e q) = is.otherwise (unplaced_is b.0 p) (b.1 t ∙ e) (unplaced_is b.3 q)
