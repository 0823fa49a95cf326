-- What the grammar builds by rules that don't name "end" has no token "end".
use Rattle.std.proofs.Common.{◌≡◌, ℕ, zero, suc, Bool, true, false, List, [], ◌∷◌, ◌++◌, map, refl, ap, sym, ◌∙◌, if◌then◌else◌}
use Rattle.std.proofs.lemmas.Bool.{false≢true}
use Rattle.chi_grammar.specs.declared.room.Room.{Room}
use Rattle.chi_grammar.specs.Rules.{spelling, Rule, ◌▸◌, ◌∣◌, maybe, many, when}
use Rattle.chi_grammar.specs.Rules as rule
use Rattle.chi_grammar.specs.Trees.{Is}
use Rattle.chi_grammar.specs.Trees as is
use Rattle.chi_token.specs.declared.place.Spanned.{Spanned}
use Rattle.chi_token.specs.declared.token.Token.{Token}
use Rattle.chi_tree.specs.Classes.{class_of, number_of}
use Rattle.chi_tree.specs.Parts.{Part}
use Rattle.chi_tree.specs.Parts as s
use Rattle.chi_tree.specs.Rules.{grammar, rule_of}
use Rattle.chi_tree.specs.Tokens.{bytes_of}
use Rattle.chi_tree.specs.View.{Built}
use Rattle.chi_tree_spell.specs.Words.{token_of}
use Rattle.chi_tree.proofs.ClassTokens.{token_at, token_is}
use Rattle.chi_tree_laws.proofs.LastToken.{is_end, last_is_end}

-- no token is "end"
data NoEnd : List Spanned → Type 0 where
  no_tokens : NoEnd []
  one_more : {x : Spanned} {xs : List Spanned} → is_end x.token ≡ false → NoEnd xs → NoEnd (x ∷ xs)

joined : {xs ys : List Spanned} → NoEnd xs → NoEnd ys → NoEnd (xs ++ ys)
joined no_tokens q = q
joined (one_more e p) q = one_more e (joined p q)

last_of_none : {xs : List Spanned} → NoEnd xs → last_is_end (map token_of xs) ≡ false
last_of_none no_tokens = refl
last_of_none (one_more e no_tokens) = e
last_of_none (one_more e (one_more {x = x} f p)) = last_of_none (one_more {x = x} f p)

-- parts that may hold a block, or what an unwind repeats
abbrev part_names_end : Part → Bool
part_names_end s.Program = true
part_names_end s.Definition = true
part_names_end s.Defined = true
part_names_end s.FuncDef = true
part_names_end s.ProcDef = true
part_names_end s.ModelDef = true
part_names_end s.XperDef = true
part_names_end s.Body = true
part_names_end s.Block = true
part_names_end s.AfterEnd = true
part_names_end s.AfterOpen = true
part_names_end s.Inner = true
part_names_end s.Closed = true
part_names_end s.If = true
part_names_end s.Branch = true
part_names_end s.Elif = true
part_names_end s.Else = true
part_names_end s.While = true
part_names_end s.For = true
part_names_end s.Select = true
part_names_end s.Alternatives = true
part_names_end s.Alternative = true
part_names_end s.UnwoundAlternatives = true
part_names_end s.GuardedAlternative = true
part_names_end s.AlternativeBody = true
part_names_end s.Launch = true
part_names_end s.Elements = true
part_names_end s.Element = true
part_names_end s.UnwoundElements = true
part_names_end _ = false

-- the rule names "end", or a part that does
abbrev names_end : Rule Spanned Part → Bool
names_end (rule.word class) = is_end (token_at class [])
names_end (rule.part s) = part_names_end s
names_end (a ▸ b) = if names_end a then true else names_end b
names_end (a ∣ b) = if names_end a then true else names_end b
names_end (maybe a) = names_end a
names_end (many a) = names_end a
names_end (rule.deeper nesting a) = names_end a
names_end (when a test b c) = if names_end a then true else if names_end b then true else names_end c

-- the rule of each part names "end" where the part does
by_rule : (s : Part) → names_end (rule_of s) ≡ part_names_end s
by_rule s.Program = refl
by_rule _ = refl

neither : (a b : Bool) → (if a then true else b) ≡ false → (a ≡ false) × (b ≡ false)
neither true b e = absurd (false≢true (sym e))
neither false b e = (refl, e)

-- the bytes of a token don't make it "end"
for_any_bytes : (class : ℕ) (bytes : List ℕ) → is_end (token_at class bytes) ≡ is_end (token_at class [])
for_any_bytes zero bytes = refl
for_any_bytes (suc zero) bytes = refl
for_any_bytes (suc (suc zero)) bytes = refl
for_any_bytes (suc (suc (suc zero))) bytes = refl
for_any_bytes (suc (suc (suc (suc n)))) bytes = refl

other_class : (t : Token) {class : ℕ} → number_of (class_of t) ≡ class → is_end (token_at class []) ≡ false → is_end t ≡ false
other_class t {class = class} e h = ap is_end (token_is t e) ∙ for_any_bytes class (bytes_of t) ∙ h

-- a rule that doesn't name "end" builds no "end"
no_end : {room : Room} {r : Rule Spanned Part} {t : Built} → Is grammar room r t → names_end r ≡ false → NoEnd (spelling t)
no_end (is.word {x = x} e) h = one_more (other_class x.token e h) no_tokens
no_end (is.part {s = s} p) h = no_end p (by_rule s ∙ h)
no_end (is.both {a = a} {b = b} p q) h = let k = neither (names_end a) (names_end b) h in joined (no_end p k.0) (no_end q k.1)
no_end (is.left {a = a} {b = b} p) h = no_end p (neither (names_end a) (names_end b) h).0
no_end (is.right {a = a} {b = b} p) h = no_end p (neither (names_end a) (names_end b) h).1
no_end (is.once p) h = no_end p h
no_end is.never h = no_tokens
no_end (is.more p ps) h = joined (no_end p h) (no_end ps h)
no_end is.enough h = no_tokens
no_end (is.deeper i p) h = no_end p h
no_end (is.chosen {a = a} {b = b} {c = c} p e q) h =
    let k = neither (names_end a) (if names_end b then true else names_end c) h in
    joined (no_end p k.0) (no_end q (neither (names_end b) (names_end c) k.1).0)
no_end (is.otherwise {a = a} {b = b} {c = c} p e q) h =
    let k = neither (names_end a) (if names_end b then true else names_end c) h in
    joined (no_end p k.0) (no_end q (neither (names_end b) (names_end c) k.1).1)

-- so the last token of what such a rule builds is another one
pub ends_in_another : {room : Room} {r : Rule Spanned Part} {t : Built} → Is grammar room r t → names_end r ≡ false
    → last_is_end (map token_of (spelling t)) ≡ false
ends_in_another p h = last_of_none (no_end p h)
