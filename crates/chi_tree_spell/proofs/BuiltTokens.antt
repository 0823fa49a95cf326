-- What single rules build, and how it is read: by a reading that puts something for each token.
use Rattle.std.proofs.Common.{◌≡◌, ℕ, List, [], ◌∷◌, ◌++◌, Some, None, subst}
use Rattle.chi_grammar.specs.declared.room.Room.{Room}
use Rattle.chi_grammar.specs.Rules.{Tree, leaf, node, pair, none, spelling, Rule}
use Rattle.chi_grammar.specs.Rules as rule
use Rattle.chi_token.specs.declared.place.Spanned.{Spanned}
use Rattle.chi_tree.specs.Classes.{class_of, number_of}
use Rattle.chi_tree.specs.Parts.{Part}
use Rattle.chi_tree.specs.Rules.{name}
use Rattle.chi_tree.specs.Tokens.{bytes_of}
use Rattle.chi_tree.specs.View.{Built, name_in, place_in}
use Rattle.chi_tree_spell.specs.Marks.{Put, OneByOne}
use Rattle.chi_tree_spell.specs.Marks as marks
use Rattle.chi_tree_spell.specs.Expressions.{bare, kept, put_name}
use Rattle.chi_tree.proofs.Made.{Made}
use Rattle.chi_tree.proofs.Made as made
use Rattle.chi_tree.proofs.ClassTokens.{token_at, token_is}

-- What is put for a token with its place or without, and when what was put is right for a token that was read: it is for the same
-- token, with its place or without.
pub record Reading : Type 1 where
  pub X : Type 0
  pub put : Put X
  pub Fits : X → Spanned → Type 0
  pub fits_bare : (x : Spanned) → Fits (put x.token None) x
  pub fits_kept : (x : Spanned) → Fits (put x.token (Some x.place)) x

-- what was put is right for the tokens of the tree, one by one
pub record Spells (reading : Reading) (t : Built) (xs : List reading.X) : Type 0 where
  pub same : OneByOne reading.Fits xs (spelling t)

abbrev pub bytes_in : Built → List ℕ
bytes_in (leaf x) = bytes_of x.token
bytes_in _ = []

pub append : {X Y : Type 0} {R : X → Y → Type 0} {xs us : List X} {ys vs : List Y} → OneByOne R xs ys → OneByOne R us vs → OneByOne R (xs ++ us) (ys ++ vs)
append marks.none q = q
append (marks.more h p) q = marks.more h (append p q)

module _ {reading : Reading} where
  pub beside : {t u : Built} {ts us : List reading.X} → Spells reading t ts → Spells reading u us → Spells reading (pair t u) (ts ++ us)
  beside e f = record { same = append e.same f.same }

  pub within : {s : Part} {t : Built} {ts : List reading.X} → Spells reading t ts → Spells reading (node s t) ts
  within e = record { same = e.same }

  pub nothing : Spells reading none []
  nothing = record { same = marks.none }

  pub also : {t : Built} {ts us : List reading.X} → Spells reading t ts → ts ≡ us → Spells reading t us
  also {t = t} e f = record { same = subst (λ xs. OneByOne reading.Fits xs (spelling t)) f e.same }

  -- a token of a class, without its place, and with it

  pub exactly : (x : Spanned) {n : ℕ} → number_of (class_of x.token) ≡ n → Spells reading (leaf x) (bare reading.put (token_at n (bytes_of x.token)) ∷ [])
  exactly x e = record { same = marks.more (subst (λ t. reading.Fits (bare reading.put t) x) (token_is x.token e) (reading.fits_bare x)) marks.none }

  pub exactly_kept : (x : Spanned) {n : ℕ} → number_of (class_of x.token) ≡ n
      → Spells reading (leaf x) (kept reading.put (token_at n (bytes_of x.token)) x.place ∷ [])
  exactly_kept x e = record { same = marks.more (subst (λ t. reading.Fits (kept reading.put t x.place) x) (token_is x.token e) (reading.fits_kept x)) marks.none }

  pub one : {P : Room → Part → Built → Type 0} {room : Room} {class : ℕ} {t : Built} → Made P room (rule.word class) t
      → Spells reading t (bare reading.put (token_at class (bytes_in t)) ∷ [])
  one (made.word {x = x} e) = exactly x e

  pub one_kept : {P : Room → Part → Built → Type 0} {room : Room} {class : ℕ} {t : Built} → Made P room (rule.word class) t
      → Spells reading t (kept reading.put (token_at class (bytes_in t)) (place_in t) ∷ [])
  one_kept (made.word {x = x} e) = exactly_kept x e

  pub a_name : {P : Room → Part → Built → Type 0} {room : Room} {t : Built} → Made P room name t → Spells reading t (put_name reading.put (name_in t) ∷ [])
  a_name (made.word {x = x} e) = exactly_kept x e
