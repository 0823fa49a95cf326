-- Readers of places: what takes the place of each token in turn and makes something of those that are kept.
use Rattle.std.proofs.Common.{◌≡◌, List, [], ◌∷◌, ◌++◌, Option, Some, None, refl, ap, sym, subst, ◌∙◌, append_assoc}
use Rattle.chi_token.specs.declared.place.Place.{Place}
use Rattle.chi_token.specs.declared.token.Token.{Token}
use Rattle.chi_tree.specs.View.{nowhere}
use Rattle.chi_tree_spell.specs.Marks.{Mark, mark, OneByOne}
use Rattle.chi_tree_spell.specs.Marks as marks
use Rattle.chi_tree_spell.specs.Words.{all, each_after, separated}

abbrev pub Reader : Type 0 → Type 0
Reader A = List Place → A × List Place

abbrev pub head_of : List Place → Place
head_of [] = nowhere
head_of (p ∷ ps) = p

abbrev pub tail_of : List Place → List Place
tail_of [] = []
tail_of (p ∷ ps) = ps

-- a token whose place is kept, and one whose place isn't

unfoldable pub keep : {A : Type 0} → (Place → Reader A) → Reader A
keep g ps = g (head_of ps) (tail_of ps)

unfoldable pub pass : {A : Type 0} → Reader A → Reader A
pass f ps = f (tail_of ps)

-- one part after another, the last part, and nothing more

unfoldable pub bind : {A B : Type 0} → Reader A → (A → Reader B) → Reader B
bind f g ps = g (f ps).0 (f ps).1

unfoldable pub last : {A B : Type 0} → Reader A → (A → B) → Reader B
last f k ps = (k (f ps).0, (f ps).1)

unfoldable pub done : {A : Type 0} → A → Reader A
done x ps = (x, ps)

-- parts in turn, each after a token, and with a token between each two

abbrev pub each : {A : Type 0} → List (Reader A) → Reader (List A)
each [] = done []
each (f ∷ fs) = bind f (λ x. last (each fs) (λ xs. x ∷ xs))

abbrev pub after_each : {A : Type 0} → List (Reader A) → Reader (List A)
after_each [] = done []
after_each (f ∷ fs) = pass (bind f (λ x. last (after_each fs) (λ xs. x ∷ xs)))

abbrev pub between : {A : Type 0} → List (Reader A) → Reader (List A)
between [] = done []
between (f ∷ fs) = bind f (λ x. last (after_each fs) (λ xs. x ∷ xs))

-- what may be left out
abbrev pub optional : {A : Type 0} → Option (Reader A) → Reader (Option A)
optional None = done None
optional (Some f) = last f (λ x. Some x)

-- the places are those that the marks keep
abbrev pub IsPlaceOf : Mark → Place → Type 0
IsPlaceOf m p = (kept : Place) → m.place ≡ Some kept → kept ≡ p

abbrev pub Fit : List Mark → List Place → Type 0
Fit = OneByOne IsPlaceOf

-- of the places that fit the marks the reader makes this
pub record Gives {A : Type 0} (f : Reader A) (ms : List Mark) (x : A) : Type 0 where
  pub given : (ps rest : List Place) → Fit ms ps → f (ps ++ rest) ≡ (x, rest)

pub record FitParts (ms ns : List Mark) (ps : List Place) : Type 0 where
  pub first : List Place
  pub second : List Place
  pub are : ps ≡ first ++ second
  pub fits : Fit ms first
  pub fits_too : Fit ns second

pub fit_parts : (ms ns : List Mark) (ps : List Place) → Fit (ms ++ ns) ps → FitParts ms ns ps
fit_parts [] ns ps h = record { first = []; second = ps; are = refl; fits = marks.none; fits_too = h }
fit_parts (m ∷ ms) ns [] h = elim h [ ]
fit_parts (m ∷ ms) ns (p ∷ ps) (marks.more r h) =
    let f = fit_parts ms ns ps h in record {
      first = p ∷ f.first;
      second = f.second;
      are = ap (λ qs. p ∷ qs) f.are;
      fits = marks.more r f.fits;
      fits_too = f.fits_too;
    }

nothing : {A : Type 0} (x : A) (ps rest : List Place) → Fit [] ps → ◌≡◌ {A = A × List Place} (x, ps ++ rest) (x, rest)
nothing x [] rest marks.none = refl
nothing x (p ∷ ps) rest h = elim h [ ]

pub gives-done : {A : Type 0} (x : A) → Gives (done x) [] x
unfolding done
gives-done x = record { given = λ ps rest h. nothing x ps rest h }

kept : {A : Type 0} (t : Token) (p : Place) (g : Place → Reader A) {ms : List Mark} {x : A} → Gives (g p) ms x
    → (ps rest : List Place) → Fit (mark t (Some p) ∷ ms) ps → g (head_of (ps ++ rest)) (tail_of (ps ++ rest)) ≡ (x, rest)
kept t p g h [] rest fit = elim fit [ ]
kept t p g h (q ∷ qs) rest (marks.more r f) = ap (λ y. g y (qs ++ rest)) (sym (r p refl)) ∙ h.given qs rest f

pub gives-keep : {A : Type 0} (t : Token) (p : Place) (g : Place → Reader A) {ms : List Mark} {x : A} → Gives (g p) ms x
    → Gives (keep g) (mark t (Some p) ∷ ms) x
unfolding keep
gives-keep t p g h = record { given = λ ps rest f. kept t p g h ps rest f }

passed : {A : Type 0} (t : Token) {f : Reader A} {ms : List Mark} {x : A} → Gives f ms x
    → (ps rest : List Place) → Fit (mark t None ∷ ms) ps → f (tail_of (ps ++ rest)) ≡ (x, rest)
passed t h [] rest fit = elim fit [ ]
passed t h (q ∷ qs) rest (marks.more r g) = h.given qs rest g

pub gives-pass : {A : Type 0} (t : Token) {f : Reader A} {ms : List Mark} {x : A} → Gives f ms x → Gives (pass f) (mark t None ∷ ms) x
unfolding pass
gives-pass t h = record { given = λ ps rest g. passed t h ps rest g }

bound : {A B : Type 0} {f : Reader A} (g : A → Reader B) {ms ns : List Mark} {x : A} {y : B} → Gives f ms x → Gives (g x) ns y
    → (ps rest : List Place) → FitParts ms ns ps → g (f (ps ++ rest)).0 (f (ps ++ rest)).1 ≡ (y, rest)
bound {A} {f = f} g {x = x} h k ps rest parts =
    let whole : ps ++ rest ≡ parts.first ++ (parts.second ++ rest) =
    ap (λ qs. qs ++ rest) parts.are ∙ append_assoc parts.first parts.second rest in
    let one : f (ps ++ rest) ≡ (x, parts.second ++ rest) = ap f whole ∙ h.given parts.first (parts.second ++ rest) parts.fits in
    ap (λ (z : A × List Place). g z.0 z.1) one ∙ k.given parts.second rest parts.fits_too

pub gives-bind : {A B : Type 0} {f : Reader A} (g : A → Reader B) {ms ns : List Mark} {x : A} {y : B} → Gives f ms x → Gives (g x) ns y
    → Gives (bind f g) (ms ++ ns) y
unfolding bind
gives-bind g {ms = ms} {ns = ns} h k = record { given = λ ps rest fit. bound g h k ps rest (fit_parts ms ns ps fit) }

pub gives-last : {A B : Type 0} {f : Reader A} (k : A → B) {ms : List Mark} {x : A} → Gives f ms x → Gives (last f k) ms (k x)
unfolding last
gives-last {A} k h = record { given = λ ps rest fit. ap (λ (z : A × List Place). (k z.0, z.1)) (h.given ps rest fit) }

pub gives_as : {A : Type 0} {f g : Reader A} {ms ns : List Mark} {x : A} → f ≡ g → ms ≡ ns → Gives g ns x → Gives f ms x
gives_as {A} {f} {g} {ms} {ns} {x} e d h = subst (λ r. Gives r ms x) (sym e) (subst (λ qs. Gives g qs x) (sym d) h)

-- lists

pub gives-more : {A : Type 0} {f : Reader A} (fs : List (Reader A)) {m : List Mark} (ms : List (List Mark)) {x : A} {xs : List A}
    → Gives f m x → Gives (each fs) (all ms) xs → Gives (each (f ∷ fs)) (all (m ∷ ms)) (x ∷ xs)
gives-more fs ms {x = x} h k = gives-bind (λ y. last (each fs) (λ ys. y ∷ ys)) h (gives-last (λ ys. x ∷ ys) k)

pub gives-after_more : {A : Type 0} (t : Token) {f : Reader A} (fs : List (Reader A)) {m : List Mark} (ms : List (List Mark)) {x : A} {xs : List A}
    → Gives f m x → Gives (after_each fs) (each_after (mark t None) ms) xs
    → Gives (after_each (f ∷ fs)) (each_after (mark t None) (m ∷ ms)) (x ∷ xs)
gives-after_more t fs ms {x = x} h k =
    gives-pass t (gives-bind (λ y. last (after_each fs) (λ ys. y ∷ ys)) h (gives-last (λ ys. x ∷ ys) k))

pub gives-between : {A : Type 0} (t : Token) {f : Reader A} (fs : List (Reader A)) {m : List Mark} (ms : List (List Mark)) {x : A} {xs : List A}
    → Gives f m x → Gives (after_each fs) (each_after (mark t None) ms) xs
    → Gives (between (f ∷ fs)) (separated (mark t None) (m ∷ ms)) (x ∷ xs)
gives-between t fs ms {x = x} h k = gives-bind (λ y. last (after_each fs) (λ ys. y ∷ ys)) h (gives-last (λ ys. x ∷ ys) k)
