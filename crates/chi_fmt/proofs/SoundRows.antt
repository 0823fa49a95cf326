-- How sound rows are put together.
use Rattle.std.proofs.Common.{◌≡◌, ℕ, Bool, true, false, not, ◌||◌, ◌&&◌, List, [], ◌∷◌, ◌++◌, refl, sym, ap, subst, append_assoc}
use Rattle.chi_token.specs.declared.sign.Sign.TheVariants.{Dot, LeftBrace, LeftBracket, LeftParen, RightBrace, RightBracket, RightParen}
use Rattle.chi_token.specs.declared.token.Token.{Token}
use Rattle.chi_token.specs.declared.token.Token.TheVariants as token
use Rattle.chi_fmt.specs.declared.spot.Role.TheVariants.{Usual}
use Rattle.chi_fmt.specs.declared.spot.Spot.{Spot}
use Rattle.chi_fmt.specs.Expressions.{Spots, spot}
use Rattle.chi_fmt.specs.Parts.{sign}
use Rattle.chi_fmt.specs.Spaces.{opens}
use Rattle.chi_fmt.specs.Sound.{role_fits, is_dot, is_name, starts_equal, is_tight, is_row}

-- the first spot, if there is one, begins with no equals sign
abbrev pub begins_well : List Spot → Bool
begins_well [] = true
begins_well (s ∷ ss) = not (starts_equal s.token)

-- before any sound row the spots are one
abbrev pub Rows : Spots → Type 0
Rows xs = (ys : List Spot) → is_row ys ≡ true → is_row (xs ++ ys) ≡ true

-- spots that are there, and begin with no equals sign
pub record Fine (xs : Spots) : Type 0 where
  pub begins : (ys : List Spot) → begins_well (xs ++ ys) ≡ true
  pub row : Rows xs

-- the same, or none
pub record Inner (xs : Spots) : Type 0 where
  pub begins : (ys : List Spot) → begins_well ys ≡ true → begins_well (xs ++ ys) ≡ true
  pub row : Rows xs

-- one spot before others

-- a token after which a space stands, or what needs none
pub plain-row : (t : Token) → opens t ≡ false → is_dot t ≡ false → (ys : List Spot) → is_row ys ≡ true → is_row (spot t Usual ∷ ys) ≡ true
plain-row t o d [] h = refl
plain-row t o d (u ∷ us) h = rw o (rw d h)

combine : (a t e d n w : Bool) → a ≡ true → not e ≡ true → d ≡ false → w ≡ true → (a && (((not t || not e) && (not d || n)) && w)) ≡ true
combine false t e d n w p q r s = cc
combine true t e true n w p q r s = cc
combine true t e false n false p q r s = cc
combine true true true false n true p q r s = cc
combine true true false false n true p q r s = refl
combine true false e false n true p q r s = refl

-- a sign after which the next one may stand without a space
pub tight-row : (s : Spot) → role_fits s.role s.token ≡ true → is_dot s.token ≡ false → (ys : List Spot) → begins_well ys ≡ true → is_row ys ≡ true
    → is_row (s ∷ ys) ≡ true
tight-row s r d [] b h = ap (λ x. x && (true && true)) r
tight-row s r d (u ∷ us) b h = combine (role_fits s.role s.token) (is_tight s) (starts_equal u.token) (is_dot s.token) (is_name u.token) (is_row (u ∷ us)) r b d h

-- a field
pub field-row : (bytes : List ℕ) → Rows (sign Dot ∷ spot (token.Name bytes) Usual ∷ [])
field-row bytes ys h = plain-row (token.Name bytes) refl refl ys h

-- rows one after another

pub rows-nothing : Rows []
rows-nothing ys h = h

pub rows-then : (xs zs : Spots) → Rows xs → Rows zs → Rows (xs ++ zs)
rows-then xs zs x z ys h = subst (λ l. is_row l ≡ true) (sym (append_assoc xs zs ys)) (x (zs ++ ys) (z ys h))

pub rows-after : (xs : Spots) (t : Token) → opens t ≡ false → is_dot t ≡ false → Rows xs → Rows (spot t Usual ∷ xs)
rows-after xs t o d x ys h = plain-row t o d (xs ++ ys) (x ys h)

pub rows-tight : {xs : Spots} (s : Spot) → role_fits s.role s.token ≡ true → is_dot s.token ≡ false → Fine xs → Rows (s ∷ xs)
rows-tight {xs} s r d x ys h = tight-row s r d (xs ++ ys) (x.begins ys) (x.row ys h)

pub fine-then : (xs zs : Spots) → Fine xs → Rows zs → Fine (xs ++ zs)
fine-then xs zs x z = record {
  begins = λ ys. subst (λ l. begins_well l ≡ true) (sym (append_assoc xs zs ys)) (x.begins (zs ++ ys));
  row = rows-then xs zs x.row z;
}

pub fine-after : (xs : Spots) (t : Token) → opens t ≡ false → is_dot t ≡ false → starts_equal t ≡ false → Rows xs → Fine (spot t Usual ∷ xs)
fine-after xs t o d e x = record { begins = λ ys. ap not e; row = rows-after xs t o d x }

pub fine-one : (t : Token) → opens t ≡ false → is_dot t ≡ false → starts_equal t ≡ false → Fine (spot t Usual ∷ [])
fine-one t o d e = fine-after [] t o d e rows-nothing

pub inner-fine : {xs : Spots} → Fine xs → Inner xs
inner-fine x = record { begins = λ ys h. x.begins ys; row = x.row }

pub inner-nothing : Inner []
inner-nothing = record { begins = λ ys h. h; row = rows-nothing }

-- brackets, told by their signs

bracket-row : {xs : Spots} (opener closer : Token) → role_fits Usual opener ≡ true → is_dot opener ≡ false → opens closer ≡ false → is_dot closer ≡ false
    → starts_equal closer ≡ false → Inner xs → Rows (spot opener Usual ∷ xs ++ spot closer Usual ∷ [])
bracket-row {xs} opener closer r d o c e x ys h =
    let after = plain-row closer o c ys h in
    subst (λ l. is_row (spot opener Usual ∷ l) ≡ true) (sym (append_assoc xs (spot closer Usual ∷ []) ys))
    (tight-row (spot opener Usual) r d (xs ++ spot closer Usual ∷ ys) (x.begins (spot closer Usual ∷ ys) (ap not e)) (x.row (spot closer Usual ∷ ys) after))

pub round-row : {xs : Spots} → Inner xs → Rows (sign LeftParen ∷ xs ++ sign RightParen ∷ [])
round-row x = bracket-row (token.Sign LeftParen) (token.Sign RightParen) refl refl refl refl refl x

pub square-row : {xs : Spots} → Inner xs → Rows (sign LeftBracket ∷ xs ++ sign RightBracket ∷ [])
square-row x = bracket-row (token.Sign LeftBracket) (token.Sign RightBracket) refl refl refl refl refl x

pub curly-row : {xs : Spots} → Inner xs → Rows (sign LeftBrace ∷ xs ++ sign RightBrace ∷ [])
curly-row x = bracket-row (token.Sign LeftBrace) (token.Sign RightBrace) refl refl refl refl refl x

pub round-fine : {xs : Spots} → Inner xs → Fine (sign LeftParen ∷ xs ++ sign RightParen ∷ [])
round-fine x = record { begins = λ ys. refl; row = round-row x }

pub square-fine : {xs : Spots} → Inner xs → Fine (sign LeftBracket ∷ xs ++ sign RightBracket ∷ [])
square-fine x = record { begins = λ ys. refl; row = square-row x }

pub curly-fine : {xs : Spots} → Inner xs → Fine (sign LeftBrace ∷ xs ++ sign RightBrace ∷ [])
curly-fine x = record { begins = λ ys. refl; row = curly-row x }
