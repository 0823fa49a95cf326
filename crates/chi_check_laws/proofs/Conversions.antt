-- What serves for a type is of its kind once it is converted.
use Rattle.std.proofs.Common.{◌≡◌, inl, inr, Bool, true, false, cond, not, List, [], ◌∷◌, map, Option, Some, None, refl, sym, ap, subst}
use Rattle.std.specs.Prelude.{option_map, option_and_then}
use Rattle.chi_types.specs.declared.ty.Ty.{Ty, Ty-F, out-Ty}
use Rattle.chi_types.specs.Fits.{fits, widens}
use Rattle.chi_core.specs.declared.expression.CExpr.{CExpr}
use Rattle.chi_core.specs.declared.expression.CExpr.TheVariants as expression
use Rattle.chi_core.specs.declared.op_name.OpName.{OpName}
use Rattle.chi_core.specs.declared.op_name.OpName.TheVariants as op
use Rattle.chi_core.specs.Kinds.{Kind, kind_of, kinds_of}
use Rattle.chi_core.specs.OperatorKinds.{OpKind, depends_on_run, widen_int}
use Rattle.chi_core.specs.Scopes.{Role, constant, function, process, Scope, may_apply}
use Rattle.chi_core.specs.SetSlots.{Known as Set}
use Rattle.chi_core.specs.Sound.{SoundIn}
use Rattle.chi_check_types.specs.declared.meant.Made.{Made}
use Rattle.chi_check_expr_rules.specs.Conversions.{made, converted, passed, wanting, as_they_are, both_as}
use Rattle.chi_check_expr.proofs.Kept.{Each}
use Rattle.chi_check_laws.specs.KnownNames.{Has, SoundMade}
use Rattle.chi_check_laws.proofs.Has.{Have, have_none, have_one, has_operation}
use Rattle.chi_check_laws.proofs.TypeKinds.{Serves, fits_serves, widens_kinds, kinds_widen}

-- ---- options

pub some_is : {A : Type 0} (a b : A) → Some a ≡ Some b → a ≡ b
some_is a b e = cc

pub mapped : {A B : Type 0} (f : A → B) (o : Option A) (b : B) → option_map f o ≡ Some b → (a : A) × (o ≡ Some a) × (f a ≡ b)
mapped f None b e = absurd (cc)
mapped f (Some a) b e = (a, refl, some_is (f a) b e)

pub chained : {A B : Type 0} (f : A → Option B) (o : Option A) (b : B) → option_and_then f o ≡ Some b → (a : A) × (o ≡ Some a) × (f a ≡ Some b)
chained f None b e = absurd (cc)
chained f (Some a) b e = (a, refl, e)

pub chosen : {A : Type 0} (b : Bool) (a m : A) → cond b (Some a) None ≡ Some m → (b ≡ true) × (a ≡ m)
chosen true a m e = (refl, some_is a m e)
chosen false a m e = absurd (cc)

pub chosen_some : {A : Type 0} (b : Bool) (o : Option A) (m : A) → cond b o None ≡ Some m → (b ≡ true) × (o ≡ Some m)
chosen_some true o m e = (refl, e)
chosen_some false o m e = absurd (cc)

-- ---- what doesn't depend on the run may stand everywhere

pub always : (role : Role) (name : OpName) (Ts : List Kind) → depends_on_run name Ts ≡ false → may_apply role name Ts ≡ true
always (constant number) name Ts h = ap not h
always (function result) name Ts h = ap not h
always (process exit) name Ts h = refl

module _ (scope : Scope) (set : Set) where
  abbrev pub Sounds : Made → Type 0
  Sounds = SoundMade scope set

  -- a made expression is sound by its parts
  pub sound_made : (e : CExpr) (t : Ty) (m : Made) → made e t ≡ m → Has scope set e (kind_of t) → SoundIn scope.core t → Sounds m
  sound_made e t m is h s = subst Sounds is (record { kind = h; ty = s })

  widened_has : (m : Made) (t : Ty) → kind_of m.ty ≡ Ty-F.Int → kind_of t ≡ Ty-F.Real → Sounds m → Has scope set (expression.Op op.Widen (m.core ∷ [])) (kind_of t)
  widened_has m t p q h = subst (Has scope set _) (sym q)
      (has_operation scope set op.Widen (m.core ∷ []) (Ty-F.Int ∷ []) Ty-F.Real widen_int (always scope.role op.Widen _ refl) (have_one scope set m.core [] Ty-F.Int [] (subst (Has scope set m.core) p h.kind) (have_none scope set)))

  pub converts : (m : Made) (t : Ty) → Serves m.ty t → Sounds m → Has scope set (converted m t) (kind_of t)
  converts m t k h = by (widens (out-Ty m.ty) (out-Ty t)) refl k
    where
      by : (w : Bool) → widens (out-Ty m.ty) (out-Ty t) ≡ w → Serves m.ty t → Has scope set (cond w (expression.Op op.Widen (m.core ∷ [])) m.core) (kind_of t)
      by true p k = let is = widens_kinds m.ty t p in widened_has m t is.0 is.1 h
      by false p (inl e) = subst (Has scope set m.core) e h.kind
      by false p (inr e) = let wide : widens (out-Ty m.ty) (out-Ty t) ≡ true = kinds_widen m.ty t e.0 e.1 in absurd (cc)

  pub fits_has : (m : Made) (t : Ty) → fits m.ty t ≡ true → Sounds m → Has scope set (converted m t) (kind_of t)
  fits_has m t h = converts m t (fits_serves m.ty t h)

  -- ---- lists of operands

  pub one_of : (e : CExpr) (T : Kind) → Has scope set e T → Have scope set (e ∷ []) (T ∷ [])
  one_of e T h = have_one scope set e [] T [] h (have_none scope set)

  pub two_of : (a b : CExpr) (T U : Kind) → Has scope set a T → Has scope set b U → Have scope set (a ∷ b ∷ []) (T ∷ U ∷ [])
  two_of a b T U h k = have_one scope set a (b ∷ []) T (U ∷ []) h (one_of b U k)

  -- as they are
  pub cores_have : (ms : List Made) → Each Sounds ms → Have scope set (map (λ m. m.core) ms) (map (λ m. kind_of m.ty) ms)
  cores_have [] h = have_none scope set
  cores_have (m ∷ ms) h = have_one scope set m.core _ _ _ h.0.kind (cores_have ms h.1)

  passed_more : (m : Made) (t : Ty) (ts : List Ty) (es : List CExpr) (b : Bool) (o : Option (List CExpr)) → Sounds m → fits m.ty t ≡ b
      → ((es : List CExpr) → o ≡ Some es → Have scope set es (kinds_of ts)) → cond b (option_map (λ es. converted m t ∷ es) o) None ≡ Some es → Have scope set es (kinds_of (t ∷ ts))
  passed_more m t ts es true None h p rest e = absurd (cc)
  passed_more m t ts es true (Some cs) h p rest e = subst (λ es. Have scope set es (kinds_of (t ∷ ts))) (some_is (converted m t ∷ cs) es e) (have_one scope set (converted m t) cs _ _ (fits_has m t p h) (rest cs refl))
  passed_more m t ts es false o h p rest e = absurd (cc)

  -- converted to what is wanted
  pub passed_have : (ms : List Made) (ts : List Ty) (es : List CExpr) → Each Sounds ms → passed ms ts ≡ Some es → Have scope set es (kinds_of ts)
  passed_have [] [] es h e = subst (λ es. Have scope set es []) (some_is [] es e) (have_none scope set)
  passed_have [] (t ∷ ts) es h e = absurd (cc)
  passed_have (m ∷ ms) [] es h e = absurd (cc)
  passed_have (m ∷ ms) (t ∷ ts) es h e = passed_more m t ts es (fits m.ty t) (passed ms ts) h.0 refl (λ es. passed_have ms ts es h.1) e

  -- all converted to one type
  abbrev pub AllServe : Ty → List Made → Type 0
  AllServe t = Each (λ m. Serves m.ty t)

  pub all_have : (t : Ty) (ms : List Made) → AllServe t ms → Each Sounds ms → Have scope set (map (λ m. converted m t) ms) (map (λ e. kind_of t) (map (λ m. converted m t) ms))
  all_have t [] k h = have_none scope set
  all_have t (m ∷ ms) k h = have_one scope set (converted m t) _ _ _ (converts m t k.0 h.0) (all_have t ms k.1 h.1)

  -- ---- operations

  -- a row of the operator table
  pub operation_sound : (name : OpName) (es : List CExpr) (Ts : List Kind) (result : Ty) (K : Kind) (m : Made) → OpKind name Ts K → may_apply scope.role name Ts ≡ true → kind_of result ≡ K
      → Have scope set es Ts → SoundIn scope.core result → made (expression.Op name es) result ≡ m → Sounds m
  operation_sound name es Ts result K m row may is h s e =
      sound_made (expression.Op name es) result m e (subst (Has scope set (expression.Op name es)) (sym is) (has_operation scope set name es Ts K row may h)) s

  pub wanting_sound : (name : OpName) (wanted : List Ty) (result : Ty) (Ts : List Kind) (K : Kind) (ms : List Made) (m : Made) → OpKind name Ts K → may_apply scope.role name Ts ≡ true
      → kinds_of wanted ≡ Ts → kind_of result ≡ K → SoundIn scope.core result → Each Sounds ms → wanting name wanted result ms ≡ Some m → Sounds m
  wanting_sound name wanted result Ts K ms m row may are is s h e =
      let f = mapped (λ es. made (expression.Op name es) result) (passed ms wanted) m e in
      operation_sound name f.0 Ts result K m row may is (subst (Have scope set f.0) are (passed_have ms wanted f.0 h f.1)) s f.2

  pub as_they_are_sound : (name : OpName) (ms : List Made) (result : Ty) (Ts : List Kind) (K : Kind) (m : Made) → OpKind name Ts K → may_apply scope.role name Ts ≡ true
      → map (λ m. kind_of m.ty) ms ≡ Ts → kind_of result ≡ K → SoundIn scope.core result → Each Sounds ms → as_they_are name ms result ≡ m → Sounds m
  as_they_are_sound name ms result Ts K m row may are is s h e =
      operation_sound name (map (λ m. m.core) ms) Ts result K m row may is (subst (Have scope set _) are (cores_have ms h)) s e

  -- two operands that serve for one type
  pub both_sound : (name : OpName) (t : Ty) (a b : Made) (result : Ty) (T K : Kind) (m : Made) → OpKind name (T ∷ T ∷ []) K → may_apply scope.role name (T ∷ T ∷ []) ≡ true
      → kind_of t ≡ T → kind_of result ≡ K → SoundIn scope.core result → Serves a.ty t → Serves b.ty t → Sounds a → Sounds b → both_as name t a b result ≡ m → Sounds m
  both_sound name t a b result T K m row may of is s p q h k e =
      operation_sound name (converted a t ∷ converted b t ∷ []) (T ∷ T ∷ []) result K m row may is
      (two_of _ _ T T (subst (Has scope set _) of (converts a t p h)) (subst (Has scope set _) of (converts b t q k))) s e
