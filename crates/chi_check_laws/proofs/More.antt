-- What holds where some slots count as set holds where more of them do.
use Rattle.std.proofs.Common.{◌≡◌, ℕ, Bool, true, false, ◌||◌, nat_eq, List, [], ◌∷◌, refl}
use Rattle.chi_core.specs.declared.expression.CExpr.{CExpr, CExpr-F}
use Rattle.chi_core.specs.declared.statement.CStat.{CStat, CStat-F, out-CStat}
use Rattle.chi_core.specs.Kinds.{Kind}
use Rattle.chi_core.specs.Scopes.{Scope}
use Rattle.chi_core.specs.SetSlots.{StatLayer, Known as Set, also, also_all, wholes, sets}
use Rattle.chi_core.specs.SoundExpressions as sound
use Rattle.chi_core.specs.SoundExpressions.{HasKind, HaveKinds}
use Rattle.chi_types.specs.declared.ty.Ty.{Ty}
use Rattle.chi_check_types.specs.declared.known.Known.{Known}
use Rattle.chi_check_types.specs.declared.known.Known.TheVariants as known
use Rattle.chi_check_types.specs.declared.meant.Meant.{Meant}
use Rattle.chi_check_types.specs.Names.{Names}
use Rattle.chi_check_laws.specs.KnownNames.{Has, Sizes, SoundMeant, SlotStands, Stands, AllStand}
use Rattle.chi_check_laws.specs.Bodies.{set_by}

-- each slot of one counts in the other
abbrev pub Within : Set → Set → Type 0
Within a b = (slot : ℕ) → a slot ≡ true → b slot ≡ true

-- ---- what a statement sets is added

right_holds : (b c : Bool) → c ≡ true → (b || c) ≡ true
right_holds true c h = refl
right_holds false c h = h

left_holds : (b c : Bool) → b ≡ true → (b || c) ≡ true
left_holds true c h = refl
left_holds false c h = absurd (cc)

pub also_more : (slot : ℕ) (set : Set) → Within set (also slot set)
also_more slot set k h = right_holds (nat_eq k slot) (set k) h

pub also_itself : (slot : ℕ) (set : Set) → nat_eq slot slot ≡ true → also slot set slot ≡ true
also_itself slot set h = left_holds (nat_eq slot slot) (set slot) h

pub also_all_more : (slots : List ℕ) (set : Set) → Within set (also_all slots set)
also_all_more [] set k h = h
also_all_more (slot ∷ slots) set k h = also_all_more slots (also slot set) k (also_more slot set k h)

pub sets_more : (layer : StatLayer) (set : Set) → Within set (sets layer set)
sets_more (CStat-F.Declare line slot e) set k h = also_more slot set k h
sets_more (CStat-F.Assign line targets values) set k h = also_all_more (wholes targets) set k h
sets_more _ set k h = h

pub set_by_more : (xs : List CStat) (set : Set) → Within set (set_by xs set)
set_by_more [] set k h = h
set_by_more (x ∷ xs) set k h = set_by_more xs (sets (out-CStat x) set) k (sets_more (out-CStat x) set k h)

module _ (scope : Scope) (a b : Set) (more : Within a b) where
  -- ---- expressions

  mutual
    kind_more : (e : CExpr-F CExpr) (T : Kind) → HasKind scope a e T → HasKind scope b e T
    kind_more _ _ (sound.literal v T k) = sound.literal v T k
    kind_more _ _ (sound.variable slot T counts is) = sound.variable slot T (more slot counts) is
    kind_more _ _ (sound.constant number c is may) = sound.constant number c is may
    kind_more _ _ (sound.operation name es Ts T row plain may h) = sound.operation name es Ts T row plain may (kinds_more es Ts h)
    kind_more _ _ (sound.distribution name es operands Ts T stream last row draws h below) = sound.distribution name es operands Ts T stream last row draws (kinds_more operands Ts h) below
    kind_more _ _ (sound.both x y h k) = sound.both x y (kind_more _ _ h) (kind_more _ _ k)
    kind_more _ _ (sound.either x y h k) = sound.either x y (kind_more _ _ h) (kind_more _ _ k)
    kind_more _ _ (sound.tuple_literal es ts h) = sound.tuple_literal es ts (kinds_more es _ h)
    kind_more _ _ (sound.list_literal es t h) = sound.list_literal es t (kinds_more es _ h)
    kind_more _ _ (sound.set_literal es t plain h) = sound.set_literal es t plain (kinds_more es _ h)
    kind_more _ _ (sound.dictionary_literal es key has entries plain h) = sound.dictionary_literal es key has entries plain (kinds_more es _ h)
    kind_more _ _ (sound.part e number parts p h is) = sound.part e number parts p (kind_more _ _ h) is
    kind_more _ _ (sound.call number es f is may h) = sound.call number es f is may (kinds_more es _ h)
    kind_more _ _ (sound.insertion xs x number t f is may params result h k) = sound.insertion xs x number t f is may params result (kind_more _ _ h) (kind_more _ _ k)
    kind_more _ _ (sound.fresh_default shape T k may) = sound.fresh_default shape T k may
    kind_more _ _ (sound.repetition size inner t h k) = sound.repetition size inner t (kind_more _ _ h) (kind_more _ _ k)

    kinds_more : (es : List CExpr) (Ts : List Kind) → HaveKinds scope a es Ts → HaveKinds scope b es Ts
    kinds_more _ _ sound.no_expression = sound.no_expression
    kinds_more _ _ (sound.one_expression e es T Ts h hs) = sound.one_expression e es T Ts (kind_more _ _ h) (kinds_more es Ts hs)

  has_more : (e : CExpr) (T : Kind) → Has scope a e T → Has scope b e T
  has_more e T h short count = kind_more _ T (h short count)

  sizes_more : (es : List CExpr) → Sizes scope a es → Sizes scope b es
  sizes_more [] h = tt
  sizes_more (e ∷ es) h = (has_more e _ h.0, sizes_more es h.1)

  pub meant_more : (m : Meant) → SoundMeant scope a m → SoundMeant scope b m
  meant_more m h = record { ty = h.ty; sizes = sizes_more m.sizes h.sizes }

  -- ---- names

  slot_more : (slot : ℕ) (t : Ty) → SlotStands scope a slot t → SlotStands scope b slot t
  slot_more slot t h = record { counts = more slot h.counts; is = h.is; ty = h.ty }

  stands_more : (k : Known) → Stands scope a k → Stands scope b k
  stands_more (known.Var slot t) h = slot_more slot t h
  stands_more (known.Fixed slot t) h = slot_more slot t h
  stands_more (known.Const number t) h = h
  stands_more (known.Kind t) h = h
  stands_more (known.Value enumeration position) h = h
  stands_more (known.Func number params result) h = h
  stands_more (known.Proc number params exit) h = h
  stands_more (known.Model number params exit) h = h
  stands_more (known.Xper number) h = h
  stands_more (known.Untyped kind) h = h

  pub names_more : (names : Names) → AllStand scope a names → AllStand scope b names
  names_more names all name k is = stands_more k (all name k is)
