-- Types that are the same, or of which one serves for the other as it is, have one kind.
use Rattle.std.proofs.Common.{◌≡◌, ℕ, Bool, true, false, ◌||◌, ◌⊎◌, inl, inr, List, [], ◌∷◌, map, refl, sym, ap, subst, ◌∙◌}
use Rattle.std.proofs.lemmas.Bool.{false≢true, eqb-true, and_parts, or_cases}
use Rattle.std.specs.List.{list_any}
use Rattle.chi_types.specs.declared.ty.Way.{Way}
use Rattle.chi_types.specs.declared.ty.Way.TheVariants as way
use Rattle.chi_types.specs.declared.ty.Ty.{Ty, Ty-F, map-Ty, fold-Ty, fold-roll-Ty, fold_out-Ty, ind-Ty, out-Ty, roll-Ty, out-roll-Ty, roll-out-Ty}
use Rattle.chi_types.specs.declared.ty.Ty.TheVariants as ty
use Rattle.chi_types.specs.Plain.{is_plain, plain_step, holds}
use Rattle.chi_types.specs.Same.{same, each_passes, beside, nameless, bare, unnamed}
use Rattle.chi_types.specs.Fits.{fits, fits_unconverted, serves_step, test_of, widens}
use Rattle.chi_types.proofs.SameLaws.{same_equal, equal_same}
use Rattle.chi_types.proofs.Served.{with_test, served_at}
use Rattle.chi_types.proofs.ServedLaws.{tested}
use Rattle.chi_core.specs.Kinds.{without_ways_and_names, erased, kind_of, is_plain_kind, holds_channel_step, holds_channel}

erased_rolled : (x : Ty-F Ty) → erased (roll-Ty x) ≡ roll-Ty (without_ways_and_names (map-Ty Ty Ty erased x))
erased_rolled x = fold-roll-Ty Ty (λ layer. roll-Ty (without_ways_and_names layer)) x

erased_out : (a : Ty) → erased a ≡ roll-Ty (without_ways_and_names (map-Ty Ty Ty erased (out-Ty a)))
erased_out a = fold_out-Ty Ty (λ layer. roll-Ty (without_ways_and_names layer)) a

unnamed_rolled : (x : Ty-F Ty) → unnamed (roll-Ty x) ≡ roll-Ty (bare (map-Ty Ty Ty unnamed x))
unnamed_rolled x = fold-roll-Ty Ty (λ layer. roll-Ty (bare layer)) x

-- the kind of a type, by its outermost layer
pub kind_at : (t : Ty) (layer : Ty-F Ty) → out-Ty t ≡ layer → kind_of t ≡ without_ways_and_names (map-Ty Ty Ty erased layer)
kind_at t layer e = ap out-Ty (erased_out t) ∙ out-roll-Ty (without_ways_and_names (map-Ty Ty Ty erased (out-Ty t))) ∙ ap (λ z. without_ways_and_names (map-Ty Ty Ty erased z)) e

-- whether a type is plain is told by its outermost layer
pub plain_at : (t : Ty) (layer : Ty-F Ty) → out-Ty t ≡ layer → is_plain t ≡ is_plain_kind layer
plain_at t layer e = fold_out-Ty Bool plain_step t ∙ ap is_plain_kind e

-- names count for nothing

abbrev Nameless : Ty → Type 0
Nameless a = erased (unnamed a) ≡ erased a

abbrev Held : Type 0
Held = (a : Ty) × Nameless a

abbrev type_of : Held → Ty
type_of held = held.0

nameless_parts_erased : (gs : List (List ℕ × Held)) →
    nameless (map (beside erased) (nameless (map (beside unnamed) (map (beside type_of) gs)))) ≡ nameless (map (beside erased) (map (beside type_of) gs))
nameless_parts_erased [] = refl
nameless_parts_erased (g ∷ gs) = λ i. ([], g.1.1 i) ∷ nameless_parts_erased gs i

nameless_layer : (y : Ty-F Held) → without_ways_and_names (map-Ty Ty Ty erased (bare (map-Ty Ty Ty unnamed (map-Ty Held Ty type_of y)))) ≡ without_ways_and_names (map-Ty Ty Ty erased (map-Ty Held Ty type_of y))
nameless_layer Ty-F.Bool = refl
nameless_layer Ty-F.Int = refl
nameless_layer Ty-F.Real = refl
nameless_layer Ty-F.Text = refl
nameless_layer Ty-F.Timer = refl
nameless_layer Ty-F.Inst = refl
nameless_layer Ty-F.Void = refl
nameless_layer (Ty-F.Choice k) = refl
nameless_layer (Ty-F.TupleOf gs) = ap Ty-F.TupleOf (nameless_parts_erased gs)
nameless_layer (Ty-F.ListOf a) = ap Ty-F.ListOf a.1
nameless_layer (Ty-F.SetOf a) = ap Ty-F.SetOf a.1
nameless_layer (Ty-F.DictOf k v) = λ i. Ty-F.DictOf (k.1 i) (v.1 i)
nameless_layer (Ty-F.Chan w a) = ap (Ty-F.Chan way.Both) a.1
nameless_layer (Ty-F.Dist a) = ap Ty-F.Dist a.1

unnamed_erased : (a : Ty) → erased (unnamed a) ≡ erased a
unnamed_erased = ind-Ty Nameless (λ x y e. subst (λ x. Nameless (roll-Ty x)) e
    (ap erased (unnamed_rolled (map-Ty Held Ty type_of y)) ∙ erased_rolled (bare (map-Ty Ty Ty unnamed (map-Ty Held Ty type_of y)))
    ∙ ap roll-Ty (nameless_layer y) ∙ sym (erased_rolled (map-Ty Held Ty type_of y))))

pub same_erased : (a b : Ty) → same a b ≡ true → erased a ≡ erased b
same_erased a b h = sym (unnamed_erased a) ∙ ap erased (same_equal a b h) ∙ unnamed_erased b

-- a type that serves for another, with no value converted, differs from it only in ways and names

abbrev Serves : Ty → Type 0
Serves a = (b : Ty) → fits_unconverted a b ≡ true → erased a ≡ erased b

abbrev Serving : Type 0
Serving = (a : Ty) × Serves a

abbrev serving_type : Serving → Ty
serving_type held = held.0

served_parts : (gs : List (List ℕ × Serving)) (bs : List (List ℕ × Ty)) →
    each_passes (map (beside test_of) (map (beside with_test) (map (beside serving_type) gs))) bs ≡ true →
    nameless (map (beside erased) (map (beside serving_type) gs)) ≡ nameless (map (beside erased) bs)
served_parts [] [] h = refl
served_parts [] (b ∷ bs) h = absurd (false≢true h)
served_parts (a ∷ gs) [] h = absurd (false≢true h)
served_parts (a ∷ gs) (b ∷ bs) h =
    let first = a.1.1 b.1 (and_parts _ _ h).0 in
    let rest = served_parts gs bs (and_parts _ _ h).1 in
    λ i. ([], first i) ∷ rest i

served_layer : (a : Ty-F Serving) (b : Ty-F Ty) → serves_step (tested (map-Ty Serving Ty serving_type a)) b ≡ true →
    without_ways_and_names (map-Ty Ty Ty erased (map-Ty Serving Ty serving_type a)) ≡ without_ways_and_names (map-Ty Ty Ty erased b)
served_layer Ty-F.Bool Ty-F.Bool h = refl
served_layer Ty-F.Int Ty-F.Int h = refl
served_layer Ty-F.Real Ty-F.Real h = refl
served_layer Ty-F.Text Ty-F.Text h = refl
served_layer Ty-F.Timer Ty-F.Timer h = refl
served_layer Ty-F.Inst Ty-F.Inst h = refl
served_layer Ty-F.Void Ty-F.Void h = refl
served_layer (Ty-F.Choice k) (Ty-F.Choice l) h = ap Ty-F.Choice (eqb-true k l h)
served_layer (Ty-F.TupleOf gs) (Ty-F.TupleOf bs) h = ap Ty-F.TupleOf (served_parts gs bs h)
served_layer (Ty-F.ListOf a) (Ty-F.ListOf b) h = ap Ty-F.ListOf (a.1 b h)
served_layer (Ty-F.SetOf a) (Ty-F.SetOf b) h = ap Ty-F.SetOf (same_erased a.0 b h)
served_layer (Ty-F.DictOf k v) (Ty-F.DictOf l w) h =
    let keys = same_erased k.0 l (and_parts _ _ h).0 in
    let values = v.1 w (and_parts _ _ h).1 in
    λ i. Ty-F.DictOf (keys i) (values i)
served_layer (Ty-F.Chan v a) (Ty-F.Chan w b) h = ap (Ty-F.Chan way.Both) (same_erased a.0 b (and_parts _ _ h).1)
served_layer (Ty-F.Dist a) (Ty-F.Dist b) h = ap Ty-F.Dist (same_erased a.0 b h)
served_layer _ _ h = absurd (false≢true h)

pub served_erased : (a b : Ty) → fits_unconverted a b ≡ true → erased a ≡ erased b
served_erased = ind-Ty Serves (λ x y e. subst (λ x. Serves (roll-Ty x)) e (λ b h.
    let z : Ty-F Ty = map-Ty Serving Ty serving_type y in
    erased_rolled z ∙ ap roll-Ty (served_layer y (out-Ty b) (sym (served_at (roll-Ty z) b z (out-Ty b) (out-roll-Ty z) refl) ∙ h)) ∙ sym (erased_out b)))

pub same_kind : (a b : Ty) → same a b ≡ true → kind_of a ≡ kind_of b
same_kind a b h = ap out-Ty (same_erased a b h)

pub served_kind : (a b : Ty) → fits_unconverted a b ≡ true → kind_of a ≡ kind_of b
served_kind a b h = ap out-Ty (served_erased a b h)

-- what fits has one kind, but for an int where a real is wanted

widened : (a b : Ty) (x y : Ty-F Ty) → out-Ty a ≡ x → out-Ty b ≡ y → widens x y ≡ true → (kind_of a ≡ Ty-F.Int) × (kind_of b ≡ Ty-F.Real)
widened a b Ty-F.Int Ty-F.Real p q h = (kind_at a Ty-F.Int p, kind_at b Ty-F.Real q)
widened a b Ty-F.Int _ p q h = absurd (false≢true h)
widened a b _ y p q h = absurd (false≢true h)

pub fitting_kinds : (a b : Ty) → fits a b ≡ true → (kind_of a ≡ kind_of b) ⊎ ((kind_of a ≡ Ty-F.Int) × (kind_of b ≡ Ty-F.Real))
fitting_kinds a b h = elim (or_cases (fits_unconverted a b) (widens (out-Ty a) (out-Ty b)) h) [
  | inl serves ↦ inl (served_kind a b serves)
  | inr wide ↦ inr (widened a b (out-Ty a) (out-Ty b) refl refl wide)
]

-- types in which there is no channel are the same where they have one kind

abbrev channel_in : Ty → Bool
channel_in = fold-Ty Bool holds_channel_step

channel_out : (a : Ty) → channel_in a ≡ holds_channel (out-Ty a)
channel_out a = fold_out-Ty Bool holds_channel_step a

channel_rolled : (x : Ty-F Ty) → channel_in (roll-Ty x) ≡ holds_channel x
channel_rolled x = fold-roll-Ty Bool holds_channel_step x

abbrev Wayless : Ty → Type 0
Wayless a = channel_in a ≡ false → erased a ≡ unnamed a

abbrev Without : Type 0
Without = (a : Ty) × Wayless a

abbrev without_type : Without → Ty
without_type w = w.0

neither : (x y : Bool) → (x || y) ≡ false → (x ≡ false) × (y ≡ false)
neither false y h = (refl, h)
neither true y h = absurd (false≢true (sym h))

wayless_parts : (gs : List (List ℕ × Without)) → list_any holds (map (beside channel_in) (map (beside without_type) gs)) ≡ false
    → nameless (map (beside erased) (map (beside without_type) gs)) ≡ nameless (map (beside unnamed) (map (beside without_type) gs))
wayless_parts [] h = refl
wayless_parts (g ∷ gs) h =
    let parts = neither _ _ h in
    let first = g.1.1 parts.0 in
    let rest = wayless_parts gs parts.1 in
    λ i. ([], first i) ∷ rest i

wayless_layer : (y : Ty-F Without) → holds_channel (map-Ty Without Ty without_type y) ≡ false
    → without_ways_and_names (map-Ty Ty Ty erased (map-Ty Without Ty without_type y)) ≡ bare (map-Ty Ty Ty unnamed (map-Ty Without Ty without_type y))
wayless_layer Ty-F.Bool h = refl
wayless_layer Ty-F.Int h = refl
wayless_layer Ty-F.Real h = refl
wayless_layer Ty-F.Text h = refl
wayless_layer Ty-F.Timer h = refl
wayless_layer Ty-F.Inst h = refl
wayless_layer Ty-F.Void h = refl
wayless_layer (Ty-F.Choice k) h = refl
wayless_layer (Ty-F.TupleOf gs) h = ap Ty-F.TupleOf (wayless_parts gs h)
wayless_layer (Ty-F.ListOf a) h = ap Ty-F.ListOf (a.1 h)
wayless_layer (Ty-F.SetOf a) h = ap Ty-F.SetOf (a.1 h)
wayless_layer (Ty-F.DictOf k v) h =
    let both = neither _ _ h in
    let key = k.1 both.0 in
    let has = v.1 both.1 in
    λ i. Ty-F.DictOf (key i) (has i)
wayless_layer (Ty-F.Chan w a) h = absurd (false≢true (sym h))
wayless_layer (Ty-F.Dist a) h = ap Ty-F.Dist (a.1 h)

wayless : (a : Ty) → Wayless a
wayless = ind-Ty Wayless (λ x y e. subst (λ x. Wayless (roll-Ty x)) e (λ h.
    let z : Ty-F Ty = map-Ty Without Ty without_type y in
    erased_rolled z ∙ ap roll-Ty (wayless_layer y (sym (channel_rolled z) ∙ h)) ∙ sym (unnamed_rolled z)))

pub kind_tells : (a b : Ty) → holds_channel (out-Ty a) ≡ false → holds_channel (out-Ty b) ≡ false → kind_of a ≡ kind_of b → same a b ≡ true
kind_tells a b p q e =
    let whole : erased a ≡ erased b = sym (roll-out-Ty (erased a)) ∙ ap roll-Ty e ∙ roll-out-Ty (erased b) in
    equal_same a b (sym (wayless a (channel_out a ∙ p)) ∙ whole ∙ wayless b (channel_out b ∙ q))

-- and channels have one kind where what they carry has
pub channels_tell : (v w : Way) (a b : Ty) → kind_of (ty.Chan v a) ≡ kind_of (ty.Chan w b) → kind_of a ≡ kind_of b
channels_tell v w a b e =
    let both : Ty-F.Chan way.Both (erased a) ≡ Ty-F.Chan way.Both (erased b) = sym (kind_at (ty.Chan v a) (Ty-F.Chan v a) (ty.outs-Chan v a)) ∙ e ∙ kind_at (ty.Chan w b) (Ty-F.Chan w b) (ty.outs-Chan w b) in
    let carried : erased a ≡ erased b = cc in
    ap out-Ty carried
