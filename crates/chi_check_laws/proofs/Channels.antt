-- A channel is in the kind of a type exactly where one is in the type, and none in a plain one.
use Rattle.std.proofs.Common.{◌≡◌, ℕ, Bool, true, false, not, ◌||◌, List, [], ◌∷◌, map, refl, sym, ap, subst, ◌∙◌}
use Rattle.std.proofs.lemmas.Bool.{and_parts}
use Rattle.std.specs.List.{list_all, list_any}
use Rattle.chi_types.specs.declared.ty.Ty.{Ty, Ty-F, map-Ty, fold-roll-Ty, fold_out-Ty, ind-Ty, roll-Ty}
use Rattle.chi_types.specs.Plain.{holds, plain_step, is_plain}
use Rattle.chi_types.specs.Same.{beside, nameless}
use Rattle.chi_core.specs.Kinds.{without_ways_and_names, erased, kind_of, holds_channel_step, holds_channel}
use Rattle.chi_check.specs.Below.chi_check_stat_rules.specs.Homes.{has_channel}
use Rattle.chi_check_laws.proofs.Turns.{not_false}

channel_rolled : (x : Ty-F Ty) → has_channel (roll-Ty x) ≡ holds_channel x
channel_rolled x = fold-roll-Ty Bool holds_channel_step x

erased_rolled : (x : Ty-F Ty) → erased (roll-Ty x) ≡ roll-Ty (without_ways_and_names (map-Ty Ty Ty erased x))
erased_rolled x = fold-roll-Ty Ty (λ layer. roll-Ty (without_ways_and_names layer)) x

abbrev Stays : Ty → Type 0
Stays t = has_channel (erased t) ≡ has_channel t

abbrev Held : Type 0
Held = (t : Ty) × Stays t

abbrev type_of : Held → Ty
type_of held = held.0

parts_stay : (gs : List (List ℕ × Held)) → list_any holds (map (beside has_channel) (nameless (map (beside erased) (map (beside type_of) gs)))) ≡ list_any holds (map (beside has_channel) (map (beside type_of) gs))
parts_stay [] = refl
parts_stay (g ∷ gs) = λ i. g.1.1 i || parts_stay gs i

layer_stays : (y : Ty-F Held) → holds_channel (without_ways_and_names (map-Ty Ty Ty erased (map-Ty Held Ty type_of y))) ≡ holds_channel (map-Ty Held Ty type_of y)
layer_stays Ty-F.Bool = refl
layer_stays Ty-F.Int = refl
layer_stays Ty-F.Real = refl
layer_stays Ty-F.Text = refl
layer_stays Ty-F.Timer = refl
layer_stays Ty-F.Inst = refl
layer_stays Ty-F.Void = refl
layer_stays (Ty-F.Choice k) = refl
layer_stays (Ty-F.TupleOf gs) = parts_stay gs
layer_stays (Ty-F.ListOf a) = a.1
layer_stays (Ty-F.SetOf a) = a.1
layer_stays (Ty-F.DictOf k v) = λ i. k.1 i || v.1 i
layer_stays (Ty-F.Chan w a) = refl
layer_stays (Ty-F.Dist a) = a.1

erased_stays : (t : Ty) → has_channel (erased t) ≡ has_channel t
erased_stays = ind-Ty Stays (λ x y e. subst (λ x. Stays (roll-Ty x)) e (
    let z : Ty-F Ty = map-Ty Held Ty type_of y in
    ap has_channel (erased_rolled z) ∙ channel_rolled (without_ways_and_names (map-Ty Ty Ty erased z)) ∙ layer_stays y ∙ sym (channel_rolled z)))

pub channel_kind : (t : Ty) → holds_channel (kind_of t) ≡ has_channel t
channel_kind t = sym (fold_out-Ty Bool holds_channel_step (erased t)) ∙ erased_stays t

-- ---- a plain type has no channel in it

plain_rolled : (x : Ty-F Ty) → is_plain (roll-Ty x) ≡ plain_step (map-Ty Ty Bool is_plain x)
plain_rolled x = fold-roll-Ty Bool plain_step x

abbrev IsFree : Ty → Type 0
IsFree t = is_plain t ≡ true → has_channel t ≡ false

abbrev Free : Type 0
Free = (t : Ty) × IsFree t

abbrev free_type : Free → Ty
free_type f = f.0

parts_free : (gs : List (List ℕ × Free)) → list_all holds (map (beside is_plain) (map (beside free_type) gs)) ≡ true → list_any holds (map (beside has_channel) (map (beside free_type) gs)) ≡ false
parts_free [] h = refl
parts_free (g ∷ gs) h =
    let both = and_parts _ _ h in
    let first = g.1.1 both.0 in
    let rest = parts_free gs both.1 in
    λ i. first i || rest i

layer_free : (y : Ty-F Free) → plain_step (map-Ty Ty Bool is_plain (map-Ty Free Ty free_type y)) ≡ true → holds_channel (map-Ty Free Ty free_type y) ≡ false
layer_free Ty-F.Bool h = refl
layer_free Ty-F.Int h = refl
layer_free Ty-F.Real h = refl
layer_free Ty-F.Text h = refl
layer_free Ty-F.Timer h = refl
layer_free Ty-F.Inst h = refl
layer_free Ty-F.Void h = refl
layer_free (Ty-F.Choice k) h = refl
layer_free (Ty-F.TupleOf gs) h = parts_free gs h
layer_free (Ty-F.ListOf a) h = a.1 h
layer_free (Ty-F.SetOf a) h = a.1 h
layer_free (Ty-F.DictOf k v) h =
    let both = and_parts _ _ h in
    let first = k.1 both.0 in
    let second = v.1 both.1 in
    λ i. first i || second i
layer_free (Ty-F.Chan w a) h = absurd (cc)
layer_free (Ty-F.Dist a) h = absurd (cc)

plain_free : (t : Ty) → is_plain t ≡ true → has_channel t ≡ false
plain_free = ind-Ty IsFree (λ x y e. subst (λ x. IsFree (roll-Ty x)) e (λ h.
    let z : Ty-F Ty = map-Ty Free Ty free_type y in
    channel_rolled z ∙ layer_free y (sym (plain_rolled z) ∙ h)))

pub plain_holds_none : (t : Ty) → not (is_plain t) ≡ false → has_channel t ≡ false
plain_holds_none t h = plain_free t (not_false (is_plain t) h)
