-- Serving without conversion is an order on types, up to the same type.
use Rattle.std.proofs.Common.{◌≡◌, ℕ, Bool, true, List, [], ◌∷◌, map, refl, sym, subst, ◌∙◌}
use Rattle.std.proofs.lemmas.Bool.{false≢true, eqb-true, eq-eqb, and_parts, and_from}
use Rattle.chi_types.specs.declared.ty.Way.{Way}
use Rattle.chi_types.specs.declared.ty.Way.TheVariants as way
use Rattle.chi_types.specs.declared.ty.Ty.{Ty, Ty-F, map-Ty, ind-Ty, out-Ty, roll-Ty, out-roll-Ty}
use Rattle.chi_types.specs.Same.{same, same_step, same_way, each_passes, beside}
use Rattle.chi_types.specs.Fits.{fits_unconverted, serves, serves_step, test_of}
use Rattle.chi_types.proofs.SameLaws.{same_rolled, same_transitive}
use Rattle.chi_types.proofs.Served.{with_test, served_at}

abbrev pub tested : Ty-F Ty → Ty-F (Ty × (Ty → Bool))
tested = map-Ty Ty (Ty × (Ty → Bool)) with_test

served_rolled : (x : Ty-F Ty) (b : Ty) → fits_unconverted (roll-Ty x) b ≡ serves_step (tested x) (out-Ty b)
served_rolled x b = served_at (roll-Ty x) b x (out-Ty b) (out-roll-Ty x) (λ i. out-Ty b)

into_rolled : (a : Ty) (x : Ty-F Ty) → fits_unconverted a (roll-Ty x) ≡ serves_step (tested (out-Ty a)) x
into_rolled a x = served_at a (roll-Ty x) (out-Ty a) x (λ i. out-Ty a) (out-roll-Ty x)

served_out : (a b : Ty) → fits_unconverted a b ≡ serves_step (tested (out-Ty a)) (out-Ty b)
served_out a b = served_at a b (out-Ty a) (out-Ty b) (λ i. out-Ty a) (λ i. out-Ty b)

equal_numbers : (k l m : ℕ) → k ≡ l → l ≡ m → k ≡ m
equal_numbers k l m p q = p ∙ q

-- each way serves itself, and then as the ways between do

way_serves_same : (v w : Way) → same_way v w ≡ true → serves v w ≡ true
way_serves_same way.Both w h = refl
way_serves_same way.Send w h = h
way_serves_same way.Receive w h = h

same_ways : (u v w : Way) → same_way u v ≡ true → same_way v w ≡ true → same_way u w ≡ true
same_ways way.Both way.Both w h k = k
same_ways way.Send way.Send w h k = k
same_ways way.Receive way.Receive w h k = k
same_ways _ _ w h k = absurd (false≢true h)

ways_serve : (u v w : Way) → serves u v ≡ true → serves v w ≡ true → serves u w ≡ true
ways_serve way.Both v w h k = refl
ways_serve way.Send way.Send w h k = k
ways_serve way.Send _ w h k = absurd (false≢true h)
ways_serve way.Receive way.Receive w h k = k
ways_serve way.Receive _ w h k = absurd (false≢true h)

ways_back : (v w : Way) → serves v w ≡ true → serves w v ≡ true → same_way v w ≡ true
ways_back way.Both way.Both h k = refl
ways_back way.Send w h k = h
ways_back way.Receive w h k = h
ways_back way.Both _ h k = absurd (false≢true k)

-- the same type serves

abbrev ServesSame : Ty → Type 0
ServesSame a = (b : Ty) → same a b ≡ true → fits_unconverted a b ≡ true

abbrev Serving : Type 0
Serving = (a : Ty) × ServesSame a

abbrev serving_type : Serving → Ty
serving_type held = held.0

serve_same_parts : (gs : List (List ℕ × Serving)) (bs : List (List ℕ × Ty)) →
    each_passes (map (beside same) (map (beside serving_type) gs)) bs ≡ true →
    each_passes (map (beside test_of) (map (beside with_test) (map (beside serving_type) gs))) bs ≡ true
serve_same_parts [] [] h = refl
serve_same_parts [] (b ∷ bs) h = h
serve_same_parts (a ∷ gs) [] h = h
serve_same_parts (a ∷ gs) (b ∷ bs) h =
    and_from _ _ (a.1.1 b.1 (and_parts _ _ h).0) (serve_same_parts gs bs (and_parts _ _ h).1)

serve_same_layers : (a : Ty-F Serving) (b : Ty-F Ty) →
    same_step (map-Ty Ty (Ty → Bool) same (map-Ty Serving Ty serving_type a)) b ≡ true →
    serves_step (tested (map-Ty Serving Ty serving_type a)) b ≡ true
serve_same_layers (Ty-F.TupleOf gs) (Ty-F.TupleOf bs) h = serve_same_parts gs bs h
serve_same_layers (Ty-F.ListOf a) (Ty-F.ListOf b) h = a.1 b h
serve_same_layers (Ty-F.DictOf k v) (Ty-F.DictOf l w) h =
    and_from _ _ (and_parts _ _ h).0 (v.1 w (and_parts _ _ h).1)
serve_same_layers (Ty-F.Chan v a) (Ty-F.Chan w b) h =
    and_from _ _ (way_serves_same v w (and_parts _ _ h).0) (and_parts _ _ h).1
serve_same_layers _ _ h = h

pub same_serves : (a b : Ty) → same a b ≡ true → fits_unconverted a b ≡ true
same_serves = ind-Ty ServesSame (λ x y e. subst (λ x. ServesSame (roll-Ty x)) e (λ b h.
    served_rolled (map-Ty Serving Ty serving_type y) b ∙
    serve_same_layers y (out-Ty b) (sym (same_rolled (map-Ty Serving Ty serving_type y) b) ∙ h)))

-- what serves for a type that serves serves

abbrev ServesOn : Ty → Type 0
ServesOn a = (b c : Ty) → fits_unconverted a b ≡ true → fits_unconverted b c ≡ true → fits_unconverted a c ≡ true

abbrev Onward : Type 0
Onward = (a : Ty) × ServesOn a

abbrev onward_type : Onward → Ty
onward_type held = held.0

serve_on_parts : (gs : List (List ℕ × Onward)) (bs cs : List (List ℕ × Ty)) →
    each_passes (map (beside test_of) (map (beside with_test) (map (beside onward_type) gs))) bs ≡ true →
    each_passes (map (beside test_of) (map (beside with_test) bs)) cs ≡ true →
    each_passes (map (beside test_of) (map (beside with_test) (map (beside onward_type) gs))) cs ≡ true
serve_on_parts [] [] cs h k = k
serve_on_parts [] (b ∷ bs) cs h k = absurd (false≢true h)
serve_on_parts (a ∷ gs) [] cs h k = absurd (false≢true h)
serve_on_parts (a ∷ gs) (b ∷ bs) [] h k = k
serve_on_parts (a ∷ gs) (b ∷ bs) (c ∷ cs) h k =
    and_from _ _ (a.1.1 b.1 c.1 (and_parts _ _ h).0 (and_parts _ _ k).0)
    (serve_on_parts gs bs cs (and_parts _ _ h).1 (and_parts _ _ k).1)

serve_on_layers : (a : Ty-F Onward) (b c : Ty-F Ty) →
    serves_step (tested (map-Ty Onward Ty onward_type a)) b ≡ true → serves_step (tested b) c ≡ true →
    serves_step (tested (map-Ty Onward Ty onward_type a)) c ≡ true
serve_on_layers Ty-F.Bool Ty-F.Bool c h k = k
serve_on_layers Ty-F.Int Ty-F.Int c h k = k
serve_on_layers Ty-F.Real Ty-F.Real c h k = k
serve_on_layers Ty-F.Text Ty-F.Text c h k = k
serve_on_layers Ty-F.Timer Ty-F.Timer c h k = k
serve_on_layers Ty-F.Inst Ty-F.Inst c h k = k
serve_on_layers Ty-F.Void Ty-F.Void c h k = k
serve_on_layers (Ty-F.Choice l) (Ty-F.Choice m) (Ty-F.Choice n) h k =
    eq-eqb l n (equal_numbers l m n (eqb-true l m h) (eqb-true m n k))
serve_on_layers (Ty-F.Choice l) (Ty-F.Choice m) _ h k = k
serve_on_layers (Ty-F.TupleOf gs) (Ty-F.TupleOf bs) (Ty-F.TupleOf cs) h k = serve_on_parts gs bs cs h k
serve_on_layers (Ty-F.TupleOf gs) (Ty-F.TupleOf bs) _ h k = k
serve_on_layers (Ty-F.ListOf a) (Ty-F.ListOf b) (Ty-F.ListOf c) h k = a.1 b c h k
serve_on_layers (Ty-F.ListOf a) (Ty-F.ListOf b) _ h k = k
serve_on_layers (Ty-F.SetOf a) (Ty-F.SetOf b) (Ty-F.SetOf c) h k = same_transitive a.0 b c h k
serve_on_layers (Ty-F.SetOf a) (Ty-F.SetOf b) _ h k = k
serve_on_layers (Ty-F.DictOf l a) (Ty-F.DictOf m b) (Ty-F.DictOf n c) h k =
    and_from _ _ (same_transitive l.0 m n (and_parts _ _ h).0 (and_parts _ _ k).0)
    (a.1 b c (and_parts _ _ h).1 (and_parts _ _ k).1)
serve_on_layers (Ty-F.DictOf l a) (Ty-F.DictOf m b) _ h k = k
serve_on_layers (Ty-F.Chan u a) (Ty-F.Chan v b) (Ty-F.Chan w c) h k =
    and_from _ _ (ways_serve u v w (and_parts _ _ h).0 (and_parts _ _ k).0)
    (same_transitive a.0 b c (and_parts _ _ h).1 (and_parts _ _ k).1)
serve_on_layers (Ty-F.Chan u a) (Ty-F.Chan v b) _ h k = k
serve_on_layers (Ty-F.Dist a) (Ty-F.Dist b) (Ty-F.Dist c) h k = same_transitive a.0 b c h k
serve_on_layers (Ty-F.Dist a) (Ty-F.Dist b) _ h k = k
serve_on_layers _ _ c h k = absurd (false≢true h)

pub served_transitive : (a b c : Ty) →
    fits_unconverted a b ≡ true → fits_unconverted b c ≡ true → fits_unconverted a c ≡ true
served_transitive = ind-Ty ServesOn (λ x y e. subst (λ x. ServesOn (roll-Ty x)) e (λ b c h k.
    let a = map-Ty Onward Ty onward_type y in
    served_rolled a c ∙
    serve_on_layers y (out-Ty b) (out-Ty c) (sym (served_rolled a b) ∙ h) (sym (served_out b c) ∙ k)))

-- two types that serve for each other are the same

abbrev ServesBack : Ty → Type 0
ServesBack a = (b : Ty) → fits_unconverted a b ≡ true → fits_unconverted b a ≡ true → same a b ≡ true

abbrev Mutual : Type 0
Mutual = (a : Ty) × ServesBack a

abbrev mutual_type : Mutual → Ty
mutual_type held = held.0

serve_back_parts : (gs : List (List ℕ × Mutual)) (bs : List (List ℕ × Ty)) →
    each_passes (map (beside test_of) (map (beside with_test) (map (beside mutual_type) gs))) bs ≡ true →
    each_passes (map (beside test_of) (map (beside with_test) bs)) (map (beside mutual_type) gs) ≡ true →
    each_passes (map (beside same) (map (beside mutual_type) gs)) bs ≡ true
serve_back_parts [] [] h k = refl
serve_back_parts [] (b ∷ bs) h k = h
serve_back_parts (a ∷ gs) [] h k = h
serve_back_parts (a ∷ gs) (b ∷ bs) h k =
    and_from _ _ (a.1.1 b.1 (and_parts _ _ h).0 (and_parts _ _ k).0)
    (serve_back_parts gs bs (and_parts _ _ h).1 (and_parts _ _ k).1)

serve_back_layers : (a : Ty-F Mutual) (b : Ty-F Ty) →
    serves_step (tested (map-Ty Mutual Ty mutual_type a)) b ≡ true →
    serves_step (tested b) (map-Ty Mutual Ty mutual_type a) ≡ true →
    same_step (map-Ty Ty (Ty → Bool) same (map-Ty Mutual Ty mutual_type a)) b ≡ true
serve_back_layers (Ty-F.TupleOf gs) (Ty-F.TupleOf bs) h k = serve_back_parts gs bs h k
serve_back_layers (Ty-F.ListOf a) (Ty-F.ListOf b) h k = a.1 b h k
serve_back_layers (Ty-F.DictOf l a) (Ty-F.DictOf m b) h k =
    and_from _ _ (and_parts _ _ h).0 (a.1 b (and_parts _ _ h).1 (and_parts _ _ k).1)
serve_back_layers (Ty-F.Chan v a) (Ty-F.Chan w b) h k =
    and_from _ _ (ways_back v w (and_parts _ _ h).0 (and_parts _ _ k).0) (and_parts _ _ h).1
serve_back_layers _ _ h k = h

pub served_antisymmetric : (a b : Ty) →
    fits_unconverted a b ≡ true → fits_unconverted b a ≡ true → same a b ≡ true
served_antisymmetric = ind-Ty ServesBack (λ x y e. subst (λ x. ServesBack (roll-Ty x)) e (λ b h k.
    let a = map-Ty Mutual Ty mutual_type y in
    same_rolled a b ∙
    serve_back_layers y (out-Ty b) (sym (served_rolled a b) ∙ h) (sym (into_rolled b a) ∙ k)))
