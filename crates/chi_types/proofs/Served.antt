-- What serving comes to at each kind of type.
use Rattle.std.proofs.Common.{◌≡◌, ℕ, Bool, true, false, ◌&&◌, nat_eq, List, [], ◌∷◌, map, refl, sym, ap, ◌∙◌}
use Rattle.chi_types.specs.declared.ty.Way.{Way}
use Rattle.chi_types.specs.declared.ty.Ty.{Ty, Ty-F, map-Ty, para-Ty, para-roll-Ty, out-Ty, roll-out-Ty}
use Rattle.chi_types.specs.declared.ty.Ty.TheVariants as ty
use Rattle.chi_types.specs.Same.{same, each_passes, beside}
use Rattle.chi_types.specs.Fits.{fits_unconverted, serves, serves_step, test_of}

abbrev pub with_test : Ty → Ty × (Ty → Bool)
with_test ty = (ty, fits_unconverted ty)

-- the outermost of both decides, with the tests of the parts
pub served_at : (given wanted : Ty) (g w : Ty-F Ty) → out-Ty given ≡ g → out-Ty wanted ≡ w →
    fits_unconverted given wanted ≡ serves_step (map-Ty Ty (Ty × (Ty → Bool)) with_test g) w
served_at given wanted g w at_given at_wanted =
    let step : Ty-F (Ty × (Ty → Bool)) → Ty → Bool = λ layer wanted. serves_step layer (out-Ty wanted) in
    let at : fits_unconverted given ≡ step (map-Ty Ty (Ty × (Ty → Bool)) with_test (out-Ty given)) =
    ap (para-Ty (Ty → Bool) step) (sym (roll-out-Ty given)) ∙ para-roll-Ty (Ty → Bool) step (out-Ty given) in
    (λ i. at i wanted) ∙ (λ i. serves_step (map-Ty Ty (Ty × (Ty → Bool)) with_test (at_given i)) (at_wanted i))

pub served : (given wanted : Ty) →
    fits_unconverted given wanted ≡ serves_step (map-Ty Ty (Ty × (Ty → Bool)) with_test (out-Ty given)) (out-Ty wanted)
served given wanted = served_at given wanted (out-Ty given) (out-Ty wanted) (λ i. out-Ty given) (λ i. out-Ty wanted)

pub served_choices : (given wanted : Ty) (k l : ℕ) → given ≡ ty.Choice k → wanted ≡ ty.Choice l →
    fits_unconverted given wanted ≡ nat_eq k l
served_choices given wanted k l p q =
    served_at given wanted _ _ (ap out-Ty p ∙ ty.outs-Choice k) (ap out-Ty q ∙ ty.outs-Choice l)

fits_of_parts : (ps : List (List ℕ × Ty)) →
    map (beside test_of) (map (beside with_test) ps) ≡ map (beside fits_unconverted) ps
fits_of_parts [] = refl
fits_of_parts (p ∷ ps) = ap (λ rest. beside fits_unconverted p ∷ rest) (fits_of_parts ps)

pub served_tuples : (given wanted : Ty) (ps qs : List (List ℕ × Ty)) → given ≡ ty.TupleOf ps → wanted ≡ ty.TupleOf qs →
    fits_unconverted given wanted ≡ each_passes (map (beside fits_unconverted) ps) qs
served_tuples given wanted ps qs p q =
    served_at given wanted _ _ (ap out-Ty p ∙ ty.outs-TupleOf ps) (ap out-Ty q ∙ ty.outs-TupleOf qs) ∙
    ap (λ tests. each_passes tests qs) (fits_of_parts ps)

pub served_lists : (given wanted x y : Ty) → given ≡ ty.ListOf x → wanted ≡ ty.ListOf y →
    fits_unconverted given wanted ≡ fits_unconverted x y
served_lists given wanted x y p q =
    served_at given wanted _ _ (ap out-Ty p ∙ ty.outs-ListOf x) (ap out-Ty q ∙ ty.outs-ListOf y)

pub served_sets : (given wanted x y : Ty) → given ≡ ty.SetOf x → wanted ≡ ty.SetOf y →
    fits_unconverted given wanted ≡ same x y
served_sets given wanted x y p q =
    served_at given wanted _ _ (ap out-Ty p ∙ ty.outs-SetOf x) (ap out-Ty q ∙ ty.outs-SetOf y)

both_hold : (a b r : Bool) → r ≡ (a && b) → a ≡ true → r ≡ b
both_hold a b r is holds = is ∙ ap (λ x. x && b) holds

first_fails : (a b r : Bool) → r ≡ (a && b) → a ≡ false → r ≡ false
first_fails a b r is fails = is ∙ ap (λ x. x && b) fails

served_dicts : (given wanted k v l w : Ty) → given ≡ ty.DictOf k v → wanted ≡ ty.DictOf l w →
    fits_unconverted given wanted ≡ (same k l && fits_unconverted v w)
served_dicts given wanted k v l w p q =
    served_at given wanted _ _ (ap out-Ty p ∙ ty.outs-DictOf k v) (ap out-Ty q ∙ ty.outs-DictOf l w)

pub served_dicts_of_one_key : (given wanted k v l w : Ty) → given ≡ ty.DictOf k v → wanted ≡ ty.DictOf l w →
    same k l ≡ true → fits_unconverted given wanted ≡ fits_unconverted v w
served_dicts_of_one_key given wanted k v l w p q = both_hold _ _ _ (served_dicts given wanted k v l w p q)

pub served_dicts_of_two_keys : (given wanted k v l w : Ty) → given ≡ ty.DictOf k v → wanted ≡ ty.DictOf l w →
    same k l ≡ false → fits_unconverted given wanted ≡ false
served_dicts_of_two_keys given wanted k v l w p q = first_fails _ _ _ (served_dicts given wanted k v l w p q)

served_channels : (given wanted x y : Ty) (v w : Way) → given ≡ ty.Chan v x → wanted ≡ ty.Chan w y →
    fits_unconverted given wanted ≡ (serves v w && same x y)
served_channels given wanted x y v w p q =
    served_at given wanted _ _ (ap out-Ty p ∙ ty.outs-Chan v x) (ap out-Ty q ∙ ty.outs-Chan w y)

pub served_ways : (given wanted x y : Ty) (v w : Way) → given ≡ ty.Chan v x → wanted ≡ ty.Chan w y →
    serves v w ≡ true → fits_unconverted given wanted ≡ same x y
served_ways given wanted x y v w p q = both_hold _ _ _ (served_channels given wanted x y v w p q)

pub served_no_way : (given wanted x y : Ty) (v w : Way) → given ≡ ty.Chan v x → wanted ≡ ty.Chan w y →
    serves v w ≡ false → fits_unconverted given wanted ≡ false
served_no_way given wanted x y v w p q = first_fails _ _ _ (served_channels given wanted x y v w p q)

pub served_dists : (given wanted x y : Ty) → given ≡ ty.Dist x → wanted ≡ ty.Dist y →
    fits_unconverted given wanted ≡ same x y
served_dists given wanted x y p q =
    served_at given wanted _ _ (ap out-Ty p ∙ ty.outs-Dist x) (ap out-Ty q ∙ ty.outs-Dist y)
