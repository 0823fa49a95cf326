-- Fitting is an order on types, up to the same type, and what is joined is fitted by both.
use Rattle.std.proofs.Common.{◌≡◌, Bool, true, false, ◌||◌, refl, sym, ap, subst, ◌∙◌, None, Some, inl, inr, if◌then◌else◌}
use Rattle.std.proofs.lemmas.Bool.{false≢true, or_cases, cases_Bool}
use Rattle.chi_types.specs.declared.ty.Ty.{Ty, Ty-F, out-Ty}
use Rattle.chi_types.specs.declared.ty.Ty.TheVariants as ty
use Rattle.chi_types.specs.Same.{same}
use Rattle.chi_types.specs.Fits.{fits, fits_unconverted, serves_step, widens}
use Rattle.chi_types.specs.Joined.{joined}
use Rattle.chi_types.specs.Laws.{SameJoined}
use Rattle.chi_types.proofs.Served.{served}
use Rattle.chi_types.proofs.SameLaws.{same_reflexive, same_symmetric}
use Rattle.chi_types.proofs.ServedLaws.{tested, same_serves, served_transitive, served_antisymmetric}

or_left : (x y : Bool) → x ≡ true → (x || y) ≡ true
or_left true y h = refl
or_left false y h = absurd (false≢true h)

or_right : (x y : Bool) → y ≡ true → (x || y) ≡ true
or_right true y h = refl
or_right false y h = h

or_swapped : (x y : Bool) → (x || y) ≡ (y || x)
or_swapped true true = refl
or_swapped true false = refl
or_swapped false true = refl
or_swapped false false = refl

-- an int alone serves for an int, and a real alone is served by a real

widens_before : (b c a : Ty-F Ty) → widens b c ≡ true → serves_step (tested a) b ≡ true → widens a c ≡ true
widens_before Ty-F.Int Ty-F.Real Ty-F.Int h k = refl
widens_before Ty-F.Int Ty-F.Real _ h k = absurd (false≢true k)
widens_before Ty-F.Int _ a h k = absurd (false≢true h)
widens_before _ c a h k = absurd (false≢true h)

widens_after : (a b c : Ty-F Ty) → widens a b ≡ true → serves_step (tested b) c ≡ true → widens a c ≡ true
widens_after Ty-F.Int Ty-F.Real Ty-F.Real h k = refl
widens_after Ty-F.Int Ty-F.Real _ h k = absurd (false≢true k)
widens_after Ty-F.Int _ c h k = absurd (false≢true h)
widens_after _ b c h k = absurd (false≢true h)

widens_once : (a b c : Ty-F Ty) → widens a b ≡ true → widens b c ≡ true → ⊥
widens_once Ty-F.Int Ty-F.Real c h k = false≢true k
widens_once Ty-F.Int _ c h k = false≢true h
widens_once _ b c h k = false≢true h

widens_one_way : (a b : Ty-F Ty) → widens a b ≡ true → serves_step (tested b) a ≡ true → ⊥
widens_one_way Ty-F.Int Ty-F.Real h k = false≢true k
widens_one_way Ty-F.Int _ h k = false≢true h
widens_one_way _ b h k = false≢true h

pub same_fits : (a b : Ty) → same a b ≡ true → fits a b ≡ true
same_fits a b h = or_left _ _ (same_serves a b h)

pub fits_reflexive : (a : Ty) → fits a a ≡ true
fits_reflexive a = same_fits a a (same_reflexive a)

pub fits_transitive : (a b c : Ty) → fits a b ≡ true → fits b c ≡ true → fits a c ≡ true
fits_transitive a b c h k = elim (or_cases (fits_unconverted a b) (widens (out-Ty a) (out-Ty b)) h) [
  | inl serves ↦ elim (or_cases (fits_unconverted b c) (widens (out-Ty b) (out-Ty c)) k) [
    | inl on ↦ or_left _ _ (served_transitive a b c serves on)
    | inr widened ↦ or_right _ _ (widens_before (out-Ty b) (out-Ty c) (out-Ty a) widened (sym (served a b) ∙ serves))
  ]
  | inr widened ↦ elim (or_cases (fits_unconverted b c) (widens (out-Ty b) (out-Ty c)) k) [
    | inl on ↦ or_right _ _ (widens_after (out-Ty a) (out-Ty b) (out-Ty c) widened (sym (served b c) ∙ on))
    | inr again ↦ absurd (widens_once (out-Ty a) (out-Ty b) (out-Ty c) widened again)
  ]
]

pub fits_antisymmetric : (a b : Ty) → fits a b ≡ true → fits b a ≡ true → same a b ≡ true
fits_antisymmetric a b h k = elim (or_cases (fits_unconverted a b) (widens (out-Ty a) (out-Ty b)) h) [
  | inl serves ↦ elim (or_cases (fits_unconverted b a) (widens (out-Ty b) (out-Ty a)) k) [
    | inl back ↦ served_antisymmetric a b serves back
    | inr widened ↦ absurd (widens_one_way (out-Ty b) (out-Ty a) widened (sym (served a b) ∙ serves))
  ]
  | inr widened ↦ elim (or_cases (fits_unconverted b a) (widens (out-Ty b) (out-Ty a)) k) [
    | inl back ↦ absurd (widens_one_way (out-Ty a) (out-Ty b) widened (sym (served b a) ∙ back))
    | inr again ↦ absurd (widens_once (out-Ty a) (out-Ty b) (out-Ty a) widened again)
  ]
]

-- what two types have in common

mixed : Ty → Ty → Bool
mixed a b = widens (out-Ty a) (out-Ty b) || widens (out-Ty b) (out-Ty a)

joined_symmetric_at : (a b : Ty) (s t m n : Bool) → s ≡ t → m ≡ n → (s ≡ true → same a b ≡ true) →
    SameJoined (if s then Some a else if m then Some ty.Real else None) (if t then Some b else if n then Some ty.Real else None)
joined_symmetric_at a b true true m n e f holds = holds refl
joined_symmetric_at a b true false m n e f holds = absurd (false≢true (sym e))
joined_symmetric_at a b false true m n e f holds = absurd (false≢true e)
joined_symmetric_at a b false false true true e f holds = same_reflexive ty.Real
joined_symmetric_at a b false false false false e f holds = tt
joined_symmetric_at a b false false true false e f holds = absurd (false≢true (sym f))
joined_symmetric_at a b false false false true e f holds = absurd (false≢true f)

same_swapped : (a b : Ty) → same a b ≡ same b a
same_swapped a b = elim (cases_Bool (same a b)) [
  | inl holds ↦ holds ∙ sym (same_symmetric a b holds)
  | inr fails ↦ elim (cases_Bool (same b a)) [
    | inl holds ↦ same_symmetric b a holds ∙ sym holds
    | inr other ↦ fails ∙ sym other
  ]
]

pub joined_symmetric : (a b : Ty) → SameJoined (joined a b) (joined b a)
joined_symmetric a b = joined_symmetric_at a b _ _ _ _ (same_swapped a b)
    (or_swapped (widens (out-Ty a) (out-Ty b)) (widens (out-Ty b) (out-Ty a))) (λ h. h)

widens_to_real : (a b : Ty-F Ty) → widens a b ≡ true → widens a Ty-F.Real ≡ true
widens_to_real Ty-F.Int b h = refl
widens_to_real _ b h = absurd (false≢true h)

real_serves : (a b : Ty-F Ty) → widens a b ≡ true → serves_step (tested b) Ty-F.Real ≡ true
real_serves Ty-F.Int Ty-F.Real h = refl
real_serves Ty-F.Int _ h = absurd (false≢true h)
real_serves _ b h = absurd (false≢true h)

int_fits_real : (a b : Ty) → widens (out-Ty a) (out-Ty b) ≡ true → fits a ty.Real ≡ true
int_fits_real a b h = or_right _ _ (ap (widens (out-Ty a)) ty.outs-Real ∙ widens_to_real (out-Ty a) (out-Ty b) h)

real_fits_real : (a b : Ty) → widens (out-Ty a) (out-Ty b) ≡ true → fits b ty.Real ≡ true
real_fits_real a b h =
    or_left _ _ (served b ty.Real ∙ ap (serves_step (tested (out-Ty b))) ty.outs-Real ∙ real_serves (out-Ty a) (out-Ty b) h)

joined_fitted_at : (a b c : Ty) (s m n : Bool) →
    (s ≡ true → same a b ≡ true) → (m ≡ true → widens (out-Ty a) (out-Ty b) ≡ true) →
    (n ≡ true → widens (out-Ty b) (out-Ty a) ≡ true) →
    (if s then Some a else if m || n then Some ty.Real else None) ≡ Some c → (fits a c ≡ true) × (fits b c ≡ true)
joined_fitted_at a b c true m n of_same of_int of_real is =
    let first : a ≡ c = cc in (
      subst (λ c. fits a c ≡ true) first (fits_reflexive a),
      subst (λ c. fits b c ≡ true) first (same_fits b a (same_symmetric a b (of_same refl))),
    )
joined_fitted_at a b c false true n of_same of_int of_real is =
    let real : ty.Real ≡ c = cc in (
      subst (λ c. fits a c ≡ true) real (int_fits_real a b (of_int refl)),
      subst (λ c. fits b c ≡ true) real (real_fits_real a b (of_int refl)),
    )
joined_fitted_at a b c false false true of_same of_int of_real is =
    let real : ty.Real ≡ c = cc in (
      subst (λ c. fits a c ≡ true) real (real_fits_real b a (of_real refl)),
      subst (λ c. fits b c ≡ true) real (int_fits_real b a (of_real refl)),
    )
joined_fitted_at a b c false false false of_same of_int of_real is = absurd (cc)

pub joined_fitted : (a b c : Ty) → joined a b ≡ Some c → (fits a c ≡ true) × (fits b c ≡ true)
joined_fitted a b c is = joined_fitted_at a b c _ _ _ (λ h. h) (λ h. h) (λ h. h) is
