-- The constants of a sound program: nothing in them is amiss, and where no fault ends them, they are of their kinds.
use Rattle.std.proofs.Common.{◌≡◌, ◌++◌, ◌+◌, ◌<◌, ◌⊎◌, inl, inr, ℕ, ltb-true, List, [], ◌∷◌, length, Some, refl, sym, ap, subst, ◌∙◌, arith}
use Rattle.std.proofs.lemmas.List.{append_assoc, append-nil, length-append, length-replicate}
use Rattle.std.proofs.lemmas.Option.{slice_get_within}
use Rattle.std.specs.Prelude.{slice_get}
use Rattle.std.specs.Option.{IsSomeAnd}
use Rattle.chi_value.specs.declared.value.Value.{Value}
use Rattle.chi_dist.specs.Draws.{stream_count}
use Rattle.chi_core.specs.declared.program.ConstDef.{ConstDef}
use Rattle.chi_core.specs.declared.program.Core.{Core}
use Rattle.chi_core.specs.Answer as answer
use Rattle.chi_core.specs.Answer.{Answer, Gives, Fails}
use Rattle.chi_core.specs.Beginning.{no_call, constant_scene, constant_view, constant_value}
use Rattle.chi_core.specs.Kinded.{KindedConstants}
use Rattle.chi_core.specs.Kinds.{Kind, kind_of}
use Rattle.chi_core.specs.Of.{World, Wider, nowhere, IsOf}
use Rattle.chi_core.specs.Scopes.{constant_scope}
use Rattle.chi_core.specs.Sound.{Sound, SoundConstant, nothing_known}
use Rattle.chi_core.proofs.Worlds.{get_before, value_grows}
use Rattle.chi_core_kinds.specs.Well.{FitsView, Kept, Same}
use Rattle.chi_core_kinds.proofs.Elements.{there_last}
use Rattle.chi_core_kinds.proofs.Expressions.{Provides, Reads, well_value}
use Rattle.chi_core_kinds.proofs.Operations.{Laws}
use Rattle.chi_core_kinds.proofs.Meetings.{the_one}
use Rattle.chi_core_kinds.proofs.Still.{Stays}
use Rattle.chi_core_kinds.proofs.StillConstants.{still_constant}
use Rattle.chi_xper_runs.specs.Constants as set
use Rattle.chi_xper_runs.specs.Constants.{Constants, Set, Breaks, with_constant, set_after, constants, ConstantsAreSet}

-- where there is no channel and no instance, a value names none
names_none : (names : List (List (List ℕ))) (u : World) → Wider (nowhere names) u → length u.carried ≡ 0 → u.instances ≡ 0 → (v : Value) (T : Kind) → IsOf u T v → IsOf (nowhere names) T v
names_none names u wider none alone v T is =
    value_grows u (nowhere names) (record {
      names = sym wider.names;
      carried = λ n t e. let l : n < length u.carried = slice_get_within u.carried n t e in absurd (omega (arith, l, none));
      instances = omega (arith, alone);
    }) v T is

get_next : {A : Type 0} (xs : List A) (x : A) (ys : List A) → slice_get (xs ++ x ∷ ys) (length xs) ≡ Some x
get_next [] x ys = refl
get_next (z ∷ xs) x ys = get_next xs x ys

-- they are of their kinds, or a fault ends them
abbrev AreWell : Core → Constants → Type 0
AreWell core (Set values) = KindedConstants core values
AreWell core (Breaks ending) = Unit {0}
AreWell core set.Amiss = ⊥

module _ (laws : Laws) (core : Core) (fine : Sound core) (seed : ℕ) where
  abbrev names : List (List (List ℕ))
  names = core.names.kinds

  -- the constants whose values these are have values of their kinds
  abbrev Evaluated : List Value → Type 0
  Evaluated values =
      (number : ℕ) (c : ConstDef) → slice_get core.consts number ≡ Some c → number < length values → IsSomeAnd (slice_get values number) (IsOf (nowhere names) (kind_of c.ty))

  provides : (values : List Value) → Evaluated values → Provides (constant_scope core (length values)) no_call (constant_scene core seed values)
  provides values done = record {
    enumerations = λ n values e. (fine.enumerations n values e).values;
    names = refl;
    constants = λ number c e before. done number c e (ltb-true number (length values) before);
    called = λ may. absurd (cc);
  }

  reads : (values : List Value) → Reads (nowhere names) (constant_scope core (length values)) nothing_known []
  reads values = record { names = refl; held = record { sized = refl; each = λ slot known. absurd (cc) } }

  fits : FitsView (nowhere names) constant_view
  fits = record { channels = refl; streams = let none : ℕ = 0 in length-replicate stream_count none; instances = refl }

  one_more : (values : List Value) (c : ConstDef) (v : Value) → Evaluated values → slice_get core.consts (length values) ≡ Some c → IsOf (nowhere names) (kind_of c.ty) v → Evaluated (values ++ v ∷ [])
  one_more values c v done at is number other e l = by_place (let b : (number < length values) ⊎ (number ≡ length values) = grind (arith, l, length-append values (v ∷ [])) in b)
    where
      by_place : (number < length values) ⊎ (number ≡ length values) → IsSomeAnd (slice_get (values ++ v ∷ []) number) (IsOf (nowhere names) (kind_of other.ty))
      by_place (inl before) =
          let old = the_one (slice_get values number) (IsOf (nowhere names) (kind_of other.ty)) (done number other e before) in
          subst (λ o. IsSomeAnd o (IsOf (nowhere names) (kind_of other.ty))) (sym (get_before values (v ∷ []) number old.0 old.1)) old.2
      by_place (inr last) =
          let same : c ≡ other = cc (sym at ∙ ap (slice_get core.consts) (sym last) ∙ e) in
          subst (λ n. IsSomeAnd (slice_get (values ++ v ∷ []) n) (IsOf (nowhere names) (kind_of other.ty))) (sym last)
          (subst (λ o. IsSomeAnd o (IsOf (nowhere names) (kind_of other.ty))) (sym (there_last values v)) (subst (λ z. IsOf (nowhere names) (kind_of z.ty) v) same is))

  -- one constant, and then the rest
  goes_on : (values : List Value) (c : ConstDef) (rest : List Value → Constants) → ((v : Value) → IsOf (nowhere names) (kind_of c.ty) v → AreWell core (rest (values ++ v ∷ [])))
      → (a : Answer Value) → Kept (nowhere names) (Same (nowhere names) (λ v. IsOf v (kind_of c.ty))) a → Stays constant_view a → AreWell core (with_constant core seed rest values c a)
  goes_on values c rest later (Gives v view) k none = later v (names_none names k.world k.wider (k.fits.channels ∙ none.1) k.is.0 v (kind_of c.ty) k.is.1)
  goes_on values c rest later (Fails kind) k none = tt
  goes_on values c rest later answer.Spent k none = none
  goes_on values c rest later answer.Amiss k none = k

  are_well : (before cs : List ConstDef) (values : List Value) → core.consts ≡ before ++ cs → length values ≡ length before → Evaluated values → AreWell core (set_after core seed values cs)
  are_well before [] values all many done = λ number c e.
      let l : number < length core.consts = slice_get_within core.consts number c e in
      let every : length core.consts ≡ length before = ap length (all ∙ append-nil before) in
      the_one (slice_get values number) (IsOf (nowhere names) (kind_of c.ty)) (done number c e (omega (arith, l, every, many)))
  are_well before (c ∷ cs) values all many done =
      let at : slice_get core.consts (length values) ≡ Some c = ap (λ n. slice_get core.consts n) many ∙ ap (λ xs. slice_get xs (length before)) all ∙ get_next before c cs in
      let constant : SoundConstant core (length values) c = fine.constants (length values) c at in
      goes_on values c (λ more. set_after core seed more cs)
      (λ v is. are_well (before ++ c ∷ []) cs (values ++ v ∷ []) (all ∙ sym (append_assoc before (c ∷ []) cs))
      (length-append values (v ∷ []) ∙ ap (λ n. n + 1) many ∙ sym (length-append before (c ∷ []))) (one_more values c v done at is))
      (constant_value core seed values c)
      (well_value laws (constant_scope core (length values)) no_call (constant_scene core seed values) (provides values done) nothing_known [] c.value (kind_of c.ty) constant.value (nowhere names) (reads values)
      constant_view fits)
      (still_constant core (length values) nothing_known no_call (constant_scene core seed values) [] c.value (kind_of c.ty) constant.value constant_view)

pub constants_are_set : Laws → ConstantsAreSet
constants_are_set laws core fine seed =
    let well : AreWell core (constants core seed) = are_well laws core fine seed [] core.consts [] refl refl (λ number c e l. absurd (omega (arith, l))) in
    (λ e. subst (AreWell core) e well, λ values e. subst (AreWell core) e well)
