-- What targets come to is sound.
use Rattle.std.proofs.Common.{◌≡◌, ℕ, true, ◌&&◌, List, [], ◌∷◌, ◌++◌, map, Some, refl, sym, ap, subst, ◌∙◌, arith}
use Rattle.std.proofs.lemmas.Bool.{and_parts}
use Rattle.std.proofs.lemmas.List.Folds.{list_all-append}
use Rattle.std.specs.List.{list_all}
use Rattle.std.specs.Prelude.{slice_get}
use Rattle.chi_token.specs.declared.place.Place.{Place}
use Rattle.chi_types.specs.declared.ty.Ty.{Ty, Ty-F, out-Ty}
use Rattle.chi_types.specs.Fits.{fits}
use Rattle.chi_types.specs.Same.{nameless, beside}
use Rattle.chi_core.specs.declared.target.CStep.{CStep}
use Rattle.chi_core.specs.declared.target.CStep.TheVariants as step
use Rattle.chi_core.specs.Kinds.{Kind, kind_of, erased}
use Rattle.chi_core.specs.Scopes.{Scope}
use Rattle.chi_core.specs.SetSlots.{Known as Set}
use Rattle.chi_core.specs.Sound.{SoundIn}
use Rattle.chi_core.specs.SoundParts as sound
use Rattle.chi_core.specs.SoundParts.{StepsLead, TargetTakes, TargetsTake}
use Rattle.chi_core.proofs.Erased.{kind_at}
use Rattle.chi_check.specs.Below.chi_check_streams.specs.Streams.{each, of_step, of_target}
use Rattle.chi_check_types.specs.declared.known.Known.{Known}
use Rattle.chi_check_types.specs.declared.known.Known.TheVariants as known
use Rattle.chi_check_types.specs.declared.known.NameKind.{NameKind}
use Rattle.chi_check_types.specs.declared.known.NameKind.TheVariants as kind
use Rattle.chi_check_types.specs.declared.meant.Made.{Made}
use Rattle.chi_check_types.specs.TypeRules.{is_int}
use Rattle.chi_check_expr_rules.specs.Conversions.{converted}
use Rattle.chi_check_expr_rules.specs.Parts.{field_in}
use Rattle.chi_check_expr.proofs.Kept.{Each}
use Rattle.chi_check.specs.Below.chi_check_stat_rules.specs.declared.parts.Aim.{Aim}
use Rattle.chi_check.specs.Below.chi_check_stat_rules.specs.Targets.{aim, untyped_target, visible_target, stepped, to_element, to_key, indexed, to_part, field_of}
use Rattle.chi_check_laws.specs.KnownNames.{Has, SoundMade, Stands}
use Rattle.chi_check_laws.proofs.Conversions.{some_is, mapped, chosen, fits_has}
use Rattle.chi_check_laws.proofs.Parts.{int_kind, position_is}
use Rattle.chi_check_laws.proofs.TypeKinds.{element_of_list, parts_of_dictionary, parts_of_tuple}
use Rattle.chi_check_laws.specs.Parts.{step_texts, target_texts, SoundAim}

-- one more step, after the others
last_step : (steps : List CStep) (s : CStep) (count : ℕ) → (each (map of_step (steps ++ s ∷ [])) count).part ≡ (each (map of_step steps) count).part ++ (of_step s (each (map of_step steps) count).next).part ∷ []
last_step [] s count = refl
last_step (x ∷ xs) s count = ap (λ rest. (of_step x count).part ∷ rest) (last_step xs s (of_step x count).next)

module _ (scope : Scope) (set : Set) where
  lead_further : (steps : List CStep) (s : CStep) (T U V : Kind) → StepsLead scope set steps T U → StepsLead scope set (s ∷ []) U V → StepsLead scope set (steps ++ s ∷ []) T V
  lead_further _ s _ _ V (sound.no_step T) last = last
  lead_further _ s _ U V (sound.into_list e steps t _ h rest) last = sound.into_list e (steps ++ s ∷ []) t V h (lead_further steps s (out-Ty t) U V rest last)
  lead_further _ s _ U V (sound.into_dictionary e steps key has _ h rest) last = sound.into_dictionary e (steps ++ s ∷ []) key has V h (lead_further steps s (out-Ty has) U V rest last)
  lead_further _ s _ U V (sound.into_tuple number steps parts p _ is rest) last = sound.into_tuple number (steps ++ s ∷ []) parts p V is (lead_further steps s (out-Ty p.1) U V rest last)

  stepped_sound : (a : Aim) (s : CStep) (t : Ty) → SoundAim scope set a → (step_texts s ≡ true → (count : ℕ) → StepsLead scope set ((of_step s count).part ∷ []) (kind_of a.ty) (kind_of t)) → SoundIn scope.core t
      → SoundAim scope set (stepped a s t)
  stepped_sound a s t h leads ty = record {
    kind = h.kind;
    counts = h.counts;
    is = h.is;
    steps = λ short count.
        let texts : (list_all step_texts a.target.steps && list_all step_texts (s ∷ [])) ≡ true = sym (list_all-append step_texts a.target.steps (s ∷ [])) ∙ short in
        let both = and_parts _ _ texts in
        let last = and_parts (step_texts s) true both.1 in
        subst (λ steps. StepsLead scope set steps h.kind (kind_of t)) (sym (last_step a.target.steps s count))
        (lead_further (each (map of_step a.target.steps) count).part (of_step s (each (map of_step a.target.steps) count).next).part h.kind (kind_of a.ty) (kind_of t) (h.steps both.0 count) (leads last.0 _));
    ty = ty;
  }

  -- ---- names

  untyped_never : (place : Place) (k : NameKind) (a : Aim) → (untyped_target place k).made ≡ Some a → ⊥
  untyped_never place kind.Variable a e = absurd (cc)
  untyped_never place _ a e = absurd (cc)

  pub target_name_sound : (place : Place) (k : Known) (a : Aim) → Stands scope set k → (visible_target place (Some k)).made ≡ Some a → SoundAim scope set a
  target_name_sound place (known.Var slot t) a st e =
      subst (SoundAim scope set) (some_is (aim slot [] t) a e) (record { kind = kind_of t; counts = st.counts; is = st.is; steps = λ short count. sound.no_step (kind_of t); ty = st.ty })
  target_name_sound place (known.Untyped k) a st e = absurd (untyped_never place k a e)
  target_name_sound place _ a st e = absurd (cc)

  -- ---- indexes

  element_sound : (a : Aim) (t : Ty) (m : Made) (b : Aim) → out-Ty a.ty ≡ Ty-F.ListOf t → SoundAim scope set a → SoundMade scope set m → to_element a t m ≡ Some b → SoundAim scope set b
  element_sound a t m b p h j e =
      let c = chosen (is_int (out-Ty m.ty)) (stepped a (step.Index m.core) t) b e in
      let int : Has scope set m.core Ty-F.Int = subst (Has scope set m.core) (int_kind m.ty c.0) j.kind in
      subst (SoundAim scope set) c.1 (stepped_sound a (step.Index m.core) t h
      (λ short count. subst (λ T. StepsLead scope set ((of_step (step.Index m.core) count).part ∷ []) T (kind_of t)) (sym (kind_at a.ty _ p)) (sound.into_list _ [] (erased t) (kind_of t) (int short count) (sound.no_step (kind_of t))))
      (element_of_list _ a.ty t p h.ty))

  key_sound : (a : Aim) (key has : Ty) (m : Made) (b : Aim) → out-Ty a.ty ≡ Ty-F.DictOf key has → SoundAim scope set a → SoundMade scope set m → to_key a key has m ≡ Some b → SoundAim scope set b
  key_sound a key has m b p h j e =
      let c = chosen (fits m.ty key) (stepped a (step.Index (converted m key)) has) b e in
      let is : Has scope set (converted m key) (kind_of key) = fits_has scope set m key c.0 j in
      subst (SoundAim scope set) c.1 (stepped_sound a (step.Index (converted m key)) has h
      (λ short count. subst (λ T. StepsLead scope set ((of_step (step.Index (converted m key)) count).part ∷ []) T (kind_of has)) (sym (kind_at a.ty _ p)) (sound.into_dictionary _ [] (erased key) (erased has) (kind_of has) (is short count) (sound.no_step (kind_of has))))
      (parts_of_dictionary _ a.ty key has p h.ty).1)

  indexed_by : (a : Aim) (m : Made) (b : Aim) → SoundAim scope set a → SoundMade scope set m → (layer : Ty-F Ty) → out-Ty a.ty ≡ layer → indexed layer a m ≡ Some b → SoundAim scope set b
  indexed_by a m b h j (Ty-F.ListOf t) p e = element_sound a t m b p h j e
  indexed_by a m b h j (Ty-F.DictOf key has) p e = key_sound a key has m b p h j e
  indexed_by a m b h j _ p e = absurd (cc)

  pub target_index_sound : (a : Aim) (m : Made) (b : Aim) → SoundAim scope set a → SoundMade scope set m → indexed (out-Ty a.ty) a m ≡ Some b → SoundAim scope set b
  target_index_sound a m b h j e = indexed_by a m b h j (out-Ty a.ty) refl e

  -- ---- fields

  field_by : (name : List ℕ) (a b : Aim) → SoundAim scope set a → (layer : Ty-F Ty) → out-Ty a.ty ≡ layer → (found : ℕ × Ty) → field_in layer name ≡ Some found → to_part a found ≡ b → SoundAim scope set b
  field_by name a b h (Ty-F.TupleOf parts) p found e is =
      let at = position_is name parts 0 found e in
      let number : at.0 ≡ found.0 = omega (arith, at.1) in
      let place : slice_get (nameless (map (beside erased) parts)) found.0 ≡ Some ([], erased found.1) = subst (λ number. slice_get (nameless (map (beside erased) parts)) number ≡ Some ([], erased found.1)) number at.2.place in
      subst (SoundAim scope set) is (stepped_sound a (step.Part found.0) found.1 h
      (λ short count. subst (λ T. StepsLead scope set ((of_step (step.Part found.0) count).part ∷ []) T (kind_of found.1)) (sym (kind_at a.ty _ p)) (sound.into_tuple found.0 [] (nameless (map (beside erased) parts)) ([], erased found.1) (kind_of found.1) place (sound.no_step (kind_of found.1))))
      (at.2.sound_part _ (parts_of_tuple _ a.ty parts p h.ty)))
  field_by name a b h _ p found e is = absurd (cc)

  pub target_field_sound : (name : List ℕ) (a b : Aim) → SoundAim scope set a → field_of name a ≡ Some b → SoundAim scope set b
  target_field_sound name a b h e =
      let f = mapped (to_part a) (field_in (out-Ty a.ty) name) b e in
      field_by name a b h (out-Ty a.ty) refl f.0 f.1 f.2

  -- ---- what a target takes

  takes_by : (slot : ℕ) (steps : List CStep) (T U : Kind) → set slot ≡ true → slice_get scope.slots slot ≡ Some T → StepsLead scope set steps T U → TargetTakes scope set slot steps U
  takes_by slot _ _ _ counts is (sound.no_step T) = sound.whole T is
  takes_by slot _ T U counts is (sound.into_list e steps t _ h rest) = sound.within (step.Index e) steps _ U counts is (sound.into_list e steps t U h rest)
  takes_by slot _ T U counts is (sound.into_dictionary e steps key has _ h rest) = sound.within (step.Index e) steps _ U counts is (sound.into_dictionary e steps key has U h rest)
  takes_by slot _ T U counts is (sound.into_tuple number steps parts p _ at rest) = sound.within (step.Part number) steps _ U counts is (sound.into_tuple number steps parts p U at rest)

  pub aim_takes : (a : Aim) → SoundAim scope set a → target_texts a.target ≡ true → (count : ℕ) → TargetTakes scope set a.target.slot (each (map of_step a.target.steps) count).part (kind_of a.ty)
  aim_takes a h short count = takes_by a.target.slot _ h.kind (kind_of a.ty) h.counts h.is (h.steps short count)

  pub aims_take : (aims : List Aim) → Each (SoundAim scope set) aims → list_all target_texts (map (λ a. a.target) aims) ≡ true → (count : ℕ)
      → TargetsTake scope set (each (map of_target (map (λ a. a.target) aims)) count).part (map (λ a. kind_of a.ty) aims)
  aims_take [] h short count = sound.no_target
  aims_take (a ∷ aims) h short count =
      let both = and_parts _ _ short in
      sound.one_target (of_target a.target count).part _ (kind_of a.ty) _ (aim_takes a h.0 both.0 count) (aims_take aims h.1 both.1 (of_target a.target count).next)
