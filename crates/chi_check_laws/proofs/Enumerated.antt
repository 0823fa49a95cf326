-- Private to proofs. Enumerations: each that is visible is there, and so is each of its values.
use Rattle.std.proofs.Common.{ℕ, suc, ◌≡◌, ◌<◌, ◌+◌, Bool, true, false, cond, List, [], ◌∷◌, ◌++◌, map, length, Option, Some, None, refl, sym, ap, subst, ◌∙◌, arith, append_assoc, append-nil}
use Rattle.std.specs.Prelude.{slice_get, option_map}
use Rattle.std.specs.Option.{option_and_then}
use Rattle.chi_tree.specs.declared.definition.Definition.{Definition}
use Rattle.chi_tree.specs.declared.definition.Definition.TheVariants as definition
use Rattle.chi_tree.specs.declared.type_tree.Name.{Name}
use Rattle.chi_types.specs.declared.ty.Ty.{Ty-F, out-Ty}
use Rattle.chi_types.specs.declared.ty.Ty.TheVariants as ty
use Rattle.chi_value.specs.Names.{name_at}
use Rattle.chi_core.specs.Sound.{IsName, SoundEnumeration}
use Rattle.chi_core.proofs.Worlds.{get_before}
use Rattle.chi_check_types.specs.declared.known.Known.{Known}
use Rattle.chi_check_types.specs.declared.known.Known.TheVariants as known
use Rattle.chi_check_types.specs.Names.{Names}
use Rattle.chi_check_expr.proofs.Kept.{Each}
use Rattle.chi_check.specs.Below.chi_check_stat_lines.specs.Stated.{in_turn, joined}
use Rattle.chi_check.specs.Below.chi_check_stat_lines.specs.States.{is_taken, with_name}
use Rattle.chi_check.specs.Below.chi_check_headers.specs.declared.sketch.Sketch.{Sketch}
use Rattle.chi_check.specs.Below.chi_check_headers.specs.Definitions.{early_known, named_early, values_from, enumeration_named, sketching}
use Rattle.chi_check_laws.specs.Spelled.{AreNames, Spelled, EachSpelled}
use Rattle.chi_check_laws.proofs.Entries.{Entries, entries_with, entries_so}
use Rattle.chi_check_laws.proofs.Positions.{length_join, get_seam, each_every, each_join, joined_parts, some_same}

-- the names of the enumerations
abbrev pub Kinds : Type 0
Kinds = List (List (List ℕ))

-- an enumeration that is there, or a value that has a name
abbrev pub InKinds : Kinds → Known → Type 0
InKinds es (known.Kind t) = (enumeration : ℕ) × (out-Ty t ≡ Ty-F.Choice enumeration) × (enumeration < length es)
InKinds es (known.Value enumeration position) = (name : List ℕ) × (name_at es enumeration position ≡ Some name)
InKinds es _ = ⊥

name_still : (es more : Kinds) (enumeration position : ℕ) (name : List ℕ) → name_at es enumeration position ≡ Some name → name_at (es ++ more) enumeration position ≡ Some name
name_still es more enumeration position name e = still (slice_get es enumeration) refl e
  where
    still : (o : Option (List (List ℕ))) → slice_get es enumeration ≡ o → option_and_then (λ positions. slice_get positions position) o ≡ Some name → name_at (es ++ more) enumeration position ≡ Some name
    still None h e = absurd (cc)
    still (Some positions) h e = ap (option_and_then (λ positions. slice_get positions position)) (get_before es more enumeration positions h) ∙ e

in_more : (es more : Kinds) (k : Known) → InKinds es k → InKinds (es ++ more) k
in_more es more (known.Kind t) h = (h.0, h.1, let e = length_join es more in let l = h.2 in omega (arith, e, l))
in_more es more (known.Value enumeration position) h = (h.0, name_still es more enumeration position h.0 h.1)
in_more es more (known.Var slot t) h = absurd h
in_more es more (known.Fixed slot t) h = absurd h
in_more es more (known.Const number t) h = absurd h
in_more es more (known.Func number params result) h = absurd h
in_more es more (known.Proc number params exit) h = absurd h
in_more es more (known.Model number params exit) h = absurd h
in_more es more (known.Xper number) h = absurd h
in_more es more (known.Untyped kind) h = absurd h

-- ---- the values of one enumeration

abbrev texts : List Name → List (List ℕ)
texts values = map (λ v. v.text) values

module _ (P : Known → Type 0) where
  abbrev ValuesAre : ℕ → ℕ → List Name → Type 0
  ValuesAre enumeration position [] = Unit {0}
  ValuesAre enumeration position (v ∷ values) = P (known.Value enumeration position) × ValuesAre enumeration (position + 1) values

  either_early : (b : Bool) (early : Names) (text : List ℕ) (k : Known) → Entries P early → P k → Entries P (cond b early (with_name early text k))
  either_early true early text k h p = h
  either_early false early text k h p = entries_with P early text k h p

  early_entries : (name : Name) (enumeration : ℕ) (position : Option ℕ) (s : Sketch) → Entries P s.early → P (early_known enumeration position) → Entries P (named_early name enumeration position s).early
  early_entries name enumeration position s h p = either_early (is_taken s.all name.text) s.early name.text (early_known enumeration position) h p

  values_entries : (enumeration position : ℕ) (values : List Name) (s : Sketch) → ValuesAre enumeration position values → Entries P s.early → Entries P (in_turn (values_from enumeration position values) s).next.early
  values_entries enumeration position [] s v h = h
  values_entries enumeration position (value ∷ values) s v h =
      values_entries enumeration (position + 1) values (named_early value enumeration (Some position) s) v.1 (early_entries value enumeration (Some position) s h v.0)

values_made : (enumeration position : ℕ) (values : List Name) (s : Sketch) → (in_turn (values_from enumeration position values) s).made ≡ Some (texts values)
values_made enumeration position [] s = refl
values_made enumeration position (value ∷ values) s = ap (joined (Some (value.text ∷ []))) (values_made enumeration (position + 1) values (named_early value enumeration (Some position) s))

values_counted : (enumeration position : ℕ) (values : List Name) (s : Sketch) → (in_turn (values_from enumeration position values) s).next.enumerations ≡ s.enumerations
values_counted enumeration position [] s = refl
values_counted enumeration position (value ∷ values) s = values_counted enumeration (position + 1) values (named_early value enumeration (Some position) s)

-- each value stands at its position
values_there : (es : Kinds) (before : List (List ℕ)) (values : List Name) (whole : List (List ℕ)) (position : ℕ) → whole ≡ before ++ texts values → position ≡ length before
    → ValuesAre (InKinds (es ++ whole ∷ [])) (length es) position values
values_there es before [] whole position e p = tt
values_there es before (v ∷ values) whole position e p =
    let at : slice_get whole position ≡ Some v.text = ap (slice_get whole) p ∙ ap (λ w. slice_get w (length before)) e ∙ get_seam before (texts values) v.text in
    let longer = length_join before (v.text ∷ []) in (
      (v.text, ap (option_and_then (λ positions. slice_get positions position)) (get_seam es [] whole) ∙ at),
      values_there es (before ++ v.text ∷ []) values whole (position + 1) (e ∙ sym (append_assoc before (v.text ∷ []) (texts values))) (omega (arith, p, longer)),
    )

-- ---- all enumerations

pub record Enumerated (es : Kinds) (s : Sketch) : Type 0 where
  pub counted : s.enumerations ≡ length es
  pub visible : Entries (InKinds es) s.early

enumeration_next : (es : Kinds) (name : Name) (values : List Name) (s : Sketch) → Enumerated es s → Enumerated (es ++ texts values ∷ []) (enumeration_named name values s).next
enumeration_next es name values s h =
    let first = named_early name s.enumerations None s in
    let longer = length_join es (texts values ∷ []) in
    let Now : Known → Type 0 = InKinds (es ++ texts values ∷ []) in
    let still : Entries Now s.early = entries_so (InKinds es) Now (in_more es (texts values ∷ [])) s.early h.visible in
    let count = h.counted in
    let there : Now (early_known s.enumerations None) = (s.enumerations, ty.outs-Choice s.enumerations, omega (arith, longer, count)) in
    let values_are = subst (λ n. ValuesAre Now n 0 values) (sym h.counted) (values_there es [] values (texts values) 0 refl refl) in
    let all = values_counted s.enumerations 0 values first in
    record {
      counted = omega (arith, longer, count, all);
      visible = values_entries Now s.enumerations 0 values first values_are (early_entries Now name s.enumerations None s still there);
    }

same_kinds : (es : Kinds) (s : Sketch) → Enumerated es s → Enumerated (es ++ []) s
same_kinds es s h = subst (λ es. Enumerated es s) (sym (append-nil es)) h

none_more : (es x : Kinds) (s : Sketch) → Some [] ≡ Some x → Enumerated es s → Enumerated (es ++ x) s
none_more es x s e h = subst (λ x. Enumerated (es ++ x) s) (some_same [] x e) (same_kinds es s h)

counted_so : (es : Kinds) (s t : Sketch) → t.enumerations ≡ s.enumerations → t.early ≡ s.early → Enumerated es s → Enumerated es t
counted_so es s t c v h = record { counted = c ∙ h.counted; visible = subst (Entries (InKinds es)) (sym v) h.visible }

made_values : (name : Name) (values : List Name) (s : Sketch) (x : Kinds) → (enumeration_named name values s).made ≡ Some x → texts values ∷ [] ≡ x
made_values name values s x e = some_same (texts values ∷ []) x (ap (option_map (λ names. names ∷ [])) (sym (values_made s.enumerations 0 values (named_early name s.enumerations None s))) ∙ e)

one_enumerated : (d : Definition) (es x : Kinds) (s : Sketch) → (sketching d s).made ≡ Some x → Enumerated es s → Enumerated (es ++ x) (sketching d s).next
one_enumerated (definition.Enum place name values) es x s e h = subst (λ x. Enumerated (es ++ x) (enumeration_named name values s).next) (made_values name values s x e) (enumeration_next es name values s h)
one_enumerated (definition.Const place tree name equals value) es x s e h = counted_so (es ++ x) s _ refl refl (none_more es x s e h)
one_enumerated (definition.TypeWord place name tree) es x s e h = counted_so (es ++ x) s _ refl refl (none_more es x s e h)
one_enumerated (definition.Func place tree name formals steps) es x s e h = counted_so (es ++ x) s _ refl refl (none_more es x s e h)
one_enumerated (definition.Proc place tree name formals steps) es x s e h = counted_so (es ++ x) s _ refl refl (none_more es x s e h)
one_enumerated (definition.Model place tree name formals steps) es x s e h = counted_so (es ++ x) s _ refl refl (none_more es x s e h)
one_enumerated (definition.Xper place name steps) es x s e h = counted_so (es ++ x) s _ refl refl (none_more es x s e h)

pub all_enumerated : (ds : List Definition) (before es : Kinds) (s : Sketch) → (in_turn (map sketching ds) s).made ≡ Some es → Enumerated before s → Enumerated (before ++ es) (in_turn (map sketching ds) s).next
all_enumerated [] before es s e h = none_more before es s e h
all_enumerated (d ∷ ds) before es s e h =
    let first = sketching d s in
    let parts = joined_parts first.made (in_turn (map sketching ds) first.next).made es e in
    let last = (in_turn (map sketching ds) first.next).next in
    subst (λ es. Enumerated es last) (append_assoc before parts.0 parts.1 ∙ ap (λ es. before ++ es) parts.4)
    (all_enumerated ds (before ++ parts.0) parts.1 first.next parts.3 (one_enumerated d before parts.0 s parts.2 h))

-- ---- each has values that are names

each_name : (values : List Name) → AreNames values → Each IsName (texts values)
each_name [] h = tt
each_name (v ∷ values) h = (h.0, each_name values h.1)

texts_count : (values : List Name) → length (texts values) ≡ length values
texts_count [] = refl
texts_count (v ∷ values) = ap suc (texts_count values)

sound_values : (values : List Name) → (0 < length values) × AreNames values → SoundEnumeration (texts values)
sound_values values h = record { values = subst (λ n. 0 < n) (sym (texts_count values)) h.0; named = each_every IsName (texts values) (each_name values h.1) }

one_sound : (d : Definition) (x : Kinds) (s : Sketch) → Spelled d → (sketching d s).made ≡ Some x → Each SoundEnumeration x
one_sound (definition.Enum place name values) x s h e = subst (Each SoundEnumeration) (made_values name values s x e) (sound_values values h, tt)
one_sound (definition.Const place tree name equals value) x s h e = subst (Each SoundEnumeration) (some_same [] x e) tt
one_sound (definition.TypeWord place name tree) x s h e = subst (Each SoundEnumeration) (some_same [] x e) tt
one_sound (definition.Func place tree name formals steps) x s h e = subst (Each SoundEnumeration) (some_same [] x e) tt
one_sound (definition.Proc place tree name formals steps) x s h e = subst (Each SoundEnumeration) (some_same [] x e) tt
one_sound (definition.Model place tree name formals steps) x s h e = subst (Each SoundEnumeration) (some_same [] x e) tt
one_sound (definition.Xper place name steps) x s h e = subst (Each SoundEnumeration) (some_same [] x e) tt

pub enumerations_sound : (ds : List Definition) (es : Kinds) (s : Sketch) → EachSpelled ds → (in_turn (map sketching ds) s).made ≡ Some es → Each SoundEnumeration es
enumerations_sound [] es s h e = subst (Each SoundEnumeration) (some_same [] es e) tt
enumerations_sound (d ∷ ds) es s h e =
    let first = sketching d s in
    let parts = joined_parts first.made (in_turn (map sketching ds) first.next).made es e in
    subst (Each SoundEnumeration) parts.4 (each_join SoundEnumeration parts.0 parts.1 (one_sound d parts.0 s h.0 parts.2) (enumerations_sound ds parts.1 first.next h.1 parts.3))
