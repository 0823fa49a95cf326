-- The channels of what is sound are read soundly.
use Rattle.std.proofs.Common.{◌≡◌, ◌≢◌, arith, ℕ, zero, suc, ◌<◌, length, Bool, true, false, List, [], ◌∷◌, Option, Some, None, map, refl, sym, ap, subst, ◌∙◌}
use Rattle.std.proofs.lemmas.Bool.{false≢true}
use Rattle.std.specs.Prelude.{slice_get, option_map}
use Rattle.std.proofs.lemmas.Option.{slice_get-map}
use Rattle.chi_types.specs.declared.ty.Way.TheVariants as way
use Rattle.chi_types.specs.declared.ty.Ty.{Ty, Ty-F, map-Ty, out-Ty, roll-Ty, roll-out-Ty}
use Rattle.chi_types.specs.declared.ty.Ty.TheVariants as ty
use Rattle.chi_types.specs.Same.{beside, nameless}
use Rattle.chi_core.specs.declared.communication.CComm.{CComm}
use Rattle.chi_core.specs.declared.communication.CComm.TheVariants as comm
use Rattle.chi_core.specs.declared.expression.CExpr.{CExpr}
use Rattle.chi_core.specs.declared.target.CStep.{CStep}
use Rattle.chi_core.specs.declared.target.CStep.TheVariants as step
use Rattle.chi_core.specs.declared.target.CTarget.{CTarget}
use Rattle.chi_core.specs.Kinds.{Kind, kind_of, kinds_of, without_ways_and_names, erased}
use Rattle.chi_core.specs.Scopes.{Scope}
use Rattle.chi_core.specs.SetSlots.{Known}
use Rattle.chi_core.specs.SoundParts as q
use Rattle.chi_core.specs.SoundParts.{StepsLead, ChannelAt, SoundComm}
use Rattle.chi_core.proofs.Erased.{kind_at}
use Rattle.chi_gen_parts.specs.Soundness.{SoundCommAt, LeadsFrom, SoundTargetAt}

some_is : {A : Type 0} (x y : A) → Some x ≡ Some y → x ≡ y
some_is x y h = cc

-- what is somewhere is within

pub at_place : {A : Type 0} (xs : List A) (n : ℕ) → slice_get xs n ≢ None → n < length xs
at_place [] n h = absurd (h refl)
at_place (x ∷ xs) zero h = omega arith
at_place (x ∷ xs) (suc n) h = omega (arith, at_place xs n h)

some_there : {A : Type 0} (o : Option A) (x : A) → o ≡ Some x → o ≢ None
some_there o x h k = let e : Some x ≡ None = sym h ∙ k in absurd (cc)

-- channels, and steps into the types of slots

mapped : {A B : Type 0} (f : A → B) (o : Option A) (y : B) → option_map f o ≡ Some y → (x : A) × (o ≡ Some x) × (f x ≡ y)
mapped f None y e = absurd (cc)
mapped f (Some x) y e = (x, refl, some_is (f x) y e)

module _ (slots : List Ty) (scope : Scope) (known : Known) (kinds : scope.slots ≡ kinds_of slots) where
  pub channel_target : (c : CTarget) (element : Ty) → ChannelAt scope known c element → SoundTargetAt slots c
  channel_target c element ch =
      let m = mapped kind_of (slice_get slots c.slot) ch.kind (sym (slice_get-map kind_of slots c.slot) ∙ ap (λ l. slice_get l c.slot) (sym kinds) ∙ ch.is) in
      record {
        ty = m.0;
        is = m.1;
        leads = record { scope = scope; known = known; goal = Ty-F.Chan way.Both element; leads = subst (λ K. StepsLead scope known c.steps K (Ty-F.Chan way.Both element)) (sym m.2) ch.steps };
      }

  sent : (c : CTarget) (v : Option CExpr) → SoundComm scope known (comm.Send c v) → SoundTargetAt slots c
  sent _ _ (q.sends c e element ch v g) = channel_target c element ch
  sent _ _ (q.sends_void c element ch v) = channel_target c element ch

  received : (c : CTarget) (slot : Option ℕ) → SoundComm scope known (comm.Receive c slot) → SoundTargetAt slots c
  received _ _ (q.receives c slot element ch v is) = channel_target c element ch
  received _ _ (q.receives_void c element ch v) = channel_target c element ch

pub sound_send : (slots : List Ty) (x : CComm) (c : CTarget) (v : Option CExpr) → SoundCommAt slots x → x ≡ comm.Send c v → SoundTargetAt slots c
sound_send slots x c v h e = sent slots h.scope h.known h.kinds c v (subst (SoundComm h.scope h.known) e h.sound)

pub sound_receive : (slots : List Ty) (x : CComm) (c : CTarget) (slot : Option ℕ) → SoundCommAt slots x → x ≡ comm.Receive c slot → SoundTargetAt slots c
sound_receive slots x c slot h e = received slots h.scope h.known h.kinds c slot (subst (SoundComm h.scope h.known) e h.sound)

module _ (scope : Scope) (known : Known) (U : Kind) where
  step_into_list : (e : CExpr) (steps : List CStep) (K : Kind) (t : Ty) → StepsLead scope known (step.Index e ∷ steps) K U → K ≡ Ty-F.ListOf t → StepsLead scope known steps (out-Ty t) U
  step_into_list _ _ _ t (q.into_list e steps t' _ g r) is = let same : t' ≡ t = cc in subst (λ t. StepsLead scope known steps (out-Ty t) U) same r
  step_into_list _ _ _ t (q.into_dictionary e steps key has _ g r) is = absurd (cc)

  step_into_dictionary : (e : CExpr) (steps : List CStep) (K : Kind) (key has : Ty) → StepsLead scope known (step.Index e ∷ steps) K U → K ≡ Ty-F.DictOf key has → StepsLead scope known steps (out-Ty has) U
  step_into_dictionary _ _ _ key has (q.into_list e steps t' _ g r) is = absurd (cc)
  step_into_dictionary _ _ _ key has (q.into_dictionary e steps key' has' _ g r) is = let same : has' ≡ has = cc in subst (λ t. StepsLead scope known steps (out-Ty t) U) same r

  step_into_tuple : (number : ℕ) (steps : List CStep) (K : Kind) (parts : List (List ℕ × Ty)) → StepsLead scope known (step.Part number ∷ steps) K U → K ≡ Ty-F.TupleOf parts
      → (p : List ℕ × Ty) × (slice_get parts number ≡ Some p) × StepsLead scope known steps (out-Ty p.1) U
  step_into_tuple _ _ _ parts (q.into_tuple number steps parts' p _ is r) same = let e : parts' ≡ parts = cc in (p, ap (λ l. slice_get l number) (sym e) ∙ is, r)

pub leads_into_list : (t inner : Ty) (e : CExpr) (steps : List CStep) → LeadsFrom t (step.Index e ∷ steps) → t ≡ ty.ListOf inner → LeadsFrom inner steps
leads_into_list t inner e steps h is =
    record { scope = h.scope; known = h.known; goal = h.goal; leads = step_into_list h.scope h.known h.goal e steps (kind_of t) (erased inner) h.leads (kind_at t _ (ap out-Ty is ∙ ty.outs-ListOf inner)) }

pub leads_into_dictionary : (t key has : Ty) (e : CExpr) (steps : List CStep) → LeadsFrom t (step.Index e ∷ steps) → t ≡ ty.DictOf key has → LeadsFrom has steps
leads_into_dictionary t key has e steps h is =
    record { scope = h.scope; known = h.known; goal = h.goal; leads = step_into_dictionary h.scope h.known h.goal e steps (kind_of t) (erased key) (erased has) h.leads (kind_at t _ (ap out-Ty is ∙ ty.outs-DictOf key has)) }

pub part_of_type : (parts : List (List ℕ × Ty)) (number : ℕ) (p : List ℕ × Ty) → slice_get (nameless (map (beside erased) parts)) number ≡ Some p → (r : List ℕ × Ty) × (slice_get parts number ≡ Some r) × (erased r.1 ≡ p.1)
part_of_type [] number p is = absurd (cc)
part_of_type (r ∷ parts) zero p is = (r, refl, ap (λ (x : List ℕ × Ty). x.1) (some_is _ p is))
part_of_type (r ∷ parts) (suc number) p is = part_of_type parts number p is

pub leads_into_tuple : (t : Ty) (parts : List (List ℕ × Ty)) (number : ℕ) (steps : List CStep) → LeadsFrom t (step.Part number ∷ steps) → t ≡ ty.TupleOf parts
    → (r : List ℕ × Ty) × (slice_get parts number ≡ Some r) × LeadsFrom r.1 steps
leads_into_tuple t parts number steps h is =
    let m = step_into_tuple h.scope h.known h.goal number steps (kind_of t) (nameless (map (beside erased) parts)) h.leads (kind_at t _ (ap out-Ty is ∙ ty.outs-TupleOf parts)) in
    let r = part_of_type parts number m.0 m.1 in
    (r.0, r.1, record { scope = h.scope; known = h.known; goal = h.goal; leads = subst (λ u. StepsLead h.scope h.known steps (out-Ty u) h.goal) (sym r.2) m.2 })

-- an index leads into lists and dictionaries alone, and a number into tuples

abbrev indexed : Ty-F Ty → Bool
indexed (Ty-F.ListOf t) = true
indexed (Ty-F.DictOf key has) = true
indexed _ = false

abbrev numbered : Ty-F Ty → Bool
numbered (Ty-F.TupleOf parts) = true
numbered _ = false

is_indexed : (scope : Scope) (known : Known) (e : CExpr) (steps : List CStep) (K U : Kind) → StepsLead scope known (step.Index e ∷ steps) K U → indexed K ≡ true
is_indexed scope known _ _ _ _ (q.into_list e steps t U g r) = refl
is_indexed scope known _ _ _ _ (q.into_dictionary e steps key has U g r) = refl

is_numbered : (scope : Scope) (known : Known) (number : ℕ) (steps : List CStep) (K U : Kind) → StepsLead scope known (step.Part number ∷ steps) K U → numbered K ≡ true
is_numbered scope known _ _ _ _ (q.into_tuple number steps parts p U is r) = refl

module _ (t : Ty) where
  rolled : (u : Ty) (o : Ty-F Ty) → out-Ty t ≡ o → out-Ty u ≡ o → t ≡ u
  rolled u o h k = sym (roll-out-Ty t) ∙ ap roll-Ty (h ∙ sym k) ∙ roll-out-Ty u

  no_index_layer : (o : Ty-F Ty) → out-Ty t ≡ o → indexed (without_ways_and_names (map-Ty Ty Ty erased o)) ≡ true → ((i : Ty) → t ≡ ty.ListOf i → ⊥) → ((k i : Ty) → t ≡ ty.DictOf k i → ⊥) → ⊥
  no_index_layer Ty-F.Bool h e f g = absurd (false≢true e)
  no_index_layer Ty-F.Int h e f g = absurd (false≢true e)
  no_index_layer Ty-F.Real h e f g = absurd (false≢true e)
  no_index_layer Ty-F.Text h e f g = absurd (false≢true e)
  no_index_layer Ty-F.Timer h e f g = absurd (false≢true e)
  no_index_layer Ty-F.Inst h e f g = absurd (false≢true e)
  no_index_layer Ty-F.Void h e f g = absurd (false≢true e)
  no_index_layer (Ty-F.Choice k) h e f g = absurd (false≢true e)
  no_index_layer (Ty-F.TupleOf parts) h e f g = absurd (false≢true e)
  no_index_layer (Ty-F.ListOf i) h e f g = f i (rolled _ _ h (ty.outs-ListOf i))
  no_index_layer (Ty-F.SetOf i) h e f g = absurd (false≢true e)
  no_index_layer (Ty-F.DictOf k i) h e f g = g k i (rolled _ _ h (ty.outs-DictOf k i))
  no_index_layer (Ty-F.Chan way i) h e f g = absurd (false≢true e)
  no_index_layer (Ty-F.Dist i) h e f g = absurd (false≢true e)

  pub no_index : (e : CExpr) (steps : List CStep) → LeadsFrom t (step.Index e ∷ steps) → ((i : Ty) → t ≡ ty.ListOf i → ⊥) → ((k i : Ty) → t ≡ ty.DictOf k i → ⊥) → ⊥
  no_index e steps h f g =
      no_index_layer (out-Ty t) refl (ap indexed (sym (kind_at t (out-Ty t) refl)) ∙ is_indexed h.scope h.known e steps (kind_of t) h.goal h.leads) f g

  no_number_layer : (o : Ty-F Ty) → out-Ty t ≡ o → numbered (without_ways_and_names (map-Ty Ty Ty erased o)) ≡ true → ((parts : List (List ℕ × Ty)) → t ≡ ty.TupleOf parts → ⊥) → ⊥
  no_number_layer Ty-F.Bool h e f = absurd (false≢true e)
  no_number_layer Ty-F.Int h e f = absurd (false≢true e)
  no_number_layer Ty-F.Real h e f = absurd (false≢true e)
  no_number_layer Ty-F.Text h e f = absurd (false≢true e)
  no_number_layer Ty-F.Timer h e f = absurd (false≢true e)
  no_number_layer Ty-F.Inst h e f = absurd (false≢true e)
  no_number_layer Ty-F.Void h e f = absurd (false≢true e)
  no_number_layer (Ty-F.Choice k) h e f = absurd (false≢true e)
  no_number_layer (Ty-F.TupleOf parts) h e f = f parts (rolled _ _ h (ty.outs-TupleOf parts))
  no_number_layer (Ty-F.ListOf i) h e f = absurd (false≢true e)
  no_number_layer (Ty-F.SetOf i) h e f = absurd (false≢true e)
  no_number_layer (Ty-F.DictOf k i) h e f = absurd (false≢true e)
  no_number_layer (Ty-F.Chan way i) h e f = absurd (false≢true e)
  no_number_layer (Ty-F.Dist i) h e f = absurd (false≢true e)

  pub no_number : (number : ℕ) (steps : List CStep) → LeadsFrom t (step.Part number ∷ steps) → ((parts : List (List ℕ × Ty)) → t ≡ ty.TupleOf parts → ⊥) → ⊥
  no_number number steps h f =
      no_number_layer (out-Ty t) refl (ap numbered (sym (kind_at t (out-Ty t) refl)) ∙ is_numbered h.scope h.known number steps (kind_of t) h.goal h.leads) f

-- for the calls

pub slot_there : (slots : List Ty) (c : CTarget) → SoundTargetAt slots c → slice_get slots c.slot ≢ None
slot_there slots c h = some_there (slice_get slots c.slot) h.ty h.is

leads_as : (t u : Ty) (steps : List CStep) → LeadsFrom t steps → t ≡ u → LeadsFrom u steps
leads_as t u steps h e = subst (λ t. LeadsFrom t steps) e h

pub leads_at : (slots : List Ty) (c : CTarget) (t : Ty) (steps : List CStep) → SoundTargetAt slots c → slice_get slots c.slot ≡ Some t → steps ≡ c.steps → LeadsFrom t steps
leads_at slots c t steps h is same = subst (λ s. LeadsFrom t s) (sym same) (leads_as h.ty t c.steps h.leads (some_is h.ty t (sym h.is ∙ is)))

pub part_there : (t : Ty) (parts : List (List ℕ × Ty)) (number : ℕ) (steps : List CStep) → LeadsFrom t (step.Part number ∷ steps) → t ≡ ty.TupleOf parts → slice_get parts number ≢ None
part_there t parts number steps h is = let r = leads_into_tuple t parts number steps h is in some_there (slice_get parts number) r.0 r.1

pub leads_at_part : (t : Ty) (parts : List (List ℕ × Ty)) (p : List ℕ × Ty) (number : ℕ) (steps : List CStep) → LeadsFrom t (step.Part number ∷ steps) → t ≡ ty.TupleOf parts
    → slice_get parts number ≡ Some p → LeadsFrom p.1 steps
leads_at_part t parts p number steps h is at =
    let r = leads_into_tuple t parts number steps h is in
    leads_as r.0.1 p.1 steps r.2 (ap (λ (x : List ℕ × Ty). x.1) (some_is r.0 p (sym r.1 ∙ at)))

-- the steps of a target, the first of them apart
pub leads_first : (t : Ty) (all : List CStep) (first : CStep) (rest : List CStep) (s : CStep) → LeadsFrom t all → all ≡ first ∷ rest → first ≡ s → LeadsFrom t (s ∷ rest)
leads_first t all first rest s h e is = subst (λ l. LeadsFrom t l) (e ∙ ap (λ x. x ∷ rest) is) h
