-- Sound targets, guards, communications and elements have code behind any other.
use Rattle.std.proofs.Common.{◌≡◌, ℕ, ◌+◌, List, [], ◌∷◌, length, map, Option, Some, None, refl, sym, ap, subst, ◌∙◌}
use Rattle.std.specs.Prelude.{slice_get}
use Rattle.chi_types.specs.declared.ty.Ty.{Ty, Ty-F, map-Ty, out-Ty, roll-Ty, roll-out-Ty}
use Rattle.chi_types.specs.declared.ty.Ty.TheVariants as ty
use Rattle.chi_types.specs.Same.{beside, nameless}
use Rattle.chi_core.specs.declared.communication.CComm.{CComm}
use Rattle.chi_core.specs.declared.element.CElem.{CElem, CElem-F, out-CElem}
use Rattle.chi_core.specs.declared.element.CElem.TheVariants as element
use Rattle.chi_core.specs.declared.expression.CExpr.{CExpr}
use Rattle.chi_core.specs.declared.op_name.OpName.TheVariants as op
use Rattle.chi_core.specs.declared.target.CStep.{CStep}
use Rattle.chi_core.specs.declared.target.CTarget.{CTarget}
use Rattle.chi_core.specs.Kinds.{Kind, kind_of, kinds_of, without_ways_and_names, erased}
use Rattle.chi_core.specs.Scopes.{Scope}
use Rattle.chi_core.specs.SetSlots.{Known, also_all}
use Rattle.chi_core.specs.SoundParts as q
use Rattle.chi_core.specs.SoundParts.{StepsLead, SoundComm, SoundGuard, SoundElements, SoundElement}
use Rattle.chi_core.proofs.Erased.{kind_at}
use Rattle.chi_code.specs.declared.instr.Instr.{Instr}
use Rattle.chi_code.specs.declared.instr.Instr.TheVariants as i
use Rattle.chi_code.specs.Aims.{some_aim, some_indexes}
use Rattle.chi_code.specs.Sizes.{elements_size}
use Rattle.chi_code.specs.StatementLayout.{ElemAt, one_element}
use Rattle.chi_code.proofs.Naming.{instance_kinds}
use Rattle.chi_gen_parts.specs.Added.{Grows, AddsInto, AddsRead, AddsGuard, AddsComm, AddsElem, AddsElems}
use Rattle.chi_gen_parts.specs.Soundness.{SoundTargetAt}
use Rattle.chi_gen_parts.proofs.Growing.{grows_on, grow_element}
use Rattle.chi_gen_parts.proofs.AddedTargets.{add_no_step, add_list, add_dictionary, add_tuple, add_read}
use Rattle.chi_gen_parts.proofs.AddedParts.{add_no_guard, add_guard, add_send, add_send_void, add_receive, add_receive_void, add_delay, add_timer, add_make, add_no_element}
use Rattle.chi_gen_laws.proofs.KnownGoals.{add_unwind}
use Rattle.chi_gen_parts.proofs.Sounding.{channel_target, part_of_type}
use Rattle.chi_gen_laws.proofs.ExpressionCode.{more, one_more, expr_code, exprs_code}

-- the type whose kind is that of a list, a dictionary or a tuple

module _ (t : Ty) where
  rolled : (u : Ty) (o : Ty-F Ty) → out-Ty t ≡ o → out-Ty u ≡ o → t ≡ u
  rolled u o h l = sym (roll-out-Ty t) ∙ ap roll-Ty (h ∙ sym l) ∙ roll-out-Ty u

  list_layer : (o : Ty-F Ty) → out-Ty t ≡ o → (u : Ty) → Ty-F.ListOf u ≡ without_ways_and_names (map-Ty Ty Ty erased o) → (inner : Ty) × (t ≡ ty.ListOf inner) × (u ≡ erased inner)
  list_layer Ty-F.Bool h u e = absurd (cc)
  list_layer Ty-F.Int h u e = absurd (cc)
  list_layer Ty-F.Real h u e = absurd (cc)
  list_layer Ty-F.Text h u e = absurd (cc)
  list_layer Ty-F.Timer h u e = absurd (cc)
  list_layer Ty-F.Inst h u e = absurd (cc)
  list_layer Ty-F.Void h u e = absurd (cc)
  list_layer (Ty-F.Choice k) h u e = absurd (cc)
  list_layer (Ty-F.TupleOf parts) h u e = absurd (cc)
  list_layer (Ty-F.ListOf i) h u e = (i, rolled (ty.ListOf i) _ h (ty.outs-ListOf i), cc)
  list_layer (Ty-F.SetOf i) h u e = absurd (cc)
  list_layer (Ty-F.DictOf k i) h u e = absurd (cc)
  list_layer (Ty-F.Chan way i) h u e = absurd (cc)
  list_layer (Ty-F.Dist i) h u e = absurd (cc)

  dictionary_layer : (o : Ty-F Ty) → out-Ty t ≡ o → (key u : Ty) → Ty-F.DictOf key u ≡ without_ways_and_names (map-Ty Ty Ty erased o) → (other : Ty) × (inner : Ty) × (t ≡ ty.DictOf other inner) × (u ≡ erased inner)
  dictionary_layer Ty-F.Bool h key u e = absurd (cc)
  dictionary_layer Ty-F.Int h key u e = absurd (cc)
  dictionary_layer Ty-F.Real h key u e = absurd (cc)
  dictionary_layer Ty-F.Text h key u e = absurd (cc)
  dictionary_layer Ty-F.Timer h key u e = absurd (cc)
  dictionary_layer Ty-F.Inst h key u e = absurd (cc)
  dictionary_layer Ty-F.Void h key u e = absurd (cc)
  dictionary_layer (Ty-F.Choice k) h key u e = absurd (cc)
  dictionary_layer (Ty-F.TupleOf parts) h key u e = absurd (cc)
  dictionary_layer (Ty-F.ListOf i) h key u e = absurd (cc)
  dictionary_layer (Ty-F.SetOf i) h key u e = absurd (cc)
  dictionary_layer (Ty-F.DictOf k i) h key u e = (k, i, rolled (ty.DictOf k i) _ h (ty.outs-DictOf k i), cc)
  dictionary_layer (Ty-F.Chan way i) h key u e = absurd (cc)
  dictionary_layer (Ty-F.Dist i) h key u e = absurd (cc)

  tuple_layer : (o : Ty-F Ty) → out-Ty t ≡ o → (us : List (List ℕ × Ty)) → Ty-F.TupleOf us ≡ without_ways_and_names (map-Ty Ty Ty erased o) → (parts : List (List ℕ × Ty)) × (t ≡ ty.TupleOf parts) × (us ≡ nameless (map (beside erased) parts))
  tuple_layer Ty-F.Bool h us e = absurd (cc)
  tuple_layer Ty-F.Int h us e = absurd (cc)
  tuple_layer Ty-F.Real h us e = absurd (cc)
  tuple_layer Ty-F.Text h us e = absurd (cc)
  tuple_layer Ty-F.Timer h us e = absurd (cc)
  tuple_layer Ty-F.Inst h us e = absurd (cc)
  tuple_layer Ty-F.Void h us e = absurd (cc)
  tuple_layer (Ty-F.Choice k) h us e = absurd (cc)
  tuple_layer (Ty-F.TupleOf parts) h us e = (parts, rolled (ty.TupleOf parts) _ h (ty.outs-TupleOf parts), cc)
  tuple_layer (Ty-F.ListOf i) h us e = absurd (cc)
  tuple_layer (Ty-F.SetOf i) h us e = absurd (cc)
  tuple_layer (Ty-F.DictOf k i) h us e = absurd (cc)
  tuple_layer (Ty-F.Chan way i) h us e = absurd (cc)
  tuple_layer (Ty-F.Dist i) h us e = absurd (cc)

pub record IntoCode (t : Ty) (steps : List CStep) (c : List Instr) : Type 0 where
  pub code : List Instr
  pub adds : AddsInto (out-Ty t) steps c code

into_code : (scope : Scope) (known : Known) (steps : List CStep) (K U : Kind) → StepsLead scope known steps K U → (t : Ty) → K ≡ kind_of t → (c : List Instr) → IntoCode t steps c
into_code scope known _ _ _ (q.no_step T) t e c = record { code = c; adds = add_no_step (out-Ty t) [] c refl }
into_code scope known _ _ _ (q.into_list x steps u U g r) t e c =
    let m = list_layer t (out-Ty t) refl u (e ∙ kind_at t (out-Ty t) refl) in
    let a = expr_code scope known x _ g c in
    let d = more a.code (i.Op op.Index 2) in
    let b = into_code scope known steps (out-Ty u) U r m.0 (ap out-Ty m.2) d in
    record { code = b.code; adds = add_list t m.0 x steps c a.code d b.code m.1 a.adds (one_more (i.Op op.Index 2) a.code) b.adds }
into_code scope known _ _ _ (q.into_dictionary x steps key u U g r) t e c =
    let m = dictionary_layer t (out-Ty t) refl key u (e ∙ kind_at t (out-Ty t) refl) in
    let a = expr_code scope known x _ g c in
    let d = more a.code (i.Op op.Lookup 2) in
    let b = into_code scope known steps (out-Ty u) U r m.1 (ap out-Ty m.3) d in
    record { code = b.code; adds = add_dictionary t m.0 m.1 x steps c a.code d b.code m.2 a.adds (one_more (i.Op op.Lookup 2) a.code) b.adds }
into_code scope known _ _ _ (q.into_tuple number steps us p U is r) t e c =
    let m = tuple_layer t (out-Ty t) refl us (e ∙ kind_at t (out-Ty t) refl) in
    let w = part_of_type m.0 number p (ap (λ l. slice_get l number) (sym m.2) ∙ is) in
    let d = more c (i.Part number) in
    let b = into_code scope known steps (out-Ty p.1) U r w.0.1 (ap out-Ty (sym w.2)) d in
    record { code = b.code; adds = add_tuple t m.0 w.0 number steps c d b.code m.1 w.1 (one_more (i.Part number) c) b.adds }

pub record ReadCode (slots : List Ty) (t : CTarget) (c : List Instr) : Type 0 where
  pub code : List Instr
  pub adds : AddsRead slots t c code

read_code : (slots : List Ty) (t : CTarget) → SoundTargetAt slots t → (c : List Instr) → ReadCode slots t c
read_code slots t h c =
    let d = more c (i.Load t.slot) in
    let a = into_code h.leads.scope h.leads.known t.steps (kind_of h.ty) h.leads.goal h.leads.leads h.ty refl d in
    record { code = a.code; adds = add_read slots t h.ty t.steps c d a.code h.is refl (one_more (i.Load t.slot) c) a.adds }

pub record CommCode (slots : List Ty) (names : List ℕ) (body : ℕ) (x : CComm) (c : List Instr) : Type 0 where
  pub code : List Instr
  pub adds : AddsComm slots names body x c code

module _ (slots : List Ty) (scope : Scope) (known : Known) (kinds : scope.slots ≡ kinds_of slots) where
  pub comm_code : (names : List ℕ) (body : ℕ) (x : CComm) → SoundComm scope known x → (c : List Instr) → CommCode slots names body x c
  comm_code names body _ (q.sends t x element ch v g) c =
      let r = read_code slots t (channel_target slots scope known kinds t element ch) c in
      let a = expr_code scope known x _ g r.code in
      record { code = more a.code (i.Send body names); adds = add_send slots names body t (Some x) x c r.code a.code _ refl r.adds a.adds (one_more (i.Send body names) a.code) }
  comm_code names body _ (q.sends_void t element ch v) c =
      let r = read_code slots t (channel_target slots scope known kinds t element ch) c in
      record { code = more r.code (i.SendVoid body names); adds = add_send_void slots names body t None c r.code _ refl r.adds (one_more (i.SendVoid body names) r.code) }
  comm_code names body _ (q.receives t slot element ch v is) c =
      let r = read_code slots t (channel_target slots scope known kinds t element ch) c in
      record { code = more r.code (i.Receive body slot names); adds = add_receive slots names body t (Some slot) slot c r.code _ refl r.adds (one_more (i.Receive body slot names) r.code) }
  comm_code names body _ (q.receives_void t element ch v) c =
      let r = read_code slots t (channel_target slots scope known kinds t element ch) c in
      record { code = more r.code (i.ReceiveVoid body names); adds = add_receive_void slots names body t None c r.code _ refl r.adds (one_more (i.ReceiveVoid body names) r.code) }
  comm_code names body _ (q.delays x g) c =
      let a = expr_code scope known x _ g c in
      record { code = more a.code (i.Delay body names); adds = add_delay slots names body x c a.code _ a.adds (one_more (i.Delay body names) a.code) }
  comm_code names body _ (q.waits_for_timer x g) c =
      let a = expr_code scope known x _ g c in
      record { code = more a.code (i.Timer body names); adds = add_timer slots names body x c a.code _ a.adds (one_more (i.Timer body names) a.code) }

pub record GuardCode (end : ℕ) (guard : Option CExpr) (c : List Instr) : Type 0 where
  pub code : List Instr
  pub adds : AddsGuard end guard c code

-- what is started

pub record ElemLayer (o : CElem-F CElem) (c : List Instr) : Type 0 where
  pub code : List Instr
  pub grows : Grows c code
  pub at : ElemAt code o (length c) (length code)

pub record ElemsCode (xs : List CElem) (c : List Instr) : Type 0 where
  pub code : List Instr
  pub adds : AddsElems xs c code

elem_layer : (x : CElem) (o : CElem-F CElem) (c d : List Instr) → out-CElem x ≡ o → AddsElem x c d → ElemLayer o c
elem_layer x o c d is h = record { code = d; grows = h.grows; at = subst (λ o. ElemAt d o (length c) (length d)) is h.at }

elems_cons : (x : CElem) (xs : List CElem) (c d : List Instr) (a : ElemLayer (out-CElem x) c) → AddsElems xs a.code d → AddsElems (x ∷ xs) c d
elems_cons x xs c d a h = record { grows = grows_on c a.code d a.grows h.grows; at = one_element x xs (length c) (length a.code) (length d) (grow_element a.code d h.grows (out-CElem x) _ _ a.at) h.at }

module _ (scope : Scope) where
  pub guard_code : (known : Known) (end : ℕ) (guard : Option CExpr) → SoundGuard scope known guard → (c : List Instr) → GuardCode end guard c
  guard_code known end _ q.no_guard c = record { code = c; adds = add_no_guard end None c refl }
  guard_code known end _ (q.a_guard g h) c =
      let a = expr_code scope known g _ h c in
      record { code = more a.code (i.IfFalse end); adds = add_guard end (Some g) g c a.code _ refl a.adds (one_more (i.IfFalse end) a.code) }

  mutual
    element_code : (exit : Option Kind) (known : Known) (o : CElem-F CElem) → SoundElement scope exit known o → (c : List Instr) → ElemLayer o c
    element_code exit _ _ (q.makes known target number es d is may g takes) c =
        let a = exprs_code scope known es _ g c in
        let u = instance_kinds [] scope known target takes in
        let b = exprs_code scope known (some_indexes target) u.0 u.1 a.code in
        elem_layer (element.Make target number es) _ c _ (element.outs-Make target number es)
        (add_make target number es (some_aim target) c a.code b.code _ a.adds b.adds refl (one_more (i.Make number (some_aim target)) b.code))
    element_code exit _ _ (q.unwinds known names x elements w g) c =
        let a = expr_code scope known x _ w.has_kind c in
        let c2 = more a.code i.Walk in
        let n = length c2 + 1 + (elements_size elements + 1) in
        let c3 = more c2 (i.Next n names) in
        let b = elements_code exit (also_all names known) elements g c3 in
        elem_layer (element.Unwind names x elements) _ c _ (element.outs-Unwind names x elements)
        (add_unwind (element.Unwind names x elements) names names x elements n (length c2) c a.code c2 c3 b.code _ refl a.adds (one_more i.Walk a.code) refl refl refl (one_more (i.Next n names) c2) b.adds
        (one_more (i.Jump (length c2)) b.code))

    pub elements_code : (exit : Option Kind) (known : Known) (xs : List CElem) → SoundElements scope exit known xs → (c : List Instr) → ElemsCode xs c
    elements_code exit _ _ (q.no_element known) c = record { code = c; adds = add_no_element c }
    elements_code exit _ _ (q.one_element known x xs g r) c =
        let a = element_code exit known (out-CElem x) g c in
        let b = elements_code exit known xs r a.code in
        record { code = b.code; adds = elems_cons x xs c b.code a b.adds }
