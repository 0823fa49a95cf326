-- Slots of new names, and of targets and receivers that are visible.
use Rattle.std.proofs.Common.{◌≡◌, ◌⊎◌, inl, inr, ℕ, ◌+◌, ◌<◌, ◌≤◌, Bool, true, false, List, [], ◌∷◌, ◌++◌, map, length, Option, Some, None, is_some, refl, sym, ap, subst, ◌∙◌, length-append, arith}
use Rattle.std.specs.Prelude.{if◌then◌else◌}
use Rattle.chi_token.specs.declared.place.Place.{Place}
use Rattle.chi_tree.specs.declared.expr.Entry.{Entry}
use Rattle.chi_tree.specs.declared.expr.Expr.{Expr}
use Rattle.chi_tree.specs.declared.expr.Link.{Link}
use Rattle.chi_tree.specs.declared.expr.Postfix.{Postfix, Postfix-F, out-Postfix}
use Rattle.chi_tree.specs.declared.statement.Target.{Target}
use Rattle.chi_tree.specs.declared.type_tree.Formal.{Formal}
use Rattle.chi_tree.specs.declared.type_tree.Name.{Name}
use Rattle.chi_tree.specs.declared.type_tree.TypeTree.{TypeTree}
use Rattle.chi_types.specs.declared.ty.Ty.{Ty, Ty-F, out-Ty}
use Rattle.chi_types.specs.Fits.{fits}
use Rattle.chi_core.specs.Fills.{Fill, Fills, filled, unwound, one_after_another}
use Rattle.chi_check_types.specs.declared.known.Known.{Known}
use Rattle.chi_check_types.specs.declared.known.Known.TheVariants as known
use Rattle.chi_check_types.specs.declared.known.NameKind.{NameKind}
use Rattle.chi_check_types.specs.declared.known.NameKind.TheVariants as kind
use Rattle.chi_check_types.specs.declared.meant.Made.{Made}
use Rattle.chi_check_types.specs.declared.rules.TheConstants.{INDEX, FIELD, TARGET, RECEIVING_NAME}
use Rattle.chi_check_types.specs.Names.{Names, known_in}
use Rattle.chi_check_types.specs.Predefined.{is_predefined}
use Rattle.chi_check_types.specs.Typed.{refused}
use Rattle.chi_check_types.specs.TypeRules.{is_int}
use Rattle.chi_check_expr_rules.specs.Conversions.{converted}
use Rattle.chi_check_expr_rules.specs.Nodes.{of_one}
use Rattle.chi_check_expr_rules.specs.Parts.{field_in}
use Rattle.chi_core.specs.declared.target.CStep.TheVariants as step
use Rattle.chi_check_expr.proofs.Kept.{Each}
use Rattle.chi_check_laws.proofs.Conversions.{some_is, mapped, chosen}
use Rattle.chi_check.specs.Below.chi_check_stat_rules.specs.declared.home.Home.{Home}
use Rattle.chi_check.specs.Below.chi_check_stat_rules.specs.declared.parts.Aim.{Aim}
use Rattle.chi_check.specs.Below.chi_check_stat_rules.specs.declared.parts.Receiver.{Receiver}
use Rattle.chi_check.specs.Below.chi_check_stat_rules.specs.Channels.{receiver, untyped_receiver, visible_receiver}
use Rattle.chi_check.specs.Below.chi_check_stat_rules.specs.Targets.{aim, untyped_target, visible_target, named_target, is_text, stepped, indexed, index_step, to_part, field_of, field_step}
use Rattle.chi_check.specs.Below.chi_check_stat_lines.specs.declared.state.Binder.{Binder}
use Rattle.chi_check.specs.Below.chi_check_stat_lines.specs.declared.state.Binder.TheVariants as binder
use Rattle.chi_check.specs.Below.chi_check_stat_lines.specs.declared.state.State.{State}
use Rattle.chi_check.specs.Below.chi_check_stat_lines.specs.Stated.{in_turn}
use Rattle.chi_check.specs.Below.chi_check_stat_lines.specs.States.{is_taken, bound, with_variable, slot_if, binding, first_type, other_types, bindings}
use Rattle.chi_check.specs.Below.chi_check_stat_lines.specs.Values.{value_in, step_in, steps_in, target_in}
use Rattle.chi_check_laws.proofs.Communications.{unrefused}
use Rattle.chi_check_laws.proofs.Filled.{Visible, Filled, Filling, Other, in_turn_filling}
use Rattle.chi_check_laws.proofs.States.{found_in, variable_grows}
use Rattle.chi_check_laws.proofs.Values.{one_made}

-- ---- new names

abbrev pub fill : Binder → ℕ → Fill
fill binder.Variable slot = filled slot
fill binder.Unwind slot = unwound slot

fill_slot : (b : Binder) (slot : ℕ) → (fill b slot).slot ≡ slot
fill_slot binder.Variable slot = refl
fill_slot binder.Unwind slot = refl

-- only what no unwind binds is visible as a variable
bound_visible : (b : Binder) (slot : ℕ) (t : Ty) (found : ℕ) (u : Ty) → bound b slot (Some t) ≡ known.Var found u → (slot ≡ found) × ((fill b slot).by_unwind ≡ false)
bound_visible binder.Variable slot t found u e = let same : slot ≡ found = cc in (same, refl)
bound_visible binder.Unwind slot t found u e = absurd (cc)

module _ (b : Binder) (name : Name) (t : Ty) (s : State) where
  abbrev next : State
  next = with_variable b name (Some t) s

  longer : length next.slots ≡ length s.slots + 1
  longer = length-append s.slots (t ∷ [])

  new_names : (taken : Bool) (slot : ℕ) → Visible (if taken then s.names else (s.names ++ (name.text, bound b (length s.slots) (Some t)) ∷ [])) slot
      → Visible s.names slot ⊎ ((length s.slots ≤ slot) × (slot < length next.slots) × Each (Other slot) (fill b (length s.slots) ∷ []))
  new_names true slot v = inl v
  new_names false slot v = by (found_in s.names name.text (bound b (length s.slots) (Some t)) v.0 (known.Var slot v.1) v.2)
    where
      true_false : true ≡ false → ⊥
      true_false e = cc

      by : (known_in s.names v.0 ≡ Some (known.Var slot v.1)) ⊎ (bound b (length s.slots) (Some t) ≡ known.Var slot v.1)
          → Visible s.names slot ⊎ ((length s.slots ≤ slot) × (slot < length next.slots) × Each (Other slot) (fill b (length s.slots) ∷ []))
      by (inl old) = inl (v.0, v.1, old)
      by (inr new) =
          let is = bound_visible b (length s.slots) t slot v.1 new in
          let more : length s.slots ≤ slot = omega (arith, is.0) in
          let less : slot < length next.slots = omega (arith, is.0, longer) in
          inr (more, less, ((λ unwinds same. true_false (sym unwinds ∙ is.1)), tt))

  -- a new name has the next slot
  pub new_filled : Filled s next (fill b (length s.slots) ∷ [])
  new_filled =
      let is = fill_slot b (length s.slots) in
      let more : length s.slots ≤ (fill b (length s.slots)).slot = omega (arith, is) in
      let less : (fill b (length s.slots)).slot < length next.slots = omega (arith, is, longer) in
      record {
        long = omega (arith, longer);
        each = (inr (more, less), tt);
        apart = (tt, tt);
        names = λ slot v. new_names (is_taken s.names name.text) slot v;
      }

abbrev pub fill_one : Binder → ℕ → Fills
fill_one b slot = fill b slot ∷ []

binding_made : (taken : Bool) (b : Binder) (name : Name) (t : Option Ty) (s : State) (slots : List ℕ) → slot_if taken (is_some t) (length s.slots) ≡ Some slots
    → Filled s (with_variable b name t s) (one_after_another (map (fill_one b) slots))
binding_made true b name t s slots e = absurd (cc)
binding_made false b name None s slots e = absurd (cc)
binding_made false b name (Some t) s slots e =
    let one : length s.slots ∷ [] ≡ slots = some_is (length s.slots ∷ []) slots e in
    subst (λ slots. Filled s (with_variable b name (Some t) s) (one_after_another (map (fill_one b) slots))) one (new_filled b name t s)

pub binding_filling : (b : Binder) (name : Name) (t : Option Ty) → Filling (fill_one b) (binding b name t)
binding_filling b name t = record { grows = variable_grows b name t; fills = λ s xs low e. binding_made (is_taken s.names name.text) b name t s xs e }

all_binding : (b : Binder) (names : List Name) (types : List Ty) → Each (Filling (fill_one b)) (bindings b names types)
all_binding b [] types = tt
all_binding b (name ∷ names) types = (binding_filling b name (first_type types), all_binding b names (other_types types))

pub bindings_filling : (b : Binder) (names : List Name) (types : List Ty) → Filling (fill_one b) (in_turn (bindings b names types))
bindings_filling b names types = in_turn_filling (fill_one b) (bindings b names types) (all_binding b names types)

pub fills_are : (b : Binder) (slots : List ℕ) → one_after_another (map (fill_one b) slots) ≡ map (fill b) slots
fills_are b [] = refl
fills_are b (slot ∷ slots) = ap (λ rest. fill b slot ∷ rest) (fills_are b slots)

-- ---- targets

module _ (names : Names) where
  -- its variable is visible
  abbrev pub SeenIf : Option Aim → Type 0
  SeenIf o = (a : Aim) → o ≡ Some a → Visible names a.target.slot

  untyped_target_never : (place : Place) (k : NameKind) (a : Aim) → (untyped_target place k).made ≡ Some a → ⊥
  untyped_target_never place kind.Variable a e = absurd (cc)
  untyped_target_never place _ a e = absurd (cc)

  visible_seen : (place : Place) (name : List ℕ) (o : Option Known) → known_in names name ≡ o → SeenIf (visible_target place o).made
  visible_seen place name None is a e = absurd (cc)
  visible_seen place name (Some (known.Var slot t)) is a e = subst (λ (a : Aim). Visible names a.target.slot) (some_is (aim slot [] t) a e) (name, t, is)
  visible_seen place name (Some (known.Untyped k)) is a e = absurd (untyped_target_never place k a e)
  visible_seen place name _ is a e = absurd (cc)

  named_seen : (b : Bool) (name : Name) → SeenIf (if b then refused TARGET name.place else visible_target name.place (known_in names name.text)).made
  named_seen true name a e = absurd (cc)
  named_seen false name a e = visible_seen name.place name.text (known_in names name.text) refl a e

  -- a step stays with the variable
  abbrev Same : Aim → Aim → Type 0
  Same a b = Visible names a.target.slot → Visible names b.target.slot

  indexed_same : (layer : Ty-F Ty) (a : Aim) (m : Made) (b : Aim) → indexed layer a m ≡ Some b → Same a b
  indexed_same (Ty-F.ListOf t) a m b e v = subst (λ (b : Aim). Visible names b.target.slot) (chosen (is_int (out-Ty m.ty)) (stepped a (step.Index m.core) t) b e).1 v
  indexed_same (Ty-F.DictOf key has) a m b e v = subst (λ (b : Aim). Visible names b.target.slot) (chosen (fits m.ty key) (stepped a (step.Index (converted m key)) has) b e).1 v
  indexed_same _ a m b e v = absurd (cc)

  index_seen : (name place : Place) (o : Option Aim) (i : Option Made) → SeenIf o → SeenIf (index_step name place o i).made
  index_seen name place None i h b e = absurd (cc)
  index_seen name place (Some a) i h b e =
      let f = one_made INDEX place (indexed (out-Ty a.ty) a) i b (unrefused (is_text (out-Ty a.ty)) TARGET name (of_one INDEX place (indexed (out-Ty a.ty) a) i) b e) in
      indexed_same (out-Ty a.ty) a f.0 b f.2 (h a refl)

  field_seen : (name : Name) (o : Option Aim) → SeenIf o → SeenIf (field_step name o).made
  field_seen name o h b e =
      let f = one_made FIELD name.place (field_of name.text) o b e in
      let g = mapped (to_part f.0) (field_in (out-Ty f.0.ty) name.text) b f.2 in
      subst (λ (b : Aim). Visible names b.target.slot) g.2 (h f.0 f.1)

  module _ (h : Home) where
    step_seen : (name : Place) (o : Option Aim) (p : Postfix-F Expr Postfix TypeTree Entry Link Formal) → SeenIf o → SeenIf (step_in h names name o p).made
    step_seen name o (Postfix-F.Index place index) k = index_seen name place o (value_in h names index).made k
    step_seen name o (Postfix-F.Slice place from upto second by) k = λ a e. absurd (cc)
    step_seen name o (Postfix-F.Field field) k = field_seen field o k

    steps_seen : (name : Place) (o : Option Aim) (ps : List Postfix) → SeenIf o → SeenIf (steps_in h names name o ps).made
    steps_seen name o [] k = k
    steps_seen name o (p ∷ ps) k = steps_seen name (step_in h names name o (out-Postfix p)).made ps (step_seen name o (out-Postfix p) k)

    pub target_seen : (t : Target) → SeenIf (target_in h names t).made
    target_seen t = steps_seen t.name.place (named_target names t.name).made t.steps (named_seen (is_predefined t.name.text) t.name)

  -- ---- receivers

  untyped_receiver_never : (place : Place) (k : NameKind) (r : Receiver) → (untyped_receiver place k).made ≡ Some r → ⊥
  untyped_receiver_never place kind.Variable r e = absurd (cc)
  untyped_receiver_never place _ r e = absurd (cc)

  visible_receives : (place at : Place) (name : List ℕ) (o : Option Known) → known_in names name ≡ o → (r : Receiver) → (visible_receiver place at o).made ≡ Some r → Visible names r.slot
  visible_receives place at name None is r e = absurd (cc)
  visible_receives place at name (Some (known.Var slot t)) is r e = subst (λ (r : Receiver). Visible names r.slot) (some_is (receiver slot t) r e) (name, t, is)
  visible_receives place at name (Some (known.Untyped k)) is r e = absurd (untyped_receiver_never place k r e)
  visible_receives place at name _ is r e = absurd (cc)

  pub receiver_seen : (b : Bool) (place : Place) (name : Name) (r : Receiver) → (if b then refused RECEIVING_NAME place else visible_receiver place name.place (known_in names name.text)).made ≡ Some r → Visible names r.slot
  receiver_seen true place name r e = absurd (cc)
  receiver_seen false place name r e = visible_receives place name.place name.text (known_in names name.text) refl r e
