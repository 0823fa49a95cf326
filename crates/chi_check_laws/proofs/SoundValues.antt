-- Values where a type is wanted, what is walked over, and the values of exits.
use Rattle.std.proofs.Common.{◌≡◌, inl, inr, ℕ, true, [], ◌∷◌, Some, refl, sym, ap, subst}
use Rattle.std.specs.Prelude.{option_map}
use Rattle.chi_types.specs.declared.ty.Ty.{Ty, Ty-F, out-Ty}
use Rattle.chi_types.specs.declared.ty.Ty.TheVariants as ty
use Rattle.chi_types.specs.Fits.{fits}
use Rattle.chi_types.specs.Plain.{is_plain}
use Rattle.chi_core.specs.declared.expression.CExpr.{CExpr}
use Rattle.chi_core.specs.declared.statement.CStat.{CStat}
use Rattle.chi_core.specs.declared.statement.CStat.TheVariants as statement
use Rattle.chi_core.specs.Kinds.{kind_of, erased, is_plain_kind, nameless_parts, entry_of}
use Rattle.chi_core.specs.Scopes.{Scope}
use Rattle.chi_core.specs.SetSlots.{Known as Set}
use Rattle.chi_core.specs.Sound.{SoundIn}
use Rattle.chi_core.specs.SoundParts as sound
use Rattle.chi_core.specs.SoundParts.{WalkedOver}
use Rattle.chi_core.proofs.Erased.{kind_at}
use Rattle.chi_check_types.specs.declared.meant.Made.{Made}
use Rattle.chi_check_expr_rules.specs.Conversions.{converted}
use Rattle.chi_check.specs.Below.chi_check_stat_rules.specs.Values.{fitted, is_bool, as_bool, is_inst, as_instance}
use Rattle.chi_check.specs.Below.chi_check_stat_rules.specs.Walks.{element_type}
use Rattle.chi_check.specs.Below.chi_check_stat_rules.specs.Endings.{exiting}
use Rattle.chi_check_laws.specs.KnownNames.{Has, SoundMade}
use Rattle.chi_check_laws.proofs.Conversions.{some_is, mapped, chosen, chosen_some, fits_has}
use Rattle.chi_check_laws.proofs.TypeKinds.{Serves, fits_serves, plain_kind, element_of_list, element_of_set, parts_of_dictionary, sound_tuple, sound_nameless}
use Rattle.chi_check_laws.proofs.Containers.{kind_of_tuple}

bool_layer : (t : Ty) (layer : Ty-F Ty) → out-Ty t ≡ layer → is_bool layer ≡ true → kind_of t ≡ Ty-F.Bool
bool_layer t Ty-F.Bool p h = kind_at t _ p
bool_layer t _ p h = absurd (cc)

instance_layer : (t : Ty) (layer : Ty-F Ty) → out-Ty t ≡ layer → is_inst layer ≡ true → kind_of t ≡ Ty-F.Inst
instance_layer t Ty-F.Inst p h = kind_at t _ p
instance_layer t _ p h = absurd (cc)

-- what serves for a type is plain where that which serves is
plain_serves : (a t : Ty) → Serves a t → is_plain_kind (kind_of a) ≡ true → is_plain_kind (kind_of t) ≡ true
plain_serves a t (inl same) h = subst (λ T. is_plain_kind T ≡ true) same h
plain_serves a t (inr wide) h = ap is_plain_kind wide.1

module _ (scope : Scope) (set : Set) where
  pub fitted_has : (m : Made) (t : Ty) (e : CExpr) → SoundMade scope set m → fitted m t ≡ Some e → Has scope set e (kind_of t)
  fitted_has m t e h is =
      let c = chosen (fits m.ty t) (converted m t) e is in
      subst (λ e. Has scope set e (kind_of t)) c.1 (fits_has scope set m t c.0 h)

  pub condition_has : (m : Made) (e : CExpr) → SoundMade scope set m → as_bool m ≡ Some e → Has scope set e Ty-F.Bool
  condition_has m e h is =
      let c = chosen (is_bool (out-Ty m.ty)) m.core e is in
      subst (λ e. Has scope set e Ty-F.Bool) c.1 (subst (Has scope set m.core) (bool_layer m.ty (out-Ty m.ty) refl c.0) h.kind)

  pub instance_has : (m : Made) (e : CExpr) → SoundMade scope set m → as_instance m ≡ Some e → Has scope set e Ty-F.Inst
  instance_has m e h is =
      let c = chosen (is_inst (out-Ty m.ty)) m.core e is in
      subst (λ e. Has scope set e Ty-F.Inst) c.1 (subst (Has scope set m.core) (instance_layer m.ty (out-Ty m.ty) refl c.0) h.kind)

  -- the value of an exit is plain, and of the header's type
  pub exiting_sound : (line : ℕ) (t : Ty) (m : Made) (s : CStat) → SoundMade scope set m → exiting line t m ≡ Some s
      → (e : CExpr) × (s ≡ statement.Exit line (Some e)) × Has scope set e (kind_of t) × (is_plain_kind (kind_of t) ≡ true)
  exiting_sound line t m s h is =
      let c = chosen_some (is_plain m.ty) (option_map (λ e. statement.Exit line (Some e)) (fitted m t)) s is in
      let f = mapped (λ e. statement.Exit line (Some e)) (fitted m t) s c.1 in
      let g = chosen (fits m.ty t) (converted m t) f.0 f.1 in
      (f.0, sym f.2, fitted_has m t f.0 h f.1, plain_serves m.ty t (fits_serves m.ty t g.0) (plain_kind m.ty c.0))

  -- what is walked over has elements of their kind, whose type is sound
  walked_layer : (t element : Ty) → SoundIn scope.core t → (layer : Ty-F Ty) → out-Ty t ≡ layer → element_type layer ≡ Some element → WalkedOver (kind_of t) (kind_of element) × SoundIn scope.core element
  walked_layer t element s (Ty-F.ListOf u) p e =
      let same = some_is u element e in
      subst (λ element. WalkedOver (kind_of t) (kind_of element) × SoundIn scope.core element) same
      (subst (λ T. WalkedOver T (kind_of u)) (sym (kind_at t _ p)) (sound.a_list (erased u)), element_of_list _ t u p s)
  walked_layer t element s (Ty-F.SetOf u) p e =
      let same = some_is u element e in
      subst (λ element. WalkedOver (kind_of t) (kind_of element) × SoundIn scope.core element) same
      (subst (λ T. WalkedOver T (kind_of u)) (sym (kind_at t _ p)) (sound.a_set (erased u)), element_of_set _ t u p s)
  walked_layer t element s (Ty-F.DictOf key has) p e =
      let pair_type : Ty = ty.TupleOf (nameless_parts (key ∷ has ∷ [])) in
      let same : pair_type ≡ element = some_is pair_type element e in
      let parts = parts_of_dictionary _ t key has p s in
      let over : WalkedOver (kind_of t) (kind_of pair_type) = subst (WalkedOver (kind_of t)) (sym (kind_of_tuple (key ∷ has ∷ []))) (subst (λ T. WalkedOver T (entry_of (erased key) (erased has))) (sym (kind_at t _ p)) (sound.a_dictionary (erased key) (erased has))) in
      subst (λ element. WalkedOver (kind_of t) (kind_of element) × SoundIn scope.core element) same
      (over, sound_tuple _ _ (sound_nameless _ (key ∷ has ∷ []) (parts.0, (parts.1, tt))))
  walked_layer t element s _ p e = absurd (cc)

  pub walked_sound : (t element : Ty) → SoundIn scope.core t → element_type (out-Ty t) ≡ Some element → WalkedOver (kind_of t) (kind_of element) × SoundIn scope.core element
  walked_sound t element s e = walked_layer t element s (out-Ty t) refl e
