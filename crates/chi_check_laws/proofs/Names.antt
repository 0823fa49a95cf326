-- What names, literals of one token and calls of functions make is sound.
use Rattle.std.proofs.Common.{◌≡◌, ℕ, ◌<◌, Bool, true, List, [], length, Some, refl, sym, subst}
use Rattle.std.proofs.lemmas.Option.{slice_get_within}
use Rattle.std.specs.Prelude.{slice_get}
use Rattle.chi_token.specs.declared.place.Place.{Place}
use Rattle.chi_num.specs.TextNumbers.{Meant, means, no_form, out_of_range, int_meant, real_meant}
use Rattle.chi_types.specs.declared.ty.Ty.{Ty, Ty-F, out-Ty}
use Rattle.chi_types.specs.declared.ty.Ty.TheVariants as ty
use Rattle.chi_value.specs.declared.value.Value.{Value, Value-F, out-Value}
use Rattle.chi_value.specs.declared.value.Value.TheVariants as value
use Rattle.chi_value.specs.Names.{name_at}
use Rattle.chi_core.specs.declared.expression.CExpr.TheVariants as expression
use Rattle.chi_core.specs.declared.op_name.OpName.TheVariants as op
use Rattle.chi_core.specs.Kinds.{Kind, kind_of}
use Rattle.chi_core.specs.OperatorKinds as row
use Rattle.chi_core.specs.Scopes.{Scope, may_call}
use Rattle.chi_core.specs.SetSlots.{Known as Set}
use Rattle.chi_core.specs.SoundExpressions as literal
use Rattle.chi_core.specs.SoundExpressions.{LiteralKind}
use Rattle.chi_core.specs.SoundTypes as sound
use Rattle.chi_core.specs.SoundTypes.{SoundType}
use Rattle.chi_check_types.specs.declared.known.Known.{Known}
use Rattle.chi_check_types.specs.declared.known.Known.TheVariants as known
use Rattle.chi_check_types.specs.declared.known.NameKind.{NameKind}
use Rattle.chi_check_types.specs.declared.known.NameKind.TheVariants as kind
use Rattle.chi_check_types.specs.declared.meant.Made.{Made}
use Rattle.chi_check_types.specs.declared.site.Site.{Site}
use Rattle.chi_check_expr_rules.specs.Conversions.{made, passed}
use Rattle.chi_check_expr_rules.specs.Literals.{int_number, real_number, int_literal, real_literal, text_literal, bool_literal}
use Rattle.chi_check_expr_rules.specs.Named.{untyped_value, visible_value, time_of}
use Rattle.chi_check_expr_rules.specs.Calls.{called}
use Rattle.chi_check_expr_rules.specs.Sites.{running_rule}
use Rattle.chi_check_laws.specs.KnownNames.{Has, IsSite, Stands, SlotStands, FunctionStands}
use Rattle.chi_check_laws.proofs.Has.{Have, have_none, has_literal, has_text, has_variable, has_constant, has_call}
use Rattle.chi_check_laws.proofs.TypeKinds.{kind_bool, kind_int, kind_real, kind_text, kind_choice, sound_bool, sound_int, sound_real, sound_text}
use Rattle.chi_check_expr.proofs.Kept.{Each}
use Rattle.chi_check_laws.proofs.Conversions.{some_is, mapped, chained, Sounds, sound_made, passed_have, operation_sound}
use Rattle.chi_check_laws.proofs.Sites.{may_run, unless_made}

-- an enumeration with a named value is there
enumeration_there : (names : List (List (List ℕ))) (enumeration position : ℕ) (name : List ℕ) → name_at names enumeration position ≡ Some name → enumeration < length names
enumeration_there names enumeration position name e =
    let f = chained (λ (positions : List (List ℕ)). slice_get positions position) (slice_get names enumeration) name e in
    slice_get_within names enumeration f.0 f.1

module _ (scope : Scope) (set : Set) where
  -- ---- literals

  literal_sound : (v : Value) (layer : Value-F Value) (t : Ty) (K : Kind) (m : Made) → out-Value v ≡ layer → kind_of t ≡ K → LiteralKind scope.core.names.kinds layer K → SoundType (length scope.core.names.kinds) (out-Ty t)
      → made (expression.Lit v) t ≡ m → Sounds scope set m
  literal_sound v layer t K m out is k s e =
      sound_made scope set (expression.Lit v) t m e (subst (Has scope set _) (sym is) (has_literal scope set v K (subst (λ (o : Value-F Value). LiteralKind scope.core.names.kinds o K) (sym out) k))) s

  int_by : (n : Meant) (m : Made) → int_number n ≡ Some m → Sounds scope set m
  int_by (means n) m e = literal_sound (value.Int n) _ ty.Int Ty-F.Int m (value.outs-Int n) kind_int (literal.int n) (sound_int _) (some_is _ m e)
  int_by no_form m e = absurd (cc)
  int_by out_of_range m e = absurd (cc)

  pub int_literal_sound : (digits : List ℕ) (m : Made) → int_literal digits ≡ Some m → Sounds scope set m
  int_literal_sound digits m e = int_by (int_meant digits) m e

  real_by : (n : Meant) (m : Made) → real_number n ≡ Some m → Sounds scope set m
  real_by (means n) m e = literal_sound (value.Real n) _ ty.Real Ty-F.Real m (value.outs-Real n) kind_real (literal.real n) (sound_real _) (some_is _ m e)
  real_by no_form m e = absurd (cc)
  real_by out_of_range m e = absurd (cc)

  pub real_literal_sound : (digits : List ℕ) (m : Made) → real_literal digits ≡ Some m → Sounds scope set m
  real_literal_sound digits m e = real_by (real_meant digits) m e

  pub text_literal_sound : (bytes : List ℕ) → Sounds scope set (text_literal bytes)
  text_literal_sound bytes = sound_made scope set (expression.Lit (value.Text bytes)) ty.Text _ refl (subst (Has scope set _) (sym kind_text) (has_text scope set bytes)) (sound_text _)

  pub bool_literal_sound : (truth : Bool) → Sounds scope set (bool_literal truth)
  bool_literal_sound truth = literal_sound (value.Bool truth) _ ty.Bool Ty-F.Bool _ (value.outs-Bool truth) kind_bool (literal.bool truth) (sound_bool _) refl

  -- ---- names

  slot_sound : (slot : ℕ) (t : Ty) (m : Made) → SlotStands scope set slot t → made (expression.Var slot) t ≡ m → Sounds scope set m
  slot_sound slot t m st e = sound_made scope set (expression.Var slot) t m e (has_variable scope set slot (kind_of t) st.counts st.is) st.ty

  untyped_never : (place : Place) (k : NameKind) (m : Made) → (untyped_value place k).made ≡ Some m → ⊥
  untyped_never place kind.Variable m e = absurd (cc)
  untyped_never place _ m e = absurd (cc)

  pub name_sound : (place : Place) (k : Known) (m : Made) → Stands scope set k → (visible_value place (Some k)).made ≡ Some m → Sounds scope set m
  name_sound place (known.Var slot t) m st e = slot_sound slot t m st (some_is _ m e)
  name_sound place (known.Fixed slot t) m st e = slot_sound slot t m st (some_is _ m e)
  name_sound place (known.Const number t) m st e =
      sound_made scope set (expression.Const number) t m (some_is _ m e) (subst (λ t. Has scope set (expression.Const number) (kind_of t)) st.typed (has_constant scope set number st.c st.is st.read)) st.ty
  name_sound place (known.Value enumeration position) m st e =
      literal_sound (value.Choice enumeration position) _ (ty.Choice enumeration) (Ty-F.Choice enumeration) m (value.outs-Choice enumeration position) (kind_choice enumeration) (literal.choice enumeration position st.name st.is)
      (subst (SoundType _) (sym (ty.outs-Choice enumeration)) (sound.choice enumeration (enumeration_there _ enumeration position st.name st.is))) (some_is _ m e)
  name_sound place (known.Untyped k) m st e = absurd (untyped_never place k m e)
  name_sound place _ m st e = absurd (cc)

  pub time_sound : (s : Site) (place : Place) (m : Made) → IsSite s scope.role → (time_of s place).made ≡ Some m → Sounds scope set m
  time_sound s place m at e =
      let both = unless_made (running_rule s place) (made (expression.Op op.Time []) ty.Real) m e in
      operation_sound scope set op.Time [] [] ty.Real Ty-F.Real m row.time_now (may_run s scope.role place op.Time [] at both.0) kind_real (have_none scope set) (sound_real _) both.1

  -- ---- calls

  pub called_sound : (number : ℕ) (params : List Ty) (result : Ty) (ms : List Made) (m : Made) → may_call scope.role ≡ true → FunctionStands scope number params result → Each (Sounds scope set) ms
      → called number params result ms ≡ Some m → Sounds scope set m
  called_sound number params result ms m may st h e =
      let f = mapped (λ es. made (expression.Call number es) result) (passed ms params) m e in
      sound_made scope set (expression.Call number f.0) result m f.2
      (subst (λ t. Has scope set (expression.Call number f.0) (kind_of t)) st.gives (has_call scope set number f.0 st.f st.is may (subst (Have scope set f.0) (sym st.takes) (passed_have scope set ms params f.0 h f.1))))
      st.ty
