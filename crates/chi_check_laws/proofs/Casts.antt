-- What casts make is sound.
use Rattle.std.proofs.Common.{◌≡◌, true, [], ◌∷◌, Some, refl}
use Rattle.chi_token.specs.declared.place.Place.{Place}
use Rattle.chi_tree.specs.declared.operator.CastWord.{CastWord}
use Rattle.chi_tree.specs.declared.operator.CastWord.TheVariants as word
use Rattle.chi_types.specs.declared.ty.Ty.{Ty, Ty-F, out-Ty}
use Rattle.chi_types.specs.declared.ty.Ty.TheVariants as ty
use Rattle.chi_types.specs.Plain.{is_plain}
use Rattle.chi_core.specs.declared.op_name.OpName.{OpName}
use Rattle.chi_core.specs.declared.op_name.OpName.TheVariants as op
use Rattle.chi_core.specs.Kinds.{Kind, kind_of}
use Rattle.chi_core.specs.OperatorKinds as row
use Rattle.chi_core.specs.OperatorKinds.{OpKind}
use Rattle.chi_core.specs.Scopes.{Scope, may_apply}
use Rattle.chi_core.specs.SetSlots.{Known as Set}
use Rattle.chi_core.specs.Sound.{SoundIn}
use Rattle.chi_core.proofs.Erased.{kind_at}
use Rattle.chi_check_types.specs.declared.meant.Made.{Made}
use Rattle.chi_check_types.specs.declared.site.Site.{Site}
use Rattle.chi_check_expr_rules.specs.Conversions.{as_they_are}
use Rattle.chi_check_expr_rules.specs.Casts.{to_int, to_real, to_bool, to_text, to_timer, cast, is_timer, timer_rule, cast_made, cast_of}
use Rattle.chi_check_expr_rules.specs.Sites.{running_rule, running_rule_if}
use Rattle.chi_check_laws.specs.KnownNames.{IsSite}
use Rattle.chi_check_laws.proofs.TypeKinds.{kind_bool, kind_int, kind_real, kind_text, kind_timer, sound_bool, sound_int, sound_real, sound_text, sound_timer, plain_kind}
use Rattle.chi_check_laws.proofs.Conversions.{some_is, chosen, always, Sounds, as_they_are_sound, wanting_sound}
use Rattle.chi_check_laws.proofs.Sites.{may_run, settled_made, barred_made}

module _ (scope : Scope) (set : Set) where
  -- one operand of a kind
  pub of_kind : (name : OpName) (result : Ty) (T K : Kind) → OpKind name (T ∷ []) K → may_apply scope.role name (T ∷ []) ≡ true → kind_of result ≡ K → SoundIn scope.core result → (a m : Made) → kind_of a.ty ≡ T → Sounds scope set a
      → as_they_are name (a ∷ []) result ≡ m → Sounds scope set m
  of_kind name result T K r may is s a m of h e = as_they_are_sound scope set name (a ∷ []) result (T ∷ []) K m r may (λ i. of i ∷ []) is s (h, tt) e

  int_by : (a m : Made) → Sounds scope set a → (layer : Ty-F Ty) → out-Ty a.ty ≡ layer → to_int layer a ≡ Some m → Sounds scope set m
  int_by a m h Ty-F.Int p e = of_kind op.ToInt ty.Int Ty-F.Int Ty-F.Int row.int_of_int (always scope.role op.ToInt _ refl) kind_int (sound_int _) a m (kind_at a.ty _ p) h (some_is _ m e)
  int_by a m h Ty-F.Text p e = of_kind op.ToInt ty.Int Ty-F.Text Ty-F.Int row.int_of_text (always scope.role op.ToInt _ refl) kind_int (sound_int _) a m (kind_at a.ty _ p) h (some_is _ m e)
  int_by a m h _ p e = absurd (cc)

  bool_by : (a m : Made) → Sounds scope set a → (layer : Ty-F Ty) → out-Ty a.ty ≡ layer → to_bool layer a ≡ Some m → Sounds scope set m
  bool_by a m h Ty-F.Bool p e = of_kind op.ToBool ty.Bool Ty-F.Bool Ty-F.Bool row.bool_of_bool (always scope.role op.ToBool _ refl) kind_bool (sound_bool _) a m (kind_at a.ty _ p) h (some_is _ m e)
  bool_by a m h Ty-F.Text p e = of_kind op.ToBool ty.Bool Ty-F.Text Ty-F.Bool row.bool_of_text (always scope.role op.ToBool _ refl) kind_bool (sound_bool _) a m (kind_at a.ty _ p) h (some_is _ m e)
  bool_by a m h _ p e = absurd (cc)

  real_by : (s : Site) (place : Place) → IsSite s scope.role → (a m : Made) → Sounds scope set a → (layer : Ty-F Ty) → out-Ty a.ty ≡ layer → running_rule_if (is_timer layer) s place ≡ [] → to_real layer a ≡ Some m → Sounds scope set m
  real_by s place at a m h Ty-F.Int p rule e = of_kind op.ToReal ty.Real Ty-F.Int Ty-F.Real row.real_of_int (always scope.role op.ToReal _ refl) kind_real (sound_real _) a m (kind_at a.ty _ p) h (some_is _ m e)
  real_by s place at a m h Ty-F.Real p rule e = of_kind op.ToReal ty.Real Ty-F.Real Ty-F.Real row.real_of_real (always scope.role op.ToReal _ refl) kind_real (sound_real _) a m (kind_at a.ty _ p) h (some_is _ m e)
  real_by s place at a m h Ty-F.Text p rule e = of_kind op.ToReal ty.Real Ty-F.Text Ty-F.Real row.real_of_text (always scope.role op.ToReal _ refl) kind_real (sound_real _) a m (kind_at a.ty _ p) h (some_is _ m e)
  real_by s place at a m h Ty-F.Timer p rule e =
      of_kind op.ToReal ty.Real Ty-F.Timer Ty-F.Real row.real_of_timer (may_run s scope.role place op.ToReal _ at rule) kind_real (sound_real _) a m (kind_at a.ty _ p) h (some_is _ m e)
  real_by s place at a m h _ p rule e = absurd (cc)

  text_sound : (a m : Made) → Sounds scope set a → to_text a ≡ Some m → Sounds scope set m
  text_sound a m h e =
      let c = chosen (is_plain a.ty) (as_they_are op.ToText (a ∷ []) ty.Text) m e in
      of_kind op.ToText ty.Text (kind_of a.ty) Ty-F.Text (row.text_of_plain (kind_of a.ty) (plain_kind a.ty c.0)) (always scope.role op.ToText _ refl) kind_text (sound_text _) a m refl h c.1

  timer_sound : (s : Site) (place : Place) → IsSite s scope.role → running_rule s place ≡ [] → (a m : Made) → Sounds scope set a → to_timer a ≡ Some m → Sounds scope set m
  timer_sound s place at rule a m h e =
      wanting_sound scope set op.ToTimer (ty.Real ∷ []) ty.Timer _ Ty-F.Timer (a ∷ []) m row.timer_of_real (may_run s scope.role place op.ToTimer _ at rule) (λ i. kind_real i ∷ []) kind_timer (sound_timer _) (h, tt) e

  by_word : (w : CastWord) (s : Site) (place : Place) → IsSite s scope.role → (a m : Made) → Sounds scope set a → timer_rule s w place (Some a) ≡ [] → cast w a ≡ Some m → Sounds scope set m
  by_word word.Int s place at a m h rule e = int_by a m h (out-Ty a.ty) refl e
  by_word word.Real s place at a m h rule e = real_by s place at a m h (out-Ty a.ty) refl rule e
  by_word word.Text s place at a m h rule e = text_sound a m h e
  by_word word.Bool s place at a m h rule e = bool_by a m h (out-Ty a.ty) refl e
  by_word word.Timer s place at a m h rule e = timer_sound s place at rule a m h e

  pub cast_sound : (s : Site) (w : CastWord) (place : Place) (a m : Made) → IsSite s scope.role → Sounds scope set a → (cast_of s w place (Some a)).made ≡ Some m → Sounds scope set m
  cast_sound s w place a m at h e =
      let both = barred_made (timer_rule s w place (Some a)) (cast_made w place (Some a)) m e in
      by_word w s place at a m h both.0 (settled_made _ place (cast w a) m both.1)
