-- What types mean is sound, and so are their defaults.
use Rattle.std.proofs.Common.{◌≡◌, ℕ, zero, suc, Bool, true, false, not, List, [], ◌∷◌, ◌++◌, map, length, Some, refl, sym, ap, subst, ◌∙◌}
use Rattle.std.proofs.lemmas.Bool.{or_parts, or_from, false≢true}
use Rattle.std.specs.List.{list_any}
use Rattle.std.specs.Option.{option_and_then}
use Rattle.chi_token.specs.declared.place.Place.{Place}
use Rattle.chi_tree.specs.declared.type_tree.Name.{Name}
use Rattle.chi_tree.specs.declared.type_tree.TypeWord.{TypeWord}
use Rattle.chi_tree.specs.declared.type_tree.Way.{Way}
use Rattle.chi_types.specs.declared.ty.Ty.{Ty, Ty-F, out-Ty, fold-Ty, fold_out-Ty}
use Rattle.chi_types.specs.declared.ty.Ty.TheVariants as ty
use Rattle.chi_types.specs.Plain.{holds}
use Rattle.chi_types.specs.Same.{beside}
use Rattle.chi_value.specs.declared.shape.Shape.{Shape, Shape-F, out-Shape, map-Shape, fold_out-Shape}
use Rattle.chi_value.specs.Plain.{itself}
use Rattle.chi_core.specs.declared.expression.CExpr.{CExpr}
use Rattle.chi_core.specs.declared.expression.CExpr.TheVariants as expression
use Rattle.chi_core.specs.Kinds.{Kind, kind_of, erased, holds_channel, holds_channel_step}
use Rattle.chi_core.specs.OperatorKinds.{ShapeKind, ShapesOf, shape_bool, shape_int, shape_real, shape_text, shape_choice, shape_tuple, shape_list, shape_set, shape_dictionary, shape_channel, shape_dist_bool, shape_dist_int, shape_dist_real, shape_timer, shape_instance, no_shape, one_shape}
use Rattle.chi_core.specs.Scopes.{Role, constant, function, process, Scope, may_make, makes_channel, makes_channel_step}
use Rattle.chi_core.specs.SetSlots.{Known as Set}
use Rattle.chi_core.specs.Sound.{SoundIn}
use Rattle.chi_core.specs.SoundTypes.{SoundType, SoundParts}
use Rattle.chi_core.proofs.Erased.{kind_at}
use Rattle.chi_check_types.specs.declared.fault.Fault.{Fault}
use Rattle.chi_check_types.specs.declared.known.Known.{Known}
use Rattle.chi_check_types.specs.declared.known.Known.TheVariants as known
use Rattle.chi_check_types.specs.declared.meant.Made.{Made}
use Rattle.chi_check_types.specs.declared.meant.Meant.{Meant}
use Rattle.chi_check_types.specs.Defaults.{shape_of, element_type, within, repeated, default_of}
use Rattle.chi_check_types.specs.TypeRules.{is_int, meaning, depth_rule, of_type, word_of, visible_type, list_of, plain_rule, set_of, dict_of, dist_of, chan_of, void_chan_of, size_holds, size_rule, with_size, sized_list_of, names_rule, tuple_of}
use Rattle.chi_check_types.proofs.TypeLaws as types
use Rattle.chi_check_types.proofs.ShapeLaws.{shapes_have_kinds}
use Rattle.chi_check_laws.specs.KnownNames.{Has, SoundMade, SoundMeant, Sizes, Stands, may_make_default}
use Rattle.chi_check_laws.proofs.Has.{has_default, has_repetition}
use Rattle.chi_check_laws.proofs.TypeKinds.{element_of_list}
use Rattle.chi_check_laws.proofs.Conversions.{some_is, mapped, chained}
use Rattle.chi_check_laws.proofs.Sites.{unless_made, unbroken}
use Rattle.chi_check_laws.proofs.Parts.{int_kind}

-- ---- what has no size

no_sizes : (place : Place) (own : List Fault) (t : Ty) (m : Meant) → (of_type place own (meaning t)).made ≡ Some m → m.sizes ≡ []
no_sizes place own t m e = ap (λ m. m.sizes) (sym (unless_made (own ++ depth_rule place t) (meaning t) m e).1)

int_size : (sizes : Bool) (size : Made) → size_holds sizes (Some size) ≡ true → is_int (out-Ty size.ty) ≡ true
int_size true size h = h
int_size false size h = absurd (cc)

module _ (scope : Scope) (set : Set) where
  sound_meant : (place : Place) (own : List Fault) (t : Ty) (m : Meant) → SoundIn scope.core m.ty → (of_type place own (meaning t)).made ≡ Some m → SoundMeant scope set m
  sound_meant place own t m s e = record { ty = s; sizes = subst (Sizes scope set) (sym (no_sizes place own t m e)) tt }

  pub word_sound : (place : Place) (w : TypeWord) (m : Meant) → (word_of place w).made ≡ Some m → SoundMeant scope set m
  word_sound place w m e = sound_meant place [] _ m (types.sound_word _ place w m e) e

  pub list_type_sound : (place : Place) (element m : Meant) → SoundMeant scope set element → (list_of place (Some element)).made ≡ Some m → SoundMeant scope set m
  list_type_sound place element m h e = sound_meant place [] _ m (types.sound_list _ place element h.ty m e) e

  pub set_type_sound : (place : Place) (element m : Meant) → SoundMeant scope set element → (set_of place (Some element)).made ≡ Some m → SoundMeant scope set m
  set_type_sound place element m h e = sound_meant place (plain_rule place (Some element)) _ m (types.sound_set _ place element h.ty m e) e

  pub dictionary_type_sound : (place : Place) (key value m : Meant) → SoundMeant scope set key → SoundMeant scope set value → (dict_of place (Some key) (Some value)).made ≡ Some m → SoundMeant scope set m
  dictionary_type_sound place key value m h k e = sound_meant place (plain_rule place (Some key)) _ m (types.sound_dict _ place key value h.ty k.ty m e) e

  pub dist_sound : (place : Place) (drawn m : Meant) → SoundMeant scope set drawn → (dist_of place (Some drawn)).made ≡ Some m → SoundMeant scope set m
  dist_sound place drawn m h e = sound_meant place _ _ m (types.sound_dist _ place drawn h.ty m e) e

  pub chan_sound : (place : Place) (w : Way) (carried m : Meant) → SoundMeant scope set carried → (chan_of place w (Some carried)).made ≡ Some m → SoundMeant scope set m
  chan_sound place w carried m h e = sound_meant place [] _ m (types.sound_chan _ place w carried h.ty m e) e

  pub void_chan_sound : (place : Place) (w : Way) (m : Meant) → (void_chan_of place w).made ≡ Some m → SoundMeant scope set m
  void_chan_sound place w m e = sound_meant place [] _ m (types.sound_void_chan _ place w m e) e

  pub tuple_type_sound : (place : Place) (fields : List Name) (parts : List (List ℕ × Ty)) (m : Meant) → SoundParts (length scope.core.names.kinds) parts → (tuple_of place fields (Some parts)).made ≡ Some m → SoundMeant scope set m
  tuple_type_sound place fields parts m h e = sound_meant place (names_rule [] fields) _ m (types.sound_tuple _ place fields parts h m e) e

  -- one more size, which is an int
  more_sizes : (es : List CExpr) (e : CExpr) → Sizes scope set es → Has scope set e Ty-F.Int → Sizes scope set (es ++ e ∷ [])
  more_sizes [] e h k = (k, tt)
  more_sizes (x ∷ es) e h k = (h.0, more_sizes es e h.1 k)

  pub sized_list_sound : (place : Place) (sizes : Bool) (size : Made) (element m : Meant) → SoundMade scope set size → SoundMeant scope set element → (sized_list_of place sizes (Some size) (Some element)).made ≡ Some m → SoundMeant scope set m
  sized_list_sound place sizes size element m h k e =
      let is : with_size element size.core ≡ m = (unless_made (size_rule place sizes (Some size) ++ depth_rule place (ty.ListOf element.ty)) (with_size element size.core) m e).1 in
      let holds : size_holds sizes (Some size) ≡ true = unbroken (size_holds sizes (Some size)) _ place (depth_rule place (ty.ListOf element.ty)) (with_size element size.core) m e in
      let int : Has scope set size.core Ty-F.Int = subst (Has scope set size.core) (int_kind size.ty (int_size sizes size holds)) h.kind in
      record {
        ty = types.sound_sized_list _ place sizes size element k.ty m e;
        sizes = subst (λ m. Sizes scope set m.sizes) is (more_sizes element.sizes size.core k.sizes int);
      }

  pub named_type_sound : (place : Place) (k : Known) (m : Meant) → Stands scope set k → (visible_type place (Some k)).made ≡ Some m → SoundMeant scope set m
  named_type_sound place (known.Kind t) m st e = sound_meant place [] t m (types.sound_name _ place t st m e) e
  named_type_sound place (known.Untyped k) m st e = absurd (types.untyped_never place k m e)
  named_type_sound place _ m st e = absurd (cc)

-- ---- types within lists

list_layer : (w u : Ty) (layer : Ty-F Ty) → out-Ty w ≡ layer → element_type layer ≡ Some u → out-Ty w ≡ Ty-F.ListOf u
list_layer w u (Ty-F.ListOf t) p e = p ∙ ap Ty-F.ListOf (some_is t u e)
list_layer w u _ p e = absurd (cc)

is_list_of : (w u : Ty) → element_type (out-Ty w) ≡ Some u → out-Ty w ≡ Ty-F.ListOf u
is_list_of w u e = list_layer w u (out-Ty w) refl e

-- the last list, around the innermost type
unwrapped : (n : ℕ) (t u : Ty) → within (suc n) t ≡ Some u → (w : Ty) × (within n t ≡ Some w) × (element_type (out-Ty w) ≡ Some u)
unwrapped zero t u e =
    let f = chained (within zero) (element_type (out-Ty t)) u e in
    (t, refl, f.1 ∙ f.2)
unwrapped (suc n) t u e =
    let f = chained (within (suc n)) (element_type (out-Ty t)) u e in
    let rest = unwrapped n f.0 u f.2 in
    (rest.0, ap (option_and_then (within n)) f.1 ∙ rest.1, rest.2)

sound_within : (k : ℕ) (n : ℕ) (t u : Ty) → SoundType k (out-Ty t) → within n t ≡ Some u → SoundType k (out-Ty u)
sound_within k zero t u s e = subst (λ t. SoundType k (out-Ty t)) (some_is t u e) s
sound_within k (suc n) t u s e =
    let f = chained (within n) (element_type (out-Ty t)) u e in
    sound_within k n f.0 u (element_of_list k t f.0 (is_list_of t f.0 f.1) s) f.2

-- a list holds a channel where its elements do
channel_in_list : (t u : Ty) → out-Ty t ≡ Ty-F.ListOf u → holds_channel (kind_of t) ≡ holds_channel (kind_of u)
channel_in_list t u p = ap holds_channel (kind_at t _ p) ∙ fold_out-Ty Bool holds_channel_step (erased u)

channels_within : (n : ℕ) (t u : Ty) → within n t ≡ Some u → holds_channel (kind_of t) ≡ holds_channel (kind_of u)
channels_within zero t u e = ap (λ t. holds_channel (kind_of t)) (some_is t u e)
channels_within (suc n) t u e =
    let f = chained (within n) (element_type (out-Ty t)) u e in
    channel_in_list t f.0 (is_list_of t f.0 f.1) ∙ channels_within n f.0 u f.2

-- ---- a default of what holds no channel makes none

module _ (k : ℕ) where
  mutual
    makes_none : (layer : Shape-F Shape) (T : Kind) → ShapeKind k layer T → holds_channel T ≡ false → makes_channel_step (map-Shape Shape Bool makes_channel layer) ≡ false
    makes_none _ _ shape_bool h = refl
    makes_none _ _ shape_int h = refl
    makes_none _ _ shape_real h = refl
    makes_none _ _ shape_text h = refl
    makes_none _ _ (shape_choice enumeration there) h = refl
    makes_none _ _ (shape_tuple shapes parts each) h = each_none shapes parts each h
    makes_none _ _ (shape_list t) h = refl
    makes_none _ _ (shape_set t plain) h = refl
    makes_none _ _ (shape_dictionary key has plain) h = refl
    makes_none _ _ (shape_channel t) h = absurd (false≢true (sym h))
    makes_none _ _ shape_dist_bool h = refl
    makes_none _ _ shape_dist_int h = refl
    makes_none _ _ shape_dist_real h = refl
    makes_none _ _ shape_timer h = refl
    makes_none _ _ shape_instance h = refl

    each_none : (shapes : List Shape) (parts : List (List ℕ × Ty)) → ShapesOf k shapes parts → list_any holds (map (beside (fold-Ty Bool holds_channel_step)) parts) ≡ false → list_any itself (map makes_channel shapes) ≡ false
    each_none _ _ no_shape h = refl
    each_none _ _ (one_shape shape shapes part parts is rest) h =
        let both = or_parts _ _ h in
        let first : holds_channel (out-Ty part.1) ≡ false = sym (fold_out-Ty Bool holds_channel_step part.1) ∙ both.0 in
        or_from _ _ (fold_out-Shape Bool makes_channel_step shape ∙ makes_none (out-Shape shape) (out-Ty part.1) is first) (each_none shapes parts rest both.1)

none_made : (k : ℕ) (s : Shape) (T : Kind) → ShapeKind k (out-Shape s) T → holds_channel T ≡ false → makes_channel s ≡ false
none_made k s T is h = fold_out-Shape Bool makes_channel_step s ∙ makes_none k (out-Shape s) T is h

not_true : (b : Bool) → not b ≡ true → b ≡ false
not_true true h = absurd (false≢true h)
not_true false h = refl

default_same : (role : Role) (T U : Kind) → holds_channel T ≡ holds_channel U → may_make_default role T ≡ true → may_make_default role U ≡ true
default_same (constant number) T U e h = ap not (sym e) ∙ h
default_same (function result) T U e h = ap not (sym e) ∙ h
default_same (process exit) T U e h = refl

may_default : (k : ℕ) (role : Role) (s : Shape) (T : Kind) → ShapeKind k (out-Shape s) T → may_make_default role T ≡ true → may_make role s ≡ true
may_default k (constant number) s T is h = ap not (none_made k s T is (not_true (holds_channel T) h))
may_default k (function result) s T is h = ap not (none_made k s T is (not_true (holds_channel T) h))
may_default k (process exit) s T is h = refl

module _ (scope : Scope) (set : Set) where
  repeated_has : (sizes : List CExpr) (each : CExpr) (t u : Ty) → within (length sizes) t ≡ Some u → Sizes scope set sizes → Has scope set each (kind_of u) → Has scope set (repeated sizes each) (kind_of t)
  repeated_has [] each t u e h k = subst (λ t. Has scope set each (kind_of t)) (sym (some_is t u e)) k
  repeated_has (size ∷ sizes) each t u e h k =
      let w = unwrapped (length sizes) t u e in
      repeated_has sizes (expression.Repeat size each) t w.0 w.1 h.1
      (subst (Has scope set (expression.Repeat size each)) (sym (kind_at w.0 _ (is_list_of w.0 u w.2))) (has_repetition scope set size each (erased u) h.0 k))

  pub default_sound : (m : Meant) (e : CExpr) → SoundMeant scope set m → may_make_default scope.role (kind_of m.ty) ≡ true → default_of m.ty m.sizes ≡ Some e → Has scope set e (kind_of m.ty)
  default_sound m e h may is =
      let f = mapped (λ s. repeated m.sizes (expression.Default s)) (option_and_then shape_of (within (length m.sizes) m.ty)) e is in
      let g = chained shape_of (within (length m.sizes) m.ty) f.0 f.1 in
      let s : SoundIn scope.core g.0 = sound_within _ (length m.sizes) m.ty g.0 h.ty g.1 in
      let shaped = shapes_have_kinds _ g.0 f.0 s g.2 in
      let may_there : may_make_default scope.role (kind_of g.0) ≡ true = default_same scope.role _ _ (channels_within (length m.sizes) m.ty g.0 g.1) may in
      subst (λ e. Has scope set e (kind_of m.ty)) f.2
      (repeated_has m.sizes (expression.Default f.0) m.ty g.0 g.1 h.sizes (has_default scope set f.0 (kind_of g.0) shaped (may_default _ scope.role f.0 (kind_of g.0) shaped may_there)))
