-- What predefined names make of their arguments is sound.
use Rattle.std.proofs.Common.{◌≡◌, ◌⊎◌, inl, inr, ℕ, suc, arith, Bool, true, false, cond, List, [], ◌∷◌, map, Option, Some, refl, sym, ap, subst, ◌∙◌}
use Rattle.std.proofs.lemmas.Bool.{and_parts, ltb-true}
use Rattle.std.specs.List.{list_all}
use Rattle.std.specs.Prelude.{length, ◌&&◌, ◌<◌, nat_lt, replicate}
use Rattle.chi_token.specs.declared.place.Place.{Place}
use Rattle.chi_types.specs.declared.ty.Ty.{Ty, Ty-F, out-Ty, map-Ty, roll-Ty, roll-out-Ty}
use Rattle.chi_types.specs.declared.ty.Ty.TheVariants as ty
use Rattle.chi_types.specs.Fits.{fits}
use Rattle.chi_core.specs.declared.expression.CExpr.{CExpr}
use Rattle.chi_core.specs.declared.expression.CExpr.TheVariants as expression
use Rattle.chi_core.specs.declared.op_name.OpName.{OpName}
use Rattle.chi_core.specs.declared.op_name.OpName.TheVariants as op
use Rattle.chi_core.specs.Kinds.{Kind, kind_of, kinds_of, erased, without_ways_and_names, tuple_of}
use Rattle.chi_core.specs.OperatorKinds as row
use Rattle.chi_core.specs.OperatorKinds.{OpKind, depends_on_run, has_size, several}
use Rattle.chi_core.specs.Scopes.{Scope, may_call}
use Rattle.chi_core.specs.SetSlots.{Known as Set}
use Rattle.chi_core.specs.Sound.{SoundIn}
use Rattle.chi_core.proofs.Erased.{kind_at, same_kind}
use Rattle.chi_check_types.specs.declared.known.Known.{Known}
use Rattle.chi_check_types.specs.declared.known.Known.TheVariants as known
use Rattle.chi_check_types.specs.declared.meant.Made.{Made}
use Rattle.chi_check_types.specs.declared.predefined.Predefined.{Predefined}
use Rattle.chi_check_types.specs.declared.predefined.Predefined.TheVariants as name
use Rattle.chi_check_types.specs.declared.site.Site.{Site}
use Rattle.chi_check_types.specs.declared.rules.TheConstants.{PREDEFINED}
use Rattle.chi_check_types.specs.Typed.{untyped}
use Rattle.chi_check_types.specs.TypeRules.{is_int, is_drawn}
use Rattle.chi_check_expr_rules.specs.Nodes.{settled}
use Rattle.chi_check_expr_rules.specs.Conversions.{made, converted, wanting, as_they_are, both_as}
use Rattle.chi_check_expr_rules.specs.Operators.{number_of}
use Rattle.chi_check_expr_rules.specs.PredefinedCalls.{tuple, absolute_by, absolute, sign_by, is_counted, counted, popped_type, popped, constant, is_list, deleted, uniform, common_number, extreme, range, one, two, is_count, predefined, tells_order, inserted_by, inserted_in, is_untyped_function, insertion, predefined_rule, enumerated_type, enumerated, keys_type, keys, values_type, values}
use Rattle.chi_check_laws.specs.KnownNames.{Has, IsSite, Stands}
use Rattle.chi_check_laws.proofs.Has.{Have, has_insertion}
use Rattle.chi_check_laws.proofs.TypeKinds.{Serves, serves_itself, serves_still, kind_bool, kind_int, kind_real, kind_timer, kind_instance, kind_list, kind_dist, sound_bool, sound_int, sound_real, sound_list, sound_dist, sound_tuple, sound_nameless, element_of_list, element_of_set, parts_of_dictionary}
use Rattle.chi_check_expr.proofs.Kept.{Each}
use Rattle.chi_check_laws.proofs.Conversions.{some_is, mapped, chained, chosen, always, Sounds, sound_made, fits_has, AllServe, all_have, operation_sound, wanting_sound, as_they_are_sound, both_sound}
use Rattle.chi_check_laws.proofs.Sites.{may_run, settled_made}
use Rattle.chi_check_laws.proofs.Operators.{Numeric, numbers_are}
use Rattle.chi_check_laws.proofs.Casts.{of_kind}
use Rattle.chi_check_laws.proofs.Containers.{kind_of_tuple}
use Rattle.chi_check_laws.proofs.Parts.{int_kind, ints_kinds}

size_layer : (layer : Ty-F Ty) → is_counted layer ≡ true → has_size (without_ways_and_names (map-Ty Ty Ty erased layer)) ≡ true
size_layer Ty-F.Text h = refl
size_layer (Ty-F.ListOf t) h = refl
size_layer (Ty-F.SetOf t) h = refl
size_layer (Ty-F.DictOf key has) h = refl
size_layer _ h = absurd (cc)

size_kind : (t : Ty) → is_counted (out-Ty t) ≡ true → has_size (kind_of t) ≡ true
size_kind t h = ap has_size (kind_at t (out-Ty t) refl) ∙ size_layer (out-Ty t) h

-- a type by its layer, without ways and names
erased_list : (whole t : Ty) → out-Ty whole ≡ Ty-F.ListOf t → erased whole ≡ ty.ListOf (erased t)
erased_list whole t p = sym (roll-out-Ty (erased whole)) ∙ ap roll-Ty (kind_at whole _ p) ∙ ty.rolls-ListOf (erased t)

erased_set : (whole t : Ty) → out-Ty whole ≡ Ty-F.SetOf t → erased whole ≡ ty.SetOf (erased t)
erased_set whole t p = sym (roll-out-Ty (erased whole)) ∙ ap roll-Ty (kind_at whole _ p) ∙ ty.rolls-SetOf (erased t)

erased_dictionary : (whole key has : Ty) → out-Ty whole ≡ Ty-F.DictOf key has → erased whole ≡ ty.DictOf (erased key) (erased has)
erased_dictionary whole key has p = sym (roll-out-Ty (erased whole)) ∙ ap roll-Ty (kind_at whole _ p) ∙ ty.rolls-DictOf (erased key) (erased has)

erased_int : erased ty.Int ≡ ty.Int
erased_int = sym (roll-out-Ty (erased ty.Int)) ∙ ap roll-Ty kind_int ∙ ty.rolls-Int

erased_tuple : (ts : List Ty) → erased (tuple ts) ≡ roll-Ty (tuple_of (map erased ts))
erased_tuple ts = sym (roll-out-Ty (erased (tuple ts))) ∙ ap roll-Ty (kind_of_tuple ts)

-- the one argument, and the two
the_one : (f : Made → Option Made) (ms : List Made) (m : Made) → one f ms ≡ Some m → (a : Made) × (ms ≡ a ∷ []) × (f a ≡ Some m)
the_one f [] m e = absurd (cc)
the_one f (a ∷ []) m e = (a, refl, e)
the_one f (a ∷ b ∷ ms) m e = absurd (cc)

the_two : (f : Made → Made → Option Made) (ms : List Made) (m : Made) → two f ms ≡ Some m → (a : Made) × (b : Made) × (ms ≡ a ∷ b ∷ []) × (f a b ≡ Some m)
the_two f [] m e = absurd (cc)
the_two f (a ∷ []) m e = absurd (cc)
the_two f (a ∷ b ∷ []) m e = (a, b, refl, e)
the_two f (a ∷ b ∷ c ∷ ms) m e = absurd (cc)

-- two or more
several_kinds : (T : Kind) (ms : List Made) → map {A = Made} (λ m. T) ms ≡ replicate (length ms) T
several_kinds T [] = refl
several_kinds T (m ∷ ms) = ap (λ rest. T ∷ rest) (several_kinds T ms)

module _ (scope : Scope) (set : Set) where
  -- ---- one argument

  absolute_sound : (a m : Made) → Sounds scope set a → (layer : Ty-F Ty) → out-Ty a.ty ≡ layer → absolute_by layer a ≡ Some m → Sounds scope set m
  absolute_sound a m h Ty-F.Int p e = of_kind scope set op.Abs ty.Int Ty-F.Int Ty-F.Int row.absolute_int (always scope.role op.Abs _ refl) kind_int (sound_int _) a m (kind_at a.ty _ p) h (some_is _ m e)
  absolute_sound a m h Ty-F.Real p e = of_kind scope set op.Abs ty.Real Ty-F.Real Ty-F.Real row.absolute_real (always scope.role op.Abs _ refl) kind_real (sound_real _) a m (kind_at a.ty _ p) h (some_is _ m e)
  absolute_sound a m h _ p e = absurd (cc)

  sign_sound : (a m : Made) → Sounds scope set a → (layer : Ty-F Ty) → out-Ty a.ty ≡ layer → sign_by layer a ≡ Some m → Sounds scope set m
  sign_sound a m h Ty-F.Int p e = of_kind scope set op.Sign ty.Int Ty-F.Int Ty-F.Int row.sign_of_int (always scope.role op.Sign _ refl) kind_int (sound_int _) a m (kind_at a.ty _ p) h (some_is _ m e)
  sign_sound a m h Ty-F.Real p e = of_kind scope set op.Sign ty.Int Ty-F.Real Ty-F.Int row.sign_of_real (always scope.role op.Sign _ refl) kind_int (sound_int _) a m (kind_at a.ty _ p) h (some_is _ m e)
  sign_sound a m h _ p e = absurd (cc)

  size_sound : (a m : Made) → Sounds scope set a → counted op.Size ty.Int a ≡ Some m → Sounds scope set m
  size_sound a m h e =
      let c = chosen (is_counted (out-Ty a.ty)) (as_they_are op.Size (a ∷ []) ty.Int) m e in
      of_kind scope set op.Size ty.Int (kind_of a.ty) Ty-F.Int (row.size_of (kind_of a.ty) (size_kind a.ty c.0)) (always scope.role op.Size _ refl) kind_int (sound_int _) a m refl h c.1

  empty_sound : (a m : Made) → Sounds scope set a → counted op.Empty ty.Bool a ≡ Some m → Sounds scope set m
  empty_sound a m h e =
      let c = chosen (is_counted (out-Ty a.ty)) (as_they_are op.Empty (a ∷ []) ty.Bool) m e in
      of_kind scope set op.Empty ty.Bool (kind_of a.ty) Ty-F.Bool (row.empty_of (kind_of a.ty) (size_kind a.ty c.0)) (always scope.role op.Empty _ refl) kind_bool (sound_bool _) a m refl h c.1

  popped_by : (a m : Made) → Sounds scope set a → (layer : Ty-F Ty) → out-Ty a.ty ≡ layer → (t : Ty) → popped_type a.ty layer ≡ Some t → as_they_are op.Pop (a ∷ []) t ≡ m → Sounds scope set m
  popped_by a m h (Ty-F.ListOf u) p t is e =
      let kind : kind_of t ≡ tuple_of (erased u ∷ ty.ListOf (erased u) ∷ []) = ap kind_of (sym (some_is _ t is)) ∙ kind_of_tuple (u ∷ a.ty ∷ []) ∙ ap (λ whole. tuple_of (erased u ∷ whole ∷ [])) (erased_list a.ty u p) in
      let s : SoundIn scope.core t = subst (SoundIn scope.core) (some_is _ t is) (sound_tuple _ _ (sound_nameless _ (u ∷ a.ty ∷ []) (element_of_list _ a.ty u p h.ty, (h.ty, tt)))) in
      of_kind scope set op.Pop t (Ty-F.ListOf (erased u)) _ (row.pop_list (erased u)) (always scope.role op.Pop _ refl) kind s a m (kind_at a.ty _ p) h e
  popped_by a m h (Ty-F.SetOf u) p t is e =
      let kind : kind_of t ≡ tuple_of (erased u ∷ ty.SetOf (erased u) ∷ []) = ap kind_of (sym (some_is _ t is)) ∙ kind_of_tuple (u ∷ a.ty ∷ []) ∙ ap (λ whole. tuple_of (erased u ∷ whole ∷ [])) (erased_set a.ty u p) in
      let s : SoundIn scope.core t = subst (SoundIn scope.core) (some_is _ t is) (sound_tuple _ _ (sound_nameless _ (u ∷ a.ty ∷ []) (element_of_set _ a.ty u p h.ty, (h.ty, tt)))) in
      of_kind scope set op.Pop t (Ty-F.SetOf (erased u)) _ (row.pop_set (erased u)) (always scope.role op.Pop _ refl) kind s a m (kind_at a.ty _ p) h e
  popped_by a m h (Ty-F.DictOf key has) p t is e =
      let kind : kind_of t ≡ tuple_of (erased key ∷ erased has ∷ ty.DictOf (erased key) (erased has) ∷ []) = ap kind_of (sym (some_is _ t is)) ∙ kind_of_tuple (key ∷ has ∷ a.ty ∷ []) ∙ ap (λ whole. tuple_of (erased key ∷ erased has ∷ whole ∷ [])) (erased_dictionary a.ty key has p) in
      let parts = parts_of_dictionary _ a.ty key has p h.ty in
      let s : SoundIn scope.core t = subst (SoundIn scope.core) (some_is _ t is) (sound_tuple _ _ (sound_nameless _ (key ∷ has ∷ a.ty ∷ []) (parts.0, (parts.1, (h.ty, tt))))) in
      of_kind scope set op.Pop t (Ty-F.DictOf (erased key) (erased has)) _ (row.pop_dictionary (erased key) (erased has)) (always scope.role op.Pop _ refl) kind s a m (kind_at a.ty _ p) h e
  popped_by a m h _ p t is e = absurd (cc)

  popped_sound : (a m : Made) → Sounds scope set a → popped a ≡ Some m → Sounds scope set m
  popped_sound a m h e =
      let f = mapped (as_they_are op.Pop (a ∷ [])) (popped_type a.ty (out-Ty a.ty)) m e in
      popped_by a m h (out-Ty a.ty) refl f.0 f.1 f.2

  enumerated_by : (a m : Made) → Sounds scope set a → (layer : Ty-F Ty) → out-Ty a.ty ≡ layer → (t : Ty) → enumerated_type layer ≡ Some t → as_they_are op.Enumerate (a ∷ []) t ≡ m → Sounds scope set m
  enumerated_by a m h (Ty-F.ListOf u) p t is e =
      let pair_type : Ty = tuple (ty.Int ∷ u ∷ []) in
      let part : erased pair_type ≡ roll-Ty (tuple_of (ty.Int ∷ erased u ∷ [])) = erased_tuple (ty.Int ∷ u ∷ []) ∙ ap (λ int. roll-Ty (tuple_of (int ∷ erased u ∷ []))) erased_int in
      let kind : kind_of (ty.ListOf pair_type) ≡ Ty-F.ListOf (roll-Ty (tuple_of (ty.Int ∷ erased u ∷ []))) = kind_list pair_type ∙ ap Ty-F.ListOf part in
      let s = sound_list _ pair_type (sound_tuple _ _ (sound_nameless _ (ty.Int ∷ u ∷ []) (sound_int _, (element_of_list _ a.ty u p h.ty, tt)))) in
      of_kind scope set op.Enumerate (ty.ListOf pair_type) (Ty-F.ListOf (erased u)) _ (row.enumerate_list (erased u)) (always scope.role op.Enumerate _ refl) kind s a m (kind_at a.ty _ p) h
      (ap (as_they_are op.Enumerate (a ∷ [])) (some_is (ty.ListOf pair_type) t is) ∙ e)
  enumerated_by a m h _ p t is e = absurd (cc)

  enumerated_sound : (a m : Made) → Sounds scope set a → enumerated a ≡ Some m → Sounds scope set m
  enumerated_sound a m h e =
      let f = mapped (as_they_are op.Enumerate (a ∷ [])) (enumerated_type (out-Ty a.ty)) m e in
      enumerated_by a m h (out-Ty a.ty) refl f.0 f.1 f.2

  keys_by : (a m : Made) → Sounds scope set a → (layer : Ty-F Ty) → out-Ty a.ty ≡ layer → (t : Ty) → keys_type layer ≡ Some t → as_they_are op.DictKeys (a ∷ []) t ≡ m → Sounds scope set m
  keys_by a m h (Ty-F.DictOf key has) p t is e =
      of_kind scope set op.DictKeys (ty.ListOf key) (Ty-F.DictOf (erased key) (erased has)) _ (row.keys_of_dictionary (erased key) (erased has)) (always scope.role op.DictKeys _ refl) (kind_list key)
      (sound_list _ key (parts_of_dictionary _ a.ty key has p h.ty).0) a m (kind_at a.ty _ p) h (ap (as_they_are op.DictKeys (a ∷ [])) (some_is (ty.ListOf key) t is) ∙ e)
  keys_by a m h _ p t is e = absurd (cc)

  keys_sound : (a m : Made) → Sounds scope set a → keys a ≡ Some m → Sounds scope set m
  keys_sound a m h e =
      let f = mapped (as_they_are op.DictKeys (a ∷ [])) (keys_type (out-Ty a.ty)) m e in
      keys_by a m h (out-Ty a.ty) refl f.0 f.1 f.2

  values_by : (a m : Made) → Sounds scope set a → (layer : Ty-F Ty) → out-Ty a.ty ≡ layer → (t : Ty) → values_type layer ≡ Some t → as_they_are op.DictValues (a ∷ []) t ≡ m → Sounds scope set m
  values_by a m h (Ty-F.DictOf key has) p t is e =
      of_kind scope set op.DictValues (ty.ListOf has) (Ty-F.DictOf (erased key) (erased has)) _ (row.values_of_dictionary (erased key) (erased has)) (always scope.role op.DictValues _ refl) (kind_list has)
      (sound_list _ has (parts_of_dictionary _ a.ty key has p h.ty).1) a m (kind_at a.ty _ p) h (ap (as_they_are op.DictValues (a ∷ [])) (some_is (ty.ListOf has) t is) ∙ e)
  values_by a m h _ p t is e = absurd (cc)

  values_sound : (a m : Made) → Sounds scope set a → values a ≡ Some m → Sounds scope set m
  values_sound a m h e =
      let f = mapped (as_they_are op.DictValues (a ∷ [])) (values_type (out-Ty a.ty)) m e in
      values_by a m h (out-Ty a.ty) refl f.0 f.1 f.2

  -- a distribution of what is constant
  constant_of : (a m : Made) (t : Ty) (T : Kind) → OpKind op.Constant (T ∷ []) (Ty-F.Dist t) → kind_of a.ty ≡ T → erased a.ty ≡ t → Sounds scope set a → as_they_are op.Constant (a ∷ []) (ty.Dist a.ty) ≡ m → Sounds scope set m
  constant_of a m t T r is whole h e =
      of_kind scope set op.Constant (ty.Dist a.ty) T (Ty-F.Dist t) r (always scope.role op.Constant _ refl) (kind_dist a.ty ∙ ap Ty-F.Dist whole) (sound_dist _ a.ty h.ty) a m is h e

  whole_of : (t u : Ty) (K : Kind) → kind_of t ≡ K → roll-Ty K ≡ u → erased t ≡ u
  whole_of t u K is rolls = sym (roll-out-Ty (erased t)) ∙ ap roll-Ty is ∙ rolls

  constant_by : (a m : Made) → Sounds scope set a → (layer : Ty-F Ty) → out-Ty a.ty ≡ layer → is_drawn layer ≡ true → as_they_are op.Constant (a ∷ []) (ty.Dist a.ty) ≡ m → Sounds scope set m
  constant_by a m h Ty-F.Bool p is e = constant_of a m ty.Bool Ty-F.Bool row.constant_bool (kind_at a.ty _ p) (whole_of a.ty ty.Bool _ (kind_at a.ty _ p) ty.rolls-Bool) h e
  constant_by a m h Ty-F.Int p is e = constant_of a m ty.Int Ty-F.Int row.constant_int (kind_at a.ty _ p) (whole_of a.ty ty.Int _ (kind_at a.ty _ p) ty.rolls-Int) h e
  constant_by a m h Ty-F.Real p is e = constant_of a m ty.Real Ty-F.Real row.constant_real (kind_at a.ty _ p) (whole_of a.ty ty.Real _ (kind_at a.ty _ p) ty.rolls-Real) h e
  constant_by a m h _ p is e = absurd (cc)

  constant_sound : (a m : Made) → Sounds scope set a → constant a ≡ Some m → Sounds scope set m
  constant_sound a m h e =
      let c = chosen (is_drawn (out-Ty a.ty)) (as_they_are op.Constant (a ∷ []) (ty.Dist a.ty)) m e in
      constant_by a m h (out-Ty a.ty) refl c.0 c.1

  -- ---- two arguments

  deleted_by : (a b m : Made) → Sounds scope set a → Sounds scope set b → (layer : Ty-F Ty) → out-Ty a.ty ≡ layer → is_list layer ≡ true → kind_of b.ty ≡ Ty-F.Int → as_they_are op.Del (a ∷ b ∷ []) a.ty ≡ m → Sounds scope set m
  deleted_by a b m h k (Ty-F.ListOf t) p is int e =
      let list : kind_of a.ty ≡ Ty-F.ListOf (erased t) = kind_at a.ty _ p in
      as_they_are_sound scope set op.Del (a ∷ b ∷ []) a.ty _ _ m (row.delete_element (erased t)) (always scope.role op.Del _ refl) (λ i. list i ∷ int i ∷ []) list h.ty (h, (k, tt)) e
  deleted_by a b m h k _ p is int e = absurd (cc)

  deleted_sound : (a b m : Made) → Sounds scope set a → Sounds scope set b → deleted a b ≡ Some m → Sounds scope set m
  deleted_sound a b m h k e =
      let c = chosen (is_list (out-Ty a.ty) && is_int (out-Ty b.ty)) (as_they_are op.Del (a ∷ b ∷ []) a.ty) m e in
      let both = and_parts _ _ c.0 in
      deleted_by a b m h k (out-Ty a.ty) refl both.0 (int_kind b.ty both.1) c.1

  erased_real : erased ty.Real ≡ ty.Real
  erased_real = whole_of ty.Real ty.Real _ kind_real ty.rolls-Real

  dist_kind : (t u : Ty) → t ≡ u → erased u ≡ u → kind_of (ty.Dist t) ≡ Ty-F.Dist u
  dist_kind t u is whole = kind_dist t ∙ ap Ty-F.Dist (ap erased is ∙ whole)

  uniform_of : (a b m : Made) → Sounds scope set a → Sounds scope set b → (t : Ty) → Numeric a.ty b.ty t → (t ≡ ty.Int) ⊎ (t ≡ ty.Real) → both_as op.Uniform t a b (ty.Dist t) ≡ m → Sounds scope set m
  uniform_of a b m h k t n (inl is) e =
      both_sound scope set op.Uniform t a b (ty.Dist t) Ty-F.Int (Ty-F.Dist ty.Int) m row.uniform_int (always scope.role op.Uniform _ refl) (ap kind_of is ∙ kind_int) (dist_kind t ty.Int is erased_int)
      (sound_dist _ t (subst (SoundIn scope.core) (sym is) (sound_int _))) n.left n.right h k e
  uniform_of a b m h k t n (inr is) e =
      both_sound scope set op.Uniform t a b (ty.Dist t) Ty-F.Real (Ty-F.Dist ty.Real) m row.uniform_real (always scope.role op.Uniform _ refl) (ap kind_of is ∙ kind_real) (dist_kind t ty.Real is erased_real)
      (sound_dist _ t (subst (SoundIn scope.core) (sym is) (sound_real _))) n.left n.right h k e

  uniform_sound : (a b m : Made) → Sounds scope set a → Sounds scope set b → uniform a b ≡ Some m → Sounds scope set m
  uniform_sound a b m h k e =
      let f = mapped (λ t. both_as op.Uniform t a b (ty.Dist t)) (number_of (out-Ty a.ty) (out-Ty b.ty)) m e in
      let n = numbers_are a.ty b.ty f.0 f.1 in
      uniform_of a b m h k f.0 n n.number f.2

  -- ---- two numbers or more

  -- all serve for one type, which is int or real where there are two or more
  common_serve : (t : Ty) (ms : List Made) (u : Ty) → common_number t ms ≡ Some u → Serves t u × AllServe scope set u ms
  common_serve t [] u e = (subst (Serves t) (some_is t u e) (serves_itself t), tt)
  common_serve t (m ∷ ms) u e =
      let f = chained (λ u. common_number u ms) (number_of (out-Ty t) (out-Ty m.ty)) u e in
      let n = numbers_are t m.ty f.0 f.1 in
      let rest = common_serve f.0 ms u f.2 in
      (serves_still t f.0 u n.left rest.0, (serves_still m.ty f.0 u n.right rest.0, rest.1))

  common_is : (t : Ty) (ms : List Made) (u : Ty) → (t ≡ ty.Int) ⊎ (t ≡ ty.Real) → common_number t ms ≡ Some u → (u ≡ ty.Int) ⊎ (u ≡ ty.Real)
  common_is t [] u is e = subst (λ t. (t ≡ ty.Int) ⊎ (t ≡ ty.Real)) (some_is t u e) is
  common_is t (m ∷ ms) u is e =
      let f = chained (λ u. common_number u ms) (number_of (out-Ty t) (out-Ty m.ty)) u e in
      common_is f.0 ms u (numbers_are t m.ty f.0 f.1).number f.2

  -- an operator of two or more ints, or reals
  extreme_of : (name : OpName) → ((more : ℕ) → OpKind name (several more Ty-F.Int) Ty-F.Int) → ((more : ℕ) → OpKind name (several more Ty-F.Real) Ty-F.Real) → ((Ts : List Kind) → depends_on_run name Ts ≡ false)
      → (a b : Made) (ms : List Made) (m : Made) (t : Ty) → (t ≡ ty.Int) ⊎ (t ≡ ty.Real) → Have scope set (map (λ m. converted m t) (a ∷ b ∷ ms)) (map {A = Made} (λ m. kind_of t) (a ∷ b ∷ ms))
      → made (expression.Op name (map (λ m. converted m t) (a ∷ b ∷ ms))) t ≡ m → Sounds scope set m
  extreme_of name ints reals still a b ms m t (inl is) h e =
      let kind : kind_of t ≡ Ty-F.Int = ap kind_of is ∙ kind_int in
      operation_sound scope set name (map (λ m. converted m t) (a ∷ b ∷ ms)) (several (length ms) Ty-F.Int) t Ty-F.Int m (ints (length ms)) (always scope.role name _ (still _)) kind
      (subst (Have scope set (map (λ m. converted m t) (a ∷ b ∷ ms))) (ap (λ (T : Kind). T ∷ T ∷ map {A = Made} (λ m. T) ms) kind ∙ ap (λ (rest : List Kind). Ty-F.Int ∷ Ty-F.Int ∷ rest) (several_kinds Ty-F.Int ms)) h) (subst (SoundIn scope.core) (sym is) (sound_int _)) e
  extreme_of name ints reals still a b ms m t (inr is) h e =
      let kind : kind_of t ≡ Ty-F.Real = ap kind_of is ∙ kind_real in
      operation_sound scope set name (map (λ m. converted m t) (a ∷ b ∷ ms)) (several (length ms) Ty-F.Real) t Ty-F.Real m (reals (length ms)) (always scope.role name _ (still _)) kind
      (subst (Have scope set (map (λ m. converted m t) (a ∷ b ∷ ms))) (ap (λ (T : Kind). T ∷ T ∷ map {A = Made} (λ m. T) ms) kind ∙ ap (λ (rest : List Kind). Ty-F.Real ∷ Ty-F.Real ∷ rest) (several_kinds Ty-F.Real ms)) h) (subst (SoundIn scope.core) (sym is) (sound_real _)) e

  one_kind : (T : Kind) (t : Ty) (ms : List Made) → map {A = CExpr} (λ e. T) (map (λ m. converted m t) ms) ≡ map {A = Made} (λ m. T) ms
  one_kind T t [] = refl
  one_kind T t (m ∷ ms) = ap (λ rest. T ∷ rest) (one_kind T t ms)

  extreme_sound : (name : OpName) → ((more : ℕ) → OpKind name (several more Ty-F.Int) Ty-F.Int) → ((more : ℕ) → OpKind name (several more Ty-F.Real) Ty-F.Real) → ((Ts : List Kind) → depends_on_run name Ts ≡ false)
      → (ms : List Made) (m : Made) → nat_lt 1 (length ms) ≡ true → Each (Sounds scope set) ms → extreme name ms ≡ Some m → Sounds scope set m
  extreme_sound name ints reals still [] m count h e = absurd (cc)
  extreme_sound name ints reals still (a ∷ []) m count h e = absurd (cc)
  extreme_sound name ints reals still (a ∷ b ∷ ms) m count h e =
      let f = mapped (λ t. made (expression.Op name (map (λ m. converted m t) (a ∷ b ∷ ms))) t) (common_number a.ty (b ∷ ms)) m e in
      let g = chained (λ u. common_number u ms) (number_of (out-Ty a.ty) (out-Ty b.ty)) f.0 f.1 in
      let serve = common_serve a.ty (b ∷ ms) f.0 f.1 in
      extreme_of name ints reals still a b ms m f.0 (common_is g.0 ms f.0 (numbers_are a.ty b.ty g.0 g.1).number g.2)
      (subst (Have scope set (map (λ m. converted m f.0) (a ∷ b ∷ ms))) (one_kind (kind_of f.0) f.0 (a ∷ b ∷ ms)) (all_have scope set f.0 (a ∷ b ∷ ms) serve h)) f.2

  -- ---- ranges

  range_row : (ms : List Made) → (nat_lt 0 (length ms) && nat_lt (length ms) 4) ≡ true → OpKind op.Range (map {A = Made} {B = Kind} (λ m. Ty-F.Int) ms) (Ty-F.ListOf ty.Int)
  range_row [] h = absurd (cc)
  range_row (a ∷ []) h = row.range_to
  range_row (a ∷ b ∷ []) h = row.range_from
  range_row (a ∷ b ∷ c ∷ []) h = row.range_by
  range_row (a ∷ b ∷ c ∷ d ∷ ms) h = absurd (no_more (length ms) (and_parts _ _ h).1)
    where
      no_more : (n : ℕ) → nat_lt (suc (suc (suc (suc n)))) 4 ≡ true → ⊥
      no_more n h = let few : suc (suc (suc (suc n))) < 4 = ltb-true _ _ h in omega arith

  range_sound : (ms : List Made) (m : Made) → (nat_lt 0 (length ms) && nat_lt (length ms) 4) ≡ true → Each (Sounds scope set) ms → range ms ≡ Some m → Sounds scope set m
  range_sound ms m count h e =
      let c = chosen (list_all (λ m. is_int (out-Ty m.ty)) ms) (as_they_are op.Range ms (ty.ListOf ty.Int)) m e in
      as_they_are_sound scope set op.Range ms (ty.ListOf ty.Int) _ (Ty-F.ListOf ty.Int) m (range_row ms count) (always scope.role op.Range _ refl) (ints_kinds ms c.0) (kind_list ty.Int ∙ ap Ty-F.ListOf erased_int) (sound_list _ ty.Int (sound_int _)) h c.1

  -- ---- the table

  one_sound : (f : Made → Option Made) → ((a m : Made) → Sounds scope set a → f a ≡ Some m → Sounds scope set m) → (ms : List Made) (m : Made) → Each (Sounds scope set) ms → one f ms ≡ Some m → Sounds scope set m
  one_sound f g ms m h e =
      let at = the_one f ms m e in
      g at.0 m (subst (Each (Sounds scope set)) at.1 h).0 at.2

  two_sound : (f : Made → Made → Option Made) → ((a b m : Made) → Sounds scope set a → Sounds scope set b → f a b ≡ Some m → Sounds scope set m) → (ms : List Made) (m : Made) → Each (Sounds scope set) ms → two f ms ≡ Some m → Sounds scope set m
  two_sound f g ms m h e =
      let at = the_two f ms m e in
      let both = subst (Each (Sounds scope set)) at.2 h in
      g at.0 at.1 m both.0 both.1.0 at.3

  -- a real that is made an int
  rounded_sound : (name : OpName) → OpKind name (Ty-F.Real ∷ []) Ty-F.Int → depends_on_run name (Ty-F.Real ∷ []) ≡ false → (ms : List Made) (m : Made) → Each (Sounds scope set) ms → wanting name (ty.Real ∷ []) ty.Int ms ≡ Some m → Sounds scope set m
  rounded_sound name r still ms m h e = wanting_sound scope set name (ty.Real ∷ []) ty.Int _ Ty-F.Int ms m r (always scope.role name _ still) (λ i. kind_real i ∷ []) kind_int (sound_int _) h e

  pub predefined_sound : (p : Predefined) (s : Site) (place : Place) (ms : List Made) (m : Made) → IsSite s scope.role → predefined_rule s p place ≡ [] → is_count p (length ms) ≡ true → Each (Sounds scope set) ms
      → predefined p ms ≡ Some m → Sounds scope set m
  predefined_sound name.Abs s place ms m at rule count h e = one_sound absolute (λ a m h. absolute_sound a m h (out-Ty a.ty) refl) ms m h e
  predefined_sound name.Sign s place ms m at rule count h e = one_sound (λ m. sign_by (out-Ty m.ty) m) (λ a m h. sign_sound a m h (out-Ty a.ty) refl) ms m h e
  predefined_sound name.Min s place ms m at rule count h e = extreme_sound op.Min row.least_int row.least_real (λ Ts. refl) ms m count h e
  predefined_sound name.Max s place ms m at rule count h e = extreme_sound op.Max row.greatest_int row.greatest_real (λ Ts. refl) ms m count h e
  predefined_sound name.Floor s place ms m at rule count h e = rounded_sound op.Floor row.floor_of_real refl ms m h e
  predefined_sound name.Ceil s place ms m at rule count h e = rounded_sound op.Ceil row.ceiling_of_real refl ms m h e
  predefined_sound name.Round s place ms m at rule count h e = rounded_sound op.Round row.round_real refl ms m h e
  predefined_sound name.Size s place ms m at rule count h e = one_sound (counted op.Size ty.Int) size_sound ms m h e
  predefined_sound name.Empty s place ms m at rule count h e = one_sound (counted op.Empty ty.Bool) empty_sound ms m h e
  predefined_sound name.Pop s place ms m at rule count h e = one_sound popped popped_sound ms m h e
  predefined_sound name.Del s place ms m at rule count h e = two_sound deleted deleted_sound ms m h e
  predefined_sound name.Insert s place ms m at rule count h e = absurd (cc)
  predefined_sound name.Range s place ms m at rule count h e = range_sound ms m count h e
  predefined_sound name.Enumerate s place ms m at rule count h e = one_sound enumerated enumerated_sound ms m h e
  predefined_sound name.DictKeys s place ms m at rule count h e = one_sound keys keys_sound ms m h e
  predefined_sound name.DictValues s place ms m at rule count h e = one_sound values values_sound ms m h e
  predefined_sound name.Constant s place ms m at rule count h e = one_sound constant constant_sound ms m h e
  predefined_sound name.Uniform s place ms m at rule count h e = two_sound uniform uniform_sound ms m h e
  predefined_sound name.Bernoulli s place ms m at rule count h e =
      wanting_sound scope set op.Bernoulli (ty.Real ∷ []) (ty.Dist ty.Bool) _ (Ty-F.Dist ty.Bool) ms m row.bernoulli_bool (always scope.role op.Bernoulli _ refl) (λ i. kind_real i ∷ [])
      (dist_kind ty.Bool ty.Bool refl (whole_of ty.Bool ty.Bool _ kind_bool ty.rolls-Bool)) (sound_dist _ ty.Bool (sound_bool _)) h e
  predefined_sound name.Binomial s place ms m at rule count h e =
      wanting_sound scope set op.Binomial (ty.Int ∷ ty.Real ∷ []) (ty.Dist ty.Int) _ (Ty-F.Dist ty.Int) ms m row.binomial_int (always scope.role op.Binomial _ refl) (λ i. kind_int i ∷ kind_real i ∷ [])
      (dist_kind ty.Int ty.Int refl erased_int) (sound_dist _ ty.Int (sound_int _)) h e
  predefined_sound name.Exponential s place ms m at rule count h e =
      wanting_sound scope set op.Exponential (ty.Real ∷ []) (ty.Dist ty.Real) _ (Ty-F.Dist ty.Real) ms m row.exponential_real (always scope.role op.Exponential _ refl) (λ i. kind_real i ∷ [])
      (dist_kind ty.Real ty.Real refl erased_real) (sound_dist _ ty.Real (sound_real _)) h e
  predefined_sound name.Ready s place ms m at rule count h e =
      wanting_sound scope set op.Ready (ty.Timer ∷ []) ty.Bool _ Ty-F.Bool ms m row.ready_timer (may_run s scope.role place op.Ready _ at rule) (λ i. kind_timer i ∷ []) kind_bool (sound_bool _) h e
  predefined_sound name.Finished s place ms m at rule count h e =
      wanting_sound scope set op.Finished (ty.Inst ∷ []) ty.Bool _ Ty-F.Bool ms m row.finished_instance (may_run s scope.role place op.Finished _ at rule) (λ i. kind_instance i ∷ []) kind_bool (sound_bool _) h e

  -- ---- insertion by a function

  ordered_kinds : (t : Ty) (params : List Ty) (result : Ty) → tells_order t params result ≡ true → (kinds_of params ≡ kind_of t ∷ kind_of t ∷ []) × (kind_of result ≡ Ty-F.Bool)
  ordered_kinds t [] result h = absurd (cc)
  ordered_kinds t (a ∷ []) result h = absurd (cc)
  ordered_kinds t (a ∷ b ∷ []) result h =
      let first = and_parts _ _ h in
      let second = and_parts _ _ first.0 in
      let p = same_kind a t second.0 in
      let q = same_kind b t second.1 in
      ((λ i. p i ∷ q i ∷ []), same_kind result ty.Bool first.1 ∙ kind_bool)
  ordered_kinds t (a ∷ b ∷ c ∷ params) result h = absurd (cc)

  inserted_by_sound : (t : Ty) (list x : Made) (k : Known) (m : Made) → out-Ty list.ty ≡ Ty-F.ListOf t → may_call scope.role ≡ true → Stands scope set k → Sounds scope set list → Sounds scope set x
      → inserted_by t list x k ≡ Some m → Sounds scope set m
  inserted_by_sound t list x (known.Func number params result) m p may st h j e =
      let c = chosen (fits x.ty t && tells_order t params result) (made (expression.InsertBy list.core (converted x t) number) list.ty) m e in
      let both = and_parts _ _ c.0 in
      let kinds = ordered_kinds t params result both.1 in
      let is : kind_of list.ty ≡ Ty-F.ListOf (erased t) = kind_at list.ty _ p in
      sound_made scope set _ list.ty m c.1
      (subst (Has scope set _) (sym is) (has_insertion scope set list.core (converted x t) number (erased t) st.f st.is may (st.takes ∙ kinds.0) (ap kind_of st.gives ∙ kinds.1) (subst (Has scope set list.core) is h.kind) (fits_has scope set x t both.0 j)))
      h.ty
  inserted_by_sound t list x _ m p may st h j e = absurd (cc)

  inserted_sound : (list x : Made) (k : Known) (m : Made) → may_call scope.role ≡ true → Stands scope set k → Sounds scope set list → Sounds scope set x → (layer : Ty-F Ty) → out-Ty list.ty ≡ layer
      → inserted_in layer list x k ≡ Some m → Sounds scope set m
  inserted_sound list x k m may st h j (Ty-F.ListOf t) p e = inserted_by_sound t list x k m p may st h j e
  inserted_sound list x k m may st h j _ p e = absurd (cc)

  pub insertion_sound : (place : Place) (list x : Made) (k : Known) (m : Made) → may_call scope.role ≡ true → Stands scope set k → Sounds scope set list → Sounds scope set x
      → (insertion place list x (Some k)).made ≡ Some m → Sounds scope set m
  insertion_sound place list x k m may st h j e = by (is_untyped_function k) e
    where
      by : (b : Bool) → (cond b (untyped []) (settled PREDEFINED place (inserted_in (out-Ty list.ty) list x k))).made ≡ Some m → Sounds scope set m
      by true e = absurd (cc)
      by false e = inserted_sound list x k m may st h j (out-Ty list.ty) refl (settled_made _ place (inserted_in (out-Ty list.ty) list x k) m e)
