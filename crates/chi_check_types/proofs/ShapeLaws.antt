-- Private to proofs. The default of a shape is of the kind of its type.
use Rattle.std.proofs.Common.{◌≡◌, ℕ, ◌<◌, Bool, true, false, ◌&&◌, List, [], ◌∷◌, map, Option, Some, None, refl, sym, ap, subst, ◌∙◌}
use Rattle.std.specs.Prelude.{IsTrue, option_map}
use Rattle.std.specs.List.{list_all}
use Rattle.std.specs.Option.{option_and_then}
use Rattle.chi_types.specs.declared.ty.Way.TheVariants as way
use Rattle.chi_types.specs.declared.ty.Ty.{Ty, Ty-F, out-Ty, roll-Ty, map-Ty, fold_out-Ty, ind-Ty, out-roll-Ty, roll-out-Ty}
use Rattle.chi_types.specs.declared.ty.Ty.TheVariants as ty
use Rattle.chi_types.specs.Plain.{is_plain, holds}
use Rattle.chi_types.specs.Same.{beside, nameless}
use Rattle.chi_value.specs.declared.shape.Shape.{Shape, Shape-F, out-Shape}
use Rattle.chi_value.specs.declared.shape.Shape.TheVariants as shape
use Rattle.chi_core.specs.Kinds.{Kind, kind_of, erased, without_ways_and_names, is_plain_kind}
use Rattle.chi_core.specs.SoundTypes.{SoundType, SoundParts, bool, int, real, text, timer, instance, choice, tuple, a_list, a_set, a_dictionary, channel, channel_of_void, distribution, no_part, one_part}
use Rattle.chi_core.specs.OperatorKinds.{ShapeKind, ShapesOf, shape_bool, shape_int, shape_real, shape_text, shape_choice, shape_tuple, shape_list, shape_set, shape_dictionary, shape_channel, shape_dist_bool, shape_dist_int, shape_dist_real, shape_timer, shape_instance, no_shape, one_shape}
use Rattle.chi_core.proofs.Erased.{kind_at, plain_at}
use Rattle.chi_check_types.specs.Defaults.{shape_of, shape_step, part_shapes, tuple_shape, dist_shape, drawn_shape}

-- ---- a type stays plain without ways and names

abbrev StaysPlain : Ty → Type 0
StaysPlain a = is_plain (erased a) ≡ is_plain a

abbrev Held : Type 0
Held = (a : Ty) × StaysPlain a

abbrev type_of : Held → Ty
type_of held = held.0

plain_parts : (gs : List (List ℕ × Held)) → list_all holds (map (beside is_plain) (nameless (map (beside erased) (map (beside type_of) gs)))) ≡ list_all holds (map (beside is_plain) (map (beside type_of) gs))
plain_parts [] = refl
plain_parts (g ∷ gs) = λ i. g.1.1 i && plain_parts gs i

plain_layer : (y : Ty-F Held) → is_plain_kind (without_ways_and_names (map-Ty Ty Ty erased (map-Ty Held Ty type_of y))) ≡ is_plain_kind (map-Ty Held Ty type_of y)
plain_layer (Ty-F.TupleOf gs) = plain_parts gs
plain_layer (Ty-F.ListOf a) = a.1
plain_layer (Ty-F.SetOf a) = a.1
plain_layer (Ty-F.DictOf k v) = λ i. k.1 i && v.1 i
plain_layer Ty-F.Bool = refl
plain_layer Ty-F.Int = refl
plain_layer Ty-F.Real = refl
plain_layer Ty-F.Text = refl
plain_layer Ty-F.Timer = refl
plain_layer Ty-F.Inst = refl
plain_layer Ty-F.Void = refl
plain_layer (Ty-F.Choice k) = refl
plain_layer (Ty-F.Chan w a) = refl
plain_layer (Ty-F.Dist a) = refl

plain_rolled : (z : Ty-F Ty) → is_plain_kind (without_ways_and_names (map-Ty Ty Ty erased z)) ≡ is_plain_kind z → StaysPlain (roll-Ty z)
plain_rolled z e = plain_at (erased (roll-Ty z)) _ (kind_at (roll-Ty z) z (out-roll-Ty z)) ∙ e ∙ sym (plain_at (roll-Ty z) z (out-roll-Ty z))

pub stays_plain : (a : Ty) → is_plain (erased a) ≡ is_plain a
stays_plain = ind-Ty StaysPlain (λ x y e. subst (λ x. StaysPlain (roll-Ty x)) e (plain_rolled (map-Ty Held Ty type_of y) (plain_layer y)))

pub still_plain : (a : Ty) → IsTrue (is_plain a) → IsTrue (is_plain (erased a))
still_plain a h = subst IsTrue (sym (stays_plain a)) h

-- ---- shapes

some_same : (a s : Shape) → Some a ≡ Some s → a ≡ s
some_same a s h = cc

some_parts : (a s : List Shape) → Some a ≡ Some s → a ≡ s
some_parts a s h = cc

never : {A : Type 0} (s : A) → None ≡ Some s → ⊥
never s h = absurd (cc)

shape_at : (t : Ty) → shape_of t ≡ shape_step (map-Ty Ty (Option Shape) shape_of (out-Ty t))
shape_at t = fold_out-Ty (Option Shape) shape_step t

module _ (n : ℕ) where
  given : (a s : Shape) (S : Shape-F Shape) (K : Kind) → out-Shape a ≡ S → Some a ≡ Some s → ShapeKind n S K → ShapeKind n (out-Shape s) K
  given a s S K o e k = subst (λ (x : Shape-F Shape). ShapeKind n x K) (sym o ∙ ap out-Shape (some_same a s e)) k

  -- a distribution has the shape of a bool, an int or a real alone
  drawn_text : (s : Shape) (K : Kind) (a : Shape) (S : Shape-F Shape) → out-Shape a ≡ S → drawn_shape S ≡ None → dist_shape (Some a) ≡ Some s → ShapeKind n (out-Shape s) K
  drawn_text s K a S o e h = absurd (never s (sym (ap drawn_shape o ∙ e) ∙ h))

  drawn_known : (t : Ty) (a b s : Shape) (S : Shape-F Shape) (S' : Shape-F Shape) (T : Ty) → erased t ≡ T → out-Shape a ≡ S → drawn_shape S ≡ Some b → out-Shape b ≡ S' → ShapeKind n S' (Ty-F.Dist T)
      → dist_shape (Some a) ≡ Some s → ShapeKind n (out-Shape s) (Ty-F.Dist (erased t))
  drawn_known t a b s S S' T e o d o' k h = subst (λ T. ShapeKind n (out-Shape s) (Ty-F.Dist T)) (sym e) (given b s S' (Ty-F.Dist T) o' (sym (ap drawn_shape o ∙ d) ∙ h) k)

  of_tuple : (K : Kind) (s : Shape) (x : Option (List Shape)) → dist_shape (tuple_shape x) ≡ Some s → ShapeKind n (out-Shape s) K
  of_tuple K s None h = absurd (never s h)
  of_tuple K s (Some ss) h = drawn_text s K (shape.TupleOf ss) _ (shape.outs-TupleOf ss) refl h

  of_drawn : (K : Kind) (s : Shape) (S : Shape-F Shape) → dist_shape (drawn_shape S) ≡ Some s → ShapeKind n (out-Shape s) K
  of_drawn K s Shape-F.Bool h = drawn_text s K shape.DistBool _ shape.outs-DistBool refl h
  of_drawn K s Shape-F.Int h = drawn_text s K shape.DistInt _ shape.outs-DistInt refl h
  of_drawn K s Shape-F.Real h = drawn_text s K shape.DistReal _ shape.outs-DistReal refl h
  of_drawn K s _ h = absurd (never s h)

  of_dist : (K : Kind) (s : Shape) (x : Option Shape) → dist_shape (dist_shape x) ≡ Some s → ShapeKind n (out-Shape s) K
  of_dist K s None h = absurd (never s h)
  of_dist K s (Some a) h = of_drawn K s (out-Shape a) h

  erased_is : (t : Ty) (layer : Ty-F Ty) → out-Ty t ≡ layer → erased t ≡ roll-Ty (without_ways_and_names (map-Ty Ty Ty erased layer))
  erased_is t layer e = sym (roll-out-Ty (erased t)) ∙ ap roll-Ty (kind_at t layer e)

  drawn : (t : Ty) (layer : Ty-F Ty) → out-Ty t ≡ layer → (s : Shape) → dist_shape (shape_step (map-Ty Ty (Option Shape) shape_of layer)) ≡ Some s → ShapeKind n (out-Shape s) (Ty-F.Dist (erased t))
  drawn t Ty-F.Bool e s h = drawn_known t shape.Bool shape.DistBool s _ _ ty.Bool (erased_is t Ty-F.Bool e ∙ ty.rolls-Bool) shape.outs-Bool refl shape.outs-DistBool shape_dist_bool h
  drawn t Ty-F.Int e s h = drawn_known t shape.Int shape.DistInt s _ _ ty.Int (erased_is t Ty-F.Int e ∙ ty.rolls-Int) shape.outs-Int refl shape.outs-DistInt shape_dist_int h
  drawn t Ty-F.Real e s h = drawn_known t shape.Real shape.DistReal s _ _ ty.Real (erased_is t Ty-F.Real e ∙ ty.rolls-Real) shape.outs-Real refl shape.outs-DistReal shape_dist_real h
  drawn t Ty-F.Text e s h = drawn_text s _ shape.Text _ shape.outs-Text refl h
  drawn t Ty-F.Timer e s h = drawn_text s _ shape.Timer _ shape.outs-Timer refl h
  drawn t Ty-F.Inst e s h = drawn_text s _ shape.Inst _ shape.outs-Inst refl h
  drawn t Ty-F.Void e s h = absurd (never s h)
  drawn t (Ty-F.Choice k) e s h = drawn_text s _ (shape.Choice k) _ (shape.outs-Choice k) refl h
  drawn t (Ty-F.TupleOf parts) e s h = of_tuple _ s _ h
  drawn t (Ty-F.ListOf a) e s h = drawn_text s _ shape.ListOf _ shape.outs-ListOf refl h
  drawn t (Ty-F.SetOf a) e s h = drawn_text s _ shape.SetOf _ shape.outs-SetOf refl h
  drawn t (Ty-F.DictOf k v) e s h = drawn_text s _ shape.DictOf _ shape.outs-DictOf refl h
  drawn t (Ty-F.Chan w a) e s h = drawn_text s _ shape.Chan _ shape.outs-Chan refl h
  drawn t (Ty-F.Dist a) e s h = of_dist _ s (shape_of a) h

  abbrev Shaped : Ty-F Ty → Type 0
  Shaped layer = (s : Shape) → shape_step (map-Ty Ty (Option Shape) shape_of layer) ≡ Some s → ShapeKind n (out-Shape s) (without_ways_and_names (map-Ty Ty Ty erased layer))

  abbrev PartsShaped : List (List ℕ × Ty) → Type 0
  PartsShaped parts = (ss : List Shape) → part_shapes (map (beside shape_of) parts) ≡ Some ss → ShapesOf n ss (nameless (map (beside erased) parts))

  kind_shaped : (t : Ty) → Shaped (out-Ty t) → (s : Shape) → shape_of t ≡ Some s → ShapeKind n (out-Shape s) (kind_of t)
  kind_shaped t p s h = subst (ShapeKind n (out-Shape s)) (sym (kind_at t (out-Ty t) refl)) (p s (sym (shape_at t) ∙ h))

  tuple_shaped : (parts : List (List ℕ × Ty)) → PartsShaped parts → (x : Option (List Shape)) → part_shapes (map (beside shape_of) parts) ≡ x → (s : Shape) → tuple_shape x ≡ Some s
      → ShapeKind n (out-Shape s) (Ty-F.TupleOf (nameless (map (beside erased) parts)))
  tuple_shaped parts p None e s h = absurd (never s h)
  tuple_shaped parts p (Some ss) e s h = given (shape.TupleOf ss) s _ _ (shape.outs-TupleOf ss) h (shape_tuple ss _ (p ss e))

  one_more : (part : List ℕ × Ty) (parts : List (List ℕ × Ty)) → Shaped (out-Ty part.1) → PartsShaped parts
      → (a : Option Shape) → shape_of part.1 ≡ a → (b : Option (List Shape)) → part_shapes (map (beside shape_of) parts) ≡ b
      → (ss : List Shape) → option_and_then (λ s. option_map (λ ss. s ∷ ss) b) a ≡ Some ss → ShapesOf n ss (nameless (map (beside erased) (part ∷ parts)))
  one_more part parts p q None e b f ss h = absurd (never ss h)
  one_more part parts p q (Some s) e None f ss h = absurd (never ss h)
  one_more part parts p q (Some s) e (Some rest) f ss h = subst (λ ss. ShapesOf n ss (nameless (map (beside erased) (part ∷ parts)))) (some_parts (s ∷ rest) ss h)
      (one_shape s rest ([], erased part.1) _ (kind_shaped part.1 p s e) (q rest f))

  mutual
    shaped : (layer : Ty-F Ty) → SoundType n layer → Shaped layer
    shaped _ bool s h = given shape.Bool s _ _ shape.outs-Bool h shape_bool
    shaped _ int s h = given shape.Int s _ _ shape.outs-Int h shape_int
    shaped _ real s h = given shape.Real s _ _ shape.outs-Real h shape_real
    shaped _ text s h = given shape.Text s _ _ shape.outs-Text h shape_text
    shaped _ timer s h = given shape.Timer s _ _ shape.outs-Timer h shape_timer
    shaped _ instance s h = given shape.Inst s _ _ shape.outs-Inst h shape_instance
    shaped _ (choice k below) s h = given (shape.Choice k) s _ _ (shape.outs-Choice k) h (shape_choice k below)
    shaped _ (tuple parts ps) s h = tuple_shaped parts (parts_shaped parts ps) _ refl s h
    shaped _ (a_list t p) s h = given shape.ListOf s _ _ shape.outs-ListOf h (shape_list (erased t))
    shaped _ (a_set t plain p) s h = given shape.SetOf s _ _ shape.outs-SetOf h (shape_set (erased t) (still_plain t plain))
    shaped _ (a_dictionary key has plain p q) s h = given shape.DictOf s _ _ shape.outs-DictOf h (shape_dictionary (erased key) (erased has) (still_plain key plain))
    shaped _ (channel w t p) s h = given shape.Chan s _ _ shape.outs-Chan h (shape_channel (erased t))
    shaped _ (channel_of_void w t p) s h = given shape.Chan s _ _ shape.outs-Chan h (shape_channel (erased t))
    shaped _ (distribution t p) s h = drawn t (out-Ty t) refl s (ap dist_shape (sym (shape_at t)) ∙ h)

    parts_shaped : (parts : List (List ℕ × Ty)) → SoundParts n parts → PartsShaped parts
    parts_shaped _ no_part ss h = subst (λ ss. ShapesOf n ss []) (some_parts [] ss h) no_shape
    parts_shaped _ (one_part part parts p ps) ss h = one_more part parts (shaped (out-Ty part.1) p) (parts_shaped parts ps) (shape_of part.1) refl (part_shapes (map (beside shape_of) parts)) refl ss h

  pub shapes_have_kinds : (t : Ty) (s : Shape) → SoundType n (out-Ty t) → shape_of t ≡ Some s → ShapeKind n (out-Shape s) (kind_of t)
  shapes_have_kinds t s p h = kind_shaped t (shaped (out-Ty t) p) s h
