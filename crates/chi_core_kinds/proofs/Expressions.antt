-- Expressions of a kind have values of that kind.
use Rattle.std.proofs.Common.{◌≡◌, ◌++◌, ℕ, zero, suc, pos, negsuc, ◌<◌, ◌≤◌, true, false, nat_le, List, [], ◌∷◌, map, length, Option, Some, None, refl, sym, ap, subst, ◌∙◌, arith}
use Rattle.std.proofs.lemmas.Bool.{leb-true}
use Rattle.std.specs.Prelude.{slice_get, IsTrue}
use Rattle.std.specs.Option.{IsSomeAnd}
use Rattle.chi_types.specs.declared.ty.Ty.{Ty, Ty-F, out-Ty}
use Rattle.chi_value.specs.declared.value.TheConstants.{MOST_ELEMENTS}
use Rattle.chi_value.specs.declared.value.Value.{Value, Value-F, out-Value}
use Rattle.chi_value.specs.declared.value.Value.TheVariants as value
use Rattle.chi_value.specs.declared.shape.Shape.{out-Shape}
use Rattle.chi_core.specs.declared.expression.CExpr.{CExpr, CExpr-F, out-CExpr, map-CExpr}
use Rattle.chi_core.specs.declared.program.ConstDef.{ConstDef}
use Rattle.chi_core.specs.declared.program.FuncDef.{FuncDef}
use Rattle.chi_core.specs.Answer.{Does, gives, wanted, giving, in_turn, times}
use Rattle.chi_core.specs.Evaluation.{Run, Evaluates, eval, eval_step, on_truth, repeated, place_before, inserted}
use Rattle.chi_core.specs.Kinded.{Held}
use Rattle.chi_core.specs.Kinds.{Kind, kind_of, Every, tuple_of}
use Rattle.chi_core.specs.Of.{World, Wider, nowhere, IsOf, IsShort, Of, of_bool, of_int, of_list, AreOf, none_of, one_of}
use Rattle.chi_core.specs.OperatorKinds.{ShapeKind}
use Rattle.chi_core.specs.Operators.{applied}
use Rattle.chi_core.specs.Reading.{truth_in, part_of}
use Rattle.chi_core.specs.declared.scene.Scene.{Scene}
use Rattle.chi_core.specs.Scopes.{Scope, params_of, may_read, may_call}
use Rattle.chi_core.specs.SetSlots.{Known}
use Rattle.chi_core.specs.SoundExpressions as sound
use Rattle.chi_core.specs.SoundExpressions.{HasKind, HaveKinds, stream_operand, entry_kinds, no_expression, one_expression}
use Rattle.chi_core.specs.Variables.{Variables, value_at}
use Rattle.chi_core.proofs.Equations.{eval_out, eval_lit}
use Rattle.chi_core.proofs.Lists.{every_nil, every_cons}
use Rattle.chi_core.proofs.Worlds.{same_world, wider_still, from_nowhere, value_grows}
use Rattle.chi_core_kinds.specs.Laws.{WellOf}
use Rattle.chi_core_kinds.specs.Well.{Kept, Grows, Same, Well}
use Rattle.chi_core_kinds.proofs.Composing.{well_gives, well_if, well_then, well_giving, well_weaker, kept_wider, well_in_turn, values_in_turn, well_times}
use Rattle.chi_core_kinds.proofs.Held.{held_grows, held_value}
use Rattle.chi_core_kinds.proofs.Operations.{Laws}

-- What evaluations within a scope rest on: each enumeration has a value, each constant that may be read has a value of its
-- kind, and each call of a function does well.
pub record Provides (scope : Scope) (run : Run) (scene : Scene) : Type 0 where
  pub enumerations : Every (λ names. 0 < length names) scope.core.names.kinds
  pub names : scene.names.kinds ≡ scope.core.names.kinds
  pub constants : (number : ℕ) (c : ConstDef) → slice_get scope.core.consts number ≡ Some c → IsTrue (may_read scope.role number)
      → IsSomeAnd (slice_get scene.constants number) (IsOf (nowhere scope.core.names.kinds) (kind_of c.ty))
  pub called : IsTrue (may_call scope.role) → (w : World) → w.names ≡ scope.core.names.kinds → (number : ℕ) (f : FuncDef) → slice_get scope.core.funcs number ≡ Some f
      → (xs : List Value) → AreOf w xs (params_of f) → WellOf w (kind_of f.result) (run number xs)

-- the variables hold what counts as set, in a world of the program
pub record Reads (w : World) (scope : Scope) (known : Known) (variables : Variables) : Type 0 where
  pub names : w.names ≡ scope.core.names.kinds
  pub held : Held w scope known variables

pub reads_grow : (w v : World) → Wider w v → (scope : Scope) (known : Known) (variables : Variables) → Reads w scope known variables → Reads v scope known variables
reads_grow w v wider scope known variables r = record { names = wider.names ∙ r.names; held = held_grows w v wider scope known variables r.held }

pub well_some : {A : Type 0} (w : World) (P : World → A → Type 0) (o : Option A) → IsSomeAnd o (P w) → Well w P (wanted o)
well_some w P None h = absurd h
well_some w P (Some x) h = well_gives w P x h

some_weaker : {A : Type 0} (P Q : A → Type 0) (o : Option A) → ((x : A) → P x → Q x) → IsSomeAnd o P → IsSomeAnd o Q
some_weaker P Q None f h = h
some_weaker P Q (Some x) f h = f x h

-- of two things the one that a bool picks
pub grows_truth : {A : Type 0} (w : World) (P : World → A → Type 0) (x : Value-F Value) (f g : Does A) → Of w x Ty-F.Bool → Grows w P f → Grows w P g → Grows w P (on_truth (truth_in x) f g)
grows_truth w P _ f g (of_bool true) h l = h
grows_truth w P _ f g (of_bool false) h l = l

pub every_of : (w : World) (es : List CExpr) (T : Kind) (xs : List Value) → AreOf w xs (map (λ e. T) es) → Every (IsOf w T) xs
every_of w [] T _ none_of = every_nil (IsOf w T)
every_of w (e ∷ es) T _ (one_of x xs _ _ is are) = every_cons (IsOf w T) x xs is (every_of w es T xs are)

is_list : (w : World) (xs : List Value) (t : Ty) → IsShort xs → Every (IsOf w (out-Ty t)) xs → IsOf w (Ty-F.ListOf t) (value.ListOf xs)
is_list w xs t short each = subst (λ x. Of w x (Ty-F.ListOf t)) (sym (value.outs-ListOf xs)) (of_list xs t short each)

-- a list of values that are evaluated anew
well_repeated : (w : World) (t : Ty) (each : Does Value) (n : Value-F Value) → Of w n Ty-F.Int → ((v : World) → Wider w v → WellOf v (out-Ty t) each) → WellOf w (Ty-F.ListOf t) (repeated each n)
well_repeated w t each _ (of_int (negsuc n)) h = λ view fits. tt
well_repeated w t each _ (of_int (pos count)) h =
    well_if w (λ v. IsOf v (Ty-F.ListOf t)) (nat_le count MOST_ELEMENTS) (λ view. giving value.ListOf (times count each view)) _
    (λ few. well_giving w (λ v xs. (length xs ≡ count) × Every (IsOf v (out-Ty t)) xs) (λ v. IsOf v (Ty-F.ListOf t)) value.ListOf
    (λ v wider xs both. let l : count ≤ MOST_ELEMENTS = leb-true count MOST_ELEMENTS few in is_list v xs t (omega (arith, l, both.0)) both.1)
    (times count each) (well_times (λ v. IsOf v (out-Ty t)) (λ v u wider x is. value_grows v u wider x (out-Ty t) is) each w count (λ v wider s. h v wider)))
    (λ many view fits. tt)

-- how many elements come before the first that passes a test: at most all
well_place : (w : World) (T : Kind) (test : Value → Does Value) (ys : List Value) → Every (IsOf w T) ys → ((v : World) → Wider w v → (y : Value) → IsOf v T y → WellOf v Ty-F.Bool (test y))
    → Well w (λ v place. place ≤ length ys) (place_before test ys)
well_place w T test [] each h = well_gives w (λ v place. place ≤ 0) 0 (omega arith)
well_place w T test (y ∷ ys) each h =
    well_then w (λ v x. IsOf v Ty-F.Bool x) (λ v place. place ≤ suc (length ys)) _
    (λ v wider s x is. grows_truth v (Same v (λ u place. place ≤ suc (length ys))) (out-Value x) (gives 0) (λ view. giving suc (place_before test ys view)) is
    (well_gives v (λ u place. place ≤ suc (length ys)) 0 (omega arith))
    (well_giving v (λ u place. place ≤ length ys) (λ u place. place ≤ suc (length ys)) suc (λ u wider' place l. omega (arith, l)) (place_before test ys)
    (well_place v T test ys (λ k z e. value_grows w v wider z T (each (suc k) z e)) (λ u wider'. h u (wider_still w v u wider wider')))))
    (test y) (h w (same_world w) y (each zero y refl))

module _ (laws : Laws) (scope : Scope) (run : Run) (scene : Scene) (provides : Provides scope run scene) where
  -- a list with one more element, where a function says before which others it stands
  well_inserted : (w : World) → w.names ≡ scope.core.names.kinds → IsTrue (may_call scope.role) → (number : ℕ) (f : FuncDef) → slice_get scope.core.funcs number ≡ Some f
      → (t : Ty) → params_of f ≡ out-Ty t ∷ out-Ty t ∷ [] → kind_of f.result ≡ Ty-F.Bool → (xs x : Value) (layer : Value-F Value) → out-Value xs ≡ layer → Of w layer (Ty-F.ListOf t)
      → IsOf w (out-Ty t) x → WellOf w (Ty-F.ListOf t) (inserted run number xs x layer)
  well_inserted w names may number f there t params result xs x _ e (of_list items _ short each) is =
      well_then w (λ v place. place ≤ length items) (λ v. IsOf v (Ty-F.ListOf t)) _
      (λ v wider s place l. laws.insertions v xs x items t place e l
      (value_grows w v wider xs (Ty-F.ListOf t) (subst (λ o. Of w o (Ty-F.ListOf t)) (sym e) (of_list items t short each))) (value_grows w v wider x (out-Ty t) is))
      (place_before (λ y. run number (x ∷ y ∷ [])) items)
      (well_place w (out-Ty t) (λ y. run number (x ∷ y ∷ [])) items each
      (λ v wider y is_y. subst (λ T. WellOf v T (run number (x ∷ y ∷ []))) result
      (provides.called may v (wider.names ∙ names) number f there (x ∷ y ∷ [])
      (subst (AreOf v (x ∷ y ∷ [])) (sym params)
      (one_of x (y ∷ []) (out-Ty t) (out-Ty t ∷ []) (value_grows w v wider x (out-Ty t) is) (one_of y [] (out-Ty t) [] is_y none_of))))))

  module _ (known : Known) (variables : Variables) where
    abbrev value_of : Evaluates
    value_of = eval run scene variables

    -- an expression by its outermost layer
    abbrev by_layer : CExpr-F CExpr → Does Value
    by_layer layer = eval_step run scene variables (map-CExpr _ _ value_of layer)

    whole : (w : World) (T : Kind) (e : CExpr) → WellOf w T (by_layer (out-CExpr e)) → WellOf w T (value_of e)
    whole w T e h view fits = subst (Kept w (Same w (λ v x. IsOf v T x))) (sym (eval_out run scene variables e (out-CExpr e) refl view)) (h view fits)

    well_stream : (w : World) (stream : ℕ) → Well w (λ v xs. xs ≡ value.Int (pos stream) ∷ []) (in_turn (map value_of (stream_operand stream ∷ [])))
    well_stream w stream =
        well_in_turn w (λ v x. x ≡ value.Int (pos stream)) (λ v xs. xs ≡ value.Int (pos stream) ∷ []) (value_of (stream_operand stream)) []
        (λ view fits. subst (Kept w (Same w (λ v x. x ≡ value.Int (pos stream)))) (sym (eval_lit run scene variables view (value.Int (pos stream))))
        (well_gives w (λ v x. x ≡ value.Int (pos stream)) (value.Int (pos stream)) refl view fits))
        (λ v wider s x e. well_gives v (λ u xs. x ∷ xs ≡ value.Int (pos stream) ∷ []) [] (ap (λ y. y ∷ []) e))

    abbrev Sees : World → Type 0
    Sees w = Reads w scope known variables

    sees : (w v : World) → Wider w v → Sees w → Sees v
    sees w v wider = reads_grow w v wider scope known variables

    -- values of operands, with a stream for the last
    abbrev WithStream : List Kind → ℕ → World → List Value → Type 0
    WithStream Ts stream v xs = (ys : List Value) × (xs ≡ ys ++ value.Int (pos stream) ∷ []) × AreOf v ys Ts

    mutual
      well_layer : (e : CExpr-F CExpr) (T : Kind) → HasKind scope known e T → (w : World) → Sees w → WellOf w T (by_layer e)
      well_layer _ _ (sound.literal v T is) w r =
          well_gives w (λ v x. IsOf v T x) v
          (value_grows (nowhere w.names) w (from_nowhere w) v T (subst (λ names. IsOf (nowhere names) T v) (sym r.names) (laws.literals scope.core.names.kinds v T is)))
      well_layer _ _ (sound.variable slot T k e) w r = well_some w (λ v. IsOf v T) (value_at variables slot) (held_value w scope known variables slot T r.held k e)
      well_layer _ _ (sound.constant number c e before) w r =
          well_some w (λ v. IsOf v (kind_of c.ty)) (slice_get scene.constants number)
          (some_weaker (IsOf (nowhere scope.core.names.kinds) (kind_of c.ty)) (IsOf w (kind_of c.ty)) (slice_get scene.constants number)
          (λ x is. value_grows (nowhere w.names) w (from_nowhere w) x (kind_of c.ty) (subst (λ names. IsOf (nowhere names) (kind_of c.ty) x) (sym r.names) is))
          (provides.constants number c e before))
      well_layer _ _ (sound.operation name es Ts T row streamless may are) w r =
          well_then w (λ v xs. AreOf v xs Ts) (λ v. IsOf v T) (applied scene name)
          (λ v wider s xs is. laws.operators v scene (provides.names ∙ sym (sees w v wider r).names) name Ts T row streamless xs is)
          (in_turn (map value_of es)) (well_values es Ts are w r)
      well_layer _ _ (sound.distribution name es operands Ts T stream e row draws are l) w r =
          well_then w (WithStream Ts stream) (λ v. IsOf v T) (applied scene name)
          (λ v wider s xs is. subst (λ xs. WellOf v T (applied scene name xs)) (sym is.1) (laws.distributions v scene name Ts T row draws is.0 is.2 stream l))
          (in_turn (map value_of es))
          (subst (λ es. Well w (WithStream Ts stream) (in_turn (map value_of es))) (sym e) (well_operands operands Ts are stream w r))
      well_layer _ _ (sound.both a b h l) w r =
          well_then w (λ v. IsOf v Ty-F.Bool) (λ v. IsOf v Ty-F.Bool) _
          (λ v wider s x is. grows_truth v (Same v (λ u. IsOf u Ty-F.Bool)) (out-Value x) (value_of b) (gives x) is
          (whole v Ty-F.Bool b (well_layer (out-CExpr b) Ty-F.Bool l v (sees w v wider r))) (well_gives v (λ u. IsOf u Ty-F.Bool) x is))
          (value_of a) (whole w Ty-F.Bool a (well_layer (out-CExpr a) Ty-F.Bool h w r))
      well_layer _ _ (sound.either a b h l) w r =
          well_then w (λ v. IsOf v Ty-F.Bool) (λ v. IsOf v Ty-F.Bool) _
          (λ v wider s x is. grows_truth v (Same v (λ u. IsOf u Ty-F.Bool)) (out-Value x) (gives x) (value_of b) is
          (well_gives v (λ u. IsOf u Ty-F.Bool) x is) (whole v Ty-F.Bool b (well_layer (out-CExpr b) Ty-F.Bool l v (sees w v wider r))))
          (value_of a) (whole w Ty-F.Bool a (well_layer (out-CExpr a) Ty-F.Bool h w r))
      well_layer _ _ (sound.tuple_literal es ts are) w r =
          well_then w (λ v xs. AreOf v xs (map out-Ty ts)) (λ v. IsOf v (tuple_of ts)) _ (λ v wider s xs is. laws.tuples v xs ts is)
          (in_turn (map value_of es)) (well_values es (map out-Ty ts) are w r)
      well_layer _ _ (sound.list_literal es t are) w r =
          well_then w (λ v xs. AreOf v xs (map (λ e. out-Ty t) es)) (λ v. IsOf v (Ty-F.ListOf t)) _ (λ v wider s xs is. laws.lists v xs t (every_of v es (out-Ty t) xs is))
          (in_turn (map value_of es)) (well_values es (map (λ e. out-Ty t) es) are w r)
      well_layer _ _ (sound.set_literal es t plain are) w r =
          well_then w (λ v xs. AreOf v xs (map (λ e. out-Ty t) es)) (λ v. IsOf v (Ty-F.SetOf t)) _ (λ v wider s xs is. laws.sets v xs t plain (every_of v es (out-Ty t) xs is))
          (in_turn (map value_of es)) (well_values es (map (λ e. out-Ty t) es) are w r)
      well_layer _ _ (sound.dictionary_literal es key has entries plain are) w r =
          well_then w (λ v xs. AreOf v xs (entry_kinds entries (out-Ty key) (out-Ty has))) (λ v. IsOf v (Ty-F.DictOf key has)) _
          (λ v wider s xs is. laws.dictionaries v xs key has entries plain is) (in_turn (map value_of es)) (well_values es (entry_kinds entries (out-Ty key) (out-Ty has)) are w r)
      well_layer _ _ (sound.part e number parts p h there) w r =
          well_then w (λ v. IsOf v (Ty-F.TupleOf parts)) (λ v. IsOf v (out-Ty p.1)) (λ x. wanted (part_of x number)) (λ v wider s x is. laws.parts v x parts number p is there)
          (value_of e) (whole w (Ty-F.TupleOf parts) e (well_layer (out-CExpr e) (Ty-F.TupleOf parts) h w r))
      well_layer _ _ (sound.call number es f e may are) w r =
          well_then w (λ v xs. AreOf v xs (params_of f)) (λ v. IsOf v (kind_of f.result)) (run number)
          (λ v wider s xs is. provides.called may v (sees w v wider r).names number f e xs is) (in_turn (map value_of es)) (well_values es (params_of f) are w r)
      well_layer _ _ (sound.insertion a b number t f e may params result h l) w r =
          well_then w (λ v. IsOf v (Ty-F.ListOf t)) (λ v. IsOf v (Ty-F.ListOf t)) _
          (λ v wider s xs is_list. well_then v (λ u. IsOf u (out-Ty t)) (λ u. IsOf u (Ty-F.ListOf t)) _
          (λ u wider' s' x is. well_inserted u (sees w u (wider_still w v u wider wider') r).names may number f e t params result xs x (out-Value xs) refl
          (value_grows v u wider' xs (Ty-F.ListOf t) is_list) is)
          (value_of b) (whole v (out-Ty t) b (well_layer (out-CExpr b) (out-Ty t) l v (sees w v wider r))))
          (value_of a) (whole w (Ty-F.ListOf t) a (well_layer (out-CExpr a) (Ty-F.ListOf t) h w r))
      well_layer _ _ (sound.fresh_default shape T is may) w r =
          laws.defaults w (subst (Every (λ names. 0 < length names)) (sym r.names) provides.enumerations) shape T (subst (λ names. ShapeKind (length names) (out-Shape shape) T) (sym r.names) is)
      well_layer _ _ (sound.repetition count each t h l) w r =
          well_then w (λ v. IsOf v Ty-F.Int) (λ v. IsOf v (Ty-F.ListOf t)) _
          (λ v wider s n is. well_repeated v t (value_of each) (out-Value n) is
          (λ u wider'. whole u (out-Ty t) each (well_layer (out-CExpr each) (out-Ty t) l u (sees w u (wider_still w v u wider wider') r))))
          (value_of count) (whole w Ty-F.Int count (well_layer (out-CExpr count) Ty-F.Int h w r))

      pub well_values : (es : List CExpr) (Ts : List Kind) → HaveKinds scope known es Ts → (w : World) → Sees w → Well w (λ v xs. AreOf v xs Ts) (in_turn (map value_of es))
      well_values _ _ no_expression w r = well_gives w (λ v xs. AreOf v xs []) [] none_of
      well_values _ _ (one_expression e es T Ts h more) w r =
          values_in_turn w T Ts (value_of e) (map value_of es) (whole w T e (well_layer (out-CExpr e) T h w r)) (λ v wider s. well_values es Ts more v (sees w v wider r))

      well_operands : (es : List CExpr) (Ts : List Kind) → HaveKinds scope known es Ts → (stream : ℕ) (w : World) → Sees w
          → Well w (WithStream Ts stream) (in_turn (map value_of (es ++ stream_operand stream ∷ [])))
      well_operands _ _ no_expression stream w r =
          well_weaker w (λ v xs. xs ≡ value.Int (pos stream) ∷ []) (WithStream [] stream) (λ v xs e. ([], e, none_of)) (in_turn (map value_of (stream_operand stream ∷ []))) (well_stream w stream)
      well_operands _ _ (one_expression e es T Ts h more) stream w r =
          well_in_turn w (λ v. IsOf v T) (WithStream (T ∷ Ts) stream) (value_of e) (map value_of (es ++ stream_operand stream ∷ []))
          (whole w T e (well_layer (out-CExpr e) T h w r))
          (λ v wider s x is view fits. kept_wider v (Same v (WithStream Ts stream)) (Same v (λ u xs. WithStream (T ∷ Ts) stream u (x ∷ xs)))
          (λ u wider' xs both. (both.0, (x ∷ both.1.0, ap (λ ys. x ∷ ys) both.1.1, one_of x both.1.0 T Ts (value_grows v u wider' x T is) both.1.2)))
          (in_turn (map value_of (es ++ stream_operand stream ∷ [])) view) (well_operands es Ts more stream v (sees w v wider r) view fits))

    pub well_value : (e : CExpr) (T : Kind) → HasKind scope known (out-CExpr e) T → (w : World) → Sees w → WellOf w T (value_of e)
    well_value e T h w r = whole w T e (well_layer (out-CExpr e) T h w r)
