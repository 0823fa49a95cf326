-- Programs in which one expression breaks one condition of soundness, and which so aren't sound.
use Rattle.std.proofs.Common.{◌≡◌, ℕ, pos, Bool, true, false, Some, None, List, [], ◌∷◌, ◌++◌, map, refl, sym, subst, ap, ◌∙◌, arith}
use Rattle.std.proofs.lemmas.Bool.{false≢true}
use Rattle.std.specs.Prelude.{slice_get, codes, not}
use Rattle.chi_types.specs.declared.ty.Ty.{Ty, Ty-F, out-Ty}
use Rattle.chi_types.specs.declared.ty.Ty.TheVariants as ty
use Rattle.chi_value.specs.declared.format.Kind.TheVariants as build
use Rattle.chi_value.specs.declared.shape.Shape.{Shape, Shape-F, fold_out-Shape, map-Shape}
use Rattle.chi_value.specs.declared.shape.Shape.TheVariants as shape
use Rattle.chi_value.specs.declared.value.Value.{Value, Value-F, out-Value}
use Rattle.chi_value.specs.declared.value.Value.TheVariants as value
use Rattle.chi_core.specs.declared.expression.CExpr.{CExpr, CExpr-F, out-CExpr}
use Rattle.chi_core.specs.declared.expression.CExpr.TheVariants as e
use Rattle.chi_core.specs.declared.op_name.OpName.TheVariants as op
use Rattle.chi_core.specs.declared.program.ConstDef.{ConstDef}
use Rattle.chi_core.specs.declared.program.Core.{Core}
use Rattle.chi_core.specs.declared.program.FuncDef.{FuncDef}
use Rattle.chi_core.specs.declared.program.ProcDef.{ProcDef}
use Rattle.chi_core.specs.declared.statement.CStat.{CStat-F}
use Rattle.chi_core.specs.declared.statement.CStat.TheVariants as s
use Rattle.chi_core.specs.Kinds.{Kind, kind_of, nameless_parts}
use Rattle.chi_core.specs.OperatorKinds.{OpKind, ShapeKind, shape_instance}
use Rattle.chi_core.specs.Scopes.{Scope, makes_channel, makes_channel_step, process_home, function_home, constant_scope}
use Rattle.chi_core.specs.SetSlots.{Known, params_known}
use Rattle.chi_core.specs.Sound.{Sound, nothing_known}
use Rattle.chi_core.specs.SoundExpressions.{HasKind, LiteralKind, stream_operand}
use Rattle.chi_core.proofs.Erased.{plain_at}
use Rattle.chi_core_rows.proofs.Forms.{int, model_with, alone, scope_in, first_statement, declared, literal_kind, int_is, bool_is, row_of, two_of, one_of, default_of, tuple_of_parts, list_of_elements, set_of_elements, part_of_tuple, slot_is_set, function_is_there, constant_may_be_read, stream_of, returned}

-- A model that declares its one variable with a value.

abbrev declaring : CExpr → ProcDef
declaring x = model_with (ty.Int ∷ []) (s.Declare 1 0 x ∷ [])

abbrev scope_of : CExpr → Scope
scope_of x = scope_in (alone (declaring x)) (declaring x)

abbrev known_in : CExpr → Known
known_in x = params_known (process_home (alone (declaring x)) (declaring x))

-- in a sound program the value has a kind
initial : (x : CExpr) → Sound (alone (declaring x)) → (T : Kind) × (slice_get (scope_of x).slots 0 ≡ Some T) × HasKind (scope_of x) (known_in x) (out-CExpr x) T
initial x sound =
    declared (scope_of x) (known_in x) false 1 0 x
    (first_statement (scope_of x) (known_in x) false (s.Declare 1 0 x) [] (CStat-F.Declare 1 0 x) (s.outs-Declare 1 0 x) (sound.processes 0 (declaring x) refl).home.body)

-- an operand is of another kind: 1 + true

abbrev sum : CExpr
sum = e.Op op.Add (int 1 ∷ e.Lit (value.Bool true) ∷ [])

no_sum_row : (T : Kind) → OpKind op.Add (Ty-F.Int ∷ Ty-F.Bool ∷ []) T → ⊥
no_sum_row T row = elim row [ ]

no_sum : Sound (alone (declaring sum)) → ⊥
no_sum sound =
    let d = initial sum sound in
    let r = row_of (scope_of sum) (known_in sum) op.Add (int 1 ∷ e.Lit (value.Bool true) ∷ []) d.0 refl d.2 in
    let both = two_of (scope_of sum) (known_in sum) (int 1) (e.Lit (value.Bool true)) r.0 r.3 in
    let same : r.0 ≡ Ty-F.Int ∷ Ty-F.Bool ∷ [] =
    both.4 ∙ (λ i. int_is (scope_of sum) (known_in sum) 1 both.0 both.2 i ∷ bool_is (scope_of sum) (known_in sum) true both.1 both.3 i ∷ []) in
    no_sum_row d.0 (subst (λ Ts. OpKind op.Add Ts d.0) same r.1)

-- the elements of a set aren't plain

abbrev set_of_instances : CExpr
set_of_instances = e.Build build.SetOf (e.Default shape.Inst ∷ [])

instance_is : (n : ℕ) (T : Kind) → ShapeKind n Shape-F.Inst T → T ≡ Ty-F.Inst
instance_is n _ shape_instance = refl

no_set : Sound (alone (declaring set_of_instances)) → ⊥
no_set sound =
    let scope = scope_of set_of_instances in
    let known = known_in set_of_instances in
    let d = initial set_of_instances sound in
    let elements = set_of_elements scope known (e.Default shape.Inst ∷ []) d.0 d.2 in
    let one = one_of scope known (e.Default shape.Inst) (out-Ty elements.0 ∷ []) elements.2 in
    let first : out-Ty elements.0 ≡ one.0 = cc in
    let shaped : ShapeKind 0 Shape-F.Inst one.0 = subst (λ z. ShapeKind 0 z one.0) shape.outs-Inst (default_of scope known shape.Inst one.0 one.1).0 in
    false≢true (sym (plain_at elements.0 Ty-F.Inst (first ∙ instance_is 0 one.0 shaped)) ∙ elements.1)

-- a pair has no part of number 2

abbrev third_of_pair : CExpr
third_of_pair = e.Part (e.Build build.TupleOf (int 1 ∷ int 2 ∷ [])) 2

no_third : (ts : List Ty) (T U : Kind) → map out-Ty ts ≡ T ∷ U ∷ [] → slice_get (nameless_parts ts) 2 ≡ None
no_third [] T U h = absurd (cc)
no_third (t ∷ []) T U h = absurd (cc)
no_third (t ∷ u ∷ []) T U h = refl
no_third (t ∷ u ∷ v ∷ ts) T U h = absurd (cc)

no_part : Sound (alone (declaring third_of_pair)) → ⊥
no_part sound =
    let scope = scope_of third_of_pair in
    let known = known_in third_of_pair in
    let d = initial third_of_pair sound in
    let p = part_of_tuple scope known (e.Build build.TupleOf (int 1 ∷ int 2 ∷ [])) 2 d.0 d.2 in
    let pair = tuple_of_parts scope known (int 1 ∷ int 2 ∷ []) (Ty-F.TupleOf p.0) p.2 in
    let both = two_of scope known (int 1) (int 2) (map out-Ty pair.0) pair.1 in
    let same : p.0 ≡ nameless_parts pair.0 = cc in
    let none : slice_get p.0 2 ≡ None = subst (λ parts. slice_get parts 2 ≡ None) (sym same) (no_third pair.0 both.0 both.1 both.4) in
    absurd (cc)

-- the variable isn't set before it is read

no_variable : Sound (alone (declaring (e.Var 0))) → ⊥
no_variable sound =
    let d = initial (e.Var 0) sound in
    false≢true (slot_is_set (scope_of (e.Var 0)) (known_in (e.Var 0)) 0 d.0 d.2)

-- there is no function

no_function : Sound (alone (declaring (e.Call 0 []))) → ⊥
no_function sound =
    let d = initial (e.Call 0 []) sound in
    let f = function_is_there (scope_of (e.Call 0 [])) (known_in (e.Call 0 [])) 0 [] d.0 d.2 in
    absurd (cc)

-- a list is no literal

abbrev empty_list : Value
empty_list = value.ListOf []

no_literal_kind : (names : List (List (List ℕ))) (T : Kind) → LiteralKind names (Value-F.ListOf []) T → ⊥
no_literal_kind names T h = elim h [ ]

no_literal : Sound (alone (declaring (e.Lit empty_list))) → ⊥
no_literal sound =
    let d = initial (e.Lit empty_list) sound in
    no_literal_kind [] d.0 (literal_kind (scope_of (e.Lit empty_list)) (known_in (e.Lit empty_list)) empty_list (Value-F.ListOf []) d.0 (value.outs-ListOf []) d.2)

-- there is no stream 64

abbrev far_stream : CExpr
far_stream = e.Op op.Uniform (int 0 ∷ int 1 ∷ int 64 ∷ [])

no_more : (xs : List CExpr) (x : CExpr) → [] ≡ xs ++ x ∷ [] → ⊥
no_more [] x h = absurd (cc)
no_more (y ∷ xs) x h = absurd (cc)

last_of_three : (xs : List CExpr) (a b c x : CExpr) → a ∷ b ∷ c ∷ [] ≡ xs ++ x ∷ [] → c ≡ x
last_of_three [] a b c x h = absurd (cc)
last_of_three (p ∷ []) a b c x h = absurd (cc)
last_of_three (p ∷ q ∷ []) a b c x h = cc
last_of_three (p ∷ q ∷ r ∷ xs) a b c x h = absurd (no_more xs x (cc))

same_stream : (m n : ℕ) → int m ≡ int n → m ≡ n
same_stream m n h =
    let literals : CExpr-F.Lit (value.Int (pos m)) ≡ CExpr-F.Lit (value.Int (pos n)) = sym (e.outs-Lit (value.Int (pos m))) ∙ ap out-CExpr h ∙ e.outs-Lit (value.Int (pos n)) in
    let values : value.Int (pos m) ≡ value.Int (pos n) = cc in
    let ints : Value-F.Int (pos m) ≡ Value-F.Int (pos n) = sym (value.outs-Int (pos m)) ∙ ap out-Value values ∙ value.outs-Int (pos n) in
    cc

no_stream : Sound (alone (declaring far_stream)) → ⊥
no_stream sound =
    let d = initial far_stream sound in
    let z = stream_of (scope_of far_stream) (known_in far_stream) op.Uniform (int 0 ∷ int 1 ∷ int 64 ∷ []) d.0 refl d.2 in
    let is : 64 ≡ z.1 = same_stream 64 z.1 (last_of_three z.0 (int 0) (int 1) (int 64) (stream_operand z.1) z.2) in
    absurd (omega (arith, is, z.3))

-- A program with a function without parameters that returns a value.

abbrev giving : CExpr → FuncDef
giving x = record { name = codes "f"; arity = 0; result = ty.Int; slots = []; body = s.Return 1 x ∷ [] }

abbrev with_function : FuncDef → Core
with_function f = record { consts = []; funcs = f ∷ []; procs = model_with [] [] ∷ []; model = 0; names = record { kinds = [] }; xpers = [] }

abbrev scope_at : CExpr → Scope
scope_at x = (function_home (with_function (giving x)) (giving x)).scope

abbrev known_at : CExpr → Known
known_at x = params_known (function_home (with_function (giving x)) (giving x))

result_of : (x : CExpr) → Sound (with_function (giving x)) → (T : Kind) × HasKind (scope_at x) (known_at x) (out-CExpr x) T
result_of x sound =
    returned (scope_at x) (known_at x) false 1 x
    (first_statement (scope_at x) (known_at x) false (s.Return 1 x) [] (CStat-F.Return 1 x) (s.outs-Return 1 x) (sound.functions 0 (giving x) refl).home.body)

-- a function makes a channel

abbrev makes_one : CExpr
makes_one = e.Op op.Size (e.Build build.ListOf (e.Default shape.Chan ∷ []) ∷ [])

channel_is_made : makes_channel shape.Chan ≡ true
channel_is_made = fold_out-Shape Bool makes_channel_step shape.Chan ∙ ap (λ z. makes_channel_step (map-Shape Shape Bool makes_channel z)) shape.outs-Chan

no_channel : Sound (with_function (giving makes_one)) → ⊥
no_channel sound =
    let scope = scope_at makes_one in
    let known = known_at makes_one in
    let d = result_of makes_one sound in
    let row = row_of scope known op.Size (e.Build build.ListOf (e.Default shape.Chan ∷ []) ∷ []) d.0 refl d.1 in
    let one = one_of scope known (e.Build build.ListOf (e.Default shape.Chan ∷ [])) row.0 row.3 in
    let elements = list_of_elements scope known (e.Default shape.Chan ∷ []) one.0 one.1 in
    let first = one_of scope known (e.Default shape.Chan) (out-Ty elements.0 ∷ []) elements.1 in
    let may : not (makes_channel shape.Chan) ≡ true = (default_of scope known shape.Chan first.0 first.1).1 in
    false≢true (ap not (sym channel_is_made) ∙ may)

-- a function asks for the time

no_time : Sound (with_function (giving (e.Op op.Time []))) → ⊥
no_time sound =
    let d = result_of (e.Op op.Time []) sound in
    false≢true (row_of (scope_at (e.Op op.Time [])) (known_at (e.Op op.Time [])) op.Time [] d.0 refl d.1).2

-- a constant reads itself

abbrev itself : ConstDef
itself = record { line = 1; ty = ty.Int; value = e.Const 0 }

abbrev with_constant : Core
with_constant = record { consts = itself ∷ []; funcs = []; procs = model_with [] [] ∷ []; model = 0; names = record { kinds = [] }; xpers = [] }

no_constant : Sound with_constant → ⊥
no_constant sound =
    false≢true (constant_may_be_read (constant_scope with_constant 0) nothing_known 0 (kind_of ty.Int) (sound.constants 0 itself refl).value)
