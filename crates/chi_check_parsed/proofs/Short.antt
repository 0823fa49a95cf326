-- Expressions whose text literals are short, by their parts; and what rules make of such parts.
use Rattle.std.proofs.Common.{◌≡◌, ℕ, ◌<◌, ◌^◌, Bool, true, false, cond, ◌&&◌, length, List, [], ◌∷◌, map, Option, Some, None, refl, ap, ◌∙◌}
use Rattle.std.specs.Prelude.{option_map}
use Rattle.std.specs.Option.{option_and_then}
use Rattle.std.specs.List.{list_all}
use Rattle.std.proofs.lemmas.Bool.{lt-ltb}
use Rattle.chi_token.specs.declared.place.Place.{Place}
use Rattle.chi_types.specs.declared.ty.Ty.{Ty, out-Ty}
use Rattle.chi_types.specs.declared.ty.Ty.TheVariants as ty
use Rattle.chi_types.specs.Fits.{fits, widens}
use Rattle.chi_value.specs.declared.format.Kind.{Kind as Build}
use Rattle.chi_value.specs.declared.shape.Shape.{Shape}
use Rattle.chi_value.specs.declared.value.Value.{Value, out-Value}
use Rattle.chi_value.specs.declared.value.Value.TheVariants as value
use Rattle.chi_value.specs.Plain.{itself}
use Rattle.chi_core.specs.declared.expression.CExpr.{CExpr, CExpr-F, out-CExpr, map-CExpr, fold_out-CExpr}
use Rattle.chi_core.specs.declared.expression.CExpr.TheVariants as expression
use Rattle.chi_core.specs.declared.op_name.OpName.{OpName}
use Rattle.chi_core.specs.declared.op_name.OpName.TheVariants as op
use Rattle.chi_check_types.specs.declared.fault.Fault.{Fault}
use Rattle.chi_check_types.specs.declared.meant.Made.{Made}
use Rattle.chi_check_types.specs.declared.meant.Meant.{Meant}
use Rattle.chi_check_types.specs.Defaults.{repeated, within, shape_of, default_of}
use Rattle.chi_check_types.specs.Typed.{Typed, unless}
use Rattle.chi_check_expr_rules.specs.Conversions.{made, converted, passed, wanting, as_they_are, both_as, compared}
use Rattle.chi_check_expr_rules.specs.Nodes.{settled, of_one, of_two, of_all, barred, all_made}
use Rattle.chi_check_expr.proofs.Kept.{Each, IfGiven}
use Rattle.chi_check_laws.specs.TypedTexts.{is_short, texts_step, texts_are_short}

-- ---- what is there, if anything is

pub on_map : {A B : Type 0} (P : A → Type 0) (Q : B → Type 0) (f : A → B) (o : Option A) → ((a : A) → P a → Q (f a)) → IfGiven P o → IfGiven Q (option_map f o)
on_map P Q f None h k = tt
on_map P Q f (Some a) h k = h a k

pub on_any : {A B : Type 0} (Q : B → Type 0) (f : A → B) (o : Option A) → ((a : A) → Q (f a)) → IfGiven Q (option_map f o)
on_any Q f None h = tt
on_any Q f (Some a) h = h a

pub on_then : {A B : Type 0} (P : A → Type 0) (Q : B → Type 0) (f : A → Option B) (o : Option A) → ((a : A) → P a → IfGiven Q (f a)) → IfGiven P o → IfGiven Q (option_and_then f o)
on_then P Q f None h k = tt
on_then P Q f (Some a) h k = h a k

pub on_if : {A : Type 0} (P : A → Type 0) (b : Bool) (o : Option A) → IfGiven P o → IfGiven P (cond b o None)
on_if P true o h = h
on_if P false o h = tt

-- ---- what nodes come to

pub unless_on : {A : Type 0} (P : A → Type 0) (fs : List Fault) (a : A) → P a → IfGiven P (unless fs a).made
unless_on P [] a h = h
unless_on P (f ∷ fs) a h = tt

pub settled_on : {A : Type 0} (P : A → Type 0) (rule : ℕ) (place : Place) (o : Option A) → IfGiven P o → IfGiven P (settled rule place o).made
settled_on P rule place None h = tt
settled_on P rule place (Some a) h = h

pub one_on : {A B : Type 0} (P : A → Type 0) (Q : B → Type 0) (rule : ℕ) (place : Place) (f : A → Option B) (o : Option A) → ((a : A) → P a → IfGiven Q (f a)) → IfGiven P o → IfGiven Q (of_one rule place f o).made
one_on P Q rule place f None h k = tt
one_on P Q rule place f (Some a) h k = settled_on Q rule place (f a) (h a k)

pub two_on : {A B C : Type 0} (P : A → Type 0) (Q : B → Type 0) (R : C → Type 0) (rule : ℕ) (place : Place) (f : A → B → Option C) (o : Option A) (p : Option B)
    → ((a : A) (b : B) → P a → Q b → IfGiven R (f a b)) → IfGiven P o → IfGiven Q p → IfGiven R (of_two rule place f o p).made
two_on P Q R rule place f None p h k l = tt
two_on P Q R rule place f (Some a) None h k l = tt
two_on P Q R rule place f (Some a) (Some b) h k l = settled_on R rule place (f a b) (h a b k l)

pub all_on : {B : Type 0} (P : Made → Type 0) (Q : B → Type 0) (rule : ℕ) (place : Place) (b : Bool) (f : List Made → Option B) (o : Option (List Made))
    → ((ms : List Made) → Each P ms → IfGiven Q (f ms)) → IfGiven (Each P) o → IfGiven Q (of_all rule place b f o).made
all_on P Q rule place false f o h k = tt
all_on P Q rule place true f None h k = tt
all_on P Q rule place true f (Some ms) h k = settled_on Q rule place (f ms) (h ms k)

pub barred_on : {A : Type 0} (P : A → Type 0) (fs : List Fault) (t : Typed A) → IfGiven P t.made → IfGiven P (barred fs t).made
barred_on P [] t h = h
barred_on P (f ∷ fs) t h = tt

pub made_on : (P : Made → Type 0) (os : List (Option Made)) → Each (IfGiven P) os → IfGiven (Each P) (all_made os)
made_on P [] h = tt
made_on P (o ∷ os) h = on_then P (Each P) (λ first. option_map (λ more. first ∷ more) (all_made os)) o
    (λ first k. on_map (Each P) (Each P) (λ more. first ∷ more) (all_made os) (λ more l. (k, l)) (made_on P os h.1)) h.0

-- ---- text literals

abbrev pub Short : CExpr → Type 0
Short e = texts_are_short e ≡ true

abbrev pub Shorts : List CExpr → Type 0
Shorts = Each Short

-- of what an expression comes to, and of the sizes of a type
abbrev pub MadeShort : Made → Type 0
MadeShort m = Short m.core

abbrev pub SizesShort : Meant → Type 0
SizesShort m = Shorts m.sizes

pub both_true : (a b : Bool) → a ≡ true → b ≡ true → (a && b) ≡ true
both_true a b p q = λ i. p i && q i

short_at : (e : CExpr) (layer : CExpr-F CExpr) → out-CExpr e ≡ layer → texts_step (map-CExpr _ _ texts_are_short layer) ≡ true → Short e
short_at e layer h p = fold_out-CExpr Bool texts_step e ∙ ap (λ o. texts_step (map-CExpr _ _ texts_are_short o)) h ∙ p

pub all_short : (es : List CExpr) → Shorts es → list_all itself (map texts_are_short es) ≡ true
all_short [] h = refl
all_short (e ∷ es) h = both_true (texts_are_short e) (list_all itself (map texts_are_short es)) h.0 (all_short es h.1)

pub literal_short : (v : Value) → is_short (out-Value v) ≡ true → Short (expression.Lit v)
literal_short v h = short_at _ _ (expression.outs-Lit v) h

pub text_short : (bytes : List ℕ) → length bytes < 2 ^ 32 → Short (expression.Lit (value.Text bytes))
text_short bytes few = literal_short (value.Text bytes) (ap is_short (value.outs-Text bytes) ∙ lt-ltb (length bytes) (2 ^ 32) few)

pub variable_short : (slot : ℕ) → Short (expression.Var slot)
variable_short slot = short_at _ _ (expression.outs-Var slot) refl

pub constant_short : (number : ℕ) → Short (expression.Const number)
constant_short number = short_at _ _ (expression.outs-Const number) refl

pub operation_short : (name : OpName) (es : List CExpr) → Shorts es → Short (expression.Op name es)
operation_short name es h = short_at _ _ (expression.outs-Op name es) (all_short es h)

pub and_short : (a b : CExpr) → Short a → Short b → Short (expression.And a b)
and_short a b h k = short_at _ _ (expression.outs-And a b) (both_true _ _ h k)

pub or_short : (a b : CExpr) → Short a → Short b → Short (expression.Or a b)
or_short a b h k = short_at _ _ (expression.outs-Or a b) (both_true _ _ h k)

pub build_short : (kind : Build) (es : List CExpr) → Shorts es → Short (expression.Build kind es)
build_short kind es h = short_at _ _ (expression.outs-Build kind es) (all_short es h)

pub part_short : (e : CExpr) (number : ℕ) → Short e → Short (expression.Part e number)
part_short e number h = short_at _ _ (expression.outs-Part e number) h

pub call_short : (number : ℕ) (es : List CExpr) → Shorts es → Short (expression.Call number es)
call_short number es h = short_at _ _ (expression.outs-Call number es) (all_short es h)

pub insertion_short : (xs x : CExpr) (number : ℕ) → Short xs → Short x → Short (expression.InsertBy xs x number)
insertion_short xs x number h k = short_at _ _ (expression.outs-InsertBy xs x number) (both_true _ _ h k)

default_short : (shape : Shape) → Short (expression.Default shape)
default_short shape = short_at _ _ (expression.outs-Default shape) refl

repeat_short : (size each : CExpr) → Short size → Short each → Short (expression.Repeat size each)
repeat_short size each h k = short_at _ _ (expression.outs-Repeat size each) (both_true _ _ h k)

repeated_short : (sizes : List CExpr) (each : CExpr) → Shorts sizes → Short each → Short (repeated sizes each)
repeated_short [] each h k = k
repeated_short (size ∷ sizes) each h k = repeated_short sizes (expression.Repeat size each) h.1 (repeat_short size each h.0 k)

pub default_on : (t : Ty) (sizes : List CExpr) → Shorts sizes → IfGiven Short (default_of t sizes)
default_on t sizes h = on_any Short (λ s. repeated sizes (expression.Default s)) (option_and_then shape_of (within (length sizes) t)) (λ s. repeated_short sizes (expression.Default s) h (default_short s))

-- ---- conversions

pub converted_short : (m : Made) (t : Ty) → MadeShort m → Short (converted m t)
converted_short m t h = by (widens (out-Ty m.ty) (out-Ty t))
  where
    by : (w : Bool) → Short (cond w (expression.Op op.Widen (m.core ∷ [])) m.core)
    by true = operation_short op.Widen (m.core ∷ []) (h, tt)
    by false = h

pub all_converted_short : (t : Ty) (ms : List Made) → Each MadeShort ms → Shorts (map (λ m. converted m t) ms)
all_converted_short t [] h = tt
all_converted_short t (m ∷ ms) h = (converted_short m t h.0, all_converted_short t ms h.1)

pub passed_on : (ms : List Made) (ts : List Ty) → Each MadeShort ms → IfGiven Shorts (passed ms ts)
passed_on [] [] h = tt
passed_on [] (t ∷ ts) h = tt
passed_on (m ∷ ms) [] h = tt
passed_on (m ∷ ms) (t ∷ ts) h = on_if Shorts (fits m.ty t) _ (on_map Shorts Shorts (λ es. converted m t ∷ es) (passed ms ts) (λ es k. (converted_short m t h.0, k)) (passed_on ms ts h.1))

pub wanting_on : (name : OpName) (wanted : List Ty) (result : Ty) (ms : List Made) → Each MadeShort ms → IfGiven MadeShort (wanting name wanted result ms)
wanting_on name wanted result ms h = on_map Shorts MadeShort (λ es. made (expression.Op name es) result) (passed ms wanted) (λ es k. operation_short name es k) (passed_on ms wanted h)

pub cores_short : (ms : List Made) → Each MadeShort ms → Shorts (map (λ m. m.core) ms)
cores_short [] h = tt
cores_short (m ∷ ms) h = (h.0, cores_short ms h.1)

pub as_they_are_short : (name : OpName) (ms : List Made) (result : Ty) → Each MadeShort ms → MadeShort (as_they_are name ms result)
as_they_are_short name ms result h = operation_short name _ (cores_short ms h)

pub both_as_short : (name : OpName) (t : Ty) (a b : Made) (result : Ty) → MadeShort a → MadeShort b → MadeShort (both_as name t a b result)
both_as_short name t a b result h k = operation_short name _ (converted_short a t h, (converted_short b t k, tt))

pub compared_on : (name : OpName) (common : Option Ty) (a b : Made) → MadeShort a → MadeShort b → IfGiven MadeShort (compared name common a b)
compared_on name common a b h k = on_any MadeShort _ common (λ t. both_as_short name t a b ty.Bool h k)
