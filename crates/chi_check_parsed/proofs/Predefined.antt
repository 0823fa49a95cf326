-- What calls of predefined names and literals of several parts make of parts with short text literals has short ones; and the
-- sizes of types.
use Rattle.std.proofs.Common.{ℕ, Bool, true, false, cond, ◌&&◌, ◌++◌, List, [], ◌∷◌, length, Option, Some, None}
use Rattle.std.specs.List.{list_all}
use Rattle.chi_token.specs.declared.place.Place.{Place}
use Rattle.chi_tree.specs.declared.type_tree.Name.{Name}
use Rattle.chi_tree.specs.declared.type_tree.Way.{Way}
use Rattle.chi_types.specs.declared.ty.Ty.{Ty, Ty-F, out-Ty}
use Rattle.chi_types.specs.declared.ty.Ty.TheVariants as ty
use Rattle.chi_types.specs.Fits.{fits}
use Rattle.chi_value.specs.declared.format.Kind.{Kind as Build}
use Rattle.chi_value.specs.declared.format.Kind.TheVariants as build
use Rattle.chi_core.specs.declared.expression.CExpr.{CExpr}
use Rattle.chi_core.specs.declared.op_name.OpName.{OpName}
use Rattle.chi_core.specs.declared.op_name.OpName.TheVariants as op
use Rattle.chi_check_types.specs.declared.fault.Fault.{Fault}
use Rattle.chi_check_types.specs.declared.known.Known.{Known}
use Rattle.chi_check_types.specs.declared.known.Known.TheVariants as known
use Rattle.chi_check_types.specs.declared.known.NameKind.{NameKind}
use Rattle.chi_check_types.specs.declared.known.NameKind.TheVariants as kind
use Rattle.chi_check_types.specs.declared.meant.Made.{Made}
use Rattle.chi_check_types.specs.declared.meant.Meant.{Meant}
use Rattle.chi_check_types.specs.declared.predefined.Predefined.{Predefined}
use Rattle.chi_check_types.specs.declared.predefined.Predefined.TheVariants as name
use Rattle.chi_check_types.specs.declared.rules.TheConstants.{PREDEFINED, NAME_KIND}
use Rattle.chi_check_types.specs.declared.site.Site.{Site}
use Rattle.chi_check_types.specs.Names.{Names, known_in}
use Rattle.chi_check_types.specs.Predefined.{is_predefined}
use Rattle.chi_check_types.specs.Typed.{untyped, refused}
use Rattle.chi_check_types.specs.TypeRules as types
use Rattle.chi_check_types.specs.TypeRules.{is_int, is_drawn, depth_rule}
use Rattle.chi_check_expr_rules.specs.Conversions.{converted, as_they_are}
use Rattle.chi_check_expr_rules.specs.Nodes.{settled, all_made}
use Rattle.chi_check_expr_rules.specs.Operators.{number_of}
use Rattle.chi_check_expr_rules.specs.PredefinedCalls as rule
use Rattle.chi_check_expr_rules.specs.PredefinedCalls.{absolute_by, sign_by, is_counted, taken_by, is_list, deleted, uniform, extreme, only, pair, of_single, predefined, tells_order, inserted_by, inserted_in, is_untyped_function, insertion, insertion_of, before_third, insert_parts, insert_call, plain_call, is_count, is_insert, predefined_rule, predefined_made, predefined_call}
use Rattle.chi_check_expr_rules.specs.Containers as literals
use Rattle.chi_check_expr_rules.specs.Containers.{joined_all, literal_of}
use Rattle.chi_check_expr.proofs.Kept.{Each, IfGiven}
use Rattle.chi_check_laws.proofs.Turns.{each_append}
use Rattle.chi_check_parsed.proofs.Short.{on_any, on_then, on_if, unless_on, settled_on, all_on, barred_on, made_on, Short, Shorts, MadeShort, SizesShort, operation_short, build_short, insertion_short, converted_short, all_converted_short, wanting_on, cores_short, as_they_are_short, both_as_short}

-- ---- one argument

single_short : (o : OpName) (m : Made) (t : Ty) → MadeShort m → MadeShort (as_they_are o (m ∷ []) t)
single_short o m t h = as_they_are_short o (m ∷ []) t (h, tt)

absolute_on : (layer : Ty-F Ty) (m : Made) → MadeShort m → IfGiven MadeShort (absolute_by layer m)
absolute_on Ty-F.Int m h = single_short op.Abs m ty.Int h
absolute_on Ty-F.Real m h = single_short op.Abs m ty.Real h
absolute_on _ m h = tt

sign_on : (layer : Ty-F Ty) (m : Made) → MadeShort m → IfGiven MadeShort (sign_by layer m)
sign_on Ty-F.Int m h = single_short op.Sign m ty.Int h
sign_on Ty-F.Real m h = single_short op.Sign m ty.Int h
sign_on _ m h = tt

taken_on : (o : OpName) (m : Made) (result : Option Ty) → MadeShort m → IfGiven MadeShort (taken_by o m result)
taken_on o m result h = on_any MadeShort _ result (λ t. single_short o m t h)

single_on : (p : Predefined) (m : Made) → MadeShort m → IfGiven MadeShort (of_single p m)
single_on name.Abs m h = absolute_on (out-Ty m.ty) m h
single_on name.Sign m h = sign_on (out-Ty m.ty) m h
single_on name.Size m h = on_if MadeShort (is_counted (out-Ty m.ty)) _ (single_short op.Size m ty.Int h)
single_on name.Empty m h = on_if MadeShort (is_counted (out-Ty m.ty)) _ (single_short op.Empty m ty.Bool h)
single_on name.Pop m h = taken_on op.Pop m _ h
single_on name.Enumerate m h = taken_on op.Enumerate m _ h
single_on name.DictKeys m h = taken_on op.DictKeys m _ h
single_on name.DictValues m h = taken_on op.DictValues m _ h
single_on name.Constant m h = on_if MadeShort (is_drawn (out-Ty m.ty)) _ (single_short op.Constant m (ty.Dist m.ty) h)
single_on _ m h = tt

-- ---- all arguments

only_on : (ms : List Made) → Each MadeShort ms → IfGiven MadeShort (only ms)
only_on [] h = tt
only_on (m ∷ []) h = h.0
only_on (a ∷ b ∷ ms) h = tt

abbrev BothShort : Made × Made → Type 0
BothShort ab = MadeShort ab.0 × MadeShort ab.1

pair_on : (ms : List Made) → Each MadeShort ms → IfGiven BothShort (pair ms)
pair_on [] h = tt
pair_on (a ∷ []) h = tt
pair_on (a ∷ b ∷ []) h = (h.0, h.1.0)
pair_on (a ∷ b ∷ c ∷ ms) h = tt

one_argument : (p : Predefined) (ms : List Made) → Each MadeShort ms → IfGiven MadeShort (rule.one (of_single p) ms)
one_argument p ms h = on_then MadeShort MadeShort (of_single p) (only ms) (single_on p) (only_on ms h)

extreme_on : (o : OpName) (ms : List Made) → Each MadeShort ms → IfGiven MadeShort (extreme o ms)
extreme_on o ms h = on_any MadeShort _ (rule.common_numbers ms) (λ t. operation_short o _ (all_converted_short t ms h))

arguments_on : (p : Predefined) (ms : List Made) → Each MadeShort ms → IfGiven MadeShort (predefined p ms)
arguments_on name.Min ms h = extreme_on op.Min ms h
arguments_on name.Max ms h = extreme_on op.Max ms h
arguments_on name.Floor ms h = wanting_on op.Floor (ty.Real ∷ []) ty.Int ms h
arguments_on name.Ceil ms h = wanting_on op.Ceil (ty.Real ∷ []) ty.Int ms h
arguments_on name.Round ms h = wanting_on op.Round (ty.Real ∷ []) ty.Int ms h
arguments_on name.Del ms h = on_then BothShort MadeShort (λ ab. deleted ab.0 ab.1) (pair ms)
    (λ ab k. on_if MadeShort (is_list (out-Ty ab.0.ty) && is_int (out-Ty ab.1.ty)) _ (as_they_are_short op.Del (ab.0 ∷ ab.1 ∷ []) ab.0.ty (k.0, (k.1, tt)))) (pair_on ms h)
arguments_on name.Insert ms h = tt
arguments_on name.Range ms h = on_if MadeShort (list_all (λ m. is_int (out-Ty m.ty)) ms) _ (as_they_are_short op.Range ms (ty.ListOf ty.Int) h)
arguments_on name.Uniform ms h = on_then BothShort MadeShort (λ ab. uniform ab.0 ab.1) (pair ms)
    (λ ab k. on_any MadeShort _ (number_of (out-Ty ab.0.ty) (out-Ty ab.1.ty)) (λ t. both_as_short op.Uniform t ab.0 ab.1 (ty.Dist t) k.0 k.1)) (pair_on ms h)
arguments_on name.Bernoulli ms h = wanting_on op.Bernoulli (ty.Real ∷ []) (ty.Dist ty.Bool) ms h
arguments_on name.Binomial ms h = wanting_on op.Binomial (ty.Int ∷ ty.Real ∷ []) (ty.Dist ty.Int) ms h
arguments_on name.Exponential ms h = wanting_on op.Exponential (ty.Real ∷ []) (ty.Dist ty.Real) ms h
arguments_on name.Ready ms h = wanting_on op.Ready (ty.Timer ∷ []) ty.Bool ms h
arguments_on name.Finished ms h = wanting_on op.Finished (ty.Inst ∷ []) ty.Bool ms h
arguments_on name.Abs ms h = one_argument name.Abs ms h
arguments_on name.Sign ms h = one_argument name.Sign ms h
arguments_on name.Size ms h = one_argument name.Size ms h
arguments_on name.Empty ms h = one_argument name.Empty ms h
arguments_on name.Pop ms h = one_argument name.Pop ms h
arguments_on name.Enumerate ms h = one_argument name.Enumerate ms h
arguments_on name.DictKeys ms h = one_argument name.DictKeys ms h
arguments_on name.DictValues ms h = one_argument name.DictValues ms h
arguments_on name.Constant ms h = one_argument name.Constant ms h

-- ---- insertions by a function

inserted_by_on : (element : Ty) (list x : Made) (k : Known) → MadeShort list → MadeShort x → IfGiven MadeShort (inserted_by element list x k)
inserted_by_on element list x (known.Func number params result) h j = on_if MadeShort (fits x.ty element && tells_order element params result) _ (insertion_short list.core (converted x element) number h (converted_short x element j))
inserted_by_on element list x _ h j = tt

inserted_on : (layer : Ty-F Ty) (list x : Made) (k : Known) → MadeShort list → MadeShort x → IfGiven MadeShort (inserted_in layer list x k)
inserted_on (Ty-F.ListOf element) list x k h j = inserted_by_on element list x k h j
inserted_on _ list x k h j = tt

insertion_on : (place : Place) (list x : Made) (o : Option Known) → MadeShort list → MadeShort x → IfGiven MadeShort (insertion place list x o).made
insertion_on place list x None h j = tt
insertion_on place list x (Some k) h j = by (is_untyped_function k)
  where
    by : (b : Bool) → IfGiven MadeShort (cond b (untyped []) (settled PREDEFINED place (inserted_in (out-Ty list.ty) list x k))).made
    by true = tt
    by false = settled_on MadeShort PREDEFINED place _ (inserted_on (out-Ty list.ty) list x k h j)

insertion_of_on : (place : Place) (list x : Option Made) (o : Option Known) → IfGiven MadeShort list → IfGiven MadeShort x → IfGiven MadeShort (insertion_of place list x o).made
insertion_of_on place (Some list) (Some x) o h j = insertion_on place list x o h j
insertion_of_on place (Some list) None o h j = tt
insertion_of_on place None x o h j = tt

insert_on : (place : Place) (arguments : List (Option Made)) (o : Option Known) → Each (IfGiven MadeShort) arguments → IfGiven MadeShort (insert_call place arguments o).made
insert_on place [] o h = tt
insert_on place (a ∷ []) o h = tt
insert_on place (a ∷ b ∷ []) o h = tt
insert_on place (a ∷ b ∷ c ∷ []) o h = insertion_of_on place a b o h.0 h.1.0
insert_on place (a ∷ b ∷ c ∷ d ∷ more) o h = tt

pub predefined_on : (site : Site) (place : Place) (p : Predefined) (arguments : List (Option Made)) (o : Option Known) → Each (IfGiven MadeShort) arguments → IfGiven MadeShort (predefined_call site place p arguments o).made
predefined_on site place p arguments o h = barred_on MadeShort (predefined_rule site p place) (predefined_made place p arguments o) (by (is_insert p))
  where
    by : (b : Bool) → IfGiven MadeShort (cond b (insert_call place arguments o) (plain_call place p arguments)).made
    by true = insert_on place arguments o h
    by false = all_on MadeShort MadeShort PREDEFINED place (is_count p (length arguments)) (predefined p) (all_made arguments) (arguments_on p) (made_on MadeShort arguments h)

-- ---- literals of several parts

literal_on : (place : Place) (own : List Fault) (kind : Build) (parts : List CExpr) (t : Ty) → Shorts parts → IfGiven MadeShort (literal_of place own kind parts t).made
literal_on place own kind parts t h = unless_on MadeShort (own ++ depth_rule place t) _ (build_short kind parts h)

tuple_parts_on : (place : Place) (o : Option (List Made)) → IfGiven (Each MadeShort) o → IfGiven MadeShort (literals.tuple_parts place o).made
tuple_parts_on place None h = tt
tuple_parts_on place (Some ms) h = literal_on place [] build.TupleOf _ _ (cores_short ms h)

pub tuple_on : (place : Place) (os : List (Option Made)) → Each (IfGiven MadeShort) os → IfGiven MadeShort (literals.tuple_of place os).made
tuple_on place os h = tuple_parts_on place (all_made os) (made_on MadeShort os h)

list_joined_on : (place : Place) (ms : List Made) (o : Option Ty) → Each MadeShort ms → IfGiven MadeShort (literals.list_joined place ms o).made
list_joined_on place ms None h = tt
list_joined_on place ms (Some t) h = literal_on place [] build.ListOf _ _ (all_converted_short t ms h)

list_parts_on : (place : Place) (o : Option (List Made)) → IfGiven (Each MadeShort) o → IfGiven MadeShort (literals.list_parts place o).made
list_parts_on place None h = tt
list_parts_on place (Some ms) h = list_joined_on place ms (joined_all ms) h

pub list_on : (place : Place) (os : List (Option Made)) → Each (IfGiven MadeShort) os → IfGiven MadeShort (literals.list_of place os).made
list_on place os h = list_parts_on place (all_made os) (made_on MadeShort os h)

set_joined_on : (place : Place) (ms : List Made) (o : Option Ty) → Each MadeShort ms → IfGiven MadeShort (literals.set_joined place ms o).made
set_joined_on place ms None h = tt
set_joined_on place ms (Some t) h = literal_on place (literals.plain_type_rule place t) build.SetOf _ _ (all_converted_short t ms h)

set_parts_on : (place : Place) (o : Option (List Made)) → IfGiven (Each MadeShort) o → IfGiven MadeShort (literals.set_parts place o).made
set_parts_on place None h = tt
set_parts_on place (Some ms) h = set_joined_on place ms (joined_all ms) h

pub set_on : (place : Place) (os : List (Option Made)) → Each (IfGiven MadeShort) os → IfGiven MadeShort (literals.set_of place os).made
set_on place os h = set_parts_on place (all_made os) (made_on MadeShort os h)

entries_short : (k v : Ty) (ks vs : List Made) → Each MadeShort ks → Each MadeShort vs → Shorts (literals.entries k v ks vs)
entries_short k v [] vs h j = tt
entries_short k v (key ∷ ks) [] h j = tt
entries_short k v (key ∷ ks) (value ∷ vs) h j = (converted_short key k h.0, (converted_short value v j.0, entries_short k v ks vs h.1 j.1))

dict_joined_on : (place : Place) (ks vs : List Made) (o p : Option Ty) → Each MadeShort ks → Each MadeShort vs → IfGiven MadeShort (literals.dict_joined place ks vs o p).made
dict_joined_on place ks vs None p h j = tt
dict_joined_on place ks vs (Some k) None h j = tt
dict_joined_on place ks vs (Some k) (Some v) h j = literal_on place (literals.plain_type_rule place k) build.DictOf _ _ (entries_short k v ks vs h j)

dict_parts_on : (place : Place) (o p : Option (List Made)) → IfGiven (Each MadeShort) o → IfGiven (Each MadeShort) p → IfGiven MadeShort (literals.dict_parts place o p).made
dict_parts_on place None None h j = tt
dict_parts_on place None (Some vs) h j = tt
dict_parts_on place (Some ks) None h j = tt
dict_parts_on place (Some ks) (Some vs) h j = dict_joined_on place ks vs (joined_all ks) (joined_all vs) h j

pub dict_on : (place : Place) (ks vs : List (Option Made)) → Each (IfGiven MadeShort) ks → Each (IfGiven MadeShort) vs → IfGiven MadeShort (literals.dict_of place ks vs).made
dict_on place ks vs h j = dict_parts_on place (all_made ks) (all_made vs) (made_on MadeShort ks h) (made_on MadeShort vs j)

pub empty_list_on : (place : Place) (o : Option Meant) → IfGiven MadeShort (literals.empty_list place o).made
empty_list_on place None = tt
empty_list_on place (Some element) = literal_on place [] build.ListOf [] _ tt

pub empty_set_on : (place : Place) (o : Option Meant) → IfGiven MadeShort (literals.empty_set place o).made
empty_set_on place None = tt
empty_set_on place (Some element) = literal_on place (literals.plain_type_rule place element.ty) build.SetOf [] _ tt

pub empty_dict_on : (place : Place) (o p : Option Meant) → IfGiven MadeShort (literals.empty_dict place o p).made
empty_dict_on place None p = tt
empty_dict_on place (Some key) None = tt
empty_dict_on place (Some key) (Some value) = literal_on place (literals.plain_type_rule place key.ty) build.DictOf [] _ tt

-- ---- the sizes of types

pub type_on : (place : Place) (own : List Fault) (m : Meant) → SizesShort m → IfGiven SizesShort (types.of_type place own m).made
type_on place own m h = unless_on SizesShort (own ++ depth_rule place m.ty) m h

untyped_name_on : (place : Place) (k : NameKind) → IfGiven SizesShort (types.untyped_name place k).made
untyped_name_on place kind.Type = tt
untyped_name_on place _ = tt

visible_type_on : (place : Place) (o : Option Known) → IfGiven SizesShort (types.visible_type place o).made
visible_type_on place None = tt
visible_type_on place (Some (known.Kind t)) = type_on place [] _ tt
visible_type_on place (Some (known.Untyped k)) = untyped_name_on place k
visible_type_on place (Some (known.Var slot t)) = tt
visible_type_on place (Some (known.Fixed slot t)) = tt
visible_type_on place (Some (known.Const number t)) = tt
visible_type_on place (Some (known.Value enumeration position)) = tt
visible_type_on place (Some (known.Func number params result)) = tt
visible_type_on place (Some (known.Proc number params exit)) = tt
visible_type_on place (Some (known.Model number params exit)) = tt
visible_type_on place (Some (known.Xper number)) = tt

pub type_name_on : (names : Names) (n : Name) → IfGiven SizesShort (types.named_type names n).made
type_name_on names n = by (is_predefined n.text)
  where
    by : (b : Bool) → IfGiven SizesShort (cond b (refused NAME_KIND n.place) (types.visible_type n.place (known_in names n.text))).made
    by true = tt
    by false = visible_type_on n.place (known_in names n.text)

pub unsized_list_on : (place : Place) (o : Option Meant) → IfGiven SizesShort (types.list_of place o).made
unsized_list_on place None = tt
unsized_list_on place (Some element) = type_on place [] _ tt

pub sized_list_on : (place : Place) (sizes : Bool) (size : Option Made) (element : Option Meant) → IfGiven MadeShort size → IfGiven SizesShort element → IfGiven SizesShort (types.sized_list_of place sizes size element).made
sized_list_on place sizes None element h k = tt
sized_list_on place sizes (Some size) None h k = tt
sized_list_on place sizes (Some size) (Some element) h k = type_on place (types.size_rule place sizes (Some size)) _ (each_append Short element.sizes (size.core ∷ []) k (h, tt))

pub set_type_on : (place : Place) (o : Option Meant) → IfGiven SizesShort (types.set_of place o).made
set_type_on place None = tt
set_type_on place (Some element) = type_on place (types.plain_rule place (Some element)) _ tt

pub dict_type_on : (place : Place) (o p : Option Meant) → IfGiven SizesShort (types.dict_of place o p).made
dict_type_on place None p = tt
dict_type_on place (Some key) None = tt
dict_type_on place (Some key) (Some value) = type_on place (types.plain_rule place (Some key)) _ tt

pub dist_on : (place : Place) (o : Option Meant) → IfGiven SizesShort (types.dist_of place o).made
dist_on place None = tt
dist_on place (Some drawn) = type_on place _ _ tt

pub chan_on : (place : Place) (way : Way) (o : Option Meant) → IfGiven SizesShort (types.chan_of place way o).made
chan_on place way None = tt
chan_on place way (Some carried) = type_on place [] _ tt

pub tuple_type_on : (place : Place) (names : List Name) (o : Option (List (List ℕ × Ty))) → IfGiven SizesShort (types.tuple_of place names o).made
tuple_type_on place names None = tt
tuple_type_on place names (Some parts) = type_on place (types.names_rule [] names) _ tt
