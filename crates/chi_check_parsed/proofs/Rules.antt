-- What operators, relations, casts, parts, names and calls make of parts with short text literals has short ones.
use Rattle.std.proofs.Common.{ℕ, Bool, true, false, cond, ◌&&◌, List, [], ◌∷◌, length, Option, Some, None, ap}
use Rattle.std.specs.Prelude.{is_some, nat_eq}
use Rattle.std.specs.List.{list_all}
use Rattle.chi_num.specs.TextNumbers.{Meant as MeantNumber, means, int_meant, real_meant}
use Rattle.chi_token.specs.declared.place.Place.{Place}
use Rattle.chi_tree.specs.declared.operator.Operator.{Operator}
use Rattle.chi_tree.specs.declared.operator.Operator.TheVariants as operator
use Rattle.chi_tree.specs.declared.operator.PrefixSign.{PrefixSign}
use Rattle.chi_tree.specs.declared.operator.PrefixSign.TheVariants as prefix
use Rattle.chi_tree.specs.declared.operator.RelationSign.{RelationSign}
use Rattle.chi_tree.specs.declared.operator.RelationSign.TheVariants as sign
use Rattle.chi_tree.specs.declared.operator.CastWord.{CastWord}
use Rattle.chi_tree.specs.declared.operator.CastWord.TheVariants as word
use Rattle.chi_tree.specs.declared.type_tree.Name.{Name}
use Rattle.chi_types.specs.declared.ty.Ty.{Ty, Ty-F, out-Ty}
use Rattle.chi_types.specs.declared.ty.Ty.TheVariants as ty
use Rattle.chi_types.specs.Fits.{fits}
use Rattle.chi_types.specs.Plain.{is_plain}
use Rattle.chi_types.specs.Same.{same}
use Rattle.chi_value.specs.declared.value.Value.TheVariants as value
use Rattle.chi_core.specs.declared.expression.CExpr.TheVariants as expression
use Rattle.chi_core.specs.declared.op_name.OpName.{OpName}
use Rattle.chi_core.specs.declared.op_name.OpName.TheVariants as op
use Rattle.chi_check_types.specs.declared.known.Known.{Known}
use Rattle.chi_check_types.specs.declared.known.Known.TheVariants as known
use Rattle.chi_check_types.specs.declared.known.NameKind.{NameKind}
use Rattle.chi_check_types.specs.declared.known.NameKind.TheVariants as kind
use Rattle.chi_check_types.specs.declared.meant.Made.{Made}
use Rattle.chi_check_types.specs.declared.rules.TheConstants.{OPERATOR, PREDEFINED, INDEX, FIELD, CALL_ARGUMENTS, NAME_KIND}
use Rattle.chi_check_types.specs.declared.site.Site.{Site}
use Rattle.chi_check_types.specs.Names.{Names, known_in}
use Rattle.chi_check_types.specs.Predefined.{is_predefined}
use Rattle.chi_check_types.specs.Typed.{refused}
use Rattle.chi_check_types.specs.TypeRules.{is_int}
use Rattle.chi_check_expr_rules.specs.Conversions.{made, converted}
use Rattle.chi_check_expr_rules.specs.Nodes.{all_made}
use Rattle.chi_check_expr_rules.specs.Sites.{running_rule, calling_rule}
use Rattle.chi_check_expr_rules.specs.Literals.{int_number, real_number, int_literal, real_literal, bool_literal}
use Rattle.chi_check_expr_rules.specs.Named.{untyped_value, visible_value, named_value, time_of}
use Rattle.chi_check_expr_rules.specs.Operators.{number_of, arithmetic, of_same, add_by, is_set_of, without_keys, subtract_by, multiply_by, are_bools, ints, reals, binary, power, negated, unchanged, sampled, prefixed, prefix_rule, prefix_made, chain_of, power_of, prefix_of}
use Rattle.chi_check_expr_rules.specs.Comparisons.{member_of, is_set, related, relation_of}
use Rattle.chi_check_expr_rules.specs.Casts.{to_int, to_real, to_bool, cast, timer_rule, cast_made, cast_of}
use Rattle.chi_check_expr_rules.specs.Parts.{element_at, looked_up, indexed_by, indexed, index_of, Bounds, if_given, given, has_slices, sliced, slice_of, part_of, field_in, field, field_of}
use Rattle.chi_check_expr_rules.specs.Calls.{called, function_call, untyped_call, call_of}
use Rattle.chi_check_expr.proofs.Kept.{Each, IfGiven}
use Rattle.chi_check_laws.specs.TypedTexts.{is_short}
use Rattle.chi_check_parsed.proofs.Short.{on_map, on_any, on_if, unless_on, one_on, two_on, all_on, barred_on, made_on, Shorts, MadeShort, literal_short, variable_short, constant_short, operation_short, and_short, or_short, part_short, call_short, converted_short, passed_on, wanting_on, as_they_are_short, both_as_short, compared_on}

-- ---- operators

arithmetic_on : (name : OpName) (a b : Made) → MadeShort a → MadeShort b → IfGiven MadeShort (arithmetic name a b)
arithmetic_on name a b h k = on_any MadeShort _ (number_of (out-Ty a.ty) (out-Ty b.ty)) (λ t. both_as_short name t a b t h k)

same_on : (name : OpName) (a b : Made) → MadeShort a → MadeShort b → IfGiven MadeShort (of_same name a b)
same_on name a b h k = on_if MadeShort (same a.ty b.ty) _ (as_they_are_short name (a ∷ b ∷ []) a.ty (h, (k, tt)))

keys_on : (key : Ty) (a b : Made) → MadeShort a → MadeShort b → IfGiven MadeShort (without_keys key a b)
keys_on key a b h k = on_if MadeShort (is_set_of key (out-Ty b.ty)) _ (as_they_are_short op.Sub (a ∷ b ∷ []) a.ty (h, (k, tt)))

add_on : (layer : Ty-F Ty) (a b : Made) → MadeShort a → MadeShort b → IfGiven MadeShort (add_by layer a b)
add_on Ty-F.Text a b h k = same_on op.Add a b h k
add_on (Ty-F.ListOf element) a b h k = same_on op.Add a b h k
add_on (Ty-F.SetOf element) a b h k = same_on op.Add a b h k
add_on (Ty-F.DictOf key value) a b h k = same_on op.Add a b h k
add_on _ a b h k = arithmetic_on op.Add a b h k

subtract_on : (layer : Ty-F Ty) (a b : Made) → MadeShort a → MadeShort b → IfGiven MadeShort (subtract_by layer a b)
subtract_on (Ty-F.SetOf element) a b h k = same_on op.Sub a b h k
subtract_on (Ty-F.DictOf key value) a b h k = keys_on key a b h k
subtract_on _ a b h k = arithmetic_on op.Sub a b h k

multiply_on : (layer : Ty-F Ty) (a b : Made) → MadeShort a → MadeShort b → IfGiven MadeShort (multiply_by layer a b)
multiply_on (Ty-F.SetOf element) a b h k = same_on op.Mul a b h k
multiply_on _ a b h k = arithmetic_on op.Mul a b h k

binary_on : (sign : Operator) (a b : Made) → MadeShort a → MadeShort b → IfGiven MadeShort (binary sign a b)
binary_on operator.Or a b h k = on_if MadeShort (are_bools a b) _ (or_short a.core b.core h k)
binary_on operator.And a b h k = on_if MadeShort (are_bools a b) _ (and_short a.core b.core h k)
binary_on operator.Add a b h k = add_on (out-Ty a.ty) a b h k
binary_on operator.Subtract a b h k = subtract_on (out-Ty a.ty) a b h k
binary_on operator.Multiply a b h k = multiply_on (out-Ty a.ty) a b h k
binary_on operator.Divide a b h k = wanting_on op.Divide reals ty.Real (a ∷ b ∷ []) (h, (k, tt))
binary_on operator.DivideWhole a b h k = wanting_on op.Div ints ty.Int (a ∷ b ∷ []) (h, (k, tt))
binary_on operator.Remainder a b h k = wanting_on op.Mod ints ty.Int (a ∷ b ∷ []) (h, (k, tt))

negated_on : (layer : Ty-F Ty) (m : Made) → MadeShort m → IfGiven MadeShort (negated layer m)
negated_on Ty-F.Int m h = as_they_are_short op.Neg (m ∷ []) ty.Int (h, tt)
negated_on Ty-F.Real m h = as_they_are_short op.Neg (m ∷ []) ty.Real (h, tt)
negated_on _ m h = tt

unchanged_on : (layer : Ty-F Ty) (m : Made) → MadeShort m → IfGiven MadeShort (unchanged layer m)
unchanged_on Ty-F.Int m h = h
unchanged_on Ty-F.Real m h = h
unchanged_on _ m h = tt

sampled_on : (layer : Ty-F Ty) (m : Made) → MadeShort m → IfGiven MadeShort (sampled layer m)
sampled_on (Ty-F.Dist drawn) m h = as_they_are_short op.Sample (m ∷ []) drawn (h, tt)
sampled_on _ m h = tt

prefixed_on : (sign : PrefixSign) (m : Made) → MadeShort m → IfGiven MadeShort (prefixed sign m)
prefixed_on prefix.Not m h = wanting_on op.Not (ty.Bool ∷ []) ty.Bool (m ∷ []) (h, tt)
prefixed_on prefix.Minus m h = negated_on (out-Ty m.ty) m h
prefixed_on prefix.Plus m h = unchanged_on (out-Ty m.ty) m h
prefixed_on prefix.Sample m h = sampled_on (out-Ty m.ty) m h

pub chain_on : (sign : Operator) (place : Place) (a b : Option Made) → IfGiven MadeShort a → IfGiven MadeShort b → IfGiven MadeShort (chain_of sign place a b).made
chain_on sign place a b h k = two_on MadeShort MadeShort MadeShort OPERATOR place (binary sign) a b (binary_on sign) h k

pub power_on : (place : Place) (a b : Option Made) → IfGiven MadeShort a → IfGiven MadeShort b → IfGiven MadeShort (power_of place a b).made
power_on place a b h k = two_on MadeShort MadeShort MadeShort OPERATOR place power a b (λ a b h k. wanting_on op.Power ints ty.Int (a ∷ b ∷ []) (h, (k, tt))) h k

pub prefix_on : (site : Site) (sign : PrefixSign) (place : Place) (m : Option Made) → IfGiven MadeShort m → IfGiven MadeShort (prefix_of site sign place m).made
prefix_on site sign place m h = barred_on MadeShort (prefix_rule site sign place) (prefix_made sign place m) (one_on MadeShort MadeShort OPERATOR place (prefixed sign) m (prefixed_on sign) h)

-- ---- relations

related_on : (s : RelationSign) (a b : Made) → MadeShort a → MadeShort b → IfGiven MadeShort (related s a b)
related_on sign.Less a b h k = compared_on op.Less _ a b h k
related_on sign.LessEqual a b h k = compared_on op.AtMost _ a b h k
related_on sign.Equal a b h k = compared_on op.Equal _ a b h k
related_on sign.NotEqual a b h k = compared_on op.NotEqual _ a b h k
related_on sign.Greater a b h k = compared_on op.Greater _ a b h k
related_on sign.GreaterEqual a b h k = compared_on op.AtLeast _ a b h k
related_on sign.In a b h k = on_any MadeShort (member_of a b) _ (λ t. operation_short op.In (converted a t ∷ b.core ∷ []) (converted_short a t h, (k, tt)))
related_on sign.Sub a b h k = on_if MadeShort (is_set (out-Ty a.ty) && same a.ty b.ty) _ (as_they_are_short op.Subset (a ∷ b ∷ []) ty.Bool (h, (k, tt)))

pub relation_on : (s : RelationSign) (place : Place) (a b : Option Made) → IfGiven MadeShort a → IfGiven MadeShort b → IfGiven MadeShort (relation_of s place a b).made
relation_on s place a b h k = two_on MadeShort MadeShort MadeShort OPERATOR place (related s) a b (related_on s) h k

-- ---- casts

to_int_on : (layer : Ty-F Ty) (m : Made) → MadeShort m → IfGiven MadeShort (to_int layer m)
to_int_on Ty-F.Int m h = as_they_are_short op.ToInt (m ∷ []) ty.Int (h, tt)
to_int_on Ty-F.Text m h = as_they_are_short op.ToInt (m ∷ []) ty.Int (h, tt)
to_int_on _ m h = tt

to_real_on : (layer : Ty-F Ty) (m : Made) → MadeShort m → IfGiven MadeShort (to_real layer m)
to_real_on Ty-F.Int m h = as_they_are_short op.ToReal (m ∷ []) ty.Real (h, tt)
to_real_on Ty-F.Real m h = as_they_are_short op.ToReal (m ∷ []) ty.Real (h, tt)
to_real_on Ty-F.Text m h = as_they_are_short op.ToReal (m ∷ []) ty.Real (h, tt)
to_real_on Ty-F.Timer m h = as_they_are_short op.ToReal (m ∷ []) ty.Real (h, tt)
to_real_on _ m h = tt

to_bool_on : (layer : Ty-F Ty) (m : Made) → MadeShort m → IfGiven MadeShort (to_bool layer m)
to_bool_on Ty-F.Bool m h = as_they_are_short op.ToBool (m ∷ []) ty.Bool (h, tt)
to_bool_on Ty-F.Text m h = as_they_are_short op.ToBool (m ∷ []) ty.Bool (h, tt)
to_bool_on _ m h = tt

cast_word_on : (w : CastWord) (m : Made) → MadeShort m → IfGiven MadeShort (cast w m)
cast_word_on word.Int m h = to_int_on (out-Ty m.ty) m h
cast_word_on word.Real m h = to_real_on (out-Ty m.ty) m h
cast_word_on word.Text m h = on_if MadeShort (is_plain m.ty) _ (as_they_are_short op.ToText (m ∷ []) ty.Text (h, tt))
cast_word_on word.Bool m h = to_bool_on (out-Ty m.ty) m h
cast_word_on word.Timer m h = wanting_on op.ToTimer (ty.Real ∷ []) ty.Timer (m ∷ []) (h, tt)

pub cast_on : (site : Site) (w : CastWord) (place : Place) (m : Option Made) → IfGiven MadeShort m → IfGiven MadeShort (cast_of site w place m).made
cast_on site w place m h = barred_on MadeShort (timer_rule site w place m) (cast_made w place m) (one_on MadeShort MadeShort PREDEFINED place (cast w) m (cast_word_on w) h)

-- ---- parts

element_on : (element : Ty) (whole index : Made) → MadeShort whole → MadeShort index → IfGiven MadeShort (element_at element whole index)
element_on element whole index h k = on_if MadeShort (is_int (out-Ty index.ty)) _ (as_they_are_short op.Index (whole ∷ index ∷ []) element (h, (k, tt)))

looked_up_on : (key value : Ty) (whole index : Made) → MadeShort whole → MadeShort index → IfGiven MadeShort (looked_up key value whole index)
looked_up_on key value whole index h k = on_if MadeShort (fits index.ty key) _ (operation_short op.Lookup (whole.core ∷ converted index key ∷ []) (h, (converted_short index key k, tt)))

indexed_on : (layer : Ty-F Ty) (whole index : Made) → MadeShort whole → MadeShort index → IfGiven MadeShort (indexed_by layer whole index)
indexed_on (Ty-F.ListOf element) whole index h k = element_on element whole index h k
indexed_on Ty-F.Text whole index h k = element_on ty.Text whole index h k
indexed_on (Ty-F.DictOf key value) whole index h k = looked_up_on key value whole index h k
indexed_on _ whole index h k = tt

pub index_on : (place : Place) (whole index : Option Made) → IfGiven MadeShort whole → IfGiven MadeShort index → IfGiven MadeShort (index_of place whole index).made
index_on place whole index h k = two_on MadeShort MadeShort MadeShort INDEX place indexed whole index (λ whole index. indexed_on (out-Ty whole.ty) whole index) h k

-- each bound that is given
abbrev pub BoundsShort : Bounds (Option Made) → Type 0
BoundsShort b = IfGiven (IfGiven MadeShort) b.from × IfGiven (IfGiven MadeShort) b.upto × IfGiven (IfGiven MadeShort) b.by

given_on : {A : Type 0} (P : A → Type 0) (o : Option A) (more : List A) → IfGiven P o → Each P more → Each P (if_given o more)
given_on P None more h k = k
given_on P (Some a) more h k = (h, k)

pub slice_on : (place : Place) (whole : Option Made) (b : Bounds (Option Made)) → IfGiven MadeShort whole → BoundsShort b → IfGiven MadeShort (slice_of place whole b).made
slice_on place whole b h k =
    let bounds : Each (IfGiven MadeShort) (given b) = given_on (IfGiven MadeShort) b.from _ k.0 (given_on (IfGiven MadeShort) b.upto _ k.1 (given_on (IfGiven MadeShort) b.by [] k.2 tt)) in
    two_on MadeShort (Each MadeShort) MadeShort INDEX place (sliced (is_some b.from) (is_some b.upto) (is_some b.by)) whole (all_made (given b))
    (λ whole ms h hs. on_if MadeShort (has_slices (out-Ty whole.ty) && list_all (λ m. is_int (out-Ty m.ty)) ms) _ (as_they_are_short (op.Slice (is_some b.from) (is_some b.upto) (is_some b.by)) (whole ∷ ms) whole.ty (h, hs)))
    h (made_on MadeShort (given b) bounds)

pub field_on : (name : Name) (m : Option Made) → IfGiven MadeShort m → IfGiven MadeShort (field_of name m).made
field_on name m h = one_on MadeShort MadeShort FIELD name.place (field name.text) m (λ m h. on_any MadeShort (part_of m) (field_in (out-Ty m.ty) name.text) (λ found. part_short m.core found.0 h)) h

-- ---- literals of one token

int_number_on : (n : MeantNumber) → IfGiven MadeShort (int_number n)
int_number_on (means n) = literal_short (value.Int n) (ap is_short (value.outs-Int n))
int_number_on _ = tt

pub int_on : (digits : List ℕ) → IfGiven MadeShort (int_literal digits)
int_on digits = int_number_on (int_meant digits)

real_number_on : (n : MeantNumber) → IfGiven MadeShort (real_number n)
real_number_on (means n) = literal_short (value.Real n) (ap is_short (value.outs-Real n))
real_number_on _ = tt

pub real_on : (digits : List ℕ) → IfGiven MadeShort (real_literal digits)
real_on digits = real_number_on (real_meant digits)

pub bool_on : (truth : Bool) → MadeShort (bool_literal truth)
bool_on truth = literal_short (value.Bool truth) (ap is_short (value.outs-Bool truth))

-- ---- names, and the time

untyped_on : (place : Place) (k : NameKind) → IfGiven MadeShort (untyped_value place k).made
untyped_on place kind.Variable = tt
untyped_on place kind.Unwound = tt
untyped_on place kind.Constant = tt
untyped_on place kind.Type = tt
untyped_on place kind.Function = tt
untyped_on place kind.Process = tt
untyped_on place kind.Model = tt

visible_on : (place : Place) (o : Option Known) → IfGiven MadeShort (visible_value place o).made
visible_on place None = tt
visible_on place (Some (known.Var slot t)) = variable_short slot
visible_on place (Some (known.Fixed slot t)) = variable_short slot
visible_on place (Some (known.Const number t)) = constant_short number
visible_on place (Some (known.Value enumeration position)) = literal_short (value.Choice enumeration position) (ap is_short (value.outs-Choice enumeration position))
visible_on place (Some (known.Untyped k)) = untyped_on place k
visible_on place (Some (known.Kind t)) = tt
visible_on place (Some (known.Func number params result)) = tt
visible_on place (Some (known.Proc number params exit)) = tt
visible_on place (Some (known.Model number params exit)) = tt
visible_on place (Some (known.Xper number)) = tt

pub name_on : (names : Names) (name : Name) → IfGiven MadeShort (named_value names name).made
name_on names name = by (is_predefined name.text)
  where
    by : (b : Bool) → IfGiven MadeShort (cond b (refused NAME_KIND name.place) (visible_value name.place (known_in names name.text))).made
    by true = tt
    by false = visible_on name.place (known_in names name.text)

pub time_on : (site : Site) (place : Place) → IfGiven MadeShort (time_of site place).made
time_on site place = unless_on MadeShort (running_rule site place) _ (operation_short op.Time [] tt)

-- ---- calls of functions

untyped_call_on : (site : Site) (place : Place) (k : NameKind) → IfGiven MadeShort (untyped_call site place k).made
untyped_call_on site place kind.Function = tt
untyped_call_on site place kind.Variable = tt
untyped_call_on site place kind.Unwound = tt
untyped_call_on site place kind.Constant = tt
untyped_call_on site place kind.Type = tt
untyped_call_on site place kind.Process = tt
untyped_call_on site place kind.Model = tt

pub function_on : (site : Site) (place : Place) (o : Option Known) (arguments : List (Option Made)) → Each (IfGiven MadeShort) arguments → IfGiven MadeShort (call_of site place o arguments).made
function_on site place None arguments h = tt
function_on site place (Some (known.Func number params result)) arguments h =
    barred_on MadeShort (calling_rule site place) (function_call place number params result arguments)
    (all_on MadeShort MadeShort CALL_ARGUMENTS place (nat_eq (length arguments) (length params)) (called number params result) (all_made arguments)
    (λ ms hs. on_map Shorts MadeShort (λ es. made (expression.Call number es) result) _ (λ es k. call_short number es k) (passed_on ms params hs)) (made_on MadeShort arguments h))
function_on site place (Some (known.Untyped k)) arguments h = untyped_call_on site place k
function_on site place (Some (known.Var slot t)) arguments h = tt
function_on site place (Some (known.Fixed slot t)) arguments h = tt
function_on site place (Some (known.Const number t)) arguments h = tt
function_on site place (Some (known.Kind t)) arguments h = tt
function_on site place (Some (known.Value enumeration position)) arguments h = tt
function_on site place (Some (known.Proc number params exit)) arguments h = tt
function_on site place (Some (known.Model number params exit)) arguments h = tt
function_on site place (Some (known.Xper number)) arguments h = tt
