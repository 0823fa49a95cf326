-- What an expression comes to where its parts are known is the same without places.
use Rattle.std.proofs.Common.{◌≡◌, Bool, true, false, List, [], ◌++◌, map, Option, Some, None, refl, ap, ◌∙◌}
use Rattle.chi_token.specs.declared.place.Place.{Place}
use Rattle.chi_tree.specs.declared.operator.CastWord.{CastWord}
use Rattle.chi_tree.specs.declared.operator.CastWord.TheVariants as word
use Rattle.chi_tree.specs.declared.operator.PrefixSign.{PrefixSign}
use Rattle.chi_tree.specs.declared.operator.PrefixSign.TheVariants as prefix
use Rattle.chi_tree.specs.declared.type_tree.Name.{Name}
use Rattle.chi_tree.specs.View.{nowhere}
use Rattle.chi_tree_laws.specs.Unplaced.{unplaced_name}
use Rattle.chi_types.specs.declared.ty.Ty.{Ty, out-Ty}
use Rattle.chi_types.specs.declared.ty.Ty.TheVariants as ty
use Rattle.chi_value.specs.declared.format.Kind.{Kind}
use Rattle.chi_value.specs.declared.format.Kind.TheVariants as build
use Rattle.chi_core.specs.declared.expression.CExpr.{CExpr}
use Rattle.chi_core.specs.declared.expression.CExpr.TheVariants as expression
use Rattle.chi_core.specs.declared.op_name.OpName.TheVariants as op
use Rattle.chi_core.specs.Kinds.{nameless_parts}
use Rattle.chi_check_types.specs.declared.fault.Fault.{Fault}
use Rattle.chi_check_types.specs.declared.known.Known.{Known}
use Rattle.chi_check_types.specs.declared.known.Known.TheVariants as known
use Rattle.chi_check_types.specs.declared.known.NameKind.{NameKind}
use Rattle.chi_check_types.specs.declared.known.NameKind.TheVariants as kind
use Rattle.chi_check_types.specs.declared.meant.Made.{Made}
use Rattle.chi_check_types.specs.declared.meant.Meant.{Meant}
use Rattle.chi_check_types.specs.declared.rules.TheConstants.{OPERATOR, FIELD, PREDEFINED}
use Rattle.chi_check_types.specs.declared.site.Site.{Site}
use Rattle.chi_check_types.specs.declared.site.Site.TheVariants as site
use Rattle.chi_check_types.specs.Names.{Names, known_in}
use Rattle.chi_check_types.specs.Predefined.{is_predefined}
use Rattle.chi_check_types.specs.Typed.{unless}
use Rattle.chi_check_types.specs.TypeRules.{depth_rule, meaning}
use Rattle.chi_check_expr_rules.specs.Casts.{cast, is_timer, timer_rule, cast_made, cast_of}
use Rattle.chi_check_expr_rules.specs.Containers.{joined_all, all_converted, literal_of, plain_type_rule, tuple_parts, tuple_of, list_joined, list_parts, list_of, set_joined, set_parts, set_of, entries, keys_rule, values_rule, dict_joined, dict_parts, dict_of, empty_list, empty_set, empty_dict}
use Rattle.chi_check_expr_rules.specs.Conversions.{made}
use Rattle.chi_check_expr_rules.specs.Named.{untyped_value, visible_value, named_value, time_of}
use Rattle.chi_check_expr_rules.specs.Nodes.{all_made}
use Rattle.chi_check_expr_rules.specs.Operators.{prefixed, prefix_rule, prefix_made, prefix_of}
use Rattle.chi_check_expr_rules.specs.Parts.{field, field_of}
use Rattle.chi_check_expr_rules.specs.Sites.{calling_rule, running_rule, running_rule_if}
use Rattle.chi_check_places.specs.UnplacedTyped.{unplaced_faults, unplaced_typed}
use Rattle.chi_check_places.proofs.Faults.{both-faults, tested, unless-unplaced, barred-both, one-unplaced}
use Rattle.chi_check_places.proofs.Types.{depth-unplaced, plain-unplaced}

-- where calls may stand, and what depends on the run

pub calling-unplaced : (s : Site) (place : Place) → calling_rule s nowhere ≡ unplaced_faults (calling_rule s place)
calling-unplaced site.Constant place = refl
calling-unplaced site.Function place = refl
calling-unplaced site.Process place = refl
calling-unplaced site.Experiment place = refl

pub running-unplaced : (s : Site) (place : Place) → running_rule s nowhere ≡ unplaced_faults (running_rule s place)
running-unplaced site.Constant place = refl
running-unplaced site.Function place = refl
running-unplaced site.Process place = refl
running-unplaced site.Experiment place = refl

running-if-unplaced : (b : Bool) (s : Site) (place : Place) → running_rule_if b s nowhere ≡ unplaced_faults (running_rule_if b s place)
running-if-unplaced true s place = running-unplaced s place
running-if-unplaced false s place = refl

-- names and the time

untyped-value-unplaced : (place : Place) (k : NameKind) → untyped_value nowhere k ≡ unplaced_typed (untyped_value place k)
untyped-value-unplaced place kind.Variable = refl
untyped-value-unplaced place _ = refl

visible-value-unplaced : (place : Place) (k : Option Known) → visible_value nowhere k ≡ unplaced_typed (visible_value place k)
visible-value-unplaced place None = refl
visible-value-unplaced place (Some (known.Untyped k)) = untyped-value-unplaced place k
visible-value-unplaced place (Some _) = refl

pub named-value-unplaced : (names : Names) (name : Name) → named_value names (unplaced_name name) ≡ unplaced_typed (named_value names name)
named-value-unplaced names name = tested unplaced_typed (is_predefined name.text) refl (visible-value-unplaced name.place (known_in names name.text))

pub time-unplaced : (s : Site) (place : Place) → time_of s nowhere ≡ unplaced_typed (time_of s place)
time-unplaced s place =
    ap (λ fs. unless fs (made (expression.Op op.Time []) ty.Real)) (running-unplaced s place) ∙ unless-unplaced (running_rule s place) (made (expression.Op op.Time []) ty.Real)

-- prefixes and casts

prefix-rule-unplaced : (s : Site) (sign : PrefixSign) (place : Place) → prefix_rule s sign nowhere ≡ unplaced_faults (prefix_rule s sign place)
prefix-rule-unplaced s prefix.Sample place = running-unplaced s place
prefix-rule-unplaced s _ place = refl

pub prefix-unplaced : (s : Site) (sign : PrefixSign) (place : Place) (m : Option Made) → prefix_of s sign nowhere m ≡ unplaced_typed (prefix_of s sign place m)
prefix-unplaced s sign place m =
    barred-both (prefix_rule s sign place) (prefix_made sign place m) (prefix-rule-unplaced s sign place) (one-unplaced OPERATOR place (prefixed sign) m)

timer-rule-unplaced : (s : Site) (w : CastWord) (place : Place) (m : Option Made) → timer_rule s w nowhere m ≡ unplaced_faults (timer_rule s w place m)
timer-rule-unplaced s word.Timer place m = running-unplaced s place
timer-rule-unplaced s word.Real place None = refl
timer-rule-unplaced s word.Real place (Some m) = running-if-unplaced (is_timer (out-Ty m.ty)) s place
timer-rule-unplaced s _ place m = refl

pub cast-unplaced : (s : Site) (w : CastWord) (place : Place) (m : Option Made) → cast_of s w nowhere m ≡ unplaced_typed (cast_of s w place m)
cast-unplaced s w place m =
    barred-both (timer_rule s w place m) (cast_made w place m) (timer-rule-unplaced s w place m) (one-unplaced PREDEFINED place (cast w) m)

-- fields

pub field-unplaced : (name : Name) (m : Option Made) → field_of (unplaced_name name) m ≡ unplaced_typed (field_of name m)
field-unplaced name m = one-unplaced FIELD name.place (field name.text) m

-- literals of several parts

literal-unplaced : (place : Place) (own : List Fault) (k : Kind) (parts : List CExpr) (t : Ty) {own' : List Fault} → own' ≡ unplaced_faults own
    → literal_of nowhere own' k parts t ≡ unplaced_typed (literal_of place own k parts t)
literal-unplaced place own k parts t r =
    ap (λ fs. unless fs (made (expression.Build k parts) t)) (both-faults own (depth_rule place t) r (depth-unplaced place t))
    ∙ unless-unplaced (own ++ depth_rule place t) (made (expression.Build k parts) t)

plain-type-unplaced : (place : Place) (t : Ty) → plain_type_rule nowhere t ≡ unplaced_faults (plain_type_rule place t)
plain-type-unplaced place t = plain-unplaced place (Some (meaning t))

tuple-parts-unplaced : (place : Place) (o : Option (List Made)) → tuple_parts nowhere o ≡ unplaced_typed (tuple_parts place o)
tuple-parts-unplaced place None = refl
tuple-parts-unplaced place (Some ms) =
    literal-unplaced place [] build.TupleOf (map (λ m. m.core) ms) (ty.TupleOf (nameless_parts (map (λ m. m.ty) ms))) refl

pub tuple-unplaced : (place : Place) (parts : List (Option Made)) → tuple_of nowhere parts ≡ unplaced_typed (tuple_of place parts)
tuple-unplaced place parts = tuple-parts-unplaced place (all_made parts)

list-joined-unplaced : (place : Place) (ms : List Made) (t : Option Ty) → list_joined nowhere ms t ≡ unplaced_typed (list_joined place ms t)
list-joined-unplaced place ms None = refl
list-joined-unplaced place ms (Some t) = literal-unplaced place [] build.ListOf (all_converted t ms) (ty.ListOf t) refl

list-parts-unplaced : (place : Place) (o : Option (List Made)) → list_parts nowhere o ≡ unplaced_typed (list_parts place o)
list-parts-unplaced place None = refl
list-parts-unplaced place (Some ms) = list-joined-unplaced place ms (joined_all ms)

pub list-unplaced : (place : Place) (parts : List (Option Made)) → list_of nowhere parts ≡ unplaced_typed (list_of place parts)
list-unplaced place parts = list-parts-unplaced place (all_made parts)

set-joined-unplaced : (place : Place) (ms : List Made) (t : Option Ty) → set_joined nowhere ms t ≡ unplaced_typed (set_joined place ms t)
set-joined-unplaced place ms None = refl
set-joined-unplaced place ms (Some t) = literal-unplaced place (plain_type_rule place t) build.SetOf (all_converted t ms) (ty.SetOf t) (plain-type-unplaced place t)

set-parts-unplaced : (place : Place) (o : Option (List Made)) → set_parts nowhere o ≡ unplaced_typed (set_parts place o)
set-parts-unplaced place None = refl
set-parts-unplaced place (Some ms) = set-joined-unplaced place ms (joined_all ms)

pub set-unplaced : (place : Place) (parts : List (Option Made)) → set_of nowhere parts ≡ unplaced_typed (set_of place parts)
set-unplaced place parts = set-parts-unplaced place (all_made parts)

keys-unplaced : (place : Place) (k : Option Ty) → keys_rule nowhere k ≡ unplaced_faults (keys_rule place k)
keys-unplaced place None = refl
keys-unplaced place (Some k) = plain-type-unplaced place k

values-unplaced : (place : Place) (v : Option Ty) → values_rule nowhere v ≡ unplaced_faults (values_rule place v)
values-unplaced place None = refl
values-unplaced place (Some v) = refl

dict-joined-unplaced : (place : Place) (ks vs : List Made) (k v : Option Ty) → dict_joined nowhere ks vs k v ≡ unplaced_typed (dict_joined place ks vs k v)
dict-joined-unplaced place ks vs (Some k) (Some v) =
    literal-unplaced place (plain_type_rule place k) build.DictOf (entries k v ks vs) (ty.DictOf k v) (plain-type-unplaced place k)
dict-joined-unplaced place ks vs (Some k) None =
    λ i. record { faults = both-faults (keys_rule place (Some k)) (values_rule place None) (keys-unplaced place (Some k)) (values-unplaced place None) i; made = None }
dict-joined-unplaced place ks vs None v =
    λ i. record { faults = both-faults (keys_rule place None) (values_rule place v) (keys-unplaced place None) (values-unplaced place v) i; made = None }

dict-parts-unplaced : (place : Place) (ks vs : Option (List Made)) → dict_parts nowhere ks vs ≡ unplaced_typed (dict_parts place ks vs)
dict-parts-unplaced place (Some ks) (Some vs) = dict-joined-unplaced place ks vs (joined_all ks) (joined_all vs)
dict-parts-unplaced place (Some ks) None = λ i. record { faults = keys-unplaced place (joined_all ks) i; made = None }
dict-parts-unplaced place None (Some vs) = λ i. record { faults = values-unplaced place (joined_all vs) i; made = None }
dict-parts-unplaced place None None = refl

pub dict-unplaced : (place : Place) (ks vs : List (Option Made)) → dict_of nowhere ks vs ≡ unplaced_typed (dict_of place ks vs)
dict-unplaced place ks vs = dict-parts-unplaced place (all_made ks) (all_made vs)

-- empty containers

pub empty-list-unplaced : (place : Place) (o : Option Meant) → empty_list nowhere o ≡ unplaced_typed (empty_list place o)
empty-list-unplaced place None = refl
empty-list-unplaced place (Some m) = literal-unplaced place [] build.ListOf [] (ty.ListOf m.ty) refl

pub empty-set-unplaced : (place : Place) (o : Option Meant) → empty_set nowhere o ≡ unplaced_typed (empty_set place o)
empty-set-unplaced place None = refl
empty-set-unplaced place (Some m) = literal-unplaced place (plain_type_rule place m.ty) build.SetOf [] (ty.SetOf m.ty) (plain-type-unplaced place m.ty)

pub empty-dict-unplaced : (place : Place) (k v : Option Meant) → empty_dict nowhere k v ≡ unplaced_typed (empty_dict place k v)
empty-dict-unplaced place None v = refl
empty-dict-unplaced place (Some k) None = λ i. record { faults = plain-type-unplaced place k.ty i; made = None }
empty-dict-unplaced place (Some k) (Some v) =
    literal-unplaced place (plain_type_rule place k.ty) build.DictOf [] (ty.DictOf k.ty v.ty) (plain-type-unplaced place k.ty)
