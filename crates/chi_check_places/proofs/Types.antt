-- What a type means where the types of its parts are known is the same without places.
use Rattle.std.proofs.Common.{◌≡◌, Bool, not, List, [], ◌∷◌, ◌++◌, map, Option, Some, None, refl, ap, ◌∙◌}
use Rattle.std.specs.Prelude.{ℕ, nat_lt}
use Rattle.chi_token.specs.declared.place.Place.{Place}
use Rattle.chi_tree.specs.declared.type_tree.Name.{Name}
use Rattle.chi_tree.specs.declared.type_tree.Way.{Way}
use Rattle.chi_tree.specs.View.{nowhere}
use Rattle.chi_tree_laws.specs.Unplaced.{unplaced_name}
use Rattle.chi_types.specs.declared.ty.Ty.{Ty, out-Ty}
use Rattle.chi_types.specs.declared.ty.Ty.TheVariants as ty
use Rattle.chi_types.specs.Plain.{is_plain}
use Rattle.chi_types.specs.Depth.{depth}
use Rattle.chi_check_types.specs.declared.fault.Fault.{Fault}
use Rattle.chi_check_types.specs.declared.known.Known.{Known}
use Rattle.chi_check_types.specs.declared.known.Known.TheVariants as known
use Rattle.chi_check_types.specs.declared.known.NameKind.{NameKind}
use Rattle.chi_check_types.specs.declared.known.NameKind.TheVariants as kind
use Rattle.chi_check_types.specs.declared.meant.Made.{Made}
use Rattle.chi_check_types.specs.declared.meant.Meant.{Meant}
use Rattle.chi_check_types.specs.declared.rules.TheConstants.{TYPE_DEPTH, PLAIN_ELEMENT, LIST_SIZE, FIELD_NAMES, DISTRIBUTION}
use Rattle.chi_check_types.specs.declared.type_rules.TheConstants.{MOST_TYPE_DEPTH}
use Rattle.chi_check_types.specs.Names.{Names, known_in, is_among}
use Rattle.chi_check_types.specs.Predefined.{is_predefined}
use Rattle.chi_check_types.specs.Typed.{unless, broken_if}
use Rattle.chi_check_types.specs.TypeRules.{depth_rule, of_type, meaning, untyped_name, visible_type, named_type, list_of, plain_rule, set_of, dict_of, is_drawn, dist_of, way_of, chan_of, size_holds, size_rule, with_size, sized_list_of, names_rule, tuple_of}
use Rattle.chi_check_places.specs.UnplacedTyped.{unplaced_fault, unplaced_faults, unplaced_typed}
use Rattle.chi_check_places.proofs.Faults.{both-faults, broken-unplaced, tested, unless-unplaced}

pub depth-unplaced : (place : Place) (t : Ty) → depth_rule nowhere t ≡ unplaced_faults (depth_rule place t)
depth-unplaced place t = broken-unplaced (nat_lt MOST_TYPE_DEPTH (depth t)) TYPE_DEPTH place

type-unplaced : (place : Place) (own : List Fault) (m : Meant) {own' : List Fault} → own' ≡ unplaced_faults own → of_type nowhere own' m ≡ unplaced_typed (of_type place own m)
type-unplaced place own m r =
    ap (λ fs. unless fs m) (both-faults own (depth_rule place m.ty) r (depth-unplaced place m.ty)) ∙ unless-unplaced (own ++ depth_rule place m.ty) m

pub plain-unplaced : (place : Place) (o : Option Meant) → plain_rule nowhere o ≡ unplaced_faults (plain_rule place o)
plain-unplaced place None = refl
plain-unplaced place (Some m) = broken-unplaced (not (is_plain m.ty)) PLAIN_ELEMENT place

untyped-name-unplaced : (place : Place) (k : NameKind) → untyped_name nowhere k ≡ unplaced_typed (untyped_name place k)
untyped-name-unplaced place kind.Type = refl
untyped-name-unplaced place _ = refl

visible-type-unplaced : (place : Place) (k : Option Known) → visible_type nowhere k ≡ unplaced_typed (visible_type place k)
visible-type-unplaced place None = refl
visible-type-unplaced place (Some (known.Kind t)) = type-unplaced place [] (meaning t) refl
visible-type-unplaced place (Some (known.Untyped k)) = untyped-name-unplaced place k
visible-type-unplaced place (Some _) = refl

pub named-type-unplaced : (names : Names) (name : Name) → named_type names (unplaced_name name) ≡ unplaced_typed (named_type names name)
named-type-unplaced names name = tested unplaced_typed (is_predefined name.text) refl (visible-type-unplaced name.place (known_in names name.text))

pub of-type-unplaced : (place : Place) (m : Meant) → of_type nowhere [] m ≡ unplaced_typed (of_type place [] m)
of-type-unplaced place m = type-unplaced place [] m refl

pub list-type-unplaced : (place : Place) (o : Option Meant) → list_of nowhere o ≡ unplaced_typed (list_of place o)
list-type-unplaced place None = refl
list-type-unplaced place (Some m) = of-type-unplaced place (meaning (ty.ListOf m.ty))

pub set-type-unplaced : (place : Place) (o : Option Meant) → set_of nowhere o ≡ unplaced_typed (set_of place o)
set-type-unplaced place None = refl
set-type-unplaced place (Some m) = type-unplaced place (plain_rule place (Some m)) (meaning (ty.SetOf m.ty)) (plain-unplaced place (Some m))

pub dict-type-unplaced : (place : Place) (k v : Option Meant) → dict_of nowhere k v ≡ unplaced_typed (dict_of place k v)
dict-type-unplaced place None v = refl
dict-type-unplaced place (Some k) None = λ i. record { faults = plain-unplaced place (Some k) i; made = None }
dict-type-unplaced place (Some k) (Some v) =
    type-unplaced place (plain_rule place (Some k)) (meaning (ty.DictOf k.ty v.ty)) (plain-unplaced place (Some k))

pub dist-type-unplaced : (place : Place) (o : Option Meant) → dist_of nowhere o ≡ unplaced_typed (dist_of place o)
dist-type-unplaced place None = refl
dist-type-unplaced place (Some m) =
    type-unplaced place (broken_if (not (is_drawn (out-Ty m.ty))) DISTRIBUTION place) (meaning (ty.Dist m.ty)) (broken-unplaced (not (is_drawn (out-Ty m.ty))) DISTRIBUTION place)

pub chan-type-unplaced : (place : Place) (w : Way) (o : Option Meant) → chan_of nowhere w o ≡ unplaced_typed (chan_of place w o)
chan-type-unplaced place w None = refl
chan-type-unplaced place w (Some m) = of-type-unplaced place (meaning (ty.Chan (way_of w) m.ty))

size-unplaced : (place : Place) (sizes : Bool) (o : Option Made) → size_rule nowhere sizes o ≡ unplaced_faults (size_rule place sizes o)
size-unplaced place sizes o = broken-unplaced (not (size_holds sizes o)) LIST_SIZE place

pub sized-list-unplaced : (place : Place) (sizes : Bool) (s : Option Made) (o : Option Meant) → sized_list_of nowhere sizes s o ≡ unplaced_typed (sized_list_of place sizes s o)
sized-list-unplaced place sizes (Some s) (Some m) = type-unplaced place (size_rule place sizes (Some s)) (with_size m s.core) (size-unplaced place sizes (Some s))
sized-list-unplaced place sizes (Some s) None = λ i. record { faults = size-unplaced place sizes (Some s) i; made = None }
sized-list-unplaced place sizes None o = λ i. record { faults = size-unplaced place sizes None i; made = None }

names-unplaced : (before : List (List ℕ)) (names : List Name) → names_rule before (map unplaced_name names) ≡ unplaced_faults (names_rule before names)
names-unplaced before [] = refl
names-unplaced before (name ∷ names) =
    tested unplaced_faults (is_among name.text before) (λ i. unplaced_fault (record { rule = FIELD_NAMES; place = name.place }) ∷ names-unplaced before names i)
    (names-unplaced (before ++ name.text ∷ []) names)

pub tuple-type-unplaced : (place : Place) (names : List Name) (o : Option (List (List ℕ × Ty))) → tuple_of nowhere (map unplaced_name names) o ≡ unplaced_typed (tuple_of place names o)
tuple-type-unplaced place names None = λ i. record { faults = names-unplaced [] names i; made = None }
tuple-type-unplaced place names (Some parts) = type-unplaced place (names_rule [] names) (meaning (ty.TupleOf parts)) (names-unplaced [] names)
