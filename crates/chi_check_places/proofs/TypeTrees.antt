-- What a type means, of what its parts mean, is the same without places.
use Rattle.std.proofs.Common.{◌≡◌, Bool, false, List, [], ◌∷◌, ◌++◌, map, Option, Some, None, refl, ap, ◌∙◌}
use Rattle.std.specs.Option.{option_map, option_and_then}
use Rattle.chi_tree.specs.declared.type_tree.Name.{Name}
use Rattle.chi_tree.specs.declared.type_tree.TypeTree.{TypeTree-F}
use Rattle.chi_tree.specs.View.{nowhere}
use Rattle.chi_tree_laws.specs.Unplaced.{unplaced_name}
use Rattle.chi_types.specs.declared.ty.Ty.{Ty}
use Rattle.chi_check_types.specs.declared.meant.Meant.{Meant}
use Rattle.chi_check_types.specs.Names.{Names}
use Rattle.chi_check_types.specs.Typed.{Typed}
use Rattle.chi_check_types.specs.TypeRules.{word_type, meaning, way_of, list_of, sized_list_of, set_of, dict_of, dist_of, chan_of, tuple_of}
use Rattle.chi_types.specs.declared.ty.Ty.TheVariants as ty
use Rattle.chi_check_expr.specs.Reads.{Read, Taken, Reading, Paired, Linked, Field}
use Rattle.chi_check_expr.specs.TypeTrees.{faults_of, each_field_faults, untyped_rule, first_rule, placed_field, field_faults, field_type, parts_from, type_step}
use Rattle.chi_check_places.specs.UnplacedTyped.{unplaced_faults, unplaced_typed}
use Rattle.chi_check_places.proofs.Faults.{faults-append, both-faults, after-both}
use Rattle.chi_check_places.proofs.Types.{of-type-unplaced, named-type-unplaced, list-type-unplaced, set-type-unplaced, dict-type-unplaced, dist-type-unplaced, chan-type-unplaced, sized-list-unplaced, tuple-type-unplaced}
use Rattle.chi_check_places.proofs.ReadParts.{unplaced_field, unplaced_type_layer}

-- ---- the fields of a tuple

faults-of-unplaced : (o : Option (Typed Meant)) → faults_of (option_map unplaced_typed o) ≡ unplaced_faults (faults_of o)
faults-of-unplaced None = refl
faults-of-unplaced (Some t) = refl

each-unplaced : (fs : List Field) → each_field_faults (map unplaced_field fs) ≡ unplaced_faults (each_field_faults fs)
each-unplaced [] = refl
each-unplaced (f ∷ fs) = both-faults (faults_of f.ty) (each_field_faults fs) (faults-of-unplaced f.ty) (each-unplaced fs)

untyped-unplaced : (o : Option (Typed Meant)) (name : Name) → untyped_rule (option_map unplaced_typed o) nowhere ≡ unplaced_faults (untyped_rule o name.place)
untyped-unplaced None name = refl
untyped-unplaced (Some t) name = refl

first-unplaced : (fs : List Field) → first_rule (map placed_field (map unplaced_field fs)) ≡ unplaced_faults (first_rule (map placed_field fs))
first-unplaced [] = refl
first-unplaced (f ∷ fs) = untyped-unplaced f.ty f.name

fields-unplaced : (fs : List Field) → field_faults (map unplaced_field fs) ≡ unplaced_faults (field_faults fs)
fields-unplaced fs = both-faults (first_rule (map placed_field fs)) (each_field_faults fs) (first-unplaced fs) (each-unplaced fs)

names-of-fields : (fs : List Field) → map (λ f. f.name) (map unplaced_field fs) ≡ map unplaced_name (map (λ f. f.name) fs)
names-of-fields [] = refl
names-of-fields (f ∷ fs) = ap (λ ns. unplaced_name f.name ∷ ns) (names-of-fields fs)

field-type-unplaced : (last : Option Ty) (o : Option (Typed Meant)) → field_type last (option_map unplaced_typed o) ≡ field_type last o
field-type-unplaced last None = refl
field-type-unplaced last (Some t) = refl

parts-unplaced : (last : Option Ty) (fs : List Field) → parts_from last (map unplaced_field fs) ≡ parts_from last fs
parts-unplaced last [] = refl
parts-unplaced last (f ∷ fs) =
    λ i. option_and_then (λ t. option_map (λ parts. (f.name.text, t) ∷ parts) (parts-unplaced (Some t) fs i)) (field-type-unplaced last f.ty i)

-- ---- a layer

pub type-layer-unplaced : (names : Names) (o : TypeTree-F Read Taken Reading Paired Linked Field) (sizes : Bool) → type_step names (unplaced_type_layer o) sizes ≡ unplaced_typed (type_step names o sizes)
type-layer-unplaced names (TypeTree-F.Word word place) sizes = of-type-unplaced place (meaning (word_type word))
type-layer-unplaced names (TypeTree-F.Defined name) sizes = named-type-unplaced names name
type-layer-unplaced names (TypeTree-F.List place None t) sizes = let e = t false in after-both e.faults (list_of place e.made) refl (list-type-unplaced place e.made)
type-layer-unplaced names (TypeTree-F.List place (Some s) t) sizes =
    let e = t sizes in
    after-both (s.typed.faults ++ e.faults) (sized_list_of place sizes s.typed.made e.made) (faults-append s.typed.faults e.faults) (sized-list-unplaced place sizes s.typed.made e.made)
type-layer-unplaced names (TypeTree-F.Set place t) sizes = let e = t false in after-both e.faults (set_of place e.made) refl (set-type-unplaced place e.made)
type-layer-unplaced names (TypeTree-F.Dist place t) sizes = let e = t false in after-both e.faults (dist_of place e.made) refl (dist-type-unplaced place e.made)
type-layer-unplaced names (TypeTree-F.Dict place t u) sizes =
    let k = t false in
    let v = u false in
    after-both (k.faults ++ v.faults) (dict_of place k.made v.made) (faults-append k.faults v.faults) (dict-type-unplaced place k.made v.made)
type-layer-unplaced names (TypeTree-F.Tuple place fs) sizes =
    after-both (field_faults fs) (tuple_of place (map (λ f. f.name) fs) (parts_from None fs)) (fields-unplaced fs)
    ((λ i. tuple_of nowhere (names-of-fields fs i) (parts-unplaced None fs i)) ∙ tuple-type-unplaced place (map (λ f. f.name) fs) (parts_from None fs))
type-layer-unplaced names (TypeTree-F.Chan place way None) sizes = of-type-unplaced place (meaning (ty.Chan (way_of way) ty.Void))
type-layer-unplaced names (TypeTree-F.Chan place way (Some t)) sizes = let e = t false in after-both e.faults (chan_of place way e.made) refl (chan-type-unplaced place way e.made)
