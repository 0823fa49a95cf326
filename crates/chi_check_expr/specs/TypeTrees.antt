-- What a type tree means: a line for each construct, which names its rules and its places.
use Rattle.std.specs.Prelude.{ℕ, Bool, true, false, List, [], ◌∷◌, ◌++◌, map, Option, Some, None, option_map}
use Rattle.std.specs.Option.{option_and_then}
use Rattle.chi_token.specs.declared.place.Place.{Place}
use Rattle.chi_tree.specs.declared.type_tree.TypeTree.{TypeTree, TypeTree-F}
use Rattle.chi_tree.specs.declared.type_tree.Formal.{Formal, Formal-F}
use Rattle.chi_types.specs.declared.ty.Ty.{Ty}
use Rattle.chi_check_types.specs.declared.fault.Fault.{Fault}
use Rattle.chi_check_types.specs.declared.meant.Meant.{Meant}
use Rattle.chi_check_types.specs.declared.rules.TheConstants.{VISIBLE_NAME}
use Rattle.chi_check_types.specs.Faults.{fault}
use Rattle.chi_check_types.specs.Names.{Names}
use Rattle.chi_check_types.specs.Typed.{Typed, after}
use Rattle.chi_check_types.specs.TypeRules.{word_of, named_type, list_of, sized_list_of, set_of, dict_of, dist_of, chan_of, void_chan_of, tuple_of}
use Rattle.chi_check_expr.specs.Reads.{Read, Taken, Reading, Paired, Linked, Field}

abbrev pub faults_of : Option (Typed Meant) → List Fault
faults_of None = []
faults_of (Some t) = t.faults

abbrev pub each_field_faults : List Field → List Fault
each_field_faults [] = []
each_field_faults (f ∷ fs) = faults_of f.ty ++ each_field_faults fs

-- A first field with no type before it stands in no tree of a source. There is nothing whose type it has.
abbrev pub untyped_rule : {A : Type 0} → Option A → Place → List Fault
untyped_rule None place = fault VISIBLE_NAME place ∷ []
untyped_rule (Some t) place = []

-- of the types and places of the fields
abbrev pub first_rule : {A : Type 0} → List (Option A × Place) → List Fault
first_rule [] = []
first_rule (f ∷ fs) = untyped_rule f.0 f.1

abbrev pub placed_field : Field → Option (Typed Meant) × Place
placed_field f = (f.ty, f.name.place)

abbrev pub placed_formal : Formal → Option TypeTree × Place
placed_formal f = (f.ty, f.name.place)

abbrev pub field_faults : List Field → List Fault
field_faults fields = first_rule (map placed_field fields) ++ each_field_faults fields

-- the type before a field, or that of the field before it
abbrev pub field_type : Option Ty → Option (Typed Meant) → Option Ty
field_type last None = last
field_type last (Some t) = option_map (λ m. m.ty) t.made

-- the names and types of the fields, where each has a type
abbrev pub parts_from : Option Ty → List Field → Option (List (List ℕ × Ty))
parts_from last [] = Some []
parts_from last (f ∷ fs) =
    let t = field_type last f.ty in
    option_and_then (λ t. option_map (λ parts. (f.name.text, t) ∷ parts) (parts_from (Some t) fs)) t

module _ (names : Names) where
  abbrev pub type_step : TypeTree-F Read Taken Reading Paired Linked Field → Reading
  type_step (TypeTree-F.Word word place) sizes = word_of place word
  type_step (TypeTree-F.Defined name) sizes = named_type names name
  type_step (TypeTree-F.List place None element) sizes =
      let e = element false in
      after e.faults (list_of place e.made)
  type_step (TypeTree-F.List place (Some size) element) sizes =
      let s = size.typed in
      let e = element sizes in
      after (s.faults ++ e.faults) (sized_list_of place sizes s.made e.made)
  type_step (TypeTree-F.Set place element) sizes =
      let e = element false in
      after e.faults (set_of place e.made)
  type_step (TypeTree-F.Dist place drawn) sizes =
      let d = drawn false in
      after d.faults (dist_of place d.made)
  type_step (TypeTree-F.Dict place key value) sizes =
      let k = key false in
      let v = value false in
      after (k.faults ++ v.faults) (dict_of place k.made v.made)
  type_step (TypeTree-F.Tuple place fields) sizes =
      after (field_faults fields) (tuple_of place (map (λ f. f.name) fields) (parts_from None fields))
  type_step (TypeTree-F.Chan place way None) sizes = void_chan_of place way
  type_step (TypeTree-F.Chan place way (Some carried)) sizes =
      let c = carried false in
      after c.faults (chan_of place way c.made)

abbrev pub formal_step : Formal-F Read Taken Reading Paired Linked Field → Field
formal_step f = record { ty = option_map (λ t. t false) f.ty; name = f.name }
