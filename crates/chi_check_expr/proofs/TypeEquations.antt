-- Private to proofs. What each construct of a type means.
use Rattle.std.proofs.Common.{◌≡◌, Bool, false, List, [], ◌∷◌, ◌++◌, map, Option, Some, None, refl, ap, ◌∙◌}
use Rattle.chi_token.specs.declared.place.Place.{Place}
use Rattle.chi_tree.specs.declared.type_tree.Name.{Name}
use Rattle.chi_tree.specs.declared.type_tree.TypeWord.{TypeWord}
use Rattle.chi_tree.specs.declared.type_tree.Way.{Way}
use Rattle.chi_tree.specs.declared.type_tree.Formal.{Formal}
use Rattle.chi_tree.specs.declared.type_tree.TypeTree.{TypeTree, TypeTree-F, out-TypeTree}
use Rattle.chi_tree.specs.declared.type_tree.TypeTree.TheVariants as type
use Rattle.chi_tree.specs.declared.expr.Expr.{Expr}
use Rattle.chi_check_types.specs.declared.fault.Fault.{Fault}
use Rattle.chi_check_types.specs.declared.meant.Meant.{Meant}
use Rattle.chi_check_types.specs.declared.site.Site.{Site}
use Rattle.chi_check_types.specs.Faults.{first_of}
use Rattle.chi_check_types.specs.Names.{Names}
use Rattle.chi_check_types.specs.Typed.{Typed, after}
use Rattle.chi_check_types.specs.TypeRules as list
use Rattle.chi_check_types.specs.TypeRules.{word_of, named_type, sized_list_of, dist_of, chan_of, void_chan_of}
use Rattle.chi_check_expr.specs.Reads.{Reading, Field, made_of}
use Rattle.chi_check_expr.specs.TypeTrees.{field_faults, parts_from}
use Rattle.chi_check_expr.specs.Typing.{formal, reading, typing}
use Rattle.chi_check_expr.proofs.Opened.{reading_is, named_formal, noted_one, noted_two}

module _ (site : Site) (names : Names) where
  Word_typed : (t : TypeTree) (sizes : Bool) (word : TypeWord) (place : Place) → t ≡ type.Word word place → reading site names t sizes ≡ word_of place word
  Word_typed t sizes word place h = ap (λ (r : Reading). r sizes) (reading_is site names t (TypeTree-F.Word word place) (ap out-TypeTree h ∙ type.outs-Word word place))

  pub made_Word : (t : TypeTree) (sizes : Bool) (word : TypeWord) (place : Place) → t ≡ type.Word word place → (reading site names t sizes).made ≡ (word_of place word).made
  made_Word t sizes word place h = ap made_of (Word_typed t sizes word place h)

  pub noted_Word : (kept : Option Fault) (t : TypeTree) (sizes : Bool) (word : TypeWord) (place : Place) → t ≡ type.Word word place → first_of kept (reading site names t sizes).faults ≡ first_of kept (word_of place word).faults
  noted_Word kept t sizes word place h = ap (λ (x : Typed Meant). first_of kept x.faults) (Word_typed t sizes word place h)

  Defined_typed : (t : TypeTree) (sizes : Bool) (name : Name) → t ≡ type.Defined name → reading site names t sizes ≡ named_type names name
  Defined_typed t sizes name h = ap (λ (r : Reading). r sizes) (reading_is site names t (TypeTree-F.Defined name) (ap out-TypeTree h ∙ type.outs-Defined name))

  pub made_Defined : (t : TypeTree) (sizes : Bool) (name : Name) → t ≡ type.Defined name → (reading site names t sizes).made ≡ (named_type names name).made
  made_Defined t sizes name h = ap made_of (Defined_typed t sizes name h)

  pub noted_Defined : (kept : Option Fault) (t : TypeTree) (sizes : Bool) (name : Name) → t ≡ type.Defined name → first_of kept (reading site names t sizes).faults ≡ first_of kept (named_type names name).faults
  noted_Defined kept t sizes name h = ap (λ (x : Typed Meant). first_of kept x.faults) (Defined_typed t sizes name h)

  List_plain_typed : (t : TypeTree) (sizes : Bool) (place : Place) (element : TypeTree) → t ≡ type.List place None element → reading site names t sizes ≡ after (reading site names element false).faults (list.list_of place (reading site names element false).made)
  List_plain_typed t sizes place element h = ap (λ (r : Reading). r sizes) (reading_is site names t (TypeTree-F.List place None element) (ap out-TypeTree h ∙ type.outs-List place None element))

  pub made_List_plain : (t : TypeTree) (sizes : Bool) (place : Place) (element : TypeTree) → t ≡ type.List place None element → (reading site names t sizes).made ≡ (list.list_of place (reading site names element false).made).made
  made_List_plain t sizes place element h = ap made_of (List_plain_typed t sizes place element h)

  pub noted_List_plain : (kept : Option Fault) (t : TypeTree) (sizes : Bool) (place : Place) (element : TypeTree) → t ≡ type.List place None element → first_of kept (reading site names t sizes).faults ≡ first_of (first_of kept (reading site names element false).faults) (list.list_of place (reading site names element false).made).faults
  noted_List_plain kept t sizes place element h = ap (λ (x : Typed Meant). first_of kept x.faults) (List_plain_typed t sizes place element h) ∙ noted_one kept (reading site names element false).faults _

  List_sized_typed : (t : TypeTree) (sizes : Bool) (place : Place) (size : Expr) (element : TypeTree) → t ≡ type.List place (Some size) element → reading site names t sizes ≡ after ((typing site names size).faults ++ (reading site names element sizes).faults) (sized_list_of place sizes (typing site names size).made (reading site names element sizes).made)
  List_sized_typed t sizes place size element h = ap (λ (r : Reading). r sizes) (reading_is site names t (TypeTree-F.List place (Some size) element) (ap out-TypeTree h ∙ type.outs-List place (Some size) element))

  pub made_List_sized : (t : TypeTree) (sizes : Bool) (place : Place) (size : Expr) (element : TypeTree) → t ≡ type.List place (Some size) element → (reading site names t sizes).made ≡ (sized_list_of place sizes (typing site names size).made (reading site names element sizes).made).made
  made_List_sized t sizes place size element h = ap made_of (List_sized_typed t sizes place size element h)

  pub noted_List_sized : (kept : Option Fault) (t : TypeTree) (sizes : Bool) (place : Place) (size : Expr) (element : TypeTree) → t ≡ type.List place (Some size) element → first_of kept (reading site names t sizes).faults ≡ first_of (first_of (first_of kept (typing site names size).faults) (reading site names element sizes).faults) (sized_list_of place sizes (typing site names size).made (reading site names element sizes).made).faults
  noted_List_sized kept t sizes place size element h = ap (λ (x : Typed Meant). first_of kept x.faults) (List_sized_typed t sizes place size element h) ∙ noted_two kept (typing site names size).faults (reading site names element sizes).faults _

  Set_typed : (t : TypeTree) (sizes : Bool) (place : Place) (element : TypeTree) → t ≡ type.Set place element → reading site names t sizes ≡ after (reading site names element false).faults (list.set_of place (reading site names element false).made)
  Set_typed t sizes place element h = ap (λ (r : Reading). r sizes) (reading_is site names t (TypeTree-F.Set place element) (ap out-TypeTree h ∙ type.outs-Set place element))

  pub made_Set : (t : TypeTree) (sizes : Bool) (place : Place) (element : TypeTree) → t ≡ type.Set place element → (reading site names t sizes).made ≡ (list.set_of place (reading site names element false).made).made
  made_Set t sizes place element h = ap made_of (Set_typed t sizes place element h)

  pub noted_Set : (kept : Option Fault) (t : TypeTree) (sizes : Bool) (place : Place) (element : TypeTree) → t ≡ type.Set place element → first_of kept (reading site names t sizes).faults ≡ first_of (first_of kept (reading site names element false).faults) (list.set_of place (reading site names element false).made).faults
  noted_Set kept t sizes place element h = ap (λ (x : Typed Meant). first_of kept x.faults) (Set_typed t sizes place element h) ∙ noted_one kept (reading site names element false).faults _

  Dist_typed : (t : TypeTree) (sizes : Bool) (place : Place) (drawn : TypeTree) → t ≡ type.Dist place drawn → reading site names t sizes ≡ after (reading site names drawn false).faults (dist_of place (reading site names drawn false).made)
  Dist_typed t sizes place drawn h = ap (λ (r : Reading). r sizes) (reading_is site names t (TypeTree-F.Dist place drawn) (ap out-TypeTree h ∙ type.outs-Dist place drawn))

  pub made_Dist : (t : TypeTree) (sizes : Bool) (place : Place) (drawn : TypeTree) → t ≡ type.Dist place drawn → (reading site names t sizes).made ≡ (dist_of place (reading site names drawn false).made).made
  made_Dist t sizes place drawn h = ap made_of (Dist_typed t sizes place drawn h)

  pub noted_Dist : (kept : Option Fault) (t : TypeTree) (sizes : Bool) (place : Place) (drawn : TypeTree) → t ≡ type.Dist place drawn → first_of kept (reading site names t sizes).faults ≡ first_of (first_of kept (reading site names drawn false).faults) (dist_of place (reading site names drawn false).made).faults
  noted_Dist kept t sizes place drawn h = ap (λ (x : Typed Meant). first_of kept x.faults) (Dist_typed t sizes place drawn h) ∙ noted_one kept (reading site names drawn false).faults _

  Dict_typed : (t : TypeTree) (sizes : Bool) (place : Place) (key : TypeTree) (value : TypeTree) → t ≡ type.Dict place key value → reading site names t sizes ≡ after ((reading site names key false).faults ++ (reading site names value false).faults) (list.dict_of place (reading site names key false).made (reading site names value false).made)
  Dict_typed t sizes place key value h = ap (λ (r : Reading). r sizes) (reading_is site names t (TypeTree-F.Dict place key value) (ap out-TypeTree h ∙ type.outs-Dict place key value))

  pub made_Dict : (t : TypeTree) (sizes : Bool) (place : Place) (key : TypeTree) (value : TypeTree) → t ≡ type.Dict place key value → (reading site names t sizes).made ≡ (list.dict_of place (reading site names key false).made (reading site names value false).made).made
  made_Dict t sizes place key value h = ap made_of (Dict_typed t sizes place key value h)

  pub noted_Dict : (kept : Option Fault) (t : TypeTree) (sizes : Bool) (place : Place) (key : TypeTree) (value : TypeTree) → t ≡ type.Dict place key value → first_of kept (reading site names t sizes).faults ≡ first_of (first_of (first_of kept (reading site names key false).faults) (reading site names value false).faults) (list.dict_of place (reading site names key false).made (reading site names value false).made).faults
  noted_Dict kept t sizes place key value h = ap (λ (x : Typed Meant). first_of kept x.faults) (Dict_typed t sizes place key value h) ∙ noted_two kept (reading site names key false).faults (reading site names value false).faults _

  names_of : (fields : List Formal) → map (λ (f : Field). f.name) (map (formal site names) fields) ≡ map (λ (f : Formal). f.name) fields
  names_of [] = refl
  names_of (f ∷ fs) = (λ i. named_formal site names f i ∷ names_of fs i)

  Tuple_typed : (t : TypeTree) (sizes : Bool) (place : Place) (fields : List Formal) → t ≡ type.Tuple place fields → reading site names t sizes ≡ after (field_faults (map (formal site names) fields)) (list.tuple_of place (map (λ (f : Formal). f.name) fields) (parts_from None (map (formal site names) fields)))
  Tuple_typed t sizes place fields h = ap (λ (r : Reading). r sizes) (reading_is site names t (TypeTree-F.Tuple place fields) (ap out-TypeTree h ∙ type.outs-Tuple place fields))
      ∙ ap (λ ns. after (field_faults (map (formal site names) fields)) (list.tuple_of place ns (parts_from None (map (formal site names) fields)))) (names_of fields)

  pub made_Tuple : (t : TypeTree) (sizes : Bool) (place : Place) (fields : List Formal) → t ≡ type.Tuple place fields → (reading site names t sizes).made ≡ (list.tuple_of place (map (λ (f : Formal). f.name) fields) (parts_from None (map (formal site names) fields))).made
  made_Tuple t sizes place fields h = ap made_of (Tuple_typed t sizes place fields h)

  pub noted_Tuple : (kept : Option Fault) (t : TypeTree) (sizes : Bool) (place : Place) (fields : List Formal) → t ≡ type.Tuple place fields → first_of kept (reading site names t sizes).faults ≡ first_of (first_of kept (field_faults (map (formal site names) fields))) (list.tuple_of place (map (λ (f : Formal). f.name) fields) (parts_from None (map (formal site names) fields))).faults
  noted_Tuple kept t sizes place fields h = ap (λ (x : Typed Meant). first_of kept x.faults) (Tuple_typed t sizes place fields h) ∙ noted_one kept (field_faults (map (formal site names) fields)) _

  Chan_void_typed : (t : TypeTree) (sizes : Bool) (place : Place) (way : Way) → t ≡ type.Chan place way None → reading site names t sizes ≡ void_chan_of place way
  Chan_void_typed t sizes place way h = ap (λ (r : Reading). r sizes) (reading_is site names t (TypeTree-F.Chan place way None) (ap out-TypeTree h ∙ type.outs-Chan place way None))

  pub made_Chan_void : (t : TypeTree) (sizes : Bool) (place : Place) (way : Way) → t ≡ type.Chan place way None → (reading site names t sizes).made ≡ (void_chan_of place way).made
  made_Chan_void t sizes place way h = ap made_of (Chan_void_typed t sizes place way h)

  pub noted_Chan_void : (kept : Option Fault) (t : TypeTree) (sizes : Bool) (place : Place) (way : Way) → t ≡ type.Chan place way None → first_of kept (reading site names t sizes).faults ≡ first_of kept (void_chan_of place way).faults
  noted_Chan_void kept t sizes place way h = ap (λ (x : Typed Meant). first_of kept x.faults) (Chan_void_typed t sizes place way h)

  Chan_of_typed : (t : TypeTree) (sizes : Bool) (place : Place) (way : Way) (carried : TypeTree) → t ≡ type.Chan place way (Some carried) → reading site names t sizes ≡ after (reading site names carried false).faults (chan_of place way (reading site names carried false).made)
  Chan_of_typed t sizes place way carried h = ap (λ (r : Reading). r sizes) (reading_is site names t (TypeTree-F.Chan place way (Some carried)) (ap out-TypeTree h ∙ type.outs-Chan place way (Some carried)))

  pub made_Chan_of : (t : TypeTree) (sizes : Bool) (place : Place) (way : Way) (carried : TypeTree) → t ≡ type.Chan place way (Some carried) → (reading site names t sizes).made ≡ (chan_of place way (reading site names carried false).made).made
  made_Chan_of t sizes place way carried h = ap made_of (Chan_of_typed t sizes place way carried h)

  pub noted_Chan_of : (kept : Option Fault) (t : TypeTree) (sizes : Bool) (place : Place) (way : Way) (carried : TypeTree) → t ≡ type.Chan place way (Some carried) → first_of kept (reading site names t sizes).faults ≡ first_of (first_of kept (reading site names carried false).faults) (chan_of place way (reading site names carried false).made).faults
  noted_Chan_of kept t sizes place way carried h = ap (λ (x : Typed Meant). first_of kept x.faults) (Chan_of_typed t sizes place way carried h) ∙ noted_one kept (reading site names carried false).faults _
