-- Private to proofs. A type that may have no size, where names are visible that have no types yet: what each node keeps,
-- each tree has.
use Rattle.std.proofs.Common.{ℕ, ◌≡◌, false, List, [], ◌∷◌, ◌++◌, map, Option, Some, None, refl, sym, subst}
use Rattle.chi_token.specs.declared.place.Place.{Place}
use Rattle.chi_tree.specs.declared.type_tree.Name.{Name}
use Rattle.chi_tree.specs.declared.type_tree.TypeTree.{TypeTree, TypeTree-F, roll-TypeTree, map-TypeTree, fold-roll-TypeTree, ind-TypeTree}
use Rattle.chi_tree.specs.declared.type_tree.TypeWord.{TypeWord}
use Rattle.chi_tree.specs.declared.type_tree.Way.{Way}
use Rattle.chi_tree.specs.declared.type_tree.Formal.{Formal, Formal-F, roll-Formal, map-Formal, fold-roll-Formal}
use Rattle.chi_tree.specs.declared.expr.Expr.{Expr}
use Rattle.chi_tree.specs.declared.expr.Postfix.{Postfix}
use Rattle.chi_tree.specs.declared.expr.Entry.{Entry}
use Rattle.chi_tree.specs.declared.expr.Link.{Link}
use Rattle.chi_types.specs.declared.ty.Ty.{Ty}
use Rattle.chi_check_types.specs.declared.fault.Fault.{Fault}
use Rattle.chi_check_types.specs.declared.meant.Made.{Made}
use Rattle.chi_check_types.specs.declared.meant.Meant.{Meant}
use Rattle.chi_check_types.specs.declared.site.Site.{Site}
use Rattle.chi_check_types.specs.Names.{Names}
use Rattle.chi_check_types.specs.TypeRules as types
use Rattle.chi_check_expr.specs.Expressions.{expr_step, postfix_step, entry_step, link_step}
use Rattle.chi_check_expr.specs.Reads.{Read, Taken, Reading, Paired, Linked, Field}
use Rattle.chi_check_expr.specs.TypeTrees.{type_step, formal_step, field_faults, parts_from}
use Rattle.chi_check_expr.specs.Typing.{read, taken, paired, linked, formal, reading, typing}
use Rattle.chi_check_expr.proofs.Kept.{Good, GoodTyped, Each, FieldOk, IfGiven}
use Rattle.chi_check_expr.proofs.Nodes.{right_nil, cons_nil, unless_exact, node_good, one_good, two_good}
use Rattle.chi_check_expr.proofs.Containers.{Fields, fields_good}

-- each node of a type keeps the fact
pub record KeepsTypes (names : Names) (U : Meant → Type 0) : Type 0 where
  pub word : (place : Place) (w : TypeWord) (m : Meant) → (types.word_of place w).made ≡ Some m → U m
  pub named : (name : Name) → GoodTyped U (types.named_type names name)
  pub list_type : (place : Place) (element m : Meant) → U element → (types.list_of place (Some element)).made ≡ Some m → U m
  pub set_type : (place : Place) (element m : Meant) → U element → (types.set_of place (Some element)).made ≡ Some m → U m
  pub dict_type : (place : Place) (key value m : Meant) → U key → U value → (types.dict_of place (Some key) (Some value)).made ≡ Some m → U m
  pub dist : (place : Place) (drawn m : Meant) → U drawn → (types.dist_of place (Some drawn)).made ≡ Some m → U m
  pub tuple_type : (place : Place) (fields : List Name) (parts : List (List ℕ × Ty)) (m : Meant) → Each (FieldOk U) parts → (types.tuple_of place fields (Some parts)).made ≡ Some m → U m
  pub chan : (place : Place) (way : Way) (carried m : Meant) → U carried → (types.chan_of place way (Some carried)).made ≡ Some m → U m
  pub void_chan : (place : Place) (way : Way) (m : Meant) → (types.void_chan_of place way).made ≡ Some m → U m

module _ (U : Meant → Type 0) (site : Site) (names : Names) (k : KeepsTypes names U) where
  -- a size may not stand there
  never_sized : (fs : List Fault) (place : Place) (size : Option Made) (element : Option Meant) → Good U (fs ++ (types.sized_list_of place false size element).faults) (types.sized_list_of place false size element).made
  never_sized fs place None element = λ e. cons_nil _ _ (right_nil fs _ e)
  never_sized fs place (Some size) None = λ e. cons_nil _ _ (right_nil fs _ e)
  never_sized fs place (Some size) (Some element) = λ e. cons_nil _ _ (right_nil fs _ e)

  abbrev GoodReading : Reading → Type 0
  GoodReading r = GoodTyped U (r false)

  abbrev GoodField : Field → Type 0
  GoodField f = IfGiven (GoodTyped U) f.ty

  abbrev XE : Type 0
  XE = (e : Expr) × Unit {0}

  abbrev XP : Type 0
  XP = (p : Postfix) × Unit {0}

  abbrev XT : Type 0
  XT = (t : TypeTree) × GoodReading (reading site names t)

  abbrev XN : Type 0
  XN = (e : Entry) × Unit {0}

  abbrev XL : Type 0
  XL = (l : Link) × Unit {0}

  abbrev XF : Type 0
  XF = (f : Formal) × GoodField (formal site names f)

  fields_such : (ys : List XF) → Fields U (map (formal site names) (map (λ y. y.0) ys))
  fields_such [] = tt
  fields_such (y ∷ ys) = (y.1, fields_such ys)

  abbrev type_parts : TypeTree-F XE XP XT XN XL XF → TypeTree-F Expr Postfix TypeTree Entry Link Formal
  type_parts y = map-TypeTree XE XP XT XN XL XF Expr Postfix TypeTree Entry Link Formal (λ y. y.0) (λ y. y.0) (λ y. y.0) (λ y. y.0) (λ y. y.0) (λ y. y.0) y

  abbrev of_type_parts : TypeTree-F Expr Postfix TypeTree Entry Link Formal → Reading
  of_type_parts o = type_step names (map-TypeTree Expr Postfix TypeTree Entry Link Formal Read Taken Reading Paired Linked Field (read site names) (taken site names) (reading site names) (paired site names) (linked site names) (formal site names) o)

  type_good : (y : TypeTree-F XE XP XT XN XL XF) → GoodReading (of_type_parts (type_parts y))
  type_good (TypeTree-F.Word word place) = node_good U (types.word_of place word) (unless_exact _ _) (k.word place word)
  type_good (TypeTree-F.Defined name) = k.named name
  type_good (TypeTree-F.List place None t) =
      one_good U U (types.list_of place) refl (λ u x. node_good U _ (unless_exact _ _) (λ m. k.list_type place u m x)) (reading site names t.0 false) t.1
  type_good (TypeTree-F.List place (Some s) t) =
      never_sized ((typing site names s.0).faults ++ (reading site names t.0 false).faults) place (typing site names s.0).made (reading site names t.0 false).made
  type_good (TypeTree-F.Set place t) =
      one_good U U (types.set_of place) refl (λ u x. node_good U _ (unless_exact _ _) (λ m. k.set_type place u m x)) (reading site names t.0 false) t.1
  type_good (TypeTree-F.Dist place t) =
      one_good U U (types.dist_of place) refl (λ u x. node_good U _ (unless_exact _ _) (λ m. k.dist place u m x)) (reading site names t.0 false) t.1
  type_good (TypeTree-F.Dict place s t) =
      two_good U U U (types.dict_of place) (λ b. refl) (λ a. refl) (λ a b x y. node_good U _ (unless_exact _ _) (λ m. k.dict_type place a b m x y)) (reading site names s.0 false) (reading site names t.0 false) s.1 t.1
  type_good (TypeTree-F.Tuple place fs) =
      let fields = map (formal site names) (map (λ y. y.0) fs) in
      one_good (Each (FieldOk U)) U (types.tuple_of place (map (λ f. f.name) fields)) refl (λ ps x. node_good U _ (unless_exact _ _) (λ m. k.tuple_type place (map (λ f. f.name) fields) ps m x))
      (record { faults = field_faults fields; made = parts_from None fields }) (fields_good U fields (fields_such fs))
  type_good (TypeTree-F.Chan place way None) = node_good U (types.void_chan_of place way) (unless_exact _ _) (k.void_chan place way)
  type_good (TypeTree-F.Chan place way (Some t)) =
      one_good U U (types.chan_of place way) refl (λ u x. node_good U _ (unless_exact _ _) (λ m. k.chan place way u m x)) (reading site names t.0 false) t.1

  typed_good : (ty : Option XT) (name : Name) → GoodField (formal_step (map-Formal Expr Postfix TypeTree Entry Link Formal Read Taken Reading Paired Linked Field (read site names) (taken site names) (reading site names) (paired site names) (linked site names) (formal site names) (map-Formal XE XP XT XN XL XF Expr Postfix TypeTree Entry Link Formal (λ y. y.0) (λ y. y.0) (λ y. y.0) (λ y. y.0) (λ y. y.0) (λ y. y.0) (record { ty = ty; name = name }))))
  typed_good None name = tt
  typed_good (Some t) name = t.1

  type_rolled : (o : TypeTree-F Expr Postfix TypeTree Entry Link Formal) → reading site names (roll-TypeTree o) ≡ of_type_parts o
  unfolding read taken paired linked formal reading
  type_rolled o = fold-roll-TypeTree Read Taken Reading Paired Linked Field (expr_step site names) postfix_step (type_step names) entry_step link_step formal_step o

  formal_rolled : (o : Formal-F Expr Postfix TypeTree Entry Link Formal) → formal site names (roll-Formal o) ≡ formal_step (map-Formal Expr Postfix TypeTree Entry Link Formal Read Taken Reading Paired Linked Field (read site names) (taken site names) (reading site names) (paired site names) (linked site names) (formal site names) o)
  unfolding read taken paired linked formal reading
  formal_rolled o = fold-roll-Formal Read Taken Reading Paired Linked Field (expr_step site names) postfix_step (type_step names) entry_step link_step formal_step o

  abbrev PT : TypeTree → Type 0
  PT t = GoodReading (reading site names t)

  abbrev PF : Formal → Type 0
  PF f = GoodField (formal site names f)

  pub reading_unsized : (t : TypeTree) → GoodTyped U (reading site names t false)
  reading_unsized = ind-TypeTree (λ e. Unit {0}) (λ p. Unit {0}) PT (λ e. Unit {0}) (λ l. Unit {0}) PF
      (λ x y h. tt)
      (λ x y h. tt)
      (λ x y h. subst (λ x. PT (roll-TypeTree x)) h (subst GoodReading (sym (type_rolled _)) (type_good y)))
      (λ x y h. tt)
      (λ x y h. tt)
      (λ x y h. subst (λ x. PF (roll-Formal x)) h (subst GoodField (sym (formal_rolled _)) (typed_good y.ty y.name)))
