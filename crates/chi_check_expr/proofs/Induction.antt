-- Private to proofs. What each node keeps, each tree has: the induction over trees, once for every fact.
use Rattle.std.proofs.Common.{◌≡◌, Bool, false, List, [], ◌∷◌, ◌++◌, map, Option, Some, None, refl, sym, ap, subst, ◌∙◌, append_assoc}
use Rattle.chi_token.specs.declared.place.Place.{Place}
use Rattle.chi_tree.specs.declared.type_tree.Name.{Name}
use Rattle.chi_tree.specs.declared.type_tree.TypeTree.{TypeTree, TypeTree-F, roll-TypeTree, map-TypeTree, fold-roll-TypeTree, ind-TypeTree}
use Rattle.chi_tree.specs.declared.type_tree.Formal.{Formal, Formal-F, roll-Formal, map-Formal, fold-roll-Formal}
use Rattle.chi_tree.specs.declared.expr.Expr.{Expr, Expr-F, roll-Expr, map-Expr, fold-roll-Expr, ind-Expr}
use Rattle.chi_tree.specs.declared.expr.Postfix.{Postfix, Postfix-F, roll-Postfix, map-Postfix, fold-roll-Postfix}
use Rattle.chi_tree.specs.declared.expr.Entry.{Entry, Entry-F, roll-Entry, map-Entry, fold-roll-Entry}
use Rattle.chi_tree.specs.declared.expr.Link.{Link, Link-F, roll-Link, map-Link, fold-roll-Link}
use Rattle.chi_check_types.specs.declared.fault.Fault.{Fault}
use Rattle.chi_check_types.specs.declared.meant.Made.{Made}
use Rattle.chi_check_types.specs.declared.meant.Meant.{Meant}
use Rattle.chi_check_types.specs.declared.rules.TheConstants.{LITERAL_RANGE, OPERATOR, INDEX, FIELD, PREDEFINED}
use Rattle.chi_check_types.specs.declared.site.Site.{Site}
use Rattle.chi_check_types.specs.Names.{Names}
use Rattle.chi_check_types.specs.Typed.{Typed, after}
use Rattle.chi_check_types.specs.TypeRules as types
use Rattle.chi_check_expr_rules.specs.Nodes.{all_made}
use Rattle.chi_check_expr_rules.specs.Literals.{int_literal, real_literal}
use Rattle.chi_check_expr_rules.specs.Named.{time_of}
use Rattle.chi_check_expr_rules.specs.Operators.{binary, power, prefixed, prefix_rule, prefix_made, chain_of, power_of, prefix_of}
use Rattle.chi_check_expr_rules.specs.Comparisons.{related, relation_of}
use Rattle.chi_check_expr_rules.specs.Casts.{cast, timer_rule, cast_made, cast_of}
use Rattle.chi_check_expr_rules.specs.Parts.{indexed, index_of, slice_of, field_of}
use Rattle.chi_check_expr_rules.specs.Parts as part
use Rattle.chi_check_expr_rules.specs.Containers as literals
use Rattle.chi_check_expr.specs.Clean.{Clean}
use Rattle.chi_check_expr.specs.Expressions.{expr_step, postfix_step, entry_step, link_step, chained, parted, part_of}
use Rattle.chi_check_expr.specs.Reads.{Read, Taken, index, slice, field, Reading, Paired, Linked, Field, typed_of, made_of, all_faults}
use Rattle.chi_check_expr.specs.TypeTrees.{type_step, formal_step, field_faults, parts_from}
use Rattle.chi_check_expr.specs.Typing.{read, taken, paired, linked, formal, reading, typing}
use Rattle.chi_check_expr.proofs.Kept.{Good, GoodTyped, Each, FieldOk, IfGiven, typed_parts, Keeps}
use Rattle.chi_check_expr.proofs.Nodes.{both_nil, left_nil, unless_exact, settled_exact, settled_made, barred_exact, barred_none, node_good, one_good, two_good, AllGood, all_good, list_good}
use Rattle.chi_check_expr.proofs.Containers.{tuple_whole, tuple_none, list_whole, list_none, set_whole, set_none, Paireds, dict_good, GoodBounds, slice_good, Fields, fields_good}
use Rattle.chi_check_expr.proofs.Calling.{named_good, named_type_good, call_good}

module _ (T : Made → Type 0) (U : Meant → Type 0) (site : Site) (names : Names) (clean : Clean names) (k : Keeps site names T U) where
  -- ---- what each member of the cycle has

  abbrev pub GoodRead : Read → Type 0
  GoodRead r = GoodTyped T r.typed

  abbrev pub GoodTaken : Taken → Type 0
  GoodTaken (index place t) = GoodTyped T t
  GoodTaken (slice place b) = GoodBounds T b
  GoodTaken (field name) = Unit {0}

  abbrev pub GoodReading : Reading → Type 0
  GoodReading r = (sizes : Bool) → GoodTyped U (r sizes)

  abbrev pub GoodPaired : Paired → Type 0
  GoodPaired e = GoodTyped T e.key × GoodTyped T e.value

  abbrev pub GoodLinked : Linked → Type 0
  GoodLinked l = GoodTyped T l.operand

  abbrev pub GoodField : Field → Type 0
  GoodField f = IfGiven (GoodTyped U) f.ty

  abbrev Linkeds : List Linked → Type 0
  Linkeds [] = Unit {0}
  Linkeds (l ∷ ls) = GoodLinked l × Linkeds ls

  abbrev Takens : List Taken → Type 0
  Takens [] = Unit {0}
  Takens (t ∷ ts) = GoodTaken t × Takens ts

  abbrev typed : List Fault → Option Made → Typed Made
  typed fs m = record { faults = fs; made = m }

  -- ---- chains and parts, from the left

  again : (fs gs hs more : List Fault) (m : Option Made) → Good T (((fs ++ gs) ++ hs) ++ more) m → Good T (fs ++ ((gs ++ hs) ++ more)) m
  again fs gs hs more m = subst (λ xs. Good T xs m) (ap (λ xs. xs ++ more) (append_assoc fs gs hs) ∙ append_assoc fs (gs ++ hs) more)

  chain_good : (fs : List Fault) (left : Option Made) (links : List Linked) → Good T fs left → Linkeds links → Good T (fs ++ (chained left links).faults) (chained left links).made
  chain_good fs None [] g h = λ e. g (left_nil fs [] e)
  chain_good fs (Some m) [] g h = (both_nil fs [] g.0 refl, g.1)
  chain_good fs left (l ∷ ls) g h =
      let both = chain_of l.operator l.place left l.operand.made in
      let now : Good T ((fs ++ l.operand.faults) ++ both.faults) both.made =
      two_good T T T (chain_of l.operator l.place) (λ b. refl) (λ a. refl) (λ a b x y. node_good T (chain_of l.operator l.place (Some a) (Some b)) (settled_exact OPERATOR l.place (binary l.operator a b)) (λ m. k.chain l.operator l.place a b m x y)) (typed fs left) l.operand g h.0 in
      again fs l.operand.faults both.faults (chained both.made ls).faults (chained both.made ls).made (chain_good ((fs ++ l.operand.faults) ++ both.faults) both.made ls now h.1)

  part_good : (fs : List Fault) (whole : Option Made) (t : Taken) → Good T fs whole → GoodTaken t → Good T (fs ++ (part_of whole t).faults) (part_of whole t).made
  part_good fs whole (index place i) g h =
      subst (λ xs. Good T xs (index_of place whole i.made).made) (append_assoc fs i.faults (index_of place whole i.made).faults)
      (two_good T T T (index_of place) (λ b. refl) (λ a. refl) (λ a b x y. node_good T (index_of place (Some a) (Some b)) (settled_exact INDEX place (indexed a b)) (λ m. k.index place a b m x y)) (typed fs whole) i g h)
  part_good fs whole (slice place b) g h =
      subst (λ xs. Good T xs (part_of whole (slice place b)).made) (append_assoc fs _ _) (slice_good T place fs whole b g h k.slice)
  part_good fs whole (field name) g h =
      one_good T T (field_of name) refl (λ a x. node_good T (field_of name (Some a)) (settled_exact FIELD name.place (part.field name.text a)) (λ m. k.field name a m x)) (typed fs whole) g

  parts_good : (fs : List Fault) (whole : Option Made) (ts : List Taken) → Good T fs whole → Takens ts → Good T (fs ++ (parted whole ts).faults) (parted whole ts).made
  parts_good fs None [] g h = λ e. g (left_nil fs [] e)
  parts_good fs (Some m) [] g h = (both_nil fs [] g.0 refl, g.1)
  parts_good fs whole (t ∷ ts) g h =
      let part = part_of whole t in
      subst (λ xs. Good T xs (parted part.made ts).made) (append_assoc fs part.faults (parted part.made ts).faults)
      (parts_good (fs ++ part.faults) part.made ts (part_good fs whole t g h.0) h.1)

  -- ---- the induction

  abbrev XE : Type 0
  XE = (e : Expr) × GoodRead (read site names e)

  abbrev XP : Type 0
  XP = (p : Postfix) × GoodTaken (taken site names p)

  abbrev XT : Type 0
  XT = (t : TypeTree) × GoodReading (reading site names t)

  abbrev XN : Type 0
  XN = (e : Entry) × GoodPaired (paired site names e)

  abbrev XL : Type 0
  XL = (l : Link) × GoodLinked (linked site names l)

  abbrev XF : Type 0
  XF = (f : Formal) × GoodField (formal site names f)

  all_such : (ys : List XE) → AllGood T (map typed_of (map (read site names) (map (λ y. y.0) ys)))
  all_such [] = tt
  all_such (y ∷ ys) = (y.1, all_such ys)

  links_such : (ys : List XL) → Linkeds (map (linked site names) (map (λ y. y.0) ys))
  links_such [] = tt
  links_such (y ∷ ys) = (y.1, links_such ys)

  takens_such : (ys : List XP) → Takens (map (taken site names) (map (λ y. y.0) ys))
  takens_such [] = tt
  takens_such (y ∷ ys) = (y.1, takens_such ys)

  entries_such : (ys : List XN) → Paireds T (map (paired site names) (map (λ y. y.0) ys))
  entries_such [] = tt
  entries_such (y ∷ ys) = (y.1, entries_such ys)

  fields_such : (ys : List XF) → Fields U (map (formal site names) (map (λ y. y.0) ys))
  fields_such [] = tt
  fields_such (y ∷ ys) = (y.1, fields_such ys)

  parts_of : (node : Place → List (Option Made) → Typed Made) (place : Place) (ts : List (Typed Made)) → ((ms : List (Option Made)) → all_made ms ≡ None → (node place ms).made ≡ None)
      → ((xs : List Made) → Each T xs → GoodTyped T (node place (typed_parts xs))) → AllGood T ts → GoodTyped T (after (all_faults ts) (node place (map made_of ts)))
  parts_of node place ts n h g = list_good T T (node place) n h (all_faults ts) (map made_of ts) (all_good T ts g)

  abbrev parts : Expr-F XE XP XT XN XL XF → Expr-F Expr Postfix TypeTree Entry Link Formal
  parts y = map-Expr XE XP XT XN XL XF Expr Postfix TypeTree Entry Link Formal (λ y. y.0) (λ y. y.0) (λ y. y.0) (λ y. y.0) (λ y. y.0) (λ y. y.0) y

  abbrev of_parts : Expr-F Expr Postfix TypeTree Entry Link Formal → Read
  of_parts o = expr_step site names (map-Expr Expr Postfix TypeTree Entry Link Formal Read Taken Reading Paired Linked Field (read site names) (taken site names) (reading site names) (paired site names) (linked site names) (formal site names) o)

  expr_good : (y : Expr-F XE XP XT XN XL XF) → GoodRead (of_parts (parts y))
  expr_good (Expr-F.Chain a ls) = chain_good (typing site names a.0).faults (typing site names a.0).made (map (linked site names) (map (λ y. y.0) ls)) a.1 (links_such ls)
  expr_good (Expr-F.Prefix sign place a) =
      one_good T T (prefix_of site sign place) (barred_none (prefix_rule site sign place) (prefix_made sign place None) refl)
      (λ a x. node_good T (prefix_of site sign place (Some a)) (barred_exact (prefix_rule site sign place) (prefix_made sign place (Some a)) (settled_exact OPERATOR place (prefixed sign a))) (λ m. k.prefix sign place a m x)) (typing site names a.0) a.1
  expr_good (Expr-F.Relation a sign place b) =
      two_good T T T (relation_of sign place) (λ b. refl) (λ a. refl) (λ a b x y. node_good T (relation_of sign place (Some a) (Some b)) (settled_exact OPERATOR place (related sign a b)) (λ m. k.relation sign place a b m x y)) (typing site names a.0) (typing site names b.0) a.1 b.1
  expr_good (Expr-F.Power a place b) =
      two_good T T T (power_of place) (λ b. refl) (λ a. refl) (λ a b x y. node_good T (power_of place (Some a) (Some b)) (settled_exact OPERATOR place (power a b)) (λ m. k.power place a b m x y)) (typing site names a.0) (typing site names b.0) a.1 b.1
  expr_good (Expr-F.Part a ps) = parts_good (typing site names a.0).faults (typing site names a.0).made (map (taken site names) (map (λ y. y.0) ps)) a.1 (takens_such ps)
  expr_good (Expr-F.Int digits place) = node_good T _ (settled_exact LITERAL_RANGE place (int_literal digits)) (λ m h. k.int digits m (settled_made LITERAL_RANGE place (int_literal digits) m h))
  expr_good (Expr-F.Real digits place) = node_good T _ (settled_exact LITERAL_RANGE place (real_literal digits)) (λ m h. k.real digits m (settled_made LITERAL_RANGE place (real_literal digits) m h))
  expr_good (Expr-F.Text bytes place) = (refl, k.text bytes)
  expr_good (Expr-F.Bool truth place) = (refl, k.bool truth)
  expr_good (Expr-F.Time place) = node_good T (time_of site place) (unless_exact _ _) (k.time place)
  expr_good (Expr-F.Named name) = named_good T U site names clean k name
  expr_good (Expr-F.Call name es) = call_good T U site names clean k name (map (read site names) (map (λ y. y.0) es)) (all_such es)
  expr_good (Expr-F.Cast word place a) =
      one_good T T (cast_of site word place) (barred_none (timer_rule site word place None) (cast_made word place None) refl)
      (λ a x. node_good T (cast_of site word place (Some a)) (barred_exact (timer_rule site word place (Some a)) (cast_made word place (Some a)) (settled_exact PREDEFINED place (cast word a))) (λ m. k.cast word place a m x)) (typing site names a.0) a.1
  expr_good (Expr-F.Round place a) = a.1
  expr_good (Expr-F.TupleOf place es) =
      parts_of literals.tuple_of place (map typed_of (map (read site names) (map (λ y. y.0) es))) (tuple_none place) (λ xs h. node_good T _ (tuple_whole place xs) (λ m. k.tuple place xs m h)) (all_such es)
  expr_good (Expr-F.ListOf place es) =
      parts_of literals.list_of place (map typed_of (map (read site names) (map (λ y. y.0) es))) (list_none place) (λ xs h. node_good T _ (list_whole place xs) (λ m. k.list place xs m h)) (all_such es)
  expr_good (Expr-F.SetOf place es) =
      parts_of literals.set_of place (map typed_of (map (read site names) (map (λ y. y.0) es))) (set_none place) (λ xs h. node_good T _ (set_whole place xs) (λ m. k.set place xs m h)) (all_such es)
  expr_good (Expr-F.DictOf place es) = dict_good T place (map (paired site names) (map (λ y. y.0) es)) (entries_such es) (k.dict place)
  expr_good (Expr-F.EmptyList place t) =
      one_good U T (literals.empty_list place) refl (λ u x. node_good T _ (unless_exact _ _) (λ m. k.empty_list place u m x)) (reading site names t.0 false) (t.1 false)
  expr_good (Expr-F.EmptySet place t) =
      one_good U T (literals.empty_set place) refl (λ u x. node_good T _ (unless_exact _ _) (λ m. k.empty_set place u m x)) (reading site names t.0 false) (t.1 false)
  expr_good (Expr-F.EmptyDict place s t) =
      two_good U U T (literals.empty_dict place) (λ b. refl) (λ a. refl) (λ a b x y. node_good T _ (unless_exact _ _) (λ m. k.empty_dict place a b m x y)) (reading site names s.0 false) (reading site names t.0 false) (s.1 false) (t.1 false)

  abbrev type_parts : TypeTree-F XE XP XT XN XL XF → TypeTree-F Expr Postfix TypeTree Entry Link Formal
  type_parts y = map-TypeTree XE XP XT XN XL XF Expr Postfix TypeTree Entry Link Formal (λ y. y.0) (λ y. y.0) (λ y. y.0) (λ y. y.0) (λ y. y.0) (λ y. y.0) y

  abbrev of_type_parts : TypeTree-F Expr Postfix TypeTree Entry Link Formal → Reading
  of_type_parts o = type_step names (map-TypeTree Expr Postfix TypeTree Entry Link Formal Read Taken Reading Paired Linked Field (read site names) (taken site names) (reading site names) (paired site names) (linked site names) (formal site names) o)

  type_good : (y : TypeTree-F XE XP XT XN XL XF) (sizes : Bool) → GoodTyped U (of_type_parts (type_parts y) sizes)
  type_good (TypeTree-F.Word word place) sizes = node_good U (types.word_of place word) (unless_exact _ _) (k.word place word)
  type_good (TypeTree-F.Defined name) sizes = named_type_good T U site names clean k name
  type_good (TypeTree-F.List place None t) sizes =
      one_good U U (types.list_of place) refl (λ u x. node_good U _ (unless_exact _ _) (λ m. k.list_type place u m x)) (reading site names t.0 false) (t.1 false)
  type_good (TypeTree-F.List place (Some s) t) sizes =
      two_good T U U (types.sized_list_of place sizes) (λ b. refl) (λ a. refl) (λ a b x y. node_good U _ (unless_exact _ _) (λ m. k.sized_list place sizes a b m x y)) (typing site names s.0) (reading site names t.0 sizes) s.1 (t.1 sizes)
  type_good (TypeTree-F.Set place t) sizes =
      one_good U U (types.set_of place) refl (λ u x. node_good U _ (unless_exact _ _) (λ m. k.set_type place u m x)) (reading site names t.0 false) (t.1 false)
  type_good (TypeTree-F.Dist place t) sizes =
      one_good U U (types.dist_of place) refl (λ u x. node_good U _ (unless_exact _ _) (λ m. k.dist place u m x)) (reading site names t.0 false) (t.1 false)
  type_good (TypeTree-F.Dict place s t) sizes =
      two_good U U U (types.dict_of place) (λ b. refl) (λ a. refl) (λ a b x y. node_good U _ (unless_exact _ _) (λ m. k.dict_type place a b m x y)) (reading site names s.0 false) (reading site names t.0 false) (s.1 false) (t.1 false)
  type_good (TypeTree-F.Tuple place fs) sizes =
      let fields = map (formal site names) (map (λ y. y.0) fs) in
      one_good (Each (FieldOk U)) U (types.tuple_of place (map (λ f. f.name) fields)) refl (λ ps x. node_good U _ (unless_exact _ _) (λ m. k.tuple_type place (map (λ f. f.name) fields) ps m x))
      (record { faults = field_faults fields; made = parts_from None fields }) (fields_good U fields (fields_such fs))
  type_good (TypeTree-F.Chan place way None) sizes = node_good U (types.void_chan_of place way) (unless_exact _ _) (k.void_chan place way)
  type_good (TypeTree-F.Chan place way (Some t)) sizes =
      one_good U U (types.chan_of place way) refl (λ u x. node_good U _ (unless_exact _ _) (λ m. k.chan place way u m x)) (reading site names t.0 false) (t.1 false)

  taken_good : (y : Postfix-F XE XP XT XN XL XF) → GoodTaken (postfix_step (map-Postfix Expr Postfix TypeTree Entry Link Formal Read Taken Reading Paired Linked Field (read site names) (taken site names) (reading site names) (paired site names) (linked site names) (formal site names) (map-Postfix XE XP XT XN XL XF Expr Postfix TypeTree Entry Link Formal (λ y. y.0) (λ y. y.0) (λ y. y.0) (λ y. y.0) (λ y. y.0) (λ y. y.0) y)))
  taken_good (Postfix-F.Index place e) = e.1
  taken_good (Postfix-F.Slice place None None second None) = (tt, tt, tt)
  taken_good (Postfix-F.Slice place None None second (Some c)) = (tt, tt, c.1)
  taken_good (Postfix-F.Slice place None (Some b) second None) = (tt, b.1, tt)
  taken_good (Postfix-F.Slice place None (Some b) second (Some c)) = (tt, b.1, c.1)
  taken_good (Postfix-F.Slice place (Some a) None second None) = (a.1, tt, tt)
  taken_good (Postfix-F.Slice place (Some a) None second (Some c)) = (a.1, tt, c.1)
  taken_good (Postfix-F.Slice place (Some a) (Some b) second None) = (a.1, b.1, tt)
  taken_good (Postfix-F.Slice place (Some a) (Some b) second (Some c)) = (a.1, b.1, c.1)
  taken_good (Postfix-F.Field name) = tt

  typed_good : (ty : Option XT) (name : Name) → GoodField (formal_step (map-Formal Expr Postfix TypeTree Entry Link Formal Read Taken Reading Paired Linked Field (read site names) (taken site names) (reading site names) (paired site names) (linked site names) (formal site names) (map-Formal XE XP XT XN XL XF Expr Postfix TypeTree Entry Link Formal (λ y. y.0) (λ y. y.0) (λ y. y.0) (λ y. y.0) (λ y. y.0) (λ y. y.0) (record { ty = ty; name = name }))))
  typed_good None name = tt
  typed_good (Some t) name = t.1 false

  formal_good : (y : Formal-F XE XP XT XN XL XF) → GoodField (formal_step (map-Formal Expr Postfix TypeTree Entry Link Formal Read Taken Reading Paired Linked Field (read site names) (taken site names) (reading site names) (paired site names) (linked site names) (formal site names) (map-Formal XE XP XT XN XL XF Expr Postfix TypeTree Entry Link Formal (λ y. y.0) (λ y. y.0) (λ y. y.0) (λ y. y.0) (λ y. y.0) (λ y. y.0) y)))
  formal_good y = typed_good y.ty y.name

  rolled : (o : Expr-F Expr Postfix TypeTree Entry Link Formal) → read site names (roll-Expr o) ≡ of_parts o
  unfolding read taken paired linked formal reading
  rolled o = fold-roll-Expr Read Taken Reading Paired Linked Field (expr_step site names) postfix_step (type_step names) entry_step link_step formal_step o

  type_rolled : (o : TypeTree-F Expr Postfix TypeTree Entry Link Formal) → reading site names (roll-TypeTree o) ≡ of_type_parts o
  unfolding read taken paired linked formal reading
  type_rolled o = fold-roll-TypeTree Read Taken Reading Paired Linked Field (expr_step site names) postfix_step (type_step names) entry_step link_step formal_step o

  taken_rolled : (o : Postfix-F Expr Postfix TypeTree Entry Link Formal) → taken site names (roll-Postfix o) ≡ postfix_step (map-Postfix Expr Postfix TypeTree Entry Link Formal Read Taken Reading Paired Linked Field (read site names) (taken site names) (reading site names) (paired site names) (linked site names) (formal site names) o)
  unfolding read taken paired linked formal reading
  taken_rolled o = fold-roll-Postfix Read Taken Reading Paired Linked Field (expr_step site names) postfix_step (type_step names) entry_step link_step formal_step o

  paired_rolled : (o : Entry-F Expr Postfix TypeTree Entry Link Formal) → paired site names (roll-Entry o) ≡ entry_step (map-Entry Expr Postfix TypeTree Entry Link Formal Read Taken Reading Paired Linked Field (read site names) (taken site names) (reading site names) (paired site names) (linked site names) (formal site names) o)
  unfolding read taken paired linked formal reading
  paired_rolled o = fold-roll-Entry Read Taken Reading Paired Linked Field (expr_step site names) postfix_step (type_step names) entry_step link_step formal_step o

  linked_rolled : (o : Link-F Expr Postfix TypeTree Entry Link Formal) → linked site names (roll-Link o) ≡ link_step (map-Link Expr Postfix TypeTree Entry Link Formal Read Taken Reading Paired Linked Field (read site names) (taken site names) (reading site names) (paired site names) (linked site names) (formal site names) o)
  unfolding read taken paired linked formal reading
  linked_rolled o = fold-roll-Link Read Taken Reading Paired Linked Field (expr_step site names) postfix_step (type_step names) entry_step link_step formal_step o

  formal_rolled : (o : Formal-F Expr Postfix TypeTree Entry Link Formal) → formal site names (roll-Formal o) ≡ formal_step (map-Formal Expr Postfix TypeTree Entry Link Formal Read Taken Reading Paired Linked Field (read site names) (taken site names) (reading site names) (paired site names) (linked site names) (formal site names) o)
  unfolding read taken paired linked formal reading
  formal_rolled o = fold-roll-Formal Read Taken Reading Paired Linked Field (expr_step site names) postfix_step (type_step names) entry_step link_step formal_step o

  abbrev PE : Expr → Type 0
  PE e = GoodRead (read site names e)

  abbrev PP : Postfix → Type 0
  PP p = GoodTaken (taken site names p)

  abbrev PT : TypeTree → Type 0
  PT t = GoodReading (reading site names t)

  abbrev PN : Entry → Type 0
  PN e = GoodPaired (paired site names e)

  abbrev PL : Link → Type 0
  PL l = GoodLinked (linked site names l)

  abbrev PF : Formal → Type 0
  PF f = GoodField (formal site names f)

  pub typing_good : (e : Expr) → GoodTyped T (typing site names e)
  typing_good = ind-Expr PE PP PT PN PL PF
      (λ x y h. subst (λ x. PE (roll-Expr x)) h (subst GoodRead (sym (rolled _)) (expr_good y)))
      (λ x y h. subst (λ x. PP (roll-Postfix x)) h (subst GoodTaken (sym (taken_rolled _)) (taken_good y)))
      (λ x y h. subst (λ x. PT (roll-TypeTree x)) h (subst GoodReading (sym (type_rolled _)) (type_good y)))
      (λ x y h. subst (λ x. PN (roll-Entry x)) h (subst GoodPaired (sym (paired_rolled _)) (y.key.1, y.value.1)))
      (λ x y h. subst (λ x. PL (roll-Link x)) h (subst GoodLinked (sym (linked_rolled _)) y.operand.1))
      (λ x y h. subst (λ x. PF (roll-Formal x)) h (subst GoodField (sym (formal_rolled _)) (formal_good y)))

  pub reading_good : (t : TypeTree) (sizes : Bool) → GoodTyped U (reading site names t sizes)
  reading_good = ind-TypeTree PE PP PT PN PL PF
      (λ x y h. subst (λ x. PE (roll-Expr x)) h (subst GoodRead (sym (rolled _)) (expr_good y)))
      (λ x y h. subst (λ x. PP (roll-Postfix x)) h (subst GoodTaken (sym (taken_rolled _)) (taken_good y)))
      (λ x y h. subst (λ x. PT (roll-TypeTree x)) h (subst GoodReading (sym (type_rolled _)) (type_good y)))
      (λ x y h. subst (λ x. PN (roll-Entry x)) h (subst GoodPaired (sym (paired_rolled _)) (y.key.1, y.value.1)))
      (λ x y h. subst (λ x. PL (roll-Link x)) h (subst GoodLinked (sym (linked_rolled _)) y.operand.1))
      (λ x y h. subst (λ x. PF (roll-Formal x)) h (subst GoodField (sym (formal_rolled _)) (formal_good y)))
