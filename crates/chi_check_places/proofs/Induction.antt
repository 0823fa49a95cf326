-- What an expression or a type comes to is the same without places: the induction over trees.
use Rattle.std.proofs.Common.{◌≡◌, Bool, false, List, [], ◌∷◌, map, Option, Some, None, refl, sym, ap, subst, ◌∙◌}
use Rattle.chi_tree.specs.declared.type_tree.Name.{Name}
use Rattle.chi_tree.specs.declared.type_tree.TypeTree.{TypeTree, TypeTree-F, roll-TypeTree, map-TypeTree, fold-roll-TypeTree, ind-TypeTree}
use Rattle.chi_tree.specs.declared.type_tree.TypeTree.TheVariants as type
use Rattle.chi_tree.specs.declared.type_tree.Formal.{Formal, Formal-F, out-Formal, roll-Formal, map-Formal, fold-roll-Formal, fold_out-Formal}
use Rattle.chi_tree.specs.declared.expr.Expr.{Expr, Expr-F, roll-Expr, map-Expr, fold-roll-Expr, ind-Expr}
use Rattle.chi_tree.specs.declared.expr.Expr.TheVariants as expr
use Rattle.chi_tree.specs.declared.expr.Postfix.{Postfix, Postfix-F, roll-Postfix, map-Postfix, fold-roll-Postfix}
use Rattle.chi_tree.specs.declared.expr.Postfix.TheVariants as postfix
use Rattle.chi_tree.specs.declared.expr.Entry.{Entry, Entry-F, out-Entry, roll-Entry, map-Entry, fold-roll-Entry, fold_out-Entry}
use Rattle.chi_tree.specs.declared.expr.Link.{Link, Link-F, out-Link, roll-Link, map-Link, fold-roll-Link, fold_out-Link}
use Rattle.chi_tree.specs.View.{nowhere}
use Rattle.chi_tree_laws.specs.Unplaced.{unplaced_name, expr_without, postfix_without, type_without, entry_without, link_without, formal_without, unplaced_expr, unplaced_postfix, unplaced_type, unplaced_entry, unplaced_link, unplaced_formal}
use Rattle.chi_check_types.specs.declared.site.Site.{Site}
use Rattle.chi_check_types.specs.Names.{Names}
use Rattle.chi_check_expr.specs.Expressions.{expr_step, postfix_step, entry_step, link_step}
use Rattle.chi_check_expr.specs.Reads.{Read, Taken, index, slice, field, Reading, Paired, Linked, Field}
use Rattle.chi_check_expr.specs.TypeTrees.{type_step, formal_step}
use Rattle.chi_check_expr.specs.Typing.{read, taken, paired, linked, formal, reading, typing}
use Rattle.chi_check_places.specs.UnplacedTyped.{unplaced_typed}
use Rattle.chi_check_places.proofs.Expressions.{layer-unplaced}
use Rattle.chi_check_places.proofs.TypeTrees.{type-layer-unplaced}
use Rattle.chi_check_places.proofs.ReadParts.{unplaced_read, unplaced_taken, unplaced_reading, unplaced_paired, unplaced_linked, unplaced_field, unplaced_layer, unplaced_type_layer}

module _ (s : Site) (names : Names) where
  abbrev PE : Expr → Type 0
  PE e = read s names (unplaced_expr e) ≡ unplaced_read (read s names e)

  abbrev PP : Postfix → Type 0
  PP p = taken s names (unplaced_postfix p) ≡ unplaced_taken (taken s names p)

  abbrev PT : TypeTree → Type 0
  PT t = reading s names (unplaced_type t) ≡ unplaced_reading (reading s names t)

  abbrev PN : Entry → Type 0
  PN e = paired s names (unplaced_entry e) ≡ unplaced_paired (paired s names e)

  abbrev PL : Link → Type 0
  PL l = linked s names (unplaced_link l) ≡ unplaced_linked (linked s names l)

  abbrev PF : Formal → Type 0
  PF f = formal s names (unplaced_formal f) ≡ unplaced_field (formal s names f)

  abbrev XE : Type 0
  XE = (e : Expr) × PE e

  abbrev XP : Type 0
  XP = (p : Postfix) × PP p

  abbrev XT : Type 0
  XT = (t : TypeTree) × PT t

  abbrev XN : Type 0
  XN = (e : Entry) × PN e

  abbrev XL : Type 0
  XL = (l : Link) × PL l

  abbrev XF : Type 0
  XF = (f : Formal) × PF f

  -- ---- lists of parts

  exprs-such : (ys : List XE) → map (read s names) (map unplaced_expr (map (λ y. y.0) ys)) ≡ map unplaced_read (map (read s names) (map (λ y. y.0) ys))
  exprs-such [] = refl
  exprs-such (y ∷ ys) = λ i. y.1 i ∷ exprs-such ys i

  postfixes-such : (ys : List XP) → map (taken s names) (map unplaced_postfix (map (λ y. y.0) ys)) ≡ map unplaced_taken (map (taken s names) (map (λ y. y.0) ys))
  postfixes-such [] = refl
  postfixes-such (y ∷ ys) = λ i. y.1 i ∷ postfixes-such ys i

  entries-such : (ys : List XN) → map (paired s names) (map unplaced_entry (map (λ y. y.0) ys)) ≡ map unplaced_paired (map (paired s names) (map (λ y. y.0) ys))
  entries-such [] = refl
  entries-such (y ∷ ys) = λ i. y.1 i ∷ entries-such ys i

  links-such : (ys : List XL) → map (linked s names) (map unplaced_link (map (λ y. y.0) ys)) ≡ map unplaced_linked (map (linked s names) (map (λ y. y.0) ys))
  links-such [] = refl
  links-such (y ∷ ys) = λ i. y.1 i ∷ links-such ys i

  formals-such : (ys : List XF) → map (formal s names) (map unplaced_formal (map (λ y. y.0) ys)) ≡ map unplaced_field (map (formal s names) (map (λ y. y.0) ys))
  formals-such [] = refl
  formals-such (y ∷ ys) = λ i. y.1 i ∷ formals-such ys i

  -- ---- the equations of the folds

  abbrev expr_of_parts : Expr-F Expr Postfix TypeTree Entry Link Formal → Read
  expr_of_parts o = expr_step s names (map-Expr Expr Postfix TypeTree Entry Link Formal Read Taken Reading Paired Linked Field (read s names) (taken s names) (reading s names) (paired s names) (linked s names) (formal s names) o)

  abbrev expr_parts : Expr-F XE XP XT XN XL XF → Expr-F Expr Postfix TypeTree Entry Link Formal
  expr_parts y = map-Expr XE XP XT XN XL XF Expr Postfix TypeTree Entry Link Formal (λ y. y.0) (λ y. y.0) (λ y. y.0) (λ y. y.0) (λ y. y.0) (λ y. y.0) y

  abbrev expr_unplaced : Expr-F Expr Postfix TypeTree Entry Link Formal → Expr
  expr_unplaced o = expr_without (map-Expr Expr Postfix TypeTree Entry Link Formal Expr Postfix TypeTree Entry Link Formal unplaced_expr unplaced_postfix unplaced_type unplaced_entry unplaced_link unplaced_formal o)

  expr-rolled : (o : Expr-F Expr Postfix TypeTree Entry Link Formal) → read s names (roll-Expr o) ≡ expr_of_parts o
  unfolding read taken paired linked formal reading
  expr-rolled o = fold-roll-Expr Read Taken Reading Paired Linked Field (expr_step s names) postfix_step (type_step names) entry_step link_step formal_step o

  expr-unrolled : (o : Expr-F Expr Postfix TypeTree Entry Link Formal) → unplaced_expr (roll-Expr o) ≡ expr_unplaced o
  expr-unrolled o = fold-roll-Expr Expr Postfix TypeTree Entry Link Formal expr_without postfix_without type_without entry_without link_without formal_without o

  abbrev postfix_of_parts : Postfix-F Expr Postfix TypeTree Entry Link Formal → Taken
  postfix_of_parts o = postfix_step (map-Postfix Expr Postfix TypeTree Entry Link Formal Read Taken Reading Paired Linked Field (read s names) (taken s names) (reading s names) (paired s names) (linked s names) (formal s names) o)

  abbrev postfix_parts : Postfix-F XE XP XT XN XL XF → Postfix-F Expr Postfix TypeTree Entry Link Formal
  postfix_parts y = map-Postfix XE XP XT XN XL XF Expr Postfix TypeTree Entry Link Formal (λ y. y.0) (λ y. y.0) (λ y. y.0) (λ y. y.0) (λ y. y.0) (λ y. y.0) y

  abbrev postfix_unplaced : Postfix-F Expr Postfix TypeTree Entry Link Formal → Postfix
  postfix_unplaced o = postfix_without (map-Postfix Expr Postfix TypeTree Entry Link Formal Expr Postfix TypeTree Entry Link Formal unplaced_expr unplaced_postfix unplaced_type unplaced_entry unplaced_link unplaced_formal o)

  postfix-rolled : (o : Postfix-F Expr Postfix TypeTree Entry Link Formal) → taken s names (roll-Postfix o) ≡ postfix_of_parts o
  unfolding read taken paired linked formal reading
  postfix-rolled o = fold-roll-Postfix Read Taken Reading Paired Linked Field (expr_step s names) postfix_step (type_step names) entry_step link_step formal_step o

  postfix-unrolled : (o : Postfix-F Expr Postfix TypeTree Entry Link Formal) → unplaced_postfix (roll-Postfix o) ≡ postfix_unplaced o
  postfix-unrolled o = fold-roll-Postfix Expr Postfix TypeTree Entry Link Formal expr_without postfix_without type_without entry_without link_without formal_without o

  abbrev type_of_parts : TypeTree-F Expr Postfix TypeTree Entry Link Formal → Reading
  type_of_parts o = type_step names (map-TypeTree Expr Postfix TypeTree Entry Link Formal Read Taken Reading Paired Linked Field (read s names) (taken s names) (reading s names) (paired s names) (linked s names) (formal s names) o)

  abbrev type_parts : TypeTree-F XE XP XT XN XL XF → TypeTree-F Expr Postfix TypeTree Entry Link Formal
  type_parts y = map-TypeTree XE XP XT XN XL XF Expr Postfix TypeTree Entry Link Formal (λ y. y.0) (λ y. y.0) (λ y. y.0) (λ y. y.0) (λ y. y.0) (λ y. y.0) y

  abbrev type_unplaced : TypeTree-F Expr Postfix TypeTree Entry Link Formal → TypeTree
  type_unplaced o = type_without (map-TypeTree Expr Postfix TypeTree Entry Link Formal Expr Postfix TypeTree Entry Link Formal unplaced_expr unplaced_postfix unplaced_type unplaced_entry unplaced_link unplaced_formal o)

  type-rolled : (o : TypeTree-F Expr Postfix TypeTree Entry Link Formal) → reading s names (roll-TypeTree o) ≡ type_of_parts o
  unfolding read taken paired linked formal reading
  type-rolled o = fold-roll-TypeTree Read Taken Reading Paired Linked Field (expr_step s names) postfix_step (type_step names) entry_step link_step formal_step o

  type-unrolled : (o : TypeTree-F Expr Postfix TypeTree Entry Link Formal) → unplaced_type (roll-TypeTree o) ≡ type_unplaced o
  type-unrolled o = fold-roll-TypeTree Expr Postfix TypeTree Entry Link Formal expr_without postfix_without type_without entry_without link_without formal_without o

  abbrev entry_of_parts : Entry-F Expr Postfix TypeTree Entry Link Formal → Paired
  entry_of_parts o = entry_step (map-Entry Expr Postfix TypeTree Entry Link Formal Read Taken Reading Paired Linked Field (read s names) (taken s names) (reading s names) (paired s names) (linked s names) (formal s names) o)

  abbrev entry_parts : Entry-F XE XP XT XN XL XF → Entry-F Expr Postfix TypeTree Entry Link Formal
  entry_parts y = map-Entry XE XP XT XN XL XF Expr Postfix TypeTree Entry Link Formal (λ y. y.0) (λ y. y.0) (λ y. y.0) (λ y. y.0) (λ y. y.0) (λ y. y.0) y

  abbrev entry_unplaced : Entry-F Expr Postfix TypeTree Entry Link Formal → Entry
  entry_unplaced o = entry_without (map-Entry Expr Postfix TypeTree Entry Link Formal Expr Postfix TypeTree Entry Link Formal unplaced_expr unplaced_postfix unplaced_type unplaced_entry unplaced_link unplaced_formal o)

  entry-rolled : (o : Entry-F Expr Postfix TypeTree Entry Link Formal) → paired s names (roll-Entry o) ≡ entry_of_parts o
  unfolding read taken paired linked formal reading
  entry-rolled o = fold-roll-Entry Read Taken Reading Paired Linked Field (expr_step s names) postfix_step (type_step names) entry_step link_step formal_step o

  entry-unrolled : (o : Entry-F Expr Postfix TypeTree Entry Link Formal) → unplaced_entry (roll-Entry o) ≡ entry_unplaced o
  entry-unrolled o = fold-roll-Entry Expr Postfix TypeTree Entry Link Formal expr_without postfix_without type_without entry_without link_without formal_without o

  entry-opened : (x : Entry) → paired s names x ≡ entry_of_parts (out-Entry x)
  unfolding read taken paired linked formal reading
  entry-opened x = fold_out-Entry Read Taken Reading Paired Linked Field (expr_step s names) postfix_step (type_step names) entry_step link_step formal_step x

  abbrev link_of_parts : Link-F Expr Postfix TypeTree Entry Link Formal → Linked
  link_of_parts o = link_step (map-Link Expr Postfix TypeTree Entry Link Formal Read Taken Reading Paired Linked Field (read s names) (taken s names) (reading s names) (paired s names) (linked s names) (formal s names) o)

  abbrev link_parts : Link-F XE XP XT XN XL XF → Link-F Expr Postfix TypeTree Entry Link Formal
  link_parts y = map-Link XE XP XT XN XL XF Expr Postfix TypeTree Entry Link Formal (λ y. y.0) (λ y. y.0) (λ y. y.0) (λ y. y.0) (λ y. y.0) (λ y. y.0) y

  abbrev link_unplaced : Link-F Expr Postfix TypeTree Entry Link Formal → Link
  link_unplaced o = link_without (map-Link Expr Postfix TypeTree Entry Link Formal Expr Postfix TypeTree Entry Link Formal unplaced_expr unplaced_postfix unplaced_type unplaced_entry unplaced_link unplaced_formal o)

  link-rolled : (o : Link-F Expr Postfix TypeTree Entry Link Formal) → linked s names (roll-Link o) ≡ link_of_parts o
  unfolding read taken paired linked formal reading
  link-rolled o = fold-roll-Link Read Taken Reading Paired Linked Field (expr_step s names) postfix_step (type_step names) entry_step link_step formal_step o

  link-unrolled : (o : Link-F Expr Postfix TypeTree Entry Link Formal) → unplaced_link (roll-Link o) ≡ link_unplaced o
  link-unrolled o = fold-roll-Link Expr Postfix TypeTree Entry Link Formal expr_without postfix_without type_without entry_without link_without formal_without o

  link-opened : (x : Link) → linked s names x ≡ link_of_parts (out-Link x)
  unfolding read taken paired linked formal reading
  link-opened x = fold_out-Link Read Taken Reading Paired Linked Field (expr_step s names) postfix_step (type_step names) entry_step link_step formal_step x

  abbrev formal_of_parts : Formal-F Expr Postfix TypeTree Entry Link Formal → Field
  formal_of_parts o = formal_step (map-Formal Expr Postfix TypeTree Entry Link Formal Read Taken Reading Paired Linked Field (read s names) (taken s names) (reading s names) (paired s names) (linked s names) (formal s names) o)

  abbrev formal_parts : Formal-F XE XP XT XN XL XF → Formal-F Expr Postfix TypeTree Entry Link Formal
  formal_parts y = map-Formal XE XP XT XN XL XF Expr Postfix TypeTree Entry Link Formal (λ y. y.0) (λ y. y.0) (λ y. y.0) (λ y. y.0) (λ y. y.0) (λ y. y.0) y

  abbrev formal_unplaced : Formal-F Expr Postfix TypeTree Entry Link Formal → Formal
  formal_unplaced o = formal_without (map-Formal Expr Postfix TypeTree Entry Link Formal Expr Postfix TypeTree Entry Link Formal unplaced_expr unplaced_postfix unplaced_type unplaced_entry unplaced_link unplaced_formal o)

  formal-rolled : (o : Formal-F Expr Postfix TypeTree Entry Link Formal) → formal s names (roll-Formal o) ≡ formal_of_parts o
  unfolding read taken paired linked formal reading
  formal-rolled o = fold-roll-Formal Read Taken Reading Paired Linked Field (expr_step s names) postfix_step (type_step names) entry_step link_step formal_step o

  formal-unrolled : (o : Formal-F Expr Postfix TypeTree Entry Link Formal) → unplaced_formal (roll-Formal o) ≡ formal_unplaced o
  formal-unrolled o = fold-roll-Formal Expr Postfix TypeTree Entry Link Formal expr_without postfix_without type_without entry_without link_without formal_without o

  formal-opened : (x : Formal) → formal s names x ≡ formal_of_parts (out-Formal x)
  unfolding read taken paired linked formal reading
  formal-opened x = fold_out-Formal Read Taken Reading Paired Linked Field (expr_step s names) postfix_step (type_step names) entry_step link_step formal_step x

  -- ---- each layer

  -- a variant, by what its layer comes to
  thence : (o : Expr-F Expr Postfix TypeTree Entry Link Formal) (l : Expr-F Read Taken Reading Paired Linked Field) {v : Expr} → roll-Expr o ≡ v
      → map-Expr Expr Postfix TypeTree Entry Link Formal Read Taken Reading Paired Linked Field (read s names) (taken s names) (reading s names) (paired s names) (linked s names) (formal s names) o ≡ unplaced_layer l → read s names v ≡ unplaced_read (expr_step s names l)
  thence o l r e = ap (read s names) (sym r) ∙ expr-rolled o ∙ ap (expr_step s names) e ∙ layer-unplaced s names l

  type-thence : (o : TypeTree-F Expr Postfix TypeTree Entry Link Formal) (l : TypeTree-F Read Taken Reading Paired Linked Field) {v : TypeTree} → roll-TypeTree o ≡ v
      → map-TypeTree Expr Postfix TypeTree Entry Link Formal Read Taken Reading Paired Linked Field (read s names) (taken s names) (reading s names) (paired s names) (linked s names) (formal s names) o ≡ unplaced_type_layer l → reading s names v ≡ unplaced_reading (type_step names l)
  type-thence o l r e = ap (reading s names) (sym r) ∙ type-rolled o ∙ ap (type_step names) e ∙ (λ i sizes. type-layer-unplaced names l sizes i)

  postfix-thence : (o : Postfix-F Expr Postfix TypeTree Entry Link Formal) (l : Taken) {v : Postfix} → roll-Postfix o ≡ v → postfix_of_parts o ≡ l → taken s names v ≡ l
  postfix-thence o l r e = ap (taken s names) (sym r) ∙ postfix-rolled o ∙ e

  expr-such : (y : Expr-F XE XP XT XN XL XF) → read s names (expr_unplaced (expr_parts y)) ≡ unplaced_read (expr_of_parts (expr_parts y))
  expr-such (Expr-F.Chain e ls) =
      thence (Expr-F.Chain (unplaced_expr e.0) (map unplaced_link (map (λ y. y.0) ls))) (Expr-F.Chain (read s names e.0) (map (linked s names) (map (λ y. y.0) ls))) (expr.rolls-Chain (unplaced_expr e.0) (map unplaced_link (map (λ y. y.0) ls)))
      (λ i. Expr-F.Chain (e.1 i) (links-such ls i))
  expr-such (Expr-F.Prefix sign place e) =
      thence (Expr-F.Prefix sign nowhere (unplaced_expr e.0)) (Expr-F.Prefix sign place (read s names e.0)) (expr.rolls-Prefix sign nowhere (unplaced_expr e.0))
      (λ i. Expr-F.Prefix sign nowhere (e.1 i))
  expr-such (Expr-F.Relation e sign place f) =
      thence (Expr-F.Relation (unplaced_expr e.0) sign nowhere (unplaced_expr f.0)) (Expr-F.Relation (read s names e.0) sign place (read s names f.0)) (expr.rolls-Relation (unplaced_expr e.0) sign nowhere (unplaced_expr f.0))
      (λ i. Expr-F.Relation (e.1 i) sign nowhere (f.1 i))
  expr-such (Expr-F.Power e place f) =
      thence (Expr-F.Power (unplaced_expr e.0) nowhere (unplaced_expr f.0)) (Expr-F.Power (read s names e.0) place (read s names f.0)) (expr.rolls-Power (unplaced_expr e.0) nowhere (unplaced_expr f.0))
      (λ i. Expr-F.Power (e.1 i) nowhere (f.1 i))
  expr-such (Expr-F.Part e ps) =
      thence (Expr-F.Part (unplaced_expr e.0) (map unplaced_postfix (map (λ y. y.0) ps))) (Expr-F.Part (read s names e.0) (map (taken s names) (map (λ y. y.0) ps))) (expr.rolls-Part (unplaced_expr e.0) (map unplaced_postfix (map (λ y. y.0) ps)))
      (λ i. Expr-F.Part (e.1 i) (postfixes-such ps i))
  expr-such (Expr-F.Int digits place) =
      thence (Expr-F.Int digits nowhere) (Expr-F.Int digits place) (expr.rolls-Int digits nowhere)
      refl
  expr-such (Expr-F.Real digits place) =
      thence (Expr-F.Real digits nowhere) (Expr-F.Real digits place) (expr.rolls-Real digits nowhere)
      refl
  expr-such (Expr-F.Text bytes place) =
      thence (Expr-F.Text bytes nowhere) (Expr-F.Text bytes place) (expr.rolls-Text bytes nowhere)
      refl
  expr-such (Expr-F.Bool truth place) =
      thence (Expr-F.Bool truth nowhere) (Expr-F.Bool truth place) (expr.rolls-Bool truth nowhere)
      refl
  expr-such (Expr-F.Time place) =
      thence (Expr-F.Time nowhere) (Expr-F.Time place) (expr.rolls-Time nowhere)
      refl
  expr-such (Expr-F.Named name) =
      thence (Expr-F.Named (unplaced_name name)) (Expr-F.Named name) (expr.rolls-Named (unplaced_name name))
      refl
  expr-such (Expr-F.Call name es) =
      thence (Expr-F.Call (unplaced_name name) (map unplaced_expr (map (λ y. y.0) es))) (Expr-F.Call name (map (read s names) (map (λ y. y.0) es))) (expr.rolls-Call (unplaced_name name) (map unplaced_expr (map (λ y. y.0) es)))
      (λ i. Expr-F.Call (unplaced_name name) (exprs-such es i))
  expr-such (Expr-F.Cast word place e) =
      thence (Expr-F.Cast word nowhere (unplaced_expr e.0)) (Expr-F.Cast word place (read s names e.0)) (expr.rolls-Cast word nowhere (unplaced_expr e.0))
      (λ i. Expr-F.Cast word nowhere (e.1 i))
  expr-such (Expr-F.Round place e) =
      thence (Expr-F.Round nowhere (unplaced_expr e.0)) (Expr-F.Round place (read s names e.0)) (expr.rolls-Round nowhere (unplaced_expr e.0))
      (λ i. Expr-F.Round nowhere (e.1 i))
  expr-such (Expr-F.TupleOf place es) =
      thence (Expr-F.TupleOf nowhere (map unplaced_expr (map (λ y. y.0) es))) (Expr-F.TupleOf place (map (read s names) (map (λ y. y.0) es))) (expr.rolls-TupleOf nowhere (map unplaced_expr (map (λ y. y.0) es)))
      (λ i. Expr-F.TupleOf nowhere (exprs-such es i))
  expr-such (Expr-F.ListOf place es) =
      thence (Expr-F.ListOf nowhere (map unplaced_expr (map (λ y. y.0) es))) (Expr-F.ListOf place (map (read s names) (map (λ y. y.0) es))) (expr.rolls-ListOf nowhere (map unplaced_expr (map (λ y. y.0) es)))
      (λ i. Expr-F.ListOf nowhere (exprs-such es i))
  expr-such (Expr-F.SetOf place es) =
      thence (Expr-F.SetOf nowhere (map unplaced_expr (map (λ y. y.0) es))) (Expr-F.SetOf place (map (read s names) (map (λ y. y.0) es))) (expr.rolls-SetOf nowhere (map unplaced_expr (map (λ y. y.0) es)))
      (λ i. Expr-F.SetOf nowhere (exprs-such es i))
  expr-such (Expr-F.DictOf place es) =
      thence (Expr-F.DictOf nowhere (map unplaced_entry (map (λ y. y.0) es))) (Expr-F.DictOf place (map (paired s names) (map (λ y. y.0) es))) (expr.rolls-DictOf nowhere (map unplaced_entry (map (λ y. y.0) es)))
      (λ i. Expr-F.DictOf nowhere (entries-such es i))
  expr-such (Expr-F.EmptyList place t) =
      thence (Expr-F.EmptyList nowhere (unplaced_type t.0)) (Expr-F.EmptyList place (reading s names t.0)) (expr.rolls-EmptyList nowhere (unplaced_type t.0))
      (λ i. Expr-F.EmptyList nowhere (t.1 i))
  expr-such (Expr-F.EmptySet place t) =
      thence (Expr-F.EmptySet nowhere (unplaced_type t.0)) (Expr-F.EmptySet place (reading s names t.0)) (expr.rolls-EmptySet nowhere (unplaced_type t.0))
      (λ i. Expr-F.EmptySet nowhere (t.1 i))
  expr-such (Expr-F.EmptyDict place t u) =
      thence (Expr-F.EmptyDict nowhere (unplaced_type t.0) (unplaced_type u.0)) (Expr-F.EmptyDict place (reading s names t.0) (reading s names u.0)) (expr.rolls-EmptyDict nowhere (unplaced_type t.0) (unplaced_type u.0))
      (λ i. Expr-F.EmptyDict nowhere (t.1 i) (u.1 i))

  type-such : (y : TypeTree-F XE XP XT XN XL XF) → reading s names (type_unplaced (type_parts y)) ≡ unplaced_reading (type_of_parts (type_parts y))
  type-such (TypeTree-F.Word word place) =
      type-thence (TypeTree-F.Word word nowhere) (TypeTree-F.Word word place) (type.rolls-Word word nowhere)
      refl
  type-such (TypeTree-F.Defined name) =
      type-thence (TypeTree-F.Defined (unplaced_name name)) (TypeTree-F.Defined name) (type.rolls-Defined (unplaced_name name))
      refl
  type-such (TypeTree-F.List place None t) =
      type-thence (TypeTree-F.List nowhere None (unplaced_type t.0)) (TypeTree-F.List place None (reading s names t.0)) (type.rolls-List nowhere None (unplaced_type t.0))
      (λ i. TypeTree-F.List nowhere None (t.1 i))
  type-such (TypeTree-F.List place (Some e) t) =
      type-thence (TypeTree-F.List nowhere (Some (unplaced_expr e.0)) (unplaced_type t.0)) (TypeTree-F.List place (Some (read s names e.0)) (reading s names t.0)) (type.rolls-List nowhere (Some (unplaced_expr e.0)) (unplaced_type t.0))
      (λ i. TypeTree-F.List nowhere (Some (e.1 i)) (t.1 i))
  type-such (TypeTree-F.Set place t) =
      type-thence (TypeTree-F.Set nowhere (unplaced_type t.0)) (TypeTree-F.Set place (reading s names t.0)) (type.rolls-Set nowhere (unplaced_type t.0))
      (λ i. TypeTree-F.Set nowhere (t.1 i))
  type-such (TypeTree-F.Dist place t) =
      type-thence (TypeTree-F.Dist nowhere (unplaced_type t.0)) (TypeTree-F.Dist place (reading s names t.0)) (type.rolls-Dist nowhere (unplaced_type t.0))
      (λ i. TypeTree-F.Dist nowhere (t.1 i))
  type-such (TypeTree-F.Dict place t u) =
      type-thence (TypeTree-F.Dict nowhere (unplaced_type t.0) (unplaced_type u.0)) (TypeTree-F.Dict place (reading s names t.0) (reading s names u.0)) (type.rolls-Dict nowhere (unplaced_type t.0) (unplaced_type u.0))
      (λ i. TypeTree-F.Dict nowhere (t.1 i) (u.1 i))
  type-such (TypeTree-F.Tuple place fs) =
      type-thence (TypeTree-F.Tuple nowhere (map unplaced_formal (map (λ y. y.0) fs))) (TypeTree-F.Tuple place (map (formal s names) (map (λ y. y.0) fs))) (type.rolls-Tuple nowhere (map unplaced_formal (map (λ y. y.0) fs)))
      (λ i. TypeTree-F.Tuple nowhere (formals-such fs i))
  type-such (TypeTree-F.Chan place way None) =
      type-thence (TypeTree-F.Chan nowhere way None) (TypeTree-F.Chan place way None) (type.rolls-Chan nowhere way None)
      refl
  type-such (TypeTree-F.Chan place way (Some t)) =
      type-thence (TypeTree-F.Chan nowhere way (Some (unplaced_type t.0))) (TypeTree-F.Chan place way (Some (reading s names t.0))) (type.rolls-Chan nowhere way (Some (unplaced_type t.0)))
      (λ i. TypeTree-F.Chan nowhere way (Some (t.1 i)))

  postfix-such : (y : Postfix-F XE XP XT XN XL XF) → taken s names (postfix_unplaced (postfix_parts y)) ≡ unplaced_taken (postfix_of_parts (postfix_parts y))
  postfix-such (Postfix-F.Index place e) =
      postfix-thence (Postfix-F.Index nowhere (unplaced_expr e.0)) (unplaced_taken (index place (read s names e.0).typed)) (postfix.rolls-Index nowhere (unplaced_expr e.0))
      (λ i. index nowhere (e.1 i).typed)
  postfix-such (Postfix-F.Slice place None None second None) =
      postfix-thence (Postfix-F.Slice nowhere None None second None) (unplaced_taken (slice place (record { from = None; upto = None; by = None }))) (postfix.rolls-Slice nowhere None None second None)
      refl
  postfix-such (Postfix-F.Slice place None None second (Some c)) =
      postfix-thence (Postfix-F.Slice nowhere None None second (Some (unplaced_expr c.0))) (unplaced_taken (slice place (record { from = None; upto = None; by = Some (read s names c.0).typed }))) (postfix.rolls-Slice nowhere None None second (Some (unplaced_expr c.0)))
      (λ i. slice nowhere (record { from = None; upto = None; by = Some (c.1 i).typed }))
  postfix-such (Postfix-F.Slice place None (Some b) second None) =
      postfix-thence (Postfix-F.Slice nowhere None (Some (unplaced_expr b.0)) second None) (unplaced_taken (slice place (record { from = None; upto = Some (read s names b.0).typed; by = None }))) (postfix.rolls-Slice nowhere None (Some (unplaced_expr b.0)) second None)
      (λ i. slice nowhere (record { from = None; upto = Some (b.1 i).typed; by = None }))
  postfix-such (Postfix-F.Slice place None (Some b) second (Some c)) =
      postfix-thence (Postfix-F.Slice nowhere None (Some (unplaced_expr b.0)) second (Some (unplaced_expr c.0))) (unplaced_taken (slice place (record { from = None; upto = Some (read s names b.0).typed; by = Some (read s names c.0).typed }))) (postfix.rolls-Slice nowhere None (Some (unplaced_expr b.0)) second (Some (unplaced_expr c.0)))
      (λ i. slice nowhere (record { from = None; upto = Some (b.1 i).typed; by = Some (c.1 i).typed }))
  postfix-such (Postfix-F.Slice place (Some a) None second None) =
      postfix-thence (Postfix-F.Slice nowhere (Some (unplaced_expr a.0)) None second None) (unplaced_taken (slice place (record { from = Some (read s names a.0).typed; upto = None; by = None }))) (postfix.rolls-Slice nowhere (Some (unplaced_expr a.0)) None second None)
      (λ i. slice nowhere (record { from = Some (a.1 i).typed; upto = None; by = None }))
  postfix-such (Postfix-F.Slice place (Some a) None second (Some c)) =
      postfix-thence (Postfix-F.Slice nowhere (Some (unplaced_expr a.0)) None second (Some (unplaced_expr c.0))) (unplaced_taken (slice place (record { from = Some (read s names a.0).typed; upto = None; by = Some (read s names c.0).typed }))) (postfix.rolls-Slice nowhere (Some (unplaced_expr a.0)) None second (Some (unplaced_expr c.0)))
      (λ i. slice nowhere (record { from = Some (a.1 i).typed; upto = None; by = Some (c.1 i).typed }))
  postfix-such (Postfix-F.Slice place (Some a) (Some b) second None) =
      postfix-thence (Postfix-F.Slice nowhere (Some (unplaced_expr a.0)) (Some (unplaced_expr b.0)) second None) (unplaced_taken (slice place (record { from = Some (read s names a.0).typed; upto = Some (read s names b.0).typed; by = None }))) (postfix.rolls-Slice nowhere (Some (unplaced_expr a.0)) (Some (unplaced_expr b.0)) second None)
      (λ i. slice nowhere (record { from = Some (a.1 i).typed; upto = Some (b.1 i).typed; by = None }))
  postfix-such (Postfix-F.Slice place (Some a) (Some b) second (Some c)) =
      postfix-thence (Postfix-F.Slice nowhere (Some (unplaced_expr a.0)) (Some (unplaced_expr b.0)) second (Some (unplaced_expr c.0))) (unplaced_taken (slice place (record { from = Some (read s names a.0).typed; upto = Some (read s names b.0).typed; by = Some (read s names c.0).typed }))) (postfix.rolls-Slice nowhere (Some (unplaced_expr a.0)) (Some (unplaced_expr b.0)) second (Some (unplaced_expr c.0)))
      (λ i. slice nowhere (record { from = Some (a.1 i).typed; upto = Some (b.1 i).typed; by = Some (c.1 i).typed }))
  postfix-such (Postfix-F.Field name) = postfix-thence (Postfix-F.Field (unplaced_name name)) (unplaced_taken (field name)) (postfix.rolls-Field (unplaced_name name)) refl

  entry-such : (y : Entry-F XE XP XT XN XL XF) → paired s names (entry_unplaced (entry_parts y)) ≡ unplaced_paired (entry_of_parts (entry_parts y))
  entry-such y = entry-opened (entry_unplaced (entry_parts y)) ∙ (λ i. record { key = (y.key.1 i).typed; value = (y.value.1 i).typed })

  link-such : (y : Link-F XE XP XT XN XL XF) → linked s names (link_unplaced (link_parts y)) ≡ unplaced_linked (link_of_parts (link_parts y))
  link-such y = link-opened (link_unplaced (link_parts y)) ∙ (λ i. record { operator = y.operator; place = nowhere; operand = (y.operand.1 i).typed })

  formal-of : (ty : Option XT) (name : Name) → formal s names (formal_unplaced (formal_parts (record { ty = ty; name = name }))) ≡ unplaced_field (formal_of_parts (formal_parts (record { ty = ty; name = name })))
  formal-of None name = formal-opened (formal_unplaced (formal_parts (record { ty = None; name = name })))
  formal-of (Some t) name =
      formal-opened (formal_unplaced (formal_parts (record { ty = Some t; name = name }))) ∙ (λ i. record { ty = Some (t.1 i false); name = unplaced_name name })

  formal-such : (y : Formal-F XE XP XT XN XL XF) → formal s names (formal_unplaced (formal_parts y)) ≡ unplaced_field (formal_of_parts (formal_parts y))
  formal-such y = formal-of y.ty y.name

  -- ---- the induction

  expr-step : (y : Expr-F XE XP XT XN XL XF) → PE (roll-Expr (expr_parts y))
  expr-step y = ap (read s names) (expr-unrolled (expr_parts y)) ∙ expr-such y ∙ ap unplaced_read (sym (expr-rolled (expr_parts y)))

  postfix-step : (y : Postfix-F XE XP XT XN XL XF) → PP (roll-Postfix (postfix_parts y))
  postfix-step y = ap (taken s names) (postfix-unrolled (postfix_parts y)) ∙ postfix-such y ∙ ap unplaced_taken (sym (postfix-rolled (postfix_parts y)))

  type-step : (y : TypeTree-F XE XP XT XN XL XF) → PT (roll-TypeTree (type_parts y))
  type-step y = ap (reading s names) (type-unrolled (type_parts y)) ∙ type-such y ∙ ap unplaced_reading (sym (type-rolled (type_parts y)))

  entry-step : (y : Entry-F XE XP XT XN XL XF) → PN (roll-Entry (entry_parts y))
  entry-step y = ap (paired s names) (entry-unrolled (entry_parts y)) ∙ entry-such y ∙ ap unplaced_paired (sym (entry-rolled (entry_parts y)))

  link-step : (y : Link-F XE XP XT XN XL XF) → PL (roll-Link (link_parts y))
  link-step y = ap (linked s names) (link-unrolled (link_parts y)) ∙ link-such y ∙ ap unplaced_linked (sym (link-rolled (link_parts y)))

  formal-step : (y : Formal-F XE XP XT XN XL XF) → PF (roll-Formal (formal_parts y))
  formal-step y = ap (formal s names) (formal-unrolled (formal_parts y)) ∙ formal-such y ∙ ap unplaced_field (sym (formal-rolled (formal_parts y)))

  pub read-unplaced : (e : Expr) → PE e
  read-unplaced = ind-Expr PE PP PT PN PL PF
      (λ x y h. subst (λ x. PE (roll-Expr x)) h (expr-step y))
      (λ x y h. subst (λ x. PP (roll-Postfix x)) h (postfix-step y))
      (λ x y h. subst (λ x. PT (roll-TypeTree x)) h (type-step y))
      (λ x y h. subst (λ x. PN (roll-Entry x)) h (entry-step y))
      (λ x y h. subst (λ x. PL (roll-Link x)) h (link-step y))
      (λ x y h. subst (λ x. PF (roll-Formal x)) h (formal-step y))

  pub reading-unplaced : (t : TypeTree) → PT t
  reading-unplaced = ind-TypeTree PE PP PT PN PL PF
      (λ x y h. subst (λ x. PE (roll-Expr x)) h (expr-step y))
      (λ x y h. subst (λ x. PP (roll-Postfix x)) h (postfix-step y))
      (λ x y h. subst (λ x. PT (roll-TypeTree x)) h (type-step y))
      (λ x y h. subst (λ x. PN (roll-Entry x)) h (entry-step y))
      (λ x y h. subst (λ x. PL (roll-Link x)) h (link-step y))
      (λ x y h. subst (λ x. PF (roll-Formal x)) h (formal-step y))

pub typing-unplaced : (s : Site) (names : Names) (e : Expr) → typing s names (unplaced_expr e) ≡ unplaced_typed (typing s names e)
typing-unplaced s names e = λ i. (read-unplaced s names e i).typed

pub type-unplaced : (s : Site) (names : Names) (t : TypeTree) (sizes : Bool) → reading s names (unplaced_type t) sizes ≡ unplaced_typed (reading s names t sizes)
type-unplaced s names t sizes = λ i. reading-unplaced s names t i sizes
