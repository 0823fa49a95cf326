-- Private to proofs. The folds over trees, opened once.
use Rattle.std.proofs.Common.{◌≡◌, false, List, [], ◌∷◌, ◌++◌, map, Option, Some, None, refl, ap, ◌∙◌}
use Rattle.std.specs.Prelude.{option_map}
use Rattle.chi_tree.specs.declared.type_tree.Name.{Name}
use Rattle.chi_tree.specs.declared.type_tree.TypeTree.{TypeTree, TypeTree-F, out-TypeTree, map-TypeTree, fold_out-TypeTree}
use Rattle.chi_tree.specs.declared.type_tree.Formal.{Formal, map-Formal, fold_out-Formal}
use Rattle.chi_tree.specs.declared.expr.Expr.{Expr, Expr-F, out-Expr, map-Expr, fold_out-Expr}
use Rattle.chi_tree.specs.declared.expr.Postfix.{Postfix, Postfix-F, out-Postfix, map-Postfix, fold_out-Postfix}
use Rattle.chi_tree.specs.declared.expr.Entry.{Entry, fold_out-Entry}
use Rattle.chi_tree.specs.declared.expr.Link.{Link, fold_out-Link}
use Rattle.chi_check_types.specs.declared.fault.Fault.{Fault}
use Rattle.chi_check_types.specs.declared.site.Site.{Site}
use Rattle.chi_check_types.specs.declared.meant.Meant.{Meant}
use Rattle.chi_check_types.specs.Faults.{first_of}
use Rattle.chi_check_types.specs.Names.{Names}
use Rattle.chi_check_types.specs.Typed.{Typed}
use Rattle.chi_check_types.proofs.Firsts.{first_of_append}
use Rattle.chi_check_expr.specs.Reads.{Read, Taken, Reading, Paired, Linked, Field, typed_of}
use Rattle.chi_check_expr.specs.Expressions.{expr_step, postfix_step, entry_step, link_step}
use Rattle.chi_check_expr.specs.TypeTrees.{type_step, formal_step}
use Rattle.chi_check_expr.specs.Typing.{read, taken, paired, linked, formal, reading, typing}

abbrev pub field_of : Option (Typed Meant) → Name → Field
field_of ty name = record { ty = ty; name = name }

module _ (site : Site) (names : Names) where
  pub read_is : (e : Expr) (o : Expr-F Expr Postfix TypeTree Entry Link Formal) → out-Expr e ≡ o
      → read site names e ≡ expr_step site names (map-Expr Expr Postfix TypeTree Entry Link Formal Read Taken Reading Paired Linked Field (read site names) (taken site names) (reading site names) (paired site names) (linked site names) (formal site names) o)
  unfolding read taken paired linked formal reading
  read_is e o h = fold_out-Expr Read Taken Reading Paired Linked Field (expr_step site names) postfix_step (type_step names) entry_step link_step formal_step e
      ∙ ap (λ o. expr_step site names (map-Expr Expr Postfix TypeTree Entry Link Formal Read Taken Reading Paired Linked Field (read site names) (taken site names) (reading site names) (paired site names) (linked site names) (formal site names) o)) h

  pub taken_is : (p : Postfix) (o : Postfix-F Expr Postfix TypeTree Entry Link Formal) → out-Postfix p ≡ o
      → taken site names p ≡ postfix_step (map-Postfix Expr Postfix TypeTree Entry Link Formal Read Taken Reading Paired Linked Field (read site names) (taken site names) (reading site names) (paired site names) (linked site names) (formal site names) o)
  unfolding read taken paired linked formal reading
  taken_is p o h = fold_out-Postfix Read Taken Reading Paired Linked Field (expr_step site names) postfix_step (type_step names) entry_step link_step formal_step p
      ∙ ap (λ o. postfix_step (map-Postfix Expr Postfix TypeTree Entry Link Formal Read Taken Reading Paired Linked Field (read site names) (taken site names) (reading site names) (paired site names) (linked site names) (formal site names) o)) h

  pub reading_is : (t : TypeTree) (o : TypeTree-F Expr Postfix TypeTree Entry Link Formal) → out-TypeTree t ≡ o
      → reading site names t ≡ type_step names (map-TypeTree Expr Postfix TypeTree Entry Link Formal Read Taken Reading Paired Linked Field (read site names) (taken site names) (reading site names) (paired site names) (linked site names) (formal site names) o)
  unfolding read taken paired linked formal reading
  reading_is t o h = fold_out-TypeTree Read Taken Reading Paired Linked Field (expr_step site names) postfix_step (type_step names) entry_step link_step formal_step t
      ∙ ap (λ o. type_step names (map-TypeTree Expr Postfix TypeTree Entry Link Formal Read Taken Reading Paired Linked Field (read site names) (taken site names) (reading site names) (paired site names) (linked site names) (formal site names) o)) h

  pub linked_is : (l : Link) → linked site names l ≡ record { operator = l.operator; place = l.place; operand = typing site names l.operand }
  unfolding read taken paired linked formal reading
  linked_is l = fold_out-Link Read Taken Reading Paired Linked Field (expr_step site names) postfix_step (type_step names) entry_step link_step formal_step l

  pub paired_is : (e : Entry) → paired site names e ≡ record { key = typing site names e.key; value = typing site names e.value }
  unfolding read taken paired linked formal reading
  paired_is e = fold_out-Entry Read Taken Reading Paired Linked Field (expr_step site names) postfix_step (type_step names) entry_step link_step formal_step e

  merged : (ty : Option TypeTree) (name : Name)
      → formal_step (map-Formal Expr Postfix TypeTree Entry Link Formal Read Taken Reading Paired Linked Field (read site names) (taken site names) (reading site names) (paired site names) (linked site names) (formal site names) (record { ty = ty; name = name }))
      ≡ field_of (option_map (λ t. reading site names t false) ty) name
  merged None name = refl
  merged (Some t) name = refl

  pub formal_is : (f : Formal) → formal site names f ≡ field_of (option_map (λ t. reading site names t false) f.ty) f.name
  unfolding read taken paired linked formal reading
  formal_is f = fold_out-Formal Read Taken Reading Paired Linked Field (expr_step site names) postfix_step (type_step names) entry_step link_step formal_step f ∙ merged f.ty f.name

  pub named_formal : (f : Formal) → (formal site names f).name ≡ f.name
  named_formal f = ap (λ (x : Field). x.name) (formal_is f)

  pub map_typed : (es : List Expr) → map typed_of (map (read site names) es) ≡ map (typing site names) es
  map_typed [] = refl
  map_typed (e ∷ es) = ap (λ ts. typing site names e ∷ ts) (map_typed es)

pub noted_one : (kept : Option Fault) (xs ys : List Fault) → first_of kept (xs ++ ys) ≡ first_of (first_of kept xs) ys
noted_one kept xs ys = first_of_append kept xs ys

pub noted_two : (kept : Option Fault) (xs ys zs : List Fault) → first_of kept ((xs ++ ys) ++ zs) ≡ first_of (first_of (first_of kept xs) ys) zs
noted_two kept xs ys zs = first_of_append kept (xs ++ ys) zs ∙ ap (λ k. first_of k zs) (first_of_append kept xs ys)
