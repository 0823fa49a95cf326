-- Private to proofs. The loops over parts: what is left after one more.
use Rattle.std.proofs.Common.{ℕ, zero, suc, false, ◌≡◌, ◌+◌, ◌<◌, ◌≤◌, List, [], ◌∷◌, ◌++◌, map, drop, length, get_or, Option, Some, None, refl, sym, ap, ◌∙◌, arith, add-one, drop-cons, append_assoc, append-nil}
use Rattle.std.specs.Prelude.{option_map}
use Rattle.std.specs.Option.{option_and_then}
use Rattle.chi_token.specs.declared.place.Place.{Place}
use Rattle.chi_tree.specs.declared.type_tree.Name.{Name}
use Rattle.chi_tree.specs.declared.type_tree.TypeTree.{TypeTree}
use Rattle.chi_tree.specs.declared.type_tree.Formal.{Formal}
use Rattle.chi_tree.specs.declared.expr.Expr.{Expr}
use Rattle.chi_tree.specs.declared.expr.Postfix.{Postfix}
use Rattle.chi_tree.specs.declared.expr.Entry.{Entry}
use Rattle.chi_tree.specs.declared.expr.Link.{Link}
use Rattle.chi_types.specs.declared.ty.Ty.{Ty}
use Rattle.chi_check_types.specs.declared.fault.Fault.{Fault}
use Rattle.chi_check_types.specs.declared.meant.Made.{Made}
use Rattle.chi_check_types.specs.declared.site.Site.{Site}
use Rattle.chi_check_types.specs.Faults.{first_of}
use Rattle.chi_check_types.specs.Names.{Names}
use Rattle.chi_check_types.proofs.Firsts.{first_of_none}
use Rattle.chi_check_expr_rules.specs.Operators.{chain_of}
use Rattle.chi_check_expr.specs.Expressions.{chained, parted, part_of}
use Rattle.chi_check_expr.specs.Reads.{Linked, Paired, Field, made_of, all_faults, entry_faults, key_made, value_made}
use Rattle.chi_check_expr.specs.TypeTrees.{faults_of, each_field_faults, field_faults, field_type, parts_from, first_rule, placed_formal, untyped_rule}
use Rattle.chi_check_expr.specs.Typing.{typing, linked, taken, paired, formal, reading}
use Rattle.chi_check_expr.proofs.Opened.{linked_is, paired_is, formal_is, named_formal, noted_one, noted_two}
use Rattle.chi_check_expr.proofs.Parts.{before, joined_on}

pub at : {A : Type 0} (xs : List A) (i : ℕ) (x : A) → i < length xs → x ≡ get_or xs i x → drop i xs ≡ x ∷ drop (i + 1) xs
at xs i x h e = drop-cons xs i x h ∙ (λ j. sym e j ∷ drop (sym (add-one i) j) xs)

pub nothing_left : {A : Type 0} (xs : List A) (i : ℕ) → length xs ≤ i → drop i xs ≡ []
nothing_left [] zero h = refl
nothing_left [] (suc i) h = refl
nothing_left (x ∷ xs) zero h = absurd (omega arith)
nothing_left (x ∷ xs) (suc i) h = nothing_left xs i (omega arith)

module _ (site : Site) (names : Names) where
  -- ---- chains

  step_made : (left : Option Made) (l : Link) (ls : List Link)
      → (chained left (map (linked site names) (l ∷ ls))).made ≡ (chained (chain_of l.operator l.place left (typing site names l.operand).made).made (map (linked site names) ls)).made
  step_made left l ls = ap (λ (x : Linked). (chained left (x ∷ map (linked site names) ls)).made) (linked_is site names l)

  step_noted : (kept : Option Fault) (left : Option Made) (l : Link) (ls : List Link)
      → first_of kept (chained left (map (linked site names) (l ∷ ls))).faults
      ≡ first_of (first_of (first_of kept (typing site names l.operand).faults) (chain_of l.operator l.place left (typing site names l.operand).made).faults) (chained (chain_of l.operator l.place left (typing site names l.operand).made).made (map (linked site names) ls)).faults
  step_noted kept left l ls = ap (λ (x : Linked). first_of kept (chained left (x ∷ map (linked site names) ls)).faults) (linked_is site names l) ∙ noted_two kept _ _ _

  pub links_made : (left : Option Made) (ls : List Link) (i : ℕ) (l : Link) → i < length ls → l ≡ get_or ls i l
      → (chained left (map (linked site names) (drop i ls))).made ≡ (chained (chain_of l.operator l.place left (typing site names l.operand).made).made (map (linked site names) (drop (i + 1) ls))).made
  links_made left ls i l h e = ap (λ ls. (chained left (map (linked site names) ls)).made) (at ls i l h e) ∙ step_made left l (drop (i + 1) ls)

  pub links_noted : (kept : Option Fault) (left : Option Made) (ls : List Link) (i : ℕ) (l : Link) → i < length ls → l ≡ get_or ls i l
      → first_of kept (chained left (map (linked site names) (drop i ls))).faults
      ≡ first_of (first_of (first_of kept (typing site names l.operand).faults) (chain_of l.operator l.place left (typing site names l.operand).made).faults) (chained (chain_of l.operator l.place left (typing site names l.operand).made).made (map (linked site names) (drop (i + 1) ls))).faults
  links_noted kept left ls i l h e = ap (λ ls. first_of kept (chained left (map (linked site names) ls)).faults) (at ls i l h e) ∙ step_noted kept left l (drop (i + 1) ls)

  -- one more link, of which the right operand and what both come to are known
  pub links_more : (left right new : Option Made) (ls : List Link) (i : ℕ) (l : Link) → i < length ls → l ≡ get_or ls i l → right ≡ (typing site names l.operand).made → new ≡ (chain_of l.operator l.place left right).made
      → (chained left (map (linked site names) (drop i ls))).made ≡ (chained new (map (linked site names) (drop (i + 1) ls))).made
  links_more left right new ls i l h e r n =
      links_made left ls i l h e ∙ ap (λ x. (chained x (map (linked site names) (drop (i + 1) ls))).made) (sym (n ∙ ap (λ x. (chain_of l.operator l.place left x).made) r))

  pub links_kept : (kept one two : Option Fault) (left right new : Option Made) (ls : List Link) (i : ℕ) (l : Link) → i < length ls → l ≡ get_or ls i l → right ≡ (typing site names l.operand).made → new ≡ (chain_of l.operator l.place left right).made
      → one ≡ first_of kept (typing site names l.operand).faults → two ≡ first_of one (chain_of l.operator l.place left right).faults
      → first_of kept (chained left (map (linked site names) (drop i ls))).faults ≡ first_of two (chained new (map (linked site names) (drop (i + 1) ls))).faults
  links_kept kept one two left right new ls i l h e r n p q =
      links_noted kept left ls i l h e
      ∙ sym ((λ j. first_of (q j) (chained (n j) (map (linked site names) (drop (i + 1) ls))).faults)
      ∙ (λ j. first_of (first_of (p j) (chain_of l.operator l.place left (r j)).faults) (chained (chain_of l.operator l.place left (r j)).made (map (linked site names) (drop (i + 1) ls))).faults))

  pub links_end : (kept : Option Fault) (left : Option Made) (ls : List Link) (i : ℕ) → length ls ≤ i → first_of kept (chained left (map (linked site names) (drop i ls))).faults ≡ kept
  links_end kept left ls i h = ap (λ ls. first_of kept (chained left (map (linked site names) ls)).faults) (nothing_left ls i h) ∙ first_of_none kept [] refl

  pub links_left : (left : Option Made) (ls : List Link) (i : ℕ) → length ls ≤ i → (chained left (map (linked site names) (drop i ls))).made ≡ left
  links_left left ls i h = ap (λ ls. (chained left (map (linked site names) ls)).made) (nothing_left ls i h)

  -- ---- parts of a whole

  pub parts_made : (whole : Option Made) (ps : List Postfix) (i : ℕ) (p : Postfix) → i < length ps → p ≡ get_or ps i p
      → (parted whole (map (taken site names) (drop i ps))).made ≡ (parted (part_of whole (taken site names p)).made (map (taken site names) (drop (i + 1) ps))).made
  parts_made whole ps i p h e = ap (λ ps. (parted whole (map (taken site names) ps)).made) (at ps i p h e)

  pub parts_noted : (kept : Option Fault) (whole : Option Made) (ps : List Postfix) (i : ℕ) (p : Postfix) → i < length ps → p ≡ get_or ps i p
      → first_of kept (parted whole (map (taken site names) (drop i ps))).faults ≡ first_of (first_of kept (part_of whole (taken site names p)).faults) (parted (part_of whole (taken site names p)).made (map (taken site names) (drop (i + 1) ps))).faults
  parts_noted kept whole ps i p h e = ap (λ ps. first_of kept (parted whole (map (taken site names) ps)).faults) (at ps i p h e) ∙ noted_one kept _ _

  pub parts_end : (kept : Option Fault) (whole : Option Made) (ps : List Postfix) (i : ℕ) → length ps ≤ i → first_of kept (parted whole (map (taken site names) (drop i ps))).faults ≡ kept
  parts_end kept whole ps i h = ap (λ ps. first_of kept (parted whole (map (taken site names) ps)).faults) (nothing_left ps i h) ∙ first_of_none kept [] refl

  pub parts_left : (whole : Option Made) (ps : List Postfix) (i : ℕ) → length ps ≤ i → (parted whole (map (taken site names) (drop i ps))).made ≡ whole
  parts_left whole ps i h = ap (λ ps. (parted whole (map (taken site names) ps)).made) (nothing_left ps i h)

  -- ---- several expressions

  pub all_made_more : (done : List (Option Made)) (es : List Expr) (i : ℕ) (e : Expr) → i < length es → e ≡ get_or es i e
      → done ++ map made_of (map (typing site names) (drop i es)) ≡ (done ++ (typing site names e).made ∷ []) ++ map made_of (map (typing site names) (drop (i + 1) es))
  all_made_more done es i e h p = ap (λ es. done ++ map made_of (map (typing site names) es)) (at es i e h p) ∙ sym (append_assoc done ((typing site names e).made ∷ []) _)

  pub all_noted : (kept : Option Fault) (es : List Expr) (i : ℕ) (e : Expr) → i < length es → e ≡ get_or es i e
      → first_of kept (all_faults (map (typing site names) (drop i es))) ≡ first_of (first_of kept (typing site names e).faults) (all_faults (map (typing site names) (drop (i + 1) es)))
  all_noted kept es i e h p = ap (λ es. first_of kept (all_faults (map (typing site names) es))) (at es i e h p) ∙ noted_one kept _ _

  pub all_end : (kept : Option Fault) (es : List Expr) (i : ℕ) → length es ≤ i → first_of kept (all_faults (map (typing site names) (drop i es))) ≡ kept
  all_end kept es i h = ap (λ es. first_of kept (all_faults (map (typing site names) es))) (nothing_left es i h) ∙ first_of_none kept [] refl

  pub all_left : (done : List (Option Made)) (es : List Expr) (i : ℕ) → length es ≤ i → done ++ map made_of (map (typing site names) (drop i es)) ≡ done
  all_left done es i h = ap (λ es. done ++ map made_of (map (typing site names) es)) (nothing_left es i h) ∙ append-nil done

  -- ---- entries

  pub keys_more : (done : List (Option Made)) (es : List Entry) (i : ℕ) (e : Entry) → i < length es → e ≡ get_or es i e
      → done ++ map key_made (map (paired site names) (drop i es)) ≡ (done ++ (typing site names e.key).made ∷ []) ++ map key_made (map (paired site names) (drop (i + 1) es))
  keys_more done es i e h p = ap (λ es. done ++ map key_made (map (paired site names) es)) (at es i e h p)
      ∙ ap (λ x. done ++ key_made x ∷ map key_made (map (paired site names) (drop (i + 1) es))) (paired_is site names e) ∙ sym (append_assoc done ((typing site names e.key).made ∷ []) _)

  pub values_more : (done : List (Option Made)) (es : List Entry) (i : ℕ) (e : Entry) → i < length es → e ≡ get_or es i e
      → done ++ map value_made (map (paired site names) (drop i es)) ≡ (done ++ (typing site names e.value).made ∷ []) ++ map value_made (map (paired site names) (drop (i + 1) es))
  values_more done es i e h p = ap (λ es. done ++ map value_made (map (paired site names) es)) (at es i e h p)
      ∙ ap (λ x. done ++ value_made x ∷ map value_made (map (paired site names) (drop (i + 1) es))) (paired_is site names e) ∙ sym (append_assoc done ((typing site names e.value).made ∷ []) _)

  pub entries_noted : (kept : Option Fault) (es : List Entry) (i : ℕ) (e : Entry) → i < length es → e ≡ get_or es i e
      → first_of kept (entry_faults (map (paired site names) (drop i es))) ≡ first_of (first_of (first_of kept (typing site names e.key).faults) (typing site names e.value).faults) (entry_faults (map (paired site names) (drop (i + 1) es)))
  entries_noted kept es i e h p = ap (λ es. first_of kept (entry_faults (map (paired site names) es))) (at es i e h p)
      ∙ ap (λ (x : Paired). first_of kept ((x.key.faults ++ x.value.faults) ++ entry_faults (map (paired site names) (drop (i + 1) es)))) (paired_is site names e) ∙ noted_two kept _ _ _

  pub entries_end : (kept : Option Fault) (es : List Entry) (i : ℕ) → length es ≤ i → first_of kept (entry_faults (map (paired site names) (drop i es))) ≡ kept
  entries_end kept es i h = ap (λ es. first_of kept (entry_faults (map (paired site names) es))) (nothing_left es i h) ∙ first_of_none kept [] refl

  pub keys_left : (done : List (Option Made)) (es : List Entry) (i : ℕ) → length es ≤ i → done ++ map key_made (map (paired site names) (drop i es)) ≡ done
  keys_left done es i h = ap (λ es. done ++ map key_made (map (paired site names) es)) (nothing_left es i h) ∙ append-nil done

  pub values_left : (done : List (Option Made)) (es : List Entry) (i : ℕ) → length es ≤ i → done ++ map value_made (map (paired site names) (drop i es)) ≡ done
  values_left done es i h = ap (λ es. done ++ map value_made (map (paired site names) es)) (nothing_left es i h) ∙ append-nil done

  -- ---- fields

  pub fields_noted : (kept : Option Fault) (fs : List Formal) (i : ℕ) (f : Formal) → i < length fs → f ≡ get_or fs i f
      → first_of kept (each_field_faults (map (formal site names) (drop i fs))) ≡ first_of (first_of kept (faults_of (formal site names f).ty)) (each_field_faults (map (formal site names) (drop (i + 1) fs)))
  fields_noted kept fs i f h p = ap (λ fs. first_of kept (each_field_faults (map (formal site names) fs))) (at fs i f h p) ∙ noted_one kept _ _

  pub fields_end : (kept : Option Fault) (fs : List Formal) (i : ℕ) → length fs ≤ i → first_of kept (each_field_faults (map (formal site names) (drop i fs))) ≡ kept
  fields_end kept fs i h = ap (λ fs. first_of kept (each_field_faults (map (formal site names) fs))) (nothing_left fs i h) ∙ first_of_none kept [] refl

  joined_nothing : (done : Option (List (List ℕ × Ty))) → joined_on done (Some []) ≡ done
  joined_nothing None = refl
  joined_nothing (Some done) = ap Some (append-nil done)

  pub fields_left : (done : Option (List (List ℕ × Ty))) (last : Option Ty) (fs : List Formal) (i : ℕ) → length fs ≤ i → joined_on done (parts_from last (map (formal site names) (drop i fs))) ≡ done
  fields_left done last fs i h = ap (λ fs. joined_on done (parts_from last (map (formal site names) fs))) (nothing_left fs i h) ∙ joined_nothing done

  one_more : (name : List ℕ) (done : Option (List (List ℕ × Ty))) (t : Option Ty) (rest : Ty → Option (List (List ℕ × Ty)))
      → joined_on done (option_and_then (λ t. option_map (λ parts. (name, t) ∷ parts) (rest t)) t) ≡ joined_on (option_and_then (λ done. option_map (λ t. done ++ (name, t) ∷ []) t) done) (option_and_then rest t)
  one_more name None t rest = refl
  one_more name (Some done) None rest = refl
  one_more name (Some done) (Some t) rest = on (rest t)
    where
      on : (o : Option (List (List ℕ × Ty))) → before done (option_map (λ parts. (name, t) ∷ parts) o) ≡ before (done ++ (name, t) ∷ []) o
      on None = refl
      on (Some parts) = ap Some (sym (append_assoc done ((name, t) ∷ []) parts))

  -- where there is no type, nothing is joined on
  same_rest : (name : List ℕ) (done : Option (List (List ℕ × Ty))) (t : Option Ty) (fs : List Field)
      → joined_on (option_and_then (λ done. option_map (λ t. done ++ (name, t) ∷ []) t) done) (option_and_then (λ t. parts_from (Some t) fs) t) ≡ joined_on (option_and_then (λ done. option_map (λ t. done ++ (name, t) ∷ []) t) done) (parts_from t fs)
  same_rest name None t fs = refl
  same_rest name (Some done) None fs = refl
  same_rest name (Some done) (Some t) fs = refl

  pub fields_made : (done : Option (List (List ℕ × Ty))) (last : Option Ty) (fs : List Formal) (i : ℕ) (f : Formal) → i < length fs → f ≡ get_or fs i f
      → joined_on done (parts_from last (map (formal site names) (drop i fs)))
      ≡ joined_on (option_and_then (λ done. option_map (λ t. done ++ (f.name.text, t) ∷ []) (field_type last (formal site names f).ty)) done) (parts_from (field_type last (formal site names f).ty) (map (formal site names) (drop (i + 1) fs)))
  fields_made done last fs i f h p = ap (λ fs. joined_on done (parts_from last (map (formal site names) fs))) (at fs i f h p)
      ∙ one_more (formal site names f).name.text done (field_type last (formal site names f).ty) (λ t. parts_from (Some t) (map (formal site names) (drop (i + 1) fs)))
      ∙ same_rest (formal site names f).name.text done (field_type last (formal site names f).ty) (map (formal site names) (drop (i + 1) fs))
      ∙ ap (λ (n : Name). joined_on (option_and_then (λ done. option_map (λ t. done ++ (n.text, t) ∷ []) (field_type last (formal site names f).ty)) done) (parts_from (field_type last (formal site names f).ty) (map (formal site names) (drop (i + 1) fs)))) (named_formal site names f)

  -- one more field, of which the type and those with it are known
  pub fields_more : (done new : Option (List (List ℕ × Ty))) (last ty : Option Ty) (fs : List Formal) (i : ℕ) (f : Formal) → i < length fs → f ≡ get_or fs i f → ty ≡ field_type last (formal site names f).ty
      → new ≡ option_and_then (λ done. option_map (λ t. done ++ (f.name.text, t) ∷ []) ty) done
      → joined_on done (parts_from last (map (formal site names) (drop i fs))) ≡ joined_on new (parts_from ty (map (formal site names) (drop (i + 1) fs)))
  fields_more done new last ty fs i f h p t n =
      fields_made done last fs i f h p
      ∙ sym ((λ j. joined_on (n j) (parts_from (t j) (map (formal site names) (drop (i + 1) fs))))
      ∙ ap (λ x. joined_on (option_and_then (λ done. option_map (λ t. done ++ (f.name.text, t) ∷ []) x) done) (parts_from (field_type last (formal site names f).ty) (map (formal site names) (drop (i + 1) fs)))) t)

  nothing_before : (o : Option (List (List ℕ × Ty))) → o ≡ before [] o
  nothing_before None = refl
  nothing_before (Some parts) = refl

  pub fields_begin : (done : Option (List (List ℕ × Ty))) (fs : List Formal) → done ≡ Some [] → parts_from None (map (formal site names) fs) ≡ joined_on done (parts_from None (map (formal site names) fs))
  fields_begin done fs h = nothing_before (parts_from None (map (formal site names) fs)) ∙ ap (λ d. joined_on d (parts_from None (map (formal site names) fs))) (sym h)

  same_first : (ty : Option TypeTree) (place : Place) → untyped_rule (option_map (λ t. reading site names t false) ty) place ≡ untyped_rule ty place
  same_first None place = refl
  same_first (Some t) place = refl

  pub first_noted : (kept : Option Fault) (fs : List Formal) → first_of kept (field_faults (map (formal site names) fs)) ≡ first_of (first_of kept (first_rule (map placed_formal fs))) (each_field_faults (map (formal site names) fs))
  first_noted kept [] = sym (first_of_none (first_of kept []) [] refl)
  first_noted kept (f ∷ fs) = noted_one kept _ _
      ∙ ap (λ (x : Field). first_of (first_of kept (untyped_rule x.ty x.name.place)) (each_field_faults (map (formal site names) (f ∷ fs)))) (formal_is site names f)
      ∙ ap (λ fs'. first_of (first_of kept fs') (each_field_faults (map (formal site names) (f ∷ fs)))) (same_first f.ty f.name.place)
