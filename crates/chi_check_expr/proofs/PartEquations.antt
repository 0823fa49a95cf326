-- Private to proofs. What takes a part of a whole, a bound of a slice, and the type before a field.
use Rattle.std.proofs.Common.{◌≡◌, Bool, false, List, [], ◌∷◌, Option, Some, None, refl, sym, ap, ◌∙◌}
use Rattle.std.specs.Prelude.{option_map}
use Rattle.chi_token.specs.declared.place.Place.{Place}
use Rattle.chi_tree.specs.declared.type_tree.Name.{Name}
use Rattle.chi_tree.specs.declared.type_tree.TypeTree.{TypeTree}
use Rattle.chi_tree.specs.declared.type_tree.Formal.{Formal}
use Rattle.chi_tree.specs.declared.expr.Expr.{Expr}
use Rattle.chi_tree.specs.declared.expr.Postfix.{Postfix, Postfix-F, out-Postfix, map-Postfix}
use Rattle.chi_tree.specs.declared.expr.Postfix.TheVariants as postfix
use Rattle.chi_tree.specs.declared.expr.Entry.{Entry}
use Rattle.chi_tree.specs.declared.expr.Link.{Link}
use Rattle.chi_types.specs.declared.ty.Ty.{Ty}
use Rattle.chi_check_types.specs.declared.fault.Fault.{Fault}
use Rattle.chi_check_types.specs.declared.meant.Made.{Made}
use Rattle.chi_check_types.specs.declared.site.Site.{Site}
use Rattle.chi_check_types.specs.Faults.{first_of}
use Rattle.chi_check_types.specs.Names.{Names}
use Rattle.chi_check_types.specs.Typed.{Typed}
use Rattle.chi_check_types.proofs.Firsts.{first_of_none, first_of_append}
use Rattle.chi_check_expr_rules.specs.Parts.{Bounds, if_given, given, index_of, slice_of, field_of}
use Rattle.chi_check_expr.specs.Expressions.{postfix_step, part_of}
use Rattle.chi_check_expr.specs.Reads.{Read, Taken, index, slice, field, Reading, Paired, Linked, Field, made_of, all_faults}
use Rattle.chi_check_expr.specs.TypeTrees.{faults_of, field_type}
use Rattle.chi_check_expr.specs.Typing.{read, taken, paired, linked, formal, reading, typing}
use Rattle.chi_check_expr.proofs.Opened.{taken_is, formal_is, noted_one}

abbrev bounds_of : {A : Type 0} → Option A → Option A → Option A → Bounds A
bounds_of from upto by = record { from = from; upto = upto; by = by }

pub one_noted : (kept : Option Fault) (t : Typed Made) → first_of kept (all_faults (t ∷ [])) ≡ first_of kept t.faults
one_noted kept t = first_of_append kept t.faults [] ∙ first_of_none _ [] refl

pub none_noted : (kept : Option Fault) → first_of kept [] ≡ kept
none_noted kept = first_of_none kept [] refl

given_noted : (kept : Option Fault) (o : Option (Typed Made)) (more : List (Typed Made)) → first_of kept (all_faults (if_given o more)) ≡ first_of (first_of kept (all_faults (if_given o []))) (all_faults more)
given_noted kept None more = ap (λ k. first_of k (all_faults more)) (sym (none_noted kept))
given_noted kept (Some t) more = first_of_append kept t.faults (all_faults more) ∙ ap (λ k. first_of k (all_faults more)) (sym (one_noted kept t))

module _ (site : Site) (names : Names) where
  abbrev step : Postfix-F Expr Postfix TypeTree Entry Link Formal → Taken
  step o = postfix_step (map-Postfix Expr Postfix TypeTree Entry Link Formal Read Taken Reading Paired Linked Field (read site names) (taken site names) (reading site names) (paired site names) (linked site names) (formal site names) o)

  abbrev typed_if : Option Expr → Option (Typed Made)
  typed_if = option_map (typing site names)

  bounds_step : (place : Place) (from upto : Option Expr) (second : Bool) (by : Option Expr) → step (Postfix-F.Slice place from upto second by) ≡ slice place (bounds_of (typed_if from) (typed_if upto) (typed_if by))
  bounds_step place None None second None = refl
  bounds_step place None None second (Some c) = refl
  bounds_step place None (Some b) second None = refl
  bounds_step place None (Some b) second (Some c) = refl
  bounds_step place (Some a) None second None = refl
  bounds_step place (Some a) None second (Some c) = refl
  bounds_step place (Some a) (Some b) second None = refl
  bounds_step place (Some a) (Some b) second (Some c) = refl

  Index_taken : (p : Postfix) (place : Place) (i : Expr) → p ≡ postfix.Index place i → taken site names p ≡ index place (typing site names i)
  Index_taken p place i h = taken_is site names p (Postfix-F.Index place i) (ap out-Postfix h ∙ postfix.outs-Index place i)

  Slice_taken : (p : Postfix) (place : Place) (from upto : Option Expr) (second : Bool) (by : Option Expr) → p ≡ postfix.Slice place from upto second by
      → taken site names p ≡ slice place (bounds_of (typed_if from) (typed_if upto) (typed_if by))
  Slice_taken p place from upto second by h = taken_is site names p (Postfix-F.Slice place from upto second by) (ap out-Postfix h ∙ postfix.outs-Slice place from upto second by) ∙ bounds_step place from upto second by

  Field_taken : (p : Postfix) (name : Name) → p ≡ postfix.Field name → taken site names p ≡ field name
  Field_taken p name h = taken_is site names p (Postfix-F.Field name) (ap out-Postfix h ∙ postfix.outs-Field name)

  pub made_Index : (whole : Option Made) (p : Postfix) (place : Place) (i : Expr) → p ≡ postfix.Index place i → (part_of whole (taken site names p)).made ≡ (index_of place whole (typing site names i).made).made
  made_Index whole p place i h = ap (λ t. (part_of whole t).made) (Index_taken p place i h)

  pub noted_Index : (kept : Option Fault) (whole : Option Made) (p : Postfix) (place : Place) (i : Expr) → p ≡ postfix.Index place i
      → first_of kept (part_of whole (taken site names p)).faults ≡ first_of (first_of kept (typing site names i).faults) (index_of place whole (typing site names i).made).faults
  noted_Index kept whole p place i h = ap (λ t. first_of kept (part_of whole t).faults) (Index_taken p place i h) ∙ noted_one kept (typing site names i).faults _

  abbrev sliced : Place → Option Made → Option Expr → Option Expr → Option Expr → Typed Made
  sliced place whole from upto by = slice_of place whole (bounds_of (option_map made_of (typed_if from)) (option_map made_of (typed_if upto)) (option_map made_of (typed_if by)))

  pub made_Slice : (whole : Option Made) (p : Postfix) (place : Place) (from upto : Option Expr) (second : Bool) (by : Option Expr) → p ≡ postfix.Slice place from upto second by
      → (part_of whole (taken site names p)).made ≡ (sliced place whole from upto by).made
  made_Slice whole p place from upto second by h = ap (λ t. (part_of whole t).made) (Slice_taken p place from upto second by h)

  pub noted_Slice : (kept : Option Fault) (whole : Option Made) (p : Postfix) (place : Place) (from upto : Option Expr) (second : Bool) (by : Option Expr) → p ≡ postfix.Slice place from upto second by
      → first_of kept (part_of whole (taken site names p)).faults
      ≡ first_of (first_of (first_of (first_of kept (all_faults (if_given (typed_if from) []))) (all_faults (if_given (typed_if upto) []))) (all_faults (if_given (typed_if by) []))) (sliced place whole from upto by).faults
  noted_Slice kept whole p place from upto second by h = ap (λ t. first_of kept (part_of whole t).faults) (Slice_taken p place from upto second by h)
      ∙ noted_one kept (all_faults (given (bounds_of (typed_if from) (typed_if upto) (typed_if by)))) _
      ∙ ap (λ k. first_of k (sliced place whole from upto by).faults) (given_noted kept (typed_if from) _ ∙ given_noted _ (typed_if upto) _)

  pub made_sliced : (whole m : Option Made) (p : Postfix) (place : Place) (from upto : Option Expr) (second : Bool) (by : Option Expr) (a b : Option (Option Made)) → p ≡ postfix.Slice place from upto second by
      → a ≡ option_map made_of (typed_if from) → b ≡ option_map made_of (typed_if upto)
      → m ≡ (slice_of place whole (bounds_of a b (option_map made_of (typed_if by)))).made → m ≡ (part_of whole (taken site names p)).made
  made_sliced whole m p place from upto second by a b h f u t =
      t ∙ (λ i. (slice_of place whole (bounds_of (f i) (u i) (option_map made_of (typed_if by)))).made) ∙ sym (made_Slice whole p place from upto second by h)

  pub noted_sliced : (kept one two new : Option Fault) (whole : Option Made) (p : Postfix) (place : Place) (from upto : Option Expr) (second : Bool) (by : Option Expr) (a b : Option (Option Made)) → p ≡ postfix.Slice place from upto second by
      → a ≡ option_map made_of (typed_if from) → b ≡ option_map made_of (typed_if upto) → one ≡ first_of kept (all_faults (if_given (typed_if from) [])) → two ≡ first_of one (all_faults (if_given (typed_if upto) []))
      → new ≡ first_of (first_of two (all_faults (if_given (typed_if by) []))) (slice_of place whole (bounds_of a b (option_map made_of (typed_if by)))).faults → new ≡ first_of kept (part_of whole (taken site names p)).faults
  noted_sliced kept one two new whole p place from upto second by a b h f u n o t =
      t ∙ (λ i. first_of (first_of (o i) (all_faults (if_given (typed_if by) []))) (slice_of place whole (bounds_of (f i) (u i) (option_map made_of (typed_if by)))).faults)
      ∙ ap (λ k. first_of (first_of (first_of k (all_faults (if_given (typed_if upto) []))) (all_faults (if_given (typed_if by) []))) (sliced place whole from upto by).faults) n
      ∙ sym (noted_Slice kept whole p place from upto second by h)

  pub made_Field : (whole : Option Made) (p : Postfix) (name : Name) → p ≡ postfix.Field name → (part_of whole (taken site names p)).made ≡ (field_of name whole).made
  made_Field whole p name h = ap (λ t. (part_of whole t).made) (Field_taken p name h)

  pub noted_Field : (kept : Option Fault) (whole : Option Made) (p : Postfix) (name : Name) → p ≡ postfix.Field name → first_of kept (part_of whole (taken site names p)).faults ≡ first_of kept (field_of name whole).faults
  noted_Field kept whole p name h = ap (λ t. first_of kept (part_of whole t).faults) (Field_taken p name h)

  -- ---- the type before a field

  formal_ty : (f : Formal) → (formal site names f).ty ≡ option_map (λ t. reading site names t false) f.ty
  formal_ty f = ap (λ (x : Field). x.ty) (formal_is site names f)

  pub made_untyped : (last : Option Ty) (f : Formal) → f.ty ≡ None → field_type last (formal site names f).ty ≡ last
  made_untyped last f h = ap (field_type last) (formal_ty f ∙ ap (option_map (λ t. reading site names t false)) h)

  pub noted_untyped : (kept : Option Fault) (f : Formal) → f.ty ≡ None → first_of kept (faults_of (formal site names f).ty) ≡ kept
  noted_untyped kept f h = ap (λ t. first_of kept (faults_of t)) (formal_ty f ∙ ap (option_map (λ t. reading site names t false)) h) ∙ none_noted kept

  pub made_typed : (last : Option Ty) (f : Formal) (t : TypeTree) → f.ty ≡ Some t → field_type last (formal site names f).ty ≡ option_map (λ m. m.ty) (reading site names t false).made
  made_typed last f t h = ap (field_type last) (formal_ty f ∙ ap (option_map (λ t. reading site names t false)) h)

  pub noted_typed : (kept : Option Fault) (f : Formal) (t : TypeTree) → f.ty ≡ Some t → first_of kept (faults_of (formal site names f).ty) ≡ first_of kept (reading site names t false).faults
  noted_typed kept f t h = ap (λ t. first_of kept (faults_of t)) (formal_ty f ∙ ap (option_map (λ t. reading site names t false)) h)
