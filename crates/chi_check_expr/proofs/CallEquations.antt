-- Private to proofs. What a call comes to, and a name that stands for a function.
use Rattle.std.proofs.Common.{◌≡◌, Bool, true, false, cond, List, [], ◌∷◌, map, length, get_or, Option, Some, None, refl, sym, ap, ◌∙◌, arith}
use Rattle.chi_tree.specs.declared.type_tree.Name.{Name}
use Rattle.chi_tree.specs.declared.type_tree.TypeTree.{TypeTree}
use Rattle.chi_tree.specs.declared.type_tree.Formal.{Formal}
use Rattle.chi_tree.specs.declared.expr.Expr.{Expr, Expr-F, out-Expr, roll-Expr, roll-out-Expr, map-Expr}
use Rattle.chi_tree.specs.declared.expr.Postfix.{Postfix}
use Rattle.chi_tree.specs.declared.expr.Entry.{Entry}
use Rattle.chi_tree.specs.declared.expr.Link.{Link}
use Rattle.chi_tree.specs.declared.expr.Expr.TheVariants as expr
use Rattle.chi_check_types.specs.declared.fault.Fault.{Fault}
use Rattle.chi_check_types.specs.declared.meant.Made.{Made}
use Rattle.chi_check_types.specs.declared.site.Site.{Site}
use Rattle.chi_check_types.specs.Faults.{first_of}
use Rattle.chi_check_types.specs.Names.{Names, known_in}
use Rattle.chi_check_types.specs.Predefined.{predefined_of, is_predefined}
use Rattle.chi_check_types.specs.Typed.{Typed}
use Rattle.chi_check_expr.specs.Calls as calls
use Rattle.chi_check_expr.specs.Calls.{is_insertion, function_known, inserted, call_by, called_with, called}
use Rattle.chi_check_expr.specs.Reads.{Read, Taken, Reading, Paired, Linked, Field, typed_of, made_of, all_faults}
use Rattle.chi_check_expr.specs.Expressions.{expr_step}
use Rattle.chi_check_expr.specs.Typing.{read, taken, reading, paired, linked, formal, typing}
use Rattle.chi_check_expr.proofs.Opened.{read_is, map_typed, noted_one, noted_two}

module _ (site : Site) (names : Names) where
  pub named_read : (e : Expr) (name : Name) → e ≡ expr.Named name → (read site names e).name ≡ Some name
  named_read e name h = ap (λ (r : Read). r.name) (read_is site names e (Expr-F.Named name) (ap out-Expr h ∙ expr.outs-Named name))

  pub predefined_unknown : (e : Expr) (name : Name) → e ≡ expr.Named name → is_predefined name.text ≡ true → None ≡ function_known names (read site names e).name
  predefined_unknown e name h p = sym (ap (function_known names) (named_read e name h) ∙ ap (λ b. cond b None (known_in names name.text)) p)

  pub name_known : (e : Expr) (name : Name) → e ≡ expr.Named name → is_predefined name.text ≡ false → known_in names name.text ≡ function_known names (read site names e).name
  name_known e name h p = sym (ap (function_known names) (named_read e name h) ∙ ap (λ b. cond b None (known_in names name.text)) p)

  unnamed_layer : (o : Expr-F Expr Postfix TypeTree Entry Link Formal) → ((name : Name) → o ≡ Expr-F.Named name → ⊥)
      → function_known names (expr_step site names (map-Expr Expr Postfix TypeTree Entry Link Formal Read Taken Reading Paired Linked Field (read site names) (taken site names) (reading site names) (paired site names) (linked site names) (formal site names) o)).name ≡ None
  unnamed_layer (Expr-F.Named name) h = absurd (h name refl)
  unnamed_layer _ h = refl

  pub unnamed : (e : Expr) → ((name : Name) → e ≡ expr.Named name → ⊥) → None ≡ function_known names (read site names e).name
  unnamed e h = sym (ap (λ (r : Read). function_known names r.name) (read_is site names e (out-Expr e) refl)
      ∙ unnamed_layer (out-Expr e) (λ name p. h name (sym (roll-out-Expr e) ∙ ap roll-Expr p ∙ expr.rolls-Named name)))

  Call_typed : (e : Expr) (name : Name) (arguments : List Expr) → e ≡ expr.Call name arguments → typing site names e ≡ calls.call site names name (map (read site names) arguments)
  Call_typed e name arguments h = ap typed_of (read_is site names e (Expr-F.Call name arguments) (ap out-Expr h ∙ expr.outs-Call name arguments))

  pub made_Call : (e : Expr) (name : Name) (arguments : List Expr) → e ≡ expr.Call name arguments → (typing site names e).made ≡ (calls.call site names name (map (read site names) arguments)).made
  made_Call e name arguments h = ap made_of (Call_typed e name arguments h)

  pub noted_Call : (kept : Option Fault) (e : Expr) (name : Name) (arguments : List Expr) → e ≡ expr.Call name arguments
      → first_of kept (typing site names e).faults ≡ first_of kept (calls.call site names name (map (read site names) arguments)).faults
  noted_Call kept e name arguments h = ap (λ (t : Typed Made). first_of kept t.faults) (Call_typed e name arguments h)

  -- ---- an insertion of three arguments

  pub three_typed : (name : Name) (es : List Expr) → is_insertion (predefined_of name.text) ≡ true → calls.call site names name (map (read site names) es) ≡ called site names name true (map (read site names) es)
  three_typed name es i = ap (λ b. called site names name b (map (read site names) es)) i

  pub made_three : (name : Name) (es : List Expr) (m : Option Made) → is_insertion (predefined_of name.text) ≡ true
      → m ≡ (called site names name true (map (read site names) es)).made → m ≡ (calls.call site names name (map (read site names) es)).made
  made_three name es m i h = h ∙ sym (ap made_of (three_typed name es i))

  pub noted_three : (kept new : Option Fault) (name : Name) (es : List Expr) → is_insertion (predefined_of name.text) ≡ true
      → new ≡ first_of kept (called site names name true (map (read site names) es)).faults → new ≡ first_of kept (calls.call site names name (map (read site names) es)).faults
  noted_three kept new name es i h = h ∙ sym (ap (λ (t : Typed Made). first_of kept t.faults) (three_typed name es i))

  pub made_inserted : (name : Name) (es : List Expr) (a b by : Expr) (list element m : Option Made) → es ≡ a ∷ b ∷ by ∷ [] → list ≡ (typing site names a).made → element ≡ (typing site names b).made
      → m ≡ (inserted site names name list element (read site names by).name).made → m ≡ (called site names name true (map (read site names) es)).made
  made_inserted name es a b by list element m h l e n =
      n ∙ (λ i. (inserted site names name (l i) (e i) (read site names by).name).made) ∙ sym (ap (λ es. (called site names name true (map (read site names) es)).made) h)

  pub noted_inserted : (kept one two new : Option Fault) (name : Name) (es : List Expr) (a b by : Expr) (list element : Option Made) → es ≡ a ∷ b ∷ by ∷ []
      → list ≡ (typing site names a).made → element ≡ (typing site names b).made → one ≡ first_of kept (typing site names a).faults → two ≡ first_of one (typing site names b).faults
      → new ≡ first_of two (inserted site names name list element (read site names by).name).faults → new ≡ first_of kept (called site names name true (map (read site names) es)).faults
  noted_inserted kept one two new name es a b by list element h l e p q n =
      n ∙ (λ i. first_of (q i) (inserted site names name (l i) (e i) (read site names by).name).faults)
      ∙ ap (λ k. first_of (first_of k (typing site names b).faults) (inserted site names name (typing site names a).made (typing site names b).made (read site names by).name).faults) p
      ∙ sym (ap (λ es. first_of kept (called site names name true (map (read site names) es)).faults) h ∙ noted_two kept (typing site names a).faults (typing site names b).faults _)

  -- ---- any other call

  plain_typed : (name : Name) (es : List Expr) → is_insertion (predefined_of name.text) ≡ false → calls.call site names name (map (read site names) es) ≡ called_with site names name (map (typing site names) es)
  plain_typed name es i = ap (λ b. called site names name b (map (read site names) es)) i ∙ ap (called_with site names name) (map_typed site names es)

  not_three : (b : Bool) (name : Name) (es : List Expr) → (length es ≡ 3 → ⊥) → called site names name b (map (read site names) es) ≡ called_with site names name (map typed_of (map (read site names) es))
  not_three false name es h = refl
  not_three true name [] h = refl
  not_three true name (a ∷ []) h = refl
  not_three true name (a ∷ b ∷ []) h = refl
  not_three true name (a ∷ b ∷ c ∷ []) h = absurd (h refl)
  not_three true name (a ∷ b ∷ c ∷ d ∷ es) h = refl

  other_typed : (name : Name) (es : List Expr) → (length es ≡ 3 → ⊥) → calls.call site names name (map (read site names) es) ≡ called_with site names name (map (typing site names) es)
  other_typed name es h = not_three (is_insertion (predefined_of name.text)) name es h ∙ ap (called_with site names name) (map_typed site names es)

  -- where three arguments aren't those of an insertion
  call_typed : (b : Bool) (name : Name) (es : List Expr) → is_insertion (predefined_of name.text) ≡ b → (length es ≡ 3 → is_insertion (predefined_of name.text) ≡ false)
      → calls.call site names name (map (read site names) es) ≡ called_with site names name (map (typing site names) es)
  call_typed false name es e h = plain_typed name es e
  call_typed true name es e h = other_typed name es (λ three. let f = h three in absurd (cc))

  pub made_other : (name : Name) (es : List Expr) (m : Option Made) → (length es ≡ 3 → is_insertion (predefined_of name.text) ≡ false)
      → m ≡ (called_with site names name (map (typing site names) es)).made → m ≡ (calls.call site names name (map (read site names) es)).made
  made_other name es m h n = n ∙ sym (ap made_of (call_typed (is_insertion (predefined_of name.text)) name es refl h))

  pub noted_other : (kept new : Option Fault) (name : Name) (es : List Expr) → (length es ≡ 3 → is_insertion (predefined_of name.text) ≡ false)
      → new ≡ first_of kept (called_with site names name (map (typing site names) es)).faults → new ≡ first_of kept (calls.call site names name (map (read site names) es)).faults
  noted_other kept new name es h n = n ∙ sym (ap (λ (t : Typed Made). first_of kept t.faults) (call_typed (is_insertion (predefined_of name.text)) name es refl h))

  pub made_plain : (name : Name) (es : List Expr) (parts : List (Option Made)) (m : Option Made) → parts ≡ map made_of (map (typing site names) es)
      → m ≡ (call_by site names name (predefined_of name.text) parts).made → m ≡ (called_with site names name (map (typing site names) es)).made
  made_plain name es parts m p h = h ∙ ap (λ ps. (call_by site names name (predefined_of name.text) ps).made) p

  pub noted_plain : (kept one new : Option Fault) (name : Name) (es : List Expr) (parts : List (Option Made)) → parts ≡ map made_of (map (typing site names) es) → one ≡ first_of kept (all_faults (map (typing site names) es))
      → new ≡ first_of one (call_by site names name (predefined_of name.text) parts).faults → new ≡ first_of kept (called_with site names name (map (typing site names) es)).faults
  noted_plain kept one new name es parts p o h =
      h ∙ (λ i. first_of (o i) (call_by site names name (predefined_of name.text) (p i)).faults) ∙ sym (noted_one kept (all_faults (map (typing site names) es)) _)

pub three_items : (es : List Expr) (a b by : Expr) → length es ≡ 3 → a ≡ get_or es 0 a → b ≡ get_or es 1 b → by ≡ get_or es 2 by → es ≡ a ∷ b ∷ by ∷ []
three_items [] a b by n p q r = absurd (omega arith)
three_items (x ∷ []) a b by n p q r = absurd (omega arith)
three_items (x ∷ y ∷ []) a b by n p q r = absurd (omega arith)
three_items (x ∷ y ∷ z ∷ []) a b by n p q r = (λ i. sym p i ∷ sym q i ∷ sym r i ∷ [])
three_items (x ∷ y ∷ z ∷ w ∷ es) a b by n p q r = absurd (omega arith)
