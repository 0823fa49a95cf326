-- What a call comes to is the same without places.
use Rattle.std.proofs.Common.{◌≡◌, ℕ, Bool, true, false, List, [], ◌∷◌, ◌++◌, map, length, Option, Some, None, refl, ap, ◌∙◌}
use Rattle.std.specs.Prelude.{nat_eq}
use Rattle.std.specs.Option.{option_map}
use Rattle.chi_token.specs.declared.place.Place.{Place}
use Rattle.chi_tree.specs.declared.type_tree.Name.{Name}
use Rattle.chi_tree.specs.View.{nowhere}
use Rattle.chi_tree_laws.specs.Unplaced.{unplaced_name}
use Rattle.chi_types.specs.declared.ty.Ty.{Ty, out-Ty}
use Rattle.chi_check_types.specs.declared.known.Known.{Known}
use Rattle.chi_check_types.specs.declared.known.Known.TheVariants as known
use Rattle.chi_check_types.specs.declared.known.NameKind.{NameKind}
use Rattle.chi_check_types.specs.declared.known.NameKind.TheVariants as kind
use Rattle.chi_check_types.specs.declared.meant.Made.{Made}
use Rattle.chi_check_types.specs.declared.predefined.Predefined.{Predefined}
use Rattle.chi_check_types.specs.declared.predefined.Predefined.TheVariants as predefined_name
use Rattle.chi_check_types.specs.declared.rules.TheConstants.{CALL_ARGUMENTS, PREDEFINED}
use Rattle.chi_check_types.specs.declared.site.Site.{Site}
use Rattle.chi_check_types.specs.Names.{Names, known_in}
use Rattle.chi_check_types.specs.Predefined.{predefined_of}
use Rattle.chi_check_types.specs.Typed.{Typed}
use Rattle.chi_check_expr_rules.specs.Calls as rule
use Rattle.chi_check_expr_rules.specs.Calls.{function_call, untyped_call, call_of}
use Rattle.chi_check_expr_rules.specs.Nodes.{all_made}
use Rattle.chi_check_expr_rules.specs.PredefinedCalls.{is_count, predefined, is_untyped_function, inserted_in, insertion, insertion_of, predefined_rule, before_third, insert_parts, is_insert, predefined_made, predefined_call}
use Rattle.chi_check_expr_rules.specs.Sites.{calling_rule}
use Rattle.chi_check_expr.specs.Reads.{Read, typed_of, made_of, all_faults}
use Rattle.chi_check_expr.specs.Calls.{is_insertion, function_known, inserted, call_by, called_with, called, call}
use Rattle.chi_check_places.specs.UnplacedTyped.{unplaced_faults, unplaced_typed}
use Rattle.chi_check_places.proofs.Faults.{faults-append, tested, after-both, barred-both, settled-unplaced, all-unplaced}
use Rattle.chi_check_places.proofs.Rules.{calling-unplaced, running-unplaced}
use Rattle.chi_check_places.proofs.ReadParts.{unplaced_read, typed-unplaced, made-unplaced, faults-unplaced}

-- ---- predefined names

insertion-unplaced : (place : Place) (list x : Made) (k : Option Known) → insertion nowhere list x k ≡ unplaced_typed (insertion place list x k)
insertion-unplaced place list x None = refl
insertion-unplaced place list x (Some k) =
    tested unplaced_typed (is_untyped_function k) refl (settled-unplaced PREDEFINED place (inserted_in (out-Ty list.ty) list x k))

insertion-of-unplaced : (place : Place) (list x : Option Made) (k : Option Known) → insertion_of nowhere list x k ≡ unplaced_typed (insertion_of place list x k)
insertion-of-unplaced place (Some list) (Some x) k = insertion-unplaced place list x k
insertion-of-unplaced place (Some list) None k = refl
insertion-of-unplaced place None x k = refl

insert-parts-unplaced : (place : Place) (parts : Option (Option Made × Option Made)) (k : Option Known) → insert_parts nowhere parts k ≡ unplaced_typed (insert_parts place parts k)
insert-parts-unplaced place None k = refl
insert-parts-unplaced place (Some parts) k = insertion-of-unplaced place parts.0 parts.1 k

predefined-rule-unplaced : (s : Site) (p : Predefined) (place : Place) → predefined_rule s p nowhere ≡ unplaced_faults (predefined_rule s p place)
predefined-rule-unplaced s predefined_name.Ready place = running-unplaced s place
predefined-rule-unplaced s predefined_name.Finished place = running-unplaced s place
predefined-rule-unplaced s predefined_name.Insert place = calling-unplaced s place
predefined-rule-unplaced s _ place = refl

predefined-made-unplaced : (place : Place) (p : Predefined) (ms : List (Option Made)) (k : Option Known) → predefined_made nowhere p ms k ≡ unplaced_typed (predefined_made place p ms k)
predefined-made-unplaced place p ms k =
    tested unplaced_typed (is_insert p) (insert-parts-unplaced place (before_third ms) k) (all-unplaced PREDEFINED place (is_count p (length ms)) (predefined p) (all_made ms))

predefined-unplaced : (s : Site) (place : Place) (p : Predefined) (ms : List (Option Made)) (k : Option Known) → predefined_call s nowhere p ms k ≡ unplaced_typed (predefined_call s place p ms k)
predefined-unplaced s place p ms k =
    barred-both (predefined_rule s p place) (predefined_made place p ms k) (predefined-rule-unplaced s p place) (predefined-made-unplaced place p ms k)

-- ---- functions

function-unplaced : (place : Place) (number : ℕ) (params : List Ty) (result : Ty) (ms : List (Option Made)) → function_call nowhere number params result ms ≡ unplaced_typed (function_call place number params result ms)
function-unplaced place number params result ms =
    all-unplaced CALL_ARGUMENTS place (nat_eq (length ms) (length params)) (rule.called number params result) (all_made ms)

untyped-call-unplaced : (s : Site) (place : Place) (k : NameKind) → untyped_call s nowhere k ≡ unplaced_typed (untyped_call s place k)
untyped-call-unplaced s place kind.Function = λ i. record { faults = calling-unplaced s place i; made = None }
untyped-call-unplaced s place _ = refl

call-of-unplaced : (s : Site) (place : Place) (k : Option Known) (ms : List (Option Made)) → call_of s nowhere k ms ≡ unplaced_typed (call_of s place k ms)
call-of-unplaced s place None ms = refl
call-of-unplaced s place (Some (known.Func number params result)) ms =
    barred-both (calling_rule s place) (function_call place number params result ms) (calling-unplaced s place) (function-unplaced place number params result ms)
call-of-unplaced s place (Some (known.Untyped k)) ms = untyped-call-unplaced s place k
call-of-unplaced s place (Some _) ms = refl

-- ---- both

function-known-unplaced : (names : Names) (name : Option Name) → function_known names (option_map unplaced_name name) ≡ function_known names name
function-known-unplaced names None = refl
function-known-unplaced names (Some name) = refl

call-by-unplaced : (s : Site) (names : Names) (name : Name) (p : Option Predefined) (ms : List (Option Made)) → call_by s names (unplaced_name name) p ms ≡ unplaced_typed (call_by s names name p ms)
call-by-unplaced s names name None ms = call-of-unplaced s name.place (known_in names name.text) ms
call-by-unplaced s names name (Some p) ms = predefined-unplaced s name.place p ms None

called-with-unplaced : (s : Site) (names : Names) (name : Name) (ts : List (Typed Made)) → called_with s names (unplaced_name name) (map unplaced_typed ts) ≡ unplaced_typed (called_with s names name ts)
called-with-unplaced s names name ts =
    after-both (all_faults ts) (call_by s names name (predefined_of name.text) (map made_of ts)) (faults-unplaced ts)
    (ap (call_by s names (unplaced_name name) (predefined_of name.text)) (made-unplaced ts) ∙ call-by-unplaced s names name (predefined_of name.text) (map made_of ts))

given-unplaced : (s : Site) (names : Names) (name : Name) (rs : List Read) → called_with s names (unplaced_name name) (map typed_of (map unplaced_read rs)) ≡ unplaced_typed (called_with s names name (map typed_of rs))
given-unplaced s names name rs = ap (called_with s names (unplaced_name name)) (typed-unplaced rs) ∙ called-with-unplaced s names name (map typed_of rs)

inserted-unplaced : (s : Site) (names : Names) (name : Name) (list element : Option Made) (by : Option Name)
    → inserted s names (unplaced_name name) list element (option_map unplaced_name by) ≡ unplaced_typed (inserted s names name list element by)
inserted-unplaced s names name list element by =
    ap (predefined_call s nowhere predefined_name.Insert (list ∷ element ∷ None ∷ [])) (function-known-unplaced names by)
    ∙ predefined-unplaced s name.place predefined_name.Insert (list ∷ element ∷ None ∷ []) (function_known names by)

called-unplaced : (s : Site) (names : Names) (name : Name) (b : Bool) (rs : List Read) → called s names (unplaced_name name) b (map unplaced_read rs) ≡ unplaced_typed (called s names name b rs)
called-unplaced s names name false rs = given-unplaced s names name rs
called-unplaced s names name true [] = given-unplaced s names name []
called-unplaced s names name true (x ∷ []) = given-unplaced s names name (x ∷ [])
called-unplaced s names name true (x ∷ y ∷ []) = given-unplaced s names name (x ∷ y ∷ [])
called-unplaced s names name true (x ∷ y ∷ z ∷ []) =
    after-both (x.typed.faults ++ y.typed.faults) (inserted s names name x.typed.made y.typed.made z.name) (faults-append x.typed.faults y.typed.faults)
    (inserted-unplaced s names name x.typed.made y.typed.made z.name)
called-unplaced s names name true (x ∷ y ∷ z ∷ w ∷ rs) = given-unplaced s names name (x ∷ y ∷ z ∷ w ∷ rs)

pub call-unplaced : (s : Site) (names : Names) (name : Name) (rs : List Read) → call s names (unplaced_name name) (map unplaced_read rs) ≡ unplaced_typed (call s names name rs)
call-unplaced s names name rs = called-unplaced s names name (is_insertion (predefined_of name.text)) rs
