-- What an expression comes to, of what its parts come to, is the same without places.
use Rattle.std.proofs.Common.{◌≡◌, false, List, [], ◌∷◌, ◌++◌, map, Option, refl, ap, ◌∙◌}
use Rattle.std.specs.Prelude.{is_some}
use Rattle.std.specs.Option.{option_map}
use Rattle.chi_token.specs.declared.place.Place.{Place}
use Rattle.chi_tree.specs.declared.expr.Expr.{Expr-F}
use Rattle.chi_tree.specs.View.{nowhere}
use Rattle.chi_tree_laws.specs.Unplaced.{unplaced_name}
use Rattle.chi_check_types.specs.declared.meant.Made.{Made}
use Rattle.chi_check_types.specs.declared.rules.TheConstants.{LITERAL_RANGE, OPERATOR, INDEX}
use Rattle.chi_check_types.specs.declared.site.Site.{Site}
use Rattle.chi_check_types.specs.Names.{Names}
use Rattle.chi_check_types.specs.Typed.{Typed, after}
use Rattle.chi_check_expr_rules.specs.Casts.{cast_of}
use Rattle.chi_check_expr_rules.specs.Comparisons.{related, relation_of}
use Rattle.chi_check_expr_rules.specs.Containers.{tuple_of, list_of, set_of, dict_of, empty_list, empty_set, empty_dict}
use Rattle.chi_check_expr_rules.specs.Literals.{int_literal, real_literal}
use Rattle.chi_check_expr_rules.specs.Nodes.{all_made}
use Rattle.chi_check_expr_rules.specs.Operators.{binary, power, chain_of, power_of, prefix_of}
use Rattle.chi_check_expr_rules.specs.Parts.{Bounds, given, indexed, sliced, index_of, slice_of}
use Rattle.chi_check_expr.specs.Expressions.{chained, part_of, parted, name_alone, expr_typed, expr_step}
use Rattle.chi_check_expr.specs.Reads.{Read, Taken, index, slice, field, Reading, Paired, Linked, Field, typed_of, made_of, all_faults, entry_faults, key_made, value_made, each_bound}
use Rattle.chi_check_places.specs.UnplacedTyped.{unplaced_faults, unplaced_typed}
use Rattle.chi_check_places.proofs.Faults.{faults-append, after-both, settled-unplaced, two-unplaced}
use Rattle.chi_check_places.proofs.Rules.{named-value-unplaced, time-unplaced, prefix-unplaced, cast-unplaced, field-unplaced, tuple-unplaced, list-unplaced, set-unplaced, dict-unplaced, empty-list-unplaced, empty-set-unplaced, empty-dict-unplaced}
use Rattle.chi_check_places.proofs.Calls.{call-unplaced}
use Rattle.chi_check_places.proofs.ReadParts.{unplaced_read, unplaced_linked, unplaced_taken, unplaced_paired, typed-unplaced, made-unplaced, faults-unplaced, entry-faults-unplaced, keys-made, values-made, given-each, bounds-made, unplaced_layer}

-- ---- chains and parts, from the left

chained-unplaced : (left : Option Made) (ls : List Linked) → chained left (map unplaced_linked ls) ≡ unplaced_typed (chained left ls)
chained-unplaced left [] = refl
chained-unplaced left (l ∷ ls) =
    let both = chain_of l.operator l.place left l.operand.made in
    let same : chain_of l.operator nowhere left l.operand.made ≡ unplaced_typed both = two-unplaced OPERATOR l.place (binary l.operator) left l.operand.made in
    (λ i. after (unplaced_faults l.operand.faults ++ (same i).faults) (chained (same i).made (map unplaced_linked ls)))
    ∙ after-both (l.operand.faults ++ both.faults) (chained both.made ls) (faults-append l.operand.faults both.faults) (chained-unplaced both.made ls)

bounds-faults : (b : Bounds (Typed Made)) → all_faults (given (each_bound unplaced_typed b)) ≡ unplaced_faults (all_faults (given b))
bounds-faults b = ap all_faults (given-each unplaced_typed b) ∙ faults-unplaced (given b)

slice-unplaced : (place : Place) (whole : Option Made) (b : Bounds (Option Made)) → slice_of nowhere whole b ≡ unplaced_typed (slice_of place whole b)
slice-unplaced place whole b = two-unplaced INDEX place (sliced (is_some b.from) (is_some b.upto) (is_some b.by)) whole (all_made (given b))

part-of-unplaced : (whole : Option Made) (t : Taken) → part_of whole (unplaced_taken t) ≡ unplaced_typed (part_of whole t)
part-of-unplaced whole (index place e) = after-both e.faults (index_of place whole e.made) refl (two-unplaced INDEX place indexed whole e.made)
part-of-unplaced whole (slice place b) =
    after-both (all_faults (given b)) (slice_of place whole (each_bound made_of b)) (bounds-faults b)
    (ap (slice_of nowhere whole) (bounds-made b) ∙ slice-unplaced place whole (each_bound made_of b))
part-of-unplaced whole (field name) = field-unplaced name whole

parted-unplaced : (whole : Option Made) (ts : List Taken) → parted whole (map unplaced_taken ts) ≡ unplaced_typed (parted whole ts)
parted-unplaced whole [] = refl
parted-unplaced whole (t ∷ ts) =
    let part = part_of whole t in
    let same : part_of whole (unplaced_taken t) ≡ unplaced_typed part = part-of-unplaced whole t in
    (λ i. after (same i).faults (parted (same i).made (map unplaced_taken ts))) ∙ after-both part.faults (parted part.made ts) refl (parted-unplaced part.made ts)

-- ---- literals of several parts

-- what comes to something by all its parts
several : (f g : List (Option Made) → Typed Made) → ((ms : List (Option Made)) → f ms ≡ unplaced_typed (g ms)) → (rs : List Read)
    → after (all_faults (map typed_of (map unplaced_read rs))) (f (map made_of (map typed_of (map unplaced_read rs))))
    ≡ unplaced_typed (after (all_faults (map typed_of rs)) (g (map made_of (map typed_of rs))))
several f g same rs =
    let ts = map typed_of rs in
    (λ i. after (all_faults (typed-unplaced rs i)) (f (map made_of (typed-unplaced rs i))))
    ∙ after-both (all_faults ts) (g (map made_of ts)) (faults-unplaced ts) (ap f (made-unplaced ts) ∙ same (map made_of ts))

dict-literal : (place : Place) (es : List Paired)
    → after (entry_faults (map unplaced_paired es)) (dict_of nowhere (map key_made (map unplaced_paired es)) (map value_made (map unplaced_paired es)))
    ≡ unplaced_typed (after (entry_faults es) (dict_of place (map key_made es) (map value_made es)))
dict-literal place es =
    after-both (entry_faults es) (dict_of place (map key_made es) (map value_made es)) (entry-faults-unplaced es)
    ((λ i. dict_of nowhere (keys-made es i) (values-made es i)) ∙ dict-unplaced place (map key_made es) (map value_made es))

-- ---- a layer

module _ (s : Site) (names : Names) where
  layer-typed : (o : Expr-F Read Taken Reading Paired Linked Field) → expr_typed s names (unplaced_layer o) ≡ unplaced_typed (expr_typed s names o)
  layer-typed (Expr-F.Chain first links) = after-both first.typed.faults (chained first.typed.made links) refl (chained-unplaced first.typed.made links)
  layer-typed (Expr-F.Prefix sign place x) = after-both x.typed.faults (prefix_of s sign place x.typed.made) refl (prefix-unplaced s sign place x.typed.made)
  layer-typed (Expr-F.Relation x sign place y) =
      after-both (x.typed.faults ++ y.typed.faults) (relation_of sign place x.typed.made y.typed.made) (faults-append x.typed.faults y.typed.faults)
      (two-unplaced OPERATOR place (related sign) x.typed.made y.typed.made)
  layer-typed (Expr-F.Power x place y) =
      after-both (x.typed.faults ++ y.typed.faults) (power_of place x.typed.made y.typed.made) (faults-append x.typed.faults y.typed.faults)
      (two-unplaced OPERATOR place power x.typed.made y.typed.made)
  layer-typed (Expr-F.Part whole ts) = after-both whole.typed.faults (parted whole.typed.made ts) refl (parted-unplaced whole.typed.made ts)
  layer-typed (Expr-F.Int digits place) = settled-unplaced LITERAL_RANGE place (int_literal digits)
  layer-typed (Expr-F.Real digits place) = settled-unplaced LITERAL_RANGE place (real_literal digits)
  layer-typed (Expr-F.Text bytes place) = refl
  layer-typed (Expr-F.Bool truth place) = refl
  layer-typed (Expr-F.Time place) = time-unplaced s place
  layer-typed (Expr-F.Named name) = named-value-unplaced names name
  layer-typed (Expr-F.Call name rs) = call-unplaced s names name rs
  layer-typed (Expr-F.Cast word place x) = after-both x.typed.faults (cast_of s word place x.typed.made) refl (cast-unplaced s word place x.typed.made)
  layer-typed (Expr-F.Round place x) = refl
  layer-typed (Expr-F.TupleOf place rs) = several (tuple_of nowhere) (tuple_of place) (tuple-unplaced place) rs
  layer-typed (Expr-F.ListOf place rs) = several (list_of nowhere) (list_of place) (list-unplaced place) rs
  layer-typed (Expr-F.SetOf place rs) = several (set_of nowhere) (set_of place) (set-unplaced place) rs
  layer-typed (Expr-F.DictOf place es) = dict-literal place es
  layer-typed (Expr-F.EmptyList place t) = let e = t false in after-both e.faults (empty_list place e.made) refl (empty-list-unplaced place e.made)
  layer-typed (Expr-F.EmptySet place t) = let e = t false in after-both e.faults (empty_set place e.made) refl (empty-set-unplaced place e.made)
  layer-typed (Expr-F.EmptyDict place t u) =
      let k = t false in
      let v = u false in
      after-both (k.faults ++ v.faults) (empty_dict place k.made v.made) (faults-append k.faults v.faults) (empty-dict-unplaced place k.made v.made)

  layer-name : (o : Expr-F Read Taken Reading Paired Linked Field) → name_alone (unplaced_layer o) ≡ option_map unplaced_name (name_alone o)
  layer-name (Expr-F.Named name) = refl
  layer-name _ = refl

  pub layer-unplaced : (o : Expr-F Read Taken Reading Paired Linked Field) → expr_step s names (unplaced_layer o) ≡ unplaced_read (expr_step s names o)
  layer-unplaced o = λ i. record { typed = layer-typed o i; name = layer-name o i }
