-- What an expression comes to: a line for each construct, which names its rules and its places.
use Rattle.std.specs.Prelude.{ℕ, Bool, false, List, [], ◌∷◌, ◌++◌, map, Option, Some, None, option_map}
use Rattle.chi_tree.specs.declared.type_tree.Name.{Name}
use Rattle.chi_tree.specs.declared.expr.Expr.{Expr-F}
use Rattle.chi_tree.specs.declared.expr.Postfix.{Postfix-F}
use Rattle.chi_tree.specs.declared.expr.Entry.{Entry-F}
use Rattle.chi_tree.specs.declared.expr.Link.{Link-F}
use Rattle.chi_check_types.specs.declared.meant.Made.{Made}
use Rattle.chi_check_types.specs.declared.rules.TheConstants.{LITERAL_RANGE}
use Rattle.chi_check_types.specs.declared.site.Site.{Site}
use Rattle.chi_check_types.specs.Names.{Names}
use Rattle.chi_check_types.specs.Typed.{Typed, unless, untyped, after}
use Rattle.chi_check_expr_rules.specs.Nodes.{settled}
use Rattle.chi_check_expr_rules.specs.Literals.{int_literal, real_literal, text_literal, bool_literal}
use Rattle.chi_check_expr_rules.specs.Named.{named_value, time_of}
use Rattle.chi_check_expr_rules.specs.Operators.{chain_of, power_of, prefix_of}
use Rattle.chi_check_expr_rules.specs.Comparisons.{relation_of}
use Rattle.chi_check_expr_rules.specs.Casts.{cast_of}
use Rattle.chi_check_expr_rules.specs.Parts.{given, index_of, slice_of, field_of}
use Rattle.chi_check_expr_rules.specs.Containers.{tuple_of, list_of, set_of, dict_of, empty_list, empty_set, empty_dict}
use Rattle.chi_check_expr.specs.Calls.{call}
use Rattle.chi_check_expr.specs.Reads.{Read, Taken, index, slice, field, Reading, Paired, Linked, Field, typed_of, made_of, all_faults, entry_faults, key_made, value_made, each_bound}

-- operands of one level, from the left
abbrev pub chained : Option Made → List Linked → Typed Made
chained left [] = record { faults = []; made = left }
chained left (link ∷ links) =
    let both = chain_of link.operator link.place left link.operand.made in
    after (link.operand.faults ++ both.faults) (chained both.made links)

-- a part of a whole
abbrev pub part_of : Option Made → Taken → Typed Made
part_of whole (index place i) = after i.faults (index_of place whole i.made)
part_of whole (slice place bounds) = after (all_faults (given bounds)) (slice_of place whole (each_bound made_of bounds))
part_of whole (field name) = field_of name whole

-- a part of a part, from the left
abbrev pub parted : Option Made → List Taken → Typed Made
parted whole [] = record { faults = []; made = whole }
parted whole (taken ∷ more) =
    let part = part_of whole taken in
    after part.faults (parted part.made more)

-- a name alone
abbrev pub name_alone : Expr-F Read Taken Reading Paired Linked Field → Option Name
name_alone (Expr-F.Named name) = Some name
name_alone _ = None

module _ (site : Site) (names : Names) where
  abbrev pub expr_typed : Expr-F Read Taken Reading Paired Linked Field → Typed Made
  expr_typed (Expr-F.Chain first links) = after first.typed.faults (chained first.typed.made links)
  expr_typed (Expr-F.Prefix sign place operand) = after operand.typed.faults (prefix_of site sign place operand.typed.made)
  expr_typed (Expr-F.Relation left sign place right) =
      after (left.typed.faults ++ right.typed.faults) (relation_of sign place left.typed.made right.typed.made)
  expr_typed (Expr-F.Power base place exponent) =
      after (base.typed.faults ++ exponent.typed.faults) (power_of place base.typed.made exponent.typed.made)
  expr_typed (Expr-F.Part whole postfixes) = after whole.typed.faults (parted whole.typed.made postfixes)
  expr_typed (Expr-F.Int digits place) = settled LITERAL_RANGE place (int_literal digits)
  expr_typed (Expr-F.Real digits place) = settled LITERAL_RANGE place (real_literal digits)
  expr_typed (Expr-F.Text bytes place) = unless [] (text_literal bytes)
  expr_typed (Expr-F.Bool truth place) = unless [] (bool_literal truth)
  expr_typed (Expr-F.Time place) = time_of site place
  expr_typed (Expr-F.Named name) = named_value names name
  expr_typed (Expr-F.Call name arguments) = call site names name arguments
  expr_typed (Expr-F.Cast word place operand) = after operand.typed.faults (cast_of site word place operand.typed.made)
  expr_typed (Expr-F.Round place inner) = inner.typed
  expr_typed (Expr-F.TupleOf place parts) =
      let ps = map typed_of parts in
      after (all_faults ps) (tuple_of place (map made_of ps))
  expr_typed (Expr-F.ListOf place elements) =
      let es = map typed_of elements in
      after (all_faults es) (list_of place (map made_of es))
  expr_typed (Expr-F.SetOf place elements) =
      let es = map typed_of elements in
      after (all_faults es) (set_of place (map made_of es))
  expr_typed (Expr-F.DictOf place entries) =
      after (entry_faults entries) (dict_of place (map key_made entries) (map value_made entries))
  expr_typed (Expr-F.EmptyList place element) =
      let e = element false in
      after e.faults (empty_list place e.made)
  expr_typed (Expr-F.EmptySet place element) =
      let e = element false in
      after e.faults (empty_set place e.made)
  expr_typed (Expr-F.EmptyDict place key value) =
      let k = key false in
      let v = value false in
      after (k.faults ++ v.faults) (empty_dict place k.made v.made)

  abbrev pub expr_step : Expr-F Read Taken Reading Paired Linked Field → Read
  expr_step e = record { typed = expr_typed e; name = name_alone e }

abbrev pub postfix_step : Postfix-F Read Taken Reading Paired Linked Field → Taken
postfix_step (Postfix-F.Index place i) = index place i.typed
postfix_step (Postfix-F.Slice place from upto second_colon by) =
    slice place (each_bound typed_of (record { from = from; upto = upto; by = by }))
postfix_step (Postfix-F.Field name) = field name

abbrev pub entry_step : Entry-F Read Taken Reading Paired Linked Field → Paired
entry_step e = record { key = e.key.typed; value = e.value.typed }

abbrev pub link_step : Link-F Read Taken Reading Paired Linked Field → Linked
link_step l = record { operator = l.operator; place = l.place; operand = l.operand.typed }
