-- Private to proofs. What each construct of an expression comes to.
use Rattle.std.proofs.Common.{ℕ, ◌≡◌, Bool, false, List, [], ◌++◌, map, Option, sym, ap, ◌∙◌}
use Rattle.chi_token.specs.declared.place.Place.{Place}
use Rattle.chi_tree.specs.declared.operator.PrefixSign.{PrefixSign}
use Rattle.chi_tree.specs.declared.operator.RelationSign.{RelationSign}
use Rattle.chi_tree.specs.declared.operator.CastWord.{CastWord}
use Rattle.chi_tree.specs.declared.type_tree.Name.{Name}
use Rattle.chi_tree.specs.declared.type_tree.TypeTree.{TypeTree}
use Rattle.chi_tree.specs.declared.expr.Expr.{Expr, Expr-F, out-Expr}
use Rattle.chi_tree.specs.declared.expr.Expr.TheVariants as expr
use Rattle.chi_tree.specs.declared.expr.Postfix.{Postfix}
use Rattle.chi_tree.specs.declared.expr.Entry.{Entry}
use Rattle.chi_tree.specs.declared.expr.Link.{Link}
use Rattle.chi_check_types.specs.declared.fault.Fault.{Fault}
use Rattle.chi_check_types.specs.declared.meant.Made.{Made}
use Rattle.chi_check_types.specs.declared.meant.Meant.{Meant}
use Rattle.chi_check_types.specs.declared.rules.TheConstants.{LITERAL_RANGE}
use Rattle.chi_check_types.specs.declared.site.Site.{Site}
use Rattle.chi_check_types.specs.Faults.{first_of}
use Rattle.chi_check_types.specs.Names.{Names}
use Rattle.chi_check_types.specs.Typed.{Typed, unless, after}
use Rattle.chi_check_expr_rules.specs.Nodes.{settled}
use Rattle.chi_check_expr_rules.specs.Literals.{int_literal, real_literal, text_literal, bool_literal}
use Rattle.chi_check_expr_rules.specs.Named.{named_value, time_of}
use Rattle.chi_check_expr_rules.specs.Operators.{power_of, prefix_of}
use Rattle.chi_check_expr_rules.specs.Comparisons.{relation_of}
use Rattle.chi_check_expr_rules.specs.Casts.{cast_of}
use Rattle.chi_check_expr_rules.specs.Containers.{tuple_of, list_of, set_of, dict_of, empty_list, empty_set, empty_dict}
use Rattle.chi_check_expr.specs.Reads.{typed_of, made_of, all_faults, entry_faults, key_made, value_made}
use Rattle.chi_check_expr.specs.Expressions.{chained, parted}
use Rattle.chi_check_expr.specs.Typing.{taken, paired, linked, reading, typing}
use Rattle.chi_check_expr.proofs.Opened.{read_is, map_typed, noted_one, noted_two}

module _ (site : Site) (names : Names) where
  Chain_typed : (e : Expr) (first : Expr) (links : List Link) → e ≡ expr.Chain first links → typing site names e ≡ after (typing site names first).faults (chained (typing site names first).made (map (linked site names) links))
  Chain_typed e first links h = ap typed_of (read_is site names e (Expr-F.Chain first links) (ap out-Expr h ∙ expr.outs-Chain first links))

  pub made_Chain : (e : Expr) (first : Expr) (links : List Link) → e ≡ expr.Chain first links → (typing site names e).made ≡ (chained (typing site names first).made (map (linked site names) links)).made
  made_Chain e first links h = ap made_of (Chain_typed e first links h)

  pub noted_Chain : (kept : Option Fault) (e : Expr) (first : Expr) (links : List Link) → e ≡ expr.Chain first links → first_of kept (typing site names e).faults ≡ first_of (first_of kept (typing site names first).faults) (chained (typing site names first).made (map (linked site names) links)).faults
  noted_Chain kept e first links h = ap (λ (t : Typed Made). first_of kept t.faults) (Chain_typed e first links h) ∙ noted_one kept (typing site names first).faults _

  Prefix_typed : (e : Expr) (sign : PrefixSign) (place : Place) (operand : Expr) → e ≡ expr.Prefix sign place operand → typing site names e ≡ after (typing site names operand).faults (prefix_of site sign place (typing site names operand).made)
  Prefix_typed e sign place operand h = ap typed_of (read_is site names e (Expr-F.Prefix sign place operand) (ap out-Expr h ∙ expr.outs-Prefix sign place operand))

  pub made_Prefix : (e : Expr) (sign : PrefixSign) (place : Place) (operand : Expr) → e ≡ expr.Prefix sign place operand → (typing site names e).made ≡ (prefix_of site sign place (typing site names operand).made).made
  made_Prefix e sign place operand h = ap made_of (Prefix_typed e sign place operand h)

  pub noted_Prefix : (kept : Option Fault) (e : Expr) (sign : PrefixSign) (place : Place) (operand : Expr) → e ≡ expr.Prefix sign place operand → first_of kept (typing site names e).faults ≡ first_of (first_of kept (typing site names operand).faults) (prefix_of site sign place (typing site names operand).made).faults
  noted_Prefix kept e sign place operand h = ap (λ (t : Typed Made). first_of kept t.faults) (Prefix_typed e sign place operand h) ∙ noted_one kept (typing site names operand).faults _

  Relation_typed : (e : Expr) (left : Expr) (sign : RelationSign) (place : Place) (right : Expr) → e ≡ expr.Relation left sign place right → typing site names e ≡ after ((typing site names left).faults ++ (typing site names right).faults) (relation_of sign place (typing site names left).made (typing site names right).made)
  Relation_typed e left sign place right h = ap typed_of (read_is site names e (Expr-F.Relation left sign place right) (ap out-Expr h ∙ expr.outs-Relation left sign place right))

  pub made_Relation : (e : Expr) (left : Expr) (sign : RelationSign) (place : Place) (right : Expr) → e ≡ expr.Relation left sign place right → (typing site names e).made ≡ (relation_of sign place (typing site names left).made (typing site names right).made).made
  made_Relation e left sign place right h = ap made_of (Relation_typed e left sign place right h)

  pub noted_Relation : (kept : Option Fault) (e : Expr) (left : Expr) (sign : RelationSign) (place : Place) (right : Expr) → e ≡ expr.Relation left sign place right → first_of kept (typing site names e).faults ≡ first_of (first_of (first_of kept (typing site names left).faults) (typing site names right).faults) (relation_of sign place (typing site names left).made (typing site names right).made).faults
  noted_Relation kept e left sign place right h = ap (λ (t : Typed Made). first_of kept t.faults) (Relation_typed e left sign place right h) ∙ noted_two kept (typing site names left).faults (typing site names right).faults _

  Power_typed : (e : Expr) (base : Expr) (place : Place) (exponent : Expr) → e ≡ expr.Power base place exponent → typing site names e ≡ after ((typing site names base).faults ++ (typing site names exponent).faults) (power_of place (typing site names base).made (typing site names exponent).made)
  Power_typed e base place exponent h = ap typed_of (read_is site names e (Expr-F.Power base place exponent) (ap out-Expr h ∙ expr.outs-Power base place exponent))

  pub made_Power : (e : Expr) (base : Expr) (place : Place) (exponent : Expr) → e ≡ expr.Power base place exponent → (typing site names e).made ≡ (power_of place (typing site names base).made (typing site names exponent).made).made
  made_Power e base place exponent h = ap made_of (Power_typed e base place exponent h)

  pub noted_Power : (kept : Option Fault) (e : Expr) (base : Expr) (place : Place) (exponent : Expr) → e ≡ expr.Power base place exponent → first_of kept (typing site names e).faults ≡ first_of (first_of (first_of kept (typing site names base).faults) (typing site names exponent).faults) (power_of place (typing site names base).made (typing site names exponent).made).faults
  noted_Power kept e base place exponent h = ap (λ (t : Typed Made). first_of kept t.faults) (Power_typed e base place exponent h) ∙ noted_two kept (typing site names base).faults (typing site names exponent).faults _

  Part_typed : (e : Expr) (whole : Expr) (postfixes : List Postfix) → e ≡ expr.Part whole postfixes → typing site names e ≡ after (typing site names whole).faults (parted (typing site names whole).made (map (taken site names) postfixes))
  Part_typed e whole postfixes h = ap typed_of (read_is site names e (Expr-F.Part whole postfixes) (ap out-Expr h ∙ expr.outs-Part whole postfixes))

  pub made_Part : (e : Expr) (whole : Expr) (postfixes : List Postfix) → e ≡ expr.Part whole postfixes → (typing site names e).made ≡ (parted (typing site names whole).made (map (taken site names) postfixes)).made
  made_Part e whole postfixes h = ap made_of (Part_typed e whole postfixes h)

  pub noted_Part : (kept : Option Fault) (e : Expr) (whole : Expr) (postfixes : List Postfix) → e ≡ expr.Part whole postfixes → first_of kept (typing site names e).faults ≡ first_of (first_of kept (typing site names whole).faults) (parted (typing site names whole).made (map (taken site names) postfixes)).faults
  noted_Part kept e whole postfixes h = ap (λ (t : Typed Made). first_of kept t.faults) (Part_typed e whole postfixes h) ∙ noted_one kept (typing site names whole).faults _

  Int_typed : (e : Expr) (digits : List ℕ) (place : Place) → e ≡ expr.Int digits place → typing site names e ≡ settled LITERAL_RANGE place (int_literal digits)
  Int_typed e digits place h = ap typed_of (read_is site names e (Expr-F.Int digits place) (ap out-Expr h ∙ expr.outs-Int digits place))

  pub made_Int : (e : Expr) (digits : List ℕ) (place : Place) → e ≡ expr.Int digits place → (typing site names e).made ≡ (settled LITERAL_RANGE place (int_literal digits)).made
  made_Int e digits place h = ap made_of (Int_typed e digits place h)

  pub noted_Int : (kept : Option Fault) (e : Expr) (digits : List ℕ) (place : Place) → e ≡ expr.Int digits place → first_of kept (typing site names e).faults ≡ first_of kept (settled LITERAL_RANGE place (int_literal digits)).faults
  noted_Int kept e digits place h = ap (λ (t : Typed Made). first_of kept t.faults) (Int_typed e digits place h)

  Real_typed : (e : Expr) (digits : List ℕ) (place : Place) → e ≡ expr.Real digits place → typing site names e ≡ settled LITERAL_RANGE place (real_literal digits)
  Real_typed e digits place h = ap typed_of (read_is site names e (Expr-F.Real digits place) (ap out-Expr h ∙ expr.outs-Real digits place))

  pub made_Real : (e : Expr) (digits : List ℕ) (place : Place) → e ≡ expr.Real digits place → (typing site names e).made ≡ (settled LITERAL_RANGE place (real_literal digits)).made
  made_Real e digits place h = ap made_of (Real_typed e digits place h)

  pub noted_Real : (kept : Option Fault) (e : Expr) (digits : List ℕ) (place : Place) → e ≡ expr.Real digits place → first_of kept (typing site names e).faults ≡ first_of kept (settled LITERAL_RANGE place (real_literal digits)).faults
  noted_Real kept e digits place h = ap (λ (t : Typed Made). first_of kept t.faults) (Real_typed e digits place h)

  Text_typed : (e : Expr) (bytes : List ℕ) (place : Place) → e ≡ expr.Text bytes place → typing site names e ≡ unless [] (text_literal bytes)
  Text_typed e bytes place h = ap typed_of (read_is site names e (Expr-F.Text bytes place) (ap out-Expr h ∙ expr.outs-Text bytes place))

  pub made_Text : (e : Expr) (bytes : List ℕ) (place : Place) → e ≡ expr.Text bytes place → (typing site names e).made ≡ (unless [] (text_literal bytes)).made
  made_Text e bytes place h = ap made_of (Text_typed e bytes place h)

  pub noted_Text : (kept : Option Fault) (e : Expr) (bytes : List ℕ) (place : Place) → e ≡ expr.Text bytes place → first_of kept (typing site names e).faults ≡ first_of kept (unless [] (text_literal bytes)).faults
  noted_Text kept e bytes place h = ap (λ (t : Typed Made). first_of kept t.faults) (Text_typed e bytes place h)

  Bool_typed : (e : Expr) (truth : Bool) (place : Place) → e ≡ expr.Bool truth place → typing site names e ≡ unless [] (bool_literal truth)
  Bool_typed e truth place h = ap typed_of (read_is site names e (Expr-F.Bool truth place) (ap out-Expr h ∙ expr.outs-Bool truth place))

  pub made_Bool : (e : Expr) (truth : Bool) (place : Place) → e ≡ expr.Bool truth place → (typing site names e).made ≡ (unless [] (bool_literal truth)).made
  made_Bool e truth place h = ap made_of (Bool_typed e truth place h)

  pub noted_Bool : (kept : Option Fault) (e : Expr) (truth : Bool) (place : Place) → e ≡ expr.Bool truth place → first_of kept (typing site names e).faults ≡ first_of kept (unless [] (bool_literal truth)).faults
  noted_Bool kept e truth place h = ap (λ (t : Typed Made). first_of kept t.faults) (Bool_typed e truth place h)

  Time_typed : (e : Expr) (place : Place) → e ≡ expr.Time place → typing site names e ≡ time_of site place
  Time_typed e place h = ap typed_of (read_is site names e (Expr-F.Time place) (ap out-Expr h ∙ expr.outs-Time place))

  pub made_Time : (e : Expr) (place : Place) → e ≡ expr.Time place → (typing site names e).made ≡ (time_of site place).made
  made_Time e place h = ap made_of (Time_typed e place h)

  pub noted_Time : (kept : Option Fault) (e : Expr) (place : Place) → e ≡ expr.Time place → first_of kept (typing site names e).faults ≡ first_of kept (time_of site place).faults
  noted_Time kept e place h = ap (λ (t : Typed Made). first_of kept t.faults) (Time_typed e place h)

  Named_typed : (e : Expr) (name : Name) → e ≡ expr.Named name → typing site names e ≡ named_value names name
  Named_typed e name h = ap typed_of (read_is site names e (Expr-F.Named name) (ap out-Expr h ∙ expr.outs-Named name))

  pub made_Named : (e : Expr) (name : Name) → e ≡ expr.Named name → (typing site names e).made ≡ (named_value names name).made
  made_Named e name h = ap made_of (Named_typed e name h)

  pub noted_Named : (kept : Option Fault) (e : Expr) (name : Name) → e ≡ expr.Named name → first_of kept (typing site names e).faults ≡ first_of kept (named_value names name).faults
  noted_Named kept e name h = ap (λ (t : Typed Made). first_of kept t.faults) (Named_typed e name h)

  Cast_typed : (e : Expr) (word : CastWord) (place : Place) (operand : Expr) → e ≡ expr.Cast word place operand → typing site names e ≡ after (typing site names operand).faults (cast_of site word place (typing site names operand).made)
  Cast_typed e word place operand h = ap typed_of (read_is site names e (Expr-F.Cast word place operand) (ap out-Expr h ∙ expr.outs-Cast word place operand))

  pub made_Cast : (e : Expr) (word : CastWord) (place : Place) (operand : Expr) → e ≡ expr.Cast word place operand → (typing site names e).made ≡ (cast_of site word place (typing site names operand).made).made
  made_Cast e word place operand h = ap made_of (Cast_typed e word place operand h)

  pub noted_Cast : (kept : Option Fault) (e : Expr) (word : CastWord) (place : Place) (operand : Expr) → e ≡ expr.Cast word place operand → first_of kept (typing site names e).faults ≡ first_of (first_of kept (typing site names operand).faults) (cast_of site word place (typing site names operand).made).faults
  noted_Cast kept e word place operand h = ap (λ (t : Typed Made). first_of kept t.faults) (Cast_typed e word place operand h) ∙ noted_one kept (typing site names operand).faults _

  Round_typed : (e : Expr) (place : Place) (inner : Expr) → e ≡ expr.Round place inner → typing site names e ≡ typing site names inner
  Round_typed e place inner h = ap typed_of (read_is site names e (Expr-F.Round place inner) (ap out-Expr h ∙ expr.outs-Round place inner))

  pub made_Round : (e : Expr) (place : Place) (inner : Expr) → e ≡ expr.Round place inner → (typing site names e).made ≡ (typing site names inner).made
  made_Round e place inner h = ap made_of (Round_typed e place inner h)

  pub noted_Round : (kept : Option Fault) (e : Expr) (place : Place) (inner : Expr) → e ≡ expr.Round place inner → first_of kept (typing site names e).faults ≡ first_of kept (typing site names inner).faults
  noted_Round kept e place inner h = ap (λ (t : Typed Made). first_of kept t.faults) (Round_typed e place inner h)

  TupleOf_typed : (e : Expr) (place : Place) (parts : List Expr) → e ≡ expr.TupleOf place parts → typing site names e ≡ after (all_faults (map (typing site names) parts)) (tuple_of place (map made_of (map (typing site names) parts)))
  TupleOf_typed e place parts h = ap typed_of (read_is site names e (Expr-F.TupleOf place parts) (ap out-Expr h ∙ expr.outs-TupleOf place parts)) ∙ ap (λ ts. after (all_faults ts) (tuple_of place (map made_of ts))) (map_typed site names parts)

  pub made_TupleOf : (e : Expr) (place : Place) (parts : List Expr) → e ≡ expr.TupleOf place parts → (typing site names e).made ≡ (tuple_of place (map made_of (map (typing site names) parts))).made
  made_TupleOf e place parts h = ap made_of (TupleOf_typed e place parts h)

  pub noted_TupleOf : (kept : Option Fault) (e : Expr) (place : Place) (parts : List Expr) → e ≡ expr.TupleOf place parts → first_of kept (typing site names e).faults ≡ first_of (first_of kept (all_faults (map (typing site names) parts))) (tuple_of place (map made_of (map (typing site names) parts))).faults
  noted_TupleOf kept e place parts h = ap (λ (t : Typed Made). first_of kept t.faults) (TupleOf_typed e place parts h) ∙ noted_one kept (all_faults (map (typing site names) parts)) _

  ListOf_typed : (e : Expr) (place : Place) (elements : List Expr) → e ≡ expr.ListOf place elements → typing site names e ≡ after (all_faults (map (typing site names) elements)) (list_of place (map made_of (map (typing site names) elements)))
  ListOf_typed e place elements h = ap typed_of (read_is site names e (Expr-F.ListOf place elements) (ap out-Expr h ∙ expr.outs-ListOf place elements)) ∙ ap (λ ts. after (all_faults ts) (list_of place (map made_of ts))) (map_typed site names elements)

  pub made_ListOf : (e : Expr) (place : Place) (elements : List Expr) → e ≡ expr.ListOf place elements → (typing site names e).made ≡ (list_of place (map made_of (map (typing site names) elements))).made
  made_ListOf e place elements h = ap made_of (ListOf_typed e place elements h)

  pub noted_ListOf : (kept : Option Fault) (e : Expr) (place : Place) (elements : List Expr) → e ≡ expr.ListOf place elements → first_of kept (typing site names e).faults ≡ first_of (first_of kept (all_faults (map (typing site names) elements))) (list_of place (map made_of (map (typing site names) elements))).faults
  noted_ListOf kept e place elements h = ap (λ (t : Typed Made). first_of kept t.faults) (ListOf_typed e place elements h) ∙ noted_one kept (all_faults (map (typing site names) elements)) _

  SetOf_typed : (e : Expr) (place : Place) (elements : List Expr) → e ≡ expr.SetOf place elements → typing site names e ≡ after (all_faults (map (typing site names) elements)) (set_of place (map made_of (map (typing site names) elements)))
  SetOf_typed e place elements h = ap typed_of (read_is site names e (Expr-F.SetOf place elements) (ap out-Expr h ∙ expr.outs-SetOf place elements)) ∙ ap (λ ts. after (all_faults ts) (set_of place (map made_of ts))) (map_typed site names elements)

  pub made_SetOf : (e : Expr) (place : Place) (elements : List Expr) → e ≡ expr.SetOf place elements → (typing site names e).made ≡ (set_of place (map made_of (map (typing site names) elements))).made
  made_SetOf e place elements h = ap made_of (SetOf_typed e place elements h)

  pub noted_SetOf : (kept : Option Fault) (e : Expr) (place : Place) (elements : List Expr) → e ≡ expr.SetOf place elements → first_of kept (typing site names e).faults ≡ first_of (first_of kept (all_faults (map (typing site names) elements))) (set_of place (map made_of (map (typing site names) elements))).faults
  noted_SetOf kept e place elements h = ap (λ (t : Typed Made). first_of kept t.faults) (SetOf_typed e place elements h) ∙ noted_one kept (all_faults (map (typing site names) elements)) _

  DictOf_typed : (e : Expr) (place : Place) (entries : List Entry) → e ≡ expr.DictOf place entries → typing site names e ≡ after (entry_faults (map (paired site names) entries)) (dict_of place (map key_made (map (paired site names) entries)) (map value_made (map (paired site names) entries)))
  DictOf_typed e place entries h = ap typed_of (read_is site names e (Expr-F.DictOf place entries) (ap out-Expr h ∙ expr.outs-DictOf place entries))

  pub made_DictOf : (e : Expr) (place : Place) (entries : List Entry) → e ≡ expr.DictOf place entries → (typing site names e).made ≡ (dict_of place (map key_made (map (paired site names) entries)) (map value_made (map (paired site names) entries))).made
  made_DictOf e place entries h = ap made_of (DictOf_typed e place entries h)

  pub noted_DictOf : (kept : Option Fault) (e : Expr) (place : Place) (entries : List Entry) → e ≡ expr.DictOf place entries → first_of kept (typing site names e).faults ≡ first_of (first_of kept (entry_faults (map (paired site names) entries))) (dict_of place (map key_made (map (paired site names) entries)) (map value_made (map (paired site names) entries))).faults
  noted_DictOf kept e place entries h = ap (λ (t : Typed Made). first_of kept t.faults) (DictOf_typed e place entries h) ∙ noted_one kept (entry_faults (map (paired site names) entries)) _

  EmptyList_typed : (e : Expr) (place : Place) (element : TypeTree) → e ≡ expr.EmptyList place element → typing site names e ≡ after (reading site names element false).faults (empty_list place (reading site names element false).made)
  EmptyList_typed e place element h = ap typed_of (read_is site names e (Expr-F.EmptyList place element) (ap out-Expr h ∙ expr.outs-EmptyList place element))

  pub made_EmptyList : (e : Expr) (place : Place) (element : TypeTree) → e ≡ expr.EmptyList place element → (typing site names e).made ≡ (empty_list place (reading site names element false).made).made
  made_EmptyList e place element h = ap made_of (EmptyList_typed e place element h)

  pub noted_EmptyList : (kept : Option Fault) (e : Expr) (place : Place) (element : TypeTree) → e ≡ expr.EmptyList place element → first_of kept (typing site names e).faults ≡ first_of (first_of kept (reading site names element false).faults) (empty_list place (reading site names element false).made).faults
  noted_EmptyList kept e place element h = ap (λ (t : Typed Made). first_of kept t.faults) (EmptyList_typed e place element h) ∙ noted_one kept (reading site names element false).faults _

  EmptySet_typed : (e : Expr) (place : Place) (element : TypeTree) → e ≡ expr.EmptySet place element → typing site names e ≡ after (reading site names element false).faults (empty_set place (reading site names element false).made)
  EmptySet_typed e place element h = ap typed_of (read_is site names e (Expr-F.EmptySet place element) (ap out-Expr h ∙ expr.outs-EmptySet place element))

  pub made_EmptySet : (e : Expr) (place : Place) (element : TypeTree) → e ≡ expr.EmptySet place element → (typing site names e).made ≡ (empty_set place (reading site names element false).made).made
  made_EmptySet e place element h = ap made_of (EmptySet_typed e place element h)

  pub noted_EmptySet : (kept : Option Fault) (e : Expr) (place : Place) (element : TypeTree) → e ≡ expr.EmptySet place element → first_of kept (typing site names e).faults ≡ first_of (first_of kept (reading site names element false).faults) (empty_set place (reading site names element false).made).faults
  noted_EmptySet kept e place element h = ap (λ (t : Typed Made). first_of kept t.faults) (EmptySet_typed e place element h) ∙ noted_one kept (reading site names element false).faults _

  EmptyDict_typed : (e : Expr) (place : Place) (key : TypeTree) (value : TypeTree) → e ≡ expr.EmptyDict place key value → typing site names e ≡ after ((reading site names key false).faults ++ (reading site names value false).faults) (empty_dict place (reading site names key false).made (reading site names value false).made)
  EmptyDict_typed e place key value h = ap typed_of (read_is site names e (Expr-F.EmptyDict place key value) (ap out-Expr h ∙ expr.outs-EmptyDict place key value))

  pub made_EmptyDict : (e : Expr) (place : Place) (key : TypeTree) (value : TypeTree) → e ≡ expr.EmptyDict place key value → (typing site names e).made ≡ (empty_dict place (reading site names key false).made (reading site names value false).made).made
  made_EmptyDict e place key value h = ap made_of (EmptyDict_typed e place key value h)

  pub noted_EmptyDict : (kept : Option Fault) (e : Expr) (place : Place) (key : TypeTree) (value : TypeTree) → e ≡ expr.EmptyDict place key value → first_of kept (typing site names e).faults ≡ first_of (first_of (first_of kept (reading site names key false).faults) (reading site names value false).faults) (empty_dict place (reading site names key false).made (reading site names value false).made).faults
  noted_EmptyDict kept e place key value h = ap (λ (t : Typed Made). first_of kept t.faults) (EmptyDict_typed e place key value h) ∙ noted_two kept (reading site names key false).faults (reading site names value false).faults _

  -- ---- the first fault, by those of the parts in turn

  pub kept_Chain : (kept one two : Option Fault) (e first' first : Expr) (links' links : List Link) (left : Option Made) → e ≡ expr.Chain first links → first' ≡ first → links' ≡ links → left ≡ (typing site names first').made
      → one ≡ first_of kept (typing site names first').faults → two ≡ first_of one (chained left (map (linked site names) links')).faults → two ≡ first_of kept (typing site names e).faults
  kept_Chain kept one two e first' first links' links left h f l m n t =
      t ∙ (λ i. first_of (n i) (chained (m i) (map (linked site names) links')).faults)
      ∙ (λ i. first_of (first_of kept (typing site names (f i)).faults) (chained (typing site names (f i)).made (map (linked site names) (l i))).faults)
      ∙ sym (noted_Chain kept e first links h)

  pub kept_Relation : (kept one two : Option Fault) (e left' left right' right : Expr) (sign : RelationSign) (place : Place) (a : Option Made) → e ≡ expr.Relation left sign place right → left' ≡ left → right' ≡ right
      → a ≡ (typing site names left').made → one ≡ first_of kept (typing site names left').faults
      → two ≡ first_of (first_of one (typing site names right').faults) (relation_of sign place a (typing site names right').made).faults → two ≡ first_of kept (typing site names e).faults
  kept_Relation kept one two e left' left right' right sign place a h l r m n t =
      t ∙ (λ i. first_of (first_of (n i) (typing site names right').faults) (relation_of sign place (m i) (typing site names right').made).faults)
      ∙ (λ i. first_of (first_of (first_of kept (typing site names (l i)).faults) (typing site names (r i)).faults) (relation_of sign place (typing site names (l i)).made (typing site names (r i)).made).faults)
      ∙ sym (noted_Relation kept e left sign place right h)

  pub kept_Part : (kept one two : Option Fault) (e whole' whole : Expr) (postfixes' postfixes : List Postfix) (a : Option Made) → e ≡ expr.Part whole postfixes → whole' ≡ whole → postfixes' ≡ postfixes → a ≡ (typing site names whole').made
      → one ≡ first_of kept (typing site names whole').faults → two ≡ first_of one (parted a (map (taken site names) postfixes')).faults → two ≡ first_of kept (typing site names e).faults
  kept_Part kept one two e whole' whole postfixes' postfixes a h w p m n t =
      t ∙ (λ i. first_of (n i) (parted (m i) (map (taken site names) postfixes')).faults)
      ∙ (λ i. first_of (first_of kept (typing site names (w i)).faults) (parted (typing site names (w i)).made (map (taken site names) (p i))).faults)
      ∙ sym (noted_Part kept e whole postfixes h)

  pub kept_EmptyDict : (kept one two : Option Fault) (e : Expr) (key' key value' value : TypeTree) (place : Place) (k : Option Meant) → e ≡ expr.EmptyDict place key value → key' ≡ key → value' ≡ value
      → k ≡ (reading site names key' false).made → one ≡ first_of kept (reading site names key' false).faults
      → two ≡ first_of (first_of one (reading site names value' false).faults) (empty_dict place k (reading site names value' false).made).faults → two ≡ first_of kept (typing site names e).faults
  kept_EmptyDict kept one two e key' key value' value place k h p q m n t =
      t ∙ (λ i. first_of (first_of (n i) (reading site names value' false).faults) (empty_dict place (m i) (reading site names value' false).made).faults)
      ∙ (λ i. first_of (first_of (first_of kept (reading site names (p i) false).faults) (reading site names (q i) false).faults) (empty_dict place (reading site names (p i) false).made (reading site names (q i) false).made).faults)
      ∙ sym (noted_EmptyDict kept e place key value h)
