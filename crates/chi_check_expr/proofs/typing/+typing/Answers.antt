use Rattle.std.proofs.Common.{[], Some, refl, sym, ◌∙◌, ap, arith}
use Rattle.std.proofs.lemmas.Result.{IfOk-weaker, on_ok_weaker}
use Rattle.chi_tree.specs.declared.type_tree.TypeTree.TheVariants as type
use Rattle.chi_check_types.specs.Faults.{first_of}
use Rattle.chi_check_types.proofs.Firsts.{first_of_none}
use Rattle.chi_check_expr_rules.specs.Containers.{dict_of}
use Rattle.chi_check_expr.proofs.ExprEquations.{made_Chain, made_Prefix, noted_Prefix, made_Relation, made_Power, noted_Power, made_Part, made_Int, noted_Int, made_Real, noted_Real, made_Text, noted_Text, made_Bool, noted_Bool, made_Time, noted_Time, made_Named, noted_Named, made_Cast, noted_Cast, made_Round, noted_Round, made_TupleOf, noted_TupleOf, made_ListOf, noted_ListOf, made_SetOf, noted_SetOf, made_DictOf, noted_DictOf, made_EmptyList, noted_EmptyList, made_EmptySet, noted_EmptySet, made_EmptyDict, kept_Chain, kept_Relation, kept_Part, kept_EmptyDict}
use Rattle.chi_check_expr.proofs.TypeEquations.{made_Word, noted_Word, made_Defined, noted_Defined, made_List_plain, noted_List_plain, made_List_sized, noted_List_sized, made_Set, noted_Set, made_Dist, noted_Dist, made_Dict, noted_Dict, made_Tuple, noted_Tuple, made_Chan_void, noted_Chan_void, made_Chan_of, noted_Chan_of}
use Rattle.chi_check_expr.proofs.CallEquations.{made_Call, noted_Call, made_three, noted_three, made_inserted, noted_inserted, made_other, noted_other, made_plain, noted_plain, three_items}
use Rattle.chi_check_expr.proofs.PartEquations.{made_Index, noted_Index, made_sliced, noted_sliced, made_Field, noted_Field, made_untyped, noted_untyped, made_typed, noted_typed}
use Rattle.chi_check_expr.proofs.Loops.{links_more, links_kept, links_end, links_left, parts_made, parts_noted, parts_end, parts_left, all_made_more, all_noted, all_end, keys_more, values_more, entries_noted, entries_end, fields_noted, fields_end, fields_left, fields_more, fields_begin, first_noted}
use Rattle.chi_check_expr.proofs.typing.+typing.Goals as goal

pub type_in-returns-in_ok-left-in-Chain-clause-made : goal.type_in-returns-in_ok-left-in-Chain-clause-made
type_in-returns-in_ok-left-in-Chain-clause-made t c =
    let e = made_Chain c.args.site c.args.scope.now c.args.e.now _ _ c.in-Chain.is in
    IfOk-weaker c.type_links.result _ _ (λ m h. cc (e, c.in_ok-left-in-Chain.ensures.made, h)) c.type_links.ensures.made

pub type_in-returns-in_ok-left-in-Chain-clause-noted : goal.type_in-returns-in_ok-left-in-Chain-clause-noted
type_in-returns-in_ok-left-in-Chain-clause-noted t c =
    let a = c.in_ok-left-in-Chain.ensures in
    on_ok_weaker c.type_links.result (λ h. kept_Chain c.args.site c.args.scope.now c.args.kept.now _ _ c.args.e.now _ _ _ _ _ c.in-Chain.is c.get.ensures.same c.as_slice.ensures.same a.made a.noted h) c.type_links.ensures.noted

pub type_in-returns-in-Prefix-clause-made : goal.type_in-returns-in-Prefix-clause-made
type_in-returns-in-Prefix-clause-made t c =
    let e = made_Prefix c.args.site c.args.scope.now c.args.e.now _ _ _ c.in-Prefix.is in
    IfOk-weaker c.type_prefix.result _ _ (λ m h. cc (e, h)) c.type_prefix.ensures.made

pub type_in-returns-in-Prefix-clause-noted : goal.type_in-returns-in-Prefix-clause-noted
type_in-returns-in-Prefix-clause-noted t c =
    let e = noted_Prefix c.args.site c.args.scope.now c.args.kept.now c.args.e.now _ _ _ c.in-Prefix.is in
    on_ok_weaker c.type_prefix.result (λ h. cc (e, h)) c.type_prefix.ensures.noted

pub type_in-returns-in_ok-left-in-Relation-clause-made : goal.type_in-returns-in_ok-left-in-Relation-clause-made
type_in-returns-in_ok-left-in-Relation-clause-made t c =
    let e = made_Relation c.args.site c.args.scope.now c.args.e.now _ _ _ _ c.in-Relation.is in
    IfOk-weaker c.type_related.result _ _ (λ m h. cc (e, c.in_ok-left-in-Relation.ensures.made, h)) c.type_related.ensures.made

pub type_in-returns-in_ok-left-in-Relation-clause-noted : goal.type_in-returns-in_ok-left-in-Relation-clause-noted
type_in-returns-in_ok-left-in-Relation-clause-noted t c =
    let a = c.in_ok-left-in-Relation.ensures in
    on_ok_weaker c.type_related.result (λ h. kept_Relation c.args.site c.args.scope.now c.args.kept.now _ _ c.args.e.now _ _ _ _ _ _ _ c.in-Relation.is c.get-in-Relation.ensures.same c.get-in-Relation-2.ensures.same a.made a.noted h) c.type_related.ensures.noted

pub type_in-returns-in_ok-base-in-Power-clause-made : goal.type_in-returns-in_ok-base-in-Power-clause-made
type_in-returns-in_ok-base-in-Power-clause-made t c =
    let e = made_Power c.args.site c.args.scope.now c.args.e.now _ _ _ c.in-Power.is in
    IfOk-weaker c.type_power.result _ _ (λ m h. cc (e, c.in_ok-base-in-Power.ensures.made, h)) c.type_power.ensures.made

pub type_in-returns-in_ok-base-in-Power-clause-noted : goal.type_in-returns-in_ok-base-in-Power-clause-noted
type_in-returns-in_ok-base-in-Power-clause-noted t c =
    let e = noted_Power c.args.site c.args.scope.now c.args.kept.now c.args.e.now _ _ _ c.in-Power.is in
    on_ok_weaker c.type_power.result (λ h. cc (e, c.in_ok-base-in-Power.ensures.made, c.in_ok-base-in-Power.ensures.noted, h)) c.type_power.ensures.noted

pub type_in-returns-in_ok-whole-in-Part-clause-made : goal.type_in-returns-in_ok-whole-in-Part-clause-made
type_in-returns-in_ok-whole-in-Part-clause-made t c =
    let e = made_Part c.args.site c.args.scope.now c.args.e.now _ _ c.in-Part.is in
    IfOk-weaker c.type_parts.result _ _ (λ m h. cc (e, c.in_ok-whole-in-Part.ensures.made, h)) c.type_parts.ensures.made

pub type_in-returns-in_ok-whole-in-Part-clause-noted : goal.type_in-returns-in_ok-whole-in-Part-clause-noted
type_in-returns-in_ok-whole-in-Part-clause-noted t c =
    let a = c.in_ok-whole-in-Part.ensures in
    on_ok_weaker c.type_parts.result (λ h. kept_Part c.args.site c.args.scope.now c.args.kept.now _ _ c.args.e.now _ _ _ _ _ c.in-Part.is c.get-in-Part.ensures.same c.as_slice-in-Part.ensures.same a.made a.noted h) c.type_parts.ensures.noted

pub type_in-returns-in-Int-clause-made : goal.type_in-returns-in-Int-clause-made
type_in-returns-in-Int-clause-made t c =
    let e = made_Int c.args.site c.args.scope.now c.args.e.now _ _ c.in-Int.is in
    cc (e)

pub type_in-returns-in-Int-clause-noted : goal.type_in-returns-in-Int-clause-noted
type_in-returns-in-Int-clause-noted t c =
    let e = noted_Int c.args.site c.args.scope.now c.args.kept.now c.args.e.now _ _ c.in-Int.is in
    cc (e)

pub type_in-returns-in-Real-clause-made : goal.type_in-returns-in-Real-clause-made
type_in-returns-in-Real-clause-made t c =
    let e = made_Real c.args.site c.args.scope.now c.args.e.now _ _ c.in-Real.is in
    cc (e)

pub type_in-returns-in-Real-clause-noted : goal.type_in-returns-in-Real-clause-noted
type_in-returns-in-Real-clause-noted t c =
    let e = noted_Real c.args.site c.args.scope.now c.args.kept.now c.args.e.now _ _ c.in-Real.is in
    cc (e)

pub type_in-returns-in_ok-text_literal-in-Text-clause-made : goal.type_in-returns-in_ok-text_literal-in-Text-clause-made
type_in-returns-in_ok-text_literal-in-Text-clause-made t c =
    let e = made_Text c.args.site c.args.scope.now c.args.e.now _ _ c.in-Text.is in
    cc (e, c.in_ok-text_literal-in-Text.ensures)

pub type_in-returns-in_ok-text_literal-in-Text-clause-noted : goal.type_in-returns-in_ok-text_literal-in-Text-clause-noted
type_in-returns-in_ok-text_literal-in-Text-clause-noted t c =
    sym (noted_Text c.args.site c.args.scope.now c.args.kept.now c.args.e.now _ _ c.in-Text.is ∙ first_of_none c.args.kept.now [] refl)

pub type_in-returns-in-Bool-clause-made : goal.type_in-returns-in-Bool-clause-made
type_in-returns-in-Bool-clause-made t c =
    let e = made_Bool c.args.site c.args.scope.now c.args.e.now _ _ c.in-Bool.is in
    cc (e)

pub type_in-returns-in-Bool-clause-noted : goal.type_in-returns-in-Bool-clause-noted
type_in-returns-in-Bool-clause-noted t c =
    sym (noted_Bool c.args.site c.args.scope.now c.args.kept.now c.args.e.now _ _ c.in-Bool.is ∙ first_of_none c.args.kept.now [] refl)

pub type_in-returns-in-Time-clause-made : goal.type_in-returns-in-Time-clause-made
type_in-returns-in-Time-clause-made t c =
    let e = made_Time c.args.site c.args.scope.now c.args.e.now _ c.in-Time.is in
    IfOk-weaker c.time_of.result _ _ (λ m h. cc (e, h)) c.time_of.ensures.made

pub type_in-returns-in-Time-clause-noted : goal.type_in-returns-in-Time-clause-noted
type_in-returns-in-Time-clause-noted t c =
    let e = noted_Time c.args.site c.args.scope.now c.args.kept.now c.args.e.now _ c.in-Time.is in
    on_ok_weaker c.time_of.result (λ h. cc (e, h)) c.time_of.ensures.noted

pub type_in-returns-in-Named-clause-made : goal.type_in-returns-in-Named-clause-made
type_in-returns-in-Named-clause-made t c =
    let e = made_Named c.args.site c.args.scope.now c.args.e.now _ c.in-Named.is in
    IfOk-weaker c.named_value.result _ _ (λ m h. cc (e, h)) c.named_value.ensures.made

pub type_in-returns-in-Named-clause-noted : goal.type_in-returns-in-Named-clause-noted
type_in-returns-in-Named-clause-noted t c =
    let e = noted_Named c.args.site c.args.scope.now c.args.kept.now c.args.e.now _ c.in-Named.is in
    on_ok_weaker c.named_value.result (λ h. cc (e, h)) c.named_value.ensures.noted

pub type_in-returns-in-Call-clause-made : goal.type_in-returns-in-Call-clause-made
type_in-returns-in-Call-clause-made t c =
    let e = made_Call c.args.site c.args.scope.now c.args.e.now _ _ c.in-Call.is in
    IfOk-weaker c.type_call.result _ _ (λ m h. cc (e, h)) c.type_call.ensures.made

pub type_in-returns-in-Call-clause-noted : goal.type_in-returns-in-Call-clause-noted
type_in-returns-in-Call-clause-noted t c =
    let e = noted_Call c.args.site c.args.scope.now c.args.kept.now c.args.e.now _ _ c.in-Call.is in
    on_ok_weaker c.type_call.result (λ h. cc (e, h)) c.type_call.ensures.noted

pub type_in-returns-in-Cast-clause-made : goal.type_in-returns-in-Cast-clause-made
type_in-returns-in-Cast-clause-made t c =
    let e = made_Cast c.args.site c.args.scope.now c.args.e.now _ _ _ c.in-Cast.is in
    IfOk-weaker c.type_cast.result _ _ (λ m h. cc (e, h)) c.type_cast.ensures.made

pub type_in-returns-in-Cast-clause-noted : goal.type_in-returns-in-Cast-clause-noted
type_in-returns-in-Cast-clause-noted t c =
    let e = noted_Cast c.args.site c.args.scope.now c.args.kept.now c.args.e.now _ _ _ c.in-Cast.is in
    on_ok_weaker c.type_cast.result (λ h. cc (e, h)) c.type_cast.ensures.noted

pub type_in-returns-in-Round-clause-made : goal.type_in-returns-in-Round-clause-made
type_in-returns-in-Round-clause-made t c =
    let e = made_Round c.args.site c.args.scope.now c.args.e.now _ _ c.in-Round.is in
    IfOk-weaker c.type_in-in-Round.result _ _ (λ m h. cc (e, h)) c.type_in-in-Round.ensures.made

pub type_in-returns-in-Round-clause-noted : goal.type_in-returns-in-Round-clause-noted
type_in-returns-in-Round-clause-noted t c =
    let e = noted_Round c.args.site c.args.scope.now c.args.kept.now c.args.e.now _ _ c.in-Round.is in
    on_ok_weaker c.type_in-in-Round.result (λ h. cc (e, h)) c.type_in-in-Round.ensures.noted

pub type_in-returns-in-TupleOf-clause-made : goal.type_in-returns-in-TupleOf-clause-made
type_in-returns-in-TupleOf-clause-made t c =
    let e = made_TupleOf c.args.site c.args.scope.now c.args.e.now _ _ c.in-TupleOf.is in
    IfOk-weaker c.type_tuple.result _ _ (λ m h. cc (e, h)) c.type_tuple.ensures.made

pub type_in-returns-in-TupleOf-clause-noted : goal.type_in-returns-in-TupleOf-clause-noted
type_in-returns-in-TupleOf-clause-noted t c =
    let e = noted_TupleOf c.args.site c.args.scope.now c.args.kept.now c.args.e.now _ _ c.in-TupleOf.is in
    on_ok_weaker c.type_tuple.result (λ h. cc (e, h)) c.type_tuple.ensures.noted

pub type_in-returns-in-ListOf-clause-made : goal.type_in-returns-in-ListOf-clause-made
type_in-returns-in-ListOf-clause-made t c =
    let e = made_ListOf c.args.site c.args.scope.now c.args.e.now _ _ c.in-ListOf.is in
    IfOk-weaker c.type_list.result _ _ (λ m h. cc (e, h)) c.type_list.ensures.made

pub type_in-returns-in-ListOf-clause-noted : goal.type_in-returns-in-ListOf-clause-noted
type_in-returns-in-ListOf-clause-noted t c =
    let e = noted_ListOf c.args.site c.args.scope.now c.args.kept.now c.args.e.now _ _ c.in-ListOf.is in
    on_ok_weaker c.type_list.result (λ h. cc (e, h)) c.type_list.ensures.noted

pub type_in-returns-in-SetOf-clause-made : goal.type_in-returns-in-SetOf-clause-made
type_in-returns-in-SetOf-clause-made t c =
    let e = made_SetOf c.args.site c.args.scope.now c.args.e.now _ _ c.in-SetOf.is in
    IfOk-weaker c.type_set.result _ _ (λ m h. cc (e, h)) c.type_set.ensures.made

pub type_in-returns-in-SetOf-clause-noted : goal.type_in-returns-in-SetOf-clause-noted
type_in-returns-in-SetOf-clause-noted t c =
    let e = noted_SetOf c.args.site c.args.scope.now c.args.kept.now c.args.e.now _ _ c.in-SetOf.is in
    on_ok_weaker c.type_set.result (λ h. cc (e, h)) c.type_set.ensures.noted

pub type_in-returns-in-DictOf-clause-made : goal.type_in-returns-in-DictOf-clause-made
type_in-returns-in-DictOf-clause-made t c =
    let e = made_DictOf c.args.site c.args.scope.now c.args.e.now _ _ c.in-DictOf.is in
    IfOk-weaker c.type_dict.result _ _ (λ m h. cc (e, h)) c.type_dict.ensures.made

pub type_in-returns-in-DictOf-clause-noted : goal.type_in-returns-in-DictOf-clause-noted
type_in-returns-in-DictOf-clause-noted t c =
    let e = noted_DictOf c.args.site c.args.scope.now c.args.kept.now c.args.e.now _ _ c.in-DictOf.is in
    on_ok_weaker c.type_dict.result (λ h. cc (e, h)) c.type_dict.ensures.noted

pub type_in-returns-in-EmptyList-clause-made : goal.type_in-returns-in-EmptyList-clause-made
type_in-returns-in-EmptyList-clause-made t c =
    let e = made_EmptyList c.args.site c.args.scope.now c.args.e.now _ _ c.in-EmptyList.is in
    IfOk-weaker c.type_empty_list.result _ _ (λ m h. cc (e, h)) c.type_empty_list.ensures.made

pub type_in-returns-in-EmptyList-clause-noted : goal.type_in-returns-in-EmptyList-clause-noted
type_in-returns-in-EmptyList-clause-noted t c =
    let e = noted_EmptyList c.args.site c.args.scope.now c.args.kept.now c.args.e.now _ _ c.in-EmptyList.is in
    on_ok_weaker c.type_empty_list.result (λ h. cc (e, h)) c.type_empty_list.ensures.noted

pub type_in-returns-in-EmptySet-clause-made : goal.type_in-returns-in-EmptySet-clause-made
type_in-returns-in-EmptySet-clause-made t c =
    let e = made_EmptySet c.args.site c.args.scope.now c.args.e.now _ _ c.in-EmptySet.is in
    IfOk-weaker c.type_empty_set.result _ _ (λ m h. cc (e, h)) c.type_empty_set.ensures.made

pub type_in-returns-in-EmptySet-clause-noted : goal.type_in-returns-in-EmptySet-clause-noted
type_in-returns-in-EmptySet-clause-noted t c =
    let e = noted_EmptySet c.args.site c.args.scope.now c.args.kept.now c.args.e.now _ _ c.in-EmptySet.is in
    on_ok_weaker c.type_empty_set.result (λ h. cc (e, h)) c.type_empty_set.ensures.noted

pub type_in-returns-in_ok-key-in-EmptyDict-clause-made : goal.type_in-returns-in_ok-key-in-EmptyDict-clause-made
type_in-returns-in_ok-key-in-EmptyDict-clause-made t c =
    let e = made_EmptyDict c.args.site c.args.scope.now c.args.e.now _ _ _ c.in-EmptyDict.is in
    IfOk-weaker c.type_empty_dict.result _ _ (λ m h. cc (e, c.in_ok-key-in-EmptyDict.ensures.made, h)) c.type_empty_dict.ensures.made

pub type_in-returns-in_ok-key-in-EmptyDict-clause-noted : goal.type_in-returns-in_ok-key-in-EmptyDict-clause-noted
type_in-returns-in_ok-key-in-EmptyDict-clause-noted t c =
    let a = c.in_ok-key-in-EmptyDict.ensures in
    on_ok_weaker c.type_empty_dict.result (λ h. kept_EmptyDict c.args.site c.args.scope.now c.args.kept.now _ _ c.args.e.now _ _ _ _ _ _ c.in-EmptyDict.is c.get-in-EmptyDict.ensures.same c.get-in-EmptyDict-2.ensures.same a.made a.noted h) c.type_empty_dict.ensures.noted

pub type_trees::mean_in-returns-in-Word-clause-made : goal.type_trees::mean_in-returns-in-Word-clause-made
type_trees::mean_in-returns-in-Word-clause-made t c =
    let e = made_Word c.args.site c.args.scope.now c.args.tree.now c.args.sizes _ _ c.in-Word.is in
    IfOk-weaker c.word_of.result _ _ (λ m h. cc (e, h)) c.word_of.ensures.made

pub type_trees::mean_in-returns-in-Word-clause-noted : goal.type_trees::mean_in-returns-in-Word-clause-noted
type_trees::mean_in-returns-in-Word-clause-noted t c =
    let e = noted_Word c.args.site c.args.scope.now c.args.kept.now c.args.tree.now c.args.sizes _ _ c.in-Word.is in
    on_ok_weaker c.word_of.result (λ h. cc (e, h)) c.word_of.ensures.noted

pub type_trees::mean_in-returns-in-Defined-clause-made : goal.type_trees::mean_in-returns-in-Defined-clause-made
type_trees::mean_in-returns-in-Defined-clause-made t c =
    let e = made_Defined c.args.site c.args.scope.now c.args.tree.now c.args.sizes _ c.in-Defined.is in
    IfOk-weaker c.named_type.result _ _ (λ m h. cc (e, h)) c.named_type.ensures.made

pub type_trees::mean_in-returns-in-Defined-clause-noted : goal.type_trees::mean_in-returns-in-Defined-clause-noted
type_trees::mean_in-returns-in-Defined-clause-noted t c =
    let e = noted_Defined c.args.site c.args.scope.now c.args.kept.now c.args.tree.now c.args.sizes _ c.in-Defined.is in
    on_ok_weaker c.named_type.result (λ h. cc (e, h)) c.named_type.ensures.noted

pub type_trees::mean_in-returns-in-None-clause-made : goal.type_trees::mean_in-returns-in-None-clause-made
type_trees::mean_in-returns-in-None-clause-made t c =
    let e = made_List_plain c.args.site c.args.scope.now c.args.tree.now c.args.sizes _ _ (c.in-List.is ∙ ap (λ s. type.List c.in-List.place s c.in-List.element) c.in-None.is) in
    IfOk-weaker c.mean_list.result _ _ (λ m h. cc (e, h)) c.mean_list.ensures.made

pub type_trees::mean_in-returns-in-None-clause-noted : goal.type_trees::mean_in-returns-in-None-clause-noted
type_trees::mean_in-returns-in-None-clause-noted t c =
    let e = noted_List_plain c.args.site c.args.scope.now c.args.kept.now c.args.tree.now c.args.sizes _ _ (c.in-List.is ∙ ap (λ s. type.List c.in-List.place s c.in-List.element) c.in-None.is) in
    on_ok_weaker c.mean_list.result (λ h. cc (e, h)) c.mean_list.ensures.noted

pub type_trees::mean_in-returns-in_ok-size-in-Some-clause-made : goal.type_trees::mean_in-returns-in_ok-size-in-Some-clause-made
type_trees::mean_in-returns-in_ok-size-in-Some-clause-made t c =
    let e = made_List_sized c.args.site c.args.scope.now c.args.tree.now c.args.sizes _ _ _ (c.in-List.is ∙ ap (λ s. type.List c.in-List.place s c.in-List.element) c.in-Some.is) in
    IfOk-weaker c.mean_sized.result _ _ (λ m h. cc (e, c.in_ok-size-in-Some.ensures.made, h)) c.mean_sized.ensures.made

pub type_trees::mean_in-returns-in_ok-size-in-Some-clause-noted : goal.type_trees::mean_in-returns-in_ok-size-in-Some-clause-noted
type_trees::mean_in-returns-in_ok-size-in-Some-clause-noted t c =
    let e = noted_List_sized c.args.site c.args.scope.now c.args.kept.now c.args.tree.now c.args.sizes _ _ _ (c.in-List.is ∙ ap (λ s. type.List c.in-List.place s c.in-List.element) c.in-Some.is) in
    on_ok_weaker c.mean_sized.result (λ h. cc (e, c.in_ok-size-in-Some.ensures.made, c.in_ok-size-in-Some.ensures.noted, h)) c.mean_sized.ensures.noted

pub type_trees::mean_in-returns-in-Set-clause-made : goal.type_trees::mean_in-returns-in-Set-clause-made
type_trees::mean_in-returns-in-Set-clause-made t c =
    let e = made_Set c.args.site c.args.scope.now c.args.tree.now c.args.sizes _ _ c.in-Set.is in
    IfOk-weaker c.mean_set.result _ _ (λ m h. cc (e, h)) c.mean_set.ensures.made

pub type_trees::mean_in-returns-in-Set-clause-noted : goal.type_trees::mean_in-returns-in-Set-clause-noted
type_trees::mean_in-returns-in-Set-clause-noted t c =
    let e = noted_Set c.args.site c.args.scope.now c.args.kept.now c.args.tree.now c.args.sizes _ _ c.in-Set.is in
    on_ok_weaker c.mean_set.result (λ h. cc (e, h)) c.mean_set.ensures.noted

pub type_trees::mean_in-returns-in-Dist-clause-made : goal.type_trees::mean_in-returns-in-Dist-clause-made
type_trees::mean_in-returns-in-Dist-clause-made t c =
    let e = made_Dist c.args.site c.args.scope.now c.args.tree.now c.args.sizes _ _ c.in-Dist.is in
    IfOk-weaker c.mean_dist.result _ _ (λ m h. cc (e, h)) c.mean_dist.ensures.made

pub type_trees::mean_in-returns-in-Dist-clause-noted : goal.type_trees::mean_in-returns-in-Dist-clause-noted
type_trees::mean_in-returns-in-Dist-clause-noted t c =
    let e = noted_Dist c.args.site c.args.scope.now c.args.kept.now c.args.tree.now c.args.sizes _ _ c.in-Dist.is in
    on_ok_weaker c.mean_dist.result (λ h. cc (e, h)) c.mean_dist.ensures.noted

pub type_trees::mean_in-returns-in_ok-key-in-Dict-clause-made : goal.type_trees::mean_in-returns-in_ok-key-in-Dict-clause-made
type_trees::mean_in-returns-in_ok-key-in-Dict-clause-made t c =
    let e = made_Dict c.args.site c.args.scope.now c.args.tree.now c.args.sizes _ _ _ c.in-Dict.is in
    IfOk-weaker c.mean_dict.result _ _ (λ m h. cc (e, c.in_ok-key-in-Dict.ensures.made, h)) c.mean_dict.ensures.made

pub type_trees::mean_in-returns-in_ok-key-in-Dict-clause-noted : goal.type_trees::mean_in-returns-in_ok-key-in-Dict-clause-noted
type_trees::mean_in-returns-in_ok-key-in-Dict-clause-noted t c =
    let e = noted_Dict c.args.site c.args.scope.now c.args.kept.now c.args.tree.now c.args.sizes _ _ _ c.in-Dict.is in
    on_ok_weaker c.mean_dict.result (λ h. cc (e, c.in_ok-key-in-Dict.ensures.made, c.in_ok-key-in-Dict.ensures.noted, h)) c.mean_dict.ensures.noted

pub type_trees::mean_in-returns-in-Tuple-clause-made : goal.type_trees::mean_in-returns-in-Tuple-clause-made
type_trees::mean_in-returns-in-Tuple-clause-made t c =
    let e = made_Tuple c.args.site c.args.scope.now c.args.tree.now c.args.sizes _ _ c.in-Tuple.is in
    IfOk-weaker c.mean_tuple.result _ _ (λ m h. cc (e, h)) c.mean_tuple.ensures.made

pub type_trees::mean_in-returns-in-Tuple-clause-noted : goal.type_trees::mean_in-returns-in-Tuple-clause-noted
type_trees::mean_in-returns-in-Tuple-clause-noted t c =
    let e = noted_Tuple c.args.site c.args.scope.now c.args.kept.now c.args.tree.now c.args.sizes _ _ c.in-Tuple.is in
    on_ok_weaker c.mean_tuple.result (λ h. cc (e, h)) c.mean_tuple.ensures.noted

pub type_trees::mean_in-returns-in-None-carried-clause-made : goal.type_trees::mean_in-returns-in-None-carried-clause-made
type_trees::mean_in-returns-in-None-carried-clause-made t c =
    let e = made_Chan_void c.args.site c.args.scope.now c.args.tree.now c.args.sizes _ _ (c.in-Chan.is ∙ ap (λ s. type.Chan c.in-Chan.place c.in-Chan.way s) c.in-None-carried.is) in
    IfOk-weaker c.void_chan_of.result _ _ (λ m h. cc (e, h)) c.void_chan_of.ensures.made

pub type_trees::mean_in-returns-in-None-carried-clause-noted : goal.type_trees::mean_in-returns-in-None-carried-clause-noted
type_trees::mean_in-returns-in-None-carried-clause-noted t c =
    let e = noted_Chan_void c.args.site c.args.scope.now c.args.kept.now c.args.tree.now c.args.sizes _ _ (c.in-Chan.is ∙ ap (λ s. type.Chan c.in-Chan.place c.in-Chan.way s) c.in-None-carried.is) in
    on_ok_weaker c.void_chan_of.result (λ h. cc (e, h)) c.void_chan_of.ensures.noted

pub type_trees::mean_in-returns-in-Some-carried-clause-made : goal.type_trees::mean_in-returns-in-Some-carried-clause-made
type_trees::mean_in-returns-in-Some-carried-clause-made t c =
    let e = made_Chan_of c.args.site c.args.scope.now c.args.tree.now c.args.sizes _ _ _ (c.in-Chan.is ∙ ap (λ s. type.Chan c.in-Chan.place c.in-Chan.way s) c.in-Some-carried.is) in
    IfOk-weaker c.mean_chan.result _ _ (λ m h. cc (e, h)) c.mean_chan.ensures.made

pub type_trees::mean_in-returns-in-Some-carried-clause-noted : goal.type_trees::mean_in-returns-in-Some-carried-clause-noted
type_trees::mean_in-returns-in-Some-carried-clause-noted t c =
    let e = noted_Chan_of c.args.site c.args.scope.now c.args.kept.now c.args.tree.now c.args.sizes _ _ _ (c.in-Chan.is ∙ ap (λ s. type.Chan c.in-Chan.place c.in-Chan.way s) c.in-Some-carried.is) in
    on_ok_weaker c.mean_chan.result (λ h. cc (e, h)) c.mean_chan.ensures.noted

-- ---- nodes whose parts are typed

pub operands::type_prefix-returns-clause-made : goal.operands::type_prefix-returns-clause-made
operands::type_prefix-returns-clause-made t c =
    IfOk-weaker c.prefix_of.result _ _ (λ m h. cc (c.in_ok-operand.ensures.made, h)) c.prefix_of.ensures.made

pub operands::type_prefix-returns-clause-noted : goal.operands::type_prefix-returns-clause-noted
operands::type_prefix-returns-clause-noted t c =
    on_ok_weaker c.prefix_of.result (λ h. cc (c.in_ok-operand.ensures.made, c.in_ok-operand.ensures.noted, h)) c.prefix_of.ensures.noted

pub operands::type_cast-returns-clause-made : goal.operands::type_cast-returns-clause-made
operands::type_cast-returns-clause-made t c =
    IfOk-weaker c.cast_of.result _ _ (λ m h. cc (c.in_ok-operand.ensures.made, h)) c.cast_of.ensures.made

pub operands::type_cast-returns-clause-noted : goal.operands::type_cast-returns-clause-noted
operands::type_cast-returns-clause-noted t c =
    on_ok_weaker c.cast_of.result (λ h. cc (c.in_ok-operand.ensures.made, c.in_ok-operand.ensures.noted, h)) c.cast_of.ensures.noted

pub operands::type_related-returns-in-Ok-clause-made : goal.operands::type_related-returns-in-Ok-clause-made
operands::type_related-returns-in-Ok-clause-made t c =
    IfOk-weaker c.relation_of.result _ _ (λ m h. cc (c.in-Ok.ensures.made, h)) c.relation_of.ensures.made

pub operands::type_related-returns-in-Ok-clause-noted : goal.operands::type_related-returns-in-Ok-clause-noted
operands::type_related-returns-in-Ok-clause-noted t c =
    on_ok_weaker c.relation_of.result (λ h. cc (c.in-Ok.ensures.made, c.in-Ok.ensures.noted, h)) c.relation_of.ensures.noted

pub operands::type_power-returns-in-Ok-clause-made : goal.operands::type_power-returns-in-Ok-clause-made
operands::type_power-returns-in-Ok-clause-made t c =
    IfOk-weaker c.power_of.result _ _ (λ m h. cc (c.in-Ok.ensures.made, h)) c.power_of.ensures.made

pub operands::type_power-returns-in-Ok-clause-noted : goal.operands::type_power-returns-in-Ok-clause-noted
operands::type_power-returns-in-Ok-clause-noted t c =
    on_ok_weaker c.power_of.result (λ h. cc (c.in-Ok.ensures.made, c.in-Ok.ensures.noted, h)) c.power_of.ensures.noted

pub containers::type_tuple-returns-clause-made : goal.containers::type_tuple-returns-clause-made
containers::type_tuple-returns-clause-made t c =
    IfOk-weaker c.tuple_of.result _ _ (λ m h. cc (c.in_ok-parts.ensures.made, h)) c.tuple_of.ensures.made

pub containers::type_tuple-returns-clause-noted : goal.containers::type_tuple-returns-clause-noted
containers::type_tuple-returns-clause-noted t c =
    on_ok_weaker c.tuple_of.result (λ h. cc (c.in_ok-parts.ensures.made, c.in_ok-parts.ensures.noted, h)) c.tuple_of.ensures.noted

pub containers::type_list-returns-clause-made : goal.containers::type_list-returns-clause-made
containers::type_list-returns-clause-made t c =
    IfOk-weaker c.list_of.result _ _ (λ m h. cc (c.in_ok-elements.ensures.made, h)) c.list_of.ensures.made

pub containers::type_list-returns-clause-noted : goal.containers::type_list-returns-clause-noted
containers::type_list-returns-clause-noted t c =
    on_ok_weaker c.list_of.result (λ h. cc (c.in_ok-elements.ensures.made, c.in_ok-elements.ensures.noted, h)) c.list_of.ensures.noted

pub containers::type_set-returns-clause-made : goal.containers::type_set-returns-clause-made
containers::type_set-returns-clause-made t c =
    IfOk-weaker c.set_of.result _ _ (λ m h. cc (c.in_ok-elements.ensures.made, h)) c.set_of.ensures.made

pub containers::type_set-returns-clause-noted : goal.containers::type_set-returns-clause-noted
containers::type_set-returns-clause-noted t c =
    on_ok_weaker c.set_of.result (λ h. cc (c.in_ok-elements.ensures.made, c.in_ok-elements.ensures.noted, h)) c.set_of.ensures.noted

pub containers::type_empty_list-returns-clause-made : goal.containers::type_empty_list-returns-clause-made
containers::type_empty_list-returns-clause-made t c =
    IfOk-weaker c.empty_list.result _ _ (λ m h. cc (c.in_ok-element.ensures.made, h)) c.empty_list.ensures.made

pub containers::type_empty_list-returns-clause-noted : goal.containers::type_empty_list-returns-clause-noted
containers::type_empty_list-returns-clause-noted t c =
    on_ok_weaker c.empty_list.result (λ h. cc (c.in_ok-element.ensures.made, c.in_ok-element.ensures.noted, h)) c.empty_list.ensures.noted

pub containers::type_empty_set-returns-clause-made : goal.containers::type_empty_set-returns-clause-made
containers::type_empty_set-returns-clause-made t c =
    IfOk-weaker c.empty_set.result _ _ (λ m h. cc (c.in_ok-element.ensures.made, h)) c.empty_set.ensures.made

pub containers::type_empty_set-returns-clause-noted : goal.containers::type_empty_set-returns-clause-noted
containers::type_empty_set-returns-clause-noted t c =
    on_ok_weaker c.empty_set.result (λ h. cc (c.in_ok-element.ensures.made, c.in_ok-element.ensures.noted, h)) c.empty_set.ensures.noted

pub containers::type_empty_dict-returns-in-Ok-clause-made : goal.containers::type_empty_dict-returns-in-Ok-clause-made
containers::type_empty_dict-returns-in-Ok-clause-made t c =
    IfOk-weaker c.empty_dict.result _ _ (λ m h. cc (c.in-Ok.ensures.made, h)) c.empty_dict.ensures.made

pub containers::type_empty_dict-returns-in-Ok-clause-noted : goal.containers::type_empty_dict-returns-in-Ok-clause-noted
containers::type_empty_dict-returns-in-Ok-clause-noted t c =
    on_ok_weaker c.empty_dict.result (λ h. cc (c.in-Ok.ensures.made, c.in-Ok.ensures.noted, h)) c.empty_dict.ensures.noted

pub type_trees::mean_list-returns-clause-made : goal.type_trees::mean_list-returns-clause-made
type_trees::mean_list-returns-clause-made t c =
    IfOk-weaker c.list_of.result _ _ (λ m h. cc (c.in_ok-element.ensures.made, h)) c.list_of.ensures.made

pub type_trees::mean_list-returns-clause-noted : goal.type_trees::mean_list-returns-clause-noted
type_trees::mean_list-returns-clause-noted t c =
    on_ok_weaker c.list_of.result (λ h. cc (c.in_ok-element.ensures.made, c.in_ok-element.ensures.noted, h)) c.list_of.ensures.noted

pub type_trees::mean_set-returns-clause-made : goal.type_trees::mean_set-returns-clause-made
type_trees::mean_set-returns-clause-made t c =
    IfOk-weaker c.set_of.result _ _ (λ m h. cc (c.in_ok-element.ensures.made, h)) c.set_of.ensures.made

pub type_trees::mean_set-returns-clause-noted : goal.type_trees::mean_set-returns-clause-noted
type_trees::mean_set-returns-clause-noted t c =
    on_ok_weaker c.set_of.result (λ h. cc (c.in_ok-element.ensures.made, c.in_ok-element.ensures.noted, h)) c.set_of.ensures.noted

pub type_trees::mean_dist-returns-clause-made : goal.type_trees::mean_dist-returns-clause-made
type_trees::mean_dist-returns-clause-made t c =
    IfOk-weaker c.dist_of.result _ _ (λ m h. cc (c.in_ok-drawn.ensures.made, h)) c.dist_of.ensures.made

pub type_trees::mean_dist-returns-clause-noted : goal.type_trees::mean_dist-returns-clause-noted
type_trees::mean_dist-returns-clause-noted t c =
    on_ok_weaker c.dist_of.result (λ h. cc (c.in_ok-drawn.ensures.made, c.in_ok-drawn.ensures.noted, h)) c.dist_of.ensures.noted

pub type_trees::mean_sized-returns-in-Ok-clause-made : goal.type_trees::mean_sized-returns-in-Ok-clause-made
type_trees::mean_sized-returns-in-Ok-clause-made t c =
    IfOk-weaker c.sized_list_of.result _ _ (λ m h. cc (c.in-Ok.ensures.made, h)) c.sized_list_of.ensures.made

pub type_trees::mean_sized-returns-in-Ok-clause-noted : goal.type_trees::mean_sized-returns-in-Ok-clause-noted
type_trees::mean_sized-returns-in-Ok-clause-noted t c =
    on_ok_weaker c.sized_list_of.result (λ h. cc (c.in-Ok.ensures.made, c.in-Ok.ensures.noted, h)) c.sized_list_of.ensures.noted

pub type_trees::mean_dict-returns-in-Ok-clause-made : goal.type_trees::mean_dict-returns-in-Ok-clause-made
type_trees::mean_dict-returns-in-Ok-clause-made t c =
    IfOk-weaker c.dict_of.result _ _ (λ m h. cc (c.in-Ok.ensures.made, h)) c.dict_of.ensures.made

pub type_trees::mean_dict-returns-in-Ok-clause-noted : goal.type_trees::mean_dict-returns-in-Ok-clause-noted
type_trees::mean_dict-returns-in-Ok-clause-noted t c =
    on_ok_weaker c.dict_of.result (λ h. cc (c.in-Ok.ensures.made, c.in-Ok.ensures.noted, h)) c.dict_of.ensures.noted

pub type_trees::mean_chan-returns-clause-made : goal.type_trees::mean_chan-returns-clause-made
type_trees::mean_chan-returns-clause-made t c =
    IfOk-weaker c.chan_of.result _ _ (λ m h. cc (c.in_ok-carried.ensures.made, h)) c.chan_of.ensures.made

pub type_trees::mean_chan-returns-clause-noted : goal.type_trees::mean_chan-returns-clause-noted
type_trees::mean_chan-returns-clause-noted t c =
    on_ok_weaker c.chan_of.result (λ h. cc (c.in_ok-carried.ensures.made, c.in_ok-carried.ensures.noted, h)) c.chan_of.ensures.noted

pub type_trees::mean_tuple-returns-clause-made : goal.type_trees::mean_tuple-returns-clause-made
type_trees::mean_tuple-returns-clause-made t c =
    IfOk-weaker c.tuple_of.result _ _ (λ m h. cc (c.in_ok-parts.ensures.made, h)) c.tuple_of.ensures.made

pub type_trees::mean_tuple-returns-clause-noted : goal.type_trees::mean_tuple-returns-clause-noted
type_trees::mean_tuple-returns-clause-noted t c =
    on_ok_weaker c.tuple_of.result (λ h. cc (c.in_ok-parts.ensures.made, c.in_ok-parts.ensures.noted, h)) c.tuple_of.ensures.noted

pub parts::type_index-returns-in-Ok-clause-made : goal.parts::type_index-returns-in-Ok-clause-made
parts::type_index-returns-in-Ok-clause-made t c =
    IfOk-weaker c.index_of.result _ _ (λ m h. cc (c.in-Ok.ensures.made, h)) c.index_of.ensures.made

pub parts::type_index-returns-in-Ok-clause-noted : goal.parts::type_index-returns-in-Ok-clause-noted
parts::type_index-returns-in-Ok-clause-noted t c =
    on_ok_weaker c.index_of.result (λ h. cc (c.in-Ok.ensures.made, c.in-Ok.ensures.noted, h)) c.index_of.ensures.noted

pub parts::type_slice-returns-in-Ok-clause-made : goal.parts::type_slice-returns-in-Ok-clause-made
parts::type_slice-returns-in-Ok-clause-made t c =
    IfOk-weaker c.slice_of.result _ _ (λ m h. cc (c.in-Ok.ensures.made, h)) c.slice_of.ensures.made

pub parts::type_slice-returns-in-Ok-clause-noted : goal.parts::type_slice-returns-in-Ok-clause-noted
parts::type_slice-returns-in-Ok-clause-noted t c =
    on_ok_weaker c.slice_of.result (λ h. cc (c.in-Ok.ensures.made, c.in-Ok.ensures.noted, h)) c.slice_of.ensures.noted

pub containers::type_dict-returns-clause-made : goal.containers::type_dict-returns-clause-made
containers::type_dict-returns-clause-made t c =
    let r = c.in_ok-keys.ensures in
    IfOk-weaker c.dict_of.result _ _ (λ m h. h ∙ (λ i. (dict_of c.args.place (r.keys i) (r.values i)).made)) c.dict_of.ensures.made

pub containers::type_dict-returns-clause-noted : goal.containers::type_dict-returns-clause-noted
containers::type_dict-returns-clause-noted t c =
    let r = c.in_ok-keys.ensures in
    on_ok_weaker c.dict_of.result (λ h. h ∙ (λ i. first_of (r.noted i) (dict_of c.args.place (r.keys i) (r.values i)).faults)) c.dict_of.ensures.noted

-- ---- calls

pub calls::type_call-type_insertion-requires : goal.calls::type_call-type_insertion-requires
calls::type_call-type_insertion-requires t c =
    (omega arith, c.takes_function.ensures.three c.if-takes_function.true)

pub calls::type_call-returns-then-takes_function-clause-made : goal.calls::type_call-returns-then-takes_function-clause-made
calls::type_call-returns-then-takes_function-clause-made t c =
    IfOk-weaker c.type_insertion.result _ _ (λ m h. made_three c.args.site c.args.scope.now c.args.name.now c.args.arguments.now m (c.takes_function.ensures.insertion c.if-takes_function.true) h) c.type_insertion.ensures.made

pub calls::type_call-returns-else-takes_function-clause-made : goal.calls::type_call-returns-else-takes_function-clause-made
calls::type_call-returns-else-takes_function-clause-made t c =
    IfOk-weaker c.type_plain.result _ _ (λ m h. made_other c.args.site c.args.scope.now c.args.name.now c.args.arguments.now m (c.takes_function.ensures.other c.if-takes_function.false) h) c.type_plain.ensures.made

pub calls::type_call-returns-then-takes_function-clause-noted : goal.calls::type_call-returns-then-takes_function-clause-noted
calls::type_call-returns-then-takes_function-clause-noted t c =
    on_ok_weaker c.type_insertion.result (λ h. noted_three c.args.site c.args.scope.now c.args.kept.now _ c.args.name.now c.args.arguments.now (c.takes_function.ensures.insertion c.if-takes_function.true) h) c.type_insertion.ensures.noted

pub calls::type_call-returns-else-takes_function-clause-noted : goal.calls::type_call-returns-else-takes_function-clause-noted
calls::type_call-returns-else-takes_function-clause-noted t c =
    on_ok_weaker c.type_plain.result (λ h. noted_other c.args.site c.args.scope.now c.args.kept.now _ c.args.name.now c.args.arguments.now (c.takes_function.ensures.other c.if-takes_function.false) h) c.type_plain.ensures.noted

pub calls::type_insertion-returns-in-Ok-clause-made : goal.calls::type_insertion-returns-in-Ok-clause-made
calls::type_insertion-returns-in-Ok-clause-made t c =
    let h = three_items c.args.arguments.now c.index-arguments-0.result c.index-arguments-1.result c.index-arguments-2.result c.requires.three c.index-arguments-0.is c.index-arguments-1.is c.index-arguments-2.is in
    let a = c.in_ok-list.ensures in
    let b = c.in-Ok.ensures in
    IfOk-weaker c.insert.result _ _ (λ m n. made_inserted c.args.site c.args.scope.now c.args.name.now c.args.arguments.now _ _ _ _ _ m h a.made b.made n) c.insert.ensures.made

pub calls::type_insertion-returns-in-Ok-clause-noted : goal.calls::type_insertion-returns-in-Ok-clause-noted
calls::type_insertion-returns-in-Ok-clause-noted t c =
    let h = three_items c.args.arguments.now c.index-arguments-0.result c.index-arguments-1.result c.index-arguments-2.result c.requires.three c.index-arguments-0.is c.index-arguments-1.is c.index-arguments-2.is in
    let a = c.in_ok-list.ensures in
    let b = c.in-Ok.ensures in
    on_ok_weaker c.insert.result (λ n. noted_inserted c.args.site c.args.scope.now c.args.kept.now _ _ _ c.args.name.now c.args.arguments.now _ _ _ _ _ h a.made b.made a.noted b.noted n) c.insert.ensures.noted

pub calls::type_plain-returns-clause-made : goal.calls::type_plain-returns-clause-made
calls::type_plain-returns-clause-made t c =
    IfOk-weaker c.call.result _ _ (λ m h. made_plain c.args.site c.args.scope.now c.args.name.now c.args.arguments.now _ m c.in_ok-parts.ensures.made h) c.call.ensures.made

pub calls::type_plain-returns-clause-noted : goal.calls::type_plain-returns-clause-noted
calls::type_plain-returns-clause-noted t c =
    let p = c.in_ok-parts.ensures in
    on_ok_weaker c.call.result (λ h. noted_plain c.args.site c.args.scope.now c.args.kept.now _ _ c.args.name.now c.args.arguments.now _ p.made p.noted h) c.call.ensures.noted

-- ---- parts of a whole

pub parts::type_part-returns-in-Index-clause-made : goal.parts::type_part-returns-in-Index-clause-made
parts::type_part-returns-in-Index-clause-made t c =
    let e = made_Index c.args.site c.args.scope.now c.args.whole c.args.postfix.now _ _ c.in-Index.is in
    IfOk-weaker c.type_index.result _ _ (λ m h. cc (e, h)) c.type_index.ensures.made

pub parts::type_part-returns-in-Index-clause-noted : goal.parts::type_part-returns-in-Index-clause-noted
parts::type_part-returns-in-Index-clause-noted t c =
    let e = noted_Index c.args.site c.args.scope.now c.args.kept.now c.args.whole c.args.postfix.now _ _ c.in-Index.is in
    on_ok_weaker c.type_index.result (λ h. cc (e, h)) c.type_index.ensures.noted

pub parts::type_part-returns-in_ok-upto-in-Slice-clause-made : goal.parts::type_part-returns-in_ok-upto-in-Slice-clause-made
parts::type_part-returns-in_ok-upto-in-Slice-clause-made t c =
    let a = c.in_ok-from-in-Slice.ensures in
    let b = c.in_ok-upto-in-Slice.ensures in
    IfOk-weaker c.type_slice.result _ _ (λ m h. made_sliced c.args.site c.args.scope.now c.args.whole m c.args.postfix.now _ _ _ _ _ _ _ c.in-Slice.is a.made b.made h) c.type_slice.ensures.made

pub parts::type_part-returns-in_ok-upto-in-Slice-clause-noted : goal.parts::type_part-returns-in_ok-upto-in-Slice-clause-noted
parts::type_part-returns-in_ok-upto-in-Slice-clause-noted t c =
    let a = c.in_ok-from-in-Slice.ensures in
    let b = c.in_ok-upto-in-Slice.ensures in
    on_ok_weaker c.type_slice.result (λ h. noted_sliced c.args.site c.args.scope.now c.args.kept.now _ _ _ c.args.whole c.args.postfix.now _ _ _ _ _ _ _ c.in-Slice.is a.made b.made a.noted b.noted h) c.type_slice.ensures.noted

pub parts::type_part-returns-in-Field-clause-made : goal.parts::type_part-returns-in-Field-clause-made
parts::type_part-returns-in-Field-clause-made t c =
    let e = made_Field c.args.site c.args.scope.now c.args.whole c.args.postfix.now _ c.in-Field.is in
    IfOk-weaker c.field_of.result _ _ (λ m h. cc (e, h)) c.field_of.ensures.made

pub parts::type_part-returns-in-Field-clause-noted : goal.parts::type_part-returns-in-Field-clause-noted
parts::type_part-returns-in-Field-clause-noted t c =
    let e = noted_Field c.args.site c.args.scope.now c.args.kept.now c.args.whole c.args.postfix.now _ c.in-Field.is in
    on_ok_weaker c.field_of.result (λ h. cc (e, h)) c.field_of.ensures.noted

-- ---- the loops

pub operands::type_links-loop-link-preserved : goal.operands::type_links-loop-link-preserved
operands::type_links-loop-link-preserved t c =
    let l = c.loop-link in
    let r = c.in_ok-right.ensures in
    let s = c.in_ok-left.ensures in
    record {
      made = l.invariant.made ∙ links_more c.args.site c.args.scope.now _ _ _ c.args.links.now l.link-index c.link-item.result c.loop-link-test.true c.link-item.is r.made s.made;
      noted = l.invariant.noted ∙ links_kept c.args.site c.args.scope.now _ _ _ _ _ _ c.args.links.now l.link-index c.link-item.result c.loop-link-test.true c.link-item.is r.made s.made r.noted s.noted;
    }

pub operands::type_links-returns-clause-made : goal.operands::type_links-returns-clause-made
operands::type_links-returns-clause-made t c =
    let l = c.loop-link in
    sym (l.invariant.made ∙ links_left c.args.site c.args.scope.now l.left c.args.links.now l.link-index (omega arith))

pub operands::type_links-returns-clause-noted : goal.operands::type_links-returns-clause-noted
operands::type_links-returns-clause-noted t c =
    let l = c.loop-link in
    sym (l.invariant.noted ∙ links_end c.args.site c.args.scope.now l.kept l.left c.args.links.now l.link-index (omega arith))

pub parts::type_parts-loop-postfix-preserved : goal.parts::type_parts-loop-postfix-preserved
parts::type_parts-loop-postfix-preserved t c =
    let l = c.loop-postfix in
    let m = parts_made c.args.site c.args.scope.now l.part c.args.postfixes.now l.postfix-index c.postfix-item.result c.loop-postfix-test.true c.postfix-item.is in
    let n = parts_noted c.args.site c.args.scope.now l.kept l.part c.args.postfixes.now l.postfix-index c.postfix-item.result c.loop-postfix-test.true c.postfix-item.is in
    let r = c.in_ok-part.ensures in
    record { made = cc (l.invariant.made, m, r.made); noted = cc (l.invariant.noted, n, r.made, r.noted) }

pub parts::type_parts-returns-clause-made : goal.parts::type_parts-returns-clause-made
parts::type_parts-returns-clause-made t c =
    let l = c.loop-postfix in
    sym (l.invariant.made ∙ parts_left c.args.site c.args.scope.now l.part c.args.postfixes.now l.postfix-index (omega arith))

pub parts::type_parts-returns-clause-noted : goal.parts::type_parts-returns-clause-noted
parts::type_parts-returns-clause-noted t c =
    let l = c.loop-postfix in
    sym (l.invariant.noted ∙ parts_end c.args.site c.args.scope.now l.kept l.part c.args.postfixes.now l.postfix-index (omega arith))

pub containers::type_all-loop-part-preserved : goal.containers::type_all-loop-part-preserved
containers::type_all-loop-part-preserved t c =
    let l = c.loop-part in
    let m = all_made_more c.args.site c.args.scope.now l.all.items c.args.parts.now l.part-index c.part-item.result c.loop-part-test.true c.part-item.is in
    let n = all_noted c.args.site c.args.scope.now l.kept c.args.parts.now l.part-index c.part-item.result c.loop-part-test.true c.part-item.is in
    let r = c.in_ok-made.ensures in
    record { made = cc (l.invariant.made, m, r.made, c.in_ok-push.ensures.items); noted = cc (l.invariant.noted, n, r.noted) }

pub containers::type_all-returns-clause-noted : goal.containers::type_all-returns-clause-noted
containers::type_all-returns-clause-noted t c =
    let l = c.loop-part in
    sym (l.invariant.noted ∙ all_end c.args.site c.args.scope.now l.kept c.args.parts.now l.part-index (omega arith))

pub containers::type_entries-loop-entry-preserved : goal.containers::type_entries-loop-entry-preserved
containers::type_entries-loop-entry-preserved t c =
    let l = c.loop-entry in
    let k = keys_more c.args.site c.args.scope.now l.keys.items c.args.entries.now l.entry-index c.entry-item.result c.loop-entry-test.true c.entry-item.is in
    let v = values_more c.args.site c.args.scope.now l.values.items c.args.entries.now l.entry-index c.entry-item.result c.loop-entry-test.true c.entry-item.is in
    let n = entries_noted c.args.site c.args.scope.now l.kept c.args.entries.now l.entry-index c.entry-item.result c.loop-entry-test.true c.entry-item.is in
    let a = c.in_ok-key.ensures in
    let b = c.in_ok-value.ensures in
    record { keys = cc (l.invariant.keys, k, a.made, c.in_ok-push.ensures.items); values = cc (l.invariant.values, v, b.made, c.in_ok-push-2.ensures.items); noted = cc (l.invariant.noted, n, a.noted, b.noted) }

pub containers::type_entries-returns-clause-noted : goal.containers::type_entries-returns-clause-noted
containers::type_entries-returns-clause-noted t c =
    let l = c.loop-entry in
    sym (l.invariant.noted ∙ entries_end c.args.site c.args.scope.now l.kept c.args.entries.now l.entry-index (omega arith))

-- ---- fields

pub type_trees::mean_fields-loop-field-init : goal.type_trees::mean_fields-loop-field-init
type_trees::mean_fields-loop-field-init t c =
    let n = first_noted c.args.site c.args.scope.now c.args.kept.now c.args.fields.now in
    record { made = fields_begin c.args.site c.args.scope.now _ c.args.fields.now (ap Some (c.in_ok-of.ensures.same ∙ c.new.ensures.items)); noted = cc (n, c.note_first.ensures) }

pub type_trees::mean_fields-loop-field-preserved : goal.type_trees::mean_fields-loop-field-preserved
type_trees::mean_fields-loop-field-preserved t c =
    let l = c.loop-field in
    let n = fields_noted c.args.site c.args.scope.now l.kept c.args.fields.now l.field-index c.field-item.result c.loop-field-test.true c.field-item.is in
    let r = c.in_ok-ty.ensures in
    record { made = l.invariant.made ∙ fields_more c.args.site c.args.scope.now _ _ _ _ c.args.fields.now l.field-index c.field-item.result c.loop-field-test.true c.field-item.is r.made c.in_ok-parts.ensures; noted = cc (l.invariant.noted, n, r.noted) }

pub type_trees::mean_fields-returns-clause-made : goal.type_trees::mean_fields-returns-clause-made
type_trees::mean_fields-returns-clause-made t c =
    let l = c.loop-field in
    sym (l.invariant.made ∙ fields_left c.args.site c.args.scope.now l.parts l.last c.args.fields.now l.field-index (omega arith))

pub type_trees::mean_fields-returns-clause-noted : goal.type_trees::mean_fields-returns-clause-noted
type_trees::mean_fields-returns-clause-noted t c =
    let l = c.loop-field in
    sym (l.invariant.noted ∙ fields_end c.args.site c.args.scope.now l.kept c.args.fields.now l.field-index (omega arith))

pub type_trees::type_before-returns-in_default-clause-made : goal.type_trees::type_before-returns-in_default-clause-made
type_trees::type_before-returns-in_default-clause-made t c = sym (made_untyped c.args.site c.args.scope.now c.args.last c.args.field.now c.in_default.is)

pub type_trees::type_before-returns-in_default-clause-noted : goal.type_trees::type_before-returns-in_default-clause-noted
type_trees::type_before-returns-in_default-clause-noted t c = sym (noted_untyped c.args.site c.args.scope.now c.args.kept.now c.args.field.now c.in_default.is)

pub type_trees::type_before-returns-clause-made : goal.type_trees::type_before-returns-clause-made
type_trees::type_before-returns-clause-made t c =
    let e = made_typed c.args.site c.args.scope.now c.args.last c.args.field.now _ c.in-Some.is in
    cc (e, c.in_ok-meant.ensures.made, c.type_of.ensures)

pub type_trees::type_before-returns-clause-noted : goal.type_trees::type_before-returns-clause-noted
type_trees::type_before-returns-clause-noted t c =
    let e = noted_typed c.args.site c.args.scope.now c.args.kept.now c.args.field.now _ c.in-Some.is in
    cc (e, c.in_ok-meant.ensures.noted)
