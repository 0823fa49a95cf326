use Rattle.std.proofs.Common.{◌∙◌, sym, ap, rules}
use Rattle.chi_types.specs.declared.ty.Ty.{out-Ty}
use Rattle.chi_types.specs.declared.ty.Ty.TheVariants as ty
use Rattle.chi_gen_parts.proofs.AddedTargets.{add_no_step, add_list, add_dictionary, add_tuple}
use Rattle.chi_gen_parts.proofs.Sounding.{leads_into_list, leads_into_dictionary, leads_at_part, part_there, no_index, no_number}
use Rattle.chi_gen_parts.proofs.targets.+into.Goals as goal

pub into-returns-in_default : goal.into-returns-in_default
into-returns-in_default t c = add_no_step (out-Ty c.args.ty.now) c.args.steps.now c.args.code.now.items c.in_default.ensures.cases

pub into_index-returns-in_ok-into-in-ListOf : goal.into_index-returns-in_ok-into-in-ListOf
into_index-returns-in_ok-into-in-ListOf t c =
    add_list c.args.ty.now c.get.result.now c.args.e.now c.args.steps.now c.args.code.now.items _ _ _ (c.in-ListOf.is ∙ ap ty.ListOf (sym c.get.ensures.same)) c.in_ok-expression-in-ListOf.ensures c.in_ok-put-in-ListOf.ensures c.in_ok-into-in-ListOf.ensures

pub into_index-returns-in_ok-into-in-DictOf : goal.into_index-returns-in_ok-into-in-DictOf
into_index-returns-in_ok-into-in-DictOf t c =
    add_dictionary c.args.ty.now _ c.get-in-DictOf.result.now c.args.e.now c.args.steps.now c.args.code.now.items _ _ _ (c.in-DictOf.is ∙ ap (ty.DictOf c.in-DictOf.field-0) (sym c.get-in-DictOf.ensures.same)) c.in_ok-expression-in-DictOf.ensures c.in_ok-put-in-DictOf.ensures c.in_ok-into-in-DictOf.ensures

pub into_part-returns : goal.into_part-returns
into_part-returns t c =
    add_tuple c.args.ty.now c.as_slice-parts.result.now c.part_of-part.result.now c.args.number c.args.steps.now c.args.code.now.items _ _ (c.in-TupleOf.is ∙ ap ty.TupleOf (sym c.as_slice-parts.ensures.same)) c.part_of-part.ensures
    c.in_ok-put-in-TupleOf.ensures c.in_ok-into-in-TupleOf.ensures

pub into_part-part_of-part-requires : goal.into_part-part_of-part-requires
into_part-part_of-part-requires t c = part_there c.args.ty.now c.as_slice-parts.result.now c.args.number c.args.steps.now c.requires (c.in-TupleOf.is ∙ ap ty.TupleOf (sym c.as_slice-parts.ensures.same))

pub into_part-into-requires : goal.into_part-into-requires
into_part-into-requires t c =
    (search rules, leads_at_part c.args.ty.now c.as_slice-parts.result.now c.part_of-part.result.now c.args.number c.args.steps.now c.requires (c.in-TupleOf.is ∙ ap ty.TupleOf (sym c.as_slice-parts.ensures.same)) c.part_of-part.ensures)

pub into_index-into-requires : goal.into_index-into-requires
into_index-into-requires t c = (search rules, leads_into_list c.args.ty.now c.get.result.now c.args.e.now c.args.steps.now c.requires (c.in-ListOf.is ∙ ap ty.ListOf (sym c.get.ensures.same)))

pub into_index-into-requires-in-DictOf : goal.into_index-into-requires-in-DictOf
into_index-into-requires-in-DictOf t c =
    (search rules, leads_into_dictionary c.args.ty.now c.in-DictOf.field-0 c.get-in-DictOf.result.now c.args.e.now c.args.steps.now c.requires (c.in-DictOf.is ∙ ap (ty.DictOf c.in-DictOf.field-0) (sym c.get-in-DictOf.ensures.same)))

pub into_index-unreachable-requires : goal.into_index-unreachable-requires
into_index-unreachable-requires t c = no_index c.args.ty.now c.args.e.now c.args.steps.now c.requires c.in_default.not-ListOf c.in_default.not-DictOf

pub into_part-unreachable-requires : goal.into_part-unreachable-requires
into_part-unreachable-requires t c = no_number c.args.ty.now c.args.number c.args.steps.now c.requires c.in_default.not-TupleOf
