use Rattle.std.proofs.Common.{◌∙◌, [], arith, ap, refl, subst, sym}
use Rattle.chi_core.specs.declared.statement.CAlt.TheVariants as alt
use Rattle.chi_core.specs.declared.statement.CStat.TheVariants as s
use Rattle.chi_core.specs.declared.statement.CStat.{out-CStat}
use Rattle.chi_gen_sizes.specs.Measuring.{BlockMeasured, no_statement, BranchesMeasured, no_branch, AltsMeasured, no_alternative}
use Rattle.chi_gen_sizes.proofs.MeasuredBlocks.{next_statement, next_branch, next_alternative, whole_measured, if_measured, while_measured, for_measured, select_measured, branch_measured, guarded_measured, unwind_measured}
use Rattle.chi_gen_sizes.proofs.MeasuredStatements.{size_declare, size_assign, size_break, size_continue, size_pass, size_return, size_exit, size_write, size_run, size_start, size_finish}
use Rattle.chi_gen_sizes.proofs.measure_statements.+statement.Goals as goal

pub block-loop-x-init : goal.block-loop-x-init
block-loop-x-init t c = subst (BlockMeasured c.args.walks []) (sym c.new-done.ensures.items) (no_statement c.args.walks)

pub block-loop-x-preserved : goal.block-loop-x-preserved
block-loop-x-preserved t c = next_statement c.args.walks c.args.xs.now _ _ c.loop-x.x-index c.x-item.result _ (omega arith) c.x-item.is c.loop-x.invariant c.in_ok-one.ensures c.in_ok-push.ensures.items

pub branches-loop-x-init : goal.branches-loop-x-init
branches-loop-x-init t c = subst (BranchesMeasured c.args.walks []) (sym c.new-done.ensures.items) (no_branch c.args.walks)

pub branches-loop-x-preserved : goal.branches-loop-x-preserved
branches-loop-x-preserved t c = next_branch c.args.walks c.args.xs.now _ _ c.loop-x.x-index c.x-item.result _ (omega arith) c.x-item.is c.loop-x.invariant c.in_ok-one.ensures c.in_ok-push.ensures.items

pub alternatives-loop-x-init : goal.alternatives-loop-x-init
alternatives-loop-x-init t c = subst (AltsMeasured c.args.walks []) (sym c.new-done.ensures.items) (no_alternative c.args.walks)

pub alternatives-loop-x-preserved : goal.alternatives-loop-x-preserved
alternatives-loop-x-preserved t c = next_alternative c.args.walks c.args.xs.now _ _ c.loop-x.x-index c.x-item.result _ (omega arith) c.x-item.is c.loop-x.invariant c.in_ok-one.ensures c.in_ok-push.ensures.items

pub statement-returns-in_ok-whole-in-Declare : goal.statement-returns-in_ok-whole-in-Declare
statement-returns-in_ok-whole-in-Declare t c =
    whole_measured c.args.walks c.args.x.now _ _ _ (ap out-CStat c.in-Declare.is ∙ s.outs-Declare c.in-Declare.field-0 c.in-Declare.field-1 c.in-Declare.e) refl c.in_ok-whole-in-Declare.ensures
    (omega (arith, c.in_ok-size-in-Declare.ensures, c.in_ok-size_of-in-Declare.ensures, size_declare c.args.x.now c.args.walks c.in-Declare.field-0 c.in-Declare.field-1 c.in-Declare.e c.in-Declare.is))

pub statement-returns-in_ok-whole-in-Assign : goal.statement-returns-in_ok-whole-in-Assign
statement-returns-in_ok-whole-in-Assign t c =
    whole_measured c.args.walks c.args.x.now _ _ _ (ap out-CStat c.in-Assign.is ∙ s.outs-Assign c.in-Assign.field-0 c.in-Assign.targets c.in-Assign.es) refl c.in_ok-whole-in-Assign.ensures
    (omega (arith, c.in_ok-size-in-Assign.ensures, size_assign c.args.x.now c.args.walks c.in-Assign.field-0 c.in-Assign.targets c.in-Assign.es c.in-Assign.is))

pub statement-returns-in_ok-whole-in-Break : goal.statement-returns-in_ok-whole-in-Break
statement-returns-in_ok-whole-in-Break t c =
    whole_measured c.args.walks c.args.x.now _ _ _ (ap out-CStat c.in-Break.is ∙ s.outs-Break c.in-Break.field-0) refl c.in_ok-whole-in-Break.ensures
    (c.leaving_of.ensures ∙ sym (size_break c.args.x.now c.args.walks c.in-Break.field-0 c.in-Break.is))

pub statement-returns-in_ok-whole-in-Continue : goal.statement-returns-in_ok-whole-in-Continue
statement-returns-in_ok-whole-in-Continue t c =
    whole_measured c.args.walks c.args.x.now _ _ _ (ap out-CStat c.in-Continue.is ∙ s.outs-Continue c.in-Continue.field-0) refl c.in_ok-whole-in-Continue.ensures
    (omega (arith, size_continue c.args.x.now c.args.walks c.in-Continue.field-0 c.in-Continue.is))

pub statement-returns-in_ok-whole-in-Pass : goal.statement-returns-in_ok-whole-in-Pass
statement-returns-in_ok-whole-in-Pass t c =
    whole_measured c.args.walks c.args.x.now _ _ _ (ap out-CStat c.in-Pass.is ∙ s.outs-Pass c.in-Pass.field-0) refl c.in_ok-whole-in-Pass.ensures
    (omega (arith, size_pass c.args.x.now c.args.walks c.in-Pass.field-0 c.in-Pass.is))

pub statement-returns-in_ok-whole-in-Return : goal.statement-returns-in_ok-whole-in-Return
statement-returns-in_ok-whole-in-Return t c =
    whole_measured c.args.walks c.args.x.now _ _ _ (ap out-CStat c.in-Return.is ∙ s.outs-Return c.in-Return.field-0 c.in-Return.e) refl c.in_ok-whole-in-Return.ensures
    (omega (arith, c.in_ok-size-in-Return.ensures, c.in_ok-size_of-in-Return.ensures, size_return c.args.x.now c.args.walks c.in-Return.field-0 c.in-Return.e c.in-Return.is))

pub statement-returns-in_ok-whole-in-Exit : goal.statement-returns-in_ok-whole-in-Exit
statement-returns-in_ok-whole-in-Exit t c =
    whole_measured c.args.walks c.args.x.now _ _ _ (ap out-CStat c.in-Exit.is ∙ s.outs-Exit c.in-Exit.field-0 c.in-Exit.value) refl c.in_ok-whole-in-Exit.ensures
    (omega (arith, c.in_ok-size-in-Exit.ensures, size_exit c.args.x.now c.args.walks c.in-Exit.field-0 c.in-Exit.value c.in-Exit.is))

pub statement-returns-in_ok-whole-in-Write : goal.statement-returns-in_ok-whole-in-Write
statement-returns-in_ok-whole-in-Write t c =
    whole_measured c.args.walks c.args.x.now _ _ _ (ap out-CStat c.in-Write.is ∙ s.outs-Write c.in-Write.field-0 c.in-Write.field-1 c.in-Write.es) refl c.in_ok-whole-in-Write.ensures
    (omega (arith, c.in_ok-size-in-Write.ensures, c.in_ok-sizes_of-in-Write.ensures, size_write c.args.x.now c.args.walks c.in-Write.field-0 c.in-Write.field-1 c.in-Write.es c.in-Write.is))

pub statement-returns-in_ok-whole-in-Finish : goal.statement-returns-in_ok-whole-in-Finish
statement-returns-in_ok-whole-in-Finish t c =
    whole_measured c.args.walks c.args.x.now _ _ _ (ap out-CStat c.in-Finish.is ∙ s.outs-Finish c.in-Finish.field-0 c.in-Finish.es) refl c.in_ok-whole-in-Finish.ensures
    (omega (arith, c.in_ok-size-in-Finish.ensures, c.in_ok-sizes_of-in-Finish.ensures, size_finish c.args.x.now c.args.walks c.in-Finish.field-0 c.in-Finish.es c.in-Finish.is))

pub statement-returns-in_ok-whole-in-Run : goal.statement-returns-in_ok-whole-in-Run
statement-returns-in_ok-whole-in-Run t c =
    let is = c.in-Run.is ∙ ap (s.Run c.in-Run.field-0) (sym c.as_slice-inner-in-Run.ensures.same) in
    whole_measured c.args.walks c.args.x.now _ _ _ (ap out-CStat is ∙ s.outs-Run _ _) refl c.in_ok-whole-in-Run.ensures
    (omega (arith, c.in_ok-size-in-Run.ensures, c.in_ok-elements_of-in-Run.ensures, size_run c.args.x.now c.args.walks _ _ is))

pub statement-returns-in_ok-whole-in-Start : goal.statement-returns-in_ok-whole-in-Start
statement-returns-in_ok-whole-in-Start t c =
    let is = c.in-Start.is ∙ ap (s.Start c.in-Start.field-0) (sym c.as_slice-inner-in-Start.ensures.same) in
    whole_measured c.args.walks c.args.x.now _ _ _ (ap out-CStat is ∙ s.outs-Start _ _) refl c.in_ok-whole-in-Start.ensures
    (omega (arith, c.in_ok-size-in-Start.ensures, c.in_ok-elements_of-in-Start.ensures, size_start c.args.x.now c.args.walks _ _ is))

pub statement-returns-in_ok-choice-in-If : goal.statement-returns-in_ok-choice-in-If
statement-returns-in_ok-choice-in-If t c =
    if_measured c.args.walks c.args.x.now _ c.in-If.field-0 c.as_slice-tests.result.now c.as_slice-otherwise.result.now _ _
    (c.in-If.is ∙ (λ j. s.If c.in-If.field-0 (sym c.as_slice-tests.ensures.same j) (sym c.as_slice-otherwise.ensures.same j))) c.in_ok-parts-in-If.ensures c.in_ok-others-in-If.ensures
    c.in_ok-choice-in-If.ensures.own c.in_ok-choice-in-If.ensures.within c.in_ok-choice-in-If.ensures.last

pub statement-returns-in_ok-around-in-While : goal.statement-returns-in_ok-around-in-While
statement-returns-in_ok-around-in-While t c =
    while_measured c.args.walks c.args.x.now _ c.in-While.field-0 c.in-While.test c.as_slice-inner.result.now _ _ (c.in-While.is ∙ ap (s.While c.in-While.field-0 c.in-While.test) (sym c.as_slice-inner.ensures.same))
    c.in_ok-parts-in-While.ensures (omega (arith, c.in_ok-more-in-While.ensures, c.in_ok-size_of-in-While.ensures)) c.in_ok-around-in-While.ensures.own c.in_ok-around-in-While.ensures.within

pub statement-returns-in_ok-around-in-For : goal.statement-returns-in_ok-around-in-For
statement-returns-in_ok-around-in-For t c =
    for_measured c.args.walks c.args.x.now _ c.in-For.field-0 c.in-For.field-1 c.in-For.e c.as_slice-inner-in-For.result.now _ _
    (c.in-For.is ∙ ap (s.For c.in-For.field-0 c.in-For.field-1 c.in-For.e) (sym c.as_slice-inner-in-For.ensures.same))
    c.in_ok-parts-in-For.ensures (omega (arith, c.in_ok-more-in-For.ensures, c.in_ok-size_of-in-For.ensures)) c.in_ok-around-in-For.ensures.own c.in_ok-around-in-For.ensures.within

pub statement-returns-in_ok-select-in-Select : goal.statement-returns-in_ok-select-in-Select
statement-returns-in_ok-select-in-Select t c =
    select_measured c.args.walks c.args.x.now _ c.in-Select.field-0 c.as_slice-xs.result.now _ (c.in-Select.is ∙ ap (s.Select c.in-Select.field-0) (sym c.as_slice-xs.ensures.same)) c.in_ok-parts-in-Select.ensures
    c.in_ok-select-in-Select.ensures.own c.in_ok-select-in-Select.ensures.within

pub branch-returns : goal.branch-returns
branch-returns t c =
    branch_measured c.args.walks c.args.x.now _ c.as_slice-inner.result.now _ _ c.as_slice-inner.ensures.same c.in_ok-parts.ensures (omega (arith, c.in_ok-more.ensures, c.in_ok-size_of.ensures)) c.in_ok-around.ensures.own c.in_ok-around.ensures.within

pub alternative-returns-in_ok-guarded-in-Guarded : goal.alternative-returns-in_ok-guarded-in-Guarded
alternative-returns-in_ok-guarded-in-Guarded t c =
    guarded_measured c.args.walks c.args.x.now _ c.in-Guarded.guard c.in-Guarded.comm c.as_slice-body.result.now _ _ (c.in-Guarded.is ∙ ap (alt.Guarded c.in-Guarded.guard c.in-Guarded.comm) (sym c.as_slice-body.ensures.same))
    c.in_ok-parts-in-Guarded.ensures (omega (arith, c.in_ok-size-in-Guarded.ensures, c.in_ok-guard_of-in-Guarded.ensures, c.in_ok-comm_of-in-Guarded.ensures))
    c.in_ok-guarded-in-Guarded.ensures.own c.in_ok-guarded-in-Guarded.ensures.apart c.in_ok-guarded-in-Guarded.ensures.within

pub alternative-returns-in_ok-unwound-in-Unwind : goal.alternative-returns-in_ok-unwound-in-Unwind
alternative-returns-in_ok-unwound-in-Unwind t c =
    unwind_measured c.args.walks c.args.x.now _ c.in-Unwind.field-0 c.in-Unwind.e c.as_slice-inner.result.now _ _ (c.in-Unwind.is ∙ ap (alt.Unwind c.in-Unwind.field-0 c.in-Unwind.e) (sym c.as_slice-inner.ensures.same))
    c.in_ok-parts-in-Unwind.ensures (omega (arith, c.in_ok-more-in-Unwind.ensures, c.in_ok-size_of-in-Unwind.ensures))
    c.in_ok-unwound-in-Unwind.ensures.own c.in_ok-unwound-in-Unwind.ensures.apart c.in_ok-unwound-in-Unwind.ensures.within
