use Rattle.std.proofs.Common.{◌≡◌, ◌+◌, ◌∙◌, length, ap, sym, refl, arith, rules, true, false}
use Rattle.std.proofs.lemmas.Grind.{common_steps}
use Rattle.chi_core.specs.declared.statement.CStat.{the_lemmas}
use Rattle.chi_core.specs.declared.statement.CAlt.TheVariants as alternative
use Rattle.chi_core.specs.declared.statement.CStat.TheVariants as s
use Rattle.chi_code.specs.Sizes.{block_size}
use Rattle.chi_code.specs.StatementLayout.{looping, walking}
use Rattle.chi_gen_sizes.specs.Measuring.{AltsMeasured, BlockMeasured, BranchesMeasured}
use Rattle.chi_gen_sizes.proofs.MeasuredBlocks.{block_total, branches_total, fronts_total, block_long, branches_long, alternatives_long, at_statement, at_branch, at_alternative, tests_of, otherwise_of, while_of, for_of, select_of, branch_of, body_of, unwind_of}
use Rattle.chi_gen_parts.specs.Added.{walks_in}
use Rattle.chi_gen.proofs.AddedStatements.{as_stat}
use Rattle.chi_gen.proofs.AddedBlocks.{add_no_statement, add_next_statement, add_while, add_for, add_test, add_no_test, add_next_test, add_if, add_guarded_body, add_unwind_bodies, add_no_body, add_next_body, add_select}
use Rattle.chi_gen.specs.Soundness.{in_loop, SoundAt, SoundBranchAt, SoundAlternativeAt}
use Rattle.chi_gen.proofs.Sounding.{item, all_same, both_same, sound_branches, sound_otherwise, sound_while, sound_for, sound_break, sound_continue, sound_select, sound_body, sound_unwind}
use Rattle.chi_gen.proofs.statements.+statement.Goals as goal

pub block-loop-i-init : goal.block-loop-i-init
block-loop-i-init t c = add_no_statement c.args.here.now.process c.args.here.now.slots.now c.args.here.now.near c.args.code.now.items

pub block-loop-i-preserved : goal.block-loop-i-preserved
block-loop-i-preserved t c =
    add_next_statement c.args.here.now.process c.args.here.now.slots.now c.args.here.now.near c.args.xs.now c.loop-i.i c.index-xs-i.result _ _ _ (omega arith) c.index-xs-i.is c.loop-i.invariant c.in_ok-statement.ensures

pub block-bounds-sizes-i : goal.block-bounds-sizes-i
block-bounds-sizes-i t c = omega (arith, block_long _ _ _ c.requires.measured)

pub block-statement-requires : goal.block-statement-requires
block-statement-requires t c = (first_of (search (rules, the_lemmas), grind (arith, common_steps, the_lemmas)), (item (SoundAt c.args.here.now.slots.now (in_loop c.args.here.now.near)) c.args.xs.now c.loop-i.i c.index-xs-i.result c.requires.sound (omega arith) c.index-xs-i.is, at_statement (walks_in c.args.here.now.near) c.args.xs.now c.args.sizes.now c.loop-i.i c.index-xs-i.result c.index-sizes-i.result c.requires.measured (omega arith) c.index-xs-i.is c.index-sizes-i.is))

pub branches-loop-i-init : goal.branches-loop-i-init
branches-loop-i-init t c = add_no_test c.args.here.now.process c.args.here.now.slots.now c.args.here.now.near c.args.end c.args.code.now.items

pub branches-loop-i-preserved : goal.branches-loop-i-preserved
branches-loop-i-preserved t c =
    add_next_test c.args.here.now.process c.args.here.now.slots.now c.args.here.now.near c.args.end c.args.xs.now c.loop-i.i c.index-xs-i.result _ _ _ (omega arith) c.index-xs-i.is c.loop-i.invariant c.in_ok-branch.ensures

pub branches-bounds-sizes-i : goal.branches-bounds-sizes-i
branches-bounds-sizes-i t c = omega (arith, branches_long _ _ _ c.requires.measured)

pub branches-branch-here-requires : goal.branches-branch-here-requires
branches-branch-here-requires t c = (first_of (search (rules, the_lemmas), grind (arith, common_steps, the_lemmas)), (item (SoundBranchAt c.args.here.now.slots.now (in_loop c.args.here.now.near)) c.args.xs.now c.loop-i.i c.index-xs-i.result c.requires.sound (omega arith) c.index-xs-i.is, at_branch (walks_in c.args.here.now.near) c.args.xs.now c.args.sizes.now c.loop-i.i c.index-xs-i.result c.index-sizes-i.result c.requires.measured (omega arith) c.index-xs-i.is c.index-sizes-i.is))

pub bodies-loop-i-init : goal.bodies-loop-i-init
bodies-loop-i-init t c = add_no_body c.args.here.now.process c.args.here.now.slots.now c.args.here.now.near c.args.end c.args.code.now.items

pub bodies-loop-i-preserved : goal.bodies-loop-i-preserved
bodies-loop-i-preserved t c =
    add_next_body c.args.here.now.process c.args.here.now.slots.now c.args.here.now.near c.args.end c.args.xs.now c.loop-i.i c.index-xs-i.result _ _ _ (omega arith) c.index-xs-i.is c.loop-i.invariant c.in_ok-body.ensures

pub bodies-bounds-sizes-i : goal.bodies-bounds-sizes-i
bodies-bounds-sizes-i t c = omega (arith, alternatives_long _ _ _ c.requires.measured)

pub bodies-body-requires : goal.bodies-body-requires
bodies-body-requires t c = (first_of (search (rules, the_lemmas), grind (arith, common_steps, the_lemmas)), (item (SoundAlternativeAt c.args.here.now.slots.now (in_loop c.args.here.now.near)) c.args.xs.now c.loop-i.i c.index-xs-i.result c.requires.sound (omega arith) c.index-xs-i.is, at_alternative (walks_in c.args.here.now.near) c.args.xs.now c.args.sizes.now c.loop-i.i c.index-xs-i.result c.index-sizes-i.result c.requires.measured (omega arith) c.index-xs-i.is c.index-sizes-i.is))

pub statement-choose-requires : goal.statement-choose-requires
statement-choose-requires t c = (first_of (search (rules, the_lemmas), grind (arith, common_steps, the_lemmas)), (sound_branches c.args.here.now.slots.now (in_loop c.args.here.now.near) c.args.x.now c.requires.sound _ _ _ c.in-If.is, (sound_otherwise c.args.here.now.slots.now (in_loop c.args.here.now.near) c.args.x.now c.requires.sound _ _ _ c.in-If.is, (tests_of (walks_in c.args.here.now.near) c.args.x.now c.args.sizes.now c.requires.measured _ _ _ c.in-If.is, otherwise_of (walks_in c.args.here.now.near) c.args.x.now c.args.sizes.now c.requires.measured _ _ _ c.in-If.is))))

pub statement-repeat-requires : goal.statement-repeat-requires
statement-repeat-requires t c = (first_of (search (rules, the_lemmas), grind (arith, common_steps, the_lemmas)), (sound_while c.args.here.now.slots.now (in_loop c.args.here.now.near) c.args.x.now c.requires.sound _ _ _ c.in-While.is, while_of (walks_in c.args.here.now.near) c.args.x.now c.args.sizes.now c.requires.measured _ _ _ c.in-While.is))

pub statement-walk-requires : goal.statement-walk-requires
statement-walk-requires t c = (first_of (search (rules, the_lemmas), grind (arith, common_steps, the_lemmas)), (sound_for c.args.here.now.slots.now (in_loop c.args.here.now.near) c.args.x.now c.requires.sound _ _ _ _ c.in-For.is, for_of (walks_in c.args.here.now.near) c.args.x.now c.args.sizes.now c.requires.measured _ _ _ _ c.in-For.is))

pub statement-leave-requires : goal.statement-leave-requires
statement-leave-requires t c = sound_break c.args.here.now.slots.now (in_loop c.args.here.now.near) c.args.x.now c.requires.sound _ c.in-Break.is

pub statement-again-requires : goal.statement-again-requires
statement-again-requires t c = sound_continue c.args.here.now.slots.now (in_loop c.args.here.now.near) c.args.x.now c.requires.sound _ c.in-Continue.is

pub statement-select-requires : goal.statement-select-requires
statement-select-requires t c = (first_of (search (rules, the_lemmas), grind (arith, common_steps, the_lemmas)), (sound_select c.args.here.now.slots.now (in_loop c.args.here.now.near) c.args.x.now c.requires.sound _ _ c.in-Select.is, select_of (walks_in c.args.here.now.near) c.args.x.now c.args.sizes.now c.requires.measured _ _ c.in-Select.is))

pub choose-returns : goal.choose-returns
choose-returns t c =
    let tests : BranchesMeasured (walks_in c.args.here.now.near) c.as_slice-tests.result.now c.as_slice-parts.result.now = both_same (BranchesMeasured (walks_in c.args.here.now.near)) _ _ _ _ (sym c.as_slice-tests.ensures.same) (sym c.as_slice-parts.ensures.same) c.requires.measured in
    let last : BlockMeasured (walks_in c.args.here.now.near) c.as_slice-otherwise.result.now c.as_slice-others.result.now = both_same (BlockMeasured (walks_in c.args.here.now.near)) _ _ _ _ (sym c.as_slice-otherwise.ensures.same) (sym c.as_slice-others.ensures.same) c.requires.measured_last in
    as_stat c.args.here.now.process c.args.here.now.slots.now c.args.here.now.near c.args.code.now.items _ _ _ (λ j. s.If c.args.line (sym c.as_slice-tests.ensures.same j) (sym c.as_slice-otherwise.ensures.same j))
    (add_if c.args.here.now.process c.args.here.now.slots.now c.args.here.now.near c.args.code.now.items c.args.line _ c.as_slice-tests.result.now c.as_slice-otherwise.result.now _ _ _ c.in_ok-turn.ensures
    (omega (arith, c.in_ok-end.ensures, c.place.ensures, c.in_ok-size.ensures, c.in_ok-total_of.ensures, c.in_ok-total_of-2.ensures, branches_total _ _ _ tests, block_total _ _ _ last))
    c.in_ok-branches.ensures c.in_ok-block.ensures)

pub choose-branches-requires : goal.choose-branches-requires
choose-branches-requires t c = (first_of (search (rules, the_lemmas), grind (arith, common_steps, the_lemmas)), (all_same (SoundBranchAt c.args.here.now.slots.now (in_loop c.args.here.now.near)) _ _ (sym c.as_slice-tests.ensures.same) c.requires.first, both_same (BranchesMeasured (walks_in c.args.here.now.near)) _ _ _ _ (sym c.as_slice-tests.ensures.same) (sym c.as_slice-parts.ensures.same) c.requires.measured))

pub choose-block-requires : goal.choose-block-requires
choose-block-requires t c = (first_of (search (rules, the_lemmas), grind (arith, common_steps, the_lemmas)), (all_same (SoundAt c.args.here.now.slots.now (in_loop c.args.here.now.near)) _ _ (sym c.as_slice-otherwise.ensures.same) c.requires.last, both_same (BlockMeasured (walks_in c.args.here.now.near)) _ _ _ _ (sym c.as_slice-otherwise.ensures.same) (sym c.as_slice-others.ensures.same) c.requires.measured_last))

pub branch-returns : goal.branch-returns
branch-returns t c =
    let inner : BlockMeasured (walks_in c.args.here.now.near) c.as_slice-inner.result.now c.as_slice-parts.result.now = both_same (BlockMeasured (walks_in c.args.here.now.near)) _ _ _ _ (sym c.as_slice-inner.ensures.same) (sym c.as_slice-parts.ensures.same) (branch_of (walks_in c.args.here.now.near) c.args.x.now c.args.sizes.now c.requires.measured) in
    add_test c.args.here.now.process c.args.here.now.slots.now c.args.here.now.near c.args.end _ c.args.x.now c.as_slice-inner.result.now c.args.code.now.items _ _ _ _ c.in_ok-expression.ensures c.as_slice-inner.ensures.same
    (omega (arith, c.in_ok-next.ensures, c.in_ok-plus.ensures, c.in_ok-total_of.ensures, block_total _ _ _ inner)) c.in_ok-put.ensures c.in_ok-block.ensures c.in_ok-put-2.ensures

pub branch-block-requires : goal.branch-block-requires
branch-block-requires t c = (first_of (search (rules, the_lemmas), grind (arith, common_steps, the_lemmas)), (all_same (SoundAt c.args.here.now.slots.now (in_loop c.args.here.now.near)) _ _ (sym c.as_slice-inner.ensures.same) c.requires.sound, both_same (BlockMeasured (walks_in c.args.here.now.near)) _ _ _ _ (sym c.as_slice-inner.ensures.same) (sym c.as_slice-parts.ensures.same) (branch_of (walks_in c.args.here.now.near) c.args.x.now c.args.sizes.now c.requires.measured)))

pub repeat-returns : goal.repeat-returns
repeat-returns t c =
    let inner : BlockMeasured false c.as_slice-xs.result.now c.as_slice-sizes.result.now = both_same (BlockMeasured false) _ _ _ _ (sym c.as_slice-xs.ensures.same) (sym c.as_slice-sizes.ensures.same) c.requires.measured in
    let end : c.in_ok-end.end ≡ length c.expression.new.code.items + 1 + (block_size c.as_slice-xs.result.now false + 1) = omega (arith, c.in_ok-end.ensures, c.in_ok-plus.ensures, c.in_ok-total_of.ensures, block_total _ _ _ inner) in
    as_stat c.args.here.now.process c.args.here.now.slots.now c.args.here.now.near c.args.code.now.items _ _ _ (ap (s.While c.args.line c.args.test.now) (sym c.as_slice-xs.ensures.same))
    (add_while c.args.here.now.process c.args.here.now.slots.now c.args.here.now.near c.args.code.now.items c.args.line c.args.test.now c.as_slice-xs.result.now _ _ _ _ _ _ c.in_ok-turn.ensures c.in_ok-expression.ensures
    (λ j. looping (c.place-top.ensures j) (end j)) c.in_ok-put.ensures c.in_ok-block.ensures c.in_ok-put-2.ensures)

pub repeat-block-requires : goal.repeat-block-requires
repeat-block-requires t c = (first_of (search (rules, the_lemmas), grind (arith, common_steps, the_lemmas)), (all_same (SoundAt c.args.here.now.slots.now true) _ _ (sym c.as_slice-xs.ensures.same) c.requires.sound, both_same (BlockMeasured false) _ _ _ _ (sym c.as_slice-xs.ensures.same) (sym c.as_slice-sizes.ensures.same) c.requires.measured))

pub walk-returns : goal.walk-returns
walk-returns t c =
    let inner : BlockMeasured true c.as_slice-xs.result.now c.as_slice-sizes.result.now = both_same (BlockMeasured true) _ _ _ _ (sym c.as_slice-xs.ensures.same) (sym c.as_slice-sizes.ensures.same) c.requires.measured in
    let end : c.in_ok-end.end ≡ length c.turn-2.new.code.items + 1 + (block_size c.as_slice-xs.result.now true + 1) = omega (arith, c.in_ok-end.ensures, c.in_ok-plus.ensures, c.in_ok-total_of.ensures, block_total _ _ _ inner) in
    as_stat c.args.here.now.process c.args.here.now.slots.now c.args.here.now.near c.args.code.now.items _ _ _ (ap (s.For c.args.line c.args.names.now c.args.e.now) (sym c.as_slice-xs.ensures.same))
    (add_for c.args.here.now.process c.args.here.now.slots.now c.args.here.now.near c.args.code.now.items c.args.line c.args.names.now _ c.args.e.now c.as_slice-xs.result.now _ _ _ _ _ _ _ _ c.in_ok-turn.ensures c.in_ok-expression.ensures c.in_ok-put.ensures c.in_ok-turn-2.ensures
    (λ j. walking (c.place-top.ensures j) (end j)) c.in_ok-slots_copy.ensures c.in_ok-put-2.ensures c.in_ok-block.ensures c.in_ok-put-3.ensures)

pub walk-block-requires : goal.walk-block-requires
walk-block-requires t c = (first_of (search (rules, the_lemmas), grind (arith, common_steps, the_lemmas)), (all_same (SoundAt c.args.here.now.slots.now true) _ _ (sym c.as_slice-xs.ensures.same) c.requires.sound, both_same (BlockMeasured true) _ _ _ _ (sym c.as_slice-xs.ensures.same) (sym c.as_slice-sizes.ensures.same) c.requires.measured))

pub select-returns : goal.select-returns
select-returns t c =
    let inner : AltsMeasured (walks_in c.args.here.now.near) c.as_slice-xs.result.now c.as_slice-sizes.result.now = both_same (AltsMeasured (walks_in c.args.here.now.near)) _ _ _ _ (sym c.as_slice-xs.ensures.same) (sym c.as_slice-sizes.ensures.same) c.requires.measured in
    as_stat c.args.here.now.process c.args.here.now.slots.now c.args.here.now.near c.args.code.now.items _ _ _ (ap (s.Select c.args.line) (sym c.as_slice-xs.ensures.same))
    (add_select c.args.here.now.process c.args.here.now.slots.now c.args.here.now.near c.args.code.now.items c.args.line _ _ c.as_slice-xs.result.now (walks_in c.args.here.now.near) _ _ _ _ refl c.in_ok-turn.ensures
    (omega (arith, c.in_ok-first.ensures, c.in_ok-total_of.ensures, fronts_total _ _ _ inner)) c.in_ok-end.ensures c.in_ok-put.ensures c.in_ok-bodies.ensures)

pub select-fronts-requires-clause-sound : goal.select-fronts-requires-clause-sound
select-fronts-requires-clause-sound t c = all_same (SoundAlternativeAt c.args.here.now.slots.now (in_loop c.args.here.now.near)) _ _ (sym c.as_slice-xs.ensures.same) c.requires.sound

pub select-fronts-requires-clause-measured : goal.select-fronts-requires-clause-measured
select-fronts-requires-clause-measured t c = both_same (AltsMeasured (walks_in c.args.here.now.near)) _ _ _ _ (sym c.as_slice-xs.ensures.same) (sym c.as_slice-sizes.ensures.same) c.requires.measured

pub select-bodies-requires : goal.select-bodies-requires
select-bodies-requires t c = (first_of (search (rules, the_lemmas), grind (arith, common_steps, the_lemmas)), (all_same (SoundAlternativeAt c.args.here.now.slots.now (in_loop c.args.here.now.near)) _ _ (sym c.as_slice-xs.ensures.same) c.requires.sound, both_same (AltsMeasured (walks_in c.args.here.now.near)) _ _ _ _ (sym c.as_slice-xs.ensures.same) (sym c.as_slice-sizes.ensures.same) c.requires.measured))

pub body-returns-in_ok-put-in-Guarded : goal.body-returns-in_ok-put-in-Guarded
body-returns-in_ok-put-in-Guarded t c =
    add_guarded_body c.args.here.now.process c.args.here.now.slots.now c.args.here.now.near c.args.end c.args.x.now _ _ c.as_slice-inner.result.now c.args.code.now.items _ _
    (c.in-Guarded.is ∙ ap (alternative.Guarded c.in-Guarded.field-0 c.in-Guarded.field-1) (sym c.as_slice-inner.ensures.same)) c.in_ok-block-in-Guarded.ensures c.in_ok-put-in-Guarded.ensures

pub body-returns-in_ok-bodies-in-Unwind : goal.body-returns-in_ok-bodies-in-Unwind
body-returns-in_ok-bodies-in-Unwind t c =
    add_unwind_bodies c.args.here.now.process c.args.here.now.slots.now c.args.here.now.near c.args.end c.args.x.now _ _ c.as_slice-inner-in-Unwind.result.now c.args.code.now.items _
    (c.in-Unwind.is ∙ ap (alternative.Unwind c.in-Unwind.field-0 c.in-Unwind.field-1) (sym c.as_slice-inner-in-Unwind.ensures.same)) c.in_ok-bodies-in-Unwind.ensures

pub body-block-requires : goal.body-block-requires
body-block-requires t c = (first_of (search (rules, the_lemmas), grind (arith, common_steps, the_lemmas)), (all_same (SoundAt c.args.here.now.slots.now (in_loop c.args.here.now.near)) _ _ (sym c.as_slice-inner.ensures.same) (sound_body c.args.here.now.slots.now (in_loop c.args.here.now.near) c.args.x.now c.requires.sound _ _ _ c.in-Guarded.is), both_same (BlockMeasured (walks_in c.args.here.now.near)) _ _ _ _ (sym c.as_slice-inner.ensures.same) (sym c.as_slice-parts.ensures.same) (body_of (walks_in c.args.here.now.near) c.args.sizes.now c.args.x.now _ _ _ c.requires.measured c.in-Guarded.is)))

pub body-bodies-requires : goal.body-bodies-requires
body-bodies-requires t c = (first_of (search (rules, the_lemmas), grind (arith, common_steps, the_lemmas)), (all_same (SoundAlternativeAt c.args.here.now.slots.now (in_loop c.args.here.now.near)) _ _ (sym c.as_slice-inner-in-Unwind.ensures.same) (sound_unwind c.args.here.now.slots.now (in_loop c.args.here.now.near) c.args.x.now c.requires.sound _ _ _ c.in-Unwind.is), both_same (AltsMeasured (walks_in c.args.here.now.near)) _ _ _ _ (sym c.as_slice-inner-in-Unwind.ensures.same) (sym c.as_slice-parts-in-Unwind.ensures.same) (unwind_of (walks_in c.args.here.now.near) c.args.sizes.now c.args.x.now _ _ _ c.requires.measured c.in-Unwind.is)))
