use Rattle.std.proofs.Common.{◌∙◌, ◌++◌, ap, sym, arith, rules}
use Rattle.std.proofs.lemmas.Grind.{common_steps}
use Rattle.chi_core.specs.declared.statement.CAlt.{the_lemmas}
use Rattle.chi_core.specs.declared.statement.CAlt.TheVariants as alternative
use Rattle.chi_gen_sizes.specs.Measuring.{AltsMeasured}
use Rattle.chi_gen_sizes.proofs.MeasuredBlocks.{fronts_total, alternatives_long, at_alternative, front_size_of, body_size_of, unwind_of}
use Rattle.chi_gen_parts.specs.Added.{walks_in}
use Rattle.chi_gen.proofs.AddedBlocks.{add_guarded_front, add_unwind_front, add_no_front, add_next_front}
use Rattle.chi_gen.specs.Soundness.{in_loop, SoundAlternativeAt}
use Rattle.chi_gen.proofs.Sounding.{item, all_same, both_same, sound_comm, sound_unwind}
use Rattle.chi_gen.proofs.selects.+front.Goals as goal

pub fronts-loop-i-init : goal.fronts-loop-i-init
fronts-loop-i-init t c = add_no_front c.args.here.now.slots.now (walks_in c.args.here.now.near) c.args.names.now c.args.first c.args.code.now.items

pub fronts-loop-i-preserved : goal.fronts-loop-i-preserved
fronts-loop-i-preserved t c =
    add_next_front c.args.here.now.slots.now (walks_in c.args.here.now.near) c.args.names.now c.args.xs.now c.loop-i.i c.index-xs-i.result c.args.first _ _ c.args.code.now.items _ _ (omega arith) c.index-xs-i.is c.loop-i.invariant c.in_ok-next.ensures

pub fronts-bounds-sizes-i : goal.fronts-bounds-sizes-i
fronts-bounds-sizes-i t c = omega (arith, alternatives_long _ _ _ c.requires.measured)

pub fronts-front-requires : goal.fronts-front-requires
fronts-front-requires t c = (first_of (search (rules, the_lemmas), grind (arith, common_steps, the_lemmas)), (item (SoundAlternativeAt c.args.here.now.slots.now (in_loop c.args.here.now.near)) c.args.xs.now c.loop-i.i c.index-xs-i.result c.requires.sound (omega arith) c.index-xs-i.is, at_alternative (walks_in c.args.here.now.near) c.args.xs.now c.args.sizes.now c.loop-i.i c.index-xs-i.result c.index-sizes-i.result c.requires.measured (omega arith) c.index-xs-i.is c.index-sizes-i.is))

pub front-returns-in_ok-put-in-Unwind-3 : goal.front-returns-in_ok-put-in-Unwind-3
front-returns-in_ok-put-in-Unwind-3 t c =
    let inner : AltsMeasured (walks_in c.args.here.now.near) c.as_slice-xs.result.now c.as_slice-parts.result.now = both_same (AltsMeasured (walks_in c.args.here.now.near)) _ _ _ _ (sym c.as_slice-xs.ensures.same) (sym c.as_slice-parts.ensures.same) (unwind_of (walks_in c.args.here.now.near) c.args.sizes.now c.args.x.now _ _ _ c.requires.measured c.in-Unwind.is) in
    add_unwind_front c.args.here.now.slots.now (walks_in c.args.here.now.near) c.args.names.now c.args.x.now c.in-Unwind.own _ _ c.in-Unwind.e c.as_slice-xs.result.now c.args.first _ _ _ c.args.code.now.items _ _ _ _ _
    (c.in-Unwind.is ∙ ap (alternative.Unwind c.in-Unwind.own c.in-Unwind.e) (sym c.as_slice-xs.ensures.same)) c.in_ok-expression-in-Unwind.ensures c.in_ok-put-in-Unwind.ensures c.place-top.ensures
    (omega (arith, c.in_ok-end-in-Unwind.ensures, c.in_ok-plus-in-Unwind.ensures, c.in_ok-total_of-in-Unwind.ensures, fronts_total _ _ _ inner)) c.in_ok-slots_copy-in-Unwind.ensures c.in_ok-put-in-Unwind-2.ensures
    (c.as_slice-in-Unwind.ensures.value ∙ c.in_ok-inner-in-Unwind.ensures ∙ ap (λ l. c.args.names.now ++ l) c.as_slice.ensures.same) c.in_ok-next-in-Unwind.ensures c.in_ok-put-in-Unwind-3.ensures

pub front-returns-in_ok-offer-in-Guarded : goal.front-returns-in_ok-offer-in-Guarded
front-returns-in_ok-offer-in-Guarded t c =
    add_guarded_front c.args.here.now.slots.now (walks_in c.args.here.now.near) c.args.names.now c.args.x.now _ _ _ c.args.first _ c.args.code.now.items _ c.in-Guarded.is
    (omega (arith, c.in_ok-next-in-Guarded.ensures, body_size_of (walks_in c.args.here.now.near) c.args.sizes.now c.args.x.now _ _ _ c.requires.measured c.in-Guarded.is)) c.in_ok-offer-in-Guarded.ensures

pub front-offer-requires-clause-sound : goal.front-offer-requires-clause-sound
front-offer-requires-clause-sound t c = sound_comm c.args.here.now.slots.now (in_loop c.args.here.now.near) c.args.x.now c.requires.sound _ _ _ c.in-Guarded.is

pub front-offer-requires-clause-known : goal.front-offer-requires-clause-known
front-offer-requires-clause-known t c = omega (arith, c.in_ok-end-in-Guarded.ensures, c.place.ensures, front_size_of (walks_in c.args.here.now.near) c.args.sizes.now c.args.x.now _ _ _ c.requires.measured c.in-Guarded.is)

pub front-fronts-requires : goal.front-fronts-requires
front-fronts-requires t c = (first_of (search (rules, the_lemmas), grind (arith, common_steps, the_lemmas)), (all_same (SoundAlternativeAt c.args.here.now.slots.now (in_loop c.args.here.now.near)) _ _ (sym c.as_slice-xs.ensures.same) (sound_unwind c.args.here.now.slots.now (in_loop c.args.here.now.near) c.args.x.now c.requires.sound _ _ _ c.in-Unwind.is), both_same (AltsMeasured (walks_in c.args.here.now.near)) _ _ _ _ (sym c.as_slice-xs.ensures.same) (sym c.as_slice-parts.ensures.same) (unwind_of (walks_in c.args.here.now.near) c.args.sizes.now c.args.x.now _ _ _ c.requires.measured c.in-Unwind.is)))
