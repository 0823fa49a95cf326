use Rattle.std.proofs.Common.{◌∙◌, refl, sym, subst, rules, arith}
use Rattle.chi_core.specs.Answer.{Answer}
use Rattle.chi_core.specs.Opening.{Opening, opens}
use Rattle.chi_core_frame.specs.Stops.{Stops}
use Rattle.chi_plain_eval.specs.Surroundings.{value_in}
use Rattle.chi_plain_open.specs.Drafts.{opening_of}
use Rattle.chi_plain_open.proofs.Unwinding.{guarded_is, unwinds_is}
use Rattle.chi_plain_open.proofs.alternatives.+open.Goals as goal

pub open-guard-requires : goal.open-guard-requires
open-guard-requires t c = λ e.
    c.requires (guarded_is _ _ _ _ _ c.args.alternative.now _ _ _ _ c.in-Guarded.is c.as_slice.ensures.same ∙ e)

pub unwind-unwind_over-requires : goal.unwind-unwind_over-requires
unwind-unwind_over-requires t c = (omega arith, λ e. c.requires.well (unwinds_is _ _ _ _ _ c.args.alternative.now _ _ _ _ _ c.requires.is refl refl ∙ e))

pub open-returns-in_err-guard-in-Guarded-clause-stops : goal.open-returns-in_err-guard-in-Guarded-clause-stops
open-returns-in_err-guard-in-Guarded-clause-stops t c =
    let P : Answer Opening → Type 0 = Stops c.in_err-guard-in-Guarded.field-0.0 in
    let stops : P (opens (value_in c.args.around.now.scene.now) c.args.around.now.scene.now.clock c.args.alternative.now c.args.around.now.names.now (opening_of c.args.opening.now) c.args.view.now)
    = subst P (sym (guarded_is _ _ _ _ _ c.args.alternative.now _ _ _ _ c.in-Guarded.is c.as_slice.ensures.same)) c.in_err-guard-in-Guarded.ensures.stops in
    search (rules, stops)

pub open-returns-in_err-unwind-in-Unwind-clause-stops : goal.open-returns-in_err-unwind-in-Unwind-clause-stops
open-returns-in_err-unwind-in-Unwind-clause-stops t c =
    let P : Answer Opening → Type 0 = Stops c.in_err-unwind-in-Unwind.field-0.0 in
    let stops : P (opens (value_in c.args.around.now.scene.now) c.args.around.now.scene.now.clock c.args.alternative.now c.args.around.now.names.now (opening_of c.args.opening.now) c.args.view.now)
    = subst P (sym (unwinds_is _ _ _ _ _ c.args.alternative.now _ _ _ _ _ c.in-Unwind.is c.as_slice-in-Unwind.ensures.same c.as_slice-in-Unwind-2.ensures.same))
    c.in_err-unwind-in-Unwind.ensures.stops in
    search (rules, stops)

pub open-returns-in_ok-guard-in-Guarded-clause-opened : goal.open-returns-in_ok-guard-in-Guarded-clause-opened
open-returns-in_ok-guard-in-Guarded-clause-opened t c =
    guarded_is _ _ _ _ _ c.args.alternative.now _ _ _ _ c.in-Guarded.is c.as_slice.ensures.same ∙ c.in_ok-guard-in-Guarded.ensures.guarded

pub open-returns-in_ok-unwind-in-Unwind-clause-opened : goal.open-returns-in_ok-unwind-in-Unwind-clause-opened
open-returns-in_ok-unwind-in-Unwind-clause-opened t c =
    unwinds_is _ _ _ _ _ c.args.alternative.now _ _ _ _ _ c.in-Unwind.is c.as_slice-in-Unwind.ensures.same c.as_slice-in-Unwind-2.ensures.same
    ∙ c.in_ok-unwind-in-Unwind.ensures.opened
