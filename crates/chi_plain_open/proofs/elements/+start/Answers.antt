use Rattle.std.proofs.Common.{◌∙◌, refl, sym, subst, rules, arith}
use Rattle.chi_core.specs.Answer.{Answer}
use Rattle.chi_core.specs.Starting.{Started, starts}
use Rattle.chi_core_frame.specs.Stops.{Stops}
use Rattle.chi_plain_eval.specs.Surroundings.{value_in}
use Rattle.chi_plain_open.specs.Drafts.{started_of}
use Rattle.chi_plain_open.proofs.Unwinding.{makes_is, starts_unwound_is}
use Rattle.chi_plain_open.proofs.elements.+start.Goals as goal

pub start-make-requires : goal.start-make-requires
start-make-requires t c = λ e.
    c.requires (makes_is _ _ _ _ c.args.element.now _ _ _ _ c.in-Make.is c.as_slice.ensures.same ∙ e)

pub unwind-unwind_over-requires : goal.unwind-unwind_over-requires
unwind-unwind_over-requires t c = (omega arith, λ e. c.requires.well (starts_unwound_is _ _ _ _ c.args.element.now _ _ _ _ _ c.requires.is refl refl ∙ e))

pub start-returns-in_err-make-in-Make-clause-stops : goal.start-returns-in_err-make-in-Make-clause-stops
start-returns-in_err-make-in-Make-clause-stops t c =
    let P : Answer Started → Type 0 = Stops c.in_err-make-in-Make.field-0.0 in
    let stops : P (starts (value_in c.args.here.now.scene.now) c.args.here.now.procs.now c.args.element.now (started_of c.args.starting.now) c.args.view.now)
    = subst P (sym (makes_is _ _ _ _ c.args.element.now _ _ _ _ c.in-Make.is c.as_slice.ensures.same)) c.in_err-make-in-Make.ensures.stops in
    search (rules, stops)

pub start-returns-in_err-unwind-in-Unwind-clause-stops : goal.start-returns-in_err-unwind-in-Unwind-clause-stops
start-returns-in_err-unwind-in-Unwind-clause-stops t c =
    let P : Answer Started → Type 0 = Stops c.in_err-unwind-in-Unwind.field-0.0 in
    let stops : P (starts (value_in c.args.here.now.scene.now) c.args.here.now.procs.now c.args.element.now (started_of c.args.starting.now) c.args.view.now)
    = subst P (sym (starts_unwound_is _ _ _ _ c.args.element.now _ _ _ _ _ c.in-Unwind.is c.as_slice-in-Unwind.ensures.same c.as_slice-in-Unwind-2.ensures.same))
    c.in_err-unwind-in-Unwind.ensures.stops in
    search (rules, stops)

pub start-returns-in_ok-make-in-Make-clause-started : goal.start-returns-in_ok-make-in-Make-clause-started
start-returns-in_ok-make-in-Make-clause-started t c =
    makes_is _ _ _ _ c.args.element.now _ _ _ _ c.in-Make.is c.as_slice.ensures.same ∙ c.in_ok-make-in-Make.ensures.made

pub start-returns-in_ok-unwind-in-Unwind-clause-started : goal.start-returns-in_ok-unwind-in-Unwind-clause-started
start-returns-in_ok-unwind-in-Unwind-clause-started t c =
    starts_unwound_is _ _ _ _ c.args.element.now _ _ _ _ _ c.in-Unwind.is c.as_slice-in-Unwind.ensures.same c.as_slice-in-Unwind-2.ensures.same
    ∙ c.in_ok-unwind-in-Unwind.ensures.started
