-- The line is that of the event that is read; where its detail is refused for its form, it is the line of none.
use Rattle.std.proofs.Common.{◌≡◌, subst, sym}
use Rattle.std.proofs.Math.Facts.{to_z-of_z}
use Rattle.chi_trace.specs.declared.fault.TraceFault.TheVariants.{Form}
use Rattle.chi_trace.specs.Lines.{IsLine}
use Rattle.chi_trace.specs.Told.{event_of}
use Rattle.chi_trace.proofs.Reading.{is_line, no_detail}
use Rattle.chi_trace.proofs.read.read_line.Goals as goal

pub returns-in-Ok-clause-event : goal.returns-in-Ok-clause-event
returns-in-Ok-clause-event c =
    let line = is_line c.args.line.now _ _ _ c.in-Some.ensures.told c.in-Ok.ensures.told in
    subst (λ clock. IsLine c.args.line.now (event_of (c.in-Some.head.turn, c.in-Some.head.label, clock) c.in-Ok.detail)) (sym (to_z-of_z line.event.clock)) line

pub returns-in-Err-clause-form : goal.returns-in-Err-clause-form
returns-in-Err-clause-form c = λ is e i.
    let same : c.in-Err.fault ≡ Form = cc in
    no_detail c.args.line.now _ _ c.in-Some.ensures.told (c.in-Err.ensures.told same) e i
