-- What is read of a line is what the line tells.
use Rattle.std.proofs.Common.{◌≡◌, ℕ, List, Some, refl, ap, sym, ◌∙◌}
use Rattle.chi_trace.specs.declared.event.Event.{Event}
use Rattle.chi_trace.specs.Events.{IsEvent, as_told, untold}
use Rattle.chi_trace.specs.Lines.{event_text, event_text_1, IsLine, IsLine1}
use Rattle.chi_trace.specs.Told.{event_told, event_told_1}
use Rattle.chi_trace.proofs.Back.{event_back, event_back_1}
use Rattle.chi_trace.proofs.Forth.{event_forth, event_forth_1}
use Rattle.chi_trace.proofs.Cuts.{some_same}

pub read_line : (text : List ℕ) (e : Event) → IsLine text e → event_told text ≡ Some e
read_line text e i = ap event_told i.spelled ∙ event_forth e i.event ∙ ap (λ x. Some x) i.told

pub read_line_1 : (text : List ℕ) (e : Event) → IsLine1 text e → event_told_1 text ≡ Some e
read_line_1 text e i = ap event_told_1 i.spelled ∙ event_forth_1 e i.event i.no_detail ∙ ap (λ x. Some x) i.told

pub line_told : (e : Event) → IsEvent e → IsLine (event_text e) (as_told e)
line_told e i = event_back (event_text e) (as_told e) (event_forth e i)

pub line_told_1 : (e : Event) → IsEvent e → e.detail ≡ untold e.label → IsLine1 (event_text_1 e) (as_told e)
line_told_1 e i none = event_back_1 (event_text_1 e) (as_told e) (event_forth_1 e i none)

pub one_event : (text : List ℕ) (e f : Event) → IsLine text e → IsLine text f → e ≡ f
one_event text e f i j = some_same e f (sym (read_line text e i) ∙ read_line text f j)

pub one_event_1 : (text : List ℕ) (e f : Event) → IsLine1 text e → IsLine1 text f → e ≡ f
one_event_1 text e f i j = some_same e f (sym (read_line_1 text e i) ∙ read_line_1 text f j)
