-- What a probe answers, from what it keeps of its closure.
use Rattle.std.proofs.Common.{◌≡◌, Bool}
use Rattle.std.proofs.Math.Logic.{∥∥₁_elim}
use Rattle.std.specs.Borrow.{Bor}
use Rattle.std.specs.Coded.{Coded-set, coded_bool}
use Rattle.chi_trace.specs.declared.event.Event.{Event}
use Rattle.chi_trace.specs.declared.filter.Filter.{Filter}
use Rattle.chi_trace.specs.Filters.{shows}
use Rattle.chi_trace.specs.Probes.{Faithful, IsInRange}

pub kept_answer : (may_call : Bor Event → Type 0) (may_answer : Bor Event → Bool → Type 0) (filter : Filter) → ∥ Faithful may_call may_answer filter ∥₁
    → (event : Bor Event) (answer : Bool) → IsInRange event.now → may_answer event answer → answer ≡ shows filter event.now
kept_answer may_call may_answer filter faithful event answer ranged answers =
    ∥∥₁_elim faithful (Coded-set coded_bool answer (shows filter event.now)) (λ f. (f.one_answer event ranged answer).0 answers)
