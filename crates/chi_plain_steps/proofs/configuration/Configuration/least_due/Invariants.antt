use Rattle.std.proofs.Common.{◌≡◌, drop}
use Rattle.std.specs.List.{flat_map}
use Rattle.chi_core.specs.Config.{offers_in}
use Rattle.chi_core.specs.Meeting.{least_time, next_due}
use Rattle.chi_plain_open.specs.Offered.{sooner, due_of}
use Rattle.chi_plain_steps.proofs.configuration.Configuration.least_due.Given as goal

abbrev pub invariant-loop-instance : goal.invariant-loop-instance
invariant-loop-instance l =
    sooner l.least (least_time (flat_map (λ i. flat_map due_of (offers_in i.state)) (drop l.instance-index l.instance-items)))
    ≡ next_due l.fn.self
