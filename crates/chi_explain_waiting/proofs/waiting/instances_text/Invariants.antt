use Rattle.std.proofs.Common.{◌≡◌, ◌++◌, drop}
use Rattle.std.specs.List.{flat_map, slice_get}
use Rattle.chi_explain_waiting.specs.WaitingText.{instance_told}
use Rattle.chi_explain_waiting.proofs.waiting.instances_text.Given as goal

abbrev pub invariant-loop-pid : goal.invariant-loop-pid
invariant-loop-pid l =
    l.text.items ++ flat_map (λ p. instance_told l.fn.core l.fn.source l.fn.lines l.fn.configuration p (slice_get l.fn.configuration.instances p)) (drop l.pid-index l.pids)
    ≡ flat_map (λ p. instance_told l.fn.core l.fn.source l.fn.lines l.fn.configuration p (slice_get l.fn.configuration.instances p)) l.pids
