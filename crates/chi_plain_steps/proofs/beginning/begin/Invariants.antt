use Rattle.std.proofs.Common.{◌≡◌, drop}
use Rattle.chi_core.specs.Beginning.{begins_after, start}
use Rattle.chi_plain_steps.proofs.beginning.begin.Given as goal

abbrev pub invariant-loop-c : goal.invariant-loop-c
invariant-loop-c l =
    start l.fn.core l.fn.args.items l.seed l.until ≡ begins_after l.fn.core l.fn.args.items l.seed l.until l.values.items (drop l.c-index l.fn.core.consts)
