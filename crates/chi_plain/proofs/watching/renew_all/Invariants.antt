use Rattle.std.proofs.Common.{◌≡◌, ℕ, ◌≤◌, ◌⊎◌, length, drop}
use Rattle.std.specs.List.{Contains}
use Rattle.chi_order.specs.Marked.{is_marked}
use Rattle.chi_plain_options.specs.Acting.{acts}
use Rattle.chi_plain.proofs.watching.renew_all.Given as goal

abbrev pub invariant-loop-pid : goal.invariant-loop-pid
invariant-loop-pid l =
    (length l.fn.config.instances ≤ length l.marks) × ((p : ℕ) → (is_marked l.marks p ≡ acts l.fn.config p) ⊎ Contains (drop l.pid-index l.fn.some) p)
