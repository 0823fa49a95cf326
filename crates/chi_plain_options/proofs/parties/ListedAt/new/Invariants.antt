use Rattle.std.proofs.Common.{◌<◌, length}
use Rattle.chi_plain_options.proofs.Keeping.{AllEmpty}
use Rattle.chi_plain_options.proofs.parties.ListedAt.new.Given as goal

abbrev pub invariant-loop-more : goal.invariant-loop-more
invariant-loop-more l = (0 < length l.lists.items) × AllEmpty l.lists.items
