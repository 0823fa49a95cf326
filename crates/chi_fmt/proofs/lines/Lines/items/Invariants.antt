use Rattle.std.proofs.Common.{◌≡◌, ◌++◌, true, false, drop}
use Rattle.chi_fmt.specs.Definitions.{items_lines}
use Rattle.chi_fmt.proofs.lines.Lines.items.Given as goal

abbrev pub invariant-loop-item : goal.invariant-loop-item
invariant-loop-item l =
    l.self.lines.items ++ items_lines true (drop l.item-index l.more) ≡ l.fn.self.lines.items ++ items_lines false l.fn.items
