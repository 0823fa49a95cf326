use Rattle.std.proofs.Common.{◌≡◌, ◌++◌, drop, map}
use Rattle.chi_tree.specs.declared.class.Class.TheVariants.{Sign}
use Rattle.chi_explain_expected.proofs.classes.put_signs.Given as goal

abbrev pub invariant-loop-row : goal.invariant-loop-row
invariant-loop-row l = l.classes.items ++ map (λ row. Sign row.1) (drop l.row-index l.rows) ≡ l.fn.classes.items ++ map (λ row. Sign row.1) l.rows
