use Rattle.std.proofs.Common.{◌≡◌, ◌++◌, drop, map}
use Rattle.chi_tree.specs.declared.class.Class.TheVariants.{Word}
use Rattle.chi_explain_expected.proofs.classes.put_words.Given as goal

abbrev pub invariant-loop-row : goal.invariant-loop-row
invariant-loop-row l = l.classes.items ++ map (λ row. Word row.1) (drop l.row-index l.rows) ≡ l.fn.classes.items ++ map (λ row. Word row.1) l.rows
