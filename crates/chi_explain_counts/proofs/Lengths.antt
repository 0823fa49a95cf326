-- What is found in each of several parts is as many as they are.
use Rattle.std.proofs.Common.{◌≡◌, List, length, map}
use Rattle.std.proofs.lemmas.List.{length-map}
use Rattle.chi_tree.specs.declared.expr.Expr.{Expr}
use Rattle.chi_explain_counts.specs.Found.{Found}

pub length_of_each : (found : Expr → Found) (es : List Expr) → length (map found es) ≡ length es
length_of_each found es = length-map es found
