use Rattle.std.proofs.Common.{sym, subst}
use Rattle.chi_code.specs.Aims.{some_indexes}
use Rattle.chi_gen_parts.specs.Added.{AddsExprs}
use Rattle.chi_gen_parts.proofs.AddedExpressions.{add_none}
use Rattle.chi_gen_parts.proofs.targets.some_indexes.Goals as goal

pub returns-in-None : goal.returns-in-None
returns-in-None c = subst (λ t. AddsExprs (some_indexes t) c.args.code.now.items c.args.code.now.items) (sym c.in-None.is) (add_none c.args.code.now.items)
