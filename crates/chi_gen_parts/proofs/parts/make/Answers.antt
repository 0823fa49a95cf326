use Rattle.chi_gen_parts.proofs.AddedParts.{add_make}
use Rattle.chi_gen_parts.proofs.parts.make.Goals as goal

pub returns : goal.returns
returns c = add_make c.args.target.now c.args.process c.args.es.now _ c.args.code.now.items _ _ _ c.in_ok-expressions.ensures c.in_ok-some_indexes.ensures c.in_ok-some_aim.ensures c.in_ok-put.ensures
