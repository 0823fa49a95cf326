use Rattle.std.proofs.Common.{◌∙◌, sym}
use Rattle.chi_gen_parts.proofs.AddedParts.{add_spread, add_no_spread}
use Rattle.chi_gen_parts.proofs.parts.spread.Goals as goal

pub returns-in_ok-put : goal.returns-in_ok-put
returns-in_ok-put c = add_spread c.args.targets.now c.args.es.now _ c.args.code.now.items _ (sym c.is_spread.ensures ∙ c.if-is_spread.true) c.in_ok-number_of.ensures c.in_ok-put.ensures

pub returns-else-is_spread : goal.returns-else-is_spread
returns-else-is_spread c = add_no_spread c.args.targets.now c.args.es.now c.args.code.now.items (sym c.is_spread.ensures ∙ c.if-is_spread.false)
