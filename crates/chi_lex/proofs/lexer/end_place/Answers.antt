use Rattle.std.proofs.Common.{[]}
use Rattle.chi_lex.proofs.FaultLemmas.{place_of-end}
use Rattle.chi_lex.proofs.lexer.end_place.Goals as goal

pub returns : goal.returns
returns c =
    place_of-end c.args.source.now c.past.result c.place.result (c.past.ensures.stands [] c.at_start.ensures)
    record { line = c.place.ensures.line; column = c.place.ensures.column }
