use Rattle.std.proofs.Common.{refl}
use Rattle.chi_grammar.specs.Rules.{part}
use Rattle.chi_grammar.specs.Sample.{Line, sample, sample_table, has_round}
use Rattle.chi_grammar.proofs.Exact.{parses}
use Rattle.chi_grammar.proofs.Sample.{sample_fine}
use Rattle.chi_grammar.proofs.sums.parse_line.Goals as goal

pub returns : goal.returns
returns c = parses sample sample_table sample_fine has_round _ _ (part Line) refl _ c.requires.inside _ c.line.ensures
