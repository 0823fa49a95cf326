-- The sample grammar is decided by one token.
use Rattle.std.proofs.Common.{refl}
use Rattle.chi_grammar.specs.Fine.{Fine}
use Rattle.chi_grammar.specs.Sample.{Line, Sum, Term, Round, sample, sample_table}

pub sample_fine : Fine sample sample_table
sample_fine Line = refl
sample_fine Sum = refl
sample_fine Term = refl
sample_fine Round = refl
