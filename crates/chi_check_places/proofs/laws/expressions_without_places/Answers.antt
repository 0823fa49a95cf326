use Rattle.chi_check_places.proofs.Induction.{typing-unplaced, type-unplaced}
use Rattle.chi_check_places.proofs.laws.expressions_without_places.Goals as goal

pub returns : goal.returns
returns c = record { expressions = typing-unplaced; types = type-unplaced }
