use Rattle.chi_types.proofs.FitsLaws.{joined_fitted}
use Rattle.chi_types.proofs.laws.joined_is_common.Goals as goal

pub returns-clause-fitted_by_both : goal.returns-clause-fitted_by_both
returns-clause-fitted_by_both c = joined_fitted
