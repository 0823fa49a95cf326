use Rattle.chi_fmt_laws.proofs.Alike.{checked_alike}
use Rattle.chi_fmt_laws.proofs.laws.laid_out_law.Goals as goal

pub returns : goal.returns
returns c program comments of_source are = checked_alike c.programs_without_places.ensures program comments (c.layout_law.ensures program comments of_source are)
