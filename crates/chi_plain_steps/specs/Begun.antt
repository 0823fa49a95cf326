-- Private to proofs: how a run begins, as it is kept.
use Rattle.chi_core.specs.Beginning as beginning
use Rattle.chi_core.specs.Beginning.{Beginning}
use Rattle.chi_plain_steps.specs.declared.beginning.Begun.{Begun}
use Rattle.chi_plain_steps.specs.declared.beginning.Begun.TheVariants.{Begins, Breaks}

abbrev pub begun_of : Begun → Beginning
begun_of (Begins config) = beginning.Begins config
begun_of (Breaks end) = beginning.Breaks end
