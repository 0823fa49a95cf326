-- What the constants of a program come to, as it is kept. Private to proofs.
use Rattle.chi_xper_runs.specs.Constants as constants
use Rattle.chi_xper_machines.specs.declared.constants.Constants.{Constants}
use Rattle.chi_xper_machines.specs.declared.constants.Constants.TheVariants.{Set, Breaks}

abbrev pub constants_in : Constants → constants.Constants
constants_in (Set values) = constants.Set values.items
constants_in (Breaks ending) = constants.Breaks ending
