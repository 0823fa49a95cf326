use Rattle.chi_check_laws.proofs.Homes.{body_names, body_stands}
use Rattle.chi_check_laws.proofs.statement_laws.bodies_are_sound.Goals as goal

pub returns-clause-sound : goal.returns-clause-sound
returns-clause-sound c h scope formals steps names params slots body role whole are long ty all kinds made = body_stands h scope role formals steps names whole params slots body are long ty all kinds made

pub returns-clause-names : goal.returns-clause-names
returns-clause-names c = body_names
