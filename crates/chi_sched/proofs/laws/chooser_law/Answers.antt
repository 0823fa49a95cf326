use Rattle.chi_sched.proofs.Chosen.{answers}
use Rattle.chi_sched.proofs.laws.chooser_law.Goals as goal

pub returns : goal.returns
returns g c = answers (g.C.Chooser.gives c.args.chooser.now) (g.met.C.Chooser.one c.args.chooser.now) (g.met.C.Chooser.some c.args.chooser.now)
