use Rattle.chi_plain_steps.proofs.Meetings.{wake_first, wake_gives}
use Rattle.chi_plain_steps.proofs.configuration.Configuration.wake.Goals as goal

pub resume-requires : goal.resume-requires
resume-requires c = wake_first c.args.self.now c.args.pid c.args.number c.args.view.now c.requires

pub returns : goal.returns
returns c = wake_gives c.args.self.now c.args.pid c.args.number c.args.view.now _ c.requires c.in_ok-resume.ensures.resumed
