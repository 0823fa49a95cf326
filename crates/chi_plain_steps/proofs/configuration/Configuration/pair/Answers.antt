use Rattle.chi_plain_steps.proofs.Meetings.{pair_first, pair_second, pair_gives}
use Rattle.chi_plain_steps.proofs.configuration.Configuration.pair.Goals as goal

pub resume-requires : goal.resume-requires
resume-requires c = pair_first c.args.self.now c.args.pid c.args.number c.args.other c.args.accepting c.args.view.now c.requires

pub resume-requires-2 : goal.resume-requires-2
resume-requires-2 c =
    pair_second c.args.self.now c.args.pid c.args.number c.args.other c.args.accepting c.args.view.now _ _ c.requires c.in_ok-sent.ensures.resumed c.in_ok-sent.ensures.sent

pub returns : goal.returns
returns c =
    pair_gives c.args.self.now c.args.pid c.args.number c.args.other c.args.accepting c.args.view.now _ _ _ c.requires c.in_ok-sent.ensures.resumed c.in_ok-sent.ensures.sent
    c.in_ok-resume.ensures.resumed
