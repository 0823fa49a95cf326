use Rattle.chi_explain_waiting.proofs.Answering.{answers_delay}
use Rattle.chi_explain_waiting.proofs.partners.is_answered.Goals as goal

pub returns-in-Delay : goal.returns-in-Delay
returns-in-Delay c = answers_delay c.args.configuration.now c.args.pid c.args.act.now _ c.in-Delay.is
