use Rattle.chi_explain_waiting.proofs.Trims.{trimmed-is}
use Rattle.chi_explain_waiting.proofs.whereabouts.trimmed.Goals as goal

pub returns : goal.returns
returns c = trimmed-is c.args.text.now c.trim_ascii.result.now c.trim_ascii.ensures.value
