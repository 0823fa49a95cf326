use Rattle.std.proofs.lemmas.List.{take-replicate}
use Rattle.chi_format.proofs.rendering.field.spaces.Goals as goal

pub returns : goal.returns
returns c = take-replicate c.args.count 255 32 c.requires
