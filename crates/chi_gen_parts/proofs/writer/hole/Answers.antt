use Rattle.chi_gen_parts.proofs.writer.hole.Goals as goal

pub returns : goal.returns
returns c = record { grows = c.in_ok-put.ensures.grows; place = c.place-at.ensures; end = c.in_ok-put.ensures.end }
