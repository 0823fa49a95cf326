use Rattle.std.proofs.Common.{◌∙◌, length, ap, refl, arith, Some}
use Rattle.std.proofs.lemmas.Option.{slice_get_read}
use Rattle.chi_code_listing.proofs.instructions.put_instrs.Goals as goal

pub put_line-requires : goal.put_line-requires
put_line-requires c = record {
  told = λ v is. c.requires.told c.loop-x.x-index v (slice_get_read c.args.xs.now (length c.args.xs.now) c.loop-x.x-index c.x-item.result refl (omega arith) c.x-item.is ∙ ap Some is);
}
