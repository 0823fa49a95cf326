use Rattle.std.proofs.Common.{◌∙◌, ap, sym}
use Rattle.std.specs.Prelude.{slice_get}
use Rattle.chi_code_listing.proofs.programs.put_listing.Goals as goal

pub put_instrs-requires : goal.put_instrs-requires
put_instrs-requires c = record { told = λ p v h. c.requires.told p v (ap (λ xs. slice_get xs p) (sym c.as_slice-3.ensures.same) ∙ h) }
