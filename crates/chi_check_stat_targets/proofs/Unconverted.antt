-- Private to proofs. An int doesn't serve for a real as it is.
use Rattle.std.proofs.Common.{◌≡◌, false, ap, ◌∙◌}
use Rattle.chi_types.specs.declared.ty.Ty.{Ty, Ty-F, out-Ty}
use Rattle.chi_types.specs.declared.ty.Ty.TheVariants as ty
use Rattle.chi_types.specs.Fits.{fits_unconverted}
use Rattle.chi_types.proofs.Served.{served_at}

pub int_for_real : (given wanted : Ty) → given ≡ ty.Int → wanted ≡ ty.Real → fits_unconverted given wanted ≡ false
int_for_real given wanted p q = served_at given wanted Ty-F.Int Ty-F.Real (ap out-Ty p ∙ ty.outs-Int) (ap out-Ty q ∙ ty.outs-Real)
