use Rattle.std.proofs.Common.{◌*ℤ◌, pos, arith}
use Rattle.std.proofs.lemmas.Int.{ints}
use Rattle.chi_num.proofs.OneEach.{one_nearest}
use Rattle.chi_num.proofs.laws.real_laws.Goals as goal

pub returns : goal.returns
returns c =
    record {
      product = λ a b. one_nearest (a *ℤ b) (pos 1_000_000_000) (λ e. omega (arith, ints));
      quotient = λ a b p. one_nearest (a *ℤ pos 1_000_000_000) b p;
    }
