use Rattle.std.proofs.Common.{◌-◌, ap, ◌∙◌, ℕ}
use Rattle.std.specs.Prelude.{bit_and}
use Rattle.std.proofs.lemmas.Nat.{and_mask, one_shl}
use Rattle.chi_order.proofs.bits.low_bits.Goals as goal

pub returns : goal.returns
returns c =
    ap (λ (m : ℕ). bit_and c.args.word (m - 1)) (one_shl c.args.bit 64 c.requires) ∙ and_mask c.args.word c.args.bit
