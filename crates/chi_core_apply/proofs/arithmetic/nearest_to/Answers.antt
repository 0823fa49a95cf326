use Rattle.std.proofs.Common.{◌≡◌, FitsSigned, w64, to_z, of_z, rules}
use Rattle.std.proofs.lemmas.Int.{to_z-of_z}
use Rattle.chi_core_apply.proofs.Numbers.{round_row}
use Rattle.chi_core_apply.proofs.arithmetic.nearest_to.Goals as goal

pub returns-clause-value : goal.returns-clause-value
returns-clause-value c =
    let same : to_z w64 (of_z w64 c.round.result) ≡ c.round.result = search (rules, to_z-of_z) in
    let fits : FitsSigned w64 c.round.result = search rules in
    rw same (round_row c.args.a.now c.real_in.result c.round.result c.args.view.now c.real_in.ensures c.round.ensures fits)
