use Rattle.std.proofs.Common.{ℕ, ◌-◌, get_or, ◌∙◌, ap, arith}
use Rattle.chi_chan.specs.Lined.{code, nobody_here}
use Rattle.chi_chan.proofs.Lining.{less-true, placed-last}
use Rattle.chi_chan.proofs.line.are_before.Goals as goal

pub returns : goal.returns
returns c less =
    let xs = c.args.parties.now.items in
    let e = c.code.ensures ∙ ap code c.party_at.ensures ∙ ap (λ (n : ℕ). code (get_or xs (n - 1) nobody_here)) c.size-count.ensures in
    let l = less-true c.code.result c.args.key less in
    placed-last xs c.args.key c.requires (λ some. omega (arith, e, l))
