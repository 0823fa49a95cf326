use Rattle.std.proofs.Common.{◌≡◌, ◌<◌, ℤ, List, Option, None, Some, length, ap, ◌∙◌, arith}
use Rattle.std.proofs.lemmas.List.{get_or-set_same}
use Rattle.std.proofs.Math.ListN.{length-set}
use Rattle.chi_order.specs.Dated.{due_of}
use Rattle.chi_chan_tests.proofs.dues.again.Goals as goal

pub put-requires-clause-room : goal.put-requires-clause-room
put-requires-clause-room g c =
    let l = length-set c.args.dues.now c.args.number None in
    let e = ap length c.withdraw.ensures.taken in
    let r = c.requires in omega (arith, l, e, r)

pub put-requires-clause-none : goal.put-requires-clause-none
put-requires-clause-none g c =
    ap (λ (dues : List (Option ℤ)). due_of dues c.args.number) c.withdraw.ensures.taken
    ∙ get_or-set_same c.args.dues.now c.args.number None None c.requires

pub returns : goal.returns
returns g c =
    ap length c.put.ensures.put ∙ length-set c.withdraw.new.self c.args.number _
    ∙ ap length c.withdraw.ensures.taken ∙ length-set c.args.dues.now c.args.number None
