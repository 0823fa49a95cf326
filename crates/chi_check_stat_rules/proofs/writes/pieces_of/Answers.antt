use Rattle.chi_check_stat_rules.proofs.Pieces.{read}
use Rattle.chi_check_stat_rules.proofs.writes.pieces_of.Goals as goal

pub returns-in_ok-of-in-Ok : goal.returns-in_ok-of-in-Ok
returns-in_ok-of-in-Ok c =
    let e = read c.args.text.now c.in-Ok.pieces.items c.in-Ok.ensures.means in
    cc (e, c.in_ok-of-in-Ok.ensures.same)
