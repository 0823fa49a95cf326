use Rattle.chi_plain.proofs.Led.{is_affected}
use Rattle.chi_plain.proofs.watching.affected.Goals as goal

pub returns : goal.returns
returns c =
    is_affected c.args.parties.now c.args.joiners.now c.args.config.now.instances c.args.before c.cover.new.covered.items c.cover-2.new.covered.items
    c.cover_from.new.covered.items c.cover_changed.new.covered.items c.cover_changed-2.new.covered.items c.in_ok-cover.ensures.keeps
    c.in_ok-cover.ensures.covered c.in_ok-cover-2.ensures.keeps c.in_ok-cover-2.ensures.covered c.in_ok-cover_from.ensures.keeps
    c.in_ok-cover_from.ensures.covered c.in_ok-cover_changed.ensures.keeps c.in_ok-cover_changed.ensures.joined c.in_ok-cover_changed-2.ensures.keeps
    c.in_ok-cover_changed-2.ensures.joined
