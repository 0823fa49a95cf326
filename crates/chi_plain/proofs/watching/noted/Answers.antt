use Rattle.std.proofs.Common.{length, ap}
use Rattle.chi_plain.proofs.Led.{is_before}
use Rattle.chi_plain.proofs.watching.noted.Goals as goal

pub returns : goal.returns
returns c =
    is_before c.args.parties.now c.args.label.now c.args.config.now.instances _ c.cover.new.covered.items c.named-first.ensures.first
    c.named-first.ensures.second (ap length c.instances.ensures.instances) c.is_over.ensures c.is_over-2.ensures c.in_ok-cover.ensures.covered
    c.in_ok-cover-2.ensures.keeps c.in_ok-cover-2.ensures.covered
