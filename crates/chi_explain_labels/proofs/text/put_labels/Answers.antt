use Rattle.std.proofs.Common.{length, get_or, refl}
use Rattle.chi_explain_labels.proofs.Telling.{labels-told}
use Rattle.chi_explain_labels.proofs.text.put_labels.Goals as goal

pub returns : goal.returns
returns c =
    labels-told c.args.core.now c.args.configuration.now (λ p. get_or c.args.counts.now p 0) c.args.bound (length c.instances-instances.result.now)
    c.instances-instances.result.now c.in_ok-ranks.ranks.items c.as_slice-told.result.now c.args.out.now.items c.put_bound.new.out.items
    c.put_ranks.new.out.items c.in_ok-put_ranks.ensures c.in_ok-put_bound.ensures c.as_slice-told.ensures.value c.in_ok-ranks.ensures refl
    c.instances-instances.ensures.instances
