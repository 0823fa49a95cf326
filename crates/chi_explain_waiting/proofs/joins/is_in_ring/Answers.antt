use Rattle.std.proofs.Common.{◌≡◌, length, ap, ◌∙◌, arith}
use Rattle.chi_explain_waiting.specs.Joins.{waited}
use Rattle.chi_explain_waiting.proofs.Findings.{round_first, round_next}
use Rattle.chi_explain_waiting.proofs.Rings.{ring_is}
use Rattle.chi_explain_waiting.proofs.joins.is_in_ring.Goals as goal

pub loop-round-init : goal.loop-round-init
loop-round-init c = (
  c.in_ok-add_all.ensures.marked,
  c.in_ok-add_all.ensures.room ∙ c.in_ok-found.ensures.room ∙ ap length c.instances-count.ensures.instances,
  round_first (waited c.args.configuration.now) c.args.pid c.in_ok-found.found.numbers.items _ c.deref.result.now c.in_ok-first.first.items
      c.in_ok-add_all.ensures.adds c.in_ok-found.ensures.none c.deref.ensures.value c.in_ok-first.ensures,
)

pub loop-round-preserved : goal.loop-round-preserved
loop-round-preserved c = (
  c.in_ok-reach.ensures.marked,
  c.in_ok-reach.ensures.room ∙ c.loop-round.invariant.1,
  round_next (waited c.args.configuration.now) c.args.pid c.loop-round._round c.loop-round.from c.len-to.result c.loop-round.found.numbers.items _
      c.loop-round.invariant.2 c.in_ok-reach.ensures.reaches (omega arith),
)

pub returns : goal.returns
returns c =
    let room : length c.loop-round.found.marks.items ≡ length c.args.configuration.now.instances = c.loop-round.invariant.1 in
    let count : length c.instances-count.result.now ≡ length c.args.configuration.now.instances = ap length c.instances-count.ensures.instances in
    ring_is (waited c.args.configuration.now) c.args.pid c.loop-round._round (length c.args.configuration.now.instances) c.loop-round.from
    c.loop-round.found.numbers.items c.loop-round.found.marks.items c.index.result.now c.loop-round.invariant.2 c.loop-round.invariant.0
    (omega (arith, count)) (omega (arith, room, c.requires)) c.index.ensures
