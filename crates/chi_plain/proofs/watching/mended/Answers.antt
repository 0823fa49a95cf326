use Rattle.std.proofs.Common.{List, ℕ, sym, subst}
use Rattle.chi_plain.proofs.Led.{led_joiners, led_parties, led_right}
use Rattle.chi_plain.proofs.Mending.{RightBut}
use Rattle.chi_plain.proofs.watching.mended.Goals as goal

pub renew_all-requires-clause-parties : goal.renew_all-requires-clause-parties
renew_all-requires-clause-parties c =
    led_parties c.args.label.now c.args.configuration c.args.kept c.args.before c.requires c.named-first.result.0
    c.named-first.result.1 c.named-first.ensures.first c.named-first.ensures.second c.relist.new.parties c.relist-2.new.parties c.relist_from.new.parties
    c.in_ok-relist.ensures.parties c.in_ok-relist-2.ensures.parties c.in_ok-relist_from.ensures.parties c.in_ok-relist.ensures.party
    c.in_ok-relist-2.ensures.party c.in_ok-relist_from.ensures.party

pub renew_all-requires-clause-right : goal.renew_all-requires-clause-right
renew_all-requires-clause-right c =
    subst (λ (l : List ℕ). RightBut c.args.configuration c.reserve.new.self l) (sym c.as_slice.ensures.value)
    (led_right c.args.label.now c.args.configuration c.args.kept c.args.before c.requires c.reserve.new.self
    c.in_ok-some.some.items c.reserve.ensures.kept c.in_ok-some.ensures)

pub invariant_of-result : goal.invariant_of-result
invariant_of-result c = record {
  marked = c.renew_all.ensures;
  communicating = led_parties c.args.label.now c.args.configuration c.args.kept c.args.before c.requires c.named-first.result.0
      c.named-first.result.1 c.named-first.ensures.first c.named-first.ensures.second c.relist.new.parties c.relist-2.new.parties c.relist_from.new.parties
      c.in_ok-relist.ensures.parties c.in_ok-relist-2.ensures.parties c.in_ok-relist_from.ensures.parties c.in_ok-relist.ensures.party
      c.in_ok-relist-2.ensures.party c.in_ok-relist_from.ensures.party;
  waiting = led_joiners c.args.label.now c.args.configuration c.args.kept c.args.before c.requires c.named-first.result.0
      c.named-first.result.1 c.named-first.ensures.first c.named-first.ensures.second c.relist.new.joiners c.relist-2.new.joiners c.relist_from.new.joiners
      c.in_ok-relist.ensures.joiners c.in_ok-relist-2.ensures.joiners c.in_ok-relist_from.ensures.joiners c.in_ok-relist.ensures.joiner
      c.in_ok-relist-2.ensures.joiner c.in_ok-relist_from.ensures.joiner;
}
