use Rattle.std.proofs.Common.{◌≡◌, map}
use Rattle.chi_check.proofs.Layers.{fresh_is, all_made, all_noted}
use Rattle.chi_check.proofs.programs.check_definitions.Goals as goal

pub returns-clause-made : goal.returns-clause-made
returns-clause-made c =
    rw c.core_of.ensures (all_made (map (λ item. item.definition) c.args.items.now) c.args.last _ (fresh_is _ _ c.new.ensures c.new-2.ensures) _ _ c.in_ok-enumerations.ensures.next c.in_ok-consts.ensures.next _ _ _ _ _ _ c.in_ok-enumerations.ensures.made c.in_ok-consts.ensures.made c.in_ok-bodies.ensures.funcs c.in_ok-bodies.ensures.procs c.in_ok-bodies.ensures.xpers c.in_ok-model.ensures)

pub returns-clause-noted : goal.returns-clause-noted
returns-clause-noted c =
    all_noted (map (λ item. item.definition) c.args.items.now) c.args.last _ (fresh_is _ _ c.new.ensures c.new-2.ensures) _ _ c.in_ok-enumerations.ensures.next c.in_ok-consts.ensures.next c.args.kept.now _ _ _ _ _ c.in_ok-enumerations.ensures.noted c.in_ok-consts.ensures.noted c.in_ok-bodies.ensures.noted c.in_ok-model.ensures c.note_no_model.ensures
