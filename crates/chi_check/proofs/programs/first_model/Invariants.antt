use Rattle.std.proofs.Common.{◌≡◌, drop, map}
use Rattle.chi_check.specs.Programs.{first_model}
use Rattle.chi_check.proofs.programs.first_model.Given as goal

abbrev pub invariant-loop-item : goal.invariant-loop-item
invariant-loop-item l = first_model 0 (map (λ item. item.definition) l.items) ≡ first_model l.number (map (λ item. item.definition) (drop l.item-index l.items))
