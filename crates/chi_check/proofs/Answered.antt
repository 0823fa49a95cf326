-- Private to proofs. The answer for a whole program, by what was kept of its broken rules.
use Rattle.std.proofs.Common.{◌≡◌, List, map, Option, Some, None, ap, sym, ◌∙◌}
use Rattle.std.specs.Prelude.{Ok, Err, option_map}
use Rattle.chi_tree.specs.declared.definition.Item.{Item}
use Rattle.chi_tree.specs.declared.definition.Program.{Program}
use Rattle.chi_core.specs.declared.program.Core.{Core}
use Rattle.chi_check_types.specs.declared.fault.Fault.{Fault}
use Rattle.chi_check_types.specs.declared.fault.TypeFault.TheVariants.{Broken}
use Rattle.chi_check_types.specs.Faults.{first_of}
use Rattle.chi_check_types.specs.Typed.{Typed}
use Rattle.chi_check_types.proofs.FirstLaws.{none_first}
use Rattle.chi_check_streams.specs.Streams.{with_streams}
use Rattle.chi_check.specs.Programs.{Answers, checked, definitions_checked}

module _ (tree : Program) (items : List Item) (same : items ≡ tree.items) (kept : Option Fault) (noted : kept ≡ first_of None (definitions_checked (map (λ item. item.definition) items) tree.last).faults) where
  is_checked : definitions_checked (map (λ item. item.definition) items) tree.last ≡ checked tree
  unfolding checked
  is_checked = ap (λ items. definitions_checked (map (λ (item : Item). item.definition) items) tree.last) same

  kept_is : kept ≡ first_of None (checked tree).faults
  kept_is = noted ∙ ap (λ (t : Typed Core). first_of None t.faults) is_checked

  pub broken : (f : Fault) → kept ≡ Some f → Answers (Err (Broken f.rule f.place)) (checked tree)
  broken f h = sym kept_is ∙ h

  pub accepted : (made : Option Core) (core result : Core) → kept ≡ None → made ≡ (definitions_checked (map (λ item. item.definition) items) tree.last).made → made ≡ Some core → result ≡ with_streams core → Answers (Ok result) (checked tree)
  accepted made core result n m h s =
      (none_first (checked tree).faults (sym kept_is ∙ n), ap (option_map with_streams) (sym (m ∙ ap (λ (t : Typed Core). t.made) is_checked) ∙ h) ∙ ap Some (sym s))
