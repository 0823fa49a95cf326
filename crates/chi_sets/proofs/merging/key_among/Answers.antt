use Rattle.std.proofs.Common.{◌≡◌, ◌∙◌, sym, ap, Some}
use Rattle.std.specs.List.{list_any}
use Rattle.std.specs.Option.{option_cmp}
use Rattle.std.proofs.Common.{is_eq}
use Rattle.chi_value.specs.Order.{order}
use Rattle.chi_sets.proofs.Ascending.{never}
use Rattle.chi_sets.proofs.merging.key_among.Goals as goal

pub returns-in-None : goal.returns-in-None
returns-in-None c = record {
  value = sym (never c.args.some_keys.now) ∙ ap (λ own. list_any (λ key. is_eq (option_cmp order own (Some key))) c.args.some_keys.now) c.in-None.ensures.value;
}
