use Rattle.std.proofs.Common.{drop, sym, ◌∙◌, ap}
use Rattle.std.proofs.lemmas.List.Sums.{prefix_len-le-length}
use Rattle.chi_cli.proofs.ProbeWords.{is_before, value_cut, no_value_cut, none_left}
use Rattle.chi_cli.proofs.probe.value_in.Goals as goal

pub split_at-requires : goal.split_at-requires
split_at-requires c = rw c.name_length.ensures (prefix_len-le-length is_before c.args.word.now)

pub returns-in-Some : goal.returns-in-Some
returns-in-Some c =
    let word = c.args.word.now in
    let left = ap (λ k. drop k word) (sym c.name_length.ensures) ∙ sym c.split_at.ensures.back ∙ c.in-Some.ensures.cases.0 in
    value_cut word c.in-Some.field-0-0.now c.in-Some.value.now left

pub returns-in-None : goal.returns-in-None
returns-in-None c =
    let word = c.args.word.now in
    no_value_cut word (ap (λ k. drop k word) (sym c.name_length.ensures) ∙ sym c.split_at.ensures.back ∙ none_left _ c.in-None.ensures.cases)
