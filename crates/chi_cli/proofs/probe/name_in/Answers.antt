use Rattle.std.proofs.Common.{take, ◌∙◌, ap}
use Rattle.std.proofs.lemmas.List.Sums.{prefix_len-le-length}
use Rattle.chi_cli.proofs.ProbeWords.{is_before, name_cut}
use Rattle.chi_cli.proofs.probe.name_in.Goals as goal

pub split_at-requires : goal.split_at-requires
split_at-requires c = rw c.name_length.ensures (prefix_len-le-length is_before c.args.word.now)

pub returns : goal.returns
returns c =
    let word = c.args.word.now in
    c.split_at.ensures.front ∙ ap (λ k. take k word) c.name_length.ensures ∙ name_cut word
