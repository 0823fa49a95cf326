use Rattle.std.proofs.Common.{take, drop, sym, subst, ◌∙◌, ap}
use Rattle.std.proofs.lemmas.List.Sums.{prefix_len-le-length}
use Rattle.chi_trace.specs.Ends.{is_line_byte, IsCut}
use Rattle.chi_trace.proofs.OneLine.{line_cut, whole_one, none_left}
use Rattle.chi_trace.proofs.log.next_line.Goals as goal

pub split_at-requires : goal.split_at-requires
split_at-requires c = rw c.line_length.ensures (prefix_len-le-length is_line_byte c.args.text.now)

pub returns-in-Some : goal.returns-in-Some
returns-in-Some c =
    let text = c.args.text.now in
    let left = ap (λ k. drop k text) (sym c.line_length.ensures) ∙ sym c.split_at.ensures.back ∙ c.in-Some.ensures.cases.0 in
    subst (λ line. IsCut text line c.in-Some.more.now) (ap (λ k. take k text) (sym c.line_length.ensures) ∙ sym c.split_at.ensures.front)
    (line_cut text c.in-Some.more.now c.in-Some.field-0-0.now left)

pub returns-in-None : goal.returns-in-None
returns-in-None c =
    let text = c.args.text.now in
    whole_one text (ap (λ k. drop k text) (sym c.line_length.ensures) ∙ sym c.split_at.ensures.back ∙ none_left _ c.in-None.ensures.cases)
