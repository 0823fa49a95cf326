use Rattle.std.proofs.Common.{rules, ◌≡◌, sym, ap, ◌∙◌, ◌<◌, map, length, drop}
use Rattle.std.specs.Cmp.Lexicographic.{slice_cmp}
use Rattle.chi_value.specs.Order.{order, against}
use Rattle.chi_value.proofs.Rows.{ends_first}
use Rattle.chi_value.proofs.ordering.+compare_any.Goals as goal

pub compare_rows-returns-then-len : goal.compare_rows-returns-then-len
compare_rows-returns-then-len t c =
    let end : c.loop-place.place ≡ length c.args.a.now = search rules in
    let more : length c.args.a.now < length c.args.b.now = search rules in
    record { value = sym (c.loop-place.invariant ∙ ap (λ i. slice_cmp against (map order (drop i c.args.a.now)) (drop i c.args.b.now)) end ∙ ends_first _ _ more) }
