use Rattle.std.proofs.Common.{ℤ, List, ℕ, ◌++◌, w64, ap, ◌∙◌}
use Rattle.std.specs.Prelude.{codes}
use Rattle.std.proofs.lemmas.Int.{to_z-of_z}
use Rattle.std.proofs.lemmas.List.{append_assoc}
use Rattle.chi_num.specs.RealText.{real_text_of}
use Rattle.chi_explain_waiting.proofs.offers.put_time.Goals as goal

pub returns : goal.returns
returns c =
    let words : List ℕ = codes "  waits until time " in
    c.in_ok-real_text.ensures.ok
    ∙ ap (λ (t : List ℕ). t ++ real_text_of c.from_units.result) c.in_ok-extend_from_slice.ensures.items
    ∙ append_assoc c.args.out.now.items words (real_text_of c.from_units.result)
    ∙ ap (λ (z : ℤ). c.args.out.now.items ++ (words ++ real_text_of z)) (c.from_units.ensures.same ∙ to_z-of_z w64 c.args.due c.ranges.due)
