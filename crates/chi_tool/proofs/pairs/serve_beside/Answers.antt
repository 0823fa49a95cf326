use Rattle.std.proofs.Common.{◌≡◌, true, false, sym, ◌∙◌}
use Rattle.std.specs.Prelude.{bytes_eq}
use Rattle.std.proofs.lemmas.Slice.Eq.{bytes_eq-Decides}
use Rattle.chi_tool.specs.Serving.{same, both}
use Rattle.chi_tool.proofs.pairs.serve_beside.Goals as goal

pub returns-then-eq : goal.returns-then-eq
returns-then-eq g c =
    let alike = (bytes_eq-Decides c.as_slice.result.now c.as_slice-2.result.now).0 (sym c.eq.ensures ∙ c.if-eq.true) in
    same (sym c.as_slice.ensures.same ∙ alike ∙ c.as_slice-2.ensures.same) c.tell_pair.ensures

pub returns-in-Ok : goal.returns-in-Ok
returns-in-Ok g c =
    both c.in-Ok.text.items
    (λ e.
    let alike : bytes_eq c.as_slice.result.now c.as_slice-2.result.now ≡ true =
    (bytes_eq-Decides c.as_slice.result.now c.as_slice-2.result.now).1 (c.as_slice.ensures.same ∙ e ∙ sym c.as_slice-2.ensures.same) in
    let differ : bytes_eq c.as_slice.result.now c.as_slice-2.result.now ≡ false = sym c.eq.ensures ∙ c.if-eq.false in
    cc)
    (rw (c.as_slice-name.ensures.same) at c.in-Ok.ensures.content)
    (rw (c.deref.ensures.value, c.in-Ok.ensures.out_stays, c.in-Ok.ensures.log_stays) at c.tell_pair-in-Ok.ensures)
