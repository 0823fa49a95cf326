-- What is parsed is the number, where its own digits are the bytes; else the bytes are those of no number.
use Rattle.std.proofs.Common.{◌≡◌, true, false, bytes_eq, sym, ap, ◌∙◌}
use Rattle.chi_trace.proofs.Numbers.{are_same}
use Rattle.chi_trace.proofs.Reading.{text_is, not_parsed, parsed_below, not_same, told_same}
use Rattle.chi_trace.proofs.numeral.turn.Goals as goal

pub returns-in_err-number : goal.returns-in_err-number
returns-in_err-number c =
    let same = text_is _ _ c.args.digits.now c.from_utf8.result c.in_ok-text.text c.from_utf8.ensures.cases c.in_ok-text.ensures.value in
    rw c.from_residual-in_err-number.ensures
    (record { number = not_parsed _ c.args.digits.now c.parse.result (rw same at c.parse.ensures.value.0) c.in_err-number.ensures.value })

pub returns-then-eq : goal.returns-then-eq
returns-then-eq c =
    let written = c.as_bytes.ensures.value ∙ c.format.ensures.text in
    let equal = ap (λ text. bytes_eq c.args.digits.now text) (sym written) ∙ sym c.eq.ensures ∙ c.if-eq.true in
    record {
      number =
          told_same c.args.digits.now c.in_ok-number.number (parsed_below _ c.in_ok-text.text.now c.parse.result c.in_ok-number.number c.parse.ensures.value.0 c.in_ok-number.ensures.value)
          (are_same c.args.digits.now _ equal);
    }

pub returns-else-eq : goal.returns-else-eq
returns-else-eq c =
    let same = text_is _ _ c.args.digits.now c.from_utf8.result c.in_ok-text.text c.from_utf8.ensures.cases c.in_ok-text.ensures.value in
    let written = c.as_bytes.ensures.value ∙ c.format.ensures.text in
    let other = ap (λ text. bytes_eq c.args.digits.now text) (sym written) ∙ sym c.eq.ensures ∙ c.if-eq.false in
    record {
      number = not_same _ c.args.digits.now c.parse.result c.in_ok-number.number (rw same at c.parse.ensures.value.0) c.in_ok-number.ensures.value other;
    }
