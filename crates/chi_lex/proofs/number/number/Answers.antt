use Rattle.std.proofs.Common.{◌∙◌, ap, sym, Some, ◌+◌}
use Rattle.chi_lex.proofs.NumberLemmas.{Parts, longest-int, longest-real}
use Rattle.chi_lex.proofs.number.number.Goals as goal
use Rattle.chi_lex.proofs.number.number.Goals.{then-fraction-eq0, else-fraction-eq0}

pub returns : goal.returns
returns c =
    let size = c.digits_length-whole.result + c.fraction_length-fraction.result in
    let rest = c.args.rest.now in
    let back = c.split_at.result.1.now in
    let parts : Parts rest back c.digits_length-whole.result c.fraction_length-fraction.result =
    record {
      some = c.requires.some;
      digit = c.requires.digit;
      whole_is = c.digits_length-whole.ensures.passed;
      back_is = c.split_at.ensures.back;
      fraction_is = c.fraction_length-fraction.ensures.passed;
    } in
    let is = c.in_ok-digits.ensures.copied ∙ c.split_at-2.ensures.front in
    elim c.if-fraction-eq0.branch [
      | then-fraction-eq0 w ↦
          longest-int rest back c.in_ok-digits.digits _ _ parts w.if-fraction-eq0.true is
          ∙ ap (λ t. Some (t, size)) (sym w.token-is)
      | else-fraction-eq0 w ↦
          longest-real rest back c.in_ok-digits.digits _ _ parts w.if-fraction-eq0.false is
          ∙ ap (λ t. Some (t, size)) (sym w.token-is)
    ]
