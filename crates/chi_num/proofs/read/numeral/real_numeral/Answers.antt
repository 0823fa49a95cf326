-- Where the text, cut at its sign and its digits, hasn't the form, no spelling of it has.
use Rattle.std.proofs.Common.{length, arith, ap, sym}
use Rattle.std.proofs.lemmas.Bool.{eqb-true}
use Rattle.chi_num.proofs.Spelling.{cut_is}
use Rattle.chi_num.proofs.read.numeral.real_numeral.Goals as goal

pub returns-then-is_empty : goal.returns-then-is_empty
returns-then-is_empty c = record {
  parts = λ (m, (w, (f, i))).
      let cut = cut_is c.args.text.now _ _ c.split_digits.result.0.now c.split_digits.result.1.now m w f
      c.split_sign-minus.ensures.whole c.split_sign-minus.ensures.minus c.split_digits.ensures.whole c.split_digits.ensures.digits c.split_digits.ensures.rest i in
      let same = ap length cut.1 in
      let some = i.some in
      let none = eqb-true (length c.split_digits.result.0.now) 0 (sym c.if-is_empty.ensures) in
      absurd (omega (arith, same, some, none));
}

pub returns-in-None : goal.returns-in-None
returns-in-None c = record {
  parts = λ (m, (w, (f, i))).
      let cut = cut_is c.args.text.now _ _ c.split_digits.result.0.now c.split_digits.result.1.now m w f
      c.split_sign-minus.ensures.whole c.split_sign-minus.ensures.minus c.split_digits.ensures.whole c.split_digits.ensures.digits c.split_digits.ensures.rest i in
      c.in-None.ensures.digits f i.decimals cut.2;
}
