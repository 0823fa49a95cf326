use Rattle.std.proofs.Common.{◌∙◌, ◌<◌, length, ap, sym, subst}
use Rattle.std.specs.Result.{IfOk}
use Rattle.std.proofs.lemmas.Result.{IfOk-weaker}
use Rattle.chi_lex.specs.Reading.{IsFaultOf}
use Rattle.chi_explain.specs.Explanations.{explained}
use Rattle.chi_explain.specs.Lexical.{bad_byte_words, IsExplanation}
use Rattle.chi_explain.proofs.FaultyBytes.{faulty_byte}
use Rattle.chi_explain.proofs.lexical.explain_lexical.Goals as goal

pub bad_byte_words-requires : goal.bad_byte_words-requires
bad_byte_words-requires c =
    let source = c.args.source.now in
    subst (λ bytes. 0 < length bytes) (sym c.from_place.ensures)
    (faulty_byte source c.in-BadByte.place (subst (λ f. IsFaultOf source f) c.in-BadByte.is c.requires))

pub returns-in_ok-words-in-BadByte : goal.returns-in_ok-words-in-BadByte
returns-in_ok-words-in-BadByte c =
    let source = c.args.source.now in
    let file = c.args.file.now in
    let place = c.in-BadByte.place in
    let there = faulty_byte source place (subst (λ f. IsFaultOf source f) c.in-BadByte.is c.requires) in
    let words = c.deref.ensures.value ∙ c.in_ok-words-in-BadByte.ensures ∙ ap (λ bytes. bad_byte_words bytes) c.from_place.ensures in
    subst (λ f. IfOk c.explained.result (λ text. IsExplanation file source f text.items)) (sym c.in-BadByte.is)
    (IfOk-weaker c.explained.result _ _ (λ text e. (there, e ∙ ap (λ w. explained file source place w) words)) c.explained.ensures)
