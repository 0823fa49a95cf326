use Rattle.std.proofs.Common.{arith, subst}
use Rattle.chi_lex.specs.Reading.{IsFaultOf}
use Rattle.chi_tool.proofs.Sizes.{Reads-size}
use Rattle.chi_tool.proofs.reading.spelling_of.Goals as goal

pub parsed_tokens-requires-clause-short : goal.parsed_tokens-requires-clause-short
parsed_tokens-requires-clause-short c =
    let few = Reads-size c.args.source.now c.in-Ok.tokens.items c.in-Ok.ensures.tokens in
    let within = c.requires in
    omega arith

pub returns-in-Err-BadByte : goal.returns-in-Err-BadByte
returns-in-Err-BadByte c = rw (c.in-Err-BadByte.field-0-is) (subst (λ f. IsFaultOf c.args.source.now f) c.in-Err-BadByte.field-0-is c.in-Err-BadByte.ensures.fault)

pub returns-in-Err-OpenString : goal.returns-in-Err-OpenString
returns-in-Err-OpenString c = rw (c.in-Err-OpenString.field-0-is) (subst (λ f. IsFaultOf c.args.source.now f) c.in-Err-OpenString.field-0-is c.in-Err-OpenString.ensures.fault)

pub returns-in-Err-BadEscape : goal.returns-in-Err-BadEscape
returns-in-Err-BadEscape c = rw (c.in-Err-BadEscape.field-0-is) (subst (λ f. IsFaultOf c.args.source.now f) c.in-Err-BadEscape.field-0-is c.in-Err-BadEscape.ensures.fault)
