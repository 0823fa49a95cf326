use Rattle.std.proofs.Common.{◌<◌, ◌^◌, Err, length, arith, sym, subst}
use Rattle.std.specs.Prelude.{IfOk}
use Rattle.chi_explain_syntax.specs.Syntax.{IsSyntaxExplanation}
use Rattle.chi_tree_laws.specs.Answers.{IsAnswer}
use Rattle.chi_tool.specs.Explaining.{IsUnparsedText}
use Rattle.chi_tool.specs.Readings.{IsUnparsedAs}
use Rattle.chi_tool.proofs.Readings.{lexer_fault}
use Rattle.chi_tool.proofs.Sizes.{Reads-size}
use Rattle.chi_tool.proofs.Sources.{fault_answer}
use Rattle.chi_tool.proofs.explain.text_of_unparsed.Goals as goal

pub explain_lexical-requires : goal.explain_lexical-requires
explain_lexical-requires c = lexer_fault c.args.source.now c.in-Lexical.fault (subst (IsUnparsedAs c.args.source.now) c.in-Lexical.is c.requires.is)

pub explain_syntax-requires-clause-short : goal.explain_syntax-requires-clause-short
explain_syntax-requires-clause-short c =
    let has = subst (IsUnparsedAs c.args.source.now) c.in-Syntax.is c.requires.is in
    let few = Reads-size c.args.source.now c.in-Syntax.tokens.items has.read in
    let within = c.requires.within in
    subst (λ ts. length ts < 2 ^ 32) (sym c.deref.ensures.value) (omega arith)

pub explain_syntax-requires-clause-fault : goal.explain_syntax-requires-clause-fault
explain_syntax-requires-clause-fault c =
    let has = subst (IsUnparsedAs c.args.source.now) c.in-Syntax.is c.requires.is in
    subst (λ ts. IsAnswer ts (Err c.in-Syntax.fault)) (sym c.deref.ensures.value) (fault_answer c.in-Syntax.tokens.items c.in-Syntax.fault has.has)

pub returns-in-Syntax : goal.returns-in-Syntax
returns-in-Syntax c =
    subst (λ it. IfOk c.explain_syntax.result (λ text. IsUnparsedText c.args.file.now c.args.source.now it text.items)) (sym c.in-Syntax.is)
    (subst (λ ts. IfOk c.explain_syntax.result (λ text. IsSyntaxExplanation c.args.file.now c.args.source.now ts c.in-Syntax.fault text.items)) c.deref.ensures.value
    c.explain_syntax.ensures)
