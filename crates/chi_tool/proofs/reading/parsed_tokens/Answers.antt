use Rattle.chi_tool.proofs.Readings.{syntax_refused, too_deep_refused}
use Rattle.chi_tool.proofs.reading.parsed_tokens.Goals as goal

pub returns-in-Ok : goal.returns-in-Ok
returns-in-Ok c = (c.requires.read, (c.parsed_law.ensures.tree _ _).0 (rw (c.deref.ensures.value) at c.in-Ok.ensures.parsed))

pub returns-in-Err-Syntax : goal.returns-in-Err-Syntax
returns-in-Err-Syntax c =
    syntax_refused c.args.source.now c.args.tokens.items _ _ (c.parsed_law.ensures.syntax _ _).0 c.requires.read c.in-Err-Syntax.field-0-is
    _ c.deref.ensures.value c.in-Err-Syntax.ensures.parsed

pub returns-in-Err-TooDeep : goal.returns-in-Err-TooDeep
returns-in-Err-TooDeep c =
    too_deep_refused c.args.source.now c.args.tokens.items _ _ (c.parsed_law.ensures.too_deep _ _).0 c.requires.read c.in-Err-TooDeep.field-0-is
    _ c.deref.ensures.value c.in-Err-TooDeep.ensures.parsed
