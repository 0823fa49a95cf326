use Rattle.chi_tool.proofs.LawClauses.{CheckLaw}
use Rattle.chi_tool.proofs.Readings.{soundly_read, rule_broken}
use Rattle.chi_tool.proofs.reading.read_tree.Goals as goal

pub returns-in-Ok : goal.returns-in-Ok
returns-in-Ok c =
    let law : CheckLaw = record { whole = c.parsed_programs_are_sound.ensures.whole; sound = c.parsed_programs_are_sound.ensures.sound } in
    soundly_read c.args.source.now c.args.tree c.requires.written law c.in-Ok.core c.requires.within c.in-Ok.ensures.answers

pub returns-in-Err-Broken : goal.returns-in-Err-Broken
returns-in-Err-Broken c = rule_broken c.args.source.now c.args.tree c.requires.written _ _ _ c.in-Err-Broken.field-0-is c.in-Err-Broken.ensures.answers
