-- What clap answers, as the definitions say it.
use Rattle.std.proofs.Common.{sym, subst}
use Rattle.clap.specs.Words.{app_of, kind_of}
use Rattle.chi_cli.specs.declared.fault.CliFault.{CliFault}
use Rattle.chi_cli.specs.Parsing.{taken}
use Rattle.chi_cli.specs.Saying.{IsMismatch, texts}
use Rattle.chi_cli.proofs.Parsed.{error_says, matches_say}
use Rattle.chi_cli.proofs.parsing.matched.Goals as goal

pub returns-in-Ok-clause-said : goal.returns-in-Ok-clause-said
returns-in-Ok-clause-said c = matches_say c.args.command (texts c.args.words.now) (app_of c.in_ok-parser.parser) c.in-Ok.matches c.in_ok-parser.ensures c.are_texts.ensures
    c.in-Ok.ensures.matches c.in-Ok.ensures.kinds

pub returns-in-Err-clause-fault : goal.returns-in-Err-clause-fault
returns-in-Err-clause-fault c =
    subst (λ (fault : CliFault). IsMismatch (taken c.args.command (texts c.args.words.now)) fault) (sym c.fault_of.ensures)
    (error_says c.args.command (texts c.args.words.now) (app_of c.in_ok-parser.parser) (kind_of c.in-Err.error) c.in_ok-parser.ensures c.are_texts.ensures c.in-Err.ensures.kinds)
