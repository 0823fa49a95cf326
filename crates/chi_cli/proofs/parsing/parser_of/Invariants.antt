use Rattle.std.proofs.Common.{◌≡◌, drop, fold, map}
use Rattle.clap.specs.Words.{app_of, with_rule}
use Rattle.chi_cli.specs.Commands.{options_of}
use Rattle.chi_cli.specs.Parsing.{bare_app, option_rule}
use Rattle.chi_cli.proofs.parsing.parser_of.Given as goal

abbrev pub invariant-loop-option : goal.invariant-loop-option
invariant-loop-option l =
    fold with_rule (app_of l.parser) (map option_rule (drop l.option-index (options_of l.fn.command))) ≡ fold with_rule bare_app (map option_rule (options_of l.fn.command))
