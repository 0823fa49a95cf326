-- The limits of the program, to be held against `docs/LANGUAGE.md`: what each constant is that the definitions cite. Those of a run
-- are the core's, and those of what is told of its instances stand where that is told.
use Rattle.std.specs.Prelude.{◌≡◌}
use Rattle.chi_check_types.specs.declared.type_rules.TheConstants.{MOST_TYPE_DEPTH}
use Rattle.chi_cli.specs.declared.words.TheConstants.{STEPS, MOST_STEPS}
use Rattle.chi_core.specs.Limits as core
use Rattle.chi_explain.specs.declared.excerpts.TheConstants as excerpt
use Rattle.chi_explain_runs.specs.Limits as instances
use Rattle.chi_explain_syntax.specs.declared.fault.TheConstants.{MOST_TOKENS}
use Rattle.chi_lex.specs.declared.lexer.TheConstants.{MOST_BYTES}
use Rattle.chi_load.specs.declared.source.TheConstants.{MOST_MACHINES}
use Rattle.chi_trace.specs.declared.log.TheConstants.{MOST_LOG_BYTES}
use Rattle.chi_trace_events.specs.declared.value.TheConstants.{MOST_SHOWN}
use Rattle.chi_tool.specs.declared.task.TheConstants.{MOST_BESIDE}
use Rattle.chi_tree.specs.declared.limits.TheConstants.{MOST_BLOCKS, MOST_EXPRESSIONS}

-- bytes of a source; nesting of blocks and of expressions; depth of a type; the bound on steps without an option, and the greatest;
-- bytes of a value that a trace shows; bytes of a log that is brought up, and of a second file; machines of a made factory; bytes of a
-- line that an explanation shows, and of these before the place; tokens up to which it lists what could stand
pub record LimitsAre : Type 0 where
  pub of_a_run : core.LimitsAre
  pub of_instances : instances.LimitsAre
  pub source : MOST_BYTES ≡ 1_048_576
  pub blocks : MOST_BLOCKS ≡ 64
  pub expressions : MOST_EXPRESSIONS ≡ 200
  pub types : MOST_TYPE_DEPTH ≡ 32
  pub steps : STEPS ≡ 10_000_000
  pub most_steps : MOST_STEPS ≡ 1_000_000_000_000_000
  pub shown : MOST_SHOWN ≡ 65_536
  pub log : MOST_LOG_BYTES ≡ 67_108_864
  pub beside : MOST_BESIDE ≡ 67_108_864
  pub machines : MOST_MACHINES ≡ 1_000
  pub line_shown : excerpt.MOST_SHOWN ≡ 120
  pub line_before : excerpt.MOST_BEFORE ≡ 60
  pub explained : MOST_TOKENS ≡ 20_000
