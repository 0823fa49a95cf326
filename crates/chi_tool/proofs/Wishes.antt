-- The bounds of what words ask for.
use Rattle.std.proofs.Common.{◌≡◌, ℕ, ◌<◌, ◌≤◌, List, length, refl, sym, ◌∙◌, ap, arith}
use Rattle.std.specs.Prelude.{◌^◌, true, Result, Ok, Err}
use Rattle.chi_cli.specs.declared.fault.CliFault.{CliFault}
use Rattle.chi_cli.specs.declared.request.Request.{Request}
use Rattle.chi_cli.specs.declared.request.Request.TheVariants as request
use Rattle.chi_cli.specs.declared.fault.CliFault.TheVariants as fault
use Rattle.chi_cli.specs.declared.words.TheConstants.{MOST_STEPS}
use Rattle.chi_cli.specs.Requests.{request_of, IsRefused}
use Rattle.chi_lex.specs.declared.lexer.TheConstants.{MOST_BYTES}
use Rattle.chi_load.specs.declared.source.TheConstants.{MOST_MACHINES}
use Rattle.chi_load.specs.Factory.{factory_source}
use Rattle.chi_load.proofs.Short.{source_short}
use Rattle.chi_tool.specs.Settings.{IsBounded, IsBoundedPair}
use Rattle.chi_tool.specs.declared.task.Task.{Task}
use Rattle.chi_tool.specs.declared.task.Task.TheVariants.{OfFile, OfPair, OfLog, OfFactory, OfTopic}
use Rattle.chi_tool.specs.Words.{Wish, nothing, of_task, task_of, is_refusal, wish_by, wish_of}
use Rattle.chi_tool.proofs.LawClauses.{RangeLaw}

-- what is asked for is within what is counted
abbrev pub IsBoundedWish : Wish → Type 0
IsBoundedWish nothing = Unit {0}
IsBoundedWish (of_task (OfFile name purpose)) = IsBounded purpose
IsBoundedWish (of_task (OfPair pair)) = IsBoundedPair pair.purpose
IsBoundedWish (of_task (OfLog name)) = Unit {0}
IsBoundedWish (of_task (OfFactory size)) = (1 ≤ size) × (size ≤ MOST_MACHINES)
IsBoundedWish (of_task (OfTopic topic)) = Unit {0}

counted : (bound : ℕ) → bound ≤ MOST_STEPS → bound < 2 ^ 63
counted bound most = omega arith

by_reading : RangeLaw → (words : List (List ℕ)) (o : Result Request CliFault) → request_of words ≡ o → IsBoundedWish (wish_by o)
by_reading law words (Err fault) is = tt
by_reading law words (Ok (request.Sim file texts seed bound until pick trace probe)) is = counted bound (law words _ is).1
by_reading law words (Ok (request.Explain file texts seed bound until pick)) is = counted bound (law words _ is).1
by_reading law words (Ok (request.Xper file seed bound pick)) is = counted bound (law words _ is).1
by_reading law words (Ok (request.Check file)) is = tt
by_reading law words (Ok (request.Code file)) is = tt
by_reading law words (Ok (request.Fmt file)) is = tt
by_reading law words (Ok (request.Load n)) is = law words _ is
by_reading law words (Ok (request.Replay file picks texts seed bound until trace)) is = counted bound (law words _ is).1
by_reading law words (Ok (request.Judge file log texts seed bound until)) is = tt
by_reading law words (Ok (request.Picks file log texts seed bound until)) is = tt
by_reading law words (Ok (request.TraceUp file)) is = tt
by_reading law words (Ok (request.Help topic)) is = tt

-- the source of a factory is within the limit
pub factory_within : (size : ℕ) → (1 ≤ size) × (size ≤ MOST_MACHINES) → length (factory_source size) ≤ MOST_BYTES
factory_within size bounded = let short = source_short size bounded.1 in omega arith

pub bounded_wish : RangeLaw → (words : List (List ℕ)) → IsBoundedWish (wish_of words)
bounded_wish law words = by_reading law words (request_of words) refl

-- what words ask for, by what reading them answers

module _ (words : List (List ℕ)) where
  pub wish_task : (asked : Request) (t : Task) → request_of words ≡ Ok asked → t ≡ task_of asked → wish_of words ≡ of_task t
  wish_task asked t read is = ap wish_by read ∙ ap of_task (sym is)

  pub wish_nothing : (f : CliFault) → is_refusal f ≡ true → IsRefused (request_of words) f → wish_of words ≡ nothing
  wish_nothing fault.Usage is refused = ap wish_by refused
  wish_nothing fault.Command is refused = ap wish_by refused
  wish_nothing fault.BadNumber is refused = ap wish_by refused
  wish_nothing fault.NoMemory is refused = absurd (cc)
