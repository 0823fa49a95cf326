-- Private to proofs: what comes of a run with an engine of the tests.
use Rattle.std.specs.Prelude.{◌≡◌, [], codes, pos}
use Rattle.chi_core.specs.declared.verdict.Verdict.TheVariants.{Completed}
use Rattle.chi_engine.specs.Courses.{Course, Runs}

-- it wrote three letters, nothing is logged, and it completed at once
abbrev pub abc : Course
abc = record { output = codes "abc"; log = []; ending = record { verdict = Completed; clock = pos 0 } }

-- whatever it was asked for
abbrev pub IsAbc : Runs
IsAbc core settings course = course ≡ abc
