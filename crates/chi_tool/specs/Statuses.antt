-- The statuses with which the program ends.
use Rattle.std.specs.Prelude.{ℕ}
use Rattle.chi_core.specs.declared.verdict.Verdict.{Verdict}
use Rattle.chi_core.specs.declared.verdict.Verdict.TheVariants as verdict
use Rattle.chi_xper_machines.specs.declared.tale.Ended.{Ended}
use Rattle.chi_xper_machines.specs.declared.tale.Ended.TheVariants as ended

-- a run has ended by itself

abbrev pub completed : ℕ
completed = 0

abbrev pub exited : ℕ
exited = 10

abbrev pub deadlocked : ℕ
deadlocked = 11

abbrev pub faulted : ℕ
faulted = 12

-- or was cut off

abbrev pub out_of_steps : ℕ
out_of_steps = 13

abbrev pub stopped : ℕ
stopped = 14

-- the status of a run, by its verdict
abbrev pub status_of : Verdict → ℕ
status_of verdict.Completed = completed
status_of (verdict.Exit v) = exited
status_of verdict.Deadlock = deadlocked
status_of (verdict.Fault kind name line) = faulted
status_of verdict.OutOfSteps = out_of_steps
status_of verdict.Stopped = stopped

-- an experiment has ended with a run that has no value for it

abbrev pub without_value : ℕ
without_value = 15

-- or the program has no experiment

abbrev pub no_experiment : ℕ
no_experiment = 28

-- the status of an experiment, by how it ended
abbrev pub status_of_trial : Ended → ℕ
status_of_trial ended.Missing = no_experiment
status_of_trial ended.Completed = completed
status_of_trial ended.WithoutValue = without_value
status_of_trial ended.Deadlocked = deadlocked
status_of_trial ended.Faulted = faulted
status_of_trial ended.OutOfSteps = out_of_steps

-- or nothing is run: a program that was to be checked is accepted

abbrev pub accepted : ℕ
accepted = 0

-- or its code is listed

abbrev pub listed : ℕ
listed = 0

-- or a source is laid out, or its layout has more bytes than a source may have

abbrev pub laid_out : ℕ
laid_out = 0

abbrev pub layout_too_long : ℕ
layout_too_long = 27

-- the words are no request

abbrev pub no_request : ℕ
no_request = 3

-- the file can't be read

abbrev pub not_read : ℕ
not_read = 4

-- the source has a lexical fault

abbrev pub lexical : ℕ
lexical = 20

-- its tokens are no program

abbrev pub syntax : ℕ
syntax = 21

-- the source is a program that breaks a rule

abbrev pub typing : ℕ
typing = 22

-- the arguments don't fit the model's parameters

abbrev pub arguments : ℕ
arguments = 23

-- the picks of a run don't fit

abbrev pub mispicked : ℕ
mispicked = 26

-- a text is a log that a program can give, and it is judged, or its picks are told; or the program can't give it

abbrev pub judged : ℕ
judged = 0

abbrev pub picks_told : ℕ
picks_told = 0

abbrev pub no_log : ℕ
no_log = 25

-- a log that is to be brought up is, or one of its lines doesn't fit

abbrev pub brought_up : ℕ
brought_up = 0

abbrev pub misfit : ℕ
misfit = 24

-- help is told

abbrev pub helped : ℕ
helped = 0

-- or the report isn't delivered: a sink failed

abbrev pub not_written : ℕ
not_written = 5

-- or memory is wanting

abbrev pub no_memory : ℕ
no_memory = 6
