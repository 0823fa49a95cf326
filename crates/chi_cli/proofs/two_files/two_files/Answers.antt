-- The words after the file are what the matches give as arguments.
use Rattle.std.proofs.Common.{◌∙◌, codes, sym}
use Rattle.clap.specs.Words.{found_of, rows_of}
use Rattle.chi_cli.specs.Saying.{texts}
use Rattle.chi_cli.proofs.Asking.{no_second, two_given, two_refused}
use Rattle.chi_cli.proofs.Parsed.{all_texts}
use Rattle.chi_cli.proofs.two_files.two_files.Goals as goal

pub returns-in-Some-get_strs-clause-asked : goal.returns-in-Some-get_strs-clause-asked
returns-in-Some-get_strs-clause-asked c =
    two_given (rows_of (found_of c.args.matches.now)) c.in-Some.file.now (texts c.in-Some-get_strs.words.now) (sym c.in-Some.ensures)
    (sym (all_texts (found_of c.args.matches.now) (codes "args")) ∙ sym c.in-Some-get_strs.ensures) c.file_with.result c.file_with.ensures.asked

pub returns-in-Some-get_strs-clause-fault : goal.returns-in-Some-get_strs-clause-fault
returns-in-Some-get_strs-clause-fault c =
    two_refused (rows_of (found_of c.args.matches.now)) c.in-Some.file.now (texts c.in-Some-get_strs.words.now) (sym c.in-Some.ensures)
    (sym (all_texts (found_of c.args.matches.now) (codes "args")) ∙ sym c.in-Some-get_strs.ensures) c.file_with.result c.file_with.ensures.fault

pub returns-in-None-clause-fault : goal.returns-in-None-clause-fault
returns-in-None-clause-fault c command said gives =
    no_second command said (rows_of (found_of c.args.matches.now)) gives (sym (all_texts (found_of c.args.matches.now) (codes "args")) ∙ sym c.in-None.ensures)
