-- Words have one answer.
use Rattle.std.proofs.Common.{◌≡◌, ◌≢◌, ◌∙◌, List, Result, Ok, Err, refl, sym}
use Rattle.chi_cli.specs.declared.fault.CliFault.{CliFault}
use Rattle.chi_cli.specs.declared.fault.CliFault.TheVariants as fault
use Rattle.chi_cli.specs.declared.request.Request.{Request}
use Rattle.chi_cli.specs.Commands.{Text}
use Rattle.chi_cli.specs.Requests.{request_of}
use Rattle.chi_cli.specs.Answers.{IsAnswer}

answer_is : (words : List Text) (answer : Result Request CliFault) → IsAnswer words answer → answer ≢ Err fault.NoMemory → request_of words ≡ answer
answer_is words (Ok request) is some = is
answer_is words (Err fault.NoMemory) is some = absurd (some refl)
answer_is words (Err fault.Usage) is some = is
answer_is words (Err fault.Command) is some = is
answer_is words (Err fault.BadNumber) is some = is

pub one_answer : (words : List Text) (answer other : Result Request CliFault) → IsAnswer words answer → IsAnswer words other
    → answer ≢ Err fault.NoMemory → other ≢ Err fault.NoMemory → answer ≡ other
one_answer words answer other is has some there = sym (answer_is words answer is some) ∙ answer_is words other has there
