-- What the words of the command line may be answered with.
use Rattle.std.specs.Prelude.{◌≡◌, List, Result, Ok, MatchResult}
use Rattle.chi_cli.specs.declared.fault.CliFault.{CliFault}
use Rattle.chi_cli.specs.declared.request.Request.{Request}
use Rattle.chi_cli.specs.Commands.{Text}
use Rattle.chi_cli.specs.Requests.{IsRefused, request_of}

-- the request of the words, or why they are none; or want of memory
abbrev pub IsAnswer : List Text → Result Request CliFault → Type 0
IsAnswer words answer = MatchResult answer (λ request. request_of words ≡ Ok request) (IsRefused (request_of words))
