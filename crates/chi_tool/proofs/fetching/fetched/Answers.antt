use Rattle.chi_tool.specs.Serving.{missing, long}
use Rattle.chi_tool.proofs.fetching.fetched.Goals as goal

pub returns-in-NoSuch-clause-refusal : goal.returns-in-NoSuch-clause-refusal
returns-in-NoSuch-clause-refusal g c = missing c.in-NoSuch.ensures.answer c.deliver.ensures

pub returns-in-TooLong-clause-refusal : goal.returns-in-TooLong-clause-refusal
returns-in-TooLong-clause-refusal g c = long c.in-TooLong.ensures.answer c.deliver-in-TooLong.ensures
