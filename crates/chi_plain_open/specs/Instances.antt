-- Private to proofs: what an instance stands for.
use Rattle.std.specs.Prelude.{drop}
use Rattle.chi_core.specs.Config as config
use Rattle.chi_core.specs.Config.{Instance, Offer}
use Rattle.chi_plain_open.specs.declared.instance.State.{State}
use Rattle.chi_plain_open.specs.declared.instance.State.TheVariants.{Running, Waiting, Joining, Finished}

abbrev pub state_of : State → config.State
state_of Running = config.Running
state_of (Waiting offers) = config.Waiting offers.items
state_of (Joining numbers) = config.Joining numbers.items
state_of Finished = config.Finished

-- an instance without the item that comes first
abbrev pub rest_of : Instance → Instance
rest_of i = record i { term = drop 1 i.term }
