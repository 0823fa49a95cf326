use Rattle.chi_engine.specs.Settings.{settings_of}
use Rattle.chi_xper_machines.proofs.Made.{wrote_all}
use Rattle.chi_xper_machines.proofs.runner.gather.Goals as goal

pub returns-in-Ok : goal.returns-in-Ok
returns-in-Ok c = λ core runs.
    wrote_all core (settings_of c.args.job) c.args.sink.now.bytes.items c.run-ran.new.out.bytes.items _ _ (c.in-Ok.ensures.comes core runs).1 c.requires.empty
