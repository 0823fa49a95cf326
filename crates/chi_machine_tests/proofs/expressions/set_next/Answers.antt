use Rattle.chi_machine_tests.proofs.Constants.{goes_on, next_ready, next_stands}
use Rattle.chi_machine_tests.proofs.expressions.set_next.Goals as goal

pub set_constant-requires-clause-ready : goal.set_constant-requires-clause-ready
set_constant-requires-clause-ready g c =
    next_ready c.args.p.now.core c.args.p.now.code c.requires.has 0 c.args.exec.now.constants.items c.args.at c.requires.stand c.requires.more

pub returns-clause-stand : goal.returns-clause-stand
returns-clause-stand g c =
    let core = c.args.p.now.core in
    let code = c.args.p.now.code in
    let values = c.args.exec.now.constants.items in
    let stands = next_stands core code c.requires.has 0 values c.args.at c.requires.stand c.requires.more in
    let on =
    goes_on core code c.requires.has 0 values c.args.at c.requires.stand c.requires.more c.set_constant.new.self.constants.items c.set_constant.new.self.machine.at
    (c.in_ok-set_constant.ensures.rests core _ stands) (c.in_ok-set_constant.ensures.sets core _ stands) in
    on.0

pub returns-clause-count : goal.returns-clause-count
returns-clause-count g c =
    let core = c.args.p.now.core in
    let code = c.args.p.now.code in
    let values = c.args.exec.now.constants.items in
    let stands = next_stands core code c.requires.has 0 values c.args.at c.requires.stand c.requires.more in
    let on =
    goes_on core code c.requires.has 0 values c.args.at c.requires.stand c.requires.more c.set_constant.new.self.constants.items c.set_constant.new.self.machine.at
    (c.in_ok-set_constant.ensures.rests core _ stands) (c.in_ok-set_constant.ensures.sets core _ stands) in
    on.1
