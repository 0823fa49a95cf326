-- Each argument is read, or is the fault.
use Rattle.std.proofs.Common.{◌≡◌, ◌<◌, ◌≤◌, ◌++◌, ◌∷◌, [], length, Some, None, arith, rules}
use Rattle.chi_types.specs.declared.ty.Ty.{out-Ty}
use Rattle.chi_cli.specs.Arguments.{value_in}
use Rattle.chi_cli.proofs.ReadValues.{fault_at, value_at, values_end}
use Rattle.chi_cli.proofs.reading.read_all.Goals as goal

pub returns-in-None-clause-fault : goal.returns-in-None-clause-fault
returns-in-None-clause-fault c =
    let is : value_in (out-Ty c.index-params-at.result) c.index-args-at.result ≡ None = search rules in
    let one : c.loop-at.at < length c.args.params.now = omega arith in
    let two : c.loop-at.at < length c.args.args.now = omega arith in
    fault_at c.args.params.now c.args.args.now c.loop-at.at c.index-params-at.result c.index-args-at.result c.loop-at.values.items _
    one two c.index-params-at.is c.index-args-at.is is c.loop-at.invariant

pub loop-at-preserved : goal.loop-at-preserved
loop-at-preserved c =
    let is : value_in (out-Ty c.index-params-at.result) c.index-args-at.result ≡ Some c.in-Some.value = search rules in
    let adds : c.push.new.self.items ≡ c.loop-at.values.items ++ c.in-Some.value ∷ [] = search rules in
    let one : c.loop-at.at < length c.args.params.now = omega arith in
    let two : c.loop-at.at < length c.args.args.now = omega arith in
    value_at c.args.params.now c.args.args.now c.loop-at.at c.index-params-at.result c.index-args-at.result c.loop-at.values.items
    c.push.new.self.items c.in-Some.value _ one two c.index-params-at.is c.index-args-at.is is adds c.loop-at.invariant

pub returns-clause-values : goal.returns-clause-values
returns-clause-values c =
    let past : length c.args.params.now ≤ c.loop-at.at = omega arith in
    values_end c.args.params.now c.args.args.now c.loop-at.at c.loop-at.values.items _ past c.loop-at.invariant
