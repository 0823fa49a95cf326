use Rattle.std.proofs.Common.{◌≡◌, Some, None}
use Rattle.std.specs.Prelude.{Ok}
use Rattle.chi_machine.specs.declared.machine.Machine.TheVariants.{Going}
use Rattle.chi_machine.proofs.Called.{call_kept, call_goes, call_ends}
use Rattle.chi_machine.proofs.machine.Machine.advance.Goals as goal

pub returns-in-Ok-None-clause-kept : goal.returns-in-Ok-None-clause-kept
returns-in-Ok-None-clause-kept g c =
    let by = c.chooser_law.ensures in
    let came : c.advance-came.result ≡ Ok None = (let a = c.in-Ok-None.is in let b = c.in-Ok-None.field-0-is in cc) in
    call_kept c.args.code.now (g.C.Chooser.gives c.args.chooser.now) c.args.turns c.args.out.now.items c.advance-came.new.out.items c.in-Going.course c.advance-came.new.self c.advance-came.result came c.advance-came.ensures.advanced by.0 by.1

pub returns-in-Ok-None-clause-called : goal.returns-in-Ok-None-clause-called
returns-in-Ok-None-clause-called g c =
    let came : c.advance-came.result ≡ Ok None = (let a = c.in-Ok-None.is in let b = c.in-Ok-None.field-0-is in cc) in
    let was : c.args.self.now ≡ Going c.in-Going.course = (let a = c.in-Going.is in cc) in
    call_goes c.args.code.now (g.C.Chooser.gives c.args.chooser.now) c.args.turns c.args.out.now.items c.advance-came.new.out.items c.in-Going.course c.advance-came.new.self c.args.self.now was c.advance-came.result came c.advance-came.ensures.advanced

pub returns-in-Ok-Some-clause-called : goal.returns-in-Ok-Some-clause-called
returns-in-Ok-Some-clause-called g c =
    let came : c.advance-came.result ≡ Ok (Some c.in-Ok-Some.ending) = (let a = c.in-Ok-Some.is in let b = c.in-Ok-Some.field-0-is in cc) in
    let was : c.args.self.now ≡ Going c.in-Going.course = (let a = c.in-Going.is in cc) in
    call_ends c.args.code.now (g.C.Chooser.gives c.args.chooser.now) c.args.turns c.args.out.now.items c.advance-came.new.out.items c.in-Going.course c.advance-came.new.self c.args.self.now was c.in-Ok-Some.ending c.advance-came.result came c.advance-came.ensures.advanced
