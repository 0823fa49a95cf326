use Rattle.std.proofs.Common.{arith, refl, subst}
use Rattle.chi_judge.specs.declared.reader.Told.{Told}
use Rattle.chi_judge.specs.Reading.{IsRead}
use Rattle.chi_judge.proofs.Judgements.{begins, ends, goes_on, grown, line_shorter, none_more, wrong}
use Rattle.chi_judge.proofs.judging.judge_lines.Goals as goal

pub line-init : goal.line-init
line-init c =
    begins c.args.core.now c.requires.sound c.args.reader.runner.stage c.args.reader.left c.args.lines.now c.args.out.now.items c.reading_law.ensures.begins c.args.reader c.requires.same_core
    refl c.requires.first refl c.requires.none

pub read_line-requires-clause-same_core : goal.read_line-requires-clause-same_core
read_line-requires-clause-same_core c = c.line.invariant.same_core

pub read_line-requires-clause-early : goal.read_line-requires-clause-early
read_line-requires-clause-early c =
    let early = c.line.invariant.early in
    let few = c.line.invariant.few in
    let short = c.requires.short in
    omega (arith, early, few, short)

pub overflow_add-count : goal.overflow_add-count
overflow_add-count c =
    let few = c.line.invariant.few in
    let short = c.requires.short in
    omega (arith, few, short)

pub line-smaller : goal.line-smaller
line-smaller c =
    let cut = c.in-Some.ensures in
    let shorter = line_shorter _ _ _ cut.0 cut.1 in
    omega (arith, shorter)

pub line-preserved : goal.line-preserved
line-preserved c =
    let cut = c.in-Some.ensures in
    let read = c.in-Ok-Label.ensures in
    let told = subst (λ (told : Told). IsRead c.args.core.now c.in-Some.line.now c.line.reader c.read_line.new.reader c.line.out.items c.read_line.new.out.items told) c.in-Ok-Label.field-0-is c.in-Ok-Label.ensures.read in
    goes_on _ c.requires.sound _ _ _ _ _ _ _ _ c.line.invariant c.reading_law.ensures.on _ _ _ _ cut.1 cut.0 told read.same_core read.early

pub at_last-requires : goal.at_last-requires
at_last-requires c =
    let few = c.line.invariant.few in
    let short = c.requires.short in
    omega (arith, few, short)

pub returns-in-Ok-Ending : goal.returns-in-Ok-Ending
returns-in-Ok-Ending c =
    let cut = c.in-Some.ensures in
    let told = subst (λ (told : Told). IsRead c.args.core.now c.in-Some.line.now c.line.reader c.read_line.new.reader c.line.out.items c.read_line.new.out.items told) c.in-Ok-Ending.field-0-is c.in-Ok-Ending.ensures.read in
    let law = c.reading_law.ensures in
    λ begin is begun.
    ends _ c.requires.sound _ _ _ _ _ _ _ _ c.line.invariant begin is begun _ _ _ _ cut.0 cut.1 law.ends law.after_end told _ c.at_last.ensures.yes c.at_last.ensures.no

pub returns-in-Ok-Nothing : goal.returns-in-Ok-Nothing
returns-in-Ok-Nothing c =
    let cut = c.in-Some.ensures in
    let told = subst (λ (told : Told). IsRead c.args.core.now c.in-Some.line.now c.line.reader c.read_line.new.reader c.line.out.items c.read_line.new.out.items told) c.in-Ok-Nothing.field-0-is c.in-Ok-Nothing.ensures.read in
    let law = c.reading_law.ensures in
    λ begin is begun.
    wrong _ c.requires.sound _ _ _ _ _ _ _ _ c.line.invariant begin is begun c.read_line.new.reader _ _ _ cut.0 cut.1 law.wrong law.too_dear _ refl told

pub returns-in-Err : goal.returns-in-Err
returns-in-Err c =
    λ begin is begun.
    grown _ c.requires.sound _ _ _ _ _ _ _ _ c.line.invariant begin is begun _ c.in-Err.ensures.kept

pub returns : goal.returns
returns c =
    λ begin is begun.
    none_more _ c.requires.sound _ _ _ _ _ _ _ _ c.line.invariant begin is begun c.reading_law.ensures.none _ refl c.in_default.ensures
