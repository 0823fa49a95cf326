use Rattle.std.proofs.Common.{◌≡◌, ◌∙◌, length, vec_len, subst}
use Rattle.chi_core.specs.Beginning.{start}
use Rattle.chi_judge.specs.declared.judged.Judged.{Judged}
use Rattle.chi_judge.specs.Reading.{IsJudgedSoFar}
use Rattle.chi_judge.proofs.Judgements.{back_no, back_none, begun_is}
use Rattle.chi_judge.proofs.judging.judge.Goals as goal

pub returns-in-Yes : goal.returns-in-Yes
returns-in-Yes c =
    let core = c.args.core.now in
    let args = c.args.arguments.items in
    let begin = start core args c.args.seed c.args.until in
    let so_far =
    subst (λ (judged : Judged). IsJudgedSoFar core begin c.args.bound c.args.text.now c.args.out.now.items c.judge_text.new.out.items judged) c.in-Yes.is
    (c.judge_text.ensures begin (begun_is core c.requires.sound args c.args.seed c.args.until c.requires.arguments) c.in-Ok.ensures.start) in
    so_far

pub returns-in-No : goal.returns-in-No
returns-in-No c =
    let written : vec_len c.args.out.now ≡ length c.args.out.now.items = c.args.out.now.ok.0 in
    let core = c.args.core.now in
    let args = c.args.arguments.items in
    let begin = start core args c.args.seed c.args.until in
    let so_far =
    subst (λ (judged : Judged). IsJudgedSoFar core begin c.args.bound c.args.text.now c.args.out.now.items c.judge_text.new.out.items judged) c.in-No.is
    (c.judge_text.ensures begin (begun_is core c.requires.sound args c.args.seed c.args.until c.requires.arguments) c.in-Ok.ensures.start) in
    back_no core begin c.args.bound c.args.text.now c.args.out.now.items c.judge_text.new.out.items c.truncate.new.self.items c.len-written.result (c.len-written.ensures ∙ written) c.truncate.ensures.items
    c.in-No.line so_far

pub returns-in-NoMemory : goal.returns-in-NoMemory
returns-in-NoMemory c =
    let written : vec_len c.args.out.now ≡ length c.args.out.now.items = c.args.out.now.ok.0 in
    let core = c.args.core.now in
    let args = c.args.arguments.items in
    let begin = start core args c.args.seed c.args.until in
    let so_far =
    subst (λ (judged : Judged). IsJudgedSoFar core begin c.args.bound c.args.text.now c.args.out.now.items c.judge_text.new.out.items judged) c.in-NoMemory.is
    (c.judge_text.ensures begin (begun_is core c.requires.sound args c.args.seed c.args.until c.requires.arguments) c.in-Ok.ensures.start) in
    back_none core begin c.args.bound c.args.text.now c.args.out.now.items c.judge_text.new.out.items c.truncate-in-NoMemory.new.self.items c.len-written.result (c.len-written.ensures ∙ written) c.truncate-in-NoMemory.ensures.items
    so_far
