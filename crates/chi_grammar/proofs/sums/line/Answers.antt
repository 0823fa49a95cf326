use Rattle.std.proofs.Common.{◌==◌, ◌||◌, ◌∙◌}
use Rattle.chi_grammar.specs.Rules.{part}
use Rattle.chi_grammar.specs.RuleRuns as runs
use Rattle.chi_grammar.specs.Sample.{Line, sample, sample_table, has_round, open_round}
use Rattle.chi_grammar.proofs.Exits.{read, run_word, run_no_word, failed}
use Rattle.chi_grammar.proofs.SampleLemmas.{or_false}
use Rattle.chi_grammar.proofs.sums.line.Goals as goal

pub sum-requires-clause-inside : goal.sum-requires-clause-inside
sum-requires-clause-inside c = (c.in_ok-sign.ensures c.args.room).inside

pub returns-in_err-sign : goal.returns-in_err-sign
returns-in_err-sign c =
    failed sample sample_table _ has_round _ (part Line) _ _ _ c.from_residual.ensures.1
    (runs.part_fails (runs.first_fails (c.in_err-sign.ensures c.args.room)))

pub returns-in_err-found : goal.returns-in_err-found
returns-in_err-found c =
    let start = c.in_ok-sign.ensures c.args.room in
    failed sample sample_table _ has_round _ (part Line) _ _ _ c.from_residual-in_err-found.ensures.1
    (runs.part_fails (runs.next_fails start.runs (runs.test_fails c.in_err-found.ensures)))

pub returns-in_err-last : goal.returns-in_err-last
returns-in_err-last c =
    let start = c.in_ok-sign.ensures c.args.room in
    let sum = c.in_ok-found.ensures in
    failed sample sample_table _ has_round _ (part Line) _ _ _ c.from_residual-in_err-last.ensures.1
    (runs.part_fails (runs.next_fails start.runs (runs.chosen_fails sum.runs (sum.shows ∙ c.if-found.true) (c.in_err-last.ensures c.args.room))))

pub returns-then-found : goal.returns-then-found
returns-then-found c =
    let start = c.in_ok-sign.ensures c.args.room in
    let sum = c.in_ok-found.ensures in
    let last = c.in_ok-last.ensures c.args.room in
    read sample sample_table _ has_round c.requires.inside
    (runs.part (runs.both start.runs (runs.chosen sum.runs (sum.shows ∙ c.if-found.true) last.runs)))
    (λ i. start.shows i || (sum.shows i || last.shows i))

pub returns-in_err-end : goal.returns-in_err-end
returns-in_err-end c =
    let start = c.in_ok-sign.ensures c.args.room in
    let sum = c.in_ok-found.ensures in
    failed sample sample_table _ has_round _ (part Line) _ _ _ c.from_residual-in_err-end.ensures.1
    (runs.part_fails
    (runs.next_fails start.runs
    (runs.otherwise_fails sum.runs (sum.shows ∙ c.if-found.false) (run_no_word sample sample_table _ c.in_err-end.ensures))))

pub returns : goal.returns
returns c =
    let start = c.in_ok-sign.ensures c.args.room in
    let sum = c.in_ok-found.ensures in
    let sign = c.in_ok-end.ensures in
    read sample sample_table _ has_round c.requires.inside
    (runs.part (runs.both start.runs (runs.otherwise sum.runs (sum.shows ∙ c.if-found.false) (run_word sample sample_table _ sign))))
    ((λ i. start.shows i || (sum.shows i || (sign.of_class i == open_round))) ∙ (λ i. c.in_ok-sign.sign || or_false c.in_ok-found.found i))
