use Rattle.std.proofs.Common.{◌≡◌, rules, sym, ◌∙◌, to_z, of_z, w64}
use Rattle.chi_dist.specs.Draws.{between, draws_of}
use Rattle.chi_dist.proofs.Sampled.{refuses_all, draws_bool_const, draws_int_const, draws_real_const, draws_int, draws_real, draws_bool, draws_count, draws_wait, mean_within}
use Rattle.chi_dist.proofs.counted.sample_after.Goals as goal

pub returns-in-Some-clause-refused : goal.returns-in-Some-clause-refused
returns-in-Some-clause-refused c =
    refuses_all c.args.seed c.args.taken.now c.args.dist.now c.in-Some.fault (search rules) c.requires.there (sym c.fault_of.ensures ∙ c.in-Some.is)

pub returns-in-ConstBool-clause-value : goal.returns-in-ConstBool-clause-value
returns-in-ConstBool-clause-value c = draws_bool_const (draws_of c.args.seed c.args.taken.now) c.args.dist.now c.in-ConstBool.value c.in-ConstBool.is

pub returns-in-ConstInt-clause-value : goal.returns-in-ConstInt-clause-value
returns-in-ConstInt-clause-value c =
    let same : to_z w64 (of_z w64 c.in-ConstInt.value) ≡ c.in-ConstInt.value = search rules in
    draws_int_const (draws_of c.args.seed c.args.taken.now) c.args.dist.now c.in-ConstInt.value _ c.in-ConstInt.is same

pub returns-in-ConstReal-clause-value : goal.returns-in-ConstReal-clause-value
returns-in-ConstReal-clause-value c = draws_real_const (draws_of c.args.seed c.args.taken.now) c.args.dist.now c.in-ConstReal.value c.in-ConstReal.is

pub returns-in-UniformInt-clause-value : goal.returns-in-UniformInt-clause-value
returns-in-UniformInt-clause-value c =
    let same : to_z w64 (of_z w64 c.between.result) ≡ between c.in-UniformInt.from c.in-UniformInt.to c.draw_after-word.result = search rules in
    draws_int (draws_of c.args.seed c.args.taken.now) (draws_of c.args.seed c.draw_after-word.new.taken) c.args.dist.now c.in-UniformInt.from c.in-UniformInt.to _ c.in-UniformInt.stream
    c.draw_after-word.result c.in-UniformInt.is (sym c.in_default.ensures) c.draw_after-word.ensures.draw same

pub returns-in-UniformReal-clause-value : goal.returns-in-UniformReal-clause-value
returns-in-UniformReal-clause-value c =
    let same : c.from_units.result ≡ between c.in-UniformReal.from c.in-UniformReal.to c.draw_after-word-in-UniformReal.result = search rules in
    draws_real (draws_of c.args.seed c.args.taken.now) (draws_of c.args.seed c.draw_after-word-in-UniformReal.new.taken) c.args.dist.now c.in-UniformReal.from c.in-UniformReal.to _ c.in-UniformReal.stream
    c.draw_after-word-in-UniformReal.result c.in-UniformReal.is (sym c.in_default.ensures) c.draw_after-word-in-UniformReal.ensures.draw same

pub returns-in-Bernoulli-clause-value : goal.returns-in-Bernoulli-clause-value
returns-in-Bernoulli-clause-value c =
    draws_bool (draws_of c.args.seed c.args.taken.now) (draws_of c.args.seed c.draw_after-word-in-Bernoulli.new.taken) c.args.dist.now c.in-Bernoulli.chance c.in-Bernoulli.stream
    c.draw_after-word-in-Bernoulli.result _ c.in-Bernoulli.is (sym c.in_default.ensures) c.draw_after-word-in-Bernoulli.ensures.draw c.succeeds.ensures

pub returns-in-Binomial-clause-value : goal.returns-in-Binomial-clause-value
returns-in-Binomial-clause-value c =
    draws_count (draws_of c.args.seed c.args.taken.now) (draws_of c.args.seed c.successes_after-count.new.taken) c.args.dist.now c.in-Binomial.trials c.in-Binomial.chance _ c.in-Binomial.stream
    c.trial_count.result c.successes_after-count.result c.in-Binomial.is (sym c.in_default.ensures) c.successes_after-count.ensures.count (search rules) (search rules)

pub returns-in-Exponential-clause-value : goal.returns-in-Exponential-clause-value
returns-in-Exponential-clause-value c =
    draws_wait (draws_of c.args.seed c.args.taken.now) (draws_of c.args.seed c.draw_after-word-in-Exponential.new.taken) c.args.dist.now c.in-Exponential.mean _ c.in-Exponential.stream
    c.draw_after-word-in-Exponential.result c.in-Exponential.is (sym c.in_default.ensures) c.draw_after-word-in-Exponential.ensures.draw c.exponential_units.ensures

pub exponential_units-requires-clause-above : goal.exponential_units-requires-clause-above
exponential_units-requires-clause-above c = (mean_within c.in-Exponential.mean (rw c.in-Exponential.is at (sym c.in_default.ensures))).0

pub exponential_units-requires-clause-most : goal.exponential_units-requires-clause-most
exponential_units-requires-clause-most c = (mean_within c.in-Exponential.mean (rw c.in-Exponential.is at (sym c.in_default.ensures))).1
