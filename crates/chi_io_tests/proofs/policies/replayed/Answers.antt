-- What the stored closure gives is what the list has for each question.
use Rattle.std.proofs.Common.{◌∙◌, ℕ, refl, sym}
use borrow.Pointer.Called.{made_tells}
use Rattle.chi_sched.specs.Policies.{listed}
use Rattle.chi_sched.proofs.Boxed.{lawful_box, read_alike, told_alike}
use Rattle.chi_sched.specs.Formulas.{listed_below}
use Rattle.chi_io_tests.proofs.policies.replayed.OwnLists.{own-1, at-1-1}
use Rattle.chi_io_tests.proofs.policies.replayed.Goals as goal

pub new-policy-requires : goal.new-policy-requires
new-policy-requires c =
    let kept = λ (question count : ℕ). read_alike c.in_ok-pick.ensures.ok (λ b. listed b.0.items question count) in
    record {
      lawful = lawful_box own-1 at-1-1 c.into_dyn_box.ensures.1 (listed c.args.picks.items)
          (λ question count asked. asked.some)
          (listed_below c.args.picks.items)
          (λ question count asked. sym (kept question count))
          (λ question count answer asked told. told ∙ kept question count);
    }

pub returns : goal.returns
returns c =
    let told = told_alike c.new-policy.ensures.same
    (λ b. (own-1.entry b.vtable).1.post b.value (c.args.question, (c.args.count, tt)) c.choose.result) c.choose.ensures.given.1 in
    made_tells own-1 (own-1.entry at-1-1) at-1-1 refl c.into_dyn_box.ensures.1 (c.args.question, (c.args.count, tt)) c.choose.result told
    ∙ read_alike c.in_ok-pick.ensures.ok (λ b. listed b.0.items c.args.question c.args.count)
