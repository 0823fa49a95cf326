-- The stored closure gives, for each question, what the list has.
use Rattle.std.proofs.Common.{◌∙◌, ℕ, sym}
use Rattle.chi_sched.specs.Policies.{listed}
use Rattle.chi_sched.proofs.Boxed.{lawful_box, read_alike}
use Rattle.chi_sched.specs.Formulas.{listed_below}
use Rattle.chi.proofs.tests.library.expect_replayed.OwnLists.{own-1, at-1-1}
use Rattle.chi.proofs.tests.library.expect_replayed.Goals as goal

pub new-policy-requires : goal.new-policy-requires
new-policy-requires g c =
    let kept = λ (question count : ℕ). read_alike c.in_ok-pick.ensures.ok (λ b. listed b.0.items question count) in
    record {
      lawful = lawful_box own-1 at-1-1 c.into_dyn_box.ensures.1 (listed c.args.picks.items)
          (λ question count asked. asked.some)
          (listed_below c.args.picks.items)
          (λ question count asked. sym (kept question count))
          (λ question count answer asked told. told ∙ kept question count);
    }
