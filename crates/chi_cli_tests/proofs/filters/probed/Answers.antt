-- What the stored closure gives is what the filter shows.
use Rattle.std.proofs.Common.{◌∙◌, sym}
use Rattle.chi_trace.specs.declared.event.Event.{Event}
use Rattle.chi_trace.specs.Filters.{shows}
use Rattle.chi_cli_tests.proofs.Boxed.{faithful_box, read_alike}
use Rattle.chi_cli_tests.proofs.filters.probed.OwnLists.{own-1, at-1-1}
use Rattle.chi_cli_tests.proofs.filters.probed.Goals as goal

pub new-probe-requires : goal.new-probe-requires
new-probe-requires c =
    let kept = λ (event : Event). read_alike c.in_ok-test.ensures.ok (λ b. shows b.0 event) in
    record {
      faithful = faithful_box own-1 at-1-1 c.into_dyn_box.ensures.1 c.args.filter
          (λ event. tt)
          (λ event answer told. told ∙ kept event.now)
          (λ event answer is. is ∙ sym (kept event.now));
    }
