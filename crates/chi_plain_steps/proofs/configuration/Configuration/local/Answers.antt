use Rattle.std.proofs.Common.{◌≡◌, ◌<◌, ◌∙◌, ℕ, [], Some, length, ap, sym, subst, refl, arith}
use Rattle.std.specs.Prelude.{Result, Err}
use Rattle.std.specs.List.{slice_get}
use Rattle.std.proofs.lemmas.List.{append-nil}
use Rattle.std.proofs.lemmas.Option.{slice_get_read, slice_get_within}
use Rattle.chi_core.specs.Config.{Config}
use Rattle.chi_core.specs.Step.{name_of}
use Rattle.chi_core_frame.specs.declared.stop.Stop.{Stop}
use Rattle.chi_plain_steps.specs.declared.deed.Done.{Done}
use Rattle.chi_plain_steps.specs.Takings.{StopsAs}
use Rattle.chi_plain_steps.proofs.Steps.{acts, stopped_takes}
use Rattle.chi_plain_steps.proofs.configuration.Configuration.local.Goals as goal

pub returns-in_ok-stopped-in-Err-clause-taken : goal.returns-in_ok-stopped-in-Err-clause-taken
returns-in_ok-stopped-in-Err-clause-taken c =
    let a = acts c.args.core.now c.args.self.now c.args.pid c.args.view c.requires in
    let there : c.args.pid < length c.args.self.now.instances = slice_get_within c.args.self.now.instances c.args.pid a.i a.at in
    let all : length c.self.inside.instances.items ≡ length c.args.self.now.instances = ap (λ (k : Config). length k.instances) c.self.view_is in
    let within : c.args.pid < length c.self.inside.instances.items = omega arith in
    let at : slice_get c.args.self.now.instances c.args.pid ≡ Some c.index.result.now
    = ap (λ (k : Config). slice_get k.instances c.args.pid) (sym c.self.view_is)
    ∙ slice_get_read c.self.inside.instances.items _ c.args.pid c.index.result.now refl within c.index.ensures in
    let P : ℕ → Type 0 = λ d. StopsAs c.in-Err.stop (name_of c.args.core.now d) c.line_at-line.result c.in_ok-stopped-in-Err.field-0 in
    let how = subst P c.definition-definition.ensures c.in_ok-stopped-in-Err.ensures in (
      [],
      c.in-Err.ensures.kept ∙ sym (append-nil c.args.out.now.items),
      stopped_takes c.args.core.now c.args.self.now c.perform.new.self c.args.pid c.args.view c.index.result.now c.line_at-line.result c.in-Err.stop _ c.requires at c.line_at-line.ensures
          c.in-Err.ensures.stops (λ e. c.in-Err.ensures.unchanged (ap (λ (s : Stop). let r : Result Done Stop = Err s in r) e)) how,
    )
