use Rattle.std.proofs.Common.{◌∙◌, ap, sym, subst}
use Rattle.std.specs.Prelude.{◌↔◌, IsTrue, Contains}
use Rattle.chi_core.specs.declared.label.Label.TheVariants.{Advance}
use Rattle.chi_plain.specs.Stage.{Stage, Runner, enabled_at}
use Rattle.chi_plain.specs.Progressing.{stage_of}
use Rattle.chi_plain.proofs.plain.Plain.can_advance.Goals as goal

pub returns-in-At : goal.returns-in-At
returns-in-At c =
    let P : Stage → Type 0 = λ s. IsTrue c.can_advance.result ↔ Contains (enabled_at s) Advance in
    record { advance = subst P (sym (ap stage_of c.in-At.is) ∙ ap (λ (r : Runner). r.stage) c.self.view_is) c.can_advance.ensures }
