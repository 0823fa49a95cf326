use Rattle.std.proofs.Common.{◌≡◌, ◌<◌, ℕ, length, Option, rules, refl, ◌∙◌, arith}
use Rattle.std.specs.Prelude.{option_and_then, slice_get}
use Rattle.chi_machine_laws.specs.Instances.{Held}
use Rattle.chi_machine_events.specs.Events.{turn_line}
use Rattle.chi_machine.specs.declared.instance.Instance.{Instance}
use Rattle.chi_machine.specs.Views.{all_held}
use Rattle.chi_machine_told.proofs.Found.{within, read, told_by}
use Rattle.chi_machine_told.proofs.places.line_of.Goals as goal

pub index-requires : goal.index-requires
index-requires c =
    let is = c.args.world.now.crowd.instances.items in
    let f : Held → Option (ℕ) = λ h. turn_line (slice_get c.args.code.now.instrs h.at) in
    let h : c.args.pid < length is = within is c.args.world.now.crowd.agenda.phases c.args.pid f c.requires in
    omega (arith, h, c.args.world.now.crowd.instances.ok.0)

pub line_at-requires : goal.line_at-requires
line_at-requires c =
    let is = c.args.world.now.crowd.instances.items in
    let ps = c.args.world.now.crowd.agenda.phases in
    let f : Held → Option (ℕ) = λ h. turn_line (slice_get c.args.code.now.instrs h.at) in
    let g : Instance → Option (ℕ) = λ i. turn_line (slice_get c.args.code.now.instrs i.at) in
    let h : c.args.pid < length is = within is ps c.args.pid f c.requires in
    let i = c.index.result.now in
    let told : option_and_then f (slice_get (all_held is ps) c.args.pid) ≡ g i = told_by is ps c.args.pid f g (λ i phase. refl) i (read is ps c.args.pid i h (search rules)) c.requires in
    λ none. c.requires (told ∙ none)

pub returns : goal.returns
returns c =
    let is = c.args.world.now.crowd.instances.items in
    let ps = c.args.world.now.crowd.agenda.phases in
    let f : Held → Option (ℕ) = λ h. turn_line (slice_get c.args.code.now.instrs h.at) in
    let g : Instance → Option (ℕ) = λ i. turn_line (slice_get c.args.code.now.instrs i.at) in
    let h : c.args.pid < length is = within is ps c.args.pid f c.requires in
    let i = c.index.result.now in
    let told : option_and_then f (slice_get (all_held is ps) c.args.pid) ≡ g i = told_by is ps c.args.pid f g (λ i phase. refl) i (read is ps c.args.pid i h (search rules)) c.requires in
    told ∙ c.line_at.ensures
