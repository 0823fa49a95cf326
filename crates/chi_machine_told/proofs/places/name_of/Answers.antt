use Rattle.std.proofs.Common.{◌≡◌, ◌<◌, ℕ, List, length, Option, Some, rules, refl, sym, subst, ◌∙◌, arith}
use Rattle.std.specs.Prelude.{IfOk, option_and_then, slice_get}
use Rattle.chi_machine_laws.specs.Instances.{Held}
use Rattle.chi_machine_laws.specs.Labels.{name_at}
use Rattle.chi_machine.specs.declared.instance.Instance.{Instance}
use Rattle.chi_machine.specs.Views.{all_held}
use Rattle.chi_machine_told.proofs.Found.{within, read, told_by}
use Rattle.chi_machine_told.proofs.places.name_of.Goals as goal

pub index-requires : goal.index-requires
index-requires c =
    let is = c.args.world.now.crowd.instances.items in
    let f : Held → Option (List ℕ) = λ h. name_at c.args.code.now h.definition in
    let h : c.args.pid < length is = within is c.args.world.now.crowd.agenda.phases c.args.pid f c.requires in
    omega (arith, h, c.args.world.now.crowd.instances.ok.0)

pub name_at-requires : goal.name_at-requires
name_at-requires c =
    let is = c.args.world.now.crowd.instances.items in
    let ps = c.args.world.now.crowd.agenda.phases in
    let f : Held → Option (List ℕ) = λ h. name_at c.args.code.now h.definition in
    let g : Instance → Option (List ℕ) = λ i. name_at c.args.code.now i.process in
    let h : c.args.pid < length is = within is ps c.args.pid f c.requires in
    let i = c.index.result.now in
    let told : option_and_then f (slice_get (all_held is ps) c.args.pid) ≡ g i = told_by is ps c.args.pid f g (λ i phase. refl) i (read is ps c.args.pid i h (search rules)) c.requires in
    λ none. c.requires (told ∙ none)

pub returns : goal.returns
returns c =
    let is = c.args.world.now.crowd.instances.items in
    let ps = c.args.world.now.crowd.agenda.phases in
    let f : Held → Option (List ℕ) = λ h. name_at c.args.code.now h.definition in
    let g : Instance → Option (List ℕ) = λ i. name_at c.args.code.now i.process in
    let h : c.args.pid < length is = within is ps c.args.pid f c.requires in
    let i = c.index.result.now in
    let told : option_and_then f (slice_get (all_held is ps) c.args.pid) ≡ g i = told_by is ps c.args.pid f g (λ i phase. refl) i (read is ps c.args.pid i h (search rules)) c.requires in
    subst (λ (o : Option (List ℕ)). IfOk c.name_at.result (λ name. o ≡ Some name)) (sym told) c.name_at.ensures
