use Rattle.std.proofs.Common.{◌≡◌, ◌≢◌, rules, Some, None, refl, sym, ap, ◌∙◌}
use Rattle.std.specs.Prelude.{slice_get}
use Rattle.chi_machine_runs.specs.Kept.{kept_from}
use Rattle.chi_machine_runs.specs.Resuming.{resumed_at}
use Rattle.chi_machine_runs.proofs.Resumed.{offer_there, kept_there, resumed_within, binds_well, fills_well, resumes}
use Rattle.chi_machine_runs.proofs.opened.Opened.resume.Goals as goal

pub bind_all-requires : goal.bind_all-requires
bind_all-requires c =
    let os = c.self.inside.offers.items in
    let ks = c.self.inside.kept.items in
    let bs = c.self.inside.bindings.items in
    let a = c.args.a in
    let x = c.args.received in
    let variables = c.args.variables.now in
    let o = c.index.result.now in
    let k = c.index-kept.result.now in
    let same : kept_from 0 os ks bs ≡ c.args.self.now = search rules in
    let well : resumed_at (kept_from 0 os ks bs) a x variables ≢ None = λ none. c.requires (ap (λ l. resumed_at l a x variables) (sym same) ∙ none) in
    let e : slice_get os a ≡ Some o = offer_there os os a o o refl (resumed_within a os ks bs x variables well) (search rules) refl in
    let f : slice_get ks a ≡ Some k = kept_there os ks bs a o k c.self.invariant e (search rules) in
    binds_well a os ks bs o k x variables e f well

pub fill-requires : goal.fill-requires
fill-requires c =
    let os = c.self.inside.offers.items in
    let ks = c.self.inside.kept.items in
    let bs = c.self.inside.bindings.items in
    let a = c.args.a in
    let x = c.args.received in
    let variables = c.args.variables.now in
    let o = c.index.result.now in
    let k = c.index-kept.result.now in
    let same : kept_from 0 os ks bs ≡ c.args.self.now = search rules in
    let well : resumed_at (kept_from 0 os ks bs) a x variables ≢ None = λ none. c.requires (ap (λ l. resumed_at l a x variables) (sym same) ∙ none) in
    let e : slice_get os a ≡ Some o = offer_there os os a o o refl (resumed_within a os ks bs x variables well) (search rules) refl in
    let f : slice_get ks a ≡ Some k = kept_there os ks bs a o k c.self.invariant e (search rules) in
    fills_well a os ks bs o k x variables e f c.bind_all.new.variables c.slot_in-slot.result c.bind_all.ensures.bound c.slot_in-slot.ensures well

pub returns-clause-resumed : goal.returns-clause-resumed
returns-clause-resumed c =
    let os = c.self.inside.offers.items in
    let ks = c.self.inside.kept.items in
    let bs = c.self.inside.bindings.items in
    let a = c.args.a in
    let x = c.args.received in
    let variables = c.args.variables.now in
    let o = c.index.result.now in
    let k = c.index-kept.result.now in
    let same : kept_from 0 os ks bs ≡ c.args.self.now = search rules in
    let well : resumed_at (kept_from 0 os ks bs) a x variables ≢ None = λ none. c.requires (ap (λ l. resumed_at l a x variables) (sym same) ∙ none) in
    let e : slice_get os a ≡ Some o = offer_there os os a o o refl (resumed_within a os ks bs x variables well) (search rules) refl in
    let f : slice_get ks a ≡ Some k = kept_there os ks bs a o k c.self.invariant e (search rules) in
    ap (λ l. resumed_at l a x variables) (sym same)
    ∙ resumes a os ks bs o k x variables e f c.bind_all.new.variables c.fill.new.variables c.slot_in-slot.result c.bind_all.ensures.bound c.slot_in-slot.ensures c.fill.ensures
