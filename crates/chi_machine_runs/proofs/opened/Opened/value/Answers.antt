use Rattle.std.proofs.Common.{◌≡◌, rules, Some, None, refl, sym, ap, ◌∙◌}
use Rattle.std.specs.Prelude.{slice_get}
use Rattle.std.proofs.lemmas.Option.{slice_get_past}
use Rattle.chi_chan.specs.declared.offers.Offer.TheVariants as offer
use Rattle.chi_machine_runs.specs.Kept.{kept_from}
use Rattle.chi_machine_runs.specs.Resuming.{sent_at}
use Rattle.chi_machine_runs.proofs.Resumed.{offer_there, kept_there, sent_is, sent_none, sent_nothing}
use Rattle.chi_machine_runs.proofs.opened.Opened.value.Goals as goal

pub returns-in-Some-Send : goal.returns-in-Some-Send
returns-in-Some-Send c =
    let os = c.self.inside.offers.items in
    let ks = c.self.inside.kept.items in
    let bs = c.self.inside.bindings.items in
    let a = c.args.a in
    let k = c.index.result.now in
    let o = offer.Send c.in-Some-Send.field-0-0 in
    let e : slice_get os a ≡ Some o = offer_there c.deref.result.now os a c.in-Some-Send.field-0.now o (search rules) c.in-Some-Send.ensures.lookup.3.0 c.in-Some-Send.ensures.lookup.1 (search rules) in
    let f : slice_get ks a ≡ Some k = kept_there os ks bs a o k c.self.invariant e (search rules) in
    let same : kept_from 0 os ks bs ≡ c.args.self.now = search rules in
    c.carried_value.ensures ∙ sym (sent_is a os ks bs o k e f) ∙ ap (λ v. sent_at v a) same

pub returns-in-Some-Receive : goal.returns-in-Some-Receive
returns-in-Some-Receive c =
    let os = c.self.inside.offers.items in
    let a = c.args.a in
    let o = offer.Receive c.in-Some-Receive.field-0-0 in
    let e : slice_get os a ≡ Some o = offer_there c.deref.result.now os a c.in-Some-Receive.field-0.now o (search rules) c.in-Some-Receive.ensures.lookup.3.0 c.in-Some-Receive.ensures.lookup.1 (search rules) in
    let same : kept_from 0 os c.self.inside.kept.items c.self.inside.bindings.items ≡ c.args.self.now = search rules in
    sym (sent_nothing a os c.self.inside.kept.items c.self.inside.bindings.items o e (λ _. refl)) ∙ ap (λ v. sent_at v a) same

pub returns-in-Some-Delay : goal.returns-in-Some-Delay
returns-in-Some-Delay c =
    let os = c.self.inside.offers.items in
    let a = c.args.a in
    let o = offer.Delay c.in-Some-Delay.field-0-0 in
    let e : slice_get os a ≡ Some o = offer_there c.deref.result.now os a c.in-Some-Delay.field-0.now o (search rules) c.in-Some-Delay.ensures.lookup.3.0 c.in-Some-Delay.ensures.lookup.1 (search rules) in
    let same : kept_from 0 os c.self.inside.kept.items c.self.inside.bindings.items ≡ c.args.self.now = search rules in
    sym (sent_nothing a os c.self.inside.kept.items c.self.inside.bindings.items o e (λ _. refl)) ∙ ap (λ v. sent_at v a) same

pub returns-in-None : goal.returns-in-None
returns-in-None c =
    let os = c.self.inside.offers.items in
    let a = c.args.a in
    let there : c.deref.result.now ≡ os = search rules in
    let e : slice_get os a ≡ None = ap (λ l. slice_get l a) (sym there) ∙ slice_get_past c.deref.result.now a c.in-None.ensures.lookup.3 in
    let same : kept_from 0 os c.self.inside.kept.items c.self.inside.bindings.items ≡ c.args.self.now = search rules in
    sym (sent_none a os c.self.inside.kept.items c.self.inside.bindings.items e) ∙ ap (λ v. sent_at v a) same
