-- In a kinded configuration few instances have an option, and each of them has few.
use Rattle.std.proofs.Common.{◌≡◌, ℕ, ◌^◌, ◌<◌, ◌≤◌, List, [], ◌∷◌, Option, Some, None, Bool, true, false, cond, length, subst, refl, arith}
use Rattle.std.specs.Prelude.{int_lt, nat_eq, nat_lt, map}
use Rattle.std.specs.List.{slice_get}
use Rattle.std.proofs.lemmas.List.{length-map}
use Rattle.chi_core.specs.declared.act.Act.{Act}
use Rattle.chi_core.specs.declared.act.Act.TheVariants.{Send, Receive, Delay}
use Rattle.chi_core.specs.declared.label.Label.TheVariants.{Pair, Wake, Join}
use Rattle.chi_core.specs.declared.limits.TheConstants.{MOST_INSTANCES, MOST_OFFERS}
use Rattle.chi_core.specs.declared.program.Core.{Core}
use Rattle.chi_core.specs.declared.statement.CStat.{CStat}
use Rattle.chi_core.specs.Config.{Config, Instance, Offer, State, Running, Waiting, Joining, Finished, offers_in}
use Rattle.chi_core.specs.Kinded.{Kinded, StateFits}
use Rattle.chi_core.specs.Meeting.{are_over}
use Rattle.chi_core.specs.Of.{World}
use Rattle.chi_core.specs.Options.{numbers, is_receiver, receivers, pairs_with, options_by, options_for, options_in, options_of, options, actors}
use Rattle.chi_core.specs.Scopes.{Home}
use Rattle.chi_core.specs.SetSlots.{Known}
use Rattle.chi_core.specs.Standing.{Frame}
use Rattle.chi_core_runs.proofs.Lists.{joined-length, filter-length, length-numbers}

few_offers : (w : World) (d : Home) (rest : List CStat) (frames : List Frame) (known : Known) (s : State) → StateFits w d rest frames known s
    → length (offers_in s) ≤ MOST_OFFERS
few_offers w d rest frames known Running fits = omega arith
few_offers w d rest frames known (Waiting offers) fits = fits.few
few_offers w d rest frames known (Joining numbers) fits = omega arith
few_offers w d rest frames known Finished fits = omega arith

module _ (core : Core) (config : Config) (kinded : Kinded core config) where
  offers_of : (p : ℕ) (i : Instance) → slice_get config.instances p ≡ Some i → length (offers_in i.state) ≤ MOST_OFFERS
  offers_of p i at = let h = (kinded.each p i at).at in few_offers _ _ _ _ _ i.state h.state

  few_instances : length (numbers (length config.instances)) ≤ 100000
  few_instances = let n = length-numbers (length config.instances) in let few : length config.instances ≤ MOST_INSTANCES = kinded.few in omega arith

  pub few_actors : length (actors config) < 2 ^ 64
  few_actors =
      let few = few_instances in
      let kept = filter-length (λ p. nat_lt 0 (length (options config p))) (numbers (length config.instances)) in
      omega arith

  few_pairs_with : (p a channel q : ℕ) (o : Option Instance) → slice_get config.instances q ≡ o → length (pairs_with p a channel q o) ≤ 65536
  few_pairs_with p a channel q None at = omega arith
  few_pairs_with p a channel q (Some j) at = by_other (nat_eq q p)
    where
      by_other : (t : Bool) → length (cond t [] (map (λ b. Pair p a q b) (receivers channel (offers_in j.state)))) ≤ 65536
      by_other true = omega arith
      by_other false =
          let mapped = length-map (receivers channel (offers_in j.state)) (λ b. Pair p a q b) in
          let kept = filter-length (λ b. is_receiver channel (slice_get (offers_in j.state) b)) (numbers (length (offers_in j.state))) in
          let n = length-numbers (length (offers_in j.state)) in
          let few : length (offers_in j.state) ≤ MOST_OFFERS = offers_of q j at in
          omega arith

  few_options_by : (p a : ℕ) (act : Act) → length (options_by config p a act) ≤ 6553600000
  few_options_by p a (Send channel x) =
      let all = joined-length (λ q. pairs_with p a channel q (slice_get config.instances q)) 65536
      (λ q. few_pairs_with p a channel q (slice_get config.instances q) refl) (numbers (length config.instances)) in
      let few = few_instances in
      omega arith
  few_options_by p a (Receive channel slot) = omega arith
  few_options_by p a (Delay due) = by_time (int_lt config.clock due)
    where
      by_time : (t : Bool) → length (cond t [] (Wake p a ∷ [])) ≤ 6553600000
      by_time true = omega arith
      by_time false = omega arith

  few_options_for : (p a : ℕ) (o : Option Offer) → length (options_for config p a o) ≤ 6553600000
  few_options_for p a None = omega arith
  few_options_for p a (Some offer) = few_options_by p a offer.act

  few_options_in : (p : ℕ) (i : Instance) → slice_get config.instances p ≡ Some i → (s : State) → i.state ≡ s → length (options_in config p s) < 2 ^ 64
  few_options_in p i at Running is = omega arith
  few_options_in p i at (Waiting offers) is =
      let all = joined-length (λ a. options_for config p a (slice_get offers a)) 6553600000 (λ a. few_options_for p a (slice_get offers a)) (numbers (length offers)) in
      let n = length-numbers (length offers) in
      let here : length (offers_in i.state) ≤ MOST_OFFERS = offers_of p i at in
      let few : length offers ≤ MOST_OFFERS = subst (λ (s : State). length (offers_in s) ≤ MOST_OFFERS) is here in
      omega arith
  few_options_in p i at (Joining waited) is = by_over (are_over config waited)
    where
      by_over : (t : Bool) → length (cond t (Join p ∷ []) []) < 2 ^ 64
      by_over true = omega arith
      by_over false = omega arith
  few_options_in p i at Finished is = omega arith

  pub few_options : (p : ℕ) → length (options config p) < 2 ^ 64
  few_options p = by_instance (slice_get config.instances p) refl
    where
      by_instance : (o : Option Instance) → slice_get config.instances p ≡ o → length (options_of config p o) < 2 ^ 64
      by_instance None at = omega arith
      by_instance (Some i) at = few_options_in p i at i.state refl
