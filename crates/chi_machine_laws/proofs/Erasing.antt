-- What may come next doesn't depend on variables, on what is left to do, or on the bodies of offers.
use Rattle.std.proofs.Common.{◌≡◌, ℕ, zero, suc, ℤ, List, [], ◌∷◌, ◌++◌, map, length, Option, Some, None, cond, refl, ap, ◌∙◌}
use Rattle.std.proofs.lemmas.List.{length-map}
use Rattle.std.specs.Prelude.{slice_get, option_map, filter, nat_eq, nat_lt, ◌&&◌, ◌+◌, ◌*◌}
use Rattle.std.specs.List.{flat_map, list_all}
use Rattle.std.specs.Option.{option_and_then, option_to_list}
use Rattle.chi_core.specs.declared.act.Act.{Act}
use Rattle.chi_core.specs.declared.act.Act.TheVariants.{Send, Receive, Delay}
use Rattle.chi_core.specs.declared.label.Label.{Label}
use Rattle.chi_core.specs.declared.label.Label.TheVariants as label
use Rattle.chi_core.specs.declared.verdict.Verdict.TheVariants.{Completed}
use Rattle.chi_core.specs.Config.{Config, Instance, Offer, State, Running, Waiting, Joining, Finished, offers_in, has_finished, is_finished}
use Rattle.chi_core.specs.Meeting.{is_over, are_over, due_in, least_time, next_due}
use Rattle.chi_core.specs.Options.{numbers, is_receiver, receivers, pairs_with, pairs, options_by, options_for, options_in, options_of, options, actors, advance_to, advance, enabled_of, enabled, Ending, ending_at, stopped_at, at_rest, ending_of, ending}
use Rattle.chi_core.specs.Picks.{Pick, picked_from, picked_among, picked_label}

abbrev pub bare_offer : Offer → Offer
bare_offer o = record { act = o.act; bindings = o.bindings; body = [] }

abbrev pub bare_state : State → State
bare_state Running = Running
bare_state (Waiting offers) = Waiting (map bare_offer offers)
bare_state (Joining numbers) = Joining numbers
bare_state Finished = Finished

abbrev pub bare : Instance → Instance
bare i = record { definition = i.definition; variables = []; term = []; state = bare_state i.state }

abbrev pub bare_config : Config → Config
bare_config config = record config { instances = map bare config.instances }

pub got : {A B : Type 0} (f : A → B) (xs : List A) (n : ℕ) → slice_get (map f xs) n ≡ option_map f (slice_get xs n)
got f [] n = refl
got f (x ∷ xs) zero = refl
got f (x ∷ xs) (suc n) = got f xs n

receives : (channel : ℕ) (o : Option Offer) → is_receiver channel (option_map bare_offer o) ≡ is_receiver channel o
receives channel None = refl
receives channel (Some o) = refl

received : (channel : ℕ) (offers : List Offer) → receivers channel (map bare_offer offers) ≡ receivers channel offers
received channel offers = λ j. filter (λ b. (ap (is_receiver channel) (got bare_offer offers b) ∙ receives channel (slice_get offers b)) j) (numbers (length-map offers bare_offer j))

offers_bare : (s : State) → offers_in (bare_state s) ≡ map bare_offer (offers_in s)
offers_bare Running = refl
offers_bare (Waiting offers) = refl
offers_bare (Joining numbers) = refl
offers_bare Finished = refl

finished_bare : (s : State) → is_finished (bare_state s) ≡ is_finished s
finished_bare Running = refl
finished_bare (Waiting offers) = refl
finished_bare (Joining numbers) = refl
finished_bare Finished = refl

paired_with : (p a channel q : ℕ) (o : Option Instance) → pairs_with p a channel q (option_map bare o) ≡ pairs_with p a channel q o
paired_with p a channel q None = refl
paired_with p a channel q (Some i) = ap (λ bs. cond (nat_eq q p) [] (map (λ b. label.Pair p a q b) bs)) (ap (receivers channel) (offers_bare i.state) ∙ received channel (offers_in i.state))

over : (o : Option Instance) → is_over (option_map bare o) ≡ is_over o
over None = refl
over (Some i) = finished_bare i.state

module _ (config : Config) where
  pub over_bare : (waited : List ℕ) → are_over (bare_config config) waited ≡ are_over config waited
  over_bare waited = λ j. list_all (λ q. (ap is_over (got bare config.instances q) ∙ over (slice_get config.instances q)) j) waited

  abbrev count_same : length (map bare config.instances) ≡ length config.instances
  count_same = length-map config.instances bare

  pairs_bare : (p a channel : ℕ) → pairs (bare_config config) p a channel ≡ pairs config p a channel
  pairs_bare p a channel = λ j. flat_map (λ q. (ap (pairs_with p a channel q) (got bare config.instances q) ∙ paired_with p a channel q (slice_get config.instances q)) j) (numbers (count_same j))

  options_by_bare : (p a : ℕ) (x : Act) → options_by (bare_config config) p a x ≡ options_by config p a x
  options_by_bare p a (Send channel x) = pairs_bare p a channel
  options_by_bare p a (Receive channel slot) = refl
  options_by_bare p a (Delay t) = refl

  options_for_bare : (p a : ℕ) (o : Option Offer) → options_for (bare_config config) p a (option_map bare_offer o) ≡ options_for config p a o
  options_for_bare p a None = refl
  options_for_bare p a (Some o) = options_by_bare p a o.act

  options_in_bare : (p : ℕ) (s : State) → options_in (bare_config config) p (bare_state s) ≡ options_in config p s
  options_in_bare p Running = refl
  options_in_bare p (Waiting offers) =
      λ j. flat_map (λ a. (ap (options_for (bare_config config) p a) (got bare_offer offers a) ∙ options_for_bare p a (slice_get offers a)) j) (numbers (length-map offers bare_offer j))
  options_in_bare p (Joining waited) = ap (λ b. cond b (label.Join p ∷ []) []) (over_bare waited)
  options_in_bare p Finished = refl

  options_of_bare : (p : ℕ) (o : Option Instance) → options_of (bare_config config) p (option_map bare o) ≡ options_of config p o
  options_of_bare p None = refl
  options_of_bare p (Some i) = options_in_bare p i.state

  pub options_bare : (p : ℕ) → options (bare_config config) p ≡ options config p
  options_bare p = ap (options_of (bare_config config) p) (got bare config.instances p) ∙ options_of_bare p (slice_get config.instances p)

  pub actors_bare : actors (bare_config config) ≡ actors config
  actors_bare = λ j. filter (λ p. nat_lt 0 (length (options_bare p j))) (numbers (count_same j))

  due_offers : (offers : List Offer) → flat_map (λ o. due_in o.act) (map bare_offer offers) ≡ flat_map (λ o. due_in o.act) offers
  due_offers [] = refl
  due_offers (o ∷ offers) = ap (λ ts. due_in o.act ++ ts) (due_offers offers)

  due_all : (is : List Instance) → flat_map (λ i. flat_map (λ o. due_in o.act) (offers_in i.state)) (map bare is) ≡ flat_map (λ i. flat_map (λ o. due_in o.act) (offers_in i.state)) is
  due_all [] = refl
  due_all (i ∷ is) = λ j. (ap (flat_map (λ o. due_in o.act)) (offers_bare i.state) ∙ due_offers (offers_in i.state)) j ++ due_all is j

  pub next_due_bare : next_due (bare_config config) ≡ next_due config
  next_due_bare = ap least_time (due_all config.instances)

  pub advance_bare : advance (bare_config config) ≡ advance config
  advance_bare = ap (advance_to config) next_due_bare

  enabled_of_bare : (ps : List ℕ) → enabled_of (bare_config config) ps ≡ enabled_of config ps
  enabled_of_bare [] = ap option_to_list advance_bare
  enabled_of_bare (p ∷ ps) = λ j. flat_map (λ p. options_bare p j) (p ∷ ps)

  pub enabled_bare : enabled (bare_config config) ≡ enabled config
  enabled_bare = ap (enabled_of (bare_config config)) actors_bare ∙ enabled_of_bare (actors config)

  all_over : (is : List Instance) → list_all has_finished (map bare is) ≡ list_all has_finished is
  all_over [] = refl
  all_over (i ∷ is) = λ j. finished_bare i.state j && all_over is j

  at_rest_bare : at_rest (bare_config config) ≡ at_rest config
  at_rest_bare = λ j. cond (all_over config.instances j) (ending_at Completed config) (stopped_so (next_due_bare j) config.until)
    where
      stopped_so : Option ℤ → Option ℤ → Ending
      stopped_so = stopped_at config

  pub ending_bare : ending (bare_config config) ≡ ending config
  ending_bare = ap (λ ls. ending_of ls (bare_config config)) enabled_bare ∙ by_labels (enabled config)
    where
      by_labels : (ls : List Label) → ending_of ls (bare_config config) ≡ ending_of ls config
      by_labels [] = ap Some at_rest_bare
      by_labels (l ∷ ls) = refl

  pub picked_bare : (pick : Pick) (turn : ℕ) → picked_label pick turn (bare_config config) ≡ picked_label pick turn config
  picked_bare pick turn = ap (picked_among pick turn (bare_config config)) actors_bare ∙ among (actors config)
    where
      among : (ps : List ℕ) → picked_among pick turn (bare_config config) ps ≡ picked_among pick turn config ps
      among [] = advance_bare
      among (p ∷ ps) = λ j. option_and_then (λ q. picked_from pick (2 * turn + 1) (options_bare q j)) (picked_from pick (2 * turn) (p ∷ ps))
