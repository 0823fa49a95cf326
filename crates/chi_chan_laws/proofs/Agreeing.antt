-- The options by waiting lists are those of the semantics.
use Rattle.std.proofs.Common.{◌≡◌, ℕ, zero, suc, ◌+◌, ℤ, List, [], ◌∷◌, ◌++◌, Option, Some, None, Bool, true, false, length, sym, ◌∙◌, ap, refl}
use Rattle.std.specs.Prelude.{map, cond, nat_eq, int_lt}
use Rattle.std.specs.List.{slice_get}
use Rattle.chi_core.specs.declared.label.Label.{Label}
use Rattle.chi_core.specs.declared.label.Label.TheVariants.{Pair as PairLabel, Wake as WakeLabel}
use Rattle.chi_core.specs.declared.act.Act.{Act}
use Rattle.chi_core.specs.declared.act.Act.TheVariants.{Send as Sends, Receive as Receives, Delay as Delays}
use Rattle.chi_core.specs.Config.{Config, Instance, State, Running, Waiting, Joining, Finished, offers_in}
use Rattle.chi_core.specs.Config.{Offer as CoreOffer}
use Rattle.chi_core.specs.Options.{receives_on as receives_act, receivers, pairs_with, options_for, options_in}
use Rattle.chi_core.specs.Options.{options_by as core_options_by, options_of as core_options_of, options as core_options}
use Rattle.chi_chan.specs.declared.offers.Offer.{Offer}
use Rattle.chi_chan.specs.declared.offers.Party.{Party}
use Rattle.chi_chan.specs.declared.offers.Choice.{Choice}
use Rattle.chi_chan.specs.declared.offers.Choice.TheVariants.{Pair, Wake}
use Rattle.chi_chan.specs.Held.{Offered, held, receives_on, party, parties_in, parties_of, pairs_from, options_by, options_from, options_of, options}
use Rattle.chi_chan_laws.specs.Agreement.{offered_by, offered_as, offered_in, offered_at, Agrees, label_of, OptionsAgree}
use Rattle.chi_chan_laws.proofs.Scans.{from, scan, picked, picks}

map-append : {A B : Type 0} (f : A → B) (xs ys : List A) → map f (xs ++ ys) ≡ map f xs ++ map f ys
map-append f [] ys = refl
map-append f (x ∷ xs) ys = ap (λ l. f x ∷ l) (map-append f xs ys)

same-test : (channel : ℕ) (act : Act) → receives_on channel (offered_by act) ≡ receives_act channel act
same-test channel (Sends number x) = refl
same-test channel (Receives number slot) = refl
same-test channel (Delays due) = refl

module _ (p a channel : ℕ) where
  labelled : (q b : ℕ) (os : List CoreOffer)
      → map (label_of p) (map (Pair a) (parties_in (receives_on channel) q b (map offered_as os))) ≡ map (λ k. PairLabel p a q k) (picked channel b os)
  labelled q b [] = refl
  labelled q b (o ∷ os) =
      ap (λ (t : Bool). map (label_of p) (map (Pair a) (cond t (party q b ∷ later) later))) (same-test channel o.act)
      ∙ by_test (receives_act channel o.act) (labelled q (suc b) os)
    where
      later : List Party
      later = parties_in (receives_on channel) q (suc b) (map offered_as os)

      by_test : (t : Bool) → map (label_of p) (map (Pair a) later) ≡ map (λ k. PairLabel p a q k) (picked channel (suc b) os)
          → map (label_of p) (map (Pair a) (cond t (party q b ∷ later) later))
          ≡ map (λ k. PairLabel p a q k) (cond t (b ∷ picked channel (suc b) os) (picked channel (suc b) os))
      by_test true rest = ap (λ (l : List Label). PairLabel p a q b ∷ l) rest
      by_test false rest = rest

  by_state : (q : ℕ) (s : State) → map (label_of p) (map (Pair a) (parties_of (receives_on channel) q (offered_in s))) ≡ map (λ k. PairLabel p a q k) (receivers channel (offers_in s))
  by_state q (Waiting os) = labelled q 0 os ∙ sym (ap (map (λ k. PairLabel p a q k)) (picks channel os))
  by_state q Running = refl
  by_state q (Joining numbers) = refl
  by_state q Finished = refl

  -- with one other instance
  abbrev pairs_by : ℕ → Option (List Offer) → List Choice
  pairs_by q o = cond (nat_eq q p) [] (map (Pair a) (parties_of (receives_on channel) q o))

  none-paired : (q : ℕ) → map (label_of p) (pairs_by q None) ≡ []
  none-paired q = by_test (nat_eq q p)
    where
      by_test : (t : Bool) → map (label_of p) (cond t [] (map (Pair a) (parties_of (receives_on channel) q None))) ≡ []
      by_test true = refl
      by_test false = refl

  paired : (q : ℕ) (o : Option (List Offer)) (i : Option Instance) → o ≡ offered_at i → map (label_of p) (pairs_by q o) ≡ pairs_with p a channel q i
  paired q o None e = ap (λ (o : Option (List Offer)). map (label_of p) (pairs_by q o)) e ∙ none-paired q
  paired q o (Some i) e = ap (λ (o : Option (List Offer)). map (label_of p) (pairs_by q o)) e ∙ by_test (nat_eq q p)
    where
      by_test : (t : Bool) → map (label_of p) (cond t [] (map (Pair a) (parties_of (receives_on channel) q (offered_in i.state))))
          ≡ cond t [] (map (λ k. PairLabel p a q k) (receivers channel (offers_in i.state)))
      by_test true = refl
      by_test false = by_state q i.state

  -- with all others, from one on
  all-paired : (q : ℕ) (offered : Offered) (instances : List Instance) → ((k : ℕ) → held offered k ≡ offered_at (slice_get instances k))
      → map (label_of p) (pairs_from p a channel q offered) ≡ from (pairs_with p a channel) q instances
  all-paired q [] [] same = refl
  all-paired q [] (i ∷ is) same =
      let first : pairs_with p a channel q (Some i) ≡ [] = sym (paired q None (Some i) (same 0)) ∙ none-paired q in
      all-paired (suc q) [] is (λ k. same (suc k)) ∙ sym (ap (λ (l : List Label). l ++ from (pairs_with p a channel) (suc q) is) first)
  all-paired q (o ∷ os) [] same =
      map-append (label_of p) (pairs_by q o) (pairs_from p a channel (suc q) os)
      ∙ ap (λ (l : List Label). l ++ map (label_of p) (pairs_from p a channel (suc q) os)) (paired q o None (same 0))
      ∙ all-paired (suc q) os [] (λ k. same (suc k))
  all-paired q (o ∷ os) (i ∷ is) same =
      map-append (label_of p) (pairs_by q o) (pairs_from p a channel (suc q) os)
      ∙ ap (λ (l : List Label). l ++ map (label_of p) (pairs_from p a channel (suc q) os)) (paired q o (Some i) (same 0))
      ∙ ap (λ (l : List Label). pairs_with p a channel q (Some i) ++ l) (all-paired (suc q) os is (λ k. same (suc k)))

module _ (offered : Offered) (config : Config) (agrees : Agrees offered config) (p : ℕ) where
  by_act : (a : ℕ) (act : Act) → map (label_of p) (options_by offered config.clock p a (offered_by act)) ≡ core_options_by config p a act
  by_act a (Sends channel x) = all-paired p a channel 0 offered config.instances agrees ∙ sym (scan (pairs_with p a channel) config.instances)
  by_act a (Receives channel slot) = refl
  by_act a (Delays due) = by_test (int_lt config.clock due)
    where
      by_test : (t : Bool) → map (label_of p) (cond t [] (Wake a ∷ [])) ≡ cond t [] (WakeLabel p a ∷ [])
      by_test true = refl
      by_test false = refl

  by_offers : (a : ℕ) (os : List CoreOffer) → map (label_of p) (options_from offered config.clock p a (map offered_as os)) ≡ from (options_for config p) a os
  by_offers a [] = refl
  by_offers a (o ∷ os) =
      map-append (label_of p) (options_by offered config.clock p a (offered_by o.act)) (options_from offered config.clock p (suc a) (map offered_as os))
      ∙ ap (λ (l : List Label). l ++ map (label_of p) (options_from offered config.clock p (suc a) (map offered_as os))) (by_act a o.act)
      ∙ ap (λ (l : List Label). core_options_by config p a o.act ++ l) (by_offers (suc a) os)

  pub same-options : (i : Instance) (os : List CoreOffer) → slice_get config.instances p ≡ Some i → i.state ≡ Waiting os
      → core_options config p ≡ map (label_of p) (options offered config.clock p)
  unfolding options
  same-options i os e f =
      ap (core_options_of config p) e ∙ ap (options_in config p) f ∙ scan (options_for config p) os ∙ sym (by_offers 0 os)
      ∙ sym (ap (λ (w : Option (List Offer)). map (label_of p) (options_of offered config.clock p w)) (agrees p ∙ ap offered_at e ∙ ap offered_in f))

pub agree : OptionsAgree
agree offered config agrees p i os e f = same-options offered config agrees p i os e f
