-- Waiting lists have the offers of the machine's instances, and stay so.
use Rattle.std.proofs.Common.{◌≡◌, ◌≢◌, ℕ, zero, suc, ◌<◌, List, [], ◌∷◌, ◌++◌, map, length, Option, Some, None, refl, sym, ap, ◌∙◌, arith}
use Rattle.std.proofs.lemmas.List.{length-map}
use Rattle.std.specs.Prelude.{slice_get, slice_set, option_map}
use Rattle.chi_core.specs.Config.{Instance}
use Rattle.chi_chan.specs.declared.offers.Offer.{Offer}
use Rattle.chi_chan.specs.Held as chan
use Rattle.chi_chan_laws.specs.Agreement.{offered_in, offered_at}
use Rattle.chi_chan_laws.proofs.Agreeing.{agree}
use Rattle.chi_machine_laws.specs.Instances.{Held}
use Rattle.chi_machine_laws.specs.Choosing.{offer_of, state_of, instance_of, config_of}
use Rattle.chi_machine_laws.specs.Laws.{WaitingOptions, ListsStay}
use Rattle.chi_machine_laws.proofs.Choosing.{one_changes}
use Rattle.chi_machine_laws.proofs.Erasing.{got}

pub waiting_options : WaitingOptions
waiting_options offered m agrees p h ks there waits =
    sym (agree offered (config_of m) agrees p (instance_of h) (map offer_of ks) (got instance_of m.instances p ∙ ap (option_map instance_of) there) (ap state_of waits))

-- one instance is set, and the new ones don't wait
data After (new old now : Option (List Offer)) (p q : ℕ) : Type 0 where
  it : q ≡ p → now ≡ new → After new old now p q
  another : q ≢ p → now ≡ old → After new old now p q

appended : (is made : List Instance) (q : ℕ) → ((k : ℕ) → offered_at (slice_get made k) ≡ None) → offered_at (slice_get (is ++ made) q) ≡ offered_at (slice_get is q)
appended [] made q h = h q
appended (x ∷ is) made zero h = refl
appended (x ∷ is) made (suc q) h = appended is made q h

after_set : (is made : List Instance) (p q : ℕ) (i : Instance) → p < length is → ((k : ℕ) → offered_at (slice_get made k) ≡ None)
    → After (offered_in i.state) (offered_at (slice_get is q)) (offered_at (slice_get (slice_set is p i ++ made) q)) p q
after_set [] made p q i l news = absurd (omega (arith, l))
after_set (x ∷ is) made zero zero i l news = it refl refl
after_set (x ∷ is) made zero (suc q) i l news = another (λ e. omega (arith, e)) (appended is made q news)
after_set (x ∷ is) made (suc p) zero i l news = another (λ e. omega (arith, e)) refl
after_set (x ∷ is) made (suc p) (suc q) i l news = further (after_set is made p q i (omega (arith, l)) news)
  where
    further : After (offered_in i.state) (offered_at (slice_get is q)) (offered_at (slice_get (slice_set is p i ++ made) q)) p q
        → After (offered_in i.state) (offered_at (slice_get is q)) (offered_at (slice_get (slice_set is p i ++ made) q)) (suc p) (suc q)
    further (it e k) = it (ap suc e) k
    further (another n k) = another (λ e. n (omega (arith, e))) k

none_waits : (made : List Held) → ((k : ℕ) (g : Held) → slice_get made k ≡ Some g → offered_in (state_of g.standing) ≡ None) → (k : ℕ) → offered_at (slice_get (map instance_of made) k) ≡ None
none_waits made news k = by_place (slice_get made k) refl
  where
    by_place : (o : Option Held) → slice_get made k ≡ o → offered_at (slice_get (map instance_of made) k) ≡ None
    by_place None e = ap offered_at (got instance_of made k ∙ ap (option_map instance_of) e)
    by_place (Some g) e = ap offered_at (got instance_of made k ∙ ap (option_map instance_of) e) ∙ news k g e

pub lists_stay : ListsStay
lists_stay m after p h made is within news old new agrees updates q =
    by_place (after_set (config_of m).instances (map instance_of made) p q (instance_of h) (omega (arith, within, length-map m.instances instance_of)) (none_waits made news))
  where
    there : offered_at (slice_get (slice_set (config_of m).instances p (instance_of h) ++ map instance_of made) q) ≡ offered_at (slice_get (config_of after).instances q)
    there = ap (λ is. offered_at (slice_get is q)) (sym (one_changes m after p h made is))

    by_place : After (offered_in (state_of h.standing)) (offered_at (slice_get (config_of m).instances q)) (offered_at (slice_get (slice_set (config_of m).instances p (instance_of h) ++ map instance_of made) q)) p q
        → chan.held new q ≡ offered_at (slice_get (config_of after).instances q)
    by_place (it e k) = ap (chan.held new) e ∙ updates.changed ∙ sym k ∙ there
    by_place (another n k) = updates.others q n ∙ agrees q ∙ sym k ∙ there
