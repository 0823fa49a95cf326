-- The options of an instance: each is its own, and stands there once.
use Rattle.std.proofs.Common.{◌≡◌, ℕ, zero, suc, ◌<◌, List, [], ◌∷◌, Option, Some, None, Bool, true, false, cond, length, sym, ◌∙◌, subst, refl, arith}
use Rattle.std.specs.Prelude.{int_lt, nat_eq, nat_lt, map}
use Rattle.std.specs.List.{slice_get, Contains, flat_map}
use Rattle.std.proofs.lemmas.Option.{slice_get_within}
use Rattle.chi_core.specs.declared.label.Label.{Label}
use Rattle.chi_core.specs.declared.label.Label.TheVariants.{Local, Pair, Wake, Join, Advance}
use Rattle.chi_core.specs.Kinds.{Every}
use Rattle.chi_core.specs.declared.act.Act.{Act}
use Rattle.chi_core.specs.declared.act.Act.TheVariants.{Send, Receive, Delay}
use Rattle.chi_core.specs.Config.{Config, Instance, Offer, State, Running, Waiting, Joining, Finished, offers_in}
use Rattle.chi_core.specs.Meeting.{are_over}
use Rattle.chi_core.specs.Options.{numbers, is_receiver, receivers, pairs_with, options_by, options_for, options_in, options_of, options, actors}
use Rattle.chi_core_runs.proofs.Lists.{Joined, joined-at, keeps, mapped-at, Distinct, distinct-none, distinct-one, distinct-joined, distinct-filter, distinct-map, number-at, distinct-numbers}

-- the instance that takes a label as its option, the alternative by which it does, and the other instance
abbrev pub actor_of : Label → Option ℕ
actor_of (Local p) = Some p
actor_of (Pair p a q b) = Some p
actor_of (Wake p a) = Some p
actor_of (Join p) = Some p
actor_of Advance = None

abbrev alternative_of : Label → ℕ
alternative_of (Pair p a q b) = a
alternative_of (Wake p a) = a
alternative_of _ = 0

abbrev partner_of : Label → ℕ
partner_of (Pair p a q b) = q
partner_of _ = 0

every-joined : {A B : Type 0} (P : B → Type 0) (f : A → List B) → ((x : A) → Every P (f x)) → (xs : List A) → Every P (flat_map f xs)
every-joined {A} {B} P f each xs k y e =
    let r : Joined f xs y = joined-at f xs k y e in each r.from r.inner y r.has

every-one : {A : Type 0} (P : A → Type 0) (x : A) → P x → Every P (x ∷ [])
every-one P x h zero y e = subst P (let same : x ≡ y = cc in same) h
every-one P x h (suc k) y e = absurd (cc)

every-none : {A : Type 0} (P : A → Type 0) → Every P []
every-none P k y e = absurd (cc)

-- what holds of each pair holds of the options of a send, and so on
module _ (P : Label → Type 0) where
  every-pairs_with : (p a channel q : ℕ) → ((b : ℕ) → P (Pair p a q b)) → (o : Option Instance) → Every P (pairs_with p a channel q o)
  every-pairs_with p a channel q pair None = every-none P
  every-pairs_with p a channel q pair (Some j) = by_other (nat_eq q p)
    where
      by_other : (t : Bool) → Every P (cond t [] (map (λ b. Pair p a q b) (receivers channel (offers_in j.state))))
      by_other true = every-none P
      by_other false = λ k y e.
          let r = mapped-at (λ b. Pair p a q b) (receivers channel (offers_in j.state)) k y e in subst P (sym r.2) (pair r.0)

  every-options_by : (config : Config) (p a : ℕ) → P (Wake p a) → ((q b : ℕ) → P (Pair p a q b)) → (act : Act) → Every P (options_by config p a act)
  every-options_by config p a wake pair (Send channel x) =
      every-joined P (λ q. pairs_with p a channel q (slice_get config.instances q))
      (λ q. every-pairs_with p a channel q (pair q) (slice_get config.instances q)) (numbers (length config.instances))
  every-options_by config p a wake pair (Receive channel slot) = every-none P
  every-options_by config p a wake pair (Delay due) = by_time (int_lt config.clock due)
    where
      by_time : (t : Bool) → Every P (cond t [] (Wake p a ∷ []))
      by_time true = every-none P
      by_time false = every-one P (Wake p a) wake

  every-options_for : (config : Config) (p a : ℕ) → P (Wake p a) → ((q b : ℕ) → P (Pair p a q b)) → (o : Option Offer) → Every P (options_for config p a o)
  every-options_for config p a wake pair None = every-none P
  every-options_for config p a wake pair (Some offer) = every-options_by config p a wake pair offer.act

  every-options_in : (config : Config) (p : ℕ) → P (Local p) → P (Join p) → ((a : ℕ) → P (Wake p a)) → ((a q b : ℕ) → P (Pair p a q b))
      → (state : State) → Every P (options_in config p state)
  every-options_in config p own join wake pair Running = every-one P (Local p) own
  every-options_in config p own join wake pair (Waiting offers) =
      every-joined P (λ a. options_for config p a (slice_get offers a))
      (λ a. every-options_for config p a (wake a) (pair a) (slice_get offers a)) (numbers (length offers))
  every-options_in config p own join wake pair (Joining waited) = by_over (are_over config waited)
    where
      by_over : (t : Bool) → Every P (cond t (Join p ∷ []) [])
      by_over true = every-one P (Join p) join
      by_over false = every-none P
  every-options_in config p own join wake pair Finished = every-none P

  every-options_of : (config : Config) (p : ℕ) → P (Local p) → P (Join p) → ((a : ℕ) → P (Wake p a)) → ((a q b : ℕ) → P (Pair p a q b))
      → (o : Option Instance) → Every P (options_of config p o)
  every-options_of config p own join wake pair None = every-none P
  every-options_of config p own join wake pair (Some i) = every-options_in config p own join wake pair i.state

pub actor-option : (config : Config) (p k : ℕ) (label : Label) → slice_get (options config p) k ≡ Some label → actor_of label ≡ Some p
actor-option config p k label e =
    every-options_of (λ l. actor_of l ≡ Some p) config p refl refl (λ a. refl) (λ a q b. refl) (slice_get config.instances p) k label e

distinct-pairs_with : (p a channel q : ℕ) (o : Option Instance) → Distinct (pairs_with p a channel q o)
distinct-pairs_with p a channel q None = distinct-none Label
distinct-pairs_with p a channel q (Some j) = by_other (nat_eq q p)
  where
    by_other : (t : Bool) → Distinct (cond t [] (map (λ b. Pair p a q b) (receivers channel (offers_in j.state))))
    by_other true = distinct-none Label
    by_other false =
        distinct-map (λ b. Pair p a q b) (λ x z same. cc) (receivers channel (offers_in j.state))
        (distinct-filter (λ b. is_receiver channel (slice_get (offers_in j.state) b)) (numbers (length (offers_in j.state)))
        (distinct-numbers (length (offers_in j.state))))

distinct-options_for : (config : Config) (p a : ℕ) (o : Option Offer) → Distinct (options_for config p a o)
distinct-options_for config p a None = distinct-none Label
distinct-options_for config p a (Some offer) = by_act offer.act
  where
    by_act : (act : Act) → Distinct (options_by config p a act)
    by_act (Send channel x) =
        distinct-joined (λ q. pairs_with p a channel q (slice_get config.instances q))
        (λ q. distinct-pairs_with p a channel q (slice_get config.instances q))
        (λ q r j k y e g.
        let first : partner_of y ≡ q = every-pairs_with (λ l. partner_of l ≡ q) p a channel q (λ b. refl) (slice_get config.instances q) j y e in
        let second : partner_of y ≡ r = every-pairs_with (λ l. partner_of l ≡ r) p a channel r (λ b. refl) (slice_get config.instances r) k y g in
        sym first ∙ second)
        (numbers (length config.instances)) (distinct-numbers (length config.instances))
    by_act (Receive channel slot) = distinct-none Label
    by_act (Delay due) = by_time (int_lt config.clock due)
      where
        by_time : (t : Bool) → Distinct (cond t [] (Wake p a ∷ []))
        by_time true = distinct-none Label
        by_time false = distinct-one (Wake p a)

pub distinct-options : (config : Config) (p : ℕ) → Distinct (options config p)
distinct-options config p = by_instance (slice_get config.instances p)
  where
    by_state : (state : State) → Distinct (options_in config p state)
    by_state Running = distinct-one (Local p)
    by_state (Waiting offers) =
        distinct-joined (λ a. options_for config p a (slice_get offers a)) (λ a. distinct-options_for config p a (slice_get offers a))
        (λ a c j k y e g.
        let first : alternative_of y ≡ a = every-options_for (λ l. alternative_of l ≡ a) config p a refl (λ q b. refl) (slice_get offers a) j y e in
        let second : alternative_of y ≡ c = every-options_for (λ l. alternative_of l ≡ c) config p c refl (λ q b. refl) (slice_get offers c) k y g in
        sym first ∙ second)
        (numbers (length offers)) (distinct-numbers (length offers))
    by_state (Joining waited) = by_over (are_over config waited)
      where
        by_over : (t : Bool) → Distinct (cond t (Join p ∷ []) [])
        by_over true = distinct-one (Join p)
        by_over false = distinct-none Label
    by_state Finished = distinct-none Label

    by_instance : (o : Option Instance) → Distinct (options_of config p o)
    by_instance None = distinct-none Label
    by_instance (Some i) = by_state i.state

pub distinct-actors : (config : Config) → Distinct (actors config)
distinct-actors config =
    distinct-filter (λ p. nat_lt 0 (length (options config p))) (numbers (length config.instances)) (distinct-numbers (length config.instances))

-- what has an option is an instance
has_option : (config : Config) (p k : ℕ) (label : Label) → slice_get (options config p) k ≡ Some label → p < length config.instances
has_option config p k label e = by_instance (slice_get config.instances p) refl e
  where
    by_instance : (o : Option Instance) → slice_get config.instances p ≡ o → slice_get (options_of config p o) k ≡ Some label → p < length config.instances
    by_instance None at e' = absurd (cc)
    by_instance (Some i) at e' = slice_get_within config.instances p i at

some_then : {A : Type 0} (xs : List A) (k : ℕ) (x : A) → slice_get xs k ≡ Some x → nat_lt 0 (length xs) ≡ true
some_then [] k x e = absurd (cc)
some_then (y ∷ ys) k x e = grind arith

-- and among those that have one
pub is_actor : (config : Config) (p k : ℕ) (label : Label) → slice_get (options config p) k ≡ Some label → Contains (actors config) p
is_actor config p k label e =
    keeps (λ q. nat_lt 0 (length (options config q))) (numbers (length config.instances)) p p
    (number-at (length config.instances) p (has_option config p k label e)) (some_then (options config p) k label e)
