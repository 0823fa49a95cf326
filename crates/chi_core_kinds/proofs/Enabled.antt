-- Which labels may come next: what each of them finds in the configuration.
use Rattle.std.proofs.Common.{◌≡◌, ◌++◌, ◌⊎◌, inl, inr, ℕ, zero, suc, ℤ, Bool, true, false, cond, nat_eq, List, [], ◌∷◌, map, length, Option, Some, None, refl, sym, ap, subst, ◌∙◌}
use Rattle.std.proofs.lemmas.Bool.{eqb-true}
use Rattle.std.proofs.lemmas.Option.{slice_get-get_or, slice_get-map}
use Rattle.std.specs.Prelude.{slice_get, filter, int_lt, IsTrue, Contains}
use Rattle.std.specs.List.{flat_map}
use Rattle.std.specs.Option.{option_map, option_to_list}
use Rattle.chi_value.specs.declared.value.Value.{Value}
use Rattle.chi_core.specs.declared.act.Act.{Act}
use Rattle.chi_core.specs.declared.act.Act.TheVariants as act
use Rattle.chi_core.specs.declared.label.Label.{Label}
use Rattle.chi_core.specs.declared.label.Label.TheVariants as label
use Rattle.chi_core.specs.Config.{Config, Instance, Offer, State, Running, Waiting, Joining, Finished, offers_in}
use Rattle.chi_core.specs.Meeting.{are_over, next_due, may_reach}
use Rattle.chi_core.specs.Options.{numbers, receives_on, is_receiver, receivers, pairs_with, options_by, options_for, options_in, options_of, options, actors, advance_to, enabled_of, enabled}

-- an instance offers
pub record Offers (config : Config) (p a : ℕ) (o : Offer) : Type 0 where
  pub i : Instance
  pub is : slice_get config.instances p ≡ Some i
  pub at : slice_get (offers_in i.state) a ≡ Some o

pub data IsEnabled (config : Config) : Label → Type 0 where
  runs : (p : ℕ) (i : Instance) → slice_get config.instances p ≡ Some i → i.state ≡ Running → IsEnabled config (label.Local p)
  meets : (p a q b : ℕ) (o r : Offer) (channel : ℕ) (x : Option Value) (slot : Option ℕ) → Offers config p a o → Offers config q b r → nat_eq q p ≡ false
      → o.act ≡ act.Send channel x → r.act ≡ act.Receive channel slot → IsEnabled config (label.Pair p a q b)
  wakes : (p a : ℕ) (o : Offer) (due : ℤ) → Offers config p a o → o.act ≡ act.Delay due → int_lt config.clock due ≡ false → IsEnabled config (label.Wake p a)
  joins : (p : ℕ) (i : Instance) (waited : List ℕ) → slice_get config.instances p ≡ Some i → i.state ≡ Joining waited → IsTrue (are_over config waited) → IsEnabled config (label.Join p)
  goes_on : (t : ℤ) → next_due config ≡ Some t → IsTrue (may_reach config.until t) → IsEnabled config label.Advance

append_cases : {A : Type 0} (xs ys : List A) (k : ℕ) (x : A) → slice_get (xs ++ ys) k ≡ Some x → (slice_get xs k ≡ Some x) ⊎ ((j : ℕ) × (slice_get ys j ≡ Some x))
append_cases [] ys k x e = inr (k, e)
append_cases (z ∷ xs) ys zero x e = inl e
append_cases (z ∷ xs) ys (suc k) x e = append_cases xs ys k x e

-- an element of joined lists is one of a list among them
joined : {A B : Type 0} (P : Type 0) (f : A → List B) (y : B) → ((x : A) (j : ℕ) → slice_get (f x) j ≡ Some y → P) → (xs : List A) (k : ℕ) → slice_get (flat_map f xs) k ≡ Some y → P
joined P f y each [] k e = absurd (cc)
joined {A} {B} P f y each (x ∷ xs) k e = by_cases (joined P f y each xs) (append_cases (f x) (flat_map f xs) k y e)
  where
    by_cases : ((j : ℕ) → slice_get (flat_map f xs) j ≡ Some y → P) → (slice_get (f x) k ≡ Some y) ⊎ ((j : ℕ) × (slice_get (flat_map f xs) j ≡ Some y)) → P
    by_cases later (inl here) = each x k here
    by_cases later (inr there) = later there.0 there.1

-- an element that a filter keeps passes the test
passes : {A : Type 0} (test : A → Bool) (xs : List A) (k : ℕ) (x : A) → slice_get (filter test xs) k ≡ Some x → IsTrue (test x)
passes test [] k x e = absurd (cc)
passes {A} test (z ∷ zs) k x e = by_test (λ n g. passes test zs n x g) (test z) refl k e
  where
    by_test : ((n : ℕ) → slice_get (filter test zs) n ≡ Some x → IsTrue (test x)) → (b : Bool) → test z ≡ b → (n : ℕ) → slice_get (cond b (z ∷ filter test zs) (filter test zs)) n ≡ Some x → IsTrue (test x)
    by_test below false t n g = below n g
    by_test below true t zero g = let same : z ≡ x = cc in subst (λ w. IsTrue (test w)) same t
    by_test below true t (suc n) g = below n g

mapped : {A B : Type 0} (f : A → B) (o : Option A) (y : B) → option_map f o ≡ Some y → (x : A) × (o ≡ Some x) × (f x ≡ y)
mapped f None y e = absurd (cc)
mapped f (Some x) y e = (x, refl, cc)

only : {A : Type 0} (x y : A) (k : ℕ) → slice_get (x ∷ []) k ≡ Some y → x ≡ y
only x y zero e = cc
only x y (suc k) e = absurd (cc)

module _ (config : Config) where
  abbrev Is : Label → Type 0
  Is = IsEnabled config

  receives : (channel : ℕ) (r : Offer) (a : Act) → r.act ≡ a → IsTrue (receives_on channel a) → (slot : Option ℕ) × (r.act ≡ act.Receive channel slot)
  receives channel r (act.Receive number slot) e t = (slot, subst (λ n. r.act ≡ act.Receive n slot) (eqb-true number channel t) e)
  receives channel r (act.Send number x) e t = absurd (cc)
  receives channel r (act.Delay due) e t = absurd (cc)

  -- a send of instance p with a receive of instance q
  by_receiver : (p a : ℕ) (o : Offer) (channel : ℕ) (x : Option Value) → Offers config p a o → o.act ≡ act.Send channel x → (q : ℕ) (j : Instance) → slice_get config.instances q ≡ Some j → nat_eq q p ≡ false
      → (b : ℕ) (r : Option Offer) → slice_get (offers_in j.state) b ≡ r → IsTrue (is_receiver channel r) → Is (label.Pair p a q b)
  by_receiver p a o channel x offers sends q j at other b None e t = absurd (cc)
  by_receiver p a o channel x offers sends q j at other b (Some r) e t =
      let slot = receives channel r r.act refl t in
      meets p a q b o r channel x slot.0 offers (record { i = j; is = at; at = e }) other sends slot.1

  by_other : (p a : ℕ) (o : Offer) (channel : ℕ) (x : Option Value) (l : Label) → Offers config p a o → o.act ≡ act.Send channel x → (q : ℕ) (j : Instance) → slice_get config.instances q ≡ Some j
      → (same : Bool) → nat_eq q p ≡ same → (k : ℕ) → slice_get (cond same [] (map (λ b. label.Pair p a q b) (receivers channel (offers_in j.state)))) k ≡ Some l → Is l
  by_other p a o channel x l offers sends q j at true e k here = absurd (cc)
  by_other p a o channel x l offers sends q j at false e k here =
      let rs : List ℕ = receivers channel (offers_in j.state) in
      let b = mapped (λ b. label.Pair p a q b) (slice_get rs k) l (sym (slice_get-map (λ b. label.Pair p a q b) rs k) ∙ here) in
      let kept : IsTrue (is_receiver channel (slice_get (offers_in j.state) b.0)) = passes (λ b. is_receiver channel (slice_get (offers_in j.state) b)) (numbers (length (offers_in j.state))) k b.0 b.1 in
      subst Is b.2 (by_receiver p a o channel x offers sends q j at e b.0 (slice_get (offers_in j.state) b.0) refl kept)

  by_sender : (p a : ℕ) (o : Offer) (channel : ℕ) (x : Option Value) (l : Label) → Offers config p a o → o.act ≡ act.Send channel x → (q : ℕ) (j : Option Instance) → slice_get config.instances q ≡ j
      → (k : ℕ) → slice_get (pairs_with p a channel q j) k ≡ Some l → Is l
  by_sender p a o channel x l offers sends q None at k here = absurd (cc)
  by_sender p a o channel x l offers sends q (Some j) at k here = by_other p a o channel x l offers sends q j at (nat_eq q p) refl k here

  by_due : (p a : ℕ) (o : Offer) (due : ℤ) (l : Label) → Offers config p a o → o.act ≡ act.Delay due → (before : Bool) → int_lt config.clock due ≡ before → (k : ℕ)
      → slice_get (cond before [] (label.Wake p a ∷ [])) k ≡ Some l → Is l
  by_due p a o due l offers delays true e k here = absurd (cc)
  by_due p a o due l offers delays false e k here = subst Is (only (label.Wake p a) l k here) (wakes p a o due offers delays e)

  by_act : (p a : ℕ) (o : Offer) (l : Label) → Offers config p a o → (it : Act) → o.act ≡ it → (k : ℕ) → slice_get (options_by config p a it) k ≡ Some l → Is l
  by_act p a o l offers (act.Send channel x) e k here =
      joined (Is l) (λ q. pairs_with p a channel q (slice_get config.instances q)) l (λ q j at. by_sender p a o channel x l offers e q (slice_get config.instances q) refl j at)
      (numbers (length config.instances)) k here
  by_act p a o l offers (act.Receive channel slot) e k here = absurd (cc)
  by_act p a o l offers (act.Delay due) e k here = by_due p a o due l offers e (int_lt config.clock due) refl k here

  by_offer : (p : ℕ) (i : Instance) → slice_get config.instances p ≡ Some i → (a : ℕ) (l : Label) (o : Option Offer) → slice_get (offers_in i.state) a ≡ o → (k : ℕ)
      → slice_get (options_for config p a o) k ≡ Some l → Is l
  by_offer p i at a l None e k here = absurd (cc)
  by_offer p i at a l (Some o) e k here = by_act p a o l (record { i = i; is = at; at = e }) o.act refl k here

  by_wait : (p : ℕ) (i : Instance) (waited : List ℕ) (l : Label) → slice_get config.instances p ≡ Some i → i.state ≡ Joining waited → (over : Bool) → are_over config waited ≡ over → (k : ℕ)
      → slice_get (cond over (label.Join p ∷ []) []) k ≡ Some l → Is l
  by_wait p i waited l at s true e k here = subst Is (only (label.Join p) l k here) (joins p i waited at s e)
  by_wait p i waited l at s false e k here = absurd (cc)

  by_state : (p : ℕ) (i : Instance) (l : Label) → slice_get config.instances p ≡ Some i → (s : State) → i.state ≡ s → (k : ℕ) → slice_get (options_in config p s) k ≡ Some l → Is l
  by_state p i l at Running s k here = subst Is (only (label.Local p) l k here) (runs p i at s)
  by_state p i l at (Waiting offers) s k here =
      joined (Is l) (λ a. options_for config p a (slice_get offers a)) l
      (λ a j it. by_offer p i at a l (slice_get offers a) (ap (λ z. slice_get (offers_in z) a) s) j it) (numbers (length offers)) k here
  by_state p i l at (Joining waited) s k here = by_wait p i waited l at s (are_over config waited) refl k here
  by_state p i l at Finished s k here = absurd (cc)

  by_instance : (p : ℕ) (l : Label) (o : Option Instance) → slice_get config.instances p ≡ o → (k : ℕ) → slice_get (options_of config p o) k ≡ Some l → Is l
  by_instance p l None at k here = absurd (cc)
  by_instance p l (Some i) at k here = by_state p i l at i.state refl k here

  by_reach : (t : ℤ) (l : Label) → next_due config ≡ Some t → (b : Bool) → may_reach config.until t ≡ b → (k : ℕ) → slice_get (option_to_list (cond b (Some label.Advance) None)) k ≡ Some l → Is l
  by_reach t l e true r k here = subst Is (only label.Advance l k here) (goes_on t e r)
  by_reach t l e false r k here = absurd (cc)

  by_next : (o : Option ℤ) (l : Label) → next_due config ≡ o → (k : ℕ) → slice_get (option_to_list (advance_to config o)) k ≡ Some l → Is l
  by_next None l e k here = absurd (cc)
  by_next (Some t) l e k here = by_reach t l e (may_reach config.until t) refl k here

  by_actors : (ps : List ℕ) (l : Label) (k : ℕ) → slice_get (enabled_of config ps) k ≡ Some l → Is l
  by_actors [] l k here = by_next (next_due config) l refl k here
  by_actors (p ∷ ps) l k here = joined (Is l) (options config) l (λ q j at. by_instance q l (slice_get config.instances q) refl j at) (p ∷ ps) k here

  pub enabled_is : (l : Label) → Contains (enabled config) l → Is l
  enabled_is l c = by_actors (actors config) l c.0 (slice_get-get_or (enabled config) c.0 l c.1 ∙ ap Some c.2)
