-- Whether something is enabled, and how a run ends where nothing is.
use Rattle.std.proofs.Common.{◌≡◌, ℕ, zero, suc, ◌<◌, ℤ, List, [], ◌∷◌, ◌++◌, Option, Some, None, Bool, true, false, cond, length, sym, ◌∙◌, ap, subst, refl, arith}
use Rattle.std.specs.Prelude.{map, not, nat_eq, nat_lt, int_lt, IsTrue, is_some, ◌↔◌, ◌||◌}
use Rattle.std.specs.List.{slice_get, Contains, flat_map, list_any}
use Rattle.std.specs.Option.{option_to_list}
use Rattle.std.proofs.lemmas.Bool.{false≢true}
use Rattle.std.proofs.lemmas.Option.{slice_get_read}
use Rattle.chi_core.specs.declared.act.Act.{Act}
use Rattle.chi_core.specs.declared.act.Act.TheVariants.{Send, Receive, Delay}
use Rattle.chi_core.specs.declared.label.Label.{Label}
use Rattle.chi_core.specs.declared.label.Label.TheVariants.{Pair, Wake, Join, Advance}
use Rattle.chi_core.specs.Config.{Config, Instance, Offer, State, Running, Waiting, Joining, Finished, offers_in}
use Rattle.chi_core.specs.Meeting.{are_over, may_reach, next_due}
use Rattle.chi_core.specs.Options.{numbers, receivers, pairs_with, options_by, options_for, options_in, options_of, options, actors, advance_to, advance, enabled, enabled_of, Ending, at_rest, ending, ending_of}
use Rattle.chi_core_runs.proofs.Lists.{kept}
use Rattle.chi_plain_options.proofs.Lists.{none-of, lt-true, lt-false}
use Rattle.chi_plain.specs.Watching.{is_advance}

none-append : {A : Type 0} (t : A → Bool) (xs ys : List A) → list_any t xs ≡ false → list_any t ys ≡ false → list_any t (xs ++ ys) ≡ false
none-append t [] ys e f = f
none-append t (x ∷ xs) ys e f = by_test (none-append t xs ys) (t x) refl e
  where
    by_test : (list_any t xs ≡ false → list_any t ys ≡ false → list_any t (xs ++ ys) ≡ false)
        → (b : Bool) → t x ≡ b → (b || list_any t xs) ≡ false → (t x || list_any t (xs ++ ys)) ≡ false
    by_test rest true is fails = absurd (false≢true (sym fails))
    by_test rest false is fails = ap (λ b. b || list_any t (xs ++ ys)) is ∙ rest fails f

none-flat : {A B : Type 0} (t : B → Bool) (f : A → List B) (xs : List A) → ((x : A) → list_any t (f x) ≡ false) → list_any t (flat_map f xs) ≡ false
none-flat t f [] none = refl
none-flat t f (x ∷ xs) none = none-append t (f x) (flat_map f xs) (none x) (none-flat t f xs none)

none-map : {A B : Type 0} (t : B → Bool) (f : A → B) (xs : List A) → ((x : A) → t (f x) ≡ false) → list_any t (map f xs) ≡ false
none-map t f [] none = refl
none-map t f (x ∷ xs) none = ap (λ b. b || list_any t (map f xs)) (none x) ∙ none-map t f xs none

some-at : {A : Type 0} (t : A → Bool) (xs : List A) (k : ℕ) (x : A) → slice_get xs k ≡ Some x → t x ≡ true → list_any t xs ≡ true
some-at t [] k x e is = absurd (cc)
some-at t (y ∷ ys) zero x e is = let same : y ≡ x = cc in ap (λ z. t z || list_any t ys) same ∙ ap (λ b. b || list_any t ys) is
some-at t (y ∷ ys) (suc k) x e is = by_test (t y) (some-at t ys k x e is)
  where
    by_test : (b : Bool) → list_any t ys ≡ true → (b || list_any t ys) ≡ true
    by_test true e = refl
    by_test false e = e

-- an element of a list in which none passes the test doesn't pass it
contains-none : (t : Label → Bool) (xs : List Label) (x : Label) → t x ≡ true → list_any t xs ≡ false → Contains xs x → ⊥
contains-none t xs x is none c =
    let e : slice_get xs c.0 ≡ Some x = slice_get_read xs (length xs) c.0 x refl c.1 (sym c.2) in
    let some : list_any t xs ≡ true = some-at t xs c.0 x e is in
    false≢true (sym none ∙ some)

module _ (config : Config) (p : ℕ) where
  pairs-none : (a channel q : ℕ) (j : Option Instance) → list_any is_advance (pairs_with p a channel q j) ≡ false
  pairs-none a channel q None = refl
  pairs-none a channel q (Some j) = by_test (nat_eq q p)
    where
      by_test : (b : Bool) → list_any is_advance (cond b [] (map (λ b. Pair p a q b) (receivers channel (offers_in j.state)))) ≡ false
      by_test true = refl
      by_test false = none-map is_advance (λ b. Pair p a q b) (receivers channel (offers_in j.state)) (λ b. refl)

  by-none : (a : ℕ) (act : Act) → list_any is_advance (options_by config p a act) ≡ false
  by-none a (Send channel x) =
      none-flat is_advance (λ q. pairs_with p a channel q (slice_get config.instances q)) (numbers (length config.instances))
      (λ q. pairs-none a channel q (slice_get config.instances q))
  by-none a (Receive channel slot) = refl
  by-none a (Delay due) = by_test (int_lt config.clock due)
    where
      by_test : (b : Bool) → list_any is_advance (cond b [] (Wake p a ∷ [])) ≡ false
      by_test true = refl
      by_test false = refl

  for-none : (a : ℕ) (o : Option Offer) → list_any is_advance (options_for config p a o) ≡ false
  for-none a None = refl
  for-none a (Some o) = by-none a o.act

  in-none : (s : State) → list_any is_advance (options_in config p s) ≡ false
  in-none Running = refl
  in-none (Waiting offers) =
      none-flat is_advance (λ a. options_for config p a (slice_get offers a)) (numbers (length offers)) (λ a. for-none a (slice_get offers a))
  in-none (Joining waited) = by_test (are_over config waited)
    where
      by_test : (b : Bool) → list_any is_advance (cond b (Join p ∷ []) []) ≡ false
      by_test true = refl
      by_test false = refl
  in-none Finished = refl

  of-none : (o : Option Instance) → list_any is_advance (options_of config p o) ≡ false
  of-none None = refl
  of-none (Some i) = in-none i.state

-- where some instance has an option, Advance isn't enabled
enabled-acts : (config : Config) (ps : List ℕ) → 0 < length ps → Contains (enabled_of config ps) Advance → ⊥
enabled-acts config [] h c = absurd (omega arith)
enabled-acts config (p ∷ ps) h c =
    contains-none is_advance (flat_map (options config) (p ∷ ps)) Advance refl
    (none-flat is_advance (options config) (p ∷ ps) (λ q. of-none config q (slice_get config.instances q))) c

advance-is : (config : Config) (l : Label) → advance config ≡ Some l → l ≡ Advance
advance-is config l e = by_due (next_due config) e
  where
    by_test : (b : Bool) → cond b (Some Advance) None ≡ Some l → l ≡ Advance
    by_test true e = cc
    by_test false e = absurd (cc)

    by_due : (o : Option ℤ) → advance_to config o ≡ Some l → l ≡ Advance
    by_due None e = absurd (cc)
    by_due (Some t) e = by_test (may_reach config.until t) e

pub advance-none : (config : Config) (acts : Bool) → acts ≡ nat_lt 0 (length (actors config)) → acts ≡ true → IsTrue (not acts) ↔ Contains (enabled config) Advance
advance-none config acts is some =
    (λ t. absurd (false≢true (sym (ap not some) ∙ t)), λ c. absurd (enabled-acts config (actors config) (lt-true _ (sym is ∙ some)) c))

pub advance-some : (config : Config) (acts can : Bool) → acts ≡ nat_lt 0 (length (actors config)) → acts ≡ false → can ≡ is_some (advance config)
    → IsTrue can ↔ Contains (enabled config) Advance
advance-some config acts can is none same =
    (λ t. to (advance config) refl (sym same ∙ t), λ c. same ∙ from (advance config) (let P : List Label → Type 0 = λ l. Contains l Advance in subst P at_rest c))
  where
    at_rest : enabled config ≡ option_to_list (advance config)
    at_rest = ap (enabled_of config) (none-of (actors config) (lt-false _ (sym is ∙ none)))

    to : (o : Option Label) → advance config ≡ o → is_some o ≡ true → Contains (enabled config) Advance
    to None e t = absurd (false≢true t)
    to (Some l) e t =
        let here : enabled config ≡ Advance ∷ [] = at_rest ∙ ap option_to_list e ∙ ap (λ l. l ∷ []) (advance-is config l e) in
        let P : List Label → Type 0 = λ l. Contains l Advance in
        subst P (sym here) (0, omega arith, refl)

    from : (o : Option Label) → Contains (option_to_list o) Advance → is_some o ≡ true
    from None c = absurd (omega (arith, c.1))
    from (Some l) c = refl

some-first : (config : Config) (l r : List Label) → 0 < length l → ending_of (l ++ r) config ≡ None
some-first config [] r h = absurd (omega arith)
some-first config (x ∷ xs) r h = refl

pub ending-acts : (config : Config) (acts : Bool) → acts ≡ nat_lt 0 (length (actors config)) → acts ≡ true → None ≡ ending config
ending-acts config acts same some = sym (by_actors (actors config) refl (lt-true _ (sym same ∙ some)))
  where
    by_actors : (ps : List ℕ) → actors config ≡ ps → 0 < length (actors config) → ending_of (enabled_of config (actors config)) config ≡ None
    by_actors [] is h = absurd (omega (arith, ap length is))
    by_actors (p ∷ ps) is h =
        let acts : nat_lt 0 (length (options config p)) ≡ true
        = (kept (λ q. nat_lt 0 (length (options config q))) (numbers (length config.instances)) 0 p (ap (λ l. slice_get l 0) is)).0 in
        ap (λ l. ending_of (enabled_of config l) config) is ∙ some-first config (options config p) _ (lt-true _ acts)

module _ (config : Config) (acts can : Bool) (is : acts ≡ nat_lt 0 (length (actors config))) (none : acts ≡ false) (same : can ≡ is_some (advance config)) where
  rests : ending config ≡ ending_of (option_to_list (advance config)) config
  rests = ap (λ l. ending_of (enabled_of config l) config) (none-of (actors config) (lt-false _ (sym is ∙ none)))

  pub ending-advances : can ≡ true → None ≡ ending config
  ending-advances some = sym (rests ∙ by_advance (advance config) (sym same ∙ some))
    where
      by_advance : (o : Option Label) → is_some o ≡ true → ending_of (option_to_list o) config ≡ None
      by_advance None e = absurd (false≢true e)
      by_advance (Some l) e = refl

  pub ending-rests : (end : Ending) → can ≡ false → end ≡ at_rest config → Some end ≡ ending config
  ending-rests end not_any at = ap Some at ∙ sym (rests ∙ by_advance (advance config) (sym same ∙ not_any))
    where
      by_advance : (o : Option Label) → is_some o ≡ false → ending_of (option_to_list o) config ≡ Some (at_rest config)
      by_advance None e = refl
      by_advance (Some l) e = absurd (false≢true (sym e))
