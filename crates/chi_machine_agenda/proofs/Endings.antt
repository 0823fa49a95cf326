-- What is picked, and how a run ends, by what is kept.
use Rattle.std.proofs.Common.{◌≡◌, ℕ, suc, ◌+◌, ◌*◌, ◌^◌, ◌<◌, ◌≤◌, ℤ, List, [], ◌∷◌, ◌++◌, Option, Some, None, Bool, true, false, cond, map, drop, length, get_or, sym, ◌∙◌, ap, refl, arith}
use Rattle.std.proofs.Math.Logic.{∥∥₁_elim}
use Rattle.std.specs.Coded.{Coded-set, coded_ℕ}
use Rattle.std.specs.Prelude.{is_some, nat_lt, ◌&&◌}
use Rattle.std.specs.List.{slice_get, flat_map, list_all}
use Rattle.std.specs.Option.{option_and_then, option_to_list}
use Rattle.chi_core.specs.declared.label.Label.{Label}
use Rattle.chi_core.specs.declared.verdict.Verdict.TheVariants.{Completed}
use Rattle.chi_core.specs.Config.{Config, has_finished}
use Rattle.chi_core.specs.Meeting.{next_due}
use Rattle.chi_core.specs.Options.{numbers, options, actors, advance_to, advance, enabled_of, Ending, all_finished, at_rest, ending_at, stopped_at, ending_of, ending}
use Rattle.chi_core.specs.Picks.{Pick, picked_from, picked_option, picked_among, picked_label}
use Rattle.chi_sched.specs.Policies.{Answers, GivesOne, IsAsked}
use Rattle.chi_chan.specs.Held.{Offered, held}
use Rattle.chi_machine_agenda.specs.declared.standing.Standing.{Standing}
use Rattle.chi_machine_agenda.specs.declared.standing.Standing.TheVariants as stands
use Rattle.chi_machine_agenda.specs.Joined.{numbers_at}
use Rattle.chi_machine_agenda.specs.Kept.{phase_by, phases_from, is_finished}
use Rattle.chi_machine_agenda.specs.Reading.{instance_of, advances, advances_among}
use Rattle.chi_machine_agenda.proofs.Lists.{drop-step, drop-end}
use Rattle.chi_machine_agenda.proofs.Options.{each-passes, some-passes}

pub no-list : {A : Type 0} (xs : List A) → length xs ≤ 0 → xs ≡ []
no-list [] h = refl
no-list (x ∷ xs) h = absurd (omega (arith, h))

-- what is picked

module _ (gives : ℕ → ℕ → ℕ → Type 0) (one : GivesOne gives) (turn : ℕ) (early : turn < 2 ^ 63) (config : Config) where
  answered : (pick : Pick) → Answers gives pick → (question count answer : ℕ) → IsAsked question count → gives question count answer → pick question count ≡ answer
  answered pick answers question count answer asked given =
      ∥∥₁_elim (answers question count asked).1 (Coded-set coded_ℕ (pick question count) answer)
      (λ told. one question count (pick question count) answer asked told given)

  pub picks-none : actors config ≡ [] → (pick : Pick) → advance config ≡ picked_label pick turn config
  picks-none e pick = sym (ap (picked_among pick turn config) e)

  pub picks-one : (n a p m b : ℕ) (label : Label) → n ≡ length (actors config) → 0 < n → n < 2 ^ 64 → gives (2 * turn) n a → slice_get (actors config) a ≡ Some p
      → m ≡ length (options config p) → 0 < m → m < 2 ^ 64 → gives (2 * turn + 1) m b → slice_get (options config p) b ≡ Some label
      → (pick : Pick) → Answers gives pick → Some label ≡ picked_label pick turn config
  picks-one n a p m b label same some few given there same' some' few' given' there' pick answers = sym (by_actors (actors config) refl)
    where
      first : pick (2 * turn) (length (actors config)) ≡ a
      first = ap (pick (2 * turn)) (sym same) ∙ answered pick answers (2 * turn) n a (record { numbered = omega (arith, early); some = some; counted = few }) given

      second : pick (2 * turn + 1) (length (options config p)) ≡ b
      second = ap (pick (2 * turn + 1)) (sym same') ∙ answered pick answers (2 * turn + 1) m b (record { numbered = omega (arith, early); some = some'; counted = few' }) given'

      by_actors : (ps : List ℕ) → actors config ≡ ps → picked_among pick turn config (actors config) ≡ Some label
      by_actors [] e = absurd (let l = ap length e in omega (arith, l, same, some))
      by_actors (q ∷ qs) e =
          ap (picked_among pick turn config) e
          ∙ ap (option_and_then (picked_option pick turn config)) (ap (picked_from pick (2 * turn)) (sym e) ∙ ap (slice_get (actors config)) first ∙ there)
          ∙ ap (slice_get (options config p)) second ∙ there'

-- an actor has an option
lt-some : (n : ℕ) → nat_lt 0 n ≡ true → 0 < n
lt-some n e = grind arith

pub actor-has : (config : Config) (a p : ℕ) → slice_get (actors config) a ≡ Some p → 0 < length (options config p)
actor-has config a p e =
    lt-some (length (options config p)) (each-passes (λ q. nat_lt 0 (length (options config q))) (numbers (length config.instances)) a p e)

-- how the time goes on

pub advance-is : (config : Config) (w : Option ℤ) (l : Option Label) → next_due config ≡ w → l ≡ advance_to config w → l ≡ advance config
advance-is config w l e g = g ∙ ap (advance_to config) (sym e)

pub advances-some : (config : Config) (l : Option Label) → actors config ≡ [] → l ≡ advance config → is_some l ≡ advances config
advances-some config l e g = ap is_some g ∙ sym (ap (advances_among config) e)

pub advances-none : (config : Config) → 0 < length (actors config) → false ≡ advances config
advances-none config h = by_actors (actors config) refl
  where
    by_actors : (ps : List ℕ) → actors config ≡ ps → false ≡ advances_among config (actors config)
    by_actors [] e = absurd (let l = ap length e in omega (arith, l, h))
    by_actors (p ∷ ps) e = sym (ap (advances_among config) e)

-- how a run ends

some-first : (config : Config) (l r : List Label) → 0 < length l → ending_of (l ++ r) config ≡ None
some-first config [] r h = absurd (omega (arith, h))
some-first config (x ∷ xs) r h = refl

pub ends-acts : (config : Config) → 0 < length (actors config) → None ≡ ending config
ends-acts config h = sym (by_actors (actors config) refl)
  where
    by_actors : (ps : List ℕ) → actors config ≡ ps → ending_of (enabled_of config (actors config)) config ≡ None
    by_actors [] e = absurd (let l = ap length e in omega (arith, l, h))
    by_actors (p ∷ ps) e =
        ap (λ l. ending_of (enabled_of config l) config) e
        ∙ some-first config (options config p) (flat_map (options config) ps) (lt-some (length (options config p)) (some-passes (λ q. nat_lt 0 (length (options config q))) (length config.instances) p ps e))

rests : (config : Config) → actors config ≡ [] → ending config ≡ ending_of (option_to_list (advance config)) config
rests config e = ap (λ l. ending_of (enabled_of config l) config) e

pub ends-advances : (config : Config) (l : Label) → actors config ≡ [] → Some l ≡ advance config → None ≡ ending config
ends-advances config l e g = sym (rests config e ∙ ap (λ o. ending_of (option_to_list o) config) (sym g))

pub ends-rests : (config : Config) (end : Ending) → actors config ≡ [] → None ≡ advance config → end ≡ at_rest config → Some end ≡ ending config
ends-rests config end e g f = ap Some f ∙ sym (rests config e ∙ ap (λ o. ending_of (option_to_list o) config) (sym g))

-- who has finished

over-stood : (s : Standing) (offered : Offered) (rows : List (List ℕ)) (a : ℕ) → has_finished (instance_of (phase_by s (held offered a) (numbers_at rows a))) ≡ is_finished s
over-stood stands.Running offered rows a = refl
over-stood stands.Waiting offered rows a = refl
over-stood stands.Joining offered rows a = refl
over-stood stands.Finished offered rows a = refl

all-over : (offered : Offered) (rows : List (List ℕ)) (a : ℕ) (ss : List Standing)
    → list_all has_finished (map instance_of (phases_from a ss offered rows)) ≡ list_all (λ b. b) (map is_finished ss)
all-over offered rows a [] = refl
all-over offered rows a (s ∷ ss) = λ j. over-stood s offered rows a j && all-over offered rows (suc a) ss j

pub over-all : (offered : Offered) (rows : List (List ℕ)) (ss : List Standing) (ended : List Bool) → ended ≡ map is_finished ss
    → list_all has_finished (map instance_of (phases_from 0 ss offered rows)) ≡ list_all (λ b. b) ended
over-all offered rows ss ended e = all-over offered rows 0 ss ∙ ap (list_all (λ b. b)) (sym e)

pub rests-over : (config : Config) (end : Ending) (b : Bool) → all_finished config ≡ b → b ≡ true → end ≡ ending_at Completed config → end ≡ at_rest config
rests-over config end b e f g = g ∙ sym (ap (λ x. cond x (ending_at Completed config) (stopped_at config (next_due config) config.until)) (e ∙ f))

pub rests-stopped : (config : Config) (end : Ending) (b : Bool) (w : Option ℤ) → all_finished config ≡ b → b ≡ false → next_due config ≡ w → end ≡ stopped_at config w config.until → end ≡ at_rest config
rests-stopped config end b w e f d g =
    g ∙ ap (λ x. stopped_at config x config.until) (sym d)
    ∙ sym (ap (λ x. cond x (ending_at Completed config) (stopped_at config (next_due config) config.until)) (e ∙ f))

-- a loop over all of them

pub all-goes : (xs : List Bool) (i : ℕ) → i < length xs → get_or xs i false ≡ true → list_all (λ b. b) (drop (i + 1) xs) ≡ list_all (λ b. b) (drop i xs)
all-goes xs i h e = sym (ap (list_all (λ b. b)) (drop-step xs i false h) ∙ ap (λ b. b && list_all (λ b. b) (drop (i + 1) xs)) e)

pub all-fails : (xs : List Bool) (i : ℕ) → i < length xs → get_or xs i false ≡ false → list_all (λ b. b) (drop i xs) ≡ false
all-fails xs i h e = ap (list_all (λ b. b)) (drop-step xs i false h) ∙ ap (λ b. b && list_all (λ b. b) (drop (i + 1) xs)) e

pub all-end : (xs : List Bool) (i : ℕ) → length xs ≤ i → list_all (λ b. b) (drop i xs) ≡ true
all-end xs i h = ap (list_all (λ b. b)) (drop-end xs i h)
