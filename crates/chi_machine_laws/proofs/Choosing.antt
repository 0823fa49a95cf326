-- What the machine may choose among by its own state is what the configuration gives.
use Rattle.std.proofs.Common.{◌≡◌, ℕ, zero, suc, List, [], ◌∷◌, ◌++◌, map, refl, sym, ap, ◌∙◌}
use Rattle.std.proofs.lemmas.List.{map-append}
use Rattle.std.specs.Prelude.{slice_set}
use Rattle.chi_types.specs.declared.ty.Ty.{Ty}
use Rattle.chi_core.specs.declared.program.Core.{Core}
use Rattle.chi_core.specs.Config as config
use Rattle.chi_core.specs.Config.{Config, Instance, Offer, State}
use Rattle.chi_core.specs.Meeting.{are_over, next_due}
use Rattle.chi_core.specs.Options.{options, actors, advance, ending}
use Rattle.chi_core.specs.Picks.{picked_label}
use Rattle.chi_core.specs.Terms.{Term}
use Rattle.chi_code.specs.declared.code.Around.{Around}
use Rattle.chi_code.specs.declared.code.Code.{Code}
use Rattle.chi_exec_law.specs.State.{Turning}
use Rattle.chi_machine_laws.specs.Instances.{Kept, Standing, Held, Whole}
use Rattle.chi_machine_laws.specs.Choosing.{offer_of, state_of, instance_of, config_of}
use Rattle.chi_machine_laws.specs.Laws.{OptionsAlike, ActorsAlike, AdvancesAlike, DueAlike, EndingsAlike, PicksAlike, OneChanges}
use Rattle.chi_machine_laws.specs.Stands.{Pairwise, none, more, OfferAt, StateAt, runs, waits, joins, ends, InstanceAt, Stands}
use Rattle.chi_machine_laws.proofs.Erasing.{bare_offer, bare_state, bare, bare_config, over_bare, options_bare, actors_bare, next_due_bare, advance_bare, ending_bare, picked_bare}

module _ (core : Core) (code : Code) where
  offers_alike : (slots : List Ty) (around : List Around) (end : ℕ) (offers : List Offer) (ks : List Kept) → Pairwise (OfferAt code.instrs slots around end) offers ks → map bare_offer offers ≡ map offer_of ks
  offers_alike slots around end _ _ none = refl
  offers_alike slots around end _ _ (more o k offers ks at r) = λ j. record { act = sym at.act j; bindings = sym at.bindings j; body = [] } ∷ offers_alike slots around end offers ks r j

  state_alike : (slots : List Ty) (under : List Turning) (place : ℕ) (term : Term) (s : State) (standing : Standing) → StateAt code.instrs slots under place term s standing → bare_state s ≡ state_of standing
  state_alike slots _ _ _ _ _ (runs around under x term place r) = refl
  state_alike slots _ _ _ _ _ (joins around under term place numbers t) = refl
  state_alike slots _ _ _ _ _ (ends place r) = refl
  state_alike slots _ _ _ _ _ (waits around under term place end offers ks all t) = ap config.Waiting (offers_alike slots around end offers ks all)

  instances_alike : (is : List Instance) (hs : List Held) → Pairwise (InstanceAt core code) is hs → map bare is ≡ map instance_of hs
  instances_alike _ _ none = refl
  instances_alike _ _ (more i h is hs at r) =
      λ j. record { definition = sym at.definition j; variables = []; term = []; state = state_alike at.process.slots h.frame.under h.at i.term i.state h.standing at.state j } ∷ instances_alike is hs r j

  configs_alike : (c : Config) (m : Whole) → Stands core code c m → bare_config c ≡ config_of m
  configs_alike c m st = λ j. record {
    clock = sym st.clock j;
    draws = sym st.draws j;
    channels = sym st.channels j;
    instances = instances_alike c.instances m.instances st.instances j;
    seed = sym st.seed j;
    until = sym st.until j;
    constants = sym st.constants j;
  }

pub over_alike : (core : Core) (code : Code) (c : Config) (m : Whole) → Stands core code c m → (waited : List ℕ) → are_over (config_of m) waited ≡ are_over c waited
over_alike core code c m st waited = ap (λ c. are_over c waited) (sym (configs_alike core code c m st)) ∙ over_bare c waited

pub options_alike : OptionsAlike
options_alike core code c m st p = ap (λ c. options c p) (sym (configs_alike core code c m st)) ∙ options_bare c p

pub actors_alike : ActorsAlike
actors_alike core code c m st = ap actors (sym (configs_alike core code c m st)) ∙ actors_bare c

pub due_alike : DueAlike
due_alike core code c m st = ap next_due (sym (configs_alike core code c m st)) ∙ next_due_bare c

pub advance_alike : AdvancesAlike
advance_alike core code c m st = ap advance (sym (configs_alike core code c m st)) ∙ advance_bare c

pub ending_alike : EndingsAlike
ending_alike core code c m st = ap ending (sym (configs_alike core code c m st)) ∙ ending_bare c

pub picked_alike : PicksAlike
picked_alike core code c m st pick turn = ap (picked_label pick turn) (sym (configs_alike core code c m st)) ∙ picked_bare c pick turn

mapped_set : {A B : Type 0} (f : A → B) (xs : List A) (n : ℕ) (x : A) → map f (slice_set xs n x) ≡ slice_set (map f xs) n (f x)
mapped_set f [] n x = refl
mapped_set f (y ∷ xs) zero x = refl
mapped_set f (y ∷ xs) (suc n) x = ap (λ l. f y ∷ l) (mapped_set f xs n x)

-- what changes in what may be chosen: one instance, and new ones at the end
pub one_changes : OneChanges
one_changes m after p h made e =
    ap (map instance_of) e ∙ map-append instance_of (slice_set m.instances p h) made ∙ ap (λ l. l ++ map instance_of made) (mapped_set instance_of m.instances p h)
