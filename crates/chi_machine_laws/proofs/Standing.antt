-- The machine's state after a step of one instance stands for the configuration after it.
use Rattle.std.proofs.Common.{◌≡◌, ℕ, List, [], ◌∷◌, ◌++◌, map, length, Some, refl, sym, subst}
use Rattle.std.proofs.lemmas.List.{append-nil}
use Rattle.std.specs.Prelude.{slice_get, slice_set}
use Rattle.chi_core.specs.declared.program.Core.{Core}
use Rattle.chi_core.specs.declared.program.ProcDef.{ProcDef}
use Rattle.chi_core.specs.declared.view.View.{View}
use Rattle.chi_core.specs.Config as config
use Rattle.chi_core.specs.Config.{Config, Instance, settled, has_finished, with_instance, with_view, scene_of, view_of}
use Rattle.chi_core.specs.Terms.{Term}
use Rattle.chi_core.specs.Variables.{Variables}
use Rattle.chi_code.specs.declared.code.Around.{Around}
use Rattle.chi_code.specs.declared.code.Code.{Code}
use Rattle.chi_code.specs.declared.instr.Instr.TheVariants as i
use Rattle.chi_code.specs.Codes.{in_process, Codes}
use Rattle.chi_exec_law.specs.State.{Turning, frame_of}
use Rattle.chi_exec_law.specs.Standing.{ReadyAt, over}
use Rattle.chi_exec_law.proofs.Lines.{item_line}
use Rattle.chi_machine_laws.specs.Instances.{Standing, Held, Whole}
use Rattle.chi_machine_laws.specs.Choosing.{state_of, instance_of}
use Rattle.chi_machine_laws.specs.Deeds.{held_by, held_there, Within}
use Rattle.chi_machine_laws.specs.Labels.{scene_at, within_at, view_at, with_held}
use Rattle.chi_machine_laws.specs.Stands.{Pairwise, none, more, StateAt, runs, waits, joins, ends, InstanceAt, Stands}
use Rattle.chi_machine_laws.proofs.Pairs.{pairs_length, pairs_append, pairs_set}

pairs_settled : (core : Core) (code : Code) (made : List Instance) (hs : List Held) → Pairwise (λ p h. InstanceAt core code (settled p) h) made hs → Pairwise (InstanceAt core code) (map settled made) hs
pairs_settled core code _ _ none = none
pairs_settled core code _ _ (more p h made hs k r) = more (settled p) h (map settled made) hs k (pairs_settled core code made hs r)

-- instances that stand alike have finished alike
finished_alike : (core : Core) (code : Code) (i : Instance) (h : Held) → InstanceAt core code i h → has_finished i ≡ has_finished (instance_of h)
finished_alike core code i h at = by_state h.frame.under h.at i.term i.state h.standing at.state
  where
    by_state : (under : List Turning) (a : ℕ) (term : Term) (s : config.State) (o : Standing) → StateAt code.instrs at.process.slots under a term s o → config.is_finished s ≡ config.is_finished (state_of o)
    by_state _ _ _ _ _ (runs around under x term a r) = refl
    by_state _ _ _ _ _ (waits around under term a end offers kept all t) = refl
    by_state _ _ _ _ _ (joins around under term a numbers t) = refl
    by_state _ _ _ _ _ (ends a e) = refl

all_finished_alike : (core : Core) (code : Code) (is : List Instance) (hs : List Held) → Pairwise (InstanceAt core code) is hs → map has_finished is ≡ map (λ h. has_finished (instance_of h)) hs
all_finished_alike core code _ _ none = refl
all_finished_alike core code _ _ (more i h is hs at r) = λ j. finished_alike core code i h at j ∷ all_finished_alike core code is hs r j

-- before a turn an instance runs, and at the end it has finished
module _ (core : Core) (code : Code) (process : ProcDef) (k : ℕ) (is : slice_get core.procs k ≡ Some process) (definition : ℕ) (same : definition ≡ k) (its held : Variables) (equal : held ≡ its) where
  abbrev Goes_on : Term → Instance
  Goes_on term = settled (record { definition = k; variables = its; term = term; state = config.Running })

  pub ready_instance : (around : List Around) (under : List Turning) (term : Term) (a : ℕ) → ReadyAt code.instrs in_process process.slots i.Done around under term a
      → InstanceAt core code (settled (record { definition = k; variables = its; term = term; state = config.Running })) (held_there code definition (frame_of held under) a)
  ready_instance _ _ [] _ (over a e) =
      subst (λ o. InstanceAt core code (Goes_on []) (held_by definition (frame_of held []) a o)) (sym e) (record { definition = same; variables = refl; process = process; is = is; state = ends a e })
  ready_instance around under (x ∷ term) a h =
      subst (λ o. InstanceAt core code (Goes_on (x ∷ term)) (held_by definition (frame_of held under) a o)) (sym (item_line code.instrs in_process process.slots i.Done around under x term a h))
      (record { definition = same; variables = equal; process = process; is = is; state = runs around under x term a h })

-- what a run works within, by the configuration
abbrev pub within_of : Core → Code → Config → Within
within_of core code config = record { code = code; scene = scene_of core config; count = length config.instances }

module _ (core : Core) (code : Code) (codes : Codes core code) (config : Config) (m : Whole) (st : Stands core code config m) where
  -- evaluations read the same
  scenes_alike : scene_of core config ≡ scene_at code m
  scenes_alike = λ j. record {
    names = sym codes.names j;
    seed = sym st.seed j;
    clock = sym st.clock j;
    constants = sym st.constants j;
    finished = all_finished_alike core code config.instances m.instances st.instances j;
  }

  pub withins_alike : within_of core code config ≡ within_at code m
  withins_alike = λ j. record { code = code; scene = scenes_alike j; count = sym (pairs_length (InstanceAt core code) config.instances m.instances st.instances) j }

module _ (core : Core) (code : Code) (config : Config) (m : Whole) (st : Stands core code config m) where
  pub views_alike : (left : ℕ) → view_of config left ≡ view_at m left
  views_alike left = λ j. record { left = left; draws = sym st.draws j; channels = sym st.channels j; instances = sym (pairs_length (InstanceAt core code) config.instances m.instances st.instances) j }

  -- one instance is as it is now
  pub stands_with : (p : ℕ) (i : Instance) (h : Held) → InstanceAt core code (settled i) h → Stands core code (with_instance config p i) (record m { instances = slice_set m.instances p h })
  stands_with p i h at = record {
    clock = st.clock;
    draws = st.draws;
    channels = st.channels;
    seed = st.seed;
    until = st.until;
    constants = st.constants;
    instances = pairs_set (InstanceAt core code) config.instances m.instances p (settled i) h st.instances at;
  }

  -- and new ones come last
  pub stands_started : (p : ℕ) (view : View) (i : Instance) (h : Held) (made : List Instance) (hs : List Held) → InstanceAt core code (settled i) h → Pairwise (λ p h. InstanceAt core code (settled p) h) made hs
      → Stands core code (with_view view (record (with_instance config p i) { instances = slice_set config.instances p (settled i) ++ map settled made })) (with_held m p h hs view)
  stands_started p view i h made hs at news = record {
    clock = st.clock;
    draws = refl;
    channels = refl;
    seed = st.seed;
    until = st.until;
    constants = st.constants;
    instances = pairs_append (InstanceAt core code) (slice_set config.instances p (settled i)) (map settled made) (slice_set m.instances p h) hs
        (pairs_set (InstanceAt core code) config.instances m.instances p (settled i) h st.instances at) (pairs_settled core code made hs news);
  }

  pub stands_after : (p : ℕ) (view : View) (i : Instance) (h : Held) → InstanceAt core code (settled i) h → Stands core code (with_view view (with_instance config p i)) (with_held m p h [] view)
  stands_after p view i h at =
      subst (λ is. Stands core code (with_view view (record (with_instance config p i) { instances = is })) (with_held m p h [] view)) (append-nil (slice_set config.instances p (settled i)))
      (stands_started p view i h [] [] at none)
