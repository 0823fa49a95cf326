-- How the machine begins.
use Rattle.std.proofs.Common.{◌≡◌, ℕ, ◌-◌, ◌<◌, ◌≤◌, ℤ, pos, List, [], ◌∷◌, ◌++◌, length, get_or, Option, Some, None, true, refl, sym, ap, subst, ◌∙◌, arith}
use Rattle.std.proofs.lemmas.Option.{slice_get-get_or, slice_get_past}
use Rattle.std.specs.Prelude.{drop, nat_eq, slice_get}
use Rattle.chi_value.specs.declared.value.Value.{Value}
use Rattle.chi_core.specs.Beginning.{constant_view}
use Rattle.chi_core.specs.Variables.{variables_of}
use Rattle.chi_code.specs.declared.code.Code.{Code}
use Rattle.chi_code.specs.declared.code.Entry.{Entry}
use Rattle.chi_exec.specs.Hints.{AreRight}
use Rattle.chi_exec_steps.specs.Views.{frame_in, state_of, under_of}
use Rattle.chi_exec_law.specs.Laws.{begun}
use Rattle.chi_exec_law.specs.State.{State, frame_of}
use Rattle.chi_machine_laws.specs.Beginning.{Ready, first_whole, Begins}
use Rattle.chi_machine_laws.specs.Beginning as law
use Rattle.chi_machine_laws.specs.Deeds.{held_of, held_there}
use Rattle.chi_machine_laws.specs.Instances.{Held, Whole}
use Rattle.chi_machine_laws.specs.Stands.{Pairwise, none}
use Rattle.chi_machine_runs.specs.declared.made.Room.{Room}
use Rattle.chi_machine_agenda.specs.Phases.{Agenda}
use Rattle.chi_machine_constants.specs.Settings.{AreSet}
use Rattle.chi_machine.specs.declared.crowd.Crowd.{Crowd}
use Rattle.chi_machine.specs.declared.world.World.{World}
use Rattle.chi_machine.specs.Beginnings.{IsFirst}
use Rattle.chi_machine.specs.Crowds.{Fits, IsCrowd, IsWorld, Becomes}
use Rattle.chi_machine.specs.Views.{all_held, instances_of, whole_of}

-- the entry of the model
module _ (entries own : List Entry) (same : own ≡ entries) (n : ℕ) where
  pub entry_there : (x : Entry) → n < length own → x ≡ get_or own n x → slice_get entries n ≡ Some x
  entry_there x h e = ap (λ (l : List Entry). slice_get l n) (sym same) ∙ slice_get-get_or own n x h ∙ ap Some (sym e)

  pub not_past : (x : Entry) → slice_get entries n ≡ Some x → length own ≤ n → ⊥
  not_past x there h = absurd (let y : None ≡ Some x = sym (slice_get_past own n h) ∙ ap (λ (l : List Entry). slice_get l n) same ∙ there in cc)

pub as_many : (xs : List Value) (x y : Entry) → Some x ≡ Some y → nat_eq (length xs) x.arity ≡ true → nat_eq (length xs) y.arity ≡ true
as_many xs x y e h = let same : x ≡ y = cc in subst (λ (z : Entry). nat_eq (length xs) z.arity ≡ true) same h

-- as many arguments as it takes
pub enough : (xs : List Value) (n : ℕ) → nat_eq (length xs) n ≡ true → n ≤ length xs
enough xs n e = grind arith

none_dropped : (xs : List Value) → drop 0 xs ≡ xs
none_dropped [] = refl
none_dropped (x ∷ xs) = refl

all_taken : (xs : List Value) (n : ℕ) → nat_eq (length xs) n ≡ true → drop (length xs - n) xs ≡ xs
all_taken xs n e = (let z : length xs - n ≡ 0 = grind arith in ap (λ (k : ℕ). drop k xs) z) ∙ none_dropped xs

pub held_first : (code : Code) (entry : Entry) (arguments : List Value) (room : Room) → nat_eq (length arguments) entry.arity ≡ true
    → room.frame.value.variables ≡ variables_of entry.slots (drop (length arguments - entry.arity) arguments) → room.frame.value.under.items ≡ []
    → held_there code code.model (frame_in room.frame.value) entry.entry ≡ held_of code code.model entry arguments
held_first code entry arguments room e v u =
    let w : room.frame.value.variables ≡ variables_of entry.slots arguments = v ∙ ap (variables_of entry.slots) (all_taken arguments entry.arity e) in
    λ j. held_there code code.model (frame_of (w j) (under_of (u j))) entry.entry

-- nobody is there
pub no_crowd : (c : Crowd) (stop : Option ℤ) → c.instances.items ≡ [] → c.agenda ≡ record { clock = pos 0; until = stop; phases = [] } → IsCrowd c × (instances_of c ≡ [])
no_crowd c stop e f = (
  record {
    fits = subst (λ is. Pairwise Fits is c.agenda.phases) (sym e) (subst (λ (a : Agenda). Pairwise Fits [] a.phases) (sym f) none);
    few = let n : length c.instances.items ≡ 0 = ap length e in omega (arith, n);
  },
  ap (λ is. all_held is c.agenda.phases) e,
)

-- then the model's instance is
pub first_one : (code : Code) (arguments : List Value) (stop : Option ℤ) (old new : Crowd) (entry : Entry) (held : Held) → old.instances.items ≡ [] → old.agenda ≡ record { clock = pos 0; until = stop; phases = [] }
    → IsCrowd new → slice_get code.procs code.model ≡ Some entry → held ≡ held_of code code.model entry arguments → Becomes old new (instances_of old ++ held ∷ []) → IsFirst code arguments stop new
first_one code arguments stop old new entry held e f kept there same b = record {
  kept = kept;
  clock = b.clock ∙ ap (λ (a : Agenda). a.clock) f;
  until = b.until ∙ ap (λ (a : Agenda). a.until) f;
  held = λ other g.
      let y : Some entry ≡ Some other = sym there ∙ g in
      let it_is : entry ≡ other = cc in
      b.held ∙ (λ j. (no_crowd old stop e f).1 j ++ same j ∷ []) ∙ ap (λ (x : Entry). held_of code code.model x arguments ∷ []) it_is;
}

-- and the machine begins so
pub is_ready_so : (code : Code) (arguments : List Value) (seed : ℕ) (stop : Option ℤ) (w : World) (o : law.Begun) → Begins code arguments seed stop 0 [] o → AreSet code seed w.constants.items
    → AreRight w.hints.items code.instrs → IsFirst code arguments stop w.crowd → state_of w.exec ≡ begun 0 [] constant_view → w.seed ≡ seed
    → Begins code arguments seed stop 0 [] (Ready (whole_of w)) × IsWorld code w
is_ready_so code arguments seed stop w o b set right first fresh same =
    let model = set.model arguments stop o b in (
      subst (λ (m : Whole). Begins code arguments seed stop 0 [] (Ready m)) (sym (whole_is model.0 model.1)) (set.ready arguments stop model.0 model.1 model.2),
      record { hints = right; crowd = first.kept },
    )
  where
    view : w.exec.view ≡ constant_view
    view = ap (λ (s : State). s.view) fresh

    whole_is : (entry : Entry) → slice_get code.procs code.model ≡ Some entry → whole_of w ≡ first_whole code seed stop arguments w.constants.items entry
    whole_is entry there = λ j. record {
      clock = first.clock j;
      draws = (view j).draws;
      channels = (view j).channels;
      instances = first.held entry there j;
      seed = same j;
      until = first.until j;
      constants = w.constants.items;
    }
