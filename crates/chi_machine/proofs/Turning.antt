-- A label that a policy picks may be taken, and after it the machine runs the program still.
use Rattle.std.proofs.Common.{◌≡◌, ◌≢◌, ℕ, zero, suc, ◌<◌, List, [], ◌∷◌, length, Some, None, refl, sym, ap, subst, ◌∙◌, arith}
use Rattle.std.specs.Prelude.{slice_get}
use Rattle.std.specs.List.{Contains}
use Rattle.chi_sched.specs.Policies.{Answers}
use Rattle.chi_types.specs.declared.ty.Ty.{Ty}
use Rattle.chi_core.specs.declared.label.Label.{Label}
use Rattle.chi_core.specs.declared.label.Label.TheVariants.{Advance}
use Rattle.chi_core.specs.declared.program.Core.{Core}
use Rattle.chi_core.specs.Config as config
use Rattle.chi_core.specs.Config.{Config, Instance, State}
use Rattle.chi_core.specs.Kinded.{Kinded, StateFits}
use Rattle.chi_core.specs.Of.{World}
use Rattle.chi_core.specs.Options.{actors, enabled, ending_of, ending}
use Rattle.chi_core.specs.Picks.{Pick, IsLawful, MayPick, picked_label}
use Rattle.chi_core.specs.Scopes.{Home}
use Rattle.chi_core.specs.SetSlots.{Known}
use Rattle.chi_core.specs.Standing.{Frame}
use Rattle.chi_core.specs.Step as step
use Rattle.chi_core.specs.Terms.{Term}
use Rattle.chi_core.specs.declared.statement.CStat.{CStat}
use Rattle.chi_core_runs.proofs.Enabled.{advance_last}
use Rattle.chi_core_runs.proofs.Picks.{picked-enabled}
use Rattle.chi_code.specs.declared.code.Code.{Code}
use Rattle.chi_code.specs.declared.instr.Instr.{Instr}
use Rattle.chi_exec_law.specs.State.{Turning}
use Rattle.chi_machine_laws.specs.Choosing.{config_of}
use Rattle.chi_machine_laws.specs.Instances as law
use Rattle.chi_machine_laws.specs.Instances.{Held, Standing, Whole}
use Rattle.chi_machine_laws.specs.Labels.{GoesOn, Over, Spent, Takes}
use Rattle.chi_machine_laws.specs.Laws.{SafeAlways}
use Rattle.chi_machine_laws.specs.Stands.{Pairwise, none, more, StateAt, runs, waits, joins, ends, InstanceAt, Stands, Follows}
use Rattle.chi_machine_laws.specs.Turns.{StaysInBound}
use Rattle.chi_machine_laws.proofs.Choosing.{actors_alike, ending_alike, picked_alike}
use Rattle.chi_machine_laws.proofs.Exact.{steps_are_right}
use Rattle.chi_machine_laws.proofs.Pairs.{pairs_length}
use Rattle.chi_machine_laws.proofs.Steps.{steps_follow}
use Rattle.chi_machine.specs.Sane.{IsSane}
use Rattle.chi_machine.specs.Takings.{IsWell, MayTake}

pub is_lawful : (gives : ℕ → ℕ → ℕ → Type 0) (pick : Pick) → Answers gives pick → IsLawful pick
is_lawful gives pick answers question count early some few = (answers question count (record { numbered = early; some = some; counted = few })).0

-- the other way round
pairs_find : {A B : Type 0} (R : A → B → Type 0) (xs : List A) (ys : List B) (n : ℕ) (b : B) → Pairwise R xs ys → slice_get ys n ≡ Some b → (a : A) × (slice_get xs n ≡ Some a) × R a b
pairs_find R _ _ n b none e = absurd (cc)
pairs_find R _ _ zero b (more x y xs ys h r) e = let same : y ≡ b = cc in (x, refl, subst (λ b. R x b) same h)
pairs_find R _ _ (suc n) b (more x y xs ys h r) e = pairs_find R xs ys n b r e

-- those that are joined are there

joins_so : (code : List Instr) (slots : List Ty) (under : List Turning) (a : ℕ) (term : Term) (s : State) (o : Standing) (numbers : List ℕ) → StateAt code slots under a term s o → o ≡ law.Joining numbers → s ≡ config.Joining numbers
joins_so code slots _ _ _ _ _ numbers (runs around under x term a h) e = absurd (cc)
joins_so code slots _ _ _ _ _ numbers (waits around under term a end offers kept all t) e = absurd (cc)
joins_so code slots _ _ _ _ _ numbers (joins around under term a others t) e = let same : others ≡ numbers = cc in ap config.Joining same
joins_so code slots _ _ _ _ _ numbers (ends a h) e = absurd (cc)

joined_there : (w : World) (d : Home) (rest : List CStat) (frames : List Frame) (known : Known) (s : State) (numbers : List ℕ) → s ≡ config.Joining numbers → StateFits w d rest frames known s
    → (k q : ℕ) → slice_get numbers k ≡ Some q → q < w.instances
joined_there w d rest frames known s numbers e fits = subst (StateFits w d rest frames known) e fits

pub well_so : (core : Core) (code : Code) (config : Config) (m : Whole) → Kinded core config → Stands core code config m → IsWell m
well_so core code config m kinded st = record {
  few = let few = kinded.few in omega (arith, few, count);
  there = λ p h numbers there stands.
      let f = pairs_find (InstanceAt core code) config.instances m.instances p h st.instances there in
      let at = (kinded.each p f.0 f.1).at in
      let state = f.2.state in
      let joins = joins_so code.instrs f.2.process.slots h.frame.under h.at f.0.term f.0.state h.standing numbers state stands in
      let all : kinded.world.instances ≡ length m.instances = kinded.instances ∙ sym count in
      λ k q e. subst (λ n. q < n) all (joined_there _ _ _ _ _ f.0.state numbers joins at.state k q e);
}
  where
    count : length m.instances ≡ length config.instances
    count = pairs_length (InstanceAt core code) config.instances m.instances st.instances

-- where a label is picked the run hasn't ended
pub picks_on : (pick : Pick) (turn : ℕ) (c : Config) (label : Label) → picked_label pick turn c ≡ Some label → ending c ≡ None
picks_on pick turn c label own = by_enabled (enabled c) refl
  where
    by_enabled : (ls : List Label) → enabled c ≡ ls → ending_of ls c ≡ None
    by_enabled [] e =
        let f : Contains (enabled c) label = picked-enabled pick turn c label own in
        let l : length (enabled c) ≡ 0 = ap length e in
        let k = f.1 in absurd (omega arith)
    by_enabled (l ∷ ls) e = refl

module _ (safe : SafeAlways) (code : Code) (turn left : ℕ) (m : Whole) (s : IsSane code turn m left) (pick : Pick) (lawful : IsLawful pick) where
  -- where none is picked it has
  pub picks_none : picked_label pick turn (config_of m) ≡ None → ending (config_of m) ≢ None
  picks_none own on =
      let l = (safe s.core s.sound pick lawful).chooses turn s.config left s.bound (sym (ending_alike s.core code s.config m s.stands) ∙ on) in
      let same = picked_alike s.core code s.config m s.stands pick turn in
      let its = l.1 in
      let clash : None ≡ Some l.0 = sym own ∙ same ∙ its in
      cc

  module _ (label : Label) (own : picked_label pick turn (config_of m) ≡ Some label) where
    may : MayPick pick turn s.config label
    may = sym (picked_alike s.core code s.config m s.stands pick turn) ∙ own

    stays : StaysInBound s.core turn (step.step s.core s.config label left)
    stays = (safe s.core s.sound pick lawful).keeps turn s.config left s.bound label may

    idle : label ≡ Advance → actors (config_of m) ≡ []
    idle e = actors_alike s.core code s.config m s.stands ∙ advance_last s.config (subst (Contains (enabled s.config)) e (picked-enabled pick turn s.config label may))

    pub may_take : MayTake code m label left
    may_take = by_outcome (step.step s.core s.config label left) stays (steps_follow s.core code s.codes s.config m s.stands label left)
      where
        by_outcome : (o : step.Outcome) → StaysInBound s.core turn o → Follows (Takes code m label left) s.core code o → MayTake code m label left
        by_outcome (step.Next new text rest) good f = record { outcome = GoesOn f.0 text rest; takes = f.1; well = well_so s.core code new f.0 good.0 f.2; idle = idle }
        by_outcome (step.Over verdict) good f = record { outcome = Over verdict; takes = f; well = tt; idle = idle }
        by_outcome step.Spent good f = record { outcome = Spent; takes = f; well = tt; idle = idle }
        by_outcome step.Amiss good f = absurd good

    -- it has gone on
    pub sane_after : (new : Whole) (text : List ℕ) (rest : ℕ) → Takes code m label left (GoesOn new text rest) → IsSane code (suc turn) new rest
    sane_after new text rest t = by_outcome (step.step s.core s.config label left) stays (steps_are_right s.core code s.codes s.config m s.stands label left (GoesOn new text rest) t)
      where
        by_outcome : (o : step.Outcome) → StaysInBound s.core turn o → Follows (λ u. GoesOn new text rest ≡ u) s.core code o → IsSane code (suc turn) new rest
        by_outcome (step.Next after written few) good f =
            let same : GoesOn new text rest ≡ GoesOn f.0 written few = f.1 in
            let news : f.0 ≡ new = cc in
            let fews : few ≡ rest = cc in
            record {
              core = s.core;
              codes = s.codes;
              sound = s.sound;
              config = after;
              bound = subst (λ n. StaysInBound s.core turn (step.Next after written n)) fews good;
              stands = subst (Stands s.core code after) news f.2;
            }
        by_outcome (step.Over verdict) good f = absurd (cc)
        by_outcome step.Spent good f = absurd (cc)
        by_outcome step.Amiss good f = absurd good
