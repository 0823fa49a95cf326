-- The machine begins in one way at most.
use Rattle.std.proofs.Common.{◌≡◌, ℕ, ◌+◌, ℤ, List, [], Option, Some, sym, ap, subst, ◌∙◌}
use Rattle.std.specs.Prelude.{slice_get, drop}
use Rattle.chi_value.specs.declared.value.Value.{Value}
use Rattle.chi_core.specs.declared.fault.FaultKind.{FaultKind}
use Rattle.chi_core.specs.declared.program.Core.{Core}
use Rattle.chi_core.specs.Beginning as beginning
use Rattle.chi_core.specs.Beginning.{constant_view, start}
use Rattle.chi_code.specs.declared.code.Code.{Code}
use Rattle.chi_code.specs.declared.code.Entry.{Entry}
use Rattle.chi_code.specs.declared.instr.Instr.TheVariants as i
use Rattle.chi_exec_law.specs.Runs.{End, Rests, Faults, Reaches}
use Rattle.chi_exec_law.specs.State.{State, frame_of}
use Rattle.chi_exec_law.specs.Instructions.{set_const_on}
use Rattle.chi_exec_law.specs.Machine.{Setting, in_expressions, stops_at, step}
use Rattle.chi_exec_law.specs.Laws.{begun}
use Rattle.chi_exec_law.proofs.Going.{reaches_step}
use Rattle.chi_exec_law.proofs.Moving.{rests_at}
use Rattle.chi_exec_law.proofs.Ends.{ends_alike}
use Rattle.chi_machine_laws.specs.Beginning.{Begun, Ready, Broken, line_from, scene_before, broken_at, first_whole, Begins, sets, breaks, is_ready, BeginsAlike}
use Rattle.chi_machine_laws.specs.Laws.{BeginningsAreRight}
use Rattle.chi_machine_laws.proofs.Beginning.{beginnings_follow}

module _ (code : Code) (arguments : List Value) (seed : ℕ) (until : Option ℤ) where
  abbrev Runs : List Value → ℕ → End State → Type 0
  Runs before a e = Reaches (step (in_expressions code (scene_before code seed before))) (begun a [] constant_view) e

  -- at the end of the constants the run rests at once
  at_end : (before : List Value) (a : ℕ) → slice_get code.instrs a ≡ Some i.Done → Runs before a (Rests (begun a [] constant_view))
  at_end before a h =
      let m : Setting = in_expressions code (scene_before code seed before) in
      reaches_step (step m) _ _ (rests_at m a [] (frame_of [] []) constant_view (ap (stops_at m) h))

  same_end : (before : List Value) (a : ℕ) (e f : End State) → Runs before a e → Runs before a f → e ≡ f
  same_end before a e f r s = ends_alike (step (in_expressions code (scene_before code seed before))) (begun a [] constant_view) e f r s

  -- no constant is set where the constants end
  never_set : (before : List Value) (a number line : ℕ) (s : State) → slice_get code.instrs a ≡ Some i.Done → Runs before a (Rests s) → slice_get code.instrs s.at ≡ Some (i.SetConst number line) → ⊥
  never_set before a number line s h r k =
      let e = same_end before a (Rests s) (Rests (begun a [] constant_view)) r (at_end before a h) in
      let same : s ≡ begun a [] constant_view = cc in
      let there : slice_get code.instrs a ≡ Some (i.SetConst number line) = ap (λ (s : State). slice_get code.instrs s.at) (sym same) ∙ k in
      absurd (cc)

  never_broken : (before : List Value) (a : ℕ) (kind : FaultKind) → slice_get code.instrs a ≡ Some i.Done → Runs before a (Faults kind) → ⊥
  never_broken before a kind h r = let e = same_end before a (Faults kind) (Rests (begun a [] constant_view)) r (at_end before a h) in absurd (cc)

  sets_once : (a number line : ℕ) (before values : List Value) (s : State) (o u : Begun) → Runs before a (Rests s) → slice_get code.instrs s.at ≡ Some (i.SetConst number line) → set_const_on s before ≡ Some values
      → ((u : Begun) → Begins code arguments seed until (s.at + 1) values u → o ≡ u) → Begins code arguments seed until a before u → o ≡ u
  sets_once a number line before values s o u r k v next (sets _ number' line' _ values' s' _ r' k' v' b) =
      let e = same_end before a (Rests s') (Rests s) r' r in
      let ss : s' ≡ s = cc in
      let vs : Some values' ≡ Some values = sym v' ∙ ap (λ s. set_const_on s before) ss ∙ v in
      let same : values' ≡ values = cc in
      next u (subst (λ (s : State). Begins code arguments seed until (s.at + 1) values u) ss (subst (λ values. Begins code arguments seed until (s'.at + 1) values u) same b))
  sets_once a number line before values s o _ r k v next (breaks _ line' _ kind r' l) = let e = same_end before a (Rests s) (Faults kind) r r' in absurd (cc)
  sets_once a number line before values s o _ r k v next (is_ready _ _ entry h p n) = absurd (never_set before a number line s h r k)

  breaks_once : (a line : ℕ) (before : List Value) (kind : FaultKind) (u : Begun) → Runs before a (Faults kind) → line_from (drop a code.instrs) ≡ Some line → Begins code arguments seed until a before u → Broken (broken_at kind line) ≡ u
  breaks_once a line before kind u r l (sets _ number' line' _ values' s' _ r' k' v' b) = let e = same_end before a (Rests s') (Faults kind) r' r in absurd (cc)
  breaks_once a line before kind _ r l (breaks _ line' _ kind' r' l') =
      let e = same_end before a (Faults kind) (Faults kind') r r' in
      let ks : kind ≡ kind' = cc in
      let ls : line ≡ line' = cc in
      λ j. Broken (broken_at (ks j) (ls j))
  breaks_once a line before kind _ r l (is_ready _ _ entry h p n) = absurd (never_broken before a kind h r)

  ready_once : (a : ℕ) (before : List Value) (entry : Entry) (u : Begun) → slice_get code.instrs a ≡ Some i.Done → slice_get code.procs code.model ≡ Some entry → Begins code arguments seed until a before u
      → Ready (first_whole code seed until arguments before entry) ≡ u
  ready_once a before entry u h p (sets _ number' line' _ values' s' _ r' k' v' b) = absurd (never_set before a number' line' s' h r' k')
  ready_once a before entry _ h p (breaks _ line' _ kind' r' l') = absurd (never_broken before a kind' h r')
  ready_once a before entry _ h p (is_ready _ _ entry' h' p' n') = let es : entry ≡ entry' = cc in ap (λ e. Ready (first_whole code seed until arguments before e)) es

  begins_once : (a : ℕ) (before : List Value) (o u : Begun) → Begins code arguments seed until a before o → Begins code arguments seed until a before u → o ≡ u
  begins_once _ _ _ u (sets a number line before values s o r k v b) q = sets_once a number line before values s o u r k v (λ u c. begins_once (s.at + 1) values o u b c) q
  begins_once _ _ _ u (breaks a line before kind r l) q = breaks_once a line before kind u r l q
  begins_once _ _ _ u (is_ready a before entry h p n) q = ready_once a before entry u h p q

same_as : (core : Core) (code : Code) (arguments : List Value) (seed : ℕ) (until : Option ℤ) (o : Begun) → Begins code arguments seed until 0 [] o
    → (b : beginning.Beginning) → BeginsAlike core code (Begins code arguments seed until 0 []) b → BeginsAlike core code (λ u. o ≡ u) b
same_as core code arguments seed until o t (beginning.Begins config) f = (f.0, begins_once code arguments seed until 0 [] o (Ready f.0) t f.1, f.2)
same_as core code arguments seed until o t (beginning.Breaks ending) f = begins_once code arguments seed until 0 [] o (Broken ending) t f
same_as core code arguments seed until o t beginning.Amiss f = tt

pub beginnings_are_right : BeginningsAreRight
beginnings_are_right core code codes arguments seed until o t = same_as core code arguments seed until o t (start core arguments seed until) (beginnings_follow core code codes arguments seed until)
