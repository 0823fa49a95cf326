-- What a run of a constant's code tells of how the machine begins.
use Rattle.std.proofs.Common.{◌≡◌, ℕ, ◌+◌, ◌<◌, ◌^◌, ℤ, List, [], ◌∷◌, ◌++◌, reverse, Option, Some, None, refl, sym, ap, subst, ◌∙◌, arith}
use Rattle.std.proofs.lemmas.List.{reverse-append}
use Rattle.std.proofs.lemmas.Option.{slice_get_within}
use Rattle.std.specs.Prelude.{true, length, nat_eq, slice_get, drop}
use Rattle.chi_value.specs.declared.value.Value.{Value}
use Rattle.chi_core.specs.declared.fault.FaultKind.{FaultKind}
use Rattle.chi_core.specs.declared.scene.Scene.{Scene}
use Rattle.chi_core.specs.Beginning.{constant_view}
use Rattle.chi_core_frame.specs.declared.stop.Stop.{Stop}
use Rattle.chi_code.specs.declared.code.Code.{Code}
use Rattle.chi_code.specs.declared.code.Entry.{Entry}
use Rattle.chi_code.specs.declared.instr.Instr.{Instr}
use Rattle.chi_code.specs.declared.instr.Instr.TheVariants as i
use Rattle.chi_exec.specs.Ends.{EndedAt}
use Rattle.chi_exec_law.specs.Runs.{End, Rests, Faults, Spends, Reaches, Halts}
use Rattle.chi_exec_law.specs.State.{State, frame_of}
use Rattle.chi_exec_law.specs.Instructions.{set_const_on}
use Rattle.chi_exec_law.specs.Machine.{Setting, in_expressions, stops_at, step}
use Rattle.chi_exec_law.specs.Laws.{begun}
use Rattle.chi_exec_law.proofs.Going.{reaches_step}
use Rattle.chi_exec_law.proofs.Moving.{rests_at}
use Rattle.chi_exec_law.proofs.Ends.{ends_alike}
use Rattle.chi_machine_laws.specs.Beginning.{Begun, Ready, Broken, line_from, scene_before, broken_at, first_whole, Begins, sets, breaks, is_ready}
use Rattle.chi_machine_constants.specs.Settings.{MayBegin, LeadsTo, IsBroken, AreSet}

module _ (code : Code) (seed : ℕ) (before : List Value) (a : ℕ) where
  abbrev pub Runs : End State → Type 0
  Runs e = Reaches (step (in_expressions code (scene_before code seed before))) (begun a [] constant_view) e

  -- at the end of the constants the run rests at once
  at_end : slice_get code.instrs a ≡ Some i.Done → Runs (Rests (begun a [] constant_view))
  at_end h =
      let m : Setting = in_expressions code (scene_before code seed before) in
      reaches_step (step m) _ _ (rests_at m a [] (frame_of [] []) constant_view (ap (stops_at m) h))

  same_end : (e f : End State) → Runs e → Runs f → e ≡ f
  same_end e f r s = ends_alike (step (in_expressions code (scene_before code seed before))) (begun a [] constant_view) e f r s

  -- the run ends
  pub it_halts : MayBegin code seed a before → Halts (step (in_expressions code (scene_before code seed before))) (begun a [] constant_view)
  it_halts (arguments, until, o, b) = by_begins o b
    where
      by_begins : (o : Begun) → Begins code arguments seed until a before o → Halts (step (in_expressions code (scene_before code seed before))) (begun a [] constant_view)
      by_begins o (sets _ number line _ values s _ r k v n) = (Rests s, r)
      by_begins _ (breaks _ line _ kind r l) = (Faults kind, r)
      by_begins _ (is_ready _ _ entry h p n) = (Rests (begun a [] constant_view), at_end h)

  -- it costs nothing
  pub never_spends : MayBegin code seed a before → Runs Spends → ⊥
  never_spends (arguments, until, o, b) r = by_begins o b
    where
      by_begins : (o : Begun) → Begins code arguments seed until a before o → ⊥
      by_begins o (sets _ number line _ values s _ r' k v n) = absurd (let z : Rests s ≡ Spends = same_end (Rests s) Spends r' r in cc)
      by_begins _ (breaks _ line _ kind r' l) = absurd (let z : Faults kind ≡ Spends = same_end (Faults kind) Spends r' r in cc)
      by_begins _ (is_ready _ _ entry h p n) = absurd (let z : Rests (begun a [] constant_view) ≡ Spends = same_end (Rests (begun a [] constant_view)) Spends (at_end h) r in cc)

  -- a fault has a line, and ends the run
  pub has_line : (kind : FaultKind) → MayBegin code seed a before → Runs (Faults kind) → (line : ℕ) × (line_from (drop a code.instrs) ≡ Some line)
  has_line kind (arguments, until, o, b) r = by_begins o b
    where
      by_begins : (o : Begun) → Begins code arguments seed until a before o → (line : ℕ) × (line_from (drop a code.instrs) ≡ Some line)
      by_begins o (sets _ number line _ values s _ r' k v n) = absurd (let z : Rests s ≡ Faults kind = same_end (Rests s) (Faults kind) r' r in cc)
      by_begins _ (breaks _ line _ kind' r' l) = (line, l)
      by_begins _ (is_ready _ _ entry h p n) =
          absurd (let z : Rests (begun a [] constant_view) ≡ Faults kind = same_end (Rests (begun a [] constant_view)) (Faults kind) (at_end h) r in cc)

  pub is_broken : (kind : FaultKind) (line : ℕ) → Runs (Faults kind) → line_from (drop a code.instrs) ≡ Some line → IsBroken code seed a before kind line
  is_broken kind line r l arguments until = breaks a line before kind r l

  -- where a value is on the stack, a constant is set
  pub leads_on : (s : State) (x : Value) (rest : List Value) → MayBegin code seed a before → Runs (Rests s) → s.stack ≡ x ∷ rest → LeadsTo code seed a before (s.at + 1) (before ++ x ∷ [])
  leads_on s x rest may r e = record { on = on; back = back may }
    where
      valued : set_const_on s before ≡ Some (before ++ x ∷ [])
      valued = ap (λ (st : List Value). set_const_on (record s { stack = st }) before) e

      on : (arguments : List Value) (until : Option ℤ) (o : Begun) → Begins code arguments seed until a before o → Begins code arguments seed until (s.at + 1) (before ++ x ∷ []) o
      on arguments until o (sets _ number line _ values s' _ r' k v n) =
          let z : Rests s' ≡ Rests s = same_end (Rests s') (Rests s) r' r in
          let same : s' ≡ s = cc in
          let y : Some values ≡ Some (before ++ x ∷ []) = sym v ∙ ap (λ (t : State). set_const_on t before) same ∙ valued in
          let vs : values ≡ before ++ x ∷ [] = cc in
          subst (λ (t : State). Begins code arguments seed until (t.at + 1) (before ++ x ∷ []) o) same (subst (λ (l : List Value). Begins code arguments seed until (s'.at + 1) l o) vs n)
      on arguments until _ (breaks _ line _ kind r' l) = absurd (let z : Faults kind ≡ Rests s = same_end (Faults kind) (Rests s) r' r in cc)
      on arguments until _ (is_ready _ _ entry h p n) =
          let z : Rests (begun a [] constant_view) ≡ Rests s = same_end (Rests (begun a [] constant_view)) (Rests s) (at_end h) r in
          let same : begun a [] constant_view ≡ s = cc in
          absurd (let y : [] ≡ x ∷ rest = ap (λ (t : State). t.stack) same ∙ e in cc)

      back : MayBegin code seed a before → (arguments : List Value) (until : Option ℤ) (o : Begun) → Begins code arguments seed until (s.at + 1) (before ++ x ∷ []) o → Begins code arguments seed until a before o
      back (arguments', until', o', b') arguments until o n = by_begins o' b'
        where
          by_begins : (o' : Begun) → Begins code arguments' seed until' a before o' → Begins code arguments seed until a before o
          by_begins o' (sets _ number line _ values s' _ r' k v n') =
              let z : Rests s' ≡ Rests s = same_end (Rests s') (Rests s) r' r in
              let same : s' ≡ s = cc in
              sets a number line before (before ++ x ∷ []) s o r (ap (λ (t : State). slice_get code.instrs t.at) (sym same) ∙ k) valued n
          by_begins _ (breaks _ line _ kind r' l) = absurd (let z : Faults kind ≡ Rests s = same_end (Faults kind) (Rests s) r' r in cc)
          by_begins _ (is_ready _ _ entry h p n') =
              let z : Rests (begun a [] constant_view) ≡ Rests s = same_end (Rests (begun a [] constant_view)) (Rests s) (at_end h) r in
              let same : begun a [] constant_view ≡ s = cc in
              absurd (let y : [] ≡ x ∷ rest = ap (λ (t : State). t.stack) same ∙ e in cc)

  -- and it stands at an instruction
  pub is_there : (s : State) (x : Value) (rest : List Value) → MayBegin code seed a before → Runs (Rests s) → s.stack ≡ x ∷ rest → (number line : ℕ) × (slice_get code.instrs s.at ≡ Some (i.SetConst number line))
  is_there s x rest (arguments, until, o, b) r e = by_begins o b
    where
      by_begins : (o : Begun) → Begins code arguments seed until a before o → (number line : ℕ) × (slice_get code.instrs s.at ≡ Some (i.SetConst number line))
      by_begins o (sets _ number line _ values s' _ r' k v n) =
          let z : Rests s' ≡ Rests s = same_end (Rests s') (Rests s) r' r in
          let same : s' ≡ s = cc in
          (number, line, (ap (λ (t : State). slice_get code.instrs t.at) (sym same) ∙ k))
      by_begins _ (breaks _ line _ kind r' l) = absurd (let z : Faults kind ≡ Rests s = same_end (Faults kind) (Rests s) r' r in cc)
      by_begins _ (is_ready _ _ entry h p n) =
          let z : Rests (begun a [] constant_view) ≡ Rests s = same_end (Rests (begun a [] constant_view)) (Rests s) (at_end h) r in
          let same : begun a [] constant_view ≡ s = cc in
          absurd (let y : [] ≡ x ∷ rest = ap (λ (t : State). t.stack) same ∙ e in cc)

  -- where none is, no constant is left
  pub is_over : (s : State) → MayBegin code seed a before → Runs (Rests s) → s.stack ≡ [] → slice_get code.instrs a ≡ Some i.Done
  is_over s (arguments, until, o, b) r e = by_begins o b
    where
      by_begins : (o : Begun) → Begins code arguments seed until a before o → slice_get code.instrs a ≡ Some i.Done
      by_begins o (sets _ number line _ values s' _ r' k v n) =
          let z : Rests s' ≡ Rests s = same_end (Rests s') (Rests s) r' r in
          let same : s' ≡ s = cc in
          absurd (let y : None ≡ Some values = sym (ap (λ (st : List Value). set_const_on (record s' { stack = st }) before) (ap (λ (t : State). t.stack) same ∙ e)) ∙ v in cc)
      by_begins _ (breaks _ line _ kind r' l) = absurd (let z : Faults kind ≡ Rests s = same_end (Faults kind) (Rests s) r' r in cc)
      by_begins _ (is_ready _ _ entry h p n) = h

  -- there the machine is ready
  pub the_model : slice_get code.instrs a ≡ Some i.Done → (arguments : List Value) (until : Option ℤ) (o : Begun) → Begins code arguments seed until a before o
      → (entry : Entry) × (slice_get code.procs code.model ≡ Some entry) × (nat_eq (length arguments) entry.arity ≡ true)
  the_model h arguments until o (sets _ number line _ values s _ r k v n) =
      let z : Rests s ≡ Rests (begun a [] constant_view) = same_end (Rests s) (Rests (begun a [] constant_view)) r (at_end h) in
      let same : s ≡ begun a [] constant_view = cc in
      absurd (let y : None ≡ Some values = sym (ap (λ (t : State). set_const_on t before) same) ∙ v in cc)
  the_model h arguments until _ (breaks _ line _ kind r l) =
      absurd (let z : Faults kind ≡ Rests (begun a [] constant_view) = same_end (Faults kind) (Rests (begun a [] constant_view)) r (at_end h) in cc)
  the_model h arguments until _ (is_ready _ _ entry h' p n) = (entry, p, n)

-- one place leads to another, and that to a third

pub leads_nowhere : (code : Code) (seed a : ℕ) (before : List Value) → LeadsTo code seed a before a before
leads_nowhere code seed a before = record { on = λ arguments until o b. b; back = λ arguments until o b. b }

pub leads_further : (code : Code) (seed a b c : ℕ) (xs ys zs : List Value) → LeadsTo code seed a xs b ys → LeadsTo code seed b ys c zs → LeadsTo code seed a xs c zs
leads_further code seed a b c xs ys zs u v = record {
  on = λ arguments until o n. v.on arguments until o (u.on arguments until o n);
  back = λ arguments until o n. u.back arguments until o (v.back arguments until o n);
}

pub may_further : (code : Code) (seed a b : ℕ) (xs ys : List Value) → LeadsTo code seed a xs b ys → MayBegin code seed a xs → MayBegin code seed b ys
may_further code seed a b xs ys u (arguments, until, o, n) = (arguments, until, o, u.on arguments until o n)

pub broken_from : (code : Code) (seed a b : ℕ) (xs ys : List Value) (kind : FaultKind) (line : ℕ) → LeadsTo code seed a xs b ys → IsBroken code seed b ys kind line → IsBroken code seed a xs kind line
broken_from code seed a b xs ys kind line u h arguments until = u.back arguments until (Broken (broken_at kind line)) (h arguments until)

-- so all are set, where a place to which the first leads is at their end
pub all_set : (code : Code) (seed a : ℕ) (values : List Value) → LeadsTo code seed 0 [] a values → slice_get code.instrs a ≡ Some i.Done → AreSet code seed values
all_set code seed a values u h = record {
  ready = λ arguments until entry p n. u.back arguments until (Ready (first_whole code seed until arguments values entry)) (is_ready a values entry h p n);
  model = λ arguments until o b. the_model code seed values a h arguments until o (u.on arguments until o b);
}

-- with the machine's own values

pub halts_so : (code : Code) (seed a : ℕ) (before : List Value) (scene : Scene) (s : State) → MayBegin code seed a before → scene ≡ scene_before code seed before → s ≡ begun a [] constant_view
    → Halts (step (in_expressions code scene)) s
halts_so code seed a before scene s may e f =
    subst (λ (x : Scene). Halts (step (in_expressions code x)) s) (sym e)
    (subst (λ (t : State). Halts (step (in_expressions code (scene_before code seed before))) t) (sym f) (it_halts code seed before a may))

pub rests_so : (code : Code) (seed a : ℕ) (before : List Value) (scene : Scene) (s t : State) → scene ≡ scene_before code seed before → s ≡ begun a [] constant_view
    → Reaches (step (in_expressions code scene)) s (Rests t) → Runs code seed before a (Rests t)
rests_so code seed a before scene s t e f r =
    subst (λ (x : Scene). Reaches (step (in_expressions code x)) (begun a [] constant_view) (Rests t)) e
    (subst (λ (u : State). Reaches (step (in_expressions code scene)) u (Rests t)) f r)

pub ended_so : (code : Code) (seed a : ℕ) (before own : List Value) (scene : Scene) (s : State) (why : Stop) → scene ≡ scene_before code seed before → s ≡ begun a [] constant_view → own ≡ before
    → EndedAt (step (in_expressions code scene)) s why → EndedAt (step (in_expressions code (scene_before code seed own))) (begun a [] constant_view) why
ended_so code seed a before own scene s why e f g r =
    subst (λ (l : List Value). EndedAt (step (in_expressions code (scene_before code seed l))) (begun a [] constant_view) why) (sym g)
    (subst (λ (x : Scene). EndedAt (step (in_expressions code x)) (begun a [] constant_view) why) e
    (subst (λ (u : State). EndedAt (step (in_expressions code scene)) u why) f r))

-- the topmost value is the last of the machine's own
pub topmost : (stack rest : List Value) (x : Value) → stack ≡ rest ++ x ∷ [] → reverse stack ≡ x ∷ reverse rest
topmost stack rest x e = ap reverse e ∙ reverse-append rest (x ∷ [])

pub no_stack : (stack : List Value) → length stack ≡ 0 → reverse stack ≡ []
no_stack [] e = refl
no_stack (x ∷ stack) e = absurd (omega (arith, e))

pub place_within : (code : Code) (a number line : ℕ) → slice_get code.instrs a ≡ Some (i.SetConst number line) → a < length code.instrs
place_within code a number line e = slice_get_within code.instrs a (i.SetConst number line) e

pub place_fits : (xs : List Instr) (at : ℕ) → at < length xs → length xs < 18446744073709551616 → at + 1 < 2 ^ 64
place_fits xs at h k = omega (arith, h, k)
