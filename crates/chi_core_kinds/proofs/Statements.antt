-- Statements that functions and processes share: none is amiss, and each leads to a place of the body again, or returns a value of the
-- function's kind.
use Rattle.std.proofs.Common.{◌≡◌, ℕ, zero, suc, Bool, List, [], ◌∷◌, map, Option, Some, refl, sym, subst}
use Rattle.std.specs.Prelude.{slice_get}
use Rattle.chi_types.specs.declared.ty.Ty.{Ty-F}
use Rattle.chi_value.specs.declared.value.Value.{Value, out-Value}
use Rattle.chi_core.specs.declared.expression.CExpr.{CExpr, out-CExpr}
use Rattle.chi_core.specs.declared.scene.Scene.{Scene}
use Rattle.chi_core.specs.declared.statement.Branch.{Branch, out-Branch}
use Rattle.chi_core.specs.declared.statement.CStat.{CStat, CStat-F, out-CStat}
use Rattle.chi_core.specs.declared.target.CTarget.{CTarget}
use Rattle.chi_core.specs.Answer.{gives, wanted, in_turn, through}
use Rattle.chi_core.specs.Evaluation.{Run, Evaluates, eval}
use Rattle.std.specs.Option.{IsSomeAnd}
use Rattle.chi_core.specs.Config.{Running}
use Rattle.chi_core.specs.Kinded.{Held, WalksFit, At}
use Rattle.chi_core.specs.Kinds.{Kind, Every, part_kinds}
use Rattle.chi_core.specs.Of.{World, Wider, IsOf, AreOf, none_of, one_of}
use Rattle.chi_core.specs.Reading.{elements_of}
use Rattle.chi_core.specs.Scopes.{Home, function}
use Rattle.chi_core.specs.SetSlots.{StatLayer, Known, also, also_all, wholes, sets}
use Rattle.chi_core.specs.Sound.{SoundHome}
use Rattle.chi_core.specs.SoundExpressions.{HasKind, HaveKinds, no_expression, one_expression}
use Rattle.chi_core.specs.SoundParts.{Walks, TargetsTake}
use Rattle.chi_core.specs.SoundStatements as sound
use Rattle.chi_core.specs.SoundStatements.{SoundStat, SoundBlock, one_statement, SoundBranches, no_branch, one_branch}
use Rattle.chi_core.specs.Spots.{spot_of, store}
use Rattle.chi_core.specs.Standing.{Frame, Inner, Looping, Walking, term_of, is_within_loop, Standing, next, in_branch, in_else, in_loop, in_walk, at_walk_turn}
use Rattle.chi_core.specs.Terms.{Term, Did, On, Returns, on_with, after_loop, from_loop, goes_on, walked, spread, chosen, tested, assigned, declared, walking, act_stat}
use Rattle.chi_core.specs.Variables.{Variables, with_slot, side_by_side, bound}
use Rattle.chi_core.proofs.Standings.{sound_at}
use Rattle.chi_core.proofs.Worlds.{wider_still, are_grow}
use Rattle.chi_core_kinds.specs.Laws.{WellOf}
use Rattle.chi_core_kinds.specs.Well.{Same, Well}
use Rattle.chi_core_kinds.proofs.Composing.{well_gives, well_then, well_giving}
use Rattle.chi_core_kinds.proofs.Elements.{every_tail}
use Rattle.chi_core_kinds.proofs.Expressions.{Provides, Reads, reads_grow, well_some, grows_truth, well_value, well_values}
use Rattle.chi_core_kinds.proofs.Operations.{Laws}
use Rattle.chi_core_kinds.proofs.Held.{walks_grow, held_less, held_with, held_bound, elements_fit}
use Rattle.chi_core_kinds.proofs.Standings.{Before, past, GoesTo, broken, continued}
use Rattle.chi_core_kinds.proofs.Targets.{AreSpots, StoresFit, stores_beside, spread_values, spread_parts, well_stores, well_spots}

-- the statements that functions and processes share
abbrev pub Shared : StatLayer → Type 0
Shared (CStat-F.Exit line e) = ⊥
Shared (CStat-F.Write line pieces es) = ⊥
Shared (CStat-F.Select line alternatives) = ⊥
Shared (CStat-F.Run line elements) = ⊥
Shared (CStat-F.Start line elements) = ⊥
Shared (CStat-F.Finish line es) = ⊥
Shared _ = Unit {0}

module _ (d : Home) where
  -- what comes after an item: the rest of a place, or the value of a function
  abbrev pub DidFits : World → Did → Type 0
  DidFits w (On variables term) = At w d variables term Running
  DidFits w (Returns v) = (T : Kind) × (d.scope.role ≡ function T) × IsOf w T v

  -- it runs at a place
  pub at_place : (w : World) (variables : Variables) (known : Known) (rest : List CStat) (frames : List Frame) → Standing d known rest frames → WalksFit w d.scope frames
      → Held w d.scope known variables → At w d variables (term_of rest frames) Running
  at_place w variables known rest frames p walks held = record {
    known = known;
    rest = rest;
    frames = frames;
    place = p;
    left = refl;
    walks = walks;
    held = held;
    state = tt;
  }

  -- the statement that stands first at a place is sound
  pub first_at : SoundHome d → (known : Known) (x : CStat) (rest : List CStat) (frames : List Frame) → Standing d known (x ∷ rest) frames
      → SoundStat d.scope (is_within_loop frames) known (out-CStat x)
  first_at body known x rest frames p = first (sound_at d body known (x ∷ rest) frames p)
    where
      first : SoundBlock d.scope (is_within_loop frames) known (x ∷ rest) → SoundStat d.scope (is_within_loop frames) known (out-CStat x)
      first (one_statement _ _ _ _ h more) = h

  pub loop_test : (loop : Bool) (known : Known) (line : ℕ) (test : CExpr) (block : List CStat) → SoundStat d.scope loop known (CStat-F.While line test block)
      → HasKind d.scope known (out-CExpr test) Ty-F.Bool
  loop_test _ _ _ _ _ (sound.loops _ _ _ _ _ h block) = h

  -- the place after a statement
  pub place_after : (known : Known) (x : CStat) (rest : List CStat) (frames : List Frame) → Standing d known (x ∷ rest) frames → (s : StatLayer) → out-CStat x ≡ s → Standing d (sets s known) rest frames
  place_after known x rest frames p s e = subst (λ z. Standing d (sets z known) rest frames) e (next known x rest frames p)

  goes_well : (w : World) (known : Known) (variables : Variables) (left : Option Term) → GoesTo d w known left → Held w d.scope known variables → Well w DidFits (goes_on variables left)
  goes_well w known variables left b held =
      subst (λ o. Well w DidFits (goes_on variables o)) (sym b.is)
      (well_gives w DidFits (On variables (term_of b.rest b.frames))
      (at_place w variables b.after.outer b.rest b.frames b.after.place b.walks (held_less w d.scope b.after.outer known variables b.after.within held)))

  -- a walk turns: it is over, or its names take the next element
  pub well_walk : (w : World) (known : Known) (variables : Variables) (line : ℕ) (slots : List ℕ) (elements : List Value) (container : CExpr) (block rest : List CStat) (frames : List Frame)
      → Before d known (CStat-F.For line slots container block) rest frames → WalksFit w d.scope (Walking line slots elements container block rest ∷ frames) → Held w d.scope known variables
      → Well w DidFits (walked variables line slots elements block (term_of rest frames))
  well_walk w known variables line slots [] container block rest frames b fit held =
      let a = past d known (CStat-F.For line slots container block) rest frames b (λ k j h. h) in
      well_gives w DidFits (On variables (term_of rest frames)) (at_place w variables a.outer rest frames a.place fit.1 (held_less w d.scope a.outer known variables a.within held))
  well_walk w known variables line slots (x ∷ xs) container block rest frames b fit held =
      well_giving w (λ v. Held v d.scope (also_all slots b.outer)) DidFits _
      (λ v wider after held'. at_place v after (also_all slots b.outer) block (Walking line slots xs container block rest ∷ frames)
      (in_walk b.outer b.x rest frames line slots xs container block b.place b.is)
      (walks_grow w v wider d.scope (Walking line slots xs container block rest ∷ frames) ((fit.0.0, fit.0.1, every_tail (IsOf w fit.0.0) x xs fit.0.2), fit.1)) held')
      (wanted (bound slots x variables))
      (well_some w (λ v. Held v d.scope (also_all slots b.outer)) (bound slots x variables)
      (held_bound w d.scope slots fit.0.0 x fit.0.1 (fit.0.2 zero x refl) b.outer variables (held_less w d.scope b.outer known variables b.within held)))

module _ (laws : Laws) (d : Home) (run : Run) (scene : Scene) (provides : Provides d.scope run scene) where
  -- at a place at which a statement stands first
  module _ (known : Known) (x : CStat) (rest : List CStat) (frames : List Frame) (p : Standing d known (x ∷ rest) frames) (variables : Variables) where
    abbrev value_of : Evaluates
    value_of = eval run scene variables

    abbrev Fits : World → Did → Type 0
    Fits = DidFits d

    abbrev Sees : World → Type 0
    Sees w = Reads w d.scope known variables

    sees : (w v : World) → Wider w v → Sees w → Sees v
    sees w v wider = reads_grow w v wider d.scope known variables

    well_expression : (e : CExpr) (T : Kind) → HasKind d.scope known (out-CExpr e) T → (w : World) → Sees w → WellOf w T (value_of e)
    well_expression = well_value laws d.scope run scene provides known variables

    abbrev Walked : World → Type 0
    Walked w = WalksFit w d.scope frames

    walked_on : (w v : World) → Wider w v → Walked w → Walked v
    walked_on w v wider = walks_grow w v wider d.scope frames

    well_chosen : (bs : List Branch) (otherwise : List CStat) (w : World) → SoundBranches d.scope (is_within_loop frames) known bs → Sees w → Walked w
        → ((k : ℕ) (b : Branch) → slice_get bs k ≡ Some b → Standing d known (out-Branch b).block (Inner rest ∷ frames)) → Standing d known otherwise (Inner rest ∷ frames)
        → Well w Fits (chosen value_of variables bs otherwise (term_of rest frames))
    well_chosen _ otherwise w (no_branch _ _) r walks each last =
        well_gives w Fits (On variables (term_of otherwise (Inner rest ∷ frames))) (at_place d w variables known otherwise (Inner rest ∷ frames) last walks r.held)
    well_chosen _ otherwise w (one_branch _ _ b bs h block more) r walks each last =
        well_then w (λ v. IsOf v Ty-F.Bool) Fits _
        (λ v wider same y is. grows_truth v (Same v Fits) (out-Value y) (gives (On variables (term_of (out-Branch b).block (Inner rest ∷ frames)))) (chosen value_of variables bs otherwise (term_of rest frames)) is
        (well_gives v Fits (On variables (term_of (out-Branch b).block (Inner rest ∷ frames)))
        (at_place d v variables known (out-Branch b).block (Inner rest ∷ frames) (each zero b refl) (walked_on w v wider walks) (sees w v wider r).held))
        (well_chosen bs otherwise v more (sees w v wider r) (walked_on w v wider walks) (λ k. each (suc k)) last))
        (value_of (out-Branch b).test) (well_expression (out-Branch b).test Ty-F.Bool h w r)

    -- a loop goes in, or is over
    pub well_tested : (line : ℕ) (test : CExpr) (block : List CStat) → out-CStat x ≡ CStat-F.While line test block → HasKind d.scope known (out-CExpr test) Ty-F.Bool → (w : World) → Sees w → Walked w
        → Well w Fits (tested value_of variables line test block (term_of rest frames))
    well_tested line test block e h w r walks =
        well_then w (λ v. IsOf v Ty-F.Bool) Fits _
        (λ v wider same y is. grows_truth v (Same v Fits) (out-Value y) (gives (On variables (term_of block (Looping line test block rest ∷ frames)))) (gives (On variables (term_of rest frames))) is
        (well_gives v Fits (On variables (term_of block (Looping line test block rest ∷ frames)))
        (at_place d v variables known block (Looping line test block rest ∷ frames) (in_loop known x rest frames line test block p e) (walked_on w v wider walks) (sees w v wider r).held))
        (well_gives v Fits (On variables (term_of rest frames))
        (at_place d v variables known rest frames (place_after d known x rest frames p (CStat-F.While line test block) e) (walked_on w v wider walks) (sees w v wider r).held)))
        (value_of test) (well_expression test Ty-F.Bool h w r)

    well_declared : (line slot : ℕ) (e : CExpr) (T : Kind) → out-CStat x ≡ CStat-F.Declare line slot e → slice_get d.scope.slots slot ≡ Some T → HasKind d.scope known (out-CExpr e) T → (w : World) → Sees w
        → Walked w → Well w Fits (declared value_of variables slot e (term_of rest frames))
    well_declared line slot e T is there h w r walks =
        well_then w (λ v. IsOf v T) Fits _
        (λ v wider same y of_it. well_giving v (λ u. Held u d.scope (also slot known)) Fits (on_with (term_of rest frames))
        (λ u wider' after held. at_place d u after (also slot known) rest frames (place_after d known x rest frames p (CStat-F.Declare line slot e) is)
        (walked_on w u (wider_still w v u wider wider') walks) held)
        (wanted (with_slot slot y variables))
        (well_some v (λ u. Held u d.scope (also slot known)) (with_slot slot y variables) (held_with v d.scope known variables slot T y there of_it (sees w v wider r).held)))
        (value_of e) (well_expression e T h w r)

    -- values are stored into targets, once what is spread is known to be of the kinds that the targets take
    well_assigned : (line : ℕ) (ts : List CTarget) (es : List CExpr) (Ts Us : List Kind) → out-CStat x ≡ CStat-F.Assign line ts es → HaveKinds d.scope known es Ts → TargetsTake d.scope known ts Us
        → ((w : World) (given : List Value) → AreOf w given Ts → IsSomeAnd (spread ts given) (λ xs. AreOf w xs Us)) → (w : World) → Sees w
        → Walked w → Well w Fits (assigned value_of variables ts es (term_of rest frames))
    well_assigned line ts es Ts Us is h take fit w r walks =
        well_then w (λ v given. AreOf v given Ts) Fits _
        (λ v wider1 same1 given are_given. well_then v (λ t xs. AreOf t xs Us) Fits _
        (λ t wider2 same2 xs are.
        let wt : Wider w t = wider_still w v t wider1 wider2 in
        well_then t (λ u. AreSpots d.scope known u ts Us) Fits _
        (λ u wider3 same3 spots are_spots.
        let wu : Wider w u = wider_still w t u wt wider3 in
        well_then u (λ z. StoresFit d.scope known z ts) Fits _
        (λ z wider4 same4 stores stores_fit.
        let wz : Wider w z = wider_still w u z wu wider4 in
        well_giving z (λ y. Held y d.scope (also_all (wholes ts) known)) Fits (on_with (term_of rest frames))
        (λ y wider5 after held. at_place d y after (also_all (wholes ts) known) rest frames (place_after d known x rest frames p (CStat-F.Assign line ts es) is)
        (walked_on w y (wider_still w z y wz wider5) walks) held)
        (through store stores variables) (well_stores laws d.scope known z known variables ts stores (λ k j. j) stores_fit (sees w z wz r).held))
        (wanted (side_by_side spots xs))
        (well_some u (λ z. StoresFit d.scope known z ts) (side_by_side spots xs) (stores_beside d.scope known u ts Us spots xs are_spots (are_grow t u wider3 xs Us are))))
        (in_turn (map (spot_of value_of) ts)) (well_spots laws d.scope known run scene provides variables ts Us take t (sees w t wt r)))
        (wanted (spread ts given)) (well_some v (λ t xs. AreOf t xs Us) (spread ts given) (fit v given are_given)))
        (in_turn (map value_of es)) (well_values laws d.scope run scene provides known variables es Ts h w r)

    well_walking : (line : ℕ) (slots : List ℕ) (container : CExpr) (block : List CStat) → out-CStat x ≡ CStat-F.For line slots container block → Walks d.scope known slots container → (w : World) → Sees w
        → Walked w → Well w Fits (walking value_of variables line slots container block (term_of rest frames))
    well_walking line slots container block is over w r walks =
        well_then w (λ v. IsOf v over.kind) Fits _
        (λ v wider same y of_it. well_giving v (λ u. Every (IsOf u over.element)) Fits _
        (λ u wider' xs each.
        let wu : Wider w u = wider_still w v u wider wider' in
        at_place d u variables known [] (Walking line slots xs container block rest ∷ frames) (at_walk_turn known x rest frames line slots xs container block p is)
        ((over.element, over.take, each), walked_on w u wu walks) (sees w u wu r).held)
        (wanted (elements_of y)) (well_some v (λ u. Every (IsOf u over.element)) (elements_of y) (elements_fit v d.scope over.kind over.element (out-Value y) over.over of_it)))
        (value_of container) (well_expression container over.kind over.has_kind w r)

    pub well_shared : (loop : Bool) (s : StatLayer) → SoundStat d.scope loop known s → loop ≡ is_within_loop frames → out-CStat x ≡ s → Shared s → (w : World) → Sees w → Walked w
        → Well w Fits (act_stat value_of variables s (term_of rest frames))
    well_shared _ _ (sound.declares _ _ line slot e T there may h) f is shared w r walks = well_declared line slot e T is there h w r walks
    well_shared _ _ (sound.assigns _ _ line ts es Ts h take) f is shared w r walks =
        well_assigned line ts es Ts Ts is h take (λ v xs are. spread_values d.scope known v ts Ts xs take are) w r walks
    well_shared _ _ (sound.spreads _ _ line t u more e parts h take) f is shared w r walks =
        well_assigned line (t ∷ u ∷ more) (e ∷ []) (Ty-F.TupleOf parts ∷ []) (part_kinds parts) is (one_expression e [] (Ty-F.TupleOf parts) [] h no_expression) take
        (λ v given are. one_tuple v given are) w r walks
      where
        one_tuple : (v : World) (given : List Value) → AreOf v given (Ty-F.TupleOf parts ∷ []) → IsSomeAnd (spread (t ∷ u ∷ more) given) (λ xs. AreOf v xs (part_kinds parts))
        one_tuple v _ (one_of y _ _ _ is none_of) = spread_parts v parts (out-Value y) is
    well_shared _ _ (sound.chooses _ _ line bs otherwise h block) f is shared w r walks =
        well_chosen bs otherwise w (subst (λ l. SoundBranches d.scope l known bs) f h) r walks (λ k b e. in_branch known x rest frames line bs otherwise k b p is e)
        (in_else known x rest frames line bs otherwise p is)
    well_shared _ _ (sound.loops _ _ line test block h _) f is shared w r walks = well_tested line test block is h w r walks
    well_shared _ _ (sound.walks _ _ line slots container block over _) f is shared w r walks = well_walking line slots container block is over w r walks
    well_shared _ _ (sound.breaks _ line) f is shared w r walks =
        goes_well d w known variables (after_loop (term_of rest frames)) (broken d w known rest frames (place_after d known x rest frames p (CStat-F.Break line) is) walks (sym f)) r.held
    well_shared _ _ (sound.continues _ line) f is shared w r walks =
        goes_well d w known variables (from_loop (term_of rest frames)) (continued d w known rest frames (place_after d known x rest frames p (CStat-F.Continue line) is) walks (sym f)) r.held
    well_shared _ _ (sound.passes _ _ line) f is shared w r walks =
        well_gives w Fits (On variables (term_of rest frames)) (at_place d w variables known rest frames (place_after d known x rest frames p (CStat-F.Pass line) is) walks r.held)
    well_shared _ _ (sound.returns _ _ line e T role h) f is shared w r walks =
        well_giving w (λ v. IsOf v T) Fits Returns (λ v wider y of_it. (T, role, of_it)) (value_of e) (well_expression e T h w r)
    well_shared _ _ _ f is shared w r walks = absurd shared
