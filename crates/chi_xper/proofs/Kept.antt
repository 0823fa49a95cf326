-- The items of a sound experiment do well: none is amiss, what is left to do is sound again, and what a model is called
-- with fits it.
use Rattle.std.proofs.Common.{◌≡◌, ℕ, zero, Bool, true, List, [], ◌∷◌, map, Option, Some, refl, sym, subst, ◌∙◌}
use Rattle.std.specs.Prelude.{slice_get, IsTrue}
use Rattle.std.specs.List.{list_all}
use Rattle.std.specs.Option.{IsSomeAnd}
use Rattle.chi_types.specs.declared.ty.Ty.{Ty-F}
use Rattle.chi_value.specs.declared.format.Piece.{Piece}
use Rattle.chi_value.specs.declared.value.Value.{Value, out-Value}
use Rattle.chi_format.specs.Format.{rendered}
use Rattle.chi_core.specs.declared.experiment.XBranch.{XBranch, out-XBranch}
use Rattle.chi_core.specs.declared.experiment.XStat.{XStat, XStat-F, out-XStat}
use Rattle.chi_core.specs.declared.expression.CExpr.{CExpr, out-CExpr}
use Rattle.chi_core.specs.declared.program.ProcDef.{ProcDef}
use Rattle.chi_core.specs.declared.scene.Scene.{Scene}
use Rattle.chi_core.specs.declared.statement.CStat.{out-CStat}
use Rattle.chi_core.specs.declared.target.CTarget.{CTarget}
use Rattle.chi_core.specs.Answer.{Does, Fails, gives, then_do, wanted, in_turn, through}
use Rattle.chi_core.specs.Evaluation.{Run, Evaluates, eval}
use Rattle.chi_core.specs.Kinded.{Held}
use Rattle.chi_core.specs.Kinds.{Kind, Every, kinds_of, is_plain_kind, part_kinds}
use Rattle.chi_core.specs.Of.{World, Wider, IsOf, AreOf, none_of, one_of}
use Rattle.chi_core.specs.Performing.{within_text, written}
use Rattle.chi_core.specs.Reading.{elements_of}
use Rattle.chi_core.specs.Scopes.{Scope, exit_of}
use Rattle.chi_core.specs.SetSlots.{StatLayer, Known, also, also_all, sets, wholes}
use Rattle.chi_core.specs.SoundExperiments as xsound
use Rattle.chi_core.specs.SoundExperiments.{sets_by, is_line, TakenAs, SoundXStat, SoundXBlock, SoundXBranches, no_branch, one_branch}
use Rattle.chi_core.specs.SoundExpressions.{HasKind, HaveKinds, no_expression, one_expression}
use Rattle.chi_core.specs.SoundParts.{Walks, Shows, SlotsTake, TargetsTake, TargetTakes}
use Rattle.chi_core.specs.SoundStatements as sound
use Rattle.chi_core.specs.SoundStatements.{SoundStat}
use Rattle.chi_core.specs.Spots.{spot_of, store}
use Rattle.chi_core.specs.Terms as terms
use Rattle.chi_core.specs.Terms.{spread, act_stat, declared, assigned, on_with}
use Rattle.chi_core.specs.Variables.{Variables, with_slot, side_by_side, bound}
use Rattle.chi_core.proofs.Worlds.{wider_still, are_grow}
use Rattle.chi_core_kinds.specs.Laws.{WellOf}
use Rattle.chi_core_kinds.specs.Well.{Same, Well}
use Rattle.chi_core_kinds.proofs.Composing.{well_gives, well_then, well_giving, well_wanted, well_if}
use Rattle.chi_core_kinds.proofs.Elements.{every_tail}
use Rattle.chi_core_kinds.proofs.Expressions.{Provides, Reads, reads_grow, well_some, grows_truth, well_value, well_values}
use Rattle.chi_core_kinds.proofs.Held.{Within, within_all, held_grows, held_less, held_with, held_bound, elements_fit}
use Rattle.chi_core_kinds.proofs.Operations.{Laws}
use Rattle.chi_core_kinds.proofs.Targets.{IsSpot, AreSpots, StoresFit, stores_beside, spread_values, spread_parts, well_stores, well_spot, well_spots}
use Rattle.chi_xper.specs.Items.{Item, Loop, Walk, Term, Call, Did, On, Calls, quietly, first_the, after_loop, from_loop, lined, goes_on, walked, chosen, tested, walking, calling, done_line, done_stat, done}
use Rattle.chi_xper.proofs.Sounding.{SoundTerm, nothing_left, a_statement, a_block_ends, a_loop, a_walk, term_grows, block_first, GoesTo, broken, continued, At}

module _ (scope : Scope) where
  -- what a model is called with fits it, and the value of its exit fits its target
  pub record CallFits (w : World) (c : Call) (variables : Variables) (term : Term) : Type 0 where
    pub d : ProcDef
    pub exit : Kind
    pub taken : Kind
    pub target : CTarget
    pub loop : Bool
    pub base : Known
    pub known : Known
    pub model : slice_get scope.core.procs c.model ≡ Some d
    pub exits : exit_of d ≡ Some exit
    pub plain : IsTrue (list_all is_plain_kind (kinds_of d.params))
    pub arguments : AreOf w c.arguments (kinds_of d.params)
    pub takes : TakenAs exit c.widen taken
    pub spot : IsSpot scope known w target taken c.spot
    pub sound : SoundTerm scope w loop base (also_all (wholes (target ∷ [])) known) term
    pub held : Held w scope known variables

  abbrev pub DidFits : World → Did → Type 0
  DidFits w (On variables term text) = At scope w variables term
  DidFits w (Calls c variables term) = CallFits w c variables term

  goes_well : (w : World) (base known : Known) (variables : Variables) (left : Option Term) → Within base known → GoesTo scope w base left → Held w scope known variables
      → Well w DidFits (goes_on variables left)
  goes_well w base known variables left b g held =
      subst (λ o. Well w DidFits (goes_on variables o)) (sym g.is)
      (well_gives w DidFits (quietly variables g.term)
      (record { loop = g.loop; base = g.outer; known = g.known; sound = g.sound; held = held_less w scope g.known known variables (λ k j. b k (g.within k j)) held }))

  -- a walk turns: it is over, or its names take the next element
  well_walked : (w : World) (value_of : Evaluates) (loop : Bool) (outer base known : Known) (variables : Variables) (line : ℕ) (slots : List ℕ) (elements : List Value) (block : List XStat) (rest : Term) (T : Kind)
      → Within base known → Within outer base → SlotsTake scope slots T → Every (IsOf w T) elements
      → SoundXBlock scope true (also_all slots base) block → SoundTerm scope w loop outer base rest → Held w scope known variables
      → Well w DidFits (walked value_of variables line slots elements block rest)
  well_walked w value_of loop outer base known variables line slots [] block rest T b o take each block_sound more held =
      well_gives w DidFits (quietly variables rest) (record { loop = loop; base = outer; known = base; sound = more; held = held_less w scope base known variables b held })
  well_walked w value_of loop outer base known variables line slots (x ∷ xs) block rest T b o take each block_sound more held =
      well_giving w (λ v. Held v scope (also_all slots base)) DidFits _
      (λ v wider after held'. record {
        loop = true;
        base = base;
        known = also_all slots base;
        sound = term_grows scope w v wider true base (also_all slots base) (first_the block (Walk line slots xs block ∷ rest))
            (block_first scope w true base (also_all slots base) block (Walk line slots xs block ∷ rest) (within_all slots base) block_sound
            (λ now within. a_walk loop outer base now line slots xs block rest T within o take (every_tail (IsOf w T) x xs each) block_sound more));
        held = held';
      })
      (wanted (bound slots x variables))
      (well_some w (λ v. Held v scope (also_all slots base)) (bound slots x variables)
      (held_bound w scope slots T x take (each zero x refl) base variables (held_less w scope base known variables b held)))

module _ (laws : Laws) (scope : Scope) (run : Run) (scene : Scene) (provides : Provides scope run scene) where
  -- where so much counts as set
  module _ (known : Known) (variables : Variables) where
    abbrev value_of : Evaluates
    value_of = eval run scene variables

    abbrev Fits : World → Did → Type 0
    Fits = DidFits scope

    abbrev Sees : World → Type 0
    Sees w = Reads w scope known variables

    sees : (w v : World) → Wider w v → Sees w → Sees v
    sees w v wider = reads_grow w v wider scope known variables

    well_expression : (e : CExpr) (T : Kind) → HasKind scope known (out-CExpr e) T → (w : World) → Sees w → WellOf w T (value_of e)
    well_expression = well_value laws scope run scene provides known variables

    -- of a statement that is done where nothing else is left: so much counts as set after it
    abbrev Alone : Known → World → terms.Did → Type 0
    Alone after w did = (new : Variables) × (did ≡ terms.On new []) × Held w scope after new

    well_alone : (w : World) (loop : Bool) (base after : Known) (rest : Term) (m : Does terms.Did) → SoundTerm scope w loop base after rest → Well w (Alone after) m
        → Well w Fits (λ view. then_do (m view) (lined rest))
    well_alone w loop base after rest m more h =
        well_then w (Alone after) Fits (lined rest)
        (λ v wider same did alone. subst (λ did. Well v Fits (lined rest did)) (sym alone.1)
        (well_gives v Fits (quietly alone.0 rest)
        (record { loop = loop; base = base; known = after; sound = term_grows scope w v wider loop base after rest more; held = alone.2 })))
        m h

    well_declared : (slot : ℕ) (e : CExpr) (T : Kind) → slice_get scope.slots slot ≡ Some T → HasKind scope known (out-CExpr e) T → (w : World) → Sees w
        → Well w (Alone (also slot known)) (declared value_of variables slot e [])
    well_declared slot e T there h w r =
        well_then w (λ v. IsOf v T) (Alone (also slot known)) _
        (λ v wider same y of_it. well_giving v (λ u. Held u scope (also slot known)) (Alone (also slot known)) (on_with [])
        (λ u wider' after held. (after, refl, held))
        (wanted (with_slot slot y variables))
        (well_some v (λ u. Held u scope (also slot known)) (with_slot slot y variables) (held_with v scope known variables slot T y there of_it (sees w v wider r).held)))
        (value_of e) (well_expression e T h w r)

    well_assigned : (ts : List CTarget) (es : List CExpr) (Ts Us : List Kind) → HaveKinds scope known es Ts → TargetsTake scope known ts Us
        → ((w : World) (given : List Value) → AreOf w given Ts → IsSomeAnd (spread ts given) (λ xs. AreOf w xs Us)) → (w : World) → Sees w
        → Well w (Alone (also_all (wholes ts) known)) (assigned value_of variables ts es [])
    well_assigned ts es Ts Us h take fit w r =
        well_then w (λ v given. AreOf v given Ts) (Alone (also_all (wholes ts) known)) _
        (λ v wider1 same1 given are_given. well_then v (λ t xs. AreOf t xs Us) (Alone (also_all (wholes ts) known)) _
        (λ t wider2 same2 xs are.
        let wt : Wider w t = wider_still w v t wider1 wider2 in
        well_then t (λ u. AreSpots scope known u ts Us) (Alone (also_all (wholes ts) known)) _
        (λ u wider3 same3 spots are_spots.
        let wu : Wider w u = wider_still w t u wt wider3 in
        well_then u (λ z. StoresFit scope known z ts) (Alone (also_all (wholes ts) known)) _
        (λ z wider4 same4 stores stores_fit.
        let wz : Wider w z = wider_still w u z wu wider4 in
        well_giving z (λ y. Held y scope (also_all (wholes ts) known)) (Alone (also_all (wholes ts) known)) (on_with [])
        (λ y wider5 after held. (after, refl, held))
        (through store stores variables) (well_stores laws scope known z known variables ts stores (λ k j. j) stores_fit (sees w z wz r).held))
        (wanted (side_by_side spots xs))
        (well_some u (λ z. StoresFit scope known z ts) (side_by_side spots xs) (stores_beside scope known u ts Us spots xs are_spots (are_grow t u wider3 xs Us are))))
        (in_turn (map (spot_of value_of) ts)) (well_spots laws scope known run scene provides variables ts Us take t (sees w t wt r)))
        (wanted (spread ts given)) (well_some v (λ t xs. AreOf t xs Us) (spread ts given) (fit v given are_given)))
        (in_turn (map value_of es)) (well_values laws scope run scene provides known variables es Ts h w r)

    -- a statement without blocks that functions have too
    well_shared : (loop : Bool) (base : Known) (rest : Term) (s : StatLayer) → IsTrue (is_line s) → SoundStat scope loop known s → Within base known → (w : World) → Sees w
        → SoundTerm scope w loop base (sets s known) rest → Well w Fits (done_line scope.core value_of variables s rest)
    well_shared _ base rest _ is (sound.declares loop _ line slot e T there may h) b w r more =
        well_alone w loop base (also slot known) rest (declared value_of variables slot e []) more (well_declared slot e T there h w r)
    well_shared _ base rest _ is (sound.assigns loop _ line ts es Ts h take) b w r more =
        well_alone w loop base (also_all (wholes ts) known) rest (assigned value_of variables ts es []) more
        (well_assigned ts es Ts Ts h take (λ v xs are. spread_values scope known v ts Ts xs take are) w r)
    well_shared _ base rest _ is (sound.spreads loop _ line t u others e parts h take) b w r more =
        well_alone w loop base (also_all (wholes (t ∷ u ∷ others)) known) rest (assigned value_of variables (t ∷ u ∷ others) (e ∷ []) []) more
        (well_assigned (t ∷ u ∷ others) (e ∷ []) (Ty-F.TupleOf parts ∷ []) (part_kinds parts) (one_expression e [] (Ty-F.TupleOf parts) [] h no_expression) take
        (λ v given are. one_tuple v given are) w r)
      where
        one_tuple : (v : World) (given : List Value) → AreOf v given (Ty-F.TupleOf parts ∷ []) → IsSomeAnd (spread (t ∷ u ∷ others) given) (λ xs. AreOf v xs (part_kinds parts))
        one_tuple v _ (one_of y _ _ _ is none_of) = spread_parts v parts (out-Value y) is
    well_shared _ base rest _ is (sound.breaks _ line) b w r more =
        goes_well scope w base known variables (after_loop rest) b (broken scope w true base known rest refl more) r.held
    well_shared _ base rest _ is (sound.continues _ line) b w r more =
        goes_well scope w base known variables (from_loop rest) b (continued scope w true base known rest refl more) r.held
    well_shared _ base rest _ is (sound.passes loop _ line) b w r more =
        well_gives w Fits (quietly variables rest) (record { loop = loop; base = base; known = known; sound = more; held = r.held })
    well_shared _ _ _ _ is (sound.chooses _ _ _ _ _ _ _) b w r more = absurd (cc)
    well_shared _ _ _ _ is (sound.loops _ _ _ _ _ _ _) b w r more = absurd (cc)
    well_shared _ _ _ _ is (sound.walks _ _ _ _ _ _ _ _) b w r more = absurd (cc)
    well_shared _ _ _ _ is (sound.returns _ _ _ _ _ _ _) b w r more = absurd (cc)
    well_shared _ _ _ _ is (sound.exits _ _ _ _ _ _ _) b w r more = absurd (cc)
    well_shared _ _ _ _ is (sound.writes _ _ _ _ _ _ _ _ _ _) b w r more = absurd (cc)
    well_shared _ _ _ _ is (sound.selects _ _ _ _ _ _ _) b w r more = absurd (cc)
    well_shared _ _ _ _ is (sound.runs _ _ _ _ _ _ _) b w r more = absurd (cc)
    well_shared _ _ _ _ is (sound.starts _ _ _ _ _ _ _) b w r more = absurd (cc)
    well_shared _ _ _ _ is (sound.finishes _ _ _ _ _ _ _) b w r more = absurd (cc)

    -- a text is written
    well_text : (w : World) (text : List ℕ) → Well w (λ v it. Unit {0}) (within_text text)
    well_text w text = well_if w (λ v it. Unit {0}) _ (gives text) (λ view. Fails _) (λ e. well_gives w (λ v it. Unit {0}) text tt) (λ e view fits. tt)

    well_written : (pieces : List Piece) (es : List CExpr) (Ts : List Kind) → HaveKinds scope known es Ts → Shows pieces Ts → (w : World) → Sees w
        → Well w (λ v text. Unit {0}) (written scope.core value_of pieces es)
    well_written pieces es Ts are shows w r =
        well_then w (λ v xs. AreOf v xs Ts) (λ v text. Unit {0}) _
        (λ v wider same xs are'.
        let text = laws.formats v pieces Ts shows xs are' in
        well_then v (λ u it. Unit {0}) (λ u it. Unit {0}) within_text
        (λ u wider' same' it l. well_text u it)
        (wanted (rendered scope.core.names.kinds pieces xs))
        (well_wanted v (λ u it. Unit {0}) (rendered scope.core.names.kinds pieces xs) text.0
        (subst (λ names. rendered names pieces xs ≡ Some text.0) (wider.names ∙ r.names) text.1) tt))
        (in_turn (map value_of es)) (well_values laws scope run scene provides known variables es Ts are w r)

    -- a block that is no loop's goes first
    in_block : (w : World) (loop : Bool) (base : Known) (rest : Term) (block : List XStat) → SoundXBlock scope loop known block → Within base known → SoundTerm scope w loop base known rest
        → SoundTerm scope w loop known known (first_the block rest)
    in_block w loop base rest block h b more = block_first scope w loop known known block rest (λ k j. j) h (λ now within. a_block_ends loop base known now rest within b more)

    well_chosen : (loop : Bool) (base : Known) (rest : Term) (bs : List XBranch) (otherwise : List XStat) → SoundXBranches scope loop known bs → SoundXBlock scope loop known otherwise → Within base known
        → (w : World) → Sees w → SoundTerm scope w loop base known rest → Well w Fits (chosen value_of variables bs otherwise rest)
    well_chosen loop base rest _ otherwise (no_branch _ _) last b w r more =
        well_gives w Fits (quietly variables (first_the otherwise rest))
        (record { loop = loop; base = known; known = known; sound = in_block w loop base rest otherwise last b more; held = r.held })
    well_chosen loop base rest _ otherwise (one_branch _ _ branch bs h block others) last b w r more =
        well_then w (λ v. IsOf v Ty-F.Bool) Fits _
        (λ v wider same y is. grows_truth v (Same v Fits) (out-Value y) (gives (quietly variables (first_the (out-XBranch branch).block rest))) (chosen value_of variables bs otherwise rest) is
        (well_gives v Fits (quietly variables (first_the (out-XBranch branch).block rest)) (record {
          loop = loop;
          base = known;
          known = known;
          sound = in_block v loop base rest (out-XBranch branch).block block b (term_grows scope w v wider loop base known rest more);
          held = (sees w v wider r).held;
        }))
        (well_chosen loop base rest bs otherwise others last b v (sees w v wider r) (term_grows scope w v wider loop base known rest more)))
        (value_of (out-XBranch branch).test) (well_expression (out-XBranch branch).test Ty-F.Bool h w r)

    -- a loop goes in, or is over
    well_tested : (loop : Bool) (outer base : Known) (line : ℕ) (test : CExpr) (block : List XStat) (rest : Term) → Within base known → Within outer base
        → HasKind scope base (out-CExpr test) Ty-F.Bool → SoundXBlock scope true base block → (w : World) → w.names ≡ scope.core.names.kinds → Held w scope base variables
        → SoundTerm scope w loop outer base rest → Well w Fits (tested value_of variables line test block rest)
    well_tested loop outer base line test block rest b o h block_sound w names held more =
        well_then w (λ v. IsOf v Ty-F.Bool) Fits _
        (λ v wider same y is. grows_truth v (Same v Fits) (out-Value y) (gives (quietly variables (first_the block (Loop line test block ∷ rest)))) (gives (quietly variables rest)) is
        (well_gives v Fits (quietly variables (first_the block (Loop line test block ∷ rest))) (record {
          loop = true;
          base = base;
          known = base;
          sound = block_first scope v true base base block (Loop line test block ∷ rest) (λ k j. j) block_sound
              (λ now within. a_loop loop outer base now line test block rest within o h block_sound (term_grows scope w v wider loop outer base rest more));
          held = held_grows w v wider scope base variables held;
        }))
        (well_gives v Fits (quietly variables rest)
        (record { loop = loop; base = outer; known = base; sound = term_grows scope w v wider loop outer base rest more; held = held_grows w v wider scope base variables held })))
        (value_of test) (well_value laws scope run scene provides base variables test Ty-F.Bool h w (record { names = names; held = held }))

    well_walking : (loop : Bool) (base : Known) (line : ℕ) (slots : List ℕ) (container : CExpr) (block : List XStat) (rest : Term) → Within base known → Walks scope known slots container
        → SoundXBlock scope true (also_all slots known) block → (w : World) → Sees w → SoundTerm scope w loop base known rest
        → Well w Fits (walking value_of variables line slots container block rest)
    well_walking loop base line slots container block rest b over block_sound w r more =
        well_then w (λ v. IsOf v over.kind) Fits _
        (λ v wider same y of_it. well_giving v (λ u. Every (IsOf u over.element)) Fits _
        (λ u wider' xs each.
        let wu : Wider w u = wider_still w v u wider wider' in
        record {
          loop = true;
          base = known;
          known = known;
          sound = a_walk loop base known known line slots xs block rest over.element (λ k j. j) b over.take each block_sound (term_grows scope w u wu loop base known rest more);
          held = (sees w u wu r).held;
        })
        (wanted (elements_of y)) (well_some v (λ u. Every (IsOf u over.element)) (elements_of y) (elements_fit v scope over.kind over.element (out-Value y) over.over of_it)))
        (value_of container) (well_expression container over.kind over.has_kind w r)

    well_calling : (loop : Bool) (base : Known) (target : CTarget) (model : ℕ) (arguments : List CExpr) (widen : Bool) (rest : Term) (d : ProcDef) (exit taken : Kind)
        → slice_get scope.core.procs model ≡ Some d → exit_of d ≡ Some exit → IsTrue (list_all is_plain_kind (kinds_of d.params)) → HaveKinds scope known arguments (kinds_of d.params)
        → TakenAs exit widen taken → TargetTakes scope known target.slot target.steps taken → (w : World) → Sees w
        → SoundTerm scope w loop base (also_all (wholes (target ∷ [])) known) rest → Well w Fits (calling value_of variables target model arguments widen rest)
    well_calling loop base target model arguments widen rest d exit taken there exits plain have takes take w r more =
        well_then w (λ v xs. AreOf v xs (kinds_of d.params)) Fits _
        (λ v wider same xs are. well_giving v (λ u. IsSpot scope known u target taken) Fits _
        (λ u wider' spot is.
        let wu : Wider w u = wider_still w v u wider wider' in
        record {
          d = d;
          exit = exit;
          taken = taken;
          target = target;
          loop = loop;
          base = base;
          known = known;
          model = there;
          exits = exits;
          plain = plain;
          arguments = are_grow v u wider' xs (kinds_of d.params) are;
          takes = takes;
          spot = is;
          sound = term_grows scope w u wu loop base (also_all (wholes (target ∷ [])) known) rest more;
          held = (sees w u wu r).held;
        })
        (spot_of value_of target) (well_spot laws scope known run scene provides variables target taken take v (sees w v wider r)))
        (in_turn (map value_of arguments)) (well_values laws scope run scene provides known variables arguments (kinds_of d.params) have w r)

    well_stat : (loop : Bool) (base : Known) (rest : Term) (x : XStat-F XStat XBranch) → SoundXStat scope loop known x → Within base known → (w : World) → Sees w
        → SoundTerm scope w loop base (sets_by x known) rest → Well w Fits (done_stat scope.core value_of variables x rest)
    well_stat loop base rest _ (xsound.one_line _ _ s is h) b w r more = well_shared loop base rest (out-CStat s) is h b w r more
    well_stat loop base rest _ (xsound.one_write _ _ s line pieces es Ts is have shows) b w r more =
        subst (λ o. SoundTerm scope w loop base (sets o known) rest → Well w Fits (done_line scope.core value_of variables o rest)) (sym is)
        (λ more. well_giving w (λ v text. Unit {0}) Fits (On variables rest)
        (λ v wider text it. record { loop = loop; base = base; known = known; sound = term_grows scope w v wider loop base known rest more; held = (sees w v wider r).held })
        (written scope.core value_of pieces es) (well_written pieces es Ts have shows w r)) more
    well_stat loop base rest _ (xsound.chooses _ _ line branches otherwise h last) b w r more = well_chosen loop base rest branches otherwise h last b w r more
    well_stat loop base rest _ (xsound.loops _ _ line test block h block_sound) b w r more =
        well_tested loop base known line test block rest (λ k j. j) b h block_sound w r.names r.held more
    well_stat loop base rest _ (xsound.walks _ _ line slots container block over block_sound) b w r more = well_walking loop base line slots container block rest b over block_sound w r more
    well_stat loop base rest _ (xsound.runs _ _ line target model arguments widen d exit taken there exits plain have takes take) b w r more =
        well_calling loop base target model arguments widen rest d exit taken there exits plain have takes take w r more

    -- the first item of a term, if there is one, does well
    abbrev FirstWell : World → Term → Type 0
    FirstWell w [] = Unit {0}
    FirstWell w (item ∷ rest) = Well w Fits (done scope.core value_of variables item rest)

  well_first : (variables : Variables) (w : World) (loop : Bool) (base known : Known) (term : Term) → w.names ≡ scope.core.names.kinds → Held w scope known variables
      → SoundTerm scope w loop base known term → FirstWell known variables w term
  well_first variables w _ _ _ _ names held (nothing_left base known) = tt
  well_first variables w _ _ _ _ names held (a_statement loop base known x rest b h more) =
      well_stat known variables loop base rest (out-XStat x) h b w (record { names = names; held = held }) more
  well_first variables w _ _ _ _ names held (a_block_ends loop outer base known rest b o more) =
      again rest (well_first variables w loop outer base rest names (held_less w scope base known variables b held) more)
    where
      again : (rest : Term) → FirstWell base variables w rest → FirstWell known variables w rest
      again [] h = tt
      again (i ∷ rest) h = h
  well_first variables w _ _ _ _ names held (a_loop loop outer base known line test block rest b o h block_sound more) =
      well_tested known variables loop outer base line test block rest b o h block_sound w names (held_less w scope base known variables b held) more
  well_first variables w _ _ _ _ names held (a_walk loop outer base known line slots elements block rest T b o take each block_sound more) =
      well_walked scope w (eval run scene variables) loop outer base known variables line slots elements block rest T b o take each block_sound more held

  -- an item of a sound term, of which the variables hold what counts as set, does well
  pub well_done : (variables : Variables) (w : World) (item : Item) (rest : Term) → w.names ≡ scope.core.names.kinds → At scope w variables (item ∷ rest)
      → Well w (DidFits scope) (done scope.core (eval run scene variables) variables item rest)
  well_done variables w item rest names at = well_first variables w at.loop at.base at.known (item ∷ rest) names at.held at.sound
