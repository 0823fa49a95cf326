-- What is left to do of a sound experiment: each statement is sound where it stands, and what counts as set within a
-- block doesn't after it.
use Rattle.std.proofs.Common.{◌≡◌, ℕ, Bool, true, false, List, [], ◌∷◌, Option, Some, refl}
use Rattle.chi_types.specs.declared.ty.Ty.{Ty-F}
use Rattle.chi_value.specs.declared.value.Value.{Value}
use Rattle.chi_core.specs.declared.experiment.XStat.{XStat, XStat-F, out-XStat}
use Rattle.chi_core.specs.declared.expression.CExpr.{CExpr, out-CExpr}
use Rattle.chi_core.specs.declared.statement.CStat.{CStat-F, out-CStat}
use Rattle.chi_core.specs.Kinded.{Held}
use Rattle.chi_core.specs.Kinds.{Kind, Every}
use Rattle.chi_core.specs.Of.{World, Wider, IsOf}
use Rattle.chi_core.specs.Scopes.{Scope}
use Rattle.chi_core.specs.SetSlots.{StatLayer, Known, also_all, sets, wholes}
use Rattle.chi_core.specs.SoundExperiments.{XLayer, sets_by, SoundXStat, SoundXBlock, no_statement, one_statement}
use Rattle.chi_core.specs.SoundExpressions.{HasKind}
use Rattle.chi_core.specs.SoundParts.{SlotsTake}
use Rattle.chi_core.specs.Variables.{Variables}
use Rattle.chi_core.proofs.Worlds.{value_grows}
use Rattle.chi_core_kinds.proofs.Held.{Within, within_also, within_all, held_grows}
use Rattle.chi_xper.specs.Items.{Do, Loop, Walk, Term, first_the, after_loop, from_loop}

-- what a statement sets is added to what counts as set

sets_more : (s : StatLayer) (known : Known) → Within known (sets s known)
sets_more (CStat-F.Declare line slot e) known = within_also slot known
sets_more (CStat-F.Assign line targets values) known = within_all (wholes targets) known
sets_more (CStat-F.If line branches otherwise) known = λ k h. h
sets_more (CStat-F.While line test block) known = λ k h. h
sets_more (CStat-F.For line slots e block) known = λ k h. h
sets_more (CStat-F.Break line) known = λ k h. h
sets_more (CStat-F.Continue line) known = λ k h. h
sets_more (CStat-F.Pass line) known = λ k h. h
sets_more (CStat-F.Return line e) known = λ k h. h
sets_more (CStat-F.Exit line e) known = λ k h. h
sets_more (CStat-F.Write line pieces values) known = λ k h. h
sets_more (CStat-F.Select line alternatives) known = λ k h. h
sets_more (CStat-F.Run line elements) known = λ k h. h
sets_more (CStat-F.Start line elements) known = λ k h. h
sets_more (CStat-F.Finish line expressions) known = λ k h. h

sets_by_more : (x : XLayer) (known : Known) → Within known (sets_by x known)
sets_by_more (XStat-F.Line s) known = sets_more (out-CStat s) known
sets_by_more (XStat-F.If line branches otherwise) known = λ k h. h
sets_by_more (XStat-F.While line test block) known = λ k h. h
sets_by_more (XStat-F.For line slots e block) known = λ k h. h
sets_by_more (XStat-F.RunModel line target model arguments widen) known = within_all (wholes (target ∷ [])) known

module _ (scope : Scope) where
  -- A term is sound, within a loop or not: so many slots count as set at its start, and fewer once the block is over
  -- whose rest stands first.
  pub data SoundTerm (w : World) : Bool → Known → Known → Term → Type 0 where
    nothing_left : (base known : Known) → SoundTerm w false base known []
    a_statement : (loop : Bool) (base known : Known) (x : XStat) (rest : Term) → Within base known → SoundXStat scope loop known (out-XStat x)
        → SoundTerm w loop base (sets_by (out-XStat x) known) rest → SoundTerm w loop base known (Do x ∷ rest)
    a_block_ends : (loop : Bool) (outer base known : Known) (rest : Term) → Within base known → Within outer base → SoundTerm w loop outer base rest → SoundTerm w loop base known rest
    a_loop : (loop : Bool) (outer base known : Known) (line : ℕ) (test : CExpr) (block : List XStat) (rest : Term) → Within base known → Within outer base
        → HasKind scope base (out-CExpr test) Ty-F.Bool → SoundXBlock scope true base block → SoundTerm w loop outer base rest → SoundTerm w true base known (Loop line test block ∷ rest)
    a_walk : (loop : Bool) (outer base known : Known) (line : ℕ) (slots : List ℕ) (elements : List Value) (block : List XStat) (rest : Term) (T : Kind) → Within base known → Within outer base
        → SlotsTake scope slots T → Every (IsOf w T) elements → SoundXBlock scope true (also_all slots base) block → SoundTerm w loop outer base rest
        → SoundTerm w true base known (Walk line slots elements block ∷ rest)

  pub term_grows : (w v : World) → Wider w v → (loop : Bool) (base known : Known) (term : Term) → SoundTerm w loop base known term → SoundTerm v loop base known term
  term_grows w v wider _ _ _ _ (nothing_left base known) = nothing_left base known
  term_grows w v wider _ _ _ _ (a_statement loop base known x rest b h more) =
      a_statement loop base known x rest b h (term_grows w v wider loop base (sets_by (out-XStat x) known) rest more)
  term_grows w v wider _ _ _ _ (a_block_ends loop outer base known rest b o more) = a_block_ends loop outer base known rest b o (term_grows w v wider loop outer base rest more)
  term_grows w v wider _ _ _ _ (a_loop loop outer base known line test block rest b o h block_sound more) =
      a_loop loop outer base known line test block rest b o h block_sound (term_grows w v wider loop outer base rest more)
  term_grows w v wider _ _ _ _ (a_walk loop outer base known line slots elements block rest T b o take each block_sound more) =
      a_walk loop outer base known line slots elements block rest T b o take (λ k x e. value_grows w v wider x T (each k x e)) block_sound
      (term_grows w v wider loop outer base rest more)

  -- a block comes before what is sound where no more counts as set than before the block
  pub block_first : (w : World) (loop : Bool) (base known : Known) (block : List XStat) (rest : Term) → Within base known → SoundXBlock scope loop known block
      → ((after : Known) → Within base after → SoundTerm w loop base after rest) → SoundTerm w loop base known (first_the block rest)
  block_first w loop base known _ rest b (no_statement _ _) ends = ends known b
  block_first w loop base known _ rest b (one_statement _ _ x xs h more) ends =
      a_statement loop base known x (first_the xs rest) b h
      (block_first w loop base (sets_by (out-XStat x) known) xs rest (λ k j. sets_by_more (out-XStat x) known k (b k j)) more ends)

  -- what is left, as far as it is there, is sound
  pub record GoesTo (w : World) (base : Known) (left : Option Term) : Type 0 where
    pub loop : Bool
    pub outer : Known
    pub known : Known
    pub term : Term
    pub is : left ≡ Some term
    pub within : Within known base
    pub sound : SoundTerm w loop outer known term

  further_out : (w : World) (outer base : Known) (left : Option Term) → Within outer base → GoesTo w outer left → GoesTo w base left
  further_out w outer base left o g = record { loop = g.loop; outer = g.outer; known = g.known; term = g.term; is = g.is; within = λ k j. o k (g.within k j); sound = g.sound }

  -- `break` goes to what is left after the nearest loop or walk
  pub broken : (w : World) (loop : Bool) (base known : Known) (term : Term) → loop ≡ true → SoundTerm w loop base known term → GoesTo w base (after_loop term)
  broken w _ _ _ _ l (nothing_left base known) = absurd (cc)
  broken w _ _ _ _ l (a_statement loop base known x rest b h more) = broken w loop base (sets_by (out-XStat x) known) rest l more
  broken w _ _ _ _ l (a_block_ends loop outer base known rest b o more) = further_out w outer base (after_loop rest) o (broken w loop outer base rest l more)
  broken w _ _ _ _ l (a_loop loop outer base known line test block rest b o h block_sound more) =
      record { loop = loop; outer = outer; known = base; term = rest; is = refl; within = λ k j. j; sound = more }
  broken w _ _ _ _ l (a_walk loop outer base known line slots elements block rest T b o take each block_sound more) =
      record { loop = loop; outer = outer; known = base; term = rest; is = refl; within = λ k j. j; sound = more }

  -- `continue` goes to where it turns
  pub continued : (w : World) (loop : Bool) (base known : Known) (term : Term) → loop ≡ true → SoundTerm w loop base known term → GoesTo w base (from_loop term)
  continued w _ _ _ _ l (nothing_left base known) = absurd (cc)
  continued w _ _ _ _ l (a_statement loop base known x rest b h more) = continued w loop base (sets_by (out-XStat x) known) rest l more
  continued w _ _ _ _ l (a_block_ends loop outer base known rest b o more) = further_out w outer base (from_loop rest) o (continued w loop outer base rest l more)
  continued w _ _ _ _ l (a_loop loop outer base known line test block rest b o h block_sound more) = record {
    loop = true;
    outer = base;
    known = base;
    term = Loop line test block ∷ rest;
    is = refl;
    within = λ k j. j;
    sound = a_loop loop outer base base line test block rest (λ k j. j) o h block_sound more;
  }
  continued w _ _ _ _ l (a_walk loop outer base known line slots elements block rest T b o take each block_sound more) = record {
    loop = true;
    outer = base;
    known = base;
    term = Walk line slots elements block ∷ rest;
    is = refl;
    within = λ k j. j;
    sound = a_walk loop outer base base line slots elements block rest T (λ k j. j) o take each block_sound more;
  }

  -- the variables hold what counts as set at the start of a sound term
  pub record At (w : World) (variables : Variables) (term : Term) : Type 0 where
    pub loop : Bool
    pub base : Known
    pub known : Known
    pub sound : SoundTerm w loop base known term
    pub held : Held w scope known variables

  pub at_grows : (w v : World) → Wider w v → (variables : Variables) (term : Term) → At w variables term → At v variables term
  at_grows w v wider variables term at = record {
    loop = at.loop;
    base = at.base;
    known = at.known;
    sound = term_grows w v wider at.loop at.base at.known term at.sound;
    held = held_grows w v wider scope at.known variables at.held;
  }
