-- Places of a body: what stands first in what is left, what stands before a loop or a walk, and where `break` and `continue` go.
use Rattle.std.proofs.Common.{◌≡◌, ◌++◌, ℕ, List, [], ◌∷◌, map, Option, Some, refl, sym, subst, ◌∙◌}
use Rattle.std.specs.Prelude.{IsTrue}
use Rattle.chi_value.specs.declared.value.Value.{Value}
use Rattle.chi_core.specs.declared.expression.CExpr.{CExpr}
use Rattle.chi_core.specs.declared.statement.CStat.{CStat, CStat-F, out-CStat}
use Rattle.chi_core.specs.Kinded.{WalksFit}
use Rattle.chi_core.specs.Of.{World}
use Rattle.chi_core.specs.Scopes.{Home}
use Rattle.chi_core.specs.SetSlots.{StatLayer, Known, also_all, wholes, sets}
use Rattle.chi_core.specs.Standing.{Frame, Inner, Looping, Walking, term_of, is_within_loop, Standing, next, in_branch, in_else, in_loop, at_turn, in_walk, at_walk_turn, in_body}
use Rattle.chi_core.specs.Terms.{Do, Loop, Walk, Term, after_loop, from_loop}
use Rattle.chi_core_kinds.proofs.Held.{Within, within_also, within_all}

within_sets : (s : StatLayer) (known : Known) → Within known (sets s known)
within_sets (CStat-F.Declare line slot e) known = within_also slot known
within_sets (CStat-F.Assign line targets values) known = within_all (wholes targets) known
within_sets _ known = λ k h. h

-- after a statement of a form that sets nothing no more counts as set than before it
same_sets : (s t : StatLayer) (known : Known) → s ≡ t → Within (sets t known) known → Within (sets s known) known
same_sets s t known e h = subst (λ z. Within (sets z known) known) (sym e) h

module _ (d : Home) where
  -- a place before the statement whose loop or walk is under way
  pub record Before (known : Known) (s : StatLayer) (rest : List CStat) (frames : List Frame) : Type 0 where
    pub outer : Known
    pub x : CStat
    pub is : out-CStat x ≡ s
    pub place : Standing d outer (x ∷ rest) frames
    pub within : Within outer known

  further : (known : Known) (z t : StatLayer) (rest : List CStat) (frames : List Frame) → Before known t rest frames → Before (sets z known) t rest frames
  further known z t rest frames b = record {
    outer = b.outer;
    x = b.x;
    is = b.is;
    place = b.place;
    within = λ k h. within_sets z known k (b.within k h);
  }

  here : (known known' : Known) (x : CStat) (s : StatLayer) (rest : List CStat) (frames : List Frame) → Standing d known (x ∷ rest) frames → out-CStat x ≡ s → Within known known'
      → Before known' s rest frames
  here known known' x s rest frames p e within = record {
    outer = known;
    x = x;
    is = e;
    place = p;
    within = within;
  }

  before_loop : (known : Known) (ys : List CStat) (line : ℕ) (test : CExpr) (block rest : List CStat) (frames : List Frame)
      → Standing d known ys (Looping line test block rest ∷ frames) → Before known (CStat-F.While line test block) rest frames
  before_loop _ _ line test block rest frames (next known x ys _ p) =
      further known (out-CStat x) (CStat-F.While line test block) rest frames (before_loop known (x ∷ ys) line test block rest frames p)
  before_loop _ _ line test block rest frames (in_loop known x _ _ _ _ _ p e) = here known known x (CStat-F.While line test block) rest frames p e (λ k h. h)
  before_loop _ _ line test block rest frames (at_turn known x _ _ _ _ _ p e) = here known known x (CStat-F.While line test block) rest frames p e (λ k h. h)

  before_walk : (known : Known) (ys : List CStat) (line : ℕ) (slots : List ℕ) (elements : List Value) (container : CExpr) (block rest : List CStat) (frames : List Frame)
      → Standing d known ys (Walking line slots elements container block rest ∷ frames) → Before known (CStat-F.For line slots container block) rest frames
  before_walk _ _ line slots elements container block rest frames (next known x ys _ p) =
      further known (out-CStat x) (CStat-F.For line slots container block) rest frames (before_walk known (x ∷ ys) line slots elements container block rest frames p)
  before_walk _ _ line slots elements container block rest frames (in_walk known x _ _ _ _ _ _ _ p e) =
      here known (also_all slots known) x (CStat-F.For line slots container block) rest frames p e (within_all slots known)
  before_walk _ _ line slots elements container block rest frames (at_walk_turn known x _ _ _ _ _ _ _ p e) =
      here known known x (CStat-F.For line slots container block) rest frames p e (λ k h. h)

  -- a place at which no more counts as set
  pub record After (known : Known) (rest : List CStat) (frames : List Frame) : Type 0 where
    pub outer : Known
    pub place : Standing d outer rest frames
    pub within : Within outer known

  -- the place after a statement that sets nothing
  after_it : (known known' : Known) (x : CStat) (s : StatLayer) (rest : List CStat) (frames : List Frame) → Standing d known (x ∷ rest) frames → out-CStat x ≡ s
      → Within (sets s known) known → Within known known' → After known' rest frames
  after_it known known' x s rest frames p e nothing within = record {
    outer = sets (out-CStat x) known;
    place = next known x rest frames p;
    within = λ k h. within k (same_sets (out-CStat x) s known e nothing k h);
  }

  -- the place at which a block has ended
  after_block : (known : Known) (ys rest : List CStat) (frames : List Frame) → Standing d known ys (Inner rest ∷ frames) → After known rest frames
  after_block _ _ rest frames (next known x ys _ p) =
      let a = after_block known (x ∷ ys) rest frames p in
      record { outer = a.outer; place = a.place; within = λ k h. within_sets (out-CStat x) known k (a.within k h) }
  after_block _ _ rest frames (in_branch known x _ _ line branches otherwise k b p e g) = after_it known known x (CStat-F.If line branches otherwise) rest frames p e (λ k h. h) (λ k h. h)
  after_block _ _ rest frames (in_else known x _ _ line branches otherwise p e) = after_it known known x (CStat-F.If line branches otherwise) rest frames p e (λ k h. h) (λ k h. h)
  after_block _ _ rest frames (in_body known x _ _ line alternatives bound communication body p e m) =
      after_it known (also_all bound known) x (CStat-F.Select line alternatives) rest frames p e (λ k h. h) (within_all bound known)

  -- the place after a loop or a walk
  pub past : (known : Known) (s : StatLayer) (rest : List CStat) (frames : List Frame) → Before known s rest frames → ((k : Known) → Within (sets s k) k) → After known rest frames
  past known s rest frames b nothing = after_it b.outer known b.x s rest frames b.place b.is (nothing b.outer) b.within

  -- what is first in what is left at a place, and where it stands
  pub data Ready (w : World) (known : Known) : Term → Type 0 where
    nothing_left : Ready w known []
    a_statement : (outer : Known) (x : CStat) (rest : List CStat) (frames : List Frame) → Standing d outer (x ∷ rest) frames → Within outer known → WalksFit w d.scope frames
        → Ready w known (Do x ∷ term_of rest frames)
    a_loop : (line : ℕ) (test : CExpr) (block rest : List CStat) (frames : List Frame) → Before known (CStat-F.While line test block) rest frames → WalksFit w d.scope frames
        → Ready w known (Loop line test block ∷ term_of rest frames)
    a_walk : (line : ℕ) (slots : List ℕ) (elements : List Value) (container : CExpr) (block rest : List CStat) (frames : List Frame)
        → Before known (CStat-F.For line slots container block) rest frames → WalksFit w d.scope (Walking line slots elements container block rest ∷ frames)
        → Ready w known (Walk line slots elements block ∷ term_of rest frames)

  less_before : (known after : Known) (s : StatLayer) (rest : List CStat) (frames : List Frame) → Within known after → Before known s rest frames → Before after s rest frames
  less_before known after s rest frames h b = here b.outer after b.x s rest frames b.place b.is (λ k g. h k (b.within k g))

  less_ready : (w : World) (known after : Known) (term : Term) → Within known after → Ready w known term → Ready w after term
  less_ready w known after _ h nothing_left = nothing_left
  less_ready w known after _ h (a_statement outer x rest frames p within walks) = a_statement outer x rest frames p (λ k g. h k (within k g)) walks
  less_ready w known after _ h (a_loop line test block rest frames b walks) =
      a_loop line test block rest frames (less_before known after (CStat-F.While line test block) rest frames h b) walks
  less_ready w known after _ h (a_walk line slots elements container block rest frames b fit) =
      a_walk line slots elements container block rest frames (less_before known after (CStat-F.For line slots container block) rest frames h b) fit

  pub ready : (w : World) (known : Known) (rest : List CStat) (frames : List Frame) → Standing d known rest frames → WalksFit w d.scope frames → Ready w known (term_of rest frames)
  ready w known (x ∷ rest) [] p walks = a_statement known x rest [] p (λ k h. h) walks
  ready w known (x ∷ rest) (Inner r ∷ frames) p walks = a_statement known x rest (Inner r ∷ frames) p (λ k h. h) walks
  ready w known (x ∷ rest) (Looping line test block r ∷ frames) p walks = a_statement known x rest (Looping line test block r ∷ frames) p (λ k h. h) walks
  ready w known (x ∷ rest) (Walking line slots elements container block r ∷ frames) p walks =
      a_statement known x rest (Walking line slots elements container block r ∷ frames) p (λ k h. h) walks
  ready w known [] [] p walks = nothing_left
  ready w known [] (Inner rest ∷ frames) p walks =
      let a = after_block known [] rest frames p in
      less_ready w a.outer known (term_of rest frames) a.within (ready w a.outer rest frames a.place walks)
  ready w known [] (Looping line test block rest ∷ frames) p walks =
      a_loop line test block rest frames (before_loop known [] line test block rest frames p) walks
  ready w known [] (Walking line slots elements container block rest ∷ frames) p fit =
      a_walk line slots elements container block rest frames (before_walk known [] line slots elements container block rest frames p) fit

  after_statements : (xs : List CStat) (term : Term) → after_loop (map Do xs ++ term) ≡ after_loop term
  after_statements [] term = refl
  after_statements (x ∷ xs) term = after_statements xs term

  from_statements : (xs : List CStat) (term : Term) → from_loop (map Do xs ++ term) ≡ from_loop term
  from_statements [] term = refl
  from_statements (x ∷ xs) term = from_statements xs term

  -- what is left, as far as it is there, is what is left at a place
  pub record GoesTo (w : World) (known : Known) (left : Option Term) : Type 0 where
    pub rest : List CStat
    pub frames : List Frame
    pub after : After known rest frames
    pub is : left ≡ Some (term_of rest frames)
    pub walks : WalksFit w d.scope frames

  further_out : (w : World) (known : Known) (rest : List CStat) (frames : List Frame) (left left' : Option Term) (a : After known rest frames) → left ≡ left' → GoesTo w a.outer left' → GoesTo w known left
  further_out w known rest frames left left' a e b = record {
    rest = b.rest;
    frames = b.frames;
    after = record { outer = b.after.outer; place = b.after.place; within = λ k h. a.within k (b.after.within k h) };
    is = e ∙ b.is;
    walks = b.walks;
  }

  -- `break` goes to the place after the nearest loop or walk
  pub broken : (w : World) (known : Known) (rest : List CStat) (frames : List Frame) → Standing d known rest frames → WalksFit w d.scope frames → IsTrue (is_within_loop frames)
      → GoesTo w known (after_loop (term_of rest frames))
  broken w known rest [] p walks l = absurd (cc)
  broken w known rest (Inner r ∷ frames) p walks l =
      let a = after_block known rest r frames p in
      further_out w known r frames (after_loop (map Do rest ++ term_of r frames)) (after_loop (term_of r frames)) a (after_statements rest (term_of r frames))
      (broken w a.outer r frames a.place walks l)
  broken w known rest (Looping line test block r ∷ frames) p walks l = record {
    rest = r;
    frames = frames;
    after = past known (CStat-F.While line test block) r frames (before_loop known rest line test block r frames p) (λ k j h. h);
    is = after_statements rest (Loop line test block ∷ term_of r frames);
    walks = walks;
  }
  broken w known rest (Walking line slots elements container block r ∷ frames) p walks l = record {
    rest = r;
    frames = frames;
    after = past known (CStat-F.For line slots container block) r frames (before_walk known rest line slots elements container block r frames p) (λ k j h. h);
    is = after_statements rest (Walk line slots elements block ∷ term_of r frames);
    walks = walks.1;
  }

  -- `continue` goes to where the nearest loop or walk turns
  pub continued : (w : World) (known : Known) (rest : List CStat) (frames : List Frame) → Standing d known rest frames → WalksFit w d.scope frames → IsTrue (is_within_loop frames)
      → GoesTo w known (from_loop (term_of rest frames))
  continued w known rest [] p walks l = absurd (cc)
  continued w known rest (Inner r ∷ frames) p walks l =
      let a = after_block known rest r frames p in
      further_out w known r frames (from_loop (map Do rest ++ term_of r frames)) (from_loop (term_of r frames)) a (from_statements rest (term_of r frames))
      (continued w a.outer r frames a.place walks l)
  continued w known rest (Looping line test block r ∷ frames) p walks l =
      let b = before_loop known rest line test block r frames p in
      record {
        rest = [];
        frames = Looping line test block r ∷ frames;
        after = record { outer = b.outer; place = at_turn b.outer b.x r frames line test block b.place b.is; within = b.within };
        is = from_statements rest (Loop line test block ∷ term_of r frames);
        walks = walks;
      }
  continued w known rest (Walking line slots elements container block r ∷ frames) p walks l =
      let b = before_walk known rest line slots elements container block r frames p in
      record {
        rest = [];
        frames = Walking line slots elements container block r ∷ frames;
        after = record { outer = b.outer; place = at_walk_turn b.outer b.x r frames line slots elements container block b.place b.is; within = b.within };
        is = from_statements rest (Walk line slots elements block ∷ term_of r frames);
        walks = walks;
      }
