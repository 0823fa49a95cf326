-- Worked rows: what experiments come to.
use Rattle.std.proofs.Common.{◌≡◌, refl, ap, ◌∙◌, ℕ, suc, ◌*◌, pos, List, [], ◌∷◌, Option, None, Some, false}
use Rattle.std.specs.Prelude.{codes}
use Rattle.std.specs.Fmt.{digits}
use Rattle.chi_ops.specs.Progression.{numbers}
use Rattle.chi_types.specs.declared.ty.Ty.TheVariants as ty
use Rattle.chi_value.specs.declared.format.Piece.TheVariants as piece
use Rattle.chi_value.specs.declared.value.Value.{Value}
use Rattle.chi_value.specs.declared.value.Value.TheVariants as value
use Rattle.chi_core.specs.declared.expression.CExpr.TheVariants as e
use Rattle.chi_core.specs.declared.experiment.XStat.{XStat}
use Rattle.chi_core.specs.declared.experiment.XStat.TheVariants as x
use Rattle.chi_core.specs.declared.op_name.OpName.TheVariants as op
use Rattle.chi_core.specs.declared.program.Core.{Core}
use Rattle.chi_core.specs.declared.program.ProcDef.{ProcDef}
use Rattle.chi_core.specs.declared.statement.CStat.TheVariants as s
use Rattle.chi_core.specs.declared.target.CTarget.{CTarget}
use Rattle.chi_core.specs.declared.verdict.Verdict.TheVariants.{Exit}
use Rattle.chi_core.specs.declared.view.View.{View}
use Rattle.chi_core.specs.Answer.{Answer, Gives}
use Rattle.chi_core.specs.Beginning.{constant_view}
use Rattle.chi_core.specs.Variables.{Variables}
use Rattle.chi_core.proofs.Equations.{eval_lit, eval_var, eval_op}
use Rattle.chi_xper.specs.Items.{Item, Do, Walk, Term, Call, Did, On, Calls, quietly, done, line_of}
use Rattle.chi_xper.specs.Experiments.{Outcomes, Made, Told, Done, after, unless_over, did_then, value_in, goes, experiment}
use Rattle.chi_xper.proofs.Turns.{goes_none}

abbrev int : ℕ → Value
int n = value.Int (pos n)

abbrev set : ℕ → Option Value
set n = Some (int n)

abbrev whole : ℕ → CTarget
whole slot = record { slot = slot; steps = [] }

abbrev model : ProcDef
model = record { name = codes "M"; params = ty.Int ∷ []; exit = Some ty.Int; slots = ty.Int ∷ []; body = [] }

abbrev core_of : List XStat → Core
core_of body = record {
  consts = [];
  funcs = [];
  procs = model ∷ [];
  model = 0;
  names = record { kinds = [] };
  xpers = record { name = codes "X"; slots = ty.Int ∷ ty.Int ∷ ty.Int ∷ []; body = body } ∷ [];
}

abbrev first : XStat
first = x.Line (s.Declare 1 0 (e.Lit (int 0)))

abbrev second : XStat
second = x.Line (s.Declare 1 1 (e.Lit (int 0)))

abbrev runs : XStat
runs = x.RunModel 1 (whole 1) 0 (e.Var 2 ∷ []) false

abbrev adds : XStat
adds = x.Line (s.Assign 1 (whole 0 ∷ []) (e.Op op.Add (e.Var 0 ∷ e.Var 1 ∷ []) ∷ []))

abbrev loop : XStat
loop = x.For 1 (2 ∷ []) (e.Op op.Range (e.Lit (int 4) ∷ [])) (runs ∷ adds ∷ [])

abbrev shows : XStat
shows = x.Line (s.Write 1 (piece.Whole (record { left = false; width = 0 }) ∷ piece.Plain (10 ∷ []) ∷ []) (e.Var 0 ∷ []))

-- xper X(): int s = 0, v = 0; for i in range(4): v = M(i); s = s + v end writeln("%d", s) end
abbrev sums : Core
sums = core_of (first ∷ second ∷ loop ∷ shows ∷ [])

-- each run exits with the square of its seed
abbrev squares : Outcomes
squares number arguments seed = record { output = []; verdict = Exit (Some (int (seed * seed))); clock = pos 0 }

abbrev left_of : ℕ → View
left_of left = record constant_view { left = left }

-- the variables s, v and i
abbrev all_three : ℕ → ℕ → ℕ → Variables
all_three sum last i = set sum ∷ set last ∷ set i ∷ []

abbrev call : ℕ → Call
call i = record { model = 0; arguments = int i ∷ []; spot = record { slot = 1; path = [] }; widen = false }

abbrev walk : List Value → Item
walk elements = Walk 1 (2 ∷ []) elements (runs ∷ adds ∷ [])

abbrev last : Term
last = Do shows ∷ []

abbrev does : Variables → Item → Term → ℕ → Answer Did
does variables item term left = done sums (value_in sums [] 0 squares variables) variables item term (left_of left)

abbrev told : ℕ → ℕ → Variables → Term → Told
told turns count variables term = goes sums [] 0 squares turns count variables term (left_of turns)

-- one item
module _ (n count : ℕ) (variables new : Variables) (item : Item) (term more : Term) where
  on : does variables item term n ≡ Gives (quietly new more) (left_of n) → told (suc n) count variables (item ∷ term) ≡ told n count new more
  unfolding goes
  on e = ap (unless_over (line_of item) count (did_then sums [] 0 squares (line_of item) count (goes sums [] 0 squares n))) e

  -- a model is called, and what is told from there
  calls : (c : Call) → does variables item term n ≡ Gives (Calls c new more) (left_of n)
      → told (suc n) count variables (item ∷ term) ≡ did_then sums [] 0 squares (line_of item) count (goes sums [] 0 squares n) (Calls c new more) (left_of n)
  unfolding goes
  calls c e = ap (unless_over (line_of item) count (did_then sums [] 0 squares (line_of item) count (goes sums [] 0 squares n))) e

  -- a text is written
  shown : (text : List ℕ) → does variables item term n ≡ Gives (On new more text) (left_of n) → told (suc n) count variables (item ∷ term) ≡ after [] text (told n count new more)
  unfolding goes
  shown text e = ap (unless_over (line_of item) count (did_then sums [] 0 squares (line_of item) count (goes sums [] 0 squares n))) e

sets : (left : ℕ) → does (None ∷ None ∷ None ∷ []) (Do first) (Do second ∷ Do loop ∷ last) left
    ≡ Gives (quietly (set 0 ∷ None ∷ None ∷ []) (Do second ∷ Do loop ∷ last)) (left_of left)
unfolding denote.Hole.Carrier.out
sets left = simp (eval_lit, x.outs-Line, s.outs-Declare)

sets_second : (left : ℕ) → does (set 0 ∷ None ∷ None ∷ []) (Do second) (Do loop ∷ last) left
    ≡ Gives (quietly (set 0 ∷ set 0 ∷ None ∷ []) (Do loop ∷ last)) (left_of left)
unfolding denote.Hole.Carrier.out
sets_second left = simp (eval_lit, x.outs-Line, s.outs-Declare)

enters : (left : ℕ) → does (set 0 ∷ set 0 ∷ None ∷ []) (Do loop) last left
    ≡ Gives (quietly (set 0 ∷ set 0 ∷ None ∷ []) (walk (int 0 ∷ int 1 ∷ int 2 ∷ int 3 ∷ []) ∷ last)) (left_of left)
unfolding denote.Hole.Carrier.out numbers
enters left = simp (eval_lit, eval_op, x.outs-For, value.outs-Int, value.outs-ListOf)

runs_model : (left s v i : ℕ) (term : Term) → does (all_three s v i) (Do runs) term left ≡ Gives (Calls (call i) (all_three s v i) term) (left_of left)
unfolding denote.Hole.Carrier.out
runs_model left s v i term = simp (eval_var, x.outs-RunModel)

adds_0 : (left : ℕ) (term : Term) → does (all_three 0 0 0) (Do adds) term left ≡ Gives (quietly (all_three 0 0 0) term) (left_of left)
unfolding denote.Hole.Carrier.out
adds_0 left term = simp (eval_var, eval_op, x.outs-Line, s.outs-Assign, value.outs-Int)

adds_1 : (left : ℕ) (term : Term) → does (all_three 0 1 1) (Do adds) term left ≡ Gives (quietly (all_three 1 1 1) term) (left_of left)
unfolding denote.Hole.Carrier.out
adds_1 left term = simp (eval_var, eval_op, x.outs-Line, s.outs-Assign, value.outs-Int)

adds_4 : (left : ℕ) (term : Term) → does (all_three 1 4 2) (Do adds) term left ≡ Gives (quietly (all_three 5 4 2) term) (left_of left)
unfolding denote.Hole.Carrier.out
adds_4 left term = simp (eval_var, eval_op, x.outs-Line, s.outs-Assign, value.outs-Int)

adds_9 : (left : ℕ) (term : Term) → does (all_three 5 9 3) (Do adds) term left ≡ Gives (quietly (all_three 14 9 3) term) (left_of left)
unfolding denote.Hole.Carrier.out
adds_9 left term = simp (eval_var, eval_op, x.outs-Line, s.outs-Assign, value.outs-Int)

writes : (left v i : ℕ) → does (all_three 14 v i) (Do shows) [] left ≡ Gives (On (all_three 14 v i) [] (codes "14\n")) (left_of left)
unfolding denote.Hole.Carrier.out digits
writes left v i = simp (eval_var, x.outs-Line, s.outs-Write, value.outs-Int)

walks : (left s v x : ℕ) (third : Option Value) (xs : List Value)
    → does (set s ∷ set v ∷ third ∷ []) (walk (int x ∷ xs)) last left ≡ Gives (quietly (all_three s v x) (Do runs ∷ Do adds ∷ walk xs ∷ last)) (left_of left)
walks left s v x third xs = refl

leaves : (left s v i : ℕ) → does (all_three s v i) (walk []) last left ≡ Gives (quietly (all_three s v i) last) (left_of left)
leaves left s v i = refl

abbrev made : ℕ → Made
made number = record { model = 0; arguments = int number ∷ []; seed = number }

-- the elements from a number on
abbrev from_0 : List Value
from_0 = int 0 ∷ int 1 ∷ int 2 ∷ int 3 ∷ []

abbrev from_1 : List Value
from_1 = int 1 ∷ int 2 ∷ int 3 ∷ []

abbrev from_2 : List Value
from_2 = int 2 ∷ int 3 ∷ []

abbrev from_3 : List Value
from_3 = int 3 ∷ []

-- what is left to do once a model is called, and in a walk
abbrev then_adds : List Value → Term
then_adds xs = Do adds ∷ walk xs ∷ last

abbrev in_walk : List Value → Term
in_walk xs = walk xs ∷ last

-- what is told in the end
abbrev sum_shown : List Made → Told
sum_shown runs = record { runs = runs; output = codes "14\n"; end = Done 4 }

by_end : told 1 4 (all_three 14 9 3) last ≡ sum_shown []
by_end =
    shown 0 4 (all_three 14 9 3) (all_three 14 9 3) (Do shows) [] [] (codes "14\n") (writes 0 9 3)
    ∙ ap (after [] (codes "14\n")) (goes_none sums [] 0 squares 4 (all_three 14 9 3) (left_of 0) 0)

after_4 : told 3 4 (all_three 5 9 3) (then_adds []) ≡ sum_shown []
after_4 =
    on 2 4 (all_three 5 9 3) (all_three 14 9 3) (Do adds) (in_walk []) (in_walk []) (adds_9 2 (in_walk []))
    ∙ on 1 4 (all_three 14 9 3) (all_three 14 9 3) (walk []) last last (leaves 1 14 9 3)
    ∙ by_end

after_3 : told 6 3 (all_three 1 4 2) (then_adds from_3) ≡ sum_shown (made 3 ∷ [])
after_3 =
    on 5 3 (all_three 1 4 2) (all_three 5 4 2) (Do adds) (in_walk from_3) (in_walk from_3) (adds_4 5 (in_walk from_3))
    ∙ on 4 3 (all_three 5 4 2) (all_three 5 4 3) (walk from_3) last (Do runs ∷ then_adds []) (walks 4 5 4 3 (set 2) [])
    ∙ calls 3 3 (all_three 5 4 3) (all_three 5 4 3) (Do runs) (then_adds []) (then_adds []) (call 3) (runs_model 3 5 4 3 (then_adds []))
    ∙ ap (after (made 3 ∷ []) []) after_4

after_2 : told 9 2 (all_three 0 1 1) (then_adds from_2) ≡ sum_shown (made 2 ∷ made 3 ∷ [])
after_2 =
    on 8 2 (all_three 0 1 1) (all_three 1 1 1) (Do adds) (in_walk from_2) (in_walk from_2) (adds_1 8 (in_walk from_2))
    ∙ on 7 2 (all_three 1 1 1) (all_three 1 1 2) (walk from_2) last (Do runs ∷ then_adds from_3) (walks 7 1 1 2 (set 1) from_3)
    ∙ calls 6 2 (all_three 1 1 2) (all_three 1 1 2) (Do runs) (then_adds from_3) (then_adds from_3) (call 2) (runs_model 6 1 1 2 (then_adds from_3))
    ∙ ap (after (made 2 ∷ []) []) after_3

after_1 : told 12 1 (all_three 0 0 0) (then_adds from_1) ≡ sum_shown (made 1 ∷ made 2 ∷ made 3 ∷ [])
after_1 =
    on 11 1 (all_three 0 0 0) (all_three 0 0 0) (Do adds) (in_walk from_1) (in_walk from_1) (adds_0 11 (in_walk from_1))
    ∙ on 10 1 (all_three 0 0 0) (all_three 0 0 1) (walk from_1) last (Do runs ∷ then_adds from_2) (walks 10 0 0 1 (set 0) from_2)
    ∙ calls 9 1 (all_three 0 0 1) (all_three 0 0 1) (Do runs) (then_adds from_2) (then_adds from_2) (call 1) (runs_model 9 0 0 1 (then_adds from_2))
    ∙ ap (after (made 1 ∷ []) []) after_2

-- the body takes 17 items, of which four run the model, each with its own seed
summed : experiment sums [] 0 squares 17 ≡ sum_shown (made 0 ∷ made 1 ∷ made 2 ∷ made 3 ∷ [])
summed =
    on 16 0 (None ∷ None ∷ None ∷ []) (set 0 ∷ None ∷ None ∷ []) (Do first) (Do second ∷ Do loop ∷ last) (Do second ∷ Do loop ∷ last) (sets 16)
    ∙ on 15 0 (set 0 ∷ None ∷ None ∷ []) (set 0 ∷ set 0 ∷ None ∷ []) (Do second) (Do loop ∷ last) (Do loop ∷ last) (sets_second 15)
    ∙ on 14 0 (set 0 ∷ set 0 ∷ None ∷ []) (set 0 ∷ set 0 ∷ None ∷ []) (Do loop) last (in_walk from_0) (enters 14)
    ∙ on 13 0 (set 0 ∷ set 0 ∷ None ∷ []) (all_three 0 0 0) (walk from_0) last (Do runs ∷ then_adds from_1) (walks 13 0 0 0 None from_1)
    ∙ calls 12 0 (all_three 0 0 0) (all_three 0 0 0) (Do runs) (then_adds from_1) (then_adds from_1) (call 0) (runs_model 12 0 0 0 (then_adds from_1))
    ∙ ap (after (made 0 ∷ []) []) after_1
