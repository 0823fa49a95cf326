-- What tasks stand for, as they are put there and taken.
use Rattle.std.proofs.Common.{◌≡◌, ◌≢◌, ℕ, zero, suc, ◌+◌, ◌-◌, ◌<◌, ◌≤◌, List, [], ◌∷◌, ◌++◌, Option, Some, None, length, get_or, drop, sym, ◌∙◌, ap, refl, arith, slice_get}
use Rattle.std.specs.Prelude.{option_map, map, IsSome, ◌↔◌, MatchOption}
use Rattle.std.specs.Borrow.{Bor}
use Rattle.std.specs.Option.{option_to_list, option_copied}
use Rattle.std.proofs.lemmas.Bool.{false≢true}
use Rattle.std.proofs.lemmas.List.{append-nil, reverse-append, drop_more}
use Rattle.chi_core.specs.declared.experiment.XStat.{XStat}
use Rattle.chi_core.specs.declared.expression.CExpr.{CExpr}
use Rattle.chi_xper.specs.Items.{Item, Term, Do, Loop, Walk, after_loop, from_loop, first_the}
use Rattle.chi_value.specs.declared.value.Value.{Value}
use Rattle.chi_core.specs.Variables.{Variables, bound}
use Rattle.chi_xper.specs.declared.term.Task.{Task}
use Rattle.chi_xper.specs.declared.term.Task.TheVariants as task
use Rattle.chi_xper.specs.Tasks.{IsWalk, first_of, item_of, todo, walk_done}

pub todo_push : (tasks : List Task) (t : Task) → todo (tasks ++ t ∷ []) ≡ item_of t ∷ todo tasks
unfolding todo
todo_push tasks t = ap (map item_of) (reverse-append tasks (t ∷ []))

pub todo_none : todo [] ≡ []
unfolding todo
todo_none = refl

-- a block is put first from its last statement on
pub todo_put : (body : List XStat) (old : Term) (tasks : List Task) (n : ℕ) (s : Bor XStat) → 0 < n → n ≤ length body
    → s.now ≡ get_or body (n - 1) s.now → todo tasks ≡ map Do (drop n body) ++ old
    → todo (tasks ++ task.Do s ∷ []) ≡ map Do (drop (n - 1) body) ++ old
todo_put body old tasks n s some within at e =
    todo_push tasks (task.Do s) ∙ ap (λ r. Do s.now ∷ r) e ∙ sym (ap (λ l. map Do l ++ old) split)
  where
    split : drop (n - 1) body ≡ s.now ∷ drop n body
    split =
        let h : n - 1 < length body = omega arith in
        let back : n - 1 + 1 ≡ n = omega arith in
        drop_more body (n - 1) s.now h ∙ ap (λ y. y ∷ drop (n - 1 + 1) body) (sym at) ∙ ap (λ k. s.now ∷ drop k body) back

-- a task that was taken
pub todo_popped : (before after : List Task) (t : Task) → before ≡ after ++ t ∷ [] → todo before ≡ item_of t ∷ todo after
todo_popped before after t e = ap todo e ∙ todo_push after t

by_length : (b a : List Task) → b ≡ a → (0 < length b → ⊥) → todo a ≡ drop 1 (todo b)
by_length [] a same f = sym (ap todo same) ∙ todo_none ∙ sym (ap (drop 1) todo_none)
by_length (s ∷ b) a same f = absurd (f (omega arith))

pub todo_pop : (before after : List Task) (o : Option Task) (n : ℕ) → before ≡ after ++ option_to_list o → n ≡ length before
    → (IsSome o ↔ (0 < n)) → todo after ≡ drop 1 (todo before)
todo_pop before after (Some s) n e count v = sym (ap (drop 1) (ap todo e ∙ todo_push after s))
todo_pop before after None n e count v = by_length before after (e ∙ append-nil after) (λ h. false≢true (v.1 (omega arith)))

-- the last of tasks
last_split : (tasks : List Task) (n : ℕ) (t : Task) → n + 1 ≡ length tasks → slice_get tasks n ≡ Some t → (front : List Task) × (tasks ≡ front ++ t ∷ [])
last_split [] n t e at = absurd (omega arith)
last_split (x ∷ []) zero t e at = let same : x ≡ t = cc in ([], ap (λ y. y ∷ []) same)
last_split (x ∷ []) (suc n) t e at = absurd (omega arith)
last_split (x ∷ y ∷ xs) zero t e at = absurd (omega arith)
last_split (x ∷ y ∷ xs) (suc n) t e at =
    let f = last_split (y ∷ xs) n t (omega arith) at in
    (x ∷ f.0, ap (λ l. x ∷ l) f.1)

none_last : (tasks : List Task) (n : ℕ) → n + 1 ≡ length tasks → slice_get tasks n ≡ None → ⊥
none_last [] n e at = absurd (omega arith)
none_last (x ∷ xs) zero e at = absurd (cc)
none_last (x ∷ xs) (suc n) e at = none_last xs n (omega arith) at

-- the first of what is left to do
pub first_is : (whole : Term) (tasks : List Task) (o : Option (Bor Task)) → todo tasks ≡ whole
    → option_copied o ≡ slice_get tasks (length tasks - 1) → MatchOption o (whole ≡ []) (λ task. first_of whole ≡ Some (item_of task.now))
first_is whole [] None e at = sym e ∙ todo_none
first_is whole (x ∷ xs) None e at = absurd (none_last (x ∷ xs) (length (x ∷ xs) - 1) (omega arith) (sym at))
first_is whole [] (Some t) e at = absurd (cc)
first_is whole (x ∷ xs) (Some t) e at =
    let f = last_split (x ∷ xs) (length (x ∷ xs) - 1) t.now (omega arith) (sym at) in
    ap first_of (sym e ∙ ap todo f.1 ∙ todo_push f.0 t.now)

pub not_empty : (term : Term) (i : Item) → first_of term ≡ Some i → term ≡ [] → ⊥
not_empty [] i at e = absurd (cc)
not_empty (x ∷ xs) i at e = absurd (cc)

pub ruleset tasks = (todo_put, todo_push, todo_none)

-- the nearest loop or walk

pub after_do : (term : Term) (s : XStat) → first_of term ≡ Some (Do s) → after_loop term ≡ after_loop (drop 1 term)
after_do [] s e = absurd (cc)
after_do (x ∷ rest) s e = let same : x ≡ Do s = cc in ap (λ x. after_loop (x ∷ rest)) same

pub from_do : (term : Term) (s : XStat) → first_of term ≡ Some (Do s) → from_loop term ≡ from_loop (drop 1 term)
from_do [] s e = absurd (cc)
from_do (x ∷ rest) s e = let same : x ≡ Do s = cc in ap (λ x. from_loop (x ∷ rest)) same

pub fewer_do : (term : Term) (s : XStat) → first_of term ≡ Some (Do s) → length (drop 1 term) < length term
fewer_do [] s e = absurd (cc)
fewer_do (x ∷ rest) s e = omega arith

pub after_loop_first : (term : Term) (line : ℕ) (test : CExpr) (block : List XStat) → first_of term ≡ Some (Loop line test block) → after_loop term ≡ Some (drop 1 term)
after_loop_first [] line test block e = absurd (cc)
after_loop_first (x ∷ rest) line test block e = let same : x ≡ Loop line test block = cc in ap (λ x. after_loop (x ∷ rest)) same

pub after_walk_first : (term : Term) → IsWalk (first_of term) → after_loop term ≡ Some (drop 1 term)
after_walk_first [] e = absurd e
after_walk_first (Do s ∷ rest) e = absurd e
after_walk_first (Loop line test block ∷ rest) e = absurd e
after_walk_first (Walk line slots elements block ∷ rest) e = refl

pub from_loop_first : (term : Term) (line : ℕ) (test : CExpr) (block : List XStat) → first_of term ≡ Some (Loop line test block) → from_loop term ≡ Some term
from_loop_first [] line test block e = absurd (cc)
from_loop_first (x ∷ rest) line test block e = let same : x ≡ Loop line test block = cc in rw same refl

pub from_walk_first : (term : Term) → IsWalk (first_of term) → from_loop term ≡ Some term
from_walk_first [] e = absurd e
from_walk_first (Do s ∷ rest) e = absurd e
from_walk_first (Loop line test block ∷ rest) e = absurd e
from_walk_first (Walk line slots elements block ∷ rest) e = refl

pub after_end : (term : Term) → term ≡ [] → after_loop term ≢ None → ⊥
after_end term e h = h (ap after_loop e)

pub from_end : (term : Term) → term ≡ [] → from_loop term ≢ None → ⊥
from_end term e h = h (ap from_loop e)

pub after_from : (term mid : Term) → from_loop term ≡ Some mid → after_loop term ≡ Some (drop 1 mid)
after_from [] mid e = absurd (cc)
after_from (Do s ∷ rest) mid e = after_from rest mid e
after_from (Loop line test block ∷ rest) mid e = let same : Loop line test block ∷ rest ≡ mid = cc in ap (λ m. Some (drop 1 m)) same
after_from (Walk line slots elements block ∷ rest) mid e = let same : Walk line slots elements block ∷ rest ≡ mid = cc in ap (λ m. Some (drop 1 m)) same

pub from_there : (term : Term) → after_loop term ≢ None → from_loop term ≢ None
from_there [] h e = h refl
from_there (Do s ∷ rest) h e = from_there rest h e
from_there (Loop line test block ∷ rest) h e = absurd (cc)
from_there (Walk line slots elements block ∷ rest) h e = absurd (cc)

-- a walk is put first
pub walk_put : (tasks pushed : List Task) (term : Term) (line : ℕ) (slots : Bor (List ℕ)) (elements : List Value) (block : Bor (List XStat))
    → todo tasks ≡ term → pushed ≡ tasks ++ task.Walk line slots elements block ∷ [] → todo pushed ≡ Walk line slots.now elements block.now ∷ term
walk_put tasks pushed term line slots elements block e p = ap todo p ∙ todo_push tasks (task.Walk line slots elements block) ∙ ap (λ t. Walk line slots.now elements block.now ∷ t) e

-- the walk that stands first
module _ (variables : Variables) (term : Term) (tasks after : List Task) where
  pub walk_none : todo tasks ≡ term → tasks ≡ [] → walk_done variables term ≢ None → ⊥
  walk_none e is h = h (ap (walk_done variables) (sym e ∙ ap todo is ∙ todo_none))

  first : (t : Task) → todo tasks ≡ term → tasks ≡ after ++ t ∷ [] → term ≡ item_of t ∷ todo after
  first t e is = sym e ∙ todo_popped tasks after t is

  pub walk_do : (s : Bor XStat) → todo tasks ≡ term → tasks ≡ after ++ task.Do s ∷ [] → walk_done variables term ≢ None → ⊥
  walk_do s e is h = h (ap (walk_done variables) (first (task.Do s) e is))

  pub walk_loop : (line : ℕ) (test : Bor CExpr) (block : Bor (List XStat)) → todo tasks ≡ term → tasks ≡ after ++ task.Loop line test block ∷ [] → walk_done variables term ≢ None → ⊥
  walk_loop line test block e is h = h (ap (walk_done variables) (first (task.Loop line test block) e is))

  module _ (line : ℕ) (slots : Bor (List ℕ)) (elements : List Value) (block : Bor (List XStat)) where
    walk_is : todo tasks ≡ term → tasks ≡ after ++ task.Walk line slots elements block ∷ [] → term ≡ Walk line slots.now elements block.now ∷ todo after
    walk_is e is = first (task.Walk line slots elements block) e is

    pub walk_over : todo tasks ≡ term → tasks ≡ after ++ task.Walk line slots elements block ∷ [] → elements ≡ [] → walk_done variables term ≡ Some (variables, todo after)
    walk_over e is none = ap (walk_done variables) (walk_is e is ∙ ap (λ xs. Walk line slots.now xs block.now ∷ todo after) none)

    walk_at : (rest : List Value) (x : Value) → todo tasks ≡ term → tasks ≡ after ++ task.Walk line slots elements block ∷ [] → elements ≡ x ∷ rest
        → walk_done variables term ≡ option_map (λ new. (new, first_the block.now (Walk line slots.now rest block.now ∷ todo after))) (bound slots.now x variables)
    walk_at rest x e is more = ap (walk_done variables) (walk_is e is ∙ ap (λ xs. Walk line slots.now xs block.now ∷ todo after) more)

    pub walk_bound : (rest : List Value) (x : Value) → todo tasks ≡ term → tasks ≡ after ++ task.Walk line slots elements block ∷ [] → elements ≡ x ∷ rest
        → walk_done variables term ≢ None → bound slots.now x variables ≢ None
    walk_bound rest x e is more h none = h (walk_at rest x e is more ∙ ap (option_map (λ new. (new, first_the block.now (Walk line slots.now rest block.now ∷ todo after)))) none)

    pub walk_goes : (rest : List Value) (x : Value) (variables2 : Variables) (pushed put : List Task) → todo tasks ≡ term → tasks ≡ after ++ task.Walk line slots elements block ∷ []
        → elements ≡ x ∷ rest → bound slots.now x variables ≡ Some variables2
        → pushed ≡ after ++ task.Walk line slots rest block ∷ [] → todo put ≡ first_the block.now (todo pushed)
        → walk_done variables term ≡ Some (variables2, todo put)
    walk_goes rest x variables2 pushed put e is more b p q =
        walk_at rest x e is more
        ∙ ap (option_map (λ new. (new, first_the block.now (Walk line slots.now rest block.now ∷ todo after)))) b
        ∙ ap (λ t. Some (variables2, t)) (ap (first_the block.now) (sym (ap todo p ∙ todo_push after (task.Walk line slots rest block))) ∙ sym q)

pub ruleset walks = (walk_none, walk_do, walk_loop, walk_over, walk_bound, walk_goes)

pub ruleset loops = (after_from, from_there, after_do, from_do, fewer_do, after_loop_first, after_walk_first, from_loop_first, from_walk_first, after_end, from_end)
