-- Each kind of statement with blocks, as the generator writes it: with its goals known from sizes.
use Rattle.std.proofs.Common.{◌≡◌, ℕ, ◌+◌, ◌<◌, Bool, true, false, List, [], ◌∷◌, ◌++◌, length, Option, Some, refl, sym, ap, subst, ◌∙◌, arith, take, get_or}
use Rattle.std.proofs.lemmas.List.{take_more}
use Rattle.chi_types.specs.declared.ty.Ty.{Ty}
use Rattle.chi_core.specs.declared.communication.CComm.{CComm}
use Rattle.chi_core.specs.declared.expression.CExpr.{CExpr}
use Rattle.chi_core.specs.declared.statement.Branch.{Branch, out-Branch}
use Rattle.chi_core.specs.declared.statement.CAlt.{CAlt, CAlt-F, out-CAlt}
use Rattle.chi_core.specs.declared.statement.CAlt.TheVariants as alternative
use Rattle.chi_core.specs.declared.statement.CStat.{CStat, out-CStat}
use Rattle.chi_core.specs.declared.statement.CStat.TheVariants as s
use Rattle.chi_code.specs.declared.code.Around.{Around}
use Rattle.chi_code.specs.declared.instr.Instr.{Instr}
use Rattle.chi_code.specs.declared.instr.Instr.TheVariants as i
use Rattle.chi_code.specs.ExpressionLayout.{Has}
use Rattle.chi_code.specs.Sizes.{block_size, branches_size, fronts_size, guard_size, comm_size}
use Rattle.chi_code.specs.StatementLayout.{looping, walking, in_walk, StatAt, chooses, loops, walks, selects, loop, WalkAt, walk, BranchesAt, AltsAt, GuardAt, BlockAt, no_statement, one_statement}
use Rattle.chi_code.proofs.Sized.{block_sized, guard_sized, comm_sized}
use Rattle.chi_gen_parts.specs.Added.{Grows, AddsOne, AddsExpr, AddsGuard, AddsComm, AddsStat, AddsBlock, around_of, turn_at, walks_in}
use Rattle.chi_gen.specs.Passes.{TestsAt, no_test, one_test, AddsTests, FrontsAt, no_front, one_front, FrontAt, front, fronts_within, AddsFronts, AddsOffer, BodiesAt, no_body, one_body, BodyOf, body_of, bodies_of, AddsBodies}
use Rattle.chi_gen_parts.proofs.Growing.{grows_same, grows_on, grow_expr, grow_guard, grow_block}
use Rattle.chi_gen_parts.proofs.AddedExpressions.{has_at, goal_at, expr_from}
use Rattle.chi_gen.proofs.AddedStatements.{stat_of}
use Rattle.chi_gen.proofs.Passing.{walks_of, grow_tests, grow_fronts, grow_bodies, tests_sized, tests_then, tests_joined, joined, fronts_sized}

module _ (process : Bool) (slots : List Ty) where
  abbrev turn : ℕ → Instr
  turn = turn_at process

  block_from : (d : List Instr) (around : List Around) (xs : List CStat) (a a' b : ℕ) → BlockAt d turn slots around xs a b → a ≡ a' → BlockAt d turn slots around xs a' b
  block_from d around xs a a' b h e = subst (λ a. BlockAt d turn slots around xs a b) e h

  block_long : (near : Option Around) (xs : List CStat) (c d : List Instr) → AddsBlock process slots near xs c d → length d ≡ length c + block_size xs (walks_in near)
  block_long near xs c d h = block_sized d turn slots (around_of near []) xs _ _ (h.at []) ∙ ap (λ w. length c + block_size xs w) (walks_of near [])

  snoc : {code : List Instr} (around : List Around) (xs : List CStat) (x : CStat) (a b n : ℕ) → BlockAt code turn slots around xs a b → StatAt code turn slots around (out-CStat x) b n → BlockAt code turn slots around (xs ++ x ∷ []) a n
  snoc _ _ x _ _ n (no_statement around a) k = one_statement around x [] a n n k (no_statement around n)
  snoc _ _ x _ _ n (one_statement around y ys a b m h r) k = one_statement around y (ys ++ x ∷ []) a b n h (snoc around ys x b m n r k)

  pub add_no_statement : (near : Option Around) (c : List Instr) → AddsBlock process slots near [] c c
  add_no_statement near c = record { grows = grows_same c; at = λ outer. no_statement (around_of near outer) (length c) }

  pub add_next_statement : (near : Option Around) (all : List CStat) (k : ℕ) (x : CStat) (c c1 d : List Instr) → k < length all → x ≡ get_or all k x → AddsBlock process slots near (take k all) c c1
      → AddsStat process slots near x c1 d → AddsBlock process slots near (take (k + 1) all) c d
  add_next_statement near all k x c c1 d h is em en =
      subst (λ l. AddsBlock process slots near l c d) (sym (take_more all k x h ∙ ap (λ y. take k all ++ y ∷ []) (sym is)))
      (record { grows = grows_on c c1 d em.grows en.grows; at = λ outer. snoc (around_of near outer) (take k all) x _ _ _ (grow_block c1 d en.grows slots turn _ (take k all) _ _ (em.at outer)) (en.at outer) })

  pub add_while : (near : Option Around) (c : List Instr) (line : ℕ) (v : CExpr) (block : List CStat) (l : Around) (c1 c2 c3 c4 d : List Instr) → AddsOne (turn line) c c1 → AddsExpr v c1 c2
      → l ≡ looping (length c) (length c2 + 1 + (block_size block false + 1)) → AddsOne (i.IfFalse l.end) c2 c3 → AddsBlock process slots (Some l) block c3 c4 → AddsOne (i.Jump l.top) c4 d
      → AddsStat process slots near (s.While line v block) c d
  add_while near c line v block l c1 c2 c3 c4 d t ev le h eb j =
      let g4 = j.grows in
      let g3 = grows_on c3 c4 d eb.grows g4 in
      let g2 = grows_on c2 c3 d h.grows g3 in
      let g1 = grows_on c1 c2 d ev.grows g2 in
      let top : l.top ≡ length c = ap (λ (l : Around). l.top) le in
      let long = block_long (Some l) block c3 c4 eb in
      let still : l.walks ≡ false = ap (λ (l : Around). l.walks) le in
      let end : l.end ≡ length c4 + 1 = omega (arith, ap (λ (l : Around). l.end) le, long, ap (λ w. block_size block w) still, h.end) in
      let same : l ≡ looping (length c) (length c4 + 1) = le ∙ ap (looping (length c)) (sym (ap (λ (l : Around). l.end) le) ∙ end) in
      record {
        grows = grows_on c c1 d t.grows g1;
        at = λ outer. stat_of process slots near c d _ _ _ _ (s.outs-While line v block)
            (loops _ line v block (length c) (length c4 + 1) (loop (around_of near outer) line v block (length c) (length c2) (length c4) (g1.has _ _ t.has)
            (expr_from d _ _ _ _ (grow_expr c2 d g2 _ _ _ ev.at) t.end) (goal_at d i.IfFalse _ _ _ (g3.has _ _ h.has) end)
            (subst (λ l. BlockAt d turn slots (l ∷ around_of near outer) block (length c2 + 1) (length c4)) same
            (block_from d _ block _ _ _ (grow_block c4 d g4 slots turn _ block _ _ (eb.at (around_of near outer))) h.end))
            (goal_at d i.Jump _ _ _ j.has top))) j.end;
      }

  pub add_for : (near : Option Around) (c : List Instr) (line : ℕ) (names own : List ℕ) (v : CExpr) (block : List CStat) (l : Around) (c1 c2 c3 c4 c5 c6 d : List Instr) → AddsOne (turn line) c c1 → AddsExpr v c1 c2 → AddsOne i.Walk c2 c3
      → AddsOne (turn line) c3 c4 → l ≡ walking (length c3) (length c4 + 1 + (block_size block true + 1)) → own ≡ names → AddsOne (i.Next l.end own) c4 c5 → AddsBlock process slots (Some l) block c5 c6 → AddsOne (i.Jump l.top) c6 d
      → AddsStat process slots near (s.For line names v block) c d
  add_for near c line names own v block l c1 c2 c3 c4 c5 c6 d t ev w u le se h eb j =
      let g6 = j.grows in
      let g5 = grows_on c5 c6 d eb.grows g6 in
      let g4 = grows_on c4 c5 d h.grows g5 in
      let g3 = grows_on c3 c4 d u.grows g4 in
      let g2 = grows_on c2 c3 d w.grows g3 in
      let g1 = grows_on c1 c2 d ev.grows g2 in
      let top : l.top ≡ length c3 = ap (λ (l : Around). l.top) le in
      let long = block_long (Some l) block c5 c6 eb in
      let still : l.walks ≡ true = ap (λ (l : Around). l.walks) le in
      let end : l.end ≡ length c6 + 1 = omega (arith, ap (λ (l : Around). l.end) le, long, ap (λ w. block_size block w) still, h.end) in
      let same : l ≡ walking (length c3) (length c6 + 1) = le ∙ ap (walking (length c3)) (sym (ap (λ (l : Around). l.end) le) ∙ end) in
      record {
        grows = grows_on c c1 d t.grows g1;
        at = λ outer. stat_of process slots near c d _ _ _ _ (s.outs-For line names v block)
            (walks _ line names v block (length c) (length c2) (length c6 + 1) (g1.has _ _ t.has) (expr_from d _ _ _ _ (grow_expr c2 d g2 _ _ _ ev.at) t.end) (g3.has _ _ w.has)
            (subst (λ a. WalkAt d turn slots (around_of near outer) line names block a (length c6 + 1)) w.end
            (walk (around_of near outer) line names block (length c3) (length c6) (g4.has _ _ u.has)
            (subst (λ s. Has d (length c3 + 1) (i.Next (length c6 + 1) s)) se (goal_at d (λ m. i.Next m own) _ _ _ (has_at d _ _ _ (g5.has _ _ h.has) u.end) end))
            (subst (λ l. BlockAt d turn slots (l ∷ around_of near outer) block (length c3 + 1 + 1) (length c6)) same
            (block_from d _ block _ _ _ (grow_block c6 d g6 slots turn _ block _ _ (eb.at (around_of near outer))) (h.end ∙ ap (λ n. n + 1) u.end)))
            (goal_at d i.Jump _ _ _ j.has top)))) j.end;
      }

  -- a choice

  pub add_test : (near : Option Around) (end n : ℕ) (x : Branch) (inner : List CStat) (c c1 c2 c3 d : List Instr) → AddsExpr (out-Branch x).test c c1 → inner ≡ (out-Branch x).block → n ≡ length c1 + 1 + (block_size inner (walks_in near) + 1)
      → AddsOne (i.IfFalse n) c1 c2 → AddsBlock process slots near inner c2 c3 → AddsOne (i.Jump end) c3 d → AddsTests process slots near end (x ∷ []) c d
  add_test near end n x inner c c1 c2 c3 d ee same ne0 h eb0 j =
      let eb = subst (λ xs. AddsBlock process slots near xs c2 c3) same eb0 in
      let ne : n ≡ length c1 + 1 + (block_size (out-Branch x).block (walks_in near) + 1) = ne0 ∙ ap (λ xs. length c1 + 1 + (block_size xs (walks_in near) + 1)) same in
      let g3 = j.grows in
      let g2 = grows_on c2 c3 d eb.grows g3 in
      let g1 = grows_on c1 c2 d h.grows g2 in
      let block = (out-Branch x).block in
      let there : n ≡ length c3 + 1 = omega (arith, ne, h.end, block_long near block c2 c3 eb) in
      record {
        grows = grows_on c c1 d ee.grows g1;
        at = λ outer. one_test x [] (length c) (length c1) (length c3) (length d) (grow_expr c1 d g1 _ _ _ ee.at) (goal_at d i.IfFalse _ _ _ (g2.has _ _ h.has) there)
            (block_from d _ block _ _ _ (grow_block c3 d g3 slots turn _ block _ _ (eb.at outer)) h.end) j.has
            (subst (λ m. TestsAt d turn slots (around_of near outer) end [] m (length d)) j.end (no_test (length d)));
      }

  pub add_no_test : (near : Option Around) (end : ℕ) (c : List Instr) → AddsTests process slots near end [] c c
  add_no_test near end c = record { grows = grows_same c; at = λ outer. no_test (length c) }

  pub add_next_test : (near : Option Around) (end : ℕ) (all : List Branch) (k : ℕ) (x : Branch) (c c1 d : List Instr) → k < length all → x ≡ get_or all k x → AddsTests process slots near end (take k all) c c1
      → AddsTests process slots near end (x ∷ []) c1 d → AddsTests process slots near end (take (k + 1) all) c d
  add_next_test near end all k x c c1 d h is em en =
      subst (λ l. AddsTests process slots near end l c d) (sym (take_more all k x h ∙ ap (λ y. take k all ++ y ∷ []) (sym is)))
      (record {
        grows = grows_on c c1 d em.grows en.grows;
        at = λ outer. tests_joined d slots turn (around_of near outer) end (take k all) (x ∷ []) _ _ _
            (grow_tests c1 d en.grows slots turn _ end (take k all) _ _ (em.at outer)) (en.at outer);
      })

  pub add_if : (near : Option Around) (c : List Instr) (line end : ℕ) (bs : List Branch) (otherwise : List CStat) (c1 c2 d : List Instr) → AddsOne (turn line) c c1
      → end ≡ length c1 + (branches_size bs (walks_in near) + block_size otherwise (walks_in near)) → AddsTests process slots near end bs c1 c2 → AddsBlock process slots near otherwise c2 d
      → AddsStat process slots near (s.If line bs otherwise) c d
  add_if near c line end bs otherwise c1 c2 d t ne et eb =
      let g1 = grows_on c1 c2 d et.grows eb.grows in
      let long : length c2 ≡ length c1 + branches_size bs (walks_in near) =
      tests_sized c2 slots turn (around_of near []) end bs _ _ (et.at []) ∙ ap (λ w. length c1 + branches_size bs w) (walks_of near []) in
      let there : end ≡ length d = omega (arith, ne, long, block_long near otherwise c2 d eb) in
      record {
        grows = grows_on c c1 d t.grows g1;
        at = λ outer. stat_of process slots near c d _ _ _ _ (s.outs-If line bs otherwise)
            (chooses _ line bs otherwise (length c) (length d) (g1.has _ _ t.has)
            (subst (λ a. BranchesAt d turn slots (around_of near outer) (length d) bs otherwise a) t.end
            (tests_then d slots turn (around_of near outer) (length d) bs otherwise (length c1) (length c2)
            (subst (λ e. TestsAt d turn slots (around_of near outer) e bs (length c1) (length c2)) there (grow_tests c2 d eb.grows slots turn _ end bs _ _ (et.at outer))) (eb.at outer)))) refl;
      }

  -- a select

  pub add_body : (near : Option Around) (end : ℕ) (x : CAlt) (guard : Option CExpr) (communication : CComm) (block : List CStat) (c c1 d : List Instr) → x ≡ alternative.Guarded guard communication block
      → AddsBlock process slots near block c c1 → AddsOne (i.Jump end) c1 d → (outer : List Around) → Grows c d × BodyOf d turn slots (around_of near outer) end (out-CAlt x) (length c) (length d)
  add_body near end x guard communication block c c1 d is eb j outer = (
    grows_on c c1 d eb.grows j.grows,
    subst (λ o. BodyOf d turn slots (around_of near outer) end o (length c) (length d)) (sym (ap out-CAlt is ∙ alternative.outs-Guarded guard communication block))
        (subst (λ q. BodyOf d turn slots (around_of near outer) end (CAlt-F.Guarded guard communication block) (length c) q) (sym j.end)
        (body_of guard communication block (length c) (length c1) (grow_block c1 d j.grows slots turn _ block _ _ (eb.at outer)) j.has)),
  )

  pub add_guarded_body : (near : Option Around) (end : ℕ) (x : CAlt) (guard : Option CExpr) (communication : CComm) (block : List CStat) (c c1 d : List Instr) → x ≡ alternative.Guarded guard communication block
      → AddsBlock process slots near block c c1 → AddsOne (i.Jump end) c1 d → AddsBodies process slots near end (x ∷ []) c d
  add_guarded_body near end x guard communication block c c1 d is eb j =
      let one = add_body near end x guard communication block c c1 d is eb j in
      record { grows = (one []).0; at = λ outer. one_body x [] (length c) (length d) (length d) (one outer).1 (no_body (length d)) }

  pub add_unwind_bodies : (near : Option Around) (end : ℕ) (x : CAlt) (own : List ℕ) (e : CExpr) (alternatives : List CAlt) (c d : List Instr) → x ≡ alternative.Unwind own e alternatives
      → AddsBodies process slots near end alternatives c d → AddsBodies process slots near end (x ∷ []) c d
  add_unwind_bodies near end x own e alternatives c d is h =
      record {
        grows = h.grows;
        at = λ outer. one_body x [] (length c) (length d) (length d)
            (subst (λ o. BodyOf d turn slots (around_of near outer) end o (length c) (length d)) (sym (ap out-CAlt is ∙ alternative.outs-Unwind own e alternatives)) (bodies_of own e alternatives (length c) (length d) (h.at outer)))
            (no_body (length d));
      }

  pub add_no_body : (near : Option Around) (end : ℕ) (c : List Instr) → AddsBodies process slots near end [] c c
  add_no_body near end c = record { grows = grows_same c; at = λ outer. no_body (length c) }

  pub bodies_joined : {code : List Instr} (around : List Around) (end : ℕ) (xs ys : List CAlt) (p q r : ℕ) → BodiesAt code turn slots around end xs p q → BodiesAt code turn slots around end ys q r → BodiesAt code turn slots around end (xs ++ ys) p r
  bodies_joined around end _ ys _ _ r (no_body p) m = m
  bodies_joined around end _ ys _ _ r (one_body x xs p q s h k) m = one_body x (xs ++ ys) p q r h (bodies_joined around end xs ys q s r k m)

  pub add_next_body : (near : Option Around) (end : ℕ) (all : List CAlt) (k : ℕ) (x : CAlt) (c c1 d : List Instr) → k < length all → x ≡ get_or all k x → AddsBodies process slots near end (take k all) c c1
      → AddsBodies process slots near end (x ∷ []) c1 d → AddsBodies process slots near end (take (k + 1) all) c d
  add_next_body near end all k x c c1 d h is em en =
      subst (λ l. AddsBodies process slots near end l c d) (sym (take_more all k x h ∙ ap (λ y. take k all ++ y ∷ []) (sym is)))
      (record {
        grows = grows_on c c1 d em.grows en.grows;
        at = λ outer. bodies_joined (around_of near outer) end (take k all) (x ∷ []) _ _ _
            (grow_bodies c1 d en.grows slots turn _ end (take k all) _ _ (em.at outer)) (en.at outer);
      })

  alternatives_as : (d : List Instr) (around : List Around) (xs : List CAlt) (end end' p p' q a a' b : ℕ) → AltsAt d turn slots around end [] xs p q a b → end ≡ end' → p ≡ p' → a ≡ a' → AltsAt d turn slots around end' [] xs p' q a' b
  alternatives_as d around xs end end' p p' q a a' b h e f g =
      subst (λ a. AltsAt d turn slots around end' [] xs p' q a b) g (subst (λ p. AltsAt d turn slots around end' [] xs p q a b) f (subst (λ e. AltsAt d turn slots around e [] xs p q a b) e h))

  pub add_select : (near : Option Around) (c : List Instr) (line first end : ℕ) (xs : List CAlt) (w0 : Bool) (c1 c2 c3 d : List Instr) → w0 ≡ walks_in near → AddsOne (turn line) c c1 → first ≡ length c1 + 1 + fronts_size xs w0
      → AddsFronts slots w0 [] xs first end c1 c2 → AddsOne i.Wait c2 c3 → AddsBodies process slots near end xs c3 d → AddsStat process slots near (s.Select line xs) c d
  add_select near c line first end xs w0 c1 c2 c3 d we t ne0 ef0 w eb =
      let ef = subst (λ w. AddsFronts slots w [] xs first end c1 c2) we ef0 in
      let ne : first ≡ length c1 + 1 + fronts_size xs (walks_in near) = ne0 ∙ ap (λ w. length c1 + 1 + fronts_size xs w) we in
      let g2 = grows_on c2 c3 d w.grows eb.grows in
      let g1 = grows_on c1 c2 d ef.grows g2 in
      let start : first ≡ length c3 = omega (arith, ne, fronts_sized c2 slots (walks_in near) [] xs first end _ _ ef.at, w.end) in
      let both = λ (outer : List Around). joined d slots turn (around_of near outer) end [] xs (length c3) end (length d) (length c1) (length c2)
      (subst (λ p. FrontsAt d slots (in_walk (around_of near outer)) [] xs p end (length c1) (length c2)) start
      (subst (λ k. FrontsAt d slots k [] xs first end (length c1) (length c2)) (sym (walks_of near outer)) (grow_fronts c2 d g2 slots (walks_in near) [] xs first end _ _ ef.at)))
      (eb.at outer) in
      record {
        grows = grows_on c c1 d t.grows g1;
        at = λ outer. stat_of process slots near c d _ _ _ _ (s.outs-Select line xs)
            (selects _ line xs (length c) (length c2) (length d) (g1.has _ _ t.has) (alternatives_as d (around_of near outer) xs _ _ _ _ _ _ _ _ (both outer).1 (both outer).0 w.end t.end)
            (eb.grows.has _ _ w.has)) refl;
      }

pub fronts_joined : {d : List Instr} {slots : List Ty} {w : Bool} (names : List ℕ) (xs ys : List CAlt) (p q r a b c : ℕ) → FrontsAt d slots w names xs p q a b → FrontsAt d slots w names ys q r b c → FrontsAt d slots w names (xs ++ ys) p r a c
fronts_joined _ _ ys _ _ r _ _ c (no_front names p a) m = m
fronts_joined _ _ ys _ _ r _ _ c (one_front names x xs p q t a b n h k) m = one_front names x (xs ++ ys) p q r a b c h (fronts_joined names xs ys q t r b n c k m)

pub add_offer : (slots : List Ty) (names : List ℕ) (guard : Option CExpr) (communication : CComm) (body end : ℕ) (c c1 d : List Instr) → end ≡ length c + (guard_size guard + comm_size communication)
    → AddsGuard end guard c c1 → AddsComm slots names body communication c1 d → AddsOffer slots names body guard communication c d
add_offer slots names guard communication body end c c1 d ne eg ec =
    let there : end ≡ length d = omega (arith, ne, guard_sized c1 end guard _ _ eg.at, comm_sized d slots names body communication _ _ ec.at) in
    record {
      grows = grows_on c c1 d eg.grows ec.grows;
      between = length c1;
      guarded = subst (λ e. GuardAt d e guard (length c) (length c1)) there (grow_guard c1 d ec.grows end guard _ _ eg.at);
      offered = ec.at;
    }

module _ (slots : List Ty) (w : Bool) (names : List ℕ) where
  pub add_guarded_front : (x : CAlt) (guard : Option CExpr) (communication : CComm) (block : List CStat) (p q : ℕ) (c d : List Instr) → x ≡ alternative.Guarded guard communication block
      → q ≡ p + block_size block w + 1 → AddsOffer slots names p guard communication c d → AddsFronts slots w names (x ∷ []) p q c d
  add_guarded_front x guard communication block p q c d is qe h =
      record {
        grows = h.grows;
        at = one_front names x [] p q q (length c) (length d) (length d)
            (subst (λ o. FrontAt d slots w names o p q (length c) (length d)) (sym (ap out-CAlt is ∙ alternative.outs-Guarded guard communication block))
            (front names guard communication block p q (length c) h.between (length d) h.guarded h.offered qe))
            (no_front names q (length d));
      }

  pub add_unwind_front : (x : CAlt) (own copied inner : List ℕ) (e : CExpr) (alternatives : List CAlt) (p q n top : ℕ) (c c1 c2 c3 c4 d : List Instr) → x ≡ alternative.Unwind own e alternatives → AddsExpr e c c1 → AddsOne i.Walk c1 c2
      → top ≡ length c2 → n ≡ length c2 + 1 + (fronts_size alternatives w + 1) → copied ≡ own → AddsOne (i.Next n copied) c2 c3 → inner ≡ names ++ own → AddsFronts slots w inner alternatives p q c3 c4 → AddsOne (i.Jump top) c4 d
      → AddsFronts slots w names (x ∷ []) p q c d
  add_unwind_front x own copied inner e alternatives p q n top c c1 c2 c3 c4 d is ee o te ne se h ie ef j =
      let g4 = j.grows in
      let g3 = grows_on c3 c4 d ef.grows g4 in
      let g2 = grows_on c2 c3 d h.grows g3 in
      let g1 = grows_on c1 c2 d o.grows g2 in
      let there : n ≡ length c4 + 1 = omega (arith, ne, h.end, fronts_sized c4 slots w inner alternatives p q _ _ ef.at) in
      let e3 : length c3 ≡ length c1 + 1 + 1 = omega (arith, h.end, o.end) in
      let inside = subst (λ ns. FrontsAt d slots w ns alternatives p q (length c1 + 1 + 1) (length c4)) ie
      (subst (λ a. FrontsAt d slots w inner alternatives p q a (length c4)) e3 (grow_fronts c4 d g4 slots w inner alternatives p q _ _ ef.at)) in
      record {
        grows = grows_on c c1 d ee.grows g1;
        at = one_front names x [] p q q (length c) (length d) (length d)
            (subst (λ o. FrontAt d slots w names o p q (length c) (length d)) (sym (ap out-CAlt is ∙ alternative.outs-Unwind own e alternatives))
            (subst (λ b. FrontAt d slots w names (CAlt-F.Unwind own e alternatives) p q (length c) b) (sym j.end)
            (fronts_within names own e alternatives p q (length c) (length c1) (length c4) (grow_expr c1 d g1 _ _ _ ee.at) (g2.has _ _ o.has)
            (has_at d _ _ _ (subst (λ s. Has d (length c2) (i.Next (length c4 + 1) s)) se (goal_at d (λ m. i.Next m copied) _ _ _ (g3.has _ _ h.has) there)) o.end)
            inside (goal_at d i.Jump _ _ _ j.has (te ∙ o.end)))))
            (no_front names q (length d));
      }

  pub add_no_front : (p : ℕ) (c : List Instr) → AddsFronts slots w names [] p p c c
  add_no_front p c = record { grows = grows_same c; at = no_front names p (length c) }

  pub add_next_front : (all : List CAlt) (k : ℕ) (x : CAlt) (p q r : ℕ) (c c1 d : List Instr) → k < length all → x ≡ get_or all k x → AddsFronts slots w names (take k all) p q c c1 → AddsFronts slots w names (x ∷ []) q r c1 d
      → AddsFronts slots w names (take (k + 1) all) p r c d
  add_next_front all k x p q r c c1 d h is em en =
      subst (λ l. AddsFronts slots w names l p r c d) (sym (take_more all k x h ∙ ap (λ y. take k all ++ y ∷ []) (sym is)))
      (record { grows = grows_on c c1 d em.grows en.grows; at = fronts_joined names (take k all) (x ∷ []) p q r _ _ _ (grow_fronts c1 d en.grows slots w names (take k all) p q _ _ em.at) en.at })
