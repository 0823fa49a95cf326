-- Sound statements have code behind any other.
use Rattle.std.proofs.Common.{◌≡◌, ℕ, ◌+◌, Bool, true, false, List, [], ◌∷◌, ◌++◌, length, map, Option, Some, None, refl, sym, subst}
use Rattle.std.proofs.lemmas.Bool.{false≢true}
use Rattle.chi_types.specs.declared.ty.Ty.{Ty, Ty-F}
use Rattle.chi_core.specs.declared.expression.CExpr.{CExpr}
use Rattle.chi_core.specs.declared.statement.Branch.{Branch, out-Branch}
use Rattle.chi_core.specs.declared.statement.CAlt.{CAlt, CAlt-F, out-CAlt}
use Rattle.chi_core.specs.declared.statement.CAlt.TheVariants as alternative
use Rattle.chi_core.specs.declared.statement.CStat.{CStat, CStat-F, out-CStat}
use Rattle.chi_core.specs.declared.statement.CStat.TheVariants as s
use Rattle.chi_core.specs.declared.target.CTarget.{CTarget}
use Rattle.chi_core.specs.Kinds.{Kind, kinds_of}
use Rattle.chi_core.specs.Scopes.{Scope}
use Rattle.chi_core.specs.SetSlots.{Known, StatLayer, also_all, sets}
use Rattle.chi_core.specs.SoundExpressions as k
use Rattle.chi_core.specs.SoundParts as q
use Rattle.chi_core.specs.SoundStatements as t
use Rattle.chi_core.specs.SoundStatements.{SoundStat, SoundBlock, SoundBranches, SoundAlternatives, SoundAlternative}
use Rattle.chi_code.specs.declared.code.Around.{Around}
use Rattle.chi_code.specs.declared.instr.Instr.{Instr}
use Rattle.chi_code.specs.declared.instr.Instr.TheVariants as i
use Rattle.chi_code.specs.Aims.{aim_of, indexes_of, is_spread}
use Rattle.chi_code.specs.Sizes.{block_size, branches_size, fronts_size, guard_size, comm_size}
use Rattle.chi_code.specs.StatementLayout.{looping, walking, StatAt, one_statement}
use Rattle.chi_code.proofs.Naming.{targets_kinds}
use Rattle.chi_gen_parts.specs.Added.{Grows, AddsSpread, AddsStat, AddsBlock, around_of, turn_at, walks_in}
use Rattle.chi_gen_parts.proofs.Growing.{grows_on, grow_statement}
use Rattle.chi_gen_parts.proofs.AddedParts.{add_spread, add_no_spread}
use Rattle.chi_gen.specs.Passes.{AddsTests, FrontsAt, no_front, one_front, FrontAt, front, AddsFronts, BodyOf, one_body, no_body, bodies_of, AddsBodies}
use Rattle.chi_gen.specs.Soundness.{in_loop}
use Rattle.chi_gen.proofs.Passing.{grow_tests, grow_fronts, grow_bodies, tests_joined}
use Rattle.chi_gen.proofs.AddedStatements.{add_declare, add_return, add_exit_with, add_exit, add_pass, add_write, add_finish, add_run, add_start, add_assign, add_continue, add_break, add_leave}
use Rattle.chi_gen.proofs.AddedBlocks.{add_no_statement, add_while, add_for, add_test, add_no_test, add_if, add_body, add_no_body, bodies_joined, add_select, fronts_joined, add_offer, add_unwind_front, add_no_front}
use Rattle.chi_gen_laws.proofs.ExpressionCode.{more, one_more, expr_code, exprs_code}
use Rattle.chi_gen_laws.proofs.PartCode.{comm_code, guard_code, elements_code}

pub record SpreadCode (targets : List CTarget) (es : List CExpr) (c : List Instr) : Type 0 where
  pub code : List Instr
  pub adds : AddsSpread targets es c code

spread_code : (targets : List CTarget) (es : List CExpr) (c : List Instr) (b : Bool) → is_spread targets es ≡ b → SpreadCode targets es c
spread_code targets es c true h = record { code = more c (i.Spread (length targets)); adds = add_spread targets es (length targets) c _ h refl (one_more (i.Spread (length targets)) c) }
spread_code targets es c false h = record { code = c; adds = add_no_spread targets es c h }

-- an alternative that stands alone
front_in : {d : List Instr} {slots : List Ty} {w : Bool} (names : List ℕ) (x : CAlt) (p q a b : ℕ) → FrontsAt d slots w names (x ∷ []) p q a b → FrontAt d slots w names (out-CAlt x) p q a b
front_in _ _ _ _ _ _ (one_front names x _ p q _ a b _ h (no_front _ _ _)) = h

module _ (process : Bool) (slots : List Ty) where
  abbrev turn : ℕ → Instr
  turn = turn_at process

  pub record StatCode (near : Option Around) (o : StatLayer) (c : List Instr) : Type 0 where
    pub code : List Instr
    pub grows : Grows c code
    pub at : (outer : List Around) → StatAt code turn slots (around_of near outer) o (length c) (length code)

  pub record BlockCode (near : Option Around) (xs : List CStat) (c : List Instr) : Type 0 where
    pub code : List Instr
    pub adds : AddsBlock process slots near xs c code

  record TestsCode (near : Option Around) (end : ℕ) (xs : List Branch) (c : List Instr) : Type 0 where
    code : List Instr
    adds : AddsTests process slots near end xs c code

  record FrontCode (w : Bool) (names : List ℕ) (o : CAlt-F CAlt CStat Branch) (p : ℕ) (c : List Instr) : Type 0 where
    code : List Instr
    behind : ℕ
    grows : Grows c code
    at : FrontAt code slots w names o p behind (length c) (length code)

  record FrontsCode (w : Bool) (names : List ℕ) (xs : List CAlt) (p : ℕ) (c : List Instr) : Type 0 where
    code : List Instr
    behind : ℕ
    adds : AddsFronts slots w names xs p behind c code

  record BodyCode (near : Option Around) (end : ℕ) (o : CAlt-F CAlt CStat Branch) (c : List Instr) : Type 0 where
    code : List Instr
    grows : Grows c code
    at : (outer : List Around) → BodyOf code turn slots (around_of near outer) end o (length c) (length code)

  record BodiesCode (near : Option Around) (end : ℕ) (xs : List CAlt) (c : List Instr) : Type 0 where
    code : List Instr
    adds : AddsBodies process slots near end xs c code

  stat_layer : (near : Option Around) (x : CStat) (o : StatLayer) (c d : List Instr) → out-CStat x ≡ o → AddsStat process slots near x c d → StatCode near o c
  stat_layer near x o c d is h = record { code = d; grows = h.grows; at = λ outer. subst (λ o. StatAt d turn slots (around_of near outer) o (length c) (length d)) is (h.at outer) }

  block_cons : (near : Option Around) (x : CStat) (xs : List CStat) (c d : List Instr) (a : StatCode near (out-CStat x) c) → AddsBlock process slots near xs a.code d → AddsBlock process slots near (x ∷ xs) c d
  block_cons near x xs c d a h = record {
    grows = grows_on c a.code d a.grows h.grows;
    at = λ outer. one_statement (around_of near outer) x xs (length c) (length a.code) (length d) (grow_statement a.code d h.grows slots turn (around_of near outer) (out-CStat x) _ _ (a.at outer)) (h.at outer);
  }

  tests_cons : (near : Option Around) (end : ℕ) (x : Branch) (xs : List Branch) (c c1 d : List Instr) → AddsTests process slots near end (x ∷ []) c c1 → AddsTests process slots near end xs c1 d → AddsTests process slots near end (x ∷ xs) c d
  tests_cons near end x xs c c1 d a h = record {
    grows = grows_on c c1 d a.grows h.grows;
    at = λ outer. tests_joined d slots turn (around_of near outer) end (x ∷ []) xs _ _ _ (grow_tests c1 d h.grows slots turn _ end (x ∷ []) _ _ (a.at outer)) (h.at outer);
  }

  fronts_cons : (w : Bool) (names : List ℕ) (x : CAlt) (xs : List CAlt) (p r : ℕ) (c d : List Instr) (a : FrontCode w names (out-CAlt x) p c) → AddsFronts slots w names xs a.behind r a.code d → AddsFronts slots w names (x ∷ xs) p r c d
  fronts_cons w names x xs p r c d a h =
      let alone = one_front names x [] p a.behind a.behind (length c) (length a.code) (length a.code) a.at (no_front names a.behind (length a.code)) in
      record {
        grows = grows_on c a.code d a.grows h.grows;
        at = fronts_joined names (x ∷ []) xs p a.behind r _ _ _ (grow_fronts a.code d h.grows slots w names (x ∷ []) p a.behind _ _ alone) h.at;
      }

  bodies_cons : (near : Option Around) (end : ℕ) (x : CAlt) (xs : List CAlt) (c d : List Instr) (a : BodyCode near end (out-CAlt x) c) → AddsBodies process slots near end xs a.code d → AddsBodies process slots near end (x ∷ xs) c d
  bodies_cons near end x xs c d a h = record {
    grows = grows_on c a.code d a.grows h.grows;
    at = λ outer. bodies_joined process slots (around_of near outer) end (x ∷ []) xs _ _ _
        (grow_bodies a.code d h.grows slots turn (around_of near outer) end (x ∷ []) _ _ (one_body x [] (length c) (length a.code) (length a.code) (a.at outer) (no_body (length a.code)))) (h.at outer);
  }

  -- leaving a loop, and its next turn

  leaving_code : (near : Option Around) (l : Around) (line : ℕ) (c : List Instr) → near ≡ Some l → (w : Bool) → l.walks ≡ w → StatCode near (CStat-F.Break line) c
  leaving_code near l line c is false h =
      stat_layer near (s.Break line) _ c _ (s.outs-Break line) (add_break process slots near c line l (more c (turn line)) _ is h (one_more (turn line) c) (one_more (i.Jump l.end) (more c (turn line))))
  leaving_code near l line c is true h =
      let c1 = more c (turn line) in
      let c2 = more c1 i.Drop in
      stat_layer near (s.Break line) _ c _ (s.outs-Break line) (add_leave process slots near c line l c1 c2 _ is h (one_more (turn line) c) (one_more i.Drop c1) (one_more (i.Jump l.end) c2))

  break_code : (near : Option Around) (line : ℕ) (c : List Instr) → true ≡ in_loop near → StatCode near (CStat-F.Break line) c
  break_code None line c e = absurd (false≢true (sym e))
  break_code (Some l) line c e = leaving_code (Some l) l line c refl l.walks refl

  continue_code : (near : Option Around) (line : ℕ) (c : List Instr) → true ≡ in_loop near → StatCode near (CStat-F.Continue line) c
  continue_code None line c e = absurd (false≢true (sym e))
  continue_code (Some l) line c e =
      let c1 = more c (turn line) in
      stat_layer (Some l) (s.Continue line) _ c _ (s.outs-Continue line) (add_continue process slots (Some l) c line l c1 _ refl (one_more (turn line) c) (one_more (i.Jump l.top) c1))

  module _ (scope : Scope) (kinds : scope.slots ≡ kinds_of slots) where
    assign_code : (near : Option Around) (known : Known) (line : ℕ) (targets : List CTarget) (es : List CExpr) (Ts Us : List Kind) (c : List Instr) → k.HaveKinds scope known es Ts → k.HaveKinds scope known (indexes_of targets) Us
        → StatCode near (CStat-F.Assign line targets es) c
    assign_code near known line targets es Ts Us c g r =
        let c1 = more c (turn line) in
        let a = exprs_code scope known es Ts g c1 in
        let b = spread_code targets es a.code (is_spread targets es) refl in
        let x = exprs_code scope known (indexes_of targets) Us r b.code in
        stat_layer near (s.Assign line targets es) _ c _ (s.outs-Assign line targets es)
        (add_assign process slots near c line targets es targets (map aim_of targets) c1 a.code b.code x.code _ refl (one_more (turn line) c) a.adds b.adds x.adds refl (one_more (i.Assign (map aim_of targets)) x.code))

    -- alternatives, whose bodies are to stand from p on
    mutual
      front_code : (w loop : Bool) (known : Known) (o : CAlt-F CAlt CStat Branch) → SoundAlternative scope loop known o → (names : List ℕ) (p : ℕ) (c : List Instr) → FrontCode w names o p c
      front_code w _ _ _ (t.guarded loop known guard communication block gg gc gb) names p c =
          let end = length c + (guard_size guard + comm_size communication) in
          let a = guard_code scope known end guard gg c in
          let b = comm_code slots scope known kinds names p communication gc a.code in
          let h = add_offer slots names guard communication p end c a.code b.code refl a.adds b.adds in
          record { code = b.code; behind = p + block_size block w + 1; grows = h.grows; at = front names guard communication block p _ (length c) h.between (length b.code) h.guarded h.offered refl }
      front_code w _ _ _ (t.unwinds loop known own x alternatives v g) names p c =
          let y = alternative.Unwind own x alternatives in
          let a = expr_code scope known x _ v.has_kind c in
          let c2 = more a.code i.Walk in
          let n = length c2 + 1 + (fronts_size alternatives w + 1) in
          let c3 = more c2 (i.Next n own) in
          let b = fronts_code w loop (also_all own known) alternatives g (names ++ own) p c3 in
          let d = more b.code (i.Jump (length c2)) in
          let h = add_unwind_front slots w names y own own (names ++ own) x alternatives p b.behind n (length c2) c a.code c2 c3 b.code d refl a.adds (one_more i.Walk a.code) refl refl refl (one_more (i.Next n own) c2) refl b.adds
          (one_more (i.Jump (length c2)) b.code) in
          record {
            code = d;
            behind = b.behind;
            grows = h.grows;
            at = subst (λ o. FrontAt d slots w names o p b.behind (length c) (length d)) (alternative.outs-Unwind own x alternatives) (front_in names y p b.behind (length c) (length d) h.at);
          }

      fronts_code : (w loop : Bool) (known : Known) (xs : List CAlt) → SoundAlternatives scope loop known xs → (names : List ℕ) (p : ℕ) (c : List Instr) → FrontsCode w names xs p c
      fronts_code w _ _ _ (t.no_alternative loop known) names p c = record { code = c; behind = p; adds = add_no_front slots w names p c }
      fronts_code w _ _ _ (t.one_alternative loop known x xs g r) names p c =
          let a = front_code w loop known (out-CAlt x) g names p c in
          let b = fronts_code w loop known xs r names a.behind a.code in
          record { code = b.code; behind = b.behind; adds = fronts_cons w names x xs p b.behind c b.code a b.adds }

    mutual
      stat_code : (loop : Bool) (known : Known) (o : StatLayer) → SoundStat scope loop known o → (near : Option Around) → loop ≡ in_loop near → (c : List Instr) → StatCode near o c
      stat_code _ _ _ (t.declares loop known line slot x T is may g) near e c =
          let c1 = more c (turn line) in
          let a = expr_code scope known x T g c1 in
          stat_layer near (s.Declare line slot x) _ c _ (s.outs-Declare line slot x) (add_declare process slots near c line slot x c1 a.code _ (one_more (turn line) c) a.adds (one_more (i.Store slot) a.code))
      stat_code _ _ _ (t.assigns loop known line targets es Ts g r) near e c = let u = targets_kinds [] scope known targets Ts r in assign_code near known line targets es Ts u.0 c g u.1
      stat_code _ _ _ (t.spreads loop known line t1 t2 rest x parts g r) near e c =
          let u = targets_kinds [] scope known (t1 ∷ t2 ∷ rest) _ r in
          assign_code near known line (t1 ∷ t2 ∷ rest) (x ∷ []) (Ty-F.TupleOf parts ∷ []) u.0 c (k.one_expression x [] (Ty-F.TupleOf parts) [] g k.no_expression) u.1
      stat_code _ _ _ (t.chooses loop known line bs otherwise g r) near e c =
          let c1 = more c (turn line) in
          let end = length c1 + (branches_size bs (walks_in near) + block_size otherwise (walks_in near)) in
          let a = tests_code loop known bs g near e end c1 in
          let b = block_code loop known otherwise r near e a.code in
          stat_layer near (s.If line bs otherwise) _ c _ (s.outs-If line bs otherwise) (add_if process slots near c line end bs otherwise c1 a.code b.code (one_more (turn line) c) refl a.adds b.adds)
      stat_code _ _ _ (t.loops loop known line test block g r) near e c =
          let c1 = more c (turn line) in
          let a = expr_code scope known test _ g c1 in
          let l = looping (length c) (length a.code + 1 + (block_size block false + 1)) in
          let c3 = more a.code (i.IfFalse l.end) in
          let b = block_code true known block r (Some l) refl c3 in
          stat_layer near (s.While line test block) _ c _ (s.outs-While line test block)
          (add_while process slots near c line test block l c1 a.code c3 b.code _ (one_more (turn line) c) a.adds refl (one_more (i.IfFalse l.end) a.code) b.adds (one_more (i.Jump l.top) b.code))
      stat_code _ _ _ (t.walks loop known line names x block w r) near e c =
          let c1 = more c (turn line) in
          let a = expr_code scope known x _ w.has_kind c1 in
          let c3 = more a.code i.Walk in
          let c4 = more c3 (turn line) in
          let l = walking (length c3) (length c4 + 1 + (block_size block true + 1)) in
          let c5 = more c4 (i.Next l.end names) in
          let b = block_code true (also_all names known) block r (Some l) refl c5 in
          stat_layer near (s.For line names x block) _ c _ (s.outs-For line names x block)
          (add_for process slots near c line names names x block l c1 a.code c3 c4 c5 b.code _ (one_more (turn line) c) a.adds (one_more i.Walk a.code) (one_more (turn line) c3) refl refl (one_more (i.Next l.end names) c4) b.adds
          (one_more (i.Jump l.top) b.code))
      stat_code _ _ _ (t.breaks known line) near e c = break_code near line c e
      stat_code _ _ _ (t.continues known line) near e c = continue_code near line c e
      stat_code _ _ _ (t.passes loop known line) near e c = stat_layer near (s.Pass line) _ c _ (s.outs-Pass line) (add_pass process slots near c line _ (one_more (turn line) c))
      stat_code _ _ _ (t.returns loop known line x T role g) near e c =
          let c1 = more c (turn line) in
          let a = expr_code scope known x T g c1 in
          stat_layer near (s.Return line x) _ c _ (s.outs-Return line x) (add_return process slots near c line x c1 a.code _ (one_more (turn line) c) a.adds (one_more i.Ret a.code))
      stat_code _ _ _ (t.exits loop known line _ exit role (q.with_value x T g plain)) near e c =
          let c1 = more c (turn line) in
          let a = expr_code scope known x T g c1 in
          stat_layer near (s.Exit line (Some x)) _ c _ (s.outs-Exit line (Some x)) (add_exit_with process slots near c line (Some x) x c1 a.code _ refl (one_more (turn line) c) a.adds (one_more (i.Exit true) a.code))
      stat_code _ _ _ (t.exits loop known line _ exit role q.without_value) near e c =
          let c1 = more c (turn line) in
          stat_layer near (s.Exit line None) _ c _ (s.outs-Exit line None) (add_exit process slots near c line None c1 _ refl (one_more (turn line) c) (one_more (i.Exit false) c1))
      stat_code _ _ _ (t.writes loop known line pieces es exit Ts role g shows) near e c =
          let c1 = more c (turn line) in
          let a = exprs_code scope known es Ts g c1 in
          stat_layer near (s.Write line pieces es) _ c _ (s.outs-Write line pieces es) (add_write process slots near c line pieces pieces es c1 a.code _ refl (one_more (turn line) c) a.adds (one_more (i.Write pieces) a.code))
      stat_code _ _ _ (t.selects loop known line xs exit role g) near e c =
          let c1 = more c (turn line) in
          let w = walks_in near in
          let first = length c1 + 1 + fronts_size xs w in
          let a = fronts_code w loop known xs g [] first c1 in
          let c3 = more a.code i.Wait in
          let b = bodies_code loop known xs g near e a.behind c3 in
          stat_layer near (s.Select line xs) _ c _ (s.outs-Select line xs)
          (add_select process slots near c line first a.behind xs w c1 a.code c3 b.code refl (one_more (turn line) c) refl a.adds (one_more i.Wait a.code) b.adds)
      stat_code _ _ _ (t.runs loop known line elements exit role g) near e c =
          let c1 = more c (turn line) in
          let a = elements_code scope exit known elements g c1 in
          stat_layer near (s.Run line elements) _ c _ (s.outs-Run line elements) (add_run process slots near c line elements c1 a.code _ (one_more (turn line) c) a.adds (one_more i.Join a.code))
      stat_code _ _ _ (t.starts loop known line elements exit role g) near e c =
          let c1 = more c (turn line) in
          let a = elements_code scope exit known elements g c1 in
          stat_layer near (s.Start line elements) _ c _ (s.outs-Start line elements) (add_start process slots near c line elements c1 a.code (one_more (turn line) c) a.adds)
      stat_code _ _ _ (t.finishes loop known line es exit role g) near e c =
          let c1 = more c (turn line) in
          let a = exprs_code scope known es _ g c1 in
          stat_layer near (s.Finish line es) _ c _ (s.outs-Finish line es) (add_finish process slots near c line (length es) es c1 a.code _ refl (one_more (turn line) c) a.adds (one_more (i.Finish (length es)) a.code))

      tests_code : (loop : Bool) (known : Known) (xs : List Branch) → SoundBranches scope loop known xs → (near : Option Around) → loop ≡ in_loop near → (end : ℕ) (c : List Instr) → TestsCode near end xs c
      tests_code _ _ _ (t.no_branch loop known) near e end c = record { code = c; adds = add_no_test process slots near end c }
      tests_code _ _ _ (t.one_branch loop known x xs g gb gr) near e end c =
          let block = (out-Branch x).block in
          let a = expr_code scope known (out-Branch x).test _ g c in
          let n = length a.code + 1 + (block_size block (walks_in near) + 1) in
          let c2 = more a.code (i.IfFalse n) in
          let b = block_code loop known block gb near e c2 in
          let c4 = more b.code (i.Jump end) in
          let one = add_test process slots near end n x block c a.code c2 b.code c4 a.adds refl refl (one_more (i.IfFalse n) a.code) b.adds (one_more (i.Jump end) b.code) in
          let r = tests_code loop known xs gr near e end c4 in
          record { code = r.code; adds = tests_cons near end x xs c c4 r.code one r.adds }

      pub block_code : (loop : Bool) (known : Known) (xs : List CStat) → SoundBlock scope loop known xs → (near : Option Around) → loop ≡ in_loop near → (c : List Instr) → BlockCode near xs c
      block_code _ _ _ (t.no_statement loop known) near e c = record { code = c; adds = add_no_statement process slots near c }
      block_code _ _ _ (t.one_statement loop known x xs g r) near e c =
          let a = stat_code loop known (out-CStat x) g near e c in
          let b = block_code loop (sets (out-CStat x) known) xs r near e a.code in
          record { code = b.code; adds = block_cons near x xs c b.code a b.adds }

      body_code : (loop : Bool) (known : Known) (o : CAlt-F CAlt CStat Branch) → SoundAlternative scope loop known o → (near : Option Around) → loop ≡ in_loop near → (end : ℕ) (c : List Instr) → BodyCode near end o c
      body_code _ _ _ (t.guarded loop known guard communication block gg gc gb) near e end c =
          let y = alternative.Guarded guard communication block in
          let a = block_code loop known block gb near e c in
          let d = more a.code (i.Jump end) in
          let h = add_body process slots near end y guard communication block c a.code d refl a.adds (one_more (i.Jump end) a.code) in
          record { code = d; grows = (h []).0; at = λ outer. subst (λ o. BodyOf d turn slots (around_of near outer) end o (length c) (length d)) (alternative.outs-Guarded guard communication block) (h outer).1 }
      body_code _ _ _ (t.unwinds loop known own x alternatives v g) near e end c =
          let a = bodies_code loop (also_all own known) alternatives g near e end c in
          record { code = a.code; grows = a.adds.grows; at = λ outer. bodies_of own x alternatives (length c) (length a.code) (a.adds.at outer) }

      bodies_code : (loop : Bool) (known : Known) (xs : List CAlt) → SoundAlternatives scope loop known xs → (near : Option Around) → loop ≡ in_loop near → (end : ℕ) (c : List Instr) → BodiesCode near end xs c
      bodies_code _ _ _ (t.no_alternative loop known) near e end c = record { code = c; adds = add_no_body process slots near end c }
      bodies_code _ _ _ (t.one_alternative loop known x xs g r) near e end c =
          let a = body_code loop known (out-CAlt x) g near e end c in
          let b = bodies_code loop known xs r near e end a.code in
          record { code = b.code; adds = bodies_cons near end x xs c b.code a b.adds }
