-- What was measured: how many instructions a list has in all, its elements, and each kind of statement with blocks.
use Rattle.std.proofs.Common.{◌≡◌, ℕ, zero, suc, ◌+◌, ◌<◌, Bool, true, false, List, [], ◌∷◌, ◌++◌, length, Option, Some, refl, sym, ap, subst, ◌∙◌, arith, take, get_or}
use Rattle.std.proofs.lemmas.Bool.{false≢true}
use Rattle.std.proofs.lemmas.List.{take_more}
use Rattle.std.proofs.lemmas.Option.{slice_get-get_or}
use Rattle.std.specs.Prelude.{slice_get}
use Rattle.chi_core.specs.declared.communication.CComm.{CComm}
use Rattle.chi_core.specs.declared.expression.CExpr.{CExpr}
use Rattle.chi_core.specs.declared.statement.Branch.{Branch, out-Branch}
use Rattle.chi_core.specs.declared.statement.CAlt.{CAlt, CAlt-F, out-CAlt}
use Rattle.chi_core.specs.declared.statement.CAlt.TheVariants as alt
use Rattle.chi_core.specs.declared.statement.CStat.{CStat, CStat-F, out-CStat}
use Rattle.chi_core.specs.declared.statement.CStat.TheVariants as s
use Rattle.chi_code.specs.Sizes.{size, guard_size, comm_size, statement_size, branch_size, block_size, branches_size, fronts_size, bodies_size}
use Rattle.chi_gen_sizes.specs.declared.measured.Measured.{Measured}
use Rattle.chi_gen_sizes.specs.Measuring.{size_in, bodies_in, parts_in, others_in, sizes_in, all_bodies, has_blocks, StatMeasured, statement, PartsMeasured, no_part, choice, loop, walk, select, BlockMeasured, no_statement, one_statement, BranchMeasured, branch, BranchesMeasured, no_branch, one_branch, AltMeasured, alternative, WithinMeasured, guarded, unwinds, AltsMeasured, no_alternative, one_alternative}
use Rattle.chi_gen_sizes.proofs.MeasuredStatements.{size_if, size_while, size_for, size_select, size_branch, front_guarded, bodies_guarded, front_unwind, bodies_unwind}

-- of all of a list

stat_long : (w : Bool) (x : CStat) (m : Measured) → StatMeasured w x m → size_in m ≡ statement_size x w
stat_long _ _ _ (statement w x m h p) = h

branch_long : (w : Bool) (x : Branch) (m : Measured) → BranchMeasured w x m → size_in m ≡ branch_size x w
branch_long _ _ _ (branch w x m h p) = h

pub block_total : (w : Bool) (xs : List CStat) (ms : List Measured) → BlockMeasured w xs ms → sizes_in ms ≡ block_size xs w
block_total _ _ _ (no_statement w) = refl
block_total _ _ _ (one_statement w x xs m ms h k) = omega (arith, stat_long w x m h, block_total w xs ms k)

pub branches_total : (w : Bool) (xs : List Branch) (ms : List Measured) → BranchesMeasured w xs ms → sizes_in ms ≡ branches_size xs w
branches_total _ _ _ (no_branch w) = refl
branches_total _ _ _ (one_branch w x xs m ms h k) = omega (arith, branch_long w x m h, branches_total w xs ms k)

pub fronts_total : (w : Bool) (xs : List CAlt) (ms : List Measured) → AltsMeasured w xs ms → sizes_in ms ≡ fronts_size xs w
fronts_total _ _ _ (no_alternative w) = refl
fronts_total _ _ _ (one_alternative _ _ xs _ ms (alternative w x m h l p) k) = omega (arith, h, fronts_total w xs ms k)

pub bodies_total : (w : Bool) (xs : List CAlt) (ms : List Measured) → AltsMeasured w xs ms → all_bodies ms ≡ bodies_size xs w
bodies_total _ _ _ (no_alternative w) = refl
bodies_total _ _ _ (one_alternative _ _ xs _ ms (alternative w x m h l p) k) = omega (arith, l, bodies_total w xs ms k)

-- each of a list

some_is : {A : Type 0} (x y : A) → Some x ≡ Some y → x ≡ y
some_is x y h = cc

pub block_long : (w : Bool) (xs : List CStat) (ms : List Measured) → BlockMeasured w xs ms → length xs ≡ length ms
block_long _ _ _ (no_statement w) = refl
block_long _ _ _ (one_statement w x xs m ms h k) = omega (arith, block_long w xs ms k)

pub branches_long : (w : Bool) (xs : List Branch) (ms : List Measured) → BranchesMeasured w xs ms → length xs ≡ length ms
branches_long _ _ _ (no_branch w) = refl
branches_long _ _ _ (one_branch w x xs m ms h k) = omega (arith, branches_long w xs ms k)

pub alternatives_long : (w : Bool) (xs : List CAlt) (ms : List Measured) → AltsMeasured w xs ms → length xs ≡ length ms
alternatives_long _ _ _ (no_alternative w) = refl
alternatives_long _ _ _ (one_alternative w x xs m ms h k) = omega (arith, alternatives_long w xs ms k)

each_statement : (w : Bool) (xs : List CStat) (ms : List Measured) → BlockMeasured w xs ms → (k : ℕ) (x : CStat) (m : Measured) → slice_get xs k ≡ Some x → slice_get ms k ≡ Some m → StatMeasured w x m
each_statement _ _ _ (no_statement w) k x m is at = absurd (cc)
each_statement _ _ _ (one_statement w y xs n ms h r) zero x m is at = subst (StatMeasured w x) (some_is n m at) (subst (λ x. StatMeasured w x n) (some_is y x is) h)
each_statement _ _ _ (one_statement w y xs n ms h r) (suc k) x m is at = each_statement w xs ms r k x m is at

each_branch : (w : Bool) (xs : List Branch) (ms : List Measured) → BranchesMeasured w xs ms → (k : ℕ) (x : Branch) (m : Measured) → slice_get xs k ≡ Some x → slice_get ms k ≡ Some m → BranchMeasured w x m
each_branch _ _ _ (no_branch w) k x m is at = absurd (cc)
each_branch _ _ _ (one_branch w y xs n ms h r) zero x m is at = subst (BranchMeasured w x) (some_is n m at) (subst (λ x. BranchMeasured w x n) (some_is y x is) h)
each_branch _ _ _ (one_branch w y xs n ms h r) (suc k) x m is at = each_branch w xs ms r k x m is at

each_alternative : (w : Bool) (xs : List CAlt) (ms : List Measured) → AltsMeasured w xs ms → (k : ℕ) (x : CAlt) (m : Measured) → slice_get xs k ≡ Some x → slice_get ms k ≡ Some m → AltMeasured w x m
each_alternative _ _ _ (no_alternative w) k x m is at = absurd (cc)
each_alternative _ _ _ (one_alternative w y xs n ms h r) zero x m is at = subst (AltMeasured w x) (some_is n m at) (subst (λ x. AltMeasured w x n) (some_is y x is) h)
each_alternative _ _ _ (one_alternative w y xs n ms h r) (suc k) x m is at = each_alternative w xs ms r k x m is at

here : {A : Type 0} (xs : List A) (k : ℕ) (x : A) → k < length xs → x ≡ get_or xs k x → slice_get xs k ≡ Some x
here xs k x l is = slice_get-get_or xs k x l ∙ ap Some (sym is)

pub at_statement : (w : Bool) (xs : List CStat) (ms : List Measured) (k : ℕ) (x : CStat) (m : Measured) → BlockMeasured w xs ms → k < length xs → x ≡ get_or xs k x → m ≡ get_or ms k m → StatMeasured w x m
at_statement w xs ms k x m h l is at = each_statement w xs ms h k x m (here xs k x l is) (here ms k m (omega (arith, l, block_long w xs ms h)) at)

pub at_branch : (w : Bool) (xs : List Branch) (ms : List Measured) (k : ℕ) (x : Branch) (m : Measured) → BranchesMeasured w xs ms → k < length xs → x ≡ get_or xs k x → m ≡ get_or ms k m → BranchMeasured w x m
at_branch w xs ms k x m h l is at = each_branch w xs ms h k x m (here xs k x l is) (here ms k m (omega (arith, l, branches_long w xs ms h)) at)

pub at_alternative : (w : Bool) (xs : List CAlt) (ms : List Measured) (k : ℕ) (x : CAlt) (m : Measured) → AltsMeasured w xs ms → k < length xs → x ≡ get_or xs k x → m ≡ get_or ms k m → AltMeasured w x m
at_alternative w xs ms k x m h l is at = each_alternative w xs ms h k x m (here xs k x l is) (here ms k m (omega (arith, l, alternatives_long w xs ms h)) at)

-- one more

block_snoc : (w : Bool) (xs : List CStat) (ms : List Measured) (x : CStat) (m : Measured) → BlockMeasured w xs ms → StatMeasured w x m → BlockMeasured w (xs ++ x ∷ []) (ms ++ m ∷ [])
block_snoc _ _ _ x m (no_statement w) k = one_statement w x [] m [] k (no_statement w)
block_snoc _ _ _ x m (one_statement w y xs n ms h r) k = one_statement w y (xs ++ x ∷ []) n (ms ++ m ∷ []) h (block_snoc w xs ms x m r k)

branches_snoc : (w : Bool) (xs : List Branch) (ms : List Measured) (x : Branch) (m : Measured) → BranchesMeasured w xs ms → BranchMeasured w x m → BranchesMeasured w (xs ++ x ∷ []) (ms ++ m ∷ [])
branches_snoc _ _ _ x m (no_branch w) k = one_branch w x [] m [] k (no_branch w)
branches_snoc _ _ _ x m (one_branch w y xs n ms h r) k = one_branch w y (xs ++ x ∷ []) n (ms ++ m ∷ []) h (branches_snoc w xs ms x m r k)

alternatives_snoc : (w : Bool) (xs : List CAlt) (ms : List Measured) (x : CAlt) (m : Measured) → AltsMeasured w xs ms → AltMeasured w x m → AltsMeasured w (xs ++ x ∷ []) (ms ++ m ∷ [])
alternatives_snoc _ _ _ x m (no_alternative w) k = one_alternative w x [] m [] k (no_alternative w)
alternatives_snoc _ _ _ x m (one_alternative w y xs n ms h r) k = one_alternative w y (xs ++ x ∷ []) n (ms ++ m ∷ []) h (alternatives_snoc w xs ms x m r k)

more : {A : Type 0} (all : List A) (k : ℕ) (x : A) → k < length all → x ≡ get_or all k x → take k all ++ x ∷ [] ≡ take (k + 1) all
more all k x h is = sym (take_more all k x h ∙ ap (λ y. take k all ++ y ∷ []) (sym is))

pub next_statement : (w : Bool) (all : List CStat) (ms ns : List Measured) (k : ℕ) (x : CStat) (m : Measured) → k < length all → x ≡ get_or all k x → BlockMeasured w (take k all) ms → StatMeasured w x m → ns ≡ ms ++ m ∷ []
    → BlockMeasured w (take (k + 1) all) ns
next_statement w all ms ns k x m l is h g e = subst (BlockMeasured w (take (k + 1) all)) (sym e) (subst (λ xs. BlockMeasured w xs (ms ++ m ∷ [])) (more all k x l is) (block_snoc w (take k all) ms x m h g))

pub next_branch : (w : Bool) (all : List Branch) (ms ns : List Measured) (k : ℕ) (x : Branch) (m : Measured) → k < length all → x ≡ get_or all k x → BranchesMeasured w (take k all) ms → BranchMeasured w x m → ns ≡ ms ++ m ∷ []
    → BranchesMeasured w (take (k + 1) all) ns
next_branch w all ms ns k x m l is h g e = subst (BranchesMeasured w (take (k + 1) all)) (sym e) (subst (λ xs. BranchesMeasured w xs (ms ++ m ∷ [])) (more all k x l is) (branches_snoc w (take k all) ms x m h g))

pub next_alternative : (w : Bool) (all : List CAlt) (ms ns : List Measured) (k : ℕ) (x : CAlt) (m : Measured) → k < length all → x ≡ get_or all k x → AltsMeasured w (take k all) ms → AltMeasured w x m → ns ≡ ms ++ m ∷ []
    → AltsMeasured w (take (k + 1) all) ns
next_alternative w all ms ns k x m l is h g e = subst (AltsMeasured w (take (k + 1) all)) (sym e) (subst (λ xs. AltsMeasured w xs (ms ++ m ∷ [])) (more all k x l is) (alternatives_snoc w (take k all) ms x m h g))

-- each kind of statement

module _ (w : Bool) (x : CStat) (m : Measured) where
  pub whole_measured : (o : CStat-F CAlt CStat Branch) (n : ℕ) → out-CStat x ≡ o → has_blocks o ≡ false → size_in m ≡ n → n ≡ statement_size x w → StatMeasured w x m
  whole_measured o n l p h k = statement w x m (h ∙ k) (no_part w (out-CStat x) m (ap has_blocks l ∙ p))

  pub if_measured : (line : ℕ) (bs : List Branch) (otherwise : List CStat) (ms ns : List Measured) → x ≡ s.If line bs otherwise → BranchesMeasured w bs ms → BlockMeasured w otherwise ns
      → size_in m ≡ sizes_in ms + 1 + sizes_in ns → parts_in m ≡ ms → others_in m ≡ ns → StatMeasured w x m
  if_measured line bs otherwise ms ns is hb ho h p o = statement w x m (omega (arith, h, size_if x w line bs otherwise is, branches_total w bs ms hb, block_total w otherwise ns ho))
      (subst (λ l. PartsMeasured w l m) (sym (ap out-CStat is ∙ s.outs-If line bs otherwise)) (choice w line bs otherwise m (subst (BranchesMeasured w bs) (sym p) hb) (subst (BlockMeasured w otherwise) (sym o) ho)))

  pub while_measured : (line : ℕ) (v : CExpr) (block : List CStat) (ms : List Measured) (n : ℕ) → x ≡ s.While line v block → BlockMeasured false block ms → n ≡ size v + 3 → size_in m ≡ n + sizes_in ms → parts_in m ≡ ms
      → StatMeasured w x m
  while_measured line v block ms n is hb e h p = statement w x m (omega (arith, h, e, size_while x w line v block is, block_total false block ms hb))
      (subst (λ l. PartsMeasured w l m) (sym (ap out-CStat is ∙ s.outs-While line v block)) (loop w line v block m (subst (BlockMeasured false block) (sym p) hb)))

  pub for_measured : (line : ℕ) (names : List ℕ) (v : CExpr) (block : List CStat) (ms : List Measured) (n : ℕ) → x ≡ s.For line names v block → BlockMeasured true block ms → n ≡ size v + 5 → size_in m ≡ n + sizes_in ms → parts_in m ≡ ms
      → StatMeasured w x m
  for_measured line names v block ms n is hb e h p = statement w x m (omega (arith, h, e, size_for x w line names v block is, block_total true block ms hb))
      (subst (λ l. PartsMeasured w l m) (sym (ap out-CStat is ∙ s.outs-For line names v block)) (walk w line names v block m (subst (BlockMeasured true block) (sym p) hb)))

  pub select_measured : (line : ℕ) (xs : List CAlt) (ms : List Measured) → x ≡ s.Select line xs → AltsMeasured w xs ms → size_in m ≡ sizes_in ms + 2 + all_bodies ms → parts_in m ≡ ms → StatMeasured w x m
  select_measured line xs ms is ha h p = statement w x m (omega (arith, h, size_select x w line xs is, fronts_total w xs ms ha, bodies_total w xs ms ha))
      (subst (λ l. PartsMeasured w l m) (sym (ap out-CStat is ∙ s.outs-Select line xs)) (select w line xs m (subst (AltsMeasured w xs) (sym p) ha)))

pub branch_measured : (w : Bool) (x : Branch) (m : Measured) (block : List CStat) (ms : List Measured) (n : ℕ) → block ≡ (out-Branch x).block → BlockMeasured w block ms → n ≡ size (out-Branch x).test + 2 → size_in m ≡ n + sizes_in ms
    → parts_in m ≡ ms → BranchMeasured w x m
branch_measured w x m block ms n same hb e h p =
    let hb2 : BlockMeasured w (out-Branch x).block ms = subst (λ xs. BlockMeasured w xs ms) same hb in
    branch w x m (omega (arith, h, e, size_branch x w, block_total w (out-Branch x).block ms hb2)) (subst (BlockMeasured w (out-Branch x).block) (sym p) hb2)

module _ (w : Bool) (x : CAlt) (m : Measured) where
  pub guarded_measured : (guard : Option CExpr) (communication : CComm) (body : List CStat) (ms : List Measured) (n : ℕ) → x ≡ alt.Guarded guard communication body → BlockMeasured w body ms → n ≡ guard_size guard + comm_size communication
      → size_in m ≡ n → bodies_in m ≡ sizes_in ms + 1 → parts_in m ≡ ms → AltMeasured w x m
  guarded_measured guard communication body ms n is hb e h l p =
      alternative w x m (h ∙ e ∙ sym (front_guarded x w guard communication body is)) (omega (arith, l, block_total w body ms hb, bodies_guarded x w guard communication body is))
      (subst (λ l. WithinMeasured w l m) (sym (ap out-CAlt is ∙ alt.outs-Guarded guard communication body)) (guarded w guard communication body m (subst (BlockMeasured w body) (sym p) hb)))

  pub unwind_measured : (names : List ℕ) (v : CExpr) (xs : List CAlt) (ms : List Measured) (n : ℕ) → x ≡ alt.Unwind names v xs → AltsMeasured w xs ms → n ≡ size v + 3 → size_in m ≡ n + sizes_in ms → bodies_in m ≡ all_bodies ms
      → parts_in m ≡ ms → AltMeasured w x m
  unwind_measured names v xs ms n is ha e h l p =
      alternative w x m (omega (arith, h, e, fronts_total w xs ms ha, front_unwind x w names v xs is)) (l ∙ bodies_total w xs ms ha ∙ sym (bodies_unwind x w names v xs is))
      (subst (λ l. WithinMeasured w l m) (sym (ap out-CAlt is ∙ alt.outs-Unwind names v xs)) (unwinds w names v xs m (subst (AltsMeasured w xs) (sym p) ha)))

-- and back: the parts of what was measured

module _ (w : Bool) (x : CStat) (m : Measured) (h : StatMeasured w x m) where
  layer : (x : CStat) (m : Measured) → StatMeasured w x m → (o : CStat-F CAlt CStat Branch) → out-CStat x ≡ o → PartsMeasured w o m
  layer _ _ (statement _ x m h p) o e = subst (λ o. PartsMeasured w o m) e p

  choice_parts : (line : ℕ) (bs : List Branch) (otherwise : List CStat) → PartsMeasured w (CStat-F.If line bs otherwise) m → BranchesMeasured w bs (parts_in m) × BlockMeasured w otherwise (others_in m)
  choice_parts line bs otherwise (no_part _ _ _ e) = absurd (false≢true (sym e))
  choice_parts _ _ _ (choice _ line bs otherwise _ hb ho) = (hb, ho)

  loop_parts : (line : ℕ) (v : CExpr) (block : List CStat) → PartsMeasured w (CStat-F.While line v block) m → BlockMeasured false block (parts_in m)
  loop_parts line v block (no_part _ _ _ e) = absurd (false≢true (sym e))
  loop_parts _ _ _ (loop _ line v block _ hb) = hb

  walk_parts : (line : ℕ) (names : List ℕ) (v : CExpr) (block : List CStat) → PartsMeasured w (CStat-F.For line names v block) m → BlockMeasured true block (parts_in m)
  walk_parts line names v block (no_part _ _ _ e) = absurd (false≢true (sym e))
  walk_parts _ _ _ _ (walk _ line names v block _ hb) = hb

  select_parts : (line : ℕ) (xs : List CAlt) → PartsMeasured w (CStat-F.Select line xs) m → AltsMeasured w xs (parts_in m)
  select_parts line xs (no_part _ _ _ e) = absurd (false≢true (sym e))
  select_parts _ _ (select _ line xs _ ha) = ha

  pub tests_of : (line : ℕ) (bs : List Branch) (otherwise : List CStat) → x ≡ s.If line bs otherwise → BranchesMeasured w bs (parts_in m)
  tests_of line bs otherwise is = (choice_parts line bs otherwise (layer x m h _ (ap out-CStat is ∙ s.outs-If line bs otherwise))).0

  pub otherwise_of : (line : ℕ) (bs : List Branch) (otherwise : List CStat) → x ≡ s.If line bs otherwise → BlockMeasured w otherwise (others_in m)
  otherwise_of line bs otherwise is = (choice_parts line bs otherwise (layer x m h _ (ap out-CStat is ∙ s.outs-If line bs otherwise))).1

  pub while_of : (line : ℕ) (v : CExpr) (block : List CStat) → x ≡ s.While line v block → BlockMeasured false block (parts_in m)
  while_of line v block is = loop_parts line v block (layer x m h _ (ap out-CStat is ∙ s.outs-While line v block))

  pub for_of : (line : ℕ) (names : List ℕ) (v : CExpr) (block : List CStat) → x ≡ s.For line names v block → BlockMeasured true block (parts_in m)
  for_of line names v block is = walk_parts line names v block (layer x m h _ (ap out-CStat is ∙ s.outs-For line names v block))

  pub select_of : (line : ℕ) (xs : List CAlt) → x ≡ s.Select line xs → AltsMeasured w xs (parts_in m)
  select_of line xs is = select_parts line xs (layer x m h _ (ap out-CStat is ∙ s.outs-Select line xs))

pub branch_of : (w : Bool) (x : Branch) (m : Measured) → BranchMeasured w x m → BlockMeasured w (out-Branch x).block (parts_in m)
branch_of _ _ _ (branch w x m h p) = p

module _ (w : Bool) (m : Measured) where
  within : (x : CAlt) (o : CAlt-F CAlt CStat Branch) → AltMeasured w x m → out-CAlt x ≡ o → WithinMeasured w o m
  within _ o (alternative _ x _ h l p) e = subst (λ o. WithinMeasured w o m) e p

  guarded_block : (guard : Option CExpr) (communication : CComm) (body : List CStat) → WithinMeasured w (CAlt-F.Guarded guard communication body) m → BlockMeasured w body (parts_in m)
  guarded_block _ _ _ (guarded _ guard communication body _ hb) = hb

  unwind_alternatives : (names : List ℕ) (v : CExpr) (xs : List CAlt) → WithinMeasured w (CAlt-F.Unwind names v xs) m → AltsMeasured w xs (parts_in m)
  unwind_alternatives _ _ _ (unwinds _ names v xs _ ha) = ha

  pub front_size_of : (x : CAlt) (guard : Option CExpr) (communication : CComm) (body : List CStat) → AltMeasured w x m → x ≡ alt.Guarded guard communication body → size_in m ≡ guard_size guard + comm_size communication
  front_size_of _ guard communication body (alternative _ x _ h l p) is = h ∙ front_guarded x w guard communication body is

  pub body_size_of : (x : CAlt) (guard : Option CExpr) (communication : CComm) (body : List CStat) → AltMeasured w x m → x ≡ alt.Guarded guard communication body → bodies_in m ≡ block_size body w + 1
  body_size_of _ guard communication body (alternative _ x _ h l p) is = l ∙ bodies_guarded x w guard communication body is

  pub body_of : (x : CAlt) (guard : Option CExpr) (communication : CComm) (body : List CStat) → AltMeasured w x m → x ≡ alt.Guarded guard communication body → BlockMeasured w body (parts_in m)
  body_of x guard communication body h is = guarded_block guard communication body (within x _ h (ap out-CAlt is ∙ alt.outs-Guarded guard communication body))

  pub unwind_of : (x : CAlt) (names : List ℕ) (v : CExpr) (xs : List CAlt) → AltMeasured w x m → x ≡ alt.Unwind names v xs → AltsMeasured w xs (parts_in m)
  unwind_of x names v xs h is = unwind_alternatives names v xs (within x _ h (ap out-CAlt is ∙ alt.outs-Unwind names v xs))
