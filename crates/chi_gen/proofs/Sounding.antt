-- The parts of what is sound are sound.
use Rattle.std.proofs.Common.{◌≡◌, ℕ, zero, suc, ◌<◌, length, get_or, Bool, true, false, List, Option, Some, None, refl, sym, ap, subst, ◌∙◌}
use Rattle.std.proofs.lemmas.Bool.{false≢true}
use Rattle.std.specs.Prelude.{slice_get}
use Rattle.std.proofs.lemmas.Option.{slice_get-get_or}
use Rattle.chi_types.specs.declared.ty.Ty.{Ty}
use Rattle.chi_core.specs.declared.communication.CComm.{CComm}
use Rattle.chi_core.specs.declared.expression.CExpr.{CExpr}
use Rattle.chi_core.specs.declared.program.Core.{Core}
use Rattle.chi_core.specs.declared.statement.Branch.{Branch, out-Branch}
use Rattle.chi_core.specs.declared.statement.CAlt.{CAlt, CAlt-F, out-CAlt}
use Rattle.chi_core.specs.declared.statement.CAlt.TheVariants as alternative
use Rattle.chi_core.specs.declared.statement.CStat.{CStat, CStat-F, out-CStat}
use Rattle.chi_core.specs.declared.statement.CStat.TheVariants as s
use Rattle.chi_core.specs.Kinds.{kinds_of, Every}
use Rattle.chi_core.specs.Scopes.{Scope, function_home, process_home}
use Rattle.chi_core.specs.SetSlots.{Known, also_all, sets, params_known}
use Rattle.chi_core.specs.Sound.{Sound}
use Rattle.chi_core.specs.SoundParts.{SoundComm}
use Rattle.chi_core.specs.SoundStatements as t
use Rattle.chi_core.specs.SoundStatements.{SoundStat, SoundBlock, SoundBranches, SoundAlternatives, SoundAlternative}
use Rattle.chi_gen_parts.specs.Soundness.{SoundCommAt}
use Rattle.chi_code.specs.declared.code.Around.{Around}
use Rattle.chi_gen.specs.Soundness.{in_loop, SoundAt, SoundBranchAt, SoundAlternativeAt, SoundBody}

some_is : {A : Type 0} (x y : A) → Some x ≡ Some y → x ≡ y
some_is x y h = cc

-- elements of sound lists

module _ (slots : List Ty) (scope : Scope) (kinds : scope.slots ≡ kinds_of slots) where
  pub each_of_block : (loop : Bool) (known : Known) (xs : List CStat) → SoundBlock scope loop known xs → (k : ℕ) (x : CStat) → slice_get xs k ≡ Some x → SoundAt slots loop x
  each_of_block _ _ _ (t.no_statement loop known) k x is = absurd (cc)
  each_of_block _ _ _ (t.one_statement loop known y ys g r) zero x is = subst (SoundAt slots loop) (some_is y x is) (record { scope = scope; known = known; kinds = kinds; sound = g })
  each_of_block _ _ _ (t.one_statement loop known y ys g r) (suc k) x is = each_of_block loop (sets (out-CStat y) known) ys r k x is

  each_of_branches : (loop : Bool) (known : Known) (xs : List Branch) → SoundBranches scope loop known xs → (k : ℕ) (x : Branch) → slice_get xs k ≡ Some x → SoundBranchAt slots loop x
  each_of_branches _ _ _ (t.no_branch loop known) k x is = absurd (cc)
  each_of_branches _ _ _ (t.one_branch loop known y ys g b r) zero x is = subst (SoundBranchAt slots loop) (some_is y x is) (each_of_block loop known (out-Branch y).block b)
  each_of_branches _ _ _ (t.one_branch loop known y ys g b r) (suc k) x is = each_of_branches loop known ys r k x is

  each_of_alternatives : (loop : Bool) (known : Known) (xs : List CAlt) → SoundAlternatives scope loop known xs → (k : ℕ) (x : CAlt) → slice_get xs k ≡ Some x → SoundAlternativeAt slots loop x
  each_of_alternatives _ _ _ (t.no_alternative loop known) k x is = absurd (cc)
  each_of_alternatives _ _ _ (t.one_alternative loop known y ys g r) zero x is = subst (SoundAlternativeAt slots loop) (some_is y x is) (record { scope = scope; known = known; kinds = kinds; sound = g })
  each_of_alternatives _ _ _ (t.one_alternative loop known y ys g r) (suc k) x is = each_of_alternatives loop known ys r k x is

-- parts of statements

module _ (scope : Scope) where
  if_parts : (loop : Bool) (known : Known) (line : ℕ) (bs : List Branch) (otherwise : List CStat) → SoundStat scope loop known (CStat-F.If line bs otherwise) → SoundBranches scope loop known bs × SoundBlock scope loop known otherwise
  if_parts _ _ _ _ _ (t.chooses _ _ line bs otherwise g r) = (g, r)

  while_part : (loop : Bool) (known : Known) (line : ℕ) (e : CExpr) (block : List CStat) → SoundStat scope loop known (CStat-F.While line e block) → SoundBlock scope true known block
  while_part _ _ _ _ _ (t.loops _ _ line e block g r) = r

  for_part : (loop : Bool) (known : Known) (line : ℕ) (names : List ℕ) (e : CExpr) (block : List CStat) → SoundStat scope loop known (CStat-F.For line names e block) → SoundBlock scope true (also_all names known) block
  for_part _ _ _ _ _ _ (t.walks _ _ line names e block g r) = r

  select_part : (loop : Bool) (known : Known) (line : ℕ) (xs : List CAlt) → SoundStat scope loop known (CStat-F.Select line xs) → SoundAlternatives scope loop known xs
  select_part _ _ _ _ (t.selects _ _ line xs exit role g) = g

break_in_loop : (scope : Scope) (loop : Bool) (known : Known) (line : ℕ) → SoundStat scope loop known (CStat-F.Break line) → loop ≡ true
break_in_loop scope _ _ _ (t.breaks known line) = refl

continue_in_loop : (scope : Scope) (loop : Bool) (known : Known) (line : ℕ) → SoundStat scope loop known (CStat-F.Continue line) → loop ≡ true
continue_in_loop scope _ _ _ (t.continues known line) = refl

module _ (slots : List Ty) (loop : Bool) (x : CStat) (h : SoundAt slots loop x) where
  at_layer : (y : CStat) (o : CStat-F CAlt CStat Branch) → x ≡ y → out-CStat y ≡ o → SoundStat h.scope loop h.known o
  at_layer y o e l = subst (SoundStat h.scope loop h.known) (ap out-CStat e ∙ l) h.sound

  pub sound_branches : (line : ℕ) (bs : List Branch) (otherwise : List CStat) → x ≡ s.If line bs otherwise → Every (SoundBranchAt slots loop) bs
  sound_branches line bs otherwise e = each_of_branches slots h.scope h.kinds loop h.known bs (if_parts h.scope loop h.known line bs otherwise (at_layer _ _ e (s.outs-If line bs otherwise))).0

  pub sound_otherwise : (line : ℕ) (bs : List Branch) (otherwise : List CStat) → x ≡ s.If line bs otherwise → Every (SoundAt slots loop) otherwise
  sound_otherwise line bs otherwise e = each_of_block slots h.scope h.kinds loop h.known otherwise (if_parts h.scope loop h.known line bs otherwise (at_layer _ _ e (s.outs-If line bs otherwise))).1

  pub sound_while : (line : ℕ) (v : CExpr) (block : List CStat) → x ≡ s.While line v block → Every (SoundAt slots true) block
  sound_while line v block e = each_of_block slots h.scope h.kinds true h.known block (while_part h.scope loop h.known line v block (at_layer _ _ e (s.outs-While line v block)))

  pub sound_for : (line : ℕ) (names : List ℕ) (v : CExpr) (block : List CStat) → x ≡ s.For line names v block → Every (SoundAt slots true) block
  sound_for line names v block e = each_of_block slots h.scope h.kinds true (also_all names h.known) block (for_part h.scope loop h.known line names v block (at_layer _ _ e (s.outs-For line names v block)))

  pub sound_select : (line : ℕ) (xs : List CAlt) → x ≡ s.Select line xs → Every (SoundAlternativeAt slots loop) xs
  sound_select line xs e = each_of_alternatives slots h.scope h.kinds loop h.known xs (select_part h.scope loop h.known line xs (at_layer _ _ e (s.outs-Select line xs)))

  pub sound_break : (line : ℕ) → x ≡ s.Break line → loop ≡ true
  sound_break line e = break_in_loop h.scope loop h.known line (at_layer _ _ e (s.outs-Break line))

  pub sound_continue : (line : ℕ) → x ≡ s.Continue line → loop ≡ true
  sound_continue line e = continue_in_loop h.scope loop h.known line (at_layer _ _ e (s.outs-Continue line))

-- parts of alternatives

module _ (scope : Scope) (loop : Bool) (known : Known) where
  guarded_parts : (guard : Option CExpr) (c : CComm) (block : List CStat) → SoundAlternative scope loop known (CAlt-F.Guarded guard c block) → SoundComm scope known c × SoundBlock scope loop known block
  guarded_parts _ _ _ (t.guarded _ _ guard c block g gc gb) = (gc, gb)

  unwind_part : (names : List ℕ) (e : CExpr) (xs : List CAlt) → SoundAlternative scope loop known (CAlt-F.Unwind names e xs) → SoundAlternatives scope loop (also_all names known) xs
  unwind_part _ _ _ (t.unwinds _ _ names e xs w g) = g

module _ (slots : List Ty) (loop : Bool) (x : CAlt) (h : SoundAlternativeAt slots loop x) where
  at_alternative : (y : CAlt) (o : CAlt-F CAlt CStat Branch) → x ≡ y → out-CAlt y ≡ o → SoundAlternative h.scope loop h.known o
  at_alternative y o e l = subst (SoundAlternative h.scope loop h.known) (ap out-CAlt e ∙ l) h.sound

  pub sound_comm : (guard : Option CExpr) (c : CComm) (block : List CStat) → x ≡ alternative.Guarded guard c block → SoundCommAt slots c
  sound_comm guard c block e =
      record { scope = h.scope; known = h.known; kinds = h.kinds; sound = (guarded_parts h.scope loop h.known guard c block (at_alternative _ _ e (alternative.outs-Guarded guard c block))).0 }

  pub sound_body : (guard : Option CExpr) (c : CComm) (block : List CStat) → x ≡ alternative.Guarded guard c block → Every (SoundAt slots loop) block
  sound_body guard c block e = each_of_block slots h.scope h.kinds loop h.known block (guarded_parts h.scope loop h.known guard c block (at_alternative _ _ e (alternative.outs-Guarded guard c block))).1

  pub sound_unwind : (names : List ℕ) (v : CExpr) (xs : List CAlt) → x ≡ alternative.Unwind names v xs → Every (SoundAlternativeAt slots loop) xs
  sound_unwind names v xs e = each_of_alternatives slots h.scope h.kinds loop (also_all names h.known) xs (unwind_part h.scope loop h.known names v xs (at_alternative _ _ e (alternative.outs-Unwind names v xs)))

-- an element of a list of which each is sound

pub item : {A : Type 0} (P : A → Type 0) (xs : List A) (k : ℕ) (x : A) → Every P xs → k < length xs → x ≡ get_or xs k x → P x
item P xs k x h l is = h k x (slice_get-get_or xs k x l ∙ ap Some (sym is))

-- and of a part of such a list, which is what a call takes
pub all_same : {A : Type 0} (P : A → Type 0) (xs ys : List A) → xs ≡ ys → Every P xs → Every P ys
all_same P xs ys is h = subst (Every P) is h

pub both_same : {A B : Type 0} (P : A → B → Type 0) (x x' : A) (y y' : B) → x ≡ x' → y ≡ y' → P x y → P x' y'
both_same P x x' y y' e f h = subst (P x') f (subst (λ x. P x y) e h)

pub none_inside : (near : Option Around) → in_loop near ≡ true → near ≡ None → ⊥
none_inside near h is = let k : false ≡ true = ap in_loop (sym is) ∙ h in absurd (false≢true k)

-- the bodies of a sound program

pub sound_functions : (core : Core) → Sound core → Every (λ f. SoundBody f.slots f.body) core.funcs
sound_functions core h = λ k f is. let sf = h.functions k f is in each_of_block f.slots (function_home core f).scope refl false (params_known (function_home core f)) f.body sf.home.body

pub sound_processes : (core : Core) → Sound core → Every (λ d. SoundBody d.slots d.body) core.procs
sound_processes core h = λ k d is. let sd = h.processes k d is in each_of_block d.slots (process_home core d).scope refl false (params_known (process_home core d)) d.body sd.home.body
