-- What is left at a place of a sound body is sound.
use Rattle.std.proofs.Common.{◌≡◌, ℕ, zero, suc, Bool, true, Option, Some, List, [], ◌∷◌, ◌++◌, refl, sym, subst}
use Rattle.std.specs.Prelude.{slice_get}
use Rattle.chi_core.specs.declared.communication.CComm.{CComm}
use Rattle.chi_core.specs.declared.expression.CExpr.{CExpr}
use Rattle.chi_core.specs.declared.statement.Branch.{Branch, out-Branch}
use Rattle.chi_core.specs.declared.statement.CAlt.{CAlt, CAlt-F, out-CAlt}
use Rattle.chi_core.specs.declared.statement.CStat.{CStat, CStat-F, out-CStat}
use Rattle.chi_core.specs.Scopes.{Scope, Home}
use Rattle.chi_core.specs.SetSlots.{StatLayer, Known, also, also_all, sets}
use Rattle.chi_core.specs.Sound.{SoundHome}
use Rattle.chi_core.specs.SoundStatements.{SoundStat, chooses, loops, walks, selects, SoundBlock, no_statement, one_statement, SoundBranches, no_branch, one_branch, SoundAlternatives, one_alternative, SoundAlternative, guarded, unwinds}
use Rattle.chi_core.specs.Standing.{Frame, is_within_loop, Among, here, later, inside, Standing, begins, next, in_branch, in_else, in_loop, at_turn, in_walk, at_walk_turn, in_body}

also_append : (slots more : List ℕ) (known : Known) → also_all (slots ++ more) known ≡ also_all more (also_all slots known)
also_append [] more known = refl
also_append (slot ∷ slots) more known = also_append slots more (also slot known)

module _ (scope : Scope) where
  first_sound : (loop : Bool) (known : Known) (x : CStat) (rest : List CStat) → SoundBlock scope loop known (x ∷ rest) → SoundStat scope loop known (out-CStat x)
  first_sound _ _ _ _ (one_statement loop known x rest h more) = h

  rest_sound : (loop : Bool) (known : Known) (x : CStat) (rest : List CStat) → SoundBlock scope loop known (x ∷ rest) → SoundBlock scope loop (sets (out-CStat x) known) rest
  rest_sound _ _ _ _ (one_statement loop known x rest h more) = more

  stands : (loop : Bool) (known : Known) (x : CStat) (rest : List CStat) (layer : StatLayer) → out-CStat x ≡ layer → SoundBlock scope loop known (x ∷ rest) → SoundStat scope loop known layer
  stands loop known x rest layer e h = subst (SoundStat scope loop known) e (first_sound loop known x rest h)

  branch_sound : (loop : Bool) (known : Known) (bs : List Branch) → SoundBranches scope loop known bs → (k : ℕ) (b : Branch) → slice_get bs k ≡ Some b
      → SoundBlock scope loop known (out-Branch b).block
  branch_sound _ _ _ (no_branch loop known) k b e = absurd (cc)
  branch_sound _ _ _ (one_branch loop known c bs h block more) zero b e = let same : c ≡ b = cc in subst (λ z. SoundBlock scope loop known (out-Branch z).block) same block
  branch_sound _ _ _ (one_branch loop known c bs h block more) (suc k) b e = branch_sound loop known bs more k b e

  guarded_block : (loop : Bool) (known : Known) (guard : Option CExpr) (communication : CComm) (body : List CStat) → SoundAlternative scope loop known (CAlt-F.Guarded guard communication body)
      → SoundBlock scope loop known body
  guarded_block _ _ _ _ _ (guarded _ _ _ _ _ g c block) = block

  unwound_alternatives : (loop : Bool) (known : Known) (slots : List ℕ) (container : CExpr) (alternatives : List CAlt) → SoundAlternative scope loop known (CAlt-F.Unwind slots container alternatives)
      → SoundAlternatives scope loop (also_all slots known) alternatives
  unwound_alternatives _ _ _ _ _ (unwinds _ _ _ _ _ over more) = more

  first_alternative : (loop : Bool) (known : Known) (a : CAlt) (more : List CAlt) → SoundAlternatives scope loop known (a ∷ more) → SoundAlternative scope loop known (out-CAlt a)
  first_alternative _ _ _ _ (one_alternative _ _ _ _ h rest) = h

  more_alternatives : (loop : Bool) (known : Known) (a : CAlt) (more : List CAlt) → SoundAlternatives scope loop known (a ∷ more) → SoundAlternatives scope loop known more
  more_alternatives _ _ _ _ (one_alternative _ _ _ _ h rest) = rest

  among_sound : (loop : Bool) (known : Known) (alternatives : List CAlt) (bound : List ℕ) (communication : CComm) (body : List CStat) → SoundAlternatives scope loop known alternatives
      → Among alternatives bound communication body → SoundBlock scope loop (also_all bound known) body
  among_sound loop known _ _ _ _ h (here a more guard communication body e) =
      guarded_block loop known guard communication body (subst (SoundAlternative scope loop known) e (first_alternative loop known a more h))
  among_sound loop known _ _ _ _ h (later a more bound communication body m) = among_sound loop known more bound communication body (more_alternatives loop known a more h) m
  among_sound loop known _ _ _ _ h (inside a more slots container alternatives bound communication body e m) =
      subst (λ z. SoundBlock scope loop z body) (sym (also_append slots bound known))
      (among_sound loop (also_all slots known) alternatives bound communication body
      (unwound_alternatives loop known slots container alternatives (subst (SoundAlternative scope loop known) e (first_alternative loop known a more h))) m)

  branches_of : (loop : Bool) (known : Known) (line : ℕ) (bs : List Branch) (otherwise : List CStat) → SoundStat scope loop known (CStat-F.If line bs otherwise)
      → SoundBranches scope loop known bs × SoundBlock scope loop known otherwise
  branches_of _ _ _ _ _ (chooses _ _ _ _ _ h g) = (h, g)

  loop_block : (loop : Bool) (known : Known) (line : ℕ) (test : CExpr) (block : List CStat) → SoundStat scope loop known (CStat-F.While line test block) → SoundBlock scope true known block
  loop_block _ _ _ _ _ (loops _ _ _ _ _ h g) = g

  walk_block : (loop : Bool) (known : Known) (line : ℕ) (slots : List ℕ) (container : CExpr) (block : List CStat) → SoundStat scope loop known (CStat-F.For line slots container block)
      → SoundBlock scope true (also_all slots known) block
  walk_block _ _ _ _ _ _ (walks _ _ _ _ _ _ over h) = h

  alternatives_of : (loop : Bool) (known : Known) (line : ℕ) (alternatives : List CAlt) → SoundStat scope loop known (CStat-F.Select line alternatives) → SoundAlternatives scope loop known alternatives
  alternatives_of _ _ _ _ (selects _ _ _ _ exit role h) = h

pub sound_at : (d : Home) → SoundHome d → (known : Known) (rest : List CStat) (frames : List Frame) → Standing d known rest frames
    → SoundBlock d.scope (is_within_loop frames) known rest
sound_at d sound _ _ _ begins = sound.body
sound_at d sound _ _ _ (next known x rest frames p) = rest_sound d.scope (is_within_loop frames) known x rest (sound_at d sound known (x ∷ rest) frames p)
sound_at d sound _ _ _ (in_branch known x rest frames line bs otherwise k b p e g) =
    branch_sound d.scope (is_within_loop frames) known bs
    (branches_of d.scope (is_within_loop frames) known line bs otherwise (stands d.scope (is_within_loop frames) known x rest (CStat-F.If line bs otherwise) e (sound_at d sound known (x ∷ rest) frames p))).0 k b g
sound_at d sound _ _ _ (in_else known x rest frames line bs otherwise p e) =
    (branches_of d.scope (is_within_loop frames) known line bs otherwise (stands d.scope (is_within_loop frames) known x rest (CStat-F.If line bs otherwise) e (sound_at d sound known (x ∷ rest) frames p))).1
sound_at d sound _ _ _ (in_loop known x rest frames line test block p e) =
    loop_block d.scope (is_within_loop frames) known line test block (stands d.scope (is_within_loop frames) known x rest (CStat-F.While line test block) e (sound_at d sound known (x ∷ rest) frames p))
sound_at d sound _ _ _ (at_turn known x rest frames line test block p e) = no_statement true known
sound_at d sound _ _ _ (in_walk known x rest frames line slots elements container block p e) =
    walk_block d.scope (is_within_loop frames) known line slots container block
    (stands d.scope (is_within_loop frames) known x rest (CStat-F.For line slots container block) e (sound_at d sound known (x ∷ rest) frames p))
sound_at d sound _ _ _ (at_walk_turn known x rest frames line slots elements container block p e) = no_statement true known
sound_at d sound _ _ _ (in_body known x rest frames line alternatives bound communication body p e m) =
    among_sound d.scope (is_within_loop frames) known alternatives bound communication body
    (alternatives_of d.scope (is_within_loop frames) known line alternatives (stands d.scope (is_within_loop frames) known x rest (CStat-F.Select line alternatives) e (sound_at d sound known (x ∷ rest) frames p))) m
