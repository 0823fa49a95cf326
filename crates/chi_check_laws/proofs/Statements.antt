-- A statement is sound by its parts: a rule for each form.
use Rattle.std.proofs.Common.{◌≡◌, ℕ, Bool, true, List, [], ◌∷◌, map, Some, None, refl, sym, ap, subst}
use Rattle.std.proofs.lemmas.Bool.{and_parts}
use Rattle.std.specs.List.{list_all}
use Rattle.std.specs.Prelude.{Option, slice_get}
use Rattle.chi_types.specs.declared.ty.Ty.{Ty, Ty-F}
use Rattle.chi_value.specs.declared.format.Piece.{Piece}
use Rattle.chi_core.specs.declared.element.CElem.{CElem}
use Rattle.chi_core.specs.declared.expression.CExpr.{CExpr}
use Rattle.chi_core.specs.declared.statement.Branch.{Branch}
use Rattle.chi_core.specs.declared.statement.CAlt.{CAlt}
use Rattle.chi_core.specs.declared.statement.CStat.{CStat}
use Rattle.chi_core.specs.declared.statement.CStat.TheVariants as statement
use Rattle.chi_core.specs.declared.target.CTarget.{CTarget}
use Rattle.chi_core.specs.Kinds.{Kind, is_plain_kind, part_kinds}
use Rattle.chi_core.specs.Scopes.{Scope, function, process, may_declare}
use Rattle.chi_core.specs.SetSlots.{Known as Set, also_all}
use Rattle.chi_core.specs.SoundExpressions.{HaveKinds}
use Rattle.chi_core.specs.SoundParts as part
use Rattle.chi_core.specs.SoundParts.{TargetsTake, Walks, Shows}
use Rattle.chi_core.specs.SoundStatements as sound
use Rattle.chi_check.specs.Below.chi_check_streams.specs.Streams.{each, of_expression, of_expressions, of_target}
use Rattle.chi_check_expr.proofs.Kept.{Each}
use Rattle.chi_check_laws.specs.TypedTexts.{texts_are_short}
use Rattle.chi_check_laws.specs.KnownNames.{Has}
use Rattle.chi_check_laws.proofs.Has.{Have}
use Rattle.chi_check_laws.specs.Parts.{target_texts}
use Rattle.chi_check_laws.proofs.Bodies.{SoundOne, SoundBranch, SoundOffer, SoundMake, AllSound, one_at, at, body_sound, branches_sound, offers_sound, makes_sound}

module _ (scope : Scope) where
  -- targets with their streams
  abbrev pub Take : Set → List CTarget → List Kind → Type 0
  Take set targets Ts = list_all target_texts targets ≡ true → (count : ℕ) → TargetsTake scope set (each (map of_target targets) count).part Ts

  -- the container and the slots of a walk, with streams
  abbrev pub SoundWalk : Set → List ℕ → CExpr → Type 0
  SoundWalk set slots container = texts_are_short container ≡ true → (count : ℕ) → Walks scope set slots (of_expression container count).part

  module _ (loop : Bool) (set : Set) where
    pub one_declare : (line slot : ℕ) (e : CExpr) (T : Kind) → slice_get scope.slots slot ≡ Some T → may_declare scope.role T ≡ true → Has scope set e T → SoundOne scope loop set (statement.Declare line slot e)
    one_declare line slot e T is may h = one_at scope loop set _ _ (statement.outs-Declare line slot e) (λ short count.
        at scope loop set _ _ (statement.outs-Declare line slot _) (sound.declares loop set line slot _ T is may (h short count)))

    pub one_assign : (line : ℕ) (targets : List CTarget) (es : List CExpr) (Ts : List Kind) → Have scope set es Ts → Take set targets Ts → SoundOne scope loop set (statement.Assign line targets es)
    one_assign line targets es Ts h take = one_at scope loop set _ _ (statement.outs-Assign line targets es) (λ short count.
        let both = and_parts _ _ short in
        at scope loop set _ _ (statement.outs-Assign line _ _) (sound.assigns loop set line _ _ Ts (h both.1 (each (map of_target targets) count).next) (take both.0 count)))

    pub one_spread : (line : ℕ) (t u : CTarget) (more : List CTarget) (e : CExpr) (parts : List (List ℕ × Ty)) → Has scope set e (Ty-F.TupleOf parts) → Take set (t ∷ u ∷ more) (part_kinds parts)
        → SoundOne scope loop set (statement.Assign line (t ∷ u ∷ more) (e ∷ []))
    one_spread line t u more e parts h take = one_at scope loop set _ _ (statement.outs-Assign line (t ∷ u ∷ more) (e ∷ [])) (λ short count.
        let both = and_parts _ _ short in
        let value = and_parts _ _ both.1 in
        at scope loop set _ _ (statement.outs-Assign line _ _) (sound.spreads loop set line _ _ _ _ parts (h value.0 (each (map of_target (t ∷ u ∷ more)) count).next) (take both.0 count)))

    pub one_choose : (line : ℕ) (branches : List Branch) (otherwise : List CStat) → Each (SoundBranch scope loop set) branches → AllSound scope loop set otherwise → SoundOne scope loop set (statement.If line branches otherwise)
    one_choose line branches otherwise h k = one_at scope loop set _ _ (statement.outs-If line branches otherwise) (λ short count.
        let both = and_parts _ _ short in
        at scope loop set _ _ (statement.outs-If line _ _) (sound.chooses loop set line _ _ (branches_sound scope loop set branches h both.0 count) (body_sound scope loop set otherwise k both.1 _)))

    pub one_while : (line : ℕ) (test : CExpr) (block : List CStat) → Has scope set test Ty-F.Bool → AllSound scope true set block → SoundOne scope loop set (statement.While line test block)
    one_while line test block h k = one_at scope loop set _ _ (statement.outs-While line test block) (λ short count.
        let both = and_parts _ _ short in
        at scope loop set _ _ (statement.outs-While line _ _) (sound.loops loop set line _ _ (h both.0 count) (body_sound scope true set block k both.1 _)))

    pub one_walk : (line : ℕ) (slots : List ℕ) (container : CExpr) (block : List CStat) → SoundWalk set slots container → AllSound scope true (also_all slots set) block
        → SoundOne scope loop set (statement.For line slots container block)
    one_walk line slots container block h k = one_at scope loop set _ _ (statement.outs-For line slots container block) (λ short count.
        let both = and_parts _ _ short in
        at scope loop set _ _ (statement.outs-For line slots _ _) (sound.walks loop set line slots _ _ (h both.0 count) (body_sound scope true (also_all slots set) block k both.1 _)))

    pub one_pass : (line : ℕ) → SoundOne scope loop set (statement.Pass line)
    one_pass line = one_at scope loop set _ _ (statement.outs-Pass line) (λ short count. at scope loop set _ _ (statement.outs-Pass line) (sound.passes loop set line))

    pub one_return : (line : ℕ) (e : CExpr) (T : Kind) → scope.role ≡ function T → Has scope set e T → SoundOne scope loop set (statement.Return line e)
    one_return line e T role h = one_at scope loop set _ _ (statement.outs-Return line e) (λ short count.
        at scope loop set _ _ (statement.outs-Return line _) (sound.returns loop set line _ T role (h short count)))

    pub one_exit : (line : ℕ) → scope.role ≡ process None → SoundOne scope loop set (statement.Exit line None)
    one_exit line role = one_at scope loop set _ _ (statement.outs-Exit line None) (λ short count.
        at scope loop set _ _ (statement.outs-Exit line None) (sound.exits loop set line None None role part.without_value))

    pub one_exit_with : (line : ℕ) (e : CExpr) (T : Kind) → scope.role ≡ process (Some T) → Has scope set e T → is_plain_kind T ≡ true → SoundOne scope loop set (statement.Exit line (Some e))
    one_exit_with line e T role h plain = one_at scope loop set _ _ (statement.outs-Exit line (Some e)) (λ short count.
        at scope loop set _ _ (statement.outs-Exit line _) (sound.exits loop set line _ (Some T) role (part.with_value _ T (h short count) plain)))

    pub one_write : (line : ℕ) (pieces : List Piece) (es : List CExpr) (exit : Option Kind) (Ts : List Kind) → scope.role ≡ process exit → Have scope set es Ts → Shows pieces Ts
        → SoundOne scope loop set (statement.Write line pieces es)
    one_write line pieces es exit Ts role h shows = one_at scope loop set _ _ (statement.outs-Write line pieces es) (λ short count.
        at scope loop set _ _ (statement.outs-Write line pieces _) (sound.writes loop set line pieces _ exit Ts role (h short count) shows))

    pub one_select : (line : ℕ) (alternatives : List CAlt) (exit : Option Kind) → scope.role ≡ process exit → Each (SoundOffer scope loop set) alternatives → SoundOne scope loop set (statement.Select line alternatives)
    one_select line alternatives exit role h = one_at scope loop set _ _ (statement.outs-Select line alternatives) (λ short count.
        at scope loop set _ _ (statement.outs-Select line _) (sound.selects loop set line _ exit role (offers_sound scope loop set alternatives h short count)))

    pub one_run : (line : ℕ) (elements : List CElem) (exit : Option Kind) → scope.role ≡ process exit → Each (SoundMake scope set) elements → SoundOne scope loop set (statement.Run line elements)
    one_run line elements exit role h = one_at scope loop set _ _ (statement.outs-Run line elements) (λ short count.
        at scope loop set _ _ (statement.outs-Run line _) (sound.runs loop set line _ exit role (makes_sound scope set elements h exit role short count)))

    pub one_start : (line : ℕ) (elements : List CElem) (exit : Option Kind) → scope.role ≡ process exit → Each (SoundMake scope set) elements → SoundOne scope loop set (statement.Start line elements)
    one_start line elements exit role h = one_at scope loop set _ _ (statement.outs-Start line elements) (λ short count.
        at scope loop set _ _ (statement.outs-Start line _) (sound.starts loop set line _ exit role (makes_sound scope set elements h exit role short count)))

    instances_counted : (es : List CExpr) (count : ℕ) → map {A = CExpr} {B = Kind} (λ e. Ty-F.Inst) (of_expressions es count).part ≡ map {A = CExpr} {B = Kind} (λ e. Ty-F.Inst) es
    instances_counted [] count = refl
    instances_counted (e ∷ es) count = ap (λ rest. Ty-F.Inst ∷ rest) (instances_counted es (of_expression e count).next)

    pub one_finish : (line : ℕ) (es : List CExpr) (exit : Option Kind) → scope.role ≡ process exit → Have scope set es (map (λ e. Ty-F.Inst) es) → SoundOne scope loop set (statement.Finish line es)
    one_finish line es exit role h = one_at scope loop set _ _ (statement.outs-Finish line es) (λ short count.
        at scope loop set _ _ (statement.outs-Finish line _) (sound.finishes loop set line _ exit role (subst (HaveKinds scope set _) (sym (instances_counted es count)) (h short count))))

  pub one_break : (loop : Bool) (set : Set) (line : ℕ) → loop ≡ true → SoundOne scope loop set (statement.Break line)
  one_break loop set line e = subst (λ loop. SoundOne scope loop set (statement.Break line)) (sym e)
      (one_at scope true set _ _ (statement.outs-Break line) (λ short count. at scope true set _ _ (statement.outs-Break line) (sound.breaks set line)))

  pub one_continue : (loop : Bool) (set : Set) (line : ℕ) → loop ≡ true → SoundOne scope loop set (statement.Continue line)
  one_continue loop set line e = subst (λ loop. SoundOne scope loop set (statement.Continue line)) (sym e)
      (one_at scope true set _ _ (statement.outs-Continue line) (λ short count. at scope true set _ _ (statement.outs-Continue line) (sound.continues set line)))
