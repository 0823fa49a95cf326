-- Private to proofs. The values of a write, one by one.
use Rattle.std.proofs.Common.{◌≡◌, List, [], ◌∷◌, ◌++◌, Option, Some, None, refl, sym, ap, ◌∙◌, append_assoc}
use Rattle.std.specs.Prelude.{option_map}
use Rattle.std.specs.Option.{option_and_then}
use Rattle.std.proofs.lemmas.List.{append-nil}
use Rattle.chi_core.specs.declared.expression.CExpr.{CExpr}
use Rattle.chi_value.specs.declared.format.Piece.{Piece}
use Rattle.chi_check_types.specs.declared.fault.Fault.{Fault}
use Rattle.chi_check_types.specs.Faults.{first_of}
use Rattle.chi_check_types.specs.Typed.{Typed}
use Rattle.chi_check_types.proofs.Firsts.{first_of_append, first_of_none}
use Rattle.chi_check_stat_rules.specs.Writes.{Written, next_shown, shown_one, shown_then, with_first, all_shown, and_then_one}

abbrev pub before : Option (List CExpr) → Option (List CExpr) → Option (List CExpr)
before None more = None
before (Some es) None = None
before (Some es) (Some more) = Some (es ++ more)

before_one : (es : Option (List CExpr)) (e : Option CExpr) (more : Option (List CExpr)) → before es (option_and_then (λ e. option_map (λ es. e ∷ es) more) e) ≡ before (and_then_one es e) more
before_one None e more = refl
before_one (Some es) None more = refl
before_one (Some es) (Some e) None = refl
before_one (Some es) (Some e) (Some more) = ap Some (sym (append_assoc es (e ∷ []) more))

pub before_none : (more : Option (List CExpr)) → before (Some []) more ≡ more
before_none None = refl
before_none (Some es) = refl

pub before_end : (es : Option (List CExpr)) → before es (Some []) ≡ es
before_end None = refl
before_end (Some es) = ap Some (append-nil es)

shown_next : (pieces rest : List Piece) (p : Piece) (v : Written) (vs : List Written) → next_shown pieces ≡ Some (p, rest)
    → all_shown pieces (v ∷ vs) ≡ with_first (shown_one p v) (all_shown rest vs)
shown_next pieces rest p v vs h = ap (λ n. shown_then n v (λ rest. all_shown rest vs)) h

pub made_next : (es : Option (List CExpr)) (pieces rest : List Piece) (p : Piece) (v : Written) (vs : List Written) → next_shown pieces ≡ Some (p, rest)
    → before es (all_shown pieces (v ∷ vs)).made ≡ before (and_then_one es (shown_one p v).made) (all_shown rest vs).made
made_next es pieces rest p v vs h = ap (λ (t : Typed (List CExpr)). before es t.made) (shown_next pieces rest p v vs h) ∙ before_one es (shown_one p v).made (all_shown rest vs).made

pub noted_next : (kept : Option Fault) (pieces rest : List Piece) (p : Piece) (v : Written) (vs : List Written) → next_shown pieces ≡ Some (p, rest)
    → first_of kept (all_shown pieces (v ∷ vs)).faults ≡ first_of (first_of kept (shown_one p v).faults) (all_shown rest vs).faults
noted_next kept pieces rest p v vs h = ap (λ (t : Typed (List CExpr)). first_of kept t.faults) (shown_next pieces rest p v vs h) ∙ first_of_append kept _ _

pub shown_end : (kept : Option Fault) (pieces : List Piece) (vs : List Written) → vs ≡ [] → first_of kept (all_shown pieces vs).faults ≡ kept
shown_end kept pieces vs h = ap (λ vs. first_of kept (all_shown pieces vs).faults) h ∙ first_of_none kept [] refl
