-- One tree for one list of tokens.
use Rattle.std.proofs.Common.{◌≡◌, ◌-◌, true, List, length, take, sym, ap, subst, ◌∙◌, arith}
use Rattle.std.proofs.Math.Seq.{take-length}
use Rattle.chi_grammar.specs.declared.room.Room.{Room}
use Rattle.chi_grammar.specs.Rules.{Tree, spelling, Rule, Grammar}
use Rattle.chi_grammar.specs.Trees.{Is}
use Rattle.chi_grammar.specs.Lookahead.{Table}
use Rattle.chi_grammar.specs.Fine.{Fine, is_decided}
use Rattle.chi_grammar.proofs.At.{At, At-from_Stands}
use Rattle.chi_grammar.proofs.Decided.{decided}
use Rattle.chi_grammar.proofs.Sure.{sure}

at_whole : {A : Type 0} (ts : List A) → At ts 0 ts (length ts)
at_whole ts =
    let all : length ts - 0 ≡ length ts = omega arith in
    At-from_Stands (record { ordered = omega arith; inside = omega arith; same = ap (λ n. take n ts) all ∙ take-length ts })

pub one_tree : {A S : Type 0} (g : Grammar A S) (table : Table S) → Fine g table → (r : Rule A S) → is_decided table r ≡ true
    → (room room2 : Room) (t u : Tree A S) → Is g room r t → Is g room2 r u → spelling t ≡ spelling u → t ≡ u
one_tree g table fine r d room room2 t u p q e =
    let ts = spelling u in
    let at : At ts 0 (spelling u) (length ts) = at_whole ts in
    (sure g table fine ts (decided table r d) q at).same room t p (subst (λ xs. At ts 0 xs (length ts)) (sym e) at)
