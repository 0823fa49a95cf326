-- Every tree of a decided rule is sure: no other tree has its tokens, and where a longer front or tree stands, it goes on at its end.
use Rattle.std.proofs.Common.{ℕ, List, inl, inr}
use Rattle.chi_grammar.specs.declared.room.Room.{Room}
use Rattle.chi_grammar.specs.Rules.{Tree, spelling, Rule, Grammar}
use Rattle.chi_grammar.specs.Trees.{Is}
use Rattle.chi_grammar.specs.Trees as is
use Rattle.chi_grammar.specs.Lookahead.{Table}
use Rattle.chi_grammar.specs.Fine.{Fine}
use Rattle.chi_grammar.proofs.At.{At, here, on, At-split}
use Rattle.chi_grammar.proofs.Decided.{Decided, fine_part}
use Rattle.chi_grammar.proofs.Follows.{Sure}
use Rattle.chi_grammar.proofs.SureSingle.{sure_word, sure_part, sure_left, sure_right, sure_once, sure_never, sure_enough, sure_deeper}
use Rattle.chi_grammar.proofs.SureSequence.{sure_both, sure_more, sure_when, after_chosen, after_otherwise}

module _ {A S : Type 0} (g : Grammar A S) (table : Table S) (fine : Fine g table) (ts : List A) where
  pub sure : {room : Room} {r : Rule A S} {t : Tree A S} {i j : ℕ} → Decided table r → Is g room r t → At ts i (spelling t) j
      → Sure g table ts r t i j
  sure d (is.word e) (on h here) = sure_word g table fine ts h
  sure d (is.part {s = s} p) at = sure_part g table fine ts (sure (fine_part g table fine s).decides p at)
  sure d (is.both {t = t} {u = u} p q) at =
      let s = At-split (spelling t) (spelling u) at in
      sure_both g table fine ts d p s.front (sure d.0 p s.front) q s.back (sure d.1 q s.back)
  sure d (is.left p) at = sure_left g table fine ts d p at (sure d.0 p at)
  sure d (is.right p) at = sure_right g table fine ts d p at (sure d.1 p at)
  sure d (is.once p) at = sure_once g table fine ts d p at (sure d.0 p at)
  sure d is.never here = sure_never g table fine ts d
  sure d (is.more {t = t} {u = u} p q) at =
      let s = At-split (spelling t) (spelling u) at in
      sure_more g table fine ts d p s.front (sure d.0 p s.front) q s.back (sure d q s.back)
  sure d is.enough here = sure_enough g table fine ts d
  sure d (is.deeper e p) at = sure_deeper g table fine ts at (sure d.0 p at)
  sure d (is.chosen {a = a} {b = b} {c = c} {test = test} {t = t} {u = u} p e q) at =
      let s = At-split (spelling t) (spelling u) at in
      sure_when g table fine ts d p s.front (sure d.0 p s.front) (inl (e, q)) s.back
      (after_chosen g table fine ts a b c test t u s.mid _ e (sure d.1 q s.back))
  sure d (is.otherwise {a = a} {b = b} {c = c} {test = test} {t = t} {u = u} p e q) at =
      let s = At-split (spelling t) (spelling u) at in
      sure_when g table fine ts d p s.front (sure d.0 p s.front) (inr (e, q)) s.back
      (after_otherwise g table fine ts a b c test t u s.mid _ e (sure d.2 q s.back))
