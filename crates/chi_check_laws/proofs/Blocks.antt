-- Statements with blocks inside, and what is offered and started for each element of a container.
use Rattle.std.proofs.Common.{◌≡◌, ℕ, Bool, true, List, [], ◌∷◌, map, Option, Some, sym, subst}
use Rattle.std.proofs.lemmas.Bool.{and_parts}
use Rattle.chi_token.specs.declared.place.Place.{Place}
use Rattle.chi_tree.specs.declared.expr.Expr.{Expr}
use Rattle.chi_tree.specs.declared.statement.Alternative.{Alternative-F}
use Rattle.chi_tree.specs.declared.statement.Branch.{Branch-F}
use Rattle.chi_tree.specs.declared.statement.Communication.{Communication}
use Rattle.chi_tree.specs.declared.statement.Element.{Element, Element-F}
use Rattle.chi_tree.specs.declared.statement.Statement.{Statement-F}
use Rattle.chi_tree.specs.declared.statement.Walk.{Walk}
use Rattle.chi_types.specs.declared.ty.Ty.{Ty-F}
use Rattle.chi_core.specs.declared.element.CElem.{CElem}
use Rattle.chi_core.specs.declared.element.CElem.TheVariants as element
use Rattle.chi_core.specs.declared.expression.CExpr.{CExpr}
use Rattle.chi_core.specs.declared.statement.Branch.{Branch as CBranch, roll-Branch, out-roll-Branch}
use Rattle.chi_core.specs.declared.statement.CAlt.{CAlt}
use Rattle.chi_core.specs.declared.statement.CAlt.TheVariants as alternative
use Rattle.chi_core.specs.declared.statement.CStat.{CStat}
use Rattle.chi_core.specs.declared.statement.CStat.TheVariants as statement
use Rattle.chi_core.specs.Scopes.{Scope}
use Rattle.chi_core.specs.SetSlots.{Known as Set, also_all}
use Rattle.chi_core.specs.SoundParts as part
use Rattle.chi_core.specs.SoundParts.{SoundElement}
use Rattle.chi_core.specs.SoundStatements as sound
use Rattle.chi_core.specs.SoundStatements.{SoundAlternative}
use Rattle.chi_check_expr.proofs.Kept.{Each}
use Rattle.chi_check_laws.specs.KnownNames.{Has}
use Rattle.chi_check_laws.proofs.Conversions.{mapped, chained}
use Rattle.chi_check.specs.Below.chi_check_stat_rules.specs.declared.home.Home.{Home}
use Rattle.chi_check.specs.Below.chi_check_stat_rules.specs.Homes.{running_rule}
use Rattle.chi_check.specs.Below.chi_check_stat_lines.specs.declared.state.Binder.TheVariants as binder
use Rattle.chi_check.specs.Below.chi_check_stat_lines.specs.declared.state.State.{State}
use Rattle.chi_check.specs.Below.chi_check_stat_lines.specs.Stated.{Turn, both, in_turn}
use Rattle.chi_check.specs.Below.chi_check_stat_lines.specs.States.{block, Going, each_in}
use Rattle.chi_check.specs.Below.chi_check_stat_lines.specs.Values.{test_in, guard_in}
use Rattle.chi_check.specs.Below.chi_check_stat_lines.specs.Declarations.{walk_in}
use Rattle.chi_check.specs.Below.chi_check_stat_lines.specs.Lines.{communication_in}
use Rattle.chi_check.specs.Below.chi_check_stat_lines.specs.Blocks.{offers, runs, starts}
use Rattle.chi_check.specs.Below.chi_check_stat.specs.Statements.{starting, element_step, statement_step, branch_step, alternative_step}
use Rattle.chi_check_laws.specs.Bodies.{Agrees, reads_as, set_by}
use Rattle.chi_check_laws.specs.Whole.{has_any}
use Rattle.chi_check_laws.proofs.Bodies.{SoundOne, BranchAt, SoundBranch, SoundOffer, SoundMake, AllSound, StatementKept, BranchKept, OfferKept, MakeKept, nothing_more, statements_by_parts, each_by_parts, branch_at, offer_at, make_at, body_sound, offers_sound, makes_sound}
use Rattle.chi_check_laws.proofs.Communications.{offer_sound, communication_sound, guard_sound}
use Rattle.chi_check_laws.proofs.Endings.{runs_in}
use Rattle.chi_check_laws.proofs.More.{set_by_more}
use Rattle.chi_check_laws.proofs.Nodes.{Goes}
use Rattle.chi_check_laws.proofs.States.{grows_on, cut_grows, agrees_cut, agrees_more, slots_before}
use Rattle.chi_check_laws.proofs.Statements.{SoundWalk, one_choose, one_while, one_walk, one_select, one_run, one_start}
use Rattle.chi_check_laws.proofs.Turns.{both_made, held_made, in_turn_kept, block_sound, block_grows}
use Rattle.chi_check_laws.proofs.Values.{test_has}
use Rattle.chi_check_laws.proofs.Walks.{walk_grows, walk_sound}

pub each_going : {A : Type 0} (P : Bool → Turn State A → Type 0) (loop : Bool) (gs : List (Going A)) → Each (Goes P) gs → Each (P loop) (each_in loop gs)
each_going P loop [] h = tt
each_going P loop (g ∷ gs) h = (h.0 loop, each_going P loop gs h.1)

module _ (h : Home) (scope : Scope) (role : reads_as h ≡ Some scope.role) where
  -- one statement, after which as many names agree with the program as before it
  alone_in : (loop : Bool) (set : Set) (s : State) (x : CStat) (xs : List CStat) → x ∷ [] ≡ xs → SoundOne scope loop set x → Agrees scope set s → AllSound scope loop set xs × Agrees scope (set_by xs set) s
  alone_in loop set s x xs is h all = (subst (AllSound scope loop set) is (h, tt), agrees_more scope set (set_by xs set) s (set_by_more xs set) all)

  steps_in : (loop : Bool) (gs : List (Going CStat)) → Each (Goes (StatementKept scope)) gs → Each (StatementKept scope loop) (each_in loop gs)
  steps_in loop gs = each_going (StatementKept scope) loop gs

  steps_kept : (loop : Bool) (gs : List (Going CStat)) → Each (Goes (StatementKept scope)) gs → StatementKept scope loop (in_turn (each_in loop gs))
  steps_kept loop gs k = in_turn_kept scope (AllSound scope loop) set_by (statements_by_parts scope loop) (each_in loop gs) (steps_in loop gs k)

  branches_kept : (loop : Bool) (gs : List (Going CBranch)) → Each (Goes (BranchKept scope)) gs → BranchKept scope loop (in_turn (each_in loop gs))
  branches_kept loop gs k = in_turn_kept scope _ nothing_more (each_by_parts scope CBranch (SoundBranch scope loop)) (each_in loop gs) (each_going (BranchKept scope) loop gs k)

  offers_kept : (loop : Bool) (gs : List (Going CAlt)) → Each (Goes (OfferKept scope)) gs → OfferKept scope loop (in_turn (each_in loop gs))
  offers_kept loop gs k = in_turn_kept scope _ nothing_more (each_by_parts scope CAlt (SoundOffer scope loop)) (each_in loop gs) (each_going (OfferKept scope) loop gs k)

  makes_kept : (fs : List (Turn State CElem)) → Each (MakeKept scope) fs → MakeKept scope (in_turn fs)
  makes_kept fs k = in_turn_kept scope _ nothing_more (each_by_parts scope CElem (SoundMake scope)) fs k

  -- ---- alternatives

  pub select_kept : (place : Place) (gs : List (Going CAlt)) → Each (Goes (OfferKept scope)) gs → Goes (StatementKept scope) (statement_step h (Statement-F.Select place gs))
  select_kept place gs k loop = let inner = offers_kept loop gs k in record {
    grows = inner.grows;
    sound = λ set s xs have all e.
        let t = in_turn (each_in loop gs) s in
        let b = held_made (running_rule h place) (offers place.line t.made) xs e in
        let p = runs_in h scope.role place role b.0 in
        let m = mapped (λ each. statement.Select place.line each ∷ []) t.made xs b.1 in
        let i = inner.sound set s m.0 have all m.1 in
        alone_in loop set t.next (statement.Select place.line m.0) xs m.2 (one_select scope loop set place.line m.0 p.0 p.1 i.0) i.1;
  }

  pub guarded_kept : (guard : Option Expr) (c : Communication) (gs : List (Going CStat)) → Each (Goes (StatementKept scope)) gs → Goes (OfferKept scope) (alternative_step h (Alternative-F.Guarded guard c gs))
  guarded_kept guard c gs k loop = record {
    grows = block_grows scope (AllSound scope loop) set_by (statements_by_parts scope loop) (each_in loop gs) (steps_in loop gs k);
    sound = λ set s xs have all e.
        let t = block (each_in loop gs) s in
        let g = chained (λ g. both (λ c b. alternative.Guarded g c b ∷ []) (communication_in h s.names c).made t.made) (guard_in h s.names guard).made xs e in
        let m = both_made (λ c b. alternative.Guarded g.0 c b ∷ []) (communication_in h s.names c).made t.made xs g.2 in
        let i = block_sound scope (AllSound scope loop) set_by (statements_by_parts scope loop) (each_in loop gs) (steps_in loop gs k) set s m.1 have all m.3 in
        let one = offer_sound scope set loop g.0 m.0 m.1 (guard_sound h scope role set s.names all.names guard g.0 g.1) (communication_sound h scope role set s.names all.names c m.0 m.2) i.0 in
        (subst (Each (SoundOffer scope loop set)) m.4 (one, tt), i.1);
  }

  offer_unwound : (loop : Bool) (set : Set) (slots : List ℕ) (container : CExpr) (xs : List CAlt) → SoundWalk scope set slots container → Each (SoundOffer scope loop (also_all slots set)) xs → SoundOffer scope loop set (alternative.Unwind slots container xs)
  offer_unwound loop set slots container xs w k = offer_at scope loop set _ _ (alternative.outs-Unwind slots container xs) (λ short count.
      let both = and_parts _ _ short in
      subst (SoundAlternative scope loop set) (sym (alternative.outs-Unwind slots _ _)) (sound.unwinds loop set slots _ _ (w both.0 count) (offers_sound scope loop (also_all slots set) xs k both.1 _)))

  pub offered_kept : (place : Place) (walk : Walk) (gs : List (Going CAlt)) → has_any walk.names ≡ true → Each (Goes (OfferKept scope)) gs → Goes (OfferKept scope) (alternative_step h (Alternative-F.Unwind place walk gs))
  offered_kept place walk gs some k loop =
      let inner = offers_kept loop gs k in
      record {
        grows = λ s.
            let w = walk_in h binder.Unwind walk s in
            let t = in_turn (each_in loop gs) w.next in
            cut_grows s t.next (grows_on s w.next t.next (walk_grows h scope role binder.Unwind walk s) (inner.grows w.next));
        sound = λ set s xs have all e.
            let w = walk_in h binder.Unwind walk s in
            let t = in_turn (each_in loop gs) w.next in
            let m = both_made (λ w inner. alternative.Unwind w.slots w.container inner ∷ []) w.made t.made xs e in
            let o = walk_sound h scope role binder.Unwind walk set s m.0 some (slots_before scope w.next t.next (inner.grows w.next) have) all m.2 in
            let i = inner.sound (also_all m.0.slots set) w.next m.1 have o.1 m.3 in
            let grown = grows_on s w.next t.next (walk_grows h scope role binder.Unwind walk s) (inner.grows w.next) in
            (subst (Each (SoundOffer scope loop set)) m.4 (offer_unwound loop set m.0.slots m.0.container m.1 o.0 i.0, tt), agrees_cut scope set _ s t.next grown all i.1);
      }

  -- ---- branches

  pub choose_kept : (place : Place) (gs : List (Going CBranch)) (hs : List (Going CStat)) → Each (Goes (BranchKept scope)) gs → Each (Goes (StatementKept scope)) hs → Goes (StatementKept scope) (statement_step h (Statement-F.If place gs hs))
  choose_kept place gs hs k l loop =
      let first = branches_kept loop gs k in
      let last_grows = block_grows scope (AllSound scope loop) set_by (statements_by_parts scope loop) (each_in loop hs) (steps_in loop hs l) in
      record {
        grows = λ s.
            let middle = (in_turn (each_in loop gs) s).next in
            grows_on s middle (block (each_in loop hs) middle).next (first.grows s) (last_grows middle);
        sound = λ set s xs have all e.
            let t = in_turn (each_in loop gs) s in
            let u = block (each_in loop hs) t.next in
            let m = both_made (λ branches otherwise. statement.If place.line branches otherwise ∷ []) t.made u.made xs e in
            let i = first.sound set s m.0 (slots_before scope t.next u.next (last_grows t.next) have) all m.2 in
            let j = block_sound scope (AllSound scope loop) set_by (statements_by_parts scope loop) (each_in loop hs) (steps_in loop hs l) set t.next m.1 have i.1 m.3 in
            alone_in loop set u.next (statement.If place.line m.0 m.1) xs m.4 (one_choose scope loop set place.line m.0 m.1 i.0 j.0) j.1;
      }

  abbrev branch : CExpr → List CStat → CBranch
  branch test block = roll-Branch (record { test = test; block = block })

  branch_sound : (loop : Bool) (set : Set) (test : CExpr) (inner : List CStat) → Has scope set test Ty-F.Bool → AllSound scope loop set inner → SoundBranch scope loop set (branch test inner)
  branch_sound loop set test inner t k = branch_at scope loop set (branch test inner) (record { test = test; block = inner }) (out-roll-Branch _) (λ short count.
      let both = and_parts _ _ short in
      subst (BranchAt scope loop set) (sym (out-roll-Branch _)) (record { test = t both.0 count; block = body_sound scope loop set inner k both.1 _ }))

  pub branch_kept : (b : Branch-F (Going CAlt) (Going CStat) (Going CBranch) (Going CStat)) → Each (Goes (StatementKept scope)) b.block → Goes (BranchKept scope) (branch_step h b)
  branch_kept b k loop = record {
    grows = block_grows scope (AllSound scope loop) set_by (statements_by_parts scope loop) (each_in loop b.block) (steps_in loop b.block k);
    sound = λ set s xs have all e.
        let t = block (each_in loop b.block) s in
        let m = both_made (λ test inner. branch test inner ∷ []) (test_in h s.names b.condition).made t.made xs e in
        let i = block_sound scope (AllSound scope loop) set_by (statements_by_parts scope loop) (each_in loop b.block) (steps_in loop b.block k) set s m.1 have all m.3 in
        (subst (Each (SoundBranch scope loop set)) m.4 (branch_sound loop set m.0 m.1 (test_has h scope role set s.names all.names b.condition m.0 m.2) i.0, tt), i.1);
  }

  -- ---- loops

  pub while_kept : (place : Place) (test : Expr) (gs : List (Going CStat)) → Each (Goes (StatementKept scope)) gs → Goes (StatementKept scope) (statement_step h (Statement-F.While place test gs))
  while_kept place test gs k loop = record {
    grows = block_grows scope (AllSound scope true) set_by (statements_by_parts scope true) (each_in true gs) (steps_in true gs k);
    sound = λ set s xs have all e.
        let t = block (each_in true gs) s in
        let m = both_made (λ test inner. statement.While place.line test inner ∷ []) (test_in h s.names test).made t.made xs e in
        let i = block_sound scope (AllSound scope true) set_by (statements_by_parts scope true) (each_in true gs) (steps_in true gs k) set s m.1 have all m.3 in
        alone_in loop set t.next (statement.While place.line m.0 m.1) xs m.4 (one_while scope loop set place.line m.0 m.1 (test_has h scope role set s.names all.names test m.0 m.2) i.0) i.1;
  }

  pub walk_kept : (place : Place) (walk : Walk) (gs : List (Going CStat)) → has_any walk.names ≡ true → Each (Goes (StatementKept scope)) gs → Goes (StatementKept scope) (statement_step h (Statement-F.For place walk gs))
  walk_kept place walk gs some k loop =
      let inner = steps_kept true gs k in
      record {
        grows = λ s.
            let w = walk_in h binder.Variable walk s in
            let t = in_turn (each_in true gs) w.next in
            cut_grows s t.next (grows_on s w.next t.next (walk_grows h scope role binder.Variable walk s) (inner.grows w.next));
        sound = λ set s xs have all e.
            let w = walk_in h binder.Variable walk s in
            let t = in_turn (each_in true gs) w.next in
            let m = both_made (λ w inner. statement.For place.line w.slots w.container inner ∷ []) w.made t.made xs e in
            let o = walk_sound h scope role binder.Variable walk set s m.0 some (slots_before scope w.next t.next (inner.grows w.next) have) all m.2 in
            let i = inner.sound (also_all m.0.slots set) w.next m.1 have o.1 m.3 in
            let grown = grows_on s w.next t.next (walk_grows h scope role binder.Variable walk s) (inner.grows w.next) in
            let after = agrees_cut scope set _ s t.next grown all i.1 in
            alone_in loop set _ (statement.For place.line m.0.slots m.0.container m.1) xs m.4 (one_walk scope loop set place.line m.0.slots m.0.container m.1 o.0 i.0) after;
      }

  -- ---- elements

  make_unwound : (set : Set) (slots : List ℕ) (container : CExpr) (xs : List CElem) → SoundWalk scope set slots container → Each (SoundMake scope (also_all slots set)) xs → SoundMake scope set (element.Unwind slots container xs)
  make_unwound set slots container xs w k = make_at scope set _ _ (element.outs-Unwind slots container xs) (λ exit is short count.
      let both = and_parts _ _ short in
      subst (SoundElement scope exit set) (sym (element.outs-Unwind slots _ _)) (part.unwinds set slots _ _ (w both.0 count) (makes_sound scope (also_all slots set) xs k exit is both.1 _)))

  pub unwound_kept : (place : Place) (walk : Walk) (fs : List (Turn State CElem)) → has_any walk.names ≡ true → Each (MakeKept scope) fs → MakeKept scope (element_step h (Element-F.Unwind place walk fs))
  unwound_kept place walk fs some k =
      let inner = makes_kept fs k in
      record {
        grows = λ s.
            let w = walk_in h binder.Unwind walk s in
            let t = in_turn fs w.next in
            cut_grows s t.next (grows_on s w.next t.next (walk_grows h scope role binder.Unwind walk s) (inner.grows w.next));
        sound = λ set s xs have all e.
            let w = walk_in h binder.Unwind walk s in
            let t = in_turn fs w.next in
            let m = both_made (λ w es. element.Unwind w.slots w.container es ∷ []) w.made t.made xs e in
            let o = walk_sound h scope role binder.Unwind walk set s m.0 some (slots_before scope w.next t.next (inner.grows w.next) have) all m.2 in
            let i = inner.sound (also_all m.0.slots set) w.next m.1 have o.1 m.3 in
            let grown = grows_on s w.next t.next (walk_grows h scope role binder.Unwind walk s) (inner.grows w.next) in
            (subst (Each (SoundMake scope set)) m.4 (make_unwound set m.0.slots m.0.container m.1 o.0 i.0, tt), agrees_cut scope set _ s t.next grown all i.1);
      }

  pub run_kept : (place : Place) (elements : List Element) → Each (MakeKept scope) (map (starting h) elements) → Goes (StatementKept scope) (statement_step h (Statement-F.Run place elements))
  run_kept place elements k loop = let inner = makes_kept (map (starting h) elements) k in record {
    grows = inner.grows;
    sound = λ set s xs have all e.
        let t = in_turn (map (starting h) elements) s in
        let b = held_made (running_rule h place) (runs place.line t.made) xs e in
        let p = runs_in h scope.role place role b.0 in
        let m = mapped (λ each. statement.Run place.line each ∷ []) t.made xs b.1 in
        let i = inner.sound set s m.0 have all m.1 in
        alone_in loop set t.next (statement.Run place.line m.0) xs m.2 (one_run scope loop set place.line m.0 p.0 p.1 i.0) i.1;
  }

  pub start_kept : (place : Place) (elements : List Element) → Each (MakeKept scope) (map (starting h) elements) → Goes (StatementKept scope) (statement_step h (Statement-F.Start place elements))
  start_kept place elements k loop = let inner = makes_kept (map (starting h) elements) k in record {
    grows = inner.grows;
    sound = λ set s xs have all e.
        let t = in_turn (map (starting h) elements) s in
        let b = held_made (running_rule h place) (starts place.line t.made) xs e in
        let p = runs_in h scope.role place role b.0 in
        let m = mapped (λ each. statement.Start place.line each ∷ []) t.made xs b.1 in
        let i = inner.sound set s m.0 have all m.1 in
        alone_in loop set t.next (statement.Start place.line m.0) xs m.2 (one_start scope loop set place.line m.0 p.0 p.1 i.0) i.1;
  }
