-- A closure that was just boxed, as a probe: what its own clauses tell makes it keep to the filter.
--     gives_box        a box of the closure may give what the closure may
--     faithful_box     it keeps to the filter that the closure's answers tell
--     read_alike       what is read of equal values is equal
-- They take the table and the entry of the function that boxes it (`own-1` and `at-1-1` of its `OwnLists`) and what
-- `into_dyn_box` ensures.
use Rattle.std.proofs.Common.{◌≡◌, Bool, ap, refl, subst, sym}
use Rattle.std.specs.Borrow.{Bor}
use mir.Syntax.{Dict}
use denote.Param.Members.{Mut}
use denote.Param.Table.{Table}
use denote.Param.Object.{Made, read_made}
use borrow.Pointer.Called.{made_asks, made_tells}
use borrow.Pointer.Entry.{sure}
use Rattle.chi_trace.specs.declared.event.Event.{Event}
use Rattle.chi_trace.specs.declared.filter.Filter.{Filter}
use Rattle.chi_trace.specs.Filters.{shows}
use Rattle.chi_trace.specs.Probes.{Faithful}

-- an event, as a call passes it
abbrev Passed : Type 0
Passed = Bor Event × Unit {0}

module _ (T : Table (λ X. Mut X Passed Bool) Dict) (at : T.I) {i : T.I} {y : (T.entry i).0.Denot} {x : (T.entry at).0.Denot}
    (made : Made (λ j. (T.entry j).0.coded.code) (T.entry at).0.coded.code at i y x) where
  pub gives_box : (event : Bor Event) (answer : Bool) → (T.entry at).1.post x (event, tt) answer → (T.entry i).1.post y (event, tt) answer
  gives_box event answer = subst (λ (P : Type 0). P) (sym (read_made T (T.entry at) at refl (Type 0)
      (λ j v. j.1.post v (event, tt) answer) i y x made))

  pub faithful_box : (filter : Filter) → ((event : Bor Event) → (T.entry at).1.pre x (event, tt))
      → ((event : Bor Event) (answer : Bool) → (T.entry at).1.post x (event, tt) answer → answer ≡ shows filter event.now)
      → ((event : Bor Event) (answer : Bool) → answer ≡ shows filter event.now → (T.entry at).1.post x (event, tt) answer)
      → Faithful (λ event. (sure (T.entry i).1).pre y (event, tt)) (λ event. (T.entry i).1.post y (event, tt)) filter
  faithful_box filter callable only answers = record {
    callable = λ event ranged. made_asks T (T.entry at) at refl made (event, tt) (callable event);
    one_answer = λ event ranged answer. (
      (λ gives. only event answer (made_tells T (T.entry at) at refl made (event, tt) answer gives)),
      (λ is. gives_box event answer (answers event answer is)),
    );
  }

pub read_alike : {A B : Type 0} {x y : A} → x ≡ y → (read : A → B) → read x ≡ read y
read_alike same read = ap read same
