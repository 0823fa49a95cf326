-- A closure that was just boxed, as a policy: what its own clauses ask and tell makes it lawful.
--     lawful_box, gives_box      a box of the closure is lawful;  and may give what the closure may. They take the table and the entry of the function that boxes it (`own-1` and `at-1-1` of its `OwnLists`) and what `into_dyn_box` ensures
--     read_alike, told_alike     what is read of equal values is equal;  what is told of a value holds of an equal one
use Rattle.std.proofs.Common.{◌≡◌, ◌<◌, ℕ, ap, refl, subst, sym}
use mir.Syntax.{Dict}
use denote.Param.Members.{Mut}
use denote.Param.Table.{Table}
use denote.Param.Object.{Made, read_made}
use borrow.Pointer.Called.{made_asks, made_tells}
use borrow.Pointer.Entry.{sure}
use Rattle.chi_sched.specs.Policies.{IsAsked, Lawful}

-- a question and the count of its choices, as a call passes them
abbrev Passed : Type 0
Passed = ℕ × (ℕ × Unit {0})

module _ (T : Table (λ X. Mut X Passed ℕ) Dict) (at : T.I) {i : T.I} {y : (T.entry i).0.Denot} {x : (T.entry at).0.Denot}
    (made : Made (λ j. (T.entry j).0.coded.code) (T.entry at).0.coded.code at i y x) where
  pub gives_box : (question count answer : ℕ) → (T.entry at).1.post x (question, (count, tt)) answer
      → (T.entry i).1.post y (question, (count, tt)) answer
  gives_box question count answer = subst (λ (P : Type 0). P) (sym (read_made T (T.entry at) at refl (Type 0)
      (λ j v. j.1.post v (question, (count, tt)) answer) i y x made))

  pub lawful_box : (pick : ℕ → ℕ → ℕ) → ((question count : ℕ) → IsAsked question count → (T.entry at).1.pre x (question, (count, tt)))
      → ((question count : ℕ) → IsAsked question count → pick question count < count)
      → ((question count : ℕ) → IsAsked question count → (T.entry at).1.post x (question, (count, tt)) (pick question count))
      → ((question count answer : ℕ) → IsAsked question count → (T.entry at).1.post x (question, (count, tt)) answer → answer ≡ pick question count)
      → Lawful (λ question count. (sure (T.entry i).1).pre y (question, (count, tt))) (λ question count. (T.entry i).1.post y (question, (count, tt)))
  lawful_box pick callable below answers only = record {
    callable = λ question count asked. made_asks T (T.entry at) at refl made (question, (count, tt)) (callable question count asked);
    pick = pick;
    below = below;
    answers = λ question count asked. gives_box question count (pick question count) (answers question count asked);
    only = λ question count answer asked fits gives. only question count answer asked
        (made_tells T (T.entry at) at refl made (question, (count, tt)) answer gives);
  }

pub read_alike : {A B : Type 0} {x y : A} → x ≡ y → (read : A → B) → read x ≡ read y
read_alike same read = ap read same

pub told_alike : {A : Type 0} {x y : A} → x ≡ y → (Told : A → Type 0) → Told x → Told y
told_alike same Told = subst Told same
