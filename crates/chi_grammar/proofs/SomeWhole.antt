-- All the tokens leave a parser an exact answer.
use Rattle.std.proofs.Common.{◌≡◌, ℕ, ◌<◌, ◌≤◌, true, Ok, Err, Result, List, length, ◌⊎◌, inl, inr, refl, arith}
use Rattle.std.proofs.lemmas.Bool.{cases_lt}
use Rattle.chi_grammar.specs.declared.fault.ParseFault.{ParseFault}
use Rattle.chi_grammar.specs.declared.fault.ParseFault.TheVariants.{Syntax, TooDeep, NoMemory}
use Rattle.chi_grammar.specs.declared.room.Room.{Room}
use Rattle.chi_grammar.specs.Rules.{Tree, Rule, Grammar}
use Rattle.chi_grammar.specs.Exact.{Parses, ParsesAll}
use Rattle.chi_grammar.specs.Lookahead.{Table}
use Rattle.chi_grammar.specs.Fine.{Fine, is_decided}
use Rattle.chi_grammar.proofs.Decided.{decided}
use Rattle.chi_grammar.proofs.Exits.{read}
use Rattle.chi_grammar.proofs.Exact.{parses, all_read, more_left, all_failed}
use Rattle.chi_grammar.proofs.Ends.{OfTokens, Ends, done, fails, ends}

-- an exact answer that isn't want of memory
pub record Answer {A S T : Type 0} (g : Grammar A S) (tokens : List A) (view : Tree A S → T) (room : Room) (r : Rule A S) : Type 0 where
  pub answer : Result T ParseFault
  pub remembers : answer ≡ Err NoMemory → ⊥
  pub exact : ParsesAll g tokens view room r answer

pub some_whole : {A S T : Type 0} (g : Grammar A S) (table : Table S) → Fine g table → (r : Rule A S) → is_decided table r ≡ true
    → (view : Tree A S → T) (tokens : List A) (room : Room) → Answer g tokens view room r
some_whole {A} {S} {T} g table fine r d view tokens room = by (ends g table fine tokens room r 0 (decided table r d) (omega arith))
  where
    remembers_fault : (fault : ParseFault) → OfTokens fault → ◌≡◌ {A = Result T ParseFault} (Err fault) (Err NoMemory) → ⊥
    remembers_fault (Syntax k) told e = cc
    remembers_fault (TooDeep k) told e = cc
    remembers_fault NoMemory told e = absurd told

    by_end : (shown : T) (k : ℕ) → k ≤ length tokens → Parses g tokens view room r 0 (Ok (shown, k)) → (k < length tokens) ⊎ (length tokens ≤ k)
        → Answer g tokens view room r
    by_end shown k inside p (inl left) =
        record { answer = Err (Syntax k); remembers = λ e. cc; exact = more_left g tokens r view room shown k p left }
    by_end shown k inside p (inr past) =
        record { answer = Ok shown; remembers = λ e. cc; exact = all_read g tokens r view room shown k p (omega arith) }

    by : Ends g table fine tokens room r 0 → Answer g tokens view room r
    by (fails fault told run) = record {
      answer = Err fault;
      remembers = remembers_fault fault told;
      exact =
          all_failed g tokens r view view room (Err fault) fault refl
          (parses g table fine view tokens room r d 0 (omega arith) (Err fault) run);
    }
    by (done t k run) =
        let reads = read g table tokens view (omega arith) run refl in
        by_end (view t) k reads.inside (parses g table fine view tokens room r d 0 (omega arith) (Ok (view t, k)) reads) (cases_lt k (length tokens))
