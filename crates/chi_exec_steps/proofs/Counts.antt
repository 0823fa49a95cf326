-- How many values a repetition has.
use Rattle.std.proofs.Common.{◌≡◌, ◌≢◌, ℕ, ◌≤◌, ◌<◌, pos, negsuc, nat_le, Some, None, true, false, cond, ap, ◌∙◌, arith}
use Rattle.chi_value.specs.declared.value.TheConstants.{MOST_ELEMENTS}
use Rattle.chi_value.specs.declared.value.Value.{Value, Value-F, out-Value}
use Rattle.chi_core.specs.declared.fault.FaultKind.TheVariants.{TooLarge}
use Rattle.chi_core.specs.declared.view.View.{View}
use Rattle.chi_core.specs.Answer.{Gives, Fails, Amiss}
use Rattle.chi_core.specs.Reading.{int_in, int_of}
use Rattle.chi_exec_law.specs.Instructions.{count_in}

int_in_there : (o : Value-F Value) (view : View) → count_in o view ≢ Amiss → int_in o ≢ None
int_in_there (Value-F.Int n) view h e = absurd (cc)
int_in_there _ view h e = h (λ i. Amiss)

pub int_there : (v : Value) (view : View) → count_in (out-Value v) view ≢ Amiss → int_of v ≢ None
int_there v view h = int_in_there (out-Value v) view h

few_in : (o : Value-F Value) (n : ℕ) (view : View) → int_in o ≡ Some (pos n) → n ≤ MOST_ELEMENTS → count_in o view ≡ Gives n view
few_in (Value-F.Int (pos k)) n view e le =
    let same : k ≡ n = cc in
    let fits : nat_le k MOST_ELEMENTS ≡ true = grind arith in
    ap (λ b. cond b (Gives k view) (Fails TooLarge)) fits ∙ ap (λ k. Gives k view) same
few_in (Value-F.Int (negsuc k)) n view e le = absurd (cc)
few_in _ n view e le = absurd (cc)

pub few : (v : Value) (n : ℕ) (view : View) → int_of v ≡ Some (pos n) → n ≤ MOST_ELEMENTS → count_in (out-Value v) view ≡ Gives n view
few v n view = few_in (out-Value v) n view

many_in : (o : Value-F Value) (view : View) → count_in o view ≢ Amiss → ((n : ℕ) → int_in o ≡ Some (pos n) → MOST_ELEMENTS < n) → count_in o view ≡ Fails TooLarge
many_in (Value-F.Int (pos k)) view h past =
    let l : MOST_ELEMENTS < k = past k (λ i. Some (pos k)) in
    let over : nat_le k MOST_ELEMENTS ≡ false = grind arith in
    ap (λ b. cond b (Gives k view) (Fails TooLarge)) over
many_in (Value-F.Int (negsuc k)) view h past = λ i. Fails TooLarge
many_in _ view h past = absurd (h (λ i. Amiss))

pub many : (v : Value) (view : View) → count_in (out-Value v) view ≢ Amiss → ((n : ℕ) → int_of v ≡ Some (pos n) → MOST_ELEMENTS < n) → count_in (out-Value v) view ≡ Fails TooLarge
many v view = many_in (out-Value v) view

pub ruleset counting = (int_there, few, many)
