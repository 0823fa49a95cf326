-- The line of an ending is one line, and begins with a letter.
use Rattle.std.proofs.Common.{◌≡◌, ℕ, pos, ◌≤◌, Bool, true, List, [], ◌∷◌, ◌++◌, map, Option, Some, None, sym, ap, subst, refl, arith}
use Rattle.std.specs.Fmt.{decimal, signed_decimal}
use Rattle.std.specs.Prelude.{codes, slice_get, unwrap_or, option_and_then}
use Rattle.chi_num.specs.RealText.{real_text_of}
use Rattle.chi_value.specs.declared.value.Value.{Value, Value-F, ind-Value, roll-Value, fold-roll-Value, map-Value}
use Rattle.chi_value.specs.Names.{name_of}
use Rattle.chi_value.specs.Text.{each_after, joined_by, bracketed, truth_text, Written, written, written_step, alone, entry, quoted_text}
use Rattle.chi_core.specs.declared.fault.FaultKind.{FaultKind}
use Rattle.chi_core.specs.declared.fault.FaultKind.TheVariants.{IntRange, RealRange, DivideByZero, BadPower, IndexRange, KeyMissing, EmptyPop, TooLarge, SliceStep, BadText, CallDepth, NoReturn, NegativeDelay, BadDistribution, TooManyInstances, TooManyChannels}
use Rattle.chi_core.specs.declared.program.Core.{Core}
use Rattle.chi_core.specs.declared.verdict.Verdict.{Verdict}
use Rattle.chi_core.specs.declared.verdict.Verdict.TheVariants.{Completed, Exit, Deadlock, Fault, OutOfSteps, Stopped}
use Rattle.chi_core.specs.Fault.{kind_name}
use Rattle.chi_core.specs.Kinds.{Every}
use Rattle.chi_core.specs.Options.{Ending}
use Rattle.chi_core.specs.Sound.{SoundEnumeration}
use Rattle.chi_core.specs.VerdictLine.{verdict_text, verdict_line_of}
use Rattle.chi_trace.specs.Ends.{OneLine}
use Rattle.chi_trace.proofs.OneLine.{head_of, one-append}
use Rattle.chi_trace_events.proofs.Lines.{told_int, told_name, told_real, told_string}
use Rattle.chi_trace_events.proofs.Shown.{InLine}
use Rattle.chi_log.specs.Allowed.{ending_line}
use Rattle.chi_log.specs.Reading.{IsLine}
use Rattle.chi_log.proofs.Lines.{line_of_one}

-- texts in one line, one after another
data Lines : List (List ℕ) → Type 0 where
  no_line : Lines []
  line_before : (text : List ℕ) (texts : List (List ℕ)) → OneLine text → Lines texts → Lines (text ∷ texts)

one_after : (between : List ℕ) (texts : List (List ℕ)) → OneLine between → Lines texts → OneLine (each_after between texts)
one_after between [] b no_line = refl
one_after between (text ∷ texts) b (line_before _ _ t ts) =
    one-append (between ++ text) (each_after between texts) (one-append between text b t) (one_after between texts b ts)

one_joined : (between : List ℕ) (texts : List (List ℕ)) → OneLine between → Lines texts → OneLine (joined_by between texts)
one_joined between [] b no_line = refl
one_joined between (text ∷ texts) b (line_before _ _ t ts) = one-append text (each_after between texts) t (one_after between texts b ts)

one_bracketed : (opening : List ℕ) (texts : List (List ℕ)) (closing : List ℕ) → OneLine opening → OneLine closing → Lines texts
    → OneLine (bracketed opening texts closing)
one_bracketed opening texts closing o c ts =
    one-append (opening ++ joined_by (codes ", ") texts) closing (one-append opening (joined_by (codes ", ") texts) o (one_joined (codes ", ") texts refl ts)) c

-- a value that is written in one line, where enumeration values have names
module _ (names : List (List (List ℕ))) (enumerations : Every SoundEnumeration names) where
  abbrev Held : Type 0
  Held = (v : Value) × InLine (written names v)

  abbrev value_of : Held → Value
  value_of held = held.0

  all_alone : (xs : List Held) → Lines (map alone (map (written names) (map value_of xs)))
  all_alone [] = no_line
  all_alone (x ∷ xs) = line_before (written names x.0).alone (map alone (map (written names) (map value_of xs))) x.1.alone (all_alone xs)

  all_entries : (xs : List Held) → Lines (map entry (map (written names) (map value_of xs)))
  all_entries [] = no_line
  all_entries (x ∷ xs) = line_before (written names x.0).entry (map entry (map (written names) (map value_of xs))) x.1.entry (all_entries xs)

  one_name : (kind position : ℕ) → OneLine (name_of names kind position)
  one_name kind position = by (slice_get names kind) refl
    where
      named : (positions : List (List ℕ)) → slice_get names kind ≡ Some positions → (o : Option (List ℕ)) → slice_get positions position ≡ o
          → OneLine (unwrap_or o [])
      named positions at None e = refl
      named positions at (Some name) e = (told_name name ((enumerations kind positions at).named position name e)).one

      by : (o : Option (List (List ℕ))) → slice_get names kind ≡ o
          → OneLine (unwrap_or (option_and_then (λ positions. slice_get positions position) o) [])
      by None at = refl
      by (Some positions) at = named positions at (slice_get positions position) refl

  truth_line : (b : Bool) → OneLine (truth_text b)
  truth_line true = refl
  truth_line _ = refl

  only_line : (text : List ℕ) → OneLine text → InLine (record { alone = text; entry = [] })
  only_line text t = record { alone = t; entry = refl }

  in_line : (y : Value-F Held) → InLine (written_step names (map-Value Value Written (written names) (map-Value Held Value value_of y)))
  in_line (Value-F.Bool b) = only_line (truth_text b) (truth_line b)
  in_line (Value-F.Int n) = only_line (signed_decimal n) (told_int n).one
  in_line (Value-F.Real n) = only_line (real_text_of n) (told_real n).one
  in_line (Value-F.Text bytes) = only_line _ (told_string bytes).one
  in_line (Value-F.Choice kind position) = only_line (name_of names kind position) (one_name kind position)
  in_line (Value-F.TupleOf xs) = record {
    alone = one_bracketed (codes "(") _ (codes ")") refl refl (all_alone xs);
    entry = one_joined (codes ": ") _ refl (all_alone xs);
  }
  in_line (Value-F.ListOf xs) = record { alone = one_bracketed (codes "[") _ (codes "]") refl refl (all_alone xs); entry = refl }
  in_line (Value-F.SetOf xs) = record { alone = one_bracketed (codes "{") _ (codes "}") refl refl (all_alone xs); entry = refl }
  in_line (Value-F.DictOf xs) = record { alone = one_bracketed (codes "{") _ (codes "}") refl refl (all_entries xs); entry = refl }
  in_line _ = only_line [] refl

  value_line : (v : Value) → InLine (written names v)
  value_line = ind-Value (λ v. InLine (written names v)) (λ x y e. subst (λ x. InLine (written names (roll-Value x))) e
      (subst InLine (sym (fold-roll-Value Written (written_step names) (map-Value Held Value value_of y))) (in_line y)))

  one_value : (v : Value) → OneLine (quoted_text names v)
  one_value v = (value_line v).alone

-- verdicts

kind_line : (kind : FaultKind) → OneLine (kind_name kind)
kind_line IntRange = refl
kind_line RealRange = refl
kind_line DivideByZero = refl
kind_line BadPower = refl
kind_line IndexRange = refl
kind_line KeyMissing = refl
kind_line EmptyPop = refl
kind_line TooLarge = refl
kind_line SliceStep = refl
kind_line BadText = refl
kind_line CallDepth = refl
kind_line NoReturn = refl
kind_line NegativeDelay = refl
kind_line BadDistribution = refl
kind_line TooManyInstances = refl
kind_line TooManyChannels = refl

-- the name in a fault is in one line
abbrev pub IsNamedInLine : Verdict → Type 0
IsNamedInLine (Fault kind name line) = OneLine name
IsNamedInLine _ = Unit {0}

number_line : (n : ℕ) → OneLine (decimal n)
number_line n = (told_int (pos n)).one

verdict_in_line : (names : List (List (List ℕ))) → Every SoundEnumeration names → (verdict : Verdict) → IsNamedInLine verdict → OneLine (verdict_text names verdict)
verdict_in_line names enumerations Completed is = refl
verdict_in_line names enumerations (Exit None) is = refl
verdict_in_line names enumerations (Exit (Some v)) is = one-append (codes "exit ") (quoted_text names v) refl (one_value names enumerations v)
verdict_in_line names enumerations Deadlock is = refl
verdict_in_line names enumerations (Fault kind name line) is =
    one-append (codes "fault " ++ kind_name kind ++ codes " in " ++ name ++ codes " line ") (decimal line)
    (one-append (codes "fault " ++ kind_name kind ++ codes " in " ++ name) (codes " line ")
    (one-append (codes "fault " ++ kind_name kind ++ codes " in ") name
    (one-append (codes "fault " ++ kind_name kind) (codes " in ") (one-append (codes "fault ") (kind_name kind) refl (kind_line kind)) refl)
    is) refl)
    (number_line line)
verdict_in_line names enumerations OutOfSteps is = refl
verdict_in_line names enumerations Stopped is = refl

pub ending_in_line : (core : Core) → Every SoundEnumeration core.names.kinds → (end : Ending) → IsNamedInLine end.verdict → IsLine (ending_line core end)
unfolding verdict_line_of
ending_in_line core enumerations end is =
    line_of_one (verdict_text core.names.kinds end.verdict ++ codes " at time " ++ real_text_of end.clock)
    (one-append (verdict_text core.names.kinds end.verdict ++ codes " at time ") (real_text_of end.clock)
    (one-append (verdict_text core.names.kinds end.verdict) (codes " at time ") (verdict_in_line core.names.kinds enumerations end.verdict is) refl)
    (told_real end.clock).one)

-- what it begins with is no digit

abbrev head_verdict : Verdict → ℕ
head_verdict Completed = 99
head_verdict (Exit v) = 101
head_verdict Deadlock = 100
head_verdict (Fault kind name line) = 102
head_verdict OutOfSteps = 111
head_verdict Stopped = 115

verdict_head : (names : List (List (List ℕ))) (verdict : Verdict) → (more : List ℕ) × (verdict_text names verdict ≡ head_verdict verdict ∷ more)
verdict_head names Completed = (_, refl)
verdict_head names (Exit None) = (_, refl)
verdict_head names (Exit (Some v)) = (_, refl)
verdict_head names Deadlock = (_, refl)
verdict_head names (Fault kind name line) = (_, refl)
verdict_head names OutOfSteps = (_, refl)
verdict_head names Stopped = (_, refl)

head_small : (verdict : Verdict) → 97 ≤ head_verdict verdict
head_small Completed = omega arith
head_small (Exit v) = omega arith
head_small Deadlock = omega arith
head_small (Fault kind name line) = omega arith
head_small OutOfSteps = omega arith
head_small Stopped = omega arith

pub ending_head : (core : Core) (end : Ending) → 97 ≤ head_of (ending_line core end)
unfolding verdict_line_of
ending_head core end =
    let h = verdict_head core.names.kinds end.verdict in
    let same : head_of (ending_line core end) ≡ head_verdict end.verdict
    = ap (λ (text : List ℕ). head_of (text ++ codes " at time " ++ real_text_of end.clock ++ 10 ∷ [])) h.1 in
    let small = head_small end.verdict in
    omega arith
