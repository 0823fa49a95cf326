-- What a sink took: all, a front, or nothing; and what it took in two uses in turn.
use Rattle.std.proofs.Common.{◌≡◌, ℕ, ◌<◌, ◌≤◌, Bool, List, [], ◌++◌, Option, Some, None, length, ap, refl, sym, ◌∙◌, arith, length-append, append-nil, append_assoc}
use Rattle.std.specs.Prelude.{IsSomeAnd}
use Rattle.chi_io.specs.Sink.{Grew}
use Rattle.chi_io.specs.Counts.{Rose}
use Rattle.chi_io.proofs.Passed.{Grew-append}
use Rattle.chi_tool.specs.Call.{SinkUse, sink_use, Took, TookFront, TookSome}
use Rattle.chi_tool.specs.Delivery.{TookWhole, TookPart, BrokeOff, Delivers, whole, out_broke, log_broke}

pub whole_front : (sink : SinkUse) (bytes : List ℕ) → Took sink bytes → TookFront sink bytes
whole_front sink bytes took = (bytes, ([], append-nil bytes), took)

pub none_front : (sink : SinkUse) (bytes : List ℕ) → Took sink [] → TookFront sink bytes
none_front sink bytes took = ([], (bytes, refl), took)

pub broken_front : (sink : SinkUse) (bytes : List ℕ) → BrokeOff sink bytes → TookFront sink bytes
broken_front sink bytes b = (b.took.0, (b.took.1.0, b.took.1.1), b.took.2)

-- a sink that took nothing took no byte
pub none_some : (sink : SinkUse) → Took sink [] → TookSome sink → ⊥
none_some sink took some = go sink.before sink.after took some
  where
    go : (before after : Option (List ℕ)) → Grew before after []
        → IsSomeAnd before (λ old. (front : List ℕ) × (0 < length front) × (after ≡ Some (old ++ front))) → ⊥
    go None after grew some' = some'
    go (Some old) after grew some' =
        let same : old ++ [] ≡ old ++ some'.0 = cc in
        let lengths : length (old ++ []) ≡ length (old ++ some'.0) = ap length same in
        let l = some'.1 in
        omega (arith, simp length-append at lengths)

-- no less than nothing can be taken
pub none_whole : (sink : SinkUse) → BrokeOff sink [] → ⊥
none_whole sink b =
    let rest : List ℕ = b.took.1.0 in
    let lengths : length (b.took.0 ++ rest) ≡ 0 = ap length b.took.1.1 in
    let l = b.took.1.2 in
    omega (arith, simp length-append at lengths)

-- a sink that isn't put to took nothing
pub still : (tells : Option (List ℕ)) → Grew tells tells []
still None = refl
still (Some bytes) = ap Some (sym (append-nil bytes))

-- a sink that took nothing took a front of whatever
pub none_part : (sink : SinkUse) (bytes : List ℕ) → TookWhole sink [] → TookPart sink bytes
none_part sink bytes none = record { took = none_front sink bytes none.took; goes = none.goes }

-- a count that rose later rose
rose_then : (first between last : ℕ) → first ≤ between → Rose between last → Rose first last
rose_then first between last least rose = omega arith

-- after a use in which it took all, a sink took more
module _ {S : Type 0} (taken : S → Option (List ℕ)) (faults : S → ℕ) (stopped : S → Bool) (old mid new : S) (count : faults old ≤ faults mid) (bytes more : List ℕ)
    (first : TookWhole (sink_use taken faults stopped old mid) bytes) where
  whole_then : TookWhole (sink_use taken faults stopped mid new) more → TookWhole (sink_use taken faults stopped old new) (bytes ++ more)
  whole_then w = record { took = Grew-append (taken old) (taken mid) (taken new) bytes more first.took w.took; goes = w.goes }

  broken_then : BrokeOff (sink_use taken faults stopped mid new) more → BrokeOff (sink_use taken faults stopped old new) (bytes ++ more)
  broken_then b =
      let front : List ℕ = b.took.0 in
      let rest : List ℕ = b.took.1.0 in
      let joined : (bytes ++ front) ++ rest ≡ bytes ++ more = append_assoc bytes front rest ∙ ap (λ x. bytes ++ x) b.took.1.1 in
      record {
        took = (bytes ++ front, (rest, joined, b.took.1.2), Grew-append (taken old) (taken mid) (taken new) bytes front first.took b.took.2);
        rose = rose_then (faults old) (faults mid) (faults new) count b.rose;
        stopped = b.stopped;
      }

  pub delivers_then : (status : ℕ) (lines : List ℕ) (result : ℕ) (log : SinkUse) → Delivers status more lines result (sink_use taken faults stopped mid new) log
      → Delivers status (bytes ++ more) lines result (sink_use taken faults stopped old new) log
  delivers_then status lines result log (whole s o l) = whole s (whole_then o) l
  delivers_then status lines result log (out_broke s o l) = out_broke s (broken_then o) l
  delivers_then status lines result log (log_broke s o l) = log_broke s (whole_then o) l
