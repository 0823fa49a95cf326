use Rattle.std.proofs.Common.{◌≡◌, ◌+◌, ◌≤◌, false, drop}
use Rattle.chi_explain_counts.specs.Statements.{codes_from}
use Rattle.chi_explain_counts.proofs.statements.code_count.Given as goal

abbrev pub invariant-loop-byte : goal.invariant-loop-byte
invariant-loop-byte l = record {
  few : l.count ≤ l.byte-index;
  counted : codes_from false l.fn.format ≡ l.count + codes_from l.before (drop l.byte-index l.format);
}
