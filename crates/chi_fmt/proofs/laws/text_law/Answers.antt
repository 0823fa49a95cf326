use Rattle.std.proofs.Common.{refl}
use Rattle.chi_fmt.specs.Pages.{lines_text}
use Rattle.chi_fmt.specs.Reread.{kept_spelling, moved}
use Rattle.chi_fmt.proofs.LineScans.{lines-scan}
use Rattle.chi_fmt.proofs.Scans.{scanned}
use Rattle.chi_fmt.proofs.Settled.{again}
use Rattle.chi_fmt.proofs.laws.text_law.Goals as goal

pub returns-clause-reads : goal.returns-clause-reads
returns-clause-reads c = λ lines comments rows are.
    let text = lines_text 0 lines comments in
    let s = scanned text 0 (kept_spelling lines) (moved 0 0 lines comments) (lines-scan lines comments 0 0 rows are) text 0 refl in
    (s.read, s.reads, s.same, s.found)

pub returns-clause-again : goal.returns-clause-again
returns-clause-again c = λ lines comments have. again lines comments 0 0 have
