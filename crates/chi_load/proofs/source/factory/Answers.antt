-- What is formatted is the source, but for how its parts are grouped.
use Rattle.std.proofs.Common.{◌+◌, ◌≤◌, ◌∙◌, ◌++◌, codes, ap, length, subst, sym}
use Rattle.std.specs.Fmt.{decimal}
use Rattle.chi_load.specs.Factory.{processes}
use Rattle.chi_load.proofs.Grouped.{grouped}
use Rattle.chi_load.proofs.Short.{source_short}
use Rattle.chi_load.proofs.source.factory.Goals as goal

pub returns-clause-source : goal.returns-clause-source
returns-clause-source c =
    ap (λ v. v.items) c.into_bytes.ensures.value
    ∙ c.in_ok-source.ensures.ok
    ∙ ap (λ tail. processes ++ codes "model int M():\n  list(" ++ tail)
    (grouped (decimal (c.args.n + 1)) (codes ") chan int c;\n") (codes "  run G(c[0], 100), unwind i in range(") (decimal c.args.n)
    (codes "): W(c[i], c[i + 1], 1.0) end, E(c[") (codes "], 100)\n") (codes "end\n"))

pub returns-clause-short : goal.returns-clause-short
returns-clause-short c = subst (λ source. length source ≤ 1_024) (sym (returns-clause-source c)) (source_short c.args.n c.requires.most)
