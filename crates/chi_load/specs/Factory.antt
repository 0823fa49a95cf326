-- The source of a factory of machines in a row: a generator sends a hundred lots through them, and an exit counts them.
use Rattle.std.specs.Prelude.{ℕ, ◌+◌, List, ◌++◌, codes}
use Rattle.std.specs.Fmt.{decimal}

-- the generator, a machine and the exit
abbrev pub processes : List ℕ
processes =
    codes "proc G(chan! int a; int n):\n"
    ++ codes "  for i in range(n): a!i end\n"
    ++ codes "end\n"
    ++ codes "proc W(chan? int a; chan! int b; real d):\n"
    ++ codes "  int x;\n"
    ++ codes "  while true: a?x; delay d; b!x end\n"
    ++ codes "end\n"
    ++ codes "proc int E(chan? int a; int n):\n"
    ++ codes "  int x;\n"
    ++ codes "  for i in range(n): a?x end;\n"
    ++ codes "  writeln(\"%d lots\", n);\n"
    ++ codes "  exit n\n"
    ++ codes "end\n"

-- so many machines, between one channel more
abbrev pub factory_source : ℕ → List ℕ
factory_source n =
    processes
    ++ codes "model int M():\n"
    ++ codes "  list(" ++ decimal (n + 1) ++ codes ") chan int c;\n"
    ++ codes "  run G(c[0], 100), unwind i in range(" ++ decimal n ++ codes "): W(c[i], c[i + 1], 1.0) end, E(c[" ++ decimal n ++ codes "], 100)\n"
    ++ codes "end\n"
