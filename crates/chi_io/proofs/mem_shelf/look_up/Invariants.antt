use Rattle.std.proofs.Common.{◌≡◌, drop}
use Rattle.chi_io.specs.MemShelfState.{files_of, contents}
use Rattle.chi_io.proofs.mem_shelf.look_up.Given as goal

-- no file so far has the name
abbrev pub invariant-loop-file : goal.invariant-loop-file
invariant-loop-file l = contents (files_of (drop l.file-index l.files)) l.name ≡ contents (files_of l.files) l.name
