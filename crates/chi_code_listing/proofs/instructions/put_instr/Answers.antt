use Rattle.std.proofs.Common.{◌∙◌, ◌++◌, ap, sym}
use Rattle.std.specs.Prelude.{codes}
use Rattle.std.specs.Fmt.{decimal}
use Rattle.chi_code_listing.specs.Listing.{slots_text, instr_text}
use Rattle.chi_code_listing.proofs.Written.{offered_text}
use Rattle.chi_code_listing.proofs.instructions.put_instr.Goals as goal

pub returns-in_ok-offered-in-ReceiveVoid : goal.returns-in_ok-offered-in-ReceiveVoid
returns-in_ok-offered-in-ReceiveVoid c = record {
  ok = offered_text c.args.out.now.items _ (codes "receivevoid ") (decimal c.in-ReceiveVoid.goal) (slots_text c.in-ReceiveVoid.slots) c.in_ok-offered-in-ReceiveVoid.ensures.ok
      ∙ ap (λ x. c.args.out.now.items ++ instr_text c.args.names.now.kinds x) (sym c.in-ReceiveVoid.is);
}
