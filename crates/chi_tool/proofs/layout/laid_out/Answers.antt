use Rattle.std.proofs.Common.{ℕ, List, Err, ◌∙◌, ap}
use Rattle.chi_fmt.specs.Layout.{layout}
use Rattle.chi_tool.specs.Refusals.{Report}
use Rattle.chi_tool.specs.Report.{laid_out}
use Rattle.chi_tool.proofs.Layouts.{too_long_told}
use Rattle.chi_tool.proofs.layout.laid_out.Goals as goal

pub returns-in-Ok : goal.returns-in-Ok
returns-in-Ok c =
    let with_log : List ℕ → Report = λ log. record { status = 0; out = c.in-Ok.text.items; log = log } in
    laid_out c.in-Ok.text.items
    (record {
      tree = c.args.tree.now;
      written = record { tokens = c.args.tokens.now; read = c.requires.read; parsed = c.requires.parsed };
      is = c.in-Ok.ensures.text ∙ ap (layout c.args.tree.now) (c.deref.ensures.value ∙ c.in_ok-comments.ensures);
    })
    c.in-Ok.ensures.within (ap with_log c.new.ensures.items)

pub returns-in-Err-TooLong : goal.returns-in-Err-TooLong
returns-in-Err-TooLong c =
    too_long_told c.args.source.now c.args.tokens.now c.args.tree.now _ c.one_line.result c.requires.read c.requires.parsed (c.deref.ensures.value ∙ c.in_ok-comments.ensures)
    (c.in-Err-TooLong.ensures.too_long (ap (λ f. Err f) c.in-Err-TooLong.field-0-is)) c.one_line.ensures
