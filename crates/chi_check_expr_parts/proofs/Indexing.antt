-- Private to proofs. An index by what it takes.
use Rattle.std.proofs.Common.{◌≡◌, Option, None, refl}
use Rattle.chi_types.specs.declared.ty.Ty.{Ty, Ty-F}
use Rattle.chi_check_types.specs.declared.meant.Made.{Made}
use Rattle.chi_check_expr_rules.specs.declared.parts.Contents.{Contents}
use Rattle.chi_check_expr_rules.specs.declared.parts.Contents.TheVariants as what
use Rattle.chi_check_expr_rules.specs.Parts.{element_at, looked_up, contents_of, indexed_by}

abbrev pub indexed_in : Contents → Made → Made → Option Made
indexed_in (what.Element element) whole index = element_at element whole index
indexed_in (what.Entry key value) whole index = looked_up key value whole index
indexed_in what.Nothing whole index = None

pub indexed_by_contents : (layer : Ty-F Ty) (whole index : Made) → indexed_by layer whole index ≡ indexed_in (contents_of layer) whole index
indexed_by_contents (Ty-F.ListOf element) whole index = refl
indexed_by_contents Ty-F.Text whole index = refl
indexed_by_contents (Ty-F.DictOf key value) whole index = refl
indexed_by_contents _ whole index = refl
