-- Private to proofs. The names of all definitions: what each means, where no name is taken.
use Rattle.std.proofs.Common.{ℕ, ◌≡◌, ◌+◌, Bool, true, false, cond, List, [], ◌∷◌, map, Option, Some, None}
use Rattle.chi_tree.specs.declared.definition.Definition.{Definition}
use Rattle.chi_tree.specs.declared.definition.Definition.TheVariants as definition
use Rattle.chi_tree.specs.declared.type_tree.Name.{Name}
use Rattle.chi_check_types.specs.declared.known.Known.{Known}
use Rattle.chi_check_types.specs.declared.known.Known.TheVariants as known
use Rattle.chi_check_types.specs.declared.known.NameKind.TheVariants as kind
use Rattle.chi_check_types.specs.Names.{Names, known_in}
use Rattle.chi_check_expr.proofs.Nodes.{left_nil, right_nil}
use Rattle.chi_check.specs.Below.chi_check_stat_lines.specs.Stated.{Turn, in_turn}
use Rattle.chi_check.specs.Below.chi_check_stat_lines.specs.States.{is_taken, new_name_rule, with_name}
use Rattle.chi_check.specs.Below.chi_check_headers.specs.declared.sketch.Sketch.{Sketch}
use Rattle.chi_check.specs.Below.chi_check_headers.specs.Definitions.{early_known, named_early, values_from, enumeration_named, sketching}
use Rattle.chi_check_laws.proofs.Entries.{Entries, entries_with}
use Rattle.chi_check_laws.proofs.Lookups.{Extends, extends_same, extends_on, extends_with, fresh_known}
use Rattle.chi_check_laws.proofs.Shaped.{Fine, choice_shape}
use Rattle.chi_check_laws.proofs.ProgramTurns.{Keeps, EachKeeps, turns_keep, each_keeps}
use Rattle.chi_check_laws.proofs.WholeHeaders.{mapped_comes}

-- ---- what is known stays known

abbrev Leads : {A : Type 0} → Turn Sketch A → Type 0
Leads f = (s : Sketch) → Extends s.all (f s).next.all

abbrev EachLeads : {A : Type 0} → List (Turn Sketch A) → Type 0
EachLeads [] = Unit {0}
EachLeads (f ∷ fs) = Leads f × EachLeads fs

turns_lead : {A : Type 0} (fs : List (Turn Sketch A)) → EachLeads fs → Leads (in_turn fs)
turns_lead [] h s = extends_same s.all
turns_lead (f ∷ fs) h s = extends_on s.all (f s).next.all (in_turn fs (f s).next).next.all (h.0 s) (turns_lead fs h.1 (f s).next)

values_lead : (enumeration position : ℕ) (values : List Name) → EachLeads (values_from enumeration position values)
values_lead enumeration position [] = tt
values_lead enumeration position (value ∷ values) = (λ s. extends_with s.all value.text (known.Value enumeration position), values_lead enumeration (position + 1) values)

enumeration_leads : (name : Name) (values : List Name) → Leads (enumeration_named name values)
enumeration_leads name values s =
    let first = named_early name s.enumerations None s in
    extends_on s.all first.all (in_turn (values_from s.enumerations 0 values) first).next.all (extends_with s.all name.text (early_known s.enumerations None)) (turns_lead (values_from s.enumerations 0 values) (values_lead s.enumerations 0 values) first)

sketching_leads : (d : Definition) → Leads (sketching d)
sketching_leads (definition.Enum place name values) s = enumeration_leads name values s
sketching_leads (definition.Const place tree name equals value) s = extends_with s.all name.text (known.Untyped kind.Constant)
sketching_leads (definition.TypeWord place name tree) s = extends_with s.all name.text (known.Untyped kind.Type)
sketching_leads (definition.Func place tree name formals steps) s = extends_with s.all name.text (known.Untyped kind.Function)
sketching_leads (definition.Proc place tree name formals steps) s = extends_with s.all name.text (known.Untyped kind.Process)
sketching_leads (definition.Model place tree name formals steps) s = extends_with s.all name.text (known.Untyped kind.Model)
sketching_leads (definition.Xper place name steps) s = extends_with s.all name.text (known.Xper s.experiments)

each_leads : (ds : List Definition) → EachLeads (map sketching ds)
each_leads [] = tt
each_leads (d ∷ ds) = (sketching_leads d, each_leads ds)

-- ---- what the name of a definition means

abbrev pub Named : Names → Definition → Type 0
Named all (definition.Enum place name values) = Unit {0}
Named all (definition.Const place tree name equals value) = Unit {0}
Named all (definition.TypeWord place name tree) = Unit {0}
Named all (definition.Func place tree name formals steps) = known_in all name.text ≡ Some (known.Untyped kind.Function)
Named all (definition.Proc place tree name formals steps) = known_in all name.text ≡ Some (known.Untyped kind.Process)
Named all (definition.Model place tree name formals steps) = known_in all name.text ≡ Some (known.Untyped kind.Model)
Named all (definition.Xper place name steps) = (number : ℕ) × (known_in all name.text ≡ Some (known.Xper number))

abbrev pub EachNamed : Names → List Definition → Type 0
EachNamed all [] = Unit {0}
EachNamed all (d ∷ ds) = Named all d × EachNamed all ds

named_kept : (a b : Names) → Extends a b → (d : Definition) → Named a d → Named b d
named_kept a b f (definition.Enum place name values) h = tt
named_kept a b f (definition.Const place tree name equals value) h = tt
named_kept a b f (definition.TypeWord place name tree) h = tt
named_kept a b f (definition.Func place tree name formals steps) h = f name.text (known.Untyped kind.Function) h
named_kept a b f (definition.Proc place tree name formals steps) h = f name.text (known.Untyped kind.Process) h
named_kept a b f (definition.Model place tree name formals steps) h = f name.text (known.Untyped kind.Model) h
named_kept a b f (definition.Xper place name steps) h = (h.0, f name.text (known.Xper h.0) h.1)

named_now : (d : Definition) (s : Sketch) → (sketching d s).faults ≡ [] → Named (sketching d s).next.all d
named_now (definition.Enum place name values) s e = tt
named_now (definition.Const place tree name equals value) s e = tt
named_now (definition.TypeWord place name tree) s e = tt
named_now (definition.Func place tree name formals steps) s e = fresh_known s.all name (known.Untyped kind.Function) e
named_now (definition.Proc place tree name formals steps) s e = fresh_known s.all name (known.Untyped kind.Process) e
named_now (definition.Model place tree name formals steps) s e = fresh_known s.all name (known.Untyped kind.Model) e
named_now (definition.Xper place name steps) s e = (s.experiments, fresh_known s.all name (known.Xper s.experiments) e)

pub each_named : (ds : List Definition) (s : Sketch) → (in_turn (map sketching ds) s).faults ≡ [] → EachNamed (in_turn (map sketching ds) s).next.all ds
each_named [] s e = tt
each_named (d ∷ ds) s e =
    let first = sketching d s in
    let last = in_turn (map sketching ds) first.next in (
      named_kept first.next.all last.next.all (turns_lead (map sketching ds) (each_leads ds) first.next) d (named_now d s (left_nil first.faults last.faults e)),
      each_named ds first.next (right_nil first.faults last.faults e),
    )

-- ---- enumerations and their values are visible early

abbrev pub FineSketch : Sketch → Type 0
FineSketch s = Entries Fine s.early

either_early : (b : Bool) (early : Names) (text : List ℕ) (k : Known) → Entries Fine early → Fine k → Entries Fine (cond b early (with_name early text k))
either_early true early text k h f = h
either_early false early text k h f = entries_with Fine early text k h f

early_fine : (name : Name) (enumeration : ℕ) (position : Option ℕ) (s : Sketch) → Fine (early_known enumeration position) → FineSketch s → FineSketch (named_early name enumeration position s)
early_fine name enumeration position s f h = either_early (is_taken s.all name.text) s.early name.text (early_known enumeration position) h f

values_keep : (enumeration position : ℕ) (values : List Name) → EachKeeps FineSketch (values_from enumeration position values)
values_keep enumeration position [] = tt
values_keep enumeration position (value ∷ values) = (λ s h e. (tt, early_fine value enumeration (Some position) s tt h), values_keep enumeration (position + 1) values)

enumeration_keeps : (name : Name) (values : List Name) → Keeps FineSketch (enumeration_named name values)
enumeration_keeps name values s h e =
    let first = named_early name s.enumerations None s in
    let each = in_turn (values_from s.enumerations 0 values) first in
    let kept = turns_keep FineSketch (values_from s.enumerations 0 values) (values_keep s.enumerations 0 values) first (early_fine name s.enumerations None s (choice_shape s.enumerations) h) (right_nil (new_name_rule s.all name) each.faults e) in
    (mapped_comes (λ names. names ∷ []) each.made kept.0, kept.1)

sketching_keeps : (d : Definition) → Keeps FineSketch (sketching d)
sketching_keeps (definition.Enum place name values) s h e = enumeration_keeps name values s h e
sketching_keeps (definition.Const place tree name equals value) s h e = (tt, h)
sketching_keeps (definition.TypeWord place name tree) s h e = (tt, h)
sketching_keeps (definition.Func place tree name formals steps) s h e = (tt, h)
sketching_keeps (definition.Proc place tree name formals steps) s h e = (tt, h)
sketching_keeps (definition.Model place tree name formals steps) s h e = (tt, h)
sketching_keeps (definition.Xper place name steps) s h e = (tt, h)

pub sketch_keeps : (ds : List Definition) → Keeps FineSketch (in_turn (map sketching ds))
sketch_keeps ds = turns_keep FineSketch (map sketching ds) (each_keeps FineSketch sketching sketching_keeps ds)
