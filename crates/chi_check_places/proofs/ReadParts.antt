-- What each part of a tree comes to, without its places: of expressions, and of what stands in them.
use Rattle.std.proofs.Common.{◌≡◌, List, [], ◌∷◌, ◌++◌, map, Option, Some, None, refl, ap, ◌∙◌}
use Rattle.std.specs.Option.{option_map}
use Rattle.chi_tree.specs.declared.expr.Expr.{Expr-F}
use Rattle.chi_tree.specs.declared.type_tree.TypeTree.{TypeTree-F}
use Rattle.chi_tree.specs.View.{nowhere}
use Rattle.chi_tree_laws.specs.Unplaced.{unplaced_name}
use Rattle.chi_check_types.specs.declared.meant.Made.{Made}
use Rattle.chi_check_types.specs.Typed.{Typed}
use Rattle.chi_check_expr_rules.specs.Parts.{Bounds, if_given, given}
use Rattle.chi_check_expr.specs.Reads.{Read, Taken, index, slice, field, Reading, Paired, Linked, Field, typed_of, made_of, all_faults, entry_faults, key_made, value_made, each_bound}
use Rattle.chi_check_places.specs.UnplacedTyped.{unplaced_faults, unplaced_typed}
use Rattle.chi_check_places.proofs.Faults.{faults-append, both-faults}

abbrev pub unplaced_read : Read → Read
unplaced_read r = record { typed = unplaced_typed r.typed; name = option_map unplaced_name r.name }

abbrev pub unplaced_linked : Linked → Linked
unplaced_linked l = record { operator = l.operator; place = nowhere; operand = unplaced_typed l.operand }

abbrev pub unplaced_taken : Taken → Taken
unplaced_taken (index place t) = index nowhere (unplaced_typed t)
unplaced_taken (slice place b) = slice nowhere (each_bound unplaced_typed b)
unplaced_taken (field name) = field (unplaced_name name)

abbrev pub unplaced_paired : Paired → Paired
unplaced_paired e = record { key = unplaced_typed e.key; value = unplaced_typed e.value }

abbrev pub unplaced_reading : Reading → Reading
unplaced_reading r sizes = unplaced_typed (r sizes)

abbrev pub unplaced_field : Field → Field
unplaced_field f = record { ty = option_map unplaced_typed f.ty; name = unplaced_name f.name }

-- ---- several parts

pub typed-unplaced : (rs : List Read) → map typed_of (map unplaced_read rs) ≡ map unplaced_typed (map typed_of rs)
typed-unplaced [] = refl
typed-unplaced (r ∷ rs) = ap (λ ts. unplaced_typed r.typed ∷ ts) (typed-unplaced rs)

pub made-unplaced : (ts : List (Typed Made)) → map made_of (map unplaced_typed ts) ≡ map made_of ts
made-unplaced [] = refl
made-unplaced (t ∷ ts) = ap (λ ms. t.made ∷ ms) (made-unplaced ts)

pub faults-unplaced : (ts : List (Typed Made)) → all_faults (map unplaced_typed ts) ≡ unplaced_faults (all_faults ts)
faults-unplaced [] = refl
faults-unplaced (t ∷ ts) = both-faults t.faults (all_faults ts) refl (faults-unplaced ts)

pub entry-faults-unplaced : (es : List Paired) → entry_faults (map unplaced_paired es) ≡ unplaced_faults (entry_faults es)
entry-faults-unplaced [] = refl
entry-faults-unplaced (e ∷ es) =
    both-faults (e.key.faults ++ e.value.faults) (entry_faults es) (faults-append e.key.faults e.value.faults) (entry-faults-unplaced es)

pub keys-made : (es : List Paired) → map key_made (map unplaced_paired es) ≡ map key_made es
keys-made [] = refl
keys-made (e ∷ es) = ap (λ ms. e.key.made ∷ ms) (keys-made es)

pub values-made : (es : List Paired) → map value_made (map unplaced_paired es) ≡ map value_made es
values-made [] = refl
values-made (e ∷ es) = ap (λ ms. e.value.made ∷ ms) (values-made es)

-- ---- bounds

if-given : {A B : Type 0} (f : A → B) (o : Option A) (xs : List A) → if_given (option_map f o) (map f xs) ≡ map f (if_given o xs)
if-given f None xs = refl
if-given f (Some a) xs = refl

pub given-each : {A B : Type 0} (f : A → B) (b : Bounds A) → given (each_bound f b) ≡ map f (given b)
given-each f b =
    (λ i. if_given (option_map f b.from) (if_given (option_map f b.upto) (if-given f b.by [] i)))
    ∙ (λ i. if_given (option_map f b.from) (if-given f b.upto (if_given b.by []) i))
    ∙ if-given f b.from (if_given b.upto (if_given b.by []))

pub made-if : (o : Option (Typed Made)) → option_map made_of (option_map unplaced_typed o) ≡ option_map made_of o
made-if None = refl
made-if (Some t) = refl

pub bounds-made : (b : Bounds (Typed Made)) → each_bound made_of (each_bound unplaced_typed b) ≡ each_bound made_of b
bounds-made b = λ i. record { from = made-if b.from i; upto = made-if b.upto i; by = made-if b.by i }

-- ---- a layer of a tree whose parts are typed, without its places

abbrev pub unplaced_layer : Expr-F Read Taken Reading Paired Linked Field → Expr-F Read Taken Reading Paired Linked Field
unplaced_layer (Expr-F.Chain first links) = Expr-F.Chain (unplaced_read first) (map unplaced_linked links)
unplaced_layer (Expr-F.Prefix sign place operand) = Expr-F.Prefix sign nowhere (unplaced_read operand)
unplaced_layer (Expr-F.Relation left sign place right) = Expr-F.Relation (unplaced_read left) sign nowhere (unplaced_read right)
unplaced_layer (Expr-F.Power base place exponent) = Expr-F.Power (unplaced_read base) nowhere (unplaced_read exponent)
unplaced_layer (Expr-F.Part whole postfixes) = Expr-F.Part (unplaced_read whole) (map unplaced_taken postfixes)
unplaced_layer (Expr-F.Int digits place) = Expr-F.Int digits nowhere
unplaced_layer (Expr-F.Real digits place) = Expr-F.Real digits nowhere
unplaced_layer (Expr-F.Text bytes place) = Expr-F.Text bytes nowhere
unplaced_layer (Expr-F.Bool truth place) = Expr-F.Bool truth nowhere
unplaced_layer (Expr-F.Time place) = Expr-F.Time nowhere
unplaced_layer (Expr-F.Named name) = Expr-F.Named (unplaced_name name)
unplaced_layer (Expr-F.Call name arguments) = Expr-F.Call (unplaced_name name) (map unplaced_read arguments)
unplaced_layer (Expr-F.Cast word place operand) = Expr-F.Cast word nowhere (unplaced_read operand)
unplaced_layer (Expr-F.Round place inner) = Expr-F.Round nowhere (unplaced_read inner)
unplaced_layer (Expr-F.TupleOf place parts) = Expr-F.TupleOf nowhere (map unplaced_read parts)
unplaced_layer (Expr-F.ListOf place elements) = Expr-F.ListOf nowhere (map unplaced_read elements)
unplaced_layer (Expr-F.SetOf place elements) = Expr-F.SetOf nowhere (map unplaced_read elements)
unplaced_layer (Expr-F.DictOf place entries) = Expr-F.DictOf nowhere (map unplaced_paired entries)
unplaced_layer (Expr-F.EmptyList place element) = Expr-F.EmptyList nowhere (unplaced_reading element)
unplaced_layer (Expr-F.EmptySet place element) = Expr-F.EmptySet nowhere (unplaced_reading element)
unplaced_layer (Expr-F.EmptyDict place key value) = Expr-F.EmptyDict nowhere (unplaced_reading key) (unplaced_reading value)

abbrev pub unplaced_type_layer : TypeTree-F Read Taken Reading Paired Linked Field → TypeTree-F Read Taken Reading Paired Linked Field
unplaced_type_layer (TypeTree-F.Word word place) = TypeTree-F.Word word nowhere
unplaced_type_layer (TypeTree-F.Defined name) = TypeTree-F.Defined (unplaced_name name)
unplaced_type_layer (TypeTree-F.List place size element) = TypeTree-F.List nowhere (option_map unplaced_read size) (unplaced_reading element)
unplaced_type_layer (TypeTree-F.Set place element) = TypeTree-F.Set nowhere (unplaced_reading element)
unplaced_type_layer (TypeTree-F.Dist place drawn) = TypeTree-F.Dist nowhere (unplaced_reading drawn)
unplaced_type_layer (TypeTree-F.Dict place key value) = TypeTree-F.Dict nowhere (unplaced_reading key) (unplaced_reading value)
unplaced_type_layer (TypeTree-F.Tuple place fields) = TypeTree-F.Tuple nowhere (map unplaced_field fields)
unplaced_type_layer (TypeTree-F.Chan place way carried) = TypeTree-F.Chan nowhere way (option_map unplaced_reading carried)
