-- What a type tree means where the types of its parts are known, and which of its own rules are broken.
use Rattle.std.specs.Prelude.{ℕ, nat_lt, Bool, true, false, not, List, [], ◌∷◌, ◌++◌, Option, Some, None, if◌then◌else◌}
use Rattle.chi_token.specs.declared.place.Place.{Place}
use Rattle.chi_tree.specs.declared.type_tree.Name.{Name}
use Rattle.chi_tree.specs.declared.type_tree.TypeWord.{TypeWord}
use Rattle.chi_tree.specs.declared.type_tree.TypeWord.TheVariants as word
use Rattle.chi_tree.specs.declared.type_tree.Way.{Way as Written}
use Rattle.chi_tree.specs.declared.type_tree.Way.TheVariants as written
use Rattle.chi_types.specs.declared.ty.Way.{Way}
use Rattle.chi_types.specs.declared.ty.Way.TheVariants as way
use Rattle.chi_types.specs.declared.ty.Ty.{Ty, Ty-F, out-Ty}
use Rattle.chi_types.specs.declared.ty.Ty.TheVariants as ty
use Rattle.chi_types.specs.Plain.{is_plain}
use Rattle.chi_types.specs.Depth.{depth}
use Rattle.chi_core.specs.declared.expression.CExpr.{CExpr}
use Rattle.chi_check_types.specs.declared.fault.Fault.{Fault}
use Rattle.chi_check_types.specs.declared.known.Known.{Known}
use Rattle.chi_check_types.specs.declared.known.Known.TheVariants as known
use Rattle.chi_check_types.specs.declared.known.NameKind.{NameKind}
use Rattle.chi_check_types.specs.declared.known.NameKind.TheVariants as kind
use Rattle.chi_check_types.specs.declared.meant.Made.{Made}
use Rattle.chi_check_types.specs.declared.meant.Meant.{Meant}
use Rattle.chi_check_types.specs.declared.rules.TheConstants.{VISIBLE_NAME, NAME_KIND, TYPE_DEPTH, PLAIN_ELEMENT, LIST_SIZE, FIELD_NAMES, DISTRIBUTION}
use Rattle.chi_check_types.specs.declared.type_rules.TheConstants.{MOST_TYPE_DEPTH}
use Rattle.chi_check_types.specs.Faults.{fault}
use Rattle.chi_check_types.specs.Names.{Names, known_in, is_among}
use Rattle.chi_check_types.specs.Predefined.{is_predefined}
use Rattle.chi_check_types.specs.Typed.{Typed, broken_if, unless, untyped, refused}

-- a type without sizes
abbrev pub meaning : Ty → Meant
meaning t = record { ty = t; sizes = [] }

-- ---- the depth of a type

abbrev pub depth_rule : Place → Ty → List Fault
depth_rule place t = broken_if (nat_lt MOST_TYPE_DEPTH (depth t)) TYPE_DEPTH place

-- the tree means this, where neither its own rules nor that of the depth are broken
abbrev pub of_type : Place → List Fault → Meant → Typed Meant
of_type place own m = unless (own ++ depth_rule place m.ty) m

-- ---- words and names

abbrev pub word_type : TypeWord → Ty
word_type word.Bool = ty.Bool
word_type word.Int = ty.Int
word_type word.Real = ty.Real
word_type word.Text = ty.Text
word_type word.Timer = ty.Timer
word_type word.Inst = ty.Inst

abbrev pub word_of : Place → TypeWord → Typed Meant
word_of place w = of_type place [] (meaning (word_type w))

-- a name whose own type breaks a rule stands for a type only where it is that of a type
abbrev pub untyped_name : Place → NameKind → Typed Meant
untyped_name place kind.Type = untyped []
untyped_name place _ = refused NAME_KIND place

-- what is known of the name where it stands
abbrev pub visible_type : Place → Option Known → Typed Meant
visible_type place None = refused VISIBLE_NAME place
visible_type place (Some (known.Kind t)) = of_type place [] (meaning t)
visible_type place (Some (known.Untyped k)) = untyped_name place k
visible_type place (Some _) = refused NAME_KIND place

-- a predefined name is of another kind
abbrev pub named_type : Names → Name → Typed Meant
named_type names name = if is_predefined name.text then refused NAME_KIND name.place else visible_type name.place (known_in names name.text)

-- ---- lists, sets, distributions and channels of something

abbrev pub list_of : Place → Option Meant → Typed Meant
list_of place None = untyped []
list_of place (Some element) = of_type place [] (meaning (ty.ListOf element.ty))

-- elements of sets and keys of dictionaries are plain
abbrev pub plain_rule : Place → Option Meant → List Fault
plain_rule place None = []
plain_rule place (Some element) = broken_if (not (is_plain element.ty)) PLAIN_ELEMENT place

abbrev pub set_of : Place → Option Meant → Typed Meant
set_of place None = untyped []
set_of place (Some element) = of_type place (plain_rule place (Some element)) (meaning (ty.SetOf element.ty))

-- the key's rule needs the key's type alone
abbrev pub dict_of : Place → Option Meant → Option Meant → Typed Meant
dict_of place (Some key) (Some value) = of_type place (plain_rule place (Some key)) (meaning (ty.DictOf key.ty value.ty))
dict_of place (Some key) None = untyped (plain_rule place (Some key))
dict_of place None value = untyped []

-- what a distribution draws
abbrev pub is_drawn : Ty-F Ty → Bool
is_drawn Ty-F.Bool = true
is_drawn Ty-F.Int = true
is_drawn Ty-F.Real = true
is_drawn _ = false

abbrev pub dist_of : Place → Option Meant → Typed Meant
dist_of place None = untyped []
dist_of place (Some drawn) = of_type place (broken_if (not (is_drawn (out-Ty drawn.ty))) DISTRIBUTION place) (meaning (ty.Dist drawn.ty))

abbrev pub way_of : Written → Way
way_of written.Both = way.Both
way_of written.Send = way.Send
way_of written.Receive = way.Receive

abbrev pub chan_of : Place → Written → Option Meant → Typed Meant
chan_of place w None = untyped []
chan_of place w (Some carried) = of_type place [] (meaning (ty.Chan (way_of w) carried.ty))

-- what only synchronises
abbrev pub void_chan_of : Place → Written → Typed Meant
void_chan_of place w = of_type place [] (meaning (ty.Chan (way_of w) ty.Void))

-- ---- lists with a size

abbrev pub is_int : Ty-F Ty → Bool
is_int Ty-F.Int = true
is_int _ = false

-- a size may stand there, and it is an int
abbrev pub size_holds : Bool → Option Made → Bool
size_holds false size = false
size_holds true None = true
size_holds true (Some size) = is_int (out-Ty size.ty)

abbrev pub size_rule : Place → Bool → Option Made → List Fault
size_rule place sizes size = broken_if (not (size_holds sizes size)) LIST_SIZE place

-- one more size, around the others
abbrev pub with_size : Meant → CExpr → Meant
with_size element size = record { ty = ty.ListOf element.ty; sizes = element.sizes ++ size ∷ [] }

-- `sizes` says whether a size may stand there
abbrev pub sized_list_of : Place → Bool → Option Made → Option Meant → Typed Meant
sized_list_of place sizes (Some size) (Some element) = of_type place (size_rule place sizes (Some size)) (with_size element size.core)
sized_list_of place sizes (Some size) None = untyped (size_rule place sizes (Some size))
sized_list_of place sizes None element = untyped (size_rule place sizes None)

-- ---- tuples

-- a field has no name of those before it
abbrev pub names_rule : List (List ℕ) → List Name → List Fault
names_rule before [] = []
names_rule before (name ∷ names) =
    if is_among name.text before then fault FIELD_NAMES name.place ∷ names_rule before names
    else names_rule (before ++ name.text ∷ []) names

abbrev pub tuple_of : Place → List Name → Option (List (List ℕ × Ty)) → Typed Meant
tuple_of place names None = untyped (names_rule [] names)
tuple_of place names (Some parts) = of_type place (names_rule [] names) (meaning (ty.TupleOf parts))
