-- The arguments of a model, from texts on the command line.
use Rattle.std.specs.Prelude.{◌≡◌, ℕ, ◌+◌, ◌<◌, ◌≤◌, ◌==◌, ◌&&◌, ◌||◌, Bool, true, false, bytes_eq, codes, nat_le, nat_lt, length, zip, List, [], ◌∷◌, Option, Some, None, option_map, Result, Ok, Err, if◌then◌else◌}
use Rattle.std.specs.List.{list_all}
use Rattle.std.specs.Result.{result_ok}
use Rattle.chi_num.specs.TextNumbers.{answer_of, int_meant, real_meant}
use Rattle.chi_types.specs.declared.ty.Ty.{Ty, Ty-F, out-Ty}
use Rattle.chi_value.specs.declared.value.Value.{Value}
use Rattle.chi_value.specs.declared.value.Value.TheVariants as value
use Rattle.chi_cli.specs.declared.args.ArgFault.{ArgFault}
use Rattle.chi_cli.specs.declared.args.ArgFault.TheVariants as fault
use Rattle.chi_cli.specs.Commands.{Text}

-- a parameter that a text can be for: a bool, an int, a real or a string
abbrev pub is_readable : Ty-F Ty → Bool
is_readable Ty-F.Bool = true
is_readable Ty-F.Int = true
is_readable Ty-F.Real = true
is_readable Ty-F.Text = true
is_readable _ = false

abbrev pub truth_in : Text → Option Bool
truth_in text =
    if bytes_eq text (codes "true") then Some true else if bytes_eq text (codes "false") then Some false else None

-- a tabulator, a line feed, or a printable character
abbrev pub is_of_string : ℕ → Bool
is_of_string byte = byte == 9 || (byte == 10 || (nat_le 32 byte && nat_le byte 126))

-- fewer than 2^32 bytes that may stand in a string
abbrev pub is_string : Text → Bool
is_string text = nat_lt (length text) 4_294_967_296 && list_all is_of_string text

-- the value of a type that a text is, if it is one
abbrev pub value_in : Ty-F Ty → Text → Option Value
value_in Ty-F.Bool text = option_map (λ b. value.Bool b) (truth_in text)
value_in Ty-F.Int text = option_map (λ n. value.Int n) (result_ok (answer_of (int_meant text)))
value_in Ty-F.Real text = option_map (λ r. value.Real r) (result_ok (answer_of (real_meant text)))
value_in Ty-F.Text text = if is_string text then Some (value.Text text) else None
value_in _ text = None

-- the first parameter that no text can be for, where those here are counted from k
abbrev pub unreadable_from : ℕ → List Ty → Option ℕ
unreadable_from k [] = None
unreadable_from k (t ∷ ts) = if is_readable (out-Ty t) then unreadable_from (k + 1) ts else Some k

-- one more value in front
abbrev pub with_value : Value → Result (List Value) ArgFault → Result (List Value) ArgFault
with_value v (Ok vs) = Ok (v ∷ vs)
with_value v (Err fault) = Err fault

abbrev pub read_or_text : ℕ → Option Value → Result (List Value) ArgFault → Result (List Value) ArgFault
read_or_text k None rest = Err (fault.Text k)
read_or_text k (Some v) rest = with_value v rest

-- the values of texts, each beside its parameter, or the first that is none; those here are counted from k
abbrev pub values_from : ℕ → List (Ty × Text) → Result (List Value) ArgFault
values_from k [] = Ok []
values_from k (pair ∷ pairs) = read_or_text k (value_in (out-Ty pair.0) pair.1) (values_from (k + 1) pairs)

abbrev pub readable_values : Option ℕ → List (Ty × Text) → Result (List Value) ArgFault
readable_values None pairs = values_from 1 pairs
readable_values (Some k) pairs = Err (fault.Kind k)

-- The values of arguments for parameters. Else the fault: that there are more or fewer of them; else the first
-- parameter, from 1, that no text can be for; else the first argument that is no text of its type.
abbrev pub values_of : List Ty → List Text → Result (List Value) ArgFault
values_of params args =
    if length params == length args then readable_values (unreadable_from 1 params) (zip params args) else Err fault.Count

-- what is refused, and why; want of memory is tied to nothing
abbrev pub IsRefused : Result (List Value) ArgFault → ArgFault → Type 0
IsRefused meant fault.NoMemory = Unit {0}
IsRefused meant fault.Count = meant ≡ Err fault.Count
IsRefused meant (fault.Kind k) = meant ≡ Err (fault.Kind k)
IsRefused meant (fault.Text k) = meant ≡ Err (fault.Text k)

-- values that were read before those
abbrev pub after : List Value → Result (List Value) ArgFault → Result (List Value) ArgFault
after [] read = read
after (v ∷ vs) read = with_value v (after vs read)

-- the number of one of these, counted from 1
abbrev pub IsNumber : {A : Type 0} → List A → ℕ → Type 0
IsNumber items k = (0 < k) × (k ≤ length items)
