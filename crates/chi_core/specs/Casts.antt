-- Casts, and what values mean to a process: its time, its timers and the instances that it knows.
use Rattle.std.specs.Prelude.{ℕ, nat_le, ℤ, pos, ◌+ℤ◌, ◌-ℤ◌, ◌*ℤ◌, int_le, true, false, Option, Some, None, List, length, codes, option_map, if◌then◌else◌}
use Rattle.std.specs.Int.{int_max}
use Rattle.std.specs.Str.{bytes_eq}
use Rattle.chi_num.specs.TextNumbers.{Meant, means, no_form, out_of_range, int_meant, real_meant}
use Rattle.chi_num.specs.Units.{units_per_one}
use Rattle.chi_value.specs.declared.value.Value.{Value, Value-F, out-Value}
use Rattle.chi_value.specs.declared.value.Value.TheVariants as value
use Rattle.chi_value.specs.declared.value.TheConstants.{MOST_ELEMENTS}
use Rattle.chi_format.specs.Format.{any_text}
use Rattle.chi_core.specs.declared.fault.FaultKind.{FaultKind}
use Rattle.chi_core.specs.declared.fault.FaultKind.TheVariants.{IntRange, RealRange, BadText, TooLarge}
use Rattle.chi_core.specs.Answer.{Gives, Fails, Does, then_do, fails, amiss, wanted}
use Rattle.chi_core.specs.Scene.{Scene, finished_at}
use Rattle.chi_core.specs.Reading.{due_of, instance_of}
use Rattle.chi_core.specs.Arithmetic.{whole, real, timer, on_real}
use Rattle.chi_core.specs.Comparisons.{tells, truth}

-- the number that a text means
abbrev pub as_meant : FaultKind → (ℤ → Value) → Meant → Does Value
as_meant past made (means z) view = Gives (made z) view
as_meant past made no_form view = Fails BadText
as_meant past made out_of_range view = Fails past

abbrev pub int_from : Value-F Value → Does Value
int_from (Value-F.Int x) = whole x
int_from (Value-F.Text text) = as_meant IntRange value.Int (int_meant text)
int_from _ = amiss

abbrev pub to_int : Value → Does Value
to_int a = int_from (out-Value a)

-- of a timer, the time until it is due, and 0.0 once it is
abbrev pub real_from : Scene → Value-F Value → Does Value
real_from scene (Value-F.Int x) = real (x *ℤ units_per_one)
real_from scene (Value-F.Real units) = real units
real_from scene (Value-F.Text text) = as_meant RealRange value.Real (real_meant text)
real_from scene (Value-F.Timer due) = real (int_max (pos 0) (due -ℤ scene.clock))
real_from scene _ = amiss

abbrev pub to_real : Scene → Value → Does Value
to_real scene a = real_from scene (out-Value a)

abbrev pub truth_meant : List ℕ → Does Value
truth_meant text =
    if bytes_eq text (codes "true") then truth true
    else if bytes_eq text (codes "false") then truth false
    else fails BadText

abbrev pub truth_from : Value-F Value → Does Value
truth_from (Value-F.Bool x) = truth x
truth_from (Value-F.Text text) = truth_meant text
truth_from _ = amiss

abbrev pub to_truth : Value → Does Value
to_truth a = truth_from (out-Value a)

-- a text that a string may have
abbrev pub string_of : List ℕ → Does Value
string_of text view = if nat_le (length text) MOST_ELEMENTS then Gives (value.Text text) view else Fails TooLarge

-- the text of a plain value
abbrev pub to_text : Scene → Value → Does Value
to_text scene a view = then_do (wanted (any_text scene.names.kinds a) view) string_of

-- a timer that is due so much after the clock
abbrev pub to_timer : Scene → Value → Does Value
to_timer scene a = on_real (λ x. timer (scene.clock +ℤ x)) (out-Value a)

-- a timer is due
abbrev pub is_ready : Scene → Value → Does Value
is_ready scene a = tells (option_map (λ due. int_le due scene.clock) (due_of a))

-- of no instance, true; of an instance that there is, whether it is finished
abbrev pub has_finished : Scene → Option ℕ → Does Value
has_finished scene None view = Gives (value.Bool true) view
has_finished scene (Some p) view = tells (finished_at scene view.instances p) view

abbrev pub is_finished : Scene → Value → Does Value
is_finished scene a view = then_do (wanted (instance_of a) view) (has_finished scene)
