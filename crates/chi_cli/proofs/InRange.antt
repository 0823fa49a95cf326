-- The numbers of a request are in their ranges.
use Rattle.std.proofs.Common.{◌≡◌, ℕ, ◌^◌, ◌*◌, ◌≤◌, ◌<◌, ◌&&◌, ◌++◌, ℤ, pos, Bool, true, false, nat_le, List, [], ◌∷◌, length, Option, Some, None, Result, Ok, Err, if◌then◌else◌, refl, sym, ap, ◌∙◌, subst, arith, rules}
use Rattle.std.proofs.lemmas.Bool.{and_parts, leb-true}
use Rattle.std.specs.Prelude.{IfOk, IfSome, bytes_eq, codes, int_lt, is_some, option_and_then, option_map}
use Rattle.std.specs.Result.{result_ok}
use Rattle.std.specs.Str.Parse.{digits_value}
use Rattle.chi_num.specs.Decimal.{number_of, signed}
use Rattle.chi_num.specs.Nearest.{nearest}
use Rattle.chi_num.specs.Results.{fits, rounded}
use Rattle.chi_num.specs.TextNumbers.{means, out_of_range, answer_of, decimals_of, after_digits, front_digits, has_minus, real_meant, units_meant, unsigned}
use Rattle.chi_cli.specs.declared.command.Command.{Command}
use Rattle.chi_cli.specs.declared.command.Command.TheVariants as command
use Rattle.chi_cli.specs.declared.command.OptionName.{OptionName}
use Rattle.chi_cli.specs.declared.command.OptionName.TheVariants as option
use Rattle.chi_cli.specs.declared.fault.CliFault.{CliFault}
use Rattle.chi_cli.specs.declared.fault.CliFault.TheVariants as fault
use Rattle.chi_cli.specs.declared.policy.PolicyName.{PolicyName}
use Rattle.chi_cli.specs.declared.policy.PolicyName.TheVariants as policy
use Rattle.chi_cli.specs.declared.request.Request.{Request}
use Rattle.chi_cli.specs.declared.request.Request.TheVariants as request
use Rattle.chi_cli.specs.declared.words.TheConstants.{STEPS, MOST_STEPS}
use Rattle.chi_cli.specs.Commands.{Text, command_named}
use Rattle.chi_cli_help.specs.declared.topic.Topic.{Topic}
use Rattle.chi_cli_help.specs.Topics.{topic_named}
use Rattle.chi_trace.specs.declared.filter.EventKind.{EventKind}
use Rattle.chi_trace.specs.declared.filter.Filter.{Filter}
use Rattle.chi_trace.specs.declared.filter.Filter.TheVariants as filter
use Rattle.chi_cli.specs.declared.one_run.OneRun.{OneRun}
use Rattle.chi_cli.specs.declared.two_files.TwoFiles.{TwoFiles}
use Rattle.chi_cli.specs.Numbers.{is_numeral, number_in, number_or, number_sought, time_in, time_or_none, within}
use Rattle.chi_cli.specs.Probes.{kind_named, probe_or_all, sought}
use Rattle.chi_cli.specs.Ranges.{IsFilter, IsInRange, IsPick, IsTime}
use Rattle.chi_cli.specs.Requests.{asked, command_request, each_once, experimented, explained, help, help_on, load, load_of, of_file, judged, of_two, one_run, one_word, pick_of, picked, policy_or_first, replayed, request_of, run_asked, run_of_file, said_request, sim, simulated, two_files, two_files_asked, value_given}
use Rattle.chi_cli.specs.Splitting.{Said, name_in, split, value_in}
use Rattle.chi_load.specs.declared.source.TheConstants.{MOST_MACHINES}

abbrev Between : ℕ → ℕ → ℕ → Type 0
Between least most n = (least ≤ n) × (n ≤ most)

kept_within : (least most number n : ℕ) (kept : Bool) → (nat_le least number && nat_le number most) ≡ kept → (if kept then Some number else None) ≡ Some n → Between least most n
kept_within least most number n true is e =
    let same : number ≡ n = cc in
    let parts : (nat_le least number ≡ true) × (nat_le number most ≡ true) = and_parts (nat_le least number) (nat_le number most) is in
    subst (Between least most) same (leb-true least number parts.0, leb-true number most parts.1)
kept_within least most number n false is e = absurd (cc)

numeral_within : (least most : ℕ) (text : Text) (n : ℕ) (numeral : Bool) → (if numeral then within least most (digits_value 10 text) else None) ≡ Some n → Between least most n
numeral_within least most text n true e = kept_within least most (digits_value 10 text) n (nat_le least (digits_value 10 text) && nat_le (digits_value 10 text) most) refl e
numeral_within least most text n false e = absurd (cc)

given_within : (default least most : ℕ) (o : Option Text) (n : ℕ) → Between least most default → number_or default least most o ≡ Some n → Between least most n
given_within default least most None n known e = let same : default ≡ n = cc in subst (Between least most) same known
given_within default least most (Some text) n known e = numeral_within least most text n (is_numeral text) e

held : (z time : ℤ) (held : Bool) → result_ok (answer_of (if held then means z else out_of_range)) ≡ Some time → z ≡ time
held z time true e = cc
held z time false e = absurd (cc)

not_below : (n : ℕ) → int_lt (pos n) (pos 0) ≡ false
not_below n = search rules

rounded_above : (n d : ℕ) → rounded (pos n) (pos d) ≡ pos (nearest n d)
rounded_above n d = ap (λ (below : Bool). signed below (nearest n d)) (not_below n)

above_zero : (whole : List ℕ) (decimals : Option (List ℕ)) (time : ℤ) → result_ok (answer_of (units_meant false whole decimals)) ≡ Some time → IsTime time
above_zero whole None time e = absurd (cc)
above_zero [] (Some decimals) time e = absurd (cc)
above_zero (c ∷ cs) (Some decimals) time e =
    let number : ℕ = number_of ((c ∷ cs) ++ decimals) * 1_000_000_000 in
    let divisor : ℕ = 10 ^ length decimals in
    (nearest number divisor, sym (held (rounded (pos number) (pos divisor)) time (fits (rounded (pos number) (pos divisor))) e) ∙ rounded_above number divisor)

time_kept : (text : Text) (time : ℤ) (minus : Bool) → has_minus text ≡ minus → (if minus then None else result_ok (answer_of (real_meant text))) ≡ Some time → IsTime time
time_kept text time true is e = absurd (cc)
time_kept text time false is e =
    above_zero (front_digits (unsigned text)) (decimals_of (after_digits (unsigned text))) time
    (subst (λ (minus : Bool). result_ok (answer_of (units_meant minus (front_digits (unsigned text)) (decimals_of (after_digits (unsigned text))))) ≡ Some time) is e)

time_given : (o : Option Text) (until : Option ℤ) → time_or_none o ≡ Some until → IfSome until IsTime
time_given None None e = tt
time_given None (Some time) e = absurd (cc)
time_given (Some text) until e = each (time_in text) refl until e where
  each : (o : Option ℤ) → time_in text ≡ o → (until : Option ℤ) → option_map (λ time. Some time) o ≡ Some until → IfSome until IsTime
  each None is until e = absurd (cc)
  each (Some time) is None e = absurd (cc)
  each (Some time) is (Some other) e = let same : time_in text ≡ Some other = cc in time_kept text other (has_minus text) refl same

salted : (policy : PolicyName) (salt : ℕ) → salt < 2 ^ 64 → IsPick (pick_of policy salt)
salted policy.First salt fits = tt
salted policy.Last salt fits = tt
salted policy.Spread salt fits = fits

-- ---- what a probe looks for

small : (text : Text) → IfSome (number_sought text) (λ n. n < 2 ^ 32)
small text = each (nat_le (length text) 10) where
  read : (o : Option ℕ) → number_in 0 4_294_967_295 text ≡ o → IfSome o (λ n. n < 2 ^ 32)
  read None is = tt
  read (Some n) is =
      let most : n ≤ 4_294_967_295 = (numeral_within 0 4_294_967_295 text n (is_numeral text) is).1 in
      omega arith

  each : (short : Bool) → IfSome (if short then number_in 0 4_294_967_295 text else None) (λ n. n < 2 ^ 32)
  each true = read (number_in 0 4_294_967_295 text) refl
  each false = tt

-- a filter, where one is sought and its number is one
abbrev IsSought : Option (Option Filter) → Type 0
IsSought found = IfSome found (λ probe. IfSome probe IsFilter)

of_instance : (o : Option ℕ) → IfSome o (λ n. n < 2 ^ 32) → IfSome (option_map (λ n. filter.Instance n) o) IsFilter
of_instance None small = tt
of_instance (Some n) small = small

of_channel : (o : Option ℕ) → IfSome o (λ n. n < 2 ^ 32) → IfSome (option_map (λ n. filter.Channel n) o) IsFilter
of_channel None small = tt
of_channel (Some n) small = small

of_kind : (o : Option EventKind) → IsSought (option_map (λ k. Some (filter.Kind k)) o)
of_kind None = tt
of_kind (Some k) = tt

sought_in_range : (name which : Text) → IsSought (sought name which)
sought_in_range name which = each (bytes_eq name (codes "instance")) (bytes_eq name (codes "channel")) (bytes_eq name (codes "kind")) where
  each : (a b c : Bool) → IsSought (if a then Some (option_map (λ n. filter.Instance n) (number_sought which))
      else if b then Some (option_map (λ n. filter.Channel n) (number_sought which))
      else if c then option_map (λ k. Some (filter.Kind k)) (kind_named which) else None)
  each true b c = of_instance (number_sought which) (small which)
  each false true c = of_channel (number_sought which) (small which)
  each false false true = of_kind (kind_named which)
  each false false false = tt

probe_in_range : (value : Option Text) → IsSought (probe_or_all value)
probe_in_range None = tt
probe_in_range (Some word) = each (value_in word) where
  each : (value : Option Text) → IsSought (option_and_then (sought (name_in word)) value)
  each None = tt
  each (Some which) = sought_in_range (name_in word) which

-- ---- a run

abbrev most_word : ℕ
most_word = 18_446_744_073_709_551_615

-- the numbers of a command on one run
abbrev RunInRange : OneRun → Type 0
RunInRange run = (run.seed < 2 ^ 64) × (run.bound ≤ MOST_STEPS) × IfSome run.until IsTime × IsPick run.pick

run_asked_in_range : (file : Text) (args : List Text) (policy : PolicyName) (seed bound salt : Option ℕ) (until : Option (Option ℤ))
    → ((n : ℕ) → seed ≡ Some n → n ≤ most_word) → ((n : ℕ) → bound ≡ Some n → n ≤ MOST_STEPS) → ((n : ℕ) → salt ≡ Some n → n ≤ most_word)
    → ((t : Option ℤ) → until ≡ Some t → IfSome t IsTime) → IfOk (run_asked file args policy seed bound salt until) RunInRange
run_asked_in_range file args policy (Some seed) (Some bound) (Some salt) (Some until) a b c d =
    let fits : seed ≤ most_word = a seed refl in
    let salt_fits : salt ≤ most_word = c salt refl in
    (omega arith, b bound refl, d until refl, salted policy salt (omega arith))
run_asked_in_range file args policy None bound salt until a b c d = tt
run_asked_in_range file args policy (Some seed) None salt until a b c d = tt
run_asked_in_range file args policy (Some seed) (Some bound) None until a b c d = tt
run_asked_in_range file args policy (Some seed) (Some bound) (Some salt) None a b c d = tt

run_of_file_in_range : (file : Text) (args : List Text) (p : Option PolicyName) (options : List (OptionName × Text)) → IfOk (run_of_file file args p options) RunInRange
run_of_file_in_range file args None options = tt
run_of_file_in_range file args (Some p) options = run_asked_in_range file args p
    (number_or 0 0 most_word (value_given option.Seed options)) (number_or STEPS 0 MOST_STEPS (value_given option.Steps options))
    (number_or 0 0 most_word (value_given option.Salt options)) (time_or_none (value_given option.Until options))
    (λ n e. (given_within 0 0 most_word (value_given option.Seed options) n (omega arith, omega arith) e).1)
    (λ n e. (given_within STEPS 0 MOST_STEPS (value_given option.Steps options) n (omega arith, omega arith) e).1)
    (λ n e. (given_within 0 0 most_word (value_given option.Salt options) n (omega arith, omega arith) e).1)
    (λ t e. time_given (value_given option.Until options) t e)

one_run_in_range : (plain : List Text) (options : List (OptionName × Text)) → IfOk (one_run plain options) RunInRange
one_run_in_range [] options = tt
one_run_in_range (file ∷ args) options = run_of_file_in_range file args (policy_or_first (value_given option.Policy options)) options

simulated_in_range : (trace : Bool) (probe : Option (Option Filter)) (run : Result OneRun CliFault) → IsSought probe → IfOk run RunInRange
    → IfOk (simulated trace probe run) IsInRange
simulated_in_range trace None run small is = tt
simulated_in_range trace (Some probe) (Err why) small is = tt
simulated_in_range trace (Some None) (Ok run) small is = tt
simulated_in_range trace (Some (Some probe)) (Ok run) small is = (is.0, is.1, is.2, is.3, small)

sim_in_range : (plain : List Text) (options : List (OptionName × Text)) → IfOk (sim plain options) IsInRange
sim_in_range plain options = simulated_in_range (is_some (value_given option.Trace options)) (probe_or_all (value_given option.Probe options)) (one_run plain options)
    (probe_in_range (value_given option.Probe options)) (one_run_in_range plain options)

explained_in_range : (run : Result OneRun CliFault) → IfOk run RunInRange → IfOk (explained run) IsInRange
explained_in_range (Ok run) is = is
explained_in_range (Err why) is = tt

experimented_in_range : (file : Option Text) (run : Result OneRun CliFault) → IfOk run RunInRange → IfOk (experimented file run) IsInRange
experimented_in_range None run is = tt
experimented_in_range (Some file) (Ok run) is = (is.0, is.1, is.3)
experimented_in_range (Some file) (Err why) is = tt

-- the numbers of a command on two files
abbrev TwoInRange : TwoFiles → Type 0
TwoInRange two = (two.seed < 2 ^ 64) × (two.bound ≤ MOST_STEPS) × IfSome two.until IsTime

two_asked_in_range : (file beside : Text) (args : List Text) (seed bound : Option ℕ) (until : Option (Option ℤ))
    → ((n : ℕ) → seed ≡ Some n → n ≤ most_word) → ((n : ℕ) → bound ≡ Some n → n ≤ MOST_STEPS) → ((t : Option ℤ) → until ≡ Some t → IfSome t IsTime)
    → IfOk (two_files_asked file beside args seed bound until) TwoInRange
two_asked_in_range file beside args (Some seed) (Some bound) (Some until) a b c = let fits : seed ≤ most_word = a seed refl in (omega arith, b bound refl, c until refl)
two_asked_in_range file beside args None bound until a b c = tt
two_asked_in_range file beside args (Some seed) None until a b c = tt
two_asked_in_range file beside args (Some seed) (Some bound) None a b c = tt

two_in_range : (plain : List Text) (options : List (OptionName × Text)) → IfOk (two_files plain options) TwoInRange
two_in_range [] options = tt
two_in_range (file ∷ []) options = tt
two_in_range (file ∷ beside ∷ args) options = two_asked_in_range file beside args
    (number_or 0 0 most_word (value_given option.Seed options)) (number_or STEPS 0 MOST_STEPS (value_given option.Steps options)) (time_or_none (value_given option.Until options))
    (λ n e. (given_within 0 0 most_word (value_given option.Seed options) n (omega arith, omega arith) e).1)
    (λ n e. (given_within STEPS 0 MOST_STEPS (value_given option.Steps options) n (omega arith, omega arith) e).1)
    (λ t e. time_given (value_given option.Until options) t e)

of_two_in_range : (done : TwoFiles → Request) → ((two : TwoFiles) → TwoInRange two → IsInRange (done two)) → (asks : Result TwoFiles CliFault) → IfOk asks TwoInRange
    → IfOk (of_two done asks) IsInRange
of_two_in_range done keeps (Ok two) is = keeps two is
of_two_in_range done keeps (Err why) is = tt

load_in_range : (o : Option Text) → IfOk (load o) IsInRange
load_in_range None = tt
load_in_range (Some size) = each (number_in 1 MOST_MACHINES size) refl where
  each : (o : Option ℕ) → number_in 1 MOST_MACHINES size ≡ o → IfOk (load_of o) IsInRange
  each None is = tt
  each (Some n) is = numeral_within 1 MOST_MACHINES size n (is_numeral size) is

asked_in_range : (c : Command) (said : Said) → IfOk (asked c said) IsInRange
asked_in_range command.Sim said = sim_in_range said.plain said.options
asked_in_range command.Explain said = explained_in_range (one_run said.plain said.options) (one_run_in_range said.plain said.options)
asked_in_range command.Xper said = experimented_in_range (one_word said.plain) (one_run said.plain said.options) (one_run_in_range said.plain said.options)
asked_in_range command.Check said = each (one_word said.plain) where
  each : (o : Option Text) → IfOk (of_file request.Check o) IsInRange
  each None = tt
  each (Some file) = tt
asked_in_range command.Code said = each (one_word said.plain) where
  each : (o : Option Text) → IfOk (of_file request.Code o) IsInRange
  each None = tt
  each (Some file) = tt
asked_in_range command.Fmt said = each (one_word said.plain) where
  each : (o : Option Text) → IfOk (of_file request.Fmt o) IsInRange
  each None = tt
  each (Some file) = tt
asked_in_range command.Load said = load_in_range (one_word said.plain)
asked_in_range command.Replay said =
    of_two_in_range (replayed (is_some (value_given option.Trace said.options))) (λ two is. is) (two_files said.plain said.options) (two_in_range said.plain said.options)
asked_in_range command.Judge said = of_two_in_range judged (λ two is. is) (two_files said.plain said.options) (two_in_range said.plain said.options)
asked_in_range command.Picks said = of_two_in_range picked (λ two is. is) (two_files said.plain said.options) (two_in_range said.plain said.options)
asked_in_range command.TraceUp said = each (one_word said.plain) where
  each : (o : Option Text) → IfOk (of_file request.TraceUp o) IsInRange
  each None = tt
  each (Some file) = tt

said_in_range : (c : Command) (o : Option Said) → IfOk (said_request c o) IsInRange
said_in_range c None = tt
said_in_range c (Some said) = each (each_once said.options) where
  each : (once : Bool) → IfOk (if once then asked c said else Err fault.Usage) IsInRange
  each true = asked_in_range c said
  each false = tt

command_in_range : (o : Option Command) (words : List Text) → IfOk (command_request o words) IsInRange
command_in_range None words = tt
command_in_range (Some c) words = said_in_range c (split c words)

help_on_in_range : (o : Option Topic) → IfOk (help_on o) IsInRange
help_on_in_range None = tt
help_on_in_range (Some topic) = tt

help_in_range : (words : List Text) → IfOk (help words) IsInRange
help_in_range [] = tt
help_in_range (word ∷ []) = help_on_in_range (topic_named word)
help_in_range (word ∷ other ∷ words) = tt

request_in_range : (words : List Text) → IfOk (request_of words) IsInRange
request_in_range [] = tt
request_in_range (name ∷ words) = each (bytes_eq name (codes "help")) where
  each : (is : Bool) → IfOk (if is then help words else command_request (command_named name) words) IsInRange
  each true = help_in_range words
  each false = command_in_range (command_named name) words

pub numbers_in_range : (words : List Text) (request : Request) → request_of words ≡ Ok request → IsInRange request
numbers_in_range words request e = subst (λ (answer : Result Request CliFault). IfOk answer IsInRange) e (request_in_range words)
