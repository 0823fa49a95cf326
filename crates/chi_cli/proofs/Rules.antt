-- The arguments that clap builds of a command's rules.
use Rattle.std.proofs.Common.{◌≡◌, ◌||◌, ℕ, Bool, true, false, codes, List, Option, Some, None, if◌then◌else◌, refl, subst}
use Rattle.std.specs.Prelude.{bytes_eq, option_map}
use Rattle.clap.specs.Walk.{Rule, arg_by_id, arg_by_index, arg_by_long, arg_by_short, takes_values}
use Rattle.clap.specs.Simple.{Shape, built, filled, with_index}
use Rattle.chi_cli.specs.declared.command.Command.{Command}
use Rattle.chi_cli.specs.declared.command.Command.TheVariants as command
use Rattle.chi_cli.specs.declared.command.OptionName.{OptionName}
use Rattle.chi_cli.specs.declared.command.OptionName.TheVariants as option
use Rattle.chi_cli.specs.Commands.{Text, option_named, option_text, takes_value}
use Rattle.chi_cli.specs.Parsing.{app_for, args_rule, file_rule, has_place, option_rule}

abbrev pub shape : Command → Shape
shape c = (built (app_for c)).top

abbrev pub rules : Command → List Rule
rules c = (shape c).rules

abbrev pub built_option : OptionName → Rule
built_option o = with_index 1 (filled (option_rule o))

abbrev pub built_file : Rule
built_file = with_index 1 (filled file_rule)

abbrev pub built_args : Rule
built_args = with_index 2 (filled args_rule)

abbrev built_for : Bool → OptionName → Option Rule → Option Rule
built_for named o other = if named then Some (built_option o) else other

-- `judge` and `picks` have the same rules
judge_long : (name : Text) → arg_by_long (rules command.Judge) name ≡ option_map built_option (option_named command.Judge name)
judge_long name = each
    (bytes_eq (option_text option.Seed) name) (bytes_eq (option_text option.Steps) name) (bytes_eq (option_text option.Until) name) where
      each : (a b c : Bool)
          → built_for (a || false) option.Seed (built_for (b || false) option.Steps (built_for (c || false) option.Until None))
          ≡ option_map built_option (if a then Some option.Seed else if b then Some option.Steps else if c then Some option.Until else None)
      each true b c = refl
      each false true c = refl
      each false false true = refl
      each false false false = refl

pub long_found : (c : Command) (name : Text) → arg_by_long (rules c) name ≡ option_map built_option (option_named c name)
long_found command.Check name = refl
long_found command.Code name = refl
long_found command.Fmt name = refl
long_found command.Load name = refl
long_found command.TraceUp name = refl
long_found command.Judge name = judge_long name
long_found command.Picks name = judge_long name
long_found command.Replay name = each
    (bytes_eq (option_text option.Seed) name) (bytes_eq (option_text option.Steps) name) (bytes_eq (option_text option.Until) name)
    (bytes_eq (option_text option.Trace) name) where
      each : (a b c d : Bool)
          → built_for (a || false) option.Seed (built_for (b || false) option.Steps (built_for (c || false) option.Until
          (built_for (d || false) option.Trace None)))
          ≡ option_map built_option (if a then Some option.Seed else if b then Some option.Steps else if c then Some option.Until
          else if d then Some option.Trace else None)
      each true b c d = refl
      each false true c d = refl
      each false false true d = refl
      each false false false true = refl
      each false false false false = refl
long_found command.Explain name = each
    (bytes_eq (option_text option.Seed) name) (bytes_eq (option_text option.Steps) name) (bytes_eq (option_text option.Policy) name)
    (bytes_eq (option_text option.Salt) name) (bytes_eq (option_text option.Until) name) where
      each : (a b c d e : Bool)
          → built_for (a || false) option.Seed (built_for (b || false) option.Steps (built_for (c || false) option.Policy
          (built_for (d || false) option.Salt (built_for (e || false) option.Until None))))
          ≡ option_map built_option (if a then Some option.Seed else if b then Some option.Steps else if c then Some option.Policy
          else if d then Some option.Salt else if e then Some option.Until else None)
      each true b c d e = refl
      each false true c d e = refl
      each false false true d e = refl
      each false false false true e = refl
      each false false false false true = refl
      each false false false false false = refl
long_found command.Xper name = each
    (bytes_eq (option_text option.Seed) name) (bytes_eq (option_text option.Steps) name) (bytes_eq (option_text option.Policy) name)
    (bytes_eq (option_text option.Salt) name) where
      each : (a b c d : Bool)
          → built_for (a || false) option.Seed (built_for (b || false) option.Steps (built_for (c || false) option.Policy
          (built_for (d || false) option.Salt None)))
          ≡ option_map built_option (if a then Some option.Seed else if b then Some option.Steps else if c then Some option.Policy
          else if d then Some option.Salt else None)
      each true b c d = refl
      each false true c d = refl
      each false false true d = refl
      each false false false true = refl
      each false false false false = refl
long_found command.Sim name = each
    (bytes_eq (option_text option.Seed) name) (bytes_eq (option_text option.Steps) name) (bytes_eq (option_text option.Policy) name)
    (bytes_eq (option_text option.Salt) name) (bytes_eq (option_text option.Until) name) (bytes_eq (option_text option.Probe) name)
    (bytes_eq (option_text option.Trace) name) where
      each : (a b c d e f g : Bool)
          → built_for (a || false) option.Seed (built_for (b || false) option.Steps (built_for (c || false) option.Policy
          (built_for (d || false) option.Salt (built_for (e || false) option.Until (built_for (f || false) option.Probe
          (built_for (g || false) option.Trace None))))))
          ≡ option_map built_option (if a then Some option.Seed else if b then Some option.Steps else if c then Some option.Policy
          else if d then Some option.Salt else if e then Some option.Until else if f then Some option.Probe
          else if g then Some option.Trace else None)
      each true b c d e f g = refl
      each false true c d e f g = refl
      each false false true d e f g = refl
      each false false false true e f g = refl
      each false false false false true f g = refl
      each false false false false false true g = refl
      each false false false false false false true = refl
      each false false false false false false false = refl

pub short_none : (c : Command) (x : ℕ) → arg_by_short (rules c) x ≡ None
short_none command.Sim x = refl
short_none command.Explain x = refl
short_none command.Xper x = refl
short_none command.Check x = refl
short_none command.Code x = refl
short_none command.Fmt x = refl
short_none command.Load x = refl
short_none command.Replay x = refl
short_none command.Judge x = refl
short_none command.Picks x = refl
short_none command.TraceUp x = refl

judge_id : (name : Text) (o : OptionName) → option_named command.Judge name ≡ Some o → arg_by_id (rules command.Judge) (option_text o) ≡ Some (built_option o)
judge_id name o e = each
    (bytes_eq (option_text option.Seed) name) (bytes_eq (option_text option.Steps) name) (bytes_eq (option_text option.Until) name) e where
      there : (known : OptionName) → arg_by_id (rules command.Judge) (option_text known) ≡ Some (built_option known) → Some known ≡ Some o
          → arg_by_id (rules command.Judge) (option_text o) ≡ Some (built_option o)
      there known is e =
          let same : known ≡ o = cc in
          subst (λ (p : OptionName). arg_by_id (rules command.Judge) (option_text p) ≡ Some (built_option p)) same is

      each : (a b c : Bool) → (if a then Some option.Seed else if b then Some option.Steps else if c then Some option.Until else None) ≡ Some o
          → arg_by_id (rules command.Judge) (option_text o) ≡ Some (built_option o)
      each true b c e = there option.Seed refl e
      each false true c e = there option.Steps refl e
      each false false true e = there option.Until refl e
      each false false false e = absurd (cc)

pub id_found : (c : Command) (name : Text) (o : OptionName) → option_named c name ≡ Some o → arg_by_id (rules c) (option_text o) ≡ Some (built_option o)
id_found command.Check name o e = absurd (cc)
id_found command.Code name o e = absurd (cc)
id_found command.Fmt name o e = absurd (cc)
id_found command.Load name o e = absurd (cc)
id_found command.TraceUp name o e = absurd (cc)
id_found command.Judge name o e = judge_id name o e
id_found command.Picks name o e = judge_id name o e
id_found command.Replay name o e = each
    (bytes_eq (option_text option.Seed) name) (bytes_eq (option_text option.Steps) name) (bytes_eq (option_text option.Until) name)
    (bytes_eq (option_text option.Trace) name) e where
      there : (known : OptionName) → arg_by_id (rules command.Replay) (option_text known) ≡ Some (built_option known) → Some known ≡ Some o
          → arg_by_id (rules command.Replay) (option_text o) ≡ Some (built_option o)
      there known is e =
          let same : known ≡ o = cc in
          subst (λ (p : OptionName). arg_by_id (rules command.Replay) (option_text p) ≡ Some (built_option p)) same is

      each : (a b c d : Bool) → (if a then Some option.Seed else if b then Some option.Steps else if c then Some option.Until
          else if d then Some option.Trace else None) ≡ Some o → arg_by_id (rules command.Replay) (option_text o) ≡ Some (built_option o)
      each true b c d e = there option.Seed refl e
      each false true c d e = there option.Steps refl e
      each false false true d e = there option.Until refl e
      each false false false true e = there option.Trace refl e
      each false false false false e = absurd (cc)
id_found command.Explain name o e = each
    (bytes_eq (option_text option.Seed) name) (bytes_eq (option_text option.Steps) name) (bytes_eq (option_text option.Policy) name)
    (bytes_eq (option_text option.Salt) name) (bytes_eq (option_text option.Until) name) e where
      there : (known : OptionName) → arg_by_id (rules command.Explain) (option_text known) ≡ Some (built_option known) → Some known ≡ Some o
          → arg_by_id (rules command.Explain) (option_text o) ≡ Some (built_option o)
      there known is e =
          let same : known ≡ o = cc in
          subst (λ (p : OptionName). arg_by_id (rules command.Explain) (option_text p) ≡ Some (built_option p)) same is

      each : (a b c d f : Bool) → (if a then Some option.Seed else if b then Some option.Steps else if c then Some option.Policy
          else if d then Some option.Salt else if f then Some option.Until else None) ≡ Some o
          → arg_by_id (rules command.Explain) (option_text o) ≡ Some (built_option o)
      each true b c d f e = there option.Seed refl e
      each false true c d f e = there option.Steps refl e
      each false false true d f e = there option.Policy refl e
      each false false false true f e = there option.Salt refl e
      each false false false false true e = there option.Until refl e
      each false false false false false e = absurd (cc)
id_found command.Xper name o e = each
    (bytes_eq (option_text option.Seed) name) (bytes_eq (option_text option.Steps) name) (bytes_eq (option_text option.Policy) name)
    (bytes_eq (option_text option.Salt) name) e where
      there : (known : OptionName) → arg_by_id (rules command.Xper) (option_text known) ≡ Some (built_option known) → Some known ≡ Some o
          → arg_by_id (rules command.Xper) (option_text o) ≡ Some (built_option o)
      there known is e =
          let same : known ≡ o = cc in
          subst (λ (p : OptionName). arg_by_id (rules command.Xper) (option_text p) ≡ Some (built_option p)) same is

      each : (a b c d : Bool) → (if a then Some option.Seed else if b then Some option.Steps else if c then Some option.Policy
          else if d then Some option.Salt else None) ≡ Some o → arg_by_id (rules command.Xper) (option_text o) ≡ Some (built_option o)
      each true b c d e = there option.Seed refl e
      each false true c d e = there option.Steps refl e
      each false false true d e = there option.Policy refl e
      each false false false true e = there option.Salt refl e
      each false false false false e = absurd (cc)
id_found command.Sim name option.Seed e = refl
id_found command.Sim name option.Steps e = refl
id_found command.Sim name option.Policy e = refl
id_found command.Sim name option.Salt e = refl
id_found command.Sim name option.Until e = refl
id_found command.Sim name option.Probe e = refl
id_found command.Sim name option.Trace e = refl

pub file_first : (c : Command) → arg_by_index (rules c) 1 ≡ Some built_file
file_first command.Sim = refl
file_first command.Explain = refl
file_first command.Xper = refl
file_first command.Check = refl
file_first command.Code = refl
file_first command.Fmt = refl
file_first command.Load = refl
file_first command.Replay = refl
file_first command.Judge = refl
file_first command.Picks = refl
file_first command.TraceUp = refl

pub file_found : (c : Command) → arg_by_id (rules c) (codes "file") ≡ Some built_file
file_found command.Sim = refl
file_found command.Explain = refl
file_found command.Xper = refl
file_found command.Check = refl
file_found command.Code = refl
file_found command.Fmt = refl
file_found command.Load = refl
file_found command.Replay = refl
file_found command.Judge = refl
file_found command.Picks = refl
file_found command.TraceUp = refl

-- a command that takes any number of plain words after the first
pub record TakesMore (c : Command) : Type 0 where
  pub second : arg_by_index (rules c) 2 ≡ Some built_args
  pub found : arg_by_id (rules c) (codes "args") ≡ Some built_args
  pub room : (plain : List Text) → has_place c plain ≡ true

pub sim_takes_more : TakesMore command.Sim
sim_takes_more = record { second = refl; found = refl; room = λ plain. refl }

pub explain_takes_more : TakesMore command.Explain
explain_takes_more = record { second = refl; found = refl; room = λ plain. refl }

pub replay_takes_more : TakesMore command.Replay
replay_takes_more = record { second = refl; found = refl; room = λ plain. refl }

pub judge_takes_more : TakesMore command.Judge
judge_takes_more = record { second = refl; found = refl; room = λ plain. refl }

pub picks_takes_more : TakesMore command.Picks
picks_takes_more = record { second = refl; found = refl; room = λ plain. refl }

pub takes : (o : OptionName) → takes_values (built_option o) ≡ takes_value o
takes option.Seed = refl
takes option.Steps = refl
takes option.Policy = refl
takes option.Salt = refl
takes option.Until = refl
takes option.Probe = refl
takes option.Trace = refl
