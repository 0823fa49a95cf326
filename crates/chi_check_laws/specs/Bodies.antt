-- When what the statements of a body come to is sound, and what is visible after them agrees with the program.
use Rattle.std.specs.Prelude.{◌≡◌, ℕ, ◌<◌, Bool, Option, Some, None, List, [], ◌∷◌, ◌++◌, map, length, slice_get, IsTrue}
use Rattle.chi_types.specs.declared.ty.Ty.{Ty, Ty-F}
use Rattle.chi_core.specs.declared.statement.CStat.{CStat, out-CStat}
use Rattle.chi_core.specs.Kinds.{kind_of, kinds_of, Every}
use Rattle.chi_core.specs.Scopes.{Role, function, process, Scope}
use Rattle.chi_core.specs.SetSlots.{Known as Set, sets}
use Rattle.chi_core.specs.Sound.{SoundIn, SoundHome}
use Rattle.chi_core.specs.SoundStatements.{SoundBlock}
use Rattle.chi_check.specs.Below.chi_check_streams.specs.Streams.{each, of_statement}
use Rattle.chi_check.specs.Below.chi_check_stat_rules.specs.declared.home.ExitType.TheVariants as exit
use Rattle.chi_check.specs.Below.chi_check_stat_rules.specs.declared.home.Home.{Home}
use Rattle.chi_check.specs.Below.chi_check_stat_rules.specs.declared.home.Home.TheVariants as home
use Rattle.chi_check_types.specs.declared.known.Known.{Known}
use Rattle.chi_check_types.specs.declared.known.Known.TheVariants as known
use Rattle.chi_check_types.specs.Names.{known_in}
use Rattle.chi_check_laws.specs.KnownNames.{AllStand}
use Rattle.chi_check.specs.Below.chi_check_stat_lines.specs.declared.state.State.{State}
use Rattle.chi_check_laws.specs.Texts.{body_texts}

-- the role of what a statement stands in, where that has all types; an experiment has statements of its own
abbrev pub role_of : Home → Option Role
role_of (home.Function None) = None
role_of (home.Function (Some result)) = Some (function (kind_of result))
role_of (home.Process exit.Nothing) = Some (process None)
role_of (home.Process exit.Untyped) = None
role_of (home.Process (exit.Given t)) = Some (process (Some (kind_of t)))
role_of home.Experiment = None

-- the role of what the parts of statements are read in: those of an experiment are read as in a function
abbrev pub reads_as : Home → Option Role
reads_as (home.Function result) = role_of (home.Function result)
reads_as (home.Process own) = role_of (home.Process own)
reads_as home.Experiment = Some (function Ty-F.Void)

-- each slot is of the kind of its type
abbrev pub SlotsHave : Scope → List Ty → Type 0
SlotsHave scope slots = (slot : ℕ) (t : Ty) → slice_get slots slot ≡ Some t → slice_get scope.slots slot ≡ Some (kind_of t)

-- the visible names agree with the program, and the types of all slots are sound
pub record Agrees (scope : Scope) (set : Set) (s : State) : Type 0 where
  pub names : AllStand scope set s.names
  pub slots : Every (SoundIn scope.core) s.slots

-- what counts as set after statements in turn
abbrev pub set_by : List CStat → Set → Set
set_by [] set = set
set_by (x ∷ xs) set = set_by xs (sets (out-CStat x) set)

-- a body with its streams, however many calls come before it; its text literals are short
abbrev pub SoundBody : Scope → Bool → Set → List CStat → Type 0
SoundBody scope loop set body = IsTrue (body_texts body) → (count : ℕ) → SoundBlock scope loop set (each (map of_statement body) count).part

-- names and slots are only added
pub record Grows (before after : State) : Type 0 where
  pub names : (more : List (List ℕ × Known)) × (after.names ≡ before.names ++ more)
  pub slots : (more : List Ty) × (after.slots ≡ before.slots ++ more)

-- each visible variable has one of the slots
abbrev pub HaveSlots : State → Type 0
HaveSlots s = (name : List ℕ) (slot : ℕ) (t : Ty) → known_in s.names name ≡ Some (known.Var slot t) → slot < length s.slots

-- the body of a definition: its parameters are the first slots, the types of all slots are sound, and so is the body with its streams
pub record SoundBodyOf (scope : Scope) (params slots : List Ty) (body : List CStat) : Type 0 where
  pub first : (others : List Ty) × (slots ≡ params ++ others)
  pub types : Every (SoundIn scope.core) slots
  pub home : IsTrue (body_texts body) → (count : ℕ) → SoundHome (record { scope = scope; params = kinds_of params; body = (each (map of_statement body) count).part })
