-- Which trees runs give, and answers that are seen in another way.
use Rattle.std.proofs.Common.{◌≡◌, Some, ℕ, Ok, Err, Result, List, [], ◌∷◌, ◌<◌, true, refl, sym, subst, ◌∙◌}
use Rattle.chi_grammar.specs.declared.fault.ParseFault.{ParseFault}
use Rattle.chi_grammar.specs.declared.room.Room.{Room}
use Rattle.chi_grammar.specs.Rules.{Rule, leaf, node, pair, none, part, word, ◌▸◌}
use Rattle.chi_grammar.specs.Lookahead.{Next, starts_in}
use Rattle.chi_grammar.proofs.Classes.{in_one}
use Rattle.chi_grammar.specs.Reads.{Reads, TokenAt}
use Rattle.chi_grammar.specs.RuleRuns.{Done, RuleRuns}
use Rattle.chi_grammar.specs.RuleRuns as runs
use Rattle.chi_token.specs.declared.place.Spanned.{Spanned}
use Rattle.chi_token.specs.declared.keyword.Keyword.TheVariants.{EndWord}
use Rattle.chi_token.specs.declared.sign.Sign.TheVariants.{Assign, Colon, Comma, LeftBrace, RightBrace}
use Rattle.chi_tree.specs.declared.definition.Definition.TheVariants as definition
use Rattle.chi_tree.specs.declared.expr.Expr.{Expr}
use Rattle.chi_tree.specs.declared.statement.Alternative.TheVariants as alternative
use Rattle.chi_tree.specs.declared.statement.Element.TheVariants as element
use Rattle.chi_tree.specs.Parts.{Part}
use Rattle.chi_tree.specs.Parts as s
use Rattle.chi_tree.specs.Rules.{grammar, nested, inner_block, keyword, sign}
use Rattle.chi_tree.specs.Tables.{table}
use Rattle.chi_tree.proofs.Fine.{grammar_fine}
use Rattle.chi_grammar.proofs.Answers.{means}
use Rattle.chi_grammar.proofs.Starts.{takes}
use Rattle.chi_grammar.proofs.Decided.{decided}
use Rattle.chi_tree.specs.Statements.{initial_of, is_some, alternative_of, definition_of, element_of, walk_of}
use Rattle.chi_tree.specs.View.{Built, name_in, optional, place_in, type_of}
use Rattle.chi_parse.specs.Heads.{is_there}
use Rattle.chi_parse.specs.Rests.{assigned_of, callable_of, guarded_of, headed_of, offered_shown, values_of, repeated_alternatives_of, repeated_elements_of}

pub any_room : Room
any_room = record { blocks = 0; expressions = 0 }

module _ {tokens : List Spanned} where
  -- the tree of a part has the part's name
  pub by_part : {room : Room} {s : Part} {i j : ℕ} {t : Built} (P : Built → Type 0) → ((u : Built) → P (node s u))
      → RuleRuns grammar table tokens room (part s) i (Done t j) → P t
  by_part P f (runs.part p) = f _

  -- the tree of a word is a token
  pub by_word : {room : Room} {class i j : ℕ} {t : Built} (P : Built → Type 0) → ((x : Spanned) → P (leaf x))
      → RuleRuns grammar table tokens room (word class) i (Done t j) → P t
  by_word P f (runs.word e p) = f _

-- what an unwind is shown as, by what it repeats
module _ {tokens : List Spanned} where
  pub unwound_elements : {room : Room} {i j : ℕ} {t : Built} → RuleRuns grammar table tokens room (sign Colon ▸ inner_block (part s.Elements) ▸ keyword EndWord) i (Done t j) → (w walk : Built)
      → element_of (node s.UnwoundElements (pair w (pair walk t))) ≡ element.Unwind (place_in w) (walk_of walk) (repeated_elements_of t)
  unwound_elements (runs.both p (runs.both q r)) w walk = refl

  pub unwound_alternatives : {room : Room} {i j : ℕ} {t : Built} → RuleRuns grammar table tokens room (sign Colon ▸ inner_block (part s.Alternatives) ▸ keyword EndWord) i (Done t j) → (w walk : Built)
      → alternative_of (node s.UnwoundAlternatives (pair w (pair walk t))) ≡ alternative.Unwind (place_in w) (walk_of walk) (repeated_alternatives_of t)
  unwound_alternatives (runs.both p (runs.both q r)) w walk = refl

-- what a definition is shown as, by its formals and its block
module _ {tokens : List Spanned} where
  pub function_shows : {room : Room} {i j : ℕ} {t : Built} → RuleRuns grammar table tokens room (part s.Parameters ▸ part s.Body) i (Done t j) → (w ty name : Built)
      → definition_of (node s.FuncDef (pair w (pair ty (pair name t))))
      ≡ definition.Func (place_in w) (type_of ty) (name_in name) (callable_of t).0 (callable_of t).1
  function_shows (runs.both p q) w ty name = refl

  pub process_shows : {room : Room} {i j : ℕ} {t : Built} → RuleRuns grammar table tokens room (part s.Head ▸ part s.Parameters ▸ part s.Body) i (Done t j) → (w : Built)
      → definition_of (node s.ProcDef (pair w t))
      ≡ definition.Proc (place_in w) (headed_of t).0.0 (headed_of t).0.1 (headed_of t).1.0 (headed_of t).1.1
  process_shows (runs.both h (runs.both p q)) w = refl

  pub model_shows : {room : Room} {i j : ℕ} {t : Built} → RuleRuns grammar table tokens room (part s.Head ▸ part s.Parameters ▸ part s.Body) i (Done t j) → (w : Built)
      → definition_of (node s.ModelDef (pair w t))
      ≡ definition.Model (place_in w) (headed_of t).0.0 (headed_of t).0.1 (headed_of t).1.0 (headed_of t).1.1
  model_shows (runs.both h (runs.both p q)) w = refl

-- what stands after `=`, and after a guard
module _ {tokens : List Spanned} where
  pub initial_shows : {room : Room} {i j : ℕ} {t : Built} → RuleRuns grammar table tokens room (sign Assign ▸ part s.Expr) i (Done t j) → initial_of (node s.Initial t) ≡ Some (assigned_of t)
  initial_shows (runs.both p q) = refl

  pub constant_shows : {room : Room} {i j : ℕ} {t : Built} → RuleRuns grammar table tokens room (sign Assign ▸ part s.Expr) i (Done t j) → (w ty name : Built)
      → definition_of (node s.ConstDef (pair w (pair ty (pair name t))))
      ≡ definition.Const (place_in w) (type_of ty) (name_in name) (assigned_of t).equals (assigned_of t).value
  constant_shows (runs.both p q) w ty name = refl

  pub enumeration_shows : {room : Room} {i j : ℕ} {t : Built} → RuleRuns grammar table tokens room (sign Assign ▸ nested (sign LeftBrace ▸ part s.Names ▸ sign RightBrace)) i (Done t j)
      → (w name : Built) → definition_of (node s.EnumDef (pair w (pair name t))) ≡ definition.Enum (place_in w) (name_in name) (values_of t)
  enumeration_shows (runs.both p (runs.deeper e (runs.both q (runs.both r x)))) w name = refl

  pub guarded_shows : {room : Room} {i j : ℕ} {t : Built} → RuleRuns grammar table tokens room (sign Comma ▸ part s.Communication) i (Done t j) → (guard : Expr)
      → offered_shown guard (node s.Guarded t) ≡ record { guard = Some guard; communication = guarded_of t }
  guarded_shows (runs.both p q) guard = refl

-- an answer is seen in another way
pub reads_as : {T : Type 0} (tokens : List Spanned) (view other : Built → T) → ((t : Built) → other t ≡ view t)
    → (room : Room) (r : Rule Spanned Part) (at : ℕ) (result : Result (T × ℕ) ParseFault)
    → Reads grammar table tokens view room r at result → Reads grammar table tokens other room r at result
reads_as tokens view other same room r at (Ok p) q =
    record { tree = q.tree; runs = q.runs; shows = same q.tree ∙ q.shows; ordered = q.ordered; inside = q.inside }
reads_as tokens view other same room r at (Err fault) q = q

-- a part takes a token
pub run_ahead : {tokens : List Spanned} {room : Room} {s : Part} {i j : ℕ} {t : Built} → RuleRuns grammar table tokens room (part s) i (Done t j) → i < j
run_ahead {tokens} {s = s} p =
    let longest = means grammar table grammar_fine tokens (decided {A = Spanned} table (part s) refl) p in
    takes grammar table grammar_fine tokens (decided {A = Spanned} table (part s) refl) refl longest.is longest.at

-- whether a token stands where one may be left out
pub there : (t : Built) → is_some (optional t t) ≡ is_there t
there (leaf x) = refl
there (node s t) = refl
there (pair t u) = refl
there none = refl

-- where a token of a class was read, one stands
pub token_next : {tokens : List Spanned} {class at end : ℕ} {x : Spanned} → TokenAt grammar tokens class at x end → Next grammar tokens at (class ∷ []) true
token_next {class = class} {x = x} t =
    subst (λ o. starts_in grammar.class_of (class ∷ []) o ≡ true) (sym t.stands) (in_one grammar.class_of class x t.of_class)
