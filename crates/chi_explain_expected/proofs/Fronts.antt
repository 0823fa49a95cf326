-- What a parser answers of tokens tells whether a program begins with them, within the limits on nesting.
use Rattle.std.proofs.Common.{◌≡◌, ℕ, ◌-◌, eqb, eq-eqb, Bool, true, false, List, [], ◌∷◌, ◌++◌, map, length, take, Result, Ok, Err, refl, ap, sym, subst, ◌∙◌, arith}
use Rattle.std.proofs.Math.Seq.{take-length}
use Rattle.std.specs.Prelude.{MatchBool}
use Rattle.std.proofs.lemmas.Bool.{eqb-true, false≢true}
use Rattle.std.proofs.lemmas.List.{map-append}
use Rattle.chi_grammar.specs.declared.fault.ParseFault.{ParseFault}
use Rattle.chi_grammar.specs.declared.fault.ParseFault.TheVariants.{Syntax, TooDeep, NoMemory}
use Rattle.chi_grammar.specs.Exact.{FrontTo, ParsesAll}
use Rattle.chi_grammar.specs.Fronts.{Front}
use Rattle.chi_grammar.specs.Fronts as front
use Rattle.chi_grammar.specs.Rules.{part}
use Rattle.chi_token.specs.declared.place.Spanned.{Spanned}
use Rattle.chi_token.specs.declared.token.Token.{Token}
use Rattle.chi_tree.specs.declared.class.Class.{Class}
use Rattle.chi_tree.specs.declared.definition.Program.{Program}
use Rattle.chi_tree.specs.Classes.{class_of, number_of}
use Rattle.chi_tree.specs.Limits.{whole_room}
use Rattle.chi_tree.specs.Parts as s
use Rattle.chi_tree.specs.Rules.{grammar}
use Rattle.chi_tree.specs.Statements.{program_of}
use Rattle.chi_tree_spell.specs.Statements.{spelled}
use Rattle.chi_tree_spell.specs.Words.{Tokens, token_of}
use Rattle.chi_tree_laws.specs.Definitions.{FormedProgram}
use Rattle.chi_tree_laws.specs.StatementNestings.{nestings}
use Rattle.chi_tree_laws.proofs.FormedPart.{begins_within, front_within, bare_tokens}
use Rattle.chi_tree_laws.proofs.FormedParts.{programs}
use Rattle.chi_tree_laws.proofs.UnplacedBuilt.{bare_token}
use Rattle.chi_explain_expected.specs.Expected.{Begins, CanStand, CannotStand}
use Rattle.chi_explain_expected.proofs.LastOfClass.{last_of_class}

-- the tokens are a front of a program, within the limits
abbrev pub IsFront : List Spanned → Type 0
IsFront tokens = Front grammar whole_room (part s.Program) tokens

pub front_begins : (tokens : List Spanned) → IsFront tokens → Begins (map token_of tokens)
front_begins tokens p = begins_within FormedProgram spelled nestings program_of s.Program programs whole_room tokens p

pub begins_front : (tokens : List Spanned) → Begins (map token_of tokens) → IsFront tokens
begins_front tokens b = front_within FormedProgram spelled nestings program_of s.Program programs whole_room tokens b

-- what the parser answers

abbrev pub Answers : List Spanned → Result Program ParseFault → Type 0
Answers tokens result = ParsesAll grammar tokens program_of whole_room (part s.Program) result

pub parsed_front : (tokens : List Spanned) (program : Program) → Answers tokens (Ok program) → IsFront tokens
parsed_front tokens program p = front.whole p.2 (sym p.3)

-- a front of all the tokens
whole_front : (tokens : List Spanned) → FrontTo grammar tokens whole_room (part s.Program) 0 (length tokens) → IsFront tokens
whole_front tokens p =
    let all : length tokens - 0 ≡ length tokens = omega arith in
    subst (λ f. Front grammar whole_room (part s.Program) f)
    (sym p.stands.same ∙ ap (λ n. take n tokens) all ∙ take-length tokens) p.is

front_whole : (tokens : List Spanned) → IsFront tokens → FrontTo grammar tokens whole_room (part s.Program) 0 (length tokens)
front_whole tokens p =
    let all : length tokens - 0 ≡ length tokens = omega arith in
    record {
      begins = tokens;
      is = p;
      stands = record { ordered = omega arith; inside = omega arith; same = ap (λ n. take n tokens) all ∙ take-length tokens };
    }

pub ended_front : (tokens : List Spanned) (k : ℕ) → Answers tokens (Err (Syntax k)) → k ≡ length tokens → IsFront tokens
ended_front tokens k bad e = whole_front tokens (subst (λ n. FrontTo grammar tokens whole_room (part s.Program) 0 n) e bad.front)

pub front_ended : (tokens : List Spanned) (k : ℕ) → Answers tokens (Err (Syntax k)) → IsFront tokens → k ≡ length tokens
front_ended tokens k bad p =
    let past = bad.none_further whole_room (length tokens) (front_whole tokens p) in
    let inside = bad.front.stands.inside in
    omega arith

pub deep_none : (tokens : List Spanned) (k : ℕ) → Answers tokens (Err (TooDeep k)) → IsFront tokens → ⊥
deep_none tokens k deep p =
    let past = deep.none_within (length tokens) (front_whole tokens p) in
    let inside = deep.deeper.1.stands.inside in
    omega arith

-- tokens at no place

tokens_with : (before : Tokens) (token : Token) → map token_of (map bare_token before ++ bare_token token ∷ []) ≡ before ++ token ∷ []
tokens_with before token =
    map-append token_of (map bare_token before) (bare_token token ∷ []) ∙ ap (λ ts. ts ++ token ∷ []) (bare_tokens before)

begins_with : (before : Tokens) (token : Token) → Begins (before ++ token ∷ []) → IsFront (map bare_token before ++ bare_token token ∷ [])
begins_with before token b =
    begins_front (map bare_token before ++ bare_token token ∷ []) (subst (λ ts. Begins ts) (sym (tokens_with before token)) b)

with_begins : (before : Tokens) (token : Token) → IsFront (map bare_token before ++ bare_token token ∷ []) → Begins (before ++ token ∷ [])
with_begins before token p =
    subst (λ ts. Begins ts) (tokens_with before token) (front_begins (map bare_token before ++ bare_token token ∷ []) p)

-- one token of a class for another

other_of_class : (before : Tokens) (x y : Token) → class_of x ≡ class_of y → Begins (before ++ x ∷ []) → Begins (before ++ y ∷ [])
other_of_class before x y e b =
    with_begins before y
    (last_of_class grammar (bare_token x) (bare_token y) (ap number_of e) whole_room (part s.Program) (map bare_token before) (begins_with before x b))

pub can_stand : (before : Tokens) (x : Token) (class : Class) → class_of x ≡ class → Begins (before ++ x ∷ []) → CanStand before class
can_stand before x class e b token c = other_of_class before x token (e ∙ sym c) b

pub cannot_stand : (before : Tokens) (x : Token) (class : Class) → class_of x ≡ class → (Begins (before ++ x ∷ []) → ⊥) → CannotStand before class
cannot_stand before x class e none token c b = none (other_of_class before token x (c ∙ sym e) b)

-- whether a program begins with tokens, by what the parser answers

pub told_program : (tokens : List Spanned) (program : Program) → Answers tokens (Ok program) → Begins (map token_of tokens)
told_program tokens program p = front_begins tokens (parsed_front tokens program p)

pub told_end : (tokens : List Spanned) (k : ℕ) → Answers tokens (Err (Syntax k))
    → MatchBool (eqb k (length tokens)) (Begins (map token_of tokens)) (Begins (map token_of tokens) → ⊥)
told_end tokens k bad = by (eqb k (length tokens)) refl
  where
    by : (b : Bool) → eqb k (length tokens) ≡ b → MatchBool b (Begins (map token_of tokens)) (Begins (map token_of tokens) → ⊥)
    by true e = front_begins tokens (ended_front tokens k bad (eqb-true k (length tokens) e))
    by false e = λ b. false≢true (sym e ∙ eq-eqb k (length tokens) (front_ended tokens k bad (begins_front tokens b)))

pub told_deep : (tokens : List Spanned) (k : ℕ) → Answers tokens (Err (TooDeep k)) → Begins (map token_of tokens) → ⊥
told_deep tokens k deep b = deep_none tokens k deep (begins_front tokens b)

pub told_class : (b : Bool) (before : Tokens) (x : Token) (class : Class) → class_of x ≡ class
    → MatchBool b (Begins (before ++ x ∷ [])) (Begins (before ++ x ∷ []) → ⊥) → MatchBool b (CanStand before class) (CannotStand before class)
told_class true before x class e h = can_stand before x class e h
told_class false before x class e h = cannot_stand before x class e h
