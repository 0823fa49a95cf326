-- There is exactly one choice of the classes that can stand after tokens, and a statement is too deep at a token or it isn't.
use Rattle.std.proofs.Common.{◌≡◌, ℕ, ◌+◌, ◌<◌, ◌≤◌, eqb, eq-eqb, Bool, true, false, List, [], ◌∷◌, ◌++◌, map, length, get_or, drop, Result, Ok, Err, ◌⊎◌, inl, inr, refl, ap, sym, subst, ◌∙◌, append_assoc}
use Rattle.std.specs.Prelude.{MatchBool}
use Rattle.std.proofs.lemmas.Bool.{cases_eq, eqb-true, false≢true}
use Rattle.std.proofs.lemmas.List.{append-nil, drop_all, drop_more}
use Rattle.chi_grammar.specs.declared.fault.ParseFault.{ParseFault}
use Rattle.chi_grammar.specs.declared.fault.ParseFault.TheVariants.{Syntax, TooDeep, NoMemory}
use Rattle.chi_grammar.specs.Exact.{ParsesAll}
use Rattle.chi_grammar.specs.Rules.{part}
use Rattle.chi_grammar.proofs.SomeWhole.{Answer, some_whole}
use Rattle.chi_token.specs.declared.keyword.Keyword.TheVariants.{PassWord}
use Rattle.chi_token.specs.declared.place.Spanned.{Spanned}
use Rattle.chi_token.specs.declared.token.Token.{Token}
use Rattle.chi_token.specs.declared.token.Token.TheVariants as token
use Rattle.chi_tree.specs.declared.class.Class.{Class}
use Rattle.chi_tree.specs.declared.class.Class.TheVariants.{Word, Sign, Name, Int, Real, Text}
use Rattle.chi_tree.specs.declared.definition.Program.{Program}
use Rattle.chi_tree.specs.Classes.{class_of}
use Rattle.chi_tree.specs.Limits.{whole_room}
use Rattle.chi_tree.specs.Parts as s
use Rattle.chi_tree.specs.Rules.{grammar}
use Rattle.chi_tree.specs.Statements.{program_of}
use Rattle.chi_tree.specs.Tables.{table}
use Rattle.chi_tree.proofs.Fine.{grammar_fine}
use Rattle.chi_tree_spell.specs.Words.{Tokens, token_of}
use Rattle.chi_tree_laws.specs.Answers.{IsAnswer, IsDepth}
use Rattle.chi_tree_laws.proofs.FormedPart.{bare_tokens}
use Rattle.chi_tree_laws.proofs.ProgramAnswers.{answer_some, answer_one, program_is, fault_is, depth_is}
use Rattle.chi_tree_laws.proofs.UnplacedBuilt.{bare_token}
use Rattle.chi_explain_expected.specs.Depth.{IsFirstTooDeep, IsBlockTooDeep}
use Rattle.chi_explain_expected.specs.Expected.{AreExpected, Begins, CanStand, CannotStand, no_more, expected, unexpected, tokens_before}
use Rattle.chi_explain_expected.proofs.Fronts.{told_program, told_end, told_deep, can_stand, cannot_stand}

-- a token of a class
of_class : Class → Token
of_class (Word word) = token.Word word
of_class (Sign sign) = token.Sign sign
of_class Name = token.Name []
of_class Int = token.Int []
of_class Real = token.Real []
of_class Text = token.Text []

is_of_class : (class : Class) → class_of (of_class class) ≡ class
unfolding of_class
is_of_class (Word word) = refl
is_of_class (Sign sign) = refl
is_of_class Name = refl
is_of_class Int = refl
is_of_class Real = refl
is_of_class Text = refl

-- a program begins with tokens, or none does
begins_or_not : (tokens : Tokens) → Begins tokens ⊎ (Begins tokens → ⊥)
begins_or_not tokens =
    let xs = map bare_token tokens in
    let a : Answer grammar xs program_of whole_room (part s.Program)
    = some_whole grammar table grammar_fine (part s.Program) refl program_of xs whole_room in
    subst (λ ts. Begins ts ⊎ (Begins ts → ⊥)) (bare_tokens tokens) (by xs a.answer a.remembers a.exact)
  where
    of_end : (b : Bool) (P : Type 0) → MatchBool b P (P → ⊥) → P ⊎ (P → ⊥)
    of_end true P h = inl h
    of_end false P h = inr h

    by : (xs : List Spanned) (result : Result Program ParseFault) → (result ≡ Err NoMemory → ⊥)
        → ParsesAll grammar xs program_of whole_room (part s.Program) result → Begins (map token_of xs) ⊎ (Begins (map token_of xs) → ⊥)
    by xs (Ok program) r p = inl (told_program xs program p)
    by xs (Err (Syntax k)) r p = of_end (eqb k (length xs)) (Begins (map token_of xs)) (told_end xs k p)
    by xs (Err (TooDeep k)) r p = inr (told_deep xs k p)
    by xs (Err NoMemory) r p = absurd (r refl)

stands_or_not : (before : Tokens) (class : Class) → CanStand before class ⊎ CannotStand before class
stands_or_not before class =
    let one = of_class class in
    elim (begins_or_not (before ++ one ∷ [])) [
      | inl b ↦ inl (can_stand before one class (is_of_class class) b)
      | inr b ↦ inr (cannot_stand before one class (is_of_class class) b)
    ]

pub some_choice : (before : Tokens) (classes : List Class) → (chosen : List Class) × AreExpected before classes chosen
some_choice before [] = ([], no_more)
some_choice before (class ∷ classes) =
    let more = some_choice before classes in
    elim (stands_or_not before class) [
      | inl p ↦ (class ∷ more.0, expected p more.1)
      | inr p ↦ (more.0, unexpected p more.1)
    ]

not_both : (before : Tokens) (class : Class) → CanStand before class → CannotStand before class → ⊥
not_both before class p q = q (of_class class) (is_of_class class) (p (of_class class) (is_of_class class))

pub one_choice : (before : Tokens) (classes chosen other : List Class) → AreExpected before classes chosen → AreExpected before classes other → chosen ≡ other
one_choice before _ _ _ no_more no_more = refl
one_choice before _ _ _ (expected {class = class} {classes = classes} {chosen = chosen} p a) (expected {chosen = other} q b) =
    ap (λ cs. class ∷ cs) (one_choice before classes chosen other a b)
one_choice before _ _ _ (expected {class = class} p a) (unexpected q b) = absurd (not_both before class p q)
one_choice before _ _ _ (unexpected {class = class} p a) (expected q b) = absurd (not_both before class q p)
one_choice before _ _ _ (unexpected {classes = classes} {chosen = chosen} p a) (unexpected {chosen = other} q b) =
    one_choice before classes chosen other a b

-- the classes before class i, of which these were chosen
abbrev pub Chosen : Tokens → List Class → ℕ → List Class → Type 0
Chosen before classes i chosen = (rest : List Class) → AreExpected before (drop i classes) rest → AreExpected before classes (chosen ++ rest)

pub chosen_yes : (before : Tokens) (classes : List Class) (i : ℕ) (chosen : List Class) (d : Class) → i < length classes
    → CanStand before (get_or classes i d) → Chosen before classes i chosen → Chosen before classes (i + 1) (chosen ++ get_or classes i d ∷ [])
chosen_yes before classes i chosen d within can goes rest a =
    let x = get_or classes i d in
    subst (λ cs. AreExpected before classes cs) (sym (append_assoc chosen (x ∷ []) rest))
    (goes (x ∷ rest) (subst (λ cs. AreExpected before cs (x ∷ rest)) (sym (drop_more classes i d within)) (expected can a)))

pub chosen_no : (before : Tokens) (classes : List Class) (i : ℕ) (chosen : List Class) (d : Class) → i < length classes
    → CannotStand before (get_or classes i d) → Chosen before classes i chosen → Chosen before classes (i + 1) chosen
chosen_no before classes i chosen d within cannot goes rest a =
    goes rest (subst (λ cs. AreExpected before cs rest) (sym (drop_more classes i d within)) (unexpected cannot a))

pub chosen_all : (before : Tokens) (classes : List Class) (i : ℕ) (chosen : List Class) → length classes ≤ i
    → Chosen before classes i chosen → AreExpected before classes chosen
chosen_all before classes i chosen past goes =
    subst (λ cs. AreExpected before classes cs) (append-nil chosen)
    (goes [] (subst (λ cs. AreExpected before cs []) (sym (drop_all i classes past)) no_more))

-- an answer tells whether a token is the first too deep

is_depth : (tokens : List Spanned) (k : ℕ) → IsDepth tokens k ⊎ (IsDepth tokens k → ⊥)
is_depth tokens k = by (answer_some tokens).0 (answer_some tokens).1
  where
    same_depth : (j : ℕ) → ◌≡◌ {A = Result Program ParseFault} (Err (TooDeep j)) (Err (TooDeep k)) → j ≡ k
    same_depth j q = cc

    by : (result : Result Program ParseFault) → IsAnswer tokens result → IsDepth tokens k ⊎ (IsDepth tokens k → ⊥)
    by (Ok program) a = inr (λ d. let same = answer_one tokens (Ok program) (Err (TooDeep k)) a d in cc)
    by (Err (Syntax j)) a = inr (λ d. let same = answer_one tokens (Err (Syntax j)) (Err (TooDeep k)) a d in cc)
    by (Err (TooDeep j)) a =
        elim (cases_eq j k) [
          | inl e ↦ inl (subst (λ n. IsDepth tokens n) e a)
          | inr ne ↦ inr (λ d. ne (same_depth j (answer_one tokens (Err (TooDeep j)) (Err (TooDeep k)) a d)))
        ]
    by (Err NoMemory) a = absurd a

first_or_not : (tokens : Tokens) (k : ℕ) → IsFirstTooDeep tokens k ⊎ (IsFirstTooDeep tokens k → ⊥)
first_or_not tokens k =
    subst (λ ts. IsFirstTooDeep ts k ⊎ (IsFirstTooDeep ts k → ⊥)) (bare_tokens tokens) (is_depth (map bare_token tokens) k)

pub block_or_not : (tokens : List Spanned) (k : ℕ) → IsBlockTooDeep tokens k ⊎ (IsBlockTooDeep tokens k → ⊥)
block_or_not tokens k = first_or_not (tokens_before tokens k ++ token.Word PassWord ∷ []) k

-- whether a statement is too deep at a token, by what the parser answers for the tokens before it and `pass`

module _ (tokens all : List Spanned) (k : ℕ) (same : map token_of all ≡ tokens_before tokens k ++ token.Word PassWord ∷ []) where
  pub told_other : (result : Result Program ParseFault) → IsAnswer all result → (result ≡ Err (TooDeep k) → ⊥) → IsBlockTooDeep tokens k → ⊥
  told_other result a ne d = ne (answer_one all result (Err (TooDeep k)) a (subst (λ ts. IsFirstTooDeep ts k) (sym same) d))

  pub told_program_there : (program : Program) → ParsesAll grammar all program_of whole_room (part s.Program) (Ok program) → IsBlockTooDeep tokens k → ⊥
  told_program_there program p = told_other (Ok program) ((program_is all program).0 p) (λ e. cc)

  pub told_fault_there : (j : ℕ) → ParsesAll grammar all program_of whole_room (part s.Program) (Err (Syntax j)) → IsBlockTooDeep tokens k → ⊥
  told_fault_there j p = told_other (Err (Syntax j)) ((fault_is all j).0 p) (λ e. cc)

  pub told_depth_there : (j : ℕ) → ParsesAll grammar all program_of whole_room (part s.Program) (Err (TooDeep j))
      → MatchBool (eqb j k) (IsBlockTooDeep tokens k) (IsBlockTooDeep tokens k → ⊥)
  told_depth_there j p = by (eqb j k) refl
    where
      same_index : ◌≡◌ {A = Result Program ParseFault} (Err (TooDeep j)) (Err (TooDeep k)) → j ≡ k
      same_index q = cc

      by : (b : Bool) → eqb j k ≡ b → MatchBool b (IsBlockTooDeep tokens k) (IsBlockTooDeep tokens k → ⊥)
      by true e = subst (λ ts. IsFirstTooDeep ts k) same (subst (λ n. IsDepth all n) (eqb-true j k e) ((depth_is all j).0 p))
      by false e = told_other (Err (TooDeep j)) ((depth_is all j).0 p) (λ q. false≢true (sym e ∙ eq-eqb j k (same_index q)))
