-- What tells a fault of tokens, and that it is told in one way.
use Rattle.std.proofs.Common.{◌≡◌, ℕ, ◌+◌, ◌<◌, ◌≤◌, Bool, true, false, List, ◌++◌, Result, Ok, Err, ◌⊎◌, inl, inr, refl, ap, sym, subst, ◌∙◌, arith, append_assoc, Option}
use Rattle.std.specs.Prelude.{MatchBool, codes, slice_get}
use Rattle.std.proofs.lemmas.Bool.{cases_lt}
use Rattle.chi_grammar.specs.declared.fault.ParseFault.{ParseFault}
use Rattle.chi_grammar.specs.declared.fault.ParseFault.TheVariants.{Syntax, TooDeep, NoMemory}
use Rattle.chi_token.specs.declared.place.Spanned.{Spanned}
use Rattle.chi_tree.specs.declared.class.Class.{Class}
use Rattle.chi_tree_spell.specs.Words.{Tokens}
use Rattle.chi_tree_laws.specs.Answers.{IsAnswer}
use Rattle.chi_explain.specs.Explanations.{explained}
use Rattle.chi_explain_expected.specs.Depth.{IsBlockTooDeep}
use Rattle.chi_explain_expected.specs.Expected.{all_classes, tokens_before, AreExpected}
use Rattle.chi_explain_syntax.specs.declared.fault.TheConstants.{MOST_TOKENS}
use Rattle.chi_explain_syntax.specs.Listing.{expected_words, line_to_end, semicolon_words, listed as listed_words}
use Rattle.chi_explain_syntax.specs.Standing.{place_at, standing_words}
use Rattle.chi_explain_syntax.specs.Syntax.{IsSyntaxExplanation, TellDepth, TellFault, fault_words, limit_words, unlisted_words, block_words, expression_words, listed, unlisted, of_blocks, of_expressions}

pub tell_depth : (b : Bool) (tokens : List Spanned) (k : ℕ) → MatchBool b (IsBlockTooDeep tokens k) (IsBlockTooDeep tokens k → ⊥) → (words : List ℕ)
    → words ≡ standing_words (slice_get tokens k) ++ limit_words b → TellDepth tokens k words
tell_depth true tokens k is words e = subst (λ w. TellDepth tokens k w) (sym e) (of_blocks is)
tell_depth false tokens k is words e = subst (λ w. TellDepth tokens k w) (sym e) (of_expressions is)

pub tell_listed : (source : List ℕ) (tokens : List Spanned) (k : ℕ) (classes : List Class) → k ≤ MOST_TOKENS
    → AreExpected (tokens_before tokens k) all_classes classes → (words : List ℕ) → words ≡ fault_words source tokens k classes
    → TellFault source tokens k words
tell_listed source tokens k classes le are words e = subst (λ w. TellFault source tokens k w) (sym e) (listed le are)

pub tell_unlisted : (source : List ℕ) (tokens : List Spanned) (k : ℕ) → MOST_TOKENS < k → (words : List ℕ) → words ≡ unlisted_words tokens k
    → TellFault source tokens k words
tell_unlisted source tokens k lt words e = subst (λ w. TellFault source tokens k w) (sym e) (unlisted lt)

-- there is one way

abbrev SomeChoice : Type 0
SomeChoice = (before : Tokens) (classes : List Class) → (chosen : List Class) × AreExpected before classes chosen

abbrev OneChoice : Type 0
OneChoice = (before : Tokens) (classes chosen other : List Class) → AreExpected before classes chosen → AreExpected before classes other → chosen ≡ other

abbrev BlockOrNot : Type 0
BlockOrNot = (tokens : List Spanned) (k : ℕ) → IsBlockTooDeep tokens k ⊎ (IsBlockTooDeep tokens k → ⊥)

some_fault : SomeChoice → (source : List ℕ) (tokens : List Spanned) (k : ℕ) → (words : List ℕ) × TellFault source tokens k words
some_fault some source tokens k =
    elim (cases_lt MOST_TOKENS k) [
      | inl lt ↦ (unlisted_words tokens k, unlisted lt)
      | inr le ↦
          let choice = some (tokens_before tokens k) all_classes in
          (fault_words source tokens k choice.0, listed le choice.1)
    ]

some_depth : BlockOrNot → (tokens : List Spanned) (k : ℕ) → (words : List ℕ) × TellDepth tokens k words
some_depth cases tokens k =
    elim (cases tokens k) [
      | inl is ↦ (standing_words (slice_get tokens k) ++ block_words, of_blocks is)
      | inr not ↦ (standing_words (slice_get tokens k) ++ expression_words, of_expressions not)
    ]

one_fault : OneChoice → {source : List ℕ} {tokens : List Spanned} {k : ℕ} {words other : List ℕ} → TellFault source tokens k words
    → TellFault source tokens k other → words ≡ other
one_fault one {source} {tokens} {k} (listed {classes = classes} le are) (listed {classes = others} le_too are_too) =
    ap (λ cs. fault_words source tokens k cs) (one (tokens_before tokens k) all_classes classes others are are_too)
one_fault one (listed le are) (unlisted lt) = absurd (omega arith)
one_fault one (unlisted lt) (listed le are) = absurd (omega arith)
one_fault one (unlisted lt) (unlisted lt_too) = refl

one_depth : {tokens : List Spanned} {k : ℕ} {words other : List ℕ} → TellDepth tokens k words → TellDepth tokens k other → words ≡ other
one_depth (of_blocks is) (of_blocks is_too) = refl
one_depth (of_blocks is) (of_expressions not) = absurd (not is)
one_depth (of_expressions not) (of_blocks is) = absurd (not is)
one_depth (of_expressions not) (of_expressions not_too) = refl

pub some_explanation : SomeChoice → BlockOrNot → (file source : List ℕ) (tokens : List Spanned) (fault : ParseFault) → IsAnswer tokens (Err fault)
    → (text : List ℕ) × IsSyntaxExplanation file source tokens fault text
some_explanation some cases file source tokens (Syntax k) a =
    let words = some_fault some source tokens k in
    (explained file source (place_at source (slice_get tokens k)) words.0, (words.0, words.1, refl))
some_explanation some cases file source tokens (TooDeep k) a =
    let words = some_depth cases tokens k in
    (explained file source (place_at source (slice_get tokens k)) words.0, (words.0, words.1, refl))
some_explanation some cases file source tokens NoMemory a = absurd a

pub one_explanation : OneChoice → (file source : List ℕ) (tokens : List Spanned) (fault : ParseFault) (text other : List ℕ)
    → IsSyntaxExplanation file source tokens fault text → IsSyntaxExplanation file source tokens fault other → text ≡ other
one_explanation one file source tokens (Syntax k) text other a b =
    a.2 ∙ ap (λ words. explained file source (place_at source (slice_get tokens k)) words) (one_fault one a.1 b.1) ∙ sym b.2
one_explanation one file source tokens (TooDeep k) text other a b =
    a.2 ∙ ap (λ words. explained file source (place_at source (slice_get tokens k)) words) (one_depth a.1 b.1) ∙ sym b.2
one_explanation one file source tokens NoMemory text other a b = absurd a

pub ruleset faults = (tell_listed, tell_unlisted)

pub ruleset depths = (tell_depth)

-- what could stand there comes behind the rest
pub tell_expected : (words first second third : List ℕ) (classes : List Class) (line to_end : Option ℕ) → first ≡ words ++ codes "; expected: "
    → second ≡ first ++ semicolon_words to_end → to_end ≡ line_to_end classes line → third ≡ second ++ listed_words classes → third ≡ words ++ expected_words classes line
tell_expected words first second third classes line to_end a b same d =
    d
    ∙ ap (λ ws. ws ++ listed_words classes) (b ∙ ap (λ ws. ws ++ semicolon_words to_end) a ∙ ap (λ l. (words ++ codes "; expected: ") ++ semicolon_words l) same)
    ∙ append_assoc (words ++ codes "; expected: ") (semicolon_words (line_to_end classes line)) (listed_words classes)
    ∙ append_assoc words (codes "; expected: ") (semicolon_words (line_to_end classes line) ++ listed_words classes)
