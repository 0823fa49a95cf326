-- The text that explains why the tokens of a source are no program.
use Rattle.std.specs.Prelude.{ℕ, ◌≡◌, ◌<◌, ◌≤◌, ◌&&◌, Bool, List, [], ◌++◌, slice_get, codes, Option, if◌then◌else◌}
use Rattle.std.specs.Fmt.{decimal}
use Rattle.std.specs.List.{list_any}
use Rattle.chi_token.specs.declared.place.Spanned.{Spanned}
use Rattle.chi_grammar.specs.declared.fault.ParseFault.{ParseFault}
use Rattle.chi_grammar.specs.declared.fault.ParseFault.TheVariants.{Syntax, TooDeep, NoMemory}
use Rattle.chi_tree.specs.declared.class.Class.{Class}
use Rattle.chi_tree.specs.declared.limits.TheConstants.{MOST_BLOCKS, MOST_EXPRESSIONS}
use Rattle.chi_explain.specs.Explanations.{explained}
use Rattle.chi_explain_expected.specs.Depth.{IsBlockTooDeep}
use Rattle.chi_explain_expected.specs.Expected.{all_classes, tokens_before, AreExpected}
use Rattle.chi_explain_syntax.specs.declared.fault.TheConstants.{MOST_TOKENS}
use Rattle.chi_explain_syntax.specs.Listing.{expected_words, is_name}
use Rattle.chi_explain_syntax.specs.Standing.{earlier_line, is_word, place_at, standing_words, token_before}

-- a word of the language stands where a name could
abbrev pub word_for_name : Option Spanned → List Class → List ℕ
word_for_name there classes =
    if is_word there && list_any is_name classes then codes ", and a word of the language is no name" else []

abbrev pub cannot_stand : Option Spanned → List ℕ
cannot_stand there = standing_words there ++ codes " can't stand here"

-- what is said of what stands at token k, where these classes could stand
abbrev pub fault_words : List ℕ → List Spanned → ℕ → List Class → List ℕ
fault_words source tokens k classes =
    cannot_stand (slice_get tokens k) ++ word_for_name (slice_get tokens k) classes
    ++ expected_words classes (earlier_line (token_before tokens k) (place_at source (slice_get tokens k)))

-- where too many tokens stand before it
abbrev pub unlisted_words : List Spanned → ℕ → List ℕ
unlisted_words tokens k =
    cannot_stand (slice_get tokens k) ++ codes "; what could isn't listed after the first " ++ decimal MOST_TOKENS ++ codes " tokens"

-- the words tell what can't stand at token k and, where so many tokens may stand before it, which classes of tokens can
pub data TellFault (source : List ℕ) (tokens : List Spanned) (k : ℕ) : List ℕ → Type 0 where
  listed : {classes : List Class} → k ≤ MOST_TOKENS → AreExpected (tokens_before tokens k) all_classes classes
      → TellFault source tokens k (fault_words source tokens k classes)
  unlisted : MOST_TOKENS < k → TellFault source tokens k (unlisted_words tokens k)

-- the limits on nesting

abbrev pub block_words : List ℕ
block_words = codes " stands too deep: blocks stand at most " ++ decimal MOST_BLOCKS ++ codes " within one another"

abbrev pub expression_words : List ℕ
expression_words = codes " stands too deep: expressions and types stand at most " ++ decimal MOST_EXPRESSIONS ++ codes " within one another"

abbrev pub limit_words : Bool → List ℕ
limit_words of_blocks = if of_blocks then block_words else expression_words

-- the words tell which limit token k passes
pub data TellDepth (tokens : List Spanned) (k : ℕ) : List ℕ → Type 0 where
  of_blocks : IsBlockTooDeep tokens k → TellDepth tokens k (standing_words (slice_get tokens k) ++ block_words)
  of_expressions : (IsBlockTooDeep tokens k → ⊥) → TellDepth tokens k (standing_words (slice_get tokens k) ++ expression_words)

-- words, at the place of token k
abbrev pub IsTold : List ℕ → List ℕ → List Spanned → ℕ → List ℕ → List ℕ → Type 0
IsTold file source tokens k words text = text ≡ explained file source (place_at source (slice_get tokens k)) words

-- The text explains why the tokens of a source are no program. Of want of memory nothing is said.
abbrev pub IsSyntaxExplanation : List ℕ → List ℕ → List Spanned → ParseFault → List ℕ → Type 0
IsSyntaxExplanation file source tokens (Syntax k) text =
    (words : List ℕ) × TellFault source tokens k words × IsTold file source tokens k words text
IsSyntaxExplanation file source tokens (TooDeep k) text =
    (words : List ℕ) × TellDepth tokens k words × IsTold file source tokens k words text
IsSyntaxExplanation file source tokens NoMemory text = ⊥
