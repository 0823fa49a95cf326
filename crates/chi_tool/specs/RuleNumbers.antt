-- The numbers of the rules of typing, to be held against the table of "Typing" in `docs/LANGUAGE.md`.
use Rattle.std.specs.Prelude.{◌≡◌, ℕ, List, [], ◌∷◌, map}
use Rattle.chi_check_types.specs.declared.rules.TheConstants.{NEW_NAME, VISIBLE_NAME, NAME_KIND, TYPE_DEPTH, LITERAL_RANGE, PLAIN_ELEMENT, LIST_SIZE, FIELD_NAMES, DISTRIBUTION, INITIAL_VALUE, IN_CONSTANT, IN_FUNCTION, CHANNEL_IN_FUNCTION, RETURN, EXIT, LOOP_WORD, CONDITION, WALK, WALK_NAMES, TARGET_COUNT, TARGET, ASSIGNED_VALUE, SEND, RECEIVE, SENT_VALUE, RECEIVING_NAME, DELAY, ELEMENT_ARGUMENTS, ELEMENT_TARGET, STARTED_EXIT, FINISH, FORMAT, FORMAT_VALUE, OPERATOR, CALL_ARGUMENTS, PREDEFINED, INDEX, FIELD, JOINED_PARTS, MODEL, IN_EXPERIMENT, MODEL_CALL}
use Rattle.chi_explain_typing.specs.declared.named.TheConstants.{NAMED}
use Rattle.chi_explain_typing.specs.declared.rules.TheConstants.{RULES}

-- the rules in the order of the table
abbrev pub rules : List ℕ
rules =
    NEW_NAME ∷ VISIBLE_NAME ∷ NAME_KIND ∷ TYPE_DEPTH ∷ LITERAL_RANGE ∷ PLAIN_ELEMENT ∷ LIST_SIZE ∷ FIELD_NAMES ∷
    DISTRIBUTION ∷ INITIAL_VALUE ∷ IN_CONSTANT ∷ IN_FUNCTION ∷ CHANNEL_IN_FUNCTION ∷ RETURN ∷ EXIT ∷ LOOP_WORD ∷
    CONDITION ∷ WALK ∷ WALK_NAMES ∷ TARGET_COUNT ∷ TARGET ∷ ASSIGNED_VALUE ∷ SEND ∷ RECEIVE ∷ SENT_VALUE ∷
    RECEIVING_NAME ∷ DELAY ∷ ELEMENT_ARGUMENTS ∷ ELEMENT_TARGET ∷ STARTED_EXIT ∷ FINISH ∷ FORMAT ∷ FORMAT_VALUE ∷
    OPERATOR ∷ CALL_ARGUMENTS ∷ PREDEFINED ∷ INDEX ∷ FIELD ∷ JOINED_PARTS ∷ MODEL ∷ IN_EXPERIMENT ∷ MODEL_CALL ∷ []

-- those whose place is that of a name with which they are told
abbrev pub rules_of_names : List ℕ
rules_of_names =
    NEW_NAME ∷ VISIBLE_NAME ∷ NAME_KIND ∷ FIELD_NAMES ∷ TARGET ∷ ELEMENT_ARGUMENTS ∷ STARTED_EXIT ∷ CALL_ARGUMENTS ∷
    PREDEFINED ∷ FIELD ∷ MODEL_CALL ∷ []

-- Each rule has its number, and each has its words in the table of what is said of rules, once, and in this order. So have those of
-- names in the table of what is said of a rule and a name.
pub record RulesAre : Type 0 where
  pub numbered : rules ≡
      1 ∷ 2 ∷ 3 ∷ 4 ∷ 5 ∷ 6 ∷ 7 ∷ 8 ∷ 9 ∷ 10 ∷ 11 ∷ 12 ∷ 13 ∷ 14 ∷ 15 ∷ 16 ∷ 17 ∷ 18 ∷ 19 ∷ 20 ∷ 21 ∷ 22 ∷ 23 ∷
      24 ∷ 25 ∷ 26 ∷ 27 ∷ 28 ∷ 29 ∷ 30 ∷ 31 ∷ 32 ∷ 33 ∷ 34 ∷ 35 ∷ 36 ∷ 37 ∷ 38 ∷ 39 ∷ 40 ∷ 41 ∷ 42 ∷ []
  pub told : map (λ row. row.0) RULES ≡ rules
  pub named : map (λ row. row.0) NAMED ≡ rules_of_names
