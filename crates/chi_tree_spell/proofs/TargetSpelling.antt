-- What a target, a communication or an element is shown as is read as the tokens of which it was built: part by part.
use Rattle.std.proofs.Common.{◌≡◌, List, [], ◌∷◌, ◌++◌, map, true, Some, None, refl, ap, sym, ◌∙◌}
use Rattle.std.proofs.lemmas.List.{append_assoc}
use Rattle.chi_grammar.specs.declared.room.Room.{Room}
use Rattle.chi_grammar.specs.Rules.{node, pair, part, ◌▸◌, maybe, many}
use Rattle.chi_token.specs.declared.keyword.Keyword.TheVariants.{EndWord, UnwindWord}
use Rattle.chi_token.specs.declared.sign.Sign.TheVariants.{Assign, Colon, Comma}
use Rattle.chi_token.specs.declared.token.Token.TheVariants.{Sign, Word}
use Rattle.chi_tree.specs.declared.type_tree.Name.{Name}
use Rattle.chi_tree.specs.declared.expr.Expr.{Expr}
use Rattle.chi_tree.specs.declared.expr.Postfix.{Postfix}
use Rattle.chi_tree.specs.declared.statement.Target.{Target}
use Rattle.chi_tree.specs.declared.statement.Element.TheVariants as element
use Rattle.chi_tree.specs.Parts.{Part}
use Rattle.chi_tree.specs.Parts as s
use Rattle.chi_tree.specs.Rules.{rule_of, sign, name}
use Rattle.chi_tree.specs.View.{Built, name_in, more_names_in, optional}
use Rattle.chi_tree.specs.Statements.{target_of, more_targets_of, more_variables_of, walk_of, elements_of, more_elements_of, is_bare}
use Rattle.chi_tree_spell.specs.Words.{all, each_after}
use Rattle.chi_tree_spell.specs.Expressions.{bare, kept, put_name, put_round, put_postfix}
use Rattle.chi_tree_spell.specs.Statements.{put_exprs, put_variable, put_optional_name, put_target, put_walk, put_element, put_elements}
use Rattle.chi_tree_spell.proofs.StatementTokens.{element-Make, element-Unwind}
use Rattle.chi_tree_spell.proofs.BuiltTokens.{Reading, Spells, beside, within, nothing, also, one, one_kept, exactly_kept, a_name}
use Rattle.chi_tree_spell.proofs.ExprSpelling.{expr_if, target_steps}
use Rattle.chi_tree.proofs.Made as made
use Rattle.chi_tree_spell.proofs.ShownTokens.{Shown, M}

module _ (reading : Reading) where
  -- names, targets, variables and walks

  more_names : {room : Room} {t : Built} → M reading room (many (sign Comma ▸ name)) t → Spells reading t (each_after (bare reading.put (Sign Comma)) (map (λ n. put_name reading.put n ∷ []) (more_names_in t)))
  more_names made.enough = nothing
  more_names (made.more (made.both c n) ns) = beside (beside (one c) (a_name n)) (more_names ns)

  pub names : {room : Room} {t : Built} → M reading room (rule_of s.Names) t → Shown reading room s.Names (node s.Names t)
  names (made.both n ns) = within (beside (a_name n) (more_names ns))

  pub target : {room : Room} {t : Built} → M reading room (rule_of s.Target) t → Shown reading room s.Target (node s.Target t)
  target (made.both n ps) = within (beside (a_name n) (target_steps reading ps))

  pub more_targets : {room : Room} {t : Built} → M reading room (many (sign Comma ▸ part s.Target)) t
      → Spells reading t (each_after (bare reading.put (Sign Comma)) (map (put_target reading.put) (more_targets_of t)))
  more_targets made.enough = nothing
  more_targets (made.more (made.both c (made.part p)) ps) = beside (beside (one c) p) (more_targets ps)

  pub initial : {room : Room} {t : Built} → M reading room (rule_of s.Initial) t → Shown reading room s.Initial (node s.Initial t)
  initial (made.both c (made.part p)) = within (beside (one_kept c) p)

  pub variable : {room : Room} {t : Built} → M reading room (rule_of s.Variable) t → Shown reading room s.Variable (node s.Variable t)
  variable (made.both n made.never) = within (beside (a_name n) nothing)
  variable (made.both n (made.once (made.part p))) = within (beside (a_name n) p)

  more_variables : {room : Room} {t : Built} → M reading room (many (sign Comma ▸ part s.Variable)) t
      → Spells reading t (each_after (bare reading.put (Sign Comma)) (map (put_variable reading.put) (more_variables_of t)))
  more_variables made.enough = nothing
  more_variables (made.more (made.both c (made.part p)) ps) = beside (beside (one c) p) (more_variables ps)

  pub variables : {room : Room} {t : Built} → M reading room (rule_of s.Variables) t → Shown reading room s.Variables (node s.Variables t)
  variables (made.both (made.part p) ps) = within (beside p (more_variables ps))

  pub walk : {room : Room} {t : Built} → M reading room (rule_of s.Walk) t → Shown reading room s.Walk (node s.Walk t)
  walk (made.both (made.part p) (made.both w (made.part q))) = within (beside p (beside (one w) q))

  -- what stands beside a part stands beside the part around it
  pub inwards : {s : Part} {t u : Built} {ts : List reading.X} → Spells reading (pair u t) ts → Spells reading (pair u (node s t)) ts
  inwards e = record { same = e.same }

  -- communications

  pub delay : {room : Room} {t : Built} → M reading room (rule_of s.Delay) t → Shown reading room s.Delay (node s.Delay t)
  delay (made.both w (made.part p)) = within (beside (one_kept w) p)

  pub sending : {room : Room} {t : Built} → M reading room (rule_of s.Sending) t → Shown reading room s.Sending (node s.Sending t)
  sending (made.both w p) = λ target u q. beside q (within (beside (one_kept w) (expr_if reading p)))

  name_if : {room : Room} {t : Built} → M reading room (maybe name) t → Spells reading t (put_optional_name reading.put (optional t (name_in t)))
  name_if made.never = nothing
  name_if (made.once (made.word {x = x} e)) = exactly_kept x e

  pub receiving : {room : Room} {t : Built} → M reading room (rule_of s.Receiving) t → Shown reading room s.Receiving (node s.Receiving t)
  receiving (made.both w p) = λ target u q. beside q (within (beside (one_kept w) (name_if p)))

  pub communication_end : {room : Room} {t : Built} → M reading room (rule_of s.CommunicationEnd) t → Shown reading room s.CommunicationEnd (node s.CommunicationEnd t)
  communication_end (made.left (made.part p)) = λ target u q. inwards (p target u q)
  communication_end (made.right (made.part p)) = λ target u q. inwards (p target u q)

  pub communication_shown : {room : Room} {t : Built} → M reading room (rule_of s.Communication) t → Shown reading room s.Communication (node s.Communication t)
  communication_shown (made.left (made.part p)) = within p
  communication_shown (made.right (made.both (made.part {t = t} p) (made.part q))) = within (q (target_of (node s.Target t)) _ p)

  -- the tokens of a target, and of an expression that is one

  steps_tokens : (steps : List Postfix) → is_bare steps ≡ true → all (map (put_postfix reading.put) steps) ≡ []
  steps_tokens [] bare = refl
  steps_tokens (p ∷ ps) bare = cc

  pub bare_tokens : (target : Target) → is_bare target.steps ≡ true → put_target reading.put target ≡ put_name reading.put target.name ∷ []
  bare_tokens target bare = ap (λ ts. put_name reading.put target.name ∷ ts) (steps_tokens target.steps bare)

  -- what is run or started

  more_elements : {room : Room} {t : Built} → M reading room (many (sign Comma ▸ part s.Element)) t
      → Spells reading t (each_after (bare reading.put (Sign Comma)) (map (put_element reading.put) (more_elements_of t)))
  more_elements made.enough = nothing
  more_elements (made.more (made.both c (made.part p)) ps) = beside (beside (one c) p) (more_elements ps)

  pub elements : {room : Room} {t : Built} → M reading room (rule_of s.Elements) t → Shown reading room s.Elements (node s.Elements t)
  elements (made.both (made.part p) ps) = within (beside p (more_elements ps))

  pub element_shown : {room : Room} {t : Built} → M reading room (rule_of s.Element) t → Shown reading room s.Element (node s.Element t)
  element_shown (made.left (made.part p)) = within p
  element_shown (made.right (made.part p)) = within p

  pub unwound : (w walk between end : List reading.X) → w ++ (walk ++ (between ++ end)) ≡ w ++ walk ++ between ++ end
  unwound w walk between end = sym (append_assoc (w ++ walk) between end ∙ append_assoc w walk (between ++ end))

  pub unwound_elements : {room : Room} {t : Built} → M reading room (rule_of s.UnwoundElements) t → Shown reading room s.UnwoundElements (node s.UnwoundElements t)
  unwound_elements (made.both w (made.both (made.part {t = walk} p) (made.both c (made.both (made.deeper i (made.part {t = es} q)) end)))) =
      also (within (beside (one_kept w) (beside p (beside (one c) (beside q (one end))))))
      (unwound (kept reading.put (Word UnwindWord) _ ∷ []) (put_walk reading.put (walk_of (node s.Walk walk))) (bare reading.put (Sign Colon) ∷ put_elements reading.put (elements_of (node s.Elements es))) (bare reading.put (Word EndWord) ∷ [])
      ∙ sym (element-Unwind reading.put _ _ _))

  pub make : {room : Room} {t : Built} → M reading room (rule_of s.Make) t → Shown reading room s.Make (node s.Make t)
  make (made.chosen (made.part {t = t} p) bare (made.part q)) = within (q (target_of (node s.Target t)) _ bare p)
  make (made.otherwise (made.part {t = t} p) bare (made.part q)) = within (q (target_of (node s.Target t)) _ p)

  pub made_shown : {room : Room} {t : Built} → M reading room (rule_of s.Made) t → Shown reading room s.Made (node s.Made t)
  made_shown (made.left (made.part p)) =
      λ target u bare q. also (beside (also q (bare_tokens target bare)) (within p)) (sym (element-Make reading.put None target.name _))
  made_shown (made.right (made.part p)) = λ target u bare q. inwards (p target u q)

  assigned_make_tokens : (target : Target) (n : Name) (es : List Expr)
      → put_target reading.put target ++ (bare reading.put (Sign Assign) ∷ (put_name reading.put n ∷ put_round reading.put (put_exprs reading.put es))) ≡ put_element reading.put (element.Make (Some target) n es)
  assigned_make_tokens target n es =
      sym (append_assoc (put_target reading.put target) (bare reading.put (Sign Assign) ∷ []) (put_name reading.put n ∷ put_round reading.put (put_exprs reading.put es))) ∙ sym (element-Make reading.put (Some target) n es)

  pub assigned_make : {room : Room} {t : Built} → M reading room (rule_of s.AssignedMake) t → Shown reading room s.AssignedMake (node s.AssignedMake t)
  assigned_make (made.both eq (made.both n (made.part p))) =
      λ target u q. also (beside q (within (beside (one eq) (beside (a_name n) p)))) (assigned_make_tokens target _ _)
