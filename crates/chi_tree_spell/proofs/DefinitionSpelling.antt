-- What a definition is shown as is read as the tokens of which it was built: part by part.
use Rattle.std.proofs.Common.{map, sym}
use Rattle.chi_grammar.specs.declared.room.Room.{Room}
use Rattle.chi_grammar.specs.Rules.{node, part, many}
use Rattle.chi_tree.specs.Parts.{Part}
use Rattle.chi_tree.specs.Parts as s
use Rattle.chi_tree.specs.Rules.{rule_of}
use Rattle.chi_tree.specs.View.{Built}
use Rattle.chi_tree.specs.Statements.{items_of}
use Rattle.chi_tree_spell.specs.Words.{all}
use Rattle.chi_tree_spell.specs.Statements.{put_item}
use Rattle.chi_tree_spell.proofs.ExprTokens.{type-Defined}
use Rattle.chi_tree_spell.proofs.BuiltTokens.{Reading, Spells, beside, within, nothing, also, one, one_kept, exactly, exactly_kept, a_name}
use Rattle.chi_tree.proofs.Made as made
use Rattle.chi_tree_spell.proofs.ShownTokens.{Shown, M}

module _ (reading : Reading) where
  -- definitions

  pub parameters : {room : Room} {t : Built} → M reading room (rule_of s.Parameters) t → Shown reading room s.Parameters (node s.Parameters t)
  parameters (made.deeper i (made.both l (made.both made.never r))) = within (beside (one l) (beside nothing (one r)))
  parameters (made.deeper i (made.both l (made.both (made.once (made.part p)) r))) = within (beside (one l) (beside p (one r)))

  pub head : {room : Room} {t : Built} → M reading room (rule_of s.Head) t → Shown reading room s.Head (node s.Head t)
  head (made.left (made.both (made.part p) n)) = within (beside p (a_name n))
  head (made.right (made.both (made.word {x = x} e) made.never)) = within (beside (exactly_kept x e) nothing)
  head (made.right (made.both (made.word {x = x} e) (made.once (made.word {x = y} f)))) =
      within (beside (also (exactly_kept x e) (sym (type-Defined reading.put _))) (exactly_kept y f))

  pub enum_def : {room : Room} {t : Built} → M reading room (rule_of s.EnumDef) t → Shown reading room s.EnumDef (node s.EnumDef t)
  enum_def (made.both w (made.both n (made.both eq (made.deeper i (made.both l (made.both (made.part p) r)))))) =
      within (beside (one_kept w) (beside (a_name n) (beside (one eq) (beside (one l) (beside p (one r))))))

  pub const_def : {room : Room} {t : Built} → M reading room (rule_of s.ConstDef) t → Shown reading room s.ConstDef (node s.ConstDef t)
  const_def (made.both w (made.both (made.part p) (made.both n (made.both eq (made.part q))))) =
      within (beside (one_kept w) (beside p (beside (a_name n) (beside (one_kept eq) q))))

  pub type_def : {room : Room} {t : Built} → M reading room (rule_of s.TypeDef) t → Shown reading room s.TypeDef (node s.TypeDef t)
  type_def (made.both w (made.both n (made.both eq (made.part p)))) = within (beside (one_kept w) (beside (a_name n) (beside (one eq) p)))

  pub func_def : {room : Room} {t : Built} → M reading room (rule_of s.FuncDef) t → Shown reading room s.FuncDef (node s.FuncDef t)
  func_def (made.both w (made.both (made.part p) (made.both n (made.both (made.part q) (made.part r))))) =
      within (beside (one_kept w) (beside p (beside (a_name n) (beside q r))))

  pub proc_def : {room : Room} {t : Built} → M reading room (rule_of s.ProcDef) t → Shown reading room s.ProcDef (node s.ProcDef t)
  proc_def (made.both w (made.both (made.part p) (made.both (made.part q) (made.part r)))) =
      within (beside (one_kept w) (beside p (beside q r)))

  pub model_def : {room : Room} {t : Built} → M reading room (rule_of s.ModelDef) t → Shown reading room s.ModelDef (node s.ModelDef t)
  model_def (made.both w (made.both (made.part p) (made.both (made.part q) (made.part r)))) =
      within (beside (one_kept w) (beside p (beside q r)))

  pub xper_def : {room : Room} {t : Built} → M reading room (rule_of s.XperDef) t → Shown reading room s.XperDef (node s.XperDef t)
  xper_def (made.both w (made.both n (made.both (made.deeper i (made.both l r)) (made.part p)))) =
      within (beside (one_kept w) (beside (a_name n) (beside (beside (one l) (one r)) p)))

  pub defined : {room : Room} {t : Built} → M reading room (rule_of s.Defined) t → Shown reading room s.Defined (node s.Defined t)
  defined (made.left (made.part p)) = within p
  defined (made.right (made.left (made.part p))) = within p
  defined (made.right (made.right (made.left (made.part p)))) = within p
  defined (made.right (made.right (made.right (made.left (made.part p))))) = within p
  defined (made.right (made.right (made.right (made.right (made.left (made.part p)))))) = within p
  defined (made.right (made.right (made.right (made.right (made.right (made.left (made.part p))))))) = within p
  defined (made.right (made.right (made.right (made.right (made.right (made.right (made.part p))))))) = within p

  pub definition_shown : {room : Room} {t : Built} → M reading room (rule_of s.Definition) t → Shown reading room s.Definition (node s.Definition t)
  definition_shown (made.both (made.part p) made.never) = within (beside p nothing)
  definition_shown (made.both (made.part p) (made.once (made.word {x = x} e))) = within (beside p (exactly x e))

  items : {room : Room} {t : Built} → M reading room (many (part s.Definition)) t → Spells reading t (all (map (put_item reading.put) (items_of t)))
  items made.enough = nothing
  items (made.more (made.part p) ps) = beside p (items ps)

  pub program : {room : Room} {t : Built} → M reading room (rule_of s.Program) t → Shown reading room s.Program (node s.Program t)
  program (made.both (made.part p) ps) = within (beside p (items ps))
