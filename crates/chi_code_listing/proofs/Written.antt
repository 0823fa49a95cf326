-- Private to proofs. What each shape's text is, and texts of lists as far as they are written.
use Rattle.std.proofs.Common.{◌≡◌, ℕ, List, ◌++◌, sym, ap, ◌∙◌, append_assoc}
use Rattle.std.specs.Prelude.{codes}
use Rattle.std.specs.Fmt.{decimal}
use Rattle.chi_value.specs.declared.shape.Shape.{Shape, Shape-F, out-Shape, map-Shape, fold_out-Shape}
use Rattle.chi_value.specs.declared.shape.Shape.TheVariants as s
use Rattle.chi_code_listing.specs.Listing.{shape_step, shape_text, shapes_text}

module _ (x : Shape) where
  layer : (o : Shape-F Shape) → out-Shape x ≡ o → shape_text x ≡ shape_step (map-Shape _ _ shape_text o)
  unfolding shape_text
  layer o h = fold_out-Shape (List ℕ) shape_step x ∙ ap (λ o. shape_step (map-Shape _ _ shape_text o)) h

  pub shape_choice : (number : ℕ) → x ≡ s.Choice number → shape_text x ≡ codes "enum " ++ decimal number
  shape_choice number h = layer _ (ap out-Shape h ∙ s.outs-Choice number)

  pub shape_tuple : (parts : List Shape) → x ≡ s.TupleOf parts → shape_text x ≡ codes "(" ++ shapes_text parts ++ codes ")"
  shape_tuple parts h = layer _ (ap out-Shape h ∙ s.outs-TupleOf parts)

  pub shape_bool : x ≡ s.Bool → shape_text x ≡ codes "bool"
  shape_bool h = layer _ (ap out-Shape h ∙ s.outs-Bool)

  pub shape_int : x ≡ s.Int → shape_text x ≡ codes "int"
  shape_int h = layer _ (ap out-Shape h ∙ s.outs-Int)

  pub shape_real : x ≡ s.Real → shape_text x ≡ codes "real"
  shape_real h = layer _ (ap out-Shape h ∙ s.outs-Real)

  pub shape_string : x ≡ s.Text → shape_text x ≡ codes "string"
  shape_string h = layer _ (ap out-Shape h ∙ s.outs-Text)

  pub shape_list : x ≡ s.ListOf → shape_text x ≡ codes "list"
  shape_list h = layer _ (ap out-Shape h ∙ s.outs-ListOf)

  pub shape_set : x ≡ s.SetOf → shape_text x ≡ codes "set"
  shape_set h = layer _ (ap out-Shape h ∙ s.outs-SetOf)

  pub shape_dict : x ≡ s.DictOf → shape_text x ≡ codes "dict"
  shape_dict h = layer _ (ap out-Shape h ∙ s.outs-DictOf)

  pub shape_chan : x ≡ s.Chan → shape_text x ≡ codes "chan"
  shape_chan h = layer _ (ap out-Shape h ∙ s.outs-Chan)

  pub shape_dist_bool : x ≡ s.DistBool → shape_text x ≡ codes "dist bool"
  shape_dist_bool h = layer _ (ap out-Shape h ∙ s.outs-DistBool)

  pub shape_dist_int : x ≡ s.DistInt → shape_text x ≡ codes "dist int"
  shape_dist_int h = layer _ (ap out-Shape h ∙ s.outs-DistInt)

  pub shape_dist_real : x ≡ s.DistReal → shape_text x ≡ codes "dist real"
  shape_dist_real h = layer _ (ap out-Shape h ∙ s.outs-DistReal)

  pub shape_timer : x ≡ s.Timer → shape_text x ≡ codes "timer"
  shape_timer h = layer _ (ap out-Shape h ∙ s.outs-Timer)

  pub shape_inst : x ≡ s.Inst → shape_text x ≡ codes "inst"
  shape_inst h = layer _ (ap out-Shape h ∙ s.outs-Inst)

pub choice_text : (out next : List ℕ) (x : Shape) (number : ℕ) → x ≡ s.Choice number → next ≡ out ++ codes "enum " ++ decimal number → next ≡ out ++ shape_text x
choice_text out next x number is h = h ∙ append_assoc out (codes "enum ") (decimal number) ∙ ap (λ t. out ++ t) (sym (shape_choice x number is))

pub tuple_text : (o0 o1 o2 o3 : List ℕ) (x : Shape) (parts : List Shape) → x ≡ s.TupleOf parts → o1 ≡ o0 ++ codes "(" → o2 ≡ o1 ++ shapes_text parts → o3 ≡ o2 ++ codes ")" → o3 ≡ o0 ++ shape_text x
tuple_text o0 o1 o2 o3 x parts is e1 e2 e3 =
    e3 ∙ ap (λ o. o ++ codes ")") (e2 ∙ ap (λ o. o ++ shapes_text parts) e1 ∙ append_assoc o0 (codes "(") (shapes_text parts))
    ∙ append_assoc o0 (codes "(" ++ shapes_text parts) (codes ")") ∙ ap (λ t. o0 ++ t) (sym (shape_tuple x parts is))

pub offered_text : (out next word digits slots : List ℕ) → next ≡ out ++ word ++ digits ++ slots → next ≡ out ++ (word ++ digits ++ slots)
offered_text out next word digits slots h = h ∙ ap (λ t. t ++ slots) (append_assoc out word digits) ∙ append_assoc out (word ++ digits) slots
