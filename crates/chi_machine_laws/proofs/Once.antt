-- A label takes the machine to one outcome at most.
use Rattle.std.proofs.Common.{◌≡◌, ℕ, suc, ℤ, [], Option, Some, None, refl, sym, ap, subst, ◌∙◌}
use Rattle.std.specs.Prelude.{slice_get, slice_set}
use Rattle.chi_value.specs.declared.value.Value.{Value}
use Rattle.chi_core.specs.declared.act.Act.TheVariants.{Send, Receive}
use Rattle.chi_core.specs.declared.label.Label.{Label}
use Rattle.chi_core.specs.declared.label.Label.TheVariants.{Local, Pair, Wake, Join, Advance}
use Rattle.chi_core.specs.Meeting.{filled, next_due}
use Rattle.chi_code.specs.declared.code.Code.{Code}
use Rattle.chi_code.specs.declared.instr.Instr.TheVariants as instr
use Rattle.chi_exec_law.specs.Runs.{End, Rests, Reaches}
use Rattle.chi_exec_law.specs.State.{frame_of}
use Rattle.chi_exec_law.proofs.Ends.{ends_alike}
use Rattle.chi_machine_laws.specs.Instances.{Kept, Waiting, Held, Whole}
use Rattle.chi_machine_laws.specs.Choosing.{config_of}
use Rattle.chi_machine_laws.specs.Deeds.{nothing, Rest, moves, held_there}
use Rattle.chi_machine_laws.specs.Labels.{Outcome, GoesOn, Spent, within_at, view_at, going, jumps, Resumed, Keeps, After, paused, waited, joined, exited, broke, spent, Takes, none_left, goes, meets, wakes, joins, advances}

module _ (code : Code) (m : Whole) where
  after_once : (p definition line : ℕ) (e : End Rest) (o u : Outcome) → After code m p definition line e o → After code m p definition line e u → o ≡ u
  after_once p definition line _ _ _ (paused s b) (paused _ _) = refl
  after_once p definition line _ _ _ (waited s b) (waited _ _) = refl
  after_once p definition line _ _ _ (joined numbers s b) (joined _ _ _) = refl
  after_once p definition line _ _ _ (exited v) (exited _) = refl
  after_once p definition line _ _ _ (broke kind name e) (broke _ name' f) = let same : Some name ≡ Some name' = sym e ∙ f in cc
  after_once p definition line _ _ _ spent spent = refl

  local_once : (p left line : ℕ) (h : Held) (e : End Rest) (o u : Outcome) → slice_get m.instances p ≡ Some h → slice_get code.instrs h.at ≡ Some (instr.Mark line) → Reaches (moves (within_at code m)) (going h (view_at m left), nothing) e
      → After code m p h.definition line e o → Takes code m (Local p) (suc left) u → o ≡ u
  local_once p left line h e o u there has c a (goes _ _ line' h' e' _ there' running' has' c' a') =
      let same : h' ≡ h = cc in
      let has2 : slice_get code.instrs h.at ≡ Some (instr.Mark line') = ap (λ (h : Held). slice_get code.instrs h.at) (sym same) ∙ has' in
      let lines : line' ≡ line = cc in
      let c2 : Reaches (moves (within_at code m)) (going h (view_at m left), nothing) e' = subst (λ h. Reaches (moves (within_at code m)) (going h (view_at m left), nothing) e') same c' in
      let es : e' ≡ e = ends_alike (moves (within_at code m)) (going h (view_at m left), nothing) e' e c2 c in
      let a2 : After code m p h.definition line e' u = subst (λ line. After code m p h.definition line e' u) lines (subst (λ (h : Held). After code m p h.definition line' e' u) same a') in
      after_once p h.definition line e o u a (subst (λ e. After code m p h.definition line e u) es a2)

  keeps_once : (p a : ℕ) (h g : Held) (k l : Kept) → Keeps m p h a k → Keeps m p g a l → (g ≡ h) × (l ≡ k)
  keeps_once p a h g k l one two =
      let t1 = one.there in let t2 = two.there in
      let same : g ≡ h = cc in
      let w1 = one.waits in let w2 = two.waits in
      let ws : Waiting two.offers ≡ Waiting one.offers = sym w2 ∙ ap (λ (h : Held). h.standing) same ∙ w1 in
      let os : two.offers ≡ one.offers = cc in
      let k1 = one.kept in let k2 = two.kept in
      let ks : Some l ≡ Some k = sym k2 ∙ ap (λ o. slice_get o a) os ∙ k1 in
      (same, cc)

  settled_once : (place y z : ℕ) → Reaches (jumps code.instrs) place (Rests y) → Reaches (jumps code.instrs) place (Rests z) → y ≡ z
  settled_once place y z r s = let e = ends_alike (jumps code.instrs) place (Rests y) (Rests z) r s in cc

  resumed_once : (h : Held) (k : Kept) (slot : Option ℕ) (x : Option Value) (n o : Held) → Resumed code h k slot x n → Resumed code h k slot x o → n ≡ o
  resumed_once h k slot x n o one two =
      let b1 = one.binds in let b2 = two.binds in
      let bs : one.bound ≡ two.bound = cc in
      let f1 = one.fills in let f2 = two.fills in
      let fs : one.full ≡ two.full = let e : Some one.full ≡ Some two.full = sym f1 ∙ ap (λ b. filled slot x b) bs ∙ f2 in cc in
      let ps = settled_once k.place one.place two.place one.settles two.settles in
      let same : held_there code h.definition (frame_of one.full h.frame.under) one.place ≡ held_there code h.definition (frame_of two.full h.frame.under) two.place =
      λ j. held_there code h.definition (frame_of (fs j) h.frame.under) (ps j) in
      one.is ∙ same ∙ sym two.is

  -- of the same offer, by what it is known to be
  resumed_alike : (h g : Held) (k l : Kept) (slot : Option ℕ) (x : Option Value) (n o : Held) → g ≡ h → l ≡ k → Resumed code h k slot x n → Resumed code g l slot x o → n ≡ o
  resumed_alike h g k l slot x n o hs ks one two =
      resumed_once h k slot x n o one (subst (λ k. Resumed code h k slot x o) ks (subst (λ h. Resumed code h l slot x o) hs two))

  pair_once : (p a q b left channel : ℕ) (x : Option Value) (slot : Option ℕ) (h g new next : Held) (k l : Kept) (u : Outcome) → Keeps m p h a k → k.act ≡ Send channel x → Keeps m q g b l → l.act ≡ Receive channel slot
      → Resumed code h k None None new → Resumed code g l slot x next → Takes code m (Pair p a q b) (suc left) u → GoesOn (record m { instances = slice_set (slice_set m.instances p new) q next }) [] left ≡ u
  pair_once p a q b left channel x slot h g new next k l _ hk ks gl ls one two (meets _ _ _ _ _ channel' x' slot' h' g' new' next' k' l' apart' hk' ks' gl' ls' one' two') =
      let s1 = keeps_once p a h h' k k' hk hk' in
      let s2 = keeps_once q b g g' l l' gl gl' in
      let sent : Send channel' x' ≡ Send channel x = sym ks' ∙ ap (λ (k : Kept). k.act) s1.1 ∙ ks in
      let xs : x' ≡ x = cc in
      let got : Receive channel' slot' ≡ Receive channel slot = sym ls' ∙ ap (λ (k : Kept). k.act) s2.1 ∙ ls in
      let slots : slot' ≡ slot = cc in
      let n1 = resumed_alike h h' k k' None None new new' s1.0 s1.1 one one' in
      let n2 = resumed_alike g g' l l' slot x next next' s2.0 s2.1 two (subst (λ x. Resumed code g' l' slot x next') xs (subst (λ slot. Resumed code g' l' slot x' next') slots two')) in
      λ j. GoesOn (record m { instances = slice_set (slice_set m.instances p (n1 j)) q (n2 j) }) [] left

  wake_once : (p a left : ℕ) (h new : Held) (k : Kept) (u : Outcome) → Keeps m p h a k → Resumed code h k None None new → Takes code m (Wake p a) (suc left) u → GoesOn (record m { instances = slice_set m.instances p new }) [] left ≡ u
  wake_once p a left h new k _ hk one (wakes _ _ _ t' h' new' k' hk' ks' past' one') =
      let s1 = keeps_once p a h h' k k' hk hk' in
      let n1 = resumed_alike h h' k k' None None new new' s1.0 s1.1 one one' in
      λ j. GoesOn (record m { instances = slice_set m.instances p (n1 j) }) [] left

  join_once : (p left place : ℕ) (h : Held) (u : Outcome) → slice_get m.instances p ≡ Some h → Reaches (jumps code.instrs) h.at (Rests place)
      → Takes code m (Join p) (suc left) u → GoesOn (record m { instances = slice_set m.instances p (held_there code h.definition h.frame place) }) [] left ≡ u
  join_once p left place h _ there r (joins _ _ place' h' numbers' there' stood' over' r') =
      let same : h' ≡ h = cc in
      let r2 = subst (λ (h : Held). Reaches (jumps code.instrs) h.at (Rests place')) same r' in
      let ps = settled_once h.at place place' r r2 in
      λ j. GoesOn (record m { instances = slice_set m.instances p (held_there code (sym same j).definition (sym same j).frame (ps j)) }) [] left

  advance_once : (left : ℕ) (t : ℤ) (u : Outcome) → next_due (config_of m) ≡ Some t → Takes code m Advance (suc left) u → GoesOn (record m { clock = t }) [] left ≡ u
  advance_once left t _ least (advances _ t' least' until') = let ts : t ≡ t' = cc in ap (λ t. GoesOn (record m { clock = t }) [] left) ts

  spent_once : (label : Label) (u : Outcome) → Takes code m label 0 u → Spent ≡ u
  spent_once label _ (none_left _) = refl

  pub takes_once : (label : Label) (left : ℕ) (o u : Outcome) → Takes code m label left o → Takes code m label left u → o ≡ u
  takes_once _ _ _ u (none_left label) q = spent_once label u q
  takes_once _ _ _ u (goes p left line h e o there running has c a) q = local_once p left line h e o u there has c a q
  takes_once _ _ _ u (meets p a q b left channel x slot h g new next k l apart hk ks gl ls one two) v = pair_once p a q b left channel x slot h g new next k l u hk ks gl ls one two v
  takes_once _ _ _ u (wakes p a left t h new k hk ks past one) q = wake_once p a left h new k u hk one q
  takes_once _ _ _ u (joins p left place h numbers there stood over r) q = join_once p left place h u there r q
  takes_once _ _ _ u (advances left t least until) q = advance_once left t u least q
