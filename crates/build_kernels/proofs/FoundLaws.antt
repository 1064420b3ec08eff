-- What is found is the grammar's: all its states with their lines and next states, or too many.
use Prim.Native.Nat.{ℕ, zero, suc, ◌+◌, ◌*◌, ◌-◌, ◌≤◌, ◌<◌}
use native.Mathlib.Decide.{dec_lt}
use native.Mathlib.Numerals.{add-one}
use native.Mathlib.Omega.{arith}
use mathlib.Core.Path.{◌≡◌, refl, sym, ap, subst, ◌∙◌}
use mathlib.Core.Logic.{◌⊎◌, inl, inr}
use mathlib.Core.List.{List, []}
use lib.ListN.{length, get_or, take, drop, get_or-eq_default}
use lib.Seq.{get_or-take, get_or-drop, length-take-le}
use Rattle.language.specs.Grammar.{Grammar}
use Rattle.language.proofs.GrammarLaws.{in_string}
use Rattle.build_states.specs.States.{Kernel, item_of, dot_of, total, move, kernel_of}
use Rattle.build_states.specs.States as lalr
use Rattle.build_states.proofs.Discovery.{Fits}
use Rattle.build_states.proofs.MoveLaws.{move_nothing}
use Rattle.build_states.proofs.StateLaws.{goto_at}
use Rattle.memory.specs.Memory.{item_at, dot_at}
use Rattle.build_moves.specs.Held.{HoldsGrammar}
use Rattle.build_moves.specs.Moved.{Numbered}
use Rattle.build_kernel_sets.specs.Sets.{sets_in, Bounds, Leads}
use Rattle.build_kernel_sets.specs.Cells.{Cell}
use Rattle.build_kernels.specs.Exploring.{Explored}
use Rattle.build_kernels.specs.Lines.{LineOf, LinesOf}
use Rattle.build_kernels.specs.Discovered.{first_line, HoldsSets, SafeStates, next_state, next_none, next_some, HoldsNext, HoldsStates}
use Rattle.build_kernel_sets.proofs.PartLaws.{part_length}
use Rattle.build_kernel_sets.proofs.SetLaws.{sets-length, sets_at, sets-take, sets_sum, sets-total, start_low}
use Rattle.build_kernel_sets.proofs.JoinLaws.{fits}
use Rattle.build_kernel_sets.proofs.LeaveLaws.{not_fits}

-- the numbers fit the lines
pub number_low : (sets : List ℕ) (lines count : ℕ) → lines ≤ length sets → count ≤ 254 → Numbered count (take lines sets) → (l : ℕ) → l < lines → get_or sets l 0 < 4096
number_low sets lines count room few N l h =
    let b = N (get_or (take lines sets) l 0) (in_string (take lines sets) l (omega (arith, h, length-take-le lines sets room))) in
    omega (arith, b.1, get_or-take lines sets l 0 h)

-- ---- kernel lines

module _ {sets starts : List ℕ} {states lines : ℕ} (B : Bounds sets starts states lines) where
  first_line_lem : (p : ℕ) → p ≤ states → first_line (sets_in sets starts states) p ≡ get_or starts p 0
  first_line_lem p l = ap total (sets-take sets starts states p l) ∙ sets_sum B p l

  pub lines_hold : (kernels : List ℕ) → LinesOf sets starts states kernels → HoldsSets kernels starts (sets_in sets starts states)
  lines_hold kernels L = record {
    line_state = λ p j l h. let r = at p j l h in r.state ∙ add-one p;
    line_item = λ p j l h. let r = at p j l h in r.item ∙ ap item_of (number p j l h);
    line_dot = λ p j l h. let r = at p j l h in r.dot ∙ ap dot_of (number p j l h);
    start_is = λ p l. sym (first_line_lem p (omega (arith, l, sets-length sets starts states)));
  }
    where
      within : (p j : ℕ) → p < states → j < length (get_or (sets_in sets starts states) p []) → j < get_or starts (p + 1) 0 - get_or starts p 0
      within p j l h =
          omega (arith, h, ap length (sets_at sets starts states p l), part_length sets (get_or starts p 0) (get_or starts (p + 1) 0) (omega (arith, start_low B (p + 1) (omega arith), B.room)))

      at : (p j : ℕ) → p < length (sets_in sets starts states) → j < length (get_or (sets_in sets starts states) p [])
          → LineOf kernels (first_line (sets_in sets starts states) p + j) (p + 1) (get_or sets (get_or starts p 0 + j) 0)
      at p j l h =
          let u : p < states = omega (arith, l, sets-length sets starts states) in
          let w = within p j u h in
          subst (λ (n : ℕ). LineOf kernels (n + j) (p + 1) (get_or sets (get_or starts p 0 + j) 0)) (sym (first_line_lem p (omega arith)))
          (L.line p (get_or starts p 0 + j) u (omega arith) (omega (arith, w, B.rise p u)))

      number : (p j : ℕ) → p < length (sets_in sets starts states) → j < length (get_or (sets_in sets starts states) p [])
          → get_or sets (get_or starts p 0 + j) 0 ≡ get_or (get_or (sets_in sets starts states) p []) j 0
      number p j l h =
          let u : p < states = omega (arith, l, sets-length sets starts states) in
          sym (ap (λ (k : Kernel). get_or k j 0) (sets_at sets starts states p u)
          ∙ get_or-take (get_or starts (p + 1) 0 - get_or starts p 0) (drop (get_or starts p 0) sets) j 0 (within p j u h) ∙ get_or-drop (get_or starts p 0) sets j 0)

  -- every line is one of a set's
  set_of : (l n : ℕ) → n ≤ states → l < get_or starts n 0 → (p : ℕ) × (p < states) × (get_or starts p 0 ≤ l) × (l < get_or starts (p + 1) 0)
  set_of l zero u h = absurd (omega (arith, h, B.first))
  set_of l (suc n) u h = go (dec_lt l (get_or starts n 0)) (λ k. set_of l n (omega (arith, u)) k)
    where
      go : Dec (l < get_or starts n 0) → (l < get_or starts n 0 → (p : ℕ) × (p < states) × (get_or starts p 0 ≤ l) × (l < get_or starts (p + 1) 0))
          → (p : ℕ) × (p < states) × (get_or starts p 0 ≤ l) × (l < get_or starts (p + 1) 0)
      go (yes k) rec = rec k
      go (no f) rec = (n, u, omega (arith, f), subst (λ (m : ℕ). l < get_or starts m 0) (sym (add-one n)) h)

  pub safe_states : {kernels : List ℕ} {count n : ℕ} → LinesOf sets starts states kernels → 4092 ≤ n → length kernels ≡ n → states ≤ 255 → lines ≤ 1023
      → Numbered count (take lines sets) → SafeStates kernels starts count states lines
  safe_states {kernels} {count} L room long few_states few_lines N = record {
    few_states = few_states;
    some_lines = record { room = omega (arith, room, long, few_lines); few = few_lines; item_low = item_low; dot_low = dot_low };
    first = B.first;
    rise = B.rise;
    last = B.last;
  }
    where
      line : (l : ℕ) → l < lines → (q : ℕ) × LineOf kernels l q (get_or sets l 0)
      line l h = let s = set_of l states (omega arith) (omega (arith, h, B.last)) in (s.0 + 1, L.line s.0 l s.1 s.2 s.3)

      item_low : (l : ℕ) → l < lines → item_at kernels l ≤ count
      item_low l h =
          let b = N (get_or (take lines sets) l 0) (in_string (take lines sets) l (omega (arith, h, length-take-le lines sets B.room))) in
          omega (arith, (line l h).1.item, b.1, get_or-take lines sets l 0 h)

      dot_low : (l : ℕ) → l < lines → dot_at kernels l ≤ 15
      dot_low l h = omega (arith, (line l h).1.dot)

-- ---- next states

module _ (g : Grammar) where
  leads_is : (q X v : ℕ) → Leads (lalr.states g) (move g (kernel_of g q) X) v → v ≡ next_state g q X
  leads_is q X zero e = sym (next_none g q X e)
  leads_is q X (suc s) h = sym (next_some g q X h.2 ∙ goto_at g q X s h.0 h.1)

  cells_hold : {kinds values gotos : List ℕ} → ((q X : ℕ) → X < 128 → Cell kinds values gotos q X (next_state g q X)) → HoldsNext g kinds values gotos
  cells_hold {gotos = gotos} C = record {
    kind_is = λ q c l. (C q c (omega (arith, l))).kind l;
    value_is = λ q c l. (C q c (omega (arith, l))).value l;
    goto_is = λ q b l. let z : q * 64 + b ≡ q * 64 + (64 + b - 64) = omega arith in ap (λ (n : ℕ). get_or gotos n 0) z ∙ (C q (64 + b) (omega (arith, l))).next (omega arith);
  }

module _ {items : List ℕ} {rules strings : ℕ} {sets starts kinds values gotos : List ℕ} {states lines : ℕ} (E : Explored items rules strings sets starts kinds values gotos states lines)
    (g : Grammar) (H : HoldsGrammar items rules strings g) where
  pub too_many : (255 < states) ⊎ (1023 < lines) → Fits (lalr.states g) → ⊥
  too_many h f = not_fits E.bounds h (subst Fits (E.sets_are g H) f)

  module _ (few_states : states ≤ 255) (few_lines : lines ≤ 1023) where
    cells_are : (q X : ℕ) → X < 128 → Cell kinds values gotos q X (next_state g q X)
    cells_are zero X l = subst (Cell kinds values gotos 0 X) (sym (next_none g 0 X (move_nothing g X))) (E.blank few_states few_lines 0 X l (inl refl))
    cells_are (suc p) X l = go (dec_lt p states)
      where
        go : Dec (p < states) → Cell kinds values gotos (suc p) X (next_state g (suc p) X)
        go (yes h) =
            let r = E.next few_states few_lines g H p X h l in
            subst (Cell kinds values gotos (suc p) X)
            (leads_is g (suc p) X r.0 (subst (λ (ks : List Kernel). Leads ks (move g (get_or ks p []) X) r.0) (sym (E.sets_are g H)) r.2)) r.1
        go (no f) =
            let long : length (lalr.states g) ≤ p = omega (arith, f, ap length (E.sets_are g H), sets-length sets starts states) in
            let none : get_or (lalr.states g) p [] ≡ [] = get_or-eq_default (lalr.states g) [] long in
            subst (Cell kinds values gotos (suc p) X) (sym (next_none g (suc p) X (ap (λ (k : Kernel). move g k X) none ∙ move_nothing g X)))
            (E.blank few_states few_lines (suc p) X l (inr (omega (arith, f))))

    pub holds_states : {kernels : List ℕ} → LinesOf sets starts states kernels → HoldsStates g kernels starts kinds values gotos states lines
    holds_states {kernels} L = record {
      fits = subst Fits (sym (E.sets_are g H)) (fits E.bounds few_states few_lines);
      state_count = ap length (E.sets_are g H) ∙ sets-length sets starts states;
      line_count = ap total (E.sets_are g H) ∙ sets-total E.bounds;
      holds_sets = subst (HoldsSets kernels starts) (sym (E.sets_are g H)) (lines_hold E.bounds kernels L);
      holds_next = cells_hold g cells_are;
    }
