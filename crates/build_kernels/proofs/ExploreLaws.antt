-- Leaving state after state is the discovery.
use Prim.Native.Nat.{ℕ, zero, suc, ◌+◌, ◌-◌, ◌≤◌, ◌<◌}
use native.Mathlib.Decide.{ℕ_discrete}
use native.Mathlib.Numerals.{add-one}
use native.Mathlib.Omega.{arith}
use mathlib.Core.Path.{◌≡◌, refl, sym, ap, ap₂, subst, ◌∙◌}
use mathlib.Core.Logic.{◌⊎◌, inl, inr}
use mathlib.Core.List.{List, []}
use lib.ListN.{get_or}
use Rattle.language.specs.Grammar.{Grammar}
use Rattle.build_states.specs.States.{Kernel, range, move, leave, explore}
use Rattle.build_states.specs.States as lalr
use Rattle.build_states.proofs.Lists.{range_in}
use Rattle.build_states.proofs.Distinct.{Extends, kept}
use Rattle.build_states.proofs.Discovery.{leave_extends}
use Rattle.build_states.proofs.DiscoverySteps.{leave_over, explore_more, explore_done, explore_full}
use Rattle.build_states.proofs.MoveLaws.{move_outside}
use Rattle.build_states.proofs.StateLaws.{states_are}
use Rattle.build_moves.specs.Held.{HoldsGrammar}
use Rattle.build_moves.specs.Moved.{picked, ListsMoves}
use Rattle.build_kernel_sets.specs.Sets.{part, sets_in, Leads, moves_by}
use Rattle.build_kernel_sets.specs.Cells.{Cell, Blank}
use Rattle.build_kernel_sets.specs.Leaving.{Leaves}
use Rattle.build_kernels.specs.Exploring.{Seeded, Exploring, Explored}
use Rattle.build_kernel_sets.proofs.SetLaws.{sets-length, sets_at}
use Rattle.build_kernel_sets.proofs.LeaveLaws.{leads_kept, not_fits}

blank_cell : {kinds values gotos : List ℕ} → Blank kinds values gotos → (p X : ℕ) → Cell kinds values gotos p X 0
blank_cell b p X = record { kind = λ _. b.kinds_blank _; value = λ _. b.values_blank _; next = λ _. b.gotos_blank _ }

module _ {items : List ℕ} {rules strings : ℕ} (few : strings ≤ 127) where
  pub exploring_start : {sets starts kinds values gotos : List ℕ} → Seeded rules strings sets starts → Blank kinds values gotos
      → Exploring items rules strings sets starts kinds values gotos strings strings 0
  exploring_start S b = record {
    bounds = S.bounds;
    few_states = omega arith;
    few_lines = omega arith;
    numbered = S.numbered;
    blank = λ p X l h. blank_cell b p X;
    sets_to = λ g H. states_are g ∙ ap (explore (move g) 255 0) (sym (S.sets_are g H.rule_count H.string_count));
    next = λ g H p X l. absurd (omega (arith, l));
  }

  pub explored_end : {sets starts kinds values gotos : List ℕ} {states lines q : ℕ} → q ≤ states → states ≤ q → Exploring items rules strings sets starts kinds values gotos states lines q
      → Explored items rules strings sets starts kinds values gotos states lines
  explored_end {sets} {starts} {kinds} {values} {gotos} {states} {lines} {q} lo hi E =
      let e : q ≡ states = omega arith in
      record {
        bounds = E.bounds;
        numbered = E.numbered;
        sets_are = λ g H. E.sets_to g H ∙ explore_done (move g) (255 - q) q (sets_in sets starts states) (omega (arith, sets-length sets starts states));
        blank = λ _ _ p X l h. E.blank p X l (outside h);
        next = λ _ _ g H p X l. E.next g H p X (omega (arith, l));
      }
    where
      outside : {p : ℕ} → (p ≡ 0) ⊎ (states < p) → (p ≡ 0) ⊎ (q < p)
      outside (inl z) = inl z
      outside (inr l) = inr (omega arith)

  module _ {sets starts kinds values gotos sets' starts' kinds' values' gotos' l : List ℕ} {states lines states' lines' q : ℕ}
      (E : Exploring items rules strings sets starts kinds values gotos states lines q) (lq : q < states)
      (M : ListsMoves items rules (rules + strings) (part sets (get_or starts q 0) (get_or starts (q + 1) 0)) l)
      (L : Leaves l sets starts kinds values gotos (q + 1) states lines sets' starts' kinds' values' gotos' states' lines') where
    abbrev old : List Kernel
    old = sets_in sets starts states

    abbrev new : List Kernel
    new = sets_in sets' starts' states'

    module _ (g : Grammar) (H : HoldsGrammar items rules strings g) where
      moves_are : (X : ℕ) → 1 ≤ X → X < 128 → move g (get_or old q []) X ≡ picked X l
      moves_are X lo hi = ap (λ (k : Kernel). move g k X) (sets_at sets starts states q lq) ∙ M.moves g strings H refl few X lo hi

      left : new ≡ leave (move g) (get_or old q []) (range 1 127) old
      left = L.sets_are ∙ leave_over (moves_by l) (move g) [] (get_or old q []) (range 1 127) old (λ X m. let r = range_in 1 127 X m in sym (moves_are X r.0 r.1))

      grows : Extends old new
      grows = subst (Extends old) (sym left) (leave_extends (move g) (range 1 127) (get_or old q []) old)

      pub sets_on : lalr.states g ≡ explore (move g) (255 - (q + 1)) (q + 1) new
      sets_on =
          let z : 255 - q ≡ suc (255 - (q + 1)) = omega (arith, E.few_states) in
          E.sets_to g H ∙ ap (λ (f : ℕ). explore (move g) f q old) z
          ∙ explore_more (move g) (255 - (q + 1)) q old (omega (arith, sets-length sets starts states))
          ∙ ap₂ (explore (move g) (255 - (q + 1))) (sym (add-one q)) (sym left)

      -- what state p leads to still does
      next_old : (p X : ℕ) → p < q → X < 128 → (v : ℕ) × Cell kinds' values' gotos' (suc p) X v × Leads new (move g (get_or new p []) X) v
      next_old p X lp lx =
          let r = E.next g H p X lp lx in
          let k = kept grows p (omega (arith, lp, lq, sets-length sets starts states)) in (
            r.0,
            L.other (suc p) X r.0 lx (λ e _. omega (arith, e, lp)) r.1,
            subst (λ (m : Kernel). Leads new (move g m X) r.0) (sym k) (leads_kept (move g (get_or old p []) X) r.0 grows r.2),
          )

      next_new : states' ≤ 255 → lines' ≤ 1023 → (X : ℕ) → X < 128 → (v : ℕ) × Cell kinds' values' gotos' (q + 1) X v × Leads new (move g (get_or new q []) X) v
      next_new a b zero lx = (0, L.other (q + 1) 0 0 lx (λ _ h. omega (arith, h)) (E.blank (q + 1) 0 lx (inr (omega arith))), none)
        where
          none : move g (get_or new q []) 0 ≡ []
          none = move_outside g H.formed (omega (arith, H.string_count)) (get_or new q []) 0 (λ m. omega (arith, (range_in 1 127 0 m).0))
      next_new a b (suc X) lx =
          let r = L.next a b (suc X) (omega arith) lx (E.blank (q + 1) (suc X) lx (inr (omega arith))) in
          let k = kept grows q (omega (arith, lq, sets-length sets starts states)) in
          (r.0, r.1, subst (λ (m : Kernel). Leads new m r.0) (sym (moves_are (suc X) (omega arith) lx) ∙ ap (λ (n : Kernel). move g n (suc X)) (sym k)) r.2)

    pub exploring_more : states' ≤ 255 → lines' ≤ 1023 → Exploring items rules strings sets' starts' kinds' values' gotos' states' lines' (q + 1)
    exploring_more a b = record {
      bounds = L.bounds;
      few_states = a;
      few_lines = b;
      numbered = L.numbered (rules + strings) E.numbered M.numbered;
      blank = λ p X h o. L.other p X 0 h (λ e _. beyond e o) (E.blank p X h (earlier o));
      sets_to = sets_on;
      next = λ g H p X lp lx. pick g H p X lx lp (ℕ_discrete p q);
    }
      where
        beyond : {p : ℕ} → p ≡ q + 1 → (p ≡ 0) ⊎ (q + 1 < p) → ⊥
        beyond e (inl z) = omega arith
        beyond e (inr h) = omega arith

        earlier : {p : ℕ} → (p ≡ 0) ⊎ (q + 1 < p) → (p ≡ 0) ⊎ (q < p)
        earlier (inl z) = inl z
        earlier (inr h) = inr (omega arith)

        pick : (g : Grammar) → HoldsGrammar items rules strings g → (p X : ℕ) → X < 128 → p < q + 1 → Dec (p ≡ q)
            → (v : ℕ) × Cell kinds' values' gotos' (suc p) X v × Leads new (move g (get_or new p []) X) v
        pick g H p X lx lp (no f) = next_old g H p X (omega (arith, lp, f)) lx
        pick g H p X lx lp (yes e) =
            let r = next_new g H a b X lx in
            let z : q + 1 ≡ suc p = omega arith in
            (r.0, subst (λ (n : ℕ). Cell kinds' values' gotos' n X r.0) z r.1, subst (λ (n : ℕ). Leads new (move g (get_or new n []) X) r.0) (sym e) r.2)

    -- a limit is passed
    pub explored_full : (255 < states') ⊎ (1023 < lines') → Explored items rules strings sets' starts' kinds' values' gotos' states' lines'
    explored_full h = record {
      bounds = L.bounds;
      numbered = L.numbered (rules + strings) E.numbered M.numbered;
      sets_are = λ g H. sets_on g H ∙ explore_full (move g) (255 - (q + 1)) (q + 1) new (not_fits L.bounds h);
      blank = λ a b. absurd (go h a b);
      next = λ a b. absurd (go h a b);
    }
      where
        go : (255 < states') ⊎ (1023 < lines') → states' ≤ 255 → lines' ≤ 1023 → ⊥
        go (inl h) a b = omega (arith, h, a)
        go (inr h) a b = omega (arith, h, b)
