-- Leaving a state, symbol by symbol.
use Prim.Native.Nat.{ℕ, zero, suc, ◌+◌, ◌-◌, ◌≤◌, ◌<◌}
use native.Mathlib.Decide.{ℕ_discrete}
use native.Mathlib.Numerals.{add-one}
use native.Mathlib.Omega.{arith}
use mathlib.Core.Path.{◌≡◌, sym, ap, subst, ◌∙◌}
use mathlib.Core.Logic.{◌⊎◌, inl, inr}
use mathlib.Core.List.{List, [], ◌∷◌}
use lib.ListN.{length, take}
use Rattle.build_states.specs.States.{Kernel, range, leave}
use Rattle.build_states.proofs.Distinct.{Extends, kept, longer}
use Rattle.build_states.proofs.Discovery.{Fits, after_extends, leave_extends}
use Rattle.build_states.proofs.DiscoverySteps.{leave_none, leave_more, leave_full}
use Rattle.build_moves.specs.Moved.{Numbered, picked}
use Rattle.build_kernel_sets.specs.Sets.{sets_in, Bounds, Leads, Joins, moves_by, leave_by}
use Rattle.build_kernel_sets.specs.Cells.{Cell, Stores}
use Rattle.build_kernel_sets.specs.Leaving.{Leaves, Leaving}
use Rattle.build_kernel_sets.proofs.SetLaws.{sets-length, sets-total}

pub leads_kept : {a b : List Kernel} (m : Kernel) (v : ℕ) → Extends a b → Leads a m v → Leads b m v
leads_kept m zero x e = e
leads_kept m (suc s) x h = (omega (arith, h.0, longer x), kept x s h.0 ∙ h.1, h.2)

leads_low : (ks : List Kernel) (m : Kernel) (v : ℕ) → Leads ks m v → v ≤ length ks
leads_low ks m zero h = omega arith
leads_low ks m (suc s) h = h.0

-- the state that is led to is one of them
pub joined_low : {sets₀ starts₀ sets starts : List ℕ} {states₀ lines₀ : ℕ} {m : Kernel} {states lines v : ℕ} → Joins sets₀ starts₀ sets starts states₀ lines₀ m states lines v → v ≤ states
joined_low {sets = sets} {starts} {m = m} {states} {v = v} J = omega (arith, leads_low (sets_in sets starts states) m v J.leads, sets-length sets starts states)

range_more : (x : ℕ) → x < 128 → range x (128 - x) ≡ x ∷ range (x + 1) (128 - (x + 1))
range_more x l =
    let e : 128 - x ≡ suc (128 - (x + 1)) = omega arith in
    ap (range x) e ∙ ap (λ (n : ℕ). x ∷ range n (128 - (x + 1))) (sym (add-one x))

-- of two tests, one holds
pub one_of : {A N B : Type 0} → A ⊎ (N × B) → A ⊎ B
one_of (inl a) = inl a
one_of (inr b) = inr b.1

-- more than a book may have
pub not_fits : {sets starts : List ℕ} {states lines : ℕ} → Bounds sets starts states lines → (255 < states) ⊎ (1023 < lines) → Fits (sets_in sets starts states) → ⊥
not_fits {sets} {starts} {states} B (inl h) f = omega (arith, h, f.states, sets-length sets starts states)
not_fits B (inr h) f = omega (arith, h, f.lines, sets-total B)

module _ (l : List ℕ) {sets₀ starts₀ kinds₀ values₀ gotos₀ : List ℕ} {q states₀ lines₀ : ℕ} where
  module _ {sets starts kinds values gotos sets' starts' : List ℕ} {states lines x states' lines' v : ℕ}
      (L : Leaving l sets₀ starts₀ kinds₀ values₀ gotos₀ q states₀ lines₀ sets starts kinds values gotos states lines x) (lx : x < 128)
      (J : Joins sets starts sets' starts' states lines (picked x l) states' lines' v) where
    after : leave (moves_by l) [] (range (x + 1) (128 - (x + 1))) (sets_in sets' starts' states') ≡ leave_by l (sets_in sets₀ starts₀ states₀)
    after = ap (leave (moves_by l) [] (range (x + 1) (128 - (x + 1)))) J.sets_are ∙ sym (leave_more (moves_by l) [] x (range (x + 1) (128 - (x + 1))) (sets_in sets starts states))
        ∙ ap (λ (xs : List ℕ). leave (moves_by l) [] xs (sets_in sets starts states)) (sym (range_more x lx)) ∙ L.sets_to

    all_numbered : (count : ℕ) → Numbered count (take lines₀ sets₀) → ((X : ℕ) → Numbered count (picked X l)) → Numbered count (take lines' sets')
    all_numbered count a b = J.numbered count (L.numbered count a b) (b x)

    -- a limit is passed
    pub leaves_full : (255 < states') ⊎ (1023 < lines') → Leaves l sets₀ starts₀ kinds₀ values₀ gotos₀ q states₀ lines₀ sets' starts' kinds values gotos states' lines'
    leaves_full h = record {
      bounds = J.bounds;
      sets_are = sym (leave_full (moves_by l) [] (range (x + 1) (128 - (x + 1))) (sets_in sets' starts' states') (not_fits J.bounds h)) ∙ after;
      numbered = all_numbered;
      next = λ a b. absurd (go h a b);
      other = λ p X u b f c. L.other p X u b (λ e a _. f e a) c;
    }
      where
        go : (255 < states') ⊎ (1023 < lines') → states' ≤ 255 → lines' ≤ 1023 → ⊥
        go (inl h) a b = omega (arith, h, a)
        go (inr h) a b = omega (arith, h, b)

    pub leaving_more : {kinds' values' gotos' : List ℕ} → 1 ≤ x → states' ≤ 255 → lines' ≤ 1023 → Stores kinds values gotos kinds' values' gotos' q x v
        → Leaving l sets₀ starts₀ kinds₀ values₀ gotos₀ q states₀ lines₀ sets' starts' kinds' values' gotos' states' lines' (x + 1)
    leaving_more {kinds'} {values'} {gotos'} low a b S = record {
      bounds = J.bounds;
      few_states = a;
      few_lines = b;
      sets_to = after;
      numbered = all_numbered;
      next = λ X lo hi c. new X lo hi c (ℕ_discrete X x);
      other = λ p X u h f c. S.other p X u h (λ e z. f e (omega (arith, z, low)) (omega (arith, z))) (L.other p X u h (λ e lo hi. f e lo (omega (arith, hi))) c);
    }
      where
        grows : Extends (sets_in sets starts states) (sets_in sets' starts' states')
        grows = subst (Extends (sets_in sets starts states)) (sym J.sets_are) (after_extends (sets_in sets starts states) (picked x l))

        new : (X : ℕ) → 1 ≤ X → X < x + 1 → Cell kinds₀ values₀ gotos₀ q X 0 → Dec (X ≡ x)
            → (w : ℕ) × Cell kinds' values' gotos' q X w × Leads (sets_in sets' starts' states') (picked X l) w
        new X lo hi c (yes e) =
            let c' = subst (λ (Y : ℕ). Cell kinds₀ values₀ gotos₀ q Y 0) e c in
            subst (λ (Y : ℕ). (w : ℕ) × Cell kinds' values' gotos' q Y w × Leads (sets_in sets' starts' states') (picked Y l) w) (sym e)
            (v, S.here (L.other q x 0 lx (λ _ _ h. omega (arith, h)) c'), J.leads)
        new X lo hi c (no f) =
            let r = L.next X lo (omega (arith, hi, f)) c in
            (r.0, S.other q X r.0 (omega (arith, hi, lx)) (λ _ e. f e) r.1, leads_kept (picked X l) r.0 grows r.2)

  pub leaves_end : {sets starts kinds values gotos : List ℕ} {states lines x : ℕ} → 128 ≤ x
      → Leaving l sets₀ starts₀ kinds₀ values₀ gotos₀ q states₀ lines₀ sets starts kinds values gotos states lines x
      → Leaves l sets₀ starts₀ kinds₀ values₀ gotos₀ q states₀ lines₀ sets starts kinds values gotos states lines
  leaves_end {sets} {starts} {states = states} {x = x} h L =
      let z : 128 - x ≡ 0 = omega arith in
      record {
        bounds = L.bounds;
        sets_are = sym (leave_none (moves_by l) [] (sets_in sets starts states)) ∙ ap (λ (n : ℕ). leave (moves_by l) [] (range x n) (sets_in sets starts states)) (sym z) ∙ L.sets_to;
        numbered = L.numbered;
        next = λ _ _ X lo hi c. L.next X lo (omega (arith, hi, h)) c;
        other = λ p X u b f c. L.other p X u b (λ e a _. f e a) c;
      }

-- no state is lost
pub leaves_grow : {l sets₀ starts₀ kinds₀ values₀ gotos₀ sets starts kinds values gotos : List ℕ} {q states₀ lines₀ states lines : ℕ}
    → Leaves l sets₀ starts₀ kinds₀ values₀ gotos₀ q states₀ lines₀ sets starts kinds values gotos states lines → states₀ ≤ states
leaves_grow {l} {sets₀} {starts₀} {sets = sets} {starts} {states₀ = states₀} {states = states} L =
    omega (arith, longer (leave_extends (moves_by l) (range 1 127) [] (sets_in sets₀ starts₀ states₀)), ap length L.sets_are, sets-length sets₀ starts₀ states₀, sets-length sets starts states)
