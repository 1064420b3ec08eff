-- A kernel set joins the others, or is one of them.
use Prim.Native.Nat.{ℕ, ◌+◌, ◌*◌, ◌-◌, ◌≤◌, ◌<◌}
use native.Mathlib.Decide.{dec_lt}
use native.Mathlib.Numerals.{add-one}
use native.Mathlib.Omega.{arith}
use mathlib.Core.Path.{◌≡◌, refl, sym, ap, ap₂, subst, ◌∙◌}
use mathlib.Core.Logic.{◌⊎◌, inl, inr}
use mathlib.Core.List.{List, [], ◌∷◌, ◌++◌}
use lib.ListN.{length, get_or, set, take, drop, length-set}
use lib.Seq.{get_or_at, get_or-set_same, get_or-set_other, take-add}
use Rattle.language.specs.Sentence.{In}
use Rattle.language.proofs.Member.{in_either}
use Rattle.build_states.specs.States.{Kernel, note_if}
use Rattle.build_states.proofs.Discovery.{Fits, in_get_d}
use Rattle.build_states.proofs.DiscoverySteps.{note_none, note_known, note_new}
use Rattle.build_moves.specs.Moved.{Numbered}
use Rattle.build_kernel_sets.specs.Sets.{part, sets_in, Bounds, FindsSet, Leads, Joins}
use Rattle.build_kernel_sets.proofs.PartLaws.{part_length, stored_front, stored_back}
use Rattle.build_kernel_sets.proofs.SetLaws.{sets-length, sets_more, sets-total, sets_same, bounds_same}

leads_to : (ks : List Kernel) (m : Kernel) (p : ℕ) → p < length ks → get_or ks p [] ≡ m → (m ≡ [] → ⊥) → Leads ks m (p + 1)
leads_to ks m p l e f = subst (Leads ks m) (sym (add-one p)) (l, e, f)

filled : (m : List ℕ) → 1 ≤ length m → m ≡ [] → ⊥
filled m l e = omega (arith, ap length e)

pub fits : {sets starts : List ℕ} {states lines : ℕ} → Bounds sets starts states lines → states ≤ 255 → lines ≤ 1023 → Fits (sets_in sets starts states)
fits {sets} {starts} {states} B l r = record { states = omega (arith, sets-length sets starts states); lines = omega (arith, sets-total B) }

module _ (sets starts : List ℕ) (states lines len : ℕ) (B : Bounds sets starts states lines) (some : 1 ≤ len) (room : lines + len ≤ length sets) where
  abbrev new : List ℕ
  new = part sets lines (lines + len)

  new_filled : new ≡ [] → ⊥
  new_filled = filled new (omega (arith, part_length sets lines (lines + len) room))

  pub joins_known : {p : ℕ} → FindsSet (sets_in sets starts states) new p → p < states → Joins sets starts sets starts states lines new states lines (p + 1)
  joins_known {p} F l =
      let h : p < length (sets_in sets starts states) = omega (arith, l, sets-length sets starts states) in
      record {
        bounds = B;
        sets_are = sym (note_known (sets_in sets starts states) new (subst (λ (m : Kernel). In m (sets_in sets starts states)) (F.found h) (in_get_d (sets_in sets starts states) p h)));
        leads = leads_to (sets_in sets starts states) new p h (F.found h) new_filled;
        numbered = λ count a b. a;
      }

  pub joins_new : {p : ℕ} (starts' : List ℕ) → starts' ≡ set starts (states + 1) (lines + len) → states + 1 < length starts → FindsSet (sets_in sets starts states) new p → states ≤ p
      → states ≤ 255 → lines ≤ 1023 → Joins sets starts sets starts' states lines new (states + 1) (lines + len) (states + 1)
  joins_new {p} starts' e index F l few_states few_lines = record {
    bounds = record {
      first = old 0 (omega arith) ∙ B.first;
      rise = λ q h. rising q h (dec_lt q states);
      last = last;
      room = room;
      index = omega (arith, index, ap length e, length-set starts (states + 1) (lines + len));
    };
    sets_are = is;
    leads = leads_to (sets_in sets starts' (states + 1)) new states (omega (arith, sets-length sets starts' (states + 1)))
        (ap (λ (ks : List Kernel). get_or ks states []) grown ∙ get_or_at (sets_in sets starts states) new [] [] states (sets-length sets starts states)) new_filled;
    numbered = λ count a b x m. numbers count a b x (in_either (take lines sets) (subst (In x) together m));
  }
    where
      old : (q : ℕ) → q ≤ states → get_or starts' q 0 ≡ get_or starts q 0
      old q h = ap (λ (l : List ℕ). get_or l q 0) e ∙ get_or-set_other starts (states + 1) q (lines + len) 0 (λ z. omega (arith, z, h))

      last : get_or starts' (states + 1) 0 ≡ lines + len
      last = ap (λ (l : List ℕ). get_or l (states + 1) 0) e ∙ get_or-set_same starts (states + 1) (lines + len) 0 index

      rising : (q : ℕ) → q < states + 1 → Dec (q < states) → get_or starts' q 0 ≤ get_or starts' (q + 1) 0
      rising q h (yes k) = omega (arith, B.rise q k, old q (omega (arith, k)), old (q + 1) (omega (arith, k)))
      rising q h (no f) =
          let z : q ≡ states = omega (arith, h, f) in
          subst (λ (n : ℕ). get_or starts' n 0 ≤ get_or starts' (n + 1) 0) (sym z) (omega (arith, old states (omega arith), B.last, last))

      grown : sets_in sets starts' (states + 1) ≡ sets_in sets starts states ++ new ∷ []
      grown = sets_more sets starts' states
          ∙ ap₂ (λ (ks : List Kernel) (k : Kernel). ks ++ k ∷ []) (sets_same sets starts' B B.room refl old) (ap₂ (part sets) (old states (omega arith) ∙ B.last) last)

      is : sets_in sets starts' (states + 1) ≡ note_if (sets_in sets starts states) new
      is = grown ∙ sym (note_new (sets_in sets starts states) new (fits B few_states few_lines) new_filled (λ u. F.missing (omega (arith, l, sets-length sets starts states)) u))

      together : take (lines + len) sets ≡ take lines sets ++ new
      together =
          let z : lines + len - lines ≡ len = omega arith in
          take-add lines len sets ∙ ap (λ (n : ℕ). take lines sets ++ take n (drop lines sets)) (sym z)

      numbers : (count : ℕ) → Numbered count (take lines sets) → Numbered count new → (x : ℕ) → In x (take lines sets) ⊎ In x new → (16 ≤ x) × (x < count * 16 + 16)
      numbers count a b x (inl m) = a x m
      numbers count a b x (inr m) = b x m

-- ---- after the numbers were stored behind the sets

module _ (sets₀ sets starts m : List ℕ) (states lines r : ℕ) (B : Bounds sets₀ starts states lines) (within : lines + r ≤ length sets) (count : r ≡ length m)
    (is : take (lines + r) sets ≡ take lines sets₀ ++ m) where
  front : take lines sets ≡ take lines sets₀
  front = stored_front sets₀ sets m lines r B.room within count is

  pub stored_bounds : Bounds sets starts states lines
  stored_bounds = bounds_same sets starts B (omega arith) B.index (λ p _. refl)

  same : sets_in sets starts states ≡ sets_in sets₀ starts states
  same = sets_same sets starts B (omega arith) front (λ p _. refl)

  pub joins_none : r ≡ 0 → Joins sets₀ starts sets starts states lines m states lines 0
  joins_none z = record {
    bounds = stored_bounds;
    sets_are = same ∙ sym (ap (note_if (sets_in sets₀ starts states)) empty ∙ note_none (sets_in sets₀ starts states));
    leads = empty;
    numbered = λ n a b. subst (Numbered n) (sym front) a;
  }
    where
      none : (l : List ℕ) → length l ≡ 0 → l ≡ []
      none [] e = refl
      none (x ∷ l) e = absurd (omega (arith, e))

      empty : m ≡ []
      empty = none m (sym count ∙ z)

  pub joins_stored : {starts' : List ℕ} {s l v : ℕ} → Joins sets starts sets starts' states lines (part sets lines (lines + r)) s l v → Joins sets₀ starts sets starts' states lines m s l v
  joins_stored {starts'} {s} {l} {v} j = subst (λ (k : List ℕ). Joins sets₀ starts sets starts' states lines k s l v) (stored_back sets₀ sets m lines r B.room within count is) (record {
    bounds = j.bounds;
    sets_are = j.sets_are ∙ ap (λ (ks : List Kernel). note_if ks (part sets lines (lines + r))) same;
    leads = j.leads;
    numbered = λ n a b. j.numbered n (subst (Numbered n) (sym front) a) b;
  })
