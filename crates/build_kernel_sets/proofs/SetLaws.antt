-- The kernel sets that memory holds, by number, and what joins them.
use Prim.Native.Nat.{ℕ, zero, suc, ◌+◌, ◌-◌, ◌≤◌, ◌<◌}
use native.Mathlib.Decide.{dec_lt}
use native.Mathlib.Numerals.{add-one}
use native.Mathlib.Omega.{arith}
use mathlib.Core.Path.{◌≡◌, refl, sym, ap, ap₂, ◌∙◌}
use mathlib.Core.List.{List, [], ◌∷◌, ◌++◌}
use lib.ListN.{length, get_or, take, length-append, get_or-append}
use lib.Seq.{take_all, take-append-le, get_or_at}
use Rattle.build_states.specs.States.{Kernel, find, total}
use Rattle.build_states.proofs.Discovery.{total_and, find_is}
use Rattle.build_kernel_sets.specs.Sets.{part, sets_in, Bounds, FindsSet}
use Rattle.build_kernel_sets.proofs.PartLaws.{part_length, part_same}

module _ (sets starts : List ℕ) where
  pub sets-length : (n : ℕ) → length (sets_in sets starts n) ≡ n
  unfolding sets_in
  sets-length zero = refl
  sets-length (suc n) = length-append (sets_in sets starts n) (part sets (get_or starts n 0) (get_or starts (n + 1) 0) ∷ []) ∙ omega (arith, sets-length n)

  pub sets_at : (n p : ℕ) → p < n → get_or (sets_in sets starts n) p [] ≡ part sets (get_or starts p 0) (get_or starts (p + 1) 0)
  unfolding sets_in
  sets_at zero p l = absurd (omega (arith, l))
  sets_at (suc n) p l = go (dec_lt p n) (λ k. sets_at n p k)
    where
      go : Dec (p < n) → (p < n → get_or (sets_in sets starts n) p [] ≡ part sets (get_or starts p 0) (get_or starts (p + 1) 0))
          → get_or (sets_in sets starts n ++ part sets (get_or starts n 0) (get_or starts (n + 1) 0) ∷ []) p [] ≡ part sets (get_or starts p 0) (get_or starts (p + 1) 0)
      go (yes k) rec = get_or-append (sets_in sets starts n) (part sets (get_or starts n 0) (get_or starts (n + 1) 0) ∷ []) [] p (omega (arith, k, sets-length n)) ∙ rec k
      go (no f) rec =
          let e : n ≡ p = omega (arith, l, f) in
          get_or_at (sets_in sets starts n) (part sets (get_or starts n 0) (get_or starts (n + 1) 0)) [] [] p (sets-length n ∙ e)
          ∙ ap (λ (k : ℕ). part sets (get_or starts k 0) (get_or starts (k + 1) 0)) e

  pub sets_more : (n : ℕ) → sets_in sets starts (n + 1) ≡ sets_in sets starts n ++ part sets (get_or starts n 0) (get_or starts (n + 1) 0) ∷ []
  unfolding sets_in
  sets_more n = ap (sets_in sets starts) (add-one n)

  pub sets-take : (n p : ℕ) → p ≤ n → take p (sets_in sets starts n) ≡ sets_in sets starts p
  unfolding sets_in
  sets-take zero p l = let z : p ≡ 0 = omega arith in ap (λ (k : ℕ). take k []) z ∙ sym (ap (sets_in sets starts) z)
  sets-take (suc n) p l = go (dec_lt n p) (λ h. sets-take n p h)
    where
      all : List Kernel
      all = sets_in sets starts n ++ part sets (get_or starts n 0) (get_or starts (n + 1) 0) ∷ []

      go : Dec (n < p) → (p ≤ n → take p (sets_in sets starts n) ≡ sets_in sets starts p) → take p all ≡ sets_in sets starts p
      go (yes h) rec =
          let e : suc n ≡ p = omega arith in
          take_all p all (omega (arith, e, sets-length (suc n))) ∙ ap (sets_in sets starts) e
      go (no f) rec = take-append-le p (sets_in sets starts n) (part sets (get_or starts n 0) (get_or starts (n + 1) 0) ∷ []) (omega (arith, f, sets-length n)) ∙ rec (omega (arith, f))

  pub sets_none : sets_in sets starts 0 ≡ []
  unfolding sets_in
  sets_none = refl

module _ {sets starts : List ℕ} {states lines : ℕ} (B : Bounds sets starts states lines) where
  -- starts rise
  pub start_rise : (p r : ℕ) → p ≤ r → r ≤ states → get_or starts p 0 ≤ get_or starts r 0
  start_rise p r l h = go (r - p) p (omega arith)
    where
      go : (d p : ℕ) → p + d ≡ r → get_or starts p 0 ≤ get_or starts r 0
      go zero p e = let z : p ≡ r = omega arith in omega (arith, ap (λ (k : ℕ). get_or starts k 0) z)
      go (suc d) p e = omega (arith, B.rise p (omega (arith, e, h)), go d (p + 1) (omega (arith, e)))

  -- and none is past the end
  pub start_low : (p : ℕ) → p ≤ states → get_or starts p 0 ≤ lines
  start_low p l = omega (arith, start_rise p states l (omega arith), B.last)

  -- each starts where the numbers before it end
  pub sets_sum : (n : ℕ) → n ≤ states → total (sets_in sets starts n) ≡ get_or starts n 0
  sets_sum zero l = ap total (sets_none sets starts) ∙ sym B.first
  sets_sum (suc n) l =
      let k = part sets (get_or starts n 0) (get_or starts (n + 1) 0) in
      let z : suc n ≡ n + 1 = omega arith in
      let s = start_low (n + 1) (omega (arith, l)) in
      let e : total (sets_in sets starts (n + 1)) ≡ total (sets_in sets starts n) + (length k + 0) = ap total (sets_more sets starts n) ∙ total_and (sets_in sets starts n) (k ∷ []) in
      let w : total (sets_in sets starts (n + 1)) ≡ get_or starts (n + 1) 0
      = omega (arith, e, sets_sum n (omega (arith, l)), part_length sets (get_or starts n 0) (get_or starts (n + 1) 0) (omega (arith, s, B.room)), B.rise n l) in
      ap (λ (m : ℕ). total (sets_in sets starts m)) z ∙ w ∙ ap (λ (m : ℕ). get_or starts m 0) (sym z)

  pub sets-total : total (sets_in sets starts states) ≡ lines
  sets-total = sets_sum states (omega arith) ∙ B.last

-- sets that are stored elsewhere change nothing
pub sets_same : {sets₀ starts₀ : List ℕ} {states lines : ℕ} (sets starts : List ℕ) → Bounds sets₀ starts₀ states lines → lines ≤ length sets → take lines sets ≡ take lines sets₀
    → ((p : ℕ) → p ≤ states → get_or starts p 0 ≡ get_or starts₀ p 0) → sets_in sets starts states ≡ sets_in sets₀ starts₀ states
sets_same {sets₀} {starts₀} {states} {lines} sets starts B r e f = go states (omega arith)
  where
    go : (n : ℕ) → n ≤ states → sets_in sets starts n ≡ sets_in sets₀ starts₀ n
    go zero l = sets_none sets starts ∙ sym (sets_none sets₀ starts₀)
    go (suc n) l =
        let z : suc n ≡ n + 1 = omega arith in
        ap (sets_in sets starts) z ∙ sets_more sets starts n
        ∙ ap₂ (λ (ks : List Kernel) (k : Kernel). ks ++ k ∷ []) (go n (omega (arith, l)))
        (ap₂ (part sets) (f n (omega (arith, l))) (f (n + 1) (omega (arith, l)))
        ∙ part_same sets₀ sets lines (get_or starts₀ n 0) (get_or starts₀ (n + 1) 0) (start_low B (n + 1) (omega (arith, l))) B.room r e)
        ∙ sym (ap (sets_in sets₀ starts₀) z ∙ sets_more sets₀ starts₀ n)

pub bounds_same : {sets₀ starts₀ : List ℕ} {states lines : ℕ} (sets starts : List ℕ) → Bounds sets₀ starts₀ states lines → lines ≤ length sets → states < length starts
    → ((p : ℕ) → p ≤ states → get_or starts p 0 ≡ get_or starts₀ p 0) → Bounds sets starts states lines
bounds_same {states = states} sets starts B r i f = record {
  first = f 0 (omega arith) ∙ B.first;
  rise = λ p l. omega (arith, B.rise p l, f p (omega (arith, l)), f (p + 1) (omega (arith, l)));
  last = f states (omega arith) ∙ B.last;
  room = r;
  index = i;
}

-- ---- the search for a set

module _ (sets starts : List ℕ) (states : ℕ) (m : Kernel) where
  pub set_found : (p : ℕ) → p < states → part sets (get_or starts p 0) (get_or starts (p + 1) 0) ≡ m → FindsSet (sets_in sets starts states) m p
  set_found p l e = record { found = λ _. sets_at sets starts states p l ∙ e; missing = λ g. absurd (omega (arith, g, l, sets-length sets starts states)) }

  pub set_missing : ((p : ℕ) → p < states → part sets (get_or starts p 0) (get_or starts (p + 1) 0) ≡ m → ⊥) → FindsSet (sets_in sets starts states) m states
  set_missing f = record { found = λ l. absurd (omega (arith, l, sets-length sets starts states)); missing = λ _ u. go (find m (sets_in sets starts states)) (find_is u) }
    where
      go : (p : ℕ) → (p < length (sets_in sets starts states)) × (get_or (sets_in sets starts states) p [] ≡ m) → ⊥
      go p (l, e) =
          let h : p < states = omega (arith, l, sets-length sets starts states) in
          f p h (sym (sets_at sets starts states p h) ∙ e)
