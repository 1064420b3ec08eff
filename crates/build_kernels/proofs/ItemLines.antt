-- The kernel lines in memory are those of the builder's table, but for their lookaheads.
use Prim.Native.Nat.{ℕ, zero, suc, ◌+◌, ◌<◌}
use native.Mathlib.Omega.{arith}
use mathlib.Core.Path.{◌≡◌, refl, ap, ◌∙◌}
use mathlib.Core.Logic.{◌⊎◌, inl, inr}
use mathlib.Core.List.{List, [], ◌∷◌, ◌++◌}
use mathlib.Core.Option.{some}
use lib.ListN.{length, get_or}
use Rattle.language.specs.Grammar.{Grammar, at}
use Rattle.language.proofs.GrammarLaws.{not_there}
use Rattle.language.specs.Sentence.{In}
use Rattle.leftcorner.specs.Table.{KernelLine, K}
use Rattle.build_states.specs.States.{Kernel, item_of, dot_of}
use Rattle.build_states.specs.States as lalr
use Rattle.build_book.specs.Built.{lines_of, all_lines, items}
use Rattle.memory.specs.Memory.{state_at, item_at, dot_at}
use Rattle.build_kernels.specs.Discovered.{first_line, HoldsSets}

at_either : {A : Type 0} {x : A} (l m : List A) (n : ℕ) → at (l ++ m) n ≡ some x → ((n < length l) × (at l n ≡ some x)) ⊎ ((d : ℕ) × (n ≡ length l + d) × (at m d ≡ some x))
at_either [] m n e = inr (n, omega arith, e)
at_either (y ∷ l) m zero e = inl (omega arith, e)
at_either {A} {x} (y ∷ l) m (suc n) e = go (at_either l m n e)
  where
    go : ((n < length l) × (at l n ≡ some x)) ⊎ ((d : ℕ) × (n ≡ length l + d) × (at m d ≡ some x))
        → ((suc n < suc (length l)) × (at l n ≡ some x)) ⊎ ((d : ℕ) × (suc n ≡ suc (length l) + d) × (at m d ≡ some x))
    go (inl h) = inl (omega (arith, h.0), h.1)
    go (inr h) = inr (h.0, omega (arith, h.1), h.2)

module _ (g : Grammar) (F : List ℕ → ℕ → ℕ → Type 0) (F? : (β : List ℕ) (d c : ℕ) → Dec (F β d c)) (first-codes : List ℕ)
    (F-in : (β : List ℕ) (d c : ℕ) → F β d c → (c ≡ d) ⊎ In c first-codes) where
  abbrev lines_in : ℕ → Kernel → List KernelLine
  lines_in q k = lines_of g F F? first-codes F-in q k

  abbrev lines_from : ℕ → List Kernel → List KernelLine
  lines_from a ks = all_lines g F F? first-codes F-in a ks

  lines_length : (q : ℕ) (k : Kernel) → length (lines_in q k) ≡ length k
  lines_length q [] = refl
  lines_length q (x ∷ k) = ap suc (lines_length q k)

  lines_at : (q : ℕ) (k : Kernel) (l p i n : ℕ) (σ : List ℕ) → at (lines_in q k) l ≡ some (K p i n σ) → (l < length k) × (q ≡ p) × (item_of (get_or k l 0) ≡ i) × (dot_of (get_or k l 0) ≡ n)
  lines_at q [] l p i n σ e = not_there e
  lines_at q (x ∷ k) zero p i n σ e = (omega arith, let a : q ≡ p = cc in a, let b : item_of x ≡ i = cc in b, let c : dot_of x ≡ n = cc in c)
  lines_at q (x ∷ k) (suc l) p i n σ e = let r = lines_at q k l p i n σ e in (omega (arith, r.0), r.1, r.2, r.3)

  -- line l is that of a kernel set's number
  record Stands (a : ℕ) (ks : List Kernel) (l q i n : ℕ) : Type 0 where
    set : ℕ
    place : ℕ
    low : set < length ks
    within : place < length (get_or ks set [])
    line : l ≡ first_line ks set + place
    state : a + set ≡ q
    item : item_of (get_or (get_or ks set []) place 0) ≡ i
    dot : dot_of (get_or (get_or ks set []) place 0) ≡ n

  all_at : (a : ℕ) (ks : List Kernel) (l q i n : ℕ) (σ : List ℕ) → at (lines_from a ks) l ≡ some (K q i n σ) → Stands a ks l q i n
  all_at a [] l q i n σ e = not_there e
  all_at a (k ∷ ks) l q i n σ e = go (at_either (lines_in a k) (lines_from (suc a) ks) l e) (λ d h. all_at (suc a) ks d q i n σ h)
    where
      go : ((l < length (lines_in a k)) × (at (lines_in a k) l ≡ some (K q i n σ))) ⊎ ((d : ℕ) × (l ≡ length (lines_in a k) + d) × (at (lines_from (suc a) ks) d ≡ some (K q i n σ)))
          → ((d : ℕ) → at (lines_from (suc a) ks) d ≡ some (K q i n σ) → Stands (suc a) ks d q i n) → Stands a (k ∷ ks) l q i n
      go (inl h) rec =
          let r = lines_at a k l q i n σ h.1 in
          record { set = 0; place = l; low = omega arith; within = r.0; line = omega arith; state = omega (arith, r.1); item = r.2; dot = r.3 }
      go (inr (d, el, ed)) rec =
          let r = rec d ed in
          record {
            set = suc r.set;
            place = r.place;
            low = omega (arith, r.low);
            within = r.within;
            line = omega (arith, el, lines_length a k, r.line);
            state = omega (arith, r.state);
            item = r.item;
            dot = r.dot;
          }

  -- each line's state, item and dot
  pub item_line : {kernels starts : List ℕ} → HoldsSets kernels starts (lalr.states g) → (l q i n : ℕ) (σ : List ℕ) → at (items g F F? first-codes F-in).kernels l ≡ some (K q i n σ)
      → (state_at kernels l ≡ q) × (item_at kernels l ≡ i) × (dot_at kernels l ≡ n)
  unfolding items
  item_line {kernels} H l q i n σ e =
      let s = all_at 1 (lalr.states g) l q i n σ e in (
        ap (state_at kernels) s.line ∙ H.line_state s.set s.place s.low s.within ∙ omega (arith, s.state),
        ap (item_at kernels) s.line ∙ H.line_item s.set s.place s.low s.within ∙ s.item,
        ap (dot_at kernels) s.line ∙ H.line_dot s.set s.place s.low s.within ∙ s.dot,
      )
