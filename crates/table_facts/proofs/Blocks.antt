-- What holds of every block of lines that is read.
use Prim.Native.Nat.{ℕ, zero, suc, ◌+◌, ◌≤◌, ◌<◌}
use mathlib.Core.Path.{◌≡◌, refl, sym, ap, subst, ◌∙◌}
use mathlib.Core.Logic.{◌⊎◌, inl, inr}
use mathlib.Core.List.{List, [], ◌∷◌, ◌++◌}
use mathlib.Core.Option.{some}
use native.Mathlib.Decide.{ℕ_discrete}
use native.Mathlib.Omega.{arith}
use lib.ListN.{length, length-append}
use Rattle.language.specs.Grammar.{at}
use Rattle.language.specs.Sentence.{In, here, there}
use Rattle.leftcorner.proofs.ReadOff.{clash}
use Rattle.table_lines.specs.Block.{Outcome, takes, stops, refuses, read, refused, on_outcome, lines_from}
use Rattle.table_lines.proofs.ListLaws.{at_last, at_front}

-- ---- how a block ends: by its number of lines, or where there is no line of it
module _ {A : Type 0} (next : ℕ → List A → Outcome A) (onward : (at : ℕ) (l : List A) (x : A) (past : ℕ) → next at l ≡ takes x past → at < past) where
  abbrev Ended : ℕ → ℕ → List A → List A → ℕ → Type 0
  Ended k at l m end = ((length m ≡ length l + k) × (at + k ≤ end)) ⊎ (next end m ≡ stops)

  pub block_ends : (k at : ℕ) (l : List A) {m : List A} {end : ℕ} → lines_from k next at l ≡ read m end → Ended k at l m end
  unfolding lines_from
  block_ends zero at l {m} {end} e = let p : l ≡ m = cc in let q : at ≡ end = cc in inl (omega (arith, ap length p), omega (arith, q))
  block_ends (suc k) at l {m} {end} e = go (next at l) refl e (λ x past. block_ends k past (l ++ x ∷ []))
    where
      go : (o : Outcome A) → next at l ≡ o → on_outcome o (λ x past. lines_from k next past (l ++ x ∷ [])) (read l at) refused ≡ read m end
          → ((x : A) (past : ℕ) → lines_from k next past (l ++ x ∷ []) ≡ read m end → Ended k past (l ++ x ∷ []) m end) → Ended (suc k) at l m end
      go (takes x past) n e f = later (f x past e)
        where
          later : Ended k past (l ++ x ∷ []) m end → Ended (suc k) at l m end
          later (inl h) = inl (omega (arith, h.0, length-append l (x ∷ [])), omega (arith, h.1, onward at l x past n))
          later (inr h) = inr h
      go stops n e f = let p : l ≡ m = cc in let q : at ≡ end = cc in inr (subst (λ (i : ℕ). next i m ≡ stops) q (subst (λ (r : List A). next at r ≡ stops) p n))
      go (refuses why) n e f = clash cc

-- ---- what holds of each line, and keys that no two lines share
module _ {A : Type 0} where
  pub record Each (P : A → Type 0) (l : List A) : Type 0 where
    pub each : (k : ℕ) {x : A} → at l k ≡ some x → P x

  pub record Once {K : Type 0} (key : A → K) (l : List A) : Type 0 where
    pub once : (j k : ℕ) {x y : A} → at l j ≡ some x → at l k ≡ some y → key x ≡ key y → j ≡ k

  -- a line stands at the last place, or where it stood before
  abbrev Placed : List A → A → ℕ → A → Type 0
  Placed l x k y = ((k ≡ length l) × (x ≡ y)) ⊎ (at l k ≡ some y)

  placed : (l : List A) (x : A) (k : ℕ) {y : A} → at (l ++ x ∷ []) k ≡ some y → Placed l x k y
  placed l x k {y} e = go (ℕ_discrete k (length l))
    where
      go : Dec (k ≡ length l) → Placed l x k y
      go (yes q) = let a : some x ≡ some y = sym (at_last l x) ∙ (ap (at (l ++ x ∷ [])) (sym q) ∙ e) in inl (q, cc)
      go (no f) = inr (sym (at_front l x k f) ∙ e)

  pub each_none : (P : A → Type 0) → Each P []
  each_none P = record { each = λ k e. clash cc }

  pub each_more : (P : A → Type 0) {l : List A} {x : A} → Each P l → P x → Each P (l ++ x ∷ [])
  each_more P {l} {x} h p = record { each = λ k {x = y} e. go k y (placed l x k e) }
    where
      go : (k : ℕ) (y : A) → Placed l x k y → P y
      go k y (inl q) = subst P q.1 p
      go k y (inr q) = h.each k q

  pub each_in : {P : A → Type 0} {x : A} {l : List A} → Each P l → In x l → P x
  each_in h here = h.each 0 refl
  each_in h (there m) = each_in (record { each = λ k e. h.each (suc k) e }) m

  module _ {K : Type 0} (key : A → K) where
    pub once_none : Once key []
    once_none = record { once = λ j k e f q. clash cc }

    pub once_more : {l : List A} {x : A} → Once key l → Each (λ y. key y ≡ key x → ⊥) l → Once key (l ++ x ∷ [])
    once_more {l} {x} h new = record { once = λ j k {x = u} {y = v} e f q. go j k u v (placed l x j e) (placed l x k f) q }
      where
        go : (j k : ℕ) (u v : A) → Placed l x j u → Placed l x k v → key u ≡ key v → j ≡ k
        go j k u v (inl a) (inl b) q = omega (arith, a.0, b.0)
        go j k u v (inl a) (inr b) q = absurd (new.each k b (sym q ∙ ap key (sym a.1)))
        go j k u v (inr a) (inl b) q = absurd (new.each j a (q ∙ ap key (sym b.1)))
        go j k u v (inr a) (inr b) q = h.once j k a b q
