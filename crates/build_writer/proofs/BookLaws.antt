-- The whole book, in a slice that was zeros.
use Prim.Native.Nat.{ℕ, zero, suc, ◌-◌, ◌≤◌, min}
use mathlib.Core.Path.{◌≡◌, refl, sym, ap, ap₂, ◌∙◌}
use mathlib.Core.List.{List, [], ◌∷◌, ◌++◌, map}
use native.Mathlib.Decide.{dec_le}
use native.Mathlib.Omega.{arith}
use lib.ListN.{length, take, set, replicate, length-take, length-map}
use lib.Seq.{sets, take_all, take-nil, take-take}
use Rattle.build_states.specs.States.{range}
use Rattle.build_states.proofs.Lists.{range_length}
use Rattle.build_book.specs.Built.{actions_of}
use Rattle.build_book.specs.Text.{line, entry_text, kernel_text, action_text, table_text}
use Rattle.build_writer.specs.MemoryTable.{entry_in, kernel_in, action_in, memory_table, memory_text}
use Rattle.build_writer.specs.Sink.{Wrote, in_room}

-- ---- stores into zeros

zeros : {n m : ℕ} → n ≡ m → replicate {A = ℕ} n 0 ≡ replicate m 0
zeros e = ap (λ (k : ℕ). replicate k 0) e

sets_cons : (a l : List ℕ) (x i : ℕ) → sets (x ∷ l) (suc i) a ≡ x ∷ sets l i a
sets_cons [] l x i = refl
sets_cons (y ∷ a) l x i = sets_cons a (set l i y) x (suc i)

sets_none : (a : List ℕ) (i : ℕ) → sets [] i a ≡ []
sets_none [] i = refl
sets_none (y ∷ a) i = sets_none a (suc i)

filled : (a : List ℕ) (room : ℕ) → sets (replicate room 0) 0 a ≡ take room a ++ replicate (room - length a) 0
filled [] room = let e : room ≡ room - 0 = omega arith in zeros e ∙ ap (λ (l : List ℕ). l ++ replicate (room - 0) 0) (sym (take-nil room))
filled (x ∷ a) zero = let e : 0 ≡ 0 - suc (length a) = omega arith in sets_none (x ∷ a) 0 ∙ zeros e
filled (x ∷ a) (suc n) =
    let e : n - length a ≡ suc n - suc (length a) = omega arith in
    sets_cons a (replicate n 0) x 0 ∙ ap (λ (l : List ℕ). x ∷ l) (filled a n ∙ ap (λ (l : List ℕ). take n a ++ l) (zeros e))

module _ (a : List ℕ) (room limit : ℕ) where
  take_both : take room (take limit a) ≡ take (min room limit) a
  take_both = go (dec_le room limit)
    where
      go : Dec (room ≤ limit) → take room (take limit a) ≡ take (min room limit) a
      go (yes h) = let e : room ≡ min room limit = omega arith in take-take room limit a h ∙ ap (λ (n : ℕ). take n a) e
      go (no f) =
          let e : limit ≡ min room limit = omega arith in
          take_all room (take limit a) (omega (arith, length-take limit a)) ∙ ap (λ (n : ℕ). take n a) e

  filled_below : sets (replicate room 0) 0 (take limit a) ≡ take (min room limit) a ++ replicate (room - min (length a) limit) 0
  filled_below =
      let e : room - length (take limit a) ≡ room - min (length a) limit = omega (arith, length-take limit a) in
      filled (take limit a) room ∙ ap₂ (λ (x y : List ℕ). x ++ y) take_both (zeros e)

-- ---- the book

-- a text written to zeros
pub written : {l a m : List ℕ} {j : ℕ} → l ≡ replicate (length l) 0 → Wrote l 0 a m j → (j ≡ min (length a) 65537) × (m ≡ in_room (length l) a)
unfolding in_room
written {l} {a} {m} {j} z w =
    (omega (arith, w.next), w.bytes ∙ (ap (λ (x : List ℕ). sets x 0 (take 65537 a)) z ∙ filled_below a (length l) 65537))

module _ (items entries kernels lookaheads kinds values gotos : List ℕ) (rules strings lines states codes : ℕ) where
  -- the first line and the blocks
  pub blocks_text : line 84 (states ∷ strings ∷ []) ++ (entry_text (map (entry_in items entries rules) (range 1 strings))
      ++ (kernel_text (map (kernel_in kernels lookaheads codes) (range 0 lines)) ++ action_text (actions_of (action_in kinds values gotos) (range 1 states))))
      ≡ memory_text items entries kernels lookaheads kinds values gotos rules strings lines states codes
  unfolding memory_table table_text
  blocks_text =
      let e : strings ≡ length (map (entry_in items entries rules) (range 1 strings)) = sym (length-map (range 1 strings) (entry_in items entries rules) ∙ range_length 1 strings) in
      ap (λ (n : ℕ). line 84 (states ∷ n ∷ []) ++ (entry_text (map (entry_in items entries rules) (range 1 strings))
      ++ (kernel_text (map (kernel_in kernels lookaheads codes) (range 0 lines)) ++ action_text (actions_of (action_in kinds values gotos) (range 1 states))))) e
